-- Queues go, and no session stands in them any more.
use Rattle.std.proofs.Common.{◌≡◌, ℕ, zero, suc, ◌+◌, List, [], ◌∷◌, Bool, true, false, Option, Some, None, refl, sym, ap, ◌∙◌, arith, length}
use Rattle.std.specs.Prelude.{map, not, filter, slice_get, fold, if◌then◌else◌}
use Rattle.std.specs.Str.{bytes_eq}
use Rattle.aq_base.specs.declared.DbId.{DbId}
use Rattle.queue_rows.specs.Session.{Session, is_same_db, not_standing_in, without_positions, after_drop, standing_after}
use Rattle.queue_rows.specs.declared.change.Change.{Change}
use Rattle.queue_rows.specs.declared.change.Change.TheVariants.{DropTable, DropQueue}
use Rattle.session_registry.specs.Locks.{marks_at, shown_from, shown}
use Rattle.session_registry.specs.Sessions.{is_of, AreMarksOwned, changed_in, changed_at, gone_in, left_by}
use Rattle.session_registry.specs.declared.locks.Locks.{Locks}

-- ---- the queues that changes take away

leaving : (db : DbId) (cs : List Change) (ss : List Session) → fold (after_drop db) ss cs ≡ left_by db (gone_in cs) ss
leaving db [] ss = refl
leaving db (DropQueue name ∷ cs) ss = leaving db cs (after_drop db ss (DropQueue name))
leaving db (DropTable name ∷ cs) ss = leaving db cs (after_drop db ss (DropTable name))
leaving db (_ ∷ cs) ss = leaving db cs ss

pub standing_is : (db : DbId) (cs : List Change) (ss : List Session) → standing_after db cs ss ≡ left_by db (gone_in cs) ss
unfolding standing_after
standing_is db cs ss = leaving db cs ss

-- ---- the first sessions leave a queue

abbrev pub first_mapped : ℕ → (Session → Session) → List Session → List Session
first_mapped zero f ss = ss
first_mapped (suc n) f [] = []
first_mapped (suc n) f (s ∷ more) = f s ∷ first_mapped n f more

changed_behind : (f : Session → Session) (n : ℕ) (s : Session) (more : List Session) (o : Option Session) → changed_in (suc n) f (s ∷ more) o ≡ s ∷ changed_in n f more o
changed_behind f n s more None = refl
changed_behind f n s more (Some t) = refl

next_mapped : (f : Session → Session) (n : ℕ) (ss : List Session) → changed_at n f (first_mapped n f ss) ≡ first_mapped (suc n) f ss
next_mapped f zero [] = refl
next_mapped f zero (s ∷ more) = refl
next_mapped f (suc n) [] = refl
next_mapped f (suc n) (s ∷ more) =
    changed_behind f n (f s) (first_mapped n f more) (slice_get (first_mapped n f more) n) ∙ ap (λ rest. f s ∷ rest) (next_mapped f n more)

pub one_more : (f : Session → Session) (n : ℕ) (ss : List Session) → changed_at n f (first_mapped n f ss) ≡ first_mapped (n + 1) f ss
one_more f n ss = let e : suc n ≡ n + 1 = omega arith in next_mapped f n ss ∙ ap (λ k. first_mapped k f ss) e

pub all_mapped : (f : Session → Session) (ss : List Session) → first_mapped (length ss) f ss ≡ map f ss
all_mapped f [] = refl
all_mapped f (s ∷ more) = ap (λ rest. f s ∷ rest) (all_mapped f more)

-- ---- marks stay

here_if : (db : DbId) (queue : List ℕ) (s : Session) (b : Bool) → (if b then record s { positions = filter (λ p. not (bytes_eq p.queue queue)) s.positions } else s).at ≡ s.at
here_if db queue s true = refl
here_if db queue s false = refl

stays_at : (db : DbId) (queue : List ℕ) (s : Session) → (not_standing_in db queue s).at ≡ s.at
stays_at db queue s = here_if db queue s (is_same_db s.at db)

marked_if : (db : DbId) (queue : List ℕ) (n : ℕ) (l : Locks) (s : Session) (b : Bool)
    → (let t = (if b then record s { positions = filter (λ p. not (bytes_eq p.queue queue)) s.positions } else s) in record t { marks = marks_at t.at n l })
    ≡ (let t = record s { marks = marks_at s.at n l } in if b then record t { positions = filter (λ p. not (bytes_eq p.queue queue)) t.positions } else t)
marked_if db queue n l s true = refl
marked_if db queue n l s false = refl

gone_from : (db : DbId) (queue : List ℕ) (n : ℕ) (l : Locks) (ss : List Session) → shown_from n l (without_positions db queue ss) ≡ without_positions db queue (shown_from n l ss)
gone_from db queue n l [] = refl
gone_from db queue n l (s ∷ more) =
    ap (λ t. t ∷ shown_from (n + 1) l (without_positions db queue more)) (marked_if db queue n l s (is_same_db s.at db))
    ∙ ap (λ rest. not_standing_in db queue (record s { marks = marks_at s.at n l }) ∷ rest) (gone_from db queue (n + 1) l more)

-- the sessions leave queues, with their marks or without
pub left-shown : (db : DbId) (queues : List (List ℕ)) (l : Locks) (ss : List Session) → shown l (left_by db queues ss) ≡ left_by db queues (shown l ss)
left-shown db [] l ss = refl
left-shown db (queue ∷ more) l ss = left-shown db more l (without_positions db queue ss) ∙ ap (left_by db more) (gone_from db queue 0 l ss)

is_of_mapped : (db : DbId) (f : Session → Session) (ss : List Session) (i : ℕ) → ((s : Session) → (f s).at ≡ s.at) → is_of db (slice_get (map f ss) i) ≡ is_of db (slice_get ss i)
is_of_mapped db f [] i at = refl
is_of_mapped db f (s ∷ more) zero at = ap (λ a. is_same_db a db) (at s)
is_of_mapped db f (s ∷ more) (suc i) at = is_of_mapped db f more i at

owned-gone : (db : DbId) (queue : List ℕ) (l : Locks) (ss : List Session) → AreMarksOwned l ss → AreMarksOwned l (without_positions db queue ss)
owned-gone db queue l ss owned = λ e i none. owned e i (sym (is_of_mapped e (not_standing_in db queue) ss i (stays_at db queue)) ∙ none)

pub owned-left : (db : DbId) (queues : List (List ℕ)) (l : Locks) (ss : List Session) → AreMarksOwned l ss → AreMarksOwned l (left_by db queues ss)
owned-left db [] l ss owned = owned
owned-left db (queue ∷ more) l ss owned = owned-left db more l (without_positions db queue ss) (owned-gone db queue l ss owned)
