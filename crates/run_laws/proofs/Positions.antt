-- A queue that goes takes positions from sessions, and nothing else.
use Rattle.std.proofs.Common.{◌≡◌, ◌+◌, ℕ, Bool, true, false, not, List, [], ◌∷◌, Option, Some, None, refl, sym, ap, ◌∙◌, subst, arith, length}
use Rattle.std.specs.Prelude.{slice_get, filter, map, option_map, if◌then◌else◌}
use Rattle.std.specs.List.{list_any}
use Rattle.std.specs.Str.{bytes_eq}
use Rattle.std.proofs.Math.ListN.{length-map}
use Rattle.std.proofs.lemmas.Option.{slice_get-map, none-some}
use Rattle.aq_base.specs.declared.DbId.{DbId}
use Rattle.queue_rows.specs.Rows.{exception_name}
use Rattle.queue_rows.specs.Session.{Session, is_same_db, marks_slot, not_standing_in, without_positions, after_drop, standing_after}
use Rattle.queue_rows.specs.declared.tables.Tables.{Tables}
use Rattle.queue_rows.specs.declared.session.Position.{Position}
use Rattle.queue_rows.specs.declared.change.Change.{Change}
use Rattle.queue_rows.specs.declared.change.Change.TheVariants as changes
use Rattle.valid_laws.specs.PendingLaws.{count_passed}
use Rattle.valid_laws.proofs.Framing.{room_less}
use Rattle.statement_laws.specs.StandingLaws.{StandsIn, AreTwo, count_held, AreStanding}
use Rattle.history_laws.specs.ValidWorld.{IsRight}
use Rattle.history_laws.specs.LocalMarks.{MarksAreLocal}

-- the session stands elsewhere, and is the same else
abbrev pub standing_at : Session → List Position → Session
standing_at s positions = record s { positions = positions }

-- what a session was before
pub record WasAt (ss : List Session) (j : ℕ) (y : Session) : Type 0 where
  pub before : Session
  pub positions : List Position
  pub there : slice_get ss j ≡ Some before
  pub now : y ≡ record before { positions = positions }

was_self : (ss : List Session) (j : ℕ) (y : Session) → slice_get ss j ≡ Some y → WasAt ss j y
was_self ss j y e = record { before = y; positions = y.positions; there = e; now = refl }

left_at : Session → List ℕ → Bool → List Position
left_at s queue true = filter (λ p. not (bytes_eq p.queue queue)) s.positions
left_at s queue false = s.positions

left_is : (s : Session) (queue : List ℕ) (b : Bool) → (if b then record s { positions = filter (λ p. not (bytes_eq p.queue queue)) s.positions } else s) ≡ record s { positions = left_at s queue b }
unfolding left_at
left_is s queue true = refl
left_is s queue false = refl

was_map : (db : DbId) (queue : List ℕ) (ss : List Session) (j : ℕ) (y : Session) (o : Option Session) → slice_get ss j ≡ o → option_map (not_standing_in db queue) o ≡ Some y → WasAt ss j y
was_map db queue ss j y None e h = absurd (none-some y h)
was_map db queue ss j y (Some s) e h =
    let same : not_standing_in db queue s ≡ y = cc in record { before = s; positions = left_at s queue (is_same_db s.at db); there = e; now = sym same ∙ left_is s queue (is_same_db s.at db) }

was_without : (db : DbId) (queue : List ℕ) (ss : List Session) (j : ℕ) (y : Session) → slice_get (without_positions db queue ss) j ≡ Some y → WasAt ss j y
was_without db queue ss j y h = was_map db queue ss j y (slice_get ss j) refl (sym (slice_get-map (not_standing_in db queue) ss j) ∙ h)

was_drop : (db : DbId) (ss : List Session) (c : Change) (j : ℕ) (y : Session) → slice_get (after_drop db ss c) j ≡ Some y → WasAt ss j y
was_drop db ss (changes.DropQueue name) j y h = was_without db name ss j y h
was_drop db ss (changes.DropTable name) j y h = was_without db (exception_name name) ss j y h
was_drop db ss _ j y h = was_self ss j y h

was_trans : (ss : List Session) (j : ℕ) (y x : Session) (positions : List Position) → y ≡ record x { positions = positions } → WasAt ss j x → WasAt ss j y
was_trans ss j y x positions e k = record { before = k.before; positions = positions; there = k.there; now = e ∙ ap {A = Session} (λ z. record z { positions = positions }) k.now }

standing-cons : (db : DbId) (c : Change) (cs : List Change) (ss : List Session) → standing_after db (c ∷ cs) ss ≡ standing_after db cs (after_drop db ss c)
unfolding standing_after
standing-cons db c cs ss = refl

standing-nil : (db : DbId) (ss : List Session) → standing_after db [] ss ≡ ss
unfolding standing_after
standing-nil db ss = refl

pub was_at : (db : DbId) (cs : List Change) (ss : List Session) (j : ℕ) (y : Session) → slice_get (standing_after db cs ss) j ≡ Some y → WasAt ss j y
was_at db [] ss j y h = was_self ss j y (ap (λ xs. slice_get xs j) (sym (standing-nil db ss)) ∙ h)
was_at db (c ∷ cs) ss j y h =
    let k = was_at db cs (after_drop db ss c) j y (ap (λ xs. slice_get xs j) (sym (standing-cons db c cs ss)) ∙ h) in
    was_trans ss j y k.before k.positions k.now (was_drop db ss c j k.before k.there)

-- ---- how many

count_one : (db other : DbId) (queue : List ℕ) (s : Session) (n : ℕ) (b : Bool) → (if is_same_db (if b then record s { positions = filter (λ p. not (bytes_eq p.queue queue)) s.positions } else s).at other
    then count_passed n (if b then record s { positions = filter (λ p. not (bytes_eq p.queue queue)) s.positions } else s).pending else 0) ≡ (if is_same_db s.at other then count_passed n s.pending else 0)
count_one db other queue s n true = refl
count_one db other queue s n false = refl

count_map : (db other : DbId) (queue : List ℕ) (ss : List Session) (n : ℕ) → count_held other (map (not_standing_in db queue) ss) n ≡ count_held other ss n
count_map db other queue [] n = refl
count_map db other queue (s ∷ ss) n =
    ap (λ k. k + count_held other (map (not_standing_in db queue) ss) n) (count_one db other queue s n (is_same_db s.at db)) ∙ ap (λ k. (if is_same_db s.at other then count_passed n s.pending else 0) + k) (count_map db other queue ss n)

count_drop : (db other : DbId) (ss : List Session) (c : Change) (n : ℕ) → count_held other (after_drop db ss c) n ≡ count_held other ss n
count_drop db other ss (changes.DropQueue name) n = count_map db other name ss n
count_drop db other ss (changes.DropTable name) n = count_map db other (exception_name name) ss n
count_drop db other ss _ n = refl

pub count_standing : (db other : DbId) (cs : List Change) (ss : List Session) (n : ℕ) → count_held other (standing_after db cs ss) n ≡ count_held other ss n
count_standing db other [] ss n = ap (λ xs. count_held other xs n) (standing-nil db ss)
count_standing db other (c ∷ cs) ss n = ap (λ xs. count_held other xs n) (standing-cons db c cs ss) ∙ count_standing db other cs (after_drop db ss c) n ∙ count_drop db other ss c n

length-drop_one : (db : DbId) (ss : List Session) (c : Change) → length (after_drop db ss c) ≡ length ss
length-drop_one db ss (changes.DropQueue name) = length-map ss (not_standing_in db name)
length-drop_one db ss (changes.DropTable name) = length-map ss (not_standing_in db (exception_name name))
length-drop_one db ss _ = refl

pub length-standing : (db : DbId) (cs : List Change) (ss : List Session) → length (standing_after db cs ss) ≡ length ss
length-standing db [] ss = ap length (standing-nil db ss)
length-standing db (c ∷ cs) ss = ap length (standing-cons db c cs ss) ∙ length-standing db cs (after_drop db ss c) ∙ length-drop_one db ss c

-- ---- what they hold stands

stands_at : (t : Tables) (next moment : ℕ) (s : Session) (positions : List Position) → StandsIn t next moment s → StandsIn t next moment (record s { positions = positions })
stands_at t next moment s positions k = record { right = k.right; apart = k.apart; given = k.given; agree = record { removed = k.agree.removed }; marked = k.marked }

two_at : (a b : Session) (p q : List Position) → AreTwo a b → AreTwo (record a { positions = p }) (record b { positions = q })
two_at a b p q k = record { slots = k.slots; ids = k.ids }

module _ (t : Tables) (db other : DbId) (next moment : ℕ) (ss : List Session) (cs : List Change) where
  pub dropped_standing : AreStanding t other next moment ss → AreStanding t other next moment (standing_after db cs ss)
  dropped_standing k = record {
    each = λ i y e f. let x = was_at db cs ss i y e in
        subst (StandsIn t next moment) (sym x.now) (stands_at t next moment x.before x.positions (k.each i x.before x.there (ap (λ z. is_same_db z.at other) (sym x.now) ∙ f)));
    two = λ i j a b ea eb fa fb d.
        let x = was_at db cs ss i a ea in
        let y = was_at db cs ss j b eb in
        subst (λ z. AreTwo z b) (sym x.now) (subst (AreTwo (record x.before { positions = x.positions })) (sym y.now)
        (two_at x.before y.before x.positions y.positions (k.two i j x.before y.before x.there y.there (ap (λ z. is_same_db z.at other) (sym x.now) ∙ fa) (ap (λ z. is_same_db z.at other) (sym y.now) ∙ fb) d)));
    room = room_less t (count_held other ss) (count_held other (standing_after db cs ss)) (λ n. let e = count_standing db other cs ss n in omega (arith, e)) k.room;
    up = k.up;
  }

  pub dropped_local : MarksAreLocal t other ss → MarksAreLocal t other (standing_after db cs ss)
  dropped_local k i y e f id slot h = let x = was_at db cs ss i y e in k i x.before x.there (ap (λ z. is_same_db z.at other) (sym x.now) ∙ f) id slot (ap (λ z. list_any (marks_slot id slot) z.marks) (sym x.now) ∙ h)

  pub dropped_right : IsRight t other next moment ss → IsRight t other next moment (standing_after db cs ss)
  dropped_right r = record { valid = r.valid; fields = r.fields; latest = r.latest; standing = dropped_standing r.standing; most = r.most }
