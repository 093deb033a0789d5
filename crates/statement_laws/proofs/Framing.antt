-- What sessions hold stands behind a commit that leaves it untouched.
use Rattle.std.proofs.Common.{◌≡◌, ◌≤◌, ◌<◌, ◌+◌, ◌⊎◌, inl, inr, ℕ, zero, suc, List, [], ◌∷◌, Bool, true, false, refl, sym, ap, ◌∙◌, subst, arith, Some, ◌==◌, ◌&&◌}
use Rattle.std.specs.Prelude.{find, slice_get, slice_set, get_or, length, if◌then◌else◌}
use Rattle.std.specs.List.{list_any}
use Rattle.std.specs.Str.{bytes_eq}
use Rattle.std.proofs.lemmas.Bool.{eqb-true, eqb-false, eq-eqb, ne_eqb, and_parts, and_from, or_left, or_right, or_cases, false≢true}
use Rattle.std.proofs.lemmas.Option.{none-some}
use Rattle.aq_base.specs.declared.DbId.{DbId}
use Rattle.queue_rows.specs.Rows.{find_table}
use Rattle.queue_rows.specs.Tables.{after_all, after, lane_of}
use Rattle.queue_rows.specs.Settling.{is_exception}
use Rattle.queue_rows.specs.Session.{Session, is_same_db, marks_slot}
use Rattle.queue_rows.specs.World.{committed_tables}
use Rattle.queue_rows.specs.declared.tables.Tables.{Tables}
use Rattle.queue_rows.specs.declared.rows.MsgRow.{MsgRow}
use Rattle.queue_rows.specs.declared.session.Pending.{Pending}
use Rattle.queue_rows.specs.declared.session.Pending.TheVariants.{Add, Remove}
use Rattle.queue_rows.specs.declared.change.Change.{Change}
use Rattle.row_laws.proofs.Latest.{at_latest}
use Rattle.valid_laws.specs.Touching.{is_of_slot, puts_in}
use Rattle.valid_laws.specs.PendingLaws.{IsAdditionRight, IsPendingRight, count_passed}
use Rattle.valid_laws.proofs.Lowering.{le_trans_z}
use Rattle.valid_laws.proofs.Going.{GoesWell, after_goes}
use Rattle.statement_laws.specs.Sessions.{is_removal_of, is_addition_of, MarksAgree}
use Rattle.statement_laws.specs.StandingLaws.{StandsIn, count_held, AreStanding}

-- ---- lists

module _ {X : Type 0} where
  pub any_at : (p : X → Bool) (xs : List X) (k : ℕ) (d : X) → k < length xs → p (get_or xs k d) ≡ true → list_any p xs ≡ true
  any_at p [] k d lt e = absurd (let no : k < 0 = lt in omega arith)
  any_at p (x ∷ xs) zero d lt e = or_left (p x) (list_any p xs) e
  any_at p (x ∷ xs) (suc k) d lt e = or_right (p x) (list_any p xs) (any_at p xs k d (let h : suc k < suc (length xs) = lt in omega (arith, h)) e)

  any_more : (p q : X → Bool) → ((x : X) → p x ≡ true → q x ≡ true) → (xs : List X) → list_any p xs ≡ true → list_any q xs ≡ true
  any_more p q k [] h = absurd (false≢true h)
  any_more p q k (x ∷ xs) h = by (or_cases (p x) (list_any p xs) h) (any_more p q k xs)
    where
      by : (p x ≡ true) ⊎ (list_any p xs ≡ true) → (list_any p xs ≡ true → list_any q xs ≡ true) → list_any q (x ∷ xs) ≡ true
      by (inl e) ih = or_left (q x) (list_any q xs) (k x e)
      by (inr e) ih = or_right (q x) (list_any q xs) (ih e)

  empty_if : (xs : List X) → (length xs == 0) ≡ true → xs ≡ []
  empty_if [] e = refl
  empty_if (x ∷ xs) e = absurd (let no : suc (length xs) ≡ 0 = eqb-true (length (x ∷ xs)) 0 e in omega (arith, no))

-- a slot that is removed is marked
pub removed_marked : (s : Session) (id slot : ℕ) → MarksAgree s → list_any (is_removal_of id slot) s.pending ≡ true → list_any (marks_slot id slot) s.marks ≡ true
removed_marked s id slot a h =
    any_more (λ mark. mark.removed && marks_slot id slot mark) (marks_slot id slot) (λ mark e. (and_parts mark.removed (marks_slot id slot mark) e).1) s.marks (a.removed id slot ∙ h)

-- ---- behind a commit

-- what a session has marked, and the ids of what it adds, are none that the changes name
pub record IsUntouched (cs : List Change) (s : Session) : Type 0 where
  pub slots : (id slot : ℕ) → list_any (marks_slot id slot) s.marks ≡ true → list_any (is_of_slot id slot) cs ≡ false
  pub ids : (id : ℕ) → list_any (is_addition_of id) s.pending ≡ true → list_any (puts_in id) cs ≡ false

module _ (t : Tables) (moment : ℕ) (cs : List Change) (g : GoesWell true (at_latest moment t) cs) where
  abbrev pub behind : Tables
  behind = after_all (at_latest moment t) cs

  addition_on : (m : MsgRow) → IsAdditionRight t moment m → list_any (puts_in m.id) cs ≡ false → IsAdditionRight (after_all (at_latest moment t) cs) moment m
  addition_on m k p =
      let x = g.lower m.queue k.queue k.queue_is in
      record {
        queue = x.row;
        table = k.table;
        new = g.new m.id k.new p;
        queue_is = x.row_is;
        table_is = ap (λ rows. find (λ r. bytes_eq r.name x.row.table) rows) g.tables ∙ ap (find_table t) x.table ∙ k.table_is;
        normal = ap is_exception x.kind ∙ k.normal;
        unmoved = k.unmoved;
        typed = k.typed;
        place = k.place;
        lane = λ before. le_trans_z x.row.lowest k.queue.lowest (lane_of m.place) x.lowest (k.lane before);
        props = k.props;
        recipients = k.recipients;
        names = k.names;
        untried = k.untried;
        entered = k.entered;
        id = k.id;
        id_within = k.id_within;
      }

  pending_on : (s : Session) → MarksAgree s → IsUntouched cs s → (p : Pending) → ((q : Pending → Bool) → q p ≡ true → list_any q s.pending ≡ true) → IsPendingRight t moment p → IsPendingRight (after_all (at_latest moment t) cs) moment p
  pending_on s a u (Add m) among k = addition_on m k (u.ids m.id (among (is_addition_of m.id) (eq-eqb m.id m.id refl)))
  pending_on s a u (Remove id slot) among k =
      g.spares refl id slot (u.slots id slot (removed_marked s id slot a (among (is_removal_of id slot) (and_from (id == id) (slot == slot) (eq-eqb id id refl) (eq-eqb slot slot refl))))) k

  pub stands_on : (next : ℕ) (s : Session) → StandsIn t next moment s → IsUntouched cs s → StandsIn (after_all (at_latest moment t) cs) next moment s
  stands_on next s k u = record {
    right = λ i d lt. pending_on s k.agree u (get_or s.pending i d) (λ q e. any_at q s.pending i d lt e) (k.right i d lt);
    apart = k.apart;
    given = k.given;
    agree = k.agree;
    marked = λ id slot m. g.spares refl id slot (u.slots id slot m) (k.marked id slot m);
  }

-- ---- the latest moment is not seen

addition_back : (t : Tables) (latest moment : ℕ) (m : MsgRow) → IsAdditionRight (at_latest latest t) moment m → IsAdditionRight t moment m
addition_back t latest moment m k = record {
  queue = k.queue;
  table = k.table;
  new = k.new;
  queue_is = k.queue_is;
  table_is = k.table_is;
  normal = k.normal;
  unmoved = k.unmoved;
  typed = k.typed;
  place = k.place;
  lane = k.lane;
  props = k.props;
  recipients = k.recipients;
  names = k.names;
  untried = k.untried;
  entered = k.entered;
  id = k.id;
  id_within = k.id_within;
}

pending_back : (t : Tables) (latest moment : ℕ) (p : Pending) → IsPendingRight (at_latest latest t) moment p → IsPendingRight t moment p
pending_back t latest moment (Add m) k = addition_back t latest moment m k
pending_back t latest moment (Remove id slot) k = k

standing_back : (t : Tables) (db : DbId) (latest next moment : ℕ) (sessions : List Session) → AreStanding (at_latest latest t) db next moment sessions → AreStanding t db next moment sessions
standing_back t db latest next moment sessions k = record {
  each = λ i s e f. let x = k.each i s e f in record {
    right = λ j d lt. pending_back t latest moment (get_or s.pending j d) (x.right j d lt);
    apart = x.apart;
    given = x.given;
    agree = x.agree;
    marked = x.marked;
  };
  two = k.two;
  room = record { lanes = k.room.lanes; groups = k.room.groups };
  up = k.up;
}

committed_by : (t : Tables) (db : DbId) (next moment : ℕ) (sessions : List Session) (cs : List Change) (b : Bool) → (length cs == 0) ≡ b → t.latest ≤ moment → GoesWell true (at_latest moment t) cs
    → AreStanding (after_all (at_latest moment t) cs) db next moment sessions → AreStanding (if b then t else after t (record { moment = moment; changes = cs })) db next moment sessions
committed_by t db next moment sessions cs true e le g k =
    standing_back t db moment next moment sessions (subst (λ ds. AreStanding (after_all (at_latest moment t) ds) db next moment sessions) (empty_if cs e) k)
committed_by t db next moment sessions cs false e le g k = subst (λ u. AreStanding u db next moment sessions) (sym (after_goes true t moment cs le g)) k

-- who stands behind the changes stands in the tables behind their commit
pub standing_committed : (t : Tables) (db : DbId) (next moment : ℕ) (sessions : List Session) (cs : List Change) → t.latest ≤ moment → GoesWell true (at_latest moment t) cs
    → AreStanding (after_all (at_latest moment t) cs) db next moment sessions → AreStanding (committed_tables t cs moment) db next moment sessions
standing_committed t db next moment sessions cs le g k = committed_by t db next moment sessions cs (length cs == 0) refl le g k

-- ---- one session among them

pub same_db : (a b db : DbId) → a ≡ b → is_same_db b db ≡ true → is_same_db a db ≡ true
same_db a b db e h = ap (λ x. is_same_db x db) e ∙ h

count_if : (db : DbId) (s : Session) (n : ℕ) → is_same_db s.at db ≡ true → (if is_same_db s.at db then count_passed n s.pending else 0) ≡ count_passed n s.pending
count_if db s n h = rw h refl

-- the count, when one session is replaced
pub count_set : (db : DbId) (sessions : List Session) (i : ℕ) (s behind : Session) (n : ℕ) → slice_get sessions i ≡ Some s → is_same_db s.at db ≡ true → is_same_db behind.at db ≡ true
    → count_held db (slice_set sessions i behind) n + count_passed n s.pending ≡ count_held db sessions n + count_passed n behind.pending
count_set db [] i s behind n e h k = absurd (none-some s e)
count_set db (x ∷ xs) zero s behind n e h k =
    let same : x ≡ s = (let f : Some x ≡ Some s = e in cc) in
    let a : (if is_same_db x.at db then count_passed n x.pending else 0) ≡ count_passed n s.pending = ap (λ y. if is_same_db y.at db then count_passed n y.pending else 0) same ∙ count_if db s n h in
    let b = count_if db behind n k in
    omega (arith, a, b)
count_set db (x ∷ xs) (suc i) s behind n e h k = let ih = count_set db xs i s behind n e h k in omega (arith, ih)

pub not_same : (i j : ℕ) → (i == j) ≡ false → (j == i) ≡ false
not_same i j e = ne_eqb j i (λ same. eqb-false i j e (sym same))
