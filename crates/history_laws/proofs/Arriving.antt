-- Arrivals of a history: each slot once at most, as a copy of its message.
use Rattle.std.proofs.Common.{◌≡◌, ◌≤◌, ◌⊎◌, inl, inr, ℕ, List, [], ◌∷◌, ◌++◌, true, refl, sym, ap, ◌∙◌, subst, arith, Option, Some, None, ◌==◌, ◌&&◌}
use Rattle.std.specs.Prelude.{map, count_by, is_some}
use Rattle.std.proofs.lemmas.Bool.{eq-eqb, and_from}
use Rattle.std.proofs.lemmas.Option.{none-some}
use Rattle.std.proofs.lemmas.List.{map-append, append_assoc}
use Rattle.aq_base.specs.declared.DbId.{DbId}
use Rattle.queue_rows.specs.World.{other_db}
use Rattle.queue_rows.specs.declared.tables.Tables.{Tables}
use Rattle.queue_rows.specs.declared.change.Change.{Change}
use Rattle.queue_rows.specs.declared.change.Change.TheVariants as changes
use Rattle.queue_rows.specs.declared.history.Entry.{Entry}
use Rattle.queue_rows.specs.declared.history.History.{History}
use Rattle.queue_rows.specs.declared.history.SlotRef.{SlotRef}
use Rattle.history_laws.specs.Made.{changes_at, commits_of, changes_of, after_commits, opening_of}
use Rattle.history_laws.specs.LegalFates.{all_fit}
use Rattle.history_laws.specs.Arrivals.{is_seen_of, IsCopy, copy_by, is_copied, tables_at, ArrivesSo, AreArrivals, IsCopiedOnce, HasArrivals}
use Rattle.history_laws.proofs.Commits.{changes-first, one_if, count-cons, count-append, no_items, last_or_before}
use Rattle.history_laws.proofs.Seeing.{fitting_sees_once}
use Rattle.history_laws.proofs.Copying.{arriving_copies}

-- ---- an entry that tells of a copy

so_copies : (t there : Tables) (at : SlotRef) (id : ℕ) (e : Entry) → ArrivesSo t there at id e → IsCopy t there at id (changes_at (other_db at.db) e)
so_copies t there at id e a = subst (IsCopy t there at id) (sym a.commits) (arriving_copies t there at a.dispatched a.next e.moment id a.dispatch_is a.outcome)

own_pair : (id slot : ℕ) → ((id == id) && (slot == slot)) ≡ true
own_pair id slot = and_from (id == id) (slot == slot) (eq-eqb id id refl) (eq-eqb slot slot refl)

copy_sees : (t there : Tables) (at : SlotRef) (id : ℕ) (cs : List Change) → IsCopy t there at id cs → count_by (is_seen_of at.id at.slot) cs ≡ 1
copy_sees t there at id cs k =
    let pair : Change = changes.Seen (record { id = at.id; slot = at.slot; copy = id }) in
    let p = is_seen_of at.id at.slot in
    let parts = ap (count_by p) k.commits in
    let first = count-cons p (changes.Enqueued k.copy) (pair ∷ []) in
    let second = count-cons p pair [] in
    let own : one_if (p pair) ≡ 1 = ap one_if (own_pair at.id at.slot) in
    omega (arith, parts, first, second, own)

-- ---- how often

module _ (h : History) (a : AreArrivals h) (at : SlotRef) where
  abbrev there : DbId
  there = other_db at.db

  one_copy : (before : List Entry) (e : Entry) (rest : List Entry) → h.entries ≡ before ++ e ∷ rest → (o : Option ℕ) → copy_by at e.step ≡ o → one_if (is_some o) ≤ count_by (is_seen_of at.id at.slot) (changes_at there e)
  one_copy before e rest eq None f = omega arith
  one_copy before e rest eq (Some id) f =
      let so = so_copies (tables_at at.db h before) (tables_at there h before) at id e (a at id before e rest eq f) in
      let one = copy_sees (tables_at at.db h before) (tables_at there h before) at id (changes_at there e) so in
      omega (arith, one)

  copies_seen : (rest before : List Entry) → h.entries ≡ before ++ rest → count_by (is_copied at) rest ≤ count_by (is_seen_of at.id at.slot) (changes_of (commits_of there rest))
  copies_seen [] before eq = omega arith
  copies_seen (e ∷ rest) before eq =
      let ih = copies_seen rest (before ++ e ∷ []) (eq ∙ sym (append_assoc before (e ∷ []) rest)) in
      let one = one_copy before e rest eq (copy_by at e.step) refl in
      let parts = ap (count_by (is_seen_of at.id at.slot)) (changes-first there e rest) ∙ count-append (is_seen_of at.id at.slot) (changes_at there e) (changes_of (commits_of there rest)) in
      let head = count-cons (is_copied at) e rest in
      omega (arith, ih, one, parts, head)

  copied_once : all_fit (opening_of there h) (commits_of there h.entries) ≡ true → IsCopiedOnce h at
  copied_once fit =
      let seen = fitting_sees_once (opening_of there h) (commits_of there h.entries) at fit in
      let le = copies_seen h.entries [] refl in
      record {
        once = let k = seen.once in omega (arith, k, le);
        unseen = λ before. let k = seen.before before in omega (arith, k, le);
      }

pub fitting_has_arrivals : (h : History) → ((db : DbId) → all_fit (opening_of db h) (commits_of db h.entries) ≡ true) → AreArrivals h → HasArrivals h
fitting_has_arrivals h fit a = record {
  once = λ at. copied_once h a at (fit (other_db at.db));
  alike = λ at id before e rest eq f. so_copies (tables_at at.db h before) (tables_at (other_db at.db) h before) at id e (a at id before e rest eq f);
}

-- ---- entry by entry

module _ (opening : DbId → Tables) where
  abbrev pub left_at : DbId → List Entry → Tables
  left_at db entries = after_commits (opening db) (commits_of db entries)

  abbrev pub AreIn : List Entry → Type 0
  AreIn entries = (at : SlotRef) (id : ℕ) (before : List Entry) (e : Entry) (rest : List Entry) → entries ≡ before ++ e ∷ rest → copy_by at e.step ≡ Some id → ArrivesSo (left_at at.db before) (left_at (other_db at.db) before) at id e

  pub none_in : AreIn []
  none_in at id before e rest q f = absurd (no_items before e rest q)

  pub more_in : (entries : List Entry) (x : Entry) → AreIn entries → ((at : SlotRef) (id : ℕ) → copy_by at x.step ≡ Some id → ArrivesSo (left_at at.db entries) (left_at (other_db at.db) entries) at id x) → AreIn (entries ++ x ∷ [])
  more_in entries x a one at id before e rest q f = by (last_or_before entries x before e rest q)
    where
      by : ((before ≡ entries) × (e ≡ x)) ⊎ ((more : List Entry) × (entries ≡ before ++ e ∷ more)) → ArrivesSo (left_at at.db before) (left_at (other_db at.db) before) at id e
      by (inl p) =
          subst (λ es. ArrivesSo (left_at at.db es) (left_at (other_db at.db) es) at id e) (sym p.0)
          (subst (ArrivesSo (left_at at.db entries) (left_at (other_db at.db) entries) at id) (sym p.1) (one at id (ap (λ y. copy_by at y.step) (sym p.1) ∙ f)))
      by (inr p) = a at id before e p.0 p.1 f
