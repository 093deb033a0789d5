-- What all changes of a commit make of tables: where each change that is named leaves right rows, all rows are valid.
use Rattle.std.proofs.Common.{◌≡◌, ◌≤◌, ℕ, List, [], ◌∷◌, ◌++◌, Bool, true, false, length, sym, ap, ◌∙◌, arith, Some, ◌||◌, append_assoc, append-nil}
use Rattle.std.specs.Prelude.{find, flat_map}
use Rattle.std.specs.List.{list_any, list_all}
use Rattle.std.proofs.lemmas.Bool.{and_parts, or_parts, or_left, or_right, or_cases}
use Rattle.std.proofs.Common.{◌⊎◌, inl, inr}
use Rattle.queue_rows.specs.Tables.{after_change, after_all}
use Rattle.queue_rows.specs.Recipients.{subscribers_of}
use Rattle.queue_rows.specs.Distinct.{are_distinct}
use Rattle.queue_rows.specs.Fits.{names_what_is_there, all_name_what_is_there}
use Rattle.queue_rows.specs.declared.tables.Tables.{Tables}
use Rattle.queue_rows.specs.declared.change.Change.{Change}
use Rattle.valid_laws.proofs.Parts.{all_weaker}
use Rattle.fit_laws.specs.FitLaws.{is_local, are_local}
use Rattle.fit_laws.proofs.Lists.{each_found}
use Rattle.fit_laws.proofs.Stepping.{next_one, fewer_one, subscribes, saw, seen_one, StandApart, apart_one}

up : (a b c : ℕ) → a ≤ b → b ≤ c → a ≤ c
up a b c h g = omega arith

pub next_all : (cs : List Change) (t : Tables) → are_local t cs ≡ true → t.next ≤ (after_all t cs).next
next_all [] t k = omega arith
next_all (c ∷ cs) t k =
    let p = and_parts (is_local t c) (are_local (after_change t c) cs) k in
    up t.next (after_change t c).next (after_all (after_change t c) cs).next (next_one t c p.0) (next_all cs (after_change t c) p.1)

pub apart_all : (cs : List Change) (t : Tables) → are_local t cs ≡ true → all_name_what_is_there t cs ≡ true → StandApart t → StandApart (after_all t cs)
apart_all [] t k n d = d
apart_all (c ∷ cs) t k n d =
    let p = and_parts (is_local t c) (are_local (after_change t c) cs) k in
    let q = and_parts (names_what_is_there t c) (all_name_what_is_there (after_change t c) cs) n in
    apart_all cs (after_change t c) p.1 q.1 (apart_one t c p.0 q.0 d)

-- where none of them puts a subscriber of the queue, it has no more
pub fewer_all : (cs : List Change) (t : Tables) (queue : List ℕ) → are_local t cs ≡ true → list_any (subscribes queue) cs ≡ false → length (subscribers_of (after_all t cs) queue) ≤ length (subscribers_of t queue)
fewer_all [] t queue k h = omega arith
fewer_all (c ∷ cs) t queue k h =
    let p = and_parts (is_local t c) (are_local (after_change t c) cs) k in
    let q = or_parts (subscribes queue c) (list_any (subscribes queue) cs) h in
    let one = fewer_one t c queue p.0 q.0 in
    let rest = fewer_all cs (after_change t c) queue p.1 q.1 in
    omega (arith, one, rest)

pub seen_all : (cs : List Change) (t : Tables) → are_local t cs ≡ true → (after_all t cs).seen ≡ t.seen ++ flat_map saw cs
seen_all [] t k = sym (append-nil t.seen)
seen_all (c ∷ cs) t k =
    let p = and_parts (is_local t c) (are_local (after_change t c) cs) k in
    seen_all cs (after_change t c) p.1 ∙ ap (λ rows. rows ++ flat_map saw cs) (seen_one t c p.0) ∙ append_assoc t.seen (saw c) (flat_map saw cs)

-- ---- rows of one kind

-- rows that are right by the tables stay so behind one change, but for those that it marks
module _ {R : Type 0} (rows : Tables → List R) (right : Tables → R → Bool) (marks : Change → R → Bool)
    (next : (m : R → Bool) (t : Tables) (c : Change) → is_local t c ≡ true → StandApart t → ((r : R) → marks c r ≡ true → m r ≡ true) → list_all (λ r. m r || right t r) (rows t) ≡ true
    → list_all (λ r. m r || right (after_change t c) r) (rows (after_change t c)) ≡ true) where
  through : (m : R → Bool) (cs : List Change) (t : Tables) → are_local t cs ≡ true → all_name_what_is_there t cs ≡ true → StandApart t → ((r : R) → list_any (λ c. marks c r) cs ≡ true → m r ≡ true)
      → list_all (λ r. m r || right t r) (rows t) ≡ true → list_all (λ r. m r || right (after_all t cs) r) (rows (after_all t cs)) ≡ true
  through m [] t k n d e h = h
  through m (c ∷ cs) t k n d e h =
      let p = and_parts (is_local t c) (are_local (after_change t c) cs) k in
      let q = and_parts (names_what_is_there t c) (all_name_what_is_there (after_change t c) cs) n in
      through m cs (after_change t c) p.1 q.1 (apart_one t c p.0 q.0 d) (λ r f. e r (or_right (marks c r) (list_any (λ x. marks x r) cs) f))
      (next m t c p.0 d (λ r f. e r (or_left (marks c r) (list_any (λ x. marks x r) cs) f)) h)

  module _ (same : R → R → Bool) (self : (r : R) → same r r ≡ true) (join : (x y m : R) → same x m ≡ true → same y m ≡ true → same x y ≡ true) where
    either : (p q : R → Bool) (cs : List Change) (all : List R) → ((r : R) → q r ≡ true → p r ≡ true) → ((r : R) → list_any (λ c. marks c r) cs ≡ true → find (λ x. same x r) all ≡ Some r → p r ≡ true)
        → (r : R) → find (λ x. same x r) all ≡ Some r → (list_any (λ c. marks c r) cs ≡ true) ⊎ (q r ≡ true) → p r ≡ true
    either p q cs all stays found r f (inl e) = found r e f
    either p q cs all stays found r f (inr e) = stays r e

    -- all rows pass a test that those pass which are right behind the changes, and each marked one that is found
    pub all_right : (p : R → Bool) (cs : List Change) (t : Tables) → are_local t cs ≡ true → all_name_what_is_there t cs ≡ true → StandApart t → are_distinct same (rows (after_all t cs)) ≡ true
        → ((r : R) → right (after_all t cs) r ≡ true → p r ≡ true) → list_all (right t) (rows t) ≡ true
        → ((r : R) → list_any (λ c. marks c r) cs ≡ true → find (λ x. same x r) (rows (after_all t cs)) ≡ Some r → p r ≡ true) → list_all p (rows (after_all t cs)) ≡ true
    all_right p cs t k n d a stays h found =
        let m : R → Bool = λ r. list_any (λ c. marks c r) cs in
        each_found same self join p (λ r. m r || right (after_all t cs) r) (rows (after_all t cs)) a
        (through m cs t k n d (λ r e. e) (all_weaker (right t) (λ r. m r || right t r) (λ r e. or_right (m r) (right t r) e) (rows t) h))
        (λ r f e. either p (right (after_all t cs)) cs (rows (after_all t cs)) stays found r f (or_cases (m r) (right (after_all t cs) r) e))
