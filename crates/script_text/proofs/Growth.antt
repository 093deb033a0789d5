-- One more session, and one more statement, keep what each script keeps.
use Rattle.std.proofs.Common.{◌≡◌, ℕ, zero, suc, ◌+◌, ◌<◌, Bool, true, false, ◌&&◌, ◌||◌, not, List, [], ◌∷◌, ◌++◌, map, length, get_or, set, take, drop, refl, sym, ap, ◌∙◌, arith, length-append}
use Rattle.std.specs.Prelude.{nat_le, position, slice_get, Some}
use Rattle.std.specs.List.{list_all, list_any, sum_by, position_or_len}
use Rattle.std.specs.Str.{bytes_eq}
use Rattle.std.proofs.lemmas.Bool.{le-leb, lt-ltb}
use Rattle.std.proofs.lemmas.List.{length-set, map-append}
use Rattle.std.proofs.Math.Seq.{map-set_same}
use Rattle.indexmap.specs.IndexSet.{insert_key}
use Rattle.std.proofs.lemmas.List.Elements.{All-set, All-get_or}
use Rattle.std.proofs.lemmas.List.Folds.{list_all-append, list_any-append}
use Rattle.std.proofs.lemmas.List.Sums.{AllPass-from_list_all, list_all-from_AllPass, sum-map, sum_by-append, sum_by-set}
use Rattle.std.proofs.lemmas.Option.{slice_get-get_or, slice_get-map, slice_get_within}
use Rattle.std.proofs.lemmas.Slice.Eq.{bytes_eq-Decides}
use Rattle.std.proofs.lemmas.Grind.{common_steps}
use Rattle.aq_base.specs.declared.DbId.{DbId}
use Rattle.aq_base.specs.declared.DbId.TheVariants.{Home}
use Rattle.aq_base.specs.declared.limits.TheConstants.{SESSION_LIMIT, STATEMENT_LIMIT}
use Rattle.history_laws.specs.Ordered.{is_ordered}
use Rattle.queue_rows.specs.Distinct.{are_distinct}
use Rattle.queue_rows.specs.Rows.{set_some, changed_some}
use Rattle.queue_rows.specs.Within.{is_within, is_session_name, is_script_within, statement_count, are_within}
use Rattle.queue_rows.specs.declared.statement.Statement.{Statement}
use Rattle.queue_rows.specs.declared.history.SessionScript.{SessionScript}
use Rattle.script_text.specs.Readable.{IsReadable, AreReadable}
use Rattle.script_text.specs.Script.{new_session, with_statement, with_statement_at}
use Rattle.script_text.proofs.Tests.{both, joined}

no_session : SessionScript
no_session = new_session [] Home

abbrev pub names : List SessionScript → List (List ℕ)
names ss = map (λ s. s.name) ss

abbrev are_ordered_in : SessionScript → Bool
are_ordered_in s = list_all is_ordered s.statements

-- ---- the limits, part by part

record Parts (ss : List SessionScript) : Type 0 where
  sessions : nat_le (length ss) SESSION_LIMIT ≡ true
  statements : nat_le (statement_count ss) STATEMENT_LIMIT ≡ true
  distinct : are_distinct bytes_eq (names ss) ≡ true
  each : list_all is_script_within ss ≡ true

parts_of : (ss : List SessionScript) → are_within ss ≡ true → Parts ss
unfolding are_within
parts_of ss e =
    let p = both (nat_le (length ss) SESSION_LIMIT && nat_le (statement_count ss) STATEMENT_LIMIT && are_distinct bytes_eq (names ss)) (list_all is_script_within ss) e in
    let q = both (nat_le (length ss) SESSION_LIMIT && nat_le (statement_count ss) STATEMENT_LIMIT) (are_distinct bytes_eq (names ss)) p.0 in
    let r = both (nat_le (length ss) SESSION_LIMIT) (nat_le (statement_count ss) STATEMENT_LIMIT) q.0 in
    record { sessions = r.0; statements = r.1; distinct = q.1; each = p.1 }

whole_of : (ss : List SessionScript) → Parts ss → are_within ss ≡ true
unfolding are_within
whole_of ss p =
    joined (nat_le (length ss) SESSION_LIMIT && nat_le (statement_count ss) STATEMENT_LIMIT && are_distinct bytes_eq (names ss)) (list_all is_script_within ss)
    (joined (nat_le (length ss) SESSION_LIMIT && nat_le (statement_count ss) STATEMENT_LIMIT) (are_distinct bytes_eq (names ss))
    (joined (nat_le (length ss) SESSION_LIMIT) (nat_le (statement_count ss) STATEMENT_LIMIT) p.sessions p.statements) p.distinct) p.each

-- ---- tests of each item

push_all : {X : Type 0} (test : X → Bool) (xs : List X) (x : X) → list_all test xs ≡ true → test x ≡ true → list_all test (xs ++ x ∷ []) ≡ true
push_all test xs x all e = list_all-append test xs (x ∷ []) ∙ joined (list_all test xs) (list_all test (x ∷ [])) all (joined (test x) true e refl)

set_all : {X : Type 0} (test : X → Bool) (xs : List X) (at : ℕ) (x : X) → list_all test xs ≡ true → test x ≡ true → list_all test (set xs at x) ≡ true
set_all test xs at x all e = list_all-from_AllPass test (set xs at x) (All-set (λ y. test y ≡ true) xs at x e (AllPass-from_list_all test xs all))

at_all : {X : Type 0} (test : X → Bool) (xs : List X) (at : ℕ) (d : X) → at < length xs → list_all test xs ≡ true → test (get_or xs at d) ≡ true
at_all test xs at d h all = All-get_or (λ y. test y ≡ true) xs at d h (AllPass-from_list_all test xs all)

-- ---- counts

counted : (ss : List SessionScript) → statement_count ss ≡ sum_by (λ s. length s.statements) ss
counted ss = sum-map (λ s. length s.statements) ss

changed : (statement : Statement) (ss : List SessionScript) (at : ℕ) → at < length ss → with_statement_at statement ss at ≡ set ss at (with_statement statement (get_or ss at no_session))
changed statement ss at h = ap (λ s. set_some ss at (changed_some (with_statement statement) s)) (slice_get-get_or ss at no_session h)

count_set : (statement : Statement) (ss : List SessionScript) (at : ℕ) → at < length ss → statement_count (set ss at (with_statement statement (get_or ss at no_session))) ≡ statement_count ss + 1
count_set statement ss at h =
    let s : SessionScript = get_or ss at no_session in
    let one : length (s.statements ++ statement ∷ []) ≡ length s.statements + 1 = length-append s.statements (statement ∷ []) in
    let total : sum_by (λ r. length r.statements) (set ss at (with_statement statement s)) + length s.statements ≡ sum_by (λ r. length r.statements) ss + length (s.statements ++ statement ∷ []) = sum_by-set (λ r. length r.statements) ss at (with_statement statement s) no_session h in
    let after : statement_count (set ss at (with_statement statement s)) ≡ sum_by (λ r. length r.statements) (set ss at (with_statement statement s)) = counted (set ss at (with_statement statement s)) in
    let before : statement_count ss ≡ sum_by (λ r. length r.statements) ss = counted ss in
    omega arith

count_declared : (ss : List SessionScript) (name : List ℕ) (at : DbId) → statement_count (ss ++ new_session name at ∷ []) ≡ statement_count ss
count_declared ss name at =
    let more : sum_by (λ s. length s.statements) (ss ++ new_session name at ∷ []) ≡ sum_by (λ s. length s.statements) ss + 0 = sum_by-append (λ s. length s.statements) ss (new_session name at ∷ []) in
    let after : statement_count (ss ++ new_session name at ∷ []) ≡ sum_by (λ s. length s.statements) (ss ++ new_session name at ∷ []) = counted (ss ++ new_session name at ∷ []) in
    let before : statement_count ss ≡ sum_by (λ s. length s.statements) ss = counted ss in
    omega arith

-- ---- names

neither : (a b : Bool) → (a || b) ≡ false → (a ≡ false) × (b ≡ false)
neither true b h = absurd cc
neither false b h = (refl, h)

no_test : (b : Bool) → (b ≡ true → ⊥) → b ≡ false
no_test true h = absurd (h refl)
no_test false h = refl

turned_off : (b : Bool) → not b ≡ true → b ≡ false
turned_off true h = absurd cc
turned_off false h = refl

other : (a b : List ℕ) → bytes_eq a b ≡ false → bytes_eq b a ≡ false
other a b e = no_test (bytes_eq b a) (λ same. let again : bytes_eq a b ≡ true = (bytes_eq-Decides a b).1 (sym ((bytes_eq-Decides b a).0 same)) in absurd cc)

-- a name that is none of those that are distinct, put behind them
distinct_last : (ns : List (List ℕ)) (name : List ℕ) → are_distinct bytes_eq ns ≡ true → list_any (bytes_eq name) ns ≡ false → are_distinct bytes_eq (ns ++ name ∷ []) ≡ true
distinct_last [] name d none = refl
distinct_last (n ∷ ns) name d none =
    let parts = both (not (list_any (bytes_eq n) ns)) (are_distinct bytes_eq ns) d in
    let others = neither (bytes_eq name n) (list_any (bytes_eq name) ns) none in
    let back : bytes_eq n name ≡ false = other name n others.0 in
    let free : list_any (bytes_eq n) ns ≡ false = turned_off (list_any (bytes_eq n) ns) parts.0 in
    let more : list_any (bytes_eq n) (ns ++ name ∷ []) ≡ (list_any (bytes_eq n) ns || list_any (bytes_eq n) (name ∷ [])) = list_any-append (bytes_eq n) ns (name ∷ []) in
    let none_more : list_any (bytes_eq n) (ns ++ name ∷ []) ≡ false = more ∙ rw (free, back) refl in
    joined (not (list_any (bytes_eq n) (ns ++ name ∷ []))) (are_distinct bytes_eq (ns ++ name ∷ [])) (ap not none_more) (distinct_last ns name parts.1 others.1)

-- ---- no session yet

none_yet : AreReadable []
none_yet = record {
  few = omega arith;
  within = whole_of [] (record { sessions = refl; statements = refl; distinct = refl; each = refl });
  ordered = refl;
}

pub begun : (keys : List (List ℕ)) (ss : List SessionScript) → keys ≡ [] → ss ≡ [] → (keys ≡ names ss) × (0 ≡ statement_count ss) × AreReadable ss
begun keys ss k e = rw e (k, refl, none_yet)

-- ---- one more session

declared_within : (ss : List SessionScript) (name : List ℕ) (at : DbId) → length ss < 64 → is_session_name name ≡ true → list_any (bytes_eq name) (names ss) ≡ false → are_within ss ≡ true
    → are_within (ss ++ new_session name at ∷ []) ≡ true
declared_within ss name at few named none e =
    let p : Parts ss = parts_of ss e in
    let one : length (ss ++ new_session name at ∷ []) ≡ length ss + 1 = length-append ss (new_session name at ∷ []) in
    whole_of (ss ++ new_session name at ∷ []) (record {
      sessions = le-leb (length (ss ++ new_session name at ∷ [])) 64 (omega arith);
      statements = rw (count_declared ss name at) p.statements;
      distinct = rw (map-append (λ s. s.name) ss (new_session name at ∷ [])) (distinct_last (names ss) name p.distinct none);
      each = push_all is_script_within ss (new_session name at) p.each (joined (is_session_name name) true named refl);
    })

declared : (ss : List SessionScript) (name : List ℕ) (at : DbId) → length ss < 64 → is_session_name name ≡ true → list_any (bytes_eq name) (names ss) ≡ false → AreReadable ss
    → AreReadable (ss ++ new_session name at ∷ [])
declared ss name at few named none kept =
    let one : length (ss ++ new_session name at ∷ []) ≡ length ss + 1 = length-append ss (new_session name at ∷ []) in
    record {
      few = omega arith;
      within = declared_within ss name at few named none kept.within;
      ordered = push_all are_ordered_in ss (new_session name at) kept.ordered refl;
    }

-- the names, the count and the sessions, where one more was declared
pub more : (keys new_keys : List (List ℕ)) (count : ℕ) (ss new : List SessionScript) (name : List ℕ) (at : DbId) → (keys ≡ names ss) × (count ≡ statement_count ss) × AreReadable ss → length ss < 64 → is_session_name name ≡ true
    → list_any (bytes_eq name) (names ss) ≡ false → new_keys ≡ insert_key bytes_eq keys name → new ≡ ss ++ new_session name at ∷ [] → (new_keys ≡ names new) × (count ≡ statement_count new) × AreReadable new
more keys new_keys count ss new name at kept few named none put e =
    let absent : list_any (bytes_eq name) keys ≡ false = rw kept.0 none in
    let last : new_keys ≡ keys ++ name ∷ [] = put ∙ rw absent refl in
    let listed : new_keys ≡ names (ss ++ new_session name at ∷ []) = last ∙ rw kept.0 (sym (map-append (λ s. s.name) ss (new_session name at ∷ []))) in
    rw e (listed, kept.1 ∙ sym (count_declared ss name at), declared ss name at few named none kept.2)

-- ---- one more statement

asked_within : (statement : Statement) (ss : List SessionScript) (at : ℕ) → at < length ss → statement_count ss < 1000000 → is_within statement ≡ true → are_within ss ≡ true
    → are_within (set ss at (with_statement statement (get_or ss at no_session))) ≡ true
asked_within statement ss at h few ok e =
    let p : Parts ss = parts_of ss e in
    let s : SessionScript = get_or ss at no_session in
    let new : SessionScript = with_statement statement s in
    let count : statement_count (set ss at new) ≡ statement_count ss + 1 = count_set statement ss at h in
    let own = both (is_session_name s.name) (list_all is_within s.statements) (at_all is_script_within ss at no_session h p.each) in
    whole_of (set ss at new) (record {
      sessions = rw (length-set ss at new) p.sessions;
      statements = le-leb (statement_count (set ss at new)) 1000000 (omega arith);
      distinct = rw (map-set_same (λ r. r.name) ss at new no_session refl) p.distinct;
      each = set_all is_script_within ss at new p.each (joined (is_session_name s.name) (list_all is_within (s.statements ++ statement ∷ [])) own.0 (push_all is_within s.statements statement own.1 ok));
    })

asked : (statement : Statement) (ss : List SessionScript) (at : ℕ) → at < length ss → statement_count ss < 1000000 → IsReadable statement → AreReadable ss
    → AreReadable (set ss at (with_statement statement (get_or ss at no_session)))
asked statement ss at h few ok kept =
    let s : SessionScript = get_or ss at no_session in
    let new : SessionScript = with_statement statement s in
    let count : statement_count (set ss at new) ≡ statement_count ss + 1 = count_set statement ss at h in
    record {
      few = rw (length-set ss at new) kept.few;
      within = asked_within statement ss at h few ok.within kept.within;
      ordered = set_all are_ordered_in ss at new kept.ordered (push_all is_ordered s.statements statement (at_all are_ordered_in ss at no_session h kept.ordered) ok.ordered);
    }

all_of : (n : ℕ) (new ss : List SessionScript) → length new ≡ length ss → n ≡ length ss → take n (new ++ drop (length new) ss) ≡ new
all_of n new ss e h = grind (arith, common_steps)

-- the names, the count and the sessions, where a slice of all of them was written to
pub grown : (keys : List (List ℕ)) (count n at : ℕ) (statement : Statement) (ss new : List SessionScript) → IsReadable statement → (keys ≡ names ss) × (count ≡ statement_count ss) × AreReadable ss
    → count < 1000000 → at < length ss → new ≡ with_statement_at statement ss at → n ≡ length ss
    → (keys ≡ names (take n (new ++ drop (length new) ss))) × (count + 1 ≡ statement_count (take n (new ++ drop (length new) ss))) × AreReadable (take n (new ++ drop (length new) ss))
grown keys count n at statement ss new ok kept few h e whole =
    let s : SessionScript = with_statement statement (get_or ss at no_session) in
    let few_so_far : statement_count ss < 1000000 = rw (← kept.1) few in
    let is : new ≡ set ss at s = e ∙ changed statement ss at h in
    let same : length new ≡ length ss = ap length is ∙ length-set ss at s in
    let all : take n (new ++ drop (length new) ss) ≡ set ss at s = all_of n new ss same whole ∙ is in
    let named : names (set ss at s) ≡ names ss = map-set_same (λ r. r.name) ss at s no_session refl in
    rw all (kept.0 ∙ sym named, ap (λ k. k + 1) kept.1 ∙ sym (count_set statement ss at h), asked statement ss at h few_so_far ok kept.2)

-- ---- the number of a name

none_at : (test : List ℕ → Bool) (ns : List (List ℕ)) (at : ℕ) (name : List ℕ) → list_any test ns ≡ false → slice_get ns at ≡ Some name → test name ≡ false
none_at test [] at name none e = absurd cc
none_at test (n ∷ ns) zero name none e = let others = neither (test n) (list_any test ns) none in let first = others.0 in cc
none_at test (n ∷ ns) (suc at) name none e = none_at test ns at name (neither (test n) (list_any test ns) none).1 e

first_at : (ns : List (List ℕ)) (at : ℕ) (name : List ℕ) → are_distinct bytes_eq ns ≡ true → slice_get ns at ≡ Some name → position_or_len (bytes_eq name) ns ≡ at
first_at [] at name d e = absurd cc
first_at (n ∷ ns) zero name d e =
    let is : n ≡ name = cc in
    let same : bytes_eq name n ≡ true = (bytes_eq-Decides name n).1 (sym is) in
    rw same refl
first_at (n ∷ ns) (suc at) name d e =
    let parts = both (not (list_any (bytes_eq n) ns)) (are_distinct bytes_eq ns) d in
    let free : list_any (bytes_eq n) ns ≡ false = turned_off (list_any (bytes_eq n) ns) parts.0 in
    let differs : bytes_eq name n ≡ false = other n name (none_at (bytes_eq n) ns at name free e) in
    let behind : position_or_len (bytes_eq name) ns ≡ at = first_at ns at name parts.1 e in
    rw (differs, behind) (omega arith)

-- what stands where it is guessed is found there, since no other session has its name
pub guessed : (ss : List SessionScript) (at : ℕ) (s : SessionScript) (name : List ℕ) → AreReadable ss → slice_get ss at ≡ Some s → bytes_eq s.name name ≡ true → position (bytes_eq name) (names ss) ≡ Some at
guessed ss at s name kept e same =
    let p : Parts ss = parts_of ss kept.within in
    let named : s.name ≡ name = (bytes_eq-Decides s.name name).0 same in
    let there : slice_get (names ss) at ≡ Some name = slice_get-map (λ r. r.name) ss at ∙ rw e (ap (λ n. Some n) named) in
    let first : position_or_len (bytes_eq name) (names ss) ≡ at = first_at (names ss) at name p.distinct there in
    rw (first, lt-ltb at (length (names ss)) (slice_get_within (names ss) at name there)) refl
