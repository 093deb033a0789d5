-- Messages under their positions: their stamps rise, and each is found by its own.
use Rattle.std.proofs.Common.{◌≡◌, ℕ, ◌+◌, ◌<◌, ◌≤◌, ◌==◌, zero, suc, true, false, cond, List, [], ◌∷◌, ◌++◌, Some, length, refl, sym, ap, ◌∙◌, arith, subst, length-append}
use Rattle.std.proofs.lemmas.Bool.{eq-eqb, ne_eqb}
use Rattle.std.proofs.lemmas.List.{append_assoc}
use Rattle.std.specs.Prelude.{find, option_map, slice_get}
use Rattle.queue_rows.specs.declared.rows.MsgRow.{MsgRow}
use Rattle.choice_laws.specs.Entries.{Entry, AreAbove, AreBelow, AreRising, message_at, messages_of}
use Rattle.message_choice.specs.Indexed.{IndexesReady}
use Rattle.sort_index.specs.declared.group.Group.{Group}
use Rattle.ready_slots.specs.Edits.{Puts, entry}
use Rattle.ready_slots.proofs.Changing.{last_put}
use Rattle.rows_tests.specs.Kept.{numbered_from}

pub found_from : (n stamp at : ℕ) (ms : List MsgRow) → stamp ≡ n + at → message_at (numbered_from n ms) stamp ≡ slice_get ms at
found_from n stamp at [] e = refl
found_from n stamp zero (m ∷ ms) e =
    let own : (n == stamp) ≡ true = eq-eqb n stamp (omega arith) in
    ap (λ b. option_map (λ (x : Entry). x.message) (cond b (Some (entry n m)) (find (λ (x : Entry). x.stamp == stamp) (numbered_from (n + 1) ms)))) own
found_from n stamp (suc i) (m ∷ ms) e =
    let other : (n == stamp) ≡ false = ne_eqb n stamp (λ same. omega arith) in
    ap (λ b. option_map (λ (x : Entry). x.message) (cond b (Some (entry n m)) (find (λ (x : Entry). x.stamp == stamp) (numbered_from (n + 1) ms)))) other
    ∙ found_from (n + 1) stamp i ms (omega arith)

all_above : (k n : ℕ) (ms : List MsgRow) → k < n → AreAbove k (numbered_from n ms)
all_above k n [] less = tt
all_above k n (m ∷ ms) less = (less, all_above k (n + 1) ms (omega arith))

pub all_rise : (n : ℕ) (ms : List MsgRow) → AreRising (numbered_from n ms)
all_rise n [] = tt
all_rise n (m ∷ ms) = (all_above n (n + 1) ms (omega arith), all_rise (n + 1) ms)

pub all_below : (k n : ℕ) (ms : List MsgRow) → n + length ms ≤ k → AreBelow k (numbered_from n ms)
all_below k n [] fits = tt
all_below k n (m ∷ ms) fits = (omega arith, all_below k (n + 1) ms (omega arith))

length_first : (m : MsgRow) (ms : List MsgRow) → length (m ∷ ms) ≡ 1 + length ms
length_first m ms = omega arith

pub messages_are : (n : ℕ) (ms : List MsgRow) → messages_of (numbered_from n ms) ≡ ms
messages_are n [] = refl
messages_are n (m ∷ ms) = ap (λ xs. m ∷ xs) (messages_are (n + 1) ms)

pub last_numbered : (n : ℕ) (ms : List MsgRow) (m : MsgRow) → numbered_from n (ms ++ m ∷ []) ≡ numbered_from n ms ++ entry (n + length ms) m ∷ []
last_numbered n [] m = let same : n ≡ n + 0 = omega arith in ap (λ k. entry k m ∷ []) same
last_numbered n (x ∷ xs) m =
    let long = length_first x xs in
    let same : n + 1 + length xs ≡ n + length (x ∷ xs) = omega (arith, long) in
    ap (λ es. entry n x ∷ es) (last_numbered (n + 1) xs m ∙ ap (λ k. numbered_from (n + 1) xs ++ entry k m ∷ []) same)

-- ---- one message more in the index

pub one_more : (stamp : ℕ) (m : MsgRow) (done : List MsgRow) (before after : List Group) → stamp ≡ length done → Puts stamp m before after
    → IndexesReady (numbered_from 0 done) before → IndexesReady (numbered_from 0 (done ++ m ∷ [])) after
one_more stamp m done before after at puts indexed =
    let last : stamp ≡ 0 + length done = omega arith in
    let below : AreBelow stamp (numbered_from 0 done) = all_below stamp 0 done (omega arith) in
    let added : IndexesReady (numbered_from 0 done ++ entry stamp m ∷ []) after = last_put stamp m before after puts (numbered_from 0 done) (all_rise 0 done) below indexed in
    subst (λ (es : List Entry). IndexesReady es after) (sym (last_numbered 0 done m))
    (subst (λ (k : ℕ). IndexesReady (numbered_from 0 done ++ entry k m ∷ []) after) last added)

pub split_on : (m : MsgRow) (done rest more all : List MsgRow) → more ≡ m ∷ rest → done ++ more ≡ all → (done ++ m ∷ []) ++ rest ≡ all
split_on m done rest more all steps so = append_assoc done (m ∷ []) rest ∙ ap (λ ms. done ++ ms) (sym steps) ∙ so

pub longer : (stamp : ℕ) (m : MsgRow) (done : List MsgRow) → stamp ≡ length done → stamp + 1 ≡ length (done ++ m ∷ [])
longer stamp m done at = let long = length-append done (m ∷ []) in omega (arith, long, at)
