-- What is due of all messages settles of each what is due of its own slots settles.
use Rattle.std.proofs.Common.{◌≡◌, ◌++◌, ◌==◌, ℕ, Bool, true, false, not, List, [], ◌∷◌, Option, Some, None, refl, sym, ap, ◌∙◌, append_assoc, append-nil, eq-eqb}
use Rattle.std.specs.Prelude.{◌||◌, find, flat_map, fold, if◌then◌else◌}
use Rattle.std.specs.List.{AllByRecursion, list_all, list_any}
use Rattle.std.specs.Option.{option_map_or}
use Rattle.std.proofs.lemmas.Bool.{and_parts, eqb-false, eqb-true, false≢true, ne_eqb, not-true, or_from, or_left, or_parts, or_right}
use Rattle.std.proofs.lemmas.List.Elements.{recursion_from_All}
use Rattle.std.proofs.lemmas.List.Folds.{list_any-append}
use Rattle.std.proofs.lemmas.List.Sums.{fold-append}
use Rattle.std.proofs.lemmas.Grind.{flat_map-append}
use Rattle.std.proofs.lemmas.Option.{none-some}
use Rattle.queue_rows.specs.Rows.{find_message}
use Rattle.queue_rows.specs.Distinct.{are_distinct}
use Rattle.queue_rows.specs.Due.{Watch, due_purge, due_slots, is_spent, watched}
use Rattle.queue_rows.specs.Settling.{last_moment, message_after, moment_by, named_by, settling, settling_of, with_name}
use Rattle.queue_rows.specs.Valid.{is_same_message}
use Rattle.queue_rows.specs.declared.rows.MsgRow.{MsgRow}
use Rattle.queue_rows.specs.declared.change.Change.{Change}
use Rattle.queue_rows.specs.declared.change.Change.TheVariants as changes
use Rattle.row_laws.proofs.Finding.{find-no, find-yes}
use Rattle.valid_laws.proofs.Doing.{all_done, done_run, own_slots}
use Rattle.valid_laws.proofs.Ending.{undone, undone_run}
use Rattle.valid_laws.proofs.Runs.{is_of, run}
use Rattle.valid_laws.proofs.Undone.{are_in}
use Rattle.time_manager.specs.Own.{own_settling, settled_of}

-- ---- names

abbrev named : List ℕ → List Change → List ℕ
named ids cs = fold (λ ns c. with_name ns (named_by c)) ids cs

-- the numbers with one more, where there is a change
abbrev with_first : List Change → List ℕ → ℕ → List ℕ
with_first [] ids id = ids
with_first (c ∷ cs) ids id = ids ++ id ∷ []

-- what is given where there is a change
abbrev if_any : List Change → List Change → List Change
if_any [] given = []
if_any (c ∷ cs) given = given

name_is : (id : ℕ) (ids : List ℕ) (o : Option ℕ) → option_map_or (λ n. n == id) o false ≡ true → with_name ids o ≡ with_name ids (Some id)
name_is id ids None h = absurd (false≢true h)
name_is id ids (Some n) h = ap (λ k. with_name ids (Some k)) (eqb-true n id h)

named_again : (id : ℕ) (ids : List ℕ) (c : Change) → is_of id c ≡ true → list_any (λ n. n == id) ids ≡ true → with_name ids (named_by c) ≡ ids
named_again id ids c own there = name_is id ids (named_by c) own ∙ ap (λ b. if b then ids else ids ++ id ∷ []) there

named_stay : (id : ℕ) (ids : List ℕ) (cs : List Change) → list_all (is_of id) cs ≡ true → list_any (λ n. n == id) ids ≡ true → named ids cs ≡ ids
named_stay id ids [] own there = refl
named_stay id ids (c ∷ cs) own there =
    let parts = and_parts (is_of id c) (list_all (is_of id) cs) own in
    ap (λ ns. named ns cs) (named_again id ids c parts.0 there) ∙ named_stay id ids cs parts.1 there

last_is : (id : ℕ) (ids : List ℕ) → list_any (λ n. n == id) (ids ++ id ∷ []) ≡ true
last_is id ids =
    list_any-append (λ n. n == id) ids (id ∷ [])
    ∙ or_right (list_any (λ n. n == id) ids) ((id == id) || false) (or_left (id == id) false (eq-eqb id id refl))

own_names : (id : ℕ) (ids : List ℕ) (cs : List Change) → list_all (is_of id) cs ≡ true → list_any (λ n. n == id) ids ≡ false → named ids cs ≡ with_first cs ids id
own_names id ids [] own absent = refl
own_names id ids (c ∷ cs) own absent =
    let parts = and_parts (is_of id c) (list_all (is_of id) cs) own in
    ap (λ ns. named ns cs) (name_is id ids (named_by c) parts.0 ∙ ap (λ b. if b then ids else ids ++ id ∷ []) absent)
    ∙ named_stay id (ids ++ id ∷ []) cs parts.1 (last_is id ids)

-- ---- what is given for each name, where messages are distinct

-- none of the messages is among the numbers
abbrev Fresh : List ℕ → List MsgRow → Type 0
Fresh ids [] = Unit {0}
Fresh ids (m ∷ ms) = (list_any (λ n. n == m.id) ids ≡ false) × Fresh ids ms

fresh_none : (ms : List MsgRow) → Fresh [] ms
fresh_none [] = tt
fresh_none (m ∷ ms) = (refl, fresh_none ms)

fresh_push : (x : MsgRow) (ids : List ℕ) (ms : List MsgRow) → list_any (is_same_message x) ms ≡ false → Fresh ids ms → Fresh (ids ++ x.id ∷ []) ms
fresh_push x ids [] apart fresh = tt
fresh_push x ids (m ∷ ms) apart fresh =
    let parts = or_parts (is_same_message x m) (list_any (is_same_message x) ms) apart in
    let absent = or_from (list_any (λ n. n == m.id) ids) ((x.id == m.id) || false) fresh.0 (or_from (x.id == m.id) false parts.0 refl) in
    (list_any-append (λ n. n == m.id) ids (x.id ∷ []) ∙ absent, fresh_push x ids ms parts.1 fresh.1)

module _ (G : ℕ → List Change) (F : MsgRow → List Change) (own : (x : MsgRow) → list_all (is_of x.id) (F x) ≡ true) where
  first_given : (x : MsgRow) (ids : List ℕ) (cs rest more : List Change) → list_all (is_of x.id) cs ≡ true → list_any (λ n. n == x.id) ids ≡ false
      → flat_map G (named ids rest) ≡ flat_map G ids ++ more
      → flat_map G (named (ids ++ x.id ∷ []) rest) ≡ flat_map G (ids ++ x.id ∷ []) ++ more
      → flat_map G (named (named ids cs) rest) ≡ flat_map G ids ++ (if_any cs (G x.id) ++ more)
  first_given x ids [] rest more named_so absent if_none if_some = if_none
  first_given x ids (c ∷ cs) rest more named_so absent if_none if_some =
      ap (λ ns. flat_map G (named ns rest)) (own_names x.id ids (c ∷ cs) named_so absent) ∙ if_some
      ∙ ap (λ xs. xs ++ more) (flat_map-append G ids (x.id ∷ []) ∙ ap (λ xs. flat_map G ids ++ xs) (append-nil (G x.id)))
      ∙ append_assoc (flat_map G ids) (G x.id) more

  given_by_each : (ids : List ℕ) (ms : List MsgRow) → are_distinct is_same_message ms ≡ true → Fresh ids ms
      → flat_map G (named ids (flat_map F ms)) ≡ flat_map G ids ++ flat_map (λ x. if_any (F x) (G x.id)) ms
  given_by_each ids [] distinct fresh = sym (append-nil (flat_map G ids))
  given_by_each ids (x ∷ xs) distinct fresh =
      let parts = and_parts (not (list_any (is_same_message x) xs)) (are_distinct is_same_message xs) distinct in
      let apart = not-true (list_any (is_same_message x) xs) parts.0 in
      ap (flat_map G) (fold-append (λ ns c. with_name ns (named_by c)) ids (F x) (flat_map F xs))
      ∙ first_given x ids (F x) (flat_map F xs) (flat_map (λ y. if_any (F y) (G y.id)) xs) (own x) fresh.0
      (given_by_each ids xs parts.1 fresh.1)
      (given_by_each (ids ++ x.id ∷ []) xs parts.1 (fresh_push x ids xs apart fresh.1))

-- ---- messages that go

module _ (G : ℕ → List Change) (w : Watch) where
  nothing_more : (id : ℕ) (ids : List ℕ) (b : Bool) → G id ≡ [] → flat_map G (if b then ids else ids ++ id ∷ []) ≡ flat_map G ids
  nothing_more id ids true none = refl
  nothing_more id ids false none =
      flat_map-append G ids (id ∷ []) ∙ ap (λ xs. flat_map G ids ++ (xs ++ [])) none ∙ append-nil (flat_map G ids)

  gone_step : (x : MsgRow) (ids : List ℕ) (b : Bool) → (b ≡ true → G x.id ≡ []) → flat_map G (named ids (if b then changes.Purged x.id ∷ [] else [])) ≡ flat_map G ids
  gone_step x ids true none = nothing_more x.id ids (list_any (λ n. n == x.id) ids) (none refl)
  gone_step x ids false none = refl

  gone_give_nothing : (ids : List ℕ) (ms : List MsgRow) → AllByRecursion (λ x. is_spent w x ≡ true → G x.id ≡ []) ms
      → flat_map G (named ids (flat_map (due_purge w) ms)) ≡ flat_map G ids
  gone_give_nothing ids [] none = refl
  gone_give_nothing ids (x ∷ xs) none =
      ap (flat_map G) (fold-append (λ ns c. with_name ns (named_by c)) ids (due_purge w x) (flat_map (due_purge w) xs))
      ∙ gone_give_nothing (named ids (due_purge w x)) xs none.1
      ∙ gone_step x ids (is_spent w x) none.0

-- ---- when

other_named : (id k n : ℕ) → (n == k) ≡ true → (id == k) ≡ false → (n == id) ≡ false
other_named id k n own apart = ne_eqb n id (λ same. eqb-false id k apart (sym same ∙ eqb-true n k own))

at_other : (id k n at before : ℕ) → (n == k) ≡ true → (id == k) ≡ false → (if n == id then at else before) ≡ before
at_other id k n at before own apart = ap (λ b. if b then at else before) (other_named id k n own apart)

moment_other : (id k before : ℕ) (c : Change) → is_of k c ≡ true → (id == k) ≡ false → moment_by id before c ≡ before
moment_other id k before (changes.Retried n slot retries until at) own apart = at_other id k n at before own apart
moment_other id k before (changes.Ready n slot at) own apart = at_other id k n at before own apart
moment_other id k before (changes.Done n slot at) own apart = at_other id k n at before own apart
moment_other id k before (changes.Expired n slot at) own apart = at_other id k n at before own apart
moment_other id k before (changes.Dropped n slot at) own apart = at_other id k n at before own apart
moment_other id k before (changes.Moved n queue at) own apart = at_other id k n at before own apart
moment_other id k before _ own apart = refl

moments_other : (id k before : ℕ) (cs : List Change) → list_all (is_of k) cs ≡ true → (id == k) ≡ false → fold (moment_by id) before cs ≡ before
moments_other id k before [] own apart = refl
moments_other id k before (c ∷ cs) own apart =
    let parts = and_parts (is_of k c) (list_all (is_of k) cs) own in
    ap (λ n. fold (moment_by id) n cs) (moment_other id k before c parts.0 apart) ∙ moments_other id k before cs parts.1 apart

moment_purges_by : (id before : ℕ) (x : MsgRow) (b : Bool) → fold (moment_by id) before (if b then changes.Purged x.id ∷ [] else []) ≡ before
moment_purges_by id before x true = refl
moment_purges_by id before x false = refl

moment_purges : (w : Watch) (id before : ℕ) (ms : List MsgRow) → fold (moment_by id) before (flat_map (due_purge w) ms) ≡ before
moment_purges w id before [] = refl
moment_purges w id before (x ∷ xs) =
    fold-append (moment_by id) before (due_purge w x) (flat_map (due_purge w) xs)
    ∙ ap (λ n. fold (moment_by id) n (flat_map (due_purge w) xs)) (moment_purges_by id before x (is_spent w x))
    ∙ moment_purges w id before xs

module _ (F : MsgRow → List Change) (own : (x : MsgRow) → list_all (is_of x.id) (F x) ≡ true) where
  -- messages of other numbers tell no moment
  moments_rest : (id before : ℕ) (ms : List MsgRow) → list_any (λ m. id == m.id) ms ≡ false → fold (moment_by id) before (flat_map F ms) ≡ before
  moments_rest id before [] apart = refl
  moments_rest id before (x ∷ xs) apart =
      let parts = or_parts (id == x.id) (list_any (λ m. id == m.id) xs) apart in
      fold-append (moment_by id) before (F x) (flat_map F xs)
      ∙ ap (λ n. fold (moment_by id) n (flat_map F xs)) (moments_other id x.id before (F x) (own x) parts.0)
      ∙ moments_rest id before xs parts.1

  moments_step : (id : ℕ) (x : MsgRow) (xs : List MsgRow) (m : MsgRow) (before : ℕ) (b : Bool) → (x.id == id) ≡ b → list_any (is_same_message x) xs ≡ false
      → find (λ r. r.id == id) (x ∷ xs) ≡ Some m
      → (find (λ r. r.id == id) xs ≡ Some m → fold (moment_by id) before (flat_map F xs) ≡ fold (moment_by id) before (F m))
      → fold (moment_by id) before (F x ++ flat_map F xs) ≡ fold (moment_by id) before (F m)
  moments_step id x xs m before true e apart found ih =
      let here = find-yes (λ r. r.id == id) x xs e in
      let same : x ≡ m = cc (here, found) in
      fold-append (moment_by id) before (F x) (flat_map F xs)
      ∙ moments_rest id (fold (moment_by id) before (F x)) xs (ap (λ n. list_any (λ r. n == r.id) xs) (sym (eqb-true x.id id e)) ∙ apart)
      ∙ ap (λ y. fold (moment_by id) before (F y)) same
  moments_step id x xs m before false e apart found ih =
      fold-append (moment_by id) before (F x) (flat_map F xs)
      ∙ ap (λ n. fold (moment_by id) n (flat_map F xs)) (moments_other id x.id before (F x) (own x) (ne_eqb id x.id (λ same. eqb-false x.id id e (sym same))))
      ∙ ih (sym (find-no (λ r. r.id == id) x xs e) ∙ found)

  moments_whole : (id : ℕ) (ms : List MsgRow) (m : MsgRow) (before : ℕ) → are_distinct is_same_message ms ≡ true → find (λ r. r.id == id) ms ≡ Some m
      → fold (moment_by id) before (flat_map F ms) ≡ fold (moment_by id) before (F m)
  moments_whole id [] m before distinct found = absurd (none-some m found)
  moments_whole id (x ∷ xs) m before distinct found =
      let parts = and_parts (not (list_any (is_same_message x) xs)) (are_distinct is_same_message xs) distinct in
      moments_step id x xs m before (x.id == id) refl (not-true (list_any (is_same_message x) xs) parts.0) found (moments_whole id xs m before parts.1)

-- ---- one message

of_first : (g : ℕ → List Change) (id : ℕ) (cs : List Change) → flat_map g (with_first cs [] id) ≡ if_any cs (g id)
of_first g id [] = refl
of_first g id (c ∷ cs) = append-nil (g id)

none_any : (cs : List Change) → if_any cs [] ≡ []
none_any [] = refl
none_any (c ∷ cs) = refl

-- the message as its slots leave it, unless it goes
abbrev left_of : Bool → MsgRow → Option MsgRow
left_of true done = None
left_of false done = Some done

left_as : (b : Bool) (done : MsgRow) → (if b then None else Some done) ≡ left_of b done
left_as true done = refl
left_as false done = refl

module _ (w : Watch) (distinct : are_distinct is_same_message w.tables.messages ≡ true) where
  module _ (m : MsgRow) (found : find_message w.tables m.id ≡ Some m) where
    moment_is : last_moment (undone w) m.id ≡ last_moment (due_slots w m) m.id
    moment_is =
        let ms = w.tables.messages in
        fold-append (moment_by m.id) 0 (flat_map (due_slots w) ms) (flat_map (due_purge w) ms)
        ∙ moment_purges w m.id (fold (moment_by m.id) 0 (flat_map (due_slots w) ms)) ms
        ∙ moments_whole (due_slots w) (own_slots w) m.id ms m 0 distinct found

    own_run : message_after w.tables (due_slots w m) m.id ≡ Some (all_done w m)
    own_run = ap (λ o. run o (due_slots w m)) found ∙ done_run w m

    left_is : (b : Bool) → is_spent w m ≡ b → message_after w.tables (undone w) m.id ≡ left_of b (all_done w m)
    left_is b e = undone_run w distinct m.id m found ∙ left_as (is_spent w m) (all_done w m) ∙ ap (λ c. left_of c (all_done w m)) e

    spent_settles_nothing : is_spent w m ≡ true → settling w.tables (undone w) m.id ≡ []
    spent_settles_nothing e = ap (settling_of w.tables (last_moment (undone w) m.id)) (left_is true e)

    settles_alone : is_spent w m ≡ false → settling w.tables (undone w) m.id ≡ settling w.tables (due_slots w m) m.id
    settles_alone e =
        ap (settling_of w.tables (last_moment (undone w) m.id)) (left_is false e ∙ sym own_run)
        ∙ ap (λ n. settling_of w.tables n (message_after w.tables (due_slots w m) m.id)) moment_is

    own_is : settled_of w.tables (due_slots w m) ≡ if_any (due_slots w m) (settling w.tables (due_slots w m) m.id)
    own_is =
        ap (flat_map (settling w.tables (due_slots w m))) (own_names m.id [] (due_slots w m) (own_slots w m) refl)
        ∙ of_first (settling w.tables (due_slots w m)) m.id (due_slots w m)

    settles_by : (b : Bool) → is_spent w m ≡ b → if_any (due_slots w m) (settling w.tables (undone w) m.id) ≡ (if b then [] else settled_of w.tables (due_slots w m))
    settles_by true e = ap (if_any (due_slots w m)) (spent_settles_nothing e) ∙ none_any (due_slots w m)
    settles_by false e = ap (if_any (due_slots w m)) (settles_alone e) ∙ sym own_is

  -- ---- all messages

  all_spent : (ms : List MsgRow) → AllByRecursion (λ m. find_message w.tables m.id ≡ Some m) ms → AllByRecursion (λ m. is_spent w m ≡ true → settling w.tables (undone w) m.id ≡ []) ms
  all_spent [] found = tt
  all_spent (m ∷ ms) found = (spent_settles_nothing m found.0, all_spent ms found.1)

  each_settles : (ms : List MsgRow) → AllByRecursion (λ m. find_message w.tables m.id ≡ Some m) ms
      → flat_map (λ m. if_any (due_slots w m) (settling w.tables (undone w) m.id)) ms ≡ flat_map (own_settling w) ms
  each_settles [] found = refl
  each_settles (m ∷ ms) found =
      ap (λ cs. cs ++ flat_map (λ m. if_any (due_slots w m) (settling w.tables (undone w) m.id)) ms) (settles_by m found.0 (is_spent w m) refl)
      ∙ ap (λ cs. own_settling w m ++ cs) (each_settles ms found.1)

  -- what is due of all, with what each message settles by its own slots
  pub watched_by_own : watched w ≡ (flat_map (due_slots w) w.tables.messages ++ flat_map (due_purge w) w.tables.messages) ++ flat_map (own_settling w) w.tables.messages
  watched_by_own =
      let ms = w.tables.messages in
      let slots = flat_map (due_slots w) ms in
      let purges = flat_map (due_purge w) ms in
      let G = settling w.tables (undone w) in
      let found = recursion_from_All (λ m. find_message w.tables m.id ≡ Some m) ms (are_in ms distinct) in
      ap (λ cs. (slots ++ purges) ++ cs)
      (ap (flat_map G) (fold-append (λ ns c. with_name ns (named_by c)) [] slots purges)
      ∙ gone_give_nothing G w (named [] slots) ms (all_spent ms found)
      ∙ given_by_each G (due_slots w) (own_slots w) [] ms distinct (fresh_none ms)
      ∙ each_settles ms found)
