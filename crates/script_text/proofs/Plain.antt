-- What a plain statement says of members that it has not.
use Rattle.std.proofs.Common.{◌≡◌, ℕ, List, Bool, true, false, ◌||◌, Option, Some, None, refl, ap, ◌∙◌}
use Rattle.std.specs.Prelude.{codes, is_some, option_and_then}
use Rattle.std.specs.Str.{bytes_eq}
use Rattle.std.specs.Ordering.{nat_cmp, match_ordering, is_eq}
use Rattle.std.specs.Cmp.Lexicographic.{slice_cmp}
use Rattle.std.specs.declared.cmp.Ordering.{Ordering}
use Rattle.std.specs.declared.cmp.Ordering.TheVariants.{Less, Equal, Greater}
use Rattle.std.proofs.lemmas.Bool.{false_from_ne_true}
use Rattle.std.proofs.lemmas.Map.Text.{is_eq-slice_cmp}
use Rattle.std.proofs.lemmas.Slice.Eq.{bytes_eq-Decides}
use Rattle.serde_json.specs.Data.{Data, null, boolean, number, string, array, object, Members, no_members, member}
use Rattle.serde_json.specs.Find.{get, get_member}
use Rattle.script_text.specs.declared.form.Form.{Form}
use Rattle.script_text.specs.declared.form.Form.TheVariants.{Asking, PlainDequeue}
use Rattle.script_text.specs.declared.form.Verb.TheVariants.{Dequeue}
use Rattle.script_text.specs.Line.{line_from, asking}
use Rattle.script_text.specs.Plain as plain
use Rattle.script_text.specs.Plain.{plain_line, plain_asking, visibility_given}
use Rattle.script_text.specs.Form.{is_key_of, only_keys, some_if, has_form}
use Rattle.script_text.specs.Statement.{placing_at, enqueue, dequeue, plain_dequeue, statement}
use Rattle.script_text.proofs.Tests.{both, joined}

-- ---- what it lacks

passed_over : (o : Ordering) (d : Data) (later : Option Data) → is_eq o ≡ false → match_ordering o later (Some d) later ≡ later
passed_over Less d later h = refl
passed_over Equal d later h = absurd cc
passed_over Greater d later h = refl

differ : (form : Form) (k l : List ℕ) → is_key_of form k ≡ false → is_key_of form l ≡ true → bytes_eq k l ≡ false
differ form k l lacks has =
    false_from_ne_true (bytes_eq k l) (λ same. let e : is_key_of form k ≡ is_key_of form l = ap (is_key_of form) ((bytes_eq-Decides k l).0 same) in cc)

absent : (form : Form) (k : List ℕ) → is_key_of form k ≡ false → (ms : Members) → only_keys form ms ≡ true → get_member k ms ≡ None
absent form k lacks no_members only = refl
absent form k lacks (member l d ms) only =
    let parts = both (is_key_of form l) (only_keys form ms) only in
    let differs = differ form k l lacks parts.0 in
    passed_over (slice_cmp nat_cmp k l) d (get_member k ms) (is_eq-slice_cmp k l ∙ differs) ∙ absent form k lacks ms parts.1

some_only : (b : Bool) (ms : Members) → is_some (some_if b ms) ≡ true → b ≡ true
some_only true ms e = refl
some_only false ms e = absurd cc

-- a member of another form is not there
lacks : (form : Form) (k : List ℕ) → is_key_of form k ≡ false → (d : Data) → has_form form d ≡ true → get k d ≡ None
lacks form k other null has = refl
lacks form k other (boolean b) has = refl
lacks form k other (number n) has = refl
lacks form k other (string s) has = refl
lacks form k other (array ds) has = refl
lacks form k other (object ms) has = absent form k other ms (some_only (only_keys form ms) ms has)

-- ---- that it asks what a statement asks

wider : (form wide : Form) → ((k : List ℕ) → is_key_of form k ≡ true → is_key_of wide k ≡ true) → (ms : Members) → only_keys form ms ≡ true → only_keys wide ms ≡ true
wider form wide keeps no_members only = refl
wider form wide keeps (member l d ms) only =
    let parts = both (is_key_of form l) (only_keys form ms) only in
    joined (is_key_of wide l) (only_keys wide ms) (keeps l parts.0) (wider form wide keeps ms parts.1)

has_wider : (form wide : Form) → ((k : List ℕ) → is_key_of form k ≡ true → is_key_of wide k ≡ true) → (d : Data) → has_form form d ≡ true → has_form wide d ≡ true
has_wider form wide keeps null has = absurd cc
has_wider form wide keeps (boolean b) has = absurd cc
has_wider form wide keeps (number n) has = absurd cc
has_wider form wide keeps (string s) has = absurd cc
has_wider form wide keeps (array ds) has = absurd cc
has_wider form wide keeps (object ms) has =
    let only = wider form wide keeps ms (some_only (only_keys form ms) ms has) in rw only refl

widened_choice : (s o co na ms cr cd q mo v wa : Bool) → (s || o || q || v) ≡ true
    → (s || o || ((co || na || ms || cr || cd) || (q || mo || v || wa))) ≡ true
widened_choice true o co na ms cr cd q mo v wa h = refl
widened_choice false true co na ms cr cd q mo v wa h = refl
widened_choice false false true na ms cr cd q mo v wa h = refl
widened_choice false false false true ms cr cd q mo v wa h = refl
widened_choice false false false false true cr cd q mo v wa h = refl
widened_choice false false false false false true cd q mo v wa h = refl
widened_choice false false false false false false true q mo v wa h = refl
widened_choice false false false false false false false true mo v wa h = refl
widened_choice false false false false false false false false true v wa h = refl
widened_choice false false false false false false false false false true wa h = refl
widened_choice false false false false false false false false false false wa h = absurd cc

dequeue_keys : (k : List ℕ) → is_key_of PlainDequeue k ≡ true → is_key_of (Asking Dequeue) k ≡ true
dequeue_keys k has =
    widened_choice (bytes_eq k (codes "s")) (bytes_eq k (codes "do"))
    (bytes_eq k (codes "consumer")) (bytes_eq k (codes "navigation")) (bytes_eq k (codes "msgid")) (bytes_eq k (codes "corr")) (bytes_eq k (codes "condition"))
    (bytes_eq k (codes "queue")) (bytes_eq k (codes "mode")) (bytes_eq k (codes "visibility")) (bytes_eq k (codes "wait")) has

pub dequeue_is_asking : (d : Data) → has_form PlainDequeue d ≡ true → has_form (Asking Dequeue) d ≡ true
dequeue_is_asking d has = has_wider PlainDequeue (Asking Dequeue) dequeue_keys d has

-- ---- what it asks

pub dequeue_is_plain : (d : Data) → has_form PlainDequeue d ≡ true → dequeue d ≡ plain_dequeue d
unfolding dequeue plain_dequeue
dequeue_is_plain d has = rw (
  lacks PlainDequeue (codes "mode") refl d has,
  lacks PlainDequeue (codes "navigation") refl d has,
  lacks PlainDequeue (codes "wait") refl d has,
  lacks PlainDequeue (codes "msgid") refl d has,
  lacks PlainDequeue (codes "consumer") refl d has,
  lacks PlainDequeue (codes "corr") refl d has,
  lacks PlainDequeue (codes "condition") refl d has,
) refl

-- ---- a line of plain members

through : {A B C : Type 0} (o : Option A) (g : A → B) (f : B → Option C) → option_and_then f (option_and_then (λ a. Some (g a)) o) ≡ option_and_then (λ a. f (g a)) o
through None g f = refl
through (Some a) g f = refl

ask_is_plain : (p q s : Data) (v : Option Data) → enqueue (plain_line p q s v) ≡ plain.plain_enqueue p q v
unfolding enqueue placing_at plain.plain_enqueue
ask_is_plain p q s None = refl
ask_is_plain p q s (Some d) = through (visibility_given (Some d)) _ _

pub line_is_plain : (p q s : Data) (v : Option Data) → line_from (plain_line p q s v) ≡ plain_asking p q s v
unfolding line_from asking statement plain_asking
line_is_plain p q s None = rw (ask_is_plain p q s None) refl
line_is_plain p q s (Some d) = rw (ask_is_plain p q s (Some d)) refl
