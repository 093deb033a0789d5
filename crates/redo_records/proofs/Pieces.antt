-- Data, rules, fields and the like are read exactly as they are spelled.
use Rattle.std.proofs.Common.{◌≡◌, ℕ, Bool, cond, eqb, List, [], ◌∷◌, ◌++◌, Option, Some, None, refl, sym, ap, subst, ◌∙◌, append_assoc}
use Rattle.std.specs.Prelude.{ℤ, option_map, option_and_then, Result, Ok, Err}
use Rattle.std.specs.Str.{bytes_eq}
use Rattle.std.proofs.lemmas.Option.{cond_some, same_Some}
use Rattle.std.proofs.lemmas.Slice.Eq.{bytes_eq-Decides}
use Rattle.payload_records.specs.declared.kind.Field.{Field}
use Rattle.payload_records.specs.declared.kind.Kind.{Kind}
use Rattle.payload_records.specs.declared.kind.Kind.TheVariants as kinds
use Rattle.payload_records.specs.declared.props.Prop.{Prop}
use Rattle.payload_records.specs.declared.record.Datum.{Datum}
use Rattle.payload_records.specs.declared.record.Datum.TheVariants as data_of
use Rattle.place_keys.specs.declared.sort_list.Column.{Column}
use Rattle.place_keys.specs.declared.sort_list.Column.TheVariants as columns
use Rattle.rule_conditions.specs.Print.{print}
use Rattle.rule_conditions.specs.Reading.{condition_of}
use Rattle.rule_conditions.specs.declared.condition.Cond.{Cond}
use Rattle.queue_rows.specs.declared.rows.QueueKind.{QueueKind}
use Rattle.queue_rows.specs.declared.rows.QueueKind.TheVariants as queue_kinds
use Rattle.queue_rows.specs.declared.rows.SlotState.{SlotState}
use Rattle.queue_rows.specs.declared.rows.SlotState.TheVariants as states
use Rattle.redo_journal.specs.Num.{run}
use Rattle.redo_records.specs.Laws.{IsBytes}
use Rattle.redo_records.specs.Reading.{choice_at, kind_of, column_of, queue_kind_of, state_of, rule_at, rule_of, if_printed, datum_at, datum_by, field_at, prop_at}
use Rattle.redo_records.specs.Spelled.{IsName, IsText, IsDatum, IsProp, IsRule}
use Rattle.redo_records.specs.Spelling.{kind, column, queue_kind, state, rule, datum, field, prop}
use Rattle.redo_records.proofs.Exact.{Takes, join, Exact, then, IsBytes-rest}
use Rattle.redo_records.proofs.Fields.{branch, map_some, choice_exact, name_exact, text_exact, full_text_exact, int_exact}

-- the rest of a reader, behind a field that is there
pub again_then : {A B : Type 0} {read : List ℕ → Option (A × List ℕ)} {spell : A → List ℕ} {Is : A → Type 0} → Exact A read spell Is → (f : A × List ℕ → Option B) (a : A) (rest : List ℕ) → Is a → (y : Option B)
    → f (a, rest) ≡ y → option_and_then f (read (spell a ++ rest)) ≡ y
again_then exact f a rest is y e = ap (option_and_then f) (exact.again a rest is) ∙ e

-- ---- kinds

kind_byte : (b : ℕ) (k : Kind) → kind_of b ≡ Some k → kind k ≡ b ∷ []
kind_byte b k e =
    branch b 0 (Some kinds.Num) (cond (eqb b 1) (Some kinds.Text) None) k e (λ is at. rw (is, ← same_Some kinds.Num k at) refl) (λ rest.
    branch b 1 (Some kinds.Text) None k rest (λ is at. rw (is, ← same_Some kinds.Text k at) refl) (λ none. absurd cc))

kind_again : (k : Kind) (rest : List ℕ) → choice_at kind_of (kind k ++ rest) ≡ Some (k, rest)
kind_again kinds.Num rest = refl
kind_again kinds.Text rest = refl

pub kind_exact : Exact Kind (choice_at kind_of) kind (λ _. Unit {0})
kind_exact = choice_exact kind_of kind kind_byte kind_again

-- ---- fields

field_takes : (bytes : List ℕ) (x : Field × List ℕ) → IsBytes bytes → field_at bytes ≡ Some x → Takes bytes (field x.0) x.1 × IsName x.0.name
field_takes bytes x fits e =
    then name_exact bytes fits _ x e (λ name t0 i0 e0.
    then kind_exact name.1 t0.rest_fits _ x e0 (λ k t1 i1 e1.
    subst (λ (y : Field × List ℕ). Takes bytes (field y.0) y.1 × IsName y.0.name) (same_Some (record { name = name.0; kind = k.0 }, k.1) x e1) (join t0 t1, i0)))

field_again : (f : Field) (rest : List ℕ) → IsName f.name → field_at (field f ++ rest) ≡ Some (f, rest)
field_again f rest is =
    ap field_at (append_assoc (run f.name) (kind f.kind) rest) ∙
    again_then name_exact _ f.name (kind f.kind ++ rest) is _ (again_then kind_exact _ f.kind rest tt _ refl)

pub field_exact : Exact Field field_at field (λ f. IsName f.name)
field_exact = record { takes = field_takes; again = field_again }

-- ---- data

-- what stands behind a tag
pub tagged : {A D P : Type 0} {read : List ℕ → Option (A × List ℕ)} {spell : A → List ℕ} {Is : A → Type 0} → Exact A read spell Is → (n tag : ℕ) (rest : List ℕ) (made : A → D) (x : D × List ℕ) → tag ≡ n → IsBytes (tag ∷ rest)
    → option_map (λ a. (made a.0, a.1)) (read rest) ≡ Some x → ((a : A × List ℕ) → Takes (tag ∷ rest) (n ∷ spell a.0) a.1 → Is a.0 → (made a.0, a.1) ≡ x → P) → P
tagged {A = A} {read = read} {spell = spell} exact n tag rest made x same fits e k =
    map_some (λ (a : A × List ℕ). (made a.0, a.1)) (read rest) x e (λ a h g.
    let t = exact.takes rest a (IsBytes-rest tag rest fits) h in
    k a (record { parts = ap (λ (b : ℕ). b ∷ rest) same ∙ ap (λ (text : List ℕ). n ∷ text) t.0.parts; rest_fits = t.0.rest_fits }) t.1 g)

datum_by_takes : (tag : ℕ) (rest : List ℕ) (x : Datum × List ℕ) → IsBytes (tag ∷ rest) → datum_by tag rest ≡ Some x → Takes (tag ∷ rest) (datum x.0) x.1 × IsDatum x.0
datum_by_takes tag rest x fits e =
    branch tag 0 _ _ x e (λ is at.
    subst (λ (y : Datum × List ℕ). Takes (tag ∷ rest) (datum y.0) y.1 × IsDatum y.0) (same_Some (data_of.Null, rest) x at)
    (record { parts = ap (λ (b : ℕ). b ∷ rest) is; rest_fits = IsBytes-rest tag rest fits }, tt)) (λ e1.
    branch tag 1 _ _ x e1 (λ is at. tagged int_exact 1 tag rest (λ n. data_of.Num n) x is fits at (λ a t i g.
    subst (λ (y : Datum × List ℕ). Takes (tag ∷ rest) (datum y.0) y.1 × IsDatum y.0) g (t, i))) (λ e2.
    branch tag 2 _ _ x e2 (λ is at. tagged full_text_exact 2 tag rest (λ text. data_of.Text text) x is fits at (λ a t i g.
    subst (λ (y : Datum × List ℕ). Takes (tag ∷ rest) (datum y.0) y.1 × IsDatum y.0) g (t, i))) (λ none. absurd cc)))

datum_takes : (bytes : List ℕ) (x : Datum × List ℕ) → IsBytes bytes → datum_at bytes ≡ Some x → Takes bytes (datum x.0) x.1 × IsDatum x.0
datum_takes [] x fits e = absurd cc
datum_takes (tag ∷ rest) x fits e = datum_by_takes tag rest x fits e

datum_again : (d : Datum) (rest : List ℕ) → IsDatum d → datum_at (datum d ++ rest) ≡ Some (d, rest)
datum_again data_of.Null rest is = refl
datum_again (data_of.Num n) rest is = ap (option_map (λ (a : ℤ × List ℕ). (data_of.Num a.0, a.1))) (int_exact.again n rest is)
datum_again (data_of.Text text) rest is = ap (option_map (λ (a : List ℕ × List ℕ). (data_of.Text a.0, a.1))) (full_text_exact.again text rest is)

pub datum_exact : Exact Datum datum_at datum IsDatum
datum_exact = record { takes = datum_takes; again = datum_again }

-- ---- properties

prop_takes : (bytes : List ℕ) (x : Prop × List ℕ) → IsBytes bytes → prop_at bytes ≡ Some x → Takes bytes (prop x.0) x.1 × IsProp x.0
prop_takes bytes x fits e =
    then name_exact bytes fits _ x e (λ name t0 i0 e0.
    then datum_exact name.1 t0.rest_fits _ x e0 (λ value t1 i1 e1.
    subst (λ (y : Prop × List ℕ). Takes bytes (prop y.0) y.1 × IsProp y.0) (same_Some (record { name = name.0; value = value.0 }, value.1) x e1) (join t0 t1, record { name = i0; value = i1 })))

prop_again : (p : Prop) (rest : List ℕ) → IsProp p → prop_at (prop p ++ rest) ≡ Some (p, rest)
prop_again p rest is =
    ap prop_at (append_assoc (run p.name) (datum p.value) rest) ∙
    again_then name_exact _ p.name (datum p.value ++ rest) is.name _ (again_then datum_exact _ p.value rest is.value _ refl)

pub prop_exact : Exact Prop prop_at prop IsProp
prop_exact = record { takes = prop_takes; again = prop_again }

-- ---- rules

printed_is : (text : List ℕ) (r : Result Cond ℕ) (c : Cond) → if_printed text r ≡ Some c → (r ≡ Ok c) × (print c ≡ text)
printed_is text (Ok d) c e =
    let g = cond_some (bytes_eq (print d) text) d c e in
    (ap (λ (x : Cond). Ok x) g.1, ap print (sym g.1) ∙ (bytes_eq-Decides (print d) text).0 g.0)
printed_is text (Err at) c e = absurd cc

rule_takes : (bytes : List ℕ) (x : Cond × List ℕ) → IsBytes bytes → rule_at bytes ≡ Some x → Takes bytes (rule x.0) x.1 × IsRule x.0
rule_takes bytes x fits e =
    then text_exact bytes fits _ x e (λ text t i e1.
    map_some (λ (c : Cond). (c, text.1)) (rule_of text.0) x e1 (λ c h g.
    let p = printed_is text.0 (condition_of text.0) c h in
    let taken : Takes bytes (rule c) text.1 = subst (λ (w : List ℕ). Takes bytes (run w) text.1) (sym p.1) t in
    let is_text : IsText (print c) = subst IsText (sym p.1) i in
    let read_again : condition_of (print c) ≡ Ok c = subst (λ (w : List ℕ). condition_of w ≡ Ok c) (sym p.1) p.0 in
    subst (λ (y : Cond × List ℕ). Takes bytes (rule y.0) y.1 × IsRule y.0) g (taken, (is_text, read_again))))

rule_again : (c : Cond) (rest : List ℕ) → IsRule c → rule_at (rule c ++ rest) ≡ Some (c, rest)
rule_again c rest is =
    again_then text_exact _ (print c) rest is.0 _
    (ap (λ (r : Result Cond ℕ). option_map (λ (d : Cond). (d, rest)) (if_printed (print c) r)) is.1
    ∙ ap (λ (b : Bool). option_map (λ (d : Cond). (d, rest)) (cond b (Some c) None)) ((bytes_eq-Decides (print c) (print c)).1 refl))

pub rule_exact : Exact Cond rule_at rule IsRule
rule_exact = record { takes = rule_takes; again = rule_again }

-- ---- columns, kinds of queues, states

column_byte : (b : ℕ) (k : Column) → column_of b ≡ Some k → column k ≡ b ∷ []
column_byte b k e =
    branch b 0 _ _ k e (λ is at. rw (is, ← same_Some columns.Priority k at) refl) (λ e1.
    branch b 1 _ _ k e1 (λ is at. rw (is, ← same_Some columns.EnqTime k at) refl) (λ e2.
    branch b 2 _ _ k e2 (λ is at. rw (is, ← same_Some columns.CommitTime k at) refl) (λ none. absurd cc)))

column_again : (k : Column) (rest : List ℕ) → choice_at column_of (column k ++ rest) ≡ Some (k, rest)
column_again columns.Priority rest = refl
column_again columns.EnqTime rest = refl
column_again columns.CommitTime rest = refl

pub column_exact : Exact Column (choice_at column_of) column (λ _. Unit {0})
column_exact = choice_exact column_of column column_byte column_again

queue_kind_byte : (b : ℕ) (k : QueueKind) → queue_kind_of b ≡ Some k → queue_kind k ≡ b ∷ []
queue_kind_byte b k e =
    branch b 0 _ _ k e (λ is at. rw (is, ← same_Some queue_kinds.Normal k at) refl) (λ e1.
    branch b 1 _ _ k e1 (λ is at. rw (is, ← same_Some queue_kinds.Exception k at) refl) (λ none. absurd cc))

queue_kind_again : (k : QueueKind) (rest : List ℕ) → choice_at queue_kind_of (queue_kind k ++ rest) ≡ Some (k, rest)
queue_kind_again queue_kinds.Normal rest = refl
queue_kind_again queue_kinds.Exception rest = refl

pub queue_kind_exact : Exact QueueKind (choice_at queue_kind_of) queue_kind (λ _. Unit {0})
queue_kind_exact = choice_exact queue_kind_of queue_kind queue_kind_byte queue_kind_again

state_byte : (b : ℕ) (k : SlotState) → state_of b ≡ Some k → state k ≡ b ∷ []
state_byte b k e =
    branch b 0 _ _ k e (λ is at. rw (is, ← same_Some states.Ready k at) refl) (λ e1.
    branch b 1 _ _ k e1 (λ is at. rw (is, ← same_Some states.Waiting k at) refl) (λ e2.
    branch b 2 _ _ k e2 (λ is at. rw (is, ← same_Some states.Processed k at) refl) (λ e3.
    branch b 3 _ _ k e3 (λ is at. rw (is, ← same_Some states.Expired k at) refl) (λ e4.
    branch b 4 _ _ k e4 (λ is at. rw (is, ← same_Some states.Dropped k at) refl) (λ none. absurd cc)))))

state_again : (k : SlotState) (rest : List ℕ) → choice_at state_of (state k ++ rest) ≡ Some (k, rest)
state_again states.Ready rest = refl
state_again states.Waiting rest = refl
state_again states.Processed rest = refl
state_again states.Expired rest = refl
state_again states.Dropped rest = refl

pub state_exact : Exact SlotState (choice_at state_of) state (λ _. Unit {0})
state_exact = choice_exact state_of state state_byte state_again
