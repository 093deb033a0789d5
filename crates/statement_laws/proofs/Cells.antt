-- The record that a payload is has the cells and kinds of its record type.
use Rattle.std.proofs.Common.{◌≡◌, ℕ, List, [], ◌∷◌, Bool, true, false, length, refl, sym, ap, ◌∙◌, subst, Option, Some, None, Ok, Err, ◌==◌, ◌&&◌}
use Rattle.std.specs.Prelude.{find, map, if◌then◌else◌}
use Rattle.std.specs.Option.{option_map_or, option_or}
use Rattle.std.specs.Str.{bytes_eq}
use Rattle.std.specs.Ordering.{nat_cmp, is_lt, is_eq}
use Rattle.std.specs.Cmp.Lexicographic.{slice_cmp, nat_list_cmp_total, nat_list_eq_equiv, bytes_decides}
use Rattle.std.specs.declared.cmp.Ordering.{Ordering}
use Rattle.std.specs.declared.cmp.Ordering.TheVariants.{Less, Equal, Greater}
use Rattle.std.proofs.lemmas.Bool.{cond_both, and_parts, and_from, eq-eqb, false≢true}
use Rattle.std.proofs.lemmas.List.{length-map}
use Rattle.std.proofs.lemmas.Option.{none-some}
use Rattle.std.proofs.lemmas.Map.Text.{is_eq-slice_cmp}
use Rattle.payload_records.specs.Order.{are_ascending, is_below_first, is_in_order}
use Rattle.payload_records.specs.Record.{value_fault, member_fault, first_fault, datum_of, cell_of, cells_of, record_unless, record_of}
use Rattle.payload_records.specs.declared.kind.Kind.{Kind}
use Rattle.payload_records.specs.declared.kind.Kind.TheVariants as kinds
use Rattle.payload_records.specs.declared.kind.Field.{Field}
use Rattle.payload_records.specs.declared.payload.Loose.{Loose}
use Rattle.payload_records.specs.declared.payload.Loose.TheVariants as loose
use Rattle.payload_records.specs.declared.payload.Member.{Member}
use Rattle.payload_records.specs.declared.payload.Payload.{Payload}
use Rattle.payload_records.specs.declared.payload.Payload.TheVariants as payloads
use Rattle.payload_records.specs.declared.record.Datum.{Datum}
use Rattle.payload_records.specs.declared.record.Datum.TheVariants as data_of
use Rattle.payload_records.specs.declared.record.PayloadFault.{PayloadFault}
use Rattle.payload_records.specs.declared.record.PayloadFault.TheVariants as faults
use Rattle.payload_records.specs.declared.record.Record.{Record}
use Rattle.queue_rows.specs.Valid.{is_of_kind, are_of_kinds}
use Rattle.row_laws.proofs.Finding.{find-yes, find-no, found_is}
use Rattle.statement_laws.proofs.Among.{Each, each_map, each_both}

-- ---- fields in the order of their names

less_is : (o : Ordering) → is_lt o ≡ true → o ≡ Less
less_is Less h = refl
less_is Equal h = absurd (false≢true h)
less_is Greater h = absurd (false≢true h)

abbrev Below : Field → Field → Type 0
Below f g = slice_cmp nat_cmp f.name g.name ≡ Less

below_all : (f : Field) (fs : List Field) → is_below_first f.name (map (λ g. g.name) fs) ≡ true → are_ascending (map (λ g. g.name) fs) ≡ true → Each (Below f) fs
below_all f [] h k = tt
below_all f (g ∷ fs) h k =
    let p = and_parts (is_below_first g.name (map (λ x. x.name) fs)) (are_ascending (map (λ x. x.name) fs)) k in
    let here : Below f g = less_is (slice_cmp nat_cmp f.name g.name) h in
    (here, each_map (Below g) (Below f) (λ x e. nat_list_cmp_total.trans f.name g.name x.name here e) fs (below_all g fs p.0 p.1))

is_less_apart : (f g : Field) → Below f g → bytes_eq f.name g.name ≡ false
is_less_apart f g e = sym (is_eq-slice_cmp f.name g.name) ∙ ap is_eq e

-- each is the first of its name
abbrev pub IsFirstIn : List Field → Field → Type 0
IsFirstIn fields f = find (λ g. bytes_eq g.name f.name) fields ≡ Some f

each_first : (fs : List Field) → are_ascending (map (λ g. g.name) fs) ≡ true → Each (IsFirstIn fs) fs
each_first [] h = tt
each_first (f ∷ fs) h =
    let p = and_parts (is_below_first f.name (map (λ x. x.name) fs)) (are_ascending (map (λ x. x.name) fs)) h in (
      find-yes (λ g. bytes_eq g.name f.name) f fs (nat_list_eq_equiv.refl f.name),
      each_both (Below f) (IsFirstIn fs) (IsFirstIn (f ∷ fs)) (λ x e k. find-no (λ g. bytes_eq g.name x.name) f fs (is_less_apart f x e) ∙ k) fs (below_all f fs p.0 p.1) (each_first fs p.1),
    )

-- ---- values

some_fault : {A : Type 0} (fault : PayloadFault) → Some fault ≡ None → A
some_fault fault e = absurd (none-some fault (sym e))

text_if : (name text : List ℕ) (b : Bool) → (if b then None else Some (faults.WrongKind name)) ≡ None → b ≡ true
text_if name text true e = refl
text_if name text false e = some_fault (faults.WrongKind name) e

value_right : (kind : Kind) (name : List ℕ) (v : Loose) → value_fault kind name v ≡ None → is_of_kind kind (datum_of v) ≡ true
value_right kind name loose.Null e = refl
value_right kinds.Num name (loose.Num n) e = refl
value_right kinds.Text name (loose.Num n) e = some_fault (faults.WrongKind name) e
value_right kinds.Num name (loose.Text text) e = ap (λ b. is_of_kind kinds.Num (if b then data_of.Null else data_of.Text text)) (text_if name text (length text == 0) e)
value_right kinds.Text name (loose.Text text) e = cond_both (length text == 0) data_of.Null (data_of.Text text) (λ x. is_of_kind kinds.Text x ≡ true) (λ _. refl) (λ _. refl)
value_right kind name loose.Other e = some_fault (faults.WrongKind name) e

-- ---- members

or_none : (a b : Option PayloadFault) → option_or a b ≡ None → (a ≡ None) × (b ≡ None)
or_none None b e = (refl, e)
or_none (Some x) b e = some_fault x e

faultless_step : (fields : List Field) (p : Member → Bool) (m : Member) (ms : List Member) (x : Member) (b : Bool) → p m ≡ b → member_fault fields m ≡ None → find p (m ∷ ms) ≡ Some x → (find p ms ≡ Some x → member_fault fields x ≡ None) → member_fault fields x ≡ None
faultless_step fields p m ms x true e h g ih = let s : Some m ≡ Some x = sym (find-yes p m ms e) ∙ g in let same : m ≡ x = cc in subst (λ y. member_fault fields y ≡ None) same h
faultless_step fields p m ms x false e h g ih = ih (sym (find-no p m ms e) ∙ g)

faultless : (fields : List Field) (p : Member → Bool) (ms : List Member) (x : Member) → first_fault fields ms ≡ None → find p ms ≡ Some x → member_fault fields x ≡ None
faultless fields p [] x h g = absurd (none-some x g)
faultless fields p (m ∷ ms) x h g =
    let q = or_none (member_fault fields m) (first_fault fields ms) h in
    faultless_step fields p m ms x (p m) refl q.0 g (λ k. faultless fields p ms x q.1 k)

-- what is found is of the kind
found_key : (name : List ℕ) (ms : List Member) (x : Member) → find (λ m. bytes_eq m.key name) ms ≡ Some x → x.key ≡ name
found_key name ms x e = (bytes_decides x.key name).0 (found_is (λ m. bytes_eq m.key name) ms x e)

module _ (fields : List Field) (members : List Member) (clean : first_fault fields members ≡ None) where
  cell_by : (f : Field) (o : Option Member) → find (λ m. bytes_eq m.key f.name) members ≡ o → IsFirstIn fields f → is_of_kind f.kind (option_map_or (λ m. datum_of m.value) o data_of.Null) ≡ true
  cell_by f None e h = refl
  cell_by f (Some m) e h =
      let key : m.key ≡ f.name = found_key f.name members m e in
      let first : find (λ g. bytes_eq g.name m.key) fields ≡ Some f = ap (λ k. find (λ g. bytes_eq g.name k) fields) key ∙ h in
      let fine : member_fault fields m ≡ None = faultless fields (λ x. bytes_eq x.key f.name) members m clean e in
      value_right f.kind f.name m.value (sym (ap (λ o. option_map_or (λ g. value_fault g.kind g.name m.value) o (Some (faults.UnknownField m.key))) first) ∙ fine)

  cell_right : (f : Field) → IsFirstIn fields f → is_of_kind f.kind (cell_of members f.name) ≡ true
  cell_right f h = cell_by f (find (λ m. bytes_eq m.key f.name) members) refl h

  kinds_right : (fs : List Field) → Each (IsFirstIn fields) fs → are_of_kinds fs (cells_of fs members) ≡ true
  kinds_right [] h = refl
  kinds_right (f ∷ fs) h = and_from (is_of_kind f.kind (cell_of members f.name)) (are_of_kinds fs (cells_of fs members)) (cell_right f h.0) (kinds_right fs h.1)

-- ---- records

unless_ok : (o : Option PayloadFault) (cells : List Datum) (r : Record) → record_unless o cells ≡ Ok r → (o ≡ None) × (r.cells ≡ cells)
unless_ok None cells r e = let s : record { cells = cells } ≡ r = cc in (refl, ap (λ x. x.cells) (sym s))
unless_ok (Some fault) cells r e = absurd (let no : Err fault ≡ Ok r = e in cc)

pub cells_right : (fields : List Field) (payload : Payload) (r : Record) → is_in_order fields ≡ true → record_of fields payload ≡ Ok r → (length r.cells == length fields && are_of_kinds fields r.cells) ≡ true
cells_right fields payloads.NotObject r h e = absurd (let no : Err faults.NotObject ≡ Ok r = e in cc)
cells_right fields (payloads.Members members) r h e =
    let p = unless_ok (first_fault fields members) (cells_of fields members) r e in
    ap (λ x. length x == length fields && are_of_kinds fields x) p.1
    ∙ and_from (length (cells_of fields members) == length fields) (are_of_kinds fields (cells_of fields members))
    (eq-eqb (length (cells_of fields members)) (length fields) (length-map fields (λ f. cell_of members f.name)))
    (kinds_right fields members p.0 fields (each_first fields h))
