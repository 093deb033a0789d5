-- Properties that are taken from members with ascending keys have ascending names, and values.
use Rattle.std.proofs.Common.{◌≡◌, ℕ, List, [], ◌∷◌, map, Some, None, Bool, true, false, ◌&&◌, cond, refl, length}
use Rattle.std.specs.Prelude.{nat_le}
use Rattle.std.specs.Cmp.Lexicographic.{nat_list_cmp_total}
use Rattle.std.specs.List.{list_all, filter_map}
use Rattle.payload_records.specs.Order.{is_below_first, are_ascending}
use Rattle.payload_records.specs.Props.{is_value, are_props, is_prop_member, prop_of, props_of}
use Rattle.payload_records.specs.Record.{datum_of}
use Rattle.payload_records.specs.declared.TheConstants.{PROP_LIMIT}
use Rattle.payload_records.specs.declared.payload.Member.{Member}
use Rattle.payload_records.specs.declared.props.Prop.{Prop}
use Rattle.payload_records.proofs.Json.{both, less}

abbrev keys : List Member → List (List ℕ)
keys ms = map (λ m. m.key) ms

abbrev names : List Member → List (List ℕ)
names ms = map (λ p. p.name) (filter_map prop_of ms)

-- without the second key they still ascend
skip : (low key : List ℕ) (rest : List (List ℕ)) → are_ascending (low ∷ key ∷ rest) ≡ true → are_ascending (low ∷ rest) ≡ true
skip low key [] h = refl
skip low key (next ∷ rest) h =
    let p = both (is_below_first low (key ∷ next ∷ rest)) (are_ascending (key ∷ next ∷ rest)) h in
    let q = both (is_below_first key (next ∷ rest)) (are_ascending (next ∷ rest)) p.1 in
    rw (nat_list_cmp_total.trans low key next (less _ p.0) (less _ q.0)) q.1

below_step : (low : List ℕ) (m : Member) (ms : List Member) (b : Bool) → is_value (datum_of m.value) ≡ b → are_ascending (low ∷ m.key ∷ keys ms) ≡ true
    → are_ascending (m.key ∷ names ms) ≡ true → (are_ascending (low ∷ keys ms) ≡ true → are_ascending (low ∷ names ms) ≡ true)
    → are_ascending (low ∷ names (m ∷ ms)) ≡ true
below_step low m ms true e h from_key from_low = rw (e, (both (is_below_first low (m.key ∷ keys ms)) (are_ascending (m.key ∷ keys ms)) h).0) from_key
below_step low m ms false e h from_key from_low = rw e (from_low (skip low m.key (keys ms) h))

behind : (low : List ℕ) (ms : List Member) → are_ascending (low ∷ keys ms) ≡ true → are_ascending (low ∷ names ms) ≡ true
behind low [] h = refl
behind low (m ∷ ms) h =
    below_step low m ms (is_value (datum_of m.value)) refl h
    (behind m.key ms (both (is_below_first low (m.key ∷ keys ms)) (are_ascending (m.key ∷ keys ms)) h).1) (behind low ms)

first_step : (m : Member) (ms : List Member) (b : Bool) → is_value (datum_of m.value) ≡ b → are_ascending (m.key ∷ names ms) ≡ true → are_ascending (names ms) ≡ true
    → are_ascending (names (m ∷ ms)) ≡ true
first_step m ms true e from_key others = rw e from_key
first_step m ms false e from_key others = rw e others

names_ascend : (ms : List Member) → are_ascending (keys ms) ≡ true → are_ascending (names ms) ≡ true
names_ascend [] h = refl
names_ascend (m ∷ ms) h =
    first_step m ms (is_value (datum_of m.value)) refl (behind m.key ms h) (names_ascend ms (both (is_below_first m.key (keys ms)) (are_ascending (keys ms)) h).1)

values_step : (m : Member) (ms : List Member) (b : Bool) → is_value (datum_of m.value) ≡ b → list_all (λ p. is_value p.value) (filter_map prop_of ms) ≡ true
    → list_all (λ p. is_value p.value) (filter_map prop_of (m ∷ ms)) ≡ true
values_step m ms true e others = rw (e, e) others
values_step m ms false e others = rw e others

have_values : (ms : List Member) → list_all (λ p. is_value p.value) (filter_map prop_of ms) ≡ true
have_values [] = refl
have_values (m ∷ ms) = values_step m ms (is_value (datum_of m.value)) refl (have_values ms)

taken : (b : Bool) (found props : List Prop) → cond b (Some found) None ≡ Some props → props ≡ found
taken true found props e = cc
taken false found props e = cc

pub props_are_in_order : (ms : List Member) (props : List Prop) → are_ascending (map (λ m. m.key) ms) ≡ true → props_of ms ≡ Some props → are_props props ≡ true
props_are_in_order ms props h e =
    let whole : props ≡ filter_map prop_of ms = taken (nat_le (length ms) PROP_LIMIT && list_all is_prop_member ms) (filter_map prop_of ms) props e in
    rw (whole, names_ascend ms h) (have_values ms)
