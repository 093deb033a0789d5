-- Which queue and destination a row is put under.
use Rattle.std.proofs.Common.{◌≡◌, ℕ, Bool, true, false, List, ◌∷◌, Some, None, refl, sym, ap, ◌∙◌, ◌||◌, ◌&&◌}
use Rattle.std.proofs.lemmas.Bool.{and_parts}
use Rattle.std.proofs.lemmas.Slice.Eq.{bytes_eq-Decides}
use Rattle.std.specs.List.{list_any}
use Rattle.std.specs.Option.{option_map_or}
use Rattle.std.specs.Str.{bytes_eq}
use Rattle.queue_rows.specs.Propagating.{goes_to}
use Rattle.queue_rows.specs.Settling.{is_ready}
use Rattle.queue_rows.specs.declared.rows.SlotRow.{SlotRow}
use Rattle.sort_index.specs.Ready.{is_of, key, names_cmp}
use Rattle.sort_index.specs.ReadyLaws.{names_exact}
use Rattle.ready_slots.proofs.Standing.{is_Equal, own_names}
use Rattle.remote_slots.specs.Putting.{is_any_for, sent_to}
use Rattle.remote_slots.specs.Remote.{is_any_to, is_ready_to}

same_truth : (a b : Bool) → (a ≡ true → b ≡ true) → (b ≡ true → a ≡ true) → a ≡ b
same_truth true b f g = sym (f refl)
same_truth false true f g = g refl
same_truth false false f g = refl

both : (a b : Bool) → a ≡ true → b ≡ true → (a && b) ≡ true
both true b e f = f
both false b e f = e

-- a row of a queue and destination is that of another exactly where both names are the same
pub names_are : (queue to own address : List ℕ) → is_of queue (Some to) (key own (Some address)) ≡ (bytes_eq own queue && bytes_eq address to)
names_are queue to own address =
    same_truth (is_of queue (Some to) (key own (Some address))) (bytes_eq own queue && bytes_eq address to)
    (λ e.
    let same = names_exact own (Some address) queue (Some to) (is_Equal (names_cmp own (Some address) queue (Some to)) e) in
    let to_is : address ≡ to = let so = same.1 in cc in
    both (bytes_eq own queue) (bytes_eq address to) ((bytes_eq-Decides own queue).1 same.0) ((bytes_eq-Decides address to).1 to_is))
    (λ e.
    let parts = and_parts (bytes_eq own queue) (bytes_eq address to) e in
    let own_is = (bytes_eq-Decides own queue).0 parts.0 in
    let to_is = (bytes_eq-Decides address to).0 parts.1 in
    ap (λ q. is_of queue (Some to) (key q (Some address))) own_is
    ∙ ap (λ a. is_of queue (Some to) (key queue (Some a))) to_is
    ∙ own_names queue (Some to))

spread : (a b c : Bool) → ((a && b) || (a && c)) ≡ (a && (b || c))
spread true b c = refl
spread false b c = refl

and_true : (b : Bool) → (b && true) ≡ b
and_true true = refl
and_true false = refl

and_false : (b : Bool) → (b && false) ≡ false
and_false true = refl
and_false false = refl

-- ---- one slot before others

module _ (queue to own : List ℕ) (s : SlotRow) (rest : List SlotRow) where
  -- it has that destination
  pub for_one : (address : List ℕ) → s.address ≡ Some address
      → (is_of queue (Some to) (key own (Some address)) || is_any_for own queue to rest) ≡ is_any_for own queue to (s ∷ rest)
  for_one address is =
      ap (λ b. b || is_any_for own queue to rest) (names_are queue to own address)
      ∙ spread (bytes_eq own queue) (bytes_eq address to) (list_any (goes_to to) rest)
      ∙ sym (ap (λ o. bytes_eq own queue && (option_map_or (λ a. bytes_eq a to) o false || list_any (goes_to to) rest)) is)

  -- or none
  pub for_none : s.address ≡ None → is_any_for own queue to rest ≡ is_any_for own queue to (s ∷ rest)
  for_none is = sym (ap (λ o. bytes_eq own queue && (option_map_or (λ a. bytes_eq a to) o false || list_any (goes_to to) rest)) is)

  -- it is ready for the destination to which it is sent
  ready_by : is_ready_to to s ≡ option_map_or (λ a. bytes_eq a to) (sent_to s) false
  ready_by = by_state (is_ready s.state) refl
    where
      by_state : (b : Bool) → is_ready s.state ≡ b → is_ready_to to s ≡ option_map_or (λ a. bytes_eq a to) (sent_to s) false
      by_state true is = ap (λ b. goes_to to s && b) is ∙ and_true (goes_to to s) ∙ sym (rw is refl)
      by_state false is = ap (λ b. goes_to to s && b) is ∙ and_false (goes_to to s) ∙ sym (rw is refl)

  pub to_one : (address : List ℕ) → sent_to s ≡ Some address
      → (is_of queue (Some to) (key own (Some address)) || is_any_to own queue to rest) ≡ is_any_to own queue to (s ∷ rest)
  to_one address is =
      let ready : is_ready_to to s ≡ bytes_eq address to = ready_by ∙ ap (λ o. option_map_or (λ a. bytes_eq a to) o false) is in
      ap (λ b. b || is_any_to own queue to rest) (names_are queue to own address)
      ∙ spread (bytes_eq own queue) (bytes_eq address to) (list_any (is_ready_to to) rest)
      ∙ sym (ap (λ b. bytes_eq own queue && (b || list_any (is_ready_to to) rest)) ready)

  pub to_none : sent_to s ≡ None → is_any_to own queue to rest ≡ is_any_to own queue to (s ∷ rest)
  to_none is =
      let ready : is_ready_to to s ≡ false = ready_by ∙ ap (λ o. option_map_or (λ a. bytes_eq a to) o false) is in
      sym (ap (λ b. bytes_eq own queue && (b || list_any (is_ready_to to) rest)) ready)
