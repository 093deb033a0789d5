-- To whom a message is shown: it stands for the nameless consumer that is shown it, and for those to whom a slot of it is offered.
use Rattle.std.proofs.Common.{◌≡◌, ◌≢◌, ℕ, Bool, true, false, cond, List, [], ◌∷◌, Option, Some, None, refl, sym, ap, ◌∙◌, ◌||◌, ◌&&◌}
use Rattle.std.proofs.lemmas.Bool.{and_parts}
use Rattle.std.proofs.lemmas.Cmp.{tied_itself}
use Rattle.std.proofs.lemmas.Slice.Eq.{bytes_eq-Decides}
use Rattle.std.specs.Prelude.{is_none}
use Rattle.std.specs.List.{list_any}
use Rattle.std.specs.Option.{option_map_or}
use Rattle.std.specs.Ordering.{is_eq}
use Rattle.std.specs.Str.{bytes_eq}
use Rattle.std.specs.declared.cmp.Ordering.{Ordering}
use Rattle.std.specs.declared.cmp.Ordering.TheVariants.{Less, Equal, Greater}
use Rattle.queue_rows.specs.Session.{is_same_consumer}
use Rattle.queue_rows.specs.Settling.{is_ready}
use Rattle.queue_rows.specs.Dequeueing.{is_local_for}
use Rattle.queue_rows.specs.declared.rows.MsgRow.{MsgRow}
use Rattle.queue_rows.specs.declared.rows.SlotRow.{SlotRow}
use Rattle.sort_index.specs.Ready.{is_of, key, names_cmp}
use Rattle.sort_index.specs.ReadyLaws.{group_cmp_total, names_exact}
use Rattle.choice_laws.specs.Entries.{shows, stands_for}
use Rattle.ready_slots.specs.Shown.{is_any_offered, is_nameless, is_offered, offered_to}

pub is_Equal : (o : Ordering) → is_eq o ≡ true → o ≡ Equal
is_Equal Less e = cc e
is_Equal Equal e = refl
is_Equal Greater e = cc e

pub or_true : (a b : Bool) → b ≡ true → (a || b) ≡ true
or_true true b e = refl
or_true false b e = e

pub any_weaker : {T : Type 0} (p q : T → Bool) → ((x : T) → p x ≡ true → q x ≡ true) → (xs : List T) → list_any p xs ≡ true → list_any q xs ≡ true
any_weaker p q h [] e = cc e
any_weaker p q h (x ∷ xs) e =
    let P : Bool → Type 0 = λ b. p x ≡ b → (b || list_any p xs) ≡ true → (q x || list_any q xs) ≡ true in
    elim (p x) as P [
      | true ↦ λ px some. ap (λ b. b || list_any q xs) (h x px)
      | false ↦ λ px rest. or_true (q x) (list_any q xs) (any_weaker p q h xs rest)
    ] refl e

pub same_name : (a : Option (List ℕ)) (name : List ℕ) → is_same_consumer a (Some name) ≡ true → a ≡ Some name
same_name None name e = cc e
same_name (Some x) name e = ap Some ((bytes_eq-Decides x name).0 e)

pub own_names : (q : List ℕ) (c : Option (List ℕ)) → is_of q c (key q c) ≡ true
own_names q c = ap is_eq (tied_itself group_cmp_total (key q c))

same_truth : (a b : Bool) → (a ≡ true → b ≡ true) → (b ≡ true → a ≡ true) → a ≡ b
same_truth true b f g = sym (f refl)
same_truth false true f g = g refl
same_truth false false f g = refl

and_true : (a b : Bool) → a ≡ true → b ≡ true → (a && b) ≡ true
and_true true b e f = f
and_true false b e f = e

any_gives : {T : Type 0} (p : T → Bool) (G : Type 0) → ((x : T) → p x ≡ true → G) → (xs : List T) → list_any p xs ≡ true → G
any_gives p G h [] e = cc e
any_gives p G h (x ∷ xs) e =
    let P : Bool → Type 0 = λ b. p x ≡ b → (b || list_any p xs) ≡ true → G in
    elim (p x) as P [ true ↦ λ px some. h x px | false ↦ λ px rest. any_gives p G h xs rest ] refl e

-- what it means that a slot of a message in the queue is offered to a consumer
record IsOffered (queue q : List ℕ) (c : Option (List ℕ)) (s : SlotRow) : Type 0 where
  local : is_none s.address ≡ true
  ready : is_ready s.state ≡ true
  queue_is : queue ≡ q
  name_is : s.name ≡ c
  named : c ≢ None

offered_means : (queue q : List ℕ) (c : Option (List ℕ)) (s : SlotRow) → is_offered queue q c s ≡ true → IsOffered queue q c s
offered_means queue q c s e =
    let own : Option (List ℕ) → Bool = λ o. option_map_or (λ name. is_of q c (key queue (Some name))) o false in
    let named : (o : Option (List ℕ)) → own o ≡ true → (queue ≡ q) × (o ≡ c) × (c ≢ None) =
    elim [
      | None ↦ λ f. cc f
      | Some name ↦ λ f.
          let same = names_exact queue (Some name) q c (is_Equal (names_cmp queue (Some name) q c) f) in
          (same.0, same.1, λ none. let both : Some name ≡ None = same.1 ∙ none in cc both)
    ] in
    let P : Bool → Type 0 = λ b. (is_none s.address && is_ready s.state) ≡ b → own (cond b s.name None) ≡ true → IsOffered queue q c s in
    elim (is_none s.address && is_ready s.state) as P [
      | true ↦ λ so f.
          let parts = and_parts (is_none s.address) (is_ready s.state) so in
          let it = named s.name f in
          record { local = parts.0; ready = parts.1; queue_is = it.0; name_is = it.1; named = it.2 }
      | false ↦ λ so f. cc f
    ] refl e

module _ (q : List ℕ) (m : MsgRow) where
  here : m.queue ≡ q → bytes_eq m.queue q ≡ true
  here same = (bytes_eq-Decides m.queue q).1 same

  offered_where_standing : (c : Option (List ℕ)) → stands_for q c m ≡ true → (is_nameless m q c || is_any_offered m.queue m.slots q c) ≡ true
  offered_where_standing None stands =
      let parts = and_parts (bytes_eq m.queue q) (shows m None) stands in
      let same = (bytes_eq-Decides m.queue q).0 parts.0 in
      let own : is_of q None (key m.queue None) ≡ true = ap (λ x. is_of q None (key x None)) same ∙ own_names q None in
      ap (λ b. b || is_any_offered m.queue m.slots q None) (and_true (shows m None) (is_of q None (key m.queue None)) parts.1 own)
  offered_where_standing (Some name) stands =
      let parts = and_parts (bytes_eq m.queue q) (shows m (Some name)) stands in
      let same = (bytes_eq-Decides m.queue q).0 parts.0 in
      let offered : (s : SlotRow) → (is_local_for name s && is_ready s.state) ≡ true → is_offered m.queue q (Some name) s ≡ true =
      λ s offers.
      let both = and_parts (is_local_for name s) (is_ready s.state) offers in
      let local = and_parts (is_same_consumer s.name (Some name)) (is_none s.address) both.0 in
      let open_to : offered_to s ≡ Some name = ap (λ b. cond b s.name None) (and_true (is_none s.address) (is_ready s.state) local.1 both.1) ∙ same_name s.name name local.0 in
      ap (λ o. option_map_or (λ n. is_of q (Some name) (key m.queue (Some n))) o false) open_to
      ∙ ap (λ x. is_of q (Some name) (key x (Some name))) same ∙ own_names q (Some name) in
      or_true (is_nameless m q (Some name)) (is_any_offered m.queue m.slots q (Some name))
      (any_weaker (λ (s : SlotRow). is_local_for name s && is_ready s.state) (is_offered m.queue q (Some name)) offered m.slots parts.1)

  standing_where_nameless : (c : Option (List ℕ)) → is_nameless m q c ≡ true → stands_for q c m ≡ true
  standing_where_nameless c e =
      let parts = and_parts (shows m None) (is_of q c (key m.queue None)) e in
      let same = names_exact m.queue None q c (is_Equal (names_cmp m.queue None q c) parts.1) in
      and_true (bytes_eq m.queue q) (shows m c) (here same.0) (ap (shows m) (sym same.1) ∙ parts.0)

  standing_where_offered : (c : Option (List ℕ)) → is_any_offered m.queue m.slots q c ≡ true → stands_for q c m ≡ true
  standing_where_offered None e = any_gives (is_offered m.queue q None) (stands_for q None m ≡ true) (λ s o. absurd ((offered_means m.queue q None s o).named refl)) m.slots e
  standing_where_offered (Some name) e =
      let c : Option (List ℕ) = Some name in
      let same = any_gives (is_offered m.queue q c) (m.queue ≡ q) (λ s o. (offered_means m.queue q c s o).queue_is) m.slots e in
      let offers : (s : SlotRow) → is_offered m.queue q c s ≡ true → (is_local_for name s && is_ready s.state) ≡ true =
      λ s o.
      let it = offered_means m.queue q c s o in
      let named : is_same_consumer s.name (Some name) ≡ true = ap (λ n. is_same_consumer n (Some name)) it.name_is ∙ (bytes_eq-Decides name name).1 refl in
      and_true (is_local_for name s) (is_ready s.state) (and_true (is_same_consumer s.name (Some name)) (is_none s.address) named it.local) it.ready in
      and_true (bytes_eq m.queue q) (shows m c) (here same)
      (any_weaker (is_offered m.queue q c) (λ (s : SlotRow). is_local_for name s && is_ready s.state) offers m.slots e)

  -- it stands for the nameless consumer that is shown it, and for those to whom a slot of it is offered
  pub stands_where_put : (c : Option (List ℕ)) → (is_nameless m q c || is_any_offered m.queue m.slots q c) ≡ stands_for q c m
  stands_where_put c =
      let b = is_any_offered m.queue m.slots q c in
      let P : Bool → Type 0 = λ a. is_nameless m q c ≡ a → (a || b) ≡ true → stands_for q c m ≡ true in
      same_truth (is_nameless m q c || b) (stands_for q c m)
      (λ either. (elim (is_nameless m q c) as P [ true ↦ λ so f. standing_where_nameless c so | false ↦ λ so f. standing_where_offered c f ]) refl either)
      (offered_where_standing c)
