-- Which step of propagation comes next.
use Rattle.std.proofs.Common.{◌≡◌, ℕ, List, [], Bool, true, false, refl, sym, ap, ◌∙◌, subst, Option, Some, None}
use Rattle.std.specs.Prelude.{option_map, option_and_then}
use Rattle.std.specs.Option.{option_or}
use Rattle.std.proofs.lemmas.Bool.{true≢false}
use Rattle.std.proofs.lemmas.Option.{none-some}
use Rattle.aq_base.specs.declared.DbId.{DbId}
use Rattle.aq_base.specs.declared.DbId.TheVariants.{Home, Away}
use Rattle.queue_rows.specs.Propagating.{Dispatch, Arriving, arriving, confirming, pick}
use Rattle.queue_rows.specs.declared.change.Change.{Change}
use Rattle.queue_rows.specs.declared.history.SlotRef.{SlotRef}
use Rattle.queue_rows.specs.declared.history.Arrival.TheVariants.{Seen}
use Rattle.queue_rows.specs.World.{other_db, World, Stage, on_its_way, came, Transit, database_at}
use Rattle.queue_rows.specs.Sending.{Sending, offers, arrives, confirms, dispatch_at, slot_at, picked_at, picked, offer_of, arrival_of, confirmation_of, sending_on, sending_of, next_sending}

-- ---- the kinds of steps

abbrev is_offer : Sending → Bool
is_offer (offers at to) = true
is_offer (arrives at a) = false
is_offer (confirms at number cs) = false

abbrev is_arrival : Sending → Bool
is_arrival (offers at to) = false
is_arrival (arrives at a) = true
is_arrival (confirms at number cs) = false

same_of : {X : Type 0} (f : Sending → X) (a b : Sending) → Some a ≡ Some b → f a ≡ f b
same_of f a b e = let k : a ≡ b = cc in ap f k

other_kind : {X : Type 0} (f : Sending → Bool) (a b : Sending) → f a ≡ true → f b ≡ false → Some a ≡ Some b → X
other_kind f a b h g e = absurd (true≢false (sym h ∙ same_of f a b e ∙ g))

-- what is sent on of a stage, by what is dispatched
abbrev sending_with : World → SlotRef → Stage → Option Dispatch → Option Sending
sending_with w slot on_its_way o = option_map (arrival_of w slot) o
sending_with w slot (came number) o = option_map (confirmation_of w slot number) o

-- ---- an offer

-- it is of the slot that one of the databases picks
pub record IsOffered (w : World) (at : SlotRef) (to : List ℕ) : Type 0 where
  pub none : w.transit ≡ None
  pub dispatched : Dispatch
  pub id : ℕ
  pub slot : ℕ
  pub at_is : at ≡ record { db = at.db; id = id; slot = slot }
  pub picked_there : pick (database_at at.db w).tables w.moment ≡ Some (id, slot)
  pub dispatch_is : dispatch_at w at ≡ Some dispatched
  pub to_is : to ≡ dispatched.parcel.to

abbrev pair_of : SlotRef → ℕ × ℕ
pair_of at = (at.id, at.slot)

picked_so : (w : World) (db : DbId) (at : SlotRef) (o : Option (ℕ × ℕ)) → pick (database_at db w).tables w.moment ≡ o → option_map (slot_at db) o ≡ Some at → (at.db ≡ db) × (at ≡ record { db = at.db; id = at.id; slot = at.slot }) × (o ≡ Some (pair_of at))
picked_so w db at None f e = absurd (none-some at e)
picked_so w db at (Some (a, b)) f e =
    let pair : ℕ × ℕ = (a, b) in
    let same : slot_at db pair ≡ at = (let k : Some (slot_at db pair) ≡ Some at = e in cc) in
    subst (λ x. (x.db ≡ db) × (x ≡ record { db = x.db; id = x.id; slot = x.slot }) × (Some pair ≡ Some (pair_of x))) same (refl, refl, refl)

record IsPicked (w : World) (at : SlotRef) : Type 0 where
  at_is : at ≡ record { db = at.db; id = at.id; slot = at.slot }
  picked_there : pick (database_at at.db w).tables w.moment ≡ Some (at.id, at.slot)

picked_here : (w : World) (db : DbId) (at : SlotRef) → picked_at db w ≡ Some at → IsPicked w at
picked_here w db at e =
    let x = picked_so w db at (pick (database_at db w).tables w.moment) refl e in
    record { at_is = x.1; picked_there = ap (λ d. pick (database_at d w).tables w.moment) x.0 ∙ x.2 }

picked_by : (w : World) (at : SlotRef) (o : Option SlotRef) → picked_at Home w ≡ o → option_or o (picked_at Away w) ≡ Some at → IsPicked w at
picked_by w at None f e = picked_here w Away at e
picked_by w at (Some x) f e = picked_here w Home at (f ∙ e)

abbrev slot_of_sending : Sending → SlotRef
slot_of_sending (offers at to) = at
slot_of_sending (arrives at a) = at
slot_of_sending (confirms at number cs) = at

abbrev queue_of_offer : Sending → List ℕ
queue_of_offer (offers at to) = to
queue_of_offer (arrives at a) = []
queue_of_offer (confirms at number cs) = []

abbrev nothing_arrives : Arriving
nothing_arrives = record { outcome = Seen; origin = []; there = [] }

abbrev arriving_of : Sending → Arriving
arriving_of (offers at to) = nothing_arrives
arriving_of (arrives at a) = a
arriving_of (confirms at number cs) = nothing_arrives

abbrev number_of : Sending → ℕ
number_of (offers at to) = 0
number_of (arrives at a) = 0
number_of (confirms at number cs) = number

abbrev changes_of_confirm : Sending → List Change
changes_of_confirm (offers at to) = []
changes_of_confirm (arrives at a) = []
changes_of_confirm (confirms at number cs) = cs

offered_by : (w : World) (at x : SlotRef) (to : List ℕ) (o : Option Dispatch) → w.transit ≡ None → IsPicked w x → dispatch_at w x ≡ o → option_map (λ d. offers x d.parcel.to) o ≡ Some (offers at to) → IsOffered w at to
offered_by w at x to None none p f e = absurd (none-some (offers at to) e)
offered_by w at x to (Some d) none p f e =
    let slot : x ≡ at = same_of slot_of_sending (offers x d.parcel.to) (offers at to) e in
    let queue : d.parcel.to ≡ to = same_of queue_of_offer (offers x d.parcel.to) (offers at to) e in
    let q : IsPicked w at = subst (IsPicked w) slot p in
    record { none = none; dispatched = d; id = at.id; slot = at.slot; at_is = q.at_is; picked_there = q.picked_there; dispatch_is = ap (dispatch_at w) (sym slot) ∙ f; to_is = sym queue }

offered_from : (w : World) (at : SlotRef) (to : List ℕ) (o : Option SlotRef) → w.transit ≡ None → picked w ≡ o → option_and_then (offer_of w) o ≡ Some (offers at to) → IsOffered w at to
offered_from w at to None none f e = absurd (none-some (offers at to) e)
offered_from w at to (Some x) none f e = offered_by w at x to (dispatch_at w x) none (picked_by w x (picked_at Home w) refl f) refl e

no_offer : {X : Type 0} (w : World) (slot at : SlotRef) (to : List ℕ) (stage : Stage) (o : Option Dispatch) → dispatch_at w slot ≡ o → sending_with w slot stage o ≡ Some (offers at to) → X
no_offer w slot at to on_its_way None f e = absurd (none-some (offers at to) e)
no_offer w slot at to on_its_way (Some d) f e = other_kind is_offer (offers at to) (arrival_of w slot d) refl refl (sym e)
no_offer w slot at to (came number) None f e = absurd (none-some (offers at to) e)
no_offer w slot at to (came number) (Some d) f e = other_kind is_offer (offers at to) (confirmation_of w slot number d) refl refl (sym e)

-- what is sent on, by what is dispatched
sending_is : (w : World) (slot : SlotRef) (stage : Stage) → sending_on w slot stage ≡ sending_with w slot stage (dispatch_at w slot)
sending_is w slot on_its_way = refl
sending_is w slot (came number) = refl

offered_if : (w : World) (at : SlotRef) (to : List ℕ) (o : Option Transit) → w.transit ≡ o → sending_of w o ≡ Some (offers at to) → IsOffered w at to
offered_if w at to None f e = offered_from w at to (picked w) f refl e
offered_if w at to (Some t) f e = no_offer w t.slot at to t.stage (dispatch_at w t.slot) refl (sym (sending_is w t.slot t.stage) ∙ e)

pub offered : (w : World) (at : SlotRef) (to : List ℕ) → next_sending w ≡ Some (offers at to) → IsOffered w at to
unfolding next_sending
offered w at to e = offered_if w at to w.transit refl e

-- ---- an arrival

pub record IsArriving (w : World) (at : SlotRef) (a : Arriving) : Type 0 where
  pub sent : w.transit ≡ Some (record { slot = at; stage = on_its_way })
  pub dispatched : Dispatch
  pub dispatch_is : dispatch_at w at ≡ Some dispatched
  pub arriving_is : a ≡ arriving (database_at (other_db at.db) w).tables at dispatched (database_at (other_db at.db) w).next w.moment

-- ---- a confirmation

pub record IsConfirmed (w : World) (at : SlotRef) (number : ℕ) (cs : List Change) : Type 0 where
  pub sent : w.transit ≡ Some (record { slot = at; stage = came number })
  pub dispatched : Dispatch
  pub dispatch_is : dispatch_at w at ≡ Some dispatched
  pub commits : cs ≡ confirming (database_at at.db w).tables at dispatched.schedule w.moment

arriving_by_stage : (w : World) (slot at : SlotRef) (a : Arriving) (stage : Stage) (o : Option Dispatch) → w.transit ≡ Some (record { slot = slot; stage = stage }) → dispatch_at w slot ≡ o → sending_with w slot stage o ≡ Some (arrives at a) → IsArriving w at a
arriving_by_stage w slot at a on_its_way None t f e = absurd (none-some (arrives at a) e)
arriving_by_stage w slot at a on_its_way (Some d) t f e =
    let same : slot ≡ at = same_of slot_of_sending (arrival_of w slot d) (arrives at a) e in
    let there = arriving (database_at (other_db slot.db) w).tables slot d (database_at (other_db slot.db) w).next w.moment in
    let its : there ≡ a = same_of arriving_of (arrival_of w slot d) (arrives at a) e in
    record {
      sent = t ∙ ap (λ x. Some (record { slot = x; stage = on_its_way })) same;
      dispatched = d;
      dispatch_is = ap (dispatch_at w) (sym same) ∙ f;
      arriving_is = sym its ∙ ap (λ x. arriving (database_at (other_db x.db) w).tables x d (database_at (other_db x.db) w).next w.moment) same;
    }
arriving_by_stage w slot at a (came number) None t f e = absurd (none-some (arrives at a) e)
arriving_by_stage w slot at a (came number) (Some d) t f e = other_kind is_arrival (arrives at a) (confirmation_of w slot number d) refl refl (sym e)

confirmed_by_stage : (w : World) (slot at : SlotRef) (number : ℕ) (cs : List Change) (stage : Stage) (o : Option Dispatch) → w.transit ≡ Some (record { slot = slot; stage = stage }) → dispatch_at w slot ≡ o → sending_with w slot stage o ≡ Some (confirms at number cs) → IsConfirmed w at number cs
confirmed_by_stage w slot at number cs on_its_way None t f e = absurd (none-some (confirms at number cs) e)
confirmed_by_stage w slot at number cs on_its_way (Some d) t f e = other_kind is_arrival (arrival_of w slot d) (confirms at number cs) refl refl e
confirmed_by_stage w slot at number cs (came n) None t f e = absurd (none-some (confirms at number cs) e)
confirmed_by_stage w slot at number cs (came n) (Some d) t f e =
    let same : slot ≡ at = same_of slot_of_sending (confirmation_of w slot n d) (confirms at number cs) e in
    let counts : n ≡ number = same_of number_of (confirmation_of w slot n d) (confirms at number cs) e in
    let its : confirming (database_at slot.db w).tables slot d.schedule w.moment ≡ cs = same_of changes_of_confirm (confirmation_of w slot n d) (confirms at number cs) e in
    record {
      sent = t ∙ ap (λ x. Some (record { slot = x; stage = came n })) same ∙ ap (λ k. Some (record { slot = at; stage = came k })) counts;
      dispatched = d;
      dispatch_is = ap (dispatch_at w) (sym same) ∙ f;
      commits = sym its ∙ ap (λ x. confirming (database_at x.db w).tables x d.schedule w.moment) same;
    }

none_offered : {X : Type 0} (w : World) (s : Sending) (o : Option SlotRef) → is_offer s ≡ false → option_and_then (offer_of w) o ≡ Some s → X
none_offered w s None h e = absurd (none-some s e)
none_offered w s (Some x) h e = by (dispatch_at w x) e
  where
    by : {Y : Type 0} (o : Option Dispatch) → option_map (λ d. offers x d.parcel.to) o ≡ Some s → Y
    by None k = absurd (none-some s k)
    by (Some d) k = other_kind is_offer (offers x d.parcel.to) s refl h k

arriving_if : (w : World) (at : SlotRef) (a : Arriving) (o : Option Transit) → w.transit ≡ o → sending_of w o ≡ Some (arrives at a) → IsArriving w at a
arriving_if w at a None f e = none_offered w (arrives at a) (picked w) refl e
arriving_if w at a (Some t) f e = arriving_by_stage w t.slot at a t.stage (dispatch_at w t.slot) f refl (sym (sending_is w t.slot t.stage) ∙ e)

pub arrives_so : (w : World) (at : SlotRef) (a : Arriving) → next_sending w ≡ Some (arrives at a) → IsArriving w at a
unfolding next_sending
arrives_so w at a e = arriving_if w at a w.transit refl e

confirmed_if : (w : World) (at : SlotRef) (number : ℕ) (cs : List Change) (o : Option Transit) → w.transit ≡ o → sending_of w o ≡ Some (confirms at number cs) → IsConfirmed w at number cs
confirmed_if w at number cs None f e = none_offered w (confirms at number cs) (picked w) refl e
confirmed_if w at number cs (Some t) f e = confirmed_by_stage w t.slot at number cs t.stage (dispatch_at w t.slot) f refl (sym (sending_is w t.slot t.stage) ∙ e)

pub confirms_so : (w : World) (at : SlotRef) (number : ℕ) (cs : List Change) → next_sending w ≡ Some (confirms at number cs) → IsConfirmed w at number cs
unfolding next_sending
confirms_so w at number cs e = confirmed_if w at number cs w.transit refl e
