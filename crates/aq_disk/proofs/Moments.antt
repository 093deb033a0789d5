-- How a run of disk calls goes on: what each image of each call number has. For callers over any disk.
use Rattle.std.proofs.Common.{◌≡◌, ⊎_elim, ℕ, ◌+◌, ◌-◌, ◌<◌, ◌≤◌, List, take, drop, sym, ◌∙◌, ap, subst, arith}
use Rattle.std.proofs.lemmas.Bool.{cases_lt}
use Rattle.std.proofs.lemmas.List.{take-take, drop-drop}
use Rattle.std.specs.Prelude.{Option, Some, Result, Ok, Err, OnOk, OnErr}
use Rattle.std.specs.Option.{ForSome}
use Rattle.aq_disk.specs.Left.{torn_none}
use Rattle.aq_disk.specs.Disk.{Torn, Only, Follows, SameImages, KeepsEarlier, EachImage, next_call}

-- before the first call
pub each_here : (calls : ℕ) (images : ℕ → List ℕ → Type 0) (P : List ℕ → Type 0) → ((image : List ℕ) → images calls image → P image) → EachImage calls calls images P
each_here calls images P here call from to image left = here image (subst (λ (n : ℕ). images n image) (omega arith) left)

-- one call more, under the next number, after which each image has P
pub each_on : (from calls calls' : ℕ) (old new : ℕ → List ℕ → Type 0) (P : List ℕ → Type 0) → EachImage from calls old P → KeepsEarlier calls old new → calls' ≡ next_call calls
    → ((image : List ℕ) → new calls' image → P image) → EachImage from calls' new P
each_on from calls calls' old new P so_far earlier number here call above below image left =
    let earlier_call : call ≤ calls → P image = λ le. so_far call above le image ((earlier call le image).0 left) in
    let this_call : calls < call → P image = λ lt. here image (subst (λ (n : ℕ). new n image) (omega (arith, number, lt, below)) left) in
    ⊎_elim this_call earlier_call (cases_lt calls call)

-- a call that leaves the images as they were
pub each_same : (old new : List ℕ → Type 0) (P : List ℕ → Type 0) → ((image : List ℕ) → old image → P image) → SameImages old new → (image : List ℕ) → new image → P image
each_same old new P before same image left = before image ((same image).0 left)

-- a write, also one that failed
pub each_torn : (at n : ℕ) (old new : List ℕ → Type 0) (P Q : List ℕ → Type 0) → ((image : List ℕ) → old image → P image) → ((was image : List ℕ) → P was → Torn at n was image → Q image)
    → Follows (Torn at n) old new → (image : List ℕ) → new image → Q image
each_torn at n old new P Q before torn follows image left =
    let from = follows image left in torn from.0 image (before from.0 from.1) from.2

-- a sync that succeeded
pub each_synced : (bytes : List ℕ) (new : List ℕ → Type 0) (P : List ℕ → Type 0) → P bytes → Only bytes new → (image : List ℕ) → new image → P image
each_synced bytes new P here only image left = subst P (sym (only image left)) here

-- What lies before a torn range stays, and so does what lies behind it.
pub torn_front : (k at n : ℕ) (old new : List ℕ) → k ≤ at → Torn at n old new → take k new ≡ take k old
torn_front k at n old new le torn = sym (take-take k at new le) ∙ ap (take k) torn.before ∙ take-take k at old le

pub torn_back : (k at n : ℕ) (old new : List ℕ) → at + n ≤ k → Torn at n old new → drop k new ≡ drop k old
torn_back k at n old new le torn =
    let from : at + n + (k - (at + n)) ≡ k = omega arith in
    ap (λ (j : ℕ). drop j new) (sym from) ∙ sym (drop-drop (k - (at + n)) (at + n) new) ∙ ap (drop (k - (at + n))) torn.after ∙ drop-drop (k - (at + n)) (at + n) old ∙ ap (λ (j : ℕ). drop j old) from

-- two calls keep what each of them keeps
pub earlier_on : (calls calls' : ℕ) (old mid new : ℕ → List ℕ → Type 0) → KeepsEarlier calls old mid → calls ≤ calls' → KeepsEarlier calls' mid new → KeepsEarlier calls old new
earlier_on calls calls' old mid new first le second call below image = (
  λ left. (first call below image).0 ((second call (omega arith) image).0 left),
  λ left. (second call (omega arith) image).1 ((first call below image).1 left),
)

-- what an answer gives, whichever it is
pub by_answer : {T E : Type 0} (result : Result T E) (A B C : Type 0) → OnOk result A → OnErr result B → (A → C) → (B → C) → C
by_answer (Ok x) A B C a b f g = f a
by_answer (Err e) A B C a b f g = g b

-- a write to a settled disk
pub write_moments : (calls calls' at n : ℕ) (bytes : List ℕ) (old new : ℕ → List ℕ → Type 0) → Only bytes (old calls) → Follows (Torn at n) (old calls) (new calls') → KeepsEarlier calls old new → calls' ≡ next_call calls
    → EachImage calls calls' new (Torn at n bytes)
write_moments calls calls' at n bytes old new only follows earlier number =
    each_on calls calls calls' old new (Torn at n bytes)
    (each_here calls old (Torn at n bytes) (λ image left. subst (Torn at n bytes) (sym (only image left)) (torn_none at n bytes)))
    earlier number
    (each_torn at n (old calls) (new calls') (λ image. image ≡ bytes) (Torn at n bytes) only (λ was image is torn. subst (λ (b : List ℕ). Torn at n b image) is torn) follows)

-- and a sync after it
pub sync_moments : {T E : Type 0} (result : Result T E) (from calls calls' : ℕ) (told : Option (List ℕ)) (bytes : List ℕ) (old new : ℕ → List ℕ → Type 0) (P : List ℕ → Type 0) → EachImage from calls old P → from ≤ calls → told ≡ Some bytes → P bytes
    → OnOk result (ForSome told (λ b. Only b (new calls'))) → OnErr result (SameImages (old calls) (new calls')) → KeepsEarlier calls old new → calls' ≡ next_call calls → EachImage from calls' new P
sync_moments result from calls calls' told bytes old new P so_far le is here durable crash earlier number =
    each_on from calls calls' old new P so_far earlier number
    (by_answer result (ForSome told (λ b. Only b (new calls'))) (SameImages (old calls) (new calls')) ((image : List ℕ) → new calls' image → P image) durable crash
    (λ synced. each_synced bytes (new calls') P here (synced bytes is))
    (λ same. each_same (old calls) (new calls') P (so_far calls le (omega arith)) same))
