-- One run of disk calls after another.
use Rattle.std.proofs.Common.{◌≡◌, ⊎_elim, inl, inr, ◌⊎◌, ℕ, ◌<◌, ◌≤◌, List, refl, sym, ◌∙◌, ap, subst, arith}
use Rattle.std.specs.Prelude.{Option, Some, None, Result, Ok, Err, OnOk, IfOk, IsSome, option_map}
use Rattle.std.specs.Option.{ForSome}
use Rattle.std.proofs.lemmas.Bool.{cases_lt}
use Rattle.aq_disk.specs.Disk.{Only, IsSettled, SameImages, KeepsEarlier, EachImage}

pub each_then : (from mid to : ℕ) (old new : ℕ → List ℕ → Type 0) (P Q : List ℕ → Type 0) → EachImage from mid old P → KeepsEarlier mid old new → EachImage mid to new Q
    → EachImage from to new (λ image. P image ⊎ Q image)
each_then from mid to old new P Q first earlier second call above below image left =
    ⊎_elim (λ (lt : mid < call). inr (second call (omega arith) below image left)) (λ (le : call ≤ mid). inl (first call above le image ((earlier call le image).0 left))) (cases_lt mid call)

pub each_more : (from to : ℕ) (images : ℕ → List ℕ → Type 0) (P Q : List ℕ → Type 0) → ((image : List ℕ) → P image → Q image) → EachImage from to images P → EachImage from to images Q
each_more from to images P Q more each call above below image left = more image (each call above below image left)

pub some_same : {A : Type 0} (x y : A) → Some x ≡ Some y → x ≡ y
some_same x y is = cc

-- what is told is settled
pub settled_told : (told : Option (List ℕ)) (bytes : List ℕ) (images : List ℕ → Type 0) → told ≡ Some bytes → Only bytes images → IsSettled told images
settled_told told bytes images is only other same = subst (λ (b : List ℕ). Only b images) (some_same bytes other (sym is ∙ same)) only

pub on_ok_all : {T E : Type 0} (r : Result T E) (A B C P : Type 0) → (A → B → C → P) → OnOk r A → OnOk r B → OnOk r C → OnOk r P
on_ok_all (Ok x) A B C P f a b c = f a b c
on_ok_all (Err e) A B C P f a b c = tt

pub each_both : (from mid to : ℕ) (old new : ℕ → List ℕ → Type 0) (P : List ℕ → Type 0) → EachImage from mid old P → KeepsEarlier mid old new → EachImage mid to new P → EachImage from to new P
each_both from mid to old new P first earlier second call above below image left =
    ⊎_elim (λ (p : P image). p) (λ (p : P image). p) (each_then from mid to old new P P first earlier second call above below image left)

-- what is told after a change was told before it
pub told_back : (f : List ℕ → List ℕ) (told : Option (List ℕ)) (after : List ℕ) → option_map f told ≡ Some after → (before : List ℕ) × (told ≡ Some before) × (f before ≡ after)
told_back f None after is = absurd (cc)
told_back f (Some before) after is = (before, refl, some_same (f before) after is)

pub some_told : (told : Option (List ℕ)) → IsSome told → (bytes : List ℕ) × (told ≡ Some bytes)
some_told None is = absurd (cc)
some_told (Some bytes) is = (bytes, refl)

-- a call that leaves bytes and images as they were leaves the disk settled
pub still_settled : (told told' : Option (List ℕ)) (old new : List ℕ → Type 0) → told' ≡ told → SameImages old new → IsSettled told old → IsSettled told' new
still_settled told told' old new same images settled bytes is image left = settled bytes (sym same ∙ is) image ((images image).0 left)

pub if_ok_more : {T E : Type 0} (r : Result T E) (P Q : T → Type 0) → ((x : T) → P x → Q x) → IfOk r P → IfOk r Q
if_ok_more (Ok x) P Q f p = f x p
if_ok_more (Err e) P Q f p = tt

-- what is told, if it is told, is these bytes
pub map_told : (told : Option (List ℕ)) (f g : List ℕ → List ℕ) (bytes : List ℕ) → ForSome told (λ b. b ≡ bytes) → f bytes ≡ g bytes → option_map f told ≡ option_map g told
map_told None f g bytes same is = refl
map_told (Some b) f g bytes same is = let e : b ≡ bytes = same b refl in ap (λ (l : List ℕ). Some (f l)) e ∙ ap (λ (l : List ℕ). Some l) is ∙ ap (λ (l : List ℕ). Some (g l)) (sym e)

pub map_same : (told : Option (List ℕ)) (g : List ℕ → List ℕ) (bytes : List ℕ) → ForSome told (λ b. b ≡ bytes) → g bytes ≡ bytes → told ≡ option_map g told
map_same None g bytes same is = refl
map_same (Some b) g bytes same is = let e : b ≡ bytes = same b refl in ap (λ (l : List ℕ). Some l) (e ∙ sym is) ∙ ap (λ (l : List ℕ). Some (g l)) (sym e)

pub map_after : (f g : List ℕ → List ℕ) (told : Option (List ℕ)) → option_map g (option_map f told) ≡ option_map (λ l. g (f l)) told
map_after f g None = refl
map_after f g (Some b) = refl

pub map_each : (f g : List ℕ → List ℕ) (told : Option (List ℕ)) → ((b : List ℕ) → told ≡ Some b → f b ≡ g b) → option_map f told ≡ option_map g told
map_each f g None same = refl
map_each f g (Some b) same = ap (λ (l : List ℕ). Some l) (same b refl)
