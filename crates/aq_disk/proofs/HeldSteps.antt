-- What is held stays in order where one call more is kept.
use Rattle.std.proofs.Common.{◌≡◌, ℕ, ◌+◌, ◌≤◌, ◌^◌, Bool, true, false, cond, ◌&&◌, List, [], ◌∷◌, ◌++◌, length, Vec, refl, sym, ◌∙◌, ap, subst, arith}
use Rattle.std.specs.Prelude.{nat_le}
use Rattle.std.specs.declared.alloc.Global.{Global}
use Rattle.std.proofs.lemmas.Grind.{common_steps}
use Rattle.aq_disk.specs.Disk.{after_write}
use Rattle.aq_disk.specs.Kept.{all_filled, step_filled, in_place, step_in_place, length_after}
use Rattle.aq_disk.specs.Left.{all_filled-append, length-new, length-after_write, first_in_place, rest_in_place}
use Rattle.aq_disk.specs.declared.kept.Kept.{Kept}
use Rattle.aq_disk.specs.declared.kept.Step.TheVariants.{Write, Sync}
use Rattle.aq_disk.specs.declared.kept.Fill.TheVariants.{New}

both : (a b : Bool) → a ≡ true → b ≡ true → (a && b) ≡ true
both true b h g = g
both false b h g = h

-- one more in place on the bytes that the others leave
in_place_push : (bytes : List ℕ) (xs : List Kept) (k : Kept) → in_place (length bytes) xs ≡ true → step_in_place (length (all_filled New bytes xs)) k.step ≡ true → in_place (length bytes) (xs ++ k ∷ []) ≡ true
in_place_push bytes [] k h last = both (step_in_place (length bytes) k.step) true last refl
in_place_push bytes (x ∷ xs) k h last =
    let first = first_in_place (length bytes) x xs h in
    let same = length-new bytes x.step first in
    let rest = in_place_push (step_filled New bytes x.step) xs k (subst (λ (n : ℕ). in_place n xs ≡ true) (sym same) (rest_in_place (length bytes) x xs h)) last in
    both (step_in_place (length bytes) x.step) (in_place (length_after (length bytes) x.step) (xs ++ k ∷ [])) first (subst (λ (n : ℕ). in_place n (xs ++ k ∷ []) ≡ true) same rest)

le_test : (a b : ℕ) → a ≤ b → nat_le a b ≡ true
le_test a b le = grind (arith, common_steps)

module _ (start bytes : List ℕ) (kept new : List Kept) (as_kept : bytes ≡ all_filled New start kept) (placed : in_place (length start) kept ≡ true) (call : ℕ) where
  module _ (at : ℕ) (from : Vec ℕ Global) (adds : new ≡ kept ++ record { call = call; step = Write at from } ∷ []) where
    pub write_as_kept : (after : List ℕ) → after ≡ after_write at from.items bytes → after ≡ all_filled New start new
    write_as_kept after is =
        is ∙ ap (after_write at from.items) as_kept ∙ sym (all_filled-append New start kept (record { call = call; step = Write at from } ∷ [])) ∙ ap (all_filled New start) (sym adds)

    pub write_in_place : at ≤ length bytes → in_place (length start) new ≡ true
    write_in_place le =
        subst (λ (l : List Kept). in_place (length start) l ≡ true) (sym adds)
        (in_place_push start kept (record { call = call; step = Write at from }) placed (le_test at (length (all_filled New start kept)) (subst (λ (b : List ℕ). at ≤ length b) as_kept le)))

-- a sync that was kept, or found no memory
pub sync_as_kept : (start bytes : List ℕ) (kept new : List Kept) → bytes ≡ all_filled New start kept → (call : ℕ) (found : Bool) → new ≡ cond found (kept ++ record { call = call; step = Sync } ∷ []) kept → bytes ≡ all_filled New start new
sync_as_kept start bytes kept new as_kept call true adds = as_kept ∙ sym (all_filled-append New start kept (record { call = call; step = Sync } ∷ [])) ∙ ap (all_filled New start) (sym adds)
sync_as_kept start bytes kept new as_kept call false same = as_kept ∙ ap (all_filled New start) (sym same)

pub sync_in_place : (start : List ℕ) (kept new : List Kept) → in_place (length start) kept ≡ true → (call : ℕ) (found : Bool) → new ≡ cond found (kept ++ record { call = call; step = Sync } ∷ []) kept → in_place (length start) new ≡ true
sync_in_place start kept new placed call true adds =
    subst (λ (l : List Kept). in_place (length start) l ≡ true) (sym adds) (in_place_push start kept (record { call = call; step = Sync }) placed refl)
sync_in_place start kept new placed call false same = subst (λ (l : List Kept). in_place (length start) l ≡ true) (sym same) placed

pub write_in_limit : (at : ℕ) (from bytes after : List ℕ) → after ≡ after_write at from bytes → at ≤ length bytes → at + length from ≤ 2 ^ 62 → length bytes ≤ 2 ^ 62 → length after ≤ 2 ^ 62
write_in_limit at from bytes after is le most short = omega (arith, ap length is, length-after_write at from bytes le)
