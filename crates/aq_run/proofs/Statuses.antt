-- The status of a run.
use Rattle.std.proofs.Common.{◌≡◌, ◌⊎◌, inl, inr, ℕ, Bool, true, false, refl, sym, ◌∙◌, subst, arith}
use Rattle.std.specs.Prelude.{◌==◌, if◌then◌else◌}
use Rattle.aq_world.specs.declared.mount.MountCause.{MountCause}
use Rattle.aq_world.specs.declared.mount.MountCause.TheVariants as causes
use Rattle.aq_run.specs.Outcomes.{IsRun, IsStatusOf, IsStopped}
use Rattle.aq_run.specs.Played.{status_of}
use Rattle.aq_run.specs.declared.play.RunEnd.{RunEnd}
use Rattle.aq_run.specs.declared.play.RunEnd.TheVariants as ends

abbrev halted : Bool → ℕ
halted b = if b then 4 else 5

halted_known : (b : Bool) → IsRun (halted b) ⊎ ((halted b ≡ 4) ⊎ (halted b ≡ 5))
halted_known true = inr (inl refl)
halted_known false = inr (inr refl)

no_run : {P : Type 0} (b : Bool) → IsRun (halted b) → P
no_run true is = absurd (omega (arith, is))
no_run false is = absurd (omega (arith, is))

no_four : {P : Type 0} → IsRun 4 → P
no_four is = absurd (omega (arith, is))

known_as : (written : ℕ) → IsRun written ⊎ (written ≡ 4) → IsRun written ⊎ ((written ≡ 4) ⊎ (written ≡ 5))
known_as written (inl run) = inl run
known_as written (inr e) = inr (inl e)

known_at : (end : RunEnd) (written : ℕ) → IsRun written ⊎ (written ≡ 4) → IsRun (status_of end written) ⊎ ((status_of end written ≡ 4) ⊎ (status_of end written ≡ 5))
known_at ends.Whole written k = known_as written k
known_at ends.Halted written k = halted_known (written == 4)
known_at ends.Memory written k = inr (inl refl)

pub status_known : (end : RunEnd) (written s : ℕ) → s ≡ status_of end written → IsRun written ⊎ (written ≡ 4) → IsRun s ⊎ ((s ≡ 4) ⊎ (s ≡ 5))
status_known end written s e k = subst (λ x. IsRun x ⊎ ((x ≡ 4) ⊎ (x ≡ 5))) (sym e) (known_at end written k)

ran_at : (end : RunEnd) (written : ℕ) → IsRun (status_of end written) → (end ≡ ends.Whole) × (status_of end written ≡ written)
ran_at ends.Whole written is = (refl, refl)
ran_at ends.Halted written is = no_run (written == 4) is
ran_at ends.Memory written is = no_four is

-- who has the status of a run came to its end, and wrote so
pub status_ran : (end : RunEnd) (written s : ℕ) → s ≡ status_of end written → IsRun s → (end ≡ ends.Whole) × (written ≡ s)
status_ran end written s e is = let r = ran_at end written (subst IsRun e is) in (r.0, sym r.1 ∙ sym e)

not_five : {P : Type 0} (written : ℕ) → IsRun written ⊎ (written ≡ 4) → written ≡ 5 → P
not_five written known is = absurd (omega (arith, known, is))

not_written : (b : Bool) (written : ℕ) → (written == 4) ≡ b → halted b ≡ 5 → written ≡ 4 → ⊥
not_written true written e is = λ _. omega (arith, is)
not_written false written e is = λ four. (let no : true ≡ false = sym (eqb-refl written four) ∙ e in cc)
  where
    eqb-refl : (n : ℕ) → n ≡ 4 → (n == 4) ≡ true
    eqb-refl n h = subst (λ m. (m == 4) ≡ true) (sym h) refl

halted_at : (end : RunEnd) (written : ℕ) → IsRun written ⊎ (written ≡ 4) → status_of end written ≡ 5 → (end ≡ ends.Halted) × (written ≡ 4 → ⊥)
halted_at ends.Whole written k is = not_five written k is
halted_at ends.Halted written k is = (refl, not_written (written == 4) written refl is)
halted_at ends.Memory written k is = absurd (omega (arith, is))

-- who has that of a failed disk was halted, and had memory to print what was done
pub status_halted : (end : RunEnd) (written s : ℕ) → s ≡ status_of end written → IsRun written ⊎ (written ≡ 4) → s ≡ 5 → (end ≡ ends.Halted) × (written ≡ 4 → ⊥)
status_halted end written s e k is = halted_at end written k (sym e ∙ is)

-- where nothing was mounted, it is 4, 5 or 6
pub stopped_of : (cause : MountCause) (s : ℕ) → IsStatusOf cause s → IsStopped s
stopped_of (causes.Fault db) s e = inr (inl e)
stopped_of (causes.Damaged db offset) s (inl e) = inr (inr e)
stopped_of (causes.Damaged db offset) s (inr e) = inl e
stopped_of causes.Memory s e = inl e
