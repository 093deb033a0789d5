-- A mark that nobody else holds, and for which there is room, is taken.
use Rattle.std.proofs.Common.{◌≡◌, ◌<◌, ℕ, Bool, true, false, List, inl, inr, refl, sym, arith, ◌∙◌}
use Rattle.std.specs.Prelude.{IsTrue}
use Rattle.slot_marks.specs.Marks.{SessionMarks, spare_of, IsFreeFor, IsOtherHolder}
use Rattle.slot_marks.specs.declared.mark.Mark.{Mark}
use Rattle.row_locks.specs.declared.locks.LockFault.{LockFault}
use Rattle.row_locks.specs.declared.locks.LockFault.TheVariants.{Held, Memory}

not_both : (b : Bool) → IsTrue b → b ≡ false → ⊥
not_both b holds fails = let t : b ≡ true = holds in absurd (let e : true ≡ false = sym t ∙ fails in cc)

none_else : (locks : List SessionMarks) (session : ℕ) (mark : Mark) (other : ℕ) → IsFreeFor locks session mark → IsOtherHolder locks session mark other → ⊥
none_else locks session mark other free holder = elim holder.holds [
  | inl slot ↦ not_both _ slot (free.slot other holder.is_other)
  | inr group ↦ not_both _ group.1 (free.group other holder.is_other)
]

pub no_fault : (locks : List SessionMarks) (session : ℕ) (mark : Mark) (fault : LockFault) → IsFreeFor locks session mark → 0 < spare_of locks session
    → ((other : ℕ) → fault ≡ Held other → IsOtherHolder locks session mark other) → (fault ≡ Memory → spare_of locks session ≡ 0) → ⊥
no_fault locks session mark (Held other) free room held memory = none_else locks session mark other free (held other refl)
no_fault locks session mark Memory free room held memory = let e : spare_of locks session ≡ 0 = memory refl in omega (arith, room, e)
