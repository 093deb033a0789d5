-- Each side of a root has fewer rows than both together.
use Rattle.std.specs.Prelude.{◌≡◌, ◌≤◌, ℕ, ◌++◌, length, Option, Some, None, IsSome, Box, refl}
use Rattle.std.specs.Option.{option_to_list}
use Rattle.std.specs.declared.alloc.Global.{Global}
use Rattle.std.proofs.Common.{arith, length-append}
use Rattle.row_tree.specs.declared.tree.Fork.{Fork}
use Rattle.row_tree.specs.declared.tree.Tree.TheDeep.{deep-Tree}
use Rattle.row_tree.specs.Rows.{rows, IsWhole}

pub one_row : {T : Type 0} (row : Option T) → IsSome row → length (option_to_list row) ≡ 1
one_row None some = cc some
one_row (Some x) some = refl

pub sides_are_shorter : {T : Type 0} (root : Option (Box (Fork T) Global)) (count : ℕ) → IsWhole root → deep-Tree T (record { root = root; count = count }) ≤ length (rows root)
sides_are_shorter None count whole = omega arith
sides_are_shorter (Some fork) count whole =
    let l = length-append fork.value.left (option_to_list fork.value.row ++ fork.value.right) in
    let r = length-append (option_to_list fork.value.row) fork.value.right in
    let one = one_row fork.value.row whole in
    omega arith
