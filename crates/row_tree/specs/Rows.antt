-- The rows of a tree.
use Rattle.std.specs.Prelude.{List, [], ◌++◌, Option, Some, None, IsSome, Box}
use Rattle.std.specs.Option.{option_to_list}
use Rattle.std.specs.declared.alloc.Global.{Global}
use Rattle.row_tree.specs.declared.tree.Fork.{Fork}

-- the rows below a root, from the left to the right
abbrev pub rows : {T : Type 0} → Option (Box (Fork T) Global) → List T
rows None = []
rows (Some fork) = fork.value.left ++ (option_to_list fork.value.row ++ fork.value.right)

-- the root has a row
abbrev pub IsWhole : {T : Type 0} → Option (Box (Fork T) Global) → Type 0
IsWhole None = Unit {0}
IsWhole (Some fork) = IsSome fork.value.row
