-- What a tree's rows are once its root is known.
use Rattle.std.proofs.Common.{◌≡◌, ◌+◌, List, ◌∷◌, ◌++◌, length, Option, Some, IsSome, Box, sym, ap, ◌∙◌, subst, arith}
use Rattle.std.specs.Option.{option_to_list}
use Rattle.std.specs.declared.alloc.Global.{Global}
use Rattle.std.proofs.lemmas.List.{length-append}
use Rattle.row_tree.specs.declared.tree.Fork.{Fork}
use Rattle.row_tree.specs.Rows.{rows, IsWhole}

pub record AtRoot {T : Type 0} (xs l : List T) (k : T) (r : List T) : Type 0 where
  pub is : xs ≡ l ++ (k ∷ r)
  pub count : length xs ≡ length l + (1 + length r)

pub at_root : {T : Type 0} {root : Option (Box (Fork T) Global)} {fork : Box (Fork T) Global} {node : Fork T} {k : T} {xs : List T}
    → rows root ≡ xs → root ≡ Some fork → node ≡ fork.value → node.row ≡ Some k → AtRoot xs node.left k node.right
at_root {T} {root} {fork} {node} {k} {xs} view is here row =
    let e : xs ≡ node.left ++ (k ∷ node.right) =
    sym view ∙ ap rows is ∙ ap (λ (n : Fork T). n.left ++ (option_to_list n.row ++ n.right)) (sym here) ∙ ap (λ (o : Option T). node.left ++ (option_to_list o ++ node.right)) row in
    let long = length-append node.left (k ∷ node.right) in
    record { is = e; count = rw e (omega arith) }

-- the root's row is there, and its sides make the tree
pub root_row : {T : Type 0} {root : Option (Box (Fork T) Global)} {fork : Box (Fork T) Global} {node : Fork T} → IsWhole root → root ≡ Some fork → node ≡ fork.value → IsSome node.row
root_row whole is here = subst (λ n. IsSome n.row) (sym here) (subst IsWhole is whole)

pub root_rows : {T : Type 0} {root : Option (Box (Fork T) Global)} {fork : Box (Fork T) Global} {node : Fork T} {xs : List T}
    → rows root ≡ xs → root ≡ Some fork → node ≡ fork.value → node.left ++ (option_to_list node.row ++ node.right) ≡ xs
root_rows {T} {root} {fork} {node} {xs} view is here = ap (λ (n : Fork T). n.left ++ (option_to_list n.row ++ n.right)) here ∙ sym (ap rows is) ∙ view
