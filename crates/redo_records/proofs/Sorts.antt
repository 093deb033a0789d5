-- The test of a sort list.
use Rattle.std.proofs.Common.{◌≡◌, Bool, true, false, List, [], ◌∷◌, refl}
use Rattle.place_keys.specs.SortList.{IsSortList}
use Rattle.place_keys.specs.declared.sort_list.Column.{Column}
use Rattle.place_keys.specs.declared.sort_list.Column.TheVariants.{Priority, EnqTime, CommitTime}
use Rattle.redo_records.specs.Reading.{is_same_column, is_sort_list}
use Rattle.std.specs.Prelude.{not, ◌≢◌}

differ : (a b : Column) → not (is_same_column a b) ≡ true → a ≢ b
differ Priority Priority e = absurd cc
differ Priority EnqTime e = λ same. absurd cc
differ Priority CommitTime e = λ same. absurd cc
differ EnqTime Priority e = λ same. absurd cc
differ EnqTime EnqTime e = absurd cc
differ EnqTime CommitTime e = λ same. absurd cc
differ CommitTime Priority e = λ same. absurd cc
differ CommitTime EnqTime e = λ same. absurd cc
differ CommitTime CommitTime e = absurd cc

told_apart : (a b : Column) → a ≢ b → not (is_same_column a b) ≡ true
told_apart Priority Priority h = absurd (h refl)
told_apart Priority EnqTime h = refl
told_apart Priority CommitTime h = refl
told_apart EnqTime Priority h = refl
told_apart EnqTime EnqTime h = absurd (h refl)
told_apart EnqTime CommitTime h = refl
told_apart CommitTime Priority h = refl
told_apart CommitTime EnqTime h = refl
told_apart CommitTime CommitTime h = absurd (h refl)

pub is_sort_list_to : (columns : List Column) → is_sort_list columns ≡ true → IsSortList columns
is_sort_list_to [] e = absurd cc
is_sort_list_to (first ∷ []) e = tt
is_sort_list_to (first ∷ second ∷ []) e = differ first second e
is_sort_list_to (first ∷ second ∷ third ∷ more) e = absurd cc

pub is_sort_list_from : (columns : List Column) → IsSortList columns → is_sort_list columns ≡ true
is_sort_list_from [] is = absurd is
is_sort_list_from (first ∷ []) is = refl
is_sort_list_from (first ∷ second ∷ []) is = told_apart first second is
is_sort_list_from (first ∷ second ∷ third ∷ more) is = absurd is

no_test : (b : Bool) → (b ≡ true → ⊥) → b ≡ false
no_test true h = absurd (h refl)
no_test false h = refl

pub no_sort_list : (columns : List Column) → (IsSortList columns → ⊥) → is_sort_list columns ≡ false
no_sort_list columns none = no_test (is_sort_list columns) (λ e. none (is_sort_list_to columns e))
