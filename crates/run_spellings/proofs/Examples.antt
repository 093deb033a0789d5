-- The examples are so by computation.
use Rattle.std.proofs.Common.{◌≡◌, ◌++◌, ℕ, List, [], ◌∷◌, Ok, refl, ap, ◌∙◌}
use Rattle.std.specs.Prelude.{codes}
use Rattle.std.specs.Char.{encode_utf8}
use Rattle.std.specs.Str.{chars, is_utf8}
use Rattle.std.proofs.lemmas.Bool.{false≢true}
use Rattle.rule_conditions.specs.Print.{print, sum_text, cmp_text}
use Rattle.rule_conditions.specs.Reading.{condition_of}
use Rattle.rule_conditions.specs.declared.condition.Atom.TheVariants as atoms
use Rattle.rule_conditions.specs.declared.condition.Cmp.TheVariants as cmps
use Rattle.rule_conditions.specs.declared.condition.Cond.TheVariants.{rolls-Compare}
use Rattle.rule_text.proofs.PrintEquations.{print_compare}
use Rattle.run_spellings.specs.Examples.{example_sum, correlates, ExampleData, ExampleRules}

-- ---- rules

printed_is : print (correlates (codes "a")) ≡ codes "tab.corrid = 'a'"
unfolding chars encode_utf8
printed_is =
    let text = example_sum (atoms.Text (codes "a")) in
    print_compare (correlates (codes "a")) (example_sum atoms.Corr) cmps.Equal text (rolls-Compare (example_sum atoms.Corr) cmps.Equal text)

abbrev other_print : List ℕ
other_print = sum_text (example_sum atoms.Corr) ++ (cmp_text cmps.Equal ++ sum_text (example_sum (atoms.Text (255 ∷ []))))

other_is : print (correlates (255 ∷ [])) ≡ other_print
other_is =
    let text = example_sum (atoms.Text (255 ∷ [])) in
    print_compare (correlates (255 ∷ [])) (example_sum atoms.Corr) cmps.Equal text (rolls-Compare (example_sum atoms.Corr) cmps.Equal text)

other_read : condition_of other_print ≡ Ok (correlates [])
unfolding condition_of chars encode_utf8
other_read = refl

pub example_rules : ExampleRules
unfolding condition_of is_utf8 chars encode_utf8
example_rules = record {
  read = refl;
  printed = printed_is;
  again = ap condition_of printed_is ∙ refl;
  begins = record { home_rows = record { rules = tt; messages = (record { cells = tt; props = tt }, tt) }; away_rows = record { rules = tt; messages = tt }; rules = refl };
  read_too = refl;
  lost = ap condition_of other_is ∙ other_read;
  not_given = refl;
}

-- ---- data

pub example_data : ExampleData
example_data = record {
  null_cell = record { cells = (tt, tt); props = tt };
  text_cell = record { cells = (refl, tt); props = tt };
  empty_cell = λ h. absurd (false≢true h.cells.0);
  text_property = record { cells = tt; props = (refl, tt) };
  empty_property = λ h. absurd (false≢true h.props.0);
}
