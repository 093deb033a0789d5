-- What printing puts behind a text, and what stands before and behind a printed part.
use Rattle.std.specs.Prelude.{◌≡◌, ◌++◌, ℕ, List, [], Bool, String, string_bytes, codes}
use Rattle.std.specs.declared.alloc.Global.{Global}
use Rattle.rule_conditions.specs.Print.{Form, Alternatives, Together, Single, sum_text, cmp_text, null_text, like_text, quoted}
use Rattle.rule_conditions.specs.declared.condition.Cmp.{Cmp}
use Rattle.rule_conditions.specs.declared.condition.Sum.{Sum}

-- the text has these bytes more, behind what it had
abbrev pub Appends : String Global → String Global → List ℕ → Type 0
Appends old new bytes = string_bytes new ≡ string_bytes old ++ bytes

abbrev pub comparison_text : Sum → Cmp → Sum → List ℕ
comparison_text left how right = sum_text left ++ (cmp_text how ++ sum_text right)

abbrev pub null_test_text : Sum → Bool → List ℕ
null_test_text sum not_null = sum_text sum ++ null_text not_null

abbrev pub like_test_text : Sum → Bool → List ℕ → List ℕ
like_test_text sum not_like pattern = sum_text sum ++ (like_text not_like ++ quoted pattern)

-- what opens a part of OR
abbrev pub opening_in_any : Form → List ℕ
opening_in_any Alternatives = codes "("
opening_in_any Together = []
opening_in_any Single = []

-- what closes a part of OR
abbrev pub closing_in_any : Form → List ℕ
closing_in_any Alternatives = codes ")"
closing_in_any Together = []
closing_in_any Single = []

-- what opens a part of AND or NOT
abbrev pub opening_in_all : Form → List ℕ
opening_in_all Alternatives = codes "("
opening_in_all Together = codes "("
opening_in_all Single = []

-- what closes a part of AND or NOT
abbrev pub closing_in_all : Form → List ℕ
closing_in_all Alternatives = codes ")"
closing_in_all Together = codes ")"
closing_in_all Single = []
