use Rattle.std.proofs.Common.{◌≡◌, ◌++◌, string_bytes}
use Rattle.std.specs.Str.{encode_utf8_all}
use Rattle.rule_conditions.specs.Print.{doubled}
use Rattle.rule_text.proofs.printer.put_doubled.Given as goal

-- the characters so far are put in
abbrev pub invariant-loop-character : goal.invariant-loop-character
invariant-loop-character l = string_bytes l.out ≡ string_bytes l.initial.out ++ encode_utf8_all (doubled l.yielded)
