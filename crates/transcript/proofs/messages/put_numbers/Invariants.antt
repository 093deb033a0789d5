use Rattle.std.proofs.Common.{◌≡◌, ◌++◌, drop, string_bytes}
use Rattle.std.specs.Fmt.{signed_decimal}
use Rattle.transcript.specs.Messages.{numbers_text}
use Rattle.transcript.proofs.Joined.{left_text}
use Rattle.transcript.proofs.messages.put_numbers.Given as goal

abbrev pub invariant-loop-number : goal.invariant-loop-number
invariant-loop-number l =
    string_bytes l.out ++ left_text l.later signed_decimal (drop l.number-index l.numbers) ≡ string_bytes l.fn.out ++ numbers_text l.numbers
