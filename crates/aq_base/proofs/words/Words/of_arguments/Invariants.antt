use Rattle.std.proofs.Common.{◌≡◌, take}
use Rattle.aq_base.specs.Words.{words_of_arguments}
use Rattle.aq_base.proofs.words.Words.of_arguments.Given as goal

abbrev pub invariant-loop-argument : goal.invariant-loop-argument
invariant-loop-argument l = l.words ≡ words_of_arguments (take l.argument-index l.arguments)
