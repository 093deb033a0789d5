use Rattle.run_turns.proofs.Calling.{legal-calls}
use Rattle.run_turns.proofs.laws.legal_calls_in_order.Goals as goal

pub returns : goal.returns
returns c = λ home away scripts history legal. legal-calls home away scripts legal.0 history legal.1
