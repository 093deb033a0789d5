-- A session's own turn is what its step makes of the world.
use Rattle.std.proofs.Common.{◌≡◌, ℕ, Option, Some, None, sym, ap, ◌∙◌}
use Rattle.std.specs.Prelude.{IfSome, option_map}
use Rattle.queue_rows.specs.Session.{Session}
use Rattle.queue_rows.specs.Statements.{meaning, next_statement}
use Rattle.queue_rows.specs.Turns.{ended, own_turn, parked, turned_by}
use Rattle.queue_rows.specs.World.{World}
use Rattle.run_state.specs.CallEffects.{called_with}
use Rattle.run_state.specs.declared.call_effect.CallEffect.{CallEffect}
use Rattle.next_steps.specs.Stepping.{Means}
use Rattle.aq_world.specs.Turning.{end_by, next_meaning}
use Rattle.next_steps.specs.declared.respond.Doing.TheVariants.{Call, Wait}
use Rattle.aq_world.specs.declared.turn_end.TurnEnd.TheVariants as ends

-- what holds of the session that there is
pub of_each : {P R : Session → Type 0} (o : Option Session) → IfSome o P → ((s : Session) → P s → R s) → IfSome o R
of_each None p f = _
of_each (Some s) p f = f s p

pub of_both : {P Q R : Session → Type 0} (o : Option Session) → IfSome o P → IfSome o Q → ((s : Session) → P s → Q s → R s) → IfSome o R
of_both None p q f = _
of_both (Some s) p q f = f s p q

-- ---- a call

module _ (w : World) (i : ℕ) (s : Session) where
  pub call_turn : (new : World) (call : CallEffect) → Means w i s (Call call) → new ≡ called_with i call w s → new ≡ own_turn i s (next_statement w i s) w
  call_turn new call m e = e ∙ sym (ap (λ o. own_turn i s o w) m.next ∙ ap (λ x. turned_by i s x w) m.means)

  pub call_end : (call : CallEffect) → Means w i s (Call call) → ends.Done ≡ end_by (next_meaning w i s)
  call_end call m = sym (ap (λ o. end_by (option_map (meaning w i s) o)) m.next ∙ ap (λ x. end_by (Some x)) m.means)

  -- ---- a wait

  pub park_turn : (new : World) (since : ℕ) → Means w i s (Wait since) → new ≡ parked i s since w → new ≡ own_turn i s (next_statement w i s) w
  park_turn new since m e = e ∙ sym (ap (λ o. own_turn i s o w) m.next ∙ ap (λ x. turned_by i s x w) m.means)

  pub park_end : (since : ℕ) → Means w i s (Wait since) → ends.Parked ≡ end_by (next_meaning w i s)
  park_end since m = sym (ap (λ o. end_by (option_map (meaning w i s) o)) m.next ∙ ap (λ x. end_by (Some x)) m.means)

  -- ---- an end

  pub end_turn : (new : World) → next_statement w i s ≡ None → new ≡ ended i s w → new ≡ own_turn i s (next_statement w i s) w
  end_turn new none e = e ∙ sym (ap (λ o. own_turn i s o w) none)

  pub end_end : next_statement w i s ≡ None → ends.Done ≡ end_by (next_meaning w i s)
  end_end none = sym (ap (λ o. end_by (option_map (meaning w i s) o)) none)
