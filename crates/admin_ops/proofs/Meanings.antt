-- What the effect of a statement so judged is for all sessions.
use Rattle.std.proofs.Common.{◌≡◌, ℕ, List, [], Bool, Option, Err, refl, ap, sym, ◌∙◌, subst}
use Rattle.aq_base.specs.declared.DbId.{DbId}
use Rattle.slot_marks.specs.Marks.{SessionMarks}
use Rattle.queue_rows.specs.Administration.{administer, administered, is_hindered}
use Rattle.queue_rows.specs.Catalog.{Judged, judged}
use Rattle.queue_rows.specs.declared.tables.Tables.{Tables}
use Rattle.queue_rows.specs.declared.history.SlotRef.{SlotRef}
use Rattle.queue_rows.specs.declared.reply.Reply.{Reply}
use Rattle.queue_rows.specs.declared.statement.Admin.{Admin}
use Rattle.sessions.specs.Effects.{plain_effect}
use Rattle.sessions.specs.declared.state.Effect.{Effect}
use Rattle.sessions.specs.declared.state.SessionState.{SessionState}
use Rattle.sessions.specs.declared.state.Verdict.TheVariants.{Answer}
use Rattle.admin_ops.specs.Shown.{sessions_from}
use Rattle.admin_ops.specs.Meaning.{HasMeaning, IsPlain, MeansToAdminister}
use Rattle.admin_ops.proofs.Numbers.{refusal_takes_none}
use Rattle.admin_ops.proofs.Working.{hindered-same}

module _ (t : Tables) (db : DbId) (locks : List SessionMarks) (states : List SessionState) (sent : Option SlotRef) (ask : Admin) (moment : ℕ) where
  pub administers : (hindered : Bool) (j : Judged) (e : Effect) → hindered ≡ is_hindered t db (sessions_from 0 locks states) sent ask → judged t ask moment ≡ j
      → HasMeaning (λ s. administered t s hindered j) e → MeansToAdminister t db locks states sent ask moment e
  unfolding administer
  administers hindered j e stands so means sessions are marks s at queue consumer =
      ap (λ db. administered t s (is_hindered t db sessions sent ask) (judged t ask moment)) at
      ∙ ap (λ h. administered t s h (judged t ask moment)) (sym (hindered-same t db locks states sessions are marks sent ask) ∙ sym stands)
      ∙ ap (administered t s hindered) so
      ∙ means s queue consumer moment

  pub refuses : (reply : Reply) (e : Effect) → judged t ask moment ≡ Err reply → e ≡ plain_effect (Answer reply) [] → MeansToAdminister t db locks states sent ask moment e
  refuses reply e so is = subst (MeansToAdminister t db locks states sent ask moment) (sym is)
      (administers (is_hindered t db (sessions_from 0 locks states) sent ask) (Err reply) (plain_effect (Answer reply) []) refl so (λ s queue consumer now. refl))

pub refusal_is_plain : (t : Tables) (ask : Admin) (moment : ℕ) (reply : Reply) (e : Effect) → judged t ask moment ≡ Err reply → e ≡ plain_effect (Answer reply) [] → IsPlain e
refusal_is_plain t ask moment reply e so is = subst IsPlain (sym is) (record { answered = tt; no_id = refusal_takes_none t ask moment reply so; alone = refl })
