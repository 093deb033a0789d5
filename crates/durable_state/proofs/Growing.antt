-- Runs that get further entries.
use Rattle.std.proofs.Common.{◌≡◌, ◌++◌, ℕ, List, [], ◌∷◌, sym, ap, ◌∙◌, subst, append_assoc, append-nil}
use Rattle.std.proofs.lemmas.List.Elements.{All-append, All-cons, All-nil}
use Rattle.queue_rows.specs.declared.history.Entry.{Entry}
use Rattle.durable_state.specs.Brief.{AreBrief}
use Rattle.durable_state.specs.Going.{AddsEntries}
use Rattle.durable_state.specs.Held.{Held}

module _ {D : Type 0} {actor : ℕ} where
  -- there are none
  pub adds_none : (old new : Held D) → new.entries ≡ old.entries → AddsEntries actor old new
  adds_none old new same = record {
    more = [];
    entries = same ∙ sym (append-nil old.entries);
    own = All-nil (λ (e : Entry). e.actor ≡ actor);
    brief = λ b. subst AreBrief (sym same) b;
  }

  pub adds_same : (old new : Held D) → new ≡ old → AddsEntries actor old new
  adds_same old new same = adds_none old new (ap (λ (v : Held D). v.entries) same)

  -- there is one
  pub adds_one : (old new : Held D) (e : Entry) → e.actor ≡ actor → new.entries ≡ old.entries ++ e ∷ [] → (AreBrief old.entries → AreBrief new.entries) → AddsEntries actor old new
  adds_one old new e by more brief = record {
    more = e ∷ [];
    entries = more;
    own = All-cons (λ (x : Entry). x.actor ≡ actor) e [] by (All-nil (λ (x : Entry). x.actor ≡ actor));
    brief = brief;
  }

  pub adds_on : (a b c : Held D) → AddsEntries actor a b → AddsEntries actor b c → AddsEntries actor a c
  adds_on a b c first second = record {
    more = first.more ++ second.more;
    entries = second.entries ∙ ap (λ (es : List Entry). es ++ second.more) first.entries ∙ append_assoc a.entries first.more second.more;
    own = All-append (λ (e : Entry). e.actor ≡ actor) first.more second.more first.own second.own;
    brief = λ b. second.brief (first.brief b);
  }
