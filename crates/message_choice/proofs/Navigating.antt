-- What searches find is what each navigation chooses.
use Rattle.std.proofs.Common.{◌≡◌, ℕ, ℤ, List, [], ◌∷◌, Bool, true, false, filter, Option, Some, None, IfSome, refl, sym, ap, ◌∙◌, subst}
use denote.Ref.{Bor}
use Rattle.std.specs.Prelude.{◌+◌, ◌*◌, ◌≤◌, pos, int_lt, option_copied, if◌then◌else◌}
use Rattle.place_keys.specs.Place.{stands_before}
use Rattle.queue_rows.specs.Tables.{lane_of}
use Rattle.queue_rows.specs.Dequeueing.{Look, Choice, nothing, found_or, is_browse, next_or_first, least, past, of_group, past_group}
use Rattle.queue_rows.specs.declared.rows.MsgRow.{MsgRow}
use Rattle.queue_rows.specs.declared.session.Position.{Position}
use Rattle.queue_rows.specs.declared.statement.Mode.{Mode}
use Rattle.queue_rows.specs.declared.statement.Navigation.{Navigation}
use Rattle.queue_rows.specs.declared.statement.Navigation.TheVariants as navigations
use Rattle.choice_laws.specs.Choosing.{may_give}
use Rattle.choice_laws.proofs.Searching.{filter_both, filter_implied}
use Rattle.message_choice.specs.Offered.{candidates, most_looks}
use Rattle.message_choice.specs.Wanted.{filter_for, lies_in, nearest_past, passes, passes_behind}
use Rattle.message_choice.specs.declared.asking.Filter.{Filter}
use Rattle.message_choice.specs.declared.asking.Filter.TheVariants as filters

pub filter_all : {T : Type 0} (xs : List T) → filter (λ x. true) xs ≡ xs
filter_all [] = refl
filter_all (x ∷ xs) = ap (λ ys. x ∷ ys) (filter_all xs)

module _ (l : Look) (ms : List MsgRow) where
  -- those that pass are the candidates that the filter lets through
  kept : (f : Filter) → filter (passes l f) ms ≡ filter (lies_in f) (candidates l ms)
  kept f = sym (filter_both (may_give l) (lies_in f) ms)

  kept_all : filter (passes l filters.All) ms ≡ candidates l ms
  kept_all = kept filters.All ∙ filter_all (candidates l ms)

  pub nearest_of_all : nearest_past l filters.All None ms ≡ least (candidates l ms)
  nearest_of_all = ap least kept_all

  module _ (p : Position) where
    pub nearest_behind : nearest_past l filters.All (Some p.place) ms ≡ least (past p (candidates l ms))
    nearest_behind = ap (λ ns. least (past p ns)) kept_all

    pub nearest_in_group : nearest_past l (filters.InGroup p.group) (Some p.place) ms ≡ least (past p (of_group p (candidates l ms)))
    nearest_in_group = ap (λ ns. least (past p ns)) (kept (filters.InGroup p.group))

    -- all that lie in later lanes stand past the place, where one is given
    abbrev pub AreAllPast : Option (List ℤ) → Type 0
    AreAllPast after = (m : MsgRow) → int_lt (pos p.group) (lane_of m.place) ≡ true → IfSome after (λ place. stands_before place m.place ≡ true)

    pub nearest_past_group : (after : Option (List ℤ)) → AreAllPast after → nearest_past l (filters.PastGroup p.group) after ms ≡ least (past_group p (candidates l ms))
    nearest_past_group None all = ap least (kept (filters.PastGroup p.group))
    nearest_past_group (Some place) all =
        let behind : MsgRow → Bool = λ m. stands_before place m.place in
        let later : MsgRow → Bool = λ m. int_lt (pos p.group) (lane_of m.place) in
        ap (λ ns. least (filter behind ns)) (kept (filters.PastGroup p.group))
        ∙ ap least (filter_implied later behind all (candidates l ms))

    -- where nothing is behind the position, all are asked, unless it is only browsed
    abbrev otherwise : Mode → Choice
    otherwise mode = if is_browse mode then nothing else found_or nothing (least (candidates l ms))

    pub next_found : (mode : Mode) (o : Option MsgRow) → o ≡ nearest_past l filters.All (Some p.place) ms → found_or (otherwise mode) o ≡ next_or_first mode p (candidates l ms)
    next_found mode o e = ap (found_or (otherwise mode)) (e ∙ nearest_behind)

    pub next_browsed : (mode : Mode) → is_browse mode ≡ true → None ≡ nearest_past l filters.All (Some p.place) ms → nothing ≡ next_or_first mode p (candidates l ms)
    next_browsed mode browse e = sym (ap (λ b. if b then nothing else found_or nothing (least (candidates l ms))) browse) ∙ next_found mode None e

    pub next_first : (mode : Mode) → is_browse mode ≡ false → None ≡ nearest_past l filters.All (Some p.place) ms → found_or nothing (least (candidates l ms)) ≡ next_or_first mode p (candidates l ms)
    next_first mode browse e = sym (ap (λ b. if b then nothing else found_or nothing (least (candidates l ms))) browse) ∙ next_found mode None e

-- what holds of the value behind a reference, where there is one
pub copied_each : {T : Type 0} (P : T → Type 0) (o : Option (Bor T)) → IfSome o (λ x. P x.now) → IfSome (option_copied o) P
copied_each P None h = h
copied_each P (Some x) h = h

pub from_nowhere : (n : Navigation) (grouped : Bool) → filter_for n None grouped ≡ filters.All
from_nowhere navigations.First grouped = refl
from_nowhere navigations.Next grouped = refl
from_nowhere navigations.NextTransaction grouped = refl

-- a bound on the steps of a filter is one for the filter that the navigation asks for
pub steps_by : (l : Look) (ms : List MsgRow) (asked f : Filter) → asked ≡ f → (after before : ℕ) → after ≤ before + 2 * most_looks l f ms → after ≤ before + 2 * most_looks l asked ms
steps_by l ms asked f same after before few = subst (λ (x : Filter). after ≤ before + 2 * most_looks l x ms) (sym same) few

-- the nearest of those that pass and stand past a place is the nearest of those that pass
pub walk_is_nearest : (l : Look) (f : Filter) (place : Option (List ℤ)) (ms : List MsgRow) → least (filter (passes_behind l f place) ms) ≡ nearest_past l f place ms
walk_is_nearest l f None ms = ap least (sym (filter_both (passes l f) (λ m. true) ms) ∙ filter_all (filter (passes l f) ms))
walk_is_nearest l f (Some p) ms = ap least (sym (filter_both (passes l f) (λ m. stands_before p m.place) ms))
