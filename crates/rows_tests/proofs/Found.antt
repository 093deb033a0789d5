-- What is sent, by the schedule that is found for it.
use Rattle.std.proofs.Common.{◌≡◌, ◌≤◌, Option, Some, None, IsSome, IfSome, refl, sym, subst}
use Rattle.std.specs.Prelude.{option_map}
use Rattle.queue_rows.specs.Propagating.{Dispatch}
use Rattle.queue_rows.specs.declared.rows.ScheduleRow.{ScheduleRow}

pub is_there : (found : Option Dispatch) (s : ScheduleRow) → Some s ≡ option_map (λ d. d.schedule) found → IsSome found
is_there None s e = absurd (let f : None ≡ Some s = sym e in cc)
is_there (Some d) s e = refl

pub has_failed : (found : Option Dispatch) (s : ScheduleRow) → Some s ≡ option_map (λ d. d.schedule) found → s.failures ≤ 15 → IfSome found (λ d. d.schedule.failures ≤ 15)
has_failed None s e h = tt
has_failed (Some d) s e h = let same : s ≡ d.schedule = cc in subst (λ (x : ScheduleRow). x.failures ≤ 15) same h
