-- Bodies behind bodies, as frames and as one list, and the body of a commit.
use Rattle.std.proofs.Common.{◌≡◌, ℕ, true, List, [], ◌∷◌, ◌++◌, Option, Some, None, Result, Ok, refl, sym, ap, ◌∙◌}
use Rattle.std.proofs.lemmas.Option.{none-some}
use Rattle.std.specs.Prelude.{fold, option_and_then, ok_or, if◌then◌else◌}
use Rattle.redo_journal.specs.Journal.{bodies_in, written_version}
use Rattle.redo_journal.specs.declared.frame.FrameAt.{FrameAt}
use Rattle.redo_records.specs.Laws.{IsReadAgain}
use Rattle.redo_records.specs.Recovered.{after_bodies, after_body, after_fitting}
use Rattle.redo_records.specs.Spelling.{encode}
use Rattle.queue_rows.specs.Fits.{fits}
use Rattle.queue_rows.specs.Tables.{after, empty_tables}
use Rattle.queue_rows.specs.declared.change.Commit.{Commit}
use Rattle.queue_rows.specs.declared.tables.Tables.{Tables}
use Rattle.database_recovery.specs.Recovering.{BodiesJoin, CommitLeadsOn, FramesLead, frames_from}
use Rattle.database_recovery.proofs.Folding.{frame_goes_on, frame_stops, none_led}

-- what is led so far is led on by a body
abbrev pub led_on : ℕ → Option Tables → List ℕ → Option Tables
led_on version left body = option_and_then (λ u. after_body version u body) left

fold_behind : {A B : Type 0} (f : B → A → B) (b : B) (xs ys : List A) → fold f b (xs ++ ys) ≡ fold f (fold f b xs) ys
fold_behind f b [] ys = refl
fold_behind f b (x ∷ xs) ys = fold_behind f (f b x) xs ys

pub bodies_behind : (version : ℕ) (t : Tables) (xs ys : List (List ℕ)) → after_bodies version t (xs ++ ys) ≡ fold (led_on version) (after_bodies version t xs) ys
bodies_behind version t xs ys = fold_behind (led_on version) (Some t) xs ys

pub bodies_join : BodiesJoin
bodies_join version t u w front behind here on = bodies_behind version t front behind ∙ ap (λ left. fold (led_on version) left behind) here ∙ on

-- ---- frames

-- the bodies of a frame lead somewhere, since those behind it do
frame_leads : (version : ℕ) (t u : Tables) (f : FrameAt) (frames : List FrameAt) (led : Option Tables) → after_bodies version t f.bodies ≡ led
    → fold (led_on version) led (bodies_in frames) ≡ Some u
    → ((w : Tables) → after_bodies version w (bodies_in frames) ≡ Some u → frames_from version w frames ≡ Ok u)
    → frames_from version t (f ∷ frames) ≡ Ok u
frame_leads version t u f frames (Some w) here behind rest = frame_goes_on version t w f frames here ∙ rest w behind
frame_leads version t u f frames None here behind rest = absurd (none-some u (sym (none_led version (bodies_in frames)) ∙ behind))

pub frames_lead : (version : ℕ) (t u : Tables) (frames : List FrameAt) → after_bodies version t (bodies_in frames) ≡ Some u → frames_from version t frames ≡ Ok u
frames_lead version t u [] e = ap (λ led. ok_or led 0) e
frames_lead version t u (f ∷ frames) e =
    frame_leads version t u f frames (after_bodies version t f.bodies) refl
    (sym (bodies_behind version t f.bodies (bodies_in frames)) ∙ e) (λ w behind. frames_lead version w u frames behind)

same_tables : (led : Result Tables ℕ) (t u : Tables) → led ≡ Ok t → led ≡ Ok u → t ≡ u
same_tables led t u d e = cc

-- the first frame led somewhere, since frames behind it led on
frame_led : (version : ℕ) (t u : Tables) (f : FrameAt) (frames : List FrameAt) (led : Option Tables) → after_bodies version t f.bodies ≡ led
    → frames_from version t (f ∷ frames) ≡ Ok u
    → ((w : Tables) → frames_from version w frames ≡ Ok u → after_bodies version w (bodies_in frames) ≡ Some u)
    → after_bodies version t (bodies_in (f ∷ frames)) ≡ Some u
frame_led version t u f frames (Some w) here led rest =
    bodies_join version t w u f.bodies (bodies_in frames) here (rest w (sym (frame_goes_on version t w f frames here) ∙ led))
frame_led version t u f frames None here led rest = let stopped = frame_stops version t f frames here in absurd (cc)

lead_by_bodies : (version : ℕ) (t u : Tables) (frames : List FrameAt) → frames_from version t frames ≡ Ok u → after_bodies version t (bodies_in frames) ≡ Some u
lead_by_bodies version t u [] e = ap Some (same_tables (frames_from version t []) t u refl e)
lead_by_bodies version t u (f ∷ frames) e =
    frame_led version t u f frames (after_bodies version t f.bodies) refl e (λ w led. lead_by_bodies version w u frames led)

pub bodies_lead : FramesLead
bodies_lead version t frames e = lead_by_bodies version empty_tables t frames e

-- ---- a commit

fitting_leads : (t : Tables) (commit : Commit) → fits t commit ≡ true → after_fitting t commit ≡ Some (after t commit)
fitting_leads t commit fitting = ap (λ b. if b then Some (after t commit) else None) fitting

pub commit_leads_on : IsReadAgain → CommitLeadsOn
commit_leads_on again t u bodies commit led spelled fitting =
    bodies_behind written_version t bodies (encode commit ∷ [])
    ∙ ap (λ left. led_on written_version left (encode commit)) led
    ∙ ap (λ read. option_and_then (after_fitting u) read) (again commit spelled)
    ∙ fitting_leads u commit fitting
