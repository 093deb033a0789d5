-- Bodies and frames that are taken in one behind the other.
use Rattle.std.proofs.Common.{◌≡◌, ℕ, Bool, true, false, List, [], ◌∷◌, Option, Some, None, Result, Err, refl, sym, ap, ◌∙◌}
use Rattle.std.specs.Prelude.{fold, option_and_then, ok_or}
use Rattle.queue_rows.specs.Fits.{fits}
use Rattle.queue_rows.specs.Tables.{after}
use Rattle.queue_rows.specs.declared.change.Commit.{Commit}
use Rattle.queue_rows.specs.declared.tables.Tables.{Tables}
use Rattle.redo_journal.specs.declared.frame.FrameAt.{FrameAt}
use Rattle.redo_records.specs.Reading.{decode}
use Rattle.redo_records.specs.Recovered.{after_bodies, after_body, after_fitting, after_frame}
use Rattle.database_recovery.specs.Recovering.{Makes, frames_from}

-- ---- a body

fitting_makes : (t new : Tables) (c : Commit) (made : Bool) → made ≡ fits t c → (made ≡ true → new ≡ after t c) → Makes (after_fitting t c) made new
fitting_makes t new c true e h = rw (← e) (ap Some (sym (h refl)))
fitting_makes t new c false e h = rw (← e) refl

pub commit_makes : (version : ℕ) (t new : Tables) (body : List ℕ) (c : Commit) (made : Bool) → decode version body ≡ Some c → made ≡ fits t c
    → (made ≡ true → new ≡ after t c) → Makes (after_body version t body) made new
commit_makes version t new body c made read e h = rw read (fitting_makes t new c made e h)

pub none_makes : (version : ℕ) (t new : Tables) (body : List ℕ) → decode version body ≡ None → Makes (after_body version t body) false new
none_makes version t new body read = rw read refl

-- ---- bodies

pub none_led : (version : ℕ) (bodies : List (List ℕ)) → fold (λ left body. option_and_then (λ u. after_body version u body) left) None bodies ≡ None
none_led version [] = refl
none_led version (b ∷ bodies) = none_led version bodies

pub goes_on : (version : ℕ) (t u : Tables) (body : List ℕ) (bodies : List (List ℕ)) → after_body version t body ≡ Some u
    → after_bodies version t (body ∷ bodies) ≡ after_bodies version u bodies
goes_on version t u body bodies e = ap (λ left. fold (λ left body. option_and_then (λ u. after_body version u body) left) left bodies) e

pub stops : (version : ℕ) (t : Tables) (body : List ℕ) (bodies : List (List ℕ)) → after_body version t body ≡ None → after_bodies version t (body ∷ bodies) ≡ None
stops version t body bodies e =
    ap (λ left. fold (λ left body. option_and_then (λ u. after_body version u body) left) left bodies) e ∙ none_led version bodies

-- ---- frames

err_led : (version at : ℕ) (frames : List FrameAt) → fold (after_frame version) (Err at) frames ≡ Err at
err_led version at [] = refl
err_led version at (f ∷ frames) = err_led version at frames

pub frame_goes_on : (version : ℕ) (t u : Tables) (f : FrameAt) (frames : List FrameAt) → after_bodies version t f.bodies ≡ Some u
    → frames_from version t (f ∷ frames) ≡ frames_from version u frames
frame_goes_on version t u f frames e = ap (λ led. fold (after_frame version) (ok_or led f.offset) frames) e

pub frame_stops : (version : ℕ) (t : Tables) (f : FrameAt) (frames : List FrameAt) → after_bodies version t f.bodies ≡ None
    → frames_from version t (f ∷ frames) ≡ Err f.offset
frame_stops version t f frames e = ap (λ led. fold (after_frame version) (ok_or led f.offset) frames) e ∙ err_led version f.offset frames

-- ---- where they stop

none_led_if_refused : (made : Bool) (led : Option Tables) (new : Tables) → made ≡ false → Makes led made new → led ≡ None
none_led_if_refused true led new e h = cc
none_led_if_refused false led new e h = h

-- the bodies that are left begin with one that was refused
pub stops_at : (version : ℕ) (t new : Tables) (left rest : List (List ℕ)) (body bytes : List ℕ) (whole : Option Tables) (made : Bool) → left ≡ body ∷ rest
    → bytes ≡ body → after_bodies version t left ≡ whole → made ≡ false → Makes (after_body version t bytes) made new → whole ≡ None
stops_at version t new left rest body bytes whole made is same led refused h =
    sym led ∙ ap (λ bodies. after_bodies version t bodies) is
    ∙ stops version t body rest (ap (λ b. after_body version t b) (sym same) ∙ none_led_if_refused made (after_body version t bytes) new refused h)

-- the frames that are left begin with one that was refused
pub frame_stops_at : (version : ℕ) (t new : Tables) (left rest : List FrameAt) (f : FrameAt) (whole : Result Tables ℕ) (made : Bool) → left ≡ f ∷ rest
    → frames_from version t left ≡ whole → made ≡ false → Makes (after_bodies version t f.bodies) made new → whole ≡ Err f.offset
frame_stops_at version t new left rest f whole made is led refused h =
    sym led ∙ ap (λ frames. frames_from version t frames) is
    ∙ frame_stops version t f rest (none_led_if_refused made (after_bodies version t f.bodies) new refused h)
