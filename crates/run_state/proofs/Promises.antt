-- How many entries are promised.
use Rattle.std.proofs.Common.{◌≡◌, ◌≤◌, ℕ, zero, suc, ◌+◌, ◌&&◌, Bool, true, false, not, if◌then◌else◌, length, List, [], ◌∷◌, ◌++◌, Option, Result, Some, None, IsSome, refl, sym, ap, ◌∙◌, arith}
use Rattle.std.specs.Prelude.{Ok, Err, OnOk, OnErr, map, nat_lt, slice_get, slice_set}
use Rattle.std.proofs.lemmas.Bool.{le-ltb}
use Rattle.std.proofs.lemmas.List.{length_push}
use Rattle.aq_base.specs.declared.DbId.{DbId}
use Rattle.queue_rows.specs.Session.{Session, Untold, without_positions, not_standing_in}
use Rattle.queue_rows.specs.World.{fresh, World, Database, opened, opened_database, read_clock, stepped}
use Rattle.queue_rows.specs.declared.history.SessionScript.{SessionScript}
use Rattle.queue_rows.specs.declared.history.Step.{Step}
use Rattle.queue_rows.specs.declared.history.Step.TheVariants.{Flush, Told}
use Rattle.queue_rows.specs.Turns.{all_durable, flushed, is_durable, made_durable, told}
use Rattle.queue_rows.specs.declared.tables.Tables.{Tables}
use Rattle.run_state.specs.Commits.{is_durable_database}
use Rattle.run_state.specs.Reserved.{Reserved, HasPlaces}
use Rattle.run_state.specs.Promises.{flushes_owed, reply_owed, replies_owed, promised_by, promised}
use Rattle.session_registry.specs.Sessions.{changed_in, changed_at, after_reply, left_by}
use Rattle.run_state.proofs.Calls.{sessions-stepped, sessions-flushed}
use Rattle.session_registry.proofs.Changing.{changed_there}
use Rattle.run_state.proofs.Putting.{committed_none}

-- ---- at most one for each session, and one

reply_few : (o : Option Untold) → reply_owed o ≤ 1
reply_few None = omega arith
reply_few (Some u) = omega arith

pub replies_few : (ss : List Session) → replies_owed ss ≤ length ss
replies_few [] = omega arith
replies_few (s ∷ more) = let one = reply_few s.untold in let rest = replies_few more in omega (arith, one, rest)

flush_if : (b : Bool) → (if b then 0 else 1) ≤ 1
flush_if true = omega arith
flush_if false = omega arith

pub promised_few : (home away : Database) (ss : List Session) → promised_by home away ss ≤ length ss + 1
promised_few home away ss =
    let one = flush_if (is_durable_database home && is_durable_database away) in
    let rest = replies_few ss in
    omega (arith, one, rest)

-- behind an item that was put in there is room for what is promised
pub room_behind : {T : Type 0} (home away : Database) (ss : List Session) (n : ℕ) (before after : Reserved T) → n ≡ length ss → HasPlaces (n + 2) before → length after.items ≤ length before.items + 1
    → before.capacity ≤ after.capacity → HasPlaces (promised_by home away ss) after
room_behind home away ss n before after is room one more = let few = promised_few home away ss in omega (arith, few, is, room, one, more)

pub put_one : {T E A : Type 0} (r : Result T E) (before after : List A) (x : A) → OnOk r (after ≡ before ++ x ∷ []) → OnErr r (after ≡ before) → length after ≤ length before + 1
put_one (Ok y) before after x ok err = let is = ap length ok ∙ length_push before x in omega (arith, is)
put_one (Err e) before after x ok err = let is = ap length err in omega (arith, is)

-- ---- where a session changes

same_some : {A : Type 0} (x y : A) → Some x ≡ Some y → x ≡ y
same_some x y h = cc

owed_set : (ss : List Session) (i : ℕ) (s t : Session) → slice_get ss i ≡ Some s → replies_owed (slice_set ss i t) + reply_owed s.untold ≡ replies_owed ss + reply_owed t.untold
owed_set [] i s t there = absurd (let no : None ≡ Some s = there in cc)
owed_set (x ∷ more) zero s t there =
    let same : reply_owed x.untold ≡ reply_owed s.untold = ap (λ (y : Session). reply_owed y.untold) (same_some x s there) in
    omega (arith, same)
owed_set (x ∷ more) (suc i) s t there = let rest = owed_set more i s t there in omega (arith, rest)

owed_in : (f : Session → Session) (ss : List Session) (i : ℕ) (o : Option Session) → slice_get ss i ≡ o → ((s : Session) → (f s).untold ≡ s.untold) → replies_owed (changed_in i f ss o) ≡ replies_owed ss
owed_in f ss i None there same = refl
owed_in f ss i (Some s) there same =
    let sum = owed_set ss i s (f s) there in
    let own = ap reply_owed (same s) in
    omega (arith, sum, own)

-- what it has not been told stays
pub owed_same : (f : Session → Session) (ss : List Session) (i : ℕ) → ((s : Session) → (f s).untold ≡ s.untold) → replies_owed (changed_at i f ss) ≡ replies_owed ss
owed_same f ss i same = owed_in f ss i (slice_get ss i) refl same

one_owed : (o : Option Untold) → IsSome o → reply_owed o ≡ 1
one_owed None h = absurd (cc)
one_owed (Some u) h = refl

-- it is told
pub owed_told : (ss : List Session) (i : ℕ) (s : Session) → slice_get ss i ≡ Some s → IsSome s.untold → replies_owed (changed_at i after_reply ss) + 1 ≡ replies_owed ss
owed_told ss i s there owed =
    let sum = owed_set ss i s (after_reply s) there in
    let one = one_owed s.untold owed in
    let is = ap replies_owed (changed_there after_reply ss i s there) in
    omega (arith, sum, one, is)

-- ---- the beginning

pub none_owed : (scripts : List SessionScript) → replies_owed (map fresh scripts) ≡ 0
none_owed [] = refl
none_owed (x ∷ xs) = let rest = none_owed xs in omega (arith, rest)

not_made : not (nat_lt 0 0) ≡ true
not_made = ap not (le-ltb 0 0 (omega arith))

opened_durable : (home away : Tables) → flushes_owed (opened_database home) (opened_database away) ≡ 0
opened_durable home away = ap (λ b. if b && not (nat_lt 0 0) then 0 else 1) not_made ∙ ap (λ b. if b then 0 else 1) not_made

pub promised_opened : (home away : Tables) (scripts : List SessionScript) → promised (opened home away scripts) ≡ 0
unfolding opened
promised_opened home away scripts =
    let flushes = opened_durable home away in
    let replies = none_owed scripts in
    omega (arith, flushes, replies)

pub promised_read : (reading : ℕ) (w : World) → promised (read_clock reading w) ≡ promised w
unfolding read_clock
promised_read reading w = refl

pub room_opened : {T : Type 0} (h a : Database) (home away : Tables) (ss : List Session) (scripts : List SessionScript) (l : Reserved T) → h ≡ opened_database home → a ≡ opened_database away → ss ≡ map fresh scripts → l.items ≡ []
    → HasPlaces (promised_by h a ss) l
room_opened h a home away ss scripts l at_home at_away them none =
    let flushes = ap (λ (d : Database). flushes_owed d a) at_home ∙ ap (flushes_owed (opened_database home)) at_away ∙ opened_durable home away in
    let replies = ap replies_owed them ∙ none_owed scripts in
    let few = ap length none in
    omega (arith, flushes, replies, few)

-- ---- sessions leave queues

length-mapped : (f : Session → Session) (ss : List Session) → length (map f ss) ≡ length ss
length-mapped f [] = refl
length-mapped f (s ∷ more) = ap suc (length-mapped f more)

pub length-left : (db : DbId) (queues : List (List ℕ)) (ss : List Session) → length (left_by db queues ss) ≡ length ss
length-left db [] ss = refl
length-left db (queue ∷ more) ss = length-left db more (without_positions db queue ss) ∙ length-mapped (not_standing_in db queue) ss

-- ---- flushes and tellings

durable_made : (d : Database) → is_durable_database (made_durable d) ≡ true
durable_made d = ap not (le-ltb d.made d.made (omega arith))

flushed_all : (home away : Database) → flushes_owed (made_durable home) (made_durable away) ≡ 0
flushed_all home away =
    ap (λ b. if b && is_durable_database (made_durable away) then 0 else 1) (durable_made home)
    ∙ ap (λ b. if b then 0 else 1) (durable_made away)

home_stepped : (i : ℕ) (w : World) (step : Step) → (stepped i w [] [] step).home ≡ w.home
unfolding stepped
home_stepped i w step = committed_none w.moment w.home

away_stepped : (i : ℕ) (w : World) (step : Step) → (stepped i w [] [] step).away ≡ w.away
unfolding stepped
away_stepped i w step = committed_none w.moment w.away

abbrev owed_if : Bool → ℕ
owed_if b = if b then 0 else 1

flush_cases : (i : ℕ) (w : World) (b : Bool) → is_durable w ≡ b → promised (if b then w else all_durable (stepped i w [] [] Flush)) + owed_if b ≤ promised w
flush_cases i w true is = omega arith
flush_cases i w false is =
    let v = stepped i w [] [] Flush in
    let all = flushed_all v.home v.away in
    let owed : flushes_owed w.home w.away ≡ 1 = ap owed_if is in
    let same = ap replies_owed (sessions-stepped i w [] [] Flush) in
    omega (arith, all, owed, same)

-- a flush where one is owed takes its place
pub flush_takes : (i : ℕ) (w : World) → is_durable w ≡ false → promised (flushed i w) + 1 ≤ promised w
unfolding flushed
flush_takes i w late =
    let sum = flush_cases i w (is_durable w) refl in
    let one = ap owed_if late in
    omega (arith, sum, one)

pub flush_at_most : (i : ℕ) (w : World) → promised (flushed i w) ≤ promised w
unfolding flushed
flush_at_most i w = let sum = flush_cases i w (is_durable w) refl in omega (arith, sum)

-- a telling takes its place
pub telling_takes : (i number : ℕ) (s : Session) (w : World) → slice_get w.sessions i ≡ Some s → IsSome s.untold → promised (told i s number w) + 1 ≤ promised w
telling_takes i number s w there owed =
    let v = flushed i w in
    let u = stepped i v [] [] (Told number) in
    let home = home_stepped i v (Told number) in
    let away = away_stepped i v (Told number) in
    let flushes = ap (λ (d : Database). flushes_owed d u.away) home ∙ ap (flushes_owed v.home) away in
    let behind : slice_get v.sessions i ≡ Some s = ap (λ (ss : List Session). slice_get ss i) (sessions-flushed i w) ∙ there in
    let told_one = owed_told v.sessions i s behind owed in
    let set = ap replies_owed (ap (λ (ss : List Session). slice_set ss i (after_reply s)) (sessions-stepped i v [] [] (Told number)) ∙ sym (changed_there after_reply v.sessions i s behind)) in
    let most = flush_at_most i w in
    omega (arith, flushes, told_one, set, most)
