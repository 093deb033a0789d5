-- Each kind of commit is proper, and may stand behind others.
use Rattle.std.proofs.Common.{◌≡◌, ◌≤◌, ◌+◌, ℕ, List, [], ◌∷◌, ◌++◌, Bool, true, false, not, refl, sym, ap, ◌∙◌, subst, Option, Some, None, ◌==◌, ◌&&◌, append-nil}
use Rattle.std.specs.Prelude.{flat_map, filter, filter_map, All, AllPairs, option_and_then, if◌then◌else◌}
use Rattle.std.specs.List.{list_any, list_all, cons_option, enumerate_from}
use Rattle.std.specs.Str.{bytes_eq}
use Rattle.std.proofs.lemmas.Bool.{and_parts, and_from, or_parts, false≢true, true≢false}
use Rattle.std.proofs.lemmas.List.Elements.{All-append, All-head, All-tail, filter_map-append}
use Rattle.std.proofs.lemmas.List.Kept.{AllPairs-cons}
use Rattle.aq_base.specs.declared.DbId.{DbId}
use Rattle.aq_base.specs.declared.limits.TheConstants.{MOMENT_LIMIT}
use Rattle.queue_rows.specs.Rows.{find_sub, find_table}
use Rattle.queue_rows.specs.Tables.{after_change, after_all}
use Rattle.queue_rows.specs.Settling.{is_open, settling, settled, names_of}
use Rattle.queue_rows.specs.Commits.{completed, changes_from, commit_of}
use Rattle.queue_rows.specs.Transactions.{rollback_of}
use Rattle.queue_rows.specs.Session.{Session}
use Rattle.queue_rows.specs.Due.{Watch, due}
use Rattle.queue_rows.specs.Propagating.{Parcel, taken_in, taken_in_by, confirming}
use Rattle.queue_rows.specs.Catalog.{is_slot_of, dropped_slot, dropped_of, dropped_in}
use Rattle.queue_rows.specs.Valid.{is_valid, is_valid_schedule}
use Rattle.queue_rows.specs.declared.tables.Tables.{Tables}
use Rattle.queue_rows.specs.declared.rows.SubRow.{SubRow}
use Rattle.queue_rows.specs.declared.rows.SlotRow.{SlotRow}
use Rattle.queue_rows.specs.declared.rows.ScheduleRow.{ScheduleRow}
use Rattle.queue_rows.specs.declared.session.Pending.{Pending}
use Rattle.queue_rows.specs.declared.session.Pending.TheVariants.{Add, Remove}
use Rattle.queue_rows.specs.declared.change.Change.{Change}
use Rattle.queue_rows.specs.declared.change.Change.TheVariants as changes
use Rattle.queue_rows.specs.declared.history.SlotRef.{SlotRef}
use Rattle.row_laws.proofs.Latest.{at_latest, is_counters}
use Rattle.valid_laws.specs.Openness.{is_open_at}
use Rattle.valid_laws.specs.Touching.{is_put_in, is_proper, are_proper}
use Rattle.valid_laws.specs.PendingLaws.{MayCommit}
use Rattle.valid_laws.specs.RollbackLaws.{MayRollBack}
use Rattle.valid_laws.specs.ArrivalLaws.{MayTakeIn}
use Rattle.valid_laws.proofs.Framing.{any_append, any_flat, settled_none}
use Rattle.valid_laws.proofs.Going.{proper_if_goes, proper_on, proper_later}
use Rattle.valid_laws.proofs.Pending.{commit_goes, pairs-head, pairs-tail}
use Rattle.valid_laws.proofs.Retrying.{rollback_goes_well}
use Rattle.valid_laws.proofs.Undone.{due_goes}
use Rattle.valid_laws.proofs.Dropping.{subscriber_goes}
use Rattle.valid_laws.proofs.Arriving.{taken_in_goes, confirmation_goes}
use Rattle.valid_laws.proofs.Saying.{completed_id, rollback_none, undone_none, slots_put, confirm_none}
use Rattle.history_laws.specs.Proper.{id_put_in, ids_put_in, AreProper}
use Rattle.history_laws.specs.CommitLaws.{IsProperCommit, ids_added}

-- ---- ids

put_none_one : (c : Change) → is_put_in c ≡ false → id_put_in c ≡ None
put_none_one (changes.Enqueued row) e = absurd (true≢false e)
put_none_one (changes.PutTable row) e = refl
put_none_one _ e = refl

pub no_ids : (cs : List Change) → list_any is_put_in cs ≡ false → ids_put_in cs ≡ []
no_ids [] h = refl
no_ids (c ∷ cs) h =
    let p = or_parts (is_put_in c) (list_any is_put_in cs) h in ap (λ o. cons_option o (ids_put_in cs)) (put_none_one c p.0) ∙ no_ids cs p.1

changes_ids : (rest : List Pending) (t : Tables) (group moment : ℕ) → ids_put_in (changes_from t group moment rest) ≡ ids_added rest
changes_ids [] t group moment = refl
changes_ids (Add m ∷ more) t group moment =
    let c = changes.Enqueued (completed t group moment m) in
    ap (λ id. id ∷ ids_put_in (changes_from (after_change t c) group moment more)) (completed_id t group moment m) ∙ ap (λ ids. m.id ∷ ids) (changes_ids more (after_change t c) group moment)
changes_ids (Remove id slot ∷ more) t group moment = changes_ids more (after_change t (changes.Done id slot moment)) group moment

commit_ids : (t : Tables) (moment : ℕ) (pending : List Pending) → ids_put_in (commit_of t moment pending) ≡ ids_added pending
commit_ids t moment pending =
    let cs = changes_from t t.transaction moment pending in
    let rest = flat_map (settling t cs) (names_of cs) in
    filter_map-append id_put_in cs rest ∙ ap (λ ids. ids_put_in cs ++ ids) (no_ids rest (settled_none is_put_in (λ n queue at. refl) (λ n. refl) t cs)) ∙ append-nil (ids_put_in cs) ∙ changes_ids pending t t.transaction moment

-- ---- each kind

pub commit_is_proper : (t : Tables) (moment : ℕ) (pending : List Pending) → is_valid t ≡ true → t.latest ≤ moment → moment ≤ MOMENT_LIMIT → MayCommit t moment pending → IsProperCommit t (commit_of t moment pending) (ids_added pending)
commit_is_proper t moment pending v le top k = record { proper = proper_if_goes t moment (commit_of t moment pending) (commit_goes t moment pending v le top k); ids_are = commit_ids t moment pending }

pub rollback_is_proper : (t : Tables) (moment : ℕ) (pending : List Pending) → is_valid t ≡ true → t.latest ≤ moment → moment ≤ MOMENT_LIMIT → MayRollBack t pending → IsProperCommit t (rollback_of t moment pending) []
rollback_is_proper t moment pending v le top k = record {
  proper = proper_if_goes t moment (rollback_of t moment pending) (rollback_goes_well t moment pending v le top k);
  ids_are = no_ids (rollback_of t moment pending) (rollback_none t moment pending is_put_in (λ n slot retries until at. refl) (λ n slot at. refl) (λ n queue at. refl) (λ n. refl));
}

due_puts_none : (t : Tables) (sessions : List Session) (db : DbId) (sent : Option SlotRef) (moment : ℕ) → list_any is_put_in (due t sessions db sent moment) ≡ false
unfolding due
due_puts_none t sessions db sent moment =
    let w : Watch = record { tables = t; sessions = sessions; db = db; sent = sent; moment = moment } in
    undone_none w is_put_in (slots_put w is_put_in (λ n slot a. refl) (λ n slot a. refl)) (λ n queue a. refl) (λ n. refl)

pub due_is_proper : (t : Tables) (sessions : List Session) (db : DbId) (sent : Option SlotRef) (moment : ℕ) → is_valid t ≡ true → t.latest ≤ moment → moment ≤ MOMENT_LIMIT → IsProperCommit t (due t sessions db sent moment) []
due_is_proper t sessions db sent moment v le top = record {
  proper = proper_if_goes t moment (due t sessions db sent moment) (due_goes t sessions db sent moment v le top);
  ids_are = no_ids (due t sessions db sent moment) (due_puts_none t sessions db sent moment);
}

arrival_ids : (there : Tables) (at : SlotRef) (p : Parcel) (next moment : ℕ) → MayTakeIn there at p next moment → ids_put_in (taken_in there at p next moment) ≡ next ∷ []
unfolding taken_in
arrival_ids there at p next moment k = ap (λ o. ids_put_in (taken_in_by there at p next moment o)) (ap (option_and_then (λ q. find_table there q.table)) k.queue_is ∙ k.table_is)

pub arrival_is_proper : (there : Tables) (at : SlotRef) (p : Parcel) (next moment : ℕ) → is_valid there ≡ true → there.latest ≤ moment → moment ≤ MOMENT_LIMIT → MayTakeIn there at p next moment → IsProperCommit there (taken_in there at p next moment) (next ∷ [])
arrival_is_proper there at p next moment v le top k = record {
  proper = proper_if_goes there moment (taken_in there at p next moment) (taken_in_goes there at p next moment v le top k);
  ids_are = arrival_ids there at p next moment k;
}

pub confirmation_is_proper : (t : Tables) (at : SlotRef) (schedule : ScheduleRow) (moment : ℕ) → is_valid t ≡ true → t.latest ≤ moment → moment ≤ MOMENT_LIMIT → is_open_at t at.id at.slot ≡ true → is_valid_schedule t schedule ≡ true → IsProperCommit t (confirming t at schedule moment) []
confirmation_is_proper t at schedule moment v le top o k = record {
  proper = proper_if_goes t moment (confirming t at schedule moment) (confirmation_goes t at schedule moment v le top o k);
  ids_are = no_ids (confirming t at schedule moment) (confirm_none t at schedule moment is_put_in refl (λ r. refl) (λ n queue a. refl) (λ n. refl));
}

dropped_puts_none : (sub : SubRow) (moment id : ℕ) (xs : List SlotRow) (low : ℕ) → list_any is_put_in (filter_map (dropped_slot sub moment id) (enumerate_from low xs)) ≡ false
dropped_puts_none sub moment id [] low = refl
dropped_puts_none sub moment id (y ∷ ys) low = by (is_slot_of sub y && is_open y.state) (dropped_puts_none sub moment id ys (low + 1))
  where
    by : (b : Bool) → list_any is_put_in (filter_map (dropped_slot sub moment id) (enumerate_from (low + 1) ys)) ≡ false
        → list_any is_put_in (cons_option (if b then Some (changes.Dropped id low moment) else None) (filter_map (dropped_slot sub moment id) (enumerate_from (low + 1) ys))) ≡ false
    by true h = h
    by false h = h

subscriber_puts_none : (t : Tables) (sub : SubRow) (moment : ℕ) → list_any is_put_in (settled t (changes.DropSub sub.queue sub.name ∷ dropped_in t sub moment)) ≡ false
subscriber_puts_none t sub moment =
    let cs = changes.DropSub sub.queue sub.name ∷ dropped_in t sub moment in
    any_append is_put_in cs (flat_map (settling t cs) (names_of cs)) (any_flat is_put_in (dropped_of sub moment) (λ m. dropped_puts_none sub moment m.id m.slots 1) (filter (λ m. bytes_eq m.queue sub.queue) t.messages))
    (settled_none is_put_in (λ n queue at. refl) (λ n. refl) t cs)

pub subscriber_removal_is_proper : (t : Tables) (sub : SubRow) (moment : ℕ) → is_valid t ≡ true → t.latest ≤ moment → moment ≤ MOMENT_LIMIT → find_sub t sub.queue sub.name ≡ Some sub
    → IsProperCommit t (settled t (changes.DropSub sub.queue sub.name ∷ dropped_in t sub moment)) []
subscriber_removal_is_proper t sub moment v le top e = record {
  proper = proper_if_goes t moment (settled t (changes.DropSub sub.queue sub.name ∷ dropped_in t sub moment)) (subscriber_goes t sub moment v le top e);
  ids_are = no_ids (settled t (changes.DropSub sub.queue sub.name ∷ dropped_in t sub moment)) (subscriber_puts_none t sub moment);
}

-- ---- behind others

module _ {X : Type 0} (R : X → X → Type 0) where
  pairs-append : (xs ys : List X) → AllPairs R xs → AllPairs R ys → All (λ x. All (R x) ys) xs → AllPairs R (xs ++ ys)
  pairs-append [] ys h k d = k
  pairs-append (x ∷ xs) ys h k d =
      AllPairs-cons R x (xs ++ ys) (All-append (R x) xs ys (pairs-head R x xs h) (All-head (λ y. All (R y) ys) x xs d)) (pairs-append xs ys (pairs-tail R x xs h) k (All-tail (λ y. All (R y) ys) x xs d))

uncounted_one : (t : Tables) (c : Change) → is_proper t c ≡ true → not (is_counters c) ≡ true
uncounted_one t (changes.Counters next transaction latest) e = absurd (false≢true e)
uncounted_one t (changes.PutTable row) e = refl
uncounted_one t _ e = refl

uncounted : (cs : List Change) (t : Tables) → are_proper t cs ≡ true → list_all (λ c. not (is_counters c)) cs ≡ true
unfolding are_proper
uncounted [] t h = refl
uncounted (c ∷ cs) t h =
    let p = and_parts (is_proper t c) (are_proper (after_change t c) cs) h in and_from (not (is_counters c)) (list_all (λ x. not (is_counters x)) cs) (uncounted_one t c p.0) (uncounted cs (after_change t c) p.1)

pub proper_grows : (opening : Tables) (before cs : List Change) (ids : List ℕ) (latest : ℕ) → AreProper opening before → IsProperCommit (at_latest latest (after_all opening before)) cs ids → AllPairs (λ a b. (a == b) ≡ false) ids
    → All (λ id. opening.next ≤ id) ids → All (λ a. All (λ b. (a == b) ≡ false) ids) (ids_put_in before) → AreProper opening (before ++ cs)
proper_grows opening before cs ids latest p c d l a =
    let u = after_all opening before in
    let all_ids : ids_put_in (before ++ cs) ≡ ids_put_in before ++ ids = filter_map-append id_put_in before cs ∙ ap (λ xs. ids_put_in before ++ xs) c.ids_are in
    record {
      proper = proper_on opening before cs p.proper (sym (proper_later cs u latest (uncounted cs (at_latest latest u) c.proper)) ∙ c.proper);
      new = record {
        distinct = subst (AllPairs (λ x y. (x == y) ≡ false)) (sym all_ids) (pairs-append (λ x y. (x == y) ≡ false) (ids_put_in before) ids p.new.distinct d a);
        later = subst (All (λ id. opening.next ≤ id)) (sym all_ids) (All-append (λ id. opening.next ≤ id) (ids_put_in before) ids p.new.later l);
      };
    }
