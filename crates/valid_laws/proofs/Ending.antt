-- After a commit of all that is due at a database nothing is due there.
use Rattle.std.proofs.Common.{◌≡◌, ℕ, List, [], ◌∷◌, ◌++◌, Bool, true, false, refl, sym, ap, ◌∙◌, subst, Option, Some, None, ◌==◌, ◌&&◌}
use Rattle.std.specs.Prelude.{flat_map, if◌then◌else◌}
use Rattle.std.specs.List.{list_all}
use Rattle.std.proofs.lemmas.Bool.{eqb-true, eqb-false, eq-eqb, ne_eqb, and_parts, and_from, false≢true}
use Rattle.std.proofs.lemmas.Option.{none-some}
use Rattle.queue_rows.specs.Rows.{find_message, table_of}
use Rattle.queue_rows.specs.Tables.{moved_to}
use Rattle.queue_rows.specs.Settling.{if_it, named_by, names_of, is_lost, is_handled, is_kept_by_none, exception_queue_of, settling_of, settling, message_after, last_moment, retention_of}
use Rattle.queue_rows.specs.Due.{Watch, due_slots, is_spent, due_purge, watched}
use Rattle.queue_rows.specs.declared.tables.Tables.{Tables}
use Rattle.queue_rows.specs.declared.rows.MsgRow.{MsgRow}
use Rattle.queue_rows.specs.declared.change.Change.{Change}
use Rattle.queue_rows.specs.declared.change.Change.TheVariants as changes
use Rattle.row_laws.specs.RowLaws.{HasDistinctMessages}
use Rattle.row_laws.proofs.Messages.{id_found}
use Rattle.row_laws.proofs.Distinctly.{single_if_distinct}
use Rattle.row_laws.proofs.Queues.{is_naming}
use Rattle.valid_laws.proofs.Runs.{run, run_append, is_of, HasIdIn, some_id, run_id, run_other, of_found, whole_run}
use Rattle.valid_laws.proofs.Doing.{all_done, alike_done, done_run, own_slots, all-append, all-flat}
use Rattle.valid_laws.proofs.Calming.{HasClosedRecipients, calm_slots, calm_purge, IsQuiet, quiet_slots, quiet_moved, moved_purge, lost_quiet}

-- ---- all of it names messages

of_naming : (id : ℕ) (c : Change) (o : Option ℕ) → named_by c ≡ o → is_of id c ≡ true → is_naming c ≡ true
of_naming id c None e h = absurd (false≢true (rw e at h))
of_naming id c (Some n) e h = rw e refl

pub all_naming : (id : ℕ) (cs : List Change) → list_all (is_of id) cs ≡ true → list_all is_naming cs ≡ true
all_naming id [] h = refl
all_naming id (c ∷ cs) h =
    let parts = and_parts (is_of id c) (list_all (is_of id) cs) h in and_from (is_naming c) (list_all is_naming cs) (of_naming id c (named_by c) refl parts.0) (all_naming id cs parts.1)

own_purge_by : (id : ℕ) (b : Bool) → list_all (is_of id) (if b then changes.Purged id ∷ [] else []) ≡ true
own_purge_by id true = and_from (id == id) true (eq-eqb id id refl) refl
own_purge_by id false = refl

own_purge : (w : Watch) (m : MsgRow) → list_all (is_of m.id) (due_purge w m) ≡ true
own_purge w m = own_purge_by m.id (is_spent w m)

own_settling_by : (id : ℕ) (queue : List ℕ) (at : ℕ) (b c : Bool) → list_all (is_of id) (if b then changes.Moved id queue at ∷ [] else (if c then changes.Purged id ∷ [] else [])) ≡ true
own_settling_by id queue at true c = and_from (id == id) true (eq-eqb id id refl) refl
own_settling_by id queue at false c = own_purge_by id c

pub own_settling : (t : Tables) (at : ℕ) (r : MsgRow) → list_all (is_of r.id) (settling_of t at (Some r)) ≡ true
own_settling t at r = own_settling_by r.id (exception_queue_of t r) at (is_lost r) (is_handled r && is_kept_by_none t r)

naming_settling : (t : Tables) (at : ℕ) (o : Option MsgRow) → list_all is_naming (settling_of t at o) ≡ true
naming_settling t at None = refl
naming_settling t at (Some r) = all_naming r.id (settling_of t at (Some r)) (own_settling t at r)

-- ---- what is done besides settling

abbrev pub undone : Watch → List Change
undone w = flat_map (due_slots w) w.tables.messages ++ flat_map (due_purge w) w.tables.messages

naming_undone : (w : Watch) → list_all is_naming (undone w) ≡ true
naming_undone w = all-append is_naming (flat_map (due_slots w) w.tables.messages) (flat_map (due_purge w) w.tables.messages)
    (all-flat is_naming (due_slots w) (λ m. all_naming m.id (due_slots w m) (own_slots w m)) w.tables.messages)
    (all-flat is_naming (due_purge w) (λ m. all_naming m.id (due_purge w m) (own_purge w m)) w.tables.messages)

pub naming_watched : (w : Watch) → list_all is_naming (watched w) ≡ true
naming_watched w =
    let cs = undone w in
    all-append is_naming cs (flat_map (settling w.tables cs) (names_of cs)) (naming_undone w)
    (all-flat is_naming (settling w.tables cs) (λ id. naming_settling w.tables (last_moment cs id) (message_after w.tables cs id)) (names_of cs))

-- ---- one message

module _ (w : Watch) (distinct : HasDistinctMessages w.tables) (id : ℕ) (m : MsgRow) (found : find_message w.tables id ≡ Some m) where
  abbrev purged_or : Bool → MsgRow → Option MsgRow
  purged_or b r = if b then None else Some r

  purge_run : (r : MsgRow) (b : Bool) → r.id ≡ m.id → run (Some r) (if b then changes.Purged m.id ∷ [] else []) ≡ purged_or b r
  purge_run r true e = rw (eq-eqb r.id m.id e) refl
  purge_run r false e = refl

  m_id : HasIdIn id (Some m)
  m_id r e = some_id m r e ∙ id_found w.tables id m found

  done_id : HasIdIn id (Some (all_done w m))
  done_id r e = some_id (all_done w m) r e ∙ (alike_done w m).id ∙ id_found w.tables id m found

  -- the message after all that is due of slots, and of messages that go
  pub undone_run : message_after w.tables (undone w) id ≡ purged_or (is_spent w m) (all_done w m)
  undone_run =
      let ms = w.tables.messages in
      let s = single_if_distinct w.tables id distinct in
      let a = flat_map (due_slots w) ms in
      let b = flat_map (due_purge w) ms in
      ap (λ o. run o (a ++ b)) found ∙ run_append (Some m) a b
      ∙ ap (λ o. run o b) (whole_run (due_slots w) (own_slots w) id ms (Some m) s m_id ∙ ap (λ f. run (Some m) (of_found (due_slots w) (own_slots w) f)) found ∙ done_run w m)
      ∙ whole_run (due_purge w) (own_purge w) id ms (Some (all_done w m)) s done_id ∙ ap (λ f. run (Some (all_done w m)) (of_found (due_purge w) (own_purge w) f)) found
      ∙ purge_run (all_done w m) (is_spent w m) (alike_done w m).id

  module _ (u : Tables) (same_table : (name : List ℕ) → table_of u name ≡ table_of w.tables name) (same_kept : (r : MsgRow) → retention_of u r ≡ retention_of w.tables r) (closed : HasClosedRecipients m) where
    -- nothing is due of the row, and where it is lost it may be moved
    pub record IsCalm (r : MsgRow) : Type 0 where
      pub id_is : r.id ≡ id
      pub slots : due_slots (record w { tables = u }) r ≡ []
      pub purge : due_purge (record w { tables = u }) r ≡ []
      pub quiet : is_lost (all_done w m) ≡ true → IsQuiet r

    abbrev pub AreCalm : Option MsgRow → Type 0
    AreCalm o = (r : MsgRow) → o ≡ Some r → IsCalm r

    calm_some : (r : MsgRow) → IsCalm r → AreCalm (Some r)
    calm_some r c x e = let same : r ≡ x = cc in subst IsCalm same c

    calm_none : AreCalm None
    calm_none r e = absurd (none-some r e)

    first_calm : (b : Bool) → is_spent w m ≡ b → AreCalm (purged_or b (all_done w m))
    first_calm true e = calm_none
    first_calm false e = calm_some (all_done w m) (record {
      id_is = (alike_done w m).id ∙ id_found w.tables id m found;
      slots = calm_slots w u same_table same_kept m;
      purge = calm_purge w u same_kept m closed e;
      quiet = λ lost. lost_quiet (all_done w m) lost;
    })

    -- the row that is there after what is undone is this one
    was_done : (r : MsgRow) (b : Bool) → purged_or b (all_done w m) ≡ Some r → all_done w m ≡ r
    was_done r true e = absurd (none-some r e)
    was_done r false e = cc

    moved_calm : (r : MsgRow) (queue : List ℕ) (at : ℕ) → IsCalm r → is_lost (all_done w m) ≡ true → IsCalm (moved_to queue at r)
    moved_calm r queue at c lost = record {
      id_is = c.id_is;
      slots = quiet_slots (record w { tables = u }) (moved_to queue at r) (quiet_moved queue at r (c.quiet lost));
      purge = moved_purge (record w { tables = u }) queue at r;
      quiet = λ l. quiet_moved queue at r (c.quiet lost);
    }

    it_is : (r : MsgRow) (named : ℕ) (o : Option MsgRow) → (r.id == named) ≡ true → if_it r named o ≡ o
    it_is r named o e = rw e refl

    -- what it settles of the message itself
    settle_calm : (o : Option MsgRow) (x : MsgRow) (queue : List ℕ) (at : ℕ) (b c : Bool) → AreCalm o → x.id ≡ id → (b ≡ true → is_lost (all_done w m) ≡ true)
        → AreCalm (run o (if b then changes.Moved x.id queue at ∷ [] else (if c then changes.Purged x.id ∷ [] else [])))
    settle_calm None x queue at true c k e l = calm_none
    settle_calm None x queue at false true k e l = calm_none
    settle_calm (Some r) x queue at true c k e l =
        let it : (r.id == x.id) ≡ true = eq-eqb r.id x.id ((k r refl).id_is ∙ sym e) in
        subst AreCalm (sym (it_is r x.id (Some (moved_to queue at r)) it)) (calm_some (moved_to queue at r) (moved_calm r queue at (k r refl) (l refl)))
    settle_calm (Some r) x queue at false true k e l =
        let it : (r.id == x.id) ≡ true = eq-eqb r.id x.id ((k r refl).id_is ∙ sym e) in subst AreCalm (sym (it_is r x.id None it)) calm_none
    settle_calm o x queue at false false k e l = k

    ids_in : (o : Option MsgRow) → AreCalm o → HasIdIn id o
    ids_in o k r e = (k r e).id_is

    settling_calm : (n : ℕ) (o x : Option MsgRow) (at : ℕ) (b : Bool) → (n == id) ≡ b → message_after w.tables (undone w) n ≡ x → HasIdIn n x → AreCalm o → AreCalm (run o (settling_of w.tables at x))
    settling_calm n o None at b e h i k = k
    settling_calm n o (Some x) at true e h i k =
        let same : n ≡ id = eqb-true n id e in
        let row : all_done w m ≡ x = was_done x (is_spent w m) (sym undone_run ∙ ap (message_after w.tables (undone w)) (sym same) ∙ h) in
        settle_calm o x (exception_queue_of w.tables x) at (is_lost x) (is_handled x && is_kept_by_none w.tables x) k (i x refl ∙ same) (λ lost. ap is_lost row ∙ lost)
    settling_calm n o (Some x) at false e h i k =
        let apart : (id == x.id) ≡ false = ne_eqb id x.id (λ s. eqb-false n id e (sym (s ∙ i x refl))) in
        subst AreCalm (sym (run_other id x.id (settling_of w.tables at (Some x)) o (own_settling w.tables at x) apart (ids_in o k))) k

    after_id : (n : ℕ) → HasIdIn n (message_after w.tables (undone w) n)
    after_id n = run_id n (undone w) (find_message w.tables n) (λ r e. id_found w.tables n r e)

    all_settled : (ns : List ℕ) (o : Option MsgRow) → AreCalm o → AreCalm (run o (flat_map (settling w.tables (undone w)) ns))
    all_settled [] o k = k
    all_settled (n ∷ ns) o k =
        let cs = settling w.tables (undone w) n in
        subst AreCalm (sym (run_append o cs (flat_map (settling w.tables (undone w)) ns)))
        (all_settled ns (run o cs) (settling_calm n o (message_after w.tables (undone w) n) (last_moment (undone w) n) (n == id) refl refl (after_id n) k))

    pub calm_at_end : AreCalm (message_after w.tables (watched w) id)
    calm_at_end =
        let cs = undone w in
        let rest = flat_map (settling w.tables cs) (names_of cs) in
        subst AreCalm (sym (run_append (find_message w.tables id) cs rest))
        (all_settled (names_of cs) (message_after w.tables cs id) (subst AreCalm (sym undone_run) (first_calm (is_spent w m) refl)))
