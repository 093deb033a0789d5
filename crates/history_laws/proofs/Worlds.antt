-- Sessions that begin, that are replaced, and what their scripts ask.
use Rattle.std.proofs.Common.{◌≡◌, ◌≢◌, ◌≤◌, ◌+◌, ◌⊎◌, inl, inr, ℕ, zero, suc, List, [], ◌∷◌, Bool, true, false, max, refl, sym, ap, ◌∙◌, subst, arith, Option, Some, None, ◌&&◌}
use Rattle.std.specs.Prelude.{slice_get, slice_set, length, map, min, nat_le, if◌then◌else◌}
use Rattle.std.specs.List.{list_all}
use Rattle.std.specs.Str.{bytes_eq}
use Rattle.std.proofs.lemmas.Bool.{and_parts, leb-true, false≢true}
use Rattle.std.proofs.lemmas.Option.{none-some, slice_get_within}
use Rattle.aq_base.specs.declared.DbId.{DbId}
use Rattle.aq_base.specs.declared.DbId.TheVariants.{Home, Away}
use Rattle.aq_base.specs.declared.limits.TheConstants.{MOMENT_LIMIT, NEXT_LIMIT, SESSION_LIMIT, STATEMENT_LIMIT}
use Rattle.queue_rows.specs.Session.{Session, is_same_db}
use Rattle.queue_rows.specs.Statements.{statement_of, next_statement}
use Rattle.queue_rows.specs.World.{World, database_at, opened, fresh}
use Rattle.queue_rows.specs.Within.{is_within, is_session_name, is_script_within, statement_count, are_within}
use Rattle.queue_rows.specs.Distinct.{are_distinct}
use Rattle.queue_rows.specs.Valid.{is_valid}
use Rattle.queue_rows.specs.declared.tables.Tables.{Tables}
use Rattle.queue_rows.specs.declared.history.SessionScript.{SessionScript}
use Rattle.queue_rows.specs.declared.statement.Statement.{Statement}
use Rattle.queue_rows.proofs.Sessions.{get_set-cases}
use Rattle.valid_laws.specs.PendingLaws.{count_passed}
use Rattle.valid_laws.proofs.Parts.{parts_of}
use Rattle.valid_laws.proofs.Framing.{room_less}
use Rattle.statement_laws.specs.StandingLaws.{count_held, AreStanding}
use Rattle.statement_laws.proofs.Standing.{empty_are_standing}
use Rattle.history_laws.specs.Ordered.{is_ordered}
use Rattle.history_laws.specs.ValidWorld.{AreScripts, IsRight}
use Rattle.history_laws.specs.WorldLaws.{MayBegin}

-- ---- a session of the other database holds something else

foreign_count : (db : DbId) (sessions : List Session) (i : ℕ) (s behind : Session) (n : ℕ) → slice_get sessions i ≡ Some s → is_same_db s.at db ≡ false → is_same_db behind.at db ≡ false → count_held db (slice_set sessions i behind) n ≡ count_held db sessions n
foreign_count db [] i s behind n e f g = refl
foreign_count db (x ∷ xs) zero s behind n e f g =
    let same : x ≡ s = (let a : Some x ≡ Some s = e in cc) in
    let other : is_same_db x.at db ≡ false = ap (λ y. is_same_db y.at db) same ∙ f in
    ap (λ b. (if b then count_passed n behind.pending else 0) + count_held db xs n) g ∙ sym (ap (λ b. (if b then count_passed n x.pending else 0) + count_held db xs n) other)
foreign_count db (x ∷ xs) (suc i) s behind n e f g = ap (λ k. (if is_same_db x.at db then count_passed n x.pending else 0) + k) (foreign_count db xs i s behind n e f g)

module _ (t : Tables) (db : DbId) (next moment i : ℕ) (s behind : Session) (sessions : List Session) (k : AreStanding t db next moment sessions) (there : slice_get sessions i ≡ Some s) (away : is_same_db s.at db ≡ false) (gone : is_same_db behind.at db ≡ false) where
  -- a session of the database is one of those before
  old_place : (j : ℕ) (y : Session) → is_same_db y.at db ≡ true → ((j ≡ i) × (Some behind ≡ Some y)) ⊎ ((j ≢ i) × (slice_get sessions j ≡ Some y)) → slice_get sessions j ≡ Some y
  old_place j y f (inl p) = let same : behind ≡ y = (let a : Some behind ≡ Some y = p.1 in cc) in absurd (false≢true (sym gone ∙ ap (λ x. is_same_db x.at db) same ∙ f))
  old_place j y f (inr p) = p.1

  old_of : (j : ℕ) (y : Session) → slice_get (slice_set sessions i behind) j ≡ Some y → is_same_db y.at db ≡ true → slice_get sessions j ≡ Some y
  old_of j y e f = old_place j y f (get_set-cases sessions i j behind y (slice_get_within sessions i s there) e)

  foreign_standing : AreStanding t db next moment (slice_set sessions i behind)
  foreign_standing = record {
    each = λ j y e f. k.each j y (old_of j y e f) f;
    two = λ j l a b ea eb fa fb d. k.two j l a b (old_of j a ea fa) (old_of l b eb fb) fa fb d;
    room = room_less t (count_held db sessions) (count_held db (slice_set sessions i behind)) (λ n. let e = foreign_count db sessions i s behind n there away gone in omega (arith, e)) k.room;
    up = k.up;
  }

pub replaced_by : (t : Tables) (db : DbId) (next moment i : ℕ) (s behind : Session) (sessions : List Session) (b : Bool) → is_same_db s.at db ≡ b → IsRight t db next moment sessions → slice_get sessions i ≡ Some s → behind.at ≡ s.at
    → (is_same_db s.at db ≡ true → AreStanding t db next moment (slice_set sessions i behind)) → IsRight t db next moment (slice_set sessions i behind)
replaced_by t db next moment i s behind sessions true e r there same own = record { valid = r.valid; fields = r.fields; latest = r.latest; standing = own e; most = r.most }
replaced_by t db next moment i s behind sessions false e r there same own =
    record { valid = r.valid; fields = r.fields; latest = r.latest; standing = foreign_standing t db next moment i s behind sessions r.standing there e (ap (λ d. is_same_db d db) same ∙ e); most = r.most }

-- ---- the beginning

pub fresh_empty : (scripts : List SessionScript) (i : ℕ) (s : Session) → slice_get (map fresh scripts) i ≡ Some s → (s.pending ≡ []) × (s.marks ≡ [])
fresh_empty [] i s e = absurd (none-some s e)
fresh_empty (x ∷ xs) zero s e = let same : fresh x ≡ s = (let a : Some (fresh x) ≡ Some s = e in cc) in (ap (λ y. y.pending) (sym same), ap (λ y. y.marks) (sym same))
fresh_empty (x ∷ xs) (suc i) s e = fresh_empty xs i s e

pub latest_within : (t : Tables) → is_valid t ≡ true → t.latest ≤ MOMENT_LIMIT
latest_within t v =
    leb-true t.latest MOMENT_LIMIT (and_parts (nat_le 1 t.next && nat_le t.next NEXT_LIMIT && nat_le 1 t.transaction && nat_le t.transaction t.next) (nat_le t.latest MOMENT_LIMIT) (parts_of t v).numbers).1

next_within : (t : Tables) → is_valid t ≡ true → t.next ≤ NEXT_LIMIT
next_within t v =
    let p4 = and_parts (nat_le 1 t.next && nat_le t.next NEXT_LIMIT && nat_le 1 t.transaction && nat_le t.transaction t.next) (nat_le t.latest MOMENT_LIMIT) (parts_of t v).numbers in
    let p3 = and_parts (nat_le 1 t.next && nat_le t.next NEXT_LIMIT && nat_le 1 t.transaction) (nat_le t.transaction t.next) p4.0 in
    let p2 = and_parts (nat_le 1 t.next && nat_le t.next NEXT_LIMIT) (nat_le 1 t.transaction) p3.0 in
    leb-true t.next NEXT_LIMIT (and_parts (nat_le 1 t.next) (nat_le t.next NEXT_LIMIT) p2.0).1

pub opened_right : (home away : Tables) (scripts : List SessionScript) → MayBegin home away scripts → (db : DbId)
    → IsRight (database_at db (opened home away scripts)).tables db (database_at db (opened home away scripts)).next (max home.latest away.latest) (map fresh scripts)
unfolding opened
opened_right home away scripts b Home = record {
  valid = b.home_valid;
  fields = b.home_fields;
  latest = omega arith;
  standing = empty_are_standing home Home home.next (max home.latest away.latest) (map fresh scripts) b.home_valid (omega arith) (fresh_empty scripts);
  most = next_within home b.home_valid;
}
opened_right home away scripts b Away = record {
  valid = b.away_valid;
  fields = b.away_fields;
  latest = omega arith;
  standing = empty_are_standing away Away away.next (max home.latest away.latest) (map fresh scripts) b.away_valid (omega arith) (fresh_empty scripts);
  most = next_within away b.away_valid;
}

pub opening_within : (a b : ℕ) → a ≤ MOMENT_LIMIT → b ≤ MOMENT_LIMIT → max a b ≤ MOMENT_LIMIT
opening_within a b h g = omega (arith, h, g)

-- ---- what a script asks

pub all_at : {X : Type 0} (q : X → Bool) (xs : List X) (i : ℕ) (x : X) → list_all q xs ≡ true → slice_get xs i ≡ Some x → q x ≡ true
all_at q [] i x h e = absurd (none-some x e)
all_at q (y ∷ ys) zero x h e = let same : y ≡ x = (let a : Some y ≡ Some x = e in cc) in ap q (sym same) ∙ (and_parts (q y) (list_all q ys) h).0
all_at q (y ∷ ys) (suc i) x h e = all_at q ys i x (and_parts (q y) (list_all q ys) h).1 e

scripts_within : (scripts : List SessionScript) → are_within scripts ≡ true → list_all is_script_within scripts ≡ true
unfolding are_within
scripts_within scripts h =
    (and_parts (nat_le (length scripts) SESSION_LIMIT && nat_le (statement_count scripts) STATEMENT_LIMIT && are_distinct bytes_eq (map (λ script. script.name) scripts)) (list_all is_script_within scripts) h).1

asked_by : (scripts : List SessionScript) (i n : ℕ) (statement : Statement) (o : Option SessionScript) → slice_get scripts i ≡ o → AreScripts scripts → statement_of o n ≡ Some statement → (is_within statement ≡ true) × (is_ordered statement ≡ true)
asked_by scripts i n statement None f a e = absurd (none-some statement e)
asked_by scripts i n statement (Some script) f a e =
    let within : is_script_within script ≡ true = all_at is_script_within scripts i script (scripts_within scripts a.within) f in
    let ordered : list_all is_ordered script.statements ≡ true = all_at (λ x. list_all is_ordered x.statements) scripts i script a.ordered f in
    (all_at is_within script.statements n statement (and_parts (is_session_name script.name) (list_all is_within script.statements) within).1 e, all_at is_ordered script.statements n statement ordered e)

pub asked : (w : World) (i : ℕ) (s : Session) (statement : Statement) → AreScripts w.scripts → next_statement w i s ≡ Some statement → (is_within statement ≡ true) × (is_ordered statement ≡ true)
asked w i s statement a e = asked_by w.scripts i s.next statement (slice_get w.scripts i) refl a e
