-- The recipients of an enqueue are distinct, and named where the table has many consumers.
use Rattle.std.proofs.Common.{◌≡◌, ℕ, List, [], ◌∷◌, ◌++◌, Bool, true, false, not, refl, sym, ap, ◌∙◌, Option, Some, None, ◌&&◌}
use Rattle.std.specs.Prelude.{filter, fold, map, is_some, is_none, if◌then◌else◌}
use Rattle.std.specs.List.{list_any, list_all}
use Rattle.std.specs.Str.{bytes_eq}
use Rattle.std.specs.Cmp.Lexicographic.{nat_list_eq_equiv, bytes_decides}
use Rattle.std.proofs.lemmas.Bool.{cond_both, and_parts, and_from, or_from, not-true, not_from_false}
use Rattle.payload_records.specs.declared.record.Record.{Record}
use Rattle.queue_rows.specs.Rows.{is_same_sub}
use Rattle.queue_rows.specs.Conditions.{is_met}
use Rattle.queue_rows.specs.Session.{is_same_consumer}
use Rattle.queue_rows.specs.Distinct.{are_distinct}
use Rattle.queue_rows.specs.Recipients.{is_same_agent, with_agent, distinct_agents, nameless, listed, subscribed, named_recipients, names_recipients, wanting, facts_of, named_or_wanting, recipients}
use Rattle.queue_rows.specs.Valid.{is_valid, has_distinct_rows}
use Rattle.queue_rows.specs.declared.tables.Tables.{Tables}
use Rattle.queue_rows.specs.declared.rows.TableRow.{TableRow}
use Rattle.queue_rows.specs.declared.rows.SubRow.{SubRow}
use Rattle.queue_rows.specs.declared.session.Agent.{Agent}
use Rattle.queue_rows.specs.declared.statement.Enqueue.{Enqueue}
use Rattle.queue_rows.specs.declared.statement.Recipient.{Recipient}
use Rattle.row_laws.proofs.Finding.{filter-yes, filter-no}
use Rattle.valid_laws.proofs.Parts.{and_l, and_r, parts_of}
use Rattle.statement_laws.proofs.Among.{Each, each_map, each_both, each_filter, each_filtered, each_not, any_last}

-- ---- distinct lists

module _ {X : Type 0} where
  pub any_not : (p : X → Bool) (xs : List X) → Each (λ y. p y ≡ false) xs → list_any p xs ≡ false
  any_not p [] h = refl
  any_not p (x ∷ xs) h = or_from (p x) (list_any p xs) h.0 (any_not p xs h.1)

  pub all_each : (p : X → Bool) (xs : List X) → Each (λ y. p y ≡ true) xs → list_all p xs ≡ true
  all_each p [] h = refl
  all_each p (x ∷ xs) h = and_from (p x) (list_all p xs) h.0 (all_each p xs h.1)

  pub each_last : (Q : X → Type 0) (xs : List X) (y : X) → Each Q xs → Q y → Each Q (xs ++ y ∷ [])
  each_last Q [] y h k = (k, tt)
  each_last Q (x ∷ xs) y h k = (h.0, each_last Q xs y h.1 k)

  module _ (same : X → X → Bool) where
    pub distinct_last : (xs : List X) (y : X) → are_distinct same xs ≡ true → Each (λ x. same x y ≡ false) xs → are_distinct same (xs ++ y ∷ []) ≡ true
    distinct_last [] y h k = refl
    distinct_last (x ∷ xs) y h k =
        let p = and_parts (not (list_any (same x) xs)) (are_distinct same xs) h in
        and_from (not (list_any (same x) (xs ++ y ∷ []))) (are_distinct same (xs ++ y ∷ []))
        (not_from_false (list_any (same x) (xs ++ y ∷ [])) (any_last (same x) xs y ∙ or_from (list_any (same x) xs) (same x y) (not-true (list_any (same x) xs) p.0) k.0))
        (distinct_last xs y p.1 k.1)

    filter_step : (p : X → Bool) (x : X) (xs : List X) (b : Bool) → p x ≡ b → Each (λ y. same x y ≡ false) xs → are_distinct same (filter p xs) ≡ true → are_distinct same (filter p (x ∷ xs)) ≡ true
    filter_step p x xs true e h k =
        ap (are_distinct same) (filter-yes p p x xs e)
        ∙ and_from (not (list_any (same x) (filter p xs))) (are_distinct same (filter p xs)) (not_from_false (list_any (same x) (filter p xs)) (any_not (same x) (filter p xs) (each_filter (λ y. same x y ≡ false) p xs h))) k
    filter_step p x xs false e h k = ap (are_distinct same) (filter-no p p x xs e) ∙ k

    pub distinct_filter : (p : X → Bool) (xs : List X) → are_distinct same xs ≡ true → are_distinct same (filter p xs) ≡ true
    distinct_filter p [] h = refl
    distinct_filter p (x ∷ xs) h =
        let q = and_parts (not (list_any (same x) xs)) (are_distinct same xs) h in
        filter_step p x xs (p x) refl (each_not (same x) xs (not-true (list_any (same x) xs) q.0)) (distinct_filter p xs q.1)

module _ {X Y : Type 0} (f : X → Y) where
  pub each_mapped : (Q : Y → Type 0) (xs : List X) → Each (λ x. Q (f x)) xs → Each Q (map f xs)
  each_mapped Q [] h = tt
  each_mapped Q (x ∷ xs) h = (h.0, each_mapped Q xs h.1)

  -- where what is apart becomes what is apart
  pub distinct_mapped : (Q : X → Type 0) (same : X → X → Bool) (alike : Y → Y → Bool) → ((x y : X) → Q x → Q y → same x y ≡ false → alike (f x) (f y) ≡ false) → (xs : List X) → Each Q xs → are_distinct same xs ≡ true → are_distinct alike (map f xs) ≡ true
  distinct_mapped Q same alike k [] q h = refl
  distinct_mapped Q same alike k (x ∷ xs) q h =
      let p = and_parts (not (list_any (same x) xs)) (are_distinct same xs) h in
      and_from (not (list_any (alike (f x)) (map f xs))) (are_distinct alike (map f xs))
      (not_from_false (list_any (alike (f x)) (map f xs)) (any_not (alike (f x)) (map f xs) (each_mapped (λ y. alike (f x) y ≡ false) xs
      (each_both Q (λ y. same x y ≡ false) (λ y. alike (f x) (f y) ≡ false) (λ y qy e. k x y q.0 qy e) xs q.1 (each_not (same x) xs (not-true (list_any (same x) xs) p.0))))))
      (distinct_mapped Q same alike k xs q.1 p.1)

-- ---- agents

same_consumer_flip : (a b : Option (List ℕ)) → is_same_consumer a b ≡ is_same_consumer b a
same_consumer_flip None None = refl
same_consumer_flip None (Some y) = refl
same_consumer_flip (Some x) None = refl
same_consumer_flip (Some x) (Some y) = nat_list_eq_equiv.symm x y

same_agent_flip : (a b : Agent) → is_same_agent a b ≡ is_same_agent b a
same_agent_flip a b = ap (λ x. x && is_same_consumer a.address b.address) (same_consumer_flip a.name b.name) ∙ ap (λ x. is_same_consumer b.name a.name && x) (same_consumer_flip a.address b.address)

-- it has a name, where it needs one, and else neither name nor address
abbrev pub IsNamed : Bool → Agent → Type 0
IsNamed multi a = (if multi then is_some a.name else (is_none a.name && is_none a.address)) ≡ true

pub record AreAgents (multi : Bool) (agents : List Agent) : Type 0 where
  pub distinct : are_distinct is_same_agent agents ≡ true
  pub named : Each (IsNamed multi) agents

one_more : (multi : Bool) (agents : List Agent) (a : Agent) (b : Bool) → list_any (is_same_agent a) agents ≡ b → AreAgents multi agents → IsNamed multi a → AreAgents multi (if b then agents else agents ++ a ∷ [])
one_more multi agents a true e h k = h
one_more multi agents a false e h k = record {
  distinct = distinct_last is_same_agent agents a h.distinct (each_map (λ y. is_same_agent a y ≡ false) (λ y. is_same_agent y a ≡ false) (λ y d. same_agent_flip y a ∙ d) agents (each_not (is_same_agent a) agents e));
  named = each_last (IsNamed multi) agents a h.named k;
}

distinct_from : (multi : Bool) (more agents : List Agent) → AreAgents multi agents → Each (IsNamed multi) more → AreAgents multi (fold with_agent agents more)
distinct_from multi [] agents h k = h
distinct_from multi (a ∷ more) agents h k = distinct_from multi more (with_agent agents a) (one_more multi agents a (list_any (is_same_agent a) agents) refl h k.0) k.1

each_listed : (rs : List Recipient) → Each (λ r. IsNamed true (listed r)) rs
each_listed [] = tt
each_listed (r ∷ rs) = (refl, each_listed rs)

listed_right : (rs : List Recipient) → AreAgents true (distinct_agents (map listed rs))
listed_right rs = distinct_from true (map listed rs) [] (record { distinct = refl; named = tt }) (each_mapped listed (IsNamed true) rs (each_listed rs))

-- ---- subscribers

distinct_subs_in : (t : Tables) → has_distinct_rows t ≡ true → are_distinct is_same_sub t.subs ≡ true
distinct_subs_in t h = search (and_l, and_r) depth 8

distinct_subs : (t : Tables) → is_valid t ≡ true → are_distinct is_same_sub t.subs ≡ true
distinct_subs t v = distinct_subs_in t (parts_of t v).rows

each_of_queue : (queue : List ℕ) (subs : List SubRow) → Each (λ s. Unit {0}) subs → Each (λ s. (bytes_eq s.queue queue ≡ true) × Unit {0}) (filter (λ s. bytes_eq s.queue queue) subs)
each_of_queue queue subs h = each_filtered (λ s. Unit {0}) (λ s. bytes_eq s.queue queue) subs h

each_unit : (subs : List SubRow) → Each (λ s. Unit {0}) subs
each_unit [] = tt
each_unit (s ∷ subs) = (tt, each_unit subs)

each_subscribed : (subs : List SubRow) → Each (λ s. IsNamed true (subscribed s)) subs
each_subscribed [] = tt
each_subscribed (s ∷ subs) = (refl, each_subscribed subs)

-- two subscribers of one queue have different names
apart_in : (queue : List ℕ) (a b : SubRow) → bytes_eq a.queue queue ≡ true → bytes_eq b.queue queue ≡ true → is_same_sub a b ≡ false → is_same_agent (subscribed a) (subscribed b) ≡ false
apart_in queue a b h k e =
    let here : a.queue ≡ queue = (bytes_decides a.queue queue).0 h in
    let there : b.queue ≡ queue = (bytes_decides b.queue queue).0 k in
    let same : bytes_eq a.queue b.queue ≡ true = ap (λ q. bytes_eq q b.queue) here ∙ ap (bytes_eq queue) there ∙ nat_list_eq_equiv.refl queue in
    let name : bytes_eq a.name b.name ≡ false = sym (ap (λ x. x && bytes_eq a.name b.name) same) ∙ e in
    ap (λ x. x && is_same_consumer (subscribed a).address (subscribed b).address) name

module _ (t : Tables) (v : is_valid t ≡ true) where
  wanting_right : (queue : List ℕ) (table : TableRow) (ask : Enqueue) (cells : Record) → AreAgents true (map subscribed (wanting t queue table.fields (facts_of ask cells)))
  wanting_right queue table ask cells =
      let wants = λ (s : SubRow). is_met table.fields (facts_of ask cells) s.rule in
      let of_queue = λ (s : SubRow). bytes_eq s.queue queue in
      record {
        distinct = distinct_mapped subscribed (λ s. bytes_eq s.queue queue ≡ true) is_same_sub is_same_agent (apart_in queue) (filter wants (filter of_queue t.subs))
            (each_filter (λ s. bytes_eq s.queue queue ≡ true) wants (filter of_queue t.subs) (each_map (λ s. (bytes_eq s.queue queue ≡ true) × Unit {0}) (λ s. bytes_eq s.queue queue ≡ true) (λ s h. h.0) (filter of_queue t.subs) (each_of_queue queue t.subs (each_unit t.subs))))
            (distinct_filter is_same_sub wants (filter of_queue t.subs) (distinct_filter is_same_sub of_queue t.subs (distinct_subs t v)));
        named = each_mapped subscribed (IsNamed true) (filter wants (filter of_queue t.subs)) (each_subscribed (filter wants (filter of_queue t.subs)));
      }

  many_right : (table : TableRow) (ask : Enqueue) (cells : Record) → AreAgents true (named_or_wanting t table ask cells)
  many_right table ask cells =
      cond_both (names_recipients ask) (distinct_agents (map listed (named_recipients ask))) (map subscribed (wanting t ask.queue table.fields (facts_of ask cells))) (AreAgents true)
      (λ _. listed_right (named_recipients ask)) (λ _. wanting_right ask.queue table ask cells)

  by_kind : (multi : Bool) (table : TableRow) (ask : Enqueue) (cells : Record) → AreAgents multi (if multi then named_or_wanting t table ask cells else nameless ∷ [])
  by_kind true table ask cells = many_right table ask cells
  by_kind false table ask cells = record { distinct = refl; named = (refl, tt) }

  pub recipients_are : (table : TableRow) (ask : Enqueue) (cells : Record) → AreAgents table.multi (recipients t table ask cells)
  unfolding recipients
  recipients_are table ask cells = by_kind table.multi table ask cells
