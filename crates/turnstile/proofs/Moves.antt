-- Each step keeps the rule.
use Rattle.std.proofs.Common.{◌≡◌, ◌≢◌, ◌⊎◌, ℕ, zero, suc, ◌<◌, eqb, List, [], ◌∷◌, ◌++◌, length, drop, set, get_or, Bool, true, false, refl, sym, ap, ◌∙◌, subst, inl, inr, ⊎_elim, arith, length-set, get_or-set_same, true≢false}
use Rattle.std.specs.Prelude.{Contains, Option, Some, IsSome}
use Rattle.std.specs.Option.{unwrap_or}
use Rattle.std.proofs.lemmas.List.{append-nil}
use Rattle.std.proofs.lemmas.List.Elements.{Contains-append_left, Contains-append_right, Contains-append_cases}
use mathlib.Core.List.{IsPrefix}
use mathlib.Core.Option.{some, some-injective, some-ne-none}
use mathlib.Core.Option as opt
use mathlib.Core.Logic.{dite}
use native.Mathlib.Decide.{ℕ_discrete}
use lib.ListN.{get_elem?}
use prog.Atomic.{either}
use Rattle.atomic_table.specs.Table.{State, Me, step, keeps, takes, gives, stepped, opening, Allows, Splits, Joins, Seen}
use Rattle.atomic_table.proofs.Lists.{at_longer, at_set, set_here, set_else, set_again}
use Rattle.turnstile.specs.declared.rule.View.{View}
use Rattle.turnstile.specs.Entries.{entries_by, AllBy, longer}
use Rattle.turnstile.specs.Views.{first_view, spent_view, with_made, new_view, with_joined, with_longer, entered, taken_out, announced, put_in, left, HasJoined}
use Rattle.turnstile.specs.Rule.{Sits, Fits, IsOther, AreNumbers, Roster, IsHome, IsFree, HoldsTurn, IsTaken, Kept}
use Rattle.turnstile.specs.Passes.{known_of, AllJoined, Closes}
use Rattle.turnstile.specs.Steps.{took, went_out, told_home, came_in, released, learned}
use Rattle.turnstile.proofs.Lists.{numbers_push, prefix_refl, prefix_more, longer_begins, drop_append, at_snoc, by_other, by_same}

module _ {W O E : Type 0} (opens : W → O) (lists : W → List E) (actor : E → ℕ) (start : O) where
  abbrev V : Type 0
  V = View O E

  abbrev Team : List E → ℕ → V → List V → Type 0
  Team = Roster opens lists actor start

  abbrev Rule : State (Option W) V → Type 0
  Rule = Kept opens lists actor start

  abbrev On : List V → ℕ → V → Type 0
  On = Sits opens lists actor start

  abbrev Knows : List E → V → Type 0
  Knows = Fits opens lists actor start

  abbrev Other : V → V → Type 0
  Other = IsOther opens lists actor start

  -- what holds of the new view, where it is live, and of the others holds of all
  each_set_live : (P : ℕ → V → Type 0) (views : List V) (i : ℕ) (w : V) → (IsSome w.opening → P i w) → ((j : ℕ) (u : V) → j ≢ i → On views j u → P j u) → (j : ℕ) (u : V) → On (set views i w) j u → P j u
  each_set_live P views i w mine rest j u e = ⊎_elim
      (λ (t : (j ≡ i) × (w ≡ u)). subst (λ (y : ℕ × V). P y.0 y.1) (λ k. (sym t.0 k, t.1 k)) (mine (subst (λ (z : V). IsSome z.opening) (sym t.1) e.1)))
      (λ (t : (j ≢ i) × (get_elem? views j ≡ some u)). rest j u t.0 (t.1, e.1))
      (at_set views i j w u e.0)

  each_set : (P : ℕ → V → Type 0) (views : List V) (i : ℕ) (w : V) → P i w → ((j : ℕ) (u : V) → j ≢ i → On views j u → P j u) → (j : ℕ) (u : V) → On (set views i w) j u → P j u
  each_set P views i w mine = each_set_live P views i w (λ _. mine)

  each_snoc : (P : ℕ → V → Type 0) (views : List V) (w : V) → P (length views) w → ((j : ℕ) (u : V) → On views j u → P j u) → (j : ℕ) (u : V) → On (views ++ w ∷ []) j u → P j u
  each_snoc P views w mine rest j u e = ⊎_elim
      (λ (t : get_elem? views j ≡ some u). rest j u (t, e.1))
      (λ (t : (j ≡ length views) × (w ≡ u)). subst (λ (y : ℕ × V). P y.0 y.1) (λ k. (sym t.0 k, t.1 k)) mine)
      (at_snoc views w u j e.0)

  -- the parts of a view that a turn changes
  abbrev moved : V → Bool → Bool → List E → List E → List E → List E → V
  moved v h o seen told own home = record v { holds = h; out = o; seen = seen; told = told; own = own; home = home }

  some_length : (views : List V) (i : ℕ) (v : V) → get_elem? views i ≡ some v → i < length views
  some_length [] i v e = absurd (some-ne-none v (sym e))
  some_length (x ∷ xs) zero v e = omega arith
  some_length (x ∷ xs) (suc i) v e = let l = some_length xs i v e in omega arith

  module _ (log log' : List E) (seat i : ℕ) (chief v : V) (views : List V) (h o : Bool) (seen told own home : List E) where
    -- one view changed and the list may have grown
    moves_with : (chief' : V) → Team log seat chief views → On views i v → (chief'.actor ≡ chief.actor) × (chief'.made ≡ chief.made) × (chief'.joined ≡ chief.joined) × (chief'.first ≡ true) → On (set views i (moved v h o seen told own home)) seat chief'
        → Knows log' (moved v h o seen told own home) → ((j : ℕ) (u : V) → j ≢ i → On views j u → Knows log' u)
        → ((n : ℕ) (es : List E) → Contains chief.joined (n, es) → entries_by actor n log' ≡ entries_by actor n log)
        → ((a : ℕ) → a ≢ chief.actor → ¬ Contains chief.made a → entries_by actor a log' ≡ entries_by actor a log)
        → Team log' seat chief' (set views i (moved v h o seen told own home))
    moves_with chief' r at same sits mine rest joined nobody =
        let w : V = moved v h o seen told own home in
        let other : (u : V) → Other chief u → Other chief' u = λ u o. record {
          first = o.first;
          made = subst (λ (m : List ℕ). Contains m u.actor) (sym same.1) o.made;
          new = λ q. o.new (q.0, subst (λ (m : List (ℕ × List E)). Contains m (u.actor, q.0)) same.2 q.1);
          apart = λ q. o.apart (q ∙ same.0);
        } in record {
          sits = sits;
          first = same.3;
          numbers = subst (λ (y : ℕ × List ℕ). AreNumbers y.0 y.1) (λ k. (sym same.0 k, sym same.1 k)) r.numbers;
          fits = each_set (λ j u. Knows log' u) views i w mine rest;
          others = λ j u ne e. each_set (λ j u. j ≢ seat → Other chief' u) views i w
              (λ q. other w (let o = r.others i v q at in record { first = o.first; made = o.made; new = o.new; apart = o.apart }))
              (λ k x _ f q. other x (r.others k x q f)) j u e ne;
          distinct = λ j k x y ne e f. each_set (λ j x. (k : ℕ) (y : V) → j ≢ k → On (set views i w) k y → x.actor ≢ y.actor) views i w
              (λ k y ne f. each_set (λ k y. i ≢ k → w.actor ≢ y.actor) views i w (λ ne. absurd (ne refl)) (λ k y _ f ne. r.distinct i k v y ne at f) k y f ne)
              (λ j x _ e k y ne f. each_set (λ k y. j ≢ k → x.actor ≢ y.actor) views i w (λ ne. r.distinct j i x v ne e at) (λ k y _ f ne. r.distinct j k x y ne e f) k y f ne)
              j x e k y ne f;
          joined = λ n es c. let c' = subst (λ (m : List (ℕ × List E)). Contains m (n, es)) same.2 c in let q = r.joined n es c' in (q.0 ∙ sym (joined n es c'), (λ z. q.1 (z ∙ same.0)), subst (λ (m : List ℕ). Contains m n) (sym same.1) q.2);
          nobody_else = λ a ne c. let ne' : a ≢ chief.actor = λ z. ne (z ∙ sym same.0) in let c' : ¬ Contains chief.made a = λ z. c (subst (λ (m : List ℕ). Contains m a) (sym same.1) z) in
              nobody a ne' c' ∙ r.nobody_else a ne' c';
        }

    -- the same, whichever view it is
    moves : Team log seat chief views → On views i v → Knows log' (moved v h o seen told own home) → ((j : ℕ) (u : V) → j ≢ i → On views j u → Knows log' u)
        → ((n : ℕ) (es : List E) → Contains chief.joined (n, es) → entries_by actor n log' ≡ entries_by actor n log)
        → ((a : ℕ) → a ≢ chief.actor → ¬ Contains chief.made a → entries_by actor a log' ≡ entries_by actor a log)
        → (chief' : V) × Team log' seat chief' (set views i (moved v h o seen told own home))
    moves r at mine rest joined nobody = let w : V = moved v h o seen told own home in dite (ℕ_discrete i seat)
        (λ e. let same : v ≡ chief = some-injective v chief (sym at.0 ∙ (ap (get_elem? views) e ∙ r.sits.0)) in
        let there : get_elem? (set views i w) seat ≡ some w = subst (λ (k : ℕ). get_elem? (set views i w) k ≡ some w) e (set_here views i w (some_length views i v at.0)) in
        (w, moves_with w r at (ap (λ (z : V). z.actor) same, ap (λ (z : V). z.made) same, ap (λ (z : V). z.joined) same, ap (λ (z : V). z.first) same ∙ r.first) (there, at.1) mine rest joined nobody))
        (λ ne. (chief, moves_with chief r at (refl, refl, refl, r.first) (set_else views i seat w (λ e. ne (sym e)) ∙ r.sits.0, r.sits.1) mine rest joined nobody))

  -- a pass that is live has a number of its own: no joined number and none that was not made
  number_apart : (log : List E) (seat i : ℕ) (chief v : V) (views : List V) → Team log seat chief views → On views i v → (n : ℕ) → (HasJoined chief n ⊎ ((n ≢ chief.actor) × (¬ Contains chief.made n))) → n ≢ v.actor
  number_apart log seat i chief v views r at n q = dite (ℕ_discrete i seat)
      (λ e z. let same : v ≡ chief = some-injective v chief (sym at.0 ∙ (ap (get_elem? views) e ∙ r.sits.0)) in
      let mine : n ≡ chief.actor = z ∙ ap (λ (y : V). y.actor) same in
      ⊎_elim (λ (t : HasJoined chief n). (r.joined n t.0 t.1).1 mine) (λ (t : (n ≢ chief.actor) × (¬ Contains chief.made n)). t.0 mine) q)
      (λ ne z. let o = r.others i v ne at in
      ⊎_elim (λ (t : HasJoined chief n). o.new (subst (HasJoined chief) z t)) (λ (t : (n ≢ chief.actor) × (¬ Contains chief.made n)). t.1 (subst (Contains chief.made) (sym z) o.made)) q)

  -- the list stays
  stays : (log : List E) (seat i : ℕ) (chief v : V) (views : List V) (h o : Bool) (seen told own home : List E) → Team log seat chief views → On views i v → Knows log (moved v h o seen told own home)
      → (chief' : V) × Team log seat chief' (set views i (moved v h o seen told own home))
  stays log seat i chief v views h o seen told own home r at mine = moves log log seat i chief v views h o seen told own home r at mine (λ j u _ e. r.fits j u e) (λ _ _ _. refl) (λ _ _ _. refl)

  -- the list grows by entries of this pass
  grows : (log new : List E) (seat i : ℕ) (chief v : V) (views : List V) (h o : Bool) (seen told own home : List E) → Team log seat chief views → On views i v → AllBy actor v.actor new
      → Knows (log ++ new) (moved v h o seen told own home) → (chief' : V) × Team (log ++ new) seat chief' (set views i (moved v h o seen told own home))
  grows log new seat i chief v views h o seen told own home r at all mine = moves log (log ++ new) seat i chief v views h o seen told own home r at mine
      (λ j u ne e. let f = r.fits j u e in
      record { opening = f.opening; seen = prefix_more u.seen log new f.seen; told = prefix_more u.told log new f.told; own = f.own ∙ sym (by_other actor u.actor v.actor log new (r.distinct j i u v ne e at) all) })
      (λ n es c. by_other actor n v.actor log new (number_apart log seat i chief v views r at n (inl (es, c))) all)
      (λ a ne c. by_other actor a v.actor log new (number_apart log seat i chief v views r at a (inr (ne, c))) all)

  abbrev S : Type 0
  S = State (Option W) V

  abbrev flag : S → ℕ
  flag s = get_or s.words 0 0

  abbrev Free : S → List E → Type 0
  Free s log = IsFree opens lists actor start log s.homes s.views

  abbrev Taken : S → List E → Type 0
  Taken s log = IsTaken opens lists actor start log s.homes s.views

  abbrev Holds : List E → List (opt.Option (Option W)) → List V → ℕ → V → Type 0
  Holds = HoldsTurn opens lists actor start

  -- the seat whose view says that it holds the turn
  holder_turn : (s : S) (r : Rule s) (id : ℕ) (v : V) → On s.views id v → v.holds ≡ true → (flag s ≡ 1) × Holds r.log s.homes s.views id v
  holder_turn s r id v at holds = ⊎_elim
      (λ (t : (flag s ≡ 0) × Free s r.log). absurd (true≢false (sym holds ∙ t.1.nobody id v at)))
      (λ (t : (flag s ≡ 1) × Taken s r.log).
      let k = t.1 in
      let mine : id ≡ k.holder = elim (ℕ_discrete id k.holder) [ yes e ↦ e | no ne ↦ absurd (true≢false (sym holds ∙ k.turn.others id v ne at)) ] in
      let view_is : v ≡ k.view = some-injective v k.view (sym at.0 ∙ (ap (get_elem? s.views) mine ∙ k.sits.0)) in
      (t.0, subst (λ (y : ℕ × V). Holds r.log s.homes s.views y.0 y.1) (λ i. (sym mine i, sym view_is i)) k.turn))
      r.turn

  -- the others still have no turn
  others_idle : (log : List E) (homes : List (opt.Option (Option W))) (views : List V) (id : ℕ) (v w : V) → Holds log homes views id v → (j : ℕ) (u : V) → j ≢ id → On (set views id w) j u → u.holds ≡ false
  others_idle log homes views id v w k j u ne e = each_set (λ j u. j ≢ id → u.holds ≡ false) views id w (λ q. absurd (q refl)) (λ j u _ e ne. k.others j u ne e) j u e ne

  -- the seat with the turn goes on with it, and the word stays
  holds_on : (s : S) (r : Rule s) (id : ℕ) (v : V) (o : Bool) (home : List E) (n : ℕ) (homes : List (opt.Option (Option W))) → On s.views id v → v.holds ≡ true → n ≡ 1
      → (new : List E) → home ≡ v.seen ++ new → AllBy actor v.actor new → (o ≡ false → IsHome opens lists actor start homes home)
      → Rule record { words = set s.words 0 n; homes = homes; views = set s.views id (moved v true o v.seen v.told v.own home) }
  holds_on s r id v o home n homes at holds is new grown made at_home =
      let t = holder_turn s r id v at holds in
      let k = t.1 in
      let fit = r.roster.fits id v at in
      let one = r.one_word in
      let w : V = moved v true o v.seen v.told v.own home in
      let team = stays r.log r.seat id r.chief v s.views true o v.seen v.told v.own home r.roster at record { opening = fit.opening; seen = fit.seen; told = fit.told; own = fit.own } in record {
        log = r.log;
        seat = r.seat;
        chief = team.0;
        one_word = length-set s.words 0 n ∙ one;
        roster = team.1;
        turn = inr (
          get_or-set_same s.words 0 n 0 (omega arith) ∙ is,
          record {
            holder = id;
            view = w;
            sits = (set_here s.views id w (some_length s.views id v at.0), at.1);
            holds = refl;
            turn = record { seen = k.seen; at_home = at_home; new = new; grown = grown ∙ ap (λ (z : List E). z ++ new) k.seen; made = made; others = others_idle r.log s.homes s.views id v w k };
          },
        );
      }

  -- the word was 0, and the pass has the turn
  takes_free : (s : S) (r : Rule s) (id : ℕ) (v : V) → On s.views id v → (f : Free s r.log) → (n : ℕ) → n ≡ 1
      → Rule (stepped s 0 n id [] (entered v r.log) keeps)
  takes_free s r id v at f n is =
      let fit = r.roster.fits id v at in
      let w : V = entered v r.log in
      let one = r.one_word in
      let team = stays r.log r.seat id r.chief v s.views true false r.log v.told v.own r.log r.roster at record { opening = fit.opening; seen = prefix_refl r.log; told = fit.told; own = fit.own } in record {
        log = r.log;
        seat = r.seat;
        chief = team.0;
        one_word = length-set s.words 0 n ∙ one;
        roster = team.1;
        turn = inr (
          get_or-set_same s.words 0 n 0 (omega arith) ∙ is,
          record {
            holder = id;
            view = w;
            sits = (set_here s.views id w (some_length s.views id v at.0), at.1);
            holds = refl;
            turn = record {
              seen = refl;
              at_home = λ _. f.at_home;
              new = [];
              grown = simp append-nil;
              made = λ k d l. absurd (omega arith);
              others = λ j u ne e. each_set (λ j u. j ≢ id → u.holds ≡ false) s.views id w (λ q. absurd (q refl)) (λ j u _ e _. f.nobody j u e) j u e ne;
            };
          },
        );
      }

  -- nothing changed
  same_state : (s : S) (r : Rule s) (i id : ℕ) (v : V) (cs : List (ℕ × Option W)) → get_elem? s.views id ≡ some v → (n : ℕ) → n ≡ get_or s.words i 0 → Rule (stepped s i n id cs v keeps)
  same_state s r i id v cs at n is =
      subst (λ (z : List ℕ × List V). Rule record { words = z.0; homes = s.homes; views = z.1 })
      (λ k. (sym (ap (set s.words i) is ∙ lib.Seq.set-get_or s.words i 0) k, sym (set_again s.views id v at) k)) r

  pub takes_turn : (id : ℕ) (v : V) → IsSome v.opening → v.holds ≡ false
      → Allows Rule 1 id (v, []) 0 (λ n. either (eqb n 0) 1 n) (took opens lists actor (step 1 0 0 1 opt.none) (v, []))
  takes_turn id v live waits s r homes at bound = ⊎_elim
      (λ (t : (flag s ≡ 0) × Free s r.log).
      let fit = r.roster.fits id v (at, live) in (
        entered v r.log,
        keeps,
        tt,
        takes_free s r id v (at, live) t.1 _ (ap (λ (n : ℕ). either (eqb n 0) 1 n) t.0),
        ((λ _. record { log = r.log; view = refl; seen = fit.seen; own = fit.own }), (λ ne. absurd (ne t.0))),
      ))
      (λ (t : (flag s ≡ 1) × Taken s r.log). (
        v,
        keeps,
        tt,
        same_state s r 0 id v [] at _ (ap (λ (n : ℕ). either (eqb n 0) 1 n) t.0 ∙ sym t.0),
        ((λ z. absurd (omega arith)), (λ _. refl)),
      ))
      r.turn

  -- the value goes out
  pub value_out : (id : ℕ) (v : V) → IsSome v.opening → v.holds ≡ true → v.out ≡ false → Allows Rule 1 id (v, []) 0 (λ n. n) (went_out opens lists actor (step 1 0 0 0 opt.none) (v, []))
  value_out id v live holds inside s r homes at bound =
      let t = holder_turn s r id v (at, live) holds in
      let k = t.1 in
      let h = k.at_home inside in
      let fit = r.roster.fits id v (at, live) in (
        taken_out v,
        takes 0 (Some h.value),
        h.home,
        subst (λ (z : Bool). Rule record { words = set s.words 0 (flag s); homes = set s.homes 0 opt.none; views = set s.views id (moved v z true v.seen v.told v.own v.home) }) (sym holds)
            (holds_on s r id v true v.home (flag s) (set s.homes 0 opt.none) (at, live) holds t.0 k.new (k.grown ∙ ap (λ (z : List E). z ++ k.new) (sym k.seen)) k.made (λ q. absurd (true≢false q))),
        record { value = h.value; out = refl; opening = fit.opening ∙ ap Some (sym h.opening); entries = h.entries },
      )

  abbrev held : W → List (ℕ × Option W)
  held x = (0, Some x) ∷ []

  value_in : W → List (ℕ × Option W) → W
  value_in d [] = d
  value_in d (p ∷ ps) = unwrap_or p.1 d

  one_value : (x y : W) → held x ≡ held y → x ≡ y
  unfolding value_in
  one_value x y is = ap (value_in x) is

  -- the value that comes home is announced
  pub announces : (id : ℕ) (v : V) (x : W) (new : List E) → IsSome v.opening → v.holds ≡ true → v.out ≡ true → lists x ≡ v.seen ++ new → AllBy actor v.actor new
      → Allows Rule 1 id (v, (0, Some x) ∷ []) 0 (λ _. 1) (λ _. told_home opens lists actor (step 1 0 1 0 opt.none) (v, (0, Some x) ∷ []) 1)
  announces id v x new live holds outside grown made s r homes at bound = (
    announced v (lists x),
    keeps,
    tt,
    subst (λ (z : Bool × Bool). Rule record { words = set s.words 0 1; homes = s.homes; views = set s.views id (moved v z.0 z.1 v.seen v.told v.own (lists x)) }) (λ i. (sym holds i, sym outside i))
        (holds_on s r id v true (lists x) 1 s.homes (at, live) holds refl new grown made (λ q. absurd (true≢false q))),
    (λ y is. λ i. (announced v (lists (one_value x y is i)), (0, Some x) ∷ [])),
  )

  -- the value comes home
  pub value_home : (id : ℕ) (v : V) (x : W) → IsSome v.opening → v.holds ≡ true → v.home ≡ lists x → v.opening ≡ Some (opens x)
      → Allows Rule 1 id (v, (0, Some x) ∷ []) 0 (λ n. n) (came_in opens lists actor (step 1 0 0 0 opt.none) (v, (0, Some x) ∷ []))
  value_home id v x live holds home opening s r homes at bound =
      let t = holder_turn s r id v (at, live) holds in
      let k = t.1 in
      let fit = r.roster.fits id v (at, live) in
      let start_is : opens x ≡ start = (let e : Some (opens x) ≡ Some start = sym opening ∙ fit.opening in cc) in (
        put_in v,
        gives,
        tt,
        subst (λ (z : Bool). Rule record { words = set s.words 0 (flag s); homes = set s.homes 0 (some (Some x)); views = set s.views id (moved v z false v.seen v.told v.own v.home) }) (sym holds)
            (holds_on s r id v false v.home (flag s) (set s.homes 0 (some (Some x))) (at, live) holds t.0 k.new (k.grown ∙ ap (λ (z : List E). z ++ k.new) (sym k.seen)) k.made
            (λ _. record { value = x; home = set_here s.homes 0 (some (Some x)) (omega arith); opening = start_is; entries = sym home })),
        (λ y is. refl),
      )

  -- the turn is given up, with the value at home
  gives_up : (s : S) (r : Rule s) (id : ℕ) (v : V) → On s.views id v → v.holds ≡ true → v.out ≡ false → Rule (stepped s 0 0 id [] (left v) keeps)
  gives_up s r id v at holds inside =
      let t = holder_turn s r id v at holds in
      let k = t.1 in
      let fit = r.roster.fits id v at in
      let one = r.one_word in
      let w : V = left v in
      let h = k.at_home inside in
      let added : drop (length v.seen) v.home ≡ k.new = ap (drop (length v.seen)) (k.grown ∙ ap (λ (z : List E). z ++ k.new) (sym k.seen)) ∙ drop_append v.seen k.new in
      let fit' : Knows (r.log ++ k.new) w = record {
        opening = fit.opening;
        seen = subst (λ (z : List E). IsPrefix v.home z) k.grown (prefix_refl v.home);
        told = prefix_more v.told r.log k.new fit.told;
        own = ap (λ (z : List E). v.own ++ z) added ∙ (ap (λ (z : List E). z ++ k.new) fit.own ∙ sym (by_same actor v.actor r.log k.new k.made));
      } in
      let team = grows r.log k.new r.seat id r.chief v s.views false false v.home v.told w.own [] r.roster at k.made fit' in record {
        log = r.log ++ k.new;
        seat = r.seat;
        chief = team.0;
        one_word = length-set s.words 0 0 ∙ one;
        roster = team.1;
        turn = inl (
          get_or-set_same s.words 0 0 0 (omega arith),
          record {
            at_home = record { value = h.value; home = h.home; opening = h.opening; entries = h.entries ∙ k.grown };
            nobody = each_set (λ j u. u.holds ≡ false) s.views id w refl (λ j u ne e. k.others j u ne e);
          },
        );
      }

  pub releases_turn : (id : ℕ) (v : V) → IsSome v.opening → v.holds ≡ true → v.out ≡ false → Allows Rule 1 id (v, []) 0 (λ _. 0) (λ _. released opens lists actor (step 1 0 0 0 opt.none) (v, []) 0)
  releases_turn id v live holds inside s r homes at bound = (left v, keeps, tt, gives_up s r id v (at, live) holds inside, refl)

  -- a pass with no turn may change in what it knows
  idle_free : (log : List E) (homes : List (opt.Option (Option W))) (views : List V) (i : ℕ) (w : V) → w.holds ≡ false → IsFree opens lists actor start log homes views → IsFree opens lists actor start log homes (set views i w)
  idle_free log homes views i w waits f = record { at_home = f.at_home; nobody = each_set (λ j u. u.holds ≡ false) views i w waits (λ j u _ e. f.nobody j u e) }

  idle_taken : (log : List E) (homes : List (opt.Option (Option W))) (views : List V) (i : ℕ) (v w : V) → get_elem? views i ≡ some v → v.holds ≡ false → w.holds ≡ false → IsTaken opens lists actor start log homes views → IsTaken opens lists actor start log homes (set views i w)
  idle_taken log homes views i v w at waited waits k =
      let other : k.holder ≢ i = λ e. true≢false (sym k.holds ∙ (ap (λ (z : V). z.holds) (some-injective k.view v (sym k.sits.0 ∙ (ap (get_elem? views) e ∙ at))) ∙ waited)) in
      let t = k.turn in record {
        holder = k.holder;
        view = k.view;
        sits = (set_else views i k.holder w other ∙ k.sits.0, k.sits.1);
        holds = k.holds;
        turn = record {
          seen = t.seen;
          at_home = t.at_home;
          new = t.new;
          grown = t.grown;
          made = t.made;
          others = λ j u ne e. each_set (λ j u. j ≢ k.holder → u.holds ≡ false) views i w (λ _. waits) (λ j u _ e ne. t.others j u ne e) j u e ne;
        };
      }

  -- what the rule says of the word and of the slot
  abbrev Turns : List ℕ → List E → List (opt.Option (Option W)) → List V → Type 0
  Turns words log homes views = ((get_or words 0 0 ≡ 0) × IsFree opens lists actor start log homes views) ⊎ ((get_or words 0 0 ≡ 1) × IsTaken opens lists actor start log homes views)

  idle_turns : (words : List ℕ) (log : List E) (homes : List (opt.Option (Option W))) (views : List V) (i : ℕ) (v w : V) → get_elem? views i ≡ some v → v.holds ≡ false → w.holds ≡ false → Turns words log homes views → Turns words log homes (set views i w)
  idle_turns words log homes views i v w at waited waits turn = ⊎_elim
      (λ (t : (get_or words 0 0 ≡ 0) × IsFree opens lists actor start log homes views). inl (t.0, idle_free log homes views i w waits t.1))
      (λ (t : (get_or words 0 0 ≡ 1) × IsTaken opens lists actor start log homes views). inr (t.0, idle_taken log homes views i v w at waited waits t.1))
      turn

  snoc_turns : (words : List ℕ) (log : List E) (homes : List (opt.Option (Option W))) (views : List V) (w : V) → w.holds ≡ false → Turns words log homes views → Turns words log homes (views ++ w ∷ [])
  snoc_turns words log homes views w waits turn = ⊎_elim
      (λ (t : (get_or words 0 0 ≡ 0) × IsFree opens lists actor start log homes views). let f = t.1 in inl (t.0, record { at_home = f.at_home; nobody = each_snoc (λ j u. u.holds ≡ false) views w waits f.nobody }))
      (λ (t : (get_or words 0 0 ≡ 1) × IsTaken opens lists actor start log homes views). let k = t.1 in let h = k.turn in inr (
        t.0,
        record {
          holder = k.holder;
          view = k.view;
          sits = (at_longer views (w ∷ []) k.holder k.view k.sits.0, k.sits.1);
          holds = k.holds;
          turn = record {
            seen = h.seen;
            at_home = h.at_home;
            new = h.new;
            grown = h.grown;
            made = h.made;
            others = λ j u ne e. each_snoc (λ j u. j ≢ k.holder → u.holds ≡ false) views w (λ _. waits) (λ j u e ne. h.others j u ne e) j u e ne;
          };
        },
      ))
      turn

  pub learns_longer : (id : ℕ) (v : V) (cs : List (ℕ × Option W)) → IsSome v.opening → v.holds ≡ false → Allows Rule 1 id (v, cs) 0 (λ n. n) (learned opens lists actor (step 1 0 0 0 opt.none) (v, cs))
  learns_longer id v cs live waits s r homes at bound =
      let fit = r.roster.fits id v (at, live) in
      let l = longer_begins v.seen v.told r.log fit.seen fit.told in
      let w : V = with_longer v in
      let one = r.one_word in
      let team = stays r.log r.seat id r.chief v s.views v.holds v.out (longer v.seen v.told) [] v.own v.home r.roster (at, live) record { opening = fit.opening; seen = l.known; told = (r.log, refl); own = fit.own } in
      let same : set s.words 0 (flag s) ≡ s.words = lib.Seq.set-get_or s.words 0 0 in (
        w,
        keeps,
        tt,
        subst (λ (z : List ℕ). Rule record { words = z; homes = s.homes; views = set s.views id w }) (sym same)
            record { log = r.log; seat = r.seat; chief = team.0; one_word = one; roster = team.1; turn = idle_turns s.words r.log s.homes s.views id v w at waits waits r.turn },
        (refl, refl, l.this, l.that),
      )

  -- the seat whose view says that it is the first
  is_chief : (log : List E) (seat id : ℕ) (chief v : V) (views : List V) → Team log seat chief views → On views id v → v.first ≡ true → Team log id v views
  is_chief log seat id chief v views r at first =
      let e : id ≡ seat = elim (ℕ_discrete id seat) [ yes e ↦ e | no ne ↦ absurd (true≢false (sym first ∙ (r.others id v ne at).first)) ] in
      let same : v ≡ chief = some-injective v chief (sym at.0 ∙ (ap (get_elem? views) e ∙ r.sits.0)) in
      subst (λ (y : ℕ × V). Team log y.0 y.1 views) (λ k. (sym e k, sym same k)) r

  only_one : {X : Type 0} (p q : X) → Contains (p ∷ []) q → p ≡ q
  only_one p q (zero, l, e) = e
  only_one p q (suc k, l, e) = absurd (omega arith)

  -- the first pass makes a number, and a new pass has it
  splits_team : (log : List E) (id : ℕ) (v : V) (views : List V) (a : ℕ) → Team log id v views → a ≢ v.actor → ¬ Contains v.made a → Team log id (with_made v a) (set views id (with_made v a) ++ new_view v a ∷ [])
  splits_team log id v views a r ne fresh =
      let w : V = with_made v a in
      let n : V = new_view v a in
      let views' : List V = set views id w in
      let fit = r.fits id v r.sits in
      let mine : Knows log w = record { opening = fit.opening; seen = fit.seen; told = fit.told; own = fit.own } in
      let apart : (j : ℕ) (u : V) → On views j u → a ≢ u.actor = λ j u e. number_apart log id j v u views r e a (inr (ne, fresh)) in
      let apart' : (j : ℕ) (u : V) → On views' j u → a ≢ u.actor = each_set (λ j u. a ≢ u.actor) views id w ne (λ j u _ e. apart j u e) in
      let other : (u : V) → Other v u → Other w u = λ u o. record { first = o.first; made = Contains-append_left v.made (a ∷ []) u.actor o.made; new = o.new; apart = o.apart } in record {
        sits = (at_longer views' (n ∷ []) id w (set_here views id w (some_length views id v r.sits.0)), r.sits.1);
        first = r.first;
        numbers = numbers_push v.actor v.made a r.numbers ne fresh;
        fits = each_snoc (λ j u. Knows log u) views' n record { opening = fit.opening; seen = fit.seen; told = (log, refl); own = sym (r.nobody_else a ne fresh) }
            (each_set (λ j u. Knows log u) views id w mine (λ j u _ e. r.fits j u e));
        others = λ j u apart_j e. each_snoc (λ j u. j ≢ id → Other w u) views' n
            (λ _. record { first = refl; made = Contains-append_right v.made (a ∷ []) a (0, (omega arith), refl); new = λ q. fresh (r.joined a q.0 q.1).2; apart = ne })
            (each_set (λ j u. j ≢ id → Other w u) views id w (λ q. absurd (q refl)) (λ j u _ e q. other u (r.others j u q e))) j u e apart_j;
        distinct = λ i j x y nij e f. each_snoc (λ i x. (j : ℕ) (y : V) → i ≢ j → On (views' ++ n ∷ []) j y → x.actor ≢ y.actor) views' n
            (λ j y nij f. each_snoc (λ j y. length views' ≢ j → n.actor ≢ y.actor) views' n (λ q. absurd (q refl)) (λ j y f _. apart' j y f) j y f nij)
            (λ i x e j y nij f. each_snoc (λ j y. i ≢ j → x.actor ≢ y.actor) views' n (λ _ q. apart' i x e (sym q))
            (λ j y f nij. each_set (λ i x. (j : ℕ) (y : V) → i ≢ j → On views' j y → x.actor ≢ y.actor) views id w
            (λ j y nij f. each_set (λ j y. id ≢ j → w.actor ≢ y.actor) views id w (λ q. absurd (q refl)) (λ j y _ f q. r.distinct id j v y q r.sits f) j y f nij)
            (λ i x _ e j y nij f. each_set (λ j y. i ≢ j → x.actor ≢ y.actor) views id w (λ q. r.distinct i id x v q e r.sits) (λ j y _ f q. r.distinct i j x y q e f) j y f nij)
            i x e j y nij f)
            j y f nij)
            i x e j y nij f;
        joined = λ m es c. let q = r.joined m es c in (q.0, q.1, Contains-append_left v.made (a ∷ []) m q.2);
        nobody_else = λ b nb c. r.nobody_else b nb (λ q. c (Contains-append_left v.made (a ∷ []) b q));
      }

  pub splits_pass : (id : ℕ) (v : V) (a : ℕ) → IsSome v.opening → v.holds ≡ false → v.first ≡ true → a ≢ v.actor → ¬ Contains v.made a → Splits Rule id v (with_made v a) (new_view v a)
  splits_pass id v a live waits first ne fresh s r at =
      let team = is_chief r.log r.seat id r.chief v s.views r.roster (at, live) first in record {
        log = r.log;
        seat = id;
        chief = with_made v a;
        one_word = r.one_word;
        roster = splits_team r.log id v s.views a team ne fresh;
        turn = snoc_turns s.words r.log s.homes (set s.views id (with_made v a)) (new_view v a) refl (idle_turns s.words r.log s.homes s.views id v (with_made v a) at waits waits r.turn);
      }

  -- the first pass joins another, which is spent
  joins_team : (log : List E) (id other : ℕ) (v w : V) (views : List V) → Team log id v views → other ≢ id → On views other w → Team log id (with_joined v w) (set (set views id (with_joined v w)) other spent_view)
  joins_team log id other v w views r ne at =
      let c : V = with_joined v w in
      let views' : List V = set views id c in
      let fit = r.fits id v r.sits in
      let theirs = r.fits other w at in
      let o = r.others other w ne at in
      let mine : Knows log c = record { opening = fit.opening; seen = fit.seen; told = theirs.seen; own = fit.own } in
      let pair : ℕ × List E = (w.actor, w.own) in
      let still : (j : ℕ) (u : V) → j ≢ other → On views j u → Other v u → Other c u = λ j u nj e q. record {
        first = q.first;
        made = q.made;
        new = λ h. ⊎_elim (λ (t : Contains v.joined (u.actor, h.0)). q.new (h.0, t))
            (λ (t : Contains (pair ∷ []) (u.actor, h.0)). r.distinct other j w u (λ z. nj (sym z)) at e (ap (λ (p : ℕ × List E). p.0) (only_one pair (u.actor, h.0) t)))
            (Contains-append_cases v.joined (pair ∷ []) (u.actor, h.0) h.1);
        apart = q.apart;
      } in record {
        sits = (set_else views' other id spent_view (λ z. ne (sym z)) ∙ set_here views id c (some_length views id v r.sits.0), r.sits.1);
        first = r.first;
        numbers = r.numbers;
        fits = each_set_live (λ j u. Knows log u) views' other spent_view (λ q. absurd (true≢false (sym q))) (λ j u _ e. each_set (λ j u. Knows log u) views id c mine (λ j u _ e. r.fits j u e) j u e);
        others = λ j u nj e. each_set_live (λ j u. j ≢ id → Other c u) views' other spent_view (λ q. absurd (true≢false (sym q)))
            (λ j u no e nj. each_set (λ j u. j ≢ other → j ≢ id → Other c u) views id c (λ _ q. absurd (q refl)) (λ j u _ e no nj. still j u no e (r.others j u nj e)) j u e no nj) j u e nj;
        distinct = λ i j x y nij e f. each_set_live (λ i x. (j : ℕ) (y : V) → i ≢ j → On (set views' other spent_view) j y → x.actor ≢ y.actor) views' other spent_view (λ q. absurd (true≢false (sym q)))
            (λ i x _ e j y nij f. each_set_live (λ j y. i ≢ j → x.actor ≢ y.actor) views' other spent_view (λ q. absurd (true≢false (sym q)))
            (λ j y _ f nij. each_set (λ i x. (j : ℕ) (y : V) → i ≢ j → On views' j y → x.actor ≢ y.actor) views id c
            (λ j y nij f. each_set (λ j y. id ≢ j → c.actor ≢ y.actor) views id c (λ q. absurd (q refl)) (λ j y _ f q. r.distinct id j v y q r.sits f) j y f nij)
            (λ i x _ e j y nij f. each_set (λ j y. i ≢ j → x.actor ≢ y.actor) views id c (λ q. r.distinct i id x v q e r.sits) (λ j y _ f q. r.distinct i j x y q e f) j y f nij)
            i x e j y nij f)
            j y f nij)
            i x e j y nij f;
        joined = λ n es h. ⊎_elim (λ (t : Contains v.joined (n, es)). r.joined n es t)
            (λ (t : Contains (pair ∷ []) (n, es)).
            let p = only_one pair (n, es) t in
            let number : w.actor ≡ n = ap (λ (p : ℕ × List E). p.0) p in
            let own : w.own ≡ es = ap (λ (p : ℕ × List E). p.1) p in
            (sym own ∙ (theirs.own ∙ ap (λ (z : ℕ). entries_by actor z log) number), (λ z. o.apart (number ∙ z)), subst (Contains v.made) number o.made))
            (Contains-append_cases v.joined (pair ∷ []) (n, es) h);
        nobody_else = r.nobody_else;
      }

  pub joins_pass : (id : ℕ) (v : V) (other : ℕ) (w : V) → IsSome v.opening → v.holds ≡ false → v.first ≡ true → IsSome w.opening → w.holds ≡ false → Joins Rule id v other w (with_joined v w) spent_view
  joins_pass id v other w live waits first live' waits' s r at ne there =
      let there' : get_elem? s.views other ≡ some w = sym (set_else s.views id other (with_joined v w) ne) ∙ there in
      let team = is_chief r.log r.seat id r.chief v s.views r.roster (at, live) first in record {
        log = r.log;
        seat = id;
        chief = with_joined v w;
        one_word = r.one_word;
        roster = joins_team r.log id other v w s.views team ne (there', live');
        turn = idle_turns s.words r.log s.homes (set s.views id (with_joined v w)) other w spent_view there waits' refl (idle_turns s.words r.log s.homes s.views id v (with_joined v w) at waits waits r.turn);
      }

  pub begins : (x : W) (a : ℕ) → start ≡ opens x → lists x ≡ [] → Rule (opening (0 ∷ []) (Some x ∷ []) (first_view a start))
  begins x a same none = record {
    log = [];
    seat = 0;
    chief = first_view a start;
    one_word = refl;
    roster = record {
      sits = (refl, refl);
      first = refl;
      numbers = record { distinct = λ i j _ l. absurd (omega arith); apart = λ c. let l = c.1 in absurd (omega arith) };
      fits = alone (λ j u. Knows [] u) record { opening = refl; seen = ([], refl); told = ([], refl); own = refl };
      others = λ j u ne e. alone (λ j u. j ≢ 0 → Other (first_view a start) u) (λ q. absurd (q refl)) j u e ne;
      distinct = λ i j x y ne e f. alone (λ i x. (j : ℕ) (y : V) → i ≢ j → On (first_view a start ∷ []) j y → x.actor ≢ y.actor)
          (λ j y ne f. alone (λ j y. 0 ≢ j → a ≢ y.actor) (λ q. absurd (q refl)) j y f ne) i x e j y ne f;
      joined = λ n es c. let l = c.1 in absurd (omega arith);
      nobody_else = λ b _ _. refl;
    };
    turn = inl (refl, record { at_home = record { value = x; home = refl; opening = sym same; entries = none }; nobody = alone (λ j u. u.holds ≡ false) refl });
  }
    where
      alone : (P : ℕ → V → Type 0) → P 0 (first_view a start) → (j : ℕ) (u : V) → On (first_view a start ∷ []) j u → P j u
      alone P mine zero u e = subst (P 0) (some-injective (first_view a start) u e.0) mine
      alone P mine (suc j) u e = absurd (some-ne-none u (sym e.0))

  pub closes_with : (id : ℕ) (v : V) → IsSome v.opening → v.holds ≡ false → v.first ≡ true → AllJoined (known_of v) → (s : S) → Seen Rule id v s → (x : W) × (get_elem? s.homes 0 ≡ some (some (Some x))) × Closes opens lists actor (known_of v) x
  closes_with id v live waits first all s (r, at) =
      let team = is_chief r.log r.seat id r.chief v s.views r.roster (at, live) first in ⊎_elim
      (λ (t : (flag s ≡ 0) × Free s r.log).
      let f = t.1.at_home in
      let fit = team.fits id v team.sits in (
        f.value,
        f.home,
        record {
          opening = fit.opening ∙ ap Some (sym f.opening);
          seen = subst (λ (z : List E). IsPrefix v.seen z) (sym f.entries) fit.seen;
          own = ap (entries_by actor v.actor) f.entries ∙ sym fit.own;
          joined = λ n es c. ap (entries_by actor n) f.entries ∙ sym (team.joined n es c).0;
          nobody_else = λ a ne c. ap (entries_by actor a) f.entries ∙ team.nobody_else a ne (λ q. c (all a q));
        },
      ))
      (λ (t : (flag s ≡ 1) × Taken s r.log).
      let k = t.1 in
      absurd (dite (ℕ_discrete k.holder id)
      (λ e. true≢false (sym k.holds ∙ (ap (λ (z : V). z.holds) (some-injective k.view v (sym k.sits.0 ∙ (ap (get_elem? s.views) e ∙ at))) ∙ waits)))
      (λ ne. let o = team.others k.holder k.view ne k.sits in o.new (all k.view.actor o.made))))
      r.turn

  abbrev Mine : Type 0
  Mine = Me (Option W) V

  -- the steps, at a seat and a count of slots that are known by equations
  pub takes_as : (slots id : ℕ) (m : Mine) (v : V) → slots ≡ 1 → m ≡ (v, []) → IsSome v.opening → v.holds ≡ false
      → Allows Rule slots id m 0 (λ n. either (eqb n 0) 1 n) (took opens lists actor (step slots 0 0 1 opt.none) m)
  takes_as slots id m v one is live waits = subst (λ (y : ℕ × Mine). Allows Rule y.0 id y.1 0 (λ n. either (eqb n 0) 1 n) (took opens lists actor (step y.0 0 0 1 opt.none) y.1)) (λ k. (sym one k, sym is k)) (takes_turn id v live waits)

  pub out_as : (slots id : ℕ) (m : Mine) (v : V) → slots ≡ 1 → m ≡ (v, []) → IsSome v.opening → v.holds ≡ true → v.out ≡ false → Allows Rule slots id m 0 (λ n. n) (went_out opens lists actor (step slots 0 0 0 opt.none) m)
  out_as slots id m v one is live holds inside = subst (λ (y : ℕ × Mine). Allows Rule y.0 id y.1 0 (λ n. n) (went_out opens lists actor (step y.0 0 0 0 opt.none) y.1)) (λ k. (sym one k, sym is k)) (value_out id v live holds inside)

  pub announces_as : (slots id : ℕ) (m : Mine) (v : V) (x : W) (new : List E) → slots ≡ 1 → m ≡ (v, (0, Some x) ∷ []) → IsSome v.opening → v.holds ≡ true → v.out ≡ true → lists x ≡ v.seen ++ new → AllBy actor v.actor new
      → Allows Rule slots id m 0 (λ _. 1) (λ _. told_home opens lists actor (step slots 0 1 0 opt.none) m 1)
  announces_as slots id m v x new one is live holds outside grown made =
      subst (λ (y : ℕ × Mine). Allows Rule y.0 id y.1 0 (λ _. 1) (λ _. told_home opens lists actor (step y.0 0 1 0 opt.none) y.1 1)) (λ k. (sym one k, sym is k)) (announces id v x new live holds outside grown made)

  pub home_as : (slots id : ℕ) (m : Mine) (v : V) (x : W) → slots ≡ 1 → m ≡ (v, (0, Some x) ∷ []) → IsSome v.opening → v.holds ≡ true → v.home ≡ lists x → v.opening ≡ Some (opens x)
      → Allows Rule slots id m 0 (λ n. n) (came_in opens lists actor (step slots 0 0 0 opt.none) m)
  home_as slots id m v x one is live holds home opening =
      subst (λ (y : ℕ × Mine). Allows Rule y.0 id y.1 0 (λ n. n) (came_in opens lists actor (step y.0 0 0 0 opt.none) y.1)) (λ k. (sym one k, sym is k)) (value_home id v x live holds home opening)

  pub releases_as : (slots id : ℕ) (m : Mine) (v : V) → slots ≡ 1 → m ≡ (v, []) → IsSome v.opening → v.holds ≡ true → v.out ≡ false
      → Allows Rule slots id m 0 (λ _. 0) (λ _. released opens lists actor (step slots 0 0 0 opt.none) m 0)
  releases_as slots id m v one is live holds inside =
      subst (λ (y : ℕ × Mine). Allows Rule y.0 id y.1 0 (λ _. 0) (λ _. released opens lists actor (step y.0 0 0 0 opt.none) y.1 0)) (λ k. (sym one k, sym is k)) (releases_turn id v live holds inside)

  pub learns_as : (slots id : ℕ) (m : Mine) (v : V) → slots ≡ 1 → m ≡ (v, []) → IsSome v.opening → v.holds ≡ false → Allows Rule slots id m 0 (λ n. n) (learned opens lists actor (step slots 0 0 0 opt.none) m)
  learns_as slots id m v one is live waits =
      subst (λ (y : ℕ × Mine). Allows Rule y.0 id y.1 0 (λ n. n) (learned opens lists actor (step y.0 0 0 0 opt.none) y.1)) (λ k. (sym one k, sym is k)) (learns_longer id v [] live waits)
