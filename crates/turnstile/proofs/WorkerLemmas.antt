-- Workers that come and go at the end of their list.
use Rattle.std.proofs.Common.{◌≡◌, ℕ, ◌+◌, ◌<◌, List, [], ◌∷◌, ◌++◌, length, Bool, true, false, ◌&&◌, true≢false, refl, sym, ap, ◌∙◌, subst, inl, inr, ⊎_elim, arith, length-append, append_assoc, add-one, take, drop, drop_of_length-le}
use Rattle.std.specs.Prelude.{Contains, slice_index_or, Result, Ok, Err, OnOk, OnErr}
use Rattle.std.proofs.lemmas.List.{append-nil, take_all, get_or_append_left}
use Rattle.std.proofs.lemmas.List.Elements.{Contains-append_left, Contains-push, Contains-push_cases}
use mathlib.Core.Logic.{dite}
use native.Mathlib.Decide.{ℕ_discrete}
use Rattle.turnstile.specs.declared.number_log.NumberLog.{NumberLog}
use Rattle.turnstile.specs.declared.number_log.workers.Worker.{Worker}
use mathlib.Core.List.{IsPrefix}
use Rattle.turnstile.specs.Passes.{first_known, in_turn, after_turn, has_made, has_joined, IsJoined, AllJoined, Closes}
use Rattle.turnstile.specs.Counting.{Pair, actor_of, numbered, Adds, IsGathered}
use Rattle.turnstile.proofs.Lists.{drop_append}
use Rattle.turnstile.specs.Workers.{Knows, EachAt, Leads, IsManned, AreCounted}

pub both_true : (a b : Bool) → (a && b) ≡ true → (a ≡ true) × (b ≡ true)
both_true true b is = (refl, is)
both_true false b is = absurd (true≢false (sym is))

-- the entries after one more number
pub numbered_more : (start : List Pair) (a n : ℕ) → (start ++ numbered a n) ++ (a, n) ∷ [] ≡ start ++ numbered a (n + 1)
numbered_more start a n = append_assoc start (numbered a n) ((a, n) ∷ []) ∙ ap (λ (z : ℕ). start ++ numbered a z) (sym (add-one n))

last_at : (ws : List Worker) (w d : Worker) → slice_index_or (ws ++ w ∷ []) (length ws) d ≡ w
last_at [] w d = refl
last_at (x ∷ ws) w d = last_at ws w d

one_more : (ws : List Worker) (w : Worker) → length (ws ++ w ∷ []) ≡ length ws + 1
one_more ws w = simp length-append

pub each_push : (P : ℕ → Worker → Type 0) (ws : List Worker) (w : Worker) → EachAt P ws → P (length ws) w → EachAt P (ws ++ w ∷ [])
each_push P ws w each here k d l = let n = one_more ws w in dite (ℕ_discrete k (length ws))
    (λ e. subst (λ (y : ℕ × Worker). P y.0 y.1) (λ i. (sym e i, sym (ap (λ (j : ℕ). slice_index_or (ws ++ w ∷ []) j d) e ∙ last_at ws w d) i)) here)
    (λ ne. let l' : k < length ws = omega arith in subst (P k) (sym (get_or_append_left ws (w ∷ []) d k l')) (each k d l'))

pub each_pop : (P : ℕ → Worker → Type 0) (ws : List Worker) (w : Worker) → EachAt P (ws ++ w ∷ []) → EachAt P ws
each_pop P ws w each k d l = let n = one_more ws w in subst (P k) (get_or_append_left ws (w ∷ []) d k l) (each k d (omega arith))

pub each_last : (P : ℕ → Worker → Type 0) (ws : List Worker) (w : Worker) → EachAt P (ws ++ w ∷ []) → P (length ws) w
each_last P ws w each = let n = one_more ws w in subst (P (length ws)) (last_at ws w w) (each (length ws) w (omega arith))

-- the first pass has made the numbers below i, and joined none
pub record HasSplit (actors i : ℕ) (k : Knows) : Type 0 where
  pub first : k.first ≡ true
  pub actor : k.actor ≡ actors
  pub own : k.own ≡ []
  pub joined : k.joined ≡ []
  pub made : (a : ℕ) → a < i → Contains k.made a
  pub only : (a : ℕ) → Contains k.made a → a < i

pub split_none : (actors o : ℕ) (k : Knows) → k ≡ first_known actors o → HasSplit actors 0 k
split_none actors o k is = subst (HasSplit actors 0) (sym is) record { first = refl; actor = refl; own = refl; joined = refl; made = λ a l. absurd (omega arith); only = λ a c. let l = c.1 in absurd (omega arith) }

pub split_more : (actors i : ℕ) (k k' : Knows) → HasSplit actors i k → k' ≡ has_made k i → HasSplit actors (i + 1) k'
split_more actors i k k' h is = subst (HasSplit actors (i + 1)) (sym is) record {
  first = h.first;
  actor = h.actor;
  own = h.own;
  joined = h.joined;
  made = λ a l. dite (ℕ_discrete a i)
      (λ e. subst (Contains (k.made ++ i ∷ [])) (sym e) (Contains-push k.made i))
      (λ ne. Contains-append_left k.made (i ∷ []) a (h.made a (omega arith)));
  only = λ a c. ⊎_elim (λ (t : Contains k.made a). let l = h.only a t in omega arith) (λ (e : i ≡ a). omega arith) (Contains-push_cases k.made i a c);
}

pub split_fresh : (actors i : ℕ) (k : Knows) → HasSplit actors i k → ¬ Contains k.made i
split_fresh actors i k h c = let l = h.only i c in absurd (omega arith)

pub split_leads : (actors : ℕ) (k : Knows) → HasSplit actors actors k → Leads actors k
split_leads actors k h = record { first = h.first; actor = h.actor; own = h.own; made = h.made }

pub split_manned : (actors i : ℕ) (k : Knows) → HasSplit actors i k → IsManned k i
split_manned actors i k h a c = inr (h.only a c)

pub leads_join : (actors : ℕ) (k o k' : Knows) → Leads actors k → k' ≡ has_joined k o → Leads actors k'
leads_join actors k o k' l is = subst (Leads actors) (sym is) record { first = l.first; actor = l.actor; own = l.own; made = l.made }

pub manned_join : (k o k' : Knows) (n m : ℕ) → IsManned k n → n ≡ m + 1 → o.actor ≡ m → k' ≡ has_joined k o → IsManned k' m
manned_join k o k' n m manned one who is = subst (λ (z : Knows). IsManned z m) (sym is)
    (λ a c. ⊎_elim
    (λ (j : IsJoined k a). inl (j.0, Contains-append_left k.joined ((o.actor, o.own) ∷ []) (a, j.0) j.1))
    (λ (l : a < n). dite (ℕ_discrete a m)
    (λ e. inl (o.own, subst (λ (z : ℕ). Contains (k.joined ++ (o.actor, o.own) ∷ []) (z, o.own)) (who ∙ sym e) (Contains-push k.joined (o.actor, o.own))))
    (λ ne. inr (omega arith)))
    (manned a c))

pub counted_none : (actors n : ℕ) (k : Knows) → k.joined ≡ [] → AreCounted actors n true k
counted_none actors n k none a own c = let q = subst (λ (z : List (ℕ × List Pair)). Contains z (a, own)) none c in let l = q.1 in absurd (omega arith)

pub counted_join : (actors n : ℕ) (all done all' : Bool) (k o k' : Knows) → AreCounted actors n all k → (all' ≡ true → (all ≡ true) × (done ≡ true)) → o.actor < actors → (done ≡ true → o.own ≡ numbered o.actor n) → k' ≡ has_joined k o → AreCounted actors n all' k'
counted_join actors n all done all' k o k' counted both below own is = subst (AreCounted actors n all') (sym is)
    (λ a es c. ⊎_elim
    (λ (h : Contains k.joined (a, es)). let q = counted a es h in (q.0, λ t. q.1 (both t).0))
    (λ (e : (o.actor, o.own) ≡ (a, es)).
    let number : o.actor ≡ a = ap (λ (p : ℕ × List Pair). p.0) e in
    let theirs : o.own ≡ es = ap (λ (p : ℕ × List Pair). p.1) e in
    (subst (λ (z : ℕ). z < actors) number below, λ t. sym theirs ∙ (own (both t).1 ∙ ap (λ (z : ℕ). numbered z n) number)))
    (Contains-push_cases k.joined (o.actor, o.own) (a, es) c))

pub all_joined : (k : Knows) → IsManned k 0 → AllJoined k
all_joined k manned a c = ⊎_elim (λ (j : IsJoined k a). j) (λ (l : a < 0). absurd (omega arith)) (manned a c)

pub gathers : (actors n : ℕ) (k : Knows) (x : NumberLog) → Leads actors k → AllJoined k → AreCounted actors n true k → Closes (λ (t : NumberLog). t.effort) (λ t. t.pairs.items) actor_of k x → IsGathered actors n x.pairs.items
gathers actors n k x leads all counted closes = record {
  each = λ a l. let j = all a (leads.made a l) in closes.joined a j.0 j.1 ∙ (counted a j.0 j.1).1 refl;
  nobody_else = λ a l. dite (ℕ_discrete a actors)
      (λ e. subst (λ (z : ℕ). Rattle.turnstile.specs.Entries.entries_by actor_of z x.pairs.items ≡ []) (leads.actor ∙ sym e) (closes.own ∙ leads.own))
      (λ ne. closes.nobody_else a (λ q. ne (q ∙ leads.actor)) (λ j. let below = (counted a j.0 j.1).0 in absurd (omega arith)));
}

-- a whole list that was lent and comes back
pub lent_whole : (n : ℕ) (new old : List Worker) → length new ≡ n → length old ≡ n → take n (new ++ drop (length new) old) ≡ new
lent_whole n new old a b =
    let nothing : drop (length new) old ≡ [] = drop_of_length-le old (omega arith) in
    ap (λ (z : List Worker). take n (new ++ z)) nothing ∙ (ap (take n) (append-nil new) ∙ take_all n new (omega arith))

-- a turn in which these entries were added
pub adds_these : (k k' k'' : Knows) (log list mine : List Pair) → IsPrefix k.seen log → k' ≡ in_turn k log → k'' ≡ after_turn k' list → list ≡ log ++ mine → Adds k k'' mine
adds_these k k' k'' log list mine begins enters leaves grown =
    let is : k'' ≡ record k { seen = log ++ mine; own = k.own ++ drop (length log) (log ++ mine) } = leaves ∙ (λ i. after_turn (enters i) (grown i)) in
    subst (λ (z : Knows). Adds k z mine) (sym is) record {
      between = begins.0;
      seen = ap (λ (z : List Pair). z ++ mine) (sym begins.1);
      knows = ap (λ (z : List Pair). record k { seen = log ++ mine; own = k.own ++ z }) (drop_append log mine);
    }

pub on_ok : {A B : Type 0} (r : Result A B) (P Q : Type 0) → (P → Q) → OnOk r P → OnOk r Q
on_ok (Ok x) P Q f p = f p
on_ok (Err x) P Q f p = p

pub on_err : {A B : Type 0} (r : Result A B) (P Q : Type 0) → (P → Q) → OnErr r P → OnErr r Q
on_err (Ok x) P Q f p = p
on_err (Err x) P Q f p = f p
