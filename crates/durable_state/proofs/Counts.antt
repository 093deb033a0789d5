-- Entries with their call numbers, one after another.
use Rattle.std.proofs.Common.{◌≡◌, ◌<◌, ◌+◌, ◌++◌, ℕ, zero, suc, List, [], ◌∷◌, length, take, Option, Some, None, refl, sym, ap, ◌∙◌, arith, add-one}
use Rattle.std.specs.Prelude.{All, map, slice_get}
use Rattle.std.proofs.lemmas.List.Elements.{recursion_from_All, All-from_recursion}
use Rattle.queue_rows.specs.World.{uncounted}
use Rattle.queue_rows.specs.declared.history.Entry.{Entry}
use Rattle.run_state.specs.Entries.{HasNoCalls}
use Rattle.durable_state.specs.Counted.{with_calls, counted, counted_as, counted_at}
use Rattle.durable_state.specs.declared.disk_calls.DiskCalls.{DiskCalls}

pub counted_none : (es : List Entry) → counted es [] ≡ es
counted_none [] = refl
counted_none (e ∷ es) = refl

-- ---- one entry more

pub counted_push : (es : List Entry) (cs : List DiskCalls) (e : Entry) (c : DiskCalls) → length cs ≡ length es → counted (es ++ e ∷ []) (cs ++ c ∷ []) ≡ counted es cs ++ with_calls c e ∷ []
counted_push [] [] e c h = refl
counted_push [] (d ∷ cs) e c h = absurd (omega (arith, h))
counted_push (x ∷ es) [] e c h = absurd (omega (arith, h))
counted_push (x ∷ es) (d ∷ cs) e c h = ap (λ (more : List Entry). with_calls d x ∷ more) (counted_push es cs e c (omega (arith, h)))

-- ---- one entry after another

as_next : (i : ℕ) (c : DiskCalls) (y : Entry) (ys : List Entry) (o : Option Entry) → counted_as (suc i) c (y ∷ ys) o ≡ y ∷ counted_as i c ys o
as_next i c y ys None = refl
as_next i c y ys (Some e) = refl

at_next : (i : ℕ) (c : DiskCalls) (y : Entry) (ys : List Entry) → counted_at (suc i) c (y ∷ ys) ≡ y ∷ counted_at i c ys
at_next i c y ys = as_next i c y ys (slice_get ys i)

same_some : {A : Type 0} (x y : A) → Some x ≡ Some y → x ≡ y
same_some x y h = cc

counted_suc : (es : List Entry) (cs : List DiskCalls) (i : ℕ) (c : DiskCalls) → slice_get cs i ≡ Some c → counted_at i c (counted es (take i cs)) ≡ counted es (take (suc i) cs)
counted_suc [] cs i c h = refl
counted_suc (x ∷ es) [] i c h = absurd (cc)
counted_suc (x ∷ es) (d ∷ cs) zero c h =
    ap (λ k. with_calls k x ∷ es) (sym (same_some d c h)) ∙ ap (λ (more : List Entry). with_calls d x ∷ more) (sym (counted_none es))
counted_suc (x ∷ es) (d ∷ cs) (suc i) c h =
    at_next i c (with_calls d x) (counted es (take i cs)) ∙ ap (λ (more : List Entry). with_calls d x ∷ more) (counted_suc es cs i c h)

-- the next entry gets its numbers
pub counted_next : (es : List Entry) (cs : List DiskCalls) (i : ℕ) (c : DiskCalls) → slice_get cs i ≡ Some c → counted_at i c (counted es (take i cs)) ≡ counted es (take (i + 1) cs)
counted_next es cs i c h = counted_suc es cs i c h ∙ ap (λ n. counted es (take n cs)) (sym (add-one i))

-- ---- the entries without their numbers

pub uncounted_counted : (es : List Entry) (cs : List DiskCalls) → map uncounted (counted es cs) ≡ map uncounted es
uncounted_counted [] cs = refl
uncounted_counted (e ∷ es) [] = refl
uncounted_counted (e ∷ es) (c ∷ cs) = ap (λ (more : List Entry). uncounted e ∷ more) (uncounted_counted es cs)

uncounted_same : (e : Entry) → HasNoCalls e → uncounted e ≡ e
uncounted_same e h =
    sym (ap (λ (n : ℕ). record e { home_calls = n; away_calls = 0 }) h.0) ∙ sym (ap (λ (n : ℕ). record e { away_calls = n }) h.1)

all_rest : (e : Entry) (es : List Entry) → All HasNoCalls (e ∷ es) → HasNoCalls e × All HasNoCalls es
all_rest e es h = let r = recursion_from_All HasNoCalls (e ∷ es) h in (r.0, All-from_recursion HasNoCalls es r.1)

-- entries without calls are the same without them
pub uncounted_all : (es : List Entry) → All HasNoCalls es → map uncounted es ≡ es
uncounted_all [] h = refl
uncounted_all (e ∷ es) h =
    let both = all_rest e es h in
    ap (λ (x : Entry). x ∷ map uncounted es) (uncounted_same e both.0) ∙ ap (λ (more : List Entry). e ∷ more) (uncounted_all es both.1)

-- there is an item at each index below the length
pub there_is : {P : Type 0} (cs : List DiskCalls) (i : ℕ) → i < length cs → slice_get cs i ≡ None → P
there_is [] i below none = absurd (omega (arith, below))
there_is (c ∷ cs) zero below none = absurd (let no : Some c ≡ None = none in cc)
there_is (c ∷ cs) (suc i) below none = there_is cs i (omega (arith, below)) none
