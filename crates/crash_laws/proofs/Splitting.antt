-- Lists with one item more, and how many commits entries make.
use Rattle.std.proofs.Common.{◌≡◌, ◌⊎◌, inl, inr, ◌≤◌, ℕ, Bool, true, false, List, [], ◌∷◌, ◌++◌, length, refl, ap, ◌∙◌, arith, length-append}
use Rattle.std.specs.Prelude.{◌||◌, if◌then◌else◌}
use Rattle.std.specs.List.{list_any}
use Rattle.std.proofs.lemmas.List.Elements.{filter_map-append}
use Rattle.std.proofs.lemmas.List.Folds.{list_any-append}
use Rattle.aq_base.specs.declared.DbId.{DbId}
use Rattle.queue_rows.specs.declared.history.Entry.{Entry}
use Rattle.history_laws.specs.Made.{commit_at, commits_of}
use Rattle.history_laws.specs.Durability.{is_flush, is_flush_entry, until_flush, made, durable}
use Rattle.crash_laws.specs.Crash.{calls_in, calls_after}

-- ---- one item more

-- the last item stands alone at the split, or behind it
abbrev pub IsSplit : {A : Type 0} → List A → A → List A → A → List A → Type 0
IsSplit {A} xs y front e rest = ((xs ≡ front) × (y ≡ e)) ⊎ ((more : List A) × (xs ≡ front ++ e ∷ more))

same_head : {A : Type 0} (x y : A) (xs ys : List A) → x ∷ xs ≡ y ∷ ys → x ≡ y
same_head x y xs ys h = cc

same_tail : {A : Type 0} (x y : A) (xs ys : List A) → x ∷ xs ≡ y ∷ ys → xs ≡ ys
same_tail x y xs ys h = cc

not_empty : {A P : Type 0} (front : List A) (e : A) (rest : List A) → [] ≡ front ++ e ∷ rest → P
not_empty [] e rest h = absurd (cc)
not_empty (f ∷ front) e rest h = absurd (cc)

longer_split : {A : Type 0} (x f : A) (xs : List A) (y : A) (front : List A) (e : A) (rest : List A) → x ≡ f → IsSplit xs y front e rest → IsSplit (x ∷ xs) y (f ∷ front) e rest
longer_split x f xs y front e rest same = elim [
  | inl h ↦ inl (ap (λ z. z ∷ xs) same ∙ ap (λ zs. f ∷ zs) h.0, h.1)
  | inr h ↦ inr (h.0, ap (λ z. z ∷ xs) same ∙ ap (λ zs. f ∷ zs) h.1)
]

pub split_last : {A : Type 0} (xs : List A) (y : A) (front : List A) (e : A) (rest : List A) → xs ++ y ∷ [] ≡ front ++ e ∷ rest → IsSplit xs y front e rest
split_last [] y [] e rest h = inl (refl, same_head y e [] rest h)
split_last [] y (f ∷ front) e rest h = not_empty front e rest (same_tail y f [] (front ++ e ∷ rest) h)
split_last (x ∷ xs) y [] e rest h = inr (xs, ap (λ z. z ∷ xs) (same_head x e (xs ++ y ∷ []) rest h))
split_last (x ∷ xs) y (f ∷ front) e rest h =
    longer_split x f xs y front e rest (same_head x f (xs ++ y ∷ []) (front ++ e ∷ rest) h)
    (split_last xs y front e rest (same_tail x f (xs ++ y ∷ []) (front ++ e ∷ rest) h))

-- ---- calls

pub calls_last : (db : DbId) (before : ℕ) (entries : List Entry) (e : Entry) → calls_after db before (entries ++ e ∷ []) ≡ calls_in db e
calls_last db before [] e = refl
calls_last db before (x ∷ entries) e = calls_last db (calls_in db x) entries e

-- ---- commits

pub commits-append : (db : DbId) (xs ys : List Entry) → commits_of db (xs ++ ys) ≡ commits_of db xs ++ commits_of db ys
commits-append db xs ys = filter_map-append (commit_at db) xs ys

pub made_more : (db : DbId) (xs ys : List Entry) → made db xs ≤ made db (xs ++ ys)
made_more db xs ys = let e = ap length (commits-append db xs ys) in omega (arith, e, length-append (commits_of db xs) (commits_of db ys))

-- ---- flushes

stays_false : (a : Bool) → (a || false) ≡ a
stays_false true = refl
stays_false false = refl

or_true : (a b : Bool) → b ≡ true → (a || b) ≡ true
or_true true b h = refl
or_true false b h = h

any_with : (e : Entry) (xs : List Entry) → list_any is_flush_entry (xs ++ e ∷ []) ≡ (list_any is_flush_entry xs || (is_flush_entry e || false))
any_with e xs = list_any-append is_flush_entry xs (e ∷ [])

any_without : (e : Entry) (xs : List Entry) → is_flush_entry e ≡ false → list_any is_flush_entry (xs ++ e ∷ []) ≡ list_any is_flush_entry xs
any_without e xs h =
    any_with e xs ∙ ap (λ b. list_any is_flush_entry xs || (b || false)) h ∙ stays_false (list_any is_flush_entry xs)

any_flush : (e : Entry) (xs : List Entry) → is_flush_entry e ≡ true → list_any is_flush_entry (xs ++ e ∷ []) ≡ true
any_flush e xs h = any_with e xs ∙ or_true (list_any is_flush_entry xs) (is_flush_entry e || false) (ap (λ b. b || false) h)

pub until_same : (e : Entry) (xs : List Entry) → is_flush_entry e ≡ false → until_flush (xs ++ e ∷ []) ≡ until_flush xs
until_same e [] h = ap (λ b. if b || false then e ∷ [] else []) h
until_same e (x ∷ xs) h =
    ap (λ b. if b then x ∷ until_flush (xs ++ e ∷ []) else []) (any_without e (x ∷ xs) h)
    ∙ ap (λ (l : List Entry). if list_any is_flush_entry (x ∷ xs) then x ∷ l else []) (until_same e xs h)

pub until_all : (e : Entry) (xs : List Entry) → is_flush_entry e ≡ true → until_flush (xs ++ e ∷ []) ≡ xs ++ e ∷ []
until_all e [] h = ap (λ b. if b || false then e ∷ [] else []) h
until_all e (x ∷ xs) h =
    ap (λ b. if b then x ∷ until_flush (xs ++ e ∷ []) else []) (any_flush e (x ∷ xs) h) ∙ ap (λ (l : List Entry). x ∷ l) (until_all e xs h)

pub durable_same : (db : DbId) (e : Entry) (xs : List Entry) → is_flush e.step ≡ false → durable db (xs ++ e ∷ []) ≡ durable db xs
durable_same db e xs h = ap (made db) (until_same e xs h)

pub durable_all : (db : DbId) (e : Entry) (xs : List Entry) → is_flush e.step ≡ true → durable db (xs ++ e ∷ []) ≡ made db (xs ++ e ∷ [])
durable_all db e xs h = ap (made db) (until_all e xs h)
