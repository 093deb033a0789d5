-- When a reply is told, what was committed up to its call is durable.
use Rattle.std.proofs.Common.{◌≡◌, ◌≢◌, ◌≤◌, ◌+◌, ◌⊎◌, inl, inr, ℕ, List, [], ◌∷◌, ◌++◌, Bool, true, false, refl, sym, ap, ◌∙◌, subst, arith, Some, None, ◌==◌, ◌&&◌, ◌||◌, length, length-append}
use Rattle.std.specs.Prelude.{slice_get, slice_set, map, if◌then◌else◌}
use Rattle.std.specs.List.{list_any}
use Rattle.std.proofs.lemmas.Bool.{eqb-true, and_parts, false≢true, true≢false}
use Rattle.std.proofs.lemmas.Option.{none-some, slice_get_within}
use Rattle.std.proofs.lemmas.List.{map-append, append_assoc}
use Rattle.std.proofs.lemmas.List.Elements.{filter_map-append}
use Rattle.aq_base.specs.declared.DbId.{DbId}
use Rattle.aq_base.specs.declared.DbId.TheVariants.{Home, Away}
use Rattle.queue_rows.specs.Session.{Session, Untold}
use Rattle.queue_rows.specs.World.{uncounted}
use Rattle.queue_rows.specs.declared.history.Entry.{Entry}
use Rattle.history_laws.specs.Made.{commit_at, commits_of}
use Rattle.history_laws.specs.Durability.{is_flush, is_flush_entry, until_flush, made, durable, is_call_step, is_call, is_told_step, is_told}
use Rattle.history_laws.proofs.Commits.{last_or_before}
use Rattle.history_laws.proofs.Lasting.{commits_uncounted}

-- ---- up to the last flush

any-append : (xs ys : List Entry) → list_any is_flush_entry (xs ++ ys) ≡ (list_any is_flush_entry xs || list_any is_flush_entry ys)
any-append [] ys = refl
any-append (x ∷ xs) ys = ap (λ b. is_flush_entry x || b) (any-append xs ys) ∙ or_apart (is_flush_entry x) (list_any is_flush_entry xs) (list_any is_flush_entry ys)
  where
    or_apart : (a b c : Bool) → (a || (b || c)) ≡ ((a || b) || c)
    or_apart true b c = refl
    or_apart false b c = refl

or_off : (a : Bool) → (a || false) ≡ a
or_off true = refl
or_off false = refl

or_true : (a : Bool) → (a || true) ≡ true
or_true true = refl
or_true false = refl

-- a flush makes all durable
pub until-flush : (xs : List Entry) (x : Entry) → is_flush x.step ≡ true → until_flush (xs ++ x ∷ []) ≡ xs ++ x ∷ []
until-flush [] x f = ap (λ b. if b || false then x ∷ [] else []) f
until-flush (y ∷ ys) x f =
    let any : list_any is_flush_entry (ys ++ x ∷ []) ≡ true = any-append ys (x ∷ []) ∙ ap (λ b. list_any is_flush_entry ys || (b || false)) f ∙ or_true (list_any is_flush_entry ys) in
    ap (λ b. if is_flush_entry y || b then y ∷ until_flush (ys ++ x ∷ []) else []) any ∙ ap (λ b. if b then y ∷ until_flush (ys ++ x ∷ []) else []) (or_true (is_flush_entry y)) ∙ ap (λ es. y ∷ es) (until-flush ys x f)

-- and nothing else does
pub until-other : (xs : List Entry) (x : Entry) → is_flush x.step ≡ false → until_flush (xs ++ x ∷ []) ≡ until_flush xs
until-other [] x f = ap (λ b. if b || false then x ∷ [] else []) f
until-other (y ∷ ys) x f =
    let any : list_any is_flush_entry (ys ++ x ∷ []) ≡ list_any is_flush_entry ys = any-append ys (x ∷ []) ∙ ap (λ b. list_any is_flush_entry ys || (b || false)) f ∙ or_off (list_any is_flush_entry ys) in
    ap (λ b. if is_flush_entry y || b then y ∷ until_flush (ys ++ x ∷ []) else []) any ∙ ap (λ es. if is_flush_entry y || list_any is_flush_entry ys then y ∷ es else []) (until-other ys x f)

-- a first part makes no more than all
pub made_first : (db : DbId) (xs ys : List Entry) → made db xs ≤ made db (xs ++ ys)
made_first db xs ys =
    let e = ap length (filter_map-append (commit_at db) xs ys) in
    let f = length-append (commits_of db xs) (commits_of db ys) in
    omega (arith, e, f)

-- ---- what is to be told

abbrev pub untold_at : DbId → Untold → ℕ
untold_at Home u = u.home
untold_at Away u = u.away

-- what was made up to a call that is to be told is as much as was noted, or less
abbrev pub AreNoted : List Entry → List Session → Type 0
AreNoted entries sessions = (j : ℕ) (s : Session) (u : Untold) → slice_get sessions j ≡ Some s → s.untold ≡ Some u
    → (db : DbId) (before : List Entry) (call : Entry) (more : List Entry) → entries ≡ before ++ call ∷ more → is_call j u.number call ≡ true → made db (before ++ call ∷ []) ≤ untold_at db u

-- what was told was durable
abbrev pub AreTold : List Entry → Type 0
AreTold entries = (db : DbId) (i number : ℕ) (front : List Entry) (tells : Entry) (rest : List Entry) → entries ≡ front ++ tells ∷ rest → is_told i number tells ≡ true
    → (before : List Entry) (call : Entry) (more : List Entry) → front ≡ before ++ call ∷ more → is_call i number call ≡ true → made db (before ++ call ∷ []) ≤ durable db front

-- an entry more that tells nothing
pub told_quiet : (entries : List Entry) (x : Entry) → ((i number : ℕ) → is_told i number x ≡ false) → AreTold entries → AreTold (entries ++ x ∷ [])
told_quiet entries x none k db i number front tells rest q t before call more f c = by (last_or_before entries x front tells rest q)
  where
    by : ((front ≡ entries) × (tells ≡ x)) ⊎ ((later : List Entry) × (entries ≡ front ++ tells ∷ later)) → made db (before ++ call ∷ []) ≤ durable db front
    by (inl p) = absurd (true≢false (sym t ∙ ap (is_told i number) p.1 ∙ none i number))
    by (inr p) = k db i number front tells p.0 p.1 t before call more f c

-- an entry more that is no call of the session
pub noted_one : (entries : List Entry) (x : Entry) (j : ℕ) (u : Untold) → is_call j u.number x ≡ false
    → ((db : DbId) (before : List Entry) (call : Entry) (more : List Entry) → entries ≡ before ++ call ∷ more → is_call j u.number call ≡ true → made db (before ++ call ∷ []) ≤ untold_at db u)
    → (db : DbId) (before : List Entry) (call : Entry) (more : List Entry) → entries ++ x ∷ [] ≡ before ++ call ∷ more → is_call j u.number call ≡ true → made db (before ++ call ∷ []) ≤ untold_at db u
noted_one entries x j u none k db before call more q c = by (last_or_before entries x before call more q)
  where
    by : ((before ≡ entries) × (call ≡ x)) ⊎ ((later : List Entry) × (entries ≡ before ++ call ∷ later)) → made db (before ++ call ∷ []) ≤ untold_at db u
    by (inl p) = absurd (true≢false (sym c ∙ ap (is_call j u.number) p.1 ∙ none))
    by (inr p) = k db before call p.0 p.1 c

pub no_call : (j n : ℕ) (e : Entry) → is_call_step n e.step ≡ false → is_call j n e ≡ false
no_call j n e f = ap (λ b. (e.actor == j) && b) f ∙ by (e.actor == j)
  where
    by : (b : Bool) → (b && false) ≡ false
    by true = refl
    by false = refl

pub no_told : (i n : ℕ) (e : Entry) → is_told_step n e.step ≡ false → is_told i n e ≡ false
no_told i n e f = ap (λ b. (e.actor == i) && b) f ∙ by (e.actor == i)
  where
    by : (b : Bool) → (b && false) ≡ false
    by true = refl
    by false = refl

pub other_call : (j i n : ℕ) (e : Entry) → e.actor ≡ i → j ≢ i → is_call j n e ≡ false
other_call j i n e a d = by (e.actor == j) refl
  where
    by : (b : Bool) → (e.actor == j) ≡ b → (b && is_call_step n e.step) ≡ false
    by true f = absurd (d (sym (eqb-true e.actor j f) ∙ a))
    by false f = refl

-- ---- histories

pub until_uncounted : (entries : List Entry) → until_flush (map uncounted entries) ≡ map uncounted (until_flush entries)
until_uncounted [] = refl
until_uncounted (e ∷ more) =
    ap (λ b. if is_flush_entry e || b then uncounted e ∷ until_flush (map uncounted more) else []) (any_uncounted more) ∙ by (is_flush_entry e || list_any is_flush_entry more) (until_uncounted more)
  where
    any_uncounted : (es : List Entry) → list_any is_flush_entry (map uncounted es) ≡ list_any is_flush_entry es
    any_uncounted [] = refl
    any_uncounted (x ∷ xs) = ap (λ b. is_flush_entry x || b) (any_uncounted xs)

    by : (b : Bool) → until_flush (map uncounted more) ≡ map uncounted (until_flush more) → (if b then uncounted e ∷ until_flush (map uncounted more) else []) ≡ map uncounted (if b then e ∷ until_flush more else [])
    by true ih = ap (λ es. uncounted e ∷ es) ih
    by false ih = refl

pub made_uncounted : (db : DbId) (entries : List Entry) → made db (map uncounted entries) ≡ made db entries
made_uncounted db entries = ap length (commits_uncounted db entries)
