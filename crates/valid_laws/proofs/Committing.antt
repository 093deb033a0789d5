-- A commit of changes that keep tables valid fits.
use Rattle.std.proofs.Common.{◌≡◌, ◌≤◌, ℕ, List, [], ◌∷◌, true, false, max, refl, sym, ap, ◌∙◌, subst, arith}
use Rattle.std.proofs.lemmas.Bool.{and_from}
use Rattle.aq_base.specs.declared.limits.TheConstants.{MOMENT_LIMIT}
use Rattle.queue_rows.specs.Tables.{after_change, after_all, after}
use Rattle.queue_rows.specs.Fits.{fits, names_what_is_there, all_name_what_is_there}
use Rattle.queue_rows.specs.Valid.{is_valid}
use Rattle.queue_rows.specs.declared.tables.Tables.{Tables}
use Rattle.queue_rows.specs.declared.change.Change.{Change}
use Rattle.queue_rows.specs.declared.change.Change.TheVariants as changes
use Rattle.row_laws.proofs.Latest.{at_latest, is_counters, change_at_latest, latest_stays}
use Rattle.valid_laws.specs.ValidLaws.{Keeps, AllKeep}
use Rattle.valid_laws.proofs.Keeping.{later_is_valid}
use Rattle.valid_laws.proofs.Fitting.{change_keeps_valid}

-- ---- the latest moment is seen by none of them

counts_nothing : (t : Tables) (c : Change) → Keeps t c → is_counters c ≡ false
counts_nothing t (changes.Counters next transaction given) k = absurd k
counts_nothing t (changes.PutTable row) k = refl
counts_nothing t _ k = refl

names_at_latest : (t : Tables) (latest : ℕ) (c : Change) → names_what_is_there (at_latest latest t) c ≡ names_what_is_there t c
names_at_latest t latest (changes.PutTable row) = refl
names_at_latest t latest _ = refl

-- ---- all of them

pub record AllKept (t : Tables) (latest : ℕ) (cs : List Change) : Type 0 where
  pub valid : is_valid (at_latest latest (after_all t cs)) ≡ true
  pub names : all_name_what_is_there t cs ≡ true
  pub latest_is : (after_all t cs).latest ≡ t.latest

pub all_kept : (cs : List Change) (t : Tables) (latest : ℕ) → is_valid (at_latest latest t) ≡ true → AllKeep (at_latest latest t) cs → AllKept t latest cs
all_kept [] t latest v k = record { valid = v; names = refl; latest_is = refl }
all_kept (c ∷ cs) t latest v k =
    let one = change_keeps_valid (at_latest latest t) c v k.0 in
    let same = change_at_latest t latest c (counts_nothing (at_latest latest t) c k.0) in
    let rest = all_kept cs (after_change t c) latest (ap is_valid (sym same) ∙ one.0) (subst (λ u. AllKeep u cs) same k.1) in
    record {
      valid = rest.valid;
      names = and_from (names_what_is_there t c) (all_name_what_is_there (after_change t c) cs) (sym (names_at_latest t latest c) ∙ one.1) rest.names;
      latest_is = rest.latest_is ∙ latest_stays t c (counts_nothing (at_latest latest t) c k.0);
    }

greater : (a b : ℕ) → a ≤ b → max a b ≡ b
greater a b h = omega arith

pub commit_fits : (t : Tables) (moment : ℕ) (cs : List Change) → is_valid t ≡ true → t.latest ≤ moment → moment ≤ MOMENT_LIMIT → AllKeep (record t { latest = moment }) cs
    → fits t (record { moment = moment; changes = cs }) ≡ true
unfolding fits after
commit_fits t moment cs v le top k =
    let h = all_kept cs t moment (later_is_valid t moment le v top) k in
    let latest : max (after_all t cs).latest moment ≡ moment = ap (λ n. max n moment) h.latest_is ∙ greater t.latest moment le in
    and_from (all_name_what_is_there t cs) (is_valid (at_latest (max (after_all t cs).latest moment) (after_all t cs))) h.names (ap (λ n. is_valid (at_latest n (after_all t cs))) latest ∙ h.valid)
