-- The sessions of the example stand in its tables.
use Rattle.std.proofs.Common.{◌≡◌, ◌⊎◌, inl, inr, ℕ, zero, suc, List, [], ◌∷◌, true, false, refl, sym, ap, ◌∙◌, subst, arith, Some, ◌==◌, ◌&&◌}
use Rattle.std.specs.Prelude.{slice_get}
use Rattle.std.specs.Str.{bytes_eq}
use Rattle.std.proofs.lemmas.Bool.{eqb-true, and_parts, or_cases, false≢true, true≢false}
use Rattle.std.proofs.lemmas.Option.{none-some}
use Rattle.std.proofs.lemmas.List.Elements.{All-cons, All-nil}
use Rattle.aq_base.specs.declared.DbId.TheVariants.{Home}
use Rattle.queue_rows.specs.Rows.{find_queue}
use Rattle.queue_rows.specs.Session.{Session, fresh_at}
use Rattle.queue_rows.specs.declared.rows.QueueRow.{QueueRow}
use Rattle.queue_rows.specs.declared.session.Pending.TheVariants.{Remove}
use Rattle.valid_laws.specs.Examples.{example_tables}
use Rattle.valid_laws.specs.Openness.{is_open_at}
use Rattle.valid_laws.specs.PendingLaws.{IsPendingRight, AreApart, depth_of}
use Rattle.valid_laws.proofs.Parts.{all_found}
use Rattle.valid_laws.proofs.Pending.{pairs-one}
use Rattle.statement_laws.specs.SessionLaws.{IsGiven}
use Rattle.statement_laws.specs.StandingLaws.{StandsIn, AreTwo, AreStanding}
use Rattle.statement_laws.specs.Examples.{example_taker}
use Rattle.statement_laws.proofs.Standing.{empty_stands, empty_two, two_empty}

abbrev both : List Session
both = example_taker ∷ fresh_at Home ∷ []

marked_one : (id slot : ℕ) → (((1 == id) && (1 == slot)) ≡ true) ⊎ (false ≡ true) → is_open_at example_tables id slot ≡ true
marked_one id slot (inl h) =
    let p = and_parts (1 == id) (1 == slot) h in
    let open_there : is_open_at example_tables 1 1 ≡ true = refl in
    ap (λ n. is_open_at example_tables n slot) (sym (eqb-true 1 id p.0)) ∙ ap (is_open_at example_tables 1) (sym (eqb-true 1 slot p.1)) ∙ open_there
marked_one id slot (inr h) = absurd (false≢true h)

taker_stands : StandsIn example_tables 2 5 example_taker
taker_stands = record {
  right = All-cons (IsPendingRight example_tables 5) (Remove 1 1) [] refl (All-nil (IsPendingRight example_tables 5));
  apart = pairs-one AreApart (Remove 1 1);
  given = All-cons (IsGiven 2) (Remove 1 1) [] tt (All-nil (IsGiven 2));
  agree = record { removed = λ id slot. refl };
  marked = λ id slot h. marked_one id slot (or_cases ((1 == id) && (1 == slot)) false h);
}

one_stands : (i : ℕ) (s : Session) → slice_get both i ≡ Some s → StandsIn example_tables 2 5 s
one_stands zero s e = let same : example_taker ≡ s = (let a : Some example_taker ≡ Some s = e in cc) in subst (StandsIn example_tables 2 5) same taker_stands
one_stands (suc zero) s e = let same : fresh_at Home ≡ s = (let a : Some (fresh_at Home) ≡ Some s = e in cc) in subst (StandsIn example_tables 2 5) same (empty_stands example_tables 2 5 (fresh_at Home) refl refl)
one_stands (suc (suc i)) s e = absurd (none-some s e)

two_stand : (i j : ℕ) (a b : Session) → slice_get both i ≡ Some a → slice_get both j ≡ Some b → (i == j) ≡ false → AreTwo a b
two_stand zero zero a b e f d = absurd (true≢false d)
two_stand zero (suc zero) a b e f d = let same : fresh_at Home ≡ b = (let x : Some (fresh_at Home) ≡ Some b = f in cc) in subst (AreTwo a) same (two_empty a (fresh_at Home) refl refl)
two_stand zero (suc (suc j)) a b e f d = absurd (none-some b f)
two_stand (suc zero) j a b e f d = let same : fresh_at Home ≡ a = (let x : Some (fresh_at Home) ≡ Some a = e in cc) in subst (λ x. AreTwo x b) same (empty_two (fresh_at Home) b refl refl)
two_stand (suc (suc i)) j a b e f d = absurd (none-some a e)

deep : (name : List ℕ) (q : QueueRow) → find_queue example_tables name ≡ Some q → depth_of q.lowest ≡ 0
deep name q f = eqb-true (depth_of q.lowest) 0 (all_found (λ x. depth_of x.lowest == 0) (λ x. bytes_eq x.name name) example_tables.queues q refl f)

pub example_stands : AreStanding example_tables Home 2 5 both
example_stands = record {
  each = λ i s e f. one_stands i s e;
  two = λ i j a b e f g h d. two_stand i j a b e f d;
  room = record {
    lanes = λ n le name q f. let a = deep name q f in omega (arith, a);
    groups = λ n le. le;
  };
  up = omega arith;
}
