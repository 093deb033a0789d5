use Rattle.std.proofs.Common.{◌≡◌, ℕ, None, is_some, inl, inr, sym, ◌∙◌, ap, subst, arith}
use Rattle.std.proofs.lemmas.Bool.{cases_eq}
use Rattle.row_locks.specs.Groups.{rank_at}
use Rattle.row_locks.proofs.PlaceLemmas.{unranked_entries, still_none}
use Rattle.row_locks.proofs.tables.leave_groups.Goals as goal

pub leave_group-requires-clause-within : goal.leave_group-requires-clause-within
leave_group-requires-clause-within c =
    let same = unranked_entries c.args.tables.now.items c.loop-at.tables.items c.loop-at.invariant.same c.args.session in
    omega (arith, same, c.len_at-at-end.ensures)

pub loop-at-preserved : goal.loop-at-preserved
loop-at-preserved c =
    let told = c.leave_group.ensures in
    let new = c.leave_group.new.tables.items in
    record {
      same = told.same ∙ c.loop-at.invariant.same;
      grouped = told.grouped;
      out = λ k below. elim (cases_eq k c.loop-at.at) [
        | inl here ↦ let P : ℕ → Type 0 = λ n. rank_at new (record { session = c.args.session; at = n }) ≡ None in subst P (sym here) told.out
        | inr before ↦
            let was = c.loop-at.invariant.out k (omega arith) in
            still_none (rank_at new (record { session = c.args.session; at = k })) (told.others (record { session = c.args.session; at = k }) (λ e. before (ap (λ p. p.at) e)) ∙ ap is_some was)
      ];
      others = λ other ne. told.others other (λ e. ne (ap (λ p. p.session) e)) ∙ c.loop-at.invariant.others other ne;
      room = omega (arith, told.room, c.loop-at.invariant.room);
    }
