use Rattle.std.proofs.Common.{List, ◌++◌, append_assoc, ◌∙◌, ap, sym, subst}
use Rattle.std.specs.List.{AllByRecursion, flat_map}
use Rattle.queue_rows.specs.declared.change.Change.{Change}
use Rattle.redo_records.specs.Spellable.{IsSpellable}
use Rattle.redo_records.specs.Spelled.{IsSpelled}
use Rattle.redo_records.specs.Spelling.{change}
use Rattle.redo_records.proofs.Typed.{leads_on}
use Rattle.redo_records.proofs.commit.encode_into.Goals as goal

pub returns-clause-spelled : goal.returns-clause-spelled
returns-clause-spelled c can = record {
  moment = c.put_num.ensures.typed;
  at_least_one = can.at_least_one;
  changes = c.loop-change.invariant.typed
      (subst (λ (cs : List Change). AllByRecursion IsSpellable cs → AllByRecursion (IsSpelled 2) cs) (sym c.in-None.ensures.steps.0) (λ _. tt)) can.changes;
}

pub loop-change-preserved : goal.loop-change-preserved
loop-change-preserved c =
    let given = c.in-Some.change.now in
    let rest = c.next.new.self in
    let out = c.loop-change.out.items in
    let put = c.in_ok-put_change.ensures in
    let all = AllByRecursion IsSpellable c.args.changes.now → AllByRecursion (IsSpelled 2) c.args.changes.now in
    record {
      bytes = rw put.bytes (append_assoc out (change 2 given) (flat_map (change 2) rest)
          ∙ ap (λ (cs : List Change). out ++ flat_map (change 2) cs) (sym c.in-Some.ensures.steps) ∙ c.loop-change.invariant.bytes);
      typed = leads_on IsSpellable (IsSpelled 2) all given rest put.typed
          (subst (λ (cs : List Change). (AllByRecursion IsSpellable cs → AllByRecursion (IsSpelled 2) cs) → all) c.in-Some.ensures.steps c.loop-change.invariant.typed);
    }
