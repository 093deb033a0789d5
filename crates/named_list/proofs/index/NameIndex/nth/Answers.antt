use Rattle.std.proofs.Common.{ℕ, [], Option, Some, sym, ap, ◌∙◌, nat_lt}
use Rattle.std.specs.List.{prefix_len}
use Rattle.std.specs.Option.{option_map, option_map_or}
use Rattle.named_list.specs.declared.entry.Entry.{Entry}
use Rattle.named_list.specs.declared.entry.Stamp.{Stamp}
use Rattle.named_list.specs.declared.group.Group.{Group}
use Rattle.named_list.proofs.Stamps.{nth_place}
use Rattle.named_list.proofs.index.NameIndex.nth.Goals as goal

pub returns-in_err-group : goal.returns-in_err-group
returns-in_err-group c =
    let es = c.self.inside.entries in
    let name = c.args.name.now in
    let own = ap (λ (found : Option Group). option_map_or (λ (group : Group). group.stamps) found []) c.in_err-group.ensures.row in
    rw c.from_residual.ensures (rw (← c.self.view_is) (sym (nth_place name es [] c.args.number c.self.invariant.0 (own ∙ c.self.invariant.2 name))))

pub returns-in_err-stamp : goal.returns-in_err-stamp
returns-in_err-stamp c =
    let es = c.self.inside.entries in
    let name = c.args.name.now in
    let f : Stamp → ℕ = λ s. prefix_len (λ (e : Entry). nat_lt e.stamp s.number) es in
    let own = ap (λ (found : Option Group). option_map_or (λ (group : Group). group.stamps) found []) c.in_ok-group.ensures.row in
    let place = nth_place name es c.in_ok-group.group.now.stamps c.args.number c.self.invariant.0 (own ∙ c.self.invariant.2 name) in
    rw c.from_residual-in_err-stamp.ensures (rw (← c.self.view_is) (sym (place ∙ ap (option_map f) (sym c.in_err-stamp.ensures.row))))

pub returns : goal.returns
returns c =
    let es = c.self.inside.entries in
    let name = c.args.name.now in
    let f : Stamp → ℕ = λ s. prefix_len (λ (e : Entry). nat_lt e.stamp s.number) es in
    let own = ap (λ (found : Option Group). option_map_or (λ (group : Group). group.stamps) found []) c.in_ok-group.ensures.row in
    let place = nth_place name es c.in_ok-group.group.now.stamps c.args.number c.self.invariant.0 (own ∙ c.self.invariant.2 name) in
    rw (← c.self.view_is) (ap Some c.count_before.ensures ∙ sym (place ∙ ap (option_map f) (sym c.in_ok-stamp.ensures.row)))
