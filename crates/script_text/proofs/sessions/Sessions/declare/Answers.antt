use Rattle.std.proofs.Common.{◌≡◌, ◌<◌, [], ◌∷◌, ◌++◌, length, false, refl, ◌∙◌, arith}
use Rattle.std.specs.List.{list_any}
use Rattle.std.specs.Str.{bytes_eq}
use Rattle.indexmap.specs.IndexSet.{insert_key}
use Rattle.script_text.specs.Script.{new_session}
use Rattle.script_text.proofs.Growth.{names, more}
use Rattle.script_text.proofs.sessions.Sessions.declare.Goals as goal

pub invariant_of-self-2 : goal.invariant_of-self-2
invariant_of-self-2 c =
    let few : length c.self.inside.list.items < 64 = omega arith in
    let none : list_any (bytes_eq c.args.name) (names c.self.inside.list.items) ≡ false = cc in
    let last : c.push.new.self.items ≡ c.self.inside.list.items ++ new_session c.args.name c.args.at ∷ [] = c.in_ok-push.ensures.items ∙ rw (c.reserve.ensures.items, c.new-statements.ensures) refl in
    let put : c.insert.new.self.keys ≡ insert_key bytes_eq c.self.inside.names.keys c.args.name = c.in_ok-insert.ensures.keys ∙ rw c.in_ok-key.ensures refl in
    more c.self.inside.names.keys c.insert.new.self.keys c.self.inside.asked c.self.inside.list.items c.push.new.self.items c.args.name c.args.at c.self.invariant few c.requires none put last
