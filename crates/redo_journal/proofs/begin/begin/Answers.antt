use Rattle.std.proofs.Common.{◌≡◌, ◌∷◌, ◌++◌, ℕ, List, drop, sym, ◌∙◌, ap}
use Rattle.std.specs.Prelude.{option_map}
use Rattle.redo_journal.specs.Begun.{begun_bytes}
use Rattle.redo_journal.specs.Journal.{beginning}
use Rattle.redo_journal.specs.Crash.{StandsForNone}
use Rattle.redo_journal.proofs.Beginning.{behind_first}
use Rattle.redo_journal.proofs.Moments.{each_both, some_told, on_ok_all, map_after, map_each}
use Rattle.redo_journal.proofs.begin.begin.Goals as goal

pub returns-clause-any_moment : goal.returns-clause-any_moment
returns-clause-any_moment g c settled bytes told =
    let disk = g.D.Disk in
    let old = c.args.disk.now in
    let mid = c.close_header.new.disk in
    let new = c.open_header.new.disk in
    let between = some_told (disk.seen mid) (c.in_ok-close_header.ensures.tells bytes told) in
    each_both (disk.calls old) (disk.calls mid) (disk.calls new) (disk.is_image mid) (disk.is_image new) StandsForNone (c.close_header.ensures.any_moment settled bytes told) c.open_header.ensures.earlier
    (c.open_header.ensures.any_moment (c.in_ok-close_header.ensures.settled settled) between.0 between.1)

pub returns-clause-leaves : goal.returns-clause-leaves
returns-clause-leaves g c =
    let disk = g.D.Disk in
    let old = c.args.disk.now in
    let mid = c.close_header.new.disk in
    let new = c.open_header.new.disk in
    let is_begun : Type 0 = disk.seen new ≡ option_map begun_bytes (disk.seen mid) in
    let behind : List ℕ → List ℕ = λ l. 1 ∷ (beginning 2 ++ drop 28 l) in
    on_ok_all c.open_header.result is_begun is_begun is_begun (disk.seen new ≡ option_map begun_bytes (disk.seen old))
    (λ begun same also.
    begun ∙ map_each begun_bytes (λ b. behind (drop 1 b)) (disk.seen mid) (λ b told. behind_first b) ∙ sym (map_after (drop 1) behind (disk.seen mid))
    ∙ ap (option_map behind) c.in_ok-close_header.ensures.behind ∙ map_after (drop 1) behind (disk.seen old) ∙ map_each (λ b. behind (drop 1 b)) begun_bytes (disk.seen old) (λ b told. sym (behind_first b)))
    c.open_header.ensures.leaves c.open_header.ensures.leaves c.open_header.ensures.leaves
