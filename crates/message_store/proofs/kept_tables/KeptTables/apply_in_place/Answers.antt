use Rattle.std.proofs.Common.{sym, subst}
use Rattle.message_index.specs.Caches.{AreOf}
use Rattle.message_store.specs.Kept.{Kept}
use Rattle.message_store.proofs.kept_tables.KeptTables.apply_in_place.Goals as goal

pub apply_in_place-requires-clause-indexed : goal.apply_in_place-requires-clause-indexed
apply_in_place-requires-clause-indexed c = record {
  ids = c.self.invariant.0;
  stamped = c.self.invariant.1;
  caches = subst (λ (k : Kept). AreOf k.stamps k.tables.messages c.args.caches.now) (sym c.self.view_is) c.requires.caches;
}
