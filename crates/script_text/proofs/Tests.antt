-- Tests that are joined.
use Rattle.std.proofs.Common.{◌≡◌, Bool, true, false, ◌&&◌, refl}

pub both : (a b : Bool) → (a && b) ≡ true → (a ≡ true) × (b ≡ true)
both true b h = (refl, h)
both false b h = absurd cc

pub joined : (a b : Bool) → a ≡ true → b ≡ true → (a && b) ≡ true
joined a b e h = rw (e, h) refl
