-- What reads consumed, with the last one of them.
use Rattle.std.proofs.Common.{ℕ, ◌+◌, ◌≤◌, List, ◌++◌, Option, arith, length, length-append}
use Rattle.std.proofs.KnownBytes.{Consumes-kept, Consumes-trans}
use Rattle.std.specs.Io.KnownBytes.{Consumes, Keeps}
use Rattle.aq_base.specs.Consumed.{ConsumesAtMost}

-- it failed
pub consumes_no_more : (most : ℕ) (a b c : Option (List ℕ)) (bytes : List ℕ) → length bytes ≤ most → Consumes a b bytes → Keeps b c → ConsumesAtMost most a c
consumes_no_more most a b c bytes few old same = (bytes, few, Consumes-kept a b c bytes old same)

-- it gave a piece
pub consumes_more : (most : ℕ) (a b c : Option (List ℕ)) (bytes piece : List ℕ) → length bytes + length piece ≤ most → Consumes a b bytes → Consumes b c piece → ConsumesAtMost most a c
consumes_more most a b c bytes piece few old new =
    (bytes ++ piece, omega (arith, length-append bytes piece, few), Consumes-trans a b c bytes piece old new)
