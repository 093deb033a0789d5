-- What a source and a sink in memory hold, and what a read and a write do to them.
use Rattle.std.specs.Prelude.{◌≡◌, ℕ, ◌+◌, ◌-◌, ◌^◌, ◌==◌, ◌||◌, ◌&&◌, ◌↔◌, nat_lt, min, List, [], ◌++◌, length, take, drop, Bool, IsTrue, Option, Result, IsErr, IfOk, OnErr}
use Rattle.std.specs.List.{list_any}
use Rattle.std.specs.Option.{option_map_or}
use Rattle.aq_base.specs.declared.stream.Failed.{Failed}

-- one more, up to the greatest number of 64 bits
abbrev pub one_more : ℕ → ℕ
one_more n = min (n + 1) (2 ^ 64 - 1)

-- the bytes that are left, the numbers of the reads that fail, and how many reads and faults there were
pub record SourceState : Type 0 where
  pub left : List ℕ
  pub failing : List ℕ
  pub calls : ℕ
  pub faults : ℕ

-- a source that was not yet read
abbrev pub fresh_source : List ℕ → List ℕ → SourceState
fresh_source bytes failing = record { left = bytes; failing = failing; calls = 0; faults = 0 }

-- the next read is one of those that fail
abbrev pub read_fails : SourceState → Bool
read_fails s = list_any (λ call. call == one_more s.calls) s.failing

abbrev pub failed_read : SourceState → SourceState
failed_read s = record s { calls = one_more s.calls; faults = one_more s.faults }

abbrev pub done_read : SourceState → ℕ → SourceState
done_read s count = record s { calls = one_more s.calls; left = drop count s.left }

-- a read fails exactly where its number is listed, and else gives as much as there is and as has room
pub record MemoryReads (old : SourceState) (into : List ℕ) (answer : Result ℕ Failed) (new : SourceState) : Type 0 where
  pub failed : IsErr answer ↔ IsTrue (read_fails old)
  pub count : IfOk answer (λ count. count ≡ min (length into) (length old.left))
  pub ok : IfOk answer (λ count. new ≡ done_read old count)
  pub err : OnErr answer (new ≡ failed_read old)

-- the bytes that were taken, how many there is room for, the numbers of the writes that fail, and how many
-- writes and faults there were
pub record SinkState : Type 0 where
  pub taken : List ℕ
  pub room : Option ℕ
  pub failing : List ℕ
  pub calls : ℕ
  pub faults : ℕ

-- a sink that was not yet written to
abbrev pub fresh_sink : List ℕ → Option ℕ → SinkState
fresh_sink failing room = record { taken = []; room = room; failing = failing; calls = 0; faults = 0 }

-- how many of so many bytes there is room for
abbrev pub fitting : SinkState → ℕ → ℕ
fitting s count = option_map_or (λ room. min (room - length s.taken) count) s.room count

-- the next write is one of those that fail, or has bytes where there is no room for one
abbrev pub write_fails : SinkState → ℕ → Bool
write_fails s count = list_any (λ call. call == one_more s.calls) s.failing || (nat_lt 0 count && fitting s count == 0)

abbrev pub failed_write : SinkState → SinkState
failed_write s = record s { calls = one_more s.calls; faults = one_more s.faults }

abbrev pub done_write : SinkState → List ℕ → SinkState
done_write s bytes = record s { calls = one_more s.calls; taken = s.taken ++ bytes }

-- A write that has to fail does, and else takes as much as has room. Want of memory may make any write
-- fail.
pub record MemoryWrites (old : SinkState) (from : List ℕ) (answer : Result ℕ Failed) (new : SinkState) : Type 0 where
  pub failed : IsTrue (write_fails old (length from)) → IsErr answer
  pub count : IfOk answer (λ count. count ≡ fitting old (length from))
  pub ok : IfOk answer (λ count. new ≡ done_write old (take count from))
  pub err : OnErr answer (new ≡ failed_write old)
