-- The bytes of a text that lies in place or on the heap.
use Rattle.std.specs.Prelude.{ℕ, List, string_bytes}
use Rattle.payload_records.specs.declared.small_text.Storage.{Storage}
use Rattle.payload_records.specs.declared.small_text.Storage.TheVariants.{Inline, OnHeap}

-- those in place, or those of the shared text
abbrev pub stored_bytes : Storage → List ℕ
stored_bytes (Inline bytes) = bytes
stored_bytes (OnHeap text) = string_bytes text
