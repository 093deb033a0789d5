-- Words of arguments that are texts, and of those that are none.
use Rattle.std.proofs.Common.{◌≡◌, ℕ, List, [], Bool, true, false, refl}
use Rattle.std.specs.Prelude.{IsUtf8}
use Rattle.std.specs.Str.{is_utf8}
use Rattle.std.proofs.lemmas.Str.{is_utf8-from_IsUtf8, IsUtf8-from_is_utf8}
use Rattle.aq_base.specs.Words.{word_of}

pub word_of_text : (bytes : List ℕ) → IsUtf8 bytes → bytes ≡ word_of bytes
word_of_text bytes text = rw (is_utf8-from_IsUtf8 bytes text) refl

by_test : (bytes : List ℕ) (b : Bool) → is_utf8 bytes ≡ b → (IsUtf8 bytes → ⊥) → [] ≡ word_of bytes
by_test bytes true e none = absurd (none (IsUtf8-from_is_utf8 bytes e))
by_test bytes false e none = rw e refl

pub word_of_no_text : (bytes : List ℕ) → (IsUtf8 bytes → ⊥) → [] ≡ word_of bytes
word_of_no_text bytes none = by_test bytes (is_utf8 bytes) refl none
