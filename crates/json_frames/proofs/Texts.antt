-- The JSON value of a text, by what is read of its bytes.
use Rattle.std.proofs.Common.{◌≡◌, ℕ, List, Bool, true, false, cond, Some, None, refl, sym}
use Rattle.std.specs.Str.{is_utf8, IsUtf8}
use Rattle.std.proofs.lemmas.Str.{is_utf8-from_IsUtf8, IsUtf8-from_is_utf8}
use Rattle.serde_json.specs.Data.{Data}
use Rattle.serde_json.specs.Read.{read}
use Rattle.json_frames.specs.Frame.{json_of}

pub json_read : (line : List ℕ) (d : Data) → IsUtf8 line → read line ≡ Some d → json_of line ≡ Some d
json_read line d text is = rw (is_utf8-from_IsUtf8 line text) is

no_json : (line : List ℕ) (b : Bool) → is_utf8 line ≡ b → (IsUtf8 line → read line ≡ None) → cond b (read line) None ≡ None
no_json line true text none = none (IsUtf8-from_is_utf8 line text)
no_json line false text none = refl

pub json_unread : (line : List ℕ) → (IsUtf8 line → read line ≡ None) → json_of line ≡ None
json_unread line none = no_json line (is_utf8 line) refl none

pub text_is_utf8 : (bytes : List ℕ) → IsUtf8 bytes → true ≡ is_utf8 bytes
text_is_utf8 bytes text = sym (is_utf8-from_IsUtf8 bytes text)

pub other_is_not : (bytes : List ℕ) → (IsUtf8 bytes → ⊥) → false ≡ is_utf8 bytes
other_is_not bytes none = by (is_utf8 bytes) refl
  where
    by : (b : Bool) → is_utf8 bytes ≡ b → false ≡ b
    by true e = absurd (none (IsUtf8-from_is_utf8 bytes e))
    by false e = refl
