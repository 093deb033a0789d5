use Rattle.std.proofs.lemmas.Str.{is_utf8-from_IsUtf8}
use Rattle.run_spellings.proofs.texts.is_text.Goals as goal

-- src/texts.rt:11:1
pub returns-in-Some : goal.returns-in-Some
returns-in-Some c = rw c.in-Some.is (is_utf8-from_IsUtf8 _ (rw c.as_str-bytes.ensures at c.as_str-bytes.utf8))
