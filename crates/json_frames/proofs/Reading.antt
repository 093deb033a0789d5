-- What it is that a text reads: its tokens are those of a tree.
use Rattle.std.proofs.Common.{◌≡◌, ℕ, ◌≤◌, List, [], ◌∷◌, Option, Some, None, refl, sym, ap, ◌∙◌, append-nil}
use Rattle.std.specs.Prelude.{option_and_then}
use Rattle.json.specs.Token.{Token}
use Rattle.json.specs.Lex.{Lexeme, token, fresh, punctuate, tokens}
use Rattle.json.specs.Json.{Json, value, if_last}
use Rattle.json.specs.Tree.{json_tokens, depth}
use Rattle.json.proofs.Found.{not_found}
use Rattle.json.proofs.Nesting.{value-depth}
use Rattle.json.proofs.Printed.Trees.{value-json_tokens}
use Rattle.json.proofs.Unique.Spelling.{value-json_tokens_back}
use Rattle.serde_json.specs.Data.{Data}
use Rattle.serde_json.specs.Read.{of_json, read}

pub record Reads (text : List ℕ) (d : Data) : Type 0 where
  pub tree : Json
  pub spelt : tokens text ≡ json_tokens tree
  pub meant : of_json tree ≡ Some d
  pub nested : depth tree ≤ 127

parsed : (text : List ℕ) (d : Data) (o : Option (Json × List Token)) → value 127 (tokens text) ≡ o → option_and_then of_json (option_and_then (λ p. if_last p.0 p.1) o) ≡ Some d → Reads text d
parsed text d None v e = not_found d e
parsed text d (Some (j, [])) v e = record { tree = j; spelt = value-json_tokens_back 127 (tokens text) [] j v ∙ append-nil (json_tokens j); meant = e; nested = value-depth 127 (tokens text) [] j v }
parsed text d (Some (j, (t ∷ ts))) v e = not_found d e

pub reads : (text : List ℕ) (d : Data) → read text ≡ Some d → Reads text d
reads text d e = parsed text d (value 127 (tokens text)) refl e

pub reads_back : (text : List ℕ) (j : Json) (d : Data) → tokens text ≡ json_tokens j → depth j ≤ 127 → of_json j ≡ Some d → read text ≡ Some d
reads_back text j d spelt nested meant =
    let back : value 127 (tokens text) ≡ Some (j, []) = ap (value 127) (spelt ∙ sym (append-nil (json_tokens j))) ∙ value-json_tokens j 127 [] nested in
    ap (λ o. option_and_then of_json (option_and_then (λ p. if_last p.0 p.1) o)) back ∙ meant

-- the first token of what begins an object
pub opens_with : (ls : List Lexeme) → punctuate fresh (token Token.begin_object ∷ ls) ≡ Token.begin_object ∷ punctuate fresh ls
unfolding punctuate
opens_with ls = refl
