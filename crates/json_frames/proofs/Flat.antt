-- What opens no object and no list.
use Rattle.std.proofs.Common.{List, Bool, true, false, not}
use Rattle.std.specs.List.{list_all}
use Rattle.json.specs.Token.{Token}
use Rattle.json.specs.Lex.{Lexeme, token, comma, colon}

abbrev pub opens : Token → Bool
opens Token.begin_object = true
opens Token.end_object = false
opens Token.begin_array = true
opens Token.end_array = false
opens (Token.key s) = false
opens (Token.string s) = false
opens (Token.number s) = false
opens (Token.boolean b) = false
opens Token.null = false
opens Token.bad = false

abbrev pub lexeme_opens : Lexeme → Bool
lexeme_opens (token t) = opens t
lexeme_opens comma = false
lexeme_opens colon = false

abbrev pub none_opens : List Token → Bool
none_opens ts = list_all (λ t. not (opens t)) ts

abbrev pub no_lexeme_opens : List Lexeme → Bool
no_lexeme_opens ls = list_all (λ l. not (lexeme_opens l)) ls
