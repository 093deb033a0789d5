-- What the rules for commas and colons make of lexemes does not hang on what comes behind the next colon or closing brace.
use Rattle.std.proofs.Common.{◌≡◌, Bool, true, false, List, [], ◌∷◌, ◌++◌, ◌⊎◌, inl, inr, refl, ap, ◌∙◌}
use Rattle.std.proofs.lemmas.Bool.{and_parts, not-true, true≢false}
use Rattle.json.specs.Token.{Token, begin_object, end_object, begin_array, end_array, key, string, number, boolean, null, bad}
use Rattle.json.specs.Lex.{Lexeme, token, comma, colon, Place, fresh, after_value, after_comma, after_key, begins_colon, may_begin, may_close, if_allowed, place_token, punctuate}
use Rattle.json_frames.proofs.Flat.{opens, none_opens, no_lexeme_opens}

-- for each rest: tokens that open nothing, and then what the place q makes of the lexeme x and the rest, or `bad`
abbrev pub Reaches : Lexeme → (List Lexeme → List Token) → Type 0
Reaches x f = (ts : List Token)
    × ((none_opens ts ≡ true)
    × (((q : Place) × ((rest : List Lexeme) → f rest ≡ ts ++ punctuate q (x ∷ rest))) ⊎ ((rest : List Lexeme) → f rest ≡ ts ++ bad ∷ [])))

stops : (x : Lexeme) → Reaches x (λ rest. bad ∷ [])
stops x = ([], (refl, inr (λ rest. refl)))

same : (x : Lexeme) (f g : List Lexeme → List Token) → ((rest : List Lexeme) → f rest ≡ g rest) → Reaches x g → Reaches x f
same x f g e (ts, (none, inl (q, r))) = (ts, (none, inl (q, λ rest. e rest ∙ r rest)))
same x f g e (ts, (none, inr r)) = (ts, (none, inr (λ rest. e rest ∙ r rest)))

-- one more token in front
more : (x : Lexeme) (t : Token) (f : List Lexeme → List Token) → ((ts : List Token) → none_opens ts ≡ true → none_opens (t ∷ ts) ≡ true) → Reaches x f → Reaches x (λ rest. t ∷ f rest)
more x t f shut (ts, (none, inl (q, r))) = (t ∷ ts, (shut ts none, inl (q, λ rest. ap (λ l. t ∷ l) (r rest))))
more x t f shut (ts, (none, inr r)) = (t ∷ ts, (shut ts none, inr (λ rest. ap (λ l. t ∷ l) (r rest))))

module _ (x : Lexeme) (k : Place → List Lexeme → List Token) (all : (q : Place) → Reaches x (k q)) where
  allowed : (b : Bool) (t : Token) (next : Place) → ((ts : List Token) → none_opens ts ≡ true → none_opens (t ∷ ts) ≡ true) → Reaches x (λ rest. if_allowed b t (λ n. k n rest) next)
  allowed true t next shut = more x t (k next) shut (all next)
  allowed false t next shut = stops x

  placed : (p : Place) (t : Token) (b : Bool) → opens t ≡ false → Reaches x (λ rest. place_token p t b (λ n. k n rest))
  placed p begin_object b e = absurd (true≢false e)
  placed p end_object b e = allowed (may_close p) end_object after_value (λ ts h. h)
  placed p begin_array b e = absurd (true≢false e)
  placed p end_array b e = allowed (may_close p) end_array after_value (λ ts h. h)
  placed p (key s) b e = stops x
  placed p (string s) true e = allowed (may_begin p) (key s) after_key (λ ts h. h)
  placed p (string s) false e = allowed (may_begin p) (string s) after_value (λ ts h. h)
  placed p (number s) b e = allowed (may_begin p) (number s) after_value (λ ts h. h)
  placed p (boolean v) b e = allowed (may_begin p) (boolean v) after_value (λ ts h. h)
  placed p null b e = allowed (may_begin p) null after_value (λ ts h. h)
  placed p bad b e = stops x

-- whether a colon comes first is seen up to x
colon_first : (x : Lexeme) (ls rest : List Lexeme) → begins_colon (ls ++ x ∷ rest) ≡ begins_colon (ls ++ x ∷ [])
colon_first (token t) [] rest = refl
colon_first comma [] rest = refl
colon_first colon [] rest = refl
colon_first x (token t ∷ ls) rest = refl
colon_first x (comma ∷ ls) rest = refl
colon_first x (colon ∷ ls) rest = refl

-- the place that the lexemes before x lead to, if no fault stands among them
pub place_of : (x : Lexeme) (ls : List Lexeme) (p : Place) → no_lexeme_opens ls ≡ true → Reaches x (λ rest. punctuate p (ls ++ x ∷ rest))
unfolding punctuate
place_of x [] p h = ([], (refl, inl (p, λ rest. refl)))
place_of x (token t ∷ ls) p h =
    let parts = and_parts _ _ h in
    same x _ (λ rest. place_token p t (begins_colon (ls ++ x ∷ [])) (λ n. punctuate n (ls ++ x ∷ rest)))
    (λ rest. ap (λ b. place_token p t b (λ n. punctuate n (ls ++ x ∷ rest))) (colon_first x ls rest))
    (placed x (λ n rest. punctuate n (ls ++ x ∷ rest)) (λ q. place_of x ls q parts.1) p t (begins_colon (ls ++ x ∷ [])) (not-true _ parts.0))
place_of x (comma ∷ ls) fresh h = stops x
place_of x (comma ∷ ls) after_value h = place_of x ls after_comma h
place_of x (comma ∷ ls) after_comma h = stops x
place_of x (comma ∷ ls) after_key h = stops x
place_of x (colon ∷ ls) fresh h = stops x
place_of x (colon ∷ ls) after_value h = stops x
place_of x (colon ∷ ls) after_comma h = stops x
place_of x (colon ∷ ls) after_key h = place_of x ls fresh h

-- what the lexemes before a colon give, whatever follows
pub front_tokens : (ls : List Lexeme) → no_lexeme_opens ls ≡ true
    → (ts : List Token)
    × ((none_opens ts ≡ true)
    × (((rest : List Lexeme) → punctuate fresh (ls ++ colon ∷ rest) ≡ ts ++ punctuate fresh rest)
    ⊎ ((rest : List Lexeme) → punctuate fresh (ls ++ colon ∷ rest) ≡ ts ++ bad ∷ [])))
unfolding punctuate
front_tokens ls h = at_colon (λ rest. punctuate fresh (ls ++ colon ∷ rest)) (place_of colon ls fresh h)
  where
    at_colon : (f : List Lexeme → List Token) → Reaches colon f
        → (ts : List Token)
        × ((none_opens ts ≡ true) × (((rest : List Lexeme) → f rest ≡ ts ++ punctuate fresh rest) ⊎ ((rest : List Lexeme) → f rest ≡ ts ++ bad ∷ [])))
    at_colon f (ts, (none, inl (fresh, r))) = (ts, (none, inr r))
    at_colon f (ts, (none, inl (after_value, r))) = (ts, (none, inr r))
    at_colon f (ts, (none, inl (after_comma, r))) = (ts, (none, inr r))
    at_colon f (ts, (none, inl (after_key, r))) = (ts, (none, inl r))
    at_colon f (ts, (none, inr r)) = (ts, (none, inr r))

-- what the lexemes before a closing brace give, whatever follows
pub inner_tokens : (ls : List Lexeme) → no_lexeme_opens ls ≡ true
    → (ts : List Token)
    × ((none_opens ts ≡ true)
    × (((rest : List Lexeme) → punctuate fresh (ls ++ token end_object ∷ rest) ≡ ts ++ end_object ∷ punctuate after_value rest)
    ⊎ ((rest : List Lexeme) → punctuate fresh (ls ++ token end_object ∷ rest) ≡ ts ++ bad ∷ [])))
unfolding punctuate
inner_tokens ls h = at_brace (λ rest. punctuate fresh (ls ++ token end_object ∷ rest)) (place_of (token end_object) ls fresh h)
  where
    at_brace : (f : List Lexeme → List Token) → Reaches (token end_object) f
        → (ts : List Token)
        × ((none_opens ts ≡ true) × (((rest : List Lexeme) → f rest ≡ ts ++ end_object ∷ punctuate after_value rest) ⊎ ((rest : List Lexeme) → f rest ≡ ts ++ bad ∷ [])))
    at_brace f (ts, (none, inl (fresh, r))) = (ts, (none, inl r))
    at_brace f (ts, (none, inl (after_value, r))) = (ts, (none, inl r))
    at_brace f (ts, (none, inl (after_comma, r))) = (ts, (none, inr r))
    at_brace f (ts, (none, inl (after_key, r))) = (ts, (none, inr r))
    at_brace f (ts, (none, inr r)) = (ts, (none, inr r))
