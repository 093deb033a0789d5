-- An object in an object: where it stands among the members, and what the rest reads as whatever stands there.
use Rattle.std.proofs.Common.{◌≡◌, ℕ, ◌≤◌, Bool, true, false, not, List, [], ◌∷◌, ◌++◌, Option, Some, None, refl, sym, ap, ap₂, ◌∙◌, arith, append_assoc, append-nil}
use Rattle.std.specs.Prelude.{option_and_then}
use Rattle.std.specs.List.{list_all}
use Rattle.std.specs.Ordering.{nat_cmp, match_ordering}
use Rattle.std.specs.Cmp.Lexicographic.{slice_cmp}
use Rattle.std.specs.declared.cmp.Ordering.{Ordering}
use Rattle.std.specs.declared.cmp.Ordering.TheVariants.{Less, Equal, Greater}
use Rattle.std.proofs.lemmas.Bool.{and_parts, and_right}
use Rattle.json.specs.Token.{Token}
use Rattle.json.specs.Json as json
use Rattle.json.specs.Json.{Json}
use Rattle.json.specs.Tree.{json_tokens, items_tokens, members_tokens, depth, members_depth}
use Rattle.json.proofs.Printed.Trees.{value-json_tokens}
use Rattle.json.proofs.Found.{one_reading, Some_inj, not_found}
use Rattle.serde_json.specs.Data.{Data, Members, no_members, member, put}
use Rattle.serde_json.specs.Read.{of_json, of_members}
use Rattle.json_frames.specs.Frame.{Slots, no_slots, slot, fill}
use Rattle.json_frames.proofs.Flat.{opens, none_opens}

-- ---- no token of a value is bad

abbrev is_good : Token → Bool
is_good Token.begin_object = true
is_good Token.end_object = true
is_good Token.begin_array = true
is_good Token.end_array = true
is_good (Token.key s) = true
is_good (Token.string s) = true
is_good (Token.number s) = true
is_good (Token.boolean b) = true
is_good Token.null = true
is_good Token.bad = false

abbrev all_good : List Token → Bool
all_good ts = list_all is_good ts

mutual
  good_value : (j : Json) (rest : List Token) → all_good (json_tokens j ++ rest) ≡ all_good rest
  good_value json.null rest = refl
  good_value (json.boolean b) rest = refl
  good_value (json.number s) rest = refl
  good_value (json.string s) rest = refl
  good_value (json.array js) rest = good_items js rest
  good_value (json.object ms) rest = good_members ms rest

  good_items : (js : json.Items) (rest : List Token) → all_good (items_tokens js ++ rest) ≡ all_good rest
  good_items json.no_items rest = refl
  good_items (json.item j js) rest =
      ap all_good (append_assoc (json_tokens j) (items_tokens js) rest) ∙ good_value j (items_tokens js ++ rest) ∙ good_items js rest

  good_members : (ms : json.Members) (rest : List Token) → all_good (members_tokens ms ++ rest) ≡ all_good rest
  good_members json.no_members rest = refl
  good_members (json.member k j ms) rest =
      ap all_good (append_assoc (json_tokens j) (members_tokens ms) rest) ∙ good_value j (members_tokens ms ++ rest) ∙ good_members ms rest

bad_last : (ts : List Token) → all_good (ts ++ Token.bad ∷ []) ≡ false
bad_last [] = refl
bad_last (t ∷ ts) = and_right (is_good t) (all_good (ts ++ Token.bad ∷ [])) (bad_last ts)

pub never_bad : (j : Json) (ts : List Token) → json_tokens j ≡ ts ++ Token.bad ∷ [] → ⊥
never_bad j ts e =
    let good : all_good (json_tokens j) ≡ true = sym (ap all_good (append-nil (json_tokens j))) ∙ good_value j [] in
    let not_good : all_good (json_tokens j) ≡ false = ap all_good e ∙ bad_last ts in
    cc

-- ---- the members of a JSON object, some without a value

pub data Holes : Type 0 where
  no_holes : Holes
  hole : List ℕ → Option Json → Holes → Holes

-- with one value for those that have none
abbrev pub fill_json : Holes → Json → json.Members
fill_json no_holes j = json.no_members
fill_json (hole key None rest) j = json.member key j (fill_json rest j)
fill_json (hole key (Some has) rest) j = json.member key has (fill_json rest j)

-- each member has its value
abbrev all_given : json.Members → Holes
all_given json.no_members = no_holes
all_given (json.member k j ms) = hole k (Some j) (all_given ms)

fill_given : (ms : json.Members) (j : Json) → fill_json (all_given ms) j ≡ ms
fill_given json.no_members j = refl
fill_given (json.member k v ms) j = ap (json.member k v) (fill_given ms j)

-- ---- the tokens of members, apart

-- tokens have one reading, and one rest behind it
same_value : (j k : Json) (r s : List Token) → json_tokens j ++ r ≡ json_tokens k ++ s → (j ≡ k) × (r ≡ s)
same_value j k r s e =
    let one = value-json_tokens j (depth j) r (omega arith) in
    let two = ap (json.value (depth k)) e ∙ value-json_tokens k (depth k) s (omega arith) in
    let both = Some_inj (j, r) (k, s) (one_reading (depth j) (depth k) (json_tokens j ++ r) (j, r) (k, s) one two) in
    (ap (λ p. p.0) both, ap (λ p. p.1) both)

-- a value that begins with a token that does not open is that token
one_token : (v : Json) (r : List Token) (u : Token) (rest : List Token) → not (opens u) ≡ true → json_tokens v ++ r ≡ u ∷ rest
    → (json_tokens v ≡ u ∷ []) × ((r ≡ rest) × (depth v ≡ 0))
one_token json.null r u rest h e = (cc, (cc, refl))
one_token (json.boolean b) r u rest h e = (cc, (cc, refl))
one_token (json.number s) r u rest h e = (cc, (cc, refl))
one_token (json.string s) r u rest h e = (cc, (cc, refl))
one_token (json.array js) r u rest h e =
    let opening : Token.begin_array ≡ u = cc in
    let no_more : not (opens u) ≡ false = sym (ap (λ t. not (opens t)) opening) in
    absurd cc
one_token (json.object ms) r u rest h e =
    let opening : Token.begin_object ≡ u = cc in
    let no_more : not (opens u) ≡ false = sym (ap (λ t. not (opens t)) opening) in
    absurd cc

some_token : (ms : json.Members) → members_tokens ms ≡ [] → ⊥
some_token json.no_members e = cc
some_token (json.member k j ms) e = cc

not_alone : (ts behind : List Token) (t u : Token) → t ∷ [] ≡ ts ++ (u ∷ behind) → t ≡ u
not_alone [] behind t u e = cc
not_alone (s ∷ []) behind t u e = absurd cc
not_alone (s ∷ v ∷ ts) behind t u e = absurd cc

-- ---- where the object stands

abbrev Stands : List Token → List Token → json.Members → json.Members → Type 0
Stands ts behind whole inner = (holes : Holes) × ((whole ≡ fill_json holes (json.object inner))
    × (((j : Json) → members_tokens (fill_json holes j) ≡ ts ++ (json_tokens j ++ behind))
    × ((j : Json) (n : ℕ) → members_depth whole ≤ n → depth j ≤ n → members_depth (fill_json holes j) ≤ n)))

-- it is the value of this member
here : (k : List ℕ) (v : Json) (ms : json.Members) (t : Token) (behind : List Token) (inner : json.Members)
    → Token.key k ∷ (json_tokens v ++ members_tokens ms) ≡ t ∷ (json_tokens (json.object inner) ++ behind)
    → Stands (t ∷ []) behind (json.member k v ms) inner
here k v ms t behind inner e =
    let key : Token.key k ≡ t = cc in
    let later : json_tokens v ++ members_tokens ms ≡ json_tokens (json.object inner) ++ behind = cc in
    let parts = same_value v (json.object inner) (members_tokens ms) behind later in (
      hole k None (all_given ms),
      (
        ap₂ (json.member k) parts.0 (sym (fill_given ms (json.object inner))),
        (
          (λ j. ap₂ (λ a b. a ∷ (json_tokens j ++ b)) key (ap members_tokens (fill_given ms j) ∙ parts.1)),
          (λ j n all one. let same : members_depth (fill_json (all_given ms) j) ≡ members_depth ms = ap members_depth (fill_given ms j) in omega arith),
        ),
      ),
    )

-- it stands behind this member
later : (k : List ℕ) (v : Json) (ms : json.Members) (t u : Token) (more behind : List Token) (inner : json.Members)
    → Token.key k ≡ t → json_tokens v ≡ u ∷ [] → Stands more behind ms inner → Stands (t ∷ u ∷ more) behind (json.member k v ms) inner
later k v ms t u more behind inner key one (holes, (whole, (tokens, shallow))) = (
  hole k (Some v) holes,
  (
    ap (json.member k v) whole,
    (
      (λ j. ap₂ (λ a b. a ∷ (b ++ members_tokens (fill_json holes j))) key one ∙ ap (λ l. t ∷ u ∷ l) (tokens j)),
      (λ j n all inside. let rest : members_depth (fill_json holes j) ≤ n = shallow j n (omega arith) inside in omega arith),
    ),
  ),
)

stands : (whole : json.Members) (ts behind : List Token) (inner : json.Members) → none_opens ts ≡ true
    → members_tokens whole ≡ ts ++ (json_tokens (json.object inner) ++ behind) → Stands ts behind whole inner
stands json.no_members ts behind inner flat e =
    let alone : Token.end_object ≡ Token.begin_object = not_alone ts (members_tokens inner ++ behind) Token.end_object Token.begin_object e in
    absurd cc
stands (json.member k v ms) [] behind inner flat e = absurd cc
stands (json.member k v ms) (t ∷ []) behind inner flat e = here k v ms t behind inner e
stands (json.member k v ms) (t ∷ u ∷ more) behind inner flat e =
    let after_key : none_opens (u ∷ more) ≡ true = (and_parts (not (opens t)) (none_opens (u ∷ more)) flat).1 in
    let parts = and_parts (not (opens u)) (none_opens more) after_key in
    let key : Token.key k ≡ t = cc in
    let value : json_tokens v ++ members_tokens ms ≡ u ∷ (more ++ (json_tokens (json.object inner) ++ behind)) = cc in
    let one = one_token v (members_tokens ms) u (more ++ (json_tokens (json.object inner) ++ behind)) parts.0 value in
    later k v ms t u more behind inner key one.0 (stands ms more behind inner parts.1 one.1.0)

pub opened : (ts behind : List Token) (whole inner : json.Members) → none_opens ts ≡ true
    → json_tokens (json.object whole) ≡ Token.begin_object ∷ (ts ++ (json_tokens (json.object inner) ++ behind))
    → (holes : Holes) × ((whole ≡ fill_json holes (json.object inner))
    × (((j : Json) → json_tokens (json.object (fill_json holes j)) ≡ Token.begin_object ∷ (ts ++ (json_tokens j ++ behind)))
    × ((j : Json) (n : ℕ) → members_depth whole ≤ n → depth j ≤ n → members_depth (fill_json holes j) ≤ n)))
opened ts behind whole inner flat e =
    let inside : members_tokens whole ≡ ts ++ (json_tokens (json.object inner) ++ behind) = cc in
    let found = stands whole ts behind inner flat inside in
    (found.0, (found.1.0, ((λ j. ap (λ l. Token.begin_object ∷ l) (found.1.1.0 j)), found.1.1.1)))

-- ---- a flat object nests one deep

no_depth : (inner : json.Members) (ts : List Token) → none_opens ts ≡ true → members_tokens inner ≡ ts ++ Token.end_object ∷ [] → members_depth inner ≡ 0
no_depth json.no_members ts flat e = refl
no_depth (json.member k v ms) [] flat e = absurd cc
no_depth (json.member k v ms) (t ∷ []) flat e =
    let value : json_tokens v ++ members_tokens ms ≡ Token.end_object ∷ [] = cc in
    absurd (some_token ms (one_token v (members_tokens ms) Token.end_object [] refl value).1.0)
no_depth (json.member k v ms) (t ∷ u ∷ more) flat e =
    let after_key : none_opens (u ∷ more) ≡ true = (and_parts (not (opens t)) (none_opens (u ∷ more)) flat).1 in
    let parts = and_parts (not (opens u)) (none_opens more) after_key in
    let value : json_tokens v ++ members_tokens ms ≡ u ∷ (more ++ Token.end_object ∷ []) = cc in
    let one = one_token v (members_tokens ms) u (more ++ Token.end_object ∷ []) parts.0 value in
    let first : depth v ≡ 0 = one.1.1 in
    let rest : members_depth ms ≡ 0 = no_depth ms more parts.1 one.1.0 in
    omega arith

pub flat_depth : (ts : List Token) (inner : json.Members) → none_opens ts ≡ true → json_tokens (json.object inner) ≡ Token.begin_object ∷ (ts ++ Token.end_object ∷ []) → depth (json.object inner) ≤ 1
flat_depth ts inner flat e =
    let inside : members_tokens inner ≡ ts ++ Token.end_object ∷ [] = cc in
    let none : members_depth inner ≡ 0 = no_depth inner ts flat inside in
    omega arith

-- ---- from trees to data

-- what a member has, or else d
abbrev given : Option Data → Data → Data
given None d = d
given (Some e) d = e

fill_slot : (k : List ℕ) (o : Option Data) (rest : Slots) (d : Data) → fill (slot k o rest) d ≡ member k (given o d) (fill rest d)
fill_slot k None rest d = refl
fill_slot k (Some e) rest d = refl

-- the slots, with o at k: as `put`
abbrev put_slot : List ℕ → Option Data → Slots → Slots
put_slot k o no_slots = slot k o no_slots
put_slot k o (slot l p rest) = match_ordering (slice_cmp nat_cmp k l) (slot k o (slot l p rest)) (slot l o rest) (slot l p (put_slot k o rest))

put_turn : (c : Ordering) (k l : List ℕ) (o p : Option Data) (rest more : Slots) (ms : Members) (d : Data) → ms ≡ fill more d
    → match_ordering c (member k (given o d) (member l (given p d) (fill rest d))) (member l (given o d) (fill rest d)) (member l (given p d) ms)
    ≡ fill (match_ordering c (slot k o (slot l p rest)) (slot l o rest) (slot l p more)) d
put_turn Less k l o p rest more ms d e = sym (fill_slot k o (slot l p rest) d ∙ ap (member k (given o d)) (fill_slot l p rest d))
put_turn Equal k l o p rest more ms d e = sym (fill_slot l o rest d)
put_turn Greater k l o p rest more ms d e = ap (member l (given p d)) e ∙ sym (fill_slot l p more d)

put_fill : (k : List ℕ) (o : Option Data) (found : Slots) (d : Data) → put k (given o d) (fill found d) ≡ fill (put_slot k o found) d
put_fill k o no_slots d = sym (fill_slot k o no_slots d)
put_fill k o (slot l p rest) d =
    ap (put k (given o d)) (fill_slot l p rest d)
    ∙ put_turn (slice_cmp nat_cmp k l) k l o p rest (put_slot k o rest) (put k (given o d) (fill rest d)) d (put_fill k o rest d)

-- one member read
one_read : (k : List ℕ) (o : Option Data) (v : Json) (ms : json.Members) (found : Slots) (d : Data) → of_json v ≡ Some (given o d)
    → of_members (json.member k v ms) (fill found d) ≡ of_members ms (fill (put_slot k o found) d)
one_read k o v ms found d e =
    ap (option_and_then (λ x. of_members ms (put k x (fill found d)))) e ∙ ap (of_members ms) (put_fill k o found d)

was_some : {A B : Type 0} (g : A → Option B) (o : Option A) (b : B) → option_and_then g o ≡ Some b → (a : A) × (o ≡ Some a)
was_some g None b e = not_found b e
was_some g (Some a) b e = (a, refl)

abbrev Filled : Holes → Slots → Members → Data → Type 0
Filled holes found whole d = (slots : Slots) × ((whole ≡ fill slots d)
    × ((i : Json) (e : Data) → of_json i ≡ Some e → of_members (fill_json holes i) (fill found e) ≡ Some (fill slots e)))

-- behind members found so far
filled_behind : (holes : Holes) (found : Slots) (j : Json) (whole : Members) (d : Data) → of_json j ≡ Some d
    → of_members (fill_json holes j) (fill found d) ≡ Some whole → Filled holes found whole d
filled_behind no_holes found j whole d is e = (found, (sym (Some_inj (fill found d) whole e), (λ i x reads. refl)))
filled_behind (hole k None rest) found j whole d is e =
    let again = filled_behind rest (put_slot k None found) j whole d is (sym (one_read k None j (fill_json rest j) found d is) ∙ e) in
    (again.0, (again.1.0, (λ i x reads. one_read k None i (fill_json rest i) found x reads ∙ again.1.1 i x reads)))
filled_behind (hole k (Some v) rest) found j whole d is e =
    let has = was_some (λ x. of_members (fill_json rest j) (put k x (fill found d))) (of_json v) whole e in
    let again = filled_behind rest (put_slot k (Some has.0) found) j whole d is (sym (one_read k (Some has.0) v (fill_json rest j) found d has.1) ∙ e) in
    (again.0, (again.1.0, (λ i x reads. one_read k (Some has.0) v (fill_json rest i) found x has.1 ∙ again.1.1 i x reads)))

pub filled : (holes : Holes) (j : Json) (whole : Members) (d : Data) → of_json j ≡ Some d → of_members (fill_json holes j) no_members ≡ Some whole
    → (slots : Slots) × ((whole ≡ fill slots d)
    × ((i : Json) (e : Data) → of_json i ≡ Some e → of_members (fill_json holes i) no_members ≡ Some (fill slots e)))
filled holes j whole d is e = filled_behind holes no_slots j whole d is e
