-- From a line that enqueues to all that are the same but for the payload.
use Rattle.std.proofs.Common.{◌≡◌, ℕ, zero, suc, ◌≤◌, List, [], ◌∷◌, ◌++◌, length, Bool, true, false, cond, ◌&&◌, ◌==◌, Option, Some, None, refl, sym, ap, ◌∙◌, arith}
use Rattle.std.proofs.lemmas.Bool.{false≢true, true≢false, eqb-true, and_parts, le-leb}
use Rattle.std.specs.Prelude.{String, IsTrue, ◌↔◌, codes, is_some, option_map, option_and_then, nat_le}
use Rattle.std.specs.List.{list_all}
use Rattle.std.specs.Str.{is_utf8, IsAscii}
use Rattle.std.proofs.lemmas.Str.{is_utf8-from_IsUtf8, IsUtf8-from_ascii}
use Rattle.std.specs.declared.alloc.Global.{Global}
use Rattle.aq_base.specs.declared.limits.TheConstants.{LINE_LIMIT}
use Rattle.json_frames.specs.Frame.{is_plain, opens_plain, is_flat, json_of, Slots, no_slots, slot, fill, IsFrame}
use Rattle.payload_records.specs.Payload.{payload_of}
use Rattle.payload_records.specs.declared.payload.Payload.{Payload}
use Rattle.queue_rows.specs.declared.statement.Enqueue.{Enqueue}
use Rattle.queue_rows.specs.declared.statement.Visibility.{Visibility}
use Rattle.queue_rows.specs.declared.statement.Statement.TheVariants as statements
use Rattle.serde_json.specs.Data.{Data, null, boolean, number, string, array, object, Members, no_members, member}
use Rattle.serde_json.specs.Find.{get, as_object}
use Rattle.serde_json.specs.Read.{read}
use Rattle.serde_json.specs.View.{members_view}
use Rattle.serde_json.proofs.OnLiterals.{serde_json_on_literals}
use Rattle.serde_json.specs.declared.value.Value.{Value}
use Rattle.script_text.specs.Alike.{has_none, is_empty_object, IsPlainLine, IsAlike}
use Rattle.script_text.specs.Line.{is_blank, line_from, line_of}
use Rattle.script_text.specs.Member.{name_in}
use Rattle.script_text.specs.Plain.{visibility_member, plain_line, plain_ask, visibility_given, plain_enqueue, plain_asking}
use Rattle.script_text.specs.declared.line.Line.{Line}
use Rattle.script_text.specs.declared.line.Line.TheVariants as lines
use Rattle.script_text.proofs.Plain.{line_is_plain}

pub none_in : (b : Bool) (members : List (String Global × Value)) → (IsTrue b ↔ (length members ≡ 0)) → b ≡ has_none (members_view members)
none_in true [] h = refl
none_in false [] h = absurd (false≢true (h.1 refl))
none_in true (m ∷ members) h = absurd (omega (arith, h.0 refl))
none_in false (m ∷ members) h = refl

not_found : {A P : Type 0} (a : A) → None ≡ Some a → P
not_found a e = absurd (false≢true (ap is_some e))

abbrev or_else : {A : Type 0} → A → Option A → A
or_else other None = other
or_else other (Some a) = a

abbrev is_object : Data → Bool
is_object d = is_some (as_object d)

-- ---- what stands in a slot

abbrev given : Option Data → Data → Data
given None d = d
given (Some has) d = has

abbrev first_key : Members → List ℕ
first_key no_members = []
first_key (member key d rest) = key

abbrev first_value : Data → Members → Data
first_value other no_members = other
first_value other (member key d rest) = d

abbrev later : Members → Members
later no_members = no_members
later (member key d rest) = rest

record First (slots : Slots) (d : Data) (key : List ℕ) (x : Data) (ms : Members) : Type 0 where
  holds : Option Data
  more : Slots
  is : slots ≡ slot key holds more
  here : given holds d ≡ x
  rest : fill more d ≡ ms

taken : (slots : Slots) (d : Data) (key : List ℕ) (x : Data) (ms : Members) → fill slots d ≡ member key x ms → First slots d key x ms
taken no_slots d key x ms e = absurd (true≢false (ap has_none e))
taken (slot own None more) d key x ms e = record { holds = None; more = more; is = ap (λ k. slot k None more) (ap first_key e); here = ap (first_value d) e; rest = ap later e }
taken (slot own (Some has) more) d key x ms e = record { holds = Some has; more = more; is = ap (λ k. slot k (Some has) more) (ap first_key e); here = ap (first_value d) e; rest = ap later e }

ended : (slots : Slots) (d : Data) → fill slots d ≡ no_members → slots ≡ no_slots
ended no_slots d e = refl
ended (slot key None more) d e = absurd (false≢true (ap has_none e))
ended (slot key (Some has) more) d e = absurd (false≢true (ap has_none e))

-- where an object would fill it, but no object stands there
fixed : (holds : Option Data) (d x : Data) → given holds d ≡ x → is_object d ≡ true → is_object x ≡ false → holds ≡ Some x
fixed None d x e object_there none_there = absurd (true≢false (sym object_there ∙ ap is_object e ∙ none_there))
fixed (Some has) d x e object_there none_there = ap Some e

-- where an empty object fills it, but one with members stands there else
left_open : (holds : Option Data) (d x : Data) → given holds d ≡ x → is_empty_object x ≡ false → Some (is_empty_object (given holds (object no_members))) ≡ Some true → holds ≡ None
left_open None d x e some empty = refl
left_open (Some has) d x e some empty = absurd (false≢true (sym some ∙ ap is_empty_object (sym e) ∙ ap (or_else false) empty))

only_visibility : (slots : Slots) (d : Data) (v : Option Data) → is_object d ≡ true → ((w : Data) → v ≡ Some w → is_object w ≡ false) → fill slots d ≡ visibility_member v → (e : Data) → fill slots e ≡ visibility_member v
only_visibility slots d None object_there none_there f e = ap (λ s. fill s e) (ended slots d f)
only_visibility slots d (Some w) object_there none_there f e =
    let t = taken slots d (codes "visibility") w no_members f in
    let holds = fixed t.holds d w t.here object_there (none_there w refl) in
    ap (λ s. fill s e) (t.is ∙ ap (λ h. slot (codes "visibility") h t.more) holds ∙ ap (λ m. slot (codes "visibility") (Some w) m) (ended t.more d t.rest))

abbrev members_in : Data → Members
members_in null = no_members
members_in (boolean b) = no_members
members_in (number n) = no_members
members_in (string s) = no_members
members_in (array ds) = no_members
members_in (object ms) = ms

same_but_payload : (slots : Slots) (p q s d : Data) (v : Option Data) → object (fill slots d) ≡ plain_line p q s v
    → is_object d ≡ true → is_object q ≡ false → is_object s ≡ false → ((w : Data) → v ≡ Some w → is_object w ≡ false)
    → option_map is_empty_object (get (codes "payload") (object (fill slots (object no_members)))) ≡ Some true → is_empty_object p ≡ false
    → (other : Data) → object (fill slots other) ≡ plain_line other q s v
same_but_payload slots p q s d v f object_there queue session visibility empty some other =
    let a = taken slots d (codes "do") (string (codes "enqueue")) _ (ap members_in f) in
    let b = taken a.more d (codes "payload") p _ a.rest in
    let c = taken b.more d (codes "queue") q _ b.rest in
    let e = taken c.more d (codes "s") s _ c.rest in
    let verb = fixed a.holds d (string (codes "enqueue")) a.here object_there refl in
    let two : slots ≡ slot (codes "do") (Some (string (codes "enqueue"))) (slot (codes "payload") b.holds b.more) =
    a.is ∙ ap (λ h. slot (codes "do") h a.more) verb ∙ ap (λ m. slot (codes "do") (Some (string (codes "enqueue"))) m) b.is in
    let without = left_open b.holds d p b.here some (sym (in_payload b.holds b.more) ∙ ap (λ m. option_map is_empty_object (get (codes "payload") (object (fill m (object no_members))))) (sym two) ∙ empty) in
    let whole : slots ≡ slot (codes "do") (Some (string (codes "enqueue"))) (slot (codes "payload") None (slot (codes "queue") (Some q) (slot (codes "s") (Some s) e.more))) =
    two ∙ ap (λ h. slot (codes "do") (Some (string (codes "enqueue"))) (slot (codes "payload") h b.more)) without
    ∙ ap (λ m. slot (codes "do") (Some (string (codes "enqueue"))) (slot (codes "payload") None m)) (c.is ∙ ap (λ h. slot (codes "queue") h c.more) (fixed c.holds d q c.here object_there queue)
    ∙ ap (λ m. slot (codes "queue") (Some q) m) (e.is ∙ ap (λ h. slot (codes "s") h e.more) (fixed e.holds d s e.here object_there session))) in
    ap (λ m. object (fill m other)) whole
    ∙ ap (λ m. object (member (codes "do") (string (codes "enqueue")) (member (codes "payload") other (member (codes "queue") q (member (codes "s") s m))))) (only_visibility e.more d v object_there visibility e.rest other)
  where
    in_payload : (holds : Option Data) (more : Slots) → option_map is_empty_object (get (codes "payload") (object (fill (slot (codes "do") (Some (string (codes "enqueue"))) (slot (codes "payload") holds more)) (object no_members)))) ≡ Some (is_empty_object (given holds (object no_members)))
    in_payload None more = refl
    in_payload (Some has) more = refl

-- ---- what the line says

abbrev session_in : Option Line → List ℕ
session_in None = []
session_in (Some lines.Blank) = []
session_in (Some (lines.Declared name at)) = []
session_in (Some (lines.Asked session asked)) = session

abbrev ask_in : Enqueue → Option Line → Enqueue
ask_in other None = other
ask_in other (Some lines.Blank) = other
ask_in other (Some (lines.Declared name at)) = other
ask_in other (Some (lines.Asked session (statements.Admin asked))) = other
ask_in other (Some (lines.Asked session (statements.Enqueue ask))) = ask
ask_in other (Some (lines.Asked session (statements.Dequeue asked))) = other
ask_in other (Some (lines.Asked session (statements.Listen asked))) = other
ask_in other (Some (lines.Asked session statements.Commit)) = other
ask_in other (Some (lines.Asked session statements.Rollback)) = other

record Said (n w m : Type 0) : Type 0 where
  session : n
  queue : m
  visibility : w

asked_parts : (p q s : Data) (v : Option Data) (session : List ℕ) (ask : Enqueue) → plain_asking p q s v ≡ Some (lines.Asked session (statements.Enqueue ask))
    → Said (name_in s ≡ Some session) (visibility_given v ≡ Some ask.visibility) (name_in q ≡ Some ask.queue)
unfolding plain_asking plain_enqueue
asked_parts p q s v session ask e = by (name_in s) (visibility_given v) (name_in q) e
  where
    by : (n : Option (List ℕ)) (w : Option Visibility) (m : Option (List ℕ))
        → option_and_then (λ name. option_and_then (λ asked. Some (lines.Asked name asked)) (option_map (λ a. statements.Enqueue a) (option_and_then (λ seen. option_and_then (λ queue. Some (plain_ask queue (payload_of p) seen)) m) w))) n ≡ Some (lines.Asked session (statements.Enqueue ask))
        → Said (n ≡ Some session) (w ≡ Some ask.visibility) (m ≡ Some ask.queue)
    by None w m e = not_found _ e
    by (Some name) None m e = not_found _ e
    by (Some name) (Some seen) None e = not_found _ e
    by (Some name) (Some seen) (Some queue) e =
        let a = ap (ask_in ask) e in
        record { session = ap Some (ap session_in e); queue = ap Some (ap (λ x. x.queue) a); visibility = ap Some (ap (λ x. x.visibility) a) }

name_is_no_object : (d : Data) (name : List ℕ) → name_in d ≡ Some name → is_object d ≡ false
name_is_no_object null name e = refl
name_is_no_object (boolean b) name e = refl
name_is_no_object (number n) name e = refl
name_is_no_object (string s) name e = refl
name_is_no_object (array ds) name e = refl
name_is_no_object (object ms) name e = not_found name e

visibility_is_no_object : (v : Option Data) (seen : Visibility) → visibility_given v ≡ Some seen → (w : Data) → v ≡ Some w → is_object w ≡ false
visibility_is_no_object v seen e null i = refl
visibility_is_no_object v seen e (boolean b) i = refl
visibility_is_no_object v seen e (number n) i = refl
visibility_is_no_object v seen e (string s) i = refl
visibility_is_no_object v seen e (array ds) i = refl
visibility_is_no_object v seen e (object ms) i = not_found seen (ap visibility_given (sym i) ∙ e)

-- ---- lines that are not blank

both_false : (a b : Bool) → b ≡ false → (a && b) ≡ false
both_false true b e = e
both_false false b e = refl

first_false : (a b : Bool) → a ≡ false → (a && b) ≡ false
first_false a b e = ap (λ x. x && b) e

not_blank : (front inner back : List ℕ) → is_flat inner ≡ true → list_all is_blank (front ++ (inner ++ back)) ≡ false
not_blank [] [] back flat = absurd (false≢true flat)
not_blank [] (byte ∷ rest) back flat =
    let opens = eqb-true byte 123 (and_parts (byte == 123) (list_all is_plain rest) (and_parts (opens_plain (byte ∷ rest)) _ flat).0).0 in
    first_false (is_blank byte) (list_all is_blank (rest ++ back)) (ap is_blank opens)
not_blank (x ∷ front) inner back flat = both_false (is_blank x) (list_all is_blank (front ++ (inner ++ back))) (not_blank front inner back flat)

says : (line : List ℕ) (d : Data) (l : Line) → json_of line ≡ Some d → list_all is_blank line ≡ false → line_of line ≡ Some l → line_from d ≡ Some l
unfolding line_of
says line d l json filled e = by (nat_le (length line) LINE_LIMIT) (list_all is_blank line) filled e
  where
    by : (short blank : Bool) → blank ≡ false → cond short (cond blank (Some lines.Blank) (option_and_then line_from (json_of line))) None ≡ Some l → line_from d ≡ Some l
    by false blank f e = not_found l e
    by true true f e = absurd (true≢false f)
    by true false f e = ap (option_and_then line_from) (sym json) ∙ e

is_said : (line : List ℕ) (d : Data) → json_of line ≡ Some d → list_all is_blank line ≡ false → length line ≤ LINE_LIMIT → line_of line ≡ line_from d
unfolding line_of
is_said line d json filled short =
    (λ i. cond (le-leb (length line) LINE_LIMIT short i) (cond (filled i) (Some lines.Blank) (option_and_then line_from (json i))) None)

-- ---- all lines that are alike

empty_read : read (123 ∷ 125 ∷ []) ≡ Some (object no_members)
unfolding serde_json_on_literals
empty_read = refl

empty_is_utf8 : is_utf8 (123 ∷ 125 ∷ []) ≡ true
empty_is_utf8 = is_utf8-from_IsUtf8 _ (IsUtf8-from_ascii _ ascii)
  where
    ascii : IsAscii (123 ∷ 125 ∷ [])
    ascii zero = omega arith
    ascii (suc zero) = omega arith
    ascii (suc (suc i)) = omega arith

empty_said : json_of (123 ∷ 125 ∷ []) ≡ Some (object no_members)
empty_said = ap (λ b. cond b (read (123 ∷ 125 ∷ [])) None) empty_is_utf8 ∙ empty_read

read_of : (inner : List ℕ) (o : Option Data) (payload : Payload) → json_of inner ≡ o → option_map payload_of o ≡ Some payload → (d : Data) × ((json_of inner ≡ Some d) × (payload_of d ≡ payload))
read_of inner None payload i e = not_found payload e
read_of inner (Some d) payload i e = (d, (i, ap (or_else payload) e))

object_read : (inner : List ℕ) (o : Option Data) → json_of inner ≡ o → is_some (option_and_then as_object o) ≡ true → (d : Data) × ((json_of inner ≡ Some d) × (is_object d ≡ true))
object_read inner None i e = absurd (false≢true e)
object_read inner (Some d) i e = (d, (i, e))

pub alike_from : (front back line inner session : List ℕ) (ask : Enqueue) → IsFrame front back → line ≡ front ++ (inner ++ back) → is_flat inner ≡ true
    → is_some (option_and_then as_object (json_of inner)) ≡ true
    → option_map is_empty_object (option_and_then (get (codes "payload")) (json_of (front ++ ((123 ∷ 125 ∷ []) ++ back)))) ≡ Some true
    → IsPlainLine line → line_of line ≡ Some (lines.Asked session (statements.Enqueue ask)) → IsAlike front back session ask.queue ask.visibility
unfolding IsFrame IsAlike plain_asking plain_enqueue
alike_from front back line inner session ask frame is flat read_there empty plain said = (λ other payload other_flat other_is short.
    (let known = read_of other (json_of other) payload refl other_is in
    let text = front ++ (other ++ back) in
    let json : json_of text ≡ Some (plain_line known.0 plain.queue plain.session plain.visibility) = frame.1 other known.0 other_flat known.1.0 ∙ ap Some (same known.0) in
    is_said text (plain_line known.0 plain.queue plain.session plain.visibility) json (not_blank front other back other_flat) short
    ∙ line_is_plain known.0 plain.queue plain.session plain.visibility
    ∙ asked_again known.0 payload known.1.1))
  where
    first : (d : Data) × ((json_of inner ≡ Some d) × (is_object d ≡ true))
    first = object_read inner (json_of inner) refl read_there

    parts : Said (name_in plain.session ≡ Some session) (visibility_given plain.visibility ≡ Some ask.visibility) (name_in plain.queue ≡ Some ask.queue)
    parts =
        let filled : list_all is_blank line ≡ false = ap (list_all is_blank) is ∙ not_blank front inner back flat in
        asked_parts plain.payload plain.queue plain.session plain.visibility session ask
        (sym (line_is_plain plain.payload plain.queue plain.session plain.visibility)
        ∙ says line (plain_line plain.payload plain.queue plain.session plain.visibility) (lines.Asked session (statements.Enqueue ask)) plain.said filled said)

    same : (d : Data) → object (fill frame.0 d) ≡ plain_line d plain.queue plain.session plain.visibility
    same =
        let read_again : Some (object (fill frame.0 first.0)) ≡ Some (plain_line plain.payload plain.queue plain.session plain.visibility) =
        sym (frame.1 inner first.0 flat first.1.0) ∙ ap json_of (sym is) ∙ plain.said in
        let hole : option_map is_empty_object (get (codes "payload") (object (fill frame.0 (object no_members)))) ≡ Some true =
        ap (λ o. option_map is_empty_object (option_and_then (get (codes "payload")) o)) (sym (frame.1 (123 ∷ 125 ∷ []) (object no_members) refl empty_said)) ∙ empty in
        same_but_payload frame.0 plain.payload plain.queue plain.session first.0 plain.visibility (ap (or_else null) read_again) first.1.1
        (name_is_no_object plain.queue ask.queue parts.queue) (name_is_no_object plain.session session parts.session)
        (visibility_is_no_object plain.visibility ask.visibility parts.visibility) hole plain.some

    asked_again : (d : Data) (payload : Payload) → payload_of d ≡ payload
        → plain_asking d plain.queue plain.session plain.visibility ≡ Some (lines.Asked session (statements.Enqueue (plain_ask ask.queue payload ask.visibility)))
    asked_again d payload is_payload =
        (λ i. option_and_then (λ name. option_and_then (λ asked. Some (lines.Asked name asked)) (option_map (λ a. statements.Enqueue a)
        (option_and_then (λ seen. option_and_then (λ queue. Some (plain_ask queue (is_payload i) seen)) (parts.queue i)) (parts.visibility i)))) (parts.session i))
