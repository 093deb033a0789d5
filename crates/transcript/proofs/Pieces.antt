-- A text that is written a piece at a time.
use Rattle.std.proofs.Common.{◌≡◌, ℕ, List, [], ◌++◌, length, take, drop, Option, sym, ap, subst, ◌∙◌, append_assoc, append-nil, arith}
use Rattle.std.proofs.KnownBytes.{Appends-trans}
use Rattle.std.proofs.Math.Seq.{take-append_seam}
use Rattle.std.proofs.lemmas.List.{length-append, take-append-drop}
use Rattle.std.specs.Io.KnownBytes.{Appends}
use Rattle.transcript.specs.Pieces.{AppendsFront, Sends}

-- So far as it has come, some first bytes were written, the next are held, and the others are left.
pub record IsUnderWay (old new : Option (List ℕ)) (held left whole : List ℕ) : Type 0 where
  pub sent : List ℕ
  pub appended : Appends old new sent
  pub parts : sent ++ (held ++ left) ≡ whole

-- what was written are some first bytes of the text
front_of : (old new : Option (List ℕ)) (sent rest whole : List ℕ) → Appends old new sent → sent ++ rest ≡ whole → AppendsFront old new whole
front_of old new sent rest whole p e =
    let first : take (length sent) whole ≡ sent = ap (take (length sent)) (sym e) ∙ take-append_seam sent rest in
    (length sent, omega (arith, length-append sent rest, ap length e), subst (Appends old new) (sym first) p)

module _ {old mid : Option (List ℕ)} {held left whole : List ℕ} (way : IsUnderWay old mid held left whole) where
  -- what is left first is held as well
  pub put : (line more after : List ℕ) → more ≡ held ++ line → left ≡ line ++ after → IsUnderWay old mid more after whole
  put line more after e f = record {
    sent = way.sent;
    appended = way.appended;
    parts =
        let held_so : more ++ after ≡ held ++ left = ap (λ x. x ++ after) e ∙ append_assoc held line after ∙ ap (λ x. held ++ x) (sym f) in
        ap (λ x. way.sent ++ x) held_so ∙ way.parts;
  }

  -- some of what was held is written
  pub sends : (new : Option (List ℕ)) (kept : List ℕ) → Sends mid new held kept → IsUnderWay old new kept left whole
  sends new kept s = record {
    sent = way.sent ++ s.0;
    appended = Appends-trans old mid new way.sent s.0 way.appended s.1;
    parts =
        let held_so : s.0 ++ (kept ++ left) ≡ held ++ left = sym (append_assoc s.0 kept left) ∙ ap (λ x. x ++ left) (sym s.2) in
        append_assoc way.sent s.0 (kept ++ left) ∙ ap (λ x. way.sent ++ x) held_so ∙ way.parts;
  }

  -- some first bytes of what was held are written, and no more
  pub front_then : (new : Option (List ℕ)) → AppendsFront mid new held → AppendsFront old new whole
  front_then new f =
      let part = take f.0 held in
      let rest = drop f.0 held in
      let held_so : part ++ (rest ++ left) ≡ held ++ left = sym (append_assoc part rest left) ∙ ap (λ x. x ++ left) (take-append-drop f.0 held) in
      front_of old new (way.sent ++ part) (rest ++ left) whole (Appends-trans old mid new way.sent part way.appended f.2)
      (append_assoc way.sent part (rest ++ left) ∙ ap (λ x. way.sent ++ x) held_so ∙ way.parts)

  -- no more is written
  pub front_so_far : AppendsFront old mid whole
  front_so_far = front_of old mid way.sent (held ++ left) whole way.appended way.parts

-- all of a text are some first bytes of it
pub front_whole : (old new : Option (List ℕ)) (text : List ℕ) → Appends old new text → AppendsFront old new text
front_whole old new text p = front_of old new text [] text p (append-nil text)
