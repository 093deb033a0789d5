-- Bytes that are the same where it counts stand for the same journal; and a new area is read as what was written.
use Rattle.std.proofs.Common.{◌≡◌, ℕ, ◌+◌, ◌-◌, ◌^◌, ◌<◌, ◌≤◌, true, List, [], ◌∷◌, ◌++◌, length, take, drop, refl, sym, ◌∙◌, ap, subst, arith, append_assoc, length-append, length-drop, length-take, take-append-drop}
use Rattle.std.specs.Prelude.{Ok, slice_range}
use Rattle.std.specs.Int.{w32, from_be_bytes}
use Rattle.std.proofs.lemmas.List.{take_at, drop_at, take-take, drop-drop, drop-append-le, append-nil}
use Rattle.std.proofs.lemmas.List.Folds.{drop_split}
use Rattle.redo_journal.specs.Num.{num}
use Rattle.redo_journal.specs.Journal.{Mounted, body_list, frame, area, journal, is_header, side_of, root_of, version_at, first_root, version_bytes, written_version}
use Rattle.redo_journal.specs.declared.frame.FrameAt.{FrameAt}
use Rattle.redo_journal.specs.declared.frame.Side.{Side}
use Rattle.redo_journal.proofs.Numbers.{le_test}
use Rattle.redo_journal.proofs.Blocks.{block_written, length-frame, length-be_bytes}
use Rattle.redo_journal.proofs.Fronts.{IsFront}
use Rattle.redo_journal.proofs.Heads.{IsRead, Stands, mounted, opened, and_both, journal_closed, stands_read}
use Rattle.std.specs.Int.{w64, to_be_bytes}

-- the bytes from an area's root to its closed gate
window : (m : Mounted) (bytes : List ℕ) (s : Stands m bytes) → slice_range bytes m.active.root (m.active.gate + 1) ≡ drop m.active.root s.pre ++ (s.raw ++ s.shut ∷ [])
window m bytes s =
    let root = m.active.root in
    let long : length (drop root s.pre ++ (s.raw ++ s.shut ∷ [])) ≡ m.active.gate + 1 - root =
    omega (arith, length-append (drop root s.pre) (s.raw ++ s.shut ∷ []), length-append s.raw (s.shut ∷ []), length-drop root s.pre, s.opening.long, s.gate) in
    let apart : drop root bytes ≡ (drop root s.pre ++ (s.raw ++ s.shut ∷ [])) ++ s.others =
    ap (drop root) s.bytes_are ∙ drop-append-le root s.pre (s.raw ++ s.shut ∷ s.others) (omega (arith, s.opening.long))
    ∙ sym (append_assoc (drop root s.pre) (s.raw ++ s.shut ∷ []) s.others ∙ ap (λ (l : List ℕ). drop root s.pre ++ l) (append_assoc s.raw (s.shut ∷ []) s.others)) in
    ap (take (m.active.gate + 1 - root)) apart ∙ take_at (drop root s.pre ++ (s.raw ++ s.shut ∷ [])) s.others (m.active.gate + 1 - root) long

-- the header says the same of the active side, and the area has the same bytes up to its closed gate
pub record SameArea (m : Mounted) (bytes image : List ℕ) : Type 0 where
  pub header : is_header image ≡ true
  pub side_is : side_of image ≡ m.active.side
  pub root_is : root_of m.active.side image ≡ m.active.root
  pub area_is : slice_range image m.active.root (m.active.gate + 1) ≡ slice_range bytes m.active.root (m.active.gate + 1)
  pub within : m.active.gate < length image

version_kept : (root gate : ℕ) (bytes image : List ℕ) → root + 4 ≤ gate → slice_range image root (gate + 1) ≡ slice_range bytes root (gate + 1) → version_at root image ≡ version_at root bytes
version_kept root gate bytes image le same =
    let less : root + 4 - root ≤ gate + 1 - root = omega arith in
    ap (from_be_bytes w32)
    (sym (take-take (root + 4 - root) (gate + 1 - root) (drop root image) less) ∙ ap (take (root + 4 - root)) same ∙ take-take (root + 4 - root) (gate + 1 - root) (drop root bytes) less)

pub same_journal : (m : Mounted) (bytes image : List ℕ) → Stands m bytes → SameArea m bytes image → journal image ≡ Ok m
same_journal m bytes image s same =
    let root = m.active.root in
    let gate = m.active.gate in
    let others = drop (gate + 1) image in
    let le : root + 4 ≤ gate = omega (arith, s.gate) in
    let within = same.within in
    let read = stands_read m bytes s in
    let apart : drop root image ≡ drop root s.pre ++ ((s.raw ++ s.shut ∷ []) ++ others) =
    drop_split image root (gate + 1) (omega arith) ∙ ap (λ (l : List ℕ). l ++ others) (same.area_is ∙ window m bytes s) ∙ append_assoc (drop root s.pre) (s.raw ++ s.shut ∷ []) others in
    let four : length (drop root s.pre) ≡ 4 = omega (arith, length-drop root s.pre, s.opening.long) in
    let behind : drop (root + 4) image ≡ s.raw ++ s.shut ∷ others =
    sym (drop-drop 4 root image) ∙ ap (drop 4) apart ∙ drop_at (drop root s.pre) ((s.raw ++ s.shut ∷ []) ++ others) 4 four ∙ append_assoc s.raw (s.shut ∷ []) others in
    let whole : image ≡ take (root + 4) image ++ (s.raw ++ s.shut ∷ others) = sym (take-append-drop (root + 4) image) ∙ ap (λ (l : List ℕ). take (root + 4) image ++ l) behind in
    let is : IsRead m.version m.active.side root image = record {
      header = same.header;
      side_is = same.side_is;
      root_is = same.root_is;
      fits = and_both _ _ (le_test first_root root s.opening.past) (le_test (root + 5) (length image) (omega arith));
      version_is = version_kept root gate bytes image le same.area_is ∙ read.version_is;
      known = s.opening.known;
    } in
    let front = opened m.version m.active.side root (take (root + 4) image) (s.raw ++ s.shut ∷ others) (length-take (root + 4) image ∙ omega arith) (subst (IsRead m.version m.active.side root) whole is) in
    ap journal whole ∙ journal_closed m.version m.active.side root (take (root + 4) image) s.raw m.frames s.shut others front s.front s.is_shut
    ∙ ap (λ (n : ℕ). Ok (mounted m.version m.active.side root n m.frames)) (sym s.gate)

-- ---- a new area

abbrev head : List ℕ → List ℕ
head body = to_be_bytes w64 (length (body_list (body ∷ [])))

pub length-area : (body : List ℕ) → length (area (body ∷ [])) ≡ 5 + length (frame (body ∷ []))
length-area body = length-append (version_bytes written_version) (1 ∷ frame (body ∷ [])) ∙ omega arith

-- the bytes of an area, whatever follows
area_apart : (body rest : List ℕ) → area (body ∷ []) ++ rest ≡ 0 ∷ 0 ∷ 0 ∷ 2 ∷ ((1 ∷ (head body ++ body_list (body ∷ []))) ++ 0 ∷ rest)
unfolding frame
area_apart body rest = ap (λ (l : List ℕ). 0 ∷ 0 ∷ 0 ∷ 2 ∷ 1 ∷ l) (append_assoc (head body ++ body_list (body ∷ [])) (0 ∷ []) rest)

-- its parts put one behind the other
pub area_put : (counts body : List ℕ) (size : ℕ) → counts ≡ num 1 ++ num (length body) → size ≡ length counts + length body
    → (((0 ∷ 0 ∷ 0 ∷ 2 ∷ 1 ∷ [] ++ to_be_bytes w64 size) ++ counts) ++ body) ++ 0 ∷ [] ≡ area (body ∷ [])
unfolding frame
area_put counts body size is long =
    let listed : counts ++ body ≡ body_list (body ∷ []) =
    ap (λ (l : List ℕ). l ++ body) is ∙ append_assoc (num 1) (num (length body)) body ∙ ap (λ (l : List ℕ). num 1 ++ l) (sym (append-nil (num (length body) ++ body))) in
    let size_is : size ≡ length (body_list (body ∷ [])) = long ∙ sym (length-append counts body) ∙ ap length listed in
    ap (λ (l : List ℕ). 0 ∷ 0 ∷ 0 ∷ 2 ∷ 1 ∷ (l ++ 0 ∷ []))
    (append_assoc (to_be_bytes w64 size) counts body ∙ ap (λ (l : List ℕ). to_be_bytes w64 size ++ l) listed ∙ ap (λ (n : ℕ). to_be_bytes w64 n ++ body_list (body ∷ [])) size_is)

-- the journal that has this area, with one frame that holds the body
abbrev pub fresh : Side → ℕ → List ℕ → Mounted
fresh side root body = mounted 2 side root (root + 4 + length (frame (body ∷ []))) (record { offset = root + 4; bodies = body ∷ [] } ∷ [])

pub fresh_journal : (side : Side) (root : ℕ) (image body rest : List ℕ) → is_header image ≡ true → side_of image ≡ side → root_of side image ≡ root → 24 ≤ root
    → drop root image ≡ area (body ∷ []) ++ rest → length (frame (body ∷ [])) ≤ 2 ^ 62 → journal image ≡ Ok (fresh side root body)
fresh_journal side root image body rest header side_is root_is past stands fits =
    let bodies = body ∷ [] in
    let raw = 1 ∷ (head body ++ body_list bodies) in
    let apart : drop root image ≡ 0 ∷ 0 ∷ 0 ∷ 2 ∷ (raw ++ 0 ∷ rest) = stands ∙ area_apart body rest in
    let behind : drop (root + 4) image ≡ raw ++ 0 ∷ rest = sym (drop-drop 4 root image) ∙ ap (drop 4) apart in
    let long : root + 5 ≤ length image = omega (arith, length-drop root image, ap length apart, length-append raw (0 ∷ rest)) in
    let whole : image ≡ take (root + 4) image ++ (raw ++ 0 ∷ rest) = sym (take-append-drop (root + 4) image) ∙ ap (λ (l : List ℕ). take (root + 4) image ++ l) behind in
    let four : root + 4 - root ≡ 4 = omega arith in
    let is : IsRead 2 side root image = record {
      header = header;
      side_is = side_is;
      root_is = root_is;
      fits = and_both _ _ (le_test first_root root past) (le_test (root + 5) (length image) long);
      version_is = ap (λ (k : ℕ). from_be_bytes w32 (take k (drop root image))) four ∙ ap (λ (l : List ℕ). from_be_bytes w32 (take 4 l)) apart;
      known = refl;
    } in
    let front = opened 2 side root (take (root + 4) image) (raw ++ 0 ∷ rest) (length-take (root + 4) image ∙ omega arith) (subst (IsRead 2 side root) whole is) in
    let block = block_written bodies (omega arith) fits in
    let frames : List FrameAt = record { offset = root + 4; bodies = bodies } ∷ [] in
    let stands_so : IsFront (root + 4) frames raw = (head body, body_list bodies, [], block, refl, ap (λ (l : List ℕ). 1 ∷ (head body ++ l)) (sym (append-nil (body_list bodies))), refl) in
    let end : root + 4 + length raw ≡ root + 4 + length (frame bodies) = omega (arith, length-append (head body) (body_list bodies), length-be_bytes (length (body_list bodies)), length-frame bodies) in
    ap journal whole ∙ journal_closed 2 side root (take (root + 4) image) raw frames 0 rest front stands_so (λ one. omega arith)
    ∙ ap (λ (n : ℕ). Ok (mounted 2 side root n frames)) end
