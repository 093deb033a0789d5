-- What a call leaves of the images, by what is held before and after it.
use Rattle.std.proofs.Common.{◌≡◌, ℕ, ◌<◌, ◌≤◌, Bool, true, false, ◌&&◌, List, [], ◌∷◌, ◌++◌, length, refl, sym, ◌∙◌, ap, subst, arith}
use Rattle.std.specs.Prelude.{nat_le, Result, Ok, Err, OnOk, OnErr, IfOk, Some}
use Rattle.std.specs.List.{list_all}
use Rattle.std.proofs.lemmas.Grind.{common_steps}
use Rattle.aq_disk.specs.Disk.{Torn, Only, Follows, Allows, Keeps, SameImages, KeepsEarlier}
use Rattle.aq_disk.specs.Kept.{all_filled, up_to, since_sync, synced, Tears, IsLeft, IsImageAfter, image_after, AddsWrite}
use Rattle.aq_disk.specs.Held.{SameHeld}
use Rattle.aq_disk.specs.Left.{torn_none, up_to_all, all_filled-append, image_new}
use Rattle.aq_disk.specs.declared.held.Held.{Held}
use Rattle.aq_disk.specs.declared.kept.Kept.{Kept}
use Rattle.aq_disk.specs.declared.kept.Step.TheVariants.{Write, Sync}
use Rattle.aq_disk.specs.declared.kept.Fill.{Fill}
use Rattle.aq_disk.specs.declared.kept.Fill.TheVariants.{New}
use Rattle.aq_disk.proofs.Pushed.{up_to_push, since_push, since_push_sync, until_push, until_push_sync}

pub on_ok : {T E : Type 0} (r : Result T E) (P : Type 0) → P → OnOk r P
on_ok (Ok x) P p = p
on_ok (Err e) P p = tt

pub on_err : {T E : Type 0} (r : Result T E) (P : Type 0) → P → OnErr r P
on_err (Ok x) P p = tt
on_err (Err e) P p = p

pub if_ok_more : {T E : Type 0} (r : Result T E) (P Q : T → Type 0) → ((x : T) → P x → Q x) → IfOk r P → IfOk r Q
if_ok_more (Ok x) P Q f p = f x p
if_ok_more (Err e) P Q f p = tt

-- the images that a held disk has at a call number
abbrev pub images : Held → ℕ → List ℕ → Type 0
images held call image = IsImageAfter held.start.items (up_to call held.kept.items) image

-- the kept calls are numbered up to this one
abbrev pub numbered : ℕ → List Kept → Type 0
numbered calls kept = list_all (λ k. nat_le k.call calls) kept ≡ true

moved : (start start' : List ℕ) (kept kept' : List Kept) (image : List ℕ) → start' ≡ start → kept' ≡ kept → IsImageAfter start kept image → IsImageAfter start' kept' image
moved start start' kept kept' image same_start same_kept left =
    subst (λ (s : List ℕ). IsImageAfter s kept' image) (sym same_start) (subst (λ (k : List Kept). IsImageAfter start k image) (sym same_kept) left)

same : (start start' : List ℕ) (kept kept' : List Kept) → start' ≡ start → kept' ≡ kept → SameImages (IsImageAfter start kept) (IsImageAfter start' kept')
same start start' kept kept' same_start same_kept image = (
  moved start' start kept' kept image (sym same_start) (sym same_kept),
  moved start start' kept kept' image same_start same_kept,
)

pub stays_same : (old new : Held) → new ≡ old → SameHeld old new
stays_same old new is = record {
  start = ap (λ (h : Held). h.start.items) is;
  kept = ap (λ (h : Held). h.kept.items) is;
  bytes = ap (λ (h : Held). h.bytes.items) is;
}

pub stays_with : (old mid new : Held) → mid ≡ old → SameHeld mid new → SameHeld old new
stays_with old mid new is stays = subst (λ (h : Held). SameHeld h new) is stays

pub same_earlier : (old new : Held) → SameHeld old new → (calls : ℕ) → KeepsEarlier calls (images old) (images new)
same_earlier old new stays calls call le =
    same old.start.items new.start.items (up_to call old.kept.items) (up_to call new.kept.items) stays.start (ap (up_to call) stays.kept)

pub same_follows : (step : List ℕ → List ℕ → Type 0) → ((image : List ℕ) → step image image) → (old new : List ℕ → Type 0) → SameImages old new → Follows step old new
same_follows step stays old new is image left = (image, (is image).0 left, stays image)

pub same_keeps : (old new : List ℕ → Type 0) → SameImages old new → Keeps old new
same_keeps old new is image left = (is image).1 left

pub same_images : (old new : Held) → SameHeld old new → (calls calls' : ℕ) → numbered calls old.kept.items → calls ≤ calls' → SameImages (images old calls) (images new calls')
same_images old new stays calls calls' numbers le =
    same old.start.items new.start.items (up_to calls old.kept.items) (up_to calls' new.kept.items) stays.start
    (ap (up_to calls') stays.kept ∙ up_to_all calls calls' old.kept.items numbers le ∙ sym (up_to_all calls calls old.kept.items numbers (omega arith)))

and_both : (a b : Bool) → a ≡ true → b ≡ true → (a && b) ≡ true
and_both true b h g = g
and_both false b h g = h

and_first : (a b : Bool) → (a && b) ≡ true → a ≡ true
and_first true b h = refl
and_first false b h = h

and_second : (a b : Bool) → (a && b) ≡ true → b ≡ true
and_second true b h = h
and_second false b h = absurd (cc)

le_more : (a b c : ℕ) → nat_le a b ≡ true → b ≤ c → nat_le a c ≡ true
le_more a b c h le = grind (arith, common_steps)

le_self : (a b : ℕ) → a ≤ b → nat_le a b ≡ true
le_self a b le = grind (arith, common_steps)

-- numbers up to a later call
pub numbered_more : (calls calls' : ℕ) (kept : List Kept) → numbered calls kept → calls ≤ calls' → numbered calls' kept
numbered_more calls calls' [] h le = refl
numbered_more calls calls' (k ∷ rest) h le =
    and_both (nat_le k.call calls') (list_all (λ k. nat_le k.call calls') rest)
    (le_more k.call calls calls' (and_first (nat_le k.call calls) (list_all (λ k. nat_le k.call calls) rest) h) le)
    (numbered_more calls calls' rest (and_second (nat_le k.call calls) (list_all (λ k. nat_le k.call calls) rest) h) le)

pub numbered_push : (calls : ℕ) (kept : List Kept) (last : Kept) → numbered calls kept → last.call ≤ calls → numbered calls (kept ++ last ∷ [])
numbered_push calls [] last h le = and_both (nat_le last.call calls) true (le_self last.call calls le) refl
numbered_push calls (k ∷ rest) last h le =
    and_both (nat_le k.call calls) (list_all (λ k. nat_le k.call calls) (rest ++ last ∷ []))
    (and_first (nat_le k.call calls) (list_all (λ k. nat_le k.call calls) rest) h)
    (numbered_push calls rest last (and_second (nat_le k.call calls) (list_all (λ k. nat_le k.call calls) rest) h) le)

left_push : (bytes : List ℕ) (kept : List Kept) (last : Kept) (was image : List ℕ) → IsLeft bytes kept was → Tears was last.step image → IsLeft bytes (kept ++ last ∷ []) image
left_push bytes [] last was image left tears = (image, subst (λ (b : List ℕ). Tears b last.step image) left tears, refl)
left_push bytes (k ∷ rest) last was image left tears = (left.0, left.1, left_push left.0 rest last was image left.2 tears)

left_unpush : (bytes : List ℕ) (kept : List Kept) (last : Kept) (image : List ℕ) → IsLeft bytes (kept ++ last ∷ []) image → (was : List ℕ) × IsLeft bytes kept was × Tears was last.step image
left_unpush bytes [] last image left = (bytes, refl, subst (λ (i : List ℕ). Tears bytes last.step i) (sym left.2) left.1)
left_unpush bytes (k ∷ rest) last image left =
    let before = left_unpush left.0 rest last image left.2 in (before.0, (left.0, left.1, before.1), before.2)

-- one call more, under a higher number
module _ (old new : Held) (calls calls' : ℕ) (numbers : numbered calls old.kept.items) (later : calls < calls') (begins : new.start.items ≡ old.start.items) where
  pub kept_earlier : (last : Kept) → last.call ≡ calls' → new.kept.items ≡ old.kept.items ++ last ∷ [] → KeepsEarlier calls (images old) (images new)
  kept_earlier last number adds call le =
      same old.start.items new.start.items (up_to call old.kept.items) (up_to call new.kept.items) begins
      (ap (up_to call) adds ∙ up_to_push call old.kept.items last (omega (arith, number)))

  before : up_to calls old.kept.items ≡ old.kept.items
  before = up_to_all calls calls old.kept.items numbers (omega arith)

  after : (last : Kept) → last.call ≡ calls' → new.kept.items ≡ old.kept.items ++ last ∷ [] → up_to calls' new.kept.items ≡ old.kept.items ++ last ∷ []
  after last number adds =
      ap (up_to calls') adds
      ∙ up_to_all calls' calls' (old.kept.items ++ last ∷ []) (numbered_push calls' old.kept.items last (numbered_more calls calls' old.kept.items numbers (omega arith)) (omega (arith, number))) (omega arith)

  module _ (at : ℕ) (from : List ℕ) (adds : AddsWrite old.kept.items new.kept.items calls' at from) where
    torn_is : (was image : List ℕ) → Torn at (length adds.bytes.items) was image → Torn at (length from) was image
    torn_is was image torn = subst (λ (b : List ℕ). Torn at (length b) was image) adds.as_written torn

    is_torn : (was image : List ℕ) → Torn at (length from) was image → Torn at (length adds.bytes.items) was image
    is_torn was image torn = subst (λ (b : List ℕ). Torn at (length b) was image) (sym adds.as_written) torn

    open_write : (image : List ℕ) → IsImageAfter old.start.items (old.kept.items ++ record { call = calls'; step = Write at adds.bytes } ∷ []) image
        → IsLeft (synced old.start.items old.kept.items) (since_sync old.kept.items ++ record { call = calls'; step = Write at adds.bytes } ∷ []) image
    open_write image left =
        subst (λ (k : List Kept). IsLeft (all_filled New old.start.items k) (since_sync old.kept.items ++ record { call = calls'; step = Write at adds.bytes } ∷ []) image)
        (until_push old.kept.items (record { call = calls'; step = Write at adds.bytes }) refl)
        (subst (λ (k : List Kept). IsLeft (synced old.start.items (old.kept.items ++ record { call = calls'; step = Write at adds.bytes } ∷ [])) k image)
        (since_push old.kept.items (record { call = calls'; step = Write at adds.bytes }) refl) left)

    close_write : (image : List ℕ) → IsLeft (synced old.start.items old.kept.items) (since_sync old.kept.items ++ record { call = calls'; step = Write at adds.bytes } ∷ []) image
        → IsImageAfter old.start.items (old.kept.items ++ record { call = calls'; step = Write at adds.bytes } ∷ []) image
    close_write image left =
        subst (λ (k : List Kept). IsLeft (synced old.start.items (old.kept.items ++ record { call = calls'; step = Write at adds.bytes } ∷ [])) k image)
        (sym (since_push old.kept.items (record { call = calls'; step = Write at adds.bytes }) refl))
        (subst (λ (k : List Kept). IsLeft (all_filled New old.start.items k) (since_sync old.kept.items ++ record { call = calls'; step = Write at adds.bytes } ∷ []) image)
        (sym (until_push old.kept.items (record { call = calls'; step = Write at adds.bytes }) refl)) left)

    pub write_follows : Follows (Torn at (length from)) (images old calls) (images new calls')
    write_follows image left =
        let here = moved new.start.items old.start.items (up_to calls' new.kept.items) (old.kept.items ++ record { call = calls'; step = Write at adds.bytes } ∷ []) image (sym begins)
        (sym (after (record { call = calls'; step = Write at adds.bytes }) refl adds.kept)) left in
        let parts = left_unpush (synced old.start.items old.kept.items) (since_sync old.kept.items) (record { call = calls'; step = Write at adds.bytes }) image (open_write image here) in (
          parts.0,
          subst (λ (k : List Kept). IsImageAfter old.start.items k parts.0) (sym before) parts.1,
          torn_is parts.0 image parts.2,
        )

    pub write_allows : Allows (Torn at (length from)) (images old calls) (images new calls')
    write_allows was image left torn =
        let here = subst (λ (k : List Kept). IsImageAfter old.start.items k was) before left in
        moved old.start.items new.start.items (old.kept.items ++ record { call = calls'; step = Write at adds.bytes } ∷ []) (up_to calls' new.kept.items) image begins
        (after (record { call = calls'; step = Write at adds.bytes }) refl adds.kept)
        (close_write image (left_push (synced old.start.items old.kept.items) (since_sync old.kept.items) (record { call = calls'; step = Write at adds.bytes }) was image here (is_torn was image torn)))

    pub write_keeps : Keeps (images old calls) (images new calls')
    write_keeps image left = write_allows image image left (torn_none at (length from) image)

    pub write_earlier : KeepsEarlier calls (images old) (images new)
    write_earlier = kept_earlier (record { call = calls'; step = Write at adds.bytes }) refl adds.kept

  module _ (adds : new.kept.items ≡ old.kept.items ++ record { call = calls'; step = Sync } ∷ []) where
    pub sync_only : Only old.bytes.items (images new calls')
    sync_only image left =
        let here = moved new.start.items old.start.items (up_to calls' new.kept.items) (old.kept.items ++ record { call = calls'; step = Sync } ∷ []) image (sym begins)
        (sym (after (record { call = calls'; step = Sync }) refl adds)) left in
        let whole : image ≡ synced old.start.items (old.kept.items ++ record { call = calls'; step = Sync } ∷ []) =
        subst (λ (k : List Kept). IsLeft (synced old.start.items (old.kept.items ++ record { call = calls'; step = Sync } ∷ [])) k image)
        (since_push_sync old.kept.items (record { call = calls'; step = Sync }) refl) here in
        whole ∙ ap (all_filled New old.start.items) (until_push_sync old.kept.items (record { call = calls'; step = Sync }) refl)
        ∙ all_filled-append New old.start.items old.kept.items (record { call = calls'; step = Sync } ∷ []) ∙ sym old.as_kept

    pub sync_earlier : KeepsEarlier calls (images old) (images new)
    sync_earlier = kept_earlier (record { call = calls'; step = Sync }) refl adds

-- with each range as written, the image of the last call is what a read gives
pub image_read : (held : Held) (calls call : ℕ) (fill : Fill) (image : List ℕ) → numbered calls held.kept.items → image ≡ image_after fill held.start.items (up_to call held.kept.items) → fill ≡ New → call ≡ calls
    → Some held.bytes.items ≡ Some image
image_read held calls call fill image numbers is new last =
    let all : up_to call held.kept.items ≡ held.kept.items = up_to_all calls call held.kept.items numbers (omega (arith, last)) in
    ap Some (held.as_kept ∙ sym (image_new held.start.items held.kept.items) ∙ sym (ap (λ (f : Fill). image_after f held.start.items held.kept.items) new)
    ∙ sym (ap (image_after fill held.start.items) all) ∙ sym is)
