-- The good copies of sections, as they are read.
use Rattle.std.proofs.Common.{◌≡◌, ℕ, Bool, true, false, List, [], ◌∷◌, ◌++◌, Option, Some, None}
use Rattle.std.proofs.Common.{refl, sym, append_assoc, append-nil, if◌then◌else◌}
use Rattle.tape_image.specs.Tape.{TapeItem, block}
use Rattle.tape_run.specs.SurveyCopies.{Copy, blocks_with, good_told, copies_from}
use Rattle.tape_run.specs.SurveyCopies.{Copied, with_good, with_told, with_copies, copied_in}
use Rattle.tape_run.specs.{declared.passing.Phase.Phase, Noted.is_good, SurveyCopies.digest_in}
use Rattle.tape_run.specs.declared.passing.Phase.TheVariants.{Volume, Data}
use Rattle.tape_run.specs.SurveyDigest.{digest_of, digest_with}
use Rattle.tape_run.specs.{Passing.Told, Onward.step, Onward.phase_after}
use Rattle.tape_run.proofs.SurveyDigest.{digest_all-append}

-- the data blocks of the section that is being read, after these items
abbrev pub blocks_after : List (List ℕ) → Phase → List TapeItem → List (List ℕ)
blocks_after blocks p [] = blocks
blocks_after blocks p (x ∷ xs) = blocks_after (blocks_with blocks p x) (step p x).0 xs

blocks_after-append : (blocks : List (List ℕ)) (p : Phase) (xs : List TapeItem) (x : TapeItem)
    → blocks_after blocks p (xs ++ x ∷ [])
    ≡ blocks_with (blocks_after blocks p xs) (phase_after p xs) x
blocks_after-append blocks p [] x = refl
blocks_after-append blocks p (y ∷ ys) x =
    blocks_after-append (blocks_with blocks p y) (step p y).0 ys x

copies_from-append : (p : Phase) (blocks : List (List ℕ)) (xs : List TapeItem) (x : TapeItem)
    → copies_from p blocks (xs ++ x ∷ []) ≡ copies_from p blocks xs
    ++ good_told (step (phase_after p xs) x).1 (blocks_after blocks p xs)
copies_from-append p blocks [] x = append-nil (good_told (step p x).1 blocks)
copies_from-append p blocks (y ∷ ys) x =
    rw (copies_from-append (step p y).0 (blocks_with blocks p y) ys x, append_assoc)

with_copies-append : (image : ℕ) (c : Copied) (xs ys : List Copy)
    → with_copies image c (xs ++ ys) ≡ with_copies image (with_copies image c xs) ys
with_copies-append image c [] ys = refl
with_copies-append image c (x ∷ xs) ys =
    with_copies-append image (with_good c image x.0.0 x.0.1 (digest_of x.1)) xs ys

-- the record of a section that was completed
told_if : (image : ℕ) (c : Copied) (t : Told) (blocks : List (List ℕ)) (b : Bool)
    → (if b then with_good c image t.0 t.1 (digest_of blocks) else c)
    ≡ with_copies image c (if b then (t, blocks) ∷ [] else [])
told_if image c t blocks true = refl
told_if image c t blocks false = refl

told_is : (image : ℕ) (c : Copied) (told : Option Told) (blocks : List (List ℕ))
    → with_told c image told (digest_of blocks) ≡ with_copies image c (good_told told blocks)
told_is image c None blocks = refl
told_is image c (Some t) blocks = told_if image c t blocks (is_good t.1.state)

-- ---- digests

digest_push : (blocks : List (List ℕ)) (b : List ℕ)
    → digest_with (digest_of blocks) b ≡ digest_of (blocks ++ b ∷ [])
digest_push blocks b = sym (digest_all-append 0 blocks (b ∷ []))

-- the digest is that of the blocks read so far
digest_is : (blocks : List (List ℕ)) (p : Phase) (x : TapeItem)
    → digest_in (digest_of blocks) p x ≡ digest_of (blocks_with blocks p x)
digest_is blocks (Data met) (block b) = digest_push blocks b
digest_is blocks Volume (block b) = refl
digest_is blocks _ (block b) = refl
digest_is blocks _ _ = refl

-- ---- so far

-- The good copies among the items were added, and the digest is that of the blocks of the current
-- section.
pub record CopiedSoFar (items : List TapeItem) (image : ℕ) (old : Copied) (digest : ℕ)
    (new : Copied)
    : Type 0 where
  pub digested : digest ≡ digest_of (blocks_after [] Volume items)
  pub copied : new ≡ copied_in image old items

pub copied_none : (image : ℕ) (c : Copied) → CopiedSoFar [] image c 0 c
copied_none image c = record { digested = refl; copied = refl }

pub copied_more : (items : List TapeItem) (image : ℕ) (old : Copied) (digest : ℕ) (mid : Copied)
    (phase : Phase) (item : TapeItem) (told : Option Told) (next : ℕ) (new : Copied)
    → CopiedSoFar items image old digest mid → phase ≡ phase_after Volume items
    → told ≡ (step phase item).1 → new ≡ with_told mid image told digest
    → next ≡ digest_in digest phase item
    → CopiedSoFar (items ++ item ∷ []) image old next new
copied_more items image old digest mid phase item told next new s stands is put goes =
    let p = phase_after Volume items in
    let blocks = blocks_after [] Volume items in
    record {
      digested = rw (goes, stands, s.digested, blocks_after-append [] Volume items item)
          (digest_is blocks p item);
      copied = rw (
        put,
        is,
        stands,
        s.digested,
        s.copied,
        copies_from-append Volume [] items item,
        with_copies-append,
      ) (told_is image (copied_in image old items) (step p item).1 blocks);
    }
