-- The bytes of a record, in one block after another.
use Rattle.tape_writer.proofs.Words.{◌≡◌, ◌≢◌, ℕ, List, [], ◌∷◌, ◌++◌, length, false, None, refl}
use Rattle.tape_writer.proofs.Words.{sym, ap, ◌∙◌, inl, inr, drop, ◌⊎◌, Vol1, Shape, Portion}
use Rattle.tape_writer.proofs.Words.{Packing, IsJudged, HasRecordLength, Offers, emptied}
use Rattle.tape_writer.proofs.{Words.offers_shape, Words.Section, Volumes.all_push}
use Rattle.tape_blocks.specs.declared.offer.Offer.TheVariants.{Taken, BlockReady}
use Rattle.tape_blocks.proofs.RunLaws.{going_length, going_ends, going_block, run_last, run_none}
use Rattle.tape_writer.specs.{declared.course.Opened.Opened, declared.course.Course.Course}
use Rattle.tape_writer.specs.{declared.tape.Tape.Tape, Tapes.Tapes}
use Rattle.tape_writer.specs.Draft.{Draft, IsOpen, open_blocks}
use Rattle.tape_writer.specs.Inside.{IsInside, IsPacking, Flushed, IsFlat}

-- ---- the records of a file

module _ {H : Tapes → Type 0} {vs : List Vol1} {cap : ℕ} {set_id : List ℕ} {file : Opened}
    {course : Course} {fs : List (List Section)} {records : List (List ℕ)} where
  pub packing_first : (p : Packing) (whole : List ℕ)
      → IsInside H vs cap set_id file course p fs records
      → IsPacking H vs cap set_id file course p fs records whole whole
  packing_first p whole k = record {
    draft = k.draft;
    is_open = k.is_open;
    files = k.files;
    shape = k.shape;
    going = record {
      front = None;
      run = k.run (length whole);
      content = refl;
      length_is = λ e. absurd (let ended = k.ended in cc);
    };
    lengths = k.lengths;
  }

  -- the closed block was written
  pub packing_with : {K : Tapes → Type 0} {next : Course} {left : Packing} (old new : Packing)
      (whole rest : List ℕ) (n : ℕ) → IsJudged old rest → Offers old rest (BlockReady n) new
      → left ≡ emptied new → (k : IsPacking H vs cap set_id file course old fs records whole rest)
      → Flushed K vs cap set_id file next k.draft new
      → IsPacking K vs cap set_id file next left fs records whole (drop n rest)
  packing_with old new whole rest n judged offers is k flushed =
      let going = going_block (open_blocks k.draft) old new records whole rest flushed.text n
      k.going judged offers flushed.given in
      rw is (record {
        draft = flushed.draft;
        is_open = flushed.is_open;
        files = flushed.files ∙ k.files;
        shape = offers_shape old new rest (BlockReady n) offers ∙ k.shape;
        going = rw flushed.blocks going;
        lengths = k.lengths;
      })

  pub packing_last : (old new : Packing) (whole rest : List ℕ) → IsJudged old rest
      → Offers old rest Taken new → IsPacking H vs cap set_id file course old fs records whole rest
      → IsInside H vs cap set_id file course new fs (records ++ whole ∷ [])
  packing_last old new whole rest judged offers k =
      let fits = going_length (open_blocks k.draft) old records whole rest k.going judged in
      record {
        draft = k.draft;
        is_open = k.is_open;
        files = k.files;
        shape = offers_shape old new rest Taken offers ∙ k.shape;
        ended = ap (λ (z : Packing). z.begun) offers.part;
        run = λ n. going_ends (open_blocks k.draft) old new records whole rest n k.going offers;
        lengths = all_push (λ r. HasRecordLength file.shape.format file.shape.rec_len (length r))
            records whole k.lengths (rw k.shape at fits);
      }

  -- ---- the last block of a file

  pub flat_none : (p : Packing) → p.parts ≡ []
      → IsInside H vs cap set_id file course p fs records
      → IsFlat H vs cap set_id file course fs records
  flat_none p e k = record {
    draft = k.draft;
    is_open = k.is_open;
    files = k.files;
    tight = rw k.shape at (run_none (open_blocks k.draft) p records 0 (k.run 0) e k.ended);
    lengths = k.lengths;
  }

  pub flat_with : {K : Tapes → Type 0} {next : Course} (p : Packing)
      (k : IsInside H vs cap set_id file course p fs records)
      → Flushed K vs cap set_id file next k.draft p → IsFlat K vs cap set_id file next fs records
  flat_with p k q =
      let tight = run_last (open_blocks k.draft) p records q.text 0 (k.run 0) q.given k.ended in
      record {
        draft = q.draft;
        is_open = q.is_open;
        files = q.files ∙ k.files;
        tight = rw q.blocks (rw k.shape at tight);
        lengths = k.lengths;
      }

-- ---- records of valid length

-- the rest of a record of valid length is also valid
pub judged_next : (old new left : Packing) (rest : List ℕ) (n : ℕ) → old.closed ≡ false
    → IsJudged old rest → Offers old rest (BlockReady n) new → left ≡ emptied new
    → IsJudged left (drop n rest)
judged_next old new left rest n opened judged offers is =
    rw is (elim (offers.1) [
      | inl same ↦ absurd (let closed = same.closed in cc)
      | inr o ↦ elim o [
        | inl closes ↦ λ c b.
            let fits = judged opened (ap (λ (z : Packing). z.begun) (sym closes.same) ∙ b) in
            rw (ap (λ (z : Packing). z.shape) closes.same, closes.none) fits
        | inr fills ↦ λ c b. absurd (let begun = ap (λ (z : Packing). z.begun) fills.part in cc)
      ]
    ])

-- ---- a block written

-- all records are in blocks after the packer's block, if it had one, was written
pub flat_flushed : {T : Type 0} {R : Type 0} (G : T → Tapes → Type 0) (vs : List Vol1) (cap : ℕ)
    (set_id : List ℕ) (file : Opened) (old new : Tape T) (p : Packing) (fs : List (List Section))
    (records : List (List ℕ)) → (p.parts ≡ [] → R × (new ≡ old))
    → (p.parts ≢ [] → (set_id : List ℕ) (d : Draft) → IsOpen (G old.out) vs cap set_id file
    old.course d → Flushed (G new.out) vs cap set_id file new.course d p)
    → IsInside (G old.out) vs cap set_id file old.course p fs records
    → IsFlat (G new.out) vs cap set_id file new.course fs records
flat_flushed G vs cap set_id file old new p fs records none some k = go p.parts refl
  where
    go : (ps : List Portion) → p.parts ≡ ps
        → IsFlat (G new.out) vs cap set_id file new.course fs records
    go [] is = flat_none p is (rw (none is).1 k)
    go (q ∷ ps) is = flat_with p k (some (λ e. absurd (cc)) set_id k.draft k.is_open)

-- a record whose first offer was valid has a valid length
pub judged_more : (shape : Shape) (first p : Packing) (whole rest : List ℕ) → first.shape ≡ shape
    → first.closed ≡ false → first.begun ≡ false → (Same : Type 0)
    → (Same × (p ≡ first) × (rest ≡ whole))
    ⊎ (HasRecordLength shape.format shape.rec_len (length whole) × IsJudged p rest)
    → IsJudged p rest → HasRecordLength shape.format shape.rec_len (length whole)
judged_more shape first p whole rest is opened ended Same (inr a) judged = a.0
judged_more shape first p whole rest is opened ended Same (inl a) judged =
    let fits = judged (ap (λ (z : Packing). z.closed) a.1
    ∙ opened) (ap (λ (z : Packing). z.begun) a.1 ∙ ended) in
    rw (a.2, ap (λ (z : Packing). z.shape) a.1 ∙ is) at fits
