-- The next block of the records does not fit, and no volume is left.
use Rattle.tape_writer.proofs.Words.{◌≡◌, ◌<◌, ◌≤◌, ℕ, ◌+◌, List, [], ◌∷◌, ◌++◌, length, false}
use Rattle.tape_writer.proofs.Words.{None, refl, sym, ap, ◌∙◌, arith, drop}
use Rattle.tape_writer.proofs.Words.{append-nil, Vol1, Shape, Portion, Filled, Packing, Given}
use Rattle.tape_writer.proofs.Words.{IsJudged, Offers, offers_shape, Section, lt-leb}
use Rattle.tape_blocks.specs.{Spans.Joined, Spans.span_of, Spans.join, Tight.parts_of_all}
use Rattle.tape_blocks.specs.{declared.offer.Offer.TheVariants.BlockReady, Run.Run, Run.Going}
use Rattle.tape_blocks.proofs.RunLaws.{filled_of, going_block, run_last}
use Rattle.tape_blocks.proofs.{JoinLaws.join_ends, JoinLaws.leaves_of, LongerRuns.order_part}
use Rattle.tape_blocks.proofs.TightLaws.{chain_of}
use Rattle.tape_writer.specs.{declared.course.Opened.Opened, declared.course.Course.Course}
use Rattle.tape_writer.specs.Inside.{IsInside, IsPacking, IsFlat, IsStuck, IsLeftOut, Continues}
use Rattle.tape_writer.specs.{Tapes.Tapes, Draft.open_blocks}
use Rattle.tape_blocks.specs.Tight as packing

-- ---- the next block

abbrev the_joined : List (List ℕ) → Joined
the_joined records = record { records = records; rest = None }

-- the closed block, followed by the rest of its record
pub continues_put : (taken : List Filled) (p q : Packing) (records : List (List ℕ))
    (whole rest text : List ℕ) (n : ℕ) → Going taken p records whole rest → IsJudged p rest
    → Offers p rest (BlockReady n) q → Given q text
    → Continues q.shape (records ++ whole ∷ []) taken (filled_of q text ∷ [])
continues_put taken p q records whole rest text n going judged offers given =
    let next = going_block taken p q records whole rest text n going judged offers given in
    let all = taken ++ filled_of q text ∷ [] in
    let last : Portion = record { span = span_of q.begun false; bytes = drop n rest } in
    record {
      each = next.run.each;
      behind = last ∷ [];
      joins = join_ends (parts_of_all all) last records next.front
          (ap join (sym (append-nil (parts_of_all all))) ∙ next.run.joins) (leaves_of q.begun false)
          ∙ ap (λ (c : List ℕ). the_joined (records ++ c ∷ [])) next.content;
      order = order_part q.begun false (parts_of_all all) (drop n rest)
          (rw (append-nil (parts_of_all all)) at next.run.order);
      chain = chain_of q.shape all (length (drop n rest)) next.run.closed;
      full = λ some. next.run.closed;
      most = omega arith;
      ends = λ e. absurd cc;
    }

-- the last block of the records
pub continues_last : (taken : List Filled) (p : Packing) (records : List (List ℕ)) (text : List ℕ)
    → Run taken p records None 0 → Given p text → p.begun ≡ false
    → Continues p.shape records taken (filled_of p text ∷ [])
continues_last taken p records text run given ended =
    let tight = run_last taken p records text 0 run given ended in
    let all = taken ++ filled_of p text ∷ [] in
    record {
      each = tight.each;
      behind = [];
      joins = ap join (append-nil (parts_of_all all)) ∙ tight.joins;
      order = rw (append-nil (parts_of_all all)) tight.order;
      chain = tight.closed;
      full = λ some. absurd (some refl);
      most = omega arith;
      ends = λ e. refl;
    }

-- no block, if all records are in blocks
pub continues_end : (shape : Shape) (taken : List Filled) (records : List (List ℕ))
    → packing.IsTight shape records taken → Continues shape records taken []
continues_end shape taken records tight =
    let none = append-nil (parts_of_all (taken ++ [])) in
    record {
      each = rw (append-nil taken) tight.each;
      behind = [];
      joins = rw (none, append-nil taken) tight.joins;
      order = rw (none, append-nil taken) tight.order;
      chain = rw (append-nil taken) tight.closed;
      full = λ some. absurd (some refl);
      most = omega arith;
      ends = λ e. refl;
    }

-- ---- the calls

module _ {H : Tapes → Type 0} {vs : List Vol1} {cap : ℕ} {set_id : List ℕ} {file : Opened}
    {course : Course} {fs : List (List Section)} {records : List (List ℕ)} where
  -- a record that is being written
  pub stuck_put : (p q : Packing) (whole rest : List ℕ) (n : ℕ)
      → IsJudged p rest → Offers p rest (BlockReady n) q
      → IsPacking H vs cap set_id file course p fs records whole rest
      → IsLeftOut (length vs) cap course q
      → IsStuck H vs cap set_id file course fs (records ++ whole ∷ [])
  stuck_put p q whole rest n judged offers k l = record {
    draft = k.draft;
    is_open = k.is_open;
    files = k.files;
    none_left = l.none_left;
    next = filled_of q l.text ∷ [];
    of_records = rw (offers_shape p q rest (BlockReady n) offers ∙ k.shape) at
        (continues_put (open_blocks k.draft) p q records whole rest l.text n k.going judged offers
        l.given);
    due = l.due;
  }

  -- the file's last block
  pub stuck_last : (p : Packing) → IsInside H vs cap set_id file course p fs records
      → IsLeftOut (length vs) cap course p → IsStuck H vs cap set_id file course fs records
  stuck_last p k l = record {
    draft = k.draft;
    is_open = k.is_open;
    files = k.files;
    none_left = l.none_left;
    next = filled_of p l.text ∷ [];
    of_records = rw k.shape at
        (continues_last (open_blocks k.draft) p records l.text (k.run 0) l.given k.ended);
    due = l.due;
  }

  -- the file's end
  pub stuck_end : IsFlat H vs cap set_id file course fs records → length vs ≤ course.volume
      → cap < course.used + 184 + 372 → IsStuck H vs cap set_id file course fs records
  stuck_end k none due = record {
    draft = k.draft;
    is_open = k.is_open;
    files = k.files;
    none_left = none;
    next = [];
    of_records = continues_end file.shape (open_blocks k.draft) records k.tight;
    due = lt-leb _ _ due;
  }
