-- Wrong answers that the contracts of merging exclude.
use Rattle.std.proofs.Common.{◌≡◌, ◌≢◌, ◌⊎◌, inl, inr, ℕ, suc, ◌+◌, ◌<◌, List, [], ◌∷◌, ◌++◌}
use Rattle.std.proofs.Common.{length, Some, None, refl, sym, ap, subst, ◌∙◌, get_or, arith, false}
use Rattle.std.specs.{Prelude.codes, List.flat_map}
use Rattle.tape_image.proofs.{WrittenItems.known_after, Pieces.front_more}
use Rattle.tape_image.specs.{Tape.TapeItem, Tape.block, Tape.bad, Tape.mark, Begins.image_limit}
use Rattle.tape_image.specs.Written.{written, AppendsFront}
use Rattle.tape_run.specs.{declared.merge.line.MergedEnd.MergedEnd, MergedImages.TakeImages}
use Rattle.tape_run.specs.{declared.merge.line.MergedEnd.TheVariants.Marked, MergeCalls.alone_in}
use Rattle.tape_run.specs.declared.merge.now.MergeEnd.TheVariants.{Whole}
use Rattle.tape_run.specs.declared.merge.reading.Reading.{Reading}
use Rattle.tape_run.specs.Merging.{IsReadAs, IsReadFrom, IsMerged, Differ}
use Rattle.tape_run.specs.declared.merge.reading.Verdict.TheVariants.{Third}
use Rattle.tape_run.specs.MergeSteps.{AllStopped, IsFirst, Judges, AreJudgedAt}
use Rattle.tape_run.specs.MergeNow.{FitsEnd, EndsAs, end_bytes, IsTooLong, ReportsNoImage}
use Rattle.tape_run.specs.MergeLines.{lines_from, reading_line, has_line, differ_line}
use Rattle.tape_run.specs.MergeLog.{is_logged, log_row, seen_cell}

-- two different readable items at the same place
two_items : (x y t : TapeItem) → x ≢ bad → y ≢ bad → x ≢ y → IsReadAs x t → IsReadAs y t → ⊥
two_items x y t good other apart (inl e) q = good e
two_items x y t good other apart (inr e) (inl f) = other f
two_items x y t good other apart (inr e) (inr f) = apart (e ∙ sym f)

-- merge_first_reading_wins: one reading has a block and another a mark, but an image is written
merge_first_reading_wins : (content : List ℕ) (merged : List TapeItem)
    → IsMerged ((block content ∷ []) ∷ (mark ∷ []) ∷ []) merged → ⊥
merge_first_reading_wins content [] is = is.all.0
merge_first_reading_wins content (t ∷ ts) is =
    two_items (block content) mark t (λ e. cc e) (λ e. cc e) (λ e. cc e) is.all.0.0 is.all.1.0.0

-- merge_difference_is_an_end: two readings differ, but an image is written up to the difference
merge_difference_is_an_end : (content : List ℕ)
    → IsMerged ((mark ∷ block content ∷ []) ∷ (mark ∷ mark ∷ []) ∷ []) (mark ∷ []) → ⊥
merge_difference_is_an_end content is = is.all.0.1

-- merge_bad_item_kept: an item is bad although another reading could read it
merge_bad_item_kept : (x : TapeItem) → x ≢ bad
    → IsMerged ((bad ∷ []) ∷ (x ∷ []) ∷ []) (bad ∷ []) → ⊥
merge_bad_item_kept x good is = two_bad is.all.1.0.0
  where
    two_bad : (x ≡ bad) ⊎ (x ≡ bad) → ⊥
    two_bad (inl e) = good e
    two_bad (inr e) = good e

-- merge_ends_at_a_bad_item: an item that is bad in all readings is left out
merge_ends_at_a_bad_item : IsMerged ((bad ∷ mark ∷ []) ∷ []) [] → ⊥
merge_ends_at_a_bad_item is = is.all.0

-- merge_fault_is_an_end: the image ends where the shortest reading does
merge_fault_is_an_end : (x : TapeItem) → IsMerged ([] ∷ (x ∷ []) ∷ []) [] → ⊥
merge_fault_is_an_end x is = is.all.1.0

-- merge_bad_differs_from_a_mark: a bad item and a mark are reported as a difference
merge_bad_differs_from_a_mark : Differ ((bad ∷ []) ∷ (mark ∷ []) ∷ []) → ⊥
merge_bad_differs_from_a_mark differ = differ (mark ∷ []) ((inl refl, tt), ((inr refl, tt), tt))

-- merge_whole_with_a_bad_item
merge_whole_with_a_bad_item : (n miscounted : ℕ) (end : MergedEnd)
    → FitsEnd (suc n) miscounted end Whole → ⊥
merge_whole_with_a_bad_item n miscounted end fits = absurd (omega (arith, fits.0))

-- merge_too_long_at_once: no image has an item, but the merged image is reported as too long
merge_too_long_at_once : (R : Type 0) (size : ℕ) → IsTooLong R [] size → ⊥
merge_too_long_at_once R size long = go long.nows long.readings long.have long.merged long.comes
    long.size_is long.long
  where
    none : (x : TapeItem) (items : List TapeItem) → IsReadFrom (items ++ x ∷ []) [] → ⊥
    none x [] reads = reads
    none x (y ∷ items) reads = reads

    empty : (items : List TapeItem) → IsReadFrom items [] → items ≡ []
    empty [] reads = refl
    empty (y ∷ items) reads = absurd reads

    go : (nows : List (Reading R)) (readings : List (List TapeItem))
        → TakeImages [] nows readings → (merged : List TapeItem)
        → ((x : TapeItem) × IsMerged readings (merged ++ x ∷ []) × (long.next ≡ written x))
        ⊎ (AllStopped nows × IsMerged readings merged × EndsAs (length merged) nows Marked
        × (long.next ≡ end_bytes Marked))
        → size ≡ length (flat_map written merged) → image_limit < size + length long.next → ⊥
    go [] [] have merged (inl (x, is, at)) e over = none x merged (is.least [] tt)
    go [] [] have merged (inr (off, is, how, at)) e over =
        absurd (omega (
          arith,
          e,
          over,
          ap length at,
          ap (λ (l : List TapeItem). length (flat_map written l)) (empty merged (is.least [] tt)),
        ))
    go [] (r ∷ rs) have merged comes e over = absurd have
    go (n ∷ ns) rs have merged comes e over = absurd have

-- merge_reported_without_a_file: the merged image has no name, but its line was reported
merge_reported_without_a_file : (R : Type 0) (if_known : (List (List ℕ) → Type 0) → Type 0)
    (names : List (List ℕ)) (count : ℕ) (rest : List ℕ)
    → ReportsNoImage R if_known names count (Some []) (Some (codes "MERGED" ++ rest)) → ⊥
merge_reported_without_a_file R if_known names count rest (nows, all, said) = either _ _ said
  where
    go : (nows : List (Reading R)) (n : ℕ) (front more : List ℕ)
        → front ≡ codes "MERGED" ++ rest → lines_from (reading_line names) 0 nows
        ++ (differ_line n ++ lines_from (has_line names) 0 nows) ≡ front ++ more → ⊥
    go [] n front more starts is = absurd (let e : 68 ≡ 77 =
        ap (λ t. get_or t 0 0) (is ∙ ap (λ t. t ++ more) starts) in omega arith)
    go (r ∷ rs) n front more starts is = absurd (let e : 73 ≡ 77 =
        ap (λ t. get_or t 0 0) (is ∙ ap (λ t. t ++ more) starts) in omega arith)

    says : (n : ℕ) → AppendsFront (Some []) (Some (codes "MERGED" ++ rest))
        (lines_from (reading_line names) 0 nows
        ++ (differ_line n ++ lines_from (has_line names) 0 nows)) → ⊥
    says n (front, more, wrote, is) = go nows n front more
        (cc (known_after (Some []) (Some (codes "MERGED" ++ rest)) [] front refl wrote)) is

    either : (taken : Type 0) (differ : ℕ → Type 0)
        → (AppendsFront (Some []) (Some (codes "MERGED" ++ rest))
        (lines_from (reading_line names) 0 nows) × taken) ⊎ ((n : ℕ)
        × AppendsFront (Some []) (Some (codes "MERGED" ++ rest))
        (lines_from (reading_line names) 0 nows
        ++ (differ_line n ++ lines_from (has_line names) 0 nows)) × differ n) → ⊥
    either taken differ (inl (part, of)) =
        says 0 (front_more (Some []) (Some (codes "MERGED" ++ rest))
        (lines_from (reading_line names) 0 nows)
        (differ_line 0 ++ lines_from (has_line names) 0 nows) part)
    either taken differ (inr (n, part, of)) = says n part

-- merge_third_letter_for_the_second: the first item that differs from the best one is called a
-- third one
merge_third_letter_for_the_second : {R : Type 0} (a b : Reading R) (content : List ℕ)
    → b.verdict ≡ Third
    → AreJudgedAt 0 (a ∷ b ∷ []) ((mark ∷ []) ∷ (block content ∷ []) ∷ []) → ⊥
merge_third_letter_for_the_second {R} a b content third h = by_best h.first
  where
    ends : (before : List TapeItem) (x : TapeItem) → block content ∷ [] ≡ before ++ x ∷ []
        → block content ≡ x
    ends [] x is = cc is
    ends (y ∷ []) x is = absurd (cc is)
    ends (y ∷ z ∷ before) x is = absurd (cc is)

    by_other : h.best ≡ Some mark
        → IsFirst (λ x. (x ≢ bad) × (h.best ≢ Some x)) (Some mark ∷ Some (block content) ∷ [])
        h.other → h.other ≡ Some (block content)
    by_other best (inl ((nb, off), is)) = absurd (off best)
    by_other best (inr (off, inl (good, is))) = is
    by_other best (inr (off, inr (not, is))) =
        absurd (not (λ e. cc e, λ e. cc (sym best ∙ e)))

    by_best : IsFirst (λ x. x ≢ bad) (Some mark ∷ Some (block content) ∷ []) h.best → ⊥
    by_best (inl (nb, best)) =
        let (on, x, (before, is), good, off, other) =
        subst (λ v. Judges v b.image.status (block content ∷ []) h.best h.other) third
        h.judged.1.0 in
        other (by_other best h.second ∙ ap Some (ends before x is))
    by_best (inr (off, rest)) = off (λ e. cc e)

-- merge_two_witnesses_counted_as_one: both readings have a mark, but it is counted as that of one
merge_two_witnesses_counted_as_one : alone_in 1 ((mark ∷ []) ∷ (mark ∷ []) ∷ []) ≡ 1 → ⊥
merge_two_witnesses_counted_as_one is = absurd (omega (arith, is))

-- merge_row_left_out: only one of two readings has a mark, but the log has no row for it
merge_row_left_out : is_logged (Some mark ∷ None ∷ []) ≡ false → ⊥
merge_row_left_out is = absurd (cc is)

-- merge_confirmed_item_logged: both readings have a mark, but the log has a row for it
merge_confirmed_item_logged : (n x : ℕ) (row : List ℕ)
    → log_row n mark (Some mark ∷ Some mark ∷ []) ≡ x ∷ row → ⊥
merge_confirmed_item_logged n x row is = absurd (cc is)

-- merge_bad_cell_called_good
merge_bad_cell_called_good : seen_cell (Some bad) ≡ seen_cell (Some mark) → ⊥
merge_bad_cell_called_good is =
    absurd (let e : 66 ≡ 71 = ap (λ t. get_or t 1 0) is in omega arith)
