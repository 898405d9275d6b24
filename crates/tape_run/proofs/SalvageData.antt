-- The data items of a section among the items that were read of an image.
use Rattle.std.proofs.Common.{◌≡◌, ◌<◌, ◌≤◌, ℕ, ◌+◌, ◌&&◌, Bool, true, false, List, [], ◌∷◌, ◌++◌}
use Rattle.std.proofs.Common.{length, Option, Some, None, refl, sym, ap, subst, ◌∙◌, arith}
use Rattle.std.proofs.Common.{append_assoc, append-nil, if◌then◌else◌, nat_lt, min}
use Rattle.std.proofs.{lemmas.Bool.Decides.nat_tests, lemmas.List.nil_from_length}
use Rattle.std.specs.List.{AllByRecursion}
use Rattle.tape_image.specs.Tape.{TapeItem, block, bad, mark}
use Rattle.tape_set.specs.Lawful.{FileForm}
use Rattle.tape_run.specs.SalvageImage.{is_in, is_mark, number_in, read_in, closings, salvaged_from}
use Rattle.tape_run.specs.SalvageEnds.{without_rest, without_gap, with_count, ended, end_from}
use Rattle.tape_run.specs.{declared.salvage.walk.OpenSection.OpenSection, Noted.same_key}
use Rattle.tape_run.specs.{declared.salvage.walk.Closing.Closing, SalvageLine.section_line}
use Rattle.tape_run.specs.{declared.salvage.walk.Expected.Expected, SalvageTaking.image_number}
use Rattle.tape_run.specs.{declared.salvage.copies.SectionCopy.SectionCopy, SalvageImage.text_from}
use Rattle.tape_run.specs.{declared.section.SectionKey.SectionKey, SalvageEnds.end_text}
use Rattle.tape_run.specs.declared.salvage.walk.Expected.TheVariants.{Outside, Data, Trailer}
use Rattle.tape_run.specs.SalvageWalk.{step, expected_after, with_item, with_data, with_unreadable}
use Rattle.tape_run.specs.SalvageCopies.{believed, start_of, wrong_count}
use Rattle.tape_run.specs.SalvageBlocks.{Salvaged, salvaged_at, text_at, gap_text}
use Rattle.tape_run.specs.SalvageGaps.{datum, data_in, salvaged_data, AreReadOf, GapsAreRuns}
use Rattle.tape_run.specs.SalvageClosed.{IsNoMark}
use Rattle.tape_run.proofs.SalvagedSoFar.{expected_after-append, salvaged_from-append}
use Rattle.tape_run.proofs.{SalvageOpened.one_more, SalvageGaps.text_data, SalvageGaps.runs}
use Rattle.tape_run.proofs.SalvagedSoFar.{text_from-append, closings-append, read_at_mark}
use Rattle.tape_run.proofs.SalvageRest.{no_number, none_by, rest_none}
use Rattle.tape_run.proofs.SalvageSections.{is_number, no_mark}
use Rattle.tape_run.proofs.SalvageSetGaps.{data_append}
use Rattle.tape_run.proofs.SalvageFresh.{Fresh, enters, not_read, starts}

-- ---- the items

module _ (key : SectionKey) where
  module _ (most : ℕ) (form : Option FileForm) where
    -- these items have these data items, numbered from `n`
    pub record HasData (s : Expected) (g : Salvaged) (xs : List TapeItem) : Type 0 where
      pub salvaged : salvaged_from key most form s g xs
          ≡ salvaged_data form (read_in key s) g (data_in key most s xs)
      pub text : text_from key most form s g xs
          ≡ text_data key.sect form (read_in key s) g (data_in key most s xs)
      pub count : min (read_in key s) most + length (data_in key most s xs)
          ≡ min (read_in key (expected_after s xs)) most

    -- the same for one data item more at the start
    record OneMore (u v : OpenSection) (x : TapeItem) (g : Salvaged) (xs : List TapeItem) : Type 0
      where
        salvaged : salvaged_from key most form (Data v)
            (salvaged_at form g (number_in key most (Data u)) x) xs
            ≡ salvaged_data form (read_in key (Data u)) g
            (datum (number_in key most (Data u)) x ++ data_in key most (Data v) xs)
        text : text_at key.sect form g (number_in key most (Data u)) x
            ++ text_from key most form (Data v)
            (salvaged_at form g (number_in key most (Data u)) x) xs
            ≡ text_data key.sect form (read_in key (Data u)) g
            (datum (number_in key most (Data u)) x ++ data_in key most (Data v) xs)
        count : min (read_in key (Data u)) most
            + length (datum (number_in key most (Data u)) x ++ data_in key most (Data v) xs)
            ≡ min (read_in key (expected_after (Data v) xs)) most

    read_of : (u : OpenSection) → same_key u.key key ≡ true → read_in key (Data u) ≡ u.blocks
    read_of u same = ap (λ (b : Bool). if b then u.blocks else 0) same

    one_more_by : (b : Bool) (u v : OpenSection) (x : TapeItem) (g : Salvaged) (xs : List TapeItem)
        → nat_lt u.blocks most ≡ b → most ≤ 4294967295 → same_key u.key key ≡ true
        → same_key v.key key ≡ true → v.blocks ≡ min (u.blocks + 1) 4294967295
        → ((n : ℕ) → datum (Some n) x ≡ x ∷ []) → ((h : Salvaged) → HasData (Data v) h xs)
        → OneMore u v x g xs
    one_more_by true u v x g xs lt fits same same' more is ih =
        let less : u.blocks < most = grind (arith, nat_tests) in
        let num = is_number key most u same less in
        let d = data_in key most (Data v) xs in
        let h = salvaged_at form g (Some u.blocks) x in
        let r = read_of u same in
        let w : read_in key (Data v) ≡ u.blocks + 1 =
        read_of v same' ∙ more ∙ one_more u.blocks (omega (arith, less, fits)) in
        let i = ih h in
        let all : datum (number_in key most (Data u)) x ++ d ≡ x ∷ d =
        ap (λ m. datum m x ++ d) num ∙ ap (λ (l : List TapeItem). l ++ d) (is u.blocks) in
        let n = ap length all in
        let c = i.count in
        record {
          salvaged = ap (λ m. salvaged_from key most form (Data v) (salvaged_at form g m x) xs) num
              ∙ i.salvaged ∙ ap (λ k. salvaged_data form k h d) w
              ∙ sym (ap (λ k. salvaged_data form k g (x ∷ d)) r)
              ∙ sym (ap (salvaged_data form (read_in key (Data u)) g) all);
          text = ap (λ m. text_at key.sect form g m x
              ++ text_from key most form (Data v) (salvaged_at form g m x) xs) num
              ∙ ap (λ (t : List ℕ). text_at key.sect form g (Some u.blocks) x ++ t)
              (i.text ∙ ap (λ k. text_data key.sect form k h d) w)
              ∙ sym (ap (λ k. text_data key.sect form k g (x ∷ d)) r)
              ∙ sym (ap (text_data key.sect form (read_in key (Data u)) g) all);
          count = omega (arith, n, r, w, c, less);
        }
    one_more_by false u v x g xs lt fits same same' more is ih =
        let least : most ≤ u.blocks = grind (arith, nat_tests) in
        let num : number_in key most (Data u) ≡ None = rw (same, lt) refl in
        let d = data_in key most (Data v) xs in
        let r = read_of u same in
        let w = read_of v same' in
        let i = ih g in
        let c = i.count in
        let nil : d ≡ [] = nil_from_length d (omega (arith, c, w, more, least, fits)) in
        let all : datum (number_in key most (Data u)) x ++ d ≡ [] =
        ap (λ m. datum m x ++ d) num ∙ nil in
        let n = ap length all in
        let z = ap length nil in
        record {
          salvaged = ap (λ m. salvaged_from key most form (Data v) (salvaged_at form g m x) xs) num
              ∙ i.salvaged ∙ ap (salvaged_data form (read_in key (Data v)) g) nil
              ∙ sym (ap (salvaged_data form (read_in key (Data u)) g) all);
          text = ap (λ m. text_at key.sect form g m x
              ++ text_from key most form (Data v) (salvaged_at form g m x) xs) num
              ∙ i.text ∙ ap (text_data key.sect form (read_in key (Data v)) g) nil
              ∙ sym (ap (text_data key.sect form (read_in key (Data u)) g) all);
          count = omega (arith, n, z, r, w, more, c, least, fits);
        }

    has_data_by : (b : Bool) (s : Expected) (g : Salvaged) (xs : List TapeItem)
        → most ≤ 4294967295 → is_in key s ≡ b → Fresh key s → closings key s xs ≡ 0 → HasData s g xs
    has_data_by b s g [] fits is fresh none =
        record { salvaged = refl; text = refl; count = omega arith }
    has_data_by false s g (x ∷ xs) fits is fresh none =
        let t = (step s x).0 in
        let e = enters key s x fresh is in
        let n = no_number key most s is in
        let d = data_in key most t xs in
        let i = has_data_by (is_in key t) t g xs fits refl e.0
        (rest_none key (is_in key s && is_mark x) (closings key t xs) none) in
        let z : read_in key t ≡ read_in key s = e.1 ∙ sym (not_read key s fresh is) in
        record {
          salvaged = ap (λ m. salvaged_from key most form t (salvaged_at form g m x) xs) n
              ∙ i.salvaged ∙ ap (λ k. salvaged_data form k g d) z
              ∙ ap (λ m. salvaged_data form (read_in key s) g (datum m x ++ d)) (sym n);
          text = ap (λ m. text_at key.sect form g m x
              ++ text_from key most form t (salvaged_at form g m x) xs) n
              ∙ i.text ∙ ap (λ k. text_data key.sect form k g d) z
              ∙ ap (λ m. text_data key.sect form (read_in key s) g (datum m x ++ d)) (sym n);
          count = ap (λ m. min (read_in key s) most + length (datum m x ++ d)) n
              ∙ ap (λ k. min k most + length d) (sym z) ∙ i.count;
        }
    has_data_by true (Data u) g (block b ∷ xs) fits is fresh none =
        let v = with_data b u in
        let more = one_more_by (nat_lt u.blocks most) u v (block b) g xs refl fits is is refl
        (λ n. refl)
        (λ h. has_data_by true (Data v) h xs fits is tt
        (rest_none key (is_in key (Data u) && false) (closings key (Data v) xs) none)) in
        record { salvaged = more.salvaged; text = more.text; count = more.count }
    has_data_by true (Data u) g (bad ∷ xs) fits is fresh none =
        let v = with_item (with_unreadable u) in
        let more = one_more_by (nat_lt u.blocks most) u v bad g xs refl fits is is refl
        (λ n. refl)
        (λ h. has_data_by true (Data v) h xs fits is tt
        (rest_none key (is_in key (Data u) && false) (closings key (Data v) xs) none)) in
        record { salvaged = more.salvaged; text = more.text; count = more.count }
    has_data_by true (Data u) g (mark ∷ xs) fits is fresh none =
        let n = closings key (Trailer u) xs in
        absurd (cc (none_by key true n
        (ap (λ b. (if b && true then 1 else 0) + n) (sym is) ∙ none)))
    has_data_by true (Outside n) g (x ∷ xs) fits is fresh none = absurd (cc is)
    has_data_by _ _ g _ fits is fresh none = absurd (cc is)

    no_datum : (m : Option ℕ) → datum m mark ≡ []
    no_datum None = refl
    no_datum (Some n) = refl

    no_text : (m : Option ℕ) (g : Salvaged) → text_at key.sect form g m mark ≡ []
    no_text None g = refl
    no_text (Some n) g = refl

    -- the same for items that end with the mark after the data
    ended_data : (s : Expected) (g : Salvaged) (front : List TapeItem) → most ≤ 4294967295
        → is_in key (expected_after s front) ≡ true → Fresh key s → closings key s front ≡ 0
        → HasData s g (front ++ mark ∷ [])
    ended_data s g front fits is fresh none =
        let h = has_data_by (is_in key s) s g front fits refl fresh none in
        let t = expected_after s front in
        let m = number_in key most t in
        let z = salvaged_from key most form s g front in
        let d : data_in key most s (front ++ mark ∷ []) ≡ data_in key most s front =
        data_append key most s front (mark ∷ [])
        ∙ ap (λ (l : List TapeItem). data_in key most s front ++ (l ++ [])) (no_datum m)
        ∙ append-nil (data_in key most s front) in
        record {
          salvaged = salvaged_from-append key most form s g front (mark ∷ []) ∙ no_mark form z m
              ∙ h.salvaged ∙ sym (ap (salvaged_data form (read_in key s) g) d);
          text = text_from-append key most form s g front (mark ∷ [])
              ∙ ap (λ (l : List ℕ). text_from key most form s g front ++ (l ++ [])) (no_text m z)
              ∙ append-nil (text_from key most form s g front)
              ∙ h.text ∙ sym (ap (text_data key.sect form (read_in key s) g) d);
          count = ap (λ (l : List TapeItem). min (read_in key s) most + length l) d ∙ h.count
              ∙ ap (λ k. min k most) (read_at_mark key t is
              ∙ ap (read_in key) (sym (expected_after-append s front (mark ∷ []))));
        }

    -- no data item is a mark
    no_marks : (s : Expected) (xs : List TapeItem) → AllByRecursion IsNoMark (data_in key most s xs)
    no_marks s [] = tt
    no_marks s (x ∷ xs) = both (number_in key most s) x (data_in key most (step s x).0 xs)
        (no_marks (step s x).0 xs)
      where
        both : (m : Option ℕ) (x : TapeItem) (ys : List TapeItem) → AllByRecursion IsNoMark ys
            → AllByRecursion IsNoMark (datum m x ++ ys)
        both None x ys all = all
        both (Some n) (block b) ys all = (tt, all)
        both (Some n) bad ys all = (tt, all)
        both (Some n) mark ys all = all

-- the data of a section that was read from its copy
read_data : (c : SectionCopy) (form : Option FileForm) (items : List TapeItem) (is_ended : Bool)
    (g : Salvaged) → believed c ≤ 4294967295 → AreReadOf c items is_ended
    → HasData c.section.key (believed c) form (start_of c) g items
read_data c form items false g fits none =
    let s = start_of c in
    has_data_by c.section.key (believed c) form (is_in c.section.key s) s g items fits refl
    (starts c.section.key c).0 none
read_data c form items true g fits ((front, is, at), once) =
    let s = start_of c in
    let key = c.section.key in
    let first : closings key s items ≡ closings key s front + 1 =
    ap (closings key s) is ∙ closings-append key s front (mark ∷ [])
    ∙ ap (λ b. closings key s front + ((if b && true then 1 else 0) + 0)) at in
    subst (HasData key (believed c) form s g) (sym is)
    (ended_data key (believed c) form s g front fits at (starts key c).0
    (omega (arith, first, once)))

-- ---- the report

no_gap_by : (b : Bool) (x y : Salvaged) → x.gap ≡ None → y.gap ≡ None
    → (if b then x else y).gap ≡ None
no_gap_by true x y e f = e
no_gap_by false x y e f = f

no_gap_ended : (c : SectionCopy) (k : Option Closing) (g : Salvaged) → g.gap ≡ None
    → (ended c k g).gap ≡ None
no_gap_ended c None g e = e
no_gap_ended c (Some k) g e =
    let h = with_count (wrong_count c) g in
    no_gap_by (k.eof && h.piece.begun) (without_rest h) h e e

no_gap_from : (n : ℕ) (c : SectionCopy) (g : Salvaged) → g.gap ≡ None → (end_from n c g).gap ≡ None
no_gap_from n c g e = no_gap_by (nat_lt n (believed c)) _ _ e (no_gap_ended c c.closed _ e)

pub gaps_are_runs : GapsAreRuns
gaps_are_runs sect c form items is_ended g fits read none =
    let key = c.section.key in
    let most = believed c in
    let s = start_of c in
    let h = read_data c form items is_ended g fits read in
    let d = data_in key most s items in
    let z : read_in key s ≡ 0 = (starts key c).1 in
    let n = read_in key (expected_after s items) in
    let count = h.count in
    let all : length d ≡ min n most = omega (arith, count, z) in
    let last : min n most ≡ 0 + length d = omega (arith, all) in
    let r = runs key.sect form 0 g d (min n most) None (no_marks key most form s items) none tt
    last in
    let y = salvaged_data form 0 g d in
    let salvaged : salvaged_from key most form s g items ≡ y =
    h.salvaged ∙ ap (λ k. salvaged_data form k g d) z in
    let text : text_from key most form s g items ≡ text_data key.sect form 0 g d =
    h.text ∙ ap (λ k. text_data key.sect form k g d) z in
    let line = section_line sect (image_number c.image) c.section.blocks in
    let gap = gap_text key.sect y.gap (min n most) y.piece.records in
    let end = end_text n c (without_gap y) in
    record {
      lines = r.lines;
      text = ap (λ (w : Salvaged). line ++ (text_from key most form s g items
          ++ (gap_text key.sect w.gap (min n most) w.piece.records
          ++ end_text n c (without_gap w)))) salvaged
          ∙ ap (λ (t : List ℕ). line ++ (t ++ (gap ++ end))) text
          ∙ ap (λ (t : List ℕ). line ++ t)
          (sym (append_assoc (text_data key.sect form 0 g d) gap end)
          ∙ ap (λ (t : List ℕ). t ++ end) r.says);
      gaps = r.gaps;
      all = all;
      none_left = no_gap_from n c (without_gap (salvaged_from key most form s g items)) refl;
    }
