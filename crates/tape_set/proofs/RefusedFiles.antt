-- For each clause of a valid file, a file that violates only this clause.
use Rattle.std.specs.{List.AllByRecursion, Prelude.replicate}
use Rattle.std.proofs.Common.{refl, ◌≡◌, [], ◌∷◌, length, true, false, sym, ap, ◌∙◌, subst, arith}
use Rattle.std.proofs.Common.{lit≤}
use Rattle.tape_label.specs.{declared.values.Format.TheVariants.Fixed, Head2.Head2Fits}
use Rattle.tape_blocks.specs.{declared.parts.Shape.Shape, Block.Holds, Spans.InOrder, Tight.Filled}
use Rattle.tape_set.specs.Lawful.{IsFile, HasForm, TellsForm, FileForm, Ends}
use Rattle.tape_set.specs.{Layout.FileSet, Before.section_parts, Tight.second_of}
use Rattle.tape_set.proofs.RefusedSets.{OnlyFiles, fit_of, empty_form, OnlyGoesOn, empty_section}
use Rattle.tape_set.proofs.Worked.{makes, made, form, made_form, plain_set, shape_of, alike_file}
use Rattle.tape_set.proofs.{RefusedLawful.base, RefusedLawful.set_of, RefusedSets.empty_file}
use Rattle.tape_set.proofs.{Forms.one_form, WorkedFile.shape, WorkedFile.shape_fits}
use Rattle.tape_set.proofs.WorkedSpan as span

-- the only section of the file ends with EOV1
abbrev unended : FileSet
unended = set_of (made shape 1 1 1 false [])

no_end : OnlyFiles unended × HasForm (form shape) (made shape 1 1 1 false [])
no_end = search (makes, no, shape_fits) depth 9
  where
    no : AllByRecursion IsFile unended.files → ⊥
    no h = let e : false ≡ true = h.0.ends in absurd (cc)

-- the second section of the file has another offset
abbrev other_shape : Shape
other_shape = shape_of Fixed 800 80 2 (λ _. lit≤ tt)

other_fits : Head2Fits (second_of other_shape)
other_fits = record {
  standard = refl;
  block_len = lit≤ tt;
  rec_len = (lit≤ tt, lit≤ tt);
  offset = lit≤ tt;
}

abbrev two_forms : FileSet
two_forms = plain_set 2 ((made shape 1 1 1 false [] ∷ made other_shape 2 1 2 true [] ∷ []) ∷ [])

not_alike : OnlyFiles two_forms
    × Ends (made shape 1 1 1 false [] ∷ made other_shape 2 1 2 true [] ∷ [])
not_alike = search (makes, no, shape_fits, other_fits) depth 9
  where
    no : AllByRecursion IsFile two_forms.files → ⊥
    no h =
        let told : FileForm = h.0.alike.0 in
        let a : told ≡ form shape =
        one_form (made shape 1 1 1 false []) told (form shape) h.0.alike.1.0.labels
        (empty_form 1 1 1 false (lit≤ tt) (lit≤ tt) (lit≤ tt) (lit≤ tt)).labels in
        let b : told ≡ form other_shape = one_form (made other_shape 2 1 2 true []) told
        (form other_shape) h.0.alike.1.1.0.labels (made_form other_shape 2 1 2 true [] other_fits
        (fit_of 1 2 0 (lit≤ tt) (lit≤ tt) (lit≤ tt) (lit≤ tt) (lit≤ tt)) tt).labels in
        let e : 0 ≡ 2 = ap (λ v. v.offset) (sym a ∙ b) in
        absurd (omega (arith, e))

-- a block does not contain its parts
abbrev letters : Filled
letters = record { bytes = replicate 80 65; parts = [] }

abbrev unheld : FileSet
unheld = set_of (made shape 1 1 1 true (letters ∷ []))

not_held : OnlyFiles unheld × TellsForm (form shape) (made shape 1 1 1 true (letters ∷ []))
    × Ends (made shape 1 1 1 true (letters ∷ []) ∷ [])
    × InOrder false (section_parts (made shape 1 1 1 true (letters ∷ []) ∷ [])) false
not_held = search (makes, no, labels, shape_fits) depth 9
  where
    labels : TellsForm (form shape) (made shape 1 1 1 true (letters ∷ []))
    labels = record {
      head = told.head;
      second = told.second;
      hdr1 = told.hdr1;
      hdr2 = told.hdr2;
      told = told.told;
    }
      where
        told : TellsForm (form shape) base
        told = (empty_form 1 1 1 true (lit≤ tt) (lit≤ tt) (lit≤ tt) (lit≤ tt)).labels

    no : AllByRecursion IsFile unheld.files → ⊥
    no h =
        let told : FileForm = h.0.alike.0 in
        let a : told ≡ form shape = one_form (made shape 1 1 1 true (letters ∷ [])) told
        (form shape) h.0.alike.1.0.labels labels in
        let held : Holds Fixed 80 0 (replicate 80 65) [] = (subst
        (λ f. Holds f.format f.rec_len f.offset (replicate 80 65) []) a h.0.alike.1.0.held.0) in
        let e : 80 ≡ length held.0 = ap length held.1.body in
        absurd (omega (arith, held.2.1))

-- a record is unfinished at the end of the file
abbrev unfinished : FileSet
unfinished = set_of (made span.shape 1 1 1 true (span.first_block ∷ []))

begun_at_end : OnlyFiles unfinished
    × HasForm (form span.shape) (made span.shape 1 1 1 true (span.first_block ∷ []))
begun_at_end = (
  search (makes, no, span.shape_fits) depth 9,
  made_form span.shape 1 1 1 true (span.first_block ∷ []) span.shape_fits (search makes)
      (span.first_written.holds, tt),
)
  where
    no : AllByRecursion IsFile unfinished.files → ⊥
    no h = let e : true ≡ false = h.0.order.1 in absurd (cc)

-- Small sets that are not valid because of the end of a file, the start of its parts, or the order
-- of its sections.

-- ---- the end of a file

-- a file has no section
no_sections : OnlyFiles (plain_set 1 ([] ∷ []))
no_sections = search (makes) depth 9

-- both sections end with EOF1
abbrev ended_twice : FileSet
ended_twice = plain_set 2 ((made shape 1 1 1 true [] ∷ made shape 2 1 2 true [] ∷ []) ∷ [])

ends_in_first : OnlyFiles ended_twice
ends_in_first = search (makes, no, shape_fits) depth 9
  where
    no : AllByRecursion IsFile ended_twice.files → ⊥
    no h = let e : true ≡ false = h.0.ends.0 in absurd (cc)

-- both sections end with EOV1
abbrev never_ended : FileSet
never_ended = plain_set 2 ((made shape 1 1 1 false [] ∷ made shape 2 1 2 false [] ∷ []) ∷ [])

ends_in_none : OnlyFiles never_ended
ends_in_none = search (makes, no, shape_fits) depth 9
  where
    no : AllByRecursion IsFile never_ended.files → ⊥
    no h = let e : false ≡ true = h.0.ends.1 in absurd (cc)

-- ---- the start of its parts

-- the file begins inside a record
abbrev headless : FileSet
headless = set_of (made span.shape 1 1 1 true (span.last_block ∷ []))

begun_before : OnlyFiles headless
    × HasForm (form span.shape) (made span.shape 1 1 1 true (span.last_block ∷ []))
begun_before = (
  search (makes, no, span.shape_fits) depth 9,
  made_form span.shape 1 1 1 true (span.last_block ∷ []) span.shape_fits (search makes)
      (span.last_written.holds, tt),
)
  where
    no : AllByRecursion IsFile headless.files → ⊥
    no h = let e : true ≡ false = h.0.order.0 in absurd (cc)

-- ---- the order of sections

-- the second section of a file is on volume 3, although the first is on volume 1
abbrev volume_skipped : FileSet
volume_skipped = plain_set 3 ((made shape 1 1 1 false [] ∷ made shape 3 1 2 true [] ∷ []) ∷ [])

section_skips : OnlyGoesOn volume_skipped
section_skips = search (makes, alike_file shape, empty_section, empty_form) depth 9

-- a file is on two volumes, and the next file begins on the first of them
abbrev volume_again : FileSet
volume_again = plain_set 2 ((made shape 1 1 1 false [] ∷ made shape 2 1 2 true [] ∷ [])
    ∷ (made shape 1 2 1 true [] ∷ []) ∷ [])

file_goes_back : OnlyGoesOn volume_again
file_goes_back = search (makes, alike_file shape, empty_section, empty_form, empty_file) depth 9
