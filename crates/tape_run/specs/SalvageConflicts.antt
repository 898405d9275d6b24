-- Copies of one section that contradict each other.
use Rattle.std.specs.Prelude.{◌≡◌, ℕ, zero, suc, ◌+◌, ◌==◌, ◌&&◌, ◌||◌, not, Bool, false}
use Rattle.std.specs.Prelude.{if◌then◌else◌, List, [], ◌∷◌, ◌++◌, Option, Some, None}
use Rattle.std.specs.Prelude.{is_some, is_none}
use Rattle.tape_blocks.specs.Faults.{bool_eq}
use Rattle.tape_run.specs.declared.salvage.copies.SectionCopy.{SectionCopy}
use Rattle.tape_run.specs.declared.salvage.walk.Closing.{Closing}
use Rattle.tape_run.specs.{SalvageCopies.wrong_count, SalvageChoice.firsts, SalvageChoice.IsBest}
use Rattle.tape_run.specs.{SalvageLine.conflict_line, SalvageTaking.image_number}
use Rattle.tape_run.specs.SalvageChoice.{form_of_file}
use Rattle.tape_run.specs.SalvageLabels.{are_other_labels, are_other_forms, has_other, labels_text}
use Rattle.tape_run.specs.SalvageLabels.{IsFirst, form_read}
use Rattle.tape_set.specs.Lawful.{FileForm}

-- it closes, and its trailer label counts its blocks
abbrev pub is_counted : SectionCopy → Bool
is_counted c = is_some c.closed && is_none (wrong_count c)

-- its digest is that of all its blocks: each could be read, and so could its HDR1
abbrev pub is_digested : SectionCopy → Bool
is_digested c = (c.section.unreadable == 0) && is_none c.skip

-- they have equally many blocks and, if the digests of both are those of all, the same ones
abbrev pub have_same_blocks : SectionCopy → SectionCopy → Bool
have_same_blocks best c = (c.section.blocks == best.section.blocks)
    && (not (is_digested best && is_digested c)
    || (c.section.digest == best.section.digest))

-- both closed, and the file ends with both of them or with none
abbrev pub end_alike : Option Closing → Option Closing → Bool
end_alike None other = false
end_alike (Some k) None = false
end_alike (Some k) (Some l) = bool_eq k.eof l.eof

-- the trailer labels of both count their blocks, but they have different ones, or the file ends
-- with one of the two and continues after the other
abbrev pub are_unlike : SectionCopy → SectionCopy → Bool
are_unlike best c = is_counted best
    && (is_counted c && not (have_same_blocks best c && end_alike best.closed c.closed))

-- Both are copies of one section, but contradict each other: both count their blocks and have
-- different ones or end otherwise, or their HDR1 or their forms differ.
abbrev pub are_conflicting : SectionCopy → SectionCopy → Bool
are_conflicting best c = (c.section.key.sect == best.section.key.sect)
    && (are_unlike best c
    || (are_other_labels best c || are_other_forms best.section.form c.section.form))

-- the best copy of a section, with the form in which it is read
abbrev pub as_read : Option FileForm → Option SectionCopy → Option SectionCopy
as_read known None = None
as_read known (Some c) =
    Some (record c { section = record c.section { form = form_read known c } })

-- whether one of these copies contradicts the best copy of its section
abbrev pub has_conflict : Option SectionCopy → List SectionCopy → Bool
has_conflict None cs = false
has_conflict (Some best) [] = false
has_conflict (Some best) (c ∷ cs) =
    are_conflicting best c || has_conflict (Some best) cs

-- the line about a copy that contradicts the best one
abbrev pub text_if : Bool → SectionCopy → SectionCopy → List ℕ
text_if is best c = if is
    then conflict_line c.section.key.sect (image_number best.image) (image_number c.image) else []

-- the lines about the copies that contradict the best one
abbrev pub conflict_text : Option SectionCopy → List SectionCopy → List ℕ
conflict_text None cs = []
conflict_text (Some best) [] = []
conflict_text (Some best) (c ∷ cs) =
    text_if (are_conflicting best c) best c ++ conflict_text (Some best) cs

-- These lines report all copies of the sections 1 to n that contradict the best copy in the form in
-- which it is read, and all of these sections whose best copy has not the labels of the file. `any`
-- says whether there are any.
abbrev pub AreConflicts : List SectionCopy → ℕ → List ℕ → Bool → Type 0
AreConflicts copies zero text any = (text ≡ []) × (any ≡ false)
AreConflicts copies (suc n) text any = (front : List ℕ) × (earlier : Bool)
    × (best first : Option SectionCopy) × AreConflicts copies n front earlier
    × IsBest (firsts (n + 1) None copies) best × IsFirst copies (suc n) first
    × (text ≡ front ++ (conflict_text (as_read (form_of_file copies) best) copies
    ++ labels_text (form_of_file copies) first best))
    × (any ≡ (has_other (form_of_file copies) first best
    || (has_conflict (as_read (form_of_file copies) best) copies || earlier)))
