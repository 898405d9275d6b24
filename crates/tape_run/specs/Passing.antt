-- Reading a reel with every section skipped: the phase after each item, and the sections that the
-- items contain.
use Rattle.std.specs.Prelude.{ℕ, ◌+◌, ◌==◌, ◌&&◌, ◌||◌, not, Bool, true, false, if◌then◌else◌, List}
use Rattle.std.specs.Prelude.{[], ◌∷◌, ◌++◌, Option, Some, None, Result, Ok, Err}
use Rattle.tape_image.specs.Tape.{TapeItem, block, bad, mark}
use Rattle.tape_label.specs.declared.values.{Kind.Kind, Vol1.Vol1, Head1.Head1, Trail1.Trail1}
use Rattle.tape_label.specs.declared.label.LabelFault.{LabelFault}
use Rattle.tape_label.specs.declared.values.Kind.TheVariants as kinds
use Rattle.tape_label.specs.{Kinds.kind_at, VolumeLabels.is_volume_label}
use Rattle.tape_label.specs.Reading.{vol1_at, head1_at, trail1_at}
use Rattle.tape_set.specs.Lawful.{label_count}
use Rattle.tape_run.specs.declared.section.{SectionKey.SectionKey, SectionState.SectionState}
use Rattle.tape_run.specs.declared.section.Entry.{Entry}
use Rattle.tape_run.specs.declared.{met.Met.Met, passing.Phase.Phase}
use Rattle.tape_run.specs.declared.section.SectionState.TheVariants.{Good, Bad, Count, Cut}
use Rattle.tape_run.specs.declared.passing.Phase.TheVariants.{Volume, Labels, Second, Headers, Data}
use Rattle.tape_run.specs.declared.passing.Phase.TheVariants.{Trailer, Trailers, Next, Over}

-- a section and its entry
abbrev pub Told : Type 0
Told = SectionKey × Entry

-- one more data block
abbrev pub with_block : Met → Bool → Met
with_block met is_bad = record met { blocks = met.blocks + 1; bad = met.bad || is_bad }

-- no trailer label with the section's numbers was read
abbrev pub cut : Met → Told
cut met = (met.key, record { volume = met.volume; blocks = met.blocks; eof = false; state = Cut })

-- the state of the section, if its trailer label has this count
abbrev pub state_by : Met → ℕ → SectionState
state_by met count =
    if not (count == label_count met.blocks) then Count
    else if met.bad then Bad
    else Good

-- it is the trailer label of this section
abbrev pub closes : Met → Trail1 → Bool
closes met trail = (trail.head.sect == met.key.sect) && (trail.head.sequence == met.key.file)

-- the description that its trailer label completes
abbrev pub told : Met → Trail1 → Told
told met trail =
    let state = state_by met trail.blocks in
    (met.key, record { volume = met.volume; blocks = met.blocks; eof = trail.eof; state = state })

-- after a block that was read as a trailer label, or could not be read as one
abbrev pub told_with : Met → Result Trail1 LabelFault → Phase × Option Told
told_with met (Ok trail) =
    if closes met trail then (Trailers met.volume, Some (told met trail))
    else (Over, Some (cut met))
told_with met (Err _) = (Over, Some (cut met))

-- after a block that was read as a volume label, or could not be read as one
abbrev pub volume_with : Result Vol1 LabelFault → Phase
volume_with (Ok label) = Labels label.volume
volume_with (Err _) = Over

-- a section's first label was read
abbrev pub met_by : List ℕ → Head1 → Met
met_by volume head =
    let key : SectionKey =
    record { set_id = head.set_id; file = head.sequence; sect = head.sect } in
    record { volume = volume; key = key; blocks = 0; bad = false }

-- after a block that was read as a header label, or could not be read as one
abbrev pub header_with : List ℕ → Result Head1 LabelFault → Phase
header_with volume (Ok head) = Second (met_by volume head)
header_with volume (Err _) = Over

-- after a block where a section may begin
abbrev pub header_phase : List ℕ → List ℕ → Phase
header_phase volume b = header_with volume (head1_at b)

-- after a block of this kind where a section's second label is expected
abbrev pub second_with : Met → Option Kind → Phase
second_with met (Some kinds.Hdr2) = Headers met
second_with met _ = Over

-- The phase after an item, and the section that it completes, if any.
--
-- The phases in the order of a volume: its label, further labels; for each section two labels,
-- further headers, a mark, data, a mark, a trailer label, further trailers, a mark; then a second
-- mark.
abbrev pub step : Phase → TapeItem → Phase × Option Told
step Volume (block b) = (volume_with (vol1_at b), None)
step (Labels v) (block b) = (if is_volume_label b then Labels v else header_phase v b, None)
step (Second met) (block b) = (second_with met (kind_at b), None)
step (Headers met) (block b) = (Headers met, None)
step (Headers met) mark = (Data met, None)
step (Data met) (block b) = (Data (with_block met false), None)
step (Data met) bad = (Data (with_block met true), None)
step (Data met) mark = (Trailer met, None)
step (Trailer met) (block b) = told_with met (trail1_at b)
step (Trailer met) _ = (Over, Some (cut met))
step (Trailers v) (block b) = (Trailers v, None)
step (Trailers v) mark = (Next v, None)
step (Next v) (block b) = (header_phase v b, None)
step _ _ = (Over, None)

-- the section that is not complete if the items end here: it is cut
abbrev pub under_way : Phase → Option Told
under_way (Data met) = Some (cut met)
under_way (Trailer met) = Some (cut met)
under_way _ = None

-- the number of data blocks found so far of a section that is not complete yet
abbrev pub blocks_of : Phase → ℕ
blocks_of (Second met) = met.blocks
blocks_of (Headers met) = met.blocks
blocks_of (Data met) = met.blocks
blocks_of (Trailer met) = met.blocks
blocks_of _ = 0

-- a completed section, as a list
abbrev pub in_list : Option Told → List Told
in_list None = []
in_list (Some t) = t ∷ []

-- the phase after these items
abbrev pub phase_after : Phase → List TapeItem → Phase
phase_after p [] = p
phase_after p (x ∷ xs) = phase_after (step p x).0 xs

-- the sections that these items contain, in order
abbrev pub told_from : Phase → List TapeItem → List Told
told_from p [] = []
told_from p (x ∷ xs) = in_list (step p x).1 ++ told_from (step p x).0 xs

-- the sections that the items of an image contain, in the order in which they were found
abbrev pub met_in : List TapeItem → List Told
met_in items = told_from Volume items ++ in_list (under_way (phase_after Volume items))
