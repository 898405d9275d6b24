-- Labels that get another set identifier and other numbers on request.
--
-- The order of labels and tape marks alone says which blocks are the first labels of sections. A
-- label is changed only where it names the section as the image did when it was first read.
use Rattle.std.specs.Prelude.{ℕ, ◌-◌, take, drop, ◌&&◌, nat_lt, Bool, true, false, List, ◌++◌}
use Rattle.std.specs.Prelude.{Option, Some, None, if◌then◌else◌}
use Rattle.std.specs.Str.{bytes_eq}
use Rattle.tape_image.specs.Tape.{TapeItem, block, bad, mark}
use Rattle.tape_label.specs.declared.values.{Kind.Kind}
use Rattle.tape_label.specs.declared.values.Kind.TheVariants as kinds
use Rattle.tape_label.specs.{Kinds.kind_at, VolumeLabels.is_volume_label, Positions.positions}
use Rattle.tape_label.specs.{WideHead2.is_further_header, Digits.digits}
use Rattle.tape_run.specs.declared.section.SectionKey.{SectionKey}
use Rattle.tape_run.specs.declared.relabel.steps.{LabelPlace.LabelPlace, LabelPart.LabelPart}
use Rattle.tape_run.specs.declared.relabel.steps.{Turn.Turn}
use Rattle.tape_run.specs.declared.relabel.steps.LabelPlace.TheVariants.{Outside, Headers, Data}
use Rattle.tape_run.specs.declared.relabel.steps.LabelPlace.TheVariants.{Trailer, Trailers}
use Rattle.tape_run.specs.declared.relabel.steps.LabelPart.TheVariants as parts

-- ---- labels

-- the label with these characters at the positions `first` to `last`
abbrev pub replaced : ℕ → ℕ → List ℕ → List ℕ → List ℕ
replaced first last text label = take (first - 1) label ++ (text ++ drop last label)

-- the label of this section: the set identifier, the section number and the sequence number
abbrev pub named : SectionKey → List ℕ → List ℕ
named key label =
    replaced 32 35 (digits 4 key.file)
    (replaced 28 31 (digits 4 key.sect) (replaced 22 27 key.set_id label))

-- a first label that names a section by these characters becomes that of the other section
abbrev pub relabelled : List ℕ → SectionKey → List ℕ → List ℕ
relabelled from key label =
    if bytes_eq (positions label 22 35) from && (nat_lt key.sect 10000 && nat_lt key.file 10000)
    then named key label else label

-- ---- which blocks are first labels

-- what is expected next, what the item is, and whether it was expected
abbrev pub turn_to : LabelPlace → LabelPart → Bool → Turn
turn_to next part expected = record { next = next; part = part; expected = expected }

-- outside of sections
abbrev pub outside_by : Option Kind → Bool → Turn
outside_by (Some kinds.Hdr1) volume = turn_to Headers parts.Header true
outside_by (Some kinds.Eof1) volume = turn_to Trailers parts.LoneTrailer false
outside_by (Some kinds.Eov1) volume = turn_to Trailers parts.LoneTrailer false
outside_by _ volume = turn_to Outside parts.Other volume

-- among the header labels of a section
abbrev pub headers_by : Option Kind → Bool → Turn
headers_by (Some kinds.Hdr1) further = turn_to Headers parts.Header false
headers_by (Some kinds.Eof1) further = turn_to Trailers parts.Trailer false
headers_by (Some kinds.Eov1) further = turn_to Trailers parts.Trailer false
headers_by (Some kinds.Hdr2) further = turn_to Headers parts.Other true
headers_by _ further = turn_to Headers parts.Other further

-- behind the data of a section and a mark
abbrev pub trailer_by : Option Kind → Turn
trailer_by (Some kinds.Eof1) = turn_to Trailers parts.Trailer true
trailer_by (Some kinds.Eov1) = turn_to Trailers parts.Trailer true
trailer_by (Some kinds.Hdr1) = turn_to Headers parts.Header false
trailer_by _ = turn_to Data parts.Other false

-- among the trailer labels of a section
abbrev pub trailers_by : Option Kind → Turn
trailers_by (Some kinds.Hdr1) = turn_to Headers parts.Header false
trailers_by _ = turn_to Trailers parts.Other true

abbrev pub step_of : LabelPlace → TapeItem → Turn
step_of Outside (block b) = outside_by (kind_at b) (is_volume_label b)
step_of Headers (block b) = headers_by (kind_at b) (is_further_header b)
step_of Data (block b) = turn_to Data parts.Other true
step_of Trailer (block b) = trailer_by (kind_at b)
step_of Trailers (block b) = trailers_by (kind_at b)
step_of Outside mark = turn_to Outside parts.Other true
step_of Headers mark = turn_to Data parts.Other true
step_of Data mark = turn_to Trailer parts.Other true
step_of Trailer mark = turn_to Outside parts.Other false
step_of Trailers mark = turn_to Outside parts.Other true
step_of Data bad = turn_to Data parts.Other true
step_of place bad = turn_to place parts.Other false
