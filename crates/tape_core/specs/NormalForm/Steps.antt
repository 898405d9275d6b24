-- The machine's places as parts of a tape.
use Rattle.std.specs.Prelude.{◌≡◌, ℕ, ◌+◌, ◌==◌, length, nat_lt, ◌&&◌, not, if◌then◌else◌, List, []}
use Rattle.std.specs.Prelude.{◌∷◌, ◌++◌}
use Rattle.std.specs.Prelude.{Option, Some, None}
use Rattle.std.specs.Str.{bytes_eq}
use Rattle.tape_image.specs.Tape.{TapeItem, block, bad, mark}
use Rattle.tape_label.specs.{Kinds.kind_at, VolumeLabels.is_volume_label}
use Rattle.tape_label.specs.WideHead2.{is_further_header}
use Rattle.tape_core.specs.declared.normal.code.Code.{Code}
use Rattle.tape_core.specs.declared.normal.code.Code.TheVariants.{Ascii}
use Rattle.tape_core.specs.NormalForm.{Codes.in_ascii, Mended.is_vol1, Mended.is_hdr1}
use Rattle.tape_core.specs.NormalForm.{Mended.is_hdr2}
use Rattle.tape_core.specs.NormalForm.Mended.{is_first_trailer, is_dummy, mended}
use Rattle.tape_core.specs.NormalForm.{is_noise, most_dropped, code_of, is_next_header}
use Rattle.tape_core.specs.NormalForm.{is_lost_header}
use Rattle.tape_core.specs.declared.normal.machine.{TapePlace.TapePlace, Missing.Missing}
use Rattle.tape_core.specs.declared.normal.machine.{Replacement.Replacement, Change.Change}
use Rattle.tape_core.specs.declared.normal.machine.TapePlace.TheVariants.{Start, Labels, Blank}
use Rattle.tape_core.specs.declared.normal.machine.TapePlace.TheVariants.{Second}
use Rattle.tape_core.specs.declared.normal.machine.TapePlace.TheVariants.{Headers, Data, Trailer}
use Rattle.tape_core.specs.declared.normal.machine.TapePlace.TheVariants.{Trailers}
use Rattle.tape_core.specs.declared.normal.machine.TapePlace.TheVariants.{Next, Ended, Over}
use Rattle.tape_core.specs.declared.normal.machine.Missing.TheVariants.{Nothing, VolumeLabel}
use Rattle.tape_core.specs.declared.normal.machine.Missing.TheVariants.{SecondLabel, Digits}
use Rattle.tape_core.specs.declared.normal.machine.Replacement.TheVariants.{Same, Dropped, Label}
use Rattle.tape_core.specs.NormalForm.{of_start, of_labels, of_blank, of_second, of_headers}
use Rattle.tape_core.specs.NormalForm.{of_data}
use Rattle.tape_core.specs.NormalForm.{of_trailer, of_trailers, of_next, of_ended}
use Rattle.tape_core.specs.NormalForm.Mended.{no_volume_label, no_file, headed, trailed}
use Rattle.tape_core.specs.NormalForm.Mended.{counted, uncounted, lost}
use Rattle.tape_core.specs.declared.normal.numbers.FileSeen.{FileSeen}

-- the normal form of the items from this place on
abbrev pub from : TapePlace → List TapeItem → List TapeItem
from (Start n) items = of_start n items
from (Labels code n) items = of_labels code n items
from (Blank code) items = of_blank code items
from (Second code seen) items = of_second code seen items
from (Headers code seen) items = of_headers code seen items
from (Data code seen) items = of_data code seen items
from (Trailer code seen) items = of_trailer code seen items
from (Trailers code seen) items = of_trailers code seen items
from (Next code seen) items = of_next code seen items
from Ended items = of_ended items
from Over items = items

-- the label that is inserted for a missing one
abbrev pub inserted_label : Missing → Option (List ℕ)
inserted_label Nothing = None
inserted_label VolumeLabel = Some no_volume_label
inserted_label SecondLabel = None
inserted_label Digits = None

-- the same as an item
abbrev pub inserted : Missing → List TapeItem
inserted Nothing = []
inserted VolumeLabel = block no_volume_label ∷ []
inserted SecondLabel = []
inserted Digits = []

-- what replaces the item
abbrev pub instead : Replacement → TapeItem → List TapeItem
instead Same item = item ∷ []
instead Dropped item = []
instead (Label text) item = block text ∷ []

-- the items that a change gives: at most two
abbrev pub given : Change → TapeItem → List TapeItem
given change item = inserted change.missing ++ instead change.instead item

-- ---- the table of the machine

-- the item as it is
abbrev pub same : Change
same = record { missing = Nothing; instead = Same }

-- nothing instead of the item
abbrev pub dropped : Change
dropped = record { missing = Nothing; instead = Dropped }

-- a label in this code
abbrev pub instead_in : Code → List ℕ → Replacement
instead_in Ascii text = Same
instead_in _ text = Label text

-- the label in ASCII, preceded by one that is missing
abbrev pub translated_with : Missing → Code → List ℕ → Change
translated_with adds code text = record { missing = adds; instead = instead_in code text }

-- the label, or another in its place, preceded by one that is missing
abbrev pub replaced_with : Missing → Code → List ℕ → List ℕ → Change
replaced_with adds code better text =
    record {
      missing = adds;
      instead = if bytes_eq better text then instead_in code text else Label better;
    }

-- the first header label of the file after this one, preceded by one that is missing
abbrev pub header_at : Code → Missing → FileSeen → List ℕ → TapePlace × Change
header_at code adds before text =
    (Second code (headed before text).1, replaced_with adds code (headed before text).0 text)

-- after a label with which a tape begins
abbrev pub begin_in : Code → List ℕ → TapePlace × Change
begin_in code text =
    if is_vol1 (kind_at text) then (Labels code 0, translated_with Nothing code text)
    else header_at code VolumeLabel no_file text

-- an item before the first label is dropped, unless there were too many
abbrev pub drop_first : ℕ → TapePlace × Change
drop_first n = if nat_lt n most_dropped then (Start (n + 1), dropped) else (Over, same)

abbrev pub start_at : ℕ → List ℕ → Option Code → TapePlace × Change
start_at n b (Some code) = begin_in code (in_ascii code b)
start_at n b None = if is_noise b then drop_first n else (Over, same)

abbrev pub drop_block : Code → ℕ → TapePlace × Change
drop_block code n = if nat_lt n most_dropped then (Labels code (n + 1), dropped) else (Over, same)

abbrev pub labels_at : Code → ℕ → List ℕ → TapePlace × Change
labels_at code n text =
    if is_volume_label text then (Labels code n, translated_with Nothing code text)
    else if is_hdr1 (kind_at text) && not (is_dummy text)
    then header_at code Nothing no_file text
    else drop_block code n

-- the place after an item that is not expected
abbrev pub left_at : Code → TapePlace → TapePlace
left_at Ascii place = Over
left_at code place = place

-- a block that is not the label expected there
abbrev pub other_at : Code → FileSeen → List ℕ → TapePlace × Change
other_at code seen text =
    if is_lost_header code text then header_at code Nothing (lost seen) text
    else (left_at code (Data code (lost seen)), same)

-- a second label whose numbers are filled, if that is needed
abbrev pub mended_with : Code → List ℕ → Change
mended_with code text =
    if bytes_eq (mended text) text then translated_with Nothing code text
    else record { missing = Digits; instead = Label (mended text) }

abbrev pub second_at : Code → FileSeen → List ℕ → TapePlace × Change
second_at code seen text =
    if is_hdr2 (kind_at text)
    then (Headers code seen, mended_with code text)
    else if is_further_header text then (Headers code seen, translated_with SecondLabel code text)
    else other_at code seen text

-- any label; a block of another length is not one
abbrev pub any_at : Code → List ℕ → Change
any_at code text = if length text == 80 then translated_with Nothing code text else same

-- a further header label
abbrev pub headers_at : Code → FileSeen → List ℕ → TapePlace × Change
headers_at code seen text =
    if is_next_header code text then (Headers code seen, any_at code text)
    else other_at code seen text

abbrev pub trailer_at : Code → FileSeen → List ℕ → TapePlace × Change
trailer_at code seen text =
    if is_first_trailer (kind_at text)
    then (
      Trailers code (trailed seen text).1,
      replaced_with Nothing code (trailed seen text).0 text,
    )
    else other_at code seen text

-- a further trailer label
abbrev pub trailers_at : Code → FileSeen → List ℕ → TapePlace × Change
trailers_at code seen text =
    if is_lost_header code text then header_at code Nothing (lost seen) text
    else (Trailers code seen, any_at code text)

-- the header label of the file after this one
abbrev pub next_at : Code → FileSeen → List ℕ → TapePlace × Change
next_at code before text =
    if is_hdr1 (kind_at text) then header_at code Nothing before text
    else other_at code before text

abbrev pub ended_at : Option Code → TapePlace × Change
ended_at (Some code) = (Over, same)
ended_at None = (Ended, dropped)

-- the place after a block of data
abbrev pub counted_at : TapePlace → TapePlace
counted_at (Data code seen) = Data code (counted seen)
counted_at place = place

-- what comes after an item, and what replaces it
abbrev pub step_of : TapePlace → TapeItem → TapePlace × Change
step_of (Start n) (block b) = start_at n b (code_of b)
step_of (Start n) mark = drop_first n
step_of (Start n) bad = (Over, same)
step_of (Labels code n) (block b) = labels_at code n (in_ascii code b)
step_of (Labels code n) mark = (Blank code, same)
step_of (Labels code n) bad = (left_at code (Headers code (lost no_file)), same)
step_of (Blank code) (block b) = other_at code no_file (in_ascii code b)
step_of (Blank code) mark = (Ended, same)
step_of (Blank code) bad = (left_at code (Trailer code (lost no_file)), same)
step_of (Second code seen) (block b) = second_at code seen (in_ascii code b)
step_of (Second code seen) mark = (Data code seen, record { missing = SecondLabel; instead = Same })
step_of (Second code seen) bad = (left_at code (Headers code (lost seen)), same)
step_of (Headers code seen) (block b) = headers_at code seen (in_ascii code b)
step_of (Headers code seen) mark = (Data code seen, same)
step_of (Headers code seen) bad = (left_at code (Headers code (lost seen)), same)
step_of (Data code seen) mark = (Trailer code seen, same)
step_of (Data code seen) (block b) = (Data code (counted seen), same)
step_of (Data code seen) bad = (Data code (uncounted seen), same)
step_of (Trailer code seen) (block b) = trailer_at code seen (in_ascii code b)
step_of (Trailer code seen) _ = (left_at code (Trailer code (lost seen)), same)
step_of (Trailers code seen) (block b) = trailers_at code seen (in_ascii code b)
step_of (Trailers code seen) mark = (Next code seen, same)
step_of (Trailers code seen) bad = (left_at code (Trailers code (lost seen)), same)
step_of (Next code seen) (block b) = next_at code seen (in_ascii code b)
step_of (Next code seen) mark = (Ended, same)
step_of (Next code seen) bad = (left_at code (Headers code (lost seen)), same)
step_of Ended (block b) = ended_at (code_of b)
step_of Ended _ = (Ended, dropped)
step_of Over _ = (Over, same)

-- The item gives these items, and the rest of the tape is then that of the next place.
abbrev pub Gives : TapePlace → TapeItem → TapePlace → Change → Type 0
Gives place item next change = (rest : List TapeItem)
    → from place (item ∷ rest) ≡ given change item ++ from next rest
