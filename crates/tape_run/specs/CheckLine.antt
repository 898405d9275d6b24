-- The lines of `check`. Numbers are plain decimals, and identifiers have their full width.
use Rattle.std.specs.Prelude.{ℕ, ◌+◌, List, [], ◌∷◌, ◌++◌, codes, decimal, Option, Some, None}
use Rattle.tape_image.specs.{Fault.number_of}
use Rattle.tape_run.specs.{declared.section.ImageStop.ImageStop, declared.section.Lack.Lack}
use Rattle.tape_run.specs.{declared.section.ImageLine.ImageLine, Identifier.identifier_text}
use Rattle.tape_run.specs.declared.section.SectionState.{SectionState}
use Rattle.tape_run.specs.declared.section.SectionLine.{SectionLine}
use Rattle.tape_run.specs.declared.section.ImageStop.TheVariants.{Marked, Physical, Fault}
use Rattle.tape_run.specs.declared.section.SectionState.TheVariants.{Good, Bad, Count, Cut}

-- how an image ended; with a fault, the number of its cause, and its offset
abbrev pub stop_text : ImageStop → List ℕ
stop_text Marked = codes "MARKED"
stop_text Physical = codes "PHYSICAL"
stop_text (Fault fault) =
    codes "FAULT " ++ (decimal (number_of fault.cause) ++ (codes " " ++ decimal fault.place))

-- the line of the image with this number, counted from 1: the number of items found on it, and how
-- it ended; an image that was not opened has no items
abbrev pub image_line : ℕ → Option ImageLine → List ℕ
image_line n (Some line) =
    codes "IMAGE " ++ (decimal n ++ (codes " " ++ (decimal line.items ++ (codes " "
    ++ (stop_text line.stop ++ codes "\n")))))
image_line n None = codes "IMAGE " ++ (decimal n ++ codes " 0 NOT OPENED\n")

-- the lines of images, the first of which has this number
abbrev pub image_lines : ℕ → List (Option ImageLine) → List ℕ
image_lines n [] = []
image_lines n (line ∷ lines) = image_line n line ++ image_lines (n + 1) lines

-- the state of a section
abbrev pub state_text : SectionState → List ℕ
state_text Good = codes "GOOD"
state_text Bad = codes "BAD"
state_text Count = codes "COUNT"
state_text Cut = codes "CUT"

-- the line of a section: its numbers, the volume on which it was found, its blocks and its state
abbrev pub section_line : SectionLine → List ℕ
section_line s =
    codes "SECTION " ++ ((identifier_text s.set_id ++ (codes " " ++ (decimal s.file ++ (codes " "
    ++ decimal s.sect)))) ++ (codes " " ++ (identifier_text s.volume ++ (codes " "
    ++ (decimal s.blocks ++ (codes " " ++ (state_text s.state ++ codes "\n")))))))

-- the line of the first missing section of a file
abbrev pub lack_line : Lack → List ℕ
lack_line l = codes "LACKS " ++ (identifier_text l.set_id ++ (codes " " ++ (decimal l.file
    ++ (codes " " ++ (decimal l.sect ++ codes "\n")))))

-- the last line, if all was found
abbrev pub found_line : List ℕ
found_line = codes "ALL SECTIONS FOUND\n"
