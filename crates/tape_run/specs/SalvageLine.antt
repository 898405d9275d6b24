-- The lines of `salvage`. Numbers are plain decimals.
use Rattle.std.specs.Prelude.{ℕ, Bool, if◌then◌else◌, List, [], ◌++◌, codes, decimal}
use Rattle.tape_image.specs.Fault.{number_of}
use Rattle.tape_run.specs.declared.section.ImageStop.{ImageStop}
use Rattle.tape_run.specs.declared.section.ImageStop.TheVariants.{Marked, Physical, Fault}
use Rattle.tape_blocks.specs.{declared.check.BlockFault.BlockFault, Numbers.cause_number}

-- blocks of the section are missing after the given number of records
abbrev pub gap_line : ℕ → ℕ → ℕ → ℕ → List ℕ
gap_line sect first last records =
    codes "GAP " ++ (decimal sect ++ (codes " " ++ (decimal first ++ (codes " " ++ (decimal last
    ++ (codes " " ++ (decimal records ++ codes "\n")))))))

-- all blocks from this one on are missing
abbrev pub open_gap_line : ℕ → ℕ → ℕ → List ℕ
open_gap_line sect first records =
    codes "GAP " ++ (decimal sect ++ (codes " " ++ (decimal first ++ (codes " - "
    ++ (decimal records ++ codes "\n")))))

-- the section was not found
abbrev pub no_section_line : ℕ → ℕ → List ℕ
no_section_line sect records =
    codes "GAP " ++ (decimal sect ++ (codes " - - " ++ (decimal records ++ codes "\n")))

-- no label records how the records of the section are stored in its blocks
abbrev pub no_form_line : ℕ → ℕ → List ℕ
no_form_line sect records =
    codes "NO FORM " ++ (decimal sect ++ (codes " " ++ (decimal records ++ codes "\n")))

-- the block contains no records in the file's form
abbrev pub refused_line : ℕ → ℕ → BlockFault → ℕ → List ℕ
refused_line sect block fault records =
    codes "REFUSED " ++ (decimal sect ++ (codes " " ++ (decimal block ++ (codes " "
    ++ (decimal (cause_number fault.cause) ++ (codes " " ++ (decimal fault.place ++ (codes " "
    ++ (decimal records ++ codes "\n")))))))))

-- a word, followed by three numbers
abbrev pub three_numbers : List ℕ → ℕ → ℕ → ℕ → List ℕ
three_numbers word a b c =
    word ++ (decimal a ++ (codes " " ++ (decimal b ++ (codes " " ++ (decimal c ++ codes "\n")))))

-- a record is left out because the data are interrupted before this block
abbrev pub torn_line : ℕ → ℕ → ℕ → List ℕ
torn_line sect block records = three_numbers (codes "TORN ") sect block records

-- the trailer label counts another number of blocks
abbrev pub count_line : ℕ → ℕ → ℕ → List ℕ
count_line sect label seen = three_numbers (codes "COUNT ") sect label seen

-- these items may or may not be blocks of the section
abbrev pub unsure_line : ℕ → ℕ → ℕ → List ℕ
unsure_line sect first last = three_numbers (codes "UNSURE ") sect first last

-- the section is read from this image
abbrev pub section_line : ℕ → ℕ → ℕ → List ℕ
section_line sect image blocks = three_numbers (codes "SECTION ") sect image blocks

-- two images, counted from 1, have copies of the section that contradict each other; the first one
-- is used
abbrev pub conflict_line : ℕ → ℕ → ℕ → List ℕ
conflict_line sect used other = three_numbers (codes "CONFLICT ") sect used other

-- the best copy of the section, on the first of these images, has not the labels of the file that
-- begins on the other
abbrev pub labels_line : ℕ → ℕ → ℕ → List ℕ
labels_line sect used other = three_numbers (codes "LABELS DIFFER ") sect used other

-- the last line
abbrev pub last_line : Bool → ℕ → List ℕ
last_line whole records =
    (if whole then codes "COMPLETE" else codes "SALVAGED")
    ++ (codes " " ++ (decimal records ++ codes "\n"))

-- the image could not be read to its end, because of a fault, which has a number and a byte offset
abbrev pub stopped_line : ℕ → ImageStop → List ℕ
stopped_line number Marked = []
stopped_line number Physical = []
stopped_line number (Fault fault) = codes "IMAGE " ++ (decimal number ++ (codes " FAULT "
    ++ (decimal (number_of fault.cause) ++ (codes " " ++ (decimal fault.place ++ codes "\n")))))

-- the image could not be opened
abbrev pub not_opened_line : ℕ → List ℕ
not_opened_line number = codes "IMAGE " ++ (decimal number ++ codes " NOT OPENED\n")
