-- The report at the end of the blocks of a section.
use Rattle.std.specs.Prelude.{ℕ, ◌-◌, ◌&&◌, ◌||◌, min, nat_lt, Bool, true, if◌then◌else◌, List, []}
use Rattle.std.specs.Prelude.{◌++◌, Option, Some, None, is_some}
use Rattle.tape_run.specs.declared.salvage.{copies.SectionCopy.SectionCopy, walk.Closing.Closing}
use Rattle.tape_run.specs.{SalvageCopies.believed, SalvageCopies.wrong_count, SalvageRecords.torn}
use Rattle.tape_run.specs.SalvageLine.{open_gap_line, unsure_line, count_line, no_section_line}
use Rattle.tape_run.specs.SalvageLine.{no_form_line}
use Rattle.tape_run.specs.SalvageBlocks.{Salvaged, gap_text, torn_text}

-- all of a section, or its rest, is missing
abbrev pub without_rest : Salvaged → Salvaged
without_rest g = record { piece = torn g.piece; gap = g.gap; missing = true }

-- the line about the unfinished record that is left out, if any
abbrev pub rest_text : ℕ → ℕ → Salvaged → List ℕ
rest_text sect n g = torn_text g.piece.begun sect n g.piece.records

-- the section was not found, or could not be read
abbrev pub no_section_text : ℕ → Salvaged → List ℕ
no_section_text sect g = rest_text sect 0 g ++ no_section_line sect g.piece.records

abbrev pub no_form_text : ℕ → Salvaged → List ℕ
no_form_text sect g = rest_text sect 0 g ++ no_form_line sect g.piece.records

-- the blocks of the section from this one on are missing
abbrev pub open_text : ℕ → ℕ → Salvaged → List ℕ
open_text sect n g = rest_text sect n g ++ open_gap_line sect n g.piece.records

-- the items after the reliable ones
abbrev pub unsure_text : ℕ → ℕ → ℕ → List ℕ
unsure_text sect first blocks =
    if nat_lt first blocks then unsure_line sect first (blocks - 1) else []

-- a gap at the end of the section ends there
abbrev pub without_gap : Salvaged → Salvaged
without_gap g = record { piece = g.piece; gap = None; missing = g.missing }

-- the trailer label counts another number of blocks
abbrev pub with_count : Option ℕ → Salvaged → Salvaged
with_count label g = record { piece = g.piece; gap = g.gap; missing = g.missing || is_some label }

abbrev pub count_text : ℕ → Option ℕ → ℕ → List ℕ
count_text sect None blocks = []
count_text sect (Some label) blocks = count_line sect label blocks

-- a record that is unfinished at the end of the file is left out
abbrev pub with_end : Bool → Salvaged → Salvaged
with_end eof g = if eof && g.piece.begun then without_rest g else g

-- after the blocks of a copy, and the gap at their end
abbrev pub ended : SectionCopy → Option Closing → Salvaged → Salvaged
ended c None g = without_rest g
ended c (Some closed) g = with_end closed.eof (with_count (wrong_count c) g)

abbrev pub ended_text : SectionCopy → Option Closing → Salvaged → List ℕ
ended_text c None g =
    let sect = c.section.key.sect in
    let first = believed c in
    open_text sect first g ++ unsure_text sect first c.section.blocks
ended_text c (Some closed) g =
    let sect = c.section.key.sect in
    let blocks = c.section.blocks in
    count_text sect (wrong_count c) blocks
    ++ torn_text (closed.eof && g.piece.begun) sect blocks g.piece.records

-- the same if the given number of data items was read again: all the reliable ones, or fewer
abbrev pub end_from : ℕ → SectionCopy → Salvaged → Salvaged
end_from n c g = if nat_lt n (believed c) then without_rest g else ended c c.closed g

abbrev pub end_text : ℕ → SectionCopy → Salvaged → List ℕ
end_text n c g =
    if nat_lt n (believed c) then open_text c.section.key.sect n g else ended_text c c.closed g

-- after a copy of which the given number of data items was read again
abbrev pub read_again : ℕ → SectionCopy → Salvaged → Salvaged
read_again n c g = end_from n c (without_gap g)

abbrev pub read_again_text : ℕ → SectionCopy → Salvaged → List ℕ
read_again_text n c g =
    gap_text c.section.key.sect g.gap (min n (believed c)) g.piece.records
    ++ end_text n c (without_gap g)
