-- The lines about the blocks of a section: each longest run of unreadable blocks is one gap.
use Rattle.std.specs.Prelude.{◌≡◌, ◌≢◌, ℕ, suc, ◌+◌, ◌≤◌, min, Bool, true, false, List, [], ◌∷◌}
use Rattle.std.specs.Prelude.{◌++◌, length, replicate, Option, Some, None}
use Rattle.std.specs.List.{AllByRecursion}
use Rattle.tape_image.specs.Tape.{TapeItem, block, bad, mark}
use Rattle.tape_blocks.specs.declared.check.BlockFault.{BlockFault}
use Rattle.tape_set.specs.Lawful.{FileForm}
use Rattle.tape_run.specs.declared.salvage.{copies.SectionCopy.SectionCopy, walk.Expected.Expected}
use Rattle.tape_run.specs.declared.section.SectionKey.{SectionKey}
use Rattle.tape_run.specs.{SalvageWalk.step, SalvageWalk.expected_after, SalvageCopies.believed}
use Rattle.tape_run.specs.{SalvageCopies.start_of, SalvageBlocks.Salvaged}
use Rattle.tape_run.specs.{SalvageBlocks.salvaged_at, SalvageEnds.without_gap, SalvageEnds.end_text}
use Rattle.tape_run.specs.SalvageLine.{gap_line, torn_line, refused_line, section_line}
use Rattle.tape_run.specs.SalvageImage.{number_in, read_in, closings, EndsData}
use Rattle.tape_run.specs.SalvageTaking.{image_number, after_copy, copy_text}

-- ---- the blocks of a section

-- an item, if it is a data item of the section with a number
abbrev pub datum : Option ℕ → TapeItem → List TapeItem
datum None x = []
datum (Some n) (block b) = block b ∷ []
datum (Some n) bad = bad ∷ []
datum (Some n) mark = []

-- the data items of the section among these items, at most `most` of them
abbrev pub data_in : SectionKey → ℕ → Expected → List TapeItem → List TapeItem
data_in key most s [] = []
data_in key most s (x ∷ xs) = datum (number_in key most s) x ++ data_in key most (step s x).0 xs

-- the records after these data items, of which the first one has number n
abbrev pub salvaged_data : Option FileForm → ℕ → Salvaged → List TapeItem → Salvaged
salvaged_data form n g [] = g
salvaged_data form n g (x ∷ xs) = salvaged_data form (n + 1) (salvaged_at form g (Some n) x) xs

-- ---- lines

-- a gap: its first and last block, and the number of records before it
pub record Gap : Type 0 where
  pub first : ℕ
  pub last : ℕ
  pub records : ℕ

-- A line about blocks of a section. The others have the number of the block, the reason why a block
-- contains no records, and the number of records before it.
pub data BlockLine : Type 0 where
  a_gap : Gap → BlockLine
  a_torn : ℕ → ℕ → BlockLine
  a_refused : ℕ → BlockFault → ℕ → BlockLine

abbrev pub block_line : ℕ → BlockLine → List ℕ
block_line sect (a_gap gap) = gap_line sect gap.first gap.last gap.records
block_line sect (a_torn n records) = torn_line sect n records
block_line sect (a_refused n fault records) = refused_line sect n fault records

-- lines, one after another
abbrev pub block_lines : ℕ → List BlockLine → List ℕ
block_lines sect [] = []
block_lines sect (l ∷ ls) = block_line sect l ++ block_lines sect ls

-- the gaps among the lines
abbrev pub gaps_in : List BlockLine → List Gap
gaps_in [] = []
gaps_in (a_gap gap ∷ ls) = gap ∷ gaps_in ls
gaps_in (a_torn n records ∷ ls) = gaps_in ls
gaps_in (a_refused n fault records ∷ ls) = gaps_in ls

-- ---- gaps

abbrev pub IsReadable : TapeItem → Type 0
IsReadable x = x ≢ bad

-- there are no such items, or the first one is readable
abbrev pub StartsReadable : List TapeItem → Type 0
StartsReadable [] = Unit {0}
StartsReadable (x ∷ xs) = IsReadable x

-- The gap follows these items, of which the first one has number n, and has one block and `more`
-- further ones.
pub record IsGapAfter (form : Option FileForm) (n : ℕ) (g : Salvaged) (before : List TapeItem)
    (more : ℕ) (gap : Gap) : Type 0 where
  pub first : gap.first ≡ n + length before
  pub last : gap.last ≡ gap.first + more
  pub records : gap.records ≡ (salvaged_data form n g before).piece.records

-- The gaps are exactly the longest runs of unreadable items among these, in order. The first item
-- has number n; before each gap and after it there are readable items, or none.
abbrev pub AreGaps : Option FileForm → ℕ → Salvaged → List TapeItem → List Gap → Type 0
AreGaps form n g xs [] = AllByRecursion IsReadable xs
AreGaps form n g xs (gap ∷ gaps) = (before rest : List TapeItem) × (more : ℕ)
    × (xs ≡ before ++ (replicate (suc more) bad ++ rest)) × AllByRecursion IsReadable before
    × StartsReadable rest × IsGapAfter form n g before more gap
    × AreGaps form (gap.last + 1) (salvaged_data form n g (before ++ replicate (suc more) bad))
    rest gaps

-- ---- a section

-- the items that were read end at the first mark after the section's data, or contain no such mark
abbrev pub AreReadOf : SectionCopy → List TapeItem → Bool → Type 0
AreReadOf c items true = EndsData (start_of c) c.section.key items
    × (closings c.section.key (start_of c) items ≡ 1)
AreReadOf c items false = closings c.section.key (start_of c) items ≡ 0

-- The report on a section that was read from its copy: after its first line, the lines about its
-- blocks, whose gaps are exactly the longest runs of unreadable blocks, and the lines at its end.
pub record ReportsGaps (sect : ℕ) (c : SectionCopy) (form : Option FileForm)
    (items : List TapeItem) (g : Salvaged) : Type 0 where
  pub lines : List BlockLine
  pub text : copy_text sect c form (Some items) g
      ≡ section_line sect (image_number c.image) c.section.blocks
      ++ (block_lines c.section.key.sect lines
      ++ end_text (read_in c.section.key (expected_after (start_of c) items)) c (without_gap
      (salvaged_data form 0 g (data_in c.section.key (believed c) (start_of c) items))))
  pub gaps : AreGaps form 0 g (data_in c.section.key (believed c) (start_of c) items)
      (gaps_in lines)
  pub all : length (data_in c.section.key (believed c) (start_of c) items)
      ≡ min (read_in c.section.key (expected_after (start_of c) items)) (believed c)
  pub none_left : (after_copy c form (Some items) g).gap ≡ None

-- This holds for every reading, of any image; counts of blocks have 32 bits.
abbrev pub GapsAreRuns : Type 0
GapsAreRuns = (sect : ℕ) (c : SectionCopy) (form : Option FileForm) (items : List TapeItem)
    (is_ended : Bool) (g : Salvaged) → believed c ≤ 4294967295 → AreReadOf c items is_ended
    → g.gap ≡ None → ReportsGaps sect c form items g
