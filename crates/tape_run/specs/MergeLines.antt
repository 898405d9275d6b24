-- The lines of `merge` and `compare`. Numbers are plain decimals, and a name is the rest of its
-- line.
use Rattle.std.specs.Prelude.{ℕ, ◌+◌, List, [], ◌∷◌, ◌++◌, codes, decimal, suc, zero, Option, Some}
use Rattle.std.specs.Prelude.{None, slice_get, unwrap_or, Bool, true, false}
use Rattle.tape_image.specs.{declared.item.Ending.Ending, Reader.ending_of}
use Rattle.tape_run.specs.declared.merge.reading.{Reading.Reading, Verdict.Verdict}
use Rattle.tape_run.specs.declared.merge.line.{MergedEnd.MergedEnd, ItemKind.ItemKind}
use Rattle.tape_run.specs.declared.merge.Merged.{Merged}
use Rattle.tape_run.specs.declared.section.ImageStop.{ImageStop}
use Rattle.tape_run.specs.declared.merge.line.MergedEnd.TheVariants.{Marked, Physical, Cut}
use Rattle.tape_run.specs.{Added.stop_at, CheckLine.stop_text, Quoting.name_text}
use Rattle.tape_run.specs.declared.section.ImageStop.TheVariants as ends
use Rattle.tape_run.specs.declared.merge.reading.Verdict.TheVariants as verdicts
use Rattle.tape_run.specs.declared.merge.line.ItemKind.TheVariants as kinds

-- a line that ends with a name
abbrev pub with_name : List ℕ → List ℕ → List ℕ
with_name text name = text ++ codes " " ++ name_text name ++ codes "\n"

-- the text of the end of the merged image
abbrev pub merged_end : MergedEnd → List ℕ
merged_end Marked = codes "MARKED"
merged_end Physical = codes "PHYSICAL"
merged_end Cut = codes "CUT"

-- the number of sections with a wrong count, unless it is 0, and the end of the line
abbrev pub miscounted_text : ℕ → List ℕ
miscounted_text zero = codes "\n"
miscounted_text (suc n) = codes " COUNT " ++ (decimal (suc n) ++ codes "\n")

-- the merged image: its items, how many of them are bad, how many only one reading has, and its end
abbrev pub merged_line : Merged → MergedEnd → List ℕ
merged_line m end =
    codes "MERGED " ++ (decimal m.items ++ (codes " " ++ (decimal m.bad ++ (codes " "
    ++ (decimal m.alone ++ (codes " " ++ (merged_end end ++ miscounted_text m.miscounted)))))))

-- the first item at which readings differ
abbrev pub differ_line : ℕ → List ℕ
differ_line n = codes "DIFFER " ++ (decimal n ++ codes "\n")

-- an item, a block by its length
abbrev pub kind_text : ItemKind → List ℕ
kind_text (kinds.Block n) = codes "BLOCK " ++ decimal n
kind_text kinds.Mark = codes "MARK"
kind_text kinds.Bad = codes "BAD"

-- ---- the lines of readings

-- the end of a reading, if it has stopped
abbrev pub stop_of : Option Ending → Verdict → Option ImageStop
stop_of (Some ending) verdict = Some (stop_at ending)
stop_of None verdicts.First = None
stop_of None verdicts.Bad = None
stop_of None verdicts.Second = None
stop_of None verdicts.Third = None
stop_of None verdicts.Ended = None
stop_of None (verdicts.Failed fault) = Some (ends.Fault fault)

-- the text of the end of a reading, or the text that it did not stop
abbrev pub end_text : Option ImageStop → List ℕ
end_text (Some stop) = stop_text stop
end_text None = codes "-"

-- the name of the image with this number, counted from 0
abbrev pub name_at : List (List ℕ) → ℕ → List ℕ
name_at names number = unwrap_or (slice_get names number) []

-- the line of the reading with this number, counted from 0: its items, how many of them are bad,
-- and how it stopped
abbrev pub reading_line : {R : Type 0} → List (List ℕ) → ℕ → Reading R → List ℕ
reading_line names number r = with_name (codes "IMAGE " ++ (decimal (number + 1) ++ (codes " "
    ++ (decimal r.items ++ (codes " " ++ (decimal r.bad ++ (codes " "
    ++ end_text (stop_of (ending_of r.image.status) r.verdict)))))))) (name_at names number)

-- an item that could be read: a block with its length, or a mark
abbrev pub kind_of : ℕ → ItemKind
kind_of zero = kinds.Mark
kind_of (suc n) = kinds.Block (suc n)

-- the line about an item at the difference: its letter, the item, and its offset
abbrev pub item_line : ℕ → List ℕ → ItemKind → ℕ → List ℕ → List ℕ
item_line n letter kind from name = with_name (codes "HAS " ++ (decimal n ++ (letter
    ++ (kind_text kind ++ (codes " " ++ decimal from))))) name

-- the line about the item of a reading, by how it compares with the others, if it is not past the
-- end of the reading
abbrev pub line_by : Verdict → ℕ → ℕ → ℕ → List ℕ → List ℕ
line_by verdicts.First n len from name = item_line n (codes " A ") (kind_of len) from name
line_by verdicts.Bad n len from name = item_line n (codes " - ") kinds.Bad from name
line_by verdicts.Second n len from name = item_line n (codes " B ") (kind_of len) from name
line_by verdicts.Third n len from name = item_line n (codes " C ") (kind_of len) from name
line_by verdicts.Ended n len from name = []
line_by (verdicts.Failed fault) n len from name = []

abbrev pub has_line : {R : Type 0} → List (List ℕ) → ℕ → Reading R → List ℕ
has_line names number r = line_by r.verdict (number + 1) r.length r.from (name_at names number)

-- the line about an item at the difference, or about the whole reading
abbrev pub line_about : {R : Type 0} → Bool → List (List ℕ) → ℕ → Reading R → List ℕ
line_about true names number r = has_line names number r
line_about false names number r = reading_line names number r

-- the lines about these readings, the first of which has the given number
abbrev pub lines_from : {A : Type 0} → (ℕ → A → List ℕ) → ℕ → List A → List ℕ
lines_from line number [] = []
lines_from line number (x ∷ xs) = line number x ++ lines_from line (number + 1) xs
