-- The log of a merge: a row for each item that fewer than two readings have, or that is bad in one.
-- A tab separates the columns, and none contains one.
use Rattle.std.specs.Prelude.{ℕ, ◌+◌, Bool, true, false, ◌||◌, nat_lt, if◌then◌else◌, List, [], ◌∷◌}
use Rattle.std.specs.Prelude.{◌++◌, codes, decimal, length, Option, Some, None}
use Rattle.std.specs.List.{flat_map}
use Rattle.tape_image.specs.Tape.{TapeItem, block, bad, mark}
use Rattle.tape_run.specs.declared.merge.reading.{Reading.Reading, Verdict.Verdict}
use Rattle.tape_run.specs.declared.merge.line.ItemKind.{ItemKind}
use Rattle.tape_run.specs.declared.merge.line.ItemKind.TheVariants as kinds
use Rattle.tape_run.specs.declared.merge.reading.Verdict.TheVariants as verdicts
use Rattle.tape_run.specs.MergeSteps.{column, goods_in, is_bad_one}
use Rattle.tape_run.specs.{MergeLines.kind_text, Quoting.name_text}

-- ---- one item of several readings

-- one of these items is bad
abbrev pub has_bad : List (Option TapeItem) → Bool
has_bad [] = false
has_bad (x ∷ xs) = is_bad_one x || has_bad xs

-- fewer than two of these items could be read, or one is bad
abbrev pub is_logged : List (Option TapeItem) → Bool
is_logged xs = nat_lt (goods_in xs) 2 || has_bad xs

-- the cell for the item of a reading, which is empty if the reading ended before
abbrev pub seen_cell : Option TapeItem → List ℕ
seen_cell None = codes "\t"
seen_cell (Some (block content)) = codes "\tGOOD"
seen_cell (Some bad) = codes "\tBAD"
seen_cell (Some mark) = codes "\tGOOD"

-- the item without its bytes
abbrev pub kind_at : TapeItem → ItemKind
kind_at (block content) = kinds.Block (length content)
kind_at bad = kinds.Bad
kind_at mark = kinds.Mark

-- ---- rows

-- the row of the item with this number, of this kind, with a cell for each reading
abbrev pub row_text : ℕ → ItemKind → List ℕ → List ℕ
row_text n kind cells = (decimal n ++ (codes "\t" ++ kind_text kind)) ++ cells ++ codes "\n"

-- the row of an item of the merged tape, if it has one, given the item of each reading
abbrev pub log_row : ℕ → TapeItem → List (Option TapeItem) → List ℕ
log_row n x xs = if is_logged xs then row_text n (kind_at x) (flat_map seen_cell xs) else []

-- the rows of these items of the merged tape, after a number of other items
abbrev pub log_rows : ℕ → List TapeItem → List (List TapeItem) → List ℕ
log_rows j [] rs = []
log_rows j (x ∷ xs) rs = log_row (j + 1) x (column j rs) ++ log_rows (j + 1) xs rs

-- the names of the columns: the names of the images come last
abbrev pub log_head : List (List ℕ) → List ℕ
log_head names =
    codes "ITEM\tKIND" ++ flat_map (λ name. codes "\t" ++ name_text name) names ++ codes "\n"

-- the log of readings with these names, whose merged tape is `merged`
abbrev pub log_text : List (List ℕ) → List (List TapeItem) → List TapeItem → List ℕ
log_text names readings merged = log_head names ++ log_rows 0 merged readings

-- ---- the same, reading by reading

-- the cell for a reading with this verdict
abbrev pub verdict_cell : Verdict → List ℕ
verdict_cell verdicts.First = codes "\tGOOD"
verdict_cell verdicts.Bad = codes "\tBAD"
verdict_cell verdicts.Second = codes "\tGOOD"
verdict_cell verdicts.Third = codes "\tGOOD"
verdict_cell verdicts.Ended = codes "\t"
verdict_cell (verdicts.Failed fault) = codes "\t"

abbrev pub verdict_cells : {R : Type 0} → List (Reading R) → List ℕ
verdict_cells rs = flat_map (λ r. verdict_cell r.verdict) rs

-- the reading's item is bad
abbrev pub is_bad_verdict : Verdict → Bool
is_bad_verdict verdicts.First = false
is_bad_verdict verdicts.Bad = true
is_bad_verdict verdicts.Second = false
is_bad_verdict verdicts.Third = false
is_bad_verdict verdicts.Ended = false
is_bad_verdict (verdicts.Failed fault) = false

abbrev pub has_bad_verdict : {R : Type 0} → List (Reading R) → Bool
has_bad_verdict [] = false
has_bad_verdict (r ∷ rs) = is_bad_verdict r.verdict || has_bad_verdict rs

-- the row of the best item, with number `n`, if there is one and it has a row; `have` of these
-- readings have it
abbrev pub row_now : {R : Type 0} → ℕ → Option TapeItem → ℕ → List (Reading R) → List ℕ
row_now n None have rs = []
row_now n (Some x) have rs =
    if nat_lt have 2 || has_bad_verdict rs then row_text n (kind_at x) (verdict_cells rs) else []
