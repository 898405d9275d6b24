-- What `extract` writes: the records of a file, by the form.
use Rattle.std.specs.Prelude.{◌≡◌, ℕ, List, [], ◌∷◌, ◌++◌, codes, length, Option, Some, None}
use Rattle.std.specs.Prelude.{if◌then◌else◌}
use Rattle.tape_blocks.specs.{Block.Portion, CountedForm.length_bytes, Spans.leaves, Spans.join}
use Rattle.tape_blocks.specs.{Spans.content_after, declared.parts.Form.Form}
use Rattle.tape_blocks.specs.declared.parts.Form.TheVariants.{Lines, Raw, Counted}

-- what precedes a record of this length
abbrev pub record_head : Form → ℕ → List ℕ
record_head Lines n = []
record_head Raw n = []
record_head Counted n = length_bytes n

-- the terminator of each record
abbrev pub record_end : Form → List ℕ
record_end Lines = codes "\n"
record_end Raw = []
record_end Counted = []

-- one record
abbrev pub record_text : Form → List ℕ → List ℕ
record_text form record_bytes =
    record_head form (length record_bytes) ++ (record_bytes ++ record_end form)

-- the records, one after another
abbrev pub records_text : Form → List (List ℕ) → List ℕ
records_text form [] = []
records_text form (record_bytes ∷ others) =
    record_text form record_bytes ++ records_text form others

-- the records into which the parts join, without an unfinished one
abbrev pub output_of : Form → List Portion → List ℕ
output_of form parts = records_text form (join parts).records

-- the text that one part adds, behind those of its unfinished record if there are any: its bytes,
-- and the terminator if it ends the record. In the counted form the length of a record precedes
-- it, so that nothing is written before the last part, and then the whole record.
abbrev pub part_text : Form → Option (List ℕ) → Portion → List ℕ
part_text Lines begun p = p.bytes ++ (if leaves p.span then [] else record_end Lines)
part_text Raw begun p = p.bytes ++ (if leaves p.span then [] else record_end Raw)
part_text Counted begun p =
    if leaves p.span then [] else record_text Counted (content_after begun p.bytes)

-- of the bytes of an unfinished record, those that are written, and those that are held back
abbrev pub sent_of : Option (List ℕ) → Form → List ℕ
sent_of None form = []
sent_of (Some front) Lines = front
sent_of (Some front) Raw = front
sent_of (Some front) Counted = []

abbrev pub held_of : Option (List ℕ) → Form → List ℕ
held_of None form = []
held_of (Some front) Lines = []
held_of (Some front) Raw = []
held_of (Some front) Counted = front

-- the bytes of the unfinished record after one more part, if there is one
abbrev pub rest_after : Option (List ℕ) → Portion → Option (List ℕ)
rest_after begun p = if leaves p.span then Some (content_after begun p.bytes) else None

-- the maximum length of a record that is held back
abbrev pub most_held : ℕ
most_held = 268435456

-- What is written in the counted form determines the records.
abbrev pub CountedKeepsRecords : Type 0
CountedKeepsRecords = (ps qs : List Portion) → output_of Counted ps ≡ output_of Counted qs
    → (join ps).records ≡ (join qs).records
