-- What `list` prints for one item.
use Rattle.std.specs.Prelude.{ℕ, ◌++◌, nat_lt, if◌then◌else◌, List, ◌∷◌, length, codes}
use Rattle.std.specs.Prelude.{Result, Ok, Err}
use Rattle.tape_image.specs.Tape.{TapeItem, block, bad, mark}
use Rattle.tape_label.specs.declared.label.{LabelFault.LabelFault, Label.Label}
use Rattle.tape_label.specs.declared.values.{Head1.Head1, Head2.Head2}
use Rattle.tape_label.specs.declared.values.Kind.{Kind}
use Rattle.tape_label.specs.{Digits.digits, Formats.letter, Kinds.identifier, Labels.label_at}
use Rattle.tape_label.specs.declared.label.Label.TheVariants as labels
use Rattle.tape_run.specs.Identifier.{identifier_text}

-- The number of an item in at least six digits. An image has room for less than 2 ^ 30 items.
abbrev pub item_number : ℕ → List ℕ
item_number n =
    if nat_lt n 1000000 then digits 6 n
    else (if nat_lt n 10000000 then digits 7 n
    else (if nat_lt n 100000000 then digits 8 n
    else (if nat_lt n 1000000000 then digits 9 n
    else digits 10 n)))

-- file, file set, section and sequence number
abbrev pub head_text : Head1 → List ℕ
head_text head =
    identifier_text head.file_id ++ codes " " ++ identifier_text head.set_id ++ codes " "
    ++ digits 4 head.sect ++ codes " " ++ digits 4 head.sequence

-- the label's identifier, the format, block length, record length and buffer offset
abbrev pub head2_text : Kind → Head2 → List ℕ
head2_text kind label =
    identifier kind ++ codes " " ++ letter label.format ∷ codes " "
    ++ digits 5 label.block_len ++ codes " "
    ++ digits 5 label.rec_len ++ codes " " ++ digits 2 label.offset

-- a label; a trailer label has the same fields as a header, and the number of blocks
abbrev pub label_text : Label → List ℕ
label_text (labels.Vol1 label) = codes "VOL1 " ++ identifier_text label.volume
label_text (labels.Head1 label) = codes "HDR1 " ++ head_text label
label_text (labels.Second kind label) = head2_text kind label
label_text (labels.Trail1 label) = (if label.eof then codes "EOF1 " else codes "EOV1 ")
    ++ head_text label.head ++ codes " " ++ digits 6 label.blocks

-- a block of this length that reads as a label is listed as that label, wherever it is
abbrev pub block_text : Result Label LabelFault → ℕ → List ℕ
block_text (Ok label) length = label_text label
block_text (Err _) length = codes "BLOCK " ++ digits 5 length

-- an item
abbrev pub item_text : TapeItem → List ℕ
item_text (block bytes) = block_text (label_at bytes) (length bytes)
item_text bad = codes "BAD"
item_text mark = codes "MARK"

-- the line of the item with this number, counted from 1
abbrev pub line_of : ℕ → TapeItem → List ℕ
line_of n item = item_number n ++ codes " " ++ item_text item ++ codes "\n"
