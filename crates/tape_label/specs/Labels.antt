-- The label in a block.
use Rattle.std.specs.Prelude.{ℕ, ◌==◌, List, length, if◌then◌else◌, Option, Some, None, Result, Ok}
use Rattle.std.specs.Prelude.{Err}
use Rattle.tape_label.specs.declared.values.Kind.TheVariants.{Vol1, Hdr1, Hdr2, Eof1, Eof2, Eov1}
use Rattle.tape_label.specs.{declared.label.LabelFault.LabelFault, declared.label.Label.Label}
use Rattle.tape_label.specs.declared.label.LabelFault.TheVariants.{NotEighty, Identifier}
use Rattle.tape_label.specs.{declared.values.Kind.Kind, declared.values.Kind.TheVariants.Eov2}
use Rattle.tape_label.specs.{Kinds.kind_at, Vol1.IsVol1, Head1.IsHead1, Head2.IsHead2}
use Rattle.tape_label.specs.Trail1.{IsTrail1}
use Rattle.tape_label.specs.Reading.{◌>>=◌, vol1_at, head1_at, head2_at, trail1_at}
use Rattle.tape_label.specs.declared.label.Label.TheVariants as labels

-- the block is the given label, with its fields
abbrev pub IsLabel : List ℕ → Label → Type 0
IsLabel block (labels.Vol1 fields) = IsVol1 block fields
IsLabel block (labels.Head1 fields) = IsHead1 block fields
IsLabel block (labels.Second kind fields) = IsHead2 block kind fields
IsLabel block (labels.Trail1 fields) = IsTrail1 block fields

-- why a block that is not of any of the seven kinds is not a label
abbrev pub no_kind : List ℕ → LabelFault
no_kind block = if length block == 80 then Identifier else NotEighty

-- the block read as a label of the given kind
abbrev pub read_as : List ℕ → Option Kind → Result Label LabelFault
read_as block None = Err (no_kind block)
read_as block (Some Vol1) = vol1_at block >>= λ fields. Ok (labels.Vol1 fields)
read_as block (Some Hdr1) = head1_at block >>= λ fields. Ok (labels.Head1 fields)
read_as block (Some Hdr2) = head2_at block >>= λ fields. Ok (labels.Second Hdr2 fields)
read_as block (Some Eof1) = trail1_at block >>= λ fields. Ok (labels.Trail1 fields)
read_as block (Some Eof2) = head2_at block >>= λ fields. Ok (labels.Second Eof2 fields)
read_as block (Some Eov1) = trail1_at block >>= λ fields. Ok (labels.Trail1 fields)
read_as block (Some Eov2) = head2_at block >>= λ fields. Ok (labels.Second Eov2 fields)

-- the block read as the label that its first four characters identify
unfoldable pub label_at : List ℕ → Result Label LabelFault
label_at block = read_as block (kind_at block)
