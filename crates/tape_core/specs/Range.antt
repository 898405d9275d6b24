-- The invariant of a checkpoint, as decidable tests.
use Rattle.std.specs.Prelude.{ℕ, nat_le, ◌==◌, ◌&&◌, ◌||◌, not, Bool, true, Option, Some, None}
use Rattle.tape_label.specs.declared.values.Format.{Format}
use Rattle.tape_label.specs.declared.values.Format.TheVariants.{Fixed, Counted, Spanned}
use Rattle.tape_label.specs.declared.values.Format.TheVariants.{Undefined, Variable}
use Rattle.tape_blocks.specs.Packing.{longest_block}
use Rattle.tape_set.specs.declared.position.Position.{Position}
use Rattle.tape_set.specs.declared.position.Position.TheVariants.{Awaits, Finished}
use Rattle.tape_set.specs.{Position.is_start, Lawful.FileForm, Lawful.most_blocks}
use Rattle.tape_core.specs.{Known.may_span, Known.is_finished, Known.most_staged, Point.Point}

-- records of format F have a length from 1 to 99,999; in the other formats the length is 0
abbrev pub length_in_range : Format → ℕ → Bool
length_in_range Fixed rec_len = nat_le 1 rec_len && nat_le rec_len longest_block
length_in_range Counted rec_len = rec_len == 0
length_in_range Spanned rec_len = rec_len == 0
length_in_range Undefined rec_len = rec_len == 0
length_in_range Variable rec_len = rec_len == 0

-- the numbers of a form are in range
abbrev pub form_in_range : FileForm → Bool
form_in_range form = length_in_range form.format form.rec_len && nat_le form.offset 99

-- sections are numbered from 1 to 9,999; blocks and parts have a greatest number
abbrev pub position_in_range : Position → Bool
position_in_range (Awaits sect block part) = nat_le 1 sect && nat_le sect 9999
    && nat_le block most_blocks && nat_le part longest_block
position_in_range Finished = true

-- the form is known exactly if the position is not the start of the file
abbrev pub known_where_due : Option FileForm → Position → Bool
known_where_due None position = is_start position
known_where_due (Some form) position = not (is_start position)

-- a record may be unfinished only in formats S and V, and not at the end of the file
abbrev pub may_begin : Option FileForm → Position → Bool
may_begin known position = may_span known && not (is_finished position)

-- the numbers and flags can be those of a checkpoint
abbrev pub in_range : Point → Bool
in_range point =
    nat_le 1 point.file && nat_le point.file 9999 && position_in_range point.position
    && known_where_due point.known point.position
    && (not point.begun || may_begin point.known point.position) && nat_le point.staged most_staged
