-- The text written for a label is a label with its fields.
use Rattle.std.proofs.Common.{ℕ, List, arith}
use Rattle.tape_label.specs.Written.{text_of, HaveWidths, vol1_pieces, head_pieces, head1_pieces}
use Rattle.tape_label.specs.Written.{trail1_pieces, head2_pieces}
use Rattle.tape_label.specs.{declared.values.Kind.Kind, declared.values.Vol1.Vol1}
use Rattle.tape_label.specs.{declared.values.Head1.Head1, declared.values.Head2.Head2}
use Rattle.tape_label.specs.{declared.values.Trail1.Trail1, Kinds.trailer, Kinds.IsSecond}
use Rattle.tape_label.specs.{Vol1.IsVol1, Head1.HasHead, Head1.IsHead1, Head1.HeadFits}
use Rattle.tape_label.specs.{Head2.IsHead2, Head2.Head2Fits, Trail1.IsTrail1, Trail1.TrailFits}
use Rattle.tape_label.specs.declared.values.Kind.TheVariants as kinds
use Rattle.tape_label.proofs.Pieces.{StandAt, pieces_stand}

pub vol1_text_is : (v : Vol1) → HaveWidths (vol1_pieces v) → IsVol1 (text_of (vol1_pieces v)) v
vol1_text_is v widths =
    let s : StandAt 0 (vol1_pieces v) (text_of (vol1_pieces v)) =
    pieces_stand (vol1_pieces v) widths in
    record {
      kind = record { size = s.1.1.1.1.1.1.1.1; named = s.0 };
      volume = s.1.0;
      access = s.1.1.0;
      implementation = s.1.1.1.1.0;
      owner = s.1.1.1.1.1.0;
      version = s.1.1.1.1.1.1.1.0;
    }

-- the text of a first label has its fields
head_text_has : (kind : Kind) (h : Head1) (blocks : ℕ) (label : List ℕ) → HeadFits h
    → StandAt 0 (head_pieces kind h blocks) label → HasHead label h
head_text_has kind h blocks label fits s = grind arith

pub head1_text_is : (h : Head1) → HeadFits h → HaveWidths (head1_pieces h)
    → IsHead1 (text_of (head1_pieces h)) h
head1_text_is h fits widths =
    let s : StandAt 0 (head1_pieces h) (text_of (head1_pieces h)) =
    pieces_stand (head1_pieces h) widths in
    record {
      kind = record { size = s.1.1.1.1.1.1.1.1.1.1.1.1.1; named = s.0 };
      head = head_text_has kinds.Hdr1 h 0 (text_of (head1_pieces h)) fits s;
    }

pub trail1_text_is : (t : Trail1) → TrailFits t → HaveWidths (trail1_pieces t)
    → IsTrail1 (text_of (trail1_pieces t)) t
trail1_text_is t fits widths =
    let s : StandAt 0 (trail1_pieces t) (text_of (trail1_pieces t)) =
    pieces_stand (trail1_pieces t) widths in
    record {
      kind = record { size = s.1.1.1.1.1.1.1.1.1.1.1.1.1; named = s.0 };
      head = head_text_has (trailer t.eof) t.head t.blocks (text_of (trail1_pieces t)) fits.head s;
      blocks = grind (arith, s);
    }

pub head2_text_is : (kind : Kind) (h : Head2) → IsSecond kind → Head2Fits h
    → HaveWidths (head2_pieces kind h) → IsHead2 (text_of (head2_pieces kind h)) kind h
head2_text_is kind h second fits widths = grind (arith, pieces_stand)
