-- Fields as wide as their positions give pieces that are as wide as theirs.
use Rattle.std.proofs.Common.{arith, ◌≡◌, ℕ, length, drop, refl}
use Rattle.tape_label.specs.Written.{HaveWidths, vol1_pieces, head_pieces, head2_pieces}
use Rattle.tape_label.specs.{declared.values.Kind.Kind, declared.values.Vol1.Vol1}
use Rattle.tape_label.specs.{declared.values.Head1.Head1, declared.values.Head2.Head2}
use Rattle.tape_label.specs.{Kinds.identifier, Widths.IsWide, Widths.IsWideVolume}
use Rattle.tape_label.specs.declared.values.Kind.TheVariants as kinds

four : (kind : Kind) → length (identifier kind) ≡ 4
four kinds.Vol1 = refl
four kinds.Hdr1 = refl
four kinds.Hdr2 = refl
four kinds.Eof1 = refl
four kinds.Eof2 = refl
four kinds.Eov1 = refl
four kinds.Eov2 = refl

-- ---- for the crates above

pub vol1_wide : (v : Vol1) → IsWideVolume v → HaveWidths (vol1_pieces v)
vol1_wide v w = grind arith

-- the pieces after the section and sequence number
head_rest : (h : Head1) (blocks : ℕ) → IsWide h
    → HaveWidths (drop 5 (head_pieces kinds.Hdr1 h blocks))
head_rest h blocks w = grind arith

pub head_wide : (kind : Kind) (h : Head1) (blocks : ℕ) → IsWide h
    → HaveWidths (head_pieces kind h blocks)
head_wide kind h blocks w = grind (arith, four, head_rest)

pub head2_wide : (kind : Kind) (h : Head2) → HaveWidths (head2_pieces kind h)
head2_wide kind h = (four kind, (refl, (refl, (refl, (refl, (refl, (refl, tt)))))))
