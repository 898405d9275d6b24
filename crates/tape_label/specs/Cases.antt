-- The least and the greatest numbers that fit in labels, which are part of the contract of the call
-- `laws::cases`.
use Rattle.std.specs.Prelude.{◌≡◌}
use Rattle.tape_label.specs.declared.values.Format.TheVariants as formats
use Rattle.tape_label.specs.declared.values.{Head1.Head1, Head2.Head2, Trail1.Trail1}
use Rattle.tape_label.specs.{Head1.HeadFits, Head2.Head2Fits, Trail1.TrailFits}

pub record CasesOfNumbers : Type 0 where
  pub least : (head : Head1) → head.sect ≡ 1 → head.sequence ≡ 1 → HeadFits head
  pub greatest : (head : Head1) → head.sect ≡ 9999 → head.sequence ≡ 9999 → HeadFits head
  pub least_second : (head : Head2) → head.format ≡ formats.Fixed → head.block_len ≡ 0
      → head.rec_len ≡ 1 → head.offset ≡ 0 → Head2Fits head
  pub greatest_second : (head : Head2) → head.format ≡ formats.Fixed → head.block_len ≡ 99999
      → head.rec_len ≡ 99999 → head.offset ≡ 99 → Head2Fits head
  pub greatest_trailer : (trail : Trail1) → HeadFits trail.head → trail.blocks ≡ 999999
      → TrailFits trail
