use Rattle.std.proofs.Common.{List, sym, subst}
use Rattle.std.specs.declared.alloc.Global.{Global}
use Rattle.std.specs.declared.vec.Vec.{Vec}
use Rattle.tape_blocks.specs.Laws.{HoldRecords}
use Rattle.tape_blocks_tests.specs.Records.{contents}
use Rattle.tape_blocks.proofs.BackLaws.{packs_hold}
use Rattle.tape_blocks_tests.proofs.reading.packed_again.Goals as goal

pub records_in_blocks-requires : goal.records_in_blocks-requires
records_in_blocks-requires c = (
  contents c.args.records.now,
  subst (λ (vs : List (Vec _ Global)). HoldRecords c.args.shape (contents vs) (contents
      c.args.records.now)) (sym c.as_slice.ensures.value)
      (packs_hold c.args.shape (contents c.args.records.now)
      (contents c.in_ok-blocks.blocks.items) c.in_ok-blocks.ensures.packed),
)

pub returns-in-Ok-clause-same : goal.returns-in-Ok-clause-same
returns-in-Ok-clause-same c =
    c.in-Ok.ensures (contents c.args.records.now) (subst (λ (vs : List (Vec _ Global)).
    HoldRecords c.args.shape (contents vs) (contents c.args.records.now))
    (sym c.as_slice.ensures.value) (packs_hold c.args.shape (contents c.args.records.now)
    (contents c.in_ok-blocks.blocks.items) c.in_ok-blocks.ensures.packed))
