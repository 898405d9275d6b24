use Rattle.std.proofs.Common.{◌≡◌, subst}
use Rattle.tape_blocks.specs.Spans.{InOrder}
use Rattle.tape_run.proofs.Comparing.{block_yes, block_no}
use Rattle.tape_run.proofs.reel_reader.walk.has_next.Goals as goal

pub returns-in-Ok-clause-yes : goal.returns-in-Ok-clause-yes
returns-in-Ok-clause-yes g c =
    let (parts, holds, order) = c.in-Ok.ensures.found in
    block_yes c.returns_all.result _ _ c.args.shape.now c.args.block.now _ parts (
      holds,
      (
        c.in-Ok.field-0,
        subst (λ z. InOrder z parts c.in-Ok.field-0) c.goes_on_at-begun.ensures
            order,
      ),
    )
    (c.new.ensures parts holds) c.returns_all.ensures.yes

pub returns-in-Ok-clause-no : goal.returns-in-Ok-clause-no
returns-in-Ok-clause-no g c =
    block_no c.returns_all.result (g.S.PartWalk.ahead c.args.sink.now) c.args.shape.now
    c.args.block.now _ c.new.ensures c.returns_all.ensures.no
