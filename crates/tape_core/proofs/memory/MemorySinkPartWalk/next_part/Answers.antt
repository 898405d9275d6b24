use Rattle.std.proofs.Common.{◌+◌, drop, refl, ◌∙◌, arith}
use Rattle.tape_blocks.specs.Parts.{view}
use Rattle.tape_core.specs.Memory.{portions}
use Rattle.tape_core.proofs.{Crashes.only_same, Laid.drop_get}
use Rattle.tape_core.proofs.memory.MemorySinkPartWalk.next_part.Goals as goal

pub returns : goal.returns
returns c =
    let sink = c.args.self.now in
    let parts = portions sink in
    let more = drop_get parts sink.given (view c.lent.result) c.lent.ensures.value in (
      (
        refl,
        λ _. tt,
        record {
          kept = λ parts holds. holds;
          crash = λ parts holds. only_same _ _;
          same_weight = refl;
          gives = λ all is. (drop (sink.given + 1) parts, is ∙ more, refl);
          lends = (c.lent.ensures.short, omega (arith, c.if-given-count.false, c.count.ensures));
          counts = refl;
          why = tt;
        },
      ),
      record { after_borrow = tt },
    )
