use Rattle.std.proofs.Common.{◌∙◌, sym}
use Rattle.tape_stage.proofs.HoldingLaws.{all_written, left_none, then_elapses}
use Rattle.tape_stage.proofs.disk.buffered.BufferedDisk.sync.Goals as goal

pub returns-in-Ok-clause-durable : goal.returns-in-Ok-clause-durable
returns-in-Ok-clause-durable g c honest x left =
    let passed = c.in_ok-pass_on.ensures in
    let onward = passed.looks.honest.onward honest in
    c.in-Ok.ensures.durable onward x (left_none _ _ _ x (all_written _ _ passed.clean) left)
    ∙ sym (c.pass_on.new.self.right onward passed.clean) ∙ passed.looks.same honest

pub returns-in-Ok-clause-time : goal.returns-in-Ok-clause-time
returns-in-Ok-clause-time g c honest =
    let passed = c.in_ok-pass_on.ensures in
    let onward = passed.looks.honest.onward honest in
    then_elapses _ _ (passed.looks.time honest) (c.sync.ensures.time onward)
    (all_written _ _ passed.clean) (passed.looks.crash honest)
    (λ t x. g.met.D.Disk.counts_now _ t x onward)

pub returns-in-Err-clause-time : goal.returns-in-Err-clause-time
returns-in-Err-clause-time g c honest =
    let passed = c.in_ok-pass_on.ensures in
    let onward = passed.looks.honest.onward honest in
    then_elapses _ _ (passed.looks.time honest) (c.sync.ensures.time onward)
    (all_written _ _ passed.clean) (passed.looks.crash honest)
    (λ t x. g.met.D.Disk.counts_now _ t x onward)
