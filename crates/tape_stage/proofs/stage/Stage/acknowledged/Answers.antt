use Rattle.tape_stage.proofs.{SlotSteps.ready_each, Tears.staged_named}
use Rattle.tape_stage.proofs.stage.Stage.acknowledged.Goals as goal

pub returns-clause-stands : goal.returns-clause-stands
returns-clause-stands g c honest acked parts is bytes left =
    let s = c.args.self.now in
    let seen = g.D.Disk.seen s.disk in
    let may_leave = g.D.Disk.may_leave s.disk in
    let each = ready_each _ _ _ _ _ _ _ bytes is.ready left in
    staged_named _ _ _ _ _ each.0
