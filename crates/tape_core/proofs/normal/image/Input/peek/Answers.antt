use Rattle.std.proofs.Common.{ap, ◌∙◌}
use Rattle.tape_core.specs.NormalForm.Bytes.{looked}
use Rattle.tape_core.proofs.NormalForm.Enough.{looked_sized}
use Rattle.tape_core.proofs.NormalForm.Giving.{seen_front, seen_few}
use Rattle.tape_core.proofs.normal.image.Input.peek.Goals as goal

pub returns-then-branch-clause-seen : goal.returns-then-branch-clause-seen
returns-then-branch-clause-seen g c =
    seen_front _ c.args.room c.args.place c.hold.new.self.held c.look.result
    (c.in_ok-hold.ensures.all c.if-branch.true)
    (c.look.ensures ∙ ap (looked c.args.room c.args.place) c.bytes.ensures)

pub returns-then-branch-clause-size : goal.returns-then-branch-clause-size
returns-then-branch-clause-size g c =
    rw c.look.ensures (looked_sized c.args.room c.args.place c.bytes.result.now)

pub returns-else-branch-clause-seen : goal.returns-else-branch-clause-seen
returns-else-branch-clause-seen g c =
    seen_few _ c.args.room c.args.place c.hold.new.self.held
    (c.in_ok-hold.ensures.end c.if-branch.false).0 (c.in_ok-hold.ensures.end c.if-branch.false).1
