use Rattle.tape_run.proofs.MergeOpening.{MountsFirst}
use Rattle.tape_run.proofs.merge.now.mount_all.Given as goal

abbrev pub invariant-loop-number : goal.invariant-loop-number
invariant-loop-number g l =
    MountsFirst g.L.ImageSource.gives l.fn.images l.images l.number l.devices.items
