use Rattle.std.proofs.Common.{◌≤◌, length, arith}
use Rattle.tape_stage.proofs.Torn.{holds_torn}
use Rattle.tape_stage.proofs.stage.open_disk.write_kept.Goals as goal

pub returns-clause-torn : goal.returns-clause-torn
returns-clause-torn g c honest =
    let old = g.D.Disk.seen c.args.disk.now in
    let room : c.args.place ≤ length old =
    omega (arith, g.met.D.Disk.long_as_seen c.args.disk.now honest, c.requires) in
    rw (c.sync.ensures.same (c.write_at.ensures.honest.onward honest))
    (holds_torn _ _ _ _ room (c.in_ok-write_at.ensures.written honest))
