use Rattle.tape_core.proofs.NormalForm.Begun.{begun_any}
use Rattle.tape_core.proofs.normal.machine.begin.Goals as goal

pub returns : goal.returns
returns c =
    rw (
      c.or-3.ensures,
      c.or-2.ensures,
      c.or.ensures,
      c.begin_in.ensures,
      c.begin_in-2.ensures,
      c.begin_in-3.ensures,
      c.begin_in-4.ensures,
    ) (begun_any c.args.bytes.now)
