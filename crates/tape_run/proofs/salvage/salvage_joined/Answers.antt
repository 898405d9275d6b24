use Rattle.std.proofs.Common.{rules}
use Rattle.tape_run.proofs.SalvageJoined.{joined_ok, joined_err}
use Rattle.tape_run.proofs.salvage.salvage_joined.Goals as goal

pub returns-clause-ok : goal.returns-clause-ok
returns-clause-ok g c = joined_ok g.W.Write.contents g.L.ImageSource.size g.L.ImageSource.gives
    g.R.Read.remaining c.args.task.now c.args.out c.salvage_to-2.result _ _ _ _ _ _ _
    c.as_slice.result.now (search rules) c.in_ok-write_text.ensures.ok c.salvage_to-2.ensures.ok

pub returns-clause-err : goal.returns-clause-err
returns-clause-err g c = joined_err g.W.Write.contents g.L.ImageSource.size g.L.ImageSource.gives
    g.R.Read.remaining c.args.task.now c.args.out c.salvage_to-2.result _ _ _ _ _ _ _ _
    c.as_slice.result.now (search rules) c.in_ok-write_text.ensures.ok c.salvage_to-2.ensures.err
