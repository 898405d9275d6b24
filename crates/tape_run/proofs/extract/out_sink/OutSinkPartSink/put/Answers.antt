use Rattle.std.proofs.Common.{rules, ◌≡◌, Some, refl, subst}
use Rattle.tape_run.specs.OutSinks.{HasTaken}
use Rattle.tape_run.proofs.OutSinks.{put_done}
use Rattle.tape_run.proofs.extract.out_sink.OutSinkPartSink.put.Goals as goal

pub returns-in-Ok-clause-ok : goal.returns-in-Ok-clause-ok
returns-in-Ok-clause-ok g c =
    let old = c.args.self.now in
    let is : old.out ≡ Some c.in-Some.out = search rules in
    λ parts h. put_done _ old.form _ _ old.held.items _ old.weight _ old.records _ old.begun _
    parts _ c.in-Ok.ensures.ok c.in-Ok.ensures.holds refl c.with_end-self.ensures
    c.leaves-self.ensures (subst (λ out. HasTaken g.W.Write.contents old.form out old.held.items
    old.weight old.records old.begun parts) is h)
