use Rattle.std.proofs.Common.{rules, ◌≡◌}
use Rattle.tape_core.specs.Stands.{weight_of}
use Rattle.tape_run.proofs.OutSinks.{all_kept}
use Rattle.tape_run.proofs.extract.out_sink.OutSinkPartSink.cut_to.Goals as goal

pub returns-then-point-self-clause-ok : goal.returns-then-point-self-clause-ok
returns-then-point-self-clause-ok g c = λ front rest h e.
    let all : weight_of front ≡ c.args.self.now.weight = search (rules, e) in
    all_kept _ _ _ _ _ _ _ front rest all h
