use Rattle.std.proofs.{Common.◌∙◌, KnownBytes.Appends-trans}
use Rattle.tape_image.proofs.Pieces.{on_err, front_more, front_behind}
use Rattle.tape_run.specs.SalvageLine.{open_gap_line}
use Rattle.tape_run.proofs.salvage.recovery.Recovery.miss_rest.Goals as goal

pub returns-clause-ok : goal.returns-clause-ok
returns-clause-ok g c =
    λ start z h.
    let a = c.in_ok-tear.ensures.ok start z h in (
      a.0,
      Appends-trans _ _ _ _ _ a.1
          (rw (c.records-records.ensures ∙ a.0.piece.counts) at c.in_ok-write_line.ensures.ok),
    )

pub returns-in_err-tear-clause-front : goal.returns-in_err-tear-clause-front
returns-in_err-tear-clause-front g c = on_err c.from_residual.result _ (λ start z h.
    front_more _ _ _ (open_gap_line c.args.sect c.args.first z.piece.records)
    (c.in_err-tear.ensures.front start z h))

pub returns-in_err-write_line-clause-front : goal.returns-in_err-write_line-clause-front
returns-in_err-write_line-clause-front g c =
    on_err c.from_residual-in_err-write_line.result _ (λ start z h.
    let a = c.in_ok-tear.ensures.ok start z h in
    front_behind _ _ _ _ _ a.1
    (rw (c.records-records.ensures ∙ a.0.piece.counts) at c.in_err-write_line.ensures.err))
