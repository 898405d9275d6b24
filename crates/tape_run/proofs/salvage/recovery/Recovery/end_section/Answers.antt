use Rattle.std.proofs.KnownBytes.{Appends-trans}
use Rattle.tape_image.proofs.Pieces.{on_err, front_more, front_behind}
use Rattle.tape_run.specs.SalvageEnds.{without_gap}
use Rattle.tape_run.proofs.salvage.recovery.Recovery.end_section.Goals as goal

pub returns-clause-ok : goal.returns-clause-ok
returns-clause-ok g c = (
  c.end_by.ensures,
  λ start z h.
      let one = c.in_ok-end_gap.ensures.ok start z h in
      let two = c.in_ok-end_blocks.ensures.ok start (without_gap z) one.0 in
      (two.0, Appends-trans _ _ _ _ _ (rw c.recovered.ensures at one.1) two.1),
)

pub returns-in_err-end_gap-clause-front : goal.returns-in_err-end_gap-clause-front
returns-in_err-end_gap-clause-front g c =
    on_err c.from_residual.result _ (λ start z h. front_more _ _ _ _
    (rw c.recovered.ensures at (c.in_err-end_gap.ensures.front start z h)))

pub returns-in_err-end_blocks-clause-front : goal.returns-in_err-end_blocks-clause-front
returns-in_err-end_blocks-clause-front g c =
    on_err c.from_residual-in_err-end_blocks.result _ (λ start z h.
    let one = c.in_ok-end_gap.ensures.ok start z h in
    front_behind _ _ _ _ _ (rw c.recovered.ensures at one.1)
    (c.in_err-end_blocks.ensures.front start (without_gap z) one.0))
