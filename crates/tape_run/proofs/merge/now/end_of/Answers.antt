use Rattle.std.proofs.Common.{sym, subst, rules, ◌+◌}
use Rattle.tape_image.specs.declared.item.Ending.TheVariants as endings
use Rattle.tape_run.proofs.MergeReports.{EndsSoFar, ends_here, ending_is, ending_none}
use Rattle.tape_run.proofs.MergeReports.{ends_physical, ends_kept}
use Rattle.tape_run.proofs.merge.now.end_of.Goals.{then-reading-items+in-Some-Physical}
use Rattle.tape_run.proofs.merge.now.end_of.Goals.{then-reading-items+in-None, else-reading-items}
use Rattle.tape_run.proofs.merge.now.end_of.Goals as goal

pub returns-in-Some-Marked : goal.returns-in-Some-Marked
returns-in-Some-Marked g c = ends_here _ _ _ _ endings.Marked (search rules) c.reading-item.is
    (search rules) (ending_is _ endings.Marked (search rules))

pub loop-reading-preserved : goal.loop-reading-preserved
loop-reading-preserved g c = elim c.if-reading-items.branch [
  | then-reading-items+in-Some-Physical w ↦
      subst (EndsSoFar c.args.items (c.loop-reading.reading-index + 1) c.args.readings.now)
      (sym w.end-is) (ends_physical _ _ _ _ _ (search rules) c.reading-item.is (search rules)
      (search rules) c.loop-reading.invariant)
  | then-reading-items+in-None w ↦
      subst (EndsSoFar c.args.items (c.loop-reading.reading-index + 1) c.args.readings.now)
      (sym w.end-is) (ends_kept _ _ _ _ _ (search rules) c.reading-item.is (λ ending _ at.
      ending_none _ ending (search rules) at) c.loop-reading.invariant)
  | else-reading-items w ↦
      subst (EndsSoFar c.args.items (c.loop-reading.reading-index + 1) c.args.readings.now)
      (sym w.end-is) (ends_kept _ _ _ _ _ (search rules) c.reading-item.is
      (λ ending many _. w.if-reading-items.false many) c.loop-reading.invariant)
]
