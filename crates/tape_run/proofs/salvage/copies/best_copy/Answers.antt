use Rattle.std.proofs.Common.{◌≡◌, ◌+◌, ◌∷◌, ◌++◌, [], take, true, false, rules}
use Rattle.tape_run.specs.SalvageChoice.{is_considered}
use Rattle.tape_run.proofs.SalvageChoice.{passes_copy, takes_copy, taken_more}
use Rattle.tape_run.proofs.salvage.copies.best_copy.Goals.{then-copy-sect+then-ne, else-copy-sect}
use Rattle.tape_run.proofs.salvage.copies.best_copy.Goals as goal

pub loop-copy-preserved : goal.loop-copy-preserved
loop-copy-preserved c =
    let l = c.loop-copy in
    let copy = c.copy-item.result in
    let more : take (l.copy-index + 1) c.args.copies.now
    ≡ take l.copy-index c.args.copies.now ++ copy ∷ [] =
    taken_more _ _ copy copy (search rules) c.copy-item.is in
    rw more (elim c.if-copy-sect.branch [
      | then-copy-sect+then-ne w ↦
          let on : is_considered c.args.sect l.last copy ≡ true = search rules in
          rw (w.best-is, w.last-is) (takes_copy _ _ _ _ _ _ on l.invariant w.better_of.ensures)
      | else-copy-sect w ↦
          let off : is_considered c.args.sect l.last copy ≡ false = search rules in
          rw (w.best-is, w.last-is) (passes_copy _ _ _ _ _ off l.invariant)
    ])
