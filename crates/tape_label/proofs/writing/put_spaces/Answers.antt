use Rattle.std.proofs.{Common.ℕ, Common.refl, Common.arith, lemmas.List.take-replicate}
use Rattle.tape_label.proofs.writing.put_spaces.Goals as goal

pub returns-clause-items : goal.returns-clause-items
returns-clause-items c =
    rw (c.put.ensures.items, take-replicate {X = ℕ} c.args.count 80 32 (omega arith)) refl
