use Rattle.tape_label.proofs.laws.vol1_again.Goals as goal

pub returns : goal.returns
returns c = c.read_vol1.ensures.only _ c.write_vol1.ensures.label
