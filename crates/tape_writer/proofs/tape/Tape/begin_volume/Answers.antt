-- A volume with its label, or a prefix of it.
use Rattle.tape_writer.proofs.{Words.◌∷◌, Words.[], Words.refl, Words.block, Last.lasting_err}
use Rattle.tape_writer.proofs.Fronts.{front_here, front_changed, took}
use Rattle.tape_writer.specs.{Tapes.all_volumes, Labels.volume_label}
use Rattle.tape_writer.proofs.tape.Tape.begin_volume.Goals as goal

pub returns-in-Err-clause-lasting : goal.returns-in-Err-clause-lasting
returns-in-Err-clause-lasting g c =
    lasting_err _ _ _ _ _ _ c.in-Err.ensures.err c.change_volume.ensures.count refl

pub returns-in-Err-clause-front : goal.returns-in-Err-clause-front
returns-in-Err-clause-front g c = λ tapes h.
    front_changed _ tapes _ (front_here (g.T.TapeOut.holds c.change_volume.new.self) tapes
    (c.in-Err.ensures.err tapes h))

pub returns-clause-front : goal.returns-clause-front
unfolding volume_label
returns-clause-front g c = λ tapes h.
    let H = g.T.TapeOut.holds c.block.new.self.out in
    rw (← c.write_vol1.ensures.text) (took (g.T.TapeOut.holds c.change_volume.new.self) H
    (block c.write_vol1.result ∷ []) _ c.block.ensures.ok c.block.ensures.err (all_volumes tapes)
    [] (c.in_default.ensures.ok tapes h))
