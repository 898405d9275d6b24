use Rattle.tape_writer.proofs.Words.{◌≡◌, ◌≤◌, ◌-◌, length, take, false, refl}
use Rattle.tape_writer.proofs.inputs.Cutting.{line_ended, line_inside, length_passed, length_inside}
use Rattle.tape_writer.proofs.Words.{arith, length-take-le}
use Rattle.tape_writer.proofs.inputs.Cutting.{length_ended, whole_inside, adds_all}
use Rattle.std.proofs.{Common.eq-eqb, lemmas.Bool.eqb-true}
use Rattle.tape_writer.specs.declared.inputs.cut.Cut.TheVariants.{Lines, Length, Whole}
use Rattle.tape_writer.proofs.inputs.cut.Cut.piece.Goals as goal

pub returns-in-Some-clause-adds : goal.returns-in-Some-clause-adds
returns-in-Some-clause-adds c r is =
    let found = c.in-Some.ensures in
    rw c.in-Lines.is (line_ended _ _ r found.0.high (λ k below is. found.0.before k (omega arith)
    below (eq-eqb _ 10 is)) (eqb-true _ 10 found.1))

pub returns-in-None-clause-adds : goal.returns-in-None-clause-adds
returns-in-None-clause-adds c r is = rw c.in-Lines.is (adds_all Lines _ _ r false refl
    (line_inside _ r (λ k below is. c.in-None.ensures k (omega arith) below (eq-eqb _ 10 is))))

pub returns-then-held-length-clause-adds : goal.returns-then-held-length-clause-adds
returns-then-held-length-clause-adds c r is = rw c.in-Length.is (adds_all
    (Length c.in-Length.length) _ _ r false refl (length_passed _ _ r (omega (arith, is))))

pub returns-then-bytes-wanted-clause-adds : goal.returns-then-bytes-wanted-clause-adds
returns-then-bytes-wanted-clause-adds c r is = rw c.in-Length.is (adds_all
    (Length c.in-Length.length) _ _ r false refl (length_inside _ _ r (omega (arith, is))))

pub returns-else-bytes-wanted-clause-adds : goal.returns-else-bytes-wanted-clause-adds
returns-else-bytes-wanted-clause-adds c r is =
    let bytes = c.args.bytes.now in
    let wanted = c.in-Length.length - c.args.held in
    let fits : wanted ≤ length bytes = omega arith in
    let long : length (take wanted bytes) ≡ wanted = length-take-le wanted _ fits in
    rw c.in-Length.is
    (length_ended _ (take wanted bytes) r (omega (arith, long)) (omega (arith, long, is)))

pub returns-in-Whole-clause-adds : goal.returns-in-Whole-clause-adds
returns-in-Whole-clause-adds c r is =
    rw c.in-Whole.is (adds_all Whole _ _ r false refl (whole_inside _ r))
