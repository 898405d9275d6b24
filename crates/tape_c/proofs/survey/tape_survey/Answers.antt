use Rattle.std.proofs.Common.{true, false}
use Rattle.tape_c.specs.Surveyed.{bytes_of}
use Rattle.tape_c.proofs.Surveys.{surveys_given}
use Rattle.tape_c.proofs.survey.tape_survey.Goals as goal

pub returns-in-Ok-true : goal.returns-in-Ok-true
returns-in-Ok-true c =
    surveys_given (bytes_of c.args.images.now) c.new-text.result.items c.survey.new.text.items
    c.as_slice.result.now c.args.out.now c.give.new.out c.give.result true
    c.new-text.ensures.items c.as_slice.ensures.value
    (rw c.in-Ok-true.field-0-test at c.in-Ok-true.ensures) c.give.ensures

pub returns-in-Ok-false : goal.returns-in-Ok-false
returns-in-Ok-false c =
    surveys_given (bytes_of c.args.images.now) c.new-text.result.items c.survey.new.text.items
    c.as_slice-in-Ok-false.result.now c.args.out.now c.give-in-Ok-false.new.out
    c.give-in-Ok-false.result false c.new-text.ensures.items
    c.as_slice-in-Ok-false.ensures.value
    (rw c.in-Ok-false.field-0-test at c.in-Ok-false.ensures) c.give-in-Ok-false.ensures
