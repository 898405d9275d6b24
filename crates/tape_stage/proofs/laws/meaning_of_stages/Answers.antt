use Rattle.tape_stage.proofs.Once.{either_is, named_stands, read_one_of, remains_once, staged_once}
use Rattle.tape_stage.proofs.Inside.{bad_inside}
use Rattle.tape_stage.proofs.laws.meaning_of_stages.Goals as goal

pub returns-clause-stands_once : goal.returns-clause-stands_once
returns-clause-stands_once c = staged_once

pub returns-clause-remains_once : goal.returns-clause-remains_once
returns-clause-remains_once c = remains_once

pub returns-clause-named_stands : goal.returns-clause-named_stands
returns-clause-named_stands c = named_stands

pub returns-clause-either_stands : goal.returns-clause-either_stands
returns-clause-either_stands c = either_is

pub returns-clause-reads_one_of : goal.returns-clause-reads_one_of
returns-clause-reads_one_of c = read_one_of

pub returns-clause-bad_inside : goal.returns-clause-bad_inside
returns-clause-bad_inside c = λ old bytes second g point weight front rest part.
    bad_inside second g point weight front rest part old bytes
