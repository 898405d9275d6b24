use Rattle.std.proofs.Common.{◌≡◌, Some, rules}
use Rattle.tape_set.specs.Layout.{nth}
use Rattle.tape_set_tests.proofs.ContentsLaws.{section_fits}
use Rattle.tape_set_tests.proofs.reach.far.Goals as goal

pub returns-clause-lawful : goal.returns-clause-lawful
returns-clause-lawful c = λ lawful.
    let own : nth c.args.layout.now.files c.args.file ≡ Some c.in-Some.own.now = search rules in
    let here : nth c.in-Some.own.now c.in-Awaits.sect ≡ Some c.in-Some-nth.section.now =
    search rules in
    let fits = section_fits c.args.layout.now c.args.file c.in-Awaits.sect c.in-Some.own.now
    c.in-Some-nth.section.now lawful own here in
    c.moved.ensures.some fits.0 fits.1
