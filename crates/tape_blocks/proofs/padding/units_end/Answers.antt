use Rattle.std.proofs.Common.{◌≡◌, ◌+◌, [], ◌∷◌, ◌++◌, drop, length, Option, Some, None, Result}
use Rattle.std.proofs.Common.{Ok, Err, sym, ap, ◌∙◌, arith}
use Rattle.std.proofs.lemmas.List.{length-drop, take_rest}
use Rattle.tape_blocks.specs.{declared.check.BlockFault.BlockFault, declared.check.Found.Found}
use Rattle.tape_blocks.specs.{Parts.portion, Units.unit_at}
use Rattle.tape_blocks.proofs.{FrontLaws.begins_more, PartsLaws.parts_none, PartsLaws.parts_end}
use Rattle.tape_blocks.proofs.{PartsLaws.parts_fault, Wide.ended}
use Rattle.tape_blocks.proofs.padding.units_end.Goals as goal

abbrev ok_of : Option Found → Result (Option Found) BlockFault
ok_of o = Ok o

pub returns-in-Ok-None-clause-value : goal.returns-in-Ok-None-clause-value
returns-in-Ok-None-clause-value c =
    let u = c.args.units.now in
    let i = c.units.invariant in
    let unit : unit_at u.format u.rec_len (drop c.units.place c.args.block.now) ≡ Ok None =
    sym (rw (take_rest c.args.block.now c.units.place) at c.in-Ok-None.ensures.exact)
    ∙ ap ok_of c.in-Ok-None.field-0-is in
    ended u.format u.rec_len u.offset c.args.block.now i.front.0 c.units.place u.some_record
    i.inside i.front.1 (parts_end u.format u.rec_len _ unit)

pub returns-in-Err-clause-value : goal.returns-in-Err-clause-value
returns-in-Err-clause-value c =
    let u = c.args.units.now in
    let i = c.units.invariant in
    let unit : unit_at u.format u.rec_len (drop c.units.place c.args.block.now)
    ≡ Err c.in-Err.field-0 =
    sym (rw (take_rest c.args.block.now c.units.place) at c.in-Err.ensures.exact) in
    ended u.format u.rec_len u.offset c.args.block.now i.front.0 c.units.place u.some_record
    i.inside i.front.1 (parts_fault u.format u.rec_len _ _ unit)

pub returns-clause-value : goal.returns-clause-value
returns-clause-value c =
    let u = c.args.units.now in
    let i = c.units.invariant in
    let none : length (drop c.units.place c.args.block.now) ≡ 0 =
    omega (arith, length-drop c.units.place c.args.block.now, c.units-test.false) in
    ended u.format u.rec_len u.offset c.args.block.now i.front.0 c.units.place u.some_record
    i.inside i.front.1 (parts_none u.format u.rec_len _ none)

pub units-preserved : goal.units-preserved
units-preserved c =
    let u = c.args.units.now in
    let i = c.units.invariant in
    let found = c.in-Ok-Some.found in
    let rest = drop c.units.place c.args.block.now in
    let unit : unit_at u.format u.rec_len rest ≡ Ok (Some found) =
    sym (rw (take_rest c.args.block.now c.units.place) at c.in-Ok-Some.ensures.exact)
    ∙ ap ok_of c.in-Ok-Some.field-0-is in
    record {
      inside =
          let k = rw (take_rest c.args.block.now c.units.place, c.in-Ok-Some.field-0-is) at
          c.in-Ok-Some.ensures.inside in
          omega (arith, k.1, length-drop c.units.place c.args.block.now);
      front = (
        i.front.0 ++ portion found rest ∷ [],
        begins_more u.format u.rec_len u.offset c.args.block.now i.front.0 c.units.place found
            i.front.1 unit,
      );
    }
