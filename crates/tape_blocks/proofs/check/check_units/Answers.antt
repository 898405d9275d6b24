use Rattle.std.proofs.Common.{◌≡◌, ◌+◌, false, [], ◌∷◌, ◌++◌, drop, Option, Some, None, Result, Ok}
use Rattle.std.proofs.Common.{Err, refl, sym, ap, ◌∙◌, arith}
use Rattle.std.proofs.lemmas.List.{length-drop, take_rest, drop_all}
use Rattle.tape_blocks.specs.{declared.check.BlockFault.BlockFault, declared.check.Found.Found}
use Rattle.tape_blocks.specs.{Faults.bool_eq, Parts.portion, Spans.continues, Units.unit_at}
use Rattle.tape_blocks.proofs.FrontLaws.{begins_more, InOrder-append, bool_eq-true}
use Rattle.tape_blocks.proofs.PartsLaws.{unit_none}
use Rattle.tape_blocks.proofs.LongestFronts.{judged_where, judged_short}
use Rattle.tape_blocks.proofs.check.check_units.Goals as goal

abbrev ok_of : Option Found → Result (Option Found) BlockFault
ok_of o = Ok o

pub returns-then-block-units : goal.returns-then-block-units
returns-then-block-units c =
    grind (arith, judged_short)

pub returns-then-place-block : goal.returns-then-place-block
returns-then-place-block c =
    let shape = c.args.units.now in
    let rest : drop c.units.place c.args.block.now ≡ [] =
    drop_all c.units.place c.args.block.now (omega (arith, c.if-place-block.true)) in
    let unit : unit_at shape.format shape.rec_len (drop c.units.place c.args.block.now) ≡ Ok None =
    ap (unit_at shape.format shape.rec_len) rest
    ∙ unit_none shape.format shape.rec_len shape.some_record in
    (sym (judged_where shape.format shape.rec_len
    shape.offset c.args.begun c.args.block.now c.units.invariant.front.0 c.units.going c.units.place
    (Ok None) shape.some_record c.units.invariant.inside c.units.invariant.front.1 unit tt))

pub returns-in-Err : goal.returns-in-Err
returns-in-Err c =
    let shape = c.args.units.now in
    let unit : unit_at shape.format shape.rec_len (drop c.units.place c.args.block.now)
    ≡ Err c.in-Err.fault =
    sym (rw (take_rest c.args.block.now c.units.place) at c.in-Err.ensures.exact) in
    (c.refuse-in-Err.ensures ∙ sym (judged_where
    shape.format shape.rec_len shape.offset c.args.begun c.args.block.now
    c.units.invariant.front.0 c.units.going c.units.place (Err c.in-Err.fault)
    shape.some_record c.units.invariant.inside c.units.invariant.front.1 unit tt))

pub returns-in-Ok-None : goal.returns-in-Ok-None
returns-in-Ok-None c =
    let shape = c.args.units.now in
    let unit : unit_at shape.format shape.rec_len (drop c.units.place c.args.block.now) ≡ Ok None =
    sym (rw (take_rest c.args.block.now c.units.place) at c.in-Ok-None.ensures.exact)
    ∙ ap ok_of c.in-Ok-None.field-0-is in
    (sym (judged_where shape.format shape.rec_len
    shape.offset c.args.begun c.args.block.now c.units.invariant.front.0 c.units.going c.units.place
    (Ok None) shape.some_record c.units.invariant.inside c.units.invariant.front.1 unit tt))

pub returns-then-continues-going : goal.returns-then-continues-going
returns-then-continues-going c =
    let shape = c.args.units.now in
    let unit : unit_at shape.format shape.rec_len (drop c.units.place c.args.block.now)
    ≡ Ok (Some c.in-Ok-Some.found) =
    sym (rw (take_rest c.args.block.now c.units.place) at c.in-Ok-Some.ensures.exact)
    ∙ ap ok_of c.in-Ok-Some.field-0-is in
    let breaks : bool_eq (continues c.in-Ok-Some.found.span) c.units.going ≡ false =
    grind (arith, bool_eq-true, c.continues.ensures, c.if-continues-going.true) in
    let z : c.units.place + 0 ≡ c.units.place = omega arith in
    let by = judged_where shape.format shape.rec_len shape.offset c.args.begun c.args.block.now
    c.units.invariant.front.0 c.units.going c.units.place (Ok (Some c.in-Ok-Some.found))
    shape.some_record c.units.invariant.inside c.units.invariant.front.1 unit breaks in
    (c.refuse-then-continues-going.ensures ∙ sym (by ∙ rw (breaks, z) refl))

pub units-preserved : goal.units-preserved
units-preserved c =
    let shape = c.args.units.now in
    let walk = c.units.invariant.front in
    let found = c.in-Ok-Some.found in
    let rest = drop c.units.place c.args.block.now in
    let unit : unit_at shape.format shape.rec_len rest ≡ Ok (Some found) =
    sym (rw (take_rest c.args.block.now c.units.place) at c.in-Ok-Some.ensures.exact)
    ∙ ap ok_of c.in-Ok-Some.field-0-is in
    let follows : continues found.span ≡ c.units.going =
    grind (arith, c.continues.ensures, c.if-continues-going.false) in
    record {
      inside =
          let i = rw (take_rest c.args.block.now c.units.place, c.in-Ok-Some.field-0-is) at
          c.in-Ok-Some.ensures.inside in
          omega (arith, i.1, length-drop c.units.place c.args.block.now);
      front = (
        walk.0 ++ portion found rest ∷ [],
        record {
          begins = begins_more shape.format shape.rec_len shape.offset c.args.block.now walk.0
              c.units.place found walk.1.begins unit;
          order = InOrder-append c.args.begun c.units.going c.leaves-going.result walk.0
              (portion found rest ∷ []) walk.1.order (follows, sym c.leaves-going.ensures);
        },
      );
    }
