use Rattle.std.proofs.Common.{◌≡◌, ◌≤◌, ◌<◌, length, take, Some, Ok, sym, ap, ◌∙◌, arith}
use Rattle.std.proofs.{Common.length-take-le, lemmas.List.length-set}
use Rattle.tape_image.specs.{Reader.tape_item, Reader.ending_of}
use Rattle.tape_image.specs.{Spelling.end_len}
use Rattle.tape_image.proofs.{Callers.gave, Callers.met_end, Callers.met_fault, Steps.least_four}
use Rattle.tape_c.specs.Items.{last_entry}
use Rattle.tape_c.proofs.Tables.{nothing_yet, one_more, is_within, ends_full, ends_all, ends_fault}
use Rattle.tape_c.proofs.Tables.{refuses}
use Rattle.tape_c.proofs.items.tape_items.Goals as goal

pub items-init : goal.items-init
items-init c = record {
  on = c.in-Ok.ensures.starts.1;
  limit = omega (arith, c.in-Ok.ensures.starts.0);
  room = omega arith;
  so_far = nothing_yet c.args.image.now c.in-Ok.reader.left c.in-Ok.reader.place c.args.out.now
      c.in-Ok.ensures.unread c.in-Ok.ensures.starts.0;
}

pub returns-in_default : goal.returns-in_default
returns-in_default c = rw c.give_nothing.ensures (refuses c.args.image.now c.args.out.now)

pub items-preserved : goal.items-preserved
items-preserved c =
    let next = c.next.follows.lender-at-none in
    let item = tape_item c.in-Ok-Some.item in
    let step = gave c.items.reader _ next c.in-Ok-Some.item c.next.follows.holds-at-none
    c.items.invariant.on (c.in-Ok-Some.is ∙ ap Ok c.in-Ok-Some.field-0-is) in
    let kind = c.kind_number-kind.result in
    let entry : c.last_entry.result ≡ last_entry (take next.place c.args.image.now) kind =
    c.last_entry.ensures ∙ ap (λ n. last_entry (take n c.args.image.now) kind) c.place.ensures in
    let few : c.items.count < length c.items.out =
    omega (arith, c.if-count-out.false, c.items.invariant.room) in
    record {
      on = step.goes_on;
      limit = step.within;
      room =
          omega (arith, few, length-set c.items.out c.items.count c.last_entry.result);
      so_far = rw entry (one_more c.args.image.now c.items.reader.left next.left
          c.items.reader.place next.place c.items.count kind item c.args.out.now c.items.out
          c.items.invariant.so_far step.takes c.kind_number-kind.ensures
          (omega (arith, few, c.items.auto.out)));
    }

pub returns-then-count-out : goal.returns-then-count-out
returns-then-count-out c =
    let next = c.next.follows.lender-at-none in
    let item = tape_item c.in-Ok-Some.item in
    let step = gave c.items.reader _ next c.in-Ok-Some.item c.next.follows.holds-at-none
    c.items.invariant.on (c.in-Ok-Some.is ∙ ap Ok c.in-Ok-Some.field-0-is) in
    rw c.place-place.ensures (ends_full c.args.image.now c.items.reader.left next.left
    c.items.reader.place next.place c.items.count item c.args.out.now c.items.out
    c.items.invariant.so_far step.takes (omega (arith, c.if-count-out.true, c.items.auto.out)))

pub returns-in-Ok-None : goal.returns-in-Ok-None
returns-in-Ok-None c =
    let next = c.next.follows.lender-at-none in
    let met = met_end c.items.reader _ next c.next.follows.holds-at-none c.items.invariant.on
    (c.in-Ok-None.is ∙ ap Ok c.in-Ok-None.field-0-is) in
    let ending : c.ending.result ≡ Some met.ending = c.ending.ensures ∙ ap ending_of met.ended in
    let marker : c.marker_len.result ≡ end_len met.ending = rw ending at c.marker_len.ensures in
    ends_all c.args.image.now c.items.reader.left next.left c.items.reader.place next.place
    c.items.count _ met.ending c.args.out.now c.items.out c.items.invariant.so_far met.takes
    (rw (marker, c.place-in-Ok-None.ensures) (omega arith))

pub overflow_sub-result : goal.overflow_sub-result
overflow_sub-result c =
    let next = c.next.follows.lender-at-none in
    let met = met_end c.items.reader _ next c.next.follows.holds-at-none c.items.invariant.on
    (c.in-Ok-None.is ∙ ap Ok c.in-Ok-None.field-0-is) in
    let ending : c.ending.result ≡ Some met.ending = c.ending.ensures ∙ ap ending_of met.ended in
    let marker : c.marker_len.result ≡ end_len met.ending = rw ending at c.marker_len.ensures in
    omega (arith, marker, met.moves, c.place-in-Ok-None.ensures)

pub returns-in-Err : goal.returns-in-Err
returns-in-Err c =
    let next = c.next.follows.lender-at-none in
    let met = met_fault c.items.reader _ next c.in-Err.fault c.next.follows.holds-at-none
    c.items.invariant.on c.in-Err.is in
    rw (c.from.ensures, c.number.ensures) (ends_fault c.args.image.now c.items.reader.left next.left
    c.items.reader.place c.items.count c.in-Err.fault c.args.out.now c.items.out
    c.items.invariant.so_far met.takes)

pub slice_bounds-last_entry-end : goal.slice_bounds-last_entry-end
slice_bounds-last_entry-end c =
    let next = c.next.follows.lender-at-none in
    let item = tape_item c.in-Ok-Some.item in
    let step = gave c.items.reader _ next c.in-Ok-Some.item c.next.follows.holds-at-none
    c.items.invariant.on (c.in-Ok-Some.is ∙ ap Ok c.in-Ok-Some.field-0-is) in
    let within = is_within c.args.image.now c.items.reader.left next.left c.items.reader.place
    next.place c.items.count item c.args.out.now c.items.out c.items.invariant.so_far step.takes in
    sym (length-take-le c.place.result c.args.image.now (omega (arith, within, c.place.ensures)))

pub last_entry-requires : goal.last_entry-requires
last_entry-requires c =
    let next = c.next.follows.lender-at-none in
    let item = tape_item c.in-Ok-Some.item in
    let step = gave c.items.reader _ next c.in-Ok-Some.item c.next.follows.holds-at-none
    c.items.invariant.on (c.in-Ok-Some.is ∙ ap Ok c.in-Ok-Some.field-0-is) in
    let within = is_within c.args.image.now c.items.reader.left next.left c.items.reader.place
    next.place c.items.count item c.args.out.now c.items.out c.items.invariant.so_far step.takes in
    omega (
      arith,
      step.extent,
      least_four item,
      c.place.ensures,
      length-take-le c.place.result c.args.image.now (omega (arith, within, c.place.ensures)),
    )
