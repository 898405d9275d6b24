use Rattle.std.proofs.Common.{Some, refl}
use Rattle.tape_c.proofs.Listings.{lists_all, lists_fault}
use Rattle.tape_c.proofs.list.tape_list.Goals as goal

pub returns-in-Ok : goal.returns-in-Ok
returns-in-Ok c =
    lists_all c.args.image.now c.new-text.result.items c.list_to.new.writer.items
    c.as_slice.result.now c.args.out.now c.give.new.out (Some c.list_to.new.reader.now)
    c.give.result c.new-text.ensures.items c.as_slice.ensures.value c.in-Ok.ensures.ok
    c.give.ensures

pub returns : goal.returns
returns c =
    let met = c.in-Err-Image.fault in
    lists_fault c.args.image.now c.new-text.result.items c.list_to.new.writer.items
    c.as_slice-in_default.result.now c.args.out.now c.give-in_default.new.out
    (Some c.list_to.new.reader.now) met met.cause c.give-in_default.result
    c.new-text.ensures.items c.as_slice-in_default.ensures.value refl c.in_default.not-Device
    c.in_default.not-OutOfMemory (rw c.in-Err-Image.field-0-is at c.in-Err-Image.ensures.fault)
    (rw (c.from-state.ensures, c.number.ensures) at c.give-in_default.ensures)
