use Rattle.std.proofs.Common.{◌≡◌, length, rules, arith}
use Rattle.std.proofs.lemmas.List.{with_items_is}
use Rattle.tape_stage.proofs.HoldingLaws.{held_same, reads_elapse}
use Rattle.tape_stage.proofs.disk.buffered.Buffered.look_ahead.Goals as goal

pub invariant_of-self-2-clause-low : goal.invariant_of-self-2-clause-low
invariant_of-self-2-clause-low g c =
    let long = rw c.unwrap.ensures at c.resize.ensures.len in
    rw (with_items_is c.resize.new.self c.read.new.buf (omega arith)) (omega (arith, long))

pub invariant_of-self-2-clause-there : goal.invariant_of-self-2-clause-there
invariant_of-self-2-clause-there g c on =
    let long = rw c.unwrap.ensures at c.resize.ensures.len in
    rw (with_items_is c.resize.new.self c.read.new.buf (omega arith))
    (omega (arith, long, c.in-Ok.ensures.value))

pub invariant_of-self-2-clause-right : goal.invariant_of-self-2-clause-right
invariant_of-self-2-clause-right g c honest on =
    let h = c.read.ensures.honest.back honest in
    let size : length c.read.new.buf ≡ length c.as_mut_slice.result.now = omega arith in
    rw (with_items_is c.resize.new.self c.read.new.buf (omega arith))
    (held_same c.args.place c.read.new.buf (g.D.Disk.seen c.read.new.self)
    (rw (c.read.ensures.same h, size) (c.in-Ok-read.ensures.bytes h)))

pub returns-clause-looks : goal.returns-clause-looks
returns-clause-looks g c = record {
  same_length = search rules;
  same = search rules;
  crash = search rules;
  time = λ honest. reads_elapse (c.len.ensures.time honest)
      (c.read.ensures.time (c.len.ensures.honest.onward honest)) (c.len.ensures.crash honest)
      (λ t x. g.met.D.Disk.counts_now _ t x honest);
  honest = search rules;
}
