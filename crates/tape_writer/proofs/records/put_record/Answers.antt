-- The record's end, and one more block.
use Rattle.tape_writer.proofs.Words.{rules, arith, length, refl, ◌∙◌, sym}
use Rattle.tape_writer.proofs.Words.{ap, inl, inr, err_from_is_err_and, Packing}
use Rattle.tape_writer.proofs.Packed.{packing_first, packing_last, packing_with, judged_next}
use Rattle.tape_writer.proofs.{Words.offers_shape, Packed.judged_more, Stuck.stuck_put}
use Rattle.tape_writer.proofs.Room.{begun_spanned, offered_room, taken_room}
use Rattle.tape_writer.proofs.{Left.mid_left, Last.lasting_then, Last.lasting_self}
use Rattle.std.proofs.lemmas.List.{take_rest}
use Rattle.tape_blocks.specs.declared.offer.Offer.TheVariants.{BlockReady}
use Rattle.tape_writer.proofs.records.put_record.Goals as goal

pub offers-init : goal.offers-init
offers-init g c = record {
  file = refl;
  roomy = c.requires.sound.roomy;
  shape = c.requires.sound.shape;
  opened = c.requires.sound.opened;
  begun = λ e. absurd (let ended = c.requires.sound.ended in cc);
  room = omega arith;
  judged = inl (refl, refl, refl);
  lasting = lasting_self _ _ _;
  asked = λ w. w;
  packing = λ set_id fs records k. packing_first _ _ k;
}

pub returns-in-Ok-Taken-clause-packed : goal.returns-in-Ok-Taken-clause-packed
returns-in-Ok-Taken-clause-packed g c = λ set_id fs records k.
    let offers = rw c.in-Ok-Taken.field-0-is at c.in-Ok-Taken.ensures.ok in
    rw c.offers.invariant.file at (packing_last _ _ _ _ c.in-Ok-Taken.ensures.judged offers
    (c.offers.invariant.packing set_id fs records k))

pub offers-preserved : goal.offers-preserved
offers-preserved g c =
    let offers = rw c.in-Ok-BlockReady.field-0-is at c.in-Ok-BlockReady.ensures.ok in
    let packer = c.offers.current.packer in
    let rest = c.offers.rest.now in
    let next = judged_next packer c.offer.new.self c.flush.new.packer rest
    c.in-Ok-BlockReady.taken c.offers.invariant.opened c.in-Ok-BlockReady.ensures.judged offers
    c.in_ok-flush-in-Ok-BlockReady.ensures.emptied in
    record {
      file = c.offers.invariant.file;
      roomy = search rules;
      shape = ap (λ (z : Packing). z.shape) c.in_ok-flush-in-Ok-BlockReady.ensures.emptied
          ∙ (offers_shape packer c.offer.new.self rest
          (BlockReady c.in-Ok-BlockReady.taken) offers ∙ c.offers.invariant.shape);
      opened = ap (λ (z : Packing). z.closed) c.in_ok-flush-in-Ok-BlockReady.ensures.emptied;
      begun = begun_spanned c.offers.current.file.shape packer c.offer.new.self
          c.flush.new.packer rest c.in-Ok-BlockReady.taken c.offers.invariant.shape
          c.offers.invariant.opened c.offers.invariant.begun offers
          c.in_ok-flush-in-Ok-BlockReady.ensures.emptied;
      room = omega (
        arith,
        c.offers.invariant.room,
        offered_room (length c.args.volumes.now) c.args.capacity c.offers.tape.course
            packer c.offer.new.self rest c.in-Ok-BlockReady.taken offers,
        c.in_ok-flush-in-Ok-BlockReady.ensures.room,
      );
      judged = inr (
        judged_more c.args.current.now.file.shape c.args.current.now.packer packer
            c.args.whole.now rest c.requires.sound.shape c.requires.sound.opened
            c.requires.sound.ended _
            c.offers.invariant.judged c.in-Ok-BlockReady.ensures.judged,
        rw (take_rest rest c.in-Ok-BlockReady.taken) next,
      );
      lasting = lasting_then _ _ _ _ _ _ _ _ _ c.offers.invariant.lasting c.flush.ensures.lasting;
      asked = λ w. c.in_ok-flush-in-Ok-BlockReady.ensures.asked (c.offers.invariant.asked w);
      packing = λ set_id fs records k.
          rw (take_rest rest c.in-Ok-BlockReady.taken)
          (let now = c.offers.invariant.packing set_id fs records k in
          packing_with _ _ _ _ _ c.in-Ok-BlockReady.ensures.judged offers
          c.in_ok-flush-in-Ok-BlockReady.ensures.emptied now
          (c.in_ok-flush-in-Ok-BlockReady.ensures.flushed offers.0 set_id now.draft now.is_open));
    }

pub returns-in_err-flush-in-Ok-BlockReady-clause-stuck :
    goal.returns-in_err-flush-in-Ok-BlockReady-clause-stuck
returns-in_err-flush-in-Ok-BlockReady-clause-stuck g c =
    let offers = rw c.in-Ok-BlockReady.field-0-is at c.in-Ok-BlockReady.ensures.ok in
    let p = err_from_is_err_and c.from_residual.result c.from_residual.ensures.1 in
    rw (p.1, p.2) (λ e set_id fs records k.
    let q = c.in_err-flush-in-Ok-BlockReady.ensures.stuck e in
    rw q.0 (rw c.offers.invariant.file at (stuck_put _ _ _ _ _
    c.in-Ok-BlockReady.ensures.judged offers
    (c.offers.invariant.packing set_id fs records k) q.1)))

pub returns-in-Ok-Taken-clause-room : goal.returns-in-Ok-Taken-clause-room
returns-in-Ok-Taken-clause-room g c =
    let offers = rw c.in-Ok-Taken.field-0-is at c.in-Ok-Taken.ensures.ok in
    let shape = sym c.offers.invariant.shape in
    omega (
      arith,
      c.offers.invariant.room,
      taken_room (length c.args.volumes.now) c.args.capacity c.offers.tape.course
          c.offers.current.packer
          c.offer.new.self c.offers.rest.now
          (rw (← c.offers.invariant.file, shape) at c.requires.sound.ready.writable)
          (λ e. rw shape at (c.offers.invariant.begun e))
          c.in-Ok-Taken.ensures.judged offers,
    )

pub returns-in_err-flush-in-Ok-BlockReady-clause-front :
    goal.returns-in_err-flush-in-Ok-BlockReady-clause-front
returns-in_err-flush-in-Ok-BlockReady-clause-front g c =
    let offers = rw c.in-Ok-BlockReady.field-0-is at c.in-Ok-BlockReady.ensures.ok in
    let p = err_from_is_err_and c.from_residual.result c.from_residual.ensures.1 in
    rw (p.1, p.2) (λ set_id fs records k not. rw c.offers.invariant.file at (
    mid_left {H = g.T.TapeOut.holds c.offers.tape.out} {K = g.T.TapeOut.holds c.flush.new.tape.out}
    _ (λ e t h. rw (c.in_err-flush-in-Ok-BlockReady.ensures.stuck e).0 h) _ _ _ _ _
    c.in-Ok-BlockReady.ensures.judged offers
    (λ d o other. c.in_err-flush-in-Ok-BlockReady.ensures.front offers.0 set_id d o other)
    (c.offers.invariant.packing set_id fs records k)))
