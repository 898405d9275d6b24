use Rattle.std.proofs.Common.{◌≡◌, ℕ, List, length, take, None, sym, ap, subst, ◌++◌, ◌∙◌, arith}
use Rattle.std.specs.declared.alloc.Global.{Global}
use Rattle.std.specs.declared.vec.Vec.{Vec}
use Rattle.std.proofs.lemmas.List.{take_all, map-append}
use Rattle.std.proofs.lemmas.Result.{err_from_is_err_and}
use Rattle.tape_blocks.specs.declared.parts.Shape.{Shape}
use Rattle.tape_blocks.specs.Packing.{HasRecordLength}
use Rattle.tape_blocks_tests.specs.Records.{contents, IsRefusedOne}
use Rattle.tape_blocks.specs.Records.{AreRecordsOf}
use Rattle.tape_blocks.specs.Run.{Run}
use Rattle.tape_blocks.specs.Tight.{Filled, Packs, bytes_of_all}
use Rattle.tape_blocks_tests.proofs.RecordLaws.{one_more, lengths_push, has_record, refused_for}
use Rattle.tape_blocks_tests.proofs.PutsLaws.{last_block}
use Rattle.tape_blocks_tests.proofs.packing.pack_all.Goals as goal

pub loop-record-preserved : goal.loop-record-preserved
loop-record-preserved c =
    let was = c.loop-record.invariant in
    let puts = c.in_ok-put_record.ensures.ok in
    let more = puts.run was.taken _ was.run in
    let next = one_more c.args.records.now c.loop-record.record-index c.record-item.result
    (omega arith) c.record-item.is in
    record {
      shape = puts.shape ∙ was.shape;
      ended = puts.ended;
      lengths =
          let one = subst (λ (r : List ℕ). HasRecordLength c.args.shape.format c.args.shape.rec_len
          (length r)) c.as_slice.ensures.value
          (subst (λ (s : Shape). HasRecordLength s.format s.rec_len (length c.as_slice.result.now))
          was.shape (puts.length_is was.taken _ was.run)) in
          rw next (lengths_push c.args.shape (contents (take c.loop-record.record-index
          c.args.records.now)) c.record-item.result.items was.lengths one);
      taken = was.taken ++ more.0;
      bytes = map-append (λ (b : Filled). b.bytes) was.taken more.0
          ∙ ap (λ (texts : List (List ℕ)). texts ++ bytes_of_all more.0) was.bytes ∙ more.1;
      run = λ n. rw (next, sym c.as_slice.ensures.value) (more.2 n);
    }

pub returns-in_err-put_record-clause-refused : goal.returns-in_err-put_record-clause-refused
returns-in_err-put_record-clause-refused c =
    let was = c.loop-record.invariant in
    let p = err_from_is_err_and c.from_residual-in_err-put_record.result
    c.from_residual-in_err-put_record.ensures.1 in
    let next = one_more c.args.records.now c.loop-record.record-index c.record-item.result
    (omega arith) c.record-item.is in
    let there = has_record c.args.records.now c.loop-record.record-index _ next in
    let e = c.in_err-put_record.field-0.0 in
    let one = c.in_err-put_record.ensures.err was.taken _ was.run in
    let whole : IsRefusedOne c.args.shape c.record-item.result.items e =
    subst (λ (s : Shape). IsRefusedOne s c.record-item.result.items e) was.shape (subst
    (λ (r : List ℕ). IsRefusedOne c.loop-record.packer.shape r e) c.as_slice.ensures.value one) in
    rw (p.1, p.2) (refused_for e c.args.shape (contents c.args.records.now)
    c.record-item.result.items c.in_ok-packer.ensures.ok.0 there whole)

pub returns-clause-packed : goal.returns-clause-packed
returns-clause-packed c =
    let was = c.loop-record.invariant in
    let all : take c.loop-record.record-index c.args.records.now ≡ c.args.records.now =
    take_all _ _ (omega arith) in
    let run =
    subst (λ (vs : List (Vec ℕ Global)). Run was.taken c.loop-record.packer (contents vs) None 0)
    all (was.run 0) in
    subst (λ (shape : Shape). Packs shape (contents c.args.records.now) (contents
    c.give.new.blocks.items)) was.shape
    (last_block was.taken (contents c.loop-record.blocks.items)
    (contents c.give.new.blocks.items) c.loop-record.packer _ was.bytes run was.ended
    c.in_ok-give.ensures.none c.in_ok-give.ensures.some)

pub returns-clause-lengths : goal.returns-clause-lengths
returns-clause-lengths c =
    let all : take c.loop-record.record-index c.args.records.now ≡ c.args.records.now =
    take_all _ _ (omega arith) in
    subst (λ (vs : List (Vec ℕ Global)). AreRecordsOf c.args.shape (contents vs)) all
    c.loop-record.invariant.lengths
