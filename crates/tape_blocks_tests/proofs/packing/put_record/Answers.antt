use Rattle.std.proofs.Common.{◌++◌, length, refl, ap, subst, ◌∙◌}
use Rattle.std.proofs.lemmas.List.{take_rest}
use Rattle.std.proofs.lemmas.Result.{err_from_is_err_and}
use Rattle.tape_blocks.specs.declared.offer.PackFault.TheVariants.{RecordLength}
use Rattle.tape_blocks.specs.declared.parts.Shape.{Shape}
use Rattle.tape_blocks.specs.declared.offer.Offer.TheVariants.{Taken, BlockReady}
use Rattle.tape_blocks.specs.Packing.{Packing, Offers, HasRecordLength}
use Rattle.tape_blocks_tests.specs.Records.{contents, RefusesRecord}
use Rattle.tape_blocks_tests.proofs.PutsLaws.{puts_none, puts_block, going_refused}
use Rattle.tape_blocks.proofs.RunLaws.{offers_shape, going_ends, going_length}
use Rattle.tape_blocks_tests.proofs.packing.put_record.Goals as goal

pub offers-init : goal.offers-init
offers-init c = record {
  shape = refl;
  puts = λ taken records run. puts_none taken records _ _ c.args.whole.now run;
}

pub offers-preserved : goal.offers-preserved
offers-preserved c =
    let offers : Offers c.offers.packer c.offers.rest.now (BlockReady c.in-BlockReady.taken)
    c.offer.new.self = rw c.in-BlockReady.is at c.in_ok-offer.ensures.ok in
    record {
      shape = ap (λ (v : Packing). v.shape) c.in_ok-give-in-BlockReady.ensures.taken
          ∙ offers_shape c.offers.packer c.offer.new.self c.offers.rest.now
          (BlockReady c.in-BlockReady.taken) offers ∙ c.offers.invariant.shape;
      puts = λ taken records run. rw (take_rest c.offers.rest.now c.in-BlockReady.taken) (puts_block
          taken records (contents c.args.blocks.now.items) (contents c.offers.blocks.items)
          (contents c.give.new.blocks.items) c.offers.packer c.offer.new.self c.give.new.packer
          c.args.whole.now c.offers.rest.now c.in-BlockReady.taken
          (c.offers.invariant.puts taken records run) c.in_ok-offer.ensures.judged offers
          c.in_ok-give-in-BlockReady.ensures.some c.in_ok-give-in-BlockReady.ensures.taken);
    }

pub returns-in-Taken-clause-ok : goal.returns-in-Taken-clause-ok
returns-in-Taken-clause-ok c =
    let offers : Offers c.offers.packer c.offers.rest.now Taken c.offer.new.self =
    rw c.in-Taken.is at c.in_ok-offer.ensures.ok in
    record {
      shape = offers_shape c.offers.packer c.offer.new.self c.offers.rest.now Taken offers
          ∙ c.offers.invariant.shape;
      ended = ap (λ (v : Packing). v.begun) offers.part;
      length_is = λ taken records run.
          subst (λ (s : Shape). HasRecordLength s.format s.rec_len (length c.args.whole.now))
          c.offers.invariant.shape
          (going_length _ c.offers.packer records c.args.whole.now c.offers.rest.now
          (c.offers.invariant.puts taken records run).going c.in_ok-offer.ensures.judged);
      run = λ taken records run.
          let puts = c.offers.invariant.puts taken records run in (
            puts.filled,
            puts.bytes,
            λ n. going_ends (taken ++ puts.filled) c.offers.packer c.offer.new.self
                records c.args.whole.now c.offers.rest.now n puts.going offers,
          );
    }

pub returns-in_err-offer-clause-err : goal.returns-in_err-offer-clause-err
returns-in_err-offer-clause-err c =
    let p = err_from_is_err_and c.from_residual.result c.from_residual.ensures.1 in
    let err = c.in_err-offer.ensures.err in
    let refused : RefusesRecord c.args.packer.now c.args.whole.now RecordLength =
    λ taken records run.
    let going = (c.offers.invariant.puts taken records run).going in
    subst (λ (s : Shape). HasRecordLength s.format s.rec_len (length c.args.whole.now) → ⊥)
    c.offers.invariant.shape
    (going_refused _ c.offers.packer records c.args.whole.now c.offers.rest.now going err.1) in
    rw (p.1, p.2, err.0) refused
