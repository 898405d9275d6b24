use Rattle.std.proofs.Common.{◌≡◌, ℕ, ap, ◌∙◌}
use Rattle.tape_label.specs.declared.values.Format.{Format}
use Rattle.tape_blocks.specs.Block.{own_len}
use Rattle.tape_blocks.specs.Judged.{judged, judged_units}
use Rattle.tape_blocks.proofs.OwnLaws.{answer_passes, answer_faults, judged_only, judged_by_fault}
use Rattle.tape_blocks.proofs.check.check_block.Goals as goal

pub returns : goal.returns
unfolding judged
returns c =
    let shape = c.args.shape.now in
    let block = c.args.block.now in
    let u = c.units_of.result in
    let is : c.check_units.result
    ≡ judged shape.format shape.rec_len shape.offset c.args.begun block =
    c.check_units.ensures
    ∙ ap (λ (f : Format). judged_units f u.rec_len u.offset c.args.begun block)
    c.units_of.ensures.format
    ∙ ap (λ (n : ℕ). judged_units shape.format n u.offset c.args.begun block)
    c.units_of.ensures.rec_len
    ∙ ap (λ (n : ℕ). judged_units shape.format
    (own_len shape.format shape.rec_len shape.offset block) n c.args.begun block)
    c.units_of.ensures.offset in record {
      found = answer_passes c.check_units.result shape.format shape.rec_len shape.offset
          c.args.begun block shape.some_record is;
      only = λ parts end holds order. is ∙ judged_only shape.format shape.rec_len shape.offset
          c.args.begun end block parts holds order;
      fault = answer_faults c.check_units.result shape.format shape.rec_len shape.offset
          c.args.begun block shape.some_record is;
      refuses = λ fault has. is ∙ judged_by_fault shape.format shape.rec_len shape.offset
          c.args.begun block fault shape.some_record has;
      exact = is;
    }
