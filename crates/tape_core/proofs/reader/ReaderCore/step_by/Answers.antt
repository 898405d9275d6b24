use Rattle.std.proofs.Common.{rules, ◌∙◌, sym, subst, List, ℕ, Some}
use Rattle.tape_image.specs.Tape.{block as block'}
use Rattle.tape_core.specs.Follows.{Checked}
use Rattle.tape_core.proofs.WideReading.{as_content}
use Rattle.tape_core.proofs.reader.ReaderCore.step_by.Goals as goal

pub returns-in-Block-clause-checked : goal.returns-in-Block-clause-checked
returns-in-Block-clause-checked c = λ e.
    let core = c.args.self.now in (
      c.in-Block.block.now,
      search rules,
      subst (λ (z : List ℕ). Checked (Some (block' z)) core c.wide_step.new.self)
          (c.content-content.ensures.value
          ∙ sym (as_content c.args.wide core c.in-Block.block.now c.if-not-wide.false))
          (c.wide_step.ensures.checked e),
    )
