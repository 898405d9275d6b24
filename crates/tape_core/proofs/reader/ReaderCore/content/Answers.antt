use Rattle.std.proofs.Common.{◌≡◌, ◌≤◌, ap, sym, subst, ◌∙◌, arith}
use Rattle.tape_label.specs.declared.values.Format.TheVariants.{Fixed}
use Rattle.tape_core.specs.{State.State, declared.event.Phase.Phase}
use Rattle.tape_core.specs.declared.event.Phase.TheVariants.{DataWanted}
use Rattle.tape_core.proofs.WideSteps.{content_agrees, TellsRange}
use Rattle.tape_core.proofs.reader.ReaderCore.content.Goals as goal

pub returns-in-DataWanted-clause-agrees : goal.returns-in-DataWanted-clause-agrees
returns-in-DataWanted-clause-agrees c = λ reads.
    let core = c.args.self.now in
    let form = c.in-DataWanted.form in
    let e = c.shape_of.ensures in
    let at : core.phase ≡ DataWanted c.in-DataWanted.field-0 form c.in-DataWanted.field-2 =
    sym (ap (λ (z : State). z.phase) c.self.view_is) ∙ c.in-DataWanted.is in
    let some : form.format ≡ Fixed → 1 ≤ form.rec_len = λ f.
    let least = c.shape_of.result.some_record (e.format ∙ f) in omega (arith, least, e.rec_len) in
    content_agrees core c.args.block.now
    (subst (λ (z : Phase). TellsRange z) (sym at) some) reads
