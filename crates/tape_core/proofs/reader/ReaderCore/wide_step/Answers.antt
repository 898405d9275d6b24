use Rattle.std.proofs.Common.{◌∙◌, ◌∷◌}
use Rattle.tape_core.specs.Arrive.{arrival}
use Rattle.tape_core.proofs.WideSteps.{step_agrees}
use Rattle.tape_core.proofs.WideLawful.{item_same, behind_same, foreign_same, left_same}
use Rattle.tape_core.proofs.{Steps.step_reads, IdleSteps.idle_reads, ForeignLaws.foreign_step}
use Rattle.tape_core.proofs.Standing.{reel_left}
use Rattle.tape_core.proofs.reader.ReaderCore.wide_step.Goals as goal

pub returns-clause-agrees : goal.returns-clause-agrees
returns-clause-agrees c = λ reads.
    c.wide_advance.ensures.table ∙ step_agrees c.args.self.now (arrival c.args.event) reads

pub returns-clause-item : goal.returns-clause-item
returns-clause-item c = λ set p k good g item l vol s a r.
    step_reads c.args.self.now (c.wide_advance.result, c.wide_advance.new.self)
    (arrival c.args.event) (c.wide_advance.ensures.table
    ∙ item_same c.args.self.now (arrival c.args.event) set p k good g item l vol s a r)
    set p k good g item l vol s a r

pub returns-clause-behind : goal.returns-clause-behind
returns-clause-behind c = λ set p k good item l vol n h came r.
    idle_reads c.args.self.now (c.wide_advance.result, c.wide_advance.new.self)
    (arrival c.args.event) (c.wide_advance.ensures.table
    ∙ behind_same c.args.self.now (arrival c.args.event) set p k good n r)
    set p k good item l vol n h came r

pub returns-clause-foreign : goal.returns-clause-foreign
returns-clause-foreign c = λ set item rest came at h.
    foreign_step c.args.self.now (c.wide_advance.result, c.wide_advance.new.self)
    (arrival c.args.event) (c.wide_advance.ensures.table
    ∙ foreign_same c.args.self.now set.set_id (item ∷ rest) (arrival c.args.event) h)
    set item rest came at h

pub returns-clause-left : goal.returns-clause-left
returns-clause-left c = λ none.
    reel_left c.args.self.now (c.wide_advance.result, c.wide_advance.new.self)
    (arrival c.args.event) (c.wide_advance.ensures.table
    ∙ left_same c.args.self.now (arrival c.args.event) none) none
