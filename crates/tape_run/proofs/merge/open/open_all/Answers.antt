use Rattle.std.proofs.Common.{ap, ◌∙◌}
use Rattle.tape_run.proofs.MergeOpening.{open_more, split_more, all_open}
use Rattle.tape_run.proofs.merge.open.open_all.Goals as goal

pub loop-device-preserved : goal.loop-device-preserved
loop-device-preserved g c =
    let is = c.new-in-loop-device.ensures.image in
    record {
      fronts = open_more (λ y. g.R.Read.remaining y.now) _ _ _ _ _ c.loop-device.invariant.fronts
          c.in_ok-push.ensures.items (ap (λ r. r.left) is ∙ c.over.ensures.unread)
          (ap (λ r. r.status) is ∙ c.over.ensures.starts.1)
          (ap (λ r. r.place) is ∙ c.over.ensures.starts.0) c.new-in-loop-device.ensures.none;
      split = split_more (λ y. y.now) _ _ _ _ _ c.loop-device.invariant.split
          c.in-Some.ensures.steps;
    }

pub returns : goal.returns
returns g c = all_open _ (λ y. y.now) _ _ _ _ c.loop-device.invariant.fronts
    c.loop-device.invariant.split c.in-None.ensures.steps.0
