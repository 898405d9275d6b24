use Rattle.std.proofs.Common.{◌∙◌, List, sym, ap, subst, refl, inl, arith}
use Rattle.tape_blocks.specs.Block.{Portion}
use Rattle.tape_core.specs.{declared.event.Answer.TheVariants.Passed, Wide.step_by}
use Rattle.tape_core.specs.Table.{Outcome}
use Rattle.tape_run.specs.Comparing.{CameMeets}
use Rattle.tape_image.proofs.Callers.{from_going}
use Rattle.tape_run.proofs.Reels.{item_came, item_given}
use Rattle.tape_run.proofs.Comparing.{walked_none, walked_on}
use Rattle.tape_run.proofs.ComparedItems.{none_met, met_on, said, met_over}
use Rattle.tape_run.proofs.session.compared.overlap.compare_all.Goals as goal

pub items-init : goal.items-init
items-init g c = record {
  on = c.requires.going;
  limit = omega (arith, c.requires.first);
  same_device = refl;
  walked = walked_none _;
  met = none_met c.args.wide c.args.overlap.now.from _ _ _ (g.S.PartWalk.ahead c.args.sink.now)
      c.requires.first;
}

pub items-preserved : goal.items-preserved
items-preserved g c =
    let inv = c.items.invariant in
    let (item, is) = item_came _ _ _ _ c.step_by.ensures.left (inl c.in-Passed.is) in
    let gives = item_given _ _ _ item (sym c.event_of.ensures.comes ∙ is)
    (from_going _ _ _ c.next-told.follows.holds-at-none inv.on) in
    record {
      on = gives.goes_on;
      limit = gives.within;
      same_device = c.next-told.follows.holds-at-none.same_device ∙ inv.same_device;
      walked = walked_on inv.walked c.in-Ok-None.ensures.kept c.in-Ok-None.ensures.crash
          c.in-Ok-None.ensures.calm;
      met = met_on c.args.wide c.args.overlap.now.from _ _ _
          (g.S.PartWalk.ahead c.args.sink.now) _ _ inv.met gives
          (ap (λ a. (a, c.step_by.new.self)) (sym c.in-Passed.is)
          ∙ (c.step_by.ensures.table ∙ ap (step_by c.args.wide c.items.core) is))
          (λ ahead at. subst (λ z. (left : List Portion) × CameMeets c.args.wide
          c.args.overlap.now.from c.items.core z ahead left
          × g.S.PartWalk.ahead c.compare.new.sink left) (sym c.event_of.ensures.comes ∙ is)
          (rw c.in-Ok-None.field-0-is at c.in-Ok-None.ensures.goes ahead at));
    }

pub returns-in-Ok-Some-clause-found : goal.returns-in-Ok-Some-clause-found
returns-in-Ok-Some-clause-found g c =
    said c.args.wide c.args.overlap.now _ c.items.core _ _ c.next-told.follows.lender-at-none
    (g.S.PartWalk.ahead c.args.sink.now) (g.S.PartWalk.ahead c.items.sink)
    (g.S.PartWalk.ahead c.compare.new.sink) c.items.invariant.met _
    (from_going _ _ _ c.next-told.follows.holds-at-none c.items.invariant.on) c.in-Ok-Some.found
    (rw c.in-Ok-Some.field-0-is at c.in-Ok-Some.ensures.same)
    (rw c.in-Ok-Some.field-0-is at c.in-Ok-Some.ensures.other)
    (rw c.in-Ok-Some.field-0-is at c.in-Ok-Some.ensures.unknown)
    (rw c.in-Ok-Some.field-0-is at c.in-Ok-Some.ensures.ended)

pub returns-in_default-clause-found : goal.returns-in_default-clause-found
returns-in_default-clause-found g c ahead was =
    met_over c.args.wide c.args.overlap.now _ c.items.core _ _
    c.next-told.follows.lender-at-none (g.S.PartWalk.ahead c.args.sink.now)
    (g.S.PartWalk.ahead c.items.sink) c.items.invariant.met ahead was _
    (from_going _ _ _ c.next-told.follows.holds-at-none c.items.invariant.on)
    (λ e. c.in_default.not-Passed (ap (λ (z : Outcome). z.0) c.step_by.ensures.table
    ∙ (ap (λ z. (step_by c.args.wide c.items.core z).0) c.event_of.ensures.comes ∙ e)))
