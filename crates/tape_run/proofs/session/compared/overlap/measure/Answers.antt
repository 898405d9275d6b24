use Rattle.std.proofs.Common.{◌∙◌, sym, refl, inl, arith}
use Rattle.tape_image.proofs.Callers.{from_going}
use Rattle.tape_run.proofs.Reels.{item_came, item_given}
use Rattle.tape_run.proofs.session.compared.overlap.measure.Goals as goal

pub items-init : goal.items-init
items-init g c = record {
  on = c.requires.going;
  limit = omega (arith, c.requires.first);
  same_device = refl;
}

pub items-preserved : goal.items-preserved
items-preserved g c =
    let inv = c.items.invariant in
    let (item, is) = item_came _ _ _ _ c.step_by.ensures.left (inl c.in-Passed.is) in
    let gives = item_given _ _ _ item (sym c.event_of.ensures.comes ∙ is)
    (from_going _ _ _ c.next-told.follows.holds-at-none inv.on) in
    record {
      on = gives.goes_on;
      limit = gives.within;
      same_device = c.next-told.follows.holds-at-none.same_device ∙ inv.same_device;
    }
