use Rattle.std.proofs.Common.{◌≡◌, ◌++◌, map}
use Rattle.tape_run.specs.MergeCalls.{AreAtFront}
use Rattle.tape_run.proofs.merge.open.open_all.Given as goal

-- there are readings for the devices that were yielded, at the starts of their images, and these
-- devices are the first of all
abbrev pub invariant-loop-device : goal.invariant-loop-device
invariant-loop-device g l = record {
  fronts : AreAtFront (map (λ y. g.R.Read.remaining y.now) l.yielded) l.readings.items;
  split : map (λ y. y.now) l.yielded ++ l.device-iterator.s.now ≡ l.fn.devices;
}
