use Rattle.std.proofs.Common.{◌≡◌, ◌-◌}
use Rattle.tape_image.specs.Resync.{found, place_from}
use Rattle.tape_image.proofs.resync.place.found.Given as goal

-- items begin again at none of the places before
abbrev pub invariant-places : goal.invariant-places
invariant-places l = found l.front ≡ place_from l.at (l.end - l.at) l.front
