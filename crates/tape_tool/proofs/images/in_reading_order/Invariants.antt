use Rattle.std.proofs.Common.{◌≡◌, filter_map, map, slice_get, take}
use Rattle.tape_tool.proofs.images.in_reading_order.Given as goal

-- the names at the places so far
abbrev pub invariant-loop-number : goal.invariant-loop-number
invariant-loop-number l = map (λ n. n.now) l.order.items
    ≡ filter_map (slice_get (map (λ n. n.now) l.names)) (take l.number-index l.number-items)
