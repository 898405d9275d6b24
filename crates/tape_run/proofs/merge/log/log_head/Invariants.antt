use Rattle.std.proofs.Common.{◌≡◌, ◌++◌, drop, codes, flat_map}
use Rattle.tape_run.specs.Quoting.{name_text}
use Rattle.tape_run.proofs.merge.log.log_head.Given as goal

-- these and the names that follow are all names
abbrev pub invariant-loop-name : goal.invariant-loop-name
invariant-loop-name l = l.head.items
    ++ flat_map (λ n. codes "\t" ++ name_text n.now) (drop l.name-index l.names)
    ≡ codes "ITEM\tKIND" ++ flat_map (λ n. codes "\t" ++ name_text n.now) l.names
