use Rattle.std.proofs.Common.{arith, ap, sym, ◌∙◌, ◌++◌, append_assoc, codes, flat_map}
use Rattle.tape_run.specs.Quoting.{name_text}
use Rattle.tape_run.proofs.MergeRows.{flat_none, flat_values}
use Rattle.tape_run.proofs.merge.log.log_head.Goals as goal

pub returns : goal.returns
returns c =
    let names = flat_map (λ n. codes "\t" ++ name_text n.now) c.args.names.now in
    c.in_ok-push-2.ensures.items
    ∙ ap (λ t. t ++ codes "\n") (flat_none (λ n. codes "\t" ++ name_text n.now)
    c.loop-name.name-index c.args.names.now c.loop-name.head.items (omega arith)
    ∙ c.loop-name.invariant) ∙ append_assoc (codes "ITEM\tKIND") names (codes "\n")
    ∙ ap (λ t. codes "ITEM\tKIND" ++ (t ++ codes "\n"))
    (sym (flat_values (λ name. codes "\t" ++ name_text name) (λ n. n.now) c.args.names.now))
