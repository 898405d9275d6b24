use Rattle.std.proofs.lemmas.Iterator.Consumers.{YieldsList-end}
use Rattle.std.proofs.lemmas.Iterator.Splits.{YieldsList-from_str_split}
use Rattle.tape_tool.specs.Names.{end_byte}
use Rattle.tape_tool.proofs.ListedNames.{all_named, end_is_low}
use Rattle.tape_tool.proofs.names.all_names.Goals as goal

pub returns : goal.returns
returns c =
    let end = YieldsList-end (YieldsList-from_str_split (end_byte c.args.null) c.args.text.now
    (end_is_low c.args.null) (cc) (cc) (cc))
    c.loop-piece.yielded _ c.loop-piece.yielded_by _ _ c.in-None.is c.next.ensures.steps in
    all_named (λ n. n.now) c.args.words.now c.loop-piece.names.items c.loop-piece.yielded
    c.args.null c.args.text.now c.loop-piece.invariant end.0
