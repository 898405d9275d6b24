use Rattle.std.proofs.Common.{refl, rules}
use Rattle.tape_stage.specs.declared.disk.content.Call.TheVariants.{Sync}
use Rattle.tape_stage.proofs.CallLaws.{right_more}
use Rattle.tape_stage.proofs.disk.content.Content.sync.Goals as goal

pub invariant_of-self-2 : goal.invariant_of-self-2
invariant_of-self-2 c =
    let k = c.keep_first.new.self in
    record {
      right = right_more _ k.first.items k.worst.items _ _ _ _ _ Sync
          c.in_ok-keep_first.ensures.ok k.right tt c.in_ok-push.ensures.items refl (search rules);
    }
