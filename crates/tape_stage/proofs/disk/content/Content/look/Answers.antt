use Rattle.tape_stage.proofs.CallLaws.{right_looked}
use Rattle.tape_stage.proofs.disk.content.Content.look.Goals as goal

pub invariant_of-self : goal.invariant_of-self
invariant_of-self c = record {
  right = right_looked _ _ _ _ _ _ c.args.self.now.right c.push.ensures.items;
}
