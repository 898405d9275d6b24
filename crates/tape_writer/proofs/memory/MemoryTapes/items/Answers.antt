use Rattle.tape_writer.proofs.Words.{◌≡◌, [], rules, ap, option_map, slice_get}
use Rattle.tape_writer.proofs.Closing.{volume_between, volume_ended}
use Rattle.tape_writer.proofs.memory.MemoryTapes.items.Goals.{After-nth, in_default-via-in_default}
use Rattle.tape_writer.proofs.memory.MemoryTapes.items.Goals.{in_default-via-in-Some+else-index-len}
use Rattle.std.specs.Option.{option_copied, unwrap_or}
use Rattle.tape_writer.specs.{Kept.volume_of, Tapes.all_volumes}
use Rattle.tape_writer.proofs.memory.MemoryTapes.items.Goals as goal

looked_up : (c : After-nth) → option_map (λ v. volume_of v.items) (option_copied c.nth.result)
    ≡ slice_get (all_volumes c.args.self.now.tapes) c.args.index
looked_up c = rw (← c.self.view_is) (elim c.in_default.branch [
  | in_default-via-in-Some+else-index-len w ↦
      volume_ended (λ v. v.items) c.self.inside.ended.items w.in-Some.current
      c.self.inside.current _ c.args.index (search rules) (search rules) (search rules)
  | in_default-via-in_default w ↦ volume_between (λ v. v.items) c.self.inside.ended.items
      c.self.inside.current _ c.args.index (search rules) (search rules)
])

pub returns-in-Some-nth : goal.returns-in-Some-nth
returns-in-Some-nth c = rw c.as_slice-in-Some-nth.ensures.value (ap (λ o. unwrap_or o [])
    (rw c.in-Some-nth.is at (looked_up (goal.at.returns-in-Some-nth c).After-nth)))

pub returns-in-None : goal.returns-in-None
returns-in-None c = ap (λ o. unwrap_or o [])
    (rw c.in-None.is at (looked_up (goal.at.returns-in-None c).After-nth))
