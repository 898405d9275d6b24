use Rattle.std.proofs.Common.{◌≡◌, ◌+◌, length}
use Rattle.tape_run.specs.ReadingOrder.{followed_by, section_images}
use Rattle.tape_run.proofs.unpack.order.Order.add_sections.Given as goal

abbrev pub invariant-sections : goal.invariant-sections
invariant-sections l = record {
  most : l.sect + l.left ≡ l.fn.from + l.fn.most;
  size : length l.self.taken.items ≡ length l.fn.self.taken.items;
  goes_on : followed_by (length l.fn.self.taken.items) l.fn.self.numbers.items
      (section_images l.fn.locations.entries l.fn.set_id l.fn.file l.fn.from l.fn.most)
      ≡ followed_by (length l.fn.self.taken.items) l.self.numbers.items
      (section_images l.fn.locations.entries l.fn.set_id l.fn.file l.sect l.left);
}

abbrev pub decreases-sections : goal.decreases-sections
decreases-sections l = l.left
