use Rattle.std.proofs.Common.{◌≡◌, ◌+◌, length}
use Rattle.tape_run.specs.ReadingOrder.{followed_by, images_of}
use Rattle.tape_run.proofs.unpack.order.Order.add_images.Given as goal

abbrev pub invariant-images : goal.invariant-images
invariant-images l = record {
  counted : l.number + length l.rest ≡ length l.fn.images;
  size : length l.self.taken.items ≡ length l.fn.self.taken.items;
  goes_on : followed_by (length l.fn.self.taken.items) l.fn.self.numbers.items
      (images_of l.fn.all l.fn.set_id 0 l.fn.images)
      ≡ followed_by (length l.fn.self.taken.items) l.self.numbers.items
      (images_of l.fn.all l.fn.set_id l.number l.rest);
}

abbrev pub decreases-images : goal.decreases-images
decreases-images l = length l.rest
