use Rattle.std.proofs.Common.{◌≡◌, [], List, ℕ, length, Option, ap, sym, ◌∙◌}
use Rattle.tape_run.specs.ReadingOrder.{followed_by, section_images, images_of, reading_order}
use Rattle.tape_run.specs.declared.survey.view.ImageSurvey.{ImageSurvey}
use Rattle.tape_run.proofs.ReadingOrder.{followed_twice}
use Rattle.tape_run.proofs.unpack.FoundFiles.reading_order.Goals as goal

pub returns : goal.returns
unfolding reading_order
returns c =
    let images = c.args.self.now.images in
    let same : c.as_slice-images.result.now ≡ images = c.as_slice-images.ensures in
    let size : length c.in_ok-order.order.taken.items ≡ length images =
    c.in_ok-order.ensures.size ∙ ap length same in
    let first = section_images c.args.self.now.locations.entries c.args.set_id c.args.file 1 9999 in
    let sections : c.add_sections.new.self.numbers.items
    ≡ followed_by (length images) [] first = c.in_ok-add_sections.ensures.ok
    ∙ ap (λ (n : ℕ). followed_by n c.in_ok-order.order.numbers.items first) size
    ∙ ap (λ (before : List ℕ). followed_by (length images) before first)
    c.in_ok-order.ensures.none in
    c.in_ok-add_images.ensures.ok
    ∙ ap (λ (n : ℕ). followed_by n c.add_sections.new.self.numbers.items
    (images_of c.args.all c.args.set_id 0 c.as_slice-images.result.now))
    (c.in_ok-add_sections.ensures.size ∙ size)
    ∙ ap (λ (before : List ℕ). followed_by (length images) before
    (images_of c.args.all c.args.set_id 0 c.as_slice-images.result.now)) sections
    ∙ ap (λ (them : List (Option ImageSurvey)). followed_by (length images)
    (followed_by (length images) [] first) (images_of c.args.all c.args.set_id 0 them)) same
    ∙ sym (followed_twice (length images) [] first
    (images_of c.args.all c.args.set_id 0 images))
