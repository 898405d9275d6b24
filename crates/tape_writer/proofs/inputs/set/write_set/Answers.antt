use Rattle.tape_writer.proofs.Words.{◌≡◌, subst, List, Head1, Option, ℕ, [], ap, sym, ◌∙◌, map, inl}
use Rattle.tape_writer.proofs.{Words.inr, Words.refl, Last.rose_none, inputs.Refusing.head_fault}
use Rattle.tape_writer.proofs.Fronts.{behind_writing}
use Rattle.tape_writer.proofs.inputs.Filing.{set_of_images, all_known, of_plan}
use Rattle.tape_writer.proofs.inputs.Leaving.{left_without, refused_left, other_than}
use Rattle.tape_writer.specs.{ToldFiles.told_files, Refusals.IsFinishFault}
use Rattle.tape_writer.specs.{WriteSet.IsSetOfImages, LeftOf.GaveUpIn, LeftOf.IsLeftOfAll}
use Rattle.tape_writer.specs.{declared.fault.WriteFault.TheVariants.OutOfVolumes, Images.Holds}
use Rattle.tape_writer.proofs.inputs.set.write_set.Goals as goal

pub returns-clause-written : goal.returns-clause-written
returns-clause-written g c fresh =
    let plan = c.args.plan in
    let inputs : List (Head1 × Option (List ℕ)) =
    map (λ f. (f.head, g.R.Read.remaining f.reader)) c.args.files.now in
    let begun = c.in-Ok.ensures.told (c.new-tapes.ensures.held fresh) in
    let made = c.in-Ok.ensures.made in
    let told = c.in_default-write_files.ensures.told [] begun in
    let whole = c.finish.new.self in
    let images = c.into_parts-images.result.0 in
    let H = g.S.ImageStore.holds in
    let volumes = c.finish.ensures.same.0 ∙ c.write_files.ensures.same.0
    ∙ ap (λ w. w.volumes) made in
    let capacity = c.finish.ensures.same.1 ∙ c.write_files.ensures.same.1
    ∙ ap (λ w. w.capacity) made in
    let set_id = c.finish.ensures.same.2 ∙ c.write_files.ensures.same.2
    ∙ ap (λ w. w.set_id) made in
    let store = c.into_parts-images.ensures.store
    ∙ ap (λ t. t.store) c.into_out-tapes.ensures in
    rw (sym c.cut_of.ensures ∙ c.in-Some.is) (all_known inputs _ _ told (λ fs w.
    subst (λ s. IsSetOfImages (H images) plan.volumes.items plan.capacity plan.set_id
    (told_files s plan.shape c.in-Some.cut 1 fs)) (ap (λ w. w.set_id) made)
    (set_of_images H whole images plan.volumes.items plan.capacity plan.set_id _
    c.in_default-finish.ensures.end volumes capacity set_id (sym store)
    (c.in_default-finish.ensures.told _ w))))

-- ---- a file is not written

pub returns-in-Err-write_files-clause-stuck : goal.returns-in-Err-write_files-clause-stuck
returns-in-Err-write_files-clause-stuck g c fresh = λ e.
    let inputs : List (Head1 × Option (List ℕ)) =
    map (λ f. (f.head, g.R.Read.remaining f.reader)) c.args.files.now in
    let left = c.left-in-Err-write_files in
    inr (rw (sym c.cut_of.ensures ∙ c.in-Some.is) (of_plan c.args.plan _ _ c.write_files.new.writer
    _ _ _ (λ s w. GaveUpIn (Holds g.S.ImageStore.holds w.out) w s [] c.args.plan.shape
    c.in-Some.cut inputs) c.in-Ok.ensures.made (refl, refl, refl) c.write_files.ensures.same
    c.into_out-in-Err-write_files.ensures left.ensures.images left.ensures.under_way
    (c.in-Err-write_files.ensures.stuck (sym left.ensures.fault ∙ e) []
    (c.in-Ok.ensures.told (c.new-tapes.ensures.held fresh)))))

pub returns-in-Err-write_files-clause-front : goal.returns-in-Err-write_files-clause-front
returns-in-Err-write_files-clause-front g c fresh =
    let plan = c.args.plan in
    let inputs : List (Head1 × Option (List ℕ)) =
    map (λ f. (f.head, g.R.Read.remaining f.reader)) c.args.files.now in
    let made = c.in-Ok.ensures.made in
    let whole = c.write_files.new.writer in
    let left = c.left-in-Err-write_files in
    let H = g.S.ImageStore.holds in
    let out = c.in-Err-write_files.ensures.front (ap (λ w. w.phase) made) []
    (c.in-Ok.ensures.told (c.new-tapes.ensures.held fresh)) in
    inr (rw (sym c.cut_of.ensures ∙ c.in-Some.is) (of_plan plan _ _ whole _ _ _ (λ s w.
    IsLeftOfAll (Holds H w.out) w ⊥ left.result.fault s [] plan.shape c.in-Some.cut inputs)
    made (refl, refl, refl) c.write_files.ensures.same
    c.into_out-in-Err-write_files.ensures left.ensures.images left.ensures.under_way
    (rw left.ensures.fault (left_without (Holds H whole.out) _ _ _ _ [] plan.shape _ _ rose_none
    (inl out)))))

pub returns-in-Err-write_files-clause-unfit : goal.returns-in-Err-write_files-clause-unfit
returns-in-Err-write_files-clause-unfit g c unfit some =
    let made = c.in-Ok.ensures.made in
    let left = c.left-in-Err-write_files in
    let back = c.into_out-in-Err-write_files in
    let kept = (c.in-Err-write_files.ensures.unfit (ap (λ w. w.phase) made)
    (rw (ap (λ w. w.capacity) made) unfit) some).0 in (
      left.ensures.images ∙ (ap (λ t. t.store) back.ensures ∙ (ap (λ w. w.out.store) kept
          ∙ (ap (λ w. w.out.store) made ∙ c.new-tapes.ensures.store))),
      left.ensures.under_way ∙ (ap (λ t. t.image) back.ensures ∙ (ap (λ w. w.out.image) kept
          ∙ (ap (λ w. w.out.image) made ∙ c.new-tapes.ensures.image))),
    )

-- ---- the set does not end

pub returns-in-Err-finish-clause-stuck : goal.returns-in-Err-finish-clause-stuck
returns-in-Err-finish-clause-stuck g c fresh = λ e.
    let between = (c.in_default-write_files.ensures.stands
    (ap (λ w. w.phase) c.in-Ok.ensures.made)).0 in
    let fault : c.in-Err-finish.fault ≡ OutOfVolumes = cc in
    absurd (rw fault at (c.in-Err-finish.ensures.due between))

pub returns-in-Err-finish-clause-front : goal.returns-in-Err-finish-clause-front
returns-in-Err-finish-clause-front g c fresh =
    let plan = c.args.plan in
    let inputs : List (Head1 × Option (List ℕ)) =
    map (λ f. (f.head, g.R.Read.remaining f.reader)) c.args.files.now in
    let made = c.in-Ok.ensures.made in
    let between = (c.in_default-write_files.ensures.stands (ap (λ w. w.phase) made)).0 in
    let whole = c.finish.new.self in
    let left = c.left-in-Err-finish in
    let H = g.S.ImageStore.holds in
    let one = c.write_files.ensures.same in
    let two = c.finish.ensures.same in
    inr (rw (sym c.cut_of.ensures ∙ c.in-Some.is) (of_plan plan _ _ whole _ _ _ (λ s w.
    IsLeftOfAll (Holds H w.out) w ⊥ left.result.fault s [] plan.shape c.in-Some.cut inputs)
    made (refl, refl, refl) (two.0 ∙ one.0, two.1 ∙ one.1, two.2 ∙ one.2)
    c.into_out-in-Err-finish.ensures left.ensures.images left.ensures.under_way
    (rw left.ensures.fault (inr (
      λ e. rose_none (c.in-Err-finish.ensures.cause.1 cc),
      other_than (IsFinishFault _) c.in-Err-finish.fault (λ n. n)
          (c.in-Err-finish.ensures.due between),
      all_known inputs _ _ (c.in_default-write_files.ensures.told []
          (c.in-Ok.ensures.told (c.new-tapes.ensures.held fresh))) (λ fs w.
          refused_left (Holds H) c.write_files.new.writer whole c.in-Err-finish.fault _ _
          c.in-Err-finish.ensures.leaves w
          (λ same writing. inl (behind_writing (Holds H whole.out) whole _
          (ap (λ w. w.phase) same ∙ between) writing))
          (λ e. inr (c.in-Err-finish.ensures.front _ w e))),
    )))))

pub returns-in-Err-finish-clause-unfit : goal.returns-in-Err-finish-clause-unfit
returns-in-Err-finish-clause-unfit g c unfit some =
    let made = c.in-Ok.ensures.made in
    absurd (c.in_default-write_files.ensures.unfit (ap (λ w. w.phase) made)
    (rw (ap (λ w. w.capacity) made) unfit) some).1

-- ---- a head cannot be written

pub returns-then-not-are_text_heads-clause-due : goal.returns-then-not-are_text_heads-clause-due
returns-then-not-are_text_heads-clause-due g c =
    let plan = c.args.plan in
    rw (sym c.cut_of.ensures ∙ c.in-Some.is, c.left-then-not-are_text_heads.ensures.fault)
    (inr (inl (head_fault _ (λ f. (f.head, g.R.Read.remaining f.reader)) plan.capacity plan.shape _
    0 _ (λ all. cc (c.if-not-are_text_heads.ensures.1 all)))))
