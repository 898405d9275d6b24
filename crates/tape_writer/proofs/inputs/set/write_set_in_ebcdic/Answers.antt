use Rattle.tape_writer.proofs.Words.{subst, List, Head1, Option, ℕ, [], ap, sym, ◌∙◌, map}
use Rattle.tape_writer.proofs.inputs.Filing.{set_in_ebcdic, all_known}
use Rattle.tape_writer.specs.{ToldFiles.told_files, WriteSet.IsSetInEbcdic}
use Rattle.tape_writer.proofs.inputs.set.write_set_in_ebcdic.Goals as goal

pub returns-clause-written : goal.returns-clause-written
returns-clause-written g c fresh =
    let plan = c.args.plan in
    let inputs : List (Head1 × Option (List ℕ)) =
    map (λ f. (f.head, g.R.Read.remaining f.reader)) c.args.files.now in
    let begun = c.in-Ok.ensures.told (c.new-tapes.ensures.held (c.new-out.ensures.held fresh)) in
    let made = c.in-Ok.ensures.made in
    let told = c.in_default-write_files.ensures.told [] begun in
    let whole = c.finish.new.self in
    let images = c.into_parts-images.result.0 in
    let H = g.S.ImageStore.holds in
    let volumes = c.finish.ensures.same.0 ∙ c.write_files.ensures.same.0
    ∙ ap (λ w. w.volumes) made in
    let capacity = c.finish.ensures.same.1 ∙ c.write_files.ensures.same.1
    ∙ ap (λ w. w.capacity) made in
    let set_id = c.finish.ensures.same.2 ∙ c.write_files.ensures.same.2
    ∙ ap (λ w. w.set_id) made in
    let store = c.into_parts-images.ensures.store
    ∙ ap (λ t. t.store) (c.into_out-tapes.ensures ∙ ap (λ t. t.out) c.into_out-coded.ensures) in
    rw (sym c.cut_of.ensures ∙ c.in-Some.is) (all_known inputs _ _ told (λ fs w.
    subst (λ s. IsSetInEbcdic (H images) plan.volumes.items plan.capacity plan.set_id
    (told_files s plan.shape c.in-Some.cut 1 fs)) (ap (λ w. w.set_id) made)
    (set_in_ebcdic H whole images plan.volumes.items plan.capacity plan.set_id _
    c.in_default-finish.ensures.end volumes capacity set_id (sym store)
    (c.in_default-finish.ensures.told _ w))))
