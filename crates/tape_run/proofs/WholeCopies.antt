-- The sections that the image of a complete copy adds.
use Rattle.std.proofs.Common.{◌≡◌, ℕ, List, Some, refl, ap, ◌∙◌}
use Rattle.tape_image.specs.{Tape.TapeItem, Begins.ends}
use Rattle.tape_image.proofs.{Walks.TakesFault-begins, Walks.IfKnown-at, Uniqueness.Begins-one}
use Rattle.tape_set.specs.Layout.{FileSet, items}
use Rattle.tape_run.specs.declared.section.ImageStop.{ImageStop}
use Rattle.tape_run.specs.declared.section.ImageStop.TheVariants.{Marked, Physical, Fault}
use Rattle.tape_run.specs.{Passing.met_in, Noted.noted_all, Added.StopsBehind}
use Rattle.tape_run.specs.WholeSet.{IsWholeCopy, IsNoDevice, WholeCopiesAreAdded}

same_items : (set : FileSet) (k : ℕ) (xs ys : List ℕ) (its : List TapeItem) (stop : ImageStop)
    → IsWholeCopy set k xs → IsNoDevice stop → StopsBehind its stop xs ys → its ≡ items set k
same_items set k xs ys its Marked (end, ending, b) calm (place, t) =
    (Begins-one 0 xs its (items set k) t.end end _ (ends ending) t.begins b).0
same_items set k xs ys its Physical (end, ending, b) calm (place, t) =
    (Begins-one 0 xs its (items set k) t.end end _ (ends ending) t.begins b).0
same_items set k xs ys its (Fault fault) (end, ending, b) calm t = (Begins-one 0 xs its
    (items set k) fault.place end _ (ends ending) (TakesFault-begins 0 its fault xs ys t calm) b).0

pub whole_copies : WholeCopiesAreAdded
whole_copies set k xs after old line new copy calm a =
    let (ys, there, s) =
    IfKnown-at (Some xs) after (StopsBehind a.items line.stop) xs refl a.stop in
    a.noted ∙ ap (λ (i : List TapeItem). noted_all old (met_in i))
    (same_items set k xs ys a.items line.stop copy calm s)
