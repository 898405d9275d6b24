-- Why no merged image is made if it would be too long.
use Rattle.std.proofs.Common.{◌≡◌, ℕ, ◌+◌, ◌<◌, List, length, Option, Result, IfErr, refl, sym, ap}
use Rattle.std.proofs.Common.{subst, ◌∙◌, inl, inr, arith}
use Rattle.tape_image.specs.declared.item.ImageWriteFault.{ImageWriteFault}
use Rattle.tape_image.specs.declared.item.ImageWriteFault.TheVariants.{TooLong}
use Rattle.tape_image.specs.{Begins.image_limit, Written.written, Writer.Writer, Writer.writing}
use Rattle.tape_run.specs.declared.merge.line.{MergedEnd.MergedEnd, MergedEnd.TheVariants.Marked}
use Rattle.tape_run.specs.declared.merge.{Merged.Merged, MergeFault.MergeFault}
use Rattle.tape_run.specs.declared.merge.{now.MergeStop.MergeStop, reading.Reading.Reading}
use Rattle.tape_run.specs.declared.merge.MergeFault.TheVariants as faults
use Rattle.tape_run.specs.MergeCalls.{IfImages, Merges, RefusesLast}
use Rattle.tape_run.specs.MergedImages.{TakeImages, FaultsImages}
use Rattle.tape_run.specs.MergeNow.{EndsAs, end_bytes, IsTooLong, Misses}
use Rattle.tape_run.proofs.MergeNow.{items_put, misses_more, err_misses}

-- an item was refused
item_too_long : {R : Type 0} (firsts nows : List (Reading R)) (old new : Writer)
    (out : Option (List ℕ)) (f : MergeFault) (fault : ImageWriteFault) (size : ℕ)
    → old ≡ record { size = 0; standing = writing; contents = out } → f ≡ faults.Write fault
    → fault ≡ TooLong → size ≡ new.size
    → IfImages firsts (λ images. FaultsImages images nows old new f)
    → IfImages firsts (λ images. IsTooLong R images size)
item_too_long firsts nows old new out f fault size first is long at h = λ images front.
    let d : RefusesLast (TakeImages images nows) TooLong old new =
    subst (λ (e : MergeFault). FaultsImages images nows old new e)
    (is ∙ ap (λ (e : ImageWriteFault). faults.Write e) long) (h images front) in
    let put = items_put d.merged old d.mid d.wrote in
    let here : new.size ≡ d.mid.size = ap (λ (w : Writer). w.size) d.refused.1 in
    let none : old.size ≡ 0 = ap (λ (w : Writer). w.size) first in
    record {
      nows = nows;
      readings = d.readings;
      have = d.taken;
      merged = d.merged;
      size_is = omega (arith, at, here, none, put.1);
      next = written d.x;
      comes = inl (d.x, d.is, refl);
      long = omega (arith, at, here, d.refused.0);
    }

pub item_cause : {R : Type 0} (firsts nows : List (Reading R)) (old new : Writer)
    (out : Option (List ℕ)) (f : MergeFault) (fault : ImageWriteFault) (size : ℕ) (stop : MergeStop)
    → old ≡ record { size = 0; standing = writing; contents = out } → f ≡ faults.Write fault
    → size ≡ new.size → IfImages firsts (λ images. FaultsImages images nows old new f)
    → Misses (λ _. ⊥) (λ n. (fault ≡ TooLong) × (n ≡ size)) stop
    → Misses (λ _. ⊥) (λ n. IfImages firsts (λ images. IsTooLong R images n)) stop
item_cause firsts nows old new out f fault size stop first is at h misses =
    misses_more (λ _. ⊥) (λ _. ⊥) (λ n. (fault ≡ TooLong) × (n ≡ size)) _ stop (λ n no. no)
    (λ n k. item_too_long firsts nows old new out f fault n first is k.0 (k.1 ∙ at) h) misses

-- the end-of-medium marker was refused
end_too_long : {R : Type 0} (firsts nows : List (Reading R)) (counts : Merged)
    (first mid : Writer) (log logged out : Option (List ℕ)) (ends : MergedEnd) (size : ℕ)
    → first ≡ record { size = 0; standing = writing; contents = out }
    → IfImages firsts (λ images. Merges (TakeImages images nows) nows counts first mid log logged)
    → EndsAs counts.items nows ends
    → (ends ≡ Marked) × (size ≡ mid.size) × (image_limit < size + length (end_bytes ends))
    → IfImages firsts (λ images. IsTooLong R images size)
end_too_long firsts nows counts first mid log logged out ends size is merges how
    (marked, at, long) = λ images front.
    let m = merges images front in
    let none : first.size ≡ 0 = ap (λ (w : Writer). w.size) is in
    record {
      nows = nows;
      readings = m.readings;
      have = m.have;
      merged = m.merged;
      size_is = omega (arith, at, none, (items_put m.merged first mid m.wrote).1);
      next = end_bytes Marked;
      comes = inr (
        m.ended,
        m.is,
        subst (λ (e : MergedEnd). EndsAs (length m.merged) nows e) marked
            (subst (λ n. EndsAs n nows ends) (sym m.count.items) how),
        refl,
      );
      long = subst (λ (e : MergedEnd). image_limit < size + length (end_bytes e)) marked long;
    }

pub end_cause : {T R : Type 0} (result : Result T MergeStop) (firsts nows : List (Reading R))
    (counts : Merged) (first mid : Writer) (log logged out : Option (List ℕ)) (ends : MergedEnd)
    → first ≡ record { size = 0; standing = writing; contents = out }
    → IfImages firsts (λ images. Merges (TakeImages images nows) nows counts first mid log logged)
    → EndsAs counts.items nows ends
    → IfErr result (Misses (λ _. ⊥) (λ n. (ends ≡ Marked) × (n ≡ mid.size)
    × (image_limit < n + length (end_bytes ends))))
    → IfErr result (Misses (λ _. ⊥) (λ n. IfImages firsts (λ images. IsTooLong R images n)))
end_cause result firsts nows counts first mid log logged out ends is merges how misses =
    err_misses result (λ _. ⊥) (λ _. ⊥) (λ n. (ends ≡ Marked) × (n ≡ mid.size)
    × (image_limit < n + length (end_bytes ends))) _ (λ n no. no)
    (λ n k. end_too_long firsts nows counts first mid log logged out ends n is merges how k) misses
