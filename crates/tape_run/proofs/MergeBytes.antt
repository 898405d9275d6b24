-- The bytes that readers returned, of images whose bytes are known.
use Rattle.std.proofs.Common.{◌≡◌, ℕ, ◌+◌, ◌*◌, ◌≤◌, List, [], ◌∷◌, ◌++◌, length, map, Option, Some}
use Rattle.std.proofs.Common.{Result, Ok, Err, sym, ap, subst, inr, arith}
use Rattle.std.specs.Prelude.{IfOk, IfErr}
use Rattle.tape_image.specs.{Tape.TapeItem, Reader.Reader, Calls.Gave, Writer.Writer}
use Rattle.tape_image.specs.Begins.{image_limit, Stop, Begins, Walks}
use Rattle.tape_image.proofs.{Callers.Gave-walks, Callers.front_of_image, Steps.least_four}
use Rattle.tape_run.specs.MergeSteps.{HasRead, HasTaken, HaveTaken, TookLast, nothing, last, bads}
use Rattle.tape_run.specs.MergedImages.{LastIsAt, no_item, last_item, TakesImage, TakeImages}
use Rattle.tape_run.specs.{declared.merge.Merged.Merged, declared.merge.MergeFault.MergeFault}
use Rattle.tape_run.specs.{declared.merge.reading.Reading.Reading, MergeSteps.is_bad_one}
use Rattle.tape_run.specs.MergeCalls.{AreAtFront, IfImages, Merges, FitsFault}
use Rattle.tape_run.specs.MergedImages.{AllBegin, FaultsImages}
use Rattle.tape_run.specs.MergeLaws.{AreFronts, TakesAs}
use Rattle.tape_run.specs.declared.merge.MergeFault.TheVariants as faults
use Rattle.tape_run.proofs.{MergeGiven.readers_give_images, MergeJoins.differ_for_good}
use Rattle.tape_run.proofs.MergeCounts.{one_at_most}

-- ---- how long readings are

behind_limit : (items : List TapeItem) (a b : Reader) → a.place ≤ image_limit → Gave a items b
    → b.place ≤ image_limit
behind_limit [] a b le same =
    subst (λ (p : ℕ). p ≤ image_limit) (sym (ap (λ (r : Reader). r.place) same)) le
behind_limit (x ∷ items) a b le (mid, given, then) = behind_limit items mid b given.within then

extents : (items : List TapeItem) (a b : Reader) → Gave a items b
    → a.place + length items * 4 ≤ b.place
extents [] a b same =
    let e : b.place ≡ a.place = ap (λ (r : Reader). r.place) same in
    omega (arith, e)
extents (x ∷ items) a b (mid, given, then) =
    omega (arith, extents items mid b then, given.extent, least_four x)

few_bad : (items : List TapeItem) → bads items ≤ length items
few_bad [] = omega arith
few_bad (x ∷ items) =
    omega (arith, few_bad items, one_at_most (is_bad_one (Some x)))

-- an image has fewer than 2 ^ 30 items
few_items : (f n : Reader) (items : List TapeItem) → HasRead f n items → f.place ≡ 0
    → length items * 4 ≤ image_limit
few_items f n items h first = omega (
  arith,
  first,
  extents items f h.behind h.gave,
  behind_limit items f h.behind (omega (arith, first)) h.gave,
)

-- ---- what one reading took

last_at : {R : Type 0} (bytes : List ℕ) (f n : Reading R) (items : List TapeItem)
    → f.image.left ≡ Some bytes → f.image.place ≡ 0 → TookLast f n items → LastIsAt bytes n items
last_at bytes f n items known first (nothing none from len) = no_item none
last_at bytes f n items known first (last before x mid is gave from len) =
    let (rest, here, walks) = Gave-walks before f.image mid bytes known gave in
    last_item before x rest is
    (subst (λ (p : ℕ). Walks 0 bytes before p rest) (sym from)
    (subst (λ (p : ℕ). Walks p bytes before mid.place rest) first walks)) len

takes_image : {R : Type 0} (bytes : List ℕ) (f n : Reading R) (items : List TapeItem)
    → AreAtFront (Some bytes ∷ []) (f ∷ []) → HasTaken f n items → TakesImage bytes n items
takes_image bytes f n items (known, on, first, no_items, no_bad, _) h =
    let (left, is_left, takes) =
    readers_give_images f.image n.image items bytes h.read on known in
    let few : length items * 4 ≤ image_limit = few_items f.image n.image items h.read first in
    record {
      left = left;
      is_left = is_left;
      takes = subst (λ (p : ℕ). TakesAs p n.image.status items n.image.place bytes left) first
          takes;
      items = omega (arith, no_items, h.items (omega (arith, no_items, few)));
      bad = omega (arith, no_bad, h.bad (omega (arith, no_bad, few, few_bad items)));
      last = last_at bytes f n items known first h.last;
    }

take_images : {R : Type 0} (images : List (List ℕ)) (firsts nows : List (Reading R))
    (rs : List (List TapeItem)) → AreAtFront (map Some images) firsts
    → HaveTaken firsts nows rs → TakeImages images nows rs
take_images [] [] [] [] front h = tt
take_images (bytes ∷ images) (f ∷ firsts) (n ∷ nows) (r ∷ rs) front h = (
  takes_image bytes f n r (front.0, front.1, front.2, front.3, front.4, tt) h.0,
  take_images images firsts nows rs front.5 h.1,
)
take_images [] (f ∷ firsts) nows rs front h = absurd front
take_images (bytes ∷ images) [] nows rs front h = absurd front
take_images _ _ _ _ front h = absurd h

merges_images : {R : Type 0} (images : List (List ℕ)) (firsts nows : List (Reading R))
    (c : Merged) (old new : Writer) (log logged : Option (List ℕ))
    → AreAtFront (map Some images) firsts → Merges (HaveTaken firsts nows) nows c old new log logged
    → Merges (TakeImages images nows) nows c old new log logged
merges_images images firsts nows c old new log logged front m = record {
  readings = m.readings;
  have = take_images images firsts nows m.readings front m.have;
  ended = m.ended;
  merged = m.merged;
  is = m.is;
  count = m.count;
  wrote = m.wrote;
  rows = m.rows;
}

-- ---- where readings differ

begins_with : (bytes : List ℕ) (f n : Reader) (r all : List TapeItem) → HasRead f n r
    → f.left ≡ Some bytes → f.place ≡ 0
    → ((end : ℕ) × (stop : Stop) × Begins 0 bytes all end stop)
    → (more : List TapeItem) × (all ≡ r ++ more)
begins_with bytes f n r all h known first (end, stop, begins) =
    let (ys, here, walks) = Gave-walks r f h.behind bytes known h.gave in
    front_of_image bytes ys r all h.behind.place end stop
    (subst (λ (p : ℕ). Walks p bytes r h.behind.place ys) first walks)
    (behind_limit r f h.behind (omega (arith, first)) h.gave) begins

are_begun : {R : Type 0} (images : List (List ℕ)) (firsts nows : List (Reading R))
    (rs all : List (List TapeItem))
    → AreAtFront (map Some images) firsts → HaveTaken firsts nows rs → AllBegin images all
    → AreFronts rs all
are_begun [] [] [] [] [] front h begins = tt
are_begun [] [] [] [] (a ∷ all) front h begins = absurd begins
are_begun (bytes ∷ images) (f ∷ firsts) (n ∷ nows) (r ∷ rs) [] front h begins = absurd begins
are_begun (bytes ∷ images) (f ∷ firsts) (n ∷ nows) (r ∷ rs) (a ∷ all) front h begins = (
  begins_with bytes f.image n.image r a h.0.read front.0 front.2 begins.0,
  are_begun images firsts nows rs all front.5 h.1 begins.1,
)
are_begun [] (f ∷ firsts) nows rs all front h begins = absurd front
are_begun (bytes ∷ images) [] nows rs all front h begins = absurd front
are_begun _ _ _ _ _ front h begins = absurd h

faults_images : {R : Type 0} (images : List (List ℕ)) (firsts nows : List (Reading R))
    (old new : Writer) (fault : MergeFault) → AreAtFront (map Some images) firsts
    → FitsFault firsts nows old new fault → FaultsImages images nows old new fault
faults_images images firsts nows old new (faults.Differ n) front d = (
  record {
    readings = d.readings;
    have = take_images images firsts nows d.readings front d.have;
    up_to = d.up_to;
    differ = d.differ;
    for_good = λ all begins. differ_for_good d.readings all
        (are_begun images firsts nows d.readings all front d.have begins) d.differ;
    judged = d.judged;
    merged = d.merged;
    is = d.is;
    count = d.count;
  },
  d.wrote,
)
faults_images images firsts nows old new faults.OutOfMemory front d = inr (record {
  mids = d.mids;
  fronts = d.fronts;
  had = take_images images firsts d.mids d.fronts front d.had;
  merged = d.merged;
  is = d.is;
  wrote = d.wrote;
})
faults_images images firsts nows old new faults.Log front d = record {
  readings = d.readings;
  taken = take_images images firsts nows d.readings front d.taken;
  merged = d.merged;
  x = d.x;
  is = d.is;
  wrote = d.wrote;
  due = d.due;
}
faults_images images firsts nows old new (faults.Write fault) front d = record {
  readings = d.readings;
  taken = take_images images firsts nows d.readings front d.taken;
  merged = d.merged;
  x = d.x;
  is = d.is;
  mid = d.mid;
  wrote = d.wrote;
  refused = d.refused;
}

-- ---- as an engine answers

pub ok_images : {R : Type 0} (result : Result Merged MergeFault) (firsts nows : List (Reading R))
    (old new : Writer) (log logged : Option (List ℕ))
    → IfOk result (λ m. Merges (HaveTaken firsts nows) nows m old new log logged)
    → IfOk result (λ m. IfImages firsts (λ images.
    Merges (TakeImages images nows) nows m old new log logged))
ok_images (Ok m) firsts nows old new log logged h =
    λ images front. merges_images images firsts nows m old new log logged front h
ok_images (Err fault) firsts nows old new log logged h = tt

pub err_images : {R : Type 0} (result : Result Merged MergeFault) (firsts nows : List (Reading R))
    (old new : Writer) → IfErr result (FitsFault firsts nows old new)
    → IfErr result (λ fault. IfImages firsts (λ images.
    FaultsImages images nows old new fault))
err_images (Ok m) firsts nows old new h = tt
err_images (Err fault) firsts nows old new h =
    λ images front. faults_images images firsts nows old new fault front h

-- ---- as many readings as before
