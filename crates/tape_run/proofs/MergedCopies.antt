-- The merged items of copies of a volume are a copy of it.
use Rattle.std.proofs.Common.{◌≡◌, ◌≢◌, ◌⊎◌, inl, inr, ◌<◌, ◌≤◌, ℕ, List, [], ◌∷◌, ◌++◌, length}
use Rattle.std.proofs.Common.{drop, map, Bool, true, false, cond, refl, sym, ap, subst, ◌∙◌, arith}
use Rattle.std.proofs.{Common.append-nil, Common.length-append, lemmas.Bool.cases_lt}
use Rattle.tape_image.specs.Tape.{TapeItem, bad}
use Rattle.tape_set.specs.Layout.{FileSet, Entry, a_label, a_data_block, a_mark, items, entries}
use Rattle.tape_set.specs.{Layout.item_of, Reading.Reading, Reading.as_read}
use Rattle.tape_set.specs.Reach.{passes, IsWithin}
use Rattle.tape_run.specs.{Mount.IsCopy, MergeLaws.longest}
use Rattle.tape_run.specs.Merging.{IsReadAs, IsReadFrom, AreReadFrom}
use Rattle.tape_run.specs.MergedCopies.{AreCopies, AreWithin, MergedIsCopy}
use Rattle.tape_run.proofs.{MergeReadings.reads_more, MergeReadings.reads_front, MergeBest.as_long}
use Rattle.tape_run.proofs.Mounts.{as_read_length}
use Rattle.tape_set.proofs.Reaching.{passes_better}

-- ---- items as they were read

as_met : (x : TapeItem) (g : Bool) → IsReadAs (cond g x bad) x
as_met x true = inr refl
as_met x false = inl refl

as_read_from : (xs : List TapeItem) (gs : List Bool) → IsReadFrom (as_read xs gs) xs
as_read_from [] gs = tt
as_read_from (x ∷ xs) [] = tt
as_read_from (x ∷ xs) (g ∷ gs) = (as_met x g, as_read_from xs gs)

-- ---- after a prefix of a tape

reads_append : (a s b t : List TapeItem) → length a ≡ length s → IsReadFrom a s → IsReadFrom b t
    → IsReadFrom (a ++ b) (s ++ t)
reads_append [] [] b t e h k = k
reads_append [] (y ∷ s) b t e h k = absurd (omega arith)
reads_append (x ∷ a) [] b t e h k = absurd h
reads_append (x ∷ a) (y ∷ s) b t e h k = (h.0, reads_append a s b t (omega arith) h.1 k)

reads_drop : (a b t : List TapeItem) → IsReadFrom (a ++ b) t → IsReadFrom b (drop (length a) t)
reads_drop [] b t h = h
reads_drop (x ∷ a) b [] h = absurd h
reads_drop (x ∷ a) b (y ∷ t) h = reads_drop a b t h.1

-- a copy is a reading of the volume followed by the items that the merged tape has after it
copy_reads : (set : FileSet) (k : ℕ) (xs m : List TapeItem) (r : Reading) → IsCopy set xs r
    → r.volume ≡ k → IsReadFrom xs m → IsReadFrom xs (items set k ++ drop (length (items set k)) m)
copy_reads set k xs m r c same h = go c.more c.whole c.behind
  where
    whole_is : (more : List TapeItem) → xs ≡ as_read (items set r.volume) r.good ++ more
        → xs ≡ as_read (items set k) r.good ++ more
    whole_is more e = subst (λ (v : ℕ). xs ≡ as_read (items set v) r.good ++ more) same e

    front : (more : List TapeItem) → more ≡ [] → xs ≡ as_read (items set k) r.good ++ more
        → IsReadFrom xs (items set k ++ drop (length (items set k)) m)
    front more none e =
        let is : xs ≡ as_read (items set k) r.good =
        e ∙ ap (λ l. as_read (items set k) r.good ++ l) none
        ∙ append-nil (as_read (items set k) r.good) in
        subst (λ l. IsReadFrom l (items set k ++ drop (length (items set k)) m)) (sym is)
        (reads_more (as_read (items set k) r.good) (items set k) (drop (length (items set k)) m)
        (as_read_from (items set k) r.good))

    long : (more : List TapeItem) → xs ≡ as_read (items set k) r.good ++ more
        → length r.good ≡ length (items set k)
        → IsReadFrom xs (items set k ++ drop (length (items set k)) m)
    long more e full =
        let len : length (as_read (items set k) r.good) ≡ length (items set k) =
        as_read_length (items set k) r.good (omega arith) ∙ full in
        let there : IsReadFrom (as_read (items set k) r.good ++ more) m =
        subst (λ l. IsReadFrom l m) e h in
        let rest : IsReadFrom more (drop (length (items set k)) m) =
        subst (λ (n : ℕ). IsReadFrom more (drop n m)) len
        (reads_drop (as_read (items set k) r.good) more m there) in
        subst (λ l. IsReadFrom l (items set k ++ drop (length (items set k)) m)) (sym e)
        (reads_append (as_read (items set k) r.good) (items set k) more
        (drop (length (items set k)) m) len (as_read_from (items set k) r.good) rest)

    go : (more : List TapeItem) → xs ≡ as_read (items set r.volume) r.good ++ more
        → (more ≢ [] → (length r.good ≡ length (items set r.volume))
        × (passes r.good (entries set r.volume) ≡ true))
        → IsReadFrom xs (items set k ++ drop (length (items set k)) m)
    go [] e behind = front [] refl (whole_is [] e)
    go (y ∷ more) e behind = long (y ∷ more) (whole_is (y ∷ more) e)
        (subst (λ (v : ℕ). length r.good ≡ length (items set v)) same (behind (λ e. cc e)).0)

copies_read : (set : FileSet) (k : ℕ) (images : List (List TapeItem)) (rs : List Reading)
    (m : List TapeItem) → AreCopies set k images rs → AreReadFrom images m
    → AreReadFrom images (items set k ++ drop (length (items set k)) m)
copies_read set k [] [] m c h = tt
copies_read set k [] (r ∷ rs) m c h = absurd c
copies_read set k (xs ∷ images) [] m c h = absurd c
copies_read set k (xs ∷ images) (r ∷ rs) m c h =
    (copy_reads set k xs m r c.0 c.1 h.0, copies_read set k images rs m c.2 h.1)

-- ---- the items that could be read

-- for each item of a volume, whether the merged item in its place could be read, up to the end of
-- the shorter list; and the merged items after the volume
abbrev Marks : List TapeItem → List TapeItem → List Bool → List TapeItem → Type 0
Marks [] m good more = (good ≡ []) × (more ≡ m)
Marks (x ∷ xs) [] good more = (good ≡ []) × (more ≡ [])
Marks (x ∷ xs) (y ∷ m) [] more = ⊥
Marks (x ∷ xs) (y ∷ m) (g ∷ good) more =
    (y ≡ cond g x bad) × (g ≡ false → y ≡ bad) × Marks xs m good more

mark_of : (x y : TapeItem) → IsReadAs y x
    → (g : Bool) × ((y ≡ cond g x bad) × (g ≡ false → y ≡ bad))
mark_of x y (inl e) = (false, (e, λ f. e))
mark_of x y (inr e) = (true, (e, λ f. absurd (cc f)))

marks : (xs m rest : List TapeItem) → IsReadFrom m (xs ++ rest)
    → (good : List Bool) × ((more : List TapeItem) × Marks xs m good more)
marks [] m rest h = ([], (m, (refl, refl)))
marks (x ∷ xs) [] rest h = ([], ([], (refl, refl)))
marks (x ∷ xs) (y ∷ m) rest h =
    let (g, is) = mark_of x y h.0 in
    let (good, (more, then)) = marks xs m rest h.1 in
    (g ∷ good, (more, (is.0, is.1, then)))

marks_whole : (xs m : List TapeItem) (good : List Bool) (more : List TapeItem)
    → Marks xs m good more → m ≡ as_read xs good ++ more
marks_whole [] m good more h = sym h.1
marks_whole (x ∷ xs) [] good more h =
    let a : good ≡ [] = h.0 in
    let b : more ≡ [] = h.1 in
    rw (a, b) refl
marks_whole (x ∷ xs) (y ∷ m) [] more h = absurd h
marks_whole (x ∷ xs) (y ∷ m) (g ∷ good) more h =
    let a : y ≡ cond g x bad = h.0 in
    let b : m ≡ as_read xs good ++ more = marks_whole xs m good more h.2 in
    cc

marks_length : (xs m : List TapeItem) (good : List Bool) (more : List TapeItem)
    → Marks xs m good more → length good ≤ length xs
marks_length [] m good more h = let e : length good ≡ 0 = ap length h.0 in omega arith
marks_length (x ∷ xs) [] good more h = let e : length good ≡ 0 = ap length h.0 in omega arith
marks_length (x ∷ xs) (y ∷ m) [] more h = absurd h
marks_length (x ∷ xs) (y ∷ m) (g ∷ good) more h =
    let ih : length good ≤ length xs = marks_length xs m good more h.2 in
    omega arith

-- there are items after the volume only if all of it was read
marks_full : (xs m : List TapeItem) (good : List Bool) (more : List TapeItem)
    → Marks xs m good more → more ≢ [] → length good ≡ length xs
marks_full [] m good more h some = ap length h.0
marks_full (x ∷ xs) [] good more h some = absurd (some h.1)
marks_full (x ∷ xs) (y ∷ m) [] more h some = absurd h
marks_full (x ∷ xs) (y ∷ m) (g ∷ good) more h some =
    let ih : length good ≡ length xs = marks_full xs m good more h.2 some in
    omega arith

-- ---- better than each

-- none of these items is bad
abbrev NoBad : List TapeItem → Type 0
NoBad [] = Unit {0}
NoBad (x ∷ xs) = (x ≢ bad) × NoBad xs

no_bad : (es : List Entry) → NoBad (map item_of es)
no_bad [] = tt
no_bad (a_label bytes ∷ es) = (λ e. cc e, no_bad es)
no_bad (a_data_block bytes ∷ es) = (λ e. cc e, no_bad es)
no_bad (a_mark ∷ es) = (λ e. cc e, no_bad es)

-- an item that was read well is merged unchanged
told_well : (x y : TapeItem) (g h : Bool) → x ≢ bad → IsReadAs (cond g x bad) y
    → (h ≡ false → y ≡ bad) → g ≡ true → h ≡ true
told_well x y g true some met off on = refl
told_well x y true false some (inl e) off on = absurd (some e)
told_well x y true false some (inr e) off on = absurd (some (e ∙ off refl))
told_well x y false false some met off on = absurd (cc on)

within : (xs m : List TapeItem) (gs good : List Bool) (more : List TapeItem) → NoBad xs
    → length gs ≤ length xs → IsReadFrom (as_read xs gs) m → Marks xs m good more → IsWithin gs good
within xs m [] good more none le h k = tt
within [] m (g ∷ gs) good more none le h k = absurd (omega arith)
within (x ∷ xs) [] (g ∷ gs) good more none le h k = absurd h
within (x ∷ xs) (y ∷ m) (g ∷ gs) [] more none le h k = absurd k
within (x ∷ xs) (y ∷ m) (g ∷ gs) (b ∷ good) more none le h k = (
  told_well x y g b none.0 h.0 k.1,
  within xs m gs good more none.1 (omega arith) h.1 k.2,
)

copy_within : (set : FileSet) (k : ℕ) (xs m : List TapeItem) (r : Reading) (good : List Bool)
    (more : List TapeItem) → NoBad (items set k) → IsCopy set xs r → r.volume ≡ k
    → IsReadFrom xs m → Marks (items set k) m good more → IsWithin r.good good
copy_within set k xs m r good more none c same h marked =
    let le : length r.good ≤ length (items set k) =
    subst (λ (v : ℕ). length r.good ≤ length (items set v)) same c.is_reading.within in
    let whole : xs ≡ as_read (items set k) r.good ++ c.more =
    subst (λ (v : ℕ). xs ≡ as_read (items set v) r.good ++ c.more) same c.whole in
    within _ _ _ _ _ none le (reads_front (as_read (items set k) r.good) c.more m
    (subst (λ l. IsReadFrom l m) whole h)) marked

copies_within : (set : FileSet) (k : ℕ) (images : List (List TapeItem)) (rs : List Reading)
    (m : List TapeItem) (s : Reading) (more : List TapeItem) → NoBad (items set k)
    → AreCopies set k images rs → AreReadFrom images m → Marks (items set k) m s.good more
    → AreWithin rs s
copies_within set k [] [] m s more none c h marked = tt
copies_within set k [] (r ∷ rs) m s more none c h marked = absurd c
copies_within set k (xs ∷ images) [] m s more none c h marked = absurd c
copies_within set k (xs ∷ images) (r ∷ rs) m s more none c h marked = (
  copy_within set k xs m r s.good more none c.0 c.1 h.0 marked,
  copies_within set k images rs m s more none c.2 h.1 marked,
)

-- ---- after the volume

-- a copy with items after the volume contains the whole volume
copy_passes : (set : FileSet) (k : ℕ) (xs : List TapeItem) (r : Reading) → IsCopy set xs r
    → r.volume ≡ k → length (items set k) < length xs → passes r.good (entries set k) ≡ true
copy_passes set k xs r c same longer = go c.more c.whole c.behind
  where
    go : (more : List TapeItem) → xs ≡ as_read (items set r.volume) r.good ++ more
        → (more ≢ [] → (length r.good ≡ length (items set r.volume))
        × (passes r.good (entries set r.volume) ≡ true)) → passes r.good (entries set k) ≡ true
    go [] e behind =
        let len : length (as_read (items set r.volume) r.good) ≡ length r.good =
        as_read_length (items set r.volume) r.good c.is_reading.within in
        let same_len : length (items set r.volume) ≡ length (items set k) =
        ap (λ (v : ℕ). length (items set v)) same in
        absurd (omega (
          arith,
          ap length e,
          length-append (as_read (items set r.volume) r.good) [],
          c.is_reading.within,
          longer,
        ))
    go (y ∷ more) e behind =
        subst (λ (v : ℕ). passes r.good (entries set v) ≡ true) same (behind (λ e. cc e)).1

copies_pass : (set : FileSet) (k : ℕ) (images : List (List TapeItem)) (rs : List Reading)
    (s : Reading) → AreCopies set k images rs → AreWithin rs s
    → length (items set k) < longest images → passes s.good (entries set k) ≡ true
copies_pass set k [] rs s c w longer = absurd (omega arith)
copies_pass set k (xs ∷ images) [] s c w longer = absurd c
copies_pass set k (xs ∷ images) (r ∷ rs) s c w longer =
    go (λ l. copies_pass set k images rs s c.2 w.1 l)
    (cases_lt (length (items set k)) (length xs))
  where
    go : (length (items set k) < longest images → passes s.good (entries set k) ≡ true)
        → (length (items set k) < length xs) ⊎ (length xs ≤ length (items set k))
        → passes s.good (entries set k) ≡ true
    go rest (inl here) = passes_better r.good s.good (entries set k) w.0
        (copy_passes set k xs r c.0 c.1 here)
    go rest (inr less) = rest (omega arith)

some_length : (more : List TapeItem) → more ≢ [] → 0 < length more
some_length [] some = absurd (some refl)
some_length (x ∷ more) some = omega arith

longer : (xs m : List TapeItem) (good : List Bool) (more : List TapeItem) {n : ℕ}
    → m ≡ as_read xs good ++ more → length good ≤ length xs → length good ≡ length xs
    → more ≢ [] → length m ≡ n → length xs < n
longer xs m good more {n} whole le full some long = omega (
  arith,
  ap length whole,
  length-append (as_read xs good) more,
  as_read_length xs good le,
  full,
  some_length more some,
  long,
)

pub merged_is_copy : MergedIsCopy
merged_is_copy set k images rs m there c is =
    let n = length (items set k) in
    let reads = is.least (items set k ++ drop n m) (copies_read set k images rs m c is.all) in
    let (good, (more, marked)) = marks (items set k) m (drop n m) reads in
    let r : Reading = record { volume = k; good = good } in
    let w : AreWithin rs r =
    copies_within set k images rs m r more (no_bad (entries set k)) c is.all marked in
    let whole : m ≡ as_read (items set k) good ++ more =
    marks_whole (items set k) m good more marked in
    let le : length good ≤ n = marks_length (items set k) m good more marked in (
      r,
      refl,
      record {
        is_reading = record { volume = there; within = le };
        more = more;
        whole = whole;
        behind = λ some. (
          marks_full (items set k) m good more marked some,
          copies_pass set k images rs r c w (longer (items set k) m good more whole le
              (marks_full (items set k) m good more marked some) some (as_long images m is)),
        );
      },
      w,
    )
