-- Complete readings of all volumes recover a complete file.
use Rattle.std.proofs.Common.{◌≡◌, ℕ, zero, suc, ◌+◌, ◌<◌, ◌≤◌, Bool, true, false, List, [], ◌∷◌}
use Rattle.std.proofs.Common.{◌++◌, length, map, Option, Some, None, refl, sym, ap, subst, ◌∙◌}
use Rattle.std.proofs.Common.{arith, IsSome, replicate, min, unwrap_or}
use Rattle.std.proofs.lemmas.List.{length-replicate}
use Rattle.tape_blocks.specs.Spans.{join}
use Rattle.tape_image.specs.Tape.{TapeItem}
use Rattle.tape_set.specs.{declared.position.Position.TheVariants.Finished, Lawful.IsLawful}
use Rattle.tape_set.specs.Layout.{FileSet, Section, Volume, nth, file_of, items}
use Rattle.tape_set.specs.{Before.before, Before.section_parts, Reach.far, Reach.far_over}
use Rattle.tape_set.specs.Reading.{Reading, as_read, whole_reading, whole_readings}
use Rattle.tape_set.proofs.AllVolumes.{file_is_lawful, there_and_back}
use Rattle.tape_set.proofs.FileParts.{file_whole}
use Rattle.tape_run.specs.{Mount.reads, Mount.IsCopy, Mount.IsMountOf, Seen.Seen}
use Rattle.tape_run.specs.History.{Course, course, IsHistory}
use Rattle.tape_run.specs.{Headline.begins, Headline.IsRead, Back.reels_of, Back.AreVolumes}
use Rattle.tape_run.specs.Given.{AreGivenBy, failed_of, counted_up}

-- ---- a history of readings

-- the position that it leads to is as far as its readings move the position
pub course_over : (set : FileSet) (file : ℕ) (c : Course) (rs : List Reading)
    → (course set file c (map reads rs)).at ≡ far_over set file c.at rs
course_over set file c [] = refl
course_over set file c (r ∷ rs) =
    course_over set file (record { at = far set file c.at r; notes = c.notes }) rs

pub there_again : (set : FileSet) (file : ℕ) → IsLawful set → IsSome (file_of set file)
    → (course set file begins (map reads (whole_readings set 0 (length set.volumes)))).at ≡ Finished
there_again set file l has = course_over set file begins (whole_readings set 0 (length set.volumes))
    ∙ there_and_back set l file has

some_volume : (xs : List Volume) (k : ℕ) → 1 ≤ k → k ≤ length xs → IsSome (nth xs k)
some_volume xs zero a b = absurd (omega (arith, a))
some_volume [] (suc k) a b = absurd (omega (arith, b))
some_volume (x ∷ xs) (suc zero) a b = refl
some_volume (x ∷ xs) (suc (suc k)) a b = some_volume xs (suc k) (omega arith) (omega (arith, b))

-- ---- the images of all volumes are such a history

all_good : (xs : List TapeItem) → xs ≡ as_read xs (replicate (length xs) true) ++ []
all_good [] = refl
all_good (x ∷ xs) = ap (λ z. x ∷ z) (all_good xs)

whole_copy : (set : FileSet) (k : ℕ) → k < length set.volumes
    → IsCopy set (items set (k + 1)) (whole_reading set (k + 1))
whole_copy set k h = grind (arith, some_volume, length-replicate, all_good)

pub volumes_history : (set : FileSet) (k : ℕ) (bs : List (List ℕ)) → AreVolumes set k bs
    → (k + length bs ≡ length set.volumes) × IsHistory set 0 (reels_of bs) bs (map reads
    (whole_readings set k (length bs)))
volumes_history set k [] v = (omega (arith, v), tt)
volumes_history set k (b ∷ bs) (less, (end, stop, begins_so), rest) =
    let next = volumes_history set (k + 1) bs rest in
    let mount : IsMountOf set b (reads (whole_reading set (k + 1))) =
    (items set (k + 1), end, stop, begins_so, whole_copy set k less) in
    (omega (arith, next.0), (mount, next.1))

-- ---- if no reader failed, everything was returned

least_up : (n c : ℕ) → 1 ≤ c → 1 ≤ counted_up n c
least_up zero c h = h
least_up (suc n) c h = least_up n (min (c + 1) 18446744073709551615) (omega (arith, h))

pub none_failed : (n : ℕ) → counted_up n 0 ≡ 0 → n ≡ 0
none_failed zero e = refl
none_failed (suc n) e = absurd
    (let h = least_up n (min (0 + 1) 18446744073709551615) (omega arith) in omega (arith, e, h))

pub none_of : (which : List Bool) (bytes given : List (List ℕ)) (left : List (Option (List ℕ)))
    → failed_of which ≡ 0 → AreGivenBy which bytes left given → given ≡ bytes
none_of [] bytes given left none a = a
none_of (f ∷ which) [] given left none a = absurd a
none_of (f ∷ which) (b ∷ bytes) given [] none a = absurd a
none_of (f ∷ which) (b ∷ bytes) [] (l ∷ left) none a = absurd a
none_of (true ∷ which) (b ∷ bytes) (g ∷ given) (l ∷ left) none a = absurd (omega (arith, none))
none_of (false ∷ which) (b ∷ bytes) (g ∷ given) (l ∷ left) none (is, rest) =
    ap (λ z. z ∷ given) is ∙ ap (λ z. b ∷ z) (none_of which bytes given left none rest)

-- If all images of the set are read and no reader fails, the file is complete.
pub came_back : (set : FileSet) (file : ℕ) (f : List Section) (bytes : List (List ℕ))
    (left : List (Option (List ℕ))) (s : Seen)
    → IsLawful set → file_of set file ≡ Some f → AreVolumes set 0 bytes → s.failures ≡ 0
    → IsRead set.set_id file (reels_of bytes) bytes left s
    → (s.place.position ≡ Finished) × (s.parts ≡ section_parts f)
came_back set file f bytes left s l e v none r =
    let no_failure : failed_of r.which ≡ 0 = none_failed (failed_of r.which) (sym r.count ∙ none) in
    let given : r.given ≡ bytes = none_of r.which bytes r.given left no_failure r.are_given in
    let (all, hist) = volumes_history set 0 bytes v in
    let has : IsSome (file_of set file) = rw e refl in
    let (there, parts) = r.reads set (map reads (whole_readings set 0 (length bytes))) l refl has
    (subst (λ z. IsHistory set 0 (reels_of bytes) z
    (map reads (whole_readings set 0 (length bytes)))) (sym given) hist) in
    let count : length bytes ≡ length set.volumes = omega (arith, all) in
    let done : (course set file begins (map reads (whole_readings set 0 (length bytes)))).at
    ≡ Finished = ap (λ n. (course set file begins (map reads (whole_readings set 0 n))).at) count
    ∙ there_again set file l has in (
      ap (λ (z : Course). z.at) there ∙ done,
      parts ∙ (ap (before set file) done
          ∙ ap (λ (o : Option (List Section)). section_parts (unwrap_or o [])) e),
    )

pub whole_records : (set : FileSet) (file : ℕ) (f : List Section) → IsLawful set
    → file_of set file ≡ Some f → (join (section_parts f)).rest ≡ None
whole_records set file f l e = file_whole f (file_is_lawful set file f l e)
