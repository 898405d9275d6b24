-- The copies that are found on images of a valid set's volumes.
use Rattle.std.proofs.Common.{◌≡◌, ℕ, ◌+◌, Bool, true, false, List, [], ◌∷◌, ◌++◌, length, Some}
use Rattle.std.proofs.Common.{None, refl, sym, ap, subst, ◌∙◌, inl, inr, append-nil, if◌then◌else◌}
use Rattle.std.proofs.{Common.◌==◌, lemmas.Bool.and_parts, lemmas.Slice.Eq.bytes_eq-Decides}
use Rattle.std.specs.{Str.bytes_eq, List.AllByRecursion}
use Rattle.tape_image.specs.{Tape.TapeItem, Tape.block, Begins.Stop, Begins.Begins, Step.IsCause}
use Rattle.tape_image.specs.declared.item.ImageCause.{ImageCause}
use Rattle.tape_image.specs.declared.item.ImageCause.TheVariants.{Truncated, Device, OutOfMemory}
use Rattle.tape_image.proofs.{Callers.front_of_image, Uniqueness.Begins-one, Walks.IfKnown-at}
use Rattle.tape_set.specs.Layout.{FileSet, Placed, on, sections}
use Rattle.tape_set.specs.Lawful.{IsLawful, label_count}
use Rattle.tape_set.proofs.Everywhere.{every_stands, every_front, every, every-append}
use Rattle.tape_set.proofs.{Numbering.section_stands, Volumes.IsOn, Volumes.sections_on_are}
use Rattle.tape_run.specs.SalvageDamagedSets.{IsPlainSet, AreAnyRead, IsOtherHead, IsAnyCopy}
use Rattle.tape_run.specs.{declared.section.SectionKey.SectionKey, Added.StopsBehind}
use Rattle.tape_run.specs.{declared.section.ImageStop.ImageStop, SalvageClosed.IsThere}
use Rattle.tape_run.specs.declared.salvage.walk.Closing.{Closing}
use Rattle.tape_run.specs.declared.section.ImageStop.TheVariants.{Marked, Physical, Fault}
use Rattle.tape_run.specs.SalvageWalk.{FoundAt, sections_in}
use Rattle.tape_run.specs.SalvageCopies.{is_of, copy_of, of_file}
use Rattle.tape_run.specs.SalvageDamaged.{AnySection, IsPlainSection, IsFoundExactly}
use Rattle.tape_run.specs.SalvageDamagedSets.{IsExactIf, FoundAreExact}
use Rattle.tape_run.proofs.{Fronts.walks_before, SalvageClosed.closed_are_there, SalvageOpened.long}
use Rattle.tape_run.proofs.SalvageDamagedSets.{closed_of_set_are_exact, placed_of}

-- ---- the items that were read come first among those of the image

same_front : (its all : List TapeItem) (xs : List ℕ) (far end : ℕ) (other why : Stop)
    → Begins 0 xs its far other → Begins 0 xs all end why
    → (more : List TapeItem) × (all ≡ its ++ more)
same_front its all xs far end other why a b =
    let same = (Begins-one 0 xs its all far end other why a b).0 in
    ([], sym same ∙ sym (append-nil its))

by_cause : (its all : List TapeItem) (cause : ImageCause) (q : ℕ) (xs ys given : List ℕ) (end : ℕ)
    (why : Stop) → xs ≡ given ++ ys → IsCause cause 0 its q xs given → Begins 0 xs all end why
    → (more : List TapeItem) × (all ≡ its ++ more)
by_cause its all Device q xs ys given end why whole (stop, a, cut) b =
    let w = walks_before given ys a.rest its q a.walks in
    front_of_image (given ++ ys) (a.rest ++ ys) its all q end why w a.within
    (subst (λ (z : List ℕ). Begins 0 z all end why) whole b)
by_cause its all OutOfMemory q xs ys given end why whole a b = absurd a
by_cause its all Truncated q xs ys given end why whole a b = same_front _ _ _ _ _ _ _ a.0 b
by_cause its all _ q xs ys given end why whole a b = same_front its all xs q end _ why a.0 b

pub stops_front : (its all : List TapeItem) (stop : ImageStop) (xs ys : List ℕ) (end : ℕ) (why : Stop)
    → StopsBehind its stop xs ys → Begins 0 xs all end why
    → (more : List TapeItem) × (all ≡ its ++ more)
stops_front its all Marked xs ys end why (place, t) b = same_front _ _ _ _ _ _ _ t.begins b
stops_front its all Physical xs ys end why (place, t) b = same_front _ _ _ _ _ _ _ t.begins b
stops_front its all (Fault fault) xs ys end why t b = by_cause _ _ _ _ _ _ _ _ _ t.whole t.cause b

-- ---- the copies on an image

no_head : (set_id : List ℕ) (front : List TapeItem) (b : List ℕ) (rest : List TapeItem)
    → AllByRecursion (IsOtherHead set_id) (front ++ block b ∷ rest) → IsOtherHead set_id (block b)
no_head set_id [] b rest (h, all) = h
no_head set_id (x ∷ front) b rest (h, all) = no_head set_id front b rest all

placed_at : (a : List AnySection) (s : AnySection) (b : List AnySection)
    → placed_of (a ++ s ∷ b) ≡ placed_of a ++ s.placed ∷ placed_of b
placed_at [] s b = refl
placed_at (x ∷ a) s b = ap (λ (ps : List Placed). x.placed ∷ ps) (placed_at a s b)

module _ (set : FileSet) (file n : ℕ) (l : IsLawful set) where
  -- a section of this set
  owned : (t : FoundAt) → is_of set.set_id file t.1 ≡ true → t.1.0.key.set_id ≡ set.set_id
  owned t own =
      let e = (and_parts (bytes_eq t.1.0.key.set_id set.set_id) (t.1.0.key.file == file) own).0 in
      (bytes_eq-Decides t.1.0.key.set_id set.set_id).0 e

  -- a section that was found is exact, if it is one of the file
  abbrev Exact : FoundAt → Type 0
  Exact t = is_of set.set_id file t.1 ≡ true → IsExactIf set (copy_of n t)

  each_exact : (ts : List FoundAt) → AllByRecursion Exact ts
      → AllByRecursion (IsExactIf set) (of_file set.set_id file n ts)
  each_exact [] all = tt
  each_exact (t ∷ ts) (h, all) = by (is_of set.set_id file t.1) refl (each_exact ts all)
    where
      by : (b : Bool) → is_of set.set_id file t.1 ≡ b
          → AllByRecursion (IsExactIf set) (of_file set.set_id file n ts)
          → AllByRecursion (IsExactIf set) (if b then copy_of n t ∷ of_file set.set_id file n ts
          else of_file set.set_id file n ts)
      by true e rest = (h e, rest)
      by false e rest = rest

  on_volume : (its : List TapeItem) (rs : List AnySection) (k : ℕ) → AreAnyRead set k rs
      → (t : FoundAt) → IsFoundExactly set.set_id rs its t → Exact t
  on_volume its rs k are (place, (u, None)) h own = λ c e none. absurd (cc e)
  on_volume its rs k are (place, (u, Some c)) h own = λ d e none.
      let x = h none (owned (place, (u, Some c)) own) in
      let s = x.section in
      let same : c ≡ d = cc e in
      let p = every_stands (IsPlainSection set.set_id (length set.volumes)) rs s are.each
      x.among in
      let size : length s.blocks ≡ length s.placed.section.blocks =
      sym (long s.blocks) ∙ ap length p.are_blocks in
      let here =
      every_stands (IsOn set k) (on k (sections set)) s.placed (sections_on_are set k l) (
        placed_of x.among.0,
        placed_of x.among.1,
        sym are.all ∙ ap placed_of x.among.2 ∙ placed_at x.among.0 s x.among.1,
      ) in
      record {
        placed = s.placed;
        among = section_stands set s.placed.file s.placed.sect s.placed.section here.found;
        file = ap (λ (z : SectionKey). z.file) x.key;
        sect = ap (λ (z : SectionKey). z.sect) x.key;
        items = s.blocks;
        filled = p.are_blocks;
        blocks = x.blocks ∙ size;
        digest = x.digest;
        count = ap (λ (z : Closing). z.count) (sym same) ∙ x.count ∙ ap label_count size;
      }

  on_foreign : (its : List TapeItem) → AllByRecursion (IsOtherHead set.set_id) its → (t : FoundAt)
      → IsThere its t → Exact t
  on_foreign its none (place, (u, None)) h own = λ c e after. absurd (cc e)
  on_foreign its none (place, (u, Some c)) h own = λ d e after.
      let x = h after in
      let head : x.head.set_id ≡ set.set_id =
      ap (λ (z : SectionKey). z.set_id) (sym x.key) ∙ owned (place, (u, Some c)) own in
      absurd (no_head set.set_id x.front x.hdr1 _
      (subst (AllByRecursion (IsOtherHead set.set_id)) x.is none) x.head x.begins head)

  image_exact : IsPlainSet set → (its all more : List TapeItem) → all ≡ its ++ more
      → IsAnyCopy set all
      → AllByRecursion (IsExactIf set) (of_file set.set_id file n (sections_in its))
  image_exact plain its all more splits (inl (r, reading, is)) =
      let x = closed_of_set_are_exact set r its more l reading plain (sym splits ∙ is) in
      each_exact (sections_in its) (every (IsFoundExactly set.set_id x.0 its) Exact
      (λ t h. on_volume its x.0 r.volume x.1 t h) (sections_in its) x.2)
  image_exact plain its all more splits (inr other) =
      let none = every_front (IsOtherHead set.set_id) its more
      (subst (AllByRecursion (IsOtherHead set.set_id)) splits other) in
      each_exact (sections_in its) (every (IsThere its) Exact
      (λ t h. on_foreign its none t h) (sections_in its) (closed_are_there its))

pub found_are_exact : FoundAreExact
found_are_exact set file n [] old copies text l plain images (same, said) all =
    subst (AllByRecursion (IsExactIf set)) (sym same) all
found_are_exact set file n (None ∷ reels) old copies text l plain (image, images)
    (mid, one, rest, (same, said), finds, is) all =
    found_are_exact set file (n + 1) reels mid copies rest l plain images finds
    (subst (AllByRecursion (IsExactIf set)) (sym same) all)
found_are_exact set file n (Some None ∷ reels) old copies text l plain (image, images) finds all =
    absurd image
found_are_exact set file n (Some (Some bytes) ∷ reels) old copies text l plain
    ((xs, end, stop, begins, copy), images)
    (mid, one, rest, (after, why, found, said), finds, is) all =
    let (ys, there, stops) =
    IfKnown-at (Some bytes) after (StopsBehind found.items why) bytes refl found.read in
    let (more, splits) = stops_front found.items xs why bytes ys end stop stops begins in
    found_are_exact set file (n + 1) reels mid copies rest l plain images finds
    (subst (AllByRecursion (IsExactIf set)) (sym found.seen)
    (every-append (IsExactIf set) old (of_file set.set_id file n (sections_in found.items)) all
    (image_exact set file n l plain found.items xs more splits copy)))
