-- A survey of copies of volumes of a valid set finds no conflict.
use Rattle.std.proofs.Common.{◌≡◌, inl, inr, ℕ, zero, suc, ◌+◌, Bool, true, false, List, [], ◌∷◌}
use Rattle.std.proofs.Common.{◌++◌, map, Option, Some, None, refl, sym, ap, subst, ◌∙◌, take}
use Rattle.std.proofs.Common.{◌==◌, append_assoc, option_map, IsSome, ◌||◌, if◌then◌else◌}
use Rattle.std.proofs.lemmas.Bool.{and_parts}
use Rattle.std.specs.{Prelude.⊤, List.AllByRecursion}
use Rattle.tape_image.specs.Tape.{TapeItem, bad}
use Rattle.tape_image.proofs.Walks.{IfKnown-at}
use Rattle.tape_set.specs.Layout.{FileSet, Volume, Entry, nth, entries, items, sections, on, item_of}
use Rattle.tape_set.specs.Layout.{entries_on, is_data, volume_group, all_entries, a_mark}
use Rattle.tape_set.specs.{Lawful.IsLawful, Reading.as_read, Reach.passes}
use Rattle.tape_set.proofs.Everywhere.{every-filter, every_at, every, nth_found}
use Rattle.tape_set.proofs.Volumes.{IsOn, sections_on_are}
use Rattle.tape_run.specs.declared.{passing.Phase.Phase}
use Rattle.tape_run.specs.declared.survey.view.ImageSurvey.{ImageSurvey}
use Rattle.tape_run.specs.declared.passing.Phase.TheVariants.{Volume as AtVolume}
use Rattle.tape_run.specs.{Onward.step, Reeling.Mounting, Checked.Reel, Added.StopsBehind}
use Rattle.tape_run.specs.SurveyFiles.{Labelled, with_all, with_label}
use Rattle.tape_run.specs.SurveyCopies.{copies_from, copies_on, blocks_with, good_told}
use Rattle.tape_run.specs.SurveyRead.{Found, nothing_found, IsViewed, AreViewed}
use Rattle.tape_run.specs.CopySurveys.{TrailerNames, TrailersName, IsFairImage}
use Rattle.tape_run.specs.CopySurveys.{AreFairImages, CopiesNeverConflict}
use Rattle.tape_run.proofs.{SalvageFoundSets.stops_front, WholeVolumes.some_of}
use Rattle.tape_run.proofs.CopyComing.{IsRead, Coming, IsExactCopy}
use Rattle.tape_run.proofs.CopySteps.{takes}
use Rattle.tape_run.proofs.CopyFindings.{FineFiles, FineCopies, fine_label, fine_copies, none_differs}

-- ---- items that were read of a volume

-- the items were read for the first of these entries
abbrev AreRead : List Entry → List TapeItem → Type 0
AreRead es [] = ⊤
AreRead [] (x ∷ xs) = ⊥
AreRead (e ∷ es) (x ∷ xs) = IsRead e x × AreRead es xs

front_read : (es : List Entry) (xs more : List TapeItem) → AreRead es (xs ++ more) → AreRead es xs
front_read es [] more h = tt
front_read [] (x ∷ xs) more h = absurd h
front_read (e ∷ es) (x ∷ xs) more (h, hs) = (h, front_read es xs more hs)

one_read : (e : Entry) (g : Bool) → (g || is_data e) ≡ true
    → IsRead e (if g then item_of e else bad)
one_read e true h = inl refl
one_read e false h = inr (h, refl)

are_read : (es : List Entry) (good : List Bool) (n : ℕ) → passes good es ≡ true
    → AreRead es (as_read (map item_of es) (take n good))
are_read [] good n h = tt
are_read (e ∷ es) [] n h = absurd (cc h)
are_read (e ∷ es) (g ∷ gs) zero h = tt
are_read (e ∷ es) (g ∷ gs) (suc n) h =
    let (here, there) = and_parts (g || is_data e) (passes gs es) h in
    (one_read e g here, are_read es gs n there)

all_join : {X : Type 0} (P : X → Type 0) (xs ys : List X) → AllByRecursion P xs
    → AllByRecursion P ys → AllByRecursion P (xs ++ ys)
all_join P [] ys a b = b
all_join P (x ∷ xs) ys (h, a) b = (h, all_join P xs ys a b)

all_both : {X : Type 0} (P Q : X → Type 0) (xs : List X) → AllByRecursion P xs
    → AllByRecursion Q xs → AllByRecursion (λ x. P x × Q x) xs
all_both P Q [] a b = tt
all_both P Q (x ∷ xs) (h, a) (i, b) = ((h, i), all_both P Q xs a b)

module _ (set : FileSet) (lawful : IsLawful set) (named : TrailersName set) where
  -- ---- an image

  labels_on : (k image : ℕ) (p : Phase) (es : List Entry) (bs : List (List ℕ)) (xs : List TapeItem)
      (files : Labelled) → Coming set k p es bs → AreRead es xs → FineFiles set lawful files
      → FineFiles set lawful (with_all image files p xs)
  labels_on k image p es bs [] files c r fine = fine
  labels_on k image p [] bs (x ∷ xs) files c r fine = absurd r
  labels_on k image p (e ∷ es) bs (x ∷ xs) files c (r, rs) fine =
      let s = takes set k lawful p e es x bs c r in
      labels_on k image (step p x).0 es (blocks_with bs p x) xs (with_label image files p x) s.coming
      rs (fine_label set lawful files image p x fine s.label s.form)

  exact_on : (k : ℕ) (p : Phase) (es : List Entry) (bs : List (List ℕ)) (xs : List TapeItem)
      → Coming set k p es bs → AreRead es xs
      → AllByRecursion (IsExactCopy set) (copies_from p bs xs)
  exact_on k p es bs [] c r = tt
  exact_on k p [] bs (x ∷ xs) c r = absurd r
  exact_on k p (e ∷ es) bs (x ∷ xs) c (r, rs) =
      let s = takes set k lawful p e es x bs c r in
      all_join (IsExactCopy set) (good_told (step p x).1 bs)
      (copies_from (step p x).0 (blocks_with bs p x) xs) s.copy
      (exact_on k (step p x).0 es (blocks_with bs p x) xs s.coming rs)

  starts : (k : ℕ) → IsSome (nth set.volumes k) → Coming set k AtVolume (entries set k) []
  starts k there =
      let (v, is) = some_of (nth set.volumes k) there in
      let at = nth_found set.volumes k v is in
      let all = all_both (IsOn set k) TrailerNames (on k (sections set)) (sections_on_are set k lawful)
      (every (λ x. TrailerNames x × ((x.section.volume == k) ≡ true)) TrailerNames (λ x h. h.0)
      (on k (sections set))
      (every-filter TrailerNames (λ x. x.section.volume == k) (sections set) named)) in (
        v,
        on k (sections set),
        every_at _ set.volumes at.place v lawful.volumes at.found,
        all,
        ap (λ (o : Option Volume). entries_on o k (sections set)) is
            ∙ append_assoc (volume_group v) (all_entries (on k (sections set))) (a_mark ∷ []),
      )

  -- ---- images

  pub record Fine (c : Found) : Type 0 where
    pub files : FineFiles set lawful c.files
    pub copies : FineCopies set lawful c.copies

  viewed : (reel : Reel) (sight : Option ImageSurvey) (c d : Found) → IsFairImage set reel
      → IsViewed reel sight c d → Fine c → Fine d
  viewed None None c d fair v fine = record {
    files = subst (λ (z : Found). FineFiles set lawful z.files) (sym v) fine.files;
    copies = subst (λ (z : Found). FineCopies set lawful z.copies) (sym v) fine.copies;
  }
  viewed None (Some sight) c d fair v fine = absurd v
  viewed (Some before) None c d fair v fine = absurd v
  viewed (Some None) (Some sight) c d fair v fine = absurd fair
  viewed (Some (Some bytes)) (Some sight) c d fair v fine =
      let (after, views, whole, images, kind) = v in
      let (ys, left, stops) = IfKnown-at (Some bytes) after (StopsBehind views.items sight.stop) bytes
      refl views.stop in
      let (more, is) = stops_front views.items (as_read (items set fair.volume) (take fair.count
      fair.good)) sight.stop bytes ys fair.end fair.stop stops fair.begins in
      let read = front_read (entries set fair.volume) views.items more
      (subst (AreRead (entries set fair.volume)) is
      (are_read (entries set fair.volume) fair.good fair.count fair.fair)) in
      let start = starts fair.volume fair.there in
      record {
        files = subst (FineFiles set lawful) (sym views.named) (labels_on fair.volume c.images
            AtVolume (entries set fair.volume) [] views.items c.files start read fine.files);
        copies = subst (FineCopies set lawful) (sym views.copied) (fine_copies set lawful c.copies
            c.images (copies_on views.items) fine.copies
            (exact_on fair.volume AtVolume (entries set fair.volume) [] views.items start read));
      }

  all_viewed : {L R : Type 0} (gives : Mounting L R) (remaining : R → Option (List ℕ)) (shelf : L)
      (number : ℕ) (sights : List (Option ImageSurvey)) (c : Found) (last : L) (d : Found)
      → (v : AreViewed gives remaining shelf number sights c last d)
      → AreFairImages set gives remaining shelf number sights c last d v → Fine c → Fine d
  all_viewed gives remaining shelf number [] c last d v fair fine = record {
    files = subst (λ (z : Found). FineFiles set lawful z.files) (sym v.1) fine.files;
    copies = subst (λ (z : Found). FineCopies set lawful z.copies) (sym v.1) fine.copies;
  }
  all_viewed gives remaining shelf number (sight ∷ sights) c last d (image, next, mid, gave, is, are)
      (fair, fairs) fine =
      all_viewed gives remaining next (number + 1) sights mid last d are fairs
      (viewed (option_map remaining image) sight c mid fair is fine)

pub copies_never_conflict : {L R : Type 0} (gives : Mounting L R)
    (remaining : R → Option (List ℕ)) → CopiesNeverConflict gives remaining
copies_never_conflict gives remaining set y names shelf left old new all lawful named report fair =
    let fine = all_viewed set lawful named gives remaining shelf 0 report.sights nothing_found left
    report.found report.viewed fair (record {
      files = record { notes = tt; heads = tt; forms = tt };
      copies = record { notes = tt; calm = refl };
    }) in
    record {
      labels = none_differs set lawful report.found.files.notes fine.files.notes;
      copies = fine.copies.calm;
    }
