-- A call of `salvage_to` on images of a valid set's volumes.
use Rattle.std.proofs.Common.{◌≡◌, ◌≤◌, ℕ, ◌+◌, ◌&&◌, Bool, true, false, not, List, [], ◌∷◌, ◌++◌}
use Rattle.std.proofs.Common.{length, Option, Some, None, option_map, refl, sym, ap, subst, ◌∙◌}
use Rattle.std.proofs.Common.{arith, suc, append_assoc, append-nil}
use Rattle.std.proofs.lemmas.{Bool.and_parts, Bool.not-true, Option.slice_get_within}
use Rattle.std.specs.{Prelude.slice_get, Prelude.IfSome, List.AllByRecursion, Io.KnownBytes.Appends}
use Rattle.tape_image.specs.{Tape.TapeItem, Reader.IfKnown}
use Rattle.tape_image.specs.Begins.{Stop, Begins, Walks, image_limit}
use Rattle.tape_image.proofs.{Callers.front_of_image, Uniqueness.Begins-one}
use Rattle.tape_image.proofs.Walks.{IfKnown-at, TakesFault-begins}
use Rattle.tape_set.specs.{Layout.FileSet, Lawful.FileForm, Before.section_parts, Reading.Reading}
use Rattle.tape_set.proofs.Everywhere.{every, every_stands}
use Rattle.tape_run.specs.SalvageTaking.{Taken, AreTaken, AreAllSections, MountsTaken, MountsIf}
use Rattle.tape_run.specs.SalvagedSets.{IsImage, HasOpened, AreImages, NoneFailed, IsReadToEnd}
use Rattle.tape_run.specs.{declared.salvage.Content.Content, declared.section.ImageStop.ImageStop}
use Rattle.tape_run.specs.{declared.salvage.Content.TheVariants.Records, Added.StopsBehind}
use Rattle.tape_run.specs.{declared.salvage.copies.SectionCopy.SectionCopy, WholeSet.IsNoDevice}
use Rattle.tape_run.specs.declared.section.ImageStop.TheVariants.{Marked, Physical, Fault}
use Rattle.tape_run.specs.{Checked.Reel, Checked.IsReel, Reeling.Mounting, Reeling.AreMounted}
use Rattle.tape_run.specs.{SalvageWalk.sections_in, SalvageCopies.of_file, Salvaging.FindsOnAll}
use Rattle.tape_run.specs.{RecordText.output_of, SalvageBlocks.none_salvaged}
use Rattle.tape_run.specs.SalvageChoice.{form_of_file, firsts, IsBest}
use Rattle.tape_run.specs.SalvageTaking.{has_form, form_for, after_file, IsReadOf}
use Rattle.tape_run.specs.SalvageSets.{items_read, copies_on, IsReadAgainIf, AreReadAgain}
use Rattle.tape_run.specs.SalvagedSets.{RecoversSets}
use Rattle.tape_run.proofs.{SalvageGood.IsGood, SalvageGood.copies_good}
use Rattle.tape_run.proofs.{SalvageAgain.IsOne, SalvageAgain.firsts_all, SalvageSets.recovers_set}

-- if the reader did not fail, all items of the image were read
all_items : (its xs : List TapeItem) (stop : ImageStop) (bytes ys : List ℕ) (end : ℕ) (why : Stop)
    → IsNoDevice stop → StopsBehind its stop bytes ys → Begins 0 bytes xs end why → its ≡ xs
all_items its xs Marked bytes ys end why calm (place, t) b =
    (Begins-one 0 bytes its xs t.end end _ why t.begins b).0
all_items its xs Physical bytes ys end why calm (place, t) b =
    (Begins-one 0 bytes its xs t.end end _ why t.begins b).0
all_items its xs (Fault fault) bytes ys end why calm t b =
    (Begins-one 0 bytes its xs fault.place end _ why
    (TakesFault-begins 0 its fault bytes ys t calm) b).0

module _ {L R : Type 0} (set : FileSet) (file : ℕ) (set_id : List ℕ) (same : set_id ≡ set.set_id)
    (gives : Mounting L R) (remaining : R → Option (List ℕ)) (all : List (Option Reading))
    (first : L) (images : AreImages set file gives remaining all first) where
  -- images were opened, and the source is now this
  abbrev IsAt : L → Type 0
  IsAt now = (ns : List ℕ) × HasOpened gives (length all) first ns now

  opens : (n : ℕ) (r : Option Reading) (image : Option R) (now left : L) → IsAt now
      → slice_get all n ≡ Some r → gives now n image left
      → IsImage set file remaining r image × IsAt left
  opens n r image now left (ns, opened) at gave = (
    images ns now left n image r opened at gave,
    (n ∷ ns, (slice_get_within all n r at, now, image, opened, gave)),
  )

  -- ---- the copies that were found

  -- the copies that an image adds
  abbrev adds : ℕ → Option Reading → List SectionCopy
  adds n None = []
  adds n (Some r) = of_file set.set_id file n (sections_in (items_read set r))

  adds_more : (n : ℕ) (r : Option Reading) (rs : List (Option Reading))
      → copies_on set file n (r ∷ rs) ≡ adds n r ++ copies_on set file (n + 1) rs
  adds_more n None rs = refl
  adds_more n (Some r) rs = refl

  one_image : (n : ℕ) (r : Option Reading) (device : R) (before after : Option (List ℕ))
      (its : List TapeItem) (stop : ImageStop) → IsImage set file remaining r (Some device)
      → before ≡ remaining device → IfKnown before after (StopsBehind its stop) → IsNoDevice stop
      → of_file set_id file n (sections_in its) ≡ adds n r
  one_image n None device before after its stop (bytes, xs, end, why, known, begins, none) e read
      calm =
      let (ys, left, stops) =
      IfKnown-at before after (StopsBehind its stop) bytes (e ∙ known) read in
      ap (λ (id : List ℕ). of_file id file n (sections_in its)) same
      ∙ ap (λ (l : List TapeItem). of_file set.set_id file n (sections_in l))
      (all_items its xs stop bytes ys end why calm stops begins) ∙ none n
  one_image n (Some r) device before after its stop (bytes, xs, end, why, known, begins, is) e read
      calm =
      let (ys, left, stops) =
      IfKnown-at before after (StopsBehind its stop) bytes (e ∙ known) read in
      ap (λ (id : List ℕ). of_file id file n (sections_in its)) same
      ∙ ap (λ (l : List TapeItem). of_file set.set_id file n (sections_in l))
      (all_items its xs stop bytes ys end why calm stops begins ∙ is)

  -- an image that was not opened adds nothing
  not_opened : (n : ℕ) (r : Option Reading) (image : Option R)
      → IsImage set file remaining r image → None ≡ option_map remaining image
      → [] ≡ adds n r
  not_opened n None image is e = refl
  not_opened n (Some r) None is e = absurd is
  not_opened n (Some r) (Some device) is e = absurd (cc e)

  opened : (n : ℕ) (r : Option Reading) (image : Option R) (before after : Option (List ℕ))
      (its : List TapeItem) (stop : ImageStop) → IsImage set file remaining r image
      → Some before ≡ option_map remaining image → IfKnown before after (StopsBehind its stop)
      → IsNoDevice stop → of_file set_id file n (sections_in its) ≡ adds n r
  opened n r None before after its stop is e read calm = absurd (cc e)
  opened n r (Some device) before after its stop is e read calm =
      one_image n r device before after its stop is (cc e) read calm

  here_is : (n : ℕ) (r : Option Reading) (rs : List (Option Reading))
      → ((i : ℕ) → slice_get (r ∷ rs) i ≡ slice_get all (n + i)) → slice_get all n ≡ Some r
  here_is n r rs there = let z : n + 0 ≡ n = omega arith in
      ap (λ v. slice_get all v) (sym z) ∙ sym (there 0)

  later_are : (n : ℕ) (r : Option Reading) (rs : List (Option Reading))
      → ((i : ℕ) → slice_get (r ∷ rs) i ≡ slice_get all (n + i))
      → (i : ℕ) → slice_get rs i ≡ slice_get all ((n + 1) + i)
  later_are n r rs there i = let w : n + suc i ≡ (n + 1) + i = omega arith in
      there (suc i) ∙ ap (λ v. slice_get all v) w

  copies_are : (n : ℕ) (rs : List (Option Reading)) (reels : List Reel) (shelf left : L)
      (old new : List SectionCopy) (text : List ℕ)
      → ((i : ℕ) → slice_get rs i ≡ slice_get all (n + i)) → length reels ≡ length rs → IsAt shelf
      → AreMounted gives (IsReel remaining) shelf n reels left
      → (f : FindsOnAll set_id file n reels old new text)
      → NoneFailed set_id file n reels old new text f
      → (new ≡ old ++ copies_on set file n rs) × IsAt left
  copies_are n [] [] shelf left old new text there count at mounted (is, said) calm =
      (is ∙ sym (append-nil old), subst IsAt (sym mounted) at)
  copies_are n (r ∷ rs) [] shelf left old new text there count at mounted f calm =
      absurd (omega (arith, count))
  copies_are n [] (reel ∷ reels) shelf left old new text there count at mounted f calm =
      absurd (omega (arith, count))
  copies_are n (r ∷ rs) (None ∷ reels) shelf left old new text there count at
      (image, next, gave, is, mounted) (mid, one, rest, (kept, said), f, e) calm =
      let (img, now_at) = opens n r image shelf next at (here_is n r rs there) gave in
      let later = copies_are (n + 1) rs reels next left mid new rest (later_are n r rs there)
      (omega (arith, count)) now_at mounted f calm in (
        later.0 ∙ ap (λ (l : List SectionCopy). l ++ copies_on set file (n + 1) rs) kept
            ∙ ap (λ (l : List SectionCopy). old ++ (l ++ copies_on set file (n + 1) rs))
            (not_opened n r image img is)
            ∙ ap (λ (l : List SectionCopy). old ++ l) (sym (adds_more n r rs)),
        later.1,
      )
  copies_are n (r ∷ rs) (Some before ∷ reels) shelf left old new text there count at
      (image, next, gave, is, mounted) (mid, one, rest, (after, stop, found, said), f, e)
      (calm, calms) =
      let (img, now_at) = opens n r image shelf next at (here_is n r rs there) gave in
      let one = opened n r image before after found.items stop img is found.read calm in
      let later = copies_are (n + 1) rs reels next left mid new rest (later_are n r rs there)
      (omega (arith, count)) now_at mounted f calms in (
        later.0 ∙ ap (λ (l : List SectionCopy). l ++ copies_on set file (n + 1) rs)
            (found.seen ∙ ap (λ (l : List SectionCopy). old ++ l) one)
            ∙ append_assoc old (adds n r) (copies_on set file (n + 1) rs)
            ∙ ap (λ (l : List SectionCopy). old ++ l) (sym (adds_more n r rs)),
        later.1,
      )

  -- ---- the second reading

  -- a copy's image is a reading
  abbrev HasReading : SectionCopy → Type 0
  HasReading c = (r : Reading) × (slice_get all c.image ≡ Some (Some r))

  by_items : (c : SectionCopy) (reading : Reading) (image : Option R) (xs : List TapeItem)
      → IsImage set file remaining (Some reading) image → IsReadOf remaining c image (Some xs)
      → (unread : List TapeItem) × (items_read set reading ≡ xs ++ unread)
  by_items c reading None xs img read = absurd img
  by_items c reading (Some device) xs (bytes, its, end, why, known, begins, is)
      (after, is_ended, reads) =
      let (place, ys, near, walks) = subst (λ (b : Option (List ℕ)). IfSome b (λ zs.
      (place : ℕ) × (ys : List ℕ) × (place ≤ image_limit) × Walks 0 zs xs place ys)) known
      reads.walked in
      let (more, splits) = front_of_image bytes ys xs its place end why walks near begins in
      (more, sym is ∙ splits)

  module _ (content : Content) (known : Option FileForm) (copies : List SectionCopy)
      (are : AllByRecursion HasReading copies) where
    by_form : (t : Taken) (c : SectionCopy) (reading : Reading) (shelf left : L)
        (xs : List TapeItem) (b : Bool) → slice_get all c.image ≡ Some (Some reading) → IsAt shelf
        → MountsIf b gives remaining c shelf left t.items → t.items ≡ Some xs
        → ((unread : List TapeItem) × (items_read set reading ≡ xs ++ unread)) × IsAt left
    by_form t c reading shelf left xs false here at (same_shelf, none) is =
        absurd (cc (sym is ∙ none))
    by_form t c reading shelf left xs true here at (image, gave, read) is =
        let (img, now_at) = opens c.image (Some reading) image shelf left at here gave in (
          by_items c reading image xs img
              (subst (λ (z : Option (List TapeItem)). IsReadOf remaining c image z) is read),
          now_at,
        )

    one_again : (t : Taken) (i : ℕ) (shelf left : L) (o : Option SectionCopy) → t.copy ≡ o
        → IsBest (firsts i None copies) o → IsAt shelf
        → MountsTaken gives remaining content known o shelf left t.items → IsReadToEnd t
        → IsReadAgainIf set all o t.items × IsAt left
    one_again t i shelf left None e best at mounts end = (tt, subst IsAt (sym mounts.0) at)
    one_again t i shelf left (Some c) e (front, rest, among, less, most) at mounts end =
        let (xs, is, ends) = end c e in
        let (reading, here) = (every_stands (IsOne HasReading i) (firsts i None copies) c
        (firsts_all HasReading i None copies are) (front, rest, among)).0 in
        let ((unread, splits), now_at) = by_form t c reading shelf left xs
        (has_form content (form_for content c.section.form known)) here at mounts is in (
          record {
            read = xs;
            is = is;
            ends = ends;
            reading = reading;
            image = here;
            unread = unread;
            splits = splits;
          },
          now_at,
        )

    again : (ts : List Taken) (i : ℕ) (shelf left : L) → IsAt shelf
        → AreTaken gives remaining copies content known i shelf ts left
        → AllByRecursion IsReadToEnd ts → AreReadAgain set all copies i ts
    again [] i shelf left at taken ends = tt
    again (t ∷ ts) i shelf left at (mid, best, mounts, rest) (end, ends) =
        let (one, now_at) = one_again t i shelf mid t.copy refl best at mounts end in
        (best, one, again ts (i + 1) mid left now_at rest ends)

-- ---- the call

pub recovers_sets : {W L R : Type 0} (contents : W → Option (List ℕ)) (size : L → ℕ)
    (gives : Mounting L R) (remaining : R → Option (List ℕ))
    → RecoversSets contents size gives remaining
recovers_sets contents size gives remaining task out shelf left stands said says complete s set f
    rs l same records there count cs images fits calm ends =
    let file = task.file in
    let copies = s.copies in
    let x = s.finds in
    let (is, at) =
    copies_are set file task.set_id same gives remaining rs shelf images 0 rs x.reels shelf
    s.middle [] copies x.text
    (λ i. let e : i ≡ 0 + i = omega arith in ap (λ v. slice_get rs v) e)
    (x.all ∙ count) ([], refl) x.mounted x.finds calm in
    let good = subst (AllByRecursion (IsGood set file rs)) (sym is)
    (copies_good set file rs l cs) in
    let have = every (IsGood set file rs)
    (HasReading set file task.set_id same gives remaining rs shelf images)
    (λ c g. have_reading c g) copies good in
    let known = form_of_file copies in
    let read = again set file task.set_id same gives remaining rs shelf images task.content known
    copies have s.taken 1 s.middle left at s.took ends in
    let sections = subst (λ (z : Content). AreAllSections z known copies s.taken) records s.all in
    let r = recovers_set set file f rs copies s.taken l there cs fits is read sections in
    let g = after_file Records copies s.taken none_salvaged in
    let wrote = subst (λ (z : Content). Appends (contents out) stands
    (output_of task.form (after_file z copies s.taken none_salvaged).piece.done)) records
    s.wrote in (
      g,
      r,
      wrote,
      λ e.
          let whole = ap (λ (z : Content). not (after_file z copies s.taken none_salvaged).missing
          && not s.conflict) (sym records) ∙ sym s.is_complete ∙ e in
          let off = not-true g.missing (and_parts (not g.missing) (not s.conflict) whole).0 in
          let parts = (r.complete off).1 in
          subst (λ (t : List ℕ). Appends (contents out) stands t)
          (ap (output_of task.form) parts) wrote,
    )
  where
    have_reading : (c : SectionCopy) → IsGood set task.file rs c
        → HasReading set task.file task.set_id same gives remaining rs shelf images c
    have_reading c g = (g.reading, g.image)
