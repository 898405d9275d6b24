-- A reading that lost its position after an unreadable mark does not find it again: it delivers
-- nothing of the section needed.
use Rattle.std.proofs.Common.{◌≡◌, ◌<◌, ℕ, zero, suc, List, [], ◌∷◌, ◌++◌, length, Bool, true}
use Rattle.std.proofs.Common.{false, Some, Result, Ok, Err, refl, sym, ap, ◌∙◌, subst, inl}
use Rattle.std.proofs.Common.{append_assoc, arith, length-append, slice_get, map, ◌==◌}
use Rattle.std.proofs.lemmas.Bool.Decides.{nat_tests}
use Rattle.std.specs.List.{AllByRecursion}
use Rattle.tape_label.specs.{declared.values.Head1.Head1, Reading.head1_at, Reading.trail1_at}
use Rattle.tape_label.specs.{declared.values.Trail1.Trail1, declared.label.LabelFault.LabelFault}
use Rattle.tape_label.specs.declared.label.LabelFault.TheVariants as faults
use Rattle.tape_label.proofs.First.{head1_found, trail1_found}
use Rattle.tape_blocks.specs.Tight.{Filled}
use Rattle.tape_set.specs.Layout.{Placed, Entry, a_label, a_data_block, a_mark, item_of}
use Rattle.tape_set.specs.Layout.{all_entries, section_entries, data_group, trailer_group, entries}
use Rattle.tape_set.specs.{Layout.entries_on, Layout.sections, Layout.on, Lawful.IsSection}
use Rattle.tape_set.proofs.Everywhere.{every, every_both, every_rest}
use Rattle.tape_set.proofs.{Volumes.IsOn, Volumes.sections_on_are, Forms.trail1_same}
use Rattle.tape_core.specs.declared.event.Phase.TheVariants.{DataPassed, TrailerPassed, Trailers}
use Rattle.tape_core.specs.Table.{useless, passed, at_item, at_head1, at_passed_trailer}
use Rattle.tape_core.specs.Follows.{to_come, Left, FitsHeading, IsNoHeader, BarrenNext}
use Rattle.tape_core.specs.{declared.event.Reason.Reason, declared.event.Heading.Heading}
use Rattle.tape_core.specs.declared.event.Reason.TheVariants.{NotOnReel, SectionDiffers, BadLabel}
use Rattle.tape_core.specs.{declared.event.Phase.TheVariants.NextFile, Table.other_numbers}
use Rattle.tape_core.specs.Follows.{BarrenTrailers, BarrenTrailer, BarrenData, Inside, Astray}
use Rattle.tape_core.proofs.{LabelLaws.trailer_no_header, LabelLaws.header_no_trailer, Aim.Aim}
use Rattle.tape_core.proofs.{Lists.passes_bad, Lists.passes_stays_bad, AwaitedSection.ahead_passed}
use Rattle.tape_core.proofs.Fronts.{over_bad, among_on, laid_out, here}
use Rattle.tape_core.proofs.HeaderSteps.{Next, passed_next, useless_next, either}

module _ (aim : Aim) where
  open aim use {set, l, core, sect, block, part, k, v, vol, good}

  abbrev pub Strays : List Bool → (List Entry → Type 0) → Type 0
  Strays gs Barren = Astray set core.file sect block part k gs Barren

  -- the next entry in a reading that lost its position
  stray_on : (g : Bool) (B C : List Entry → Type 0) (a : Strays good B)
      (e : Entry) (rest : List Entry)
      → a.todo ≡ e ∷ rest → C rest → Strays (good ++ g ∷ []) C
  stray_on g B C a e rest q c =
      record {
        todo = rest;
        done = a.done ++ e ∷ [];
        whole = append_assoc a.done (e ∷ []) rest ∙ (ap (λ z. a.done ++ z) (sym q) ∙ a.whole);
        count = simp length-append (omega (arith, a.count));
        bad = passes_stays_bad good g a.done e a.count a.bad;
        lost = λ more. rw append_assoc (a.lost (g ∷ more));
        barren = c;
      }

  pub stray_over : (g : Bool) (why : Reason) (B : List Entry → Type 0) → core.position ≡ here aim
      → Strays good B → Next aim g (useless core why)
  stray_over g why B wait a =
      useless_next aim g why (λ more. rw append_assoc (a.lost (g ∷ more)) ∙ sym wait)

  -- a next entry exists
  pub stray_first : (B : List Entry → Type 0) (a : Strays good B) (e : Entry)
      → slice_get (entries set k) (length good) ≡ Some e → (rest : List Entry) × (a.todo ≡ e ∷ rest)
  stray_first B a e s =
      go a.done (length good) a.count (ap (λ v. slice_get v (length good)) a.whole ∙ s)
    where
      pick : (todo : List Entry) → slice_get todo 0 ≡ Some e
          → (rest : List Entry) × (todo ≡ e ∷ rest)
      pick [] h = absurd (cc)
      pick (f ∷ rest) h = (rest, let q : f ≡ e = cc in ap (λ z. z ∷ rest) q)

      go : (done : List Entry) (n : ℕ) → length done ≡ n → slice_get (done ++ a.todo) n ≡ Some e
          → (rest : List Entry) × (a.todo ≡ e ∷ rest)
      go [] zero c h = pick a.todo h
      go [] (suc n) c h = absurd (omega arith)
      go (d ∷ done) zero c h = absurd (omega arith)
      go (d ∷ done) (suc n) c h = go done n (omega arith) h

  -- any bad entry in skipped data
  pub stray_bad : (heading : Heading) (e : Entry) → core.position ≡ here aim
      → (a : Strays good (BarrenData heading)) → (rest : List Entry) → a.todo ≡ e ∷ rest
      → Next aim false (passed core (DataPassed heading))
  stray_bad heading e wait a rest q =
      passed_next aim false _ (
        wait,
        inl (stray_on false (BarrenData heading) (BarrenData heading) a e rest q
            (go e (subst (BarrenData heading) q a.barren))),
      )
    where
      go : (f : Entry) → BarrenData heading (f ∷ rest) → BarrenData heading rest
      go (a_label b) h = h
      go (a_data_block b) h = h
      go a_mark h = h.1

  -- any readable entry in skipped data
  pub stray_data : (heading : Heading) (e : Entry) → core.position ≡ here aim
      → (a : Strays good (BarrenData heading)) → (rest : List Entry) → a.todo ≡ e ∷ rest
      → Next aim true (at_item core (DataPassed heading) (item_of e))
  stray_data heading (a_label b) wait a rest q = passed_next aim true _ (
    wait,
    inl (stray_on true (BarrenData heading) (BarrenData heading) a _ rest q
        (subst (BarrenData heading) q a.barren)),
  )
  stray_data heading (a_data_block b) wait a rest q = passed_next aim true _ (
    wait,
    inl (stray_on true (BarrenData heading) (BarrenData heading) a _ rest q
        (subst (BarrenData heading) q a.barren)),
  )
  stray_data heading a_mark wait a rest q =
      passed_next aim true _ (
        wait,
        inl (stray_on true (BarrenData heading) (BarrenTrailer heading) a _ rest q
            (subst (BarrenData heading) q a.barren).0),
      )

  stray_trailer_block : (heading : Heading) (e : Entry) (b : List ℕ) → core.position ≡ here aim
      → (a : Strays good (BarrenTrailer heading)) → (rest : List Entry) → a.todo ≡ e ∷ rest
      → (FitsHeading heading b → BarrenTrailers rest)
      → Next aim true (at_passed_trailer core heading (trail1_at b))
  stray_trailer_block heading e b wait a rest q h = go (trail1_at b) refl
    where
      go : (o : Result Trail1 LabelFault) → trail1_at b ≡ o
          → Next aim true (at_passed_trailer core heading o)
      go (Err fault) is = stray_over true (BadLabel fault) (BarrenTrailer heading) wait a
      go (Ok t) is = either aim true (other_numbers heading t) _ _
          (λ d. stray_over true SectionDiffers (BarrenTrailer heading) wait a)
          (λ d. passed_next aim true _ (
            wait,
            inl (stray_on true (BarrenTrailer heading) BarrenTrailers a e rest q
                (h (t, trail1_found b t is, d))),
          ))

  -- no HDR1 follows when the next file is expected
  stray_header : (b : List ℕ) → core.position ≡ here aim → (a : Strays good BarrenNext)
      → IsNoHeader b → Next aim true (at_head1 core (head1_at b))
  stray_header b wait a none = go (head1_at b) refl
    where
      go : (o : Result Head1 LabelFault) → head1_at b ≡ o → Next aim true (at_head1 core o)
      go (Err fault) is = stray_over true (BadLabel fault) BarrenNext wait a
      go (Ok h) is = absurd (none h (head1_found b h is))

  pub stray_trailer : (heading : Heading) (e : Entry) → core.position ≡ here aim
      → (a : Strays good (BarrenTrailer heading)) → (rest : List Entry) → a.todo ≡ e ∷ rest
      → Next aim true (at_item core (TrailerPassed heading) (item_of e))
  stray_trailer heading (a_label b) wait a rest q = stray_trailer_block heading
      (a_label b) b wait a rest q (subst (BarrenTrailer heading) q a.barren)
  stray_trailer heading (a_data_block b) wait a rest q = stray_trailer_block heading
      (a_data_block b) b wait a rest q (subst (BarrenTrailer heading) q a.barren)
  stray_trailer heading a_mark wait a rest q =
      stray_over true (BadLabel faults.Identifier) (BarrenTrailer heading) wait a

  pub stray_trailers : (e : Entry) → core.position ≡ here aim → (a : Strays good BarrenTrailers)
      → (rest : List Entry) → a.todo ≡ e ∷ rest → Next aim true (at_item core Trailers (item_of e))
  stray_trailers (a_label b) wait a rest q = passed_next aim true _ (
    wait,
    inl (stray_on true BarrenTrailers BarrenTrailers a _ rest q (subst BarrenTrailers q a.barren)),
  )
  stray_trailers (a_data_block b) wait a rest q = passed_next aim true _ (
    wait,
    inl (stray_on true BarrenTrailers BarrenTrailers a _ rest q (subst BarrenTrailers q a.barren)),
  )
  stray_trailers a_mark wait a rest q = passed_next aim true _ (
    wait,
    inl (stray_on true BarrenTrailers BarrenNext a _ rest q (subst BarrenTrailers q a.barren)),
  )

  pub stray_next : (e : Entry) → core.position ≡ here aim → (a : Strays good BarrenNext)
      → (rest : List Entry) → a.todo ≡ e ∷ rest → Next aim true (at_item core NextFile (item_of e))
  stray_next (a_label b) wait a rest q = stray_header b wait a (subst BarrenNext q a.barren)
  stray_next (a_data_block b) wait a rest q = stray_header b wait a (subst BarrenNext q a.barren)
  stray_next a_mark wait a rest q = stray_over true NotOnReel BarrenNext wait a

  barren_labels : (heading : Heading) (labels : List (List ℕ)) (es : List Entry)
      → BarrenData heading es → BarrenData heading (map a_label labels ++ es)
  barren_labels heading [] es h = h
  barren_labels heading (b ∷ labels) es h = barren_labels heading labels es h

  barren_blocks : (heading : Heading) (blocks : List Filled) (es : List Entry)
      → BarrenData heading es → BarrenData heading (data_group blocks ++ es)
  barren_blocks heading [] es h = h
  barren_blocks heading (b ∷ blocks) es h = barren_blocks heading blocks es h

  barren_rest : (blocks : List Filled) (es : List Entry) → BarrenTrailers es
      → BarrenTrailers (data_group blocks ++ es)
  barren_rest [] es h = h
  barren_rest (b ∷ blocks) es h = barren_rest blocks es h

  -- no trailer of a later section has the numbers of the section whose mark was lost
  barren_head : (heading : Heading) (y : Placed) (es : List Entry)
      → IsSection set.set_id (length set.volumes) y
      → BarrenTrailer heading (a_label y.section.hdr1 ∷ es)
  barren_head heading y es s fits =
      absurd (header_no_trailer heading y.section.hdr1 s.header.0 s.header.1.label fits)

  barren_first : (heading : Heading) (y : Placed) (blocks : List Filled) (es : List Entry)
      → IsSection set.set_id (length set.volumes) y
      → BarrenTrailer heading (data_group blocks ++ a_mark ∷ a_label y.section.trailer ∷ es)
  barren_first heading y [] es s = tt
  barren_first heading y (b ∷ blocks) es s =
      λ t. barren_rest blocks (a_mark ∷ a_label y.section.trailer ∷ es)
      (trailer_no_header y.section.trailer s.trailer.0 s.trailer.1.label)

  barren_own : (heading : Heading) (y : Placed) (es : List Entry)
      → IsSection set.set_id (length set.volumes) y → heading.sequence < y.file
      → BarrenTrailer heading (a_label y.section.trailer ∷ es)
  barren_own heading y es s lt fits =
      let same : fits.0 ≡ s.trailer.0 =
      trail1_same y.section.trailer fits.0 s.trailer.0 fits.1 s.trailer.1.label in
      let file : fits.0.head.sequence ≡ y.file =
      ap (λ z. z.head.sequence) same ∙ s.trailer.1.file in
      let n : (fits.0.head.sequence == heading.sequence) ≡ false = grind (arith, nat_tests, file) in
      let q : other_numbers heading fits.0 ≡ true = rw n refl in
      absurd (let r = sym q ∙ fits.2 in cc)

  barren_on : (heading : Heading) (later : List Placed)
      → AllByRecursion (λ y. IsSection set.set_id (length set.volumes) y
      × (heading.sequence < y.file)) later
      → BarrenTrailer heading (to_come later) × BarrenData heading (to_come later)
  barren_on heading [] h = (tt, (tt, tt))
  barren_on heading (y ∷ later) h =
      let ih = barren_on heading later h.1 in
      let laid : section_entries y.section ++ all_entries later ++ a_mark ∷ []
      ≡ a_label y.section.hdr1 ∷ a_label y.section.hdr2 ∷ (map a_label y.section.headers
      ++ (a_mark ∷ (data_group y.section.blocks ++ (a_mark ∷ a_label y.section.trailer
      ∷ (map a_label y.section.trailers ++ (a_mark ∷ to_come later)))))) =
      laid_out (a_label y.section.hdr1) (a_label y.section.hdr2) (map a_label y.section.headers)
      (data_group y.section.blocks) (a_label y.section.trailer) (map a_label y.section.trailers)
      (all_entries later) (a_mark ∷ []) in (
        subst (BarrenTrailer heading) (sym laid)
            (barren_head heading y (a_label y.section.hdr2 ∷ (map a_label y.section.headers
            ++ (a_mark ∷ (data_group y.section.blocks ++ (a_mark ∷ a_label y.section.trailer
            ∷ (map a_label y.section.trailers ++ (a_mark ∷ to_come later))))))) h.0.0),
        subst (BarrenData heading) (sym laid) (barren_labels heading y.section.headers _ (
          barren_first heading y y.section.blocks _ h.0.0,
          barren_blocks heading y.section.blocks _ (
            barren_own heading y (map a_label y.section.trailers ++ (a_mark ∷ to_come later))
                h.0.0 h.0.1,
            barren_labels heading y.section.trailers _ ih,
          ),
        )),
      )

  -- the complete contents of the volume
  entries_is : entries set k
      ≡ a_label v.vol1 ∷ (map a_label v.labels ++ to_come (on k (sections set)))
  entries_is = subst (λ o. entries_on o k (sections set)
      ≡ a_label v.vol1 ∷ (map a_label v.labels ++ to_come (on k (sections set)))) (sym vol)
      (append_assoc (a_label v.vol1 ∷ map a_label v.labels) (all_entries (on k (sections set)))
      (a_mark ∷ []))

  pub at_start : good ≡ []
      → Left set k good (a_label v.vol1 ∷ (map a_label v.labels ++ to_come (on k (sections set))))
  at_start e = record { done = []; whole = sym entries_is; count = rw e refl; fine = refl }

  -- the closing mark of a skipped section was bad
  pub data_astray : (heading : Heading) (x : Placed) → core.position ≡ here aim
      → Inside set core.file sect block part k good heading false x (trailer_group x.section)
      → Next aim false (passed core (DataPassed heading))
  data_astray heading x wait i =
      let ahead = ahead_passed aim heading x (trailer_group x.section) i in
      let rest : List Entry = (a_label x.section.trailer ∷ map a_label x.section.trailers
      ++ a_mark ∷ []) ++ to_come i.later in
      let apart = among_on aim x i.later i.among in
      let lawful : AllByRecursion (IsSection set.set_id (length set.volumes)) i.later =
      every_rest (IsSection set.set_id (length set.volumes)) (i.among.past ++ x ∷ []) i.later
      (subst (λ z. AllByRecursion (IsSection set.set_id (length set.volumes)) z)
      (sym (append_assoc i.among.past (x ∷ []) i.later ∙ i.among.all))
      (every (IsOn set k) (IsSection set.set_id (length set.volumes))
      (λ y h. h.lawful) (on k (sections set)) (sections_on_are set k l))) in
      let each : AllByRecursion
      (λ y. IsSection set.set_id (length set.volumes) y × (heading.sequence < y.file)) i.later =
      every (λ y. IsSection set.set_id (length set.volumes) y × (x.file < y.file))
      (λ y. IsSection set.set_id (length set.volumes) y × (heading.sequence < y.file))
      (λ y h. (h.0, omega (arith, h.1, i.numbers.0))) i.later (every_both
      (IsSection set.set_id (length set.volumes)) (λ y. x.file < y.file) i.later lawful apart.1) in
      let on = barren_on heading i.later each in
      let flat : rest ≡ a_label x.section.trailer ∷ (map a_label x.section.trailers
      ++ (a_mark ∷ to_come i.later)) = append_assoc (a_label x.section.trailer
      ∷ map a_label x.section.trailers) (a_mark ∷ []) (to_come i.later) in
      passed_next aim false _ (
        wait,
        inl (record {
          todo = rest;
          done = i.left.done ++ a_mark ∷ [];
          whole = append_assoc i.left.done (a_mark ∷ []) rest ∙ i.left.whole;
          count = simp length-append (omega (arith, i.left.count));
          bad = passes_bad good [] i.left.done [] a_mark i.left.count refl;
          lost = over_bad aim good a_mark rest i.left refl ahead;
          barren =
              subst (BarrenData heading) (sym flat) (barren_labels heading x.section.trailers _ on);
        }),
      )
