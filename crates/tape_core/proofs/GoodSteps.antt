-- In every phase, a readable item preserves the relation between the state and the reading.
use Rattle.std.proofs.Common.{◌≡◌, ◌<◌, ℕ, List, [], ◌∷◌, ◌++◌, length, true, false, Some, refl}
use Rattle.std.proofs.Common.{subst, inl, inr, arith, slice_get, is_some, nat_lt}
use Rattle.std.proofs.lemmas.Bool.Decides.{nat_tests}
use Rattle.tape_label.specs.declared.values.Kind.TheVariants as kinds
use Rattle.tape_label.proofs.Apart.{kind_again}
use Rattle.tape_blocks.specs.Tight.{Filled}
use Rattle.tape_set.specs.{Position.block_of, Lawful.FileForm, Lawful.IsVolume}
use Rattle.tape_set.specs.Layout.{Placed, Entry, a_label, a_data_block, a_mark, item_of, data_group}
use Rattle.tape_set.specs.Layout.{trailer_group, entries, sections, on}
use Rattle.tape_set.proofs.Everywhere.{every_at, nth_found}
use Rattle.tape_core.specs.declared.event.{Reason.Reason, Heading.Heading, Phase.Phase}
use Rattle.tape_core.specs.declared.event.Reason.TheVariants.{NotLabelled, NotOnReel, ReelEnded}
use Rattle.tape_core.specs.declared.event.Phase.TheVariants.{VolumeLabels, Header2, Headers}
use Rattle.tape_core.specs.declared.event.Phase.TheVariants.{DataPassed, DataWanted, TrailerPassed}
use Rattle.tape_core.specs.declared.event.Phase.TheVariants.{TrailerWanted, Trailers, NextFile}
use Rattle.tape_core.specs.Table.{useless, at_block, at_item}
use Rattle.tape_core.specs.Follows.{to_come, Left, Among, BarrenNext, BarrenTrailers, BarrenTrailer}
use Rattle.tape_core.specs.Follows.{BarrenData, InData, Follows}
use Rattle.tape_core.specs.declared.event.Phase.TheVariants.{Over, Broken, Volume as AtVolume}
use Rattle.tape_core.proofs.HeaderSteps.{Next, passed_next, either, nothing_here, over_next}
use Rattle.tape_core.proofs.StraySteps.{stray_first, stray_data, stray_trailer, stray_trailers}
use Rattle.tape_core.proofs.LabelLaws.{header_no_label, label_taken}
use Rattle.tape_core.proofs.Fronts.{left_more, none_to_come, first_left, here}
use Rattle.tape_core.proofs.{Aim.Aim, TrailerSteps.trailer_next, TrailerSteps.passed_trailer_next}
use Rattle.tape_core.proofs.{BlockSteps.data_awaited, StraySteps.stray_next, StraySteps.at_start}
use Rattle.tape_core.proofs.AwaitedSection.{all_among, next_among, on_it, on_with}
use Rattle.tape_core.proofs.HeaderSteps.{head1_next, head2_next, headers_end}
use Rattle.tape_core.proofs.DataSteps.{data_below, count_cases, all_counted, data_end}

module _ (aim : Aim) where
  open aim use {set, l, core, sect, block, part, k, v, vol, good}

  -- a readable item is the next item of the volume
  as_entry : (e e' : Entry) (phase : Phase) (todo : List Entry) → Left set k good (e' ∷ todo)
      → slice_get (entries set k) (length good) ≡ Some e
      → Next aim true (at_item core phase (item_of e'))
      → Next aim true (at_item core phase (item_of e))
  as_entry e e' phase todo left s h = subst (λ z. Next aim true (at_item core phase (item_of z)))
      (first_left set k good e e' todo left s) h

  -- no section is left
  none_left : (why : Reason) → core.position ≡ here aim → Among set k core.file []
      → Next aim true (useless core why)
  none_left why wait among = nothing_here aim true why wait (none_to_come aim among)

  is_volume : IsVolume v
  is_volume =
      let n = nth_found set.volumes k v vol in
      every_at IsVolume set.volumes n.place v l.volumes n.found

  -- at HDR1 after the volume's labels
  first_head : (x : Placed) (rest : List Placed) → core.position ≡ here aim
      → Among set k core.file (x ∷ rest) → Left set k good (to_come (x ∷ rest))
      → Next aim true (at_block core VolumeLabels x.section.hdr1)
  first_head x rest wait among left =
      let hd = (on_it aim x rest among).lawful.header in
      rw (
        header_no_label x.section.hdr1 hd.0 hd.1.label,
        kind_again x.section.hdr1 kinds.Hdr1 hd.1.label.kind,
      ) (head1_next aim x rest wait among left)

  after_labels : (e : Entry) (later : List Placed) → core.position ≡ here aim
      → Among set k core.file later → Left set k good (to_come later)
      → slice_get (entries set k) (length good) ≡ Some e
      → Next aim true (at_item core VolumeLabels (item_of e))
  after_labels e [] wait among left s =
      as_entry e a_mark VolumeLabels [] left s (none_left NotLabelled wait among)
  after_labels e (x ∷ rest) wait among left s =
      as_entry e (a_label x.section.hdr1) VolumeLabels _ left s (first_head x rest wait among left)

  between : (e : Entry) (later : List Placed) → core.position ≡ here aim
      → Among set k core.file later → Left set k good (to_come later)
      → slice_get (entries set k) (length good) ≡ Some e
      → Next aim true (at_item core NextFile (item_of e))
  between e [] wait among left s =
      as_entry e a_mark NextFile [] left s (none_left NotOnReel wait among)
  between e (x ∷ rest) wait among left s =
      as_entry e (a_label x.section.hdr1) NextFile _ left s (head1_next aim x rest wait among left)

  in_data : (e : Entry) (heading : Heading) (form : FileForm) (count : ℕ) (x : Placed)
      (i : InData set core.file sect block part k good heading form count core.position x)
      → slice_get (entries set k) (length good) ≡ Some e
      → (blocks : List Filled) → i.blocks ≡ blocks
      → Next aim true (at_item core (DataWanted heading form count) (item_of e))
  in_data e heading form count x i s [] q =
      as_entry e a_mark (DataWanted heading form count) _ (subst (λ z. Left set k good
      ((data_group z ++ trailer_group x.section) ++ to_come i.inside.later)) q i.inside.left) s
      (either aim true (nat_lt count (block_of core.position)) _ _
      (λ t. absurd (let lt : count < block_of core.position = grind (arith, nat_tests) in
      all_counted aim heading form count x i q lt))
      (λ t. data_end aim heading form count x i q (count_cases aim heading form count x i t)))
  in_data e heading form count x i s (d ∷ rest) q =
      as_entry e (a_data_block d.bytes) (DataWanted heading form count) _ (subst (λ z. Left set k
      good ((data_group z ++ trailer_group x.section) ++ to_come i.inside.later)) q i.inside.left) s
      (either aim true (nat_lt count (block_of core.position)) _ _
      (λ t. let lt : count < block_of core.position = grind (arith, nat_tests) in
      data_below aim true heading form count x d rest i q lt)
      (λ t. data_awaited aim heading form count x d rest i q
      (count_cases aim heading form count x i t)))

  -- a readable item preserves the relation
  pub good_next : (phase : Phase) → Follows set core.file sect block part k phase core.position good
      → (e : Entry) → slice_get (entries set k) (length good) ≡ Some e
      → Next aim true (at_item core phase (item_of e))
  good_next Broken h e s = absurd h
  good_next Over h (a_label b) s = over_next aim true ReelEnded h
  good_next Over h (a_data_block b) s = over_next aim true ReelEnded h
  good_next Over h a_mark s = over_next aim true ReelEnded h
  good_next AtVolume (wait, none) e s =
      as_entry e (a_label v.vol1) AtVolume _ (at_start aim none) s
      (rw (kind_again v.vol1 kinds.Vol1 is_volume.vol1)
      (passed_next aim true VolumeLabels (
        wait,
        v.labels,
        is_volume.labels,
        left_more set k good true (a_label v.vol1) _ (at_start aim none) refl,
      )))
  good_next VolumeLabels (wait, [], all, left) e s =
      after_labels e (on k (sections set)) wait (all_among aim) left s
  good_next VolumeLabels (wait, b ∷ labels, all, left) e s =
      as_entry e (a_label b) VolumeLabels _ left s (rw (label_taken b all.0) (passed_next aim true
      VolumeLabels (wait, labels, all.1, left_more set k good true (a_label b) _ left refl)))
  good_next (Header2 heading wanted) (wait, x, i, h, r, q) e s = as_entry e (a_label x.section.hdr2)
      (Header2 heading wanted) _ i.left s (head2_next aim heading wanted x wait i h r q)
  good_next (Headers heading known) (wait, x, [], kn, i) e s =
      as_entry e a_mark (Headers heading known) _ i.left s
      (headers_end aim heading known x wait kn i)
  good_next (Headers heading known) (wait, x, b ∷ labels, kn, i) e s =
      as_entry e (a_label b) (Headers heading known) _ i.left s (passed_next aim true _
      (wait, x, labels, kn, on_with aim true heading (is_some known) x (a_label b) _ i refl))
  good_next (DataPassed heading) (wait, inl a) e s =
      let f = stray_first aim (BarrenData heading) a e s in
      stray_data aim heading e wait a f.0 f.1
  good_next (DataPassed heading) (wait, inr (x, [], i)) e s = as_entry e a_mark (DataPassed heading)
      _ i.left s (passed_next aim true _
      (wait, inr (x, on_with aim true heading false x a_mark _ i refl)))
  good_next (DataPassed heading) (wait, inr (x, d ∷ rest, i)) e s =
      as_entry e (a_data_block d.bytes) (DataPassed heading) _ i.left s (passed_next aim true _
      (wait, inr (x, rest, on_with aim true heading false x (a_data_block d.bytes) _ i refl)))
  good_next (DataWanted heading known count) (x, i) e s =
      in_data e heading known count x i s i.blocks refl
  good_next (TrailerPassed heading) (wait, inl a) e s =
      let f = stray_first aim (BarrenTrailer heading) a e s in
      stray_trailer aim heading e wait a f.0 f.1
  good_next (TrailerPassed heading) (wait, inr (x, i)) e s = as_entry e (a_label x.section.trailer)
      (TrailerPassed heading) _ i.left s (passed_trailer_next aim heading x wait i)
  good_next (TrailerWanted heading known) (x, i) e s = as_entry e (a_label x.section.trailer)
      (TrailerWanted heading known) _ i.inside.left s (trailer_next aim heading known x i)
  good_next Trailers (wait, inl a) e s =
      let f = stray_first aim BarrenTrailers a e s in
      stray_trailers aim e wait a f.0 f.1
  good_next Trailers (wait, inr (x, heading, [], i)) e s =
      as_entry e a_mark Trailers _ i.left s (passed_next aim true _ (
        wait,
        inr (
          i.later,
          next_among aim x i.later i.among i.chosen,
          left_more set k good true a_mark _ i.left refl,
        ),
      ))
  good_next Trailers (wait, inr (x, heading, b ∷ labels, i)) e s =
      as_entry e (a_label b) Trailers _ i.left s (passed_next aim true _
      (wait, inr (x, heading, labels, on_with aim true heading false x (a_label b) _ i refl)))
  good_next NextFile (wait, inl a) e s =
      let f = stray_first aim BarrenNext a e s in
      stray_next aim e wait a f.0 f.1
  good_next NextFile (wait, inr (later, among, left)) e s = between e later wait among left s
