-- In every phase, a bad item preserves the relation between the state and the reading.
use Rattle.std.proofs.Common.{◌≡◌, ◌<◌, ℕ, ◌+◌, List, [], ◌∷◌, ◌++◌, length, false, Some, refl, inl}
use Rattle.std.proofs.Common.{inr, arith, slice_get, map, is_some, nat_lt}
use Rattle.std.proofs.lemmas.Bool.Decides.{nat_tests}
use Rattle.tape_blocks.specs.Tight.{Filled}
use Rattle.tape_set.specs.Position.{block_of}
use Rattle.tape_set.specs.Layout.{Entry, a_label, entries, sections, on}
use Rattle.tape_core.specs.declared.event.Phase.TheVariants.{Over, Broken, Volume as AtVolume}
use Rattle.tape_core.specs.declared.event.Phase.TheVariants.{VolumeLabels, Header2, Headers}
use Rattle.tape_core.specs.declared.event.Phase.TheVariants.{DataPassed, DataWanted, TrailerPassed}
use Rattle.tape_core.specs.Follows.{to_come, Left, BarrenNext, BarrenTrailers, BarrenTrailer}
use Rattle.tape_core.specs.declared.event.Reason.TheVariants.{BadItem, ReelEnded}
use Rattle.tape_core.specs.{declared.event.Phase.Phase, Table.useless, Table.passed, Table.at_bad}
use Rattle.tape_core.specs.declared.event.Phase.TheVariants.{TrailerWanted, Trailers, NextFile}
use Rattle.tape_core.specs.Follows.{BarrenData, Follows}
use Rattle.tape_core.proofs.HeaderSteps.{Next, passed_next, either, bad_here, over_next}
use Rattle.tape_core.proofs.{Aim.Aim, Fronts.ahead_later, TrailerSteps.trailer_bad}
use Rattle.tape_core.proofs.AwaitedSection.{all_among, on_with, ahead_inside, ahead_passed}
use Rattle.tape_core.proofs.HeaderSteps.{bad_between}
use Rattle.tape_core.proofs.DataSteps.{data_below, data_bad, count_cases, all_counted}
use Rattle.tape_core.proofs.StraySteps.{stray_over, stray_first, stray_bad, at_start, data_astray}

module _ (aim : Aim) where
  open aim use {set, core, sect, block, part, k, v, good}

  -- a bad item preserves the relation in every phase
  pub bad_next : (phase : Phase) → Follows set core.file sect block part k phase core.position good
      → (e : Entry) → slice_get (entries set k) (length good) ≡ Some e
      → Next aim false (at_bad core phase)
  bad_next Over h e s = over_next aim false ReelEnded h
  bad_next Broken h e s = absurd h
  bad_next AtVolume (wait, none) e s = bad_here aim BadItem _ _ wait (at_start aim none) refl
      (ahead_later aim _ (a_label v.vol1 ∷ map a_label v.labels) (all_among aim))
  bad_next VolumeLabels (wait, labels, all, left) e s = labels_bad labels left
    where
      labels_bad : (labels : List (List ℕ))
          → Left set k good (map a_label labels ++ to_come (on k (sections set)))
          → Next aim false (useless core BadItem)
      labels_bad [] left = bad_between aim BadItem (on k (sections set)) wait (all_among aim) left
      labels_bad (b ∷ labels) left = bad_here aim BadItem _ _ wait left refl
          (ahead_later aim (on k (sections set)) (map a_label (b ∷ labels)) (all_among aim))
  bad_next (Header2 heading wanted) (wait, x, i, h, r, q) e s =
      bad_here aim BadItem _ _ wait i.left refl
      (ahead_inside aim heading wanted x (a_label x.section.hdr2 ∷ map a_label x.section.headers) i)
  bad_next (Headers heading known) (wait, x, [], kn, i) e s =
      bad_here aim BadItem _ _ wait i.left refl (ahead_inside aim heading (is_some known) x [] i)
  bad_next (Headers heading known) (wait, x, b ∷ labels, kn, i) e s = bad_here aim BadItem _ _ wait
      i.left refl (ahead_inside aim heading (is_some known) x (map a_label (b ∷ labels)) i)
  bad_next (DataPassed heading) (wait, inl a) e s =
      let f = stray_first aim (BarrenData heading) a e s in
      stray_bad aim heading e wait a f.0 f.1
  bad_next (DataPassed heading) (wait, inr (x, [], i)) e s = data_astray aim heading x wait i
  bad_next (DataPassed heading) (wait, inr (x, d ∷ rest, i)) e s =
      passed_next aim false _ (wait, inr (x, rest, on_with aim false heading false x _ _ i refl))
  bad_next (DataWanted heading known count) (x, i) e s =
      either aim false (nat_lt count (block_of core.position)) _ _
      (λ t. let lt : count < block_of core.position = grind (arith, nat_tests) in
      below i.blocks refl lt)
      (λ t. data_bad aim heading known count x i (count_cases aim heading known count x i t))
    where
      below : (blocks : List Filled) → i.blocks ≡ blocks → count < block_of core.position
          → Next aim false (passed core (DataWanted heading known (count + 1)))
      below [] q lt = absurd (all_counted aim heading known count x i q lt)
      below (d ∷ rest) q lt = data_below aim false heading known count x d rest i q lt
  bad_next (TrailerPassed heading) (wait, inl a) e s =
      stray_over aim false BadItem (BarrenTrailer heading) wait a
  bad_next (TrailerPassed heading) (wait, inr (x, i)) e s =
      bad_here aim BadItem _ _ wait i.left refl (ahead_passed aim heading x _ i)
  bad_next (TrailerWanted heading known) (x, i) e s = trailer_bad aim heading known x i
  bad_next Trailers (wait, inl a) e s = stray_over aim false BadItem BarrenTrailers wait a
  bad_next Trailers (wait, inr (x, heading, [], i)) e s =
      bad_here aim BadItem _ _ wait i.left refl (ahead_passed aim heading x _ i)
  bad_next Trailers (wait, inr (x, heading, b ∷ labels, i)) e s =
      bad_here aim BadItem _ _ wait i.left refl (ahead_passed aim heading x _ i)
  bad_next NextFile (wait, inl a) e s = stray_over aim false BadItem BarrenNext wait a
  bad_next NextFile (wait, inr (later, among, left)) e s =
      bad_between aim BadItem later wait among left
