-- The phase determines the position that the reading reaches, and the state after a complete
-- volume.
use Rattle.std.proofs.Common.{◌≡◌, ◌+◌, List, [], ◌∷◌, ◌++◌, length, true, refl, sym, ap, ◌∙◌}
use Rattle.std.proofs.Common.{subst, inl, inr, arith, length-append, map, is_some}
use Rattle.std.proofs.lemmas.List.{append-nil, nil_from_length}
use Rattle.tape_blocks.specs.Tight.{Filled}
use Rattle.tape_set.specs.Layout.{Placed, Entry, a_label, data_group, trailer_group, entries}
use Rattle.tape_set.specs.Layout.{sections, on}
use Rattle.tape_set.specs.Reach.{passes, far, moved, stopped}
use Rattle.tape_core.specs.declared.event.Phase.{Phase}
use Rattle.tape_core.specs.declared.event.Phase.TheVariants.{Over, Broken, Volume as AtVolume}
use Rattle.tape_core.specs.declared.event.Phase.TheVariants.{VolumeLabels, Header2, Headers}
use Rattle.tape_core.specs.declared.event.Phase.TheVariants.{DataPassed, DataWanted, TrailerPassed}
use Rattle.tape_core.specs.declared.event.Phase.TheVariants.{TrailerWanted, Trailers, NextFile}
use Rattle.tape_core.specs.Follows.{reading, to_come, Left, BarrenNext, BarrenTrailers}
use Rattle.tape_core.specs.Follows.{BarrenTrailer, BarrenData, Reached, Follows}
use Rattle.tape_core.proofs.Lists.{Full, moved_all, moved_short}
use Rattle.tape_core.proofs.Fronts.{Ahead, far_ahead, far_on, here, ahead_later}
use Rattle.tape_core.proofs.{Aim.Aim, StraySteps.Strays, StraySteps.at_start}
use Rattle.tape_core.proofs.AwaitedSection.{wanted_at, all_among, ahead_inside, ahead_passed}

module _ (aim : Aim) where
  open aim use {set, core, sect, block, part, k, w, inside, v, good}

  ahead_pos : (todo : List Entry) → core.position ≡ here aim → Left set k good todo → Ahead aim todo
      → core.position ≡ far set core.file (here aim) (reading k good)
  ahead_pos todo wait left ahead = wait ∙ sym (far_ahead aim good todo left ahead)

  stray_pos : (B : List Entry → Type 0) → core.position ≡ here aim → Strays aim good B
      → core.position ≡ far set core.file (here aim) (reading k good)
  stray_pos B wait a = wait
      ∙ sym (ap (λ z. far set core.file (here aim) (reading k z)) (sym (append-nil good))
      ∙ a.lost [])

  -- the position is the one that the reading reaches
  pub position_is : (phase : Phase)
      → Follows set core.file sect block part k phase core.position good
      → core.position ≡ far set core.file (here aim) (reading k good)
  position_is Broken h = absurd h
  position_is Over h =
      sym (ap (λ z. far set core.file (here aim) (reading k z)) (sym (append-nil good)) ∙ h [])
  position_is AtVolume (wait, none) = ahead_pos _ wait (at_start aim none)
      (ahead_later aim _ (a_label v.vol1 ∷ map a_label v.labels) (all_among aim))
  position_is VolumeLabels (wait, labels, all, left) =
      ahead_pos _ wait left
      (ahead_later aim (on k (sections set)) (map a_label labels) (all_among aim))
  position_is (Header2 heading wanted) (wait, x, i, h, r, q) = ahead_pos _ wait i.left
      (ahead_inside aim heading wanted x (a_label x.section.hdr2 ∷ map a_label x.section.headers) i)
  position_is (Headers heading known) (wait, x, labels, kn, i) =
      ahead_pos _ wait i.left (ahead_inside aim heading (is_some known) x (map a_label labels) i)
  position_is (DataPassed heading) (wait, inl a) = stray_pos (BarrenData heading) wait a
  position_is (DataPassed heading) (wait, inr (x, blocks, i)) =
      ahead_pos _ wait i.left (ahead_passed aim heading x _ i)
  position_is (DataWanted heading known count) (x, i) =
      let at_it = wanted_at aim i.inside in
      let reached : Reached set core.file sect block part k w good i.seen =
      subst (λ z. Reached set core.file sect block part k z good i.seen) at_it.same i.reached in
      let lengths : length i.past + length i.blocks ≡ length w.blocks =
      sym (length-append i.past i.blocks)
      ∙ (ap length i.split ∙ ap (λ z. length z.blocks) at_it.same) in
      i.awaited ∙ sym (far_on aim at_it.is_on good
      reached.fine
      ∙ (ap (λ z. moved (here aim) sect block w z) reached.rest
      ∙ moved_short (here aim) sect block w i.seen inside
      (omega (arith, lengths, i.numbered, i.all_seen))))
  position_is (TrailerPassed heading) (wait, inl a) = stray_pos (BarrenTrailer heading) wait a
  position_is (TrailerPassed heading) (wait, inr (x, i)) =
      ahead_pos _ wait i.left (ahead_passed aim heading x _ i)
  position_is (TrailerWanted heading known) (x, i) =
      let at_it = wanted_at aim i.inside in
      let reached : Reached set core.file sect block part k w good (i.seen ++ true ∷ []) =
      subst (λ z. Reached set core.file sect block part k z good (i.seen ++ true ∷ [])) at_it.same
      i.reached in
      let n : length i.seen ≡ length w.blocks = i.all_seen ∙ ap (λ z. length z.blocks) at_it.same in
      let full : Full block i.seen = i.all_awaited ∙ sym i.all_seen in
      (i.awaited ∙ ap (λ z. stopped (here aim) sect block (length z.blocks)) at_it.same)
      ∙ sym (far_on aim at_it.is_on good reached.fine
      ∙ (ap (λ z. moved (here aim) sect block w z) reached.rest
      ∙ moved_all (here aim) sect block w i.seen (true ∷ []) full n))
  position_is Trailers (wait, inl a) = stray_pos BarrenTrailers wait a
  position_is Trailers (wait, inr (x, heading, labels, i)) =
      ahead_pos _ wait i.left (ahead_passed aim heading x _ i)
  position_is NextFile (wait, inl a) = stray_pos BarrenNext wait a
  position_is NextFile (wait, inr (later, among, left)) =
      ahead_pos _ wait left (ahead_later aim later [] among)

  some_left : (e : Entry) (todo : List Entry) → Left set k good (e ∷ todo)
      → length good ≡ length (entries set k) → ⊥
  some_left e todo left n =
      let sizes : length left.done + length (e ∷ todo) ≡ length (entries set k) =
      sym (length-append left.done (e ∷ todo)) ∙ ap length left.whole in
      omega (arith, sizes, n, left.count)

  none_stray : (B : List Entry → Type 0) → Strays aim good B → length good ≡ length (entries set k)
      → passes good (entries set k) ≡ true → ⊥
  none_stray B a n h =
      let sizes : length a.done + length a.todo ≡ length (entries set k) =
      sym (length-append a.done a.todo) ∙ ap length a.whole in
      let none : a.todo ≡ [] = nil_from_length a.todo (omega (arith, sizes, n, a.count)) in
      let same : a.done ≡ entries set k = sym (append-nil a.done)
      ∙ (ap (λ z. a.done ++ z) (sym none) ∙ a.whole) in
      let w = sym (ap (λ z. passes good z) same ∙ h) ∙ a.bad in cc

  -- after a complete volume in which only data blocks are bad, no reading is in progress
  pub whole_over : (phase : Phase)
      → Follows set core.file sect block part k phase core.position good
      → length good ≡ length (entries set k) → passes good (entries set k) ≡ true → phase ≡ Over
  whole_over Over h n q = refl
  whole_over Broken h n q = absurd h
  whole_over AtVolume (wait, none) n q = absurd (some_left _ _ (at_start aim none) n)
  whole_over VolumeLabels (wait, b ∷ labels, all, left) n q = absurd (some_left _ _ left n)
  whole_over VolumeLabels (wait, [], all, left) n q = absurd (go (on k (sections set)) left)
    where
      go : (xs : List Placed) → Left set k good (to_come xs) → ⊥
      go [] left = some_left _ _ left n
      go (x ∷ xs) left = some_left _ _ left n
  whole_over (Header2 heading wanted) (wait, x, i, h, r, e) n q = absurd (some_left _ _ i.left n)
  whole_over (Headers heading known) (wait, x, [], kn, i) n q = absurd (some_left _ _ i.left n)
  whole_over (Headers heading known) (wait, x, b ∷ labels, kn, i) n q =
      absurd (some_left _ _ i.left n)
  whole_over (DataPassed heading) (wait, inl a) n q = absurd (none_stray (BarrenData heading) a n q)
  whole_over (DataPassed heading) (wait, inr (x, [], i)) n q = absurd (some_left _ _ i.left n)
  whole_over (DataPassed heading) (wait, inr (x, d ∷ rest, i)) n q = absurd (some_left _ _ i.left n)
  whole_over (DataWanted heading known count) (x, i) n q = absurd (go i.blocks i.inside.left)
    where
      go : (xs : List Filled)
          → Left set k good ((data_group xs ++ trailer_group x.section) ++ to_come i.inside.later)
          → ⊥
      go [] left = some_left _ _ left n
      go (d ∷ xs) left = some_left _ _ left n
  whole_over (TrailerPassed heading) (wait, inl a) n q =
      absurd (none_stray (BarrenTrailer heading) a n q)
  whole_over (TrailerPassed heading) (wait, inr (x, i)) n q = absurd (some_left _ _ i.left n)
  whole_over (TrailerWanted heading known) (x, i) n q = absurd (some_left _ _ i.inside.left n)
  whole_over Trailers (wait, inl a) n q = absurd (none_stray BarrenTrailers a n q)
  whole_over Trailers (wait, inr (x, heading, [], i)) n q = absurd (some_left _ _ i.left n)
  whole_over Trailers (wait, inr (x, heading, b ∷ labels, i)) n q = absurd (some_left _ _ i.left n)
  whole_over NextFile (wait, inl a) n q = absurd (none_stray BarrenNext a n q)
  whole_over NextFile (wait, inr ([], among, left)) n q = absurd (some_left _ _ left n)
  whole_over NextFile (wait, inr (x ∷ later, among, left)) n q = absurd (some_left _ _ left n)
