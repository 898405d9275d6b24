-- In the data of the section needed, each item preserves the relation between the state and the
-- reading.
use Rattle.std.proofs.Common.{◌≡◌, ◌<◌, ◌≤◌, ℕ, ◌+◌, ◌-◌, List, [], ◌∷◌, ◌++◌, length, drop, Bool}
use Rattle.std.proofs.Common.{true, false, refl, sym, ap, ◌∙◌, subst, append_assoc, arith}
use Rattle.std.proofs.Common.{length-append, map, nat_lt}
use Rattle.std.proofs.{lemmas.Bool.Decides.nat_tests, lemmas.List.drop_all, lemmas.List.length-drop}
use Rattle.tape_blocks.specs.Tight.{Filled}
use Rattle.tape_set.specs.{Position.block_of, Lawful.FileForm}
use Rattle.tape_set.specs.Layout.{Placed, a_label, a_data_block, a_mark, data_group, trailer_group}
use Rattle.tape_set.specs.Reach.{moved, stopped, good_run}
use Rattle.tape_core.specs.{declared.event.Reason.TheVariants.BadItem, Table.useless, Table.passed}
use Rattle.tape_core.specs.declared.event.Heading.{Heading}
use Rattle.tape_core.specs.declared.event.Phase.TheVariants.{DataWanted, TrailerWanted}
use Rattle.tape_core.specs.Follows.{Inside, Reached, InData}
use Rattle.tape_core.proofs.Lists.{run_all, Full, moved_bad, moved_all, stopped_block, or_true}
use Rattle.tape_core.proofs.{Lists.both_false, Aim.Aim, Fronts.here}
use Rattle.tape_core.proofs.AwaitedSection.{wanted_at, on_with, far_there, reached_more}
use Rattle.tape_core.proofs.HeaderSteps.{Next, passed_next, useless_next}

module _ (aim : Aim) where
  open aim use {set, core, at, sect, block, part, k, w, inside, good}

  -- the expected block
  block_now : (heading : Heading) (form : FileForm) (count : ℕ) (x : Placed)
      (i : InData set core.file sect block part k good heading form count core.position x)
      → block_of core.position ≡ block + good_run (drop block i.seen)
  block_now heading form count x i = ap block_of i.awaited
      ∙ stopped_block sect block part (block + good_run (drop block i.seen))

  -- before the expected block is reached, any item of a data block is skipped
  pub data_below : (g : Bool) (heading : Heading) (form : FileForm) (count : ℕ)
      (x : Placed) (d : Filled) (rest : List Filled)
      (i : InData set core.file sect block part k good heading form count core.position x)
      → i.blocks ≡ d ∷ rest → count < block_of core.position
      → Next aim g (passed core (DataWanted heading form (count + 1)))
  data_below g heading form count x d rest i e lt =
      let now : block_of core.position ≡ block + good_run (drop block i.seen) =
      block_now heading form count x i in
      let run : good_run (drop block i.seen) ≤ length i.seen - block =
      simp length-drop at (run_all (drop block i.seen)) in
      let early : count < block = (let n : length i.seen ≡ count = i.all_seen in omega arith) in
      let old : drop block i.seen ≡ [] = drop_all block i.seen (omega (arith, i.all_seen)) in
      let new : drop block (i.seen ++ g ∷ []) ≡ [] =
      drop_all block (i.seen ++ g ∷ []) (simp length-append (omega (arith, i.all_seen))) in
      let same : block + good_run (drop block i.seen)
      ≡ block + good_run (drop block (i.seen ++ g ∷ [])) = rw (old, new) refl in
      let inside' : Inside set core.file sect block part k good heading true x
      (a_data_block d.bytes ∷ data_group rest ++ trailer_group x.section) =
      subst (λ z. Inside set core.file sect block part k good heading true x
      (data_group z ++ trailer_group x.section)) e i.inside in
      passed_next aim g _ (
        x,
        record {
          seen = i.seen ++ g ∷ [];
          past = i.past ++ d ∷ [];
          blocks = rest;
          split = append_assoc i.past (d ∷ []) rest ∙ (ap (λ z. i.past ++ z) (sym e) ∙ i.split);
          numbered = simp length-append (omega (arith, i.numbered));
          all_seen = simp length-append (omega (arith, i.all_seen));
          labels = i.labels;
          inside = on_with aim g heading true x (a_data_block d.bytes) _ inside' (or_true g);
          reached = reached_more aim x.section g i.seen i.reached;
          awaited = i.awaited ∙ ap (λ z. stopped (here aim) sect block z) same;
          not_behind = omega (arith, same);
        },
      )

  -- the expected block, or the mark after the last block, is bad
  pub data_bad : (heading : Heading) (form : FileForm) (count : ℕ) (x : Placed)
      (i : InData set core.file sect block part k good heading form count core.position x)
      → block + good_run (drop block i.seen) ≡ count → Next aim false (useless core BadItem)
  data_bad heading form count x i full =
      let at_it = wanted_at aim i.inside in
      let fullness : Full block i.seen = full ∙ sym i.all_seen in
      let lengths : length i.past + length i.blocks ≡ length w.blocks =
      sym (length-append i.past i.blocks)
      ∙ (ap length i.split ∙ ap (λ z. length z.blocks) at_it.same) in
      let reached : Reached set core.file sect block part k w good i.seen =
      subst (λ z. Reached set core.file sect block part k z good i.seen) at_it.same i.reached in
      useless_next aim false BadItem
      (λ more. far_there aim more at_it.is_on false i.seen reached.fine reached.rest
      ∙ (go i.blocks refl more fullness (omega (arith, lengths, i.numbered, i.all_seen))
      ∙ sym (i.awaited ∙ ap (λ z. stopped (here aim) sect block z) fullness)))
    where
      go : (blocks : List Filled) → i.blocks ≡ blocks → (more : List Bool) → Full block i.seen
          → length i.seen + length i.blocks ≡ length w.blocks
          → moved (here aim) sect block w (i.seen ++ false ∷ more)
          ≡ stopped (here aim) sect block (length i.seen)
      go [] e more f n =
          let m : length i.seen ≡ length w.blocks = (let q = ap length e in omega (arith, q, n)) in
          moved_all (here aim) sect block w i.seen (false ∷ more) f m
          ∙ (rw (both_false more) refl ∙ ap (λ z. stopped (here aim) sect block z) (sym m))
      go (d ∷ blocks) e more f n =
          moved_bad (here aim) sect block w i.seen more f
          (let q = ap length e in omega (arith, q, n))

  -- the number of blocks seen is below that of the expected block, or equal to it
  pub count_cases : (heading : Heading) (form : FileForm) (count : ℕ) (x : Placed)
      (i : InData set core.file sect block part k good heading form count core.position x)
      → nat_lt count (block_of core.position) ≡ false → block + good_run (drop block i.seen) ≡ count
  count_cases heading form count x i h =
      let now : block_of core.position ≡ block + good_run (drop block i.seen) =
      block_now heading form count x i in
      let le : count ≤ block + good_run (drop block i.seen) = i.not_behind in
      grind (arith, nat_tests)

  -- if no block is left, the number of blocks seen is not below that of the expected block
  pub all_counted : (heading : Heading) (form : FileForm) (count : ℕ) (x : Placed)
      (i : InData set core.file sect block part k good heading form count core.position x)
      → i.blocks ≡ [] → count < block_of core.position → ⊥
  all_counted heading form count x i e lt =
      let at_it = wanted_at aim i.inside in
      let now : block_of core.position ≡ block + good_run (drop block i.seen) =
      block_now heading form count x i in
      let run : good_run (drop block i.seen) ≤ length i.seen - block =
      simp length-drop at (run_all (drop block i.seen)) in
      let lengths : length i.past + length i.blocks ≡ length w.blocks =
      sym (length-append i.past i.blocks)
      ∙ (ap length i.split ∙ ap (λ z. length z.blocks) at_it.same) in
      let none : length i.blocks ≡ 0 = ap length e in
      omega (arith, lengths, i.numbered, i.all_seen)

  -- the mark after the last block
  pub data_end : (heading : Heading) (form : FileForm) (count : ℕ) (x : Placed)
      (i : InData set core.file sect block part k good heading form count core.position x)
      → i.blocks ≡ [] → block + good_run (drop block i.seen) ≡ count
      → Next aim true (passed core (TrailerWanted heading form))
  data_end heading form count x i e full =
      let lengths : length i.past + length i.blocks ≡ length x.section.blocks =
      sym (length-append i.past i.blocks) ∙ ap length i.split in
      let none : length i.blocks ≡ 0 = ap length e in
      let n : count ≡ length x.section.blocks = omega (arith, lengths, i.numbered) in
      let inside' : Inside set core.file sect block part k good heading true x
      (a_mark ∷ a_label x.section.trailer ∷ map a_label x.section.trailers ++ a_mark ∷ []) =
      subst (λ z. Inside set core.file sect block part k good heading true x
      (data_group z ++ trailer_group x.section)) e i.inside in
      passed_next aim true _ (
        x,
        record {
          seen = i.seen;
          all_seen = i.all_seen ∙ n;
          labels = i.labels;
          inside = on_with aim true heading true x a_mark _ inside' refl;
          reached = reached_more aim x.section true i.seen i.reached;
          all_awaited = full ∙ n;
          awaited = i.awaited ∙ ap (λ z. stopped (here aim) sect block z) (full ∙ n);
        },
      )
