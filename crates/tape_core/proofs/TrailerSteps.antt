-- At a section's trailer label, each item preserves the relation between the state and the reading.
use Rattle.std.proofs.Common.{◌≡◌, ◌<◌, ◌+◌, List, [], ◌∷◌, ◌++◌, length, Bool, true, false, cond}
use Rattle.std.proofs.Common.{Option, Some, Ok, refl, sym, ap, ◌∙◌, subst, inl, inr, append_assoc}
use Rattle.std.proofs.Common.{arith, eq-eqb, slice_get, map, ◌==◌, not, nat_lt, IsSome}
use Rattle.std.proofs.lemmas.Bool.Decides.{nat_tests}
use Rattle.tape_label.specs.{declared.values.Trail1.Trail1, Reading.trail1_at}
use Rattle.tape_label.proofs.First.{trail1_again}
use Rattle.tape_blocks.specs.Judged.{begun_behind}
use Rattle.tape_set.specs.declared.position.Position.TheVariants.{Awaits, Finished}
use Rattle.tape_set.specs.Position.{awaiting, next_section, sect_of, block_of, is_start}
use Rattle.tape_set.specs.Layout.{Section, Placed, a_label, a_mark, section_of, file_of, ends_file}
use Rattle.tape_set.specs.Before.{before, parts_at}
use Rattle.tape_set.specs.Lawful.{FileForm, IsTrailer, TellsForm, label_count}
use Rattle.tape_set.specs.Reach.{far, moved, stopped, behind}
use Rattle.tape_set.proofs.FileParts.{next_found, file_is, file_lawful, ends_at, before_next}
use Rattle.tape_set.proofs.{Numbering.FileOf, Forms.one_form, FileParts.before_end}
use Rattle.tape_core.specs.Table.{useless, at_passed_trailer, at_wanted_trailer, at_end}
use Rattle.tape_core.specs.{declared.event.Reason.TheVariants.BadItem, Table.other_numbers}
use Rattle.tape_core.specs.declared.event.Heading.{Heading}
use Rattle.tape_core.specs.Follows.{reading, Inside, Reached, AtTrailer}
use Rattle.tape_core.proofs.AwaitedSection.{wanted_at, its_file, told, known_after, on_it, on_with}
use Rattle.tape_core.proofs.Files.{no_parts_at, ends_as, few_sections, whole_begun}
use Rattle.tape_core.proofs.{Lists.Full, Lists.moved_all, Lists.stopped_here, Aim.Aim, Fronts.here}
use Rattle.tape_core.proofs.AwaitedSection.{far_there}
use Rattle.tape_core.proofs.HeaderSteps.{Next, passed_next, useless_next, either}

module _ (aim : Aim) where
  open aim use {set, l, core, at, sect, block, part, k, w, inside, within, good}

  -- the trailer of the section needed is bad
  pub trailer_bad : (heading : Heading) (form : FileForm) (x : Placed)
      (i : AtTrailer set core.file sect block part k good heading form core.position x)
      → Next aim false (useless core BadItem)
  trailer_bad heading form x i =
      let at_it = wanted_at aim i.inside in
      let n : length i.seen ≡ length w.blocks = i.all_seen ∙ ap (λ z. length z.blocks) at_it.same in
      let full : Full block i.seen = i.all_awaited ∙ sym i.all_seen in
      let reached : Reached set core.file sect block part k w good (i.seen ++ true ∷ []) =
      subst (λ z. Reached set core.file sect block part k z good (i.seen ++ true ∷ [])) at_it.same
      i.reached in
      useless_next aim false BadItem
      (λ more. far_there aim more at_it.is_on false (i.seen ++ true ∷ []) reached.fine reached.rest
      ∙ (ap (λ z. moved (here aim) sect block w z) (append_assoc i.seen (true ∷ []) (false ∷ more))
      ∙ (moved_all (here aim) sect block w i.seen (true ∷ false ∷ more) full n
      ∙ sym (i.awaited ∙ ap (λ z. stopped (here aim) sect block (length z.blocks)) at_it.same))))

  -- at the end of the section needed, no part of a block is expected
  pub end_front : core.position ≡ stopped (here aim) sect block (length w.blocks)
      → core.position ≡ awaiting sect (length w.blocks)
  end_front is = go (length w.blocks == block) refl
    where
      go : (t : Bool) → (length w.blocks == block) ≡ t
          → core.position ≡ awaiting sect (length w.blocks)
      go true e =
          let same : length w.blocks ≡ block = grind (arith, nat_tests) in
          let none : parts_at w.blocks block ≡ [] =
          ap (λ z. parts_at w.blocks z) (sym same) ∙ no_parts_at w.blocks in
          let zero' : part ≡ 0 =
          elim within [
            | inl z ↦ z
            | inr lt ↦ absurd (let q : length (parts_at w.blocks block) ≡ 0 =
                ap length none in omega (arith, lt, q))
          ] in
          is ∙ (ap (λ z. stopped (here aim) sect block z) same ∙ (stopped_here (here aim) sect block
          ∙ (ap (λ z. Awaits sect block z) zero' ∙ ap (λ z. awaiting sect z) (sym same))))
      go false e = is ∙ rw e refl

  -- the trailer of the section needed
  pub trailer_next : (heading : Heading) (form : FileForm) (x : Placed)
      (i : AtTrailer set core.file sect block part k good heading form core.position x)
      → Next aim true (at_wanted_trailer core heading form (trail1_at x.section.trailer))
  trailer_next heading form x i =
      let at_it = wanted_at aim i.inside in
      let t : Trail1 = (on_it aim x i.inside.later i.inside.among).lawful.trailer.0 in
      let tr : IsTrailer x t = (on_it aim x i.inside.later i.inside.among).lawful.trailer.1 in
      let n : length i.seen ≡ length w.blocks = i.all_seen ∙ ap (λ z. length z.blocks) at_it.same in
      let full : Full block i.seen = i.all_awaited ∙ sym i.all_seen in
      let reached : Reached set core.file sect block part k w good (i.seen ++ true ∷ []) =
      subst (λ z. Reached set core.file sect block part k z good (i.seen ++ true ∷ [])) at_it.same
      i.reached in
      let at_end' : core.position ≡ awaiting sect (length w.blocks) =
      end_front (i.awaited
      ∙ ap (λ z. stopped (here aim) sect block (length z.blocks)) at_it.same) in
      let tells : TellsForm form w = subst (λ z. TellsForm form z) at_it.same i.labels in
      let form_is : form ≡ (told aim).0 = one_form w form (told aim).0 tells (told aim).1 in
      let eof : ends_file w ≡ t.eof = ap ends_file (sym at_it.same)
      ∙ ends_as x.section t tr.label in
      let behind_is : behind sect w ≡ cond t.eof Finished (awaiting (sect + 1) 0) =
      ap (λ z. cond z Finished (awaiting (sect + 1) 0)) eof in
      let far_end : (more : List Bool) → far set core.file (here aim) (reading k
      ((good ++ true ∷ []) ++ more)) ≡ cond t.eof Finished (awaiting (sect + 1) 0) = λ more.
      far_there aim more at_it.is_on true (i.seen ++ true ∷ []) reached.fine reached.rest
      ∙ (ap (λ z. moved (here aim) sect block w z) (append_assoc i.seen (true ∷ []) (true ∷ more))
      ∙ (moved_all (here aim) sect block w i.seen (true ∷ true ∷ more) full n ∙ behind_is)) in
      let numbers : other_numbers heading t ≡ false =
      (let a : (t.head.sequence == heading.sequence) ≡ true =
      eq-eqb t.head.sequence heading.sequence (tr.file ∙ sym i.inside.numbers.0) in
      let b : (t.head.sect == heading.sect) ≡ true =
      eq-eqb t.head.sect heading.sect (tr.sect ∙ sym i.inside.numbers.1) in rw (a, b) refl) in
      let block_is : block_of core.position ≡ length w.blocks = ap block_of at_end' in
      let counted : (t.blocks == label_count (block_of core.position)) ≡ true =
      eq-eqb t.blocks (label_count (block_of core.position)) (tr.count
      ∙ (ap (λ z. label_count (length z.blocks)) at_it.same ∙ ap label_count (sym block_is))) in
      let s_is : sect_of core.position ≡ sect = ap sect_of at_end' in
      let next_is : next_section core.position ≡ awaiting (sect + 1) 0 = ap next_section at_end' in
      let begun : core.begun
      ≡ begun_behind false (before set core.file (awaiting sect (length w.blocks))) =
      at.stands.span ∙ ap (λ z. begun_behind false (before set core.file z)) at_end' in
      let ends = ends_at (its_file aim).sections (its_file aim).sect_at.place w
      (file_lawful set core.file sect w l (its_file aim)).ends (its_file aim).sect_at.found in
      let reads : trail1_at x.section.trailer ≡ Ok t = trail1_again x.section.trailer t tr.label in
      rw (reads, numbers, counted)
      (ended t.eof form form_is at_end' begun s_is next_is
      (λ e. elim ends [ inl a ↦ a.1 | inr b ↦ absurd (let q = sym b.0 ∙ (eof ∙ e) in cc) ])
      (λ e. elim ends [ inl a ↦ absurd (let q = sym a.0 ∙ (eof ∙ e) in cc) | inr b ↦ b.1 ]) far_end)
    where
      is_there : FileOf set core.file sect w → IsSome (file_of set core.file)
      is_there f =
          let P : Option (List Section) → Type 0 = λ o. IsSome o in
          subst P (sym (file_is set core.file sect w f)) refl

      ended : (eof : Bool) (form : FileForm) → form ≡ (told aim).0
          → core.position ≡ awaiting sect (length w.blocks)
          → core.begun ≡ begun_behind false (before set core.file (awaiting sect (length w.blocks)))
          → sect_of core.position ≡ sect → next_section core.position ≡ awaiting (sect + 1) 0
          → (eof ≡ true → length (its_file aim).sections ≡ (its_file aim).sect_at.place + 1)
          → (eof ≡ false → (w' : Section)
          × (slice_get (its_file aim).sections ((its_file aim).sect_at.place + 1) ≡ Some w'))
          → ((more : List Bool)
          → far set core.file (here aim) (reading k ((good ++ true ∷ []) ++ more))
          ≡ cond eof Finished (awaiting (sect + 1) 0))
          → Next aim true (at_end core form eof)
      ended true form form_is at_end' begun s_is next_is last next far_end =
          let closed : begun_behind false (before set core.file Finished) ≡ false =
          whole_begun set core.file sect w l (its_file aim) in
          let same : before set core.file Finished ≡ before set core.file (awaiting sect
          (length w.blocks)) = before_end set core.file sect w (its_file aim) (last refl) in
          let not_begun : core.begun ≡ false = begun
          ∙ (ap (λ z. begun_behind false z) (sym same) ∙ closed) in
          either aim true core.begun _ _ (λ b. absurd (let q = sym not_begun ∙ b in cc))
          (λ _. record {
            fits = record {
              of_set = at.of_set;
              sound = refl;
              stands = record {
                inside = is_there (its_file aim);
                span = sym closed;
                tells = known_after aim Finished refl form form_is;
              };
            };
            same = refl;
            follows = far_end;
            gives = λ en s. same ∙ ap (λ z. before set core.file z) (sym at_end');
            done = λ f. far_end;
          })
      ended false form form_is at_end' begun s_is next_is last next far_end =
          let found' : section_of set core.file (sect + 1) ≡ Some (next refl).0 =
          next_found set core.file sect w (its_file aim) (next refl).0 (next refl).1 in
          let limit : not (nat_lt (sect_of core.position) 9999) ≡ false =
          (let lt = few_sections set core.file (sect + 1) (next refl).0 l found' in
          let lt' : sect_of core.position < 9999 = omega (arith, lt, s_is) in
          grind (arith, nat_tests)) in
          let later : is_start (awaiting (sect + 1) 0) ≡ false =
          (let z : ((sect + 1) == 1) ≡ false =
          (let pos = (its_file aim).sect_at.number in grind (arith, nat_tests, pos))
          in rw z refl) in
          rw (limit, next_is)
          (record {
            fits = record {
              of_set = at.of_set;
              sound = refl;
              stands = record {
                inside = ((next refl).0, found', omega arith, inl refl);
                span = begun ∙ sym (ap (λ z. begun_behind false z)
                    (before_next set core.file sect w (its_file aim)));
                tells = known_after aim (awaiting (sect + 1) 0) later form form_is;
              };
            };
            same = refl;
            follows = far_end;
            gives = λ en s. before_next set core.file sect w (its_file aim)
                ∙ ap (λ z. before set core.file z) (sym at_end');
            done = λ f. far_end;
          })

  -- the trailer of a skipped section
  pub passed_trailer_next : (heading : Heading) (x : Placed) → core.position ≡ here aim
      → Inside set core.file sect block part k good heading false x
      (a_label x.section.trailer ∷ map a_label x.section.trailers ++ a_mark ∷ [])
      → Next aim true (at_passed_trailer core heading (trail1_at x.section.trailer))
  passed_trailer_next heading x wait i =
      let t : Trail1 = (on_it aim x i.later i.among).lawful.trailer.0 in
      let tr : IsTrailer x t = (on_it aim x i.later i.among).lawful.trailer.1 in
      let numbers : other_numbers heading t ≡ false =
      (let a : (t.head.sequence == heading.sequence) ≡ true = eq-eqb t.head.sequence
      heading.sequence (tr.file ∙ sym i.numbers.0) in let b : (t.head.sect == heading.sect) ≡ true =
      eq-eqb t.head.sect heading.sect (tr.sect ∙ sym i.numbers.1) in rw (a, b) refl) in
      rw (trail1_again x.section.trailer t tr.label, numbers) (passed_next aim true _
      (wait, inr (x, heading, x.section.trailers, on_with aim true heading false x _ _ i refl)))
