-- The expected block preserves the relation between the state and the reading.
use Rattle.std.proofs.Common.{◌≡◌, ◌<◌, ◌⊎◌, ℕ, ◌+◌, List, [], ◌∷◌, ◌++◌, length, take, drop, Bool}
use Rattle.std.proofs.Common.{true, false, Some, refl, sym, ap, ◌∙◌, subst, inl, inr, append_assoc}
use Rattle.std.proofs.Common.{arith, length-append, slice_get, ◌==◌, nat_lt}
use Rattle.std.proofs.lemmas.{Bool.Decides.nat_tests, List.take-append-drop}
use Rattle.std.specs.List.{AllByRecursion}
use Rattle.tape_blocks.specs.Block.{Portion, Holds}
use Rattle.tape_blocks.specs.{Judged.begun_behind, Spans.InOrder, Tight.Filled}
use Rattle.tape_set.specs.declared.position.Position.TheVariants.{Awaits}
use Rattle.tape_set.specs.Position.{awaiting, next_block, block_of, part_of, is_start}
use Rattle.tape_set.specs.Layout.{Placed, a_data_block, item_of, data_group, trailer_group}
use Rattle.tape_set.specs.{Before.before, Before.parts_of, Before.parts_at, Lawful.FileForm}
use Rattle.tape_set.specs.{Lawful.TellsForm, Lawful.most_blocks, Reach.stopped, Reach.good_run}
use Rattle.tape_set.proofs.{Everywhere.every_rest, Forms.one_form, Forms.blocks_held}
use Rattle.tape_set.proofs.FileParts.{before_taken, before_more, block_in_order}
use Rattle.tape_set.proofs.FileParts.{begun_behind-append, order_rest}
use Rattle.tape_core.specs.declared.event.Heading.{Heading}
use Rattle.tape_core.specs.{Table.at_awaited, Follows.FileTells, Follows.Inside, Follows.InData}
use Rattle.tape_core.proofs.AwaitedSection.{wanted_at, its_file, told, file_tells, known_after}
use Rattle.tape_core.proofs.{BlockLaws.checked, BlockLaws.same_front, StateLaws.later_start}
use Rattle.tape_core.proofs.{Files.get_behind, HeaderSteps.Next, Fronts.first_left, Fronts.here}
use Rattle.tape_core.proofs.{Aim.Aim, Lists.full_next, Lists.stopped_later, Lists.stopped_here}
use Rattle.tape_core.proofs.AwaitedSection.{on_it, on_with, reached_more}

module _ (aim : Aim) where
  open aim use {set, l, core, at, sect, block, part, k, w, found, inside, within, good}

  -- the part expected in the current block: the starting part if reading started in this block,
  -- otherwise the first
  part_now : (count : ℕ) → core.position ≡ stopped (here aim) sect block count → (d : Filled)
      → slice_get w.blocks count ≡ Some d
      → core.position ≡ Awaits sect count (part_of core.position) × ((part_of core.position ≡ 0)
      ⊎ (part_of core.position < length d.parts))
  part_now count is d at_d = go (count == block) refl
    where
      go : (t : Bool) → (count == block) ≡ t
          → core.position ≡ Awaits sect count (part_of core.position) × ((part_of core.position ≡ 0)
          ⊎ (part_of core.position < length d.parts))
      go true e =
          let same : count ≡ block = grind (arith, nat_tests) in
          let now : core.position ≡ here aim =
          is ∙ (ap (λ z. stopped (here aim) sect block z) same
          ∙ stopped_here (here aim) sect block) in
          let its : part_of core.position ≡ part = ap part_of now in
          let parts : parts_at w.blocks block ≡ d.parts =
          ap (λ z. parts_at w.blocks z) (sym same) ∙ ap parts_of at_d in (
            now ∙ (ap (λ z. Awaits sect z part) (sym same)
                ∙ ap (λ z. Awaits sect count z) (sym its)),
            elim within [
              | inl n ↦ inl (its ∙ n)
              | inr n ↦ inr (subst (λ z. z < length d.parts)
                  (sym its) (subst (λ z. part < length z) parts n))
            ],
          )
      go false e =
          let now : core.position ≡ awaiting sect count = is ∙ rw e refl in
          let its : part_of core.position ≡ 0 = ap part_of now in
          (now ∙ ap (λ z. Awaits sect count z) (sym its), inl its)

  -- the expected block comes
  pub data_awaited : (heading : Heading) (form : FileForm) (count : ℕ)
      (x : Placed) (d : Filled) (rest : List Filled)
      (i : InData set core.file sect block part k good heading form count core.position x)
      → i.blocks ≡ d ∷ rest → block + good_run (drop block i.seen) ≡ count
      → Next aim true (at_awaited core heading form d.bytes)
  data_awaited heading form count x d rest i e full =
      let at_it = wanted_at aim i.inside in
      let split : i.past ++ d ∷ rest ≡ w.blocks =
      ap (λ z. i.past ++ z) (sym e) ∙ (i.split ∙ ap (λ z. z.blocks) at_it.same) in
      let tells : TellsForm form w = subst (λ z. TellsForm form z) at_it.same i.labels in
      let form_is : form ≡ (told aim).0 = one_form w form (told aim).0 tells (told aim).1 in
      let at_count : core.position ≡ stopped (here aim) sect block count =
      i.awaited ∙ ap (λ z. stopped (here aim) sect block z) full in
      let at_d : slice_get w.blocks count ≡ Some d =
      subst (λ z. slice_get z count ≡ Some d) split (get_behind i.past rest d count i.numbered) in
      let part_is = part_now count at_count d at_d in
      let now : core.position ≡ Awaits sect count (part_of core.position) = part_is.0 in
      let front : List Portion = before set core.file (awaiting sect count) in
      let held : Holds form.format form.rec_len form.offset d.bytes d.parts =
      (every_rest _ i.past (d ∷ rest) (subst
      (λ z. AllByRecursion (λ b. Holds form.format form.rec_len form.offset b.bytes b.parts) z)
      (sym split) (blocks_held set core.file l sect w form found tells))).0 in
      let order : InOrder (begun_behind false front) d.parts
      (begun_behind false (before set core.file (awaiting sect (count + 1)))) =
      block_in_order set core.file sect w (its_file aim) l i.past rest d count split i.numbered in
      let so_far : before set core.file core.position
      ≡ front ++ take (part_of core.position) d.parts = ap (λ z. before set core.file z) now
      ∙ before_taken set core.file sect w (its_file aim) count (part_of core.position) d at_d in
      let begun_now : core.begun
      ≡ begun_behind (begun_behind false front) (take (part_of core.position) d.parts) =
      at.stands.span ∙ (ap (λ z. begun_behind false z) so_far
      ∙ begun_behind-append false front (take (part_of core.position) d.parts)) in
      let lengths : length i.past + length (d ∷ rest) ≡ length w.blocks =
      sym (length-append i.past (d ∷ rest)) ∙ ap length split in
      let count_is : block_of core.position ≡ count = ap block_of now in
      let next_is : next_block core.position ≡ awaiting sect (count + 1) = ap next_block now in
      let some_more : nat_lt (block_of core.position) most_blocks ≡ true =
      (let few = (on_it aim x i.inside.later i.inside.among).lawful.few in
      let n : length x.section.blocks ≡ length w.blocks = ap (λ z. length z.blocks) at_it.same in
      let lt : block_of core.position < most_blocks =
      omega (arith, lengths, i.numbered, count_is, few, n) in grind (arith, nat_tests)) in
      let inside' : Inside set core.file sect block part k good heading true x
      (a_data_block d.bytes ∷ data_group rest ++ trailer_group x.section) =
      subst (λ z. Inside set core.file sect block part k good heading true x
      (data_group z ++ trailer_group x.section)) e i.inside in
      let not_first : is_start (awaiting sect (count + 1)) ≡ false = later_start sect count in
      let next : block + good_run (drop block (i.seen ++ true ∷ [])) ≡ count + 1 =
      full_next block i.seen (full ∙ sym i.all_seen) ∙ ap (λ z. z + 1) i.all_seen in
      let later : block < count + 1 = omega (arith, full) in
      let new_count : block_of core.position + 1 ≡ count + 1 = ap (λ z. z + 1) count_is in
      let parts_next : before set core.file (awaiting sect (count + 1))
      ≡ before set core.file core.position ++ drop (part_of core.position) d.parts =
      before_more set core.file sect w (its_file aim) i.past rest d count split i.numbered
      ∙ (ap (λ z. front ++ z) (sym (take-append-drop (part_of core.position) d.parts))
      ∙ (sym (append_assoc front (take (part_of core.position) d.parts)
      (drop (part_of core.position) d.parts))
      ∙ ap (λ z. z ++ drop (part_of core.position) d.parts) (sym so_far))) in
      let end : Bool = begun_behind false (before set core.file (awaiting sect (count + 1))) in
      let parts_order : InOrder core.begun (drop (part_of core.position) d.parts) end =
      subst (λ z. InOrder z (drop (part_of core.position) d.parts) end) (sym begun_now)
      (order_rest (begun_behind false front) end (take (part_of core.position) d.parts)
      (drop (part_of core.position) d.parts) (subst (λ z. InOrder (begun_behind false front) z end)
      (sym (take-append-drop (part_of core.position) d.parts)) order)) in
      rw (
        some_more,
        checked form d.bytes d.parts (begun_behind false front) core.begun end
            (part_of core.position) held order part_is.1 begun_now,
        same_front form d.bytes d.parts (begun_behind false front) core.begun end
            (part_of core.position) held order part_is.1 begun_now,
        next_is,
        new_count,
      )
      (record {
        fits = record {
          of_set = at.of_set;
          sound = refl;
          stands = record {
            inside = (w, found, omega (arith, lengths, i.numbered), inl refl);
            span = refl;
            tells = known_after aim (awaiting sect (count + 1)) not_first form form_is;
          };
        };
        same = refl;
        follows = (
          x,
          record {
            seen = i.seen ++ true ∷ [];
            past = i.past ++ d ∷ [];
            blocks = rest;
            split = append_assoc i.past (d ∷ []) rest ∙ (ap (λ z. i.past ++ z) (sym e) ∙ i.split);
            numbered = simp length-append (omega (arith, i.numbered));
            all_seen = simp length-append (omega (arith, i.all_seen));
            labels = i.labels;
            inside = on_with aim true heading true x (a_data_block d.bytes) _ inside' refl;
            reached = reached_more aim x.section true i.seen i.reached;
            awaited = sym (ap (λ z. stopped (here aim) sect block z) next
                ∙ stopped_later (here aim) sect block (count + 1) later);
            not_behind = omega (arith, next);
          },
        );
        gives = λ en s. record {
          sect = sect;
          place = count;
          part = part_of core.position;
          section = w;
          filled = d;
          form = form;
          awaited = now;
          found = found;
          its = at_d;
          is_block =
              ap item_of (sym (first_left set k good en (a_data_block d.bytes) _ inside'.left s));
          is_known = refl;
          tells = subst (λ z. FileTells set core.file z) (sym form_is) (file_tells aim);
          holds = held;
          order = parts_order;
          behind = refl;
          next = parts_next;
        };
        done = λ f. absurd f;
      })
