-- At the labels before a section's data, each item preserves the relation between the state and the
-- reading.
use Rattle.std.proofs.Common.{◌≡◌, ◌≢◌, ◌≤◌, ◌⊎◌, ◌+◌, List, [], ◌∷◌, ◌++◌, length, drop, Bool}
use Rattle.std.proofs.Common.{true, false, cond, Option, Some, None, Ok, refl, sym, ap, ◌∙◌, subst}
use Rattle.std.proofs.Common.{inl, inr, append_assoc, arith, slice_get, map, not, is_some, nat_lt}
use Rattle.std.proofs.lemmas.Bool.Decides.{nat_tests}
use Rattle.std.proofs.lemmas.List.{drop_all, append_cancel_right}
use Rattle.std.specs.Str.{bytes_eq}
use Rattle.tape_image.specs.Tape.{bad}
use Rattle.tape_label.specs.declared.values.Kind.TheVariants as kinds
use Rattle.tape_label.specs.{declared.values.Head1.Head1, Kinds.kind_at, Head1.IsHead1}
use Rattle.tape_label.specs.Reading.{head1_at}
use Rattle.tape_label.proofs.{Apart.kind_again, First.head1_again, Second.head2_again}
use Rattle.tape_set.specs.Layout.{Placed, Entry, a_label, a_mark, item_of, is_data, all_entries}
use Rattle.tape_set.specs.Layout.{data_group, trailer_group, entries}
use Rattle.tape_set.specs.{declared.position.Position.Position, Position.sect_of}
use Rattle.tape_set.specs.Lawful.{FileForm, IsHeader, TellsForm, form_of}
use Rattle.tape_set.specs.Reach.{passes, before_data, stopped, good_run}
use Rattle.tape_set.proofs.Forms.{head1_same}
use Rattle.tape_core.specs.Table.{Outcome, in_phase, useless, passed, at_head1, data_phase}
use Rattle.tape_core.specs.Follows.{IsAt, to_come, Left, Among, Tells, Inside, Follows, IsFinal}
use Rattle.tape_core.specs.{Table.second_label, Follows.Gives, declared.event.Reason.Reason}
use Rattle.tape_core.specs.{declared.event.Heading.Heading, declared.event.Phase.Phase}
use Rattle.tape_core.specs.{declared.event.Phase.TheVariants.Over, State.is_broken}
use Rattle.tape_core.specs.Labels.{heading_of, form_at, other_file_id, other_shape}
use Rattle.tape_core.proofs.Fronts.{left_more, over_bad, over_elsewhere, first_is, Ahead, opened}
use Rattle.tape_core.proofs.AwaitedSection.{wanted_at, told, known_cases, on_it, tells_each}
use Rattle.tape_core.proofs.{Fronts.here, Fronts.ahead_later, Fronts.wanted_here, Aim.Aim}
use Rattle.tape_core.proofs.{AwaitedSection.on_with, Lists.stopped_here, StateLaws.follows_sound}
use Rattle.tape_core.proofs.LabelLaws.{bytes_same, same_id, no_other_shape}

module _ (aim : Aim) where
  open aim use {set, core, at, sect, block, part, k, w, inside, good}

  abbrev pub Behind : Bool → Phase → Position → Type 0
  Behind g phase position = Follows set core.file sect block part k phase position (good ++ g ∷ [])

  -- after the next item, readable or not, the relation holds again
  pub record Next (g : Bool) (out : Outcome) : Type 0 where
    pub fits : IsAt set out.1
    pub same : out.1.file ≡ core.file
    pub follows : Behind g out.1.phase out.1.position
    pub gives : (e : Entry) → slice_get (entries set k) (length good) ≡ Some e
        → Gives set (cond g (item_of e) bad) out.0 core out.1
    pub done : IsFinal out.0 → Behind g Over out.1.position

  same_at : (phase : Phase) → is_broken phase ≡ false → IsAt set (in_phase core phase)
  same_at phase n = record { of_set = at.of_set; sound = n; stands = at.stands }

  pub passed_next : (g : Bool) (phase : Phase) → Behind g phase core.position
      → Next g (passed core phase)
  passed_next g phase h = record {
    fits = same_at phase
        (follows_sound set core.file sect block part k phase core.position (good ++ g ∷ []) h);
    same = refl;
    follows = h;
    gives = λ e s. refl;
    done = λ f. absurd f;
  }

  pub useless_next : (g : Bool) (why : Reason) → Behind g Over core.position
      → Next g (useless core why)
  useless_next g why h = record {
    fits = same_at Over refl;
    same = refl;
    follows = h;
    gives = λ e s. refl;
    done = λ f. h;
  }

  pub either : (g b : Bool) (x y : Outcome) → (b ≡ true → Next g x) → (b ≡ false → Next g y)
      → Next g (cond b x y)
  either g true x y f h = f refl
  either g false x y f h = h refl

  -- a bad label or mark
  pub bad_here : (why : Reason) (e : Entry) (todo : List Entry) → core.position ≡ here aim
      → Left set k good (e ∷ todo) → is_data e ≡ false → Ahead aim (e ∷ todo)
      → Next false (useless core why)
  bad_here why e todo wait left d ahead =
      useless_next false why (λ more. over_bad aim good e todo left d ahead more ∙ sym wait)

  -- the section needed is not on this volume
  pub nothing_here : (g : Bool) (why : Reason) → core.position ≡ here aim → (w.volume ≡ k → ⊥)
      → Next g (useless core why)
  nothing_here g why wait off =
      useless_next g why (λ more. over_elsewhere aim off (good ++ g ∷ []) more ∙ sym wait)

  pub over_next : (g : Bool) (why : Reason)
      → Follows set core.file sect block part k Over core.position good → Next g (useless core why)
  over_next g why h = useless_next g why (λ more. rw append_assoc (h (g ∷ more)))

  -- between sections, at a bad item
  pub bad_between : (why : Reason) (later : List Placed) → core.position ≡ here aim
      → Among set k core.file later → Left set k good (to_come later)
      → Next false (useless core why)
  bad_between why [] wait among left =
      bad_here why a_mark [] wait left refl (ahead_later aim [] [] among)
  bad_between why (x ∷ later) wait among left =
      bad_here why _ _ wait left refl (ahead_later aim (x ∷ later) [] among)

  -- between sections, at a block
  pub head1_next : (x : Placed) (later : List Placed) → core.position ≡ here aim
      → Among set k core.file (x ∷ later) → Left set k good (to_come (x ∷ later))
      → Next true (at_head1 core (head1_at x.section.hdr1))
  head1_next x later wait among left =
      let h : Head1 = (on_it aim x later among).lawful.header.0 in
      let hd : IsHeader set.set_id x h = (on_it aim x later among).lawful.header.1 in
      let reads : head1_at x.section.hdr1 ≡ Ok h = head1_again x.section.hdr1 h hd.label in
      let s_is : sect_of core.position ≡ sect = ap sect_of wait in
      let set_is : bytes_eq h.set_id core.set_id ≡ true =
      subst (λ z. bytes_eq h.set_id z ≡ true) (hd.set_id ∙ sym at.of_set) (bytes_same h.set_id) in
      let first = first_is aim x later among in
      let off : (x.file ≢ core.file) ⊎ (x.sect ≢ sect) → core.file ≤ x.file → w.volume ≡ k → ⊥ =
      λ differs le is. elim (first is) [
        | inl e ↦ elim differs [
          | inl n ↦ n
              (ap (λ z. z.file) e)
          | inr n ↦ n (ap (λ z. z.sect) e)
        ]
        | inr lt ↦ omega arith
      ] in
      let more : Left set k
      (good ++ true ∷ []) ((a_label x.section.hdr2 ∷ map a_label x.section.headers
      ++ a_mark ∷ data_group x.section.blocks ++ trailer_group x.section) ++ to_come later) =
      left_more set k good true (a_label x.section.hdr1) _
      (subst (Left set k good) (opened (a_label x.section.hdr1) (a_label x.section.hdr2)
      (map a_label x.section.headers) (data_group x.section.blocks) (trailer_group x.section)
      (all_entries later) (a_mark ∷ [])) left) refl in
      rw reads
      (either true (not (bytes_eq h.set_id core.set_id)) _ _ (λ e. absurd (cc))
      (λ e. either true (nat_lt h.sequence core.file) _ _
      (λ lt. passed_next true _ (
        wait,
        x,
        record {
          later = later;
          among = among;
          numbers = (hd.file, hd.sect);
          chosen = grind (arith, nat_tests, hd.file);
          left = more;
        },
        h,
        hd.label,
        refl,
      ))
      (λ e1. either true (nat_lt core.file h.sequence) _ _ (λ gt. nothing_here true _ wait
      (off (inl (grind (arith, nat_tests, hd.file))) (grind (arith, nat_tests, hd.file))))
      (λ e2. let f : x.file ≡ core.file = grind (arith, nat_tests, hd.file) in
      either true (nat_lt h.sect (sect_of core.position)) _ _ (λ lt. nothing_here true _ wait
      (off (inr (grind (arith, nat_tests, hd.sect, s_is))) (omega arith)))
      (λ e3. either true (nat_lt (sect_of core.position) h.sect) _ _ (λ gt. nothing_here true _ wait
      (off (inr (grind (arith, nat_tests, hd.sect, s_is))) (omega arith)))
      (λ e4. let s : x.sect ≡ sect = grind (arith, nat_tests, hd.sect, s_is) in
      let at_it = wanted_here aim x later among f s in
      let hdr1 : IsHead1 w.hdr1 h = subst (λ z. IsHead1 z.hdr1 h) at_it.same hd.label in
      let id : (told aim).0.file_id ≡ h.file_id = ap (λ z. z.file_id) (sym (told aim).1.told)
      ∙ ap (λ z. z.file_id) (head1_same w.hdr1 (told aim).1.head h (told aim).1.hdr1 hdr1) in
      either true (other_file_id core.known h.file_id) _ _
      (λ d. absurd (let q = sym (same_id core.known (told aim).0 h.file_id (known_cases aim) id)
      ∙ d in cc))
      (λ e5. passed_next true _ (
        wait,
        x,
        record {
          later = later;
          among = among;
          numbers = (hd.file, hd.sect);
          chosen = (f, s);
          left = more;
        },
        h,
        hd.label,
        refl,
      ))))))))

  -- HDR2
  pub head2_next : (heading : Heading) (wanted : Bool) (x : Placed) → core.position ≡ here aim
      → Inside set core.file sect block part k good heading wanted x
      (a_label x.section.hdr2 ∷ map a_label x.section.headers
      ++ a_mark ∷ data_group x.section.blocks ++ trailer_group x.section)
      → (h : Head1) → IsHead1 x.section.hdr1 h → heading ≡ heading_of h
      → Next true (second_label core heading wanted x.section.hdr2 (kind_at x.section.hdr2))
  head2_next heading false x wait i h e q =
      let form = tells_each aim x i.later i.among in
      rw (kind_again x.section.hdr2 kinds.Hdr2 form.1.hdr2.kind)
      (passed_next true _
      (wait, x, x.section.headers, tt, on_with aim true heading false x _ _ i refl))
  head2_next heading true x wait i h e q =
      let at_it = wanted_at aim i in
      let form : TellsForm (told aim).0 x.section =
      subst (λ z. TellsForm (told aim).0 z) (sym at_it.same) (told aim).1 in
      let heads : form.head ≡ h = head1_same x.section.hdr1 form.head h form.hdr1 e in
      let same : form_at heading form.second ≡ (told aim).0 = ap (λ z. form_at z form.second) q
      ∙ (ap (λ z. form_of z form.second) (sym heads) ∙ form.told) in
      rw (
        kind_again x.section.hdr2 kinds.Hdr2 form.hdr2.kind,
        head2_again x.section.hdr2 kinds.Hdr2 form.second form.hdr2,
      )
      (either true (other_shape core.known (form_at heading form.second)) _ _
      (λ d. absurd (let n = sym (no_other_shape core.known (told aim).0 (known_cases aim))
      ∙ (ap (λ z. other_shape core.known z) (sym same) ∙ d) in cc))
      (λ e5. passed_next true _ (
        wait,
        x,
        x.section.headers,
        subst (λ z. TellsForm z x.section) (sym same) form,
        on_with aim true heading true x _ _ i refl,
      )))

  -- the mark after the headers
  pub headers_end : (heading : Heading) (form : Option FileForm) (x : Placed)
      → core.position ≡ here aim → Tells form x.section
      → Inside set core.file sect block part k good heading (is_some form) x
      (a_mark ∷ data_group x.section.blocks ++ trailer_group x.section)
      → Next true (passed core (data_phase heading form))
  headers_end heading None x wait kn i = passed_next true _
      (wait, inr (x, x.section.blocks, on_with aim true heading false x a_mark _ i refl))
  headers_end heading (Some form) x wait kn i =
      let at_it = wanted_at aim i in
      let done : Left set k (good ++ true ∷ [])
      ((data_group x.section.blocks ++ trailer_group x.section) ++ to_come i.later) =
      left_more set k good true a_mark _ i.left refl in
      let same : done.done ≡ before_data set core.file sect w =
      append_cancel_right done.done (before_data set core.file sect w)
      ((data_group w.blocks ++ trailer_group w) ++ to_come i.later)
      (ap (λ z. done.done ++ ((data_group z.blocks ++ trailer_group z) ++ to_come i.later))
      (sym at_it.same) ∙ (done.whole ∙ sym at_it.whole)) in
      let fine : passes (good ++ true ∷ []) (before_data set core.file sect x.section) ≡ true =
      rw (at_it.same, ← same) done.fine in
      let empty : drop (length (before_data set core.file sect x.section)) (good ++ true ∷ [])
      ≡ [] = rw (at_it.same, ← same)
      (drop_all (length done.done) (good ++ true ∷ []) (omega (arith, done.count))) in
      let nought : drop block (let n : List Bool = [] in n) ≡ [] =
      drop_all block [] (omega arith) in
      let none : block + good_run (drop block []) ≡ block = rw nought (omega arith) in
      passed_next true _ (
        x,
        record {
          seen = [];
          past = [];
          blocks = x.section.blocks;
          split = refl;
          numbered = refl;
          all_seen = refl;
          labels = kn;
          inside = record {
            later = i.later;
            among = i.among;
            numbers = i.numbers;
            chosen = i.chosen;
            left = done;
          };
          reached = record { fine = fine; rest = empty };
          awaited = wait ∙ (sym (stopped_here (here aim) sect block)
              ∙ ap (λ z. stopped (here aim) sect block z) (sym none));
          not_behind = omega arith;
        },
      )
