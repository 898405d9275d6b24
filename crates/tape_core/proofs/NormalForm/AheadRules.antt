-- The rules of the reader, one after another, over a tape and its normal form.
use Rattle.std.proofs.Common.{◌≡◌, ℕ, ◌+◌, List, ◌∷◌, Bool, true, false, cond, Option}
use Rattle.std.proofs.Common.{Some, None}
use Rattle.std.proofs.Common.{Result, Ok, Err, refl, sym, ap, subst, ◌∙◌, nat_lt, not, ◌≤◌, arith}
use Rattle.std.proofs.lemmas.Bool.Decides.{nat_tests}
use Rattle.std.proofs.{Common.◌==◌}
use Rattle.std.specs.Str.{bytes_eq}
use Rattle.tape_image.specs.Tape.{TapeItem, block, bad, mark}
use Rattle.tape_label.specs.declared.{values.Kind.Kind, values.Head1.Head1, values.Head2.Head2}
use Rattle.tape_label.specs.declared.{values.Trail1.Trail1, label.LabelFault.LabelFault}
use Rattle.tape_label.specs.declared.values.Kind.TheVariants as kinds
use Rattle.tape_label.specs.{Kinds.kind_at, VolumeLabels.is_volume_label}
use Rattle.tape_label.specs.Reading.{head1_at, head2_at, trail1_at}
use Rattle.tape_label.proofs.{First.head1_found, First.trail1_found, Apart.kind_again}
use Rattle.tape_core.proofs.NormalForm.{Same.first_trailer, Same.ok_no_dummy, KindKept.kind_mended}
use Rattle.tape_core.proofs.NormalForm.Numbers.{headed_ok, trailed_ok, uncounted_is, counted_read}
use Rattle.tape_core.proofs.NormalForm.{Numbers.trailed_counted, Enough.less_is, Enough.less_no}
use Rattle.tape_core.proofs.{Labels.code_vol1}
use Rattle.tape_set.specs.declared.position.Position.{Position}
use Rattle.tape_set.specs.declared.position.Position.TheVariants.{Awaits, Finished}
use Rattle.tape_set.specs.Position.{next_block, next_section, block_of, sect_of, part_of}
use Rattle.tape_set.specs.Lawful.{most_blocks, label_count}
use Rattle.tape_blocks.specs.{declared.check.BlockFault.BlockFault, Judged.judged}
use Rattle.tape_core.specs.Parts.{begun_before, other_front}
use Rattle.tape_core.specs.Labels.{form_at, other_shape}
use Rattle.tape_core.specs.Table.{other_numbers, broken, moved_to}
use Rattle.tape_core.specs.Labels.{heading_of, other_file_id}
use Rattle.tape_core.specs.declared.event.Reason.TheVariants as reasons
use Rattle.tape_set.specs.Lawful.{FileForm}
use Rattle.tape_core.specs.declared.event.{Phase.Phase, Heading.Heading}
use Rattle.tape_core.specs.declared.event.Answer.TheVariants.{SectionDone}
use Rattle.tape_core.specs.declared.event.Answer.TheVariants.{Complete}
use Rattle.tape_core.specs.declared.event.Phase.TheVariants as phases
use Rattle.tape_core.specs.{State.State, Known.is_finished}
use Rattle.tape_core.specs.Table.{Outcome, step_of, unless_complete, at_item}
use Rattle.tape_core.specs.Table.{first_label, first_labels, at_head1, at_head2, second_label}
use Rattle.tape_core.specs.Table.{at_awaited, at_judged, delivered as delivered', passed}
use Rattle.tape_core.specs.Table.{at_passed_trailer, at_wanted_trailer, at_end, in_phase, useless}
use Rattle.tape_core.specs.declared.normal.code.Code.TheVariants.{Ascii}
use Rattle.tape_core.specs.declared.normal.machine.TapePlace.{TapePlace}
use Rattle.tape_core.specs.declared.normal.machine.TapePlace.TheVariants as places
use Rattle.tape_core.specs.NormalForm.Mended.{mended, seen_as, counted, uncounted, told, no_file}
use Rattle.tape_core.specs.NormalForm.Mended.{is_uncounted, without_count, count_at_or, one_more}
use Rattle.tape_core.specs.declared.normal.numbers.FileSeen.{FileSeen}
use Rattle.tape_core.specs.NormalForm.{Steps.from}
use Rattle.tape_core.proofs.NormalForm.AheadFacts.{Fits, Stands, Fact, Counts}
use Rattle.tape_core.proofs.NormalForm.AheadFacts.{ends, kept, changed}

-- ---- the rules of the reader, one after another

pub at_other : (pos : Position) (core : State) (other : Outcome) → is_finished pos ≡ false
    → unless_complete core pos other ≡ other
at_other Finished core other w = absurd (cc)
at_other (Awaits s b p) core other w = refl

pub step_is : (core : State) (p : Phase) → is_finished core.position ≡ false → core.phase ≡ p
    → (x : TapeItem) → step_of core (Some x) ≡ at_item core p x
step_is core p w e x =
    at_other core.position core (at_item core core.phase x) w ∙ ap (λ v. at_item core v x) e

pub next_waits : (p : Position) → is_finished p ≡ false → is_finished (next_block p) ≡ false
next_waits Finished w = absurd (cc)
next_waits (Awaits s b p) w = refl

pub next_block_least : (p : Position) → is_finished p ≡ false → block_of p + 1 ≤ block_of (next_block p)
next_block_least Finished w = absurd (cc)
next_block_least (Awaits s b p) w = omega arith

-- one block more
one_read : (n : ℕ) (seen : FileSeen) → Counts n seen → Counts (n + 1) (counted seen)
one_read n seen c = go seen.blocks refl
  where
    more : (m k : ℕ) (t : Bool) → m ≡ n
        → cond t (Some (m + 1)) None ≡ Some k → k ≡ n + 1
    more m k true e f = let g : m + 1 ≡ k = cc f in omega (arith, e, g)
    more m k false e f = absurd (cc f)

    go : (o : Option ℕ) → seen.blocks ≡ o → (k : ℕ) → one_more o ≡ Some k → k ≡ n + 1
    go None e k f = absurd (cc f)
    go (Some m) e k f = more m k (nat_lt m 4294967295) (c m e) f

module _ (core : State) (w : is_finished core.position ≡ false) where
  pub stays : (next : TapePlace) (p : Phase) → Fits core.position p next
      → Stands next (in_phase core p)
  stays next p h = record { waits = w; fits = h }

  pub pick : (place : TapePlace) (x : TapeItem) (t : Bool) (a b : Outcome) → Fact core place x a
      → Fact core place x b → Fact core place x (cond t a b)
  pick place x true a b f g = f
  pick place x false a b f g = g

  -- the same, where the test may be used
  pub pick_by : (place : TapePlace) (x : TapeItem) (t : Bool) (a b : Outcome)
      → (t ≡ true → Fact core place x a) → (t ≡ false → Fact core place x b)
      → Fact core place x (cond t a b)
  pick_by place x true a b f g = f refl
  pick_by place x false a b f g = g refl

  pub volume : (n : ℕ) (b : List ℕ) (k : Option Kind) → kind_at b ≡ k
      → Fact core (places.Start n) (block b) (first_label core k)
  volume n b (Some kinds.Vol1) e =
      kept (places.Labels Ascii 0) (λ xs. rw (code_vol1 b e, e) refl)
      (λ g. stays (places.Labels Ascii 0) phases.VolumeLabels tt)
  volume n b k e = ends tt

  pub heads : (place : TapePlace) (before : FileSeen) (b : List ℕ)
      → ((h : Head1) → head1_at b ≡ Ok h → (xs : List TapeItem)
      → from place (block b ∷ xs)
      ≡ block b ∷ from (places.Second Ascii (seen_as before false h)) xs)
      → (o : Result Head1 LabelFault) → head1_at b ≡ o
      → Fact core place (block b) (at_head1 core o)
  heads place before b keep (Err fault) e = ends tt
  heads place before b keep (Ok h) e =
      go (not (bytes_eq h.set_id core.set_id)) (nat_lt h.sequence core.file)
      (nat_lt core.file h.sequence) (nat_lt h.sect (sect_of core.position))
      (nat_lt (sect_of core.position) h.sect) (other_file_id core.known h.file_id)
    where
      none_read : Counts 0 (seen_as before false h)
      none_read m k = cc k

      go : (a c d f g i : Bool) → Fact core place (block b)
          (cond a (useless core reasons.OtherSet)
          (cond c (passed core (phases.Header2 (heading_of h) false))
          (cond d (useless core reasons.NotOnReel)
          (cond f (useless core reasons.EarlierSection)
          (cond g (useless core reasons.LaterSection)
          (cond i (useless core reasons.SectionDiffers)
          (passed core (phases.Header2 (heading_of h) true))))))))
      go true c d f g i = ends tt
      go false true d f g i =
          kept (places.Second Ascii (seen_as before false h)) (keep h e)
          (λ g. stays (places.Second Ascii (seen_as before false h))
          (phases.Header2 (heading_of h) false) none_read)
      go false false true f g i = ends tt
      go false false false true g i = ends tt
      go false false false false true i = ends tt
      go false false false false false true = ends tt
      go false false false false false false =
          kept (places.Second Ascii (seen_as before false h)) (keep h e)
          (λ g. stays (places.Second Ascii (seen_as before false h))
          (phases.Header2 (heading_of h) true) none_read)

  pub labels : (n : ℕ) (b : List ℕ) (v : Bool) → is_volume_label b ≡ v → (k : Option Kind)
      → kind_at b ≡ k
      → Fact core (places.Labels Ascii n) (block b)
      (cond v (passed core phases.VolumeLabels) (first_labels core b k))
  labels n b true e k f =
      kept (places.Labels Ascii n) (λ xs. rw (e) refl)
      (λ g. stays (places.Labels Ascii n) phases.VolumeLabels tt)
  labels n b false e (Some kinds.Hdr1) f =
      heads (places.Labels Ascii n) no_file b
      (λ h o xs. rw (e, f, headed_ok no_file b h o, ok_no_dummy b h o) refl) (head1_at b) refl
  labels n b false e k f = ends tt

  pub second : (seen : FileSeen) → Counts 0 seen → (heading : Heading) (wanted : Bool)
      (b : List ℕ) (k : Option Kind) → kind_at b ≡ k
      → core.phase ≡ phases.Header2 heading wanted
      → Fact core (places.Second Ascii seen) (block b) (second_label core heading wanted b k)
  second seen c heading false b (Some kinds.Hdr2) e p =
      changed (places.Headers Ascii seen) (block (mended b)) (λ xs. rw (e) refl) refl
      (step_is core (phases.Header2 heading false) w p (block (mended b))
      ∙ ap (λ v. second_label core heading false (mended b) v) (kind_mended b e))
      (stays (places.Headers Ascii seen) _ c)
  second seen c heading true b (Some kinds.Hdr2) e p = go (head2_at b) refl
    where
      go : (o : Result Head2 LabelFault) → head2_at b ≡ o
          → Fact core (places.Second Ascii seen) (block b) (at_head2 core heading o)
      go (Err fault) f = ends tt
      go (Ok g) f =
          pick (places.Second Ascii seen) (block b) (other_shape core.known (form_at heading g))
          (useless core reasons.SectionDiffers)
          (passed core (phases.Headers heading (Some (form_at heading g)))) (ends tt)
          (kept (places.Headers Ascii seen) (λ xs. rw (e, f) refl)
          (λ a. stays (places.Headers Ascii seen)
          (phases.Headers heading (Some (form_at heading g)))
          c))
  second seen c heading false b k e p = ends tt
  second seen c heading true b k e p = ends tt

  pub headers : (seen : FileSeen) → Counts 0 seen → (heading : Heading) (form : Option FileForm)
      (x : TapeItem)
      → Fact core (places.Headers Ascii seen) x (at_item core (phases.Headers heading form) x)
  headers seen c heading form (block b) =
      kept (places.Headers Ascii seen) (λ xs. refl) (λ g. stays (places.Headers Ascii seen) _ c)
  headers seen c heading None mark =
      kept (places.Data Ascii seen) (λ xs. refl) (λ g. stays (places.Data Ascii seen) _ tt)
  headers seen c heading (Some form) mark =
      kept (places.Data Ascii seen) (λ xs. refl)
      (λ g. stays (places.Data Ascii seen) _ (omega arith, c))
  headers seen c heading form bad = ends tt

  pub data_passed : (seen : FileSeen) (heading : Heading) (x : TapeItem)
      → Fact core (places.Data Ascii seen) x (at_item core (phases.DataPassed heading) x)
  data_passed seen heading (block b) =
      kept (places.Data Ascii (counted seen)) (λ xs. refl)
      (λ g. stays (places.Data Ascii (counted seen)) _ tt)
  data_passed seen heading bad =
      kept (places.Data Ascii (uncounted seen)) (λ xs. refl)
      (λ g. stays (places.Data Ascii (uncounted seen)) _ tt)
  data_passed seen heading mark =
      kept (places.Trailer Ascii seen) (λ xs. refl) (λ g. stays (places.Trailer Ascii seen) _ tt)

  pub data_wanted : (seen : FileSeen) (heading : Heading) (form : FileForm) (n : ℕ)
      → (n ≤ block_of core.position) × Counts n seen → (x : TapeItem)
      → Fact core (places.Data Ascii seen) x (at_item core (phases.DataWanted heading form n) x)
  data_wanted seen heading form n c (block b) =
      let fact = judged_fact (judged form.format form.rec_len form.offset
      (begun_before form (part_of core.position) core.begun b) b) in
      pick_by (places.Data Ascii seen) (block b) (nat_lt n (block_of core.position))
      (passed core (phases.DataWanted heading form (n + 1))) (at_awaited core heading form b)
      (λ k. kept (places.Data Ascii (counted seen)) (λ xs. refl)
      (λ g. stays (places.Data Ascii (counted seen)) (phases.DataWanted heading form (n + 1))
      (omega (arith, less_is n (block_of core.position) k), one_read n seen c.1)))
      (λ k. pick (places.Data Ascii seen) (block b)
      (not (nat_lt (block_of core.position) most_blocks))
      (useless core reasons.SectionDiffers)
      (at_judged core heading form b (judged form.format form.rec_len form.offset
      (begun_before form (part_of core.position) core.begun b) b)) (ends tt) (fact k))
    where
      judged_fact : (r : Result Bool BlockFault) → nat_lt n (block_of core.position) ≡ false
          → Fact core (places.Data Ascii seen) (block b) (at_judged core heading form b r)
      judged_fact (Err fault) k = ends tt
      judged_fact (Ok end) k =
          let same : n ≡ block_of core.position =
          omega (arith, c.0, less_no n (block_of core.position) k) in
          pick (places.Data Ascii seen) (block b)
          (other_front form (part_of core.position) core.begun b)
          (useless core reasons.SectionDiffers) (delivered' core heading form end) (ends tt)
          (kept (places.Data Ascii (counted seen)) (λ xs. refl)
          (λ g. record {
            waits = next_waits core.position w;
            fits = (
              next_block_least core.position w,
              subst (λ v. Counts (v + 1) (counted seen)) same (one_read n seen c.1),
            );
          }))
  data_wanted seen heading form n c bad =
      pick_by (places.Data Ascii seen) bad (nat_lt n (block_of core.position))
      (passed core (phases.DataWanted heading form (n + 1))) (useless core reasons.BadItem)
      (λ k. kept (places.Data Ascii (uncounted seen)) (λ xs. refl)
      (λ g. stays (places.Data Ascii (uncounted seen)) (phases.DataWanted heading form (n + 1))
      (omega (arith, less_is n (block_of core.position) k), λ m e. absurd (cc e))))
      (λ k. ends tt)
  data_wanted seen heading form n c mark =
      pick_by (places.Data Ascii seen) mark (nat_lt n (block_of core.position))
      (useless core reasons.SectionDiffers) (passed core (phases.TrailerWanted heading form))
      (λ k. ends tt)
      (λ k. kept (places.Trailer Ascii seen) (λ xs. refl)
      (λ g. stays (places.Trailer Ascii seen) (phases.TrailerWanted heading form)
      (λ m e. omega (arith, c.1 m e, c.0, less_no n (block_of core.position) k))))

  trailer_kept : (seen : FileSeen) (b : List ℕ) (t : Trail1) → trail1_at b ≡ Ok t
      → is_uncounted seen t.blocks ≡ false → (xs : List TapeItem)
      → from (places.Trailer Ascii seen) (block b ∷ xs)
      ≡ block b ∷ from (places.Trailers Ascii (told t.blocks seen)) xs
  trailer_kept seen b t e u xs =
      let k = (first_trailer b t.eof (trail1_found b t e).kind).0 in
      rw (k, trailed_ok seen b t e u) refl

  -- the label of a section that is passed over
  passed_fact : (seen : FileSeen) (heading : Heading) (b : List ℕ) (t : Trail1)
      → core.phase ≡ phases.TrailerPassed heading → trail1_at b ≡ Ok t
      → other_numbers heading t ≡ false → (u : Bool) → is_uncounted seen t.blocks ≡ u
      → Fact core (places.Trailer Ascii seen) (block b) (passed core phases.Trailers)
  passed_fact seen heading b t p e same false u =
      kept (places.Trailers Ascii (told t.blocks seen)) (trailer_kept seen b t e u)
      (λ g. stays (places.Trailers Ascii (told t.blocks seen)) phases.Trailers tt)
  passed_fact seen heading b t p e same true u =
      let is = uncounted_is seen t.blocks u in
      let k = (first_trailer b t.eof (trail1_found b t e).kind).0 in
      let better : List ℕ = count_at_or 55 60 (label_count is.count) b in
      let step : step_of core (Some (block better)) ≡ passed core phases.Trailers =
      step_is core (phases.TrailerPassed heading) w p (block better)
      ∙ ap (λ v. at_passed_trailer core heading v) (counted_read is.count b t e is.none)
      ∙ rw (same) refl in
      changed (places.Trailers Ascii (without_count true seen)) (block better)
      (λ xs. rw (k, trailed_counted seen b t e u is.count is.known) refl) refl step
      (stays (places.Trailers Ascii (without_count true seen)) phases.Trailers tt)

  pub trailer_passed : (seen : FileSeen) (heading : Heading)
      → core.phase ≡ phases.TrailerPassed heading → (b : List ℕ)
      (o : Result Trail1 LabelFault) → trail1_at b ≡ o
      → Fact core (places.Trailer Ascii seen) (block b) (at_passed_trailer core heading o)
  trailer_passed seen heading p b (Err fault) e = ends tt
  trailer_passed seen heading p b (Ok t) e =
      pick_by (places.Trailer Ascii seen) (block b) (other_numbers heading t)
      (useless core reasons.SectionDiffers) (passed core phases.Trailers) (λ o. ends tt)
      (λ o. passed_fact seen heading b t p e o _ refl)

  -- a count that differs from the number of blocks read ends the reading
  same_count : (seen : FileSeen) (t : Trail1) → Counts (block_of core.position) seen
      → (t.blocks == label_count (block_of core.position)) ≡ true → (u : Bool)
      → is_uncounted seen t.blocks ≡ u → is_uncounted seen t.blocks ≡ false
  same_count seen t c o false u = u
  same_count seen t c o true u =
      let is = uncounted_is seen t.blocks u in
      let n : is.count ≡ block_of core.position = c is.count is.known in
      let z : t.blocks ≡ label_count (block_of core.position) = grind (arith, nat_tests) in
      absurd (is.some (ap label_count n ∙ sym z ∙ is.none))

  pub trailer_wanted : (seen : FileSeen) → Counts (block_of core.position) seen
      → (heading : Heading) (form : FileForm) (b : List ℕ) (o : Result Trail1 LabelFault)
      → trail1_at b ≡ o
      → Fact core (places.Trailer Ascii seen) (block b) (at_wanted_trailer core heading form o)
  trailer_wanted seen c heading form b (Err fault) e = ends tt
  trailer_wanted seen c heading form b (Ok t) e =
      pick (places.Trailer Ascii seen) (block b) (other_numbers heading t)
      (useless core reasons.SectionDiffers)
      (cond (not (t.blocks == label_count (block_of core.position)))
      (broken core (reasons.BlockCount t.blocks (block_of core.position)))
      (at_end core form t.eof)) (ends tt)
      (by_count (t.blocks == label_count (block_of core.position)) refl)
    where
      end_fact : is_uncounted seen t.blocks ≡ false → (eof : Bool)
          → Fact core (places.Trailer Ascii seen) (block b) (at_end core form eof)
      end_fact u true = go core.begun
        where
          go : (v : Bool) → Fact core (places.Trailer Ascii seen) (block b)
              (cond v (useless core reasons.SpanLeft)
              (Complete, moved_to core Finished false form phases.Over))
          go true = ends tt
          go false = kept (places.Trailers Ascii (told t.blocks seen)) (trailer_kept seen b t e u)
              (λ g. absurd g)
      end_fact u false = go (not (nat_lt (sect_of core.position) 9999))
        where
          go : (v : Bool) → Fact core (places.Trailer Ascii seen) (block b)
              (cond v (useless core reasons.SectionDiffers) (
                SectionDone,
                moved_to core (next_section core.position) core.begun form phases.Over,
              ))
          go true = ends tt
          go false = kept (places.Trailers Ascii (told t.blocks seen)) (trailer_kept seen b t e u)
              (λ g. absurd g)

      by_count : (v : Bool) → (t.blocks == label_count (block_of core.position)) ≡ v
          → Fact core (places.Trailer Ascii seen) (block b) (cond (not v)
          (broken core (reasons.BlockCount t.blocks (block_of core.position)))
          (at_end core form t.eof))
      by_count false o = ends tt
      by_count true o = end_fact (same_count seen t c o _ refl) t.eof

  pub next_kept : (seen : FileSeen) (b : List ℕ) (h : Head1) → head1_at b ≡ Ok h
      → (xs : List TapeItem) → from (places.Next Ascii seen) (block b ∷ xs)
      ≡ block b ∷ from (places.Second Ascii (seen_as seen false h)) xs
  next_kept seen b h e xs =
      let k = kind_again b kinds.Hdr1 (head1_found b h e).kind in
      rw (k, headed_ok seen b h e) refl
