-- Proofs of the test cases for tapes, for the files passed to a writer, and for its refusals.
use Rattle.tape_writer.proofs.Words.{◌≡◌, ℕ, List, [], refl, sym, ap, ◌∙◌, arith, subst, inl, inr}
use Rattle.tape_writer.proofs.Words.{Some, ◌≤◌, ◌⊎◌, Writer, writing, HasRecordLength}
use Rattle.tape_image.specs.Writer.{broken}
use Rattle.tape_blocks.specs.Spans.{Joined}
use Rattle.tape_writer.specs.State.{SetState, IsWriting, Stands}
use Rattle.tape_writer.specs.Cases.{CasesOfTapes, CasesOfImages, CasesOfSets, CasesOfRefusals}
use Rattle.tape_writer.specs.{Images.TakesNoMore, Tapes.Tapes, Told.Told}
use Rattle.tape_writer.specs.declared.phase.Phase.TheVariants as phases

pub cases_of_tapes : CasesOfTapes
cases_of_tapes = record {
  takes = λ H h. h [] _ refl;
  changes = λ H h. h _ refl;
  closes = λ H h. h _ refl;
  keeps = λ H h. h _ refl;
  asked_second = λ v w asked h. h 1 w refl refl;
  none_asked = λ volumes k v e there. absurd (omega (arith, e));
  last_of_all = refl;
  second = refl;
  none_behind = refl;
  device_failed = λ old new h. h.0 refl;
  growth_refused = λ old new h. h.1 refl;
  writing_failed = λ old new h. h.0 refl;
  no_memory = λ old new h. h.1 refl;
  begin_failed = λ old new h. h refl;
  no_count_falls = λ old new h. h;
  ended_stay = λ H used volumes l. (l.held, l.size);
  lasting = λ after f f' used' l. (l.lasts [] [] refl refl, l.count);
  writer_lasts = λ old new l. l;
  has_asked = λ w h. h;
  stays_asked = λ volumes old new h. h;
}

takes_more : (w : Writer) → w.standing ≡ writing → w.size ≡ 4294867287 → TakesNoMore (Some w) → ⊥
takes_more w is size (inl not) = not is
takes_more w is size (inr full) = omega (arith, full, size)

pub cases_of_images : CasesOfImages
cases_of_images = record {
  its_spelling = λ items bytes i. (i.spells, i.sized);
  spelled_so_far = λ items w i stands.
      (i.contents, i.leads, i.whole stands, i.size ∙ i.sized);
  front_behind = λ items w i. (i.front.0, i.front.1, i.front.3, i.front.2);
  not_ended = λ items w i ended. i.open_at ended;
  none_without_image = λ v h. h;
  no_image_besides = λ b h. h;
  in_order = λ v u b c h. (h.0, h.1.0);
  handed = λ given volumes h. (h.held, h.spelled);
  all_handed = λ w v h. absurd (let e = h.0 in cc e);
  none_lent = λ v h. absurd (let e = h.1.held in cc e);
  one_lent = λ w v items h. absurd (let e = h.1.held in cc e);
  under_way_so_far = λ w v items h. h.0;
  under_way_is_here = λ v items h. h.0;
  takes_more = takes_more;
  has_failed = λ w is. inl (λ e. (let f : broken ≡ writing = sym is ∙ e in cc));
  is_full = λ w full. inr (omega (arith, full));
  stopped = λ left image h. h;
  of_the_writer = λ t v h. (h.0, h.1.held);
}

pub cases_of_sets : CasesOfSets
cases_of_sets = record {
  opened = λ id head shape. (refl, refl, refl, refl);
  put_last = λ t u r. refl;
  none_left_out = λ capacity t h. h;
  none_besides = λ capacity f h. h;
  in_order = λ capacity t u f g h. (h.0, h.1.0);
  its_records = λ capacity t f h. (
    ap (λ (j : Joined). j.records) h.joins,
    ap (λ (j : Joined). j.rest) h.joins,
    h.tight,
  );
  its_labels = λ file x o. (o.hdr1, o.hdr2, o.headers, o.trailer, o.trailers);
  written_is = λ H volumes capacity set_id told w.
      (w.lawful, w.tight, w.held, w.within, w.of_set, w.of_volumes, w.files);
  end_word_counts = λ capacity h. omega (arith, h);
}

failed_tells_nothing : (tapes : Tapes) (w : SetState ℕ) (told : List Told)
    → w.phase ≡ phases.Failed → IsWriting (λ t. t ≡ tapes) w told → ⊥
failed_tells_nothing tapes w told failed told_so = subst
    (λ phase. Stands (λ t. t ≡ tapes) w.volumes w.capacity w.set_id w.course phase told) failed
    told_so.stands

-- 99 is a small letter
is_small : ((65 ≤ 99) × (99 ≤ 90)) ⊎ ((48 ≤ 99) × (99 ≤ 57)) → ⊥
is_small (inl h) = absurd (omega (arith, h.1))
is_small (inr h) = absurd (omega (arith, h.1))

pub cases_of_refusals : CasesOfRefusals
cases_of_refusals = record {
  same_set = λ old new h. h;
  new_field = λ id volumes h text texts. h (text, texts);
  enough_volumes = λ id v h. absurd (omega (arith, h));
  few_volumes = λ id v h. absurd (omega (arith, h));
  no_other_new = λ id volumes. (λ h. h, λ h. h, λ h. h, λ h. h);
  begin_field = λ capacity n head shape h text. h text;
  begin_shape = λ capacity n head shape h writable. h writable;
  begin_capacity = λ n head shape h. absurd (omega (arith, h));
  begin_many = λ capacity head shape h. absurd (omega (arith, h));
  no_other_begin = λ capacity n head shape. (λ h. h, λ h. h, λ h. h);
  put_length = λ o bytes h has. h has;
  no_other_put = (λ h. h, λ h. h, λ h. h, λ h. h, λ h. h);
  some_file = λ h. absurd (omega (arith, h));
  no_other_end = (λ h. h, λ h. h, λ h. h);
  ends_for_good = λ old new. (λ h. h, λ h. h, λ h. h);
  else_the_same = λ old new. (λ h. h, λ h. h, λ h. h);
  does_not_end = (λ h. h, λ h. h);
  refuses = λ old new result h. h;
  of_the_open = λ o u h. h;
  of_no_other = tt;
  has_length = λ o fixed h. subst (λ f. HasRecordLength f o.file.shape.rec_len 0) fixed h;
  a_text = refl;
  no_text = λ h. absurd (cc h);
  three = λ h. absurd (omega (arith, h.0));
  no_small = λ h. is_small h.1.1.1.0;
  a_prefix = (
    refl,
    (
      inl (omega arith, omega arith),
      (inr (omega arith, omega arith), (inl (omega arith, omega arith), tt)),
    ),
  );
  keeps_files = λ tapes w told h. h.kept;
  failed_tells_nothing = failed_tells_nothing;
  none_under_way = λ file. (λ h. h, λ h. h, λ h. h);
  out_of_volumes = λ H w told o. (o.is_told, o.filed, o.stuck);
  stuck = λ H volumes capacity set_id file course fs records s.
      (s.none_left, s.due, s.files, s.of_records);
  comes_next = λ shape records blocks next c.
      (c.joins, c.most, c.ends, c.each, c.chain, c.full);
}
