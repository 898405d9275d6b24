-- Proofs of the test cases for sets that are being written.
use Rattle.tape_writer.proofs.Words.{◌≡◌, ◌≤◌, ℕ, ◌+◌, List, [], ◌∷◌, refl, sym, arith, inl, inr}
use Rattle.tape_writer.proofs.Words.{false, block, Vol1, Placed, Volume, items_size}
use Rattle.tape_blocks.specs.Packing.{the_packing}
use Rattle.tape_blocks.proofs.RunLaws.{run_begins}
use Rattle.tape_writer.specs.declared.{course.Opened.Opened, course.Course.Course}
use Rattle.tape_writer.specs.CasesOfDrafts.{CasesOfDrafts, CasesOfInside, nothing_yet, as_placed}
use Rattle.tape_writer.specs.CasesOfDrafts.{CasesOfPositions, CasesInside}
use Rattle.tape_writer.specs.Draft.{OfLast, IsDone, Steady, IsOpen, IsResting}
use Rattle.tape_writer.specs.Inside.{IsBetween, IsFiling, IsFlat, IsWaiting}
use Rattle.tape_writer.specs.{CasesOfDrafts.first_course, CasesOfDrafts.first_items, Labels.IsReady}
use Rattle.tape_writer.specs.{Labels.volume_label, Told.Told, Told.labelled, Tapes.Tapes}
use Rattle.tape_writer.specs.{Tapes.Ended, Tapes.UnderWay}

of_none : (P : List Placed → Placed → Type 0) → OfLast [] P
of_none P [] x e = absurd (cc e)
of_none P (y ∷ ys) x e = absurd (cc e)

done_none : (volumes : List Volume) (capacity : ℕ) (id : List ℕ) (n : ℕ)
    → IsDone volumes capacity id n []
done_none volumes capacity id n =
    record { each = tt; first = tt; chain = tt; ends = tt; changes = tt }

resting_first : (v : Vol1) (capacity : ℕ) (id : List ℕ) (used : ℕ)
    → used ≡ items_size (block (volume_label v) ∷ []) → used + 372 ≤ capacity
    → IsResting (λ t. t ≡ UnderWay [] (block (volume_label v) ∷ [])) (v ∷ []) capacity id
    (record { volume = 1; sect = 0; count = 0; used = used }) nothing_yet
resting_first v capacity id used size room = record {
  between = record {
    no_sects = refl;
    no_blocks = refl;
    volume = refl;
    few = omega arith;
    done = done_none (labelled v ∷ []) capacity id 1;
    last = of_none _;
    fresh = λ e. refl;
    within = tt;
    used = size;
    room = room;
  };
  held = refl;
}

-- the first file, on the first volume
module _ (v : Vol1) (capacity : ℕ) (file : Opened) (used : ℕ) (ready : IsReady file)
    (number : file.head.sequence ≡ 1) (size : used ≡ items_size (first_items v file))
    (room : used + 192 ≤ capacity) where
  steady_first :
      Steady (labelled v ∷ []) capacity file.head.set_id file (first_course used) nothing_yet
  steady_first = record {
    inside = record {
      ready = ready;
      of_set = refl;
      sequence = number;
      volume = refl;
      few = omega arith;
      sect = refl;
      sect_most = omega arith;
      count = refl;
      count_most = omega arith;
      sized = tt;
      done = done_none (labelled v ∷ []) capacity file.head.set_id 1;
      goes = of_none _;
      fresh = λ e. refl;
      change = of_none _;
      going = tt;
      within = tt;
      used = size;
      room = room;
    };
    begins = λ e. of_none _;
  }

  open_first : IsOpen (λ t. t ≡ UnderWay [] (first_items v file)) (v ∷ []) capacity
      file.head.set_id file (first_course used) nothing_yet
  open_first = record { steady = steady_first; held = refl }

  begun_first : IsFiling (λ t. t ≡ UnderWay [] (first_items v file)) (v ∷ []) capacity
      file.head.set_id file (first_course used) (the_packing file.shape [] false false) [] []
  begun_first = record {
    files = [];
    filed = tt;
    inside = record {
      draft = nothing_yet;
      is_open = open_first;
      files = refl;
      shape = refl;
      ended = refl;
      run = λ n. run_begins (the_packing file.shape [] false false) n refl refl refl;
      lengths = tt;
    };
  }

  flat_first : IsFlat (λ t. t ≡ UnderWay [] (first_items v file)) (v ∷ []) capacity
      file.head.set_id file (first_course used) [] []
  flat_first = record {
    draft = nothing_yet;
    is_open = open_first;
    files = refl;
    tight = record { joins = refl; order = refl; each = tt; closed = tt };
    lengths = tt;
  }

positions : (volumes : List Volume) (capacity : ℕ) (id : List ℕ) (file : Opened) (course : Course)
    → CasesOfPositions volumes capacity id file course
positions volumes capacity id file course = record {
  done = λ n x y d.
      (d.each.0, d.each.1.0, d.first, d.chain.0, d.ends.0, d.ends.1.0, d.changes.0);
  between_files = λ u v b. (
    b.volume,
    b.few,
    b.done,
    (b.last (as_placed 1 1 u ∷ []) (as_placed 2 1 v) refl).1,
    b.within,
    b.used,
    b.room,
  );
  none_open = λ d b. (b.no_sects, b.no_blocks);
  none_empty = λ u past b.
      let last : 1 ≡ 2 = (b.last [] (as_placed 1 1 u) refl).0 in omega (arith, last);
  none_ended = λ past b. b.fresh refl;
  inside_file = λ next u v s b w. (
    w.sequence,
    w.volume,
    w.sect,
    w.count,
    w.of_set,
    w.ready,
    w.few,
    w.sect_most,
    w.count_most,
    w.sized.0,
  );
  behind_sections = λ next u v s b w.
      let before = as_placed 1 1 u ∷ as_placed 2 1 v ∷ [] in (
        w.done,
        w.goes before (as_placed 3 1 s) refl,
        w.change before (as_placed 3 1 s) refl,
        w.going.0.0,
        w.going.0.1,
      );
  inside_room = λ next d w. (w.within, w.used, w.room);
  none_ended_inside = λ next blocks past w. w.fresh refl;
  some_block = λ u v s k. k.begins refl (as_placed 1 1 u ∷ as_placed 2 1 v ∷ [])
      (as_placed 3 1 s) refl (sym k.inside.sequence);
  begins_with = λ d k. k.inside;
}

pub cases_of_drafts : CasesOfDrafts
cases_of_drafts = record {
  in_their_order = λ u v s blocks. refl;
  blocks_of_file = λ other file a b c d e. refl;
  volumes_ended = λ v w x other file a b c d e. refl;
  volume_open = λ v w x other file course a b c d e. refl;
  volume_resting = λ v file a. refl;
  section_here = λ file course blocks. (refl, refl, refl, refl);
  of_last = λ x y z xs h. h (x ∷ []) y refl;
  positions = positions;
  roomy = λ capacity volumes course r. (r.room, r.count, r.some, r.sect, r.volume);
  resting_first = resting_first;
}

waiting_first : (tapes : Tapes) (volumes : List Vol1) (capacity : ℕ) (id : List ℕ)
    (course : Course) → IsWaiting (λ t. t ≡ tapes) volumes capacity id course []
    → (course.volume ≡ 0) × (Ended [] ≡ tapes)
waiting_first tapes volumes capacity id course (inl w) = (w.0, w.1)
waiting_first tapes volumes capacity id course (inr w) = absurd (w.1 refl)

waiting_behind : (tapes : Tapes) (volumes : List Vol1) (capacity : ℕ) (id : List ℕ)
    (course : Course) (t : Told)
    → IsWaiting (λ u. u ≡ tapes) volumes capacity id course (t ∷ [])
    → IsBetween (λ u. u ≡ tapes) volumes capacity id course (t ∷ [])
waiting_behind tapes volumes capacity id course t (inl w) = absurd (let e = w.2 in cc e)
waiting_behind tapes volumes capacity id course t (inr w) = w.0

inside : (tapes : Tapes) (volumes : List Vol1) (capacity : ℕ) (id : List ℕ) (file : Opened)
    (course : Course) → CasesInside tapes volumes capacity id file course
inside tapes volumes capacity id file course = record {
  inside = λ p fs records i. (i.files, i.shape, i.ended, i.run, i.lengths, i.is_open);
  middle = λ p fs records whole rest i. (i.files, i.shape, i.going, i.lengths, i.is_open);
  flat = λ fs records i. (i.files, i.tight, i.lengths, i.is_open);
  between = λ told b. (b.filed, b.resting);
  filing = λ p past records f. (f.filed, f.inside);
  waiting_first = waiting_first tapes volumes capacity id course;
  waiting_behind = waiting_behind tapes volumes capacity id course;
  stuck_open = λ fs records s. s.is_open;
  open_held = λ d o. (o.held, o.steady);
  resting_held = λ d r. (r.held, r.between);
}

pub cases_of_inside : CasesOfInside
cases_of_inside = record {
  files = inside;
  lengths = λ shape r s h. (h.0, h.1.0);
  nothing_told = λ volumes capacity id. inl (refl, refl, refl);
  begun_first = begun_first;
  flat_first = flat_first;
  whole_records = λ shape records blocks next c. c.order;
}
