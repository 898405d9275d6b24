-- If a summary says that a volume ended, the items are a volume.
use Rattle.std.proofs.Common.{◌≡◌, ℕ, ◌+◌, Bool, true, false, List, [], ◌∷◌, ◌++◌, Result, Ok, Err}
use Rattle.std.proofs.Common.{Option}
use Rattle.std.proofs.Common.{refl, sym, ap, subst, ◌∙◌, append_assoc, append-nil, arith, ◌≢◌, map}
use Rattle.std.proofs.{Common.flat_map, lemmas.Bool.Decides.nat_tests}
use Rattle.tape_image.specs.Tape.{TapeItem, block, bad, mark}
use Rattle.tape_label.specs.{declared.label.LabelFault.LabelFault, declared.values.Trail1.Trail1}
use Rattle.tape_label.specs.{Trail1.IsTrail1, VolumeLabels.is_volume_label}
use Rattle.tape_label.specs.Reading.{vol1_at, head1_at, trail1_at}
use Rattle.tape_label.proofs.First.{trail1_found}
use Rattle.tape_run.specs.declared.passing.Phase.TheVariants.{Volume, Labels, Second, Headers, Data}
use Rattle.tape_run.specs.{declared.survey.course.LabelOrder.LabelOrder, declared.met.Met.Met}
use Rattle.tape_run.specs.declared.survey.glance.ImageSummary.{ImageSummary}
use Rattle.tape_run.specs.declared.passing.Phase.{Phase}
use Rattle.tape_run.specs.declared.passing.Phase.TheVariants.{Trailer, Trailers, Next, Over}
use Rattle.tape_run.specs.declared.survey.course.LabelOrder.TheVariants.{Follows, Blank, Ended}
use Rattle.tape_run.specs.declared.survey.course.LabelOrder.TheVariants.{Leaves}
use Rattle.tape_run.specs.Passing.{volume_with, header_with, told_with, closes}
use Rattle.tape_run.specs.{Onward.step, Onward.goes_on, WideShown.AreHeaders}
use Rattle.tape_run.specs.WidePassing as Wide
use Rattle.tape_run.specs.Passing.{Told}
use Rattle.tape_label.specs.WideHead2.{is_further_header}
use Rattle.tape_run.specs.SurveyGlance.{blank_glance, look_to, look_all, left_by, course_with}
use Rattle.tape_run.specs.SurveyLaws.{IsVolumeInOrder, EndedIsVolume}
use Rattle.tape_run.proofs.SurveyStands.{Heads, Fills, Closes, Follow, Marked, At, all_more}
use Rattle.tape_run.proofs.SurveyStands.{joined_push, one_mark, first_label, head_read, label_read}
use Rattle.tape_run.proofs.{ShownSections.told_if, SectionsMet.map_push, SurveyStands.Seconded}
use Rattle.tape_run.proofs.SurveyStands.{further_read, mark_read}

-- the same labels, followed by other items
heads_then : (items : List TapeItem) (met met2 : Met) (behind more : List TapeItem)
    → met2.key ≡ met.key → Heads items met behind → Heads (items ++ more) met2 (behind ++ more)
heads_then items met met2 behind more same h = record {
  before = h.before;
  sections = h.sections;
  begun = h.begun;
  hdr1 = h.hdr1;
  head = h.head;
  is_head = h.is_head;
  sect = ap (λ (k : Rattle.tape_run.specs.declared.section.SectionKey.SectionKey). k.sect) same
      ∙ h.sect;
  file = ap (λ (k : Rattle.tape_run.specs.declared.section.SectionKey.SectionKey). k.file) same
      ∙ h.file;
  headers = h.headers;
  second = h.second;
  stands = ap (λ (r : List TapeItem). r ++ more) h.stands ∙ simp append_assoc;
}

-- one more label after the first that follows HDR1
still_headers : (labels more : List (List ℕ)) (hdr2 b : List ℕ) → labels ≡ hdr2 ∷ more
    → AreHeaders labels → AreHeaders (labels ++ b ∷ [])
still_headers [] more hdr2 b e is = absurd (cc e)
still_headers (x ∷ xs) more hdr2 b e is = is

heads_more : (items : List TapeItem) (met : Met) (b : List ℕ) → Seconded items met
    → Seconded (items ++ block b ∷ []) met
heads_more items met b s =
    let h = s.heads in
    record {
      heads = record {
        before = h.before;
        sections = h.sections;
        begun = h.begun;
        hdr1 = h.hdr1;
        head = h.head;
        is_head = h.is_head;
        sect = h.sect;
        file = h.file;
        headers = h.headers ++ b ∷ [];
        second = still_headers h.headers s.more s.hdr2 b s.are h.second;
        stands =
            let labels : List TapeItem = block h.hdr1 ∷ [] in
            let front : List TapeItem = h.before ++ (labels ++ map block h.headers) in
            ap (λ (r : List TapeItem). r ++ block b ∷ []) (h.stands ∙ append-nil front)
            ∙ append_assoc h.before (labels ++ map block h.headers) (block b ∷ [])
            ∙ ap (λ (r : List TapeItem). h.before ++ (labels ++ r)) (map_push h.headers b)
            ∙ sym (append-nil (h.before ++ (labels ++ map block (h.headers ++ b ∷ []))));
      };
      hdr2 = s.hdr2;
      more = s.more ++ b ∷ [];
      are = ap (λ (l : List (List ℕ)). l ++ b ∷ []) s.are;
    }

fills_none : (items : List TapeItem) (met : Met) → Heads items met []
    → Fills (items ++ mark ∷ []) met []
fills_none items met h = record {
  content = [];
  no_mark = tt;
  heads = heads_then items met met [] (mark ∷ []) refl h;
}

fills_more : (items : List TapeItem) (met met2 : Met) (x : TapeItem) → met2.key ≡ met.key
    → x ≢ mark → Fills items met [] → Fills (items ++ x ∷ []) met2 []
fills_more items met met2 x same other h =
    let P : List TapeItem → Type 0 = λ r. Heads (items ++ x ∷ []) met2 r in
    let again : (mark ∷ h.content ++ []) ++ x ∷ [] ≡ mark ∷ (h.content ++ x ∷ []) ++ [] =
    ap (λ (r : List TapeItem). (mark ∷ r) ++ x ∷ []) (append-nil h.content) ∙ sym (ap
    (λ (r : List TapeItem). mark ∷ r) (append-nil (h.content ++ x ∷ []))) in
    record {
      content = h.content ++ x ∷ [];
      no_mark = all_more (λ y. y ≢ mark) _ _ h.no_mark other;
      heads = subst P again (heads_then _ _ _ _ (x ∷ []) same h.heads);
    }

fills_closed : (items : List TapeItem) (met : Met) → Fills items met []
    → Fills (items ++ mark ∷ []) met (mark ∷ [])
fills_closed items met h =
    let P : List TapeItem → Type 0 = λ r. Heads (items ++ mark ∷ []) met r in
    let again : (mark ∷ h.content ++ []) ++ mark ∷ [] ≡ mark ∷ h.content ++ mark ∷ [] =
    ap (λ (r : List TapeItem). (mark ∷ r) ++ mark ∷ []) (append-nil h.content) in
    record {
      content = h.content;
      no_mark = h.no_mark;
      heads = subst P again (heads_then _ _ met _ (mark ∷ []) refl h.heads);
    }

-- a trailer label with its numbers closes a section
closed : (items : List TapeItem) (met : Met) (b : List ℕ) (trail : Trail1) → IsTrail1 b trail
    → trail.head.sect ≡ met.key.sect → trail.head.sequence ≡ met.key.file
    → Fills items met (mark ∷ []) → Closes (items ++ block b ∷ [])
closed items met b trail is sect file h =
    let s = h.heads in
    let front = block s.hdr1 ∷ map block s.headers in
    let part = front ++ mark ∷ h.content ++ mark ∷ block b ∷ [] in
    record {
      before = s.before;
      sections = s.sections;
      begun = s.begun;
      part = part;
      more = [];
      whole = λ trailers. record {
        hdr1 = s.hdr1;
        headers = s.headers;
        content = h.content;
        trailer = b;
        trailers = trailers;
        head = s.head;
        trail = trail;
        stands = simp append_assoc;
        is_head = s.is_head;
        second = s.second;
        no_mark = h.no_mark;
        is_trail = is;
        sect = sect ∙ s.sect;
        file = file ∙ s.file;
      };
      stands = ap (λ (r : List TapeItem). r ++ block b ∷ []) s.stands
          ∙ simp (append_assoc, append-nil);
    }

trailer_closes : (items : List TapeItem) (met : Met) (number : ℕ) (b : List ℕ) (trail : Trail1)
    (c : Bool) → IsTrail1 b trail → closes met trail ≡ c → Fills items met (mark ∷ [])
    → At (told_if met trail c).0 (left_by number (Trailer met) (told_if met trail c).0)
    (items ++ block b ∷ [])
trailer_closes items met number b trail true is c h =
    closed items met b trail is (grind (arith, nat_tests, c)) (grind (arith, nat_tests, c)) h
trailer_closes items met number b trail false is c h = tt

trailer_read : (items : List TapeItem) (met : Met) (number : ℕ) (b : List ℕ)
    (r : Result Trail1 LabelFault) → trail1_at b ≡ r → Fills items met (mark ∷ [])
    → At (told_with met r).0 (left_by number (Trailer met) (told_with met r).0)
    (items ++ block b ∷ [])
trailer_read items met number b (Ok trail) e h =
    trailer_closes items met number b trail (closes met trail) (trail1_found b trail e) refl h
trailer_read items met number b (Err f) e h = tt

closes_more : (items : List TapeItem) (b : List ℕ) → Closes items → Closes (items ++ block b ∷ [])
closes_more items b h = record {
  before = h.before;
  sections = h.sections;
  begun = h.begun;
  part = h.part;
  more = h.more ++ b ∷ [];
  whole = h.whole;
  stands =
      let again : (h.before ++ h.part ++ map block h.more) ++ block b ∷ []
      ≡ h.before ++ h.part ++ (map block h.more ++ block b ∷ []) = simp append_assoc in
      ap (λ (r : List TapeItem). r ++ block b ∷ []) h.stands ∙ again
      ∙ ap (λ (r : List TapeItem). h.before ++ h.part ++ r) (map_push h.more b);
}

-- the mark after its trailer labels ends a section
section_ends : (items : List TapeItem) → Closes items → Follow (items ++ mark ∷ [])
section_ends items h =
    let section = h.part ++ map block h.more ++ mark ∷ [] in
    let b = h.begun in
    record {
      sections = h.sections;
      last = section;
      begun = record {
        vol1 = b.vol1;
        label = b.label;
        labels = b.labels;
        stands =
            let labels : List TapeItem = block b.vol1 ∷ map block b.labels in
            let flat : List TapeItem = flat_map (λ s. s) h.sections in
            let again : ((labels ++ flat) ++ h.part ++ map block h.more) ++ mark ∷ [] ≡ labels
            ++ (flat ++ section) = simp append_assoc in
            ap (λ (r : List TapeItem). r ++ mark ∷ []) (h.stands ∙ ap
            (λ (r : List TapeItem). r ++ h.part ++ map block h.more) b.stands) ∙ again ∙ ap
            (λ (r : List TapeItem). labels ++ r) (sym (joined_push h.sections section));
        is_label = b.is_label;
        further = b.further;
        each = all_more _ _ _ b.each (h.whole h.more);
      };
    }

-- the mark after that one ends the volume
volume_ends : (items : List TapeItem) → Follow items → IsVolumeInOrder (items ++ mark ∷ [])
volume_ends items h = record {
  front = items;
  sections = h.sections ++ h.last ∷ [];
  begun = h.begun;
  stands = ap (λ (r : List TapeItem). items ++ r) (sym (one_mark h.sections h.last));
}

blank_ends : (items : List TapeItem) → Marked items → IsVolumeInOrder (items ++ mark ∷ [])
blank_ends items h = record {
  front = h.before;
  sections = [];
  begun = h.begun;
  stands = ap (λ (r : List TapeItem). r ++ mark ∷ []) h.stands
      ∙ append_assoc h.before (mark ∷ []) (mark ∷ []);
}

next_read : (items : List TapeItem) (number : ℕ) (v b : List ℕ) → Follow items
    → At (header_with v (head1_at b))
    (left_by number (Next v) (header_with v (head1_at b))) (items ++ block b ∷ [])
next_read items number v b h = head_read _ _ (Next v) number v b (head1_at b) refl h.begun

no_mark_block : (b : List ℕ) → block b ≢ mark
no_mark_block b e = absurd (cc e)

no_mark_bad : bad ≢ mark
no_mark_bad e = absurd (cc e)

-- one more item, while the items are in order
follows_on : (p : Phase) (items : List TapeItem) (x : TapeItem) (number : ℕ) → At p Follows items
    → At (Wide.step p x).0 (course_with Follows number p x (Wide.step p x).0) (items ++ x ∷ [])
follows_on Volume items (block b) number e =
    subst (λ (r : List TapeItem). At (volume_with (vol1_at b))
    (left_by number Volume (volume_with (vol1_at b))) (r ++ block b ∷ [])) (sym e)
    (first_label b number (vol1_at b) refl)
follows_on (Labels v) items (block b) number h = label_read _ number v b (is_volume_label b) refl h
follows_on (Labels v) items mark number h = record { before = items; begun = h; stands = refl }
follows_on (Second met) items (block b) number h =
    further_read items met number b (is_further_header b) refl h
follows_on (Second met) items mark number h = mark_read items met h
follows_on (Headers met) items (block b) number h = heads_more items met b h
follows_on (Headers met) items mark number h = fills_none items met h.heads
follows_on (Data met) items (block b) number h =
    fills_more _ _ (Rattle.tape_run.specs.Passing.with_block met false) _ refl (no_mark_block b) h
follows_on (Data met) items bad number h =
    fills_more items met (Rattle.tape_run.specs.Passing.with_block met true) bad refl no_mark_bad h
follows_on (Data met) items mark number h = fills_closed items met h
follows_on (Trailer met) items (block b) number h = trailer_read _ _ number b (trail1_at b) refl h
follows_on (Trailers v) items (block b) number h = closes_more items b h
follows_on (Trailers v) items mark number h = section_ends items h
follows_on (Next v) items (block b) number h = next_read items number v b h
follows_on (Next v) items mark number h = volume_ends items h
follows_on Over items x number h = absurd h
follows_on _ items x number h = tt

-- for any label order
any_order : (p : Phase) (c : LabelOrder) (items : List TapeItem) (x : TapeItem) (number : ℕ)
    → At p c items
    → At (Wide.step p x).0 (course_with c number p x (Wide.step p x).0) (items ++ x ∷ [])
any_order p Follows items x number h = follows_on p items x number h
any_order p Blank items mark number h = blank_ends items h
any_order p Blank items bad number h = tt
any_order p Blank items (block b) number h = tt
any_order p Ended items x number h = tt
any_order p (Leaves n w) items x number h = tt

-- past an item that breaks the order the structure is not stated
not_followed : (p : Phase) (c : LabelOrder) (items : List TapeItem) → At Over c items → At p c items
not_followed p Follows items h = absurd h
not_followed p Blank items h = h
not_followed p Ended items h = h
not_followed p (Leaves n w) items h = tt

still_at : (p : Phase) (x : TapeItem) (q : Phase) (told : Option Told) (c : LabelOrder)
    (items : List TapeItem) → At q c items → At (goes_on p x (q, told)).0 c items
still_at p x Over told c items h = not_followed (goes_on p x (Over, told)).0 c items h
still_at p x Volume told c items h = h
still_at p x (Labels v) told c items h = h
still_at p x (Second met) told c items h = h
still_at p x (Headers met) told c items h = h
still_at p x (Data met) told c items h = h
still_at p x (Trailer met) told c items h = h
still_at p x (Trailers v) told c items h = h
still_at p x (Next v) told c items h = h

one_more : (p : Phase) (c : LabelOrder) (items : List TapeItem) (x : TapeItem) (number : ℕ)
    → At p c items
    → At (step p x).0 (course_with c number p x (Wide.step p x).0) (items ++ x ∷ [])
one_more p c items x number h =
    let ordered = Wide.step p x in
    still_at p x ordered.0 ordered.1 (course_with c number p x ordered.0) (items ++ x ∷ [])
    (any_order p c items x number h)

all_stand : (g : ImageSummary) (p : Phase) (before rest : List TapeItem) → At p g.course before
    → (q : Phase) × At q (look_all g p rest).course (before ++ rest)
all_stand g p before [] h =
    (p, subst (λ (r : List TapeItem). At p g.course r) (sym (append-nil before)) h)
all_stand g p before (x ∷ xs) h =
    let rest = all_stand (look_to g p x (Wide.step p x).0) (step p x).0 (before ++ x ∷ []) xs
    (one_more p g.course before x (g.items + 1) h) in (
      rest.0,
      subst (λ (r : List TapeItem). At rest.0 (look_all g p (x ∷ xs)).course r)
          (append_assoc before (x ∷ []) xs) rest.1,
    )

pub ended_is_volume : EndedIsVolume
ended_is_volume items e =
    let (q, at) = all_stand blank_glance Volume [] items refl in
    subst (λ (c : LabelOrder). At q c items) e at
