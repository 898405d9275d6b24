-- Proofs of the examples for disks and stages.
use Rattle.std.proofs.Common.{◌≡◌, ◌⊎◌, ◌∙◌, List, ℕ, [], ◌∷◌, refl, inl, inr, arith, get_or, ap}
use Rattle.std.proofs.Common.{take, subst, Some, Ok, true, false}
use Rattle.tape_blocks.specs.{declared.parts.Part.Part, Block.Portion, Parts.view}
use Rattle.tape_stage.specs.Calls.{IsImage, WasImage, kept_or}
use Rattle.tape_stage.specs.Cases.{CasesOfCrashes, CasesOfMoments, CasesOfFiles, CasesOfStages}
use Rattle.tape_stage.specs.CasesOfSalvage.{CasesOfSalvage, cut_frame, frame_and_none}
use Rattle.tape_stage.specs.{declared.disk.Disk.Ghosts, declared.stage.Stage.Stage, Reads.StageGave}
use Rattle.tape_stage.specs.{Stages.IsAhead, Body.body_text, Disk.Torn, Parts.NoFrameAt}
use Rattle.tape_stage.specs.{Memory.first_of, Staged.HoldsNone, CasesOfLaws.CasesOfLaws}
use Rattle.tape_stage.proofs.Once.{staged_remains}
use Rattle.tape_blocks.specs.declared.parts.Span.TheVariants as spans

pub cases_of_crashes : CasesOfCrashes
cases_of_crashes = record {
  torn_nothing =
      record { before = refl; after = refl; no_shorter = omega arith; no_longer = omega arith };
  torn_all =
      record { before = refl; after = refl; no_shorter = omega arith; no_longer = omega arith };
  torn_short =
      record { before = refl; after = refl; no_shorter = omega arith; no_longer = omega arith };
  torn_inside =
      record { before = refl; after = refl; no_shorter = omega arith; no_longer = omega arith };
  front_stays = λ t. absurd (let e = t.before in cc e);
  rest_stays = λ t. absurd (let e = t.after in cc e);
  none_is_lost = λ t. omega (arith, t.no_shorter);
  cut_nothing = record { no_shorter = omega arith; no_longer = omega arith; front = refl };
  cut_some = record { no_shorter = omega arith; no_longer = omega arith; front = refl };
  cut_all = record { no_shorter = omega arith; no_longer = omega arith; front = refl };
  cut_front_stays = λ c. absurd (let e = c.front in cc e);
  cut_no_more = λ c. omega (arith, c.no_shorter);
  cut_no_longer = λ c. omega (arith, c.no_longer);
  written = λ new h. h;
  more_is_more = λ h. absurd (let e = h (1 ∷ []) tt in cc e);
  other_is_other = λ h. absurd (let e = h (1 ∷ []) tt in cc e);
  stepped = λ c e. ([], refl, (refl, e));
  not_stepped = λ h. (h [] refl).2;
  allowed = λ d c old step. step.1;
  not_allowed = λ h. absurd (let e = h [] (7 ∷ []) refl refl in cc e);
  allowed_of_nothing = λ d c none step. none;
  held_over = refl;
  held_behind = refl;
  to_be_written = refl;
  on_the_disk = refl;
  held_lost = (
    1 ∷ [],
    refl,
    record { before = refl; after = refl; no_shorter = omega arith; no_longer = omega arith },
  );
  held_torn = (
    1 ∷ [],
    refl,
    record { before = refl; after = refl; no_shorter = omega arith; no_longer = omega arith },
  );
  held_there = λ left. absurd (let e = left.2.before ∙ ap (take 1) left.1 in cc e);
  held_of_nothing = λ left. left.1;
  cut_in_memory = (
    1 ∷ 2 ∷ [],
    refl,
    record { no_shorter = omega arith; no_longer = omega arith; front = refl },
  );
  synced_in_memory = λ c e. e;
  before_it_was_synced = inl (
    1 ∷ 2 ∷ [],
    refl,
    record { no_shorter = omega arith; no_longer = omega arith; front = refl },
  );
  since_it_was_synced = λ e. absurd (cc e);
  worst_in_memory = refl;
  left_in_memory = λ d c none. subst (λ calls. IsImage (first_of d.content) calls c) none;
  left_since_then = λ d c none. subst (λ calls. WasImage (first_of d.content) calls 0 c) none;
  began_with = λ d same. ap
      (λ changed. kept_or changed d.content.first.items d.content.bytes.items) same;
}

not_invented : ⊥ ⊎ ⊥ → ⊥
not_invented (inl h) = h
not_invented (inr h) = h

held_never : ⊥ ⊎ ((d : List ℕ) × ⊥ × Torn 0 1 d []) → ⊥
held_never (inl h) = h
held_never (inr h) = h.1

pub cases_of_moments : CasesOfMoments
cases_of_moments = record {
  not_in_between = λ p. elim (p.before 0 (7 ∷ []) (omega arith) (refl, refl)) [
    | inl h ↦ let e : 0 ≡ 1 = h.0 in absurd (cc e)
    | inr h ↦ absurd (cc h)
  ];
  not_behind = λ p. let e = p.now (7 ∷ []) (refl, refl) in absurd (cc e);
  not_backwards = λ p. omega (arith, p.later);
  left_before = record {
    later = omega arith;
    before = λ t c le was. inl was;
    now = λ c none. none;
  };
  held_before = inl refl;
  held_now = inr (
    [],
    refl,
    record { before = refl; after = refl; no_shorter = omega arith; no_longer = omega arith },
  );
  held_never = λ left. held_never left;
  not_forgotten = λ e. e.keeps 0 [] (omega arith) tt;
  not_invented = λ e. not_invented (e.nothing_else 0 [] (omega arith) tt);
  not_again = λ e. omega (arith, e.later);
}

nothing_staged : HoldsNone []
nothing_staged g point parts s = absurd (let e = s.slot in cc e)

no_room : NoFrameAt 0 5 (48 ∷ 0 ∷ 0 ∷ 0 ∷ 1 ∷ 65 ∷ [])
no_room span [] is = absurd (let e : 1 ≡ 0 = ap (λ l. get_or l 4 0) is.header in cc e)
no_room span (b ∷ content) is = omega (arith, is.room)

no_digit : NoFrameAt 0 6 (52 ∷ 0 ∷ 0 ∷ 0 ∷ 1 ∷ 65 ∷ [])
no_digit spans.Whole content is =
    absurd (let e : 52 ≡ 48 = ap (λ l. get_or l 0 0) is.header in omega (arith, e))
no_digit spans.First content is =
    absurd (let e : 52 ≡ 49 = ap (λ l. get_or l 0 0) is.header in omega (arith, e))
no_digit spans.Middle content is =
    absurd (let e : 52 ≡ 50 = ap (λ l. get_or l 0 0) is.header in omega (arith, e))
no_digit spans.Last content is =
    absurd (let e : 52 ≡ 51 = ap (λ l. get_or l 0 0) is.header in omega (arith, e))

pub cases_of_files : CasesOfFiles
unfolding body_text
cases_of_files = record {
  nothing_staged = nothing_staged;
  first_gate = refl;
  second_gate = refl;
  closed_gate = λ body. refl;
  greater_counts = λ a b. refl;
  first_at_a_tie = λ a b. refl;
  first_wins = λ a. omega arith;
  second_loses = λ a h. absurd (omega (arith, h));
  text = refl;
  body = refl;
  staged_is_there = λ bytes g point parts s. (s.slot, s.parts_are.long, s.parts_are.frames_are);
  none_holds = λ bytes g point parts none s. none g point parts s;
  stands_like = λ read c g point parts l s. l g point parts s;
  staged_stays = λ old new g point parts k s.
      let cut = k g point parts s in (cut.front, cut.no_longer);
  frames_stay = λ old new k. (k.rest, k.long);
  bad_place = λ bytes place (g, point, parts, r). (
    g,
    point,
    parts,
    r.framed.breaks.low,
    omega (arith, r.framed.breaks.low, r.framed.holds.long),
    r.framed.breaks.high,
    r.framed.holds.frames_are,
    r.framed.breaks.none,
    r.slot,
  );
  a_frame = record {
    room = omega arith;
    header = refl;
    content_is = refl;
    short = omega arith;
  };
  no_room = no_room;
  no_digit = no_digit;
  no_frame = λ bytes place end span content none is. none span content is;
  frame_of = refl;
  all_short = λ a b s. (s.0, s.1.0);
  front_of_two = λ a b size. record { rest = b ∷ []; whole = refl; weighs = omega (arith, size) };
}

part_given : {D : Type 0} (g : Ghosts D) (old new : Stage D g) (part : Part) (p : Portion)
    (parts : List Portion) → StageGave old (Ok (Some part)) new → IsAhead old (p ∷ parts)
    → (view part ≡ p) × IsAhead new parts
part_given g old new part p parts gave ahead =
    let (rest, split, there) = gave.gave.gives (p ∷ parts) ahead in
    let same : rest ≡ parts = cc split in
    (cc split, subst (λ ps. IsAhead new ps) same there)

pub cases_of_stages : {D : Type 0} (g : Ghosts D) → CasesOfStages g
cases_of_stages g = record {
  untouched_stays = λ old new u.
      (u.read, u.crash.now, λ c h. u.crash.before (g.moment old) c (omega arith) h);
  only_read_stays = λ old new o honest. (o.same honest, (o.any_moment honest).now);
  read_is_as_long = λ old new o. (o.same_length, o.back);
  as_honest = λ old new same. (same.onward, same.back);
  is_stage = λ stage acked parts s. (s.alive, s.behind, s.holds, s.ready);
  holds = λ stage parts h. (h.honest, h.framed, h.weighs, h.ready);
  ahead = λ stage parts h. h;
  ready = λ second n point parts other_open disk r. (r.staged, r.gate, r.alike);
  has_read = λ old new result r. (r.same_stage, r.gave);
  gave_keeps = λ old new result parts gave held. (gave.gave.kept parts held, gave.gave.same_weight);
  part_given = part_given g;
  what_is_left_returns = λ stage bytes n back there left is. (bytes, left, (n, is));
  what_returns_is_left = λ stage back there r. r;
  something_returns = λ stage bytes s left.
      let x = s bytes left in (x.1, x.2, (bytes, left, (x.0, x.3)));
  what_was_left_returned = λ stage t bytes n back there left staged. (bytes, left, (n, staged));
  what_returned_was_left = λ stage t back there r. r;
  something_returned = λ stage t bytes survived left.
      let x = survived bytes left in (x.1, x.2, (bytes, left, (x.0, x.3)));
  crashes = λ stage t back there. (λ r. r, λ r. r, λ s. s, λ s. s, refl);
  failed_stays = λ old new h. h;
  full_stays = λ old new h. h;
  device_ends = λ old new h. h;
  end_ok = λ old new e. (e.was_alive, e.refusals, e.honest);
  end_refused = λ old new e. (e.refused, e.cause refl, e.back);
  opened_over = λ old new c p. p.before (g.moment old) c (omega arith);
  no_other = λ old new. (λ h. h, λ h. h, λ h. h);
}

pub cases_of_laws : CasesOfLaws
cases_of_laws = record {
  of_either = λ point next parts more bytes is. is;
  by_either = λ point next parts more bytes is. is;
  once = λ bytes g h point next parts more law one two. law g h point next parts more one two;
  one_of = λ bytes g h point next read parts more there law stands is.
      law point next parts more (inr (g, stands)) h read there is;
  named = λ bytes g point parts law is. law true g point parts is;
  either = λ bytes point next parts more law is. law false 3 point next parts more is;
  text_of_one = λ bytes v w a b law one two. law bytes v w a b one two;
  one_text = λ version a b c law one two. law version a b c one two;
  both_texts = λ c law point known set_id file_id block part.
      law c point known set_id file_id block part;
}

no_byte : NoFrameAt 256 261 cut_frame
no_byte span [] is = absurd (let e : 1 ≡ 0 = ap (λ l. get_or l 4 0) is.header in cc e)
no_byte span (b ∷ content) is = omega (arith, is.room)

no_second_digit : NoFrameAt 262 268 frame_and_none
no_second_digit spans.Whole content is =
    absurd (let e : 52 ≡ 48 = ap (λ l. get_or l 0 0) is.header in omega (arith, e))
no_second_digit spans.First content is =
    absurd (let e : 52 ≡ 49 = ap (λ l. get_or l 0 0) is.header in omega (arith, e))
no_second_digit spans.Middle content is =
    absurd (let e : 52 ≡ 50 = ap (λ l. get_or l 0 0) is.header in omega (arith, e))
no_second_digit spans.Last content is =
    absurd (let e : 52 ≡ 51 = ap (λ l. get_or l 0 0) is.header in omega (arith, e))

pub cases_of_salvage : CasesOfSalvage
cases_of_salvage = record {
  cut_off = record {
    holds = record { long = omega arith; frames_are = refl; short = tt };
    breaks = record { low = omega arith; high = omega arith; none = no_byte };
  };
  not_whole = λ parts framed. omega (arith, framed.holds.long);
  one_remains = record {
    holds = record { long = omega arith; frames_are = refl; short = (omega arith, tt) };
    breaks = record { low = omega arith; high = omega arith; none = no_second_digit };
  };
  no_break = record {
    holds = record { long = omega arith; frames_are = refl; short = (omega arith, tt) };
    breaks = tt;
  };
  not_broken = λ parts framed. omega (arith, framed.breaks.high);
  all_remains = staged_remains;
  all_staged = λ bytes n point parts r. record { slot = r.slot; parts_are = r.framed.holds };
  before_break = λ bytes n point place parts r. (
    r.slot,
    r.framed.breaks.low,
    r.framed.breaks.high,
    r.framed.holds.frames_are,
    r.framed.breaks.none,
  );
  none_remains = λ bytes n point broken parts none r. none n point broken parts r;
  none_said = λ bytes says. says;
  bad_said = λ bytes place says. says;
  once = λ bytes n m point next broken other parts more law one two.
      law n m point next broken other parts more one two;
}
