-- Proofs of the examples for readers and sinks.
use Rattle.std.proofs.Common.{◌≡◌, ◌≤◌, ℕ, List, [], ◌∷◌, length, false, refl, Some, None, Ok, ap}
use Rattle.std.proofs.Common.{inl, inr, arith}
use Rattle.tape_label.specs.{Kinds.kind_at, VolumeLabels.is_volume_label}
use Rattle.tape_label.specs.Reading.{head_at, head1_at}
use Rattle.tape_blocks.specs.{declared.parts.Part.Part, Block.Portion, Parts.view}
use Rattle.tape_set.specs.Position.{start}
use Rattle.tape_core.specs.{Point.Point, Walks.GivesPart, Weight.IsFront, Weight.Rose}
use Rattle.tape_core.specs.Cases.{CasesOfForeign, CasesOfSinks, five_bytes, no_bytes}
use Rattle.tape_core.proofs.Crashes.{or_nothing}

pub cases_of_foreign : CasesOfForeign
unfolding kind_at head_at head1_at is_volume_label
cases_of_foreign = record {
  own_volume = λ more. refl;
  own_labelled = refl;
  other_set = refl;
  nothing = λ id. refl;
  mark_first = λ id rest. refl;
  bad_first = λ id rest. refl;
  plain_first = refl;
  header_first = refl;
  label_alone = refl;
  mark_behind = λ rest. refl;
  bad_behind = λ rest. refl;
  second_behind = refl;
  left_behind_label = λ id rest left. left;
  left_unread = λ id rest. tt;
  left_by_complete = λ id rest. tt;
  never_on_it = λ id rest left. left;
}

no_front : IsFront (no_bytes ∷ []) (five_bytes ∷ no_bytes ∷ []) → ⊥
no_front (rest, e) =
    let len : 5 ≡ 0 = ap first_len e in
    absurd (omega (arith, len))
  where
    first_len : List Portion → ℕ
    first_len [] = 0
    first_len (p ∷ ps) = length p.bytes

not_rose : (n : ℕ) → n ≤ 3 → Rose 3 n → ⊥
not_rose n low (inl more) = absurd (omega (arith, low, more))
not_rose n low (inr most) = absurd (omega (arith, low, most))

given_is_next : (part : Part) (p : Portion) (parts : List Portion)
    → GivesPart (Ok (Some part)) (p ∷ []) (λ ps. ps ≡ parts) → (p ≡ view part) × (parts ≡ [])
given_is_next part p parts (rest, e, is) = (cc e, cc (e, is))

some_point : Point
some_point = record {
  set_id = [];
  file = 1;
  position = start;
  begun = false;
  known = None;
  staged = 0;
}

pub cases_of_sinks : CasesOfSinks
cases_of_sinks = record {
  front = (_, refl);
  no_front = no_front;
  longer = λ f. absurd (let e = f.1 in cc e);
  stands_still = λ rose. not_rose 3 (omega arith) rose;
  falls = λ rose. not_rose 2 (omega arith) rose;
  rises = inl (omega arith);
  stays_greatest = inr (omega arith);
  given_is_next = given_is_next;
  refused_is_ahead = λ fault parts ahead gives. gives;
  none_at_the_end = λ p gives. let e = gives.0 in absurd (cc e);
  calm = λ given old new counts. counts;
  counted = λ fault rose. not_rose 3 (omega arith) rose;
  lent = λ part old new lends. lends;
  walk_keeps = λ old new result g. (
    g.kept old.kept refl,
    g.same_weight,
    g.crash old.kept refl,
  );
  walk_gives = λ old new result g. (g.gives old.ahead refl, g.lends, g.counts);
  walk_refuses = λ old new fault g. g.why;
  this = λ point other parts more is. is;
  only_this = λ point other parts more only. only other more (refl, refl);
  this_alone = λ point parts s alone.
      ((alone.0 point s.back refl).1, (alone.1 point (s.back_since s.moment) refl).1);
  adds_nothing = λ old new adds. (
    or_nothing (adds.now some_point new.back refl),
    adds.survives,
  );
  added_nothing = λ old new t le adds. (
    or_nothing (adds.since t some_point (new.back_since t) le refl),
    adds.survived t le,
  );
  adds_only = λ these old new adds. (
    adds.now some_point new.back refl,
    adds.survives,
    adds.later,
  );
  added_only = λ these old new t le adds. (
    adds.since t some_point (new.back_since t) le refl,
    adds.survived t le,
  );
  lost_now = λ back there none. none;
  lost_since = λ t back there none. none;
  lost_for_good = (λ none. none, λ t none. none);
}
