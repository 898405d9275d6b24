-- The tests of the range of a checkpoint agree with its invariant.
use Rattle.std.proofs.Common.{◌≡◌, ◌≤◌, ◌&&◌, ◌||◌, not, nat_le, Bool, true, false, Option, Some}
use Rattle.std.proofs.Common.{None, is_some, refl, sym, arith, rules}
use Rattle.std.proofs.{lemmas.Bool.and_parts, lemmas.Bool.Decides.nat_tests}
use Rattle.tape_set.specs.{declared.position.Position.Position, Position.is_start, Lawful.FileForm}
use Rattle.tape_set.specs.declared.position.Position.TheVariants.{Awaits, Finished}
use Rattle.tape_core.specs.Known.{PositionFits, StandFits, IsFileNumber, is_finished, may_span}
use Rattle.tape_core.specs.{Known.most_staged, Point.Point, Point.IsPoint}
use Rattle.tape_core.specs.Range.{in_range, position_in_range, known_where_due, may_begin}

position_fits : (p : Position) → position_in_range p ≡ true → PositionFits p
position_fits (Awaits sect block part) h = search rules
position_fits Finished h = tt

position_passes : (p : Position) → PositionFits p → position_in_range p ≡ true
position_passes (Awaits sect block part) (a, b, c, d) = search rules
position_passes Finished f = refl

known_tells : (known : Option FileForm) (p : Position) → known_where_due known p ≡ true
    → is_some known ≡ not (is_start p)
known_tells None p h = rw h refl
known_tells (Some form) p h = sym h

known_passes : (known : Option FileForm) (p : Position) → is_some known ≡ not (is_start p)
    → known_where_due known p ≡ true
known_passes None p h = start (is_start p) h
  where
    start : (b : Bool) → false ≡ not b → b ≡ true
    start true e = refl
    start false e = absurd (cc)
known_passes (Some form) p h = sym h

begun_spans : (begun span done : Bool) → (not begun || (span && not done)) ≡ true → begun ≡ true
    → span ≡ true
begun_spans true true done h e = refl
begun_spans true false done h e = absurd (cc)
begun_spans false span done h e = absurd (cc)

begun_whole : (begun span done : Bool) → (not begun || (span && not done)) ≡ true → done ≡ true
    → begun ≡ false
begun_whole true true true h e = absurd (cc)
begun_whole true true false h e = absurd (cc)
begun_whole true false done h e = absurd (cc)
begun_whole false span done h e = refl

begun_passes : (begun span done : Bool) → (begun ≡ true → span ≡ true)
    → (done ≡ true → begun ≡ false) → (not begun || (span && not done)) ≡ true
begun_passes true span true spans whole = absurd (let q = whole refl in cc)
begun_passes true span false spans whole = rw (spans refl) refl
begun_passes false span done spans whole = refl

-- the rules of a range, one by one
record Rules (a b c d e f : Bool) : Type 0 where
  least : a ≡ true
  greatest : b ≡ true
  place : c ≡ true
  due : d ≡ true
  span : e ≡ true
  light : f ≡ true

rules_of : (a b c d e f : Bool) → (a && b && c && d && e && f) ≡ true → Rules a b c d e f
rules_of a b c d e f h =
    let five = and_parts (a && b && c && d && e) f h in
    let four = and_parts (a && b && c && d) e five.0 in
    let three = and_parts (a && b && c) d four.0 in
    let two = and_parts (a && b) c three.0 in
    let one = and_parts a b two.0 in
    record {
      least = one.0;
      greatest = one.1;
      place = two.1;
      due = three.1;
      span = four.1;
      light = five.1;
    }

of_rules : (a b c d e f : Bool) → a ≡ true → b ≡ true → c ≡ true → d ≡ true → e ≡ true → f ≡ true
    → (a && b && c && d && e && f) ≡ true
of_rules a b c d e f p q r s t u = rw (p, q, r, s, t, u) refl

fits_of : (point : Point) → in_range point ≡ true
    → Rules (nat_le 1 point.file) (nat_le point.file 9999) (position_in_range point.position)
    (known_where_due point.known point.position)
    (not point.begun || may_begin point.known point.position) (nat_le point.staged most_staged)
fits_of point h = rules_of _ _ _ _ _ _ h

pub number_fits : (point : Point) → in_range point ≡ true → IsFileNumber point.file
number_fits point h =
    let all = fits_of point h in
    (grind (arith, nat_tests, all.least), grind (arith, nat_tests, all.greatest))

pub stand_fits : (point : Point) → in_range point ≡ true
    → StandFits point.position point.begun point.known
stand_fits point h =
    let all = fits_of point h in
    record {
      numbers = position_fits point.position all.place;
      tells = known_tells point.known point.position all.due;
      spans = begun_spans point.begun (may_span point.known) (is_finished point.position) all.span;
      whole = begun_whole point.begun (may_span point.known) (is_finished point.position) all.span;
    }

pub weight_fits : (point : Point) → in_range point ≡ true → point.staged ≤ most_staged
weight_fits point h = let all = fits_of point h in grind (arith, nat_tests, all.light)

-- numbers and flags that pass the tests are those of a checkpoint
pub ranged : (point : Point) → in_range point ≡ true → IsPoint point
ranged point h = record {
  numbered = number_fits point h;
  stands = stand_fits point h;
  light = weight_fits point h;
}

-- a checkpoint passes the tests
pub in_range_is : (point : Point) → IsPoint point → in_range point ≡ true
in_range_is point is =
    let place = position_passes point.position is.stands.numbers in
    let due = known_passes point.known point.position is.stands.tells in
    let span = begun_passes point.begun (may_span point.known)
    (is_finished point.position) is.stands.spans is.stands.whole in
    let least : nat_le 1 point.file ≡ true = grind (arith, nat_tests, is.numbered.0) in
    let greatest : nat_le point.file 9999 ≡ true = grind (arith, nat_tests, is.numbered.1) in
    let light : nat_le point.staged most_staged ≡ true = grind (arith, nat_tests, is.light) in
    of_rules _ _ _ _ _ _ least greatest place due span light
