-- The cutting of an input into records.
use Rattle.tape_writer.proofs.Words.{◌≡◌, ◌<◌, ℕ, ◌+◌, ◌∙◌, List, [], ◌∷◌, ◌++◌, Bool, true, false}
use Rattle.tape_writer.proofs.Words.{length, sym, ap, arith, append_assoc, length-append, inl, inr}
use Rattle.tape_writer.proofs.Words.{◌⊎◌, ◌≤◌, nat_tests, ne_eqb, ◌≢◌, zero, suc, take, get_or, ◌-◌}
use Rattle.tape_writer.proofs.Words.{drop, Option, Some, None, prepend_known, IfKnown, refl, Format}
use Rattle.tape_writer.proofs.Words.{Shape, HasRecordLength, add-one}
use Rattle.std.proofs.Common.{append-nil, ◌==◌, flat_map, min, slice_range, length-take, drop-drop}
use Rattle.std.proofs.{Common.take-append-drop, KnownBytes.Consumes-trans, KnownBytes.Consumes-kept}
use Rattle.std.proofs.lemmas.List.{take_all, drop-take, drop_min}
use Rattle.tape_writer.specs.Records.{records_from, records_of, Adds, to_come, given, longest_by}
use Rattle.tape_writer.specs.declared.inputs.cut.Cut.TheVariants.{Lines, Length, Whole}
use Rattle.tape_writer.specs.{declared.inputs.cut.Cut.Cut, Records.longest}
use Rattle.tape_writer.specs.RecordLaws.{IsLine, ended_line, LinesAreCut, PiecesAreCut, WholeIsOne}
use Rattle.std.specs.Io.KnownBytes.{Consumes, Keeps}
use Rattle.tape_image.proofs.Walks.{IfKnown-map}
use Rattle.tape_label.specs.declared.values.Format.TheVariants.{Fixed, Counted, Spanned}
use Rattle.tape_label.specs.declared.values.Format.TheVariants.{Undefined, Variable}

-- ---- records in terms of the input: lines, and pieces of one length

-- bytes of a line are bytes of its record
pub line_goes_on : (l r ys : List ℕ) → IsLine l
    → records_from Lines r (l ++ ys) ≡ records_from Lines (r ++ l) ys
line_goes_on [] r ys is = rw append-nil
line_goes_on (b ∷ l) r ys (not, is) =
    let no : (b == 10) ≡ false = grind (arith, nat_tests, not) in
    rw (no, line_goes_on l (r ++ b ∷ []) ys is, append_assoc r (b ∷ []) l)

pub lines_are_cut : LinesAreCut
lines_are_cut [] rest is last = ap (λ x. records_from Lines [] x) (sym (append-nil rest))
    ∙ line_goes_on rest [] [] last
lines_are_cut (l ∷ ls) rest (one, is) last =
    ap (records_of Lines) (append_assoc (l ++ 10 ∷ []) (flat_map ended_line ls) rest
    ∙ append_assoc l (10 ∷ []) (flat_map ended_line ls ++ rest))
    ∙ line_goes_on l [] (10 ∷ (flat_map ended_line ls ++ rest)) one
    ∙ ap (λ x. l ∷ x) (lines_are_cut ls rest is last)

-- bytes are bytes of one record if they are too few to complete it, or if it already exceeds the
-- length, so that it is never complete
pub piece_goes_on : (n : ℕ) (l r ys : List ℕ) → (length r + length l < n) ⊎ (n ≤ length r)
    → records_from (Length n) r (l ++ ys) ≡ records_from (Length n) (r ++ l) ys
piece_goes_on n [] r ys h = rw append-nil
piece_goes_on n (b ∷ l) r ys h =
    let long = length-append r (b ∷ []) in
    let no : (length r + 1 == n) ≡ false = elim h [
      | inl few ↦ ne_eqb (length r + 1) n (λ e. absurd (omega (arith, few, e)))
      | inr more ↦ ne_eqb (length r + 1) n (λ e. absurd (omega (arith, more, e)))
    ] in
    let next : (length (r ++ b ∷ []) + length l < n) ⊎ (n ≤ length (r ++ b ∷ [])) = elim h [
      | inl few ↦ inl (omega (arith, few, long))
      | inr more ↦ inr (omega (arith, more, long))
    ] in
    rw (no, piece_goes_on n l (r ++ b ∷ []) ys next, append_assoc r (b ∷ []) l)

-- as many bytes as the length are a record
pub piece_is_whole : (n : ℕ) (b : ℕ) (l r ys : List ℕ) → length r + length (b ∷ l) ≡ n
    → records_from (Length n) r ((b ∷ l) ++ ys) ≡ (r ++ (b ∷ l)) ∷ records_from (Length n) [] ys
piece_is_whole n b [] r ys is =
    let yes : (length r + 1 == n) ≡ true = grind (arith, nat_tests, is) in
    rw yes
piece_is_whole n b (d ∷ l) r ys is =
    let no : (length r + 1 == n) ≡ false = grind (arith, nat_tests, is) in
    let next = piece_is_whole n d l (r ++ b ∷ []) ys
    (omega (arith, is, length-append r (b ∷ []))) in
    rw (no, next, append_assoc r (b ∷ []) (d ∷ l))

pub pieces_are_cut : PiecesAreCut
pieces_are_cut n [] rest some is few =
    ap (λ x. records_from (Length n) [] x) (sym (append-nil rest))
    ∙ piece_goes_on n rest [] [] (inl (omega (arith, few)))
pieces_are_cut n ([] ∷ ps) rest some (long, is) few = absurd (omega (arith, long, some))
pieces_are_cut n ((b ∷ p) ∷ ps) rest some (long, is) few =
    ap (records_of (Length n)) (append_assoc (b ∷ p) (flat_map (λ p. p) ps) rest)
    ∙ piece_is_whole n b p [] (flat_map (λ p. p) ps ++ rest) (omega (arith, long))
    ∙ ap (λ x. (b ∷ p) ∷ x) (pieces_are_cut n ps rest some is few)

pub whole_goes_on : (l r ys : List ℕ)
    → records_from Whole r (l ++ ys) ≡ records_from Whole (r ++ l) ys
whole_goes_on [] r ys = rw append-nil
whole_goes_on (b ∷ l) r ys = rw (whole_goes_on l (r ++ b ∷ []) ys, append_assoc r (b ∷ []) l)

pub whole_is_one : WholeIsOne
whole_is_one bytes = ap (records_of Whole) (sym (append-nil bytes)) ∙ whole_goes_on bytes [] []

-- ---- the effect of a prefix of some bytes on a record

-- up to a line feed, which ends the record
line_ends : (hay : List ℕ) (p : ℕ) (r more : List ℕ) → p < length hay
    → ((k : ℕ) → k < p → get_or hay k 0 ≢ 10) → get_or hay p 0 ≡ 10
    → records_from Lines r (take (suc p) hay ++ more) ≡ (r
    ++ take p hay) ∷ records_from Lines [] more
line_ends [] p r more within before at = absurd (omega (arith, within))
line_ends (b ∷ hay) zero r more within before at =
    let yes : (b == 10) ≡ true = grind (arith, nat_tests, at) in
    rw (yes, append-nil)
line_ends (b ∷ hay) (suc p) r more within before at =
    let none : b ≢ 10 = before 0 (omega arith) in
    let no : (b == 10) ≡ false = grind (arith, nat_tests, none) in
    let next = line_ends hay p (r ++ b ∷ []) more (omega (arith, within))
    (λ k l. before (suc k) (omega (arith, l))) at in
    rw (no, next, append_assoc r (b ∷ []) (take p hay))

no_feed : (hay : List ℕ) → ((k : ℕ) → k < length hay → get_or hay k 0 ≢ 10) → IsLine hay
no_feed [] none = tt
no_feed (b ∷ hay) none =
    (none 0 (omega arith), no_feed hay (λ k l. none (suc k) (omega (arith, l))))

pub line_ended : (hay : List ℕ) (p : ℕ) (r : List ℕ) → p < length hay
    → ((k : ℕ) → k < p → get_or hay k 0 ≢ 10) → get_or hay p 0 ≡ 10
    → Adds Lines r (take (p + 1) hay) (r ++ take p hay) true
line_ended hay p r within before at = rw add-one (λ more. line_ends hay p r more within before at)

-- without a line feed the record continues
pub line_inside : (hay r : List ℕ) → ((k : ℕ) → k < length hay → get_or hay k 0 ≢ 10)
    → Adds Lines r hay (r ++ hay) false
line_inside hay r none = λ more. line_goes_on hay r more (no_feed hay none)

pub length_passed : (n : ℕ) (l r : List ℕ) → n ≤ length r → Adds (Length n) r l (r ++ l) false
length_passed n l r long = λ more. piece_goes_on n l r more (inr long)

pub length_inside : (n : ℕ) (l r : List ℕ) → length r + length l < n
    → Adds (Length n) r l (r ++ l) false
length_inside n l r few = λ more. piece_goes_on n l r more (inl few)

pub length_ended : (n : ℕ) (l r : List ℕ) → 0 < length l → length r + length l ≡ n
    → Adds (Length n) r l (r ++ l) true
length_ended n [] r some is = absurd (omega (arith, some))
length_ended n (b ∷ l) r some is = λ more. piece_is_whole n b l r more is

pub whole_inside : (l r : List ℕ) → Adds Whole r l (r ++ l) false
whole_inside l r = λ more. whole_goes_on l r more

-- all bytes are their own prefix
pub adds_all : (cut : Cut) (n : ℕ) (l r : List ℕ) (ended : Bool) → n ≡ length l
    → Adds cut r l (r ++ l) ended → Adds cut r (take n l) (r ++ take n l) ended
adds_all cut n l r ended is adds = rw (take_all n l (omega (arith, is))) adds

-- ---- bytes read ahead, some of which were used

drop-min-take : (k n : ℕ) (xs : List ℕ) → drop (min k n) (take k xs) ≡ drop n (take k xs)
drop-min-take k n xs =
    let front = take k xs in
    let same : min (min k n) (length front) ≡ min n (length front) =
    omega (arith, length-take k xs) in
    sym (drop_min (min k n) front) ∙ ap (λ m. drop m front) same ∙ drop_min n front

pub slice_range-advance : (xs : List ℕ) (a e n : ℕ)
    → slice_range xs (a + min (e - a) n) e ≡ drop n (slice_range xs a e)
slice_range-advance xs a e n =
    let m = min (e - a) n in
    let whole : m + (e - (a + m)) ≡ e - a = omega arith in
    ap (take (e - (a + m))) (sym (drop-drop m a xs))
    ∙ sym (drop-take m (e - (a + m)) (drop a xs)) ∙ ap (λ k. drop m (take k (drop a xs))) whole
    ∙ drop-min-take (e - a) n (drop a xs)

-- ---- the records of the bytes read so far

-- The bytes read from the input are the beginning of a record.
pub record SoFar (cut : Cut) (all left : Option (List ℕ)) (r : List ℕ) : Type 0 where
  pub consumed : Consumes all left r
  pub same : (ys : List ℕ) → records_from cut [] (r ++ ys) ≡ records_from cut r ys

-- bytes were read ahead
pub read_ahead : (cut : Cut) (all left next : Option (List ℕ)) (r : List ℕ) → SoFar cut all left r
    → Keeps left next → SoFar cut all next r
read_ahead cut all left next r s kept = record {
  consumed = Consumes-kept all left next r s.consumed kept;
  same = s.same;
}

-- bytes read ahead were used
pub used : (known : Option (List ℕ)) (old new piece : List ℕ) → old ≡ piece ++ new
    → Consumes (prepend_known old known) (prepend_known new known) piece
used None old new piece is = tt
used (Some xs) old new piece is = ap (λ l. l ++ xs) is ∙ append_assoc piece new xs

-- one piece more
pub one_piece : (cut : Cut) (all left next : Option (List ℕ)) (r new piece : List ℕ)
    → SoFar cut all left r → Consumes left next piece → new ≡ r ++ piece
    → Adds cut r piece new false → SoFar cut all next new
one_piece cut all left next r new piece s c grown adds = record {
  consumed = rw grown (Consumes-trans all left next r piece s.consumed c);
  same = λ ys. ap (λ l. records_from cut [] (l ++ ys)) grown
      ∙ ap (records_from cut []) (append_assoc r piece ys) ∙ s.same (piece ++ ys) ∙ adds ys;
}

-- the bytes before are the consumed bytes and the bytes after
consumed : (all next : Option (List ℕ)) (r : List ℕ) → Consumes all next r
    → IfKnown all next (λ xs ys. xs ≡ r ++ ys)
consumed None next r c = tt
consumed (Some xs) None r c = c
consumed (Some xs) (Some ys) r c = c

-- the next piece ends the record
pub next_given : (cut here : Cut) (a b : Bool) (all left next : Option (List ℕ))
    (r new piece : List ℕ) → SoFar cut all left r → Consumes left next piece → here ≡ cut
    → a ≡ false → b ≡ false → Adds here r piece new true
    → IfKnown all next (λ xs ys. to_come cut a xs ≡ given true new (to_come here b ys))
next_given cut here a b all left next r new piece s c is one two adds = rw (one, two, is)
    (IfKnown-map all next _ _ (λ xs ys e. ap (records_of cut) (e ∙ append_assoc r piece ys)
    ∙ s.same (piece ++ ys) ∙ (rw is at adds) ys)
    (consumed all next (r ++ piece) (Consumes-trans all left next r piece s.consumed c)))

-- a piece was moved from the bytes read ahead
pub piece_taken : (cut : Cut) (old new bytes ahead rest : List ℕ) (content taken : ℕ) (ended : Bool)
    → bytes ≡ ahead → rest ≡ drop taken ahead → new ≡ old ++ take content bytes
    → (ended ≡ false → content ≡ taken)
    → Adds cut old (take taken bytes) (old ++ take content bytes) ended
    → (piece : List ℕ) × (ahead ≡ piece ++ rest) × Adds cut old piece new ended
    × (ended ≡ false → new ≡ old ++ piece)
piece_taken cut old new bytes ahead rest content taken ended same is grown all adds = (
  take taken bytes,
  sym same ∙ sym (take-append-drop taken bytes)
      ∙ ap (λ l. take taken bytes ++ l) (ap (drop taken) same ∙ sym is),
  rw grown adds,
  λ no. grown ∙ ap (λ n. old ++ take n bytes) (all no),
)

-- one more piece, with the cut of the reader
pub piece_more : (cut here : Cut) (all left next : Option (List ℕ)) (r new piece : List ℕ)
    (ended : Bool) → SoFar cut all left r → Consumes left next piece → here ≡ cut → ended ≡ false
    → Adds here r piece new ended × (ended ≡ false → new ≡ r ++ piece) → SoFar cut all next new
piece_more cut here all left next r new piece ended s c is not (adds, grown) =
    one_piece cut all left next r new piece s c (grown not) (rw (not, is) at adds)

-- the bytes read from the input are the buffered bytes of the record
pub taken : (cut : Cut) (all left next : Option (List ℕ)) (r now : List ℕ) → SoFar cut all left r
    → Keeps left next → now ≡ r → IfKnown all next (λ xs ys. xs ≡ now ++ ys)
taken cut all left next r now s kept same =
    rw same (consumed all next r (Consumes-kept all left next r s.consumed kept))

-- ---- the longest record that a shape allows

within_by : (format : Format) (rec_len n : ℕ) → HasRecordLength format rec_len n
    → n ≤ longest_by format rec_len
within_by Fixed rec_len n has = omega (arith, has)
within_by Counted rec_len n has = omega (arith, has)
within_by Spanned rec_len n has = has
within_by Undefined rec_len n has = absurd has
within_by Variable rec_len n has = absurd has

has_by : (format : Format) (rec_len n : ℕ) → HasRecordLength format rec_len n
    → HasRecordLength format rec_len (longest_by format rec_len)
has_by Fixed rec_len n has = refl
has_by Counted rec_len n has = omega (arith, has)
has_by Spanned rec_len n has = omega arith
has_by Undefined rec_len n has = absurd has
has_by Variable rec_len n has = absurd has

-- no record of the shape is longer
pub within_longest : (shape : Shape) (n : ℕ) → HasRecordLength shape.format shape.rec_len n
    → n ≤ longest shape
within_longest shape n has = within_by shape.format shape.rec_len n has

-- if the shape allows records, it allows records of this length
pub has_longest : (shape : Shape) (n : ℕ) → HasRecordLength shape.format shape.rec_len n
    → HasRecordLength shape.format shape.rec_len (longest shape)
has_longest shape n has = has_by shape.format shape.rec_len n has
