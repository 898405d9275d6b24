-- Header and trailer labels whose numbers or count are filled in, and those that can be read.
use Rattle.std.proofs.Common.{◌≡◌, ◌≤◌, ℕ, ◌+◌, ◌-◌, List, ◌++◌, length, take, drop, codes}
use Rattle.std.proofs.Common.{cond, Bool, true, false, ◌&&◌, not, nat_lt, Result, Ok, Err}
use Rattle.std.proofs.Common.{refl, sym, ap, ◌∙◌, arith, Option, Some, None, ◌≢◌, ◌<◌, ◌==◌}
use Rattle.std.proofs.Common.{append_assoc, drop_at, slice_range}
use Rattle.std.proofs.lemmas.List.{length-drop, length-take-le, length-append, take-append-le}
use Rattle.std.proofs.lemmas.{List.take-take, Bool.Decides.nat_tests}
use lib.Seq.{take_at}
use Rattle.std.specs.Str.{bytes_eq}
use Rattle.tape_label.specs.{Head1.HasHead, Trail1.IsTrail1, Positions.HasNumber}
use Rattle.tape_label.proofs.First.{trail1_found, trail1_again}
use Rattle.tape_core.proofs.Laid.{range_length, range_same}
use Rattle.tape_label.specs.declared.{values.Head1.Head1, values.Trail1.Trail1}
use Rattle.tape_label.specs.declared.{label.LabelFault.LabelFault}
use Rattle.tape_label.specs.{Positions.positions, Reading.head1_at, Reading.trail1_at}
use Rattle.tape_label.specs.Digits.{digits}
use Rattle.tape_core.specs.declared.normal.numbers.FileSeen.{FileSeen}
use Rattle.tape_set.specs.Lawful.{label_count}
use Rattle.tape_core.specs.NormalForm.Mended.{filled_number, number_or, number_at_or, numbered}
use Rattle.tape_core.specs.NormalForm.Mended.{is_dummy, seen_as, seen_of, headed, headed_by}
use Rattle.tape_core.specs.NormalForm.Mended.{trailed}
use Rattle.tape_core.specs.NormalForm.Mended.{trailed_by, completed, with_count, with_numbers}
use Rattle.tape_core.specs.NormalForm.Mended.{count_or, count_at_or, recounted, told, is_uncounted}
use Rattle.tape_core.specs.NormalForm.Mended.{is_some_count, without_count}
use Rattle.tape_core.proofs.NormalForm.KindKept.{filled_length}

-- ---- the length of a label

-- another field of the same length
put_80 : (before last : ℕ) (field b : List ℕ) → length b ≡ 80 → before ≤ last → last ≤ 80
    → length field + before ≡ last → length (take before b ++ (field ++ drop last b)) ≡ 80
put_80 before last field b e f l h =
    omega (
      arith,
      length-append (take before b) (field ++ drop last b),
      length-append field (drop last b),
      length-drop last b,
      length-take-le before b (omega (arith, e, f, l)),
      h,
      e,
      f,
      l,
    )

number_4 : (n : ℕ) (field : List ℕ) → length field ≡ 4 → length (number_or n field) ≡ 4
number_4 n field e = go (bytes_eq (filled_number field) (codes "0000"))
  where
    go : (t : Bool) → length (cond t (digits 4 n) (filled_number field)) ≡ 4
    go true = refl
    go false = filled_length field ∙ e

count_6 : (n : ℕ) (field : List ℕ) → length field ≡ 6 → length (count_or n field) ≡ 6
count_6 n field e = go (bytes_eq (filled_number field) (codes "000000"))
  where
    go : (t : Bool) → length (cond t (digits 6 n) (filled_number field)) ≡ 6
    go true = refl
    go false = filled_length field ∙ e

number_80 : (first n : ℕ) (b : List ℕ) → length b ≡ 80 → 1 ≤ first → first ≤ 77
    → length (number_at_or first (first + 3) n b) ≡ 80
number_80 first n b e f l =
    let field : List ℕ = positions b first (first + 3) in
    let r : length field + (first - 1) ≡ first + 3 =
    range_length b (first - 1) (first + 3) (omega (arith, f)) (omega (arith, e, l)) in
    let m : length (number_or n field) ≡ 4 = number_4 n field (omega (arith, r, f)) in
    put_80 (first - 1) (first + 3) (number_or n field) b e (omega (arith, f)) (omega (arith, l))
    (omega (arith, m, f))

numbered_80 : (n : ℕ) (b : List ℕ) → length b ≡ 80 → length (numbered n b) ≡ 80
numbered_80 n b e =
    number_80 32 n (number_at_or 28 31 1 b) (number_80 28 1 b e (omega arith) (omega arith))
    (omega arith) (omega arith)

with_numbers_80 : (seen : FileSeen) (b : List ℕ) → length b ≡ 80 → length (with_numbers seen b) ≡ 80
with_numbers_80 seen b e = go (seen.is_filled && nat_lt seen.sequence 10000)
  where
    go : (t : Bool) → length (cond t (numbered seen.sequence b) b) ≡ 80
    go true = numbered_80 seen.sequence b e
    go false = e

with_count_80 : (blocks : Option ℕ) (b : List ℕ) → length b ≡ 80 → length (with_count blocks b) ≡ 80
with_count_80 None b e = e
with_count_80 (Some n) b e =
    let field : List ℕ = positions b 55 60 in
    let r : length field + 54 ≡ 60 = range_length b 54 60 (omega arith) (omega (arith, e)) in
    let m : length (count_or (label_count n) field) ≡ 6 =
    count_6 (label_count n) field (omega (arith, r)) in
    put_80 54 60 (count_or (label_count n) field) b e (omega arith) (omega arith) (omega (arith, m))

pub headed_80 : (before : FileSeen) (b : List ℕ) → length b ≡ 80 → length (headed before b).0 ≡ 80
unfolding headed
headed_80 before b e = go (head1_at b) (head1_at (numbered (before.sequence + 1) b))
  where
    go : (x y : Result Head1 LabelFault) → length (headed_by before b x y).0 ≡ 80
    go (Ok h) y = e
    go (Err f) (Ok h) = by (nat_lt before.sequence 9999 && not (is_dummy b))
      where
        by : (t : Bool) → length (cond {A = List ℕ × FileSeen} t
            (numbered (before.sequence + 1) b, seen_as before true h)
            (b, seen_of before before.sequence false)).0 ≡ 80
        by true = numbered_80 (before.sequence + 1) b e
        by false = e
    go (Err f) (Err g) = e

pub trailed_80 : (seen : FileSeen) (b : List ℕ) → length b ≡ 80 → length (trailed seen b).0 ≡ 80
unfolding trailed
trailed_80 seen b e = go (trail1_at b) (trail1_at (completed seen b))
  where
    recounted_80 : (n : ℕ) (t : Bool) → is_uncounted seen n ≡ t → length (recounted seen n b).0 ≡ 80
    recounted_80 n true u = rw (u) (with_count_80 seen.blocks b e)
    recounted_80 n false u = rw (u) e

    go : (x y : Result Trail1 LabelFault) → length (trailed_by seen b x y).0 ≡ 80
    go (Ok t) y = recounted_80 t.blocks _ refl
    go (Err f) (Ok t) = with_count_80 seen.blocks (with_numbers seen b) (with_numbers_80 seen b e)
    go (Err f) (Err g) = e

-- ---- labels that stay

pub headed_ok : (before : FileSeen) (b : List ℕ) (h : Head1) → head1_at b ≡ Ok h
    → headed before b ≡ (b, seen_as before false h)
unfolding headed
headed_ok before b h e = rw (e) refl

-- a trailer label that can be read, and whose count is not replaced
pub trailed_ok : (seen : FileSeen) (b : List ℕ) (t : Trail1) → trail1_at b ≡ Ok t
    → is_uncounted seen t.blocks ≡ false → trailed seen b ≡ (b, told t.blocks seen)
unfolding trailed
trailed_ok seen b t e u = rw (e, u) refl

-- a count is replaced only if the number of blocks read is known,
pub none_uncounted : (seen : FileSeen) (n : ℕ) → seen.blocks ≡ None → is_uncounted seen n ≡ false
none_uncounted seen n e = rw (e) (by (not seen.counts) (n == 0))
  where
    by : (c z : Bool) → (c && (z && false)) ≡ false
    by true true = refl
    by true false = refl
    by false z = refl

-- and only if it is another number
pub same_uncounted : (seen : FileSeen) (n m : ℕ) → seen.blocks ≡ Some m → n ≡ label_count m
    → is_uncounted seen n ≡ false
same_uncounted seen n m e f = rw (e, f) (by (not seen.counts) (label_count m == 0))
  where
    by : (c z : Bool) → (c && (z && not z)) ≡ false
    by true true = refl
    by true false = refl
    by false z = refl

-- a label that stays, and a file whose header label has numbers
pub record StaysIn (seen : FileSeen) (b : List ℕ) : Type 0 where
  pub label : (trailed seen b).0 ≡ b
  pub filled : (trailed seen b).1.is_filled ≡ false

-- a trailer label whose header label has numbers, after an item that cannot be read
pub trailed_same : (seen : FileSeen) (b : List ℕ) → seen.is_filled ≡ false → seen.blocks ≡ None
    → StaysIn seen b
unfolding trailed
trailed_same seen b u n = record {
  label = ap (λ v. (trailed_by seen b (trail1_at b) (trail1_at v)).0) same ∙ (go (trail1_at b)).0;
  filled = ap (λ v. (trailed_by seen b (trail1_at b) (trail1_at v)).1.is_filled) same
      ∙ (go (trail1_at b)).1;
}
  where
    same : completed seen b ≡ b
    same = rw (n, u) refl

    go : (r : Result Trail1 LabelFault)
        → ((trailed_by seen b r r).0 ≡ b) × ((trailed_by seen b r r).1.is_filled ≡ false)
    go (Err f) = (refl, u)
    go (Ok t) = rw (none_uncounted seen t.blocks n) (refl, u)

-- ---- labels whose count is replaced

-- the label with other digits at the positions 55 to 60
module _ (b ds : List ℕ) (size : length b ≡ 80) (six : length ds ≡ 6) where
  abbrev other : List ℕ
  other = take 54 b ++ (ds ++ drop 60 b)

  front_54 : length (take 54 b) ≡ 54
  front_54 = length-take-le 54 b (omega (arith, size))

  before_same : (first last : ℕ) → first ≤ last → last ≤ 54
      → slice_range other first last ≡ slice_range b first last
  before_same first last f l =
      range_same other b first last f
      (take-append-le last (take 54 b) (ds ++ drop 60 b) (omega (arith, front_54, l))
      ∙ take-take last 54 b l)

  behind_same : drop 60 other ≡ drop 60 b
  behind_same =
      ap (drop 60) (sym (append_assoc (take 54 b) ds (drop 60 b)))
      ∙ drop_at (take 54 b ++ ds) (drop 60 b) 60
      (omega (arith, front_54, six, length-append (take 54 b) ds))

  count_is : positions other 55 60 ≡ ds
  count_is =
      ap (take 6) (drop_at (take 54 b) (ds ++ drop 60 b) 54 front_54)
      ∙ take_at ds (drop 60 b) 6 six

  other_80 : length other ≡ 80
  other_80 = put_80 54 60 ds b size (omega arith) (omega arith) (omega (arith, six))

  number_same : (first last least n : ℕ) → first ≤ last → last ≤ 54
      → HasNumber b first last least n → HasNumber other first last least n
  number_same first last least n f l h = record {
    spelled = before_same (first - 1) last (omega (arith, f)) l ∙ h.spelled;
    at_least = h.at_least;
    fits = h.fits;
  }

  head_same : (h : Head1) → HasHead b h → HasHead other h
  head_same h is = record {
    file_id = before_same 4 21 (omega arith) (omega arith) ∙ is.file_id;
    set_id = before_same 21 27 (omega arith) (omega arith) ∙ is.set_id;
    sect = number_same 28 31 1 h.sect (omega arith) (omega arith) is.sect;
    sequence = number_same 32 35 1 h.sequence (omega arith) (omega arith) is.sequence;
    generation = before_same 35 39 (omega arith) (omega arith) ∙ is.generation;
    gen_version = before_same 39 41 (omega arith) (omega arith) ∙ is.gen_version;
    created = before_same 41 47 (omega arith) (omega arith) ∙ is.created;
    expires = before_same 47 53 (omega arith) (omega arith) ∙ is.expires;
    access = before_same 53 54 (omega arith) (omega arith) ∙ is.access;
    implementation = ap (take 13) behind_same ∙ is.implementation;
  }

  trail_same : (t : Trail1) (n : ℕ) → IsTrail1 b t → ds ≡ digits 6 n → n < 1000000
      → IsTrail1 other (record { eof = t.eof; head = t.head; blocks = n })
  trail_same t n is e few = record {
    kind = record {
      size = other_80;
      named = before_same 0 4 (omega arith) (omega arith) ∙ is.kind.named;
    };
    head = head_same t.head is.head;
    blocks = record { spelled = count_is ∙ e; at_least = omega arith; fits = few };
  }

-- a label that counts no blocks, with another count
pub counted_read : (n : ℕ) (b : List ℕ) (t : Trail1) → trail1_at b ≡ Ok t → t.blocks ≡ 0
    → trail1_at (count_at_or 55 60 (label_count n) b)
    ≡ Ok (record { eof = t.eof; head = t.head; blocks = label_count n })
counted_read n b t e z =
    let is = trail1_found b t e in
    let field : positions b 55 60 ≡ digits 6 0 =
    is.blocks.spelled ∙ ap (λ v. digits 6 v) z in
    let ds : count_or (label_count n) (positions b 55 60) ≡ digits 6 (label_count n) =
    ap (λ v. count_or (label_count n) v) field in
    ap (λ v. trail1_at (take 54 b ++ (v ++ drop 60 b))) ds
    ∙ trail1_again _ _ (trail_same b (digits 6 (label_count n)) is.kind.size refl t (label_count n)
    is refl (omega arith))

-- such a label on a tape of which no label before it counts blocks
pub trailed_counted : (seen : FileSeen) (b : List ℕ) (t : Trail1) → trail1_at b ≡ Ok t
    → is_uncounted seen t.blocks ≡ true → (n : ℕ) → seen.blocks ≡ Some n
    → trailed seen b
    ≡ (count_at_or 55 60 (label_count n) b, without_count true seen)
unfolding trailed
trailed_counted seen b t e u n k = rw (e, u, k) refl

-- what is known where a count is replaced
pub record IsUncounted (seen : FileSeen) (blocks : ℕ) : Type 0 where
  pub count : ℕ
  pub known : seen.blocks ≡ Some count
  pub none : blocks ≡ 0
  pub some : label_count count ≢ 0

pub uncounted_is : (seen : FileSeen) (blocks : ℕ) → is_uncounted seen blocks ≡ true
    → IsUncounted seen blocks
uncounted_is seen blocks e = go (not seen.counts) (blocks == 0) seen.blocks refl refl e
  where
    by : (n : ℕ) (z : Bool) → (label_count n == 0) ≡ z → not z ≡ true → label_count n ≢ 0
    by n true f g = absurd (cc g)
    by n false f g = grind (arith, nat_tests)

    go : (c z : Bool) (o : Option ℕ) → (blocks == 0) ≡ z → seen.blocks ≡ o
        → (c && (z && is_some_count o)) ≡ true → IsUncounted seen blocks
    go true true (Some n) f k g = record {
      count = n;
      known = k;
      none = grind (arith, nat_tests);
      some = by n _ refl g;
    }
    go true true None f k g = absurd (cc g)
    go true false o f k g = absurd (cc g)
    go false z o f k g = absurd (cc g)
