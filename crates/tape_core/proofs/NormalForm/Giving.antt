-- What is left of an image in normal form after a step.
use Rattle.std.proofs.Common.{◌≡◌, ℕ, zero, suc, ◌+◌, ◌-◌, ◌≤◌, ◌<◌, Bool, true, false, nat_lt}
use Rattle.std.proofs.Common.{◌==◌, ◌&&◌, List, [], ◌∷◌, ◌++◌}
use Rattle.std.proofs.Common.{length, take, drop, min, replicate, Option, Some, None, IfSome, refl}
use Rattle.std.proofs.Common.{sym, ap, subst, ◌∙◌, arith, ◌%◌}
use Rattle.std.proofs.Common.{option_map, append_assoc, append-nil, length-append, length-drop}
use lib.Seq.{take-append-le, drop-append-le, drop_at, take_at, take-add, drop-drop}
use Rattle.std.proofs.lemmas.Bool.Decides.{nat_tests}
use Rattle.std.specs.Io.KnownBytes.{Consumes, Keeps, IsAtEnd, prepend_known}
use Rattle.std.proofs.KnownBytes.{prepend_known-nil}
use Rattle.byteorder.specs.{Endian.little_number}
use Rattle.tape_image.proofs.Words.{word-append}
use Rattle.tape_image.specs.Word.{mark_word, gap_word, longest_block, block_extent}
use Rattle.tape_image.specs.Tape.{block}
use Rattle.tape_core.specs.NormalForm.Steps.{step_of, same}
use Rattle.tape_core.specs.NormalForm.Steps.{counted_at}
use Rattle.tape_core.specs.NormalForm.Bytes.{unlabelled, block_step}
use Rattle.tape_core.specs.declared.normal.machine.{TapePlace.TapePlace}
use Rattle.tape_core.specs.declared.normal.machine.TapePlace.TheVariants.{Over}
use Rattle.tape_core.specs.declared.normal.machine.TapePlace.TheVariants as places
use Rattle.tape_core.specs.declared.normal.looking.Looked.{Looked}
use Rattle.tape_core.specs.declared.normal.image.Course.{Course}
use Rattle.tape_core.specs.declared.normal.image.Course.TheVariants.{Looking, Passing, Skipping}
use Rattle.tape_core.specs.NormalForm.Image.{left_in}
use Rattle.tape_core.specs.NormalForm.Bytes.{looked, looked_word, looked_label, is_over}
use Rattle.tape_core.specs.NormalForm.Bytes.{begins_label, reads_labels}
use Rattle.tape_core.specs.NormalForm.{Codes.is_label_length}
use Rattle.tape_core.specs.NormalForm.Bytes.{by_looked, normal_from, skipped, IsHeld, IsShort}
use Rattle.tape_core.proofs.NormalForm.Enough.{first_item, is_less, no_less, less_is, less_no}
use Rattle.tape_core.proofs.NormalForm.LookedAt.{looked_is, len_of}

-- ---- what is held is what is looked at

-- whether a label begins does not depend on more bytes
pub begins_more : (place : TapePlace) (xs more : List ℕ) → 4 ≤ length xs
    → begins_label place (xs ++ more) ≡ begins_label place xs
begins_more place xs more h =
    ap (λ w. reads_labels place && is_label_length w) (word-append xs more h)

label_more : (room : ℕ) (place : TapePlace) (w : ℕ) (xs more : List ℕ)
    → block_extent w ≤ length xs
    → looked_label room place w (xs ++ more) ≡ looked_label room place w xs
label_more room place w xs more h =
    let trail : ℕ = 4 + w + w % 2 in
    let long : 4 ≤ length (drop trail xs) = omega (arith, h, length-drop trail xs) in
    let wide : w ≤ length (drop 4 xs) = omega (arith, h, length-drop 4 xs) in
    rw (
      no_less (length xs) (block_extent w) h,
      no_less (length (xs ++ more)) (block_extent w) (omega (arith, h, length-append xs more)),
      drop-append-le trail xs more (omega (arith, h)),
      word-append (drop trail xs) more long,
      drop-append-le 4 xs more (omega (arith, h)),
      take-append-le w (drop 4 xs) more wide,
    ) refl

word_more : (room : ℕ) (place : TapePlace) (w : ℕ) (xs more : List ℕ) (m g b : Bool)
    → IsHeld place xs → little_number 4 xs ≡ w → (w == mark_word) ≡ m → (w == gap_word) ≡ g
    → begins_label place xs ≡ b
    → looked_word room place w (xs ++ more) ≡ looked_word room place w xs
word_more room place w xs more true g b h i d e f = rw (d) refl
word_more room place w xs more false true b h i d e f = rw (d, e) refl
word_more room place w xs more false false true h i d e f =
    rw (d, e, begins_more place xs more h.0, f) (label_more room place w xs more
    (subst (λ v. block_extent v ≤ length xs) i (h.1 f)))
word_more room place w xs more false false false h i d e f =
    rw (d, e, begins_more place xs more h.0, f) refl

-- what is looked at in the held bytes is what is looked at in all of them
pub looked_more : (room : ℕ) (place : TapePlace) (xs more : List ℕ) → IsHeld place xs
    → looked room place (xs ++ more) ≡ looked room place xs
looked_more room place xs more h = go (is_over place) refl
  where
    short : nat_lt (length xs) 4 ≡ false
    short = no_less (length xs) 4 h.0

    short_more : nat_lt (length (xs ++ more)) 4 ≡ false
    short_more = no_less (length (xs ++ more)) 4 (omega (arith, h.0, length-append xs more))

    first : is_over place ≡ false
        → looked room place (xs ++ more) ≡ looked_word room place (little_number 4 xs) (xs ++ more)
    first e = rw (e, short_more)
        (ap (λ w. looked_word room place w (xs ++ more)) (word-append xs more h.0))

    second : is_over place ≡ false
        → looked room place xs ≡ looked_word room place (little_number 4 xs) xs
    second e = rw (e, short) refl

    go : (o : Bool) → is_over place ≡ o → looked room place (xs ++ more) ≡ looked room place xs
    go true e = rw (e) refl
    go false e = first e ∙ word_more room place (little_number 4 xs) xs more _ _ _ h refl refl
        refl refl
        ∙ sym (second e)

begun_word : (place : TapePlace) (xs : List ℕ) → begins_label place xs ≡ true
    → is_label_length (little_number 4 xs) ≡ true
begun_word place xs e = go (reads_labels place) e
  where
    go : (r : Bool) → (r && is_label_length (little_number 4 xs)) ≡ true
        → is_label_length (little_number 4 xs) ≡ true
    go true e = e
    go false e = absurd (cc e)

-- a block that can be a label is no mark, and no gap
pub label_word : (w : ℕ) → is_label_length w ≡ true
    → ((w == mark_word) ≡ false) × ((w == gap_word) ≡ false)
label_word w e = (grind (arith, nat_tests), grind (arith, nat_tests))

label_few : (room : ℕ) (place : TapePlace) (w : ℕ) (xs : List ℕ) → length xs < block_extent w
    → is_label_length w ≡ true → begins_label place xs ≡ true → looked_word room place w xs ≡ None
label_few room place w xs h e b =
    rw ((label_word w e).0, (label_word w e).1, b, is_less (length xs) (block_extent w) h) refl

-- nothing is looked at if too few bytes are left
pub looked_few : (room : ℕ) (place : TapePlace) (xs : List ℕ) → IsShort place xs
    → looked room place xs ≡ None
looked_few room place xs h = go (is_over place) (nat_lt (length xs) 4) refl refl
  where
    go : (o t : Bool) → is_over place ≡ o → nat_lt (length xs) 4 ≡ t → looked room place xs ≡ None
    go true t e f = rw (e) refl
    go false true e f = rw (e, f) refl
    go false false e f =
        let short = h (less_no (length xs) 4 f) in
        rw (e, f) (label_few room place (little_number 4 xs) xs short.1
        (begun_word place xs short.0) short.0)

-- what is held is looked at
pub seen_front : (a : Option (List ℕ)) (room : ℕ) (place : TapePlace) (held : List ℕ)
    (o : Option Looked) → IsHeld place held → o ≡ looked room place held
    → IfSome (prepend_known held a) (λ xs. o ≡ looked room place xs)
seen_front None room place held o h e = tt
seen_front (Some ys) room place held o h e = e ∙ sym (looked_more room place held ys h)

-- too little is held
pub seen_few : (a : Option (List ℕ)) (room : ℕ) (place : TapePlace) (held : List ℕ)
    → IsShort place held → IsAtEnd a
    → IfSome (prepend_known held a) (λ xs. None ≡ looked room place xs)
seen_few None room place held h e = tt
seen_few (Some ys) room place held h e =
    let whole : held ++ ys ≡ held = ap (λ (r : List ℕ). held ++ r) e ∙ append-nil held in
    rw (whole) (sym (looked_few room place held h))

-- a block that is not a label
pub block_shown : (place : TapePlace) (w n k : ℕ) → w ≤ longest_block → k ≡ min n 121
    → unlabelled (step_of place (block (take k (replicate 121 0)))) ≡ block_step place w n
block_shown place w n k h e = rw (no_less longest_block w h, e) refl

-- ---- one step

-- the same is left if each known list gives the same
pub keeps_by : (a b : Option (List ℕ)) (f g : List ℕ → List ℕ) → Keeps a b
    → IfSome b (λ xs. f xs ≡ g xs) → Keeps (option_map f a) (option_map g b)
keeps_by None b f g k h = tt
keeps_by (Some x) None f g k h = absurd k
keeps_by (Some x) (Some y) f g k h = sym h ∙ ap f k

-- the same after some bytes were taken
pub taken_by : (a b : Option (List ℕ)) (bs : List ℕ) (f g : List ℕ → List ℕ) → Consumes a b bs
    → ((ys : List ℕ) → f (bs ++ ys) ≡ g ys) → Keeps (option_map f a) (option_map g b)
taken_by None b bs f g k h = tt
taken_by (Some x) None bs f g k h = absurd k
taken_by (Some x) (Some y) bs f g k h = sym (ap f k ∙ h y)

-- bytes that were taken are given on
pub given_by : (a b : Option (List ℕ)) (bs : List ℕ) (f g : List ℕ → List ℕ) → Consumes a b bs
    → ((ys : List ℕ) → f (bs ++ ys) ≡ bs ++ g ys) → Consumes (option_map f a) (option_map g b) bs
given_by None b bs f g k h = tt
given_by (Some x) None bs f g k h = absurd k
given_by (Some x) (Some y) bs f g k h = ap f k ∙ h y

-- nothing is left of nothing
pub ends_by : (b : Option (List ℕ)) (g : List ℕ → List ℕ) → IsAtEnd b → g [] ≡ []
    → IsAtEnd (option_map g b)
ends_by None g e h = tt
ends_by (Some y) g e h = ap g e ∙ h

-- the rest is left as it is
pub over_left : (room : ℕ) (xs : List ℕ) → normal_from room Over xs ≡ xs
over_left room xs = first_item room Over xs

-- the item is replaced
pub item_left : (room : ℕ) (place : TapePlace) (xs : List ℕ) (o : Option Looked)
    → o ≡ looked room place xs → normal_from room place xs ≡ by_looked o room xs normal_from
item_left room place xs o e =
    first_item room place xs ∙ ap (λ (p : Option Looked). by_looked p room xs normal_from) (sym e)

drop_behind : (count left : ℕ) (bs ys : List ℕ) → length bs + left ≡ count
    → drop count (bs ++ ys) ≡ drop left ys
drop_behind count left bs ys e =
    ap (λ n. drop n (bs ++ ys)) (sym e) ∙ sym (drop-drop left (length bs) (bs ++ ys))
    ∙ ap (drop left) (drop_at bs ys (length bs) refl)

take_behind : (count left : ℕ) (bs ys : List ℕ) → length bs + left ≡ count
    → take count (bs ++ ys) ≡ bs ++ take left ys
take_behind count left bs ys e =
    ap (λ n. take n (bs ++ ys)) (sym e) ∙ take-add (length bs) left (bs ++ ys)
    ∙ ap (λ (l : List ℕ). l ++ take left (drop (length bs) (bs ++ ys)))
    (take_at bs ys (length bs) refl)
    ∙ ap (λ (l : List ℕ). bs ++ take left l) (drop_at bs ys (length bs) refl)

-- some of the bytes to be left out were taken
pub skip_more : (count left : ℕ) (bs ys : List ℕ) (f : List ℕ → List ℕ) → length bs + left ≡ count
    → skipped count (bs ++ ys) (f (drop count (bs ++ ys))) ≡ skipped left ys (f (drop left ys))
skip_more count left bs ys f e = go (nat_lt (length ys) left) refl
  where
    go : (t : Bool) → nat_lt (length ys) left ≡ t
        → skipped count (bs ++ ys) (f (drop count (bs ++ ys))) ≡ skipped left ys (f (drop left ys))
    go true d =
        let h = less_is (length ys) left d in
        rw (d, is_less (length (bs ++ ys)) count (omega (arith, h, e, length-append bs ys))) refl
    go false d =
        let h = less_no (length ys) left d in
        rw (d, no_less (length (bs ++ ys)) count (omega (arith, h, e, length-append bs ys)))
        (ap f (drop_behind count left bs ys e))

-- some of the bytes to be given on were taken
pub pass_more : (count left : ℕ) (bs ys : List ℕ) (f : List ℕ → List ℕ) → length bs + left ≡ count
    → take count (bs ++ ys) ++ f (drop count (bs ++ ys))
    ≡ bs ++ (take left ys ++ f (drop left ys))
pass_more count left bs ys f e =
    ap (λ (l : List ℕ). l ++ f (drop count (bs ++ ys))) (take_behind count left bs ys e)
    ∙ ap (λ (l : List ℕ). (bs ++ take left ys) ++ f l) (drop_behind count left bs ys e)
    ∙ append_assoc bs (take left ys) (f (drop left ys))

-- ---- what is left after each step

module _ (a b : Option (List ℕ)) (room : ℕ) (place : TapePlace) where
  -- the next item was looked at
  pub replaced_keeps : (ins lab : List ℕ) (course : Course) (o : Option Looked) → ins ≡ []
      → lab ≡ [] → course ≡ Looking → Keeps a b → IfSome b (λ xs. o ≡ looked room place xs)
      → Keeps (option_map (λ xs. ins ++ (lab ++ left_in course room place xs)) a)
      (option_map (λ xs. by_looked o room xs normal_from) b)
  replaced_keeps ins lab course o i l c k h = rw (i, l, c) (go a b k h)
    where
      go : (a b : Option (List ℕ)) → Keeps a b → IfSome b (λ xs. o ≡ looked room place xs)
          → Keeps (option_map (λ xs. normal_from room place xs) a)
          (option_map (λ xs. by_looked o room xs normal_from) b)
      go None b k h = tt
      go (Some x) None k h = absurd k
      go (Some x) (Some y) k h =
          sym (item_left room place y o h) ∙ ap (λ z. normal_from room place z) k

  -- there is none
  pub over_keeps : (ins lab : List ℕ) (course : Course) → course ≡ Looking → Keeps a b
      → IfSome b (λ xs. None ≡ looked room place xs)
      → Keeps (option_map (λ xs. ins ++ (lab ++ left_in course room place xs)) a)
      (option_map (λ xs. ins ++ (lab ++ left_in (Passing 0) room Over xs)) b)
  over_keeps ins lab course c k h = rw (c) (go a b k h)
    where
      go : (a b : Option (List ℕ)) → Keeps a b → IfSome b (λ xs. None ≡ looked room place xs)
          → Keeps (option_map (λ xs. ins ++ (lab ++ normal_from room place xs)) a)
          (option_map (λ xs. ins ++ (lab ++ left_in (Passing 0) room Over xs)) b)
      go None b k h = tt
      go (Some x) None k h = absurd k
      go (Some x) (Some y) k h = ap (λ z. ins ++ (lab ++ z))
          (over_left room y ∙ sym (item_left room place y None h)
          ∙ ap (λ z. normal_from room place z) k)

  -- some of the bytes to be left out were taken
  pub skipping_keeps : (ins lab : List ℕ) (course : Course) (count left : ℕ) (bs : List ℕ)
      → course ≡ Skipping count → Consumes a b bs → length bs + left ≡ count
      → Keeps (option_map (λ xs. ins ++ (lab ++ left_in course room place xs)) a)
      (option_map (λ xs. ins ++ (lab ++ left_in (Skipping left) room place xs)) b)
  skipping_keeps ins lab course count left bs c k e = rw (c) (taken_by a b bs
      (λ xs. ins ++ (lab ++ left_in (Skipping count) room place xs))
      (λ xs. ins ++ (lab ++ left_in (Skipping left) room place xs)) k
      (λ ys. ap (λ z. ins ++ (lab ++ z)) (skip_more count left bs ys (normal_from room place) e)))

  -- some of the bytes to be given on were taken
  pub passing_gives : (ins lab : List ℕ) (course : Course) (count left n : ℕ) (bs : List ℕ)
      → ins ≡ [] → lab ≡ [] → course ≡ Passing count → Consumes a b bs → length bs + left ≡ count
      → (n ≡ 0 → IsAtEnd b)
      → Consumes (option_map (λ xs. ins ++ (lab ++ left_in course room place xs)) a)
      (option_map (λ xs. ins ++ (lab ++ left_in (Passing left) room place xs)) b) bs
      × (n ≡ 0 → IsAtEnd (option_map
      (λ xs. ins ++ (lab ++ left_in (Passing left) room place xs)) b))
  passing_gives ins lab course count left n bs i l c k e z = rw (i, l, c) (
    given_by a b bs (left_in (Passing count) room place) (left_in (Passing left) room place) k
        (λ ys. pass_more count left bs ys (normal_from room place) e),
    λ none. ends_by b (left_in (Passing left) room place) (z none) (nothing_passed left),
  )
    where
      nothing_passed : (left : ℕ) → left_in (Passing left) room place [] ≡ []
      nothing_passed zero = refl
      nothing_passed (suc n) = refl

  -- everything is given on
  pub over_gives : (ins lab : List ℕ) (course : Course) (n : ℕ) (bs : List ℕ) → ins ≡ []
      → lab ≡ [] → course ≡ Looking → place ≡ Over → Consumes a b bs → (n ≡ 0 → IsAtEnd b)
      → Consumes (option_map (λ xs. ins ++ (lab ++ left_in course room place xs)) a)
      (option_map (λ xs. ins ++ (lab ++ left_in course room place xs)) b) bs
      × (n ≡ 0 → IsAtEnd (option_map
      (λ xs. ins ++ (lab ++ left_in course room place xs)) b))
  over_gives ins lab course n bs i l c p k z = rw (i, l, c, p) (
    given_by a b bs (normal_from room Over) (normal_from room Over) k
        (λ ys. over_left room (bs ++ ys) ∙ ap (λ (r : List ℕ). bs ++ r) (sym (over_left room ys))),
    λ none. ends_by b (normal_from room Over) (z none) refl,
  )

-- ---- the word of a block of data

-- where data are, a block stays as it is
pub data_looked : (room : ℕ) (place : TapePlace) (w : ℕ) (xs : List ℕ)
    → reads_labels place ≡ false → is_over place ≡ false → 4 ≤ length xs → little_number 4 xs ≡ w
    → 0 < w → w ≤ longest_block → block_extent w ≤ room
    → Some (record { size = block_extent w; next = counted_at place; change = same })
    ≡ looked room place xs
data_looked room (places.Data code seen) w xs d o h e some few fits =
    let mark : (w == mark_word) ≡ false = grind (arith, nat_tests) in
    let gap : (w == gap_word) ≡ false = grind (arith, nat_tests) in
    let word : looked_word room (places.Data code seen) w xs
    ≡ Some (record {
      size = block_extent w;
      next = counted_at (places.Data code seen);
      change = same;
    }) =
    rw (
      mark,
      gap,
      len_of w some few,
      no_less room (block_extent w) fits,
      no_less longest_block w few,
    ) refl in
    sym (looked_is room (places.Data code seen) xs w refl h e ∙ word)
data_looked room places.Over w xs d o h e some few fits = absurd (cc o)
data_looked room (places.Start n) w xs d o h e some few fits = absurd (cc d)
data_looked room (places.Labels code n) w xs d o h e some few fits = absurd (cc d)
data_looked room (places.Blank code) w xs d o h e some few fits = absurd (cc d)
data_looked room (places.Second code seen) w xs d o h e some few fits = absurd (cc d)
data_looked room (places.Headers code seen) w xs d o h e some few fits = absurd (cc d)
data_looked room (places.Trailer code seen) w xs d o h e some few fits = absurd (cc d)
data_looked room (places.Trailers code seen) w xs d o h e some few fits = absurd (cc d)
data_looked room (places.Next code seen) w xs d o h e some few fits = absurd (cc d)
data_looked room places.Ended w xs d o h e some few fits = absurd (cc d)

-- the word of a block of data is given on
pub word_gives : (a b : Option (List ℕ)) (held : List ℕ) (room : ℕ) (place : TapePlace)
    (ins lab : List ℕ) (course : Course) (w : ℕ) (bs : List ℕ) → held ≡ [] → ins ≡ [] → lab ≡ []
    → course ≡ Looking → reads_labels place ≡ false → is_over place ≡ false → Consumes a b bs
    → length bs ≡ 4 → little_number 4 bs ≡ w → 0 < w → w ≤ longest_block → block_extent w ≤ room
    → Consumes
    (option_map (λ xs. ins ++ (lab ++ left_in course room place xs)) (prepend_known held a))
    (option_map (λ xs. ins ++ (lab ++ left_in (Passing (block_extent w - 4))
    (room - block_extent w) (counted_at place) xs)) (prepend_known held b)) bs
word_gives a b held room place ins lab course w bs h i l c d o k four e some few fits =
    rw (h, prepend_known-nil a, prepend_known-nil b, i, l, c) (given_by a b bs
    (normal_from room place)
    (left_in (Passing (block_extent w - 4)) (room - block_extent w) (counted_at place)) k more)
  where
    more : (ys : List ℕ) → normal_from room place (bs ++ ys)
        ≡ bs ++ left_in (Passing (block_extent w - 4)) (room - block_extent w) (counted_at place) ys
    more ys =
        item_left room place (bs ++ ys)
        (Some (record { size = block_extent w; next = counted_at place; change = same }))
        (data_looked room place w (bs ++ ys) d o (omega (arith, four, length-append bs ys))
        (word-append bs ys (omega (arith, four)) ∙ e) some few fits)
        ∙ pass_more (block_extent w) (block_extent w - 4) bs ys
        (normal_from (room - block_extent w) (counted_at place)) (omega (arith, four))

-- the inserted label is given on
pub inserted_gives : (a : Option (List ℕ)) (all front rest : List ℕ) (f : List ℕ → List ℕ)
    → all ≡ front ++ rest
    → Consumes (option_map (λ xs. all ++ f xs) a) (option_map (λ xs. rest ++ f xs) a) front
inserted_gives None all front rest f e = tt
inserted_gives (Some x) all front rest f e =
    ap (λ (r : List ℕ). r ++ f x) e ∙ append_assoc front rest (f x)

-- ---- tests

pub some_are : (n : ℕ) → (n == 0) ≡ false → 0 < n
some_are n e = grind (arith, nat_tests)

pub none_are : (xs : List ℕ) → (length xs == 0) ≡ true → xs ≡ []
none_are [] e = refl
none_are (x ∷ xs) e = grind (arith, nat_tests)
