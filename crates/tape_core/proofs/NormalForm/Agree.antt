-- The machine's table gives the normal form.
use Rattle.std.proofs.Common.{◌≡◌, ℕ, List, [], ◌∷◌, ◌++◌, Bool, true, false, Option, Some, None}
use Rattle.std.proofs.Common.{◌+◌, length, ◌==◌, refl, sym, ap, ◌∙◌, nat_lt, ◌&&◌, not, append_assoc}
use Rattle.std.proofs.lemmas.Slice.Eq.{bytes_eq-Decides}
use Rattle.std.specs.Str.{bytes_eq}
use Rattle.tape_image.specs.Tape.{TapeItem, block, bad, mark}
use Rattle.tape_label.specs.{Kinds.kind_at, VolumeLabels.is_volume_label}
use Rattle.tape_label.specs.WideHead2.{is_further_header}
use Rattle.tape_core.specs.declared.normal.code.Code.{Code}
use Rattle.tape_core.specs.declared.normal.code.Code.TheVariants.{Ascii, Ebcdic, PaddedAscii}
use Rattle.tape_core.specs.declared.normal.code.Code.TheVariants.{PaddedEbcdic}
use Rattle.tape_core.specs.declared.normal.machine.{TapePlace.TapePlace, Missing.Missing}
use Rattle.tape_core.specs.declared.normal.machine.TapePlace.TheVariants.{Start, Labels, Blank}
use Rattle.tape_core.specs.declared.normal.machine.TapePlace.TheVariants.{Second}
use Rattle.tape_core.specs.declared.normal.machine.TapePlace.TheVariants.{Headers, Data, Trailer}
use Rattle.tape_core.specs.declared.normal.machine.TapePlace.TheVariants.{Trailers}
use Rattle.tape_core.specs.declared.normal.machine.TapePlace.TheVariants.{Next, Ended, Over}
use Rattle.tape_core.specs.declared.normal.machine.Missing.TheVariants.{Nothing, VolumeLabel}
use Rattle.tape_core.specs.declared.normal.machine.Missing.TheVariants.{SecondLabel, Digits}
use Rattle.tape_core.specs.NormalForm.{Codes.in_ascii, Mended.is_vol1, Mended.is_hdr1}
use Rattle.tape_core.specs.NormalForm.{Mended.is_hdr2}
use Rattle.tape_core.specs.NormalForm.Mended.{is_first_trailer, is_dummy, mended, headed, trailed}
use Rattle.tape_core.specs.NormalForm.Mended.{no_file, lost}
use Rattle.tape_core.specs.declared.normal.numbers.FileSeen.{FileSeen}
use Rattle.tape_core.specs.NormalForm.{is_noise, most_dropped, of_labels, of_second, of_first}
use Rattle.tape_core.specs.NormalForm.{of_start, of_data, of_left, of_other, code_of}
use Rattle.tape_core.specs.NormalForm.{is_next_header, is_lost_header}
use Rattle.tape_core.proofs.Labels.{plain_text}
use Rattle.tape_core.specs.NormalForm.{of_trailers, of_headers}
use Rattle.tape_core.specs.NormalForm.Steps.{Gives, step_of, from, given, instead, instead_in}
use Rattle.tape_core.specs.NormalForm.Steps.{translated_with, mended_with, replaced_with, header_at}
use Rattle.tape_core.specs.NormalForm.Steps.{inserted, begin_in, ended_at, start_at, labels_at}
use Rattle.tape_core.specs.NormalForm.Steps.{second_at}
use Rattle.tape_core.specs.NormalForm.Steps.{any_at, trailer_at, next_at, drop_first, left_at}
use Rattle.tape_core.specs.NormalForm.Steps.{other_at, headers_at, trailers_at}

-- a label in either code becomes its characters in ASCII
instead_is : (code : Code) (b : List ℕ)
    → instead (instead_in code (in_ascii code b)) (block b) ≡ block (in_ascii code b) ∷ []
instead_is Ascii b = refl
instead_is Ebcdic b = refl
instead_is PaddedAscii b = refl
instead_is PaddedEbcdic b = refl

-- the rest after a label
behind : (adds : Missing) (code : Code) (b : List ℕ) (xs : List TapeItem)
    → given (translated_with adds code (in_ascii code b)) (block b) ++ xs
    ≡ inserted adds ++ block (in_ascii code b) ∷ xs
behind Nothing code b xs = ap (λ v. v ++ xs) (instead_is code b)
behind VolumeLabel code b xs = ap (λ v. (inserted VolumeLabel ++ v) ++ xs) (instead_is code b)
behind SecondLabel code b xs = ap (λ v. (inserted SecondLabel ++ v) ++ xs) (instead_is code b)
behind Digits code b xs = ap (λ v. (inserted Digits ++ v) ++ xs) (instead_is code b)

second_is : (code : Code) (b : List ℕ) (xs : List TapeItem) (t : Bool)
    → bytes_eq (mended (in_ascii code b)) (in_ascii code b) ≡ t
    → given (mended_with code (in_ascii code b)) (block b) ++ xs
    ≡ block (mended (in_ascii code b)) ∷ xs
second_is code b xs true e =
    rw (e) (behind Nothing code b xs)
    ∙ ap (λ v. block v ∷ xs) (sym ((bytes_eq-Decides (mended (in_ascii code b)) _).0 e))
second_is code b xs false e = rw (e) refl

-- another label in its place
replaced_is : (adds : Missing) (code : Code) (b better : List ℕ) (xs : List TapeItem) (t : Bool)
    → bytes_eq better (in_ascii code b) ≡ t
    → given (replaced_with adds code better (in_ascii code b)) (block b) ++ xs
    ≡ inserted adds ++ block better ∷ xs
replaced_is adds code b better xs true e =
    rw (e) (behind adds code b xs)
    ∙ ap (λ v. inserted adds ++ block v ∷ xs)
    (sym ((bytes_eq-Decides better (in_ascii code b)).0 e))
replaced_is adds code b better xs false e =
    rw (e) (append_assoc (inserted adds) (block better ∷ []) xs)

header_is : (adds : Missing) (code : Code) (before : FileSeen) (b : List ℕ) (xs : List TapeItem)
    → inserted adds ++ block (headed before (in_ascii code b)).0
    ∷ of_second code (headed before (in_ascii code b)).1 xs
    ≡ given (header_at code adds before (in_ascii code b)).1 (block b)
    ++ of_second code (headed before (in_ascii code b)).1 xs
header_is adds code before b xs =
    sym (replaced_is adds code b (headed before (in_ascii code b)).0
    (of_second code (headed before (in_ascii code b)).1 xs) _ refl)

any_behind : (code : Code) (b : List ℕ) (xs : List TapeItem) (t : Bool)
    → (length (in_ascii code b) == 80) ≡ t
    → block (in_ascii code b) ∷ xs ≡ given (any_at code (in_ascii code b)) (block b) ++ xs
any_behind code b xs true e = rw (e) (sym (ap (λ v. v ++ xs) (instead_is code b)))
any_behind code b xs false e = rw (e) (ap (λ v. block v ∷ xs) (plain_text code b e))

-- after an item that is not expected
left_behind : (code : Code) (seen : FileSeen) (place : FileSeen → TapePlace) (xs : List TapeItem)
    → of_left code seen xs (λ s. from (place s) xs) ≡ from (left_at code (place (lost seen))) xs
left_behind Ascii seen place xs = refl
left_behind code seen place xs = refl

-- ---- each place

module _ (b : List ℕ) (xs : List TapeItem) where
  other_by : (code : Code) (seen : FileSeen) (t : Bool) → is_lost_header code (in_ascii code b) ≡ t
      → of_other code seen b xs (λ s. of_second code s xs) (λ s. of_data code s xs)
      ≡ given (other_at code seen (in_ascii code b)).1 (block b)
      ++ from (other_at code seen (in_ascii code b)).0 xs
  other_by code seen true e = rw (e) (header_is Nothing code (lost seen) b xs)
  other_by code seen false e =
      rw (e) (ap (λ v. block b ∷ v) (left_behind code seen (λ s. Data code s) xs))

  other_gives : (code : Code) (seen : FileSeen)
      → of_other code seen b xs (λ s. of_second code s xs) (λ s. of_data code s xs)
      ≡ given (other_at code seen (in_ascii code b)).1 (block b)
      ++ from (other_at code seen (in_ascii code b)).0 xs
  other_gives code seen = other_by code seen (is_lost_header code (in_ascii code b)) refl

  headers_gives : (code : Code) (seen : FileSeen) (t : Bool)
      → is_next_header code (in_ascii code b) ≡ t
      → from (Headers code seen) (block b ∷ xs)
      ≡ given (headers_at code seen (in_ascii code b)).1 (block b)
      ++ from (headers_at code seen (in_ascii code b)).0 xs
  headers_gives code seen true e =
      rw (e) (any_behind code b (of_headers code seen xs) (length (in_ascii code b) == 80) refl)
  headers_gives code seen false e = rw (e) (other_gives code seen)

  trailers_gives : (code : Code) (seen : FileSeen) (t : Bool)
      → is_lost_header code (in_ascii code b) ≡ t
      → from (Trailers code seen) (block b ∷ xs)
      ≡ given (trailers_at code seen (in_ascii code b)).1 (block b)
      ++ from (trailers_at code seen (in_ascii code b)).0 xs
  trailers_gives code seen true e = rw (e) (header_is Nothing code (lost seen) b xs)
  trailers_gives code seen false e =
      rw (e) (any_behind code b (of_trailers code seen xs) (length (in_ascii code b) == 80) refl)

  next_gives : (code : Code) (seen : FileSeen) (t : Bool)
      → is_hdr1 (kind_at (in_ascii code b)) ≡ t
      → from (Next code seen) (block b ∷ xs)
      ≡ given (next_at code seen (in_ascii code b)).1 (block b)
      ++ from (next_at code seen (in_ascii code b)).0 xs
  next_gives code seen true e = rw (e) (header_is Nothing code seen b xs)
  next_gives Ascii seen false e = rw (e) refl
  next_gives code seen false e = rw (e) refl

  trailer_gives : (code : Code) (seen : FileSeen) (t : Bool)
      → is_first_trailer (kind_at (in_ascii code b)) ≡ t
      → from (Trailer code seen) (block b ∷ xs)
      ≡ given (trailer_at code seen (in_ascii code b)).1 (block b)
      ++ from (trailer_at code seen (in_ascii code b)).0 xs
  trailer_gives code seen true e =
      rw (e) (sym (replaced_is Nothing code b (trailed seen (in_ascii code b)).0
      (of_trailers code (trailed seen (in_ascii code b)).1 xs) _ refl))
  trailer_gives code seen false e = rw (e) (other_gives code seen)

  second_gives : (code : Code) (seen : FileSeen) (t u : Bool)
      → is_hdr2 (kind_at (in_ascii code b)) ≡ t
      → is_further_header (in_ascii code b) ≡ u
      → from (Second code seen) (block b ∷ xs)
      ≡ given (second_at code seen (in_ascii code b)).1 (block b)
      ++ from (second_at code seen (in_ascii code b)).0 xs
  second_gives code seen true u e f =
      rw (e) (sym (second_is code b (of_headers code seen xs) _ refl))
  second_gives code seen false true e f =
      rw (e, f) (sym (behind SecondLabel code b (of_headers code seen xs)))
  second_gives code seen false false e f = rw (e, f) (other_gives code seen)

  labels_gives : (code : Code) (n : ℕ) (v h t : Bool) → is_volume_label (in_ascii code b) ≡ v
      → (is_hdr1 (kind_at (in_ascii code b)) && not (is_dummy (in_ascii code b))) ≡ h
      → nat_lt n most_dropped ≡ t
      → from (Labels code n) (block b ∷ xs)
      ≡ given (labels_at code n (in_ascii code b)).1 (block b)
      ++ from (labels_at code n (in_ascii code b)).0 xs
  labels_gives code n true h t e f g =
      rw (e) (sym (behind Nothing code b (of_labels code n xs)))
  labels_gives code n false true t e f g =
      rw (e, f) (header_is Nothing code no_file b xs)
  labels_gives code n false false true e f g = rw (e, f, g) refl
  labels_gives code n false false false e f g = rw (e, f, g) refl

  first_gives : (n : ℕ) (code : Code) (v : Bool) → is_vol1 (kind_at (in_ascii code b)) ≡ v
      → of_first n b xs (λ c. of_labels c 0 xs) (λ c seen. of_second c seen xs)
      (of_start (n + 1) xs) (Some code)
      ≡ given (begin_in code (in_ascii code b)).1 (block b)
      ++ from (begin_in code (in_ascii code b)).0 xs
  first_gives n code true e = rw (e) (sym (behind Nothing code b (of_labels code 0 xs)))
  first_gives n code false e = rw (e) (header_is VolumeLabel code no_file b xs)

  start_gives : (n : ℕ) (o : Option Code) (z t : Bool) → code_of b ≡ o → is_noise b ≡ z
      → nat_lt n most_dropped ≡ t
      → from (Start n) (block b ∷ xs)
      ≡ given (start_at n b (code_of b)).1 (block b) ++ from (start_at n b (code_of b)).0 xs
  start_gives n (Some code) z t e f g = rw (e) (first_gives n code _ refl)
  start_gives n None true true e f g = rw (e, f, g) refl
  start_gives n None true false e f g = rw (e, f, g) refl
  start_gives n None false t e f g = rw (e, f) refl

  ended_gives : (o : Option Code) → code_of b ≡ o
      → from Ended (block b ∷ xs)
      ≡ given (ended_at (code_of b)).1 (block b) ++ from (ended_at (code_of b)).0 xs
  ended_gives (Some code) e = rw (e) refl
  ended_gives None e = rw (e) refl

-- ---- all of them

pub table_gives : (place : TapePlace) (item : TapeItem)
    → Gives place item (step_of place item).0 (step_of place item).1
table_gives (Start n) (block b) xs =
    start_gives b xs n (code_of b) (is_noise b) (nat_lt n most_dropped) refl refl refl
table_gives (Start n) mark xs = go (nat_lt n most_dropped) refl
  where
    go : (t : Bool) → nat_lt n most_dropped ≡ t
        → from (Start n) (mark ∷ xs)
        ≡ given (drop_first n).1 mark ++ from (drop_first n).0 xs
    go true e = rw (e) refl
    go false e = rw (e) refl
table_gives (Start n) bad xs = refl
table_gives (Labels code n) (block b) xs =
    labels_gives b xs code n (is_volume_label (in_ascii code b))
    (is_hdr1 (kind_at (in_ascii code b)) && not (is_dummy (in_ascii code b)))
    (nat_lt n most_dropped) refl refl refl
table_gives (Labels code n) mark xs = refl
table_gives (Labels code n) bad xs =
    ap (λ v. bad ∷ v) (left_behind code no_file (λ s. Headers code s) xs)
table_gives (Blank code) (block b) xs = other_gives b xs code no_file
table_gives (Blank code) mark xs = refl
table_gives (Blank code) bad xs =
    ap (λ v. bad ∷ v) (left_behind code no_file (λ s. Trailer code s) xs)
table_gives (Second code seen) (block b) xs =
    second_gives b xs code seen (is_hdr2 (kind_at (in_ascii code b)))
    (is_further_header (in_ascii code b))
    refl refl
table_gives (Second code seen) mark xs = refl
table_gives (Second code seen) bad xs =
    ap (λ v. bad ∷ v) (left_behind code seen (λ s. Headers code s) xs)
table_gives (Headers code seen) (block b) xs =
    headers_gives b xs code seen (is_next_header code (in_ascii code b)) refl
table_gives (Headers code seen) mark xs = refl
table_gives (Headers code seen) bad xs =
    ap (λ v. bad ∷ v) (left_behind code seen (λ s. Headers code s) xs)
table_gives (Data code seen) (block b) xs = refl
table_gives (Data code seen) mark xs = refl
table_gives (Data code seen) bad xs = refl
table_gives (Trailer code seen) (block b) xs =
    trailer_gives b xs code seen (is_first_trailer (kind_at (in_ascii code b))) refl
table_gives (Trailer code seen) mark xs =
    ap (λ v. mark ∷ v) (left_behind code seen (λ s. Trailer code s) xs)
table_gives (Trailer code seen) bad xs =
    ap (λ v. bad ∷ v) (left_behind code seen (λ s. Trailer code s) xs)
table_gives (Trailers code seen) (block b) xs =
    trailers_gives b xs code seen (is_lost_header code (in_ascii code b)) refl
table_gives (Trailers code seen) mark xs = refl
table_gives (Trailers code seen) bad xs =
    ap (λ v. bad ∷ v) (left_behind code seen (λ s. Trailers code s) xs)
table_gives (Next code seen) (block b) xs =
    next_gives b xs code seen (is_hdr1 (kind_at (in_ascii code b))) refl
table_gives (Next code seen) mark xs = refl
table_gives (Next code seen) bad xs =
    ap (λ v. bad ∷ v) (left_behind code seen (λ s. Headers code s) xs)
table_gives Ended (block b) xs =
    ended_gives b xs (code_of b) refl
table_gives Ended mark xs = refl
table_gives Ended bad xs = refl
table_gives Over item xs = refl
