-- What the machine does with blocks that are not labels, and the length of labels that replace.
use Rattle.std.proofs.Common.{◌≡◌, ◌≢◌, ℕ, ◌+◌, List, length, Bool, true, false, cond, ◌==◌, nat_lt}
use Rattle.std.proofs.Common.{Option, Some, None, refl, ap, arith, ◌&&◌, not}
use Rattle.std.proofs.lemmas.{Bool.Decides.nat_tests}
use Rattle.std.specs.Str.{bytes_eq}
use Rattle.tape_image.specs.Tape.{TapeItem, block, bad, mark}
use Rattle.tape_label.specs.{Kinds.kind_at, VolumeLabels.is_volume_label, Reading.head2_at}
use Rattle.tape_label.specs.{Reading.wide_head2_at}
use Rattle.tape_label.specs.WideHead2.{is_further_header}
use Rattle.tape_core.specs.declared.normal.code.Code.{Code}
use Rattle.tape_core.specs.declared.normal.code.Code.TheVariants.{Ascii, Ebcdic, PaddedAscii}
use Rattle.tape_core.specs.declared.normal.code.Code.TheVariants.{PaddedEbcdic}
use Rattle.tape_core.specs.declared.normal.machine.{TapePlace.TapePlace, Change.Change}
use Rattle.tape_core.specs.declared.normal.machine.{Replacement.Replacement}
use Rattle.tape_core.specs.declared.normal.machine.TapePlace.TheVariants.{Start, Labels, Blank}
use Rattle.tape_core.specs.declared.normal.machine.TapePlace.TheVariants.{Second, Headers, Data}
use Rattle.tape_core.specs.declared.normal.machine.TapePlace.TheVariants.{Trailer, Trailers, Next}
use Rattle.tape_core.specs.declared.normal.machine.TapePlace.TheVariants.{Ended, Over}
use Rattle.tape_core.specs.declared.normal.machine.Replacement.TheVariants.{Same, Dropped, Label}
use Rattle.tape_core.specs.NormalForm.{Codes.in_ascii, Codes.is_label_length, is_noise}
use Rattle.tape_core.specs.NormalForm.{most_dropped, code_of, is_next_header, is_lost_header}
use Rattle.tape_core.specs.NormalForm.Mended.{is_vol1, is_hdr1, is_hdr2, is_first_trailer}
use Rattle.tape_core.specs.NormalForm.Mended.{is_dummy, mended, filled, is_ok, headed, trailed}
use Rattle.tape_core.specs.NormalForm.Mended.{counted, no_file, lost}
use Rattle.tape_core.specs.declared.normal.numbers.FileSeen.{FileSeen}
use Rattle.tape_core.specs.declared.normal.machine.Missing.{Missing}
use Rattle.tape_core.specs.declared.normal.machine.Missing.TheVariants.{Nothing, VolumeLabel}
use Rattle.tape_core.specs.NormalForm.Steps.{step_of, same, dropped, drop_first, drop_block}
use Rattle.tape_core.specs.NormalForm.Steps.{begin_in, start_at, instead_in, any_at}
use Rattle.tape_core.specs.NormalForm.Steps.{labels_at, second_at, mended_with, ended_at}
use Rattle.tape_core.specs.NormalForm.Steps.{trailer_at, next_at, replaced_with, header_at}
use Rattle.tape_core.specs.NormalForm.Steps.{left_at, other_at, headers_at, trailers_at}
use Rattle.tape_core.specs.NormalForm.Bytes.{unlabelled, unlabelled_instead}
use Rattle.tape_core.proofs.Labels.{no_kind, no_volume_label, no_code, other_text}
use Rattle.tape_core.proofs.Labels.{second_data, trailer_data, next_data, headers_data, code_80}
use Rattle.tape_core.proofs.Labels.{trailers_same, behind_header, other_data}
use Rattle.tape_core.proofs.NormalForm.{KindKept.filled_alike, Numbers.headed_80}
use Rattle.tape_core.proofs.NormalForm.{Numbers.trailed_80}

-- ---- blocks that are not labels

-- what the machine does with a block of another length, by whether it is noise
abbrev pub plain_of : TapePlace → Bool → TapePlace × Change
plain_of (Start n) z = cond z (drop_first n) (Over, same)
plain_of (Labels code n) z = drop_block code n
plain_of (Blank code) z = (left_at code (Data code (lost no_file)), same)
plain_of (Second code seen) z = (left_at code (Data code (lost seen)), same)
plain_of (Headers code seen) z = (behind_header code seen, same)
plain_of (Data code seen) z = (Data code (counted seen), same)
plain_of (Trailer code seen) z = (left_at code (Data code (lost seen)), same)
plain_of (Trailers code seen) z = (Trailers code seen, same)
plain_of (Next code seen) z = (left_at code (Data code (lost seen)), same)
plain_of Ended z = (Ended, dropped)
plain_of Over z = (Over, same)

pub plain_step : (place : TapePlace) (b : List ℕ) → is_label_length (length b) ≡ false
    → step_of place (block b) ≡ plain_of place (is_noise b)
plain_step (Start n) b h = rw (no_code b h) refl
plain_step (Labels code n) b h =
    let k = other_text code b h in
    rw (no_volume_label (in_ascii code b) k, no_kind (in_ascii code b) k) refl
plain_step (Blank code) b h = other_data code no_file (in_ascii code b) (other_text code b h)
plain_step (Second code seen) b h = second_data code seen (in_ascii code b) (other_text code b h)
plain_step (Headers code seen) b h = headers_data code seen (in_ascii code b) (other_text code b h)
plain_step (Data code seen) b h = refl
plain_step (Trailer code seen) b h = trailer_data code seen (in_ascii code b) (other_text code b h)
plain_step (Trailers code seen) b h = trailers_same code seen (in_ascii code b) (other_text code b h)
plain_step (Next code seen) b h = next_data code seen (in_ascii code b) (other_text code b h)
plain_step Ended b h = rw (no_code b h) refl
plain_step Over b h = refl

-- no label replaces such a block
pub plain_unlabelled : (place : TapePlace) (z : Bool)
    → unlabelled (plain_of place z) ≡ plain_of place z
plain_unlabelled (Start n) true = go (nat_lt n most_dropped)
  where
    go : (t : Bool) → unlabelled (cond t (Start (n + 1), dropped) (Over, same))
        ≡ cond t (Start (n + 1), dropped) (Over, same)
    go true = refl
    go false = refl
plain_unlabelled (Start n) false = refl
plain_unlabelled (Labels code n) z = go (nat_lt n most_dropped)
  where
    go : (t : Bool) → unlabelled (cond t (Labels code (n + 1), dropped) (Over, same))
        ≡ cond t (Labels code (n + 1), dropped) (Over, same)
    go true = refl
    go false = refl
plain_unlabelled (Blank code) z = refl
plain_unlabelled (Second code seen) z = refl
plain_unlabelled (Headers code seen) z = refl
plain_unlabelled (Data code seen) z = refl
plain_unlabelled (Trailer code seen) z = refl
plain_unlabelled (Trailers code seen) z = refl
plain_unlabelled (Next code seen) z = refl
plain_unlabelled Ended z = refl
plain_unlabelled Over z = refl

-- no label replaces a block that cannot be read
pub bad_unlabelled : (place : TapePlace) → unlabelled (step_of place bad) ≡ step_of place bad
bad_unlabelled (Start n) = refl
bad_unlabelled (Labels code n) = refl
bad_unlabelled (Blank code) = refl
bad_unlabelled (Second code seen) = refl
bad_unlabelled (Headers code seen) = refl
bad_unlabelled (Data code seen) = refl
bad_unlabelled (Trailer code seen) = refl
bad_unlabelled (Trailers code seen) = refl
bad_unlabelled (Next code seen) = refl
bad_unlabelled Ended = refl
bad_unlabelled Over = refl

-- ---- labels that replace

-- a label has 80 characters
abbrev pub Labelled : Replacement → Type 0
Labelled (Label text) = length text ≡ 80
Labelled other = Unit {0}

plain_labelled : (r : Replacement) → unlabelled_instead r ≡ r → Labelled r
plain_labelled Same e = tt
plain_labelled Dropped e = tt
plain_labelled (Label text) e = absurd (cc e)

first_labelled : (n : ℕ) → Labelled (drop_first n).1.instead
first_labelled n =
    plain_labelled _
    (ap (λ (s : TapePlace × Change). s.1.instead) (plain_unlabelled (Start n) true))

block_labelled : (code : Code) (n : ℕ) → Labelled (drop_block code n).1.instead
block_labelled code n =
    plain_labelled _
    (ap (λ (s : TapePlace × Change). s.1.instead) (plain_unlabelled (Labels code n) true))

mended_80 : (b : List ℕ) → length b ≡ 80 → length (mended b) ≡ 80
mended_80 b e =
    go (is_ok (head2_at b)) (is_ok (head2_at (filled b))) (is_ok (wide_head2_at b))
    (is_ok (wide_head2_at (filled b)))
  where
    go : (t u v w : Bool)
        → length (cond t b (cond u (filled b) (cond v b (cond w (filled b) b)))) ≡ 80
    go true u v w = e
    go false true v w = (filled_alike b e).size
    go false false true w = e
    go false false false true = (filled_alike b e).size
    go false false false false = e

-- ---- a label by its characters

module _ (t : List ℕ) (e : length t ≡ 80) where
  instead_labelled : (code : Code) → Labelled (instead_in code t)
  instead_labelled Ascii = tt
  instead_labelled Ebcdic = e
  instead_labelled PaddedAscii = e
  instead_labelled PaddedEbcdic = e

  replaced_labelled : (adds : Missing) (code : Code) (better : List ℕ) → length better ≡ 80
      → Labelled (replaced_with adds code better t).instead
  replaced_labelled adds code better h = go (bytes_eq better t) refl
    where
      go : (v : Bool) → bytes_eq better t ≡ v → Labelled (replaced_with adds code better t).instead
      go true f = rw (f) (instead_labelled code)
      go false f = rw (f) h

  header_labelled : (adds : Missing) (code : Code) (before : FileSeen)
      → Labelled (header_at code adds before t).1.instead
  header_labelled adds code before =
      replaced_labelled adds code (headed before t).0 (headed_80 before t e)

  other_by : (code : Code) (seen : FileSeen) (v : Bool) → is_lost_header code t ≡ v
      → Labelled (other_at code seen t).1.instead
  other_by code seen true p = rw (p) (header_labelled Nothing code (lost seen))
  other_by code seen false p = rw (p) tt

  other_labelled : (code : Code) (seen : FileSeen) → Labelled (other_at code seen t).1.instead
  other_labelled code seen = other_by code seen (is_lost_header code t) refl

  begun_labelled : (code : Code) (v : Bool) → is_vol1 (kind_at t) ≡ v
      → Labelled (begin_in code t).1.instead
  begun_labelled code true f = rw (f) (instead_labelled code)
  begun_labelled code false f = rw (f) (header_labelled VolumeLabel code no_file)

  labels_labelled : (code : Code) (n : ℕ) (v h : Bool) → is_volume_label t ≡ v
      → (is_hdr1 (kind_at t) && not (is_dummy t)) ≡ h
      → Labelled (labels_at code n t).1.instead
  labels_labelled code n true h f k = rw (f) (instead_labelled code)
  labels_labelled code n false true f k = rw (f, k) (header_labelled Nothing code no_file)
  labels_labelled code n false false f k = rw (f, k) (block_labelled code n)

  second_kept : (code : Code) (v : Bool) → bytes_eq (mended t) t ≡ v
      → Labelled (mended_with code t).instead
  second_kept code true f = rw (f) (instead_labelled code)
  second_kept code false f = rw (f) (mended_80 t e)

  second_labelled : (code : Code) (seen : FileSeen) (k f : Bool) → is_hdr2 (kind_at t) ≡ k
      → is_further_header t ≡ f → Labelled (second_at code seen t).1.instead
  second_labelled code seen true f p q = rw (p) (second_kept code _ refl)
  second_labelled code seen false true p q = rw (p, q) (instead_labelled code)
  second_labelled code seen false false p q = rw (p, q) (other_labelled code seen)

  any_labelled : (code : Code) → Labelled (any_at code t).instead
  any_labelled code = go (length t == 80) refl
    where
      go : (v : Bool) → (length t == 80) ≡ v → Labelled (any_at code t).instead
      go true f = rw (f) (instead_labelled code)
      go false f = rw (f) tt

  headers_labelled : (code : Code) (seen : FileSeen) (v : Bool) → is_next_header code t ≡ v
      → Labelled (headers_at code seen t).1.instead
  headers_labelled code seen true p = rw (p) (any_labelled code)
  headers_labelled code seen false p = rw (p) (other_labelled code seen)

  trailers_labelled : (code : Code) (seen : FileSeen) (v : Bool) → is_lost_header code t ≡ v
      → Labelled (trailers_at code seen t).1.instead
  trailers_labelled code seen true p = rw (p) (header_labelled Nothing code (lost seen))
  trailers_labelled code seen false p = rw (p) (any_labelled code)

  trailer_labelled : (code : Code) (seen : FileSeen) (k : Bool)
      → is_first_trailer (kind_at t) ≡ k → Labelled (trailer_at code seen t).1.instead
  trailer_labelled code seen true p =
      rw (p) (replaced_labelled Nothing code (trailed seen t).0 (trailed_80 seen t e))
  trailer_labelled code seen false p = rw (p) (other_labelled code seen)

  next_labelled : (code : Code) (before : FileSeen) (k : Bool) → is_hdr1 (kind_at t) ≡ k
      → Labelled (next_at code before t).1.instead
  next_labelled code before true p = rw (p) (header_labelled Nothing code before)
  next_labelled Ascii before false p = rw (p) tt
  next_labelled code before false p = rw (p) tt

-- ---- any item

start_labelled : (n : ℕ) (b : List ℕ) (o : Option Code) → code_of b ≡ o
    → Labelled (start_at n b o).1.instead
start_labelled n b (Some code) e = begun_labelled (in_ascii code b) (code_80 b code e) code _ refl
start_labelled n b None e = go (is_noise b) refl
  where
    go : (z : Bool) → is_noise b ≡ z → Labelled (start_at n b None).1.instead
    go true f = rw (f) (first_labelled n)
    go false f = rw (f) tt

ended_labelled : (o : Option Code) → Labelled (ended_at o).1.instead
ended_labelled (Some code) = tt
ended_labelled None = tt

-- the characters of a block are 80, or it is not a label
by_size : {A : Type 0} (t : List ℕ) → (length t ≡ 80 → A) → (length t ≢ 80 → A) → A
by_size {A = A} t f g = go (length t == 80) refl
  where
    go : (v : Bool) → (length t == 80) ≡ v → A
    go true e = f (grind (arith, nat_tests))
    go false e = g (grind (arith, nat_tests))

block_step_labelled : (place : TapePlace) (b : List ℕ) → Labelled (step_of place (block b)).1.instead
block_step_labelled (Start n) b = start_labelled n b (code_of b) refl
block_step_labelled (Labels code n) b =
    let t : List ℕ = in_ascii code b in
    by_size t (λ e. labels_labelled t e code n _ _ refl refl)
    (λ h. rw (no_volume_label t h, no_kind t h) (block_labelled code n))
block_step_labelled (Blank code) b =
    let t : List ℕ = in_ascii code b in
    by_size t (λ e. other_labelled t e code no_file) (λ h. rw (other_data code no_file t h) tt)
block_step_labelled (Second code seen) b =
    let t : List ℕ = in_ascii code b in
    by_size t (λ e. second_labelled t e code seen _ _ refl refl)
    (λ h. rw (second_data code seen t h) tt)
block_step_labelled (Headers code seen) b =
    let t : List ℕ = in_ascii code b in
    by_size t (λ e. headers_labelled t e code seen _ refl) (λ h. rw (headers_data code seen t h) tt)
block_step_labelled (Data code seen) b = tt
block_step_labelled (Trailer code seen) b =
    let t : List ℕ = in_ascii code b in
    by_size t (λ e. trailer_labelled t e code seen _ refl) (λ h. rw (trailer_data code seen t h) tt)
block_step_labelled (Trailers code seen) b =
    let t : List ℕ = in_ascii code b in
    by_size t (λ e. trailers_labelled t e code seen _ refl)
    (λ h. rw (trailers_same code seen t h) tt)
block_step_labelled (Next code seen) b =
    let t : List ℕ = in_ascii code b in
    by_size t (λ e. next_labelled t e code seen _ refl) (λ h. rw (next_data code seen t h) tt)
block_step_labelled Ended b = ended_labelled (code_of b)
block_step_labelled Over b = tt

-- a label that replaces an item has 80 characters
pub step_labelled : (place : TapePlace) (item : TapeItem) → Labelled (step_of place item).1.instead
step_labelled place (block b) = block_step_labelled place b
step_labelled place bad =
    plain_labelled _ (ap (λ (s : TapePlace × Change). s.1.instead) (bad_unlabelled place))
step_labelled (Start n) mark = first_labelled n
step_labelled (Labels code n) mark = tt
step_labelled (Blank code) mark = tt
step_labelled (Second code seen) mark = tt
step_labelled (Headers code seen) mark = tt
step_labelled (Data code seen) mark = tt
step_labelled (Trailer code seen) mark = tt
step_labelled (Trailers code seen) mark = tt
step_labelled (Next code seen) mark = tt
step_labelled Ended mark = tt
step_labelled Over mark = tt
