-- How many items the normal form of a tape has.
use Rattle.std.proofs.Common.{◌≡◌, ℕ, ◌+◌, ◌≤◌, Bool, true, false, nat_lt, ◌&&◌, not}
use Rattle.std.proofs.Common.{◌==◌}
use Rattle.std.proofs.Common.{List, [], ◌∷◌, length, Option, Some, None, refl, arith}
use Rattle.std.proofs.Common.{length-append}
use Rattle.std.specs.Str.{bytes_eq}
use Rattle.tape_image.specs.Tape.{TapeItem, block, bad, mark}
use Rattle.tape_label.specs.{Kinds.kind_at, VolumeLabels.is_volume_label}
use Rattle.tape_label.specs.WideHead2.{is_further_header}
use Rattle.tape_core.specs.declared.normal.code.Code.{Code}
use Rattle.tape_core.specs.declared.normal.code.Code.TheVariants.{Ascii}
use Rattle.tape_core.specs.declared.normal.machine.{TapePlace.TapePlace, Change.Change}
use Rattle.tape_core.specs.declared.normal.machine.{Replacement.Replacement, Missing.Missing}
use Rattle.tape_core.specs.declared.normal.machine.TapePlace.TheVariants.{Start, Labels, Blank}
use Rattle.tape_core.specs.declared.normal.machine.TapePlace.TheVariants.{Second, Headers, Data}
use Rattle.tape_core.specs.declared.normal.machine.TapePlace.TheVariants.{Trailer, Trailers, Next}
use Rattle.tape_core.specs.declared.normal.machine.TapePlace.TheVariants.{Ended, Over}
use Rattle.tape_core.specs.declared.normal.machine.Replacement.TheVariants.{Same, Dropped, Label}
use Rattle.tape_core.specs.declared.normal.machine.Missing.TheVariants.{Nothing, VolumeLabel}
use Rattle.tape_core.specs.declared.normal.machine.Missing.TheVariants.{SecondLabel, Digits}
use Rattle.tape_core.specs.NormalForm.{is_noise, most_dropped, code_of, Codes.in_ascii}
use Rattle.tape_core.specs.NormalForm.{is_next_header, is_lost_header}
use Rattle.tape_core.specs.NormalForm.Mended.{is_vol1, is_hdr1, is_hdr2, is_first_trailer}
use Rattle.tape_core.specs.NormalForm.Mended.{is_dummy, mended, headed, trailed, counted}
use Rattle.tape_core.specs.NormalForm.Mended.{uncounted, no_file, lost}
use Rattle.tape_core.specs.declared.normal.numbers.FileSeen.{FileSeen}
use Rattle.tape_core.specs.NormalForm.Steps.{step_of, from, given, inserted, instead, instead_in}
use Rattle.tape_core.specs.NormalForm.Steps.{begin_in, start_at, drop_first}
use Rattle.tape_core.specs.NormalForm.Steps.{drop_block, labels_at, second_at, any_at, trailer_at}
use Rattle.tape_core.specs.NormalForm.Steps.{next_at, ended_at, replaced_with, left_at, other_at}
use Rattle.tape_core.specs.NormalForm.Steps.{same, headers_at, trailers_at, header_at}
use Rattle.tape_core.proofs.NormalForm.{Agree.table_gives, Ahead.from_nil}

-- ---- how many items a step gives

-- how many more items the normal form may have from this place on
abbrev pub grown : TapePlace → ℕ
grown (Start n) = 1
grown place = 0

abbrev pub added : Missing → ℕ
added VolumeLabel = 1
added missing = 0

abbrev pub kept : Replacement → ℕ
kept Dropped = 0
kept other = 1

-- an item is inserted only at the start; and where an item stays, none is inserted later
pub record FitsIn (g : ℕ) (step : TapePlace × Change) : Type 0 where
  pub few : added step.1.missing + grown step.0 ≤ g
  pub one : kept step.1.instead + grown step.0 ≤ 1

kept_few : (r : Replacement) → kept r ≤ 1
kept_few Same = omega arith
kept_few Dropped = omega arith
kept_few (Label text) = omega arith

leaf : (g : ℕ) (next : TapePlace) (m : Missing) (r : Replacement) → grown next ≡ 0 → added m ≤ g
    → FitsIn g (next, record { missing = m; instead = r })
leaf g next m r e h = record {
  few = omega (arith, e, h);
  one = omega (arith, e, kept_few r);
}

drop_fits : (n : ℕ) (t : Bool) → nat_lt n most_dropped ≡ t → FitsIn 1 (drop_first n)
drop_fits n true e = rw (e) (record { few = omega arith; one = omega arith })
drop_fits n false e = rw (e) (leaf 1 Over Nothing Same refl (omega arith))

drop_block_fits : (code : Code) (n : ℕ) (t : Bool) → nat_lt n most_dropped ≡ t
    → FitsIn 0 (drop_block code n)
drop_block_fits code n true e =
    rw (e) (leaf 0 (Labels code (n + 1)) Nothing Dropped refl (omega arith))
drop_block_fits code n false e = rw (e) (leaf 0 Over Nothing Same refl (omega arith))

-- after an item that is not expected
left_fits : (code : Code) (place : TapePlace) → grown place ≡ 0
    → FitsIn 0 (left_at code place, same)
left_fits Ascii place g = leaf 0 Over Nothing Same refl (omega arith)
left_fits code place g = leaf 0 place Nothing Same g (omega arith)

module _ (b : List ℕ) where
  header_fits : (code : Code) (before : FileSeen)
      → FitsIn 0 (header_at code Nothing before (in_ascii code b))
  header_fits code before =
      leaf 0 (Second code (headed before (in_ascii code b)).1) Nothing
      (replaced_with Nothing code (headed before (in_ascii code b)).0 (in_ascii code b)).instead refl
      (omega arith)

  other_by : (code : Code) (seen : FileSeen) (t : Bool) → is_lost_header code (in_ascii code b) ≡ t
      → FitsIn 0 (other_at code seen (in_ascii code b))
  other_by code seen true p = rw (p) (header_fits code (lost seen))
  other_by code seen false p = rw (p) (left_fits code (Data code (lost seen)) refl)

  other_fits : (code : Code) (seen : FileSeen) → FitsIn 0 (other_at code seen (in_ascii code b))
  other_fits code seen = other_by code seen (is_lost_header code (in_ascii code b)) refl

  begun_fits : (code : Code) (v : Bool) → is_vol1 (kind_at (in_ascii code b)) ≡ v
      → FitsIn 1 (begin_in code (in_ascii code b))
  begun_fits code true f =
      rw (f) (leaf 1 (Labels code 0) Nothing (instead_in code (in_ascii code b)) refl (omega arith))
  begun_fits code false f =
      rw (f) (leaf 1 (Second code (headed no_file (in_ascii code b)).1) VolumeLabel
      (replaced_with VolumeLabel code (headed no_file (in_ascii code b)).0
      (in_ascii code b)).instead refl (omega arith))

  start_fits : (n : ℕ) (o : Option Code) (z : Bool) → is_noise b ≡ z → FitsIn 1 (start_at n b o)
  start_fits n (Some code) z e = begun_fits code _ refl
  start_fits n None true e = rw (e) (drop_fits n _ refl)
  start_fits n None false e = rw (e) (leaf 1 Over Nothing Same refl (omega arith))

  ended_fits : (o : Option Code) → FitsIn 0 (ended_at o)
  ended_fits (Some code) = leaf 0 Over Nothing Same refl (omega arith)
  ended_fits None = leaf 0 Ended Nothing Dropped refl (omega arith)

  labels_fit : (code : Code) (n : ℕ) (v h : Bool) → is_volume_label (in_ascii code b) ≡ v
      → (is_hdr1 (kind_at (in_ascii code b)) && not (is_dummy (in_ascii code b))) ≡ h
      → FitsIn 0 (labels_at code n (in_ascii code b))
  labels_fit code n true h f k =
      rw (f) (leaf 0 (Labels code n) Nothing (instead_in code (in_ascii code b)) refl (omega arith))
  labels_fit code n false true f k =
      rw (f, k) (leaf 0 (Second code (headed no_file (in_ascii code b)).1) Nothing
      (replaced_with Nothing code (headed no_file (in_ascii code b)).0 (in_ascii code b)).instead refl
      (omega arith))
  labels_fit code n false false f k = rw (f, k) (drop_block_fits code n _ refl)

  second_fits : (code : Code) (seen : FileSeen) (k f m : Bool)
      → is_hdr2 (kind_at (in_ascii code b)) ≡ k
      → is_further_header (in_ascii code b) ≡ f
      → bytes_eq (mended (in_ascii code b)) (in_ascii code b) ≡ m
      → FitsIn 0 (second_at code seen (in_ascii code b))
  second_fits code seen true f true p q r =
      rw (p, r) (leaf 0 (Headers code seen) Nothing (instead_in code (in_ascii code b)) refl
      (omega arith))
  second_fits code seen true f false p q r =
      rw (p, r) (leaf 0 (Headers code seen) Digits (Label (mended (in_ascii code b))) refl
      (omega arith))
  second_fits code seen false true m p q r =
      rw (p, q) (leaf 0 (Headers code seen) SecondLabel (instead_in code (in_ascii code b)) refl
      (omega arith))
  second_fits code seen false false m p q r = rw (p, q) (other_fits code seen)

  any_fits : (next : TapePlace) (code : Code) (t : Bool) → grown next ≡ 0
      → (length (in_ascii code b) == 80) ≡ t → FitsIn 0 (next, any_at code (in_ascii code b))
  any_fits next code true g e =
      rw (e) (leaf 0 next Nothing (instead_in code (in_ascii code b)) g (omega arith))
  any_fits next code false g e = rw (e) (leaf 0 next Nothing Same g (omega arith))

  headers_fit : (code : Code) (seen : FileSeen) (t : Bool)
      → is_next_header code (in_ascii code b) ≡ t
      → FitsIn 0 (headers_at code seen (in_ascii code b))
  headers_fit code seen true p = rw (p) (any_fits (Headers code seen) code _ refl refl)
  headers_fit code seen false p = rw (p) (other_fits code seen)

  trailers_fit : (code : Code) (seen : FileSeen) (t : Bool)
      → is_lost_header code (in_ascii code b) ≡ t
      → FitsIn 0 (trailers_at code seen (in_ascii code b))
  trailers_fit code seen true p = rw (p) (header_fits code (lost seen))
  trailers_fit code seen false p = rw (p) (any_fits (Trailers code seen) code _ refl refl)

  trailer_fits : (code : Code) (seen : FileSeen) (k : Bool)
      → is_first_trailer (kind_at (in_ascii code b)) ≡ k
      → FitsIn 0 (trailer_at code seen (in_ascii code b))
  trailer_fits code seen true p =
      rw (p) (leaf 0 (Trailers code (trailed seen (in_ascii code b)).1) Nothing
      (replaced_with Nothing code (trailed seen (in_ascii code b)).0 (in_ascii code b)).instead refl
      (omega arith))
  trailer_fits code seen false p = rw (p) (other_fits code seen)

  next_fits : (code : Code) (last : FileSeen) (k : Bool) → is_hdr1 (kind_at (in_ascii code b)) ≡ k
      → FitsIn 0 (next_at code last (in_ascii code b))
  next_fits code last true p =
      rw (p) (leaf 0 (Second code (headed last (in_ascii code b)).1) Nothing
      (replaced_with Nothing code (headed last (in_ascii code b)).0 (in_ascii code b)).instead refl
      (omega arith))
  next_fits Ascii last false p = rw (p) (leaf 0 Over Nothing Same refl (omega arith))
  next_fits code last false p =
      rw (p) (leaf 0 (Data code (lost last)) Nothing Same refl (omega arith))

pub step_fits : (place : TapePlace) (x : TapeItem) → FitsIn (grown place) (step_of place x)
step_fits (Start n) (block b) = start_fits b n (code_of b) _ refl
step_fits (Start n) mark = drop_fits n _ refl
step_fits (Start n) bad = leaf 1 Over Nothing Same refl (omega arith)
step_fits (Labels code n) (block b) = labels_fit b code n _ _ refl refl
step_fits (Labels code n) mark = leaf 0 (Blank code) Nothing Same refl (omega arith)
step_fits (Labels code n) bad = left_fits code (Headers code (lost no_file)) refl
step_fits (Blank code) (block b) = other_fits b code no_file
step_fits (Blank code) mark = leaf 0 Ended Nothing Same refl (omega arith)
step_fits (Blank code) bad = left_fits code (Trailer code (lost no_file)) refl
step_fits (Second code seen) (block b) = second_fits b code seen _ _ _ refl refl refl
step_fits (Second code seen) mark = leaf 0 (Data code seen) SecondLabel Same refl (omega arith)
step_fits (Second code seen) bad = left_fits code (Headers code (lost seen)) refl
step_fits (Headers code seen) (block b) = headers_fit b code seen _ refl
step_fits (Headers code seen) mark = leaf 0 (Data code seen) Nothing Same refl (omega arith)
step_fits (Headers code seen) bad = left_fits code (Headers code (lost seen)) refl
step_fits (Data code seen) (block b) =
    leaf 0 (Data code (counted seen)) Nothing Same refl (omega arith)
step_fits (Data code seen) mark = leaf 0 (Trailer code seen) Nothing Same refl (omega arith)
step_fits (Data code seen) bad = leaf 0 (Data code (uncounted seen)) Nothing Same refl (omega arith)
step_fits (Trailer code seen) (block b) = trailer_fits b code seen _ refl
step_fits (Trailer code seen) mark = left_fits code (Trailer code (lost seen)) refl
step_fits (Trailer code seen) bad = left_fits code (Trailer code (lost seen)) refl
step_fits (Trailers code seen) (block b) = trailers_fit b code seen _ refl
step_fits (Trailers code seen) mark = leaf 0 (Next code seen) Nothing Same refl (omega arith)
step_fits (Trailers code seen) bad = left_fits code (Trailers code (lost seen)) refl
step_fits (Next code seen) (block b) = next_fits b code seen _ refl
step_fits (Next code seen) mark = leaf 0 Ended Nothing Same refl (omega arith)
step_fits (Next code seen) bad = left_fits code (Headers code (lost seen)) refl
step_fits Ended (block b) = ended_fits b (code_of b)
step_fits Ended mark = leaf 0 Ended Nothing Dropped refl (omega arith)
step_fits Ended bad = leaf 0 Ended Nothing Dropped refl (omega arith)
step_fits Over (block b) = leaf 0 Over Nothing Same refl (omega arith)
step_fits Over mark = leaf 0 Over Nothing Same refl (omega arith)
step_fits Over bad = leaf 0 Over Nothing Same refl (omega arith)

-- ---- no more items than there were

instead_size : (r : Replacement) (x : TapeItem) → length (instead r x) ≡ kept r
instead_size Same x = refl
instead_size Dropped x = refl
instead_size (Label text) x = refl

inserted_size : (m : Missing) → length (inserted m) ≡ added m
inserted_size Nothing = refl
inserted_size VolumeLabel = refl
inserted_size SecondLabel = refl
inserted_size Digits = refl

-- the items that a step gives, and the rest
pub step_size : (place : TapePlace) (x : TapeItem) (rest : List TapeItem)
    → length (from place (x ∷ rest))
    ≡ added (step_of place x).1.missing + (kept (step_of place x).1.instead
    + length (from (step_of place x).0 rest))
step_size place x rest =
    let step = step_of place x in
    rw (table_gives place x rest) (omega (
      arith,
      length-append (given step.1 x) (from step.0 rest),
      length-append (inserted step.1.missing) (instead step.1.instead x),
      inserted_size step.1.missing,
      instead_size step.1.instead x,
    ))

pub shorter : (place : TapePlace) (items : List TapeItem)
    → length (from place items) ≤ length items + grown place
shorter place [] = rw (from_nil place) (omega arith)
shorter place (x ∷ rest) =
    let fits = step_fits place x in
    omega (arith, step_size place x rest, shorter (step_of place x).0 rest, fits.few, fits.one)
