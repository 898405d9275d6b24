-- For each further clause of a valid set, and of its volumes and files, a small set that violates
-- only this clause.
use Rattle.std.proofs.Common.{◌≡◌, ◌≤◌, ℕ, [], ◌∷◌, length, Bool, true, false, refl, ap, inl, inr}
use Rattle.std.proofs.Common.{arith, codes, lit≤}
use Rattle.std.specs.{Prelude.replicate, Prelude.slice_index, List.AllByRecursion}
use Rattle.tape_blocks.specs.Tight.{Chain}
use Rattle.tape_set.specs.Layout.{FileSet, Section, Volume, sections, ends_file}
use Rattle.tape_set.specs.Lawful.{IsLawful, IsVolume, IsSection, IsFile, HasForm, TellsForm}
use Rattle.tape_set.specs.Lawful.{StartsOnFirst, GoesOn, most_blocks}
use Rattle.tape_set.proofs.Worked.{makes, alike_file, set_id, vol1, made, form, Fit, made_section}
use Rattle.tape_set.proofs.Worked.{made_form, plain_volume_is, plain_set}
use Rattle.tape_set.proofs.RefusedLawful.{base, set_of}
use Rattle.tape_set.proofs.{Numbering.placed, WorkedFile.shape, WorkedFile.shape_fits}

-- ---- all clauses but one

pub record OnlyVolumes (set : FileSet) : Type 0 where
  pub each : AllByRecursion (IsSection set.set_id (length set.volumes)) (sections set)
  pub files : AllByRecursion IsFile set.files
  pub first : StartsOnFirst (sections set)
  pub goes_on : Chain GoesOn (sections set)
  pub refused : AllByRecursion IsVolume set.volumes → ⊥

pub record OnlyEach (set : FileSet) : Type 0 where
  pub volumes : AllByRecursion IsVolume set.volumes
  pub files : AllByRecursion IsFile set.files
  pub first : StartsOnFirst (sections set)
  pub goes_on : Chain GoesOn (sections set)
  pub refused : AllByRecursion (IsSection set.set_id (length set.volumes)) (sections set) → ⊥

pub record OnlyFiles (set : FileSet) : Type 0 where
  pub volumes : AllByRecursion IsVolume set.volumes
  pub each : AllByRecursion (IsSection set.set_id (length set.volumes)) (sections set)
  pub first : StartsOnFirst (sections set)
  pub goes_on : Chain GoesOn (sections set)
  pub refused : AllByRecursion IsFile set.files → ⊥

pub record OnlyFirst (set : FileSet) : Type 0 where
  pub volumes : AllByRecursion IsVolume set.volumes
  pub each : AllByRecursion (IsSection set.set_id (length set.volumes)) (sections set)
  pub files : AllByRecursion IsFile set.files
  pub goes_on : Chain GoesOn (sections set)
  pub refused : StartsOnFirst (sections set) → ⊥

pub record OnlyGoesOn (set : FileSet) : Type 0 where
  pub volumes : AllByRecursion IsVolume set.volumes
  pub each : AllByRecursion (IsSection set.set_id (length set.volumes)) (sections set)
  pub files : AllByRecursion IsFile set.files
  pub first : StartsOnFirst (sections set)
  pub refused : Chain GoesOn (sections set) → ⊥

-- a set that violates one of the clauses is not valid
lawful_violates_none : (set : FileSet) → IsLawful set → (OnlyVolumes set → ⊥) × (OnlyEach set → ⊥)
    × (OnlyFiles set → ⊥) × (OnlyFirst set → ⊥) × (OnlyGoesOn set → ⊥)
lawful_violates_none set l = grind arith

pub fit_of : (file sect n : ℕ) → 1 ≤ file → file ≤ 9999 → 1 ≤ sect → sect ≤ 9999 → n ≤ most_blocks
    → Fit file sect n
fit_of file sect n a b c d e = search (makes) depth 9

-- a section without blocks, in a set of `volumes` volumes
pub empty_section : (volumes volume file sect : ℕ) (eof : Bool) → 1 ≤ volume → volume ≤ volumes
    → 1 ≤ file → file ≤ 9999 → 1 ≤ sect → sect ≤ 9999
    → IsSection set_id volumes (placed file sect (made shape volume file sect eof []))
empty_section volumes volume file sect eof a b c d e f = made_section shape volumes volume file sect
    eof [] shape_fits (fit_of file sect 0 c d e f (lit≤ tt)) a b tt

pub empty_form : (volume file sect : ℕ) (eof : Bool) → 1 ≤ file → file ≤ 9999 → 1 ≤ sect
    → sect ≤ 9999 → HasForm (form shape) (made shape volume file sect eof [])
empty_form volume file sect eof c d e f = search (makes, made_form, shape_fits, fit_of) depth 9

pub empty_file : (volume file : ℕ) → ends_file (made shape volume file 1 true []) ≡ true → 1 ≤ file
    → file ≤ 9999 → IsFile (made shape volume file 1 true [] ∷ [])
empty_file volume file ends c d = search (makes, alike_file shape, empty_form) depth 9

-- ---- volumes

abbrev pub on_volume : Volume → FileSet
on_volume v = record { set_id = set_id; volumes = v ∷ []; files = (base ∷ []) ∷ [] }

pub only_volume : (v : Volume) → (IsVolume v → ⊥) → OnlyVolumes (on_volume v)
only_volume v wrong = search (makes, empty_section, empty_file) depth 9

-- VOL1 begins otherwise
no_vol1 : OnlyVolumes (on_volume (record { vol1 = replicate 80 32; labels = [] }))
no_vol1 = only_volume (record { vol1 = replicate 80 32; labels = [] })
    (λ h. let e : 32 ≡ 86 = ap (λ v. slice_index v 0) h.vol1.named in absurd (omega arith))

-- a further label is too short
short_label : OnlyVolumes (on_volume (record { vol1 = vol1; labels = codes "UVL1" ∷ [] }))
short_label = only_volume (record { vol1 = vol1; labels = codes "UVL1" ∷ [] })
    (λ h. let e : 4 ≡ 80 = h.labels.0.size in absurd (omega arith))

-- a further label does not begin like a volume label
other_label : OnlyVolumes (on_volume (record { vol1 = vol1; labels = replicate 80 65 ∷ [] }))
other_label = only_volume (record { vol1 = vol1; labels = replicate 80 65 ∷ [] })
    (λ h. elim h.labels.0.named [
      | inl e ↦ absurd (let d : 65 ≡ 86 = ap (λ v. slice_index v 0) e in omega arith)
      | inr e ↦ absurd (let d : 65 ≡ 85 = ap (λ v. slice_index v 0) e in omega arith)
    ])

-- ---- sections

-- the volume of the section does not exist
abbrev no_volume : FileSet
no_volume = record { set_id = set_id; volumes = []; files = (base ∷ []) ∷ [] }

no_such_volume : OnlyEach no_volume
no_such_volume = search (makes, empty_file) depth 9

-- a further trailer block is empty
abbrev with_empty_block : Section
with_empty_block = record base { trailers = [] ∷ [] }

empty_block : OnlyEach (set_of with_empty_block)
empty_block = record {
  volumes = (plain_volume_is, tt);
  files = (
    record {
      ends = refl;
      alike = (
        form shape,
        (
          record {
            labels = record {
              head = told.head;
              second = told.second;
              hdr1 = told.hdr1;
              hdr2 = told.hdr2;
              told = told.told;
            };
            held = tt;
          },
          tt,
        ),
      );
      order = refl;
    },
    tt,
  );
  first = refl;
  goes_on = tt;
  refused = λ h. absurd (omega (arith, h.0.sized.1.1.1.1.1.0.0));
}
  where
    told : TellsForm (form shape) base
    told = (empty_form 1 1 1 true (lit≤ tt) (lit≤ tt) (lit≤ tt) (lit≤ tt)).labels

-- ---- the order of sections

-- the first section is on volume 2
abbrev begun_on_second : FileSet
begun_on_second = plain_set 2 ((made shape 2 1 1 true [] ∷ []) ∷ [])

not_on_first : OnlyFirst begun_on_second
not_on_first = search (makes, empty_section, empty_file) depth 9

-- the second file begins on volume 3, although the first ends on volume 1
abbrev volume_left_out : FileSet
volume_left_out = plain_set 3 ((made shape 1 1 1 true [] ∷ []) ∷ (made shape 3 2 1 true []
    ∷ []) ∷ [])

not_on_next : OnlyGoesOn volume_left_out
not_on_next = search (makes, empty_section, empty_file) depth 9

-- both sections of a file are on the same volume
abbrev volume_twice : FileSet
volume_twice = plain_set 1 ((made shape 1 1 1 false [] ∷ made shape 1 1 2 true [] ∷ []) ∷ [])

both_on_one : OnlyGoesOn volume_twice
both_on_one = search (makes, alike_file shape, empty_section, empty_form) depth 9
