-- Further facts about a file's sections, blocks and parts.
use Rattle.std.proofs.Common.{◌≡◌, ◌≤◌, ℕ, zero, suc, List, [], ◌∷◌, ◌++◌, length, Bool, true}
use Rattle.std.proofs.Common.{false, Some, None, refl, ap, ◌∙◌, arith, slice_get, unwrap_or}
use Rattle.tape_label.specs.{declared.values.Trail1.Trail1, Kinds.identifier, Kinds.trailer}
use Rattle.tape_label.specs.{Positions.positions, Trail1.IsTrail1}
use Rattle.tape_blocks.specs.{Judged.begun_behind, Tight.Filled}
use Rattle.tape_set.specs.{declared.position.Position.TheVariants.Finished, Lawful.IsLawful}
use Rattle.tape_set.specs.Layout.{FileSet, Section, section_of, sections, ends_file}
use Rattle.tape_set.specs.Before.{section_parts, parts_of, parts_at, parts_before, before}
use Rattle.tape_set.proofs.{Everywhere.every_stands, Forms.all_four_digits}
use Rattle.tape_set.proofs.Numbering.{FileOf, placed, section_stands}
use Rattle.tape_set.proofs.FileParts.{file_is, file_lawful, order_end}

pub get_behind : {A : Type 0} (past rest : List A) (d : A) (n : ℕ) → length past ≡ n
    → slice_get (past ++ d ∷ rest) n ≡ Some d
get_behind [] rest d zero h = refl
get_behind [] rest d (suc n) h = absurd (omega arith)
get_behind (x ∷ past) rest d zero h = absurd (omega arith)
get_behind (x ∷ past) rest d (suc n) h = get_behind past rest d n (omega arith)

none_at : {A : Type 0} (xs : List A) → slice_get xs (length xs) ≡ None
none_at [] = refl
none_at (x ∷ xs) = none_at xs

pub no_parts_at : (blocks : List Filled) → parts_at blocks (length blocks) ≡ []
no_parts_at blocks = ap parts_of (none_at blocks)

-- a section ends its file exactly if its trailer says so
pub ends_as : (s : Section) (t : Trail1) → IsTrail1 s.trailer t → ends_file s ≡ t.eof
ends_as s t is = go t.eof is.kind.named
  where
    go : (eof : Bool) → positions s.trailer 1 4 ≡ identifier (trailer eof) → ends_file s ≡ eof
    go true e = rw e refl
    go false e = rw e refl

-- a section number has at most four digits
pub few_sections : (set : FileSet) (file sect : ℕ) (s : Section) → IsLawful set
    → section_of set file sect ≡ Some s → sect ≤ 9999
few_sections set file sect s l found = (every_stands
    (λ x. ((1 ≤ x.file) × (x.file ≤ 9999)) × ((1 ≤ x.sect) × (x.sect ≤ 9999))) (sections set)
    (placed file sect s) (all_four_digits set l) (section_stands set file sect s found)).1.1

module _ (set : FileSet) (file sect : ℕ) (w : Section) where
  -- a valid file leaves no record unfinished
  pub whole_begun : IsLawful set → (f : FileOf set file sect w)
      → begun_behind false (before set file Finished) ≡ false
  whole_begun l f =
      let is : before set file Finished ≡ section_parts f.sections =
      ap (λ o. parts_before (unwrap_or o []) Finished) (file_is set file sect w f) in
      ap (λ z. begun_behind false z) is
      ∙ order_end false false (section_parts f.sections) (file_lawful set file sect w l f).order
