-- Sets that are valid and have no unused space, but which no writer should write. A writer's own
-- contract has to exclude them.
use Rattle.std.proofs.Common.{ℕ, List, [], ◌∷◌, ◌++◌, true, refl, codes, lit≤}
use Rattle.std.specs.Prelude.{replicate}
use Rattle.tape_image.specs.Tape.{IsTapeItem, block}
use Rattle.tape_label.specs.{declared.values.Trail1.Trail1, Head1.HeadFits, Trail1.IsTrail1}
use Rattle.tape_label.specs.declared.values.Kind.TheVariants as kinds
use Rattle.tape_set.specs.Layout.{FileSet, Section, Volume}
use Rattle.tape_set.specs.{Lawful.TellsForm, Lawful.IsLawful, Tight.IsTight, Tight.second_of}
use Rattle.tape_set.proofs.Worked.{makes, alike_file, set_id, head, hdr1, hdr1_is, second}
use Rattle.tape_set.proofs.Worked.{second_is, second_sized, made, form, eighty}
use Rattle.tape_set.proofs.WorkedFile.{shape, shape_fits, writable}
use Rattle.tape_set.proofs.RefusedTight.{nothing_packed}

-- ---- no volumes and no files

abbrev nothing : FileSet
nothing = record { set_id = []; volumes = []; files = [] }

nothing_lawful : IsLawful nothing
nothing_lawful = record { volumes = tt; each = tt; files = tt; first = tt; goes_on = tt }

nothing_tight : (capacity : ℕ) → IsTight nothing capacity []
nothing_tight capacity = record { plain = tt; last = refl; files = tt; ends = tt; changes = tt }

-- ---- labels with other characters: those of VOL1 are not bytes, and the trailer label names
-- another file, set and day

abbrev odd_volume : Volume
odd_volume = record { vol1 = codes "VOL1" ++ replicate 76 300; labels = [] }

abbrev eof1 : List ℕ
eof1 = codes "EOF1ANOTHER          XYZ99900010001000100 99365 99365 000000of the system,      "

abbrev trail : Trail1
trail = record {
  eof = true;
  head = record {
    file_id = codes "ANOTHER          ";
    set_id = codes "XYZ999";
    sect = 1;
    sequence = 1;
    generation = codes "0001";
    gen_version = codes "00";
    created = codes " 99365";
    expires = codes " 99365";
    access = 32;
    implementation = codes "of the system";
  };
  blocks = 0;
}

eof1_is : IsTrail1 eof1 trail
eof1_is = search (lit≤, tt)

abbrev odd_section : Section
odd_section = record (made shape 1 1 1 true []) { trailer = eof1 }

abbrev odd : FileSet
odd = record { set_id = set_id; volumes = odd_volume ∷ []; files = (odd_section ∷ []) ∷ [] }

head_fits : HeadFits (head 1 1)
head_fits = record { sect = (lit≤ tt, lit≤ tt); sequence = (lit≤ tt, lit≤ tt) }

hdr2_sized : IsTapeItem (block (second kinds.Hdr2 shape))
hdr2_sized = second_sized kinds.Hdr2 shape tt shape_fits

eof2_sized : IsTapeItem (block (second kinds.Eof2 shape))
eof2_sized = second_sized kinds.Eof2 shape tt shape_fits

odd_lawful : IsLawful odd
odd_lawful = search (
  makes,
  alike_file shape,
  told,
  hdr1_is 1 1 head_fits,
  eof1_is,
  eighty (hdr1 1 1) (hdr1_is 1 1 head_fits).kind.size,
  hdr2_sized,
  eighty eof1 refl,
  eof2_sized,
) depth 9
  where
    told : TellsForm (form shape) odd_section
    told = record {
      head = head 1 1;
      second = second_of shape;
      hdr1 = hdr1_is 1 1 head_fits;
      hdr2 = second_is kinds.Hdr2 shape tt shape_fits;
      told = refl;
    }

odd_tight : IsTight odd 100000 (shape ∷ [])
odd_tight = search (makes, writable, second_is, shape_fits, nothing_packed) depth 9
