-- The result of `write_set`.
use Rattle.std.specs.Prelude.{List, None, Option, ℕ, Bool, Some}
use Rattle.tape_label.specs.{declared.values.Format.TheVariants.Counted}
use Rattle.tape_label.specs.{declared.values.Format.TheVariants.Fixed}
use Rattle.tape_label.specs.{declared.values.Format.TheVariants.Spanned}
use Rattle.tape_label.specs.{declared.values.Format.Format, declared.values.Vol1.Vol1}
use Rattle.tape_label.specs.declared.values.Format.TheVariants.{Undefined, Variable}
use Rattle.tape_blocks.specs.{declared.parts.Form.Form, declared.parts.Shape.Shape}
use Rattle.tape_writer.specs.{declared.inputs.cut.Cut.TheVariants.Length}
use Rattle.tape_writer.specs.{declared.inputs.cut.Cut.TheVariants.Lines}
use Rattle.tape_writer.specs.{declared.inputs.cut.Cut.TheVariants.Whole, Images.AreImages}
use Rattle.tape_writer.specs.{Coded.coded_tapes, Told.IsWrittenSet, Told.Told}
use Rattle.tape_writer.specs.{declared.inputs.cut.Cut.Cut}
use Rattle.tape_blocks.specs.declared.parts.Form.TheVariants as forms

-- The images passed to the store are exactly those of the volumes of a valid set without unused
-- space, for the given capacity and shapes. Its files are the files passed, and its volumes are the
-- first of the volumes passed.
abbrev pub IsSetOfImages :
    (Bool → List (List ℕ) → Type 0) → List Vol1 → ℕ → List ℕ → List Told → Type 0
IsSetOfImages H volumes capacity set_id told =
    IsWrittenSet (λ tapes. AreImages H None tapes) volumes capacity set_id told

-- the same with labels in EBCDIC
abbrev pub IsSetInEbcdic :
    (Bool → List (List ℕ) → Type 0) → List Vol1 → ℕ → List ℕ → List Told → Type 0
IsSetInEbcdic H volumes capacity set_id told =
    IsWrittenSet (λ tapes. AreImages H None (coded_tapes tapes)) volumes capacity set_id told

-- raw inputs are cut into records in format F, and are one record in format S
abbrev pub raw_cut : Format → ℕ → Option Cut
raw_cut Fixed n = Some (Length n)
raw_cut Counted n = None
raw_cut Spanned n = Some Whole
raw_cut Undefined n = None
raw_cut Variable n = None

-- how inputs of a form are cut into records for files of a shape, if that is possible
abbrev pub cut_of : Form → Shape → Option Cut
cut_of forms.Lines shape = Some Lines
cut_of forms.Raw shape = raw_cut shape.format shape.rec_len
cut_of forms.Counted shape = None
