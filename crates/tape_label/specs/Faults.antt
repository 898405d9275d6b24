-- The fixed number of each fault of a label.
use Rattle.std.specs.Prelude.{ℕ}
use Rattle.tape_label.specs.declared.label.LabelFault.{LabelFault}
use Rattle.tape_label.specs.declared.label.LabelFault.TheVariants.{NotEighty, Identifier, NotDigits}
use Rattle.tape_label.specs.declared.label.LabelFault.TheVariants.{Format, FieldRange}
use Rattle.tape_label.specs.declared.label.LabelFault.TheVariants.{NotACharacter, FieldLength}

abbrev pub number : LabelFault → ℕ
number NotEighty = 1
number Identifier = 2
number (NotDigits position) = 3
number (Format letter) = 4
number (FieldRange position) = 5
number (NotACharacter place) = 6
number FieldLength = 7
