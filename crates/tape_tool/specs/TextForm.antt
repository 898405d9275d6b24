-- The form of the records of a file, chosen by their bytes.
use Rattle.std.specs.Prelude.{ℕ, ◌==◌, ◌||◌, ◌&&◌, Bool, nat_le, true, false, List}
use Rattle.std.specs.List.{list_all}
use Rattle.tape_blocks.specs.declared.parts.Form.{Form}
use Rattle.tape_blocks.specs.declared.parts.Form.TheVariants.{Lines, Raw, Counted}

-- printable ASCII, a tab or a form feed: in particular no line feed
abbrev pub is_text_byte : ℕ → Bool
is_text_byte byte = (nat_le 32 byte && nat_le byte 126) || ((byte == 9) || (byte == 12))

-- each byte is
abbrev pub is_text : List ℕ → Bool
is_text bytes = list_all is_text_byte bytes

-- text is written as lines, and anything else as it is
abbrev pub form_for : Bool → Form
form_for true = Lines
form_for false = Raw

-- the form in which records are given to a translation, which writes them in their form
abbrev pub given_form : Bool → Form → Form
given_form true form = Counted
given_form false form = form
