-- The contents of a volume, as a plain program returns them.
use Rattle.std.specs.Prelude.{List, map}
use Rattle.tape_set_tests.specs.declared.contents.EntryLayout.{EntryLayout}
use Rattle.tape_set_tests.specs.declared.contents.EntryLayout.TheVariants.{Label, DataBlock, Mark}
use Rattle.tape_set.specs.Layout.{Entry, a_label, a_data_block, a_mark}

-- the entry that the program's value represents
abbrev pub entry_told : EntryLayout → Entry
entry_told (Label bytes) = a_label bytes
entry_told (DataBlock bytes) = a_data_block bytes
entry_told Mark = a_mark

-- the entries that the program's values represent
abbrev pub entries_told : List EntryLayout → List Entry
entries_told entries = map entry_told entries
