-- Laws about the normal form. Each is the contract of a function of the module `laws`.
use Rattle.std.specs.Prelude.{◌≡◌, ◌≢◌, ◌≤◌, ℕ, Bool, true, nat_lt, List, [], ◌∷◌, ◌++◌, length}
use Rattle.std.specs.Prelude.{take, Some}
use Rattle.std.specs.List.{AllByRecursion}
use Rattle.tape_image.specs.Tape.{TapeItem, block, bad, mark}
use Rattle.tape_image.specs.{Begins.image_limit, Spelling.Spells}
use Rattle.tape_set.specs.Layout.{FileSet, items}
use Rattle.tape_set.specs.Reading.{as_read}
use Rattle.tape_label.specs.{Kinds.kind_at}
use Rattle.tape_label.specs.declared.values.Kind.TheVariants.{Hdr1, Hdr2}
use Rattle.tape_core.specs.declared.normal.code.Code.{Code}
use Rattle.tape_core.specs.declared.normal.code.Code.TheVariants.{Ebcdic}
use Rattle.tape_core.specs.declared.normal.numbers.FileSeen.{FileSeen}
use Rattle.tape_core.specs.NormalForm.{normal, of_labels, of_second, of_headers, of_data}
use Rattle.tape_core.specs.NormalForm.{of_trailer, of_trailers, of_next, Codes.in_ascii}
use Rattle.tape_core.specs.NormalForm.{most_dropped, Bytes.normal_bytes}
use Rattle.tape_core.specs.NormalForm.Mended.{counted, uncounted, lost, headed, no_file}

-- A copy of a volume of a valid set is its own normal form, however damaged it is, and wherever it
-- ends.
abbrev pub NormalKeeps : FileSet → Type 0
NormalKeeps set = (k : ℕ) (good : List Bool)
    → normal (as_read (items set k) good) ≡ as_read (items set k) good

-- the item is not a mark
abbrev pub IsNoMark : TapeItem → Type 0
IsNoMark mark = ⊥
IsNoMark item = Unit {0}

-- what is seen of a file after these items of data
abbrev pub seen_behind : FileSeen → List TapeItem → FileSeen
seen_behind seen [] = seen
seen_behind seen (block b ∷ xs) = seen_behind (counted seen) xs
seen_behind seen (x ∷ xs) = seen_behind (uncounted seen) xs

-- The data of a file are the same in the normal form, up to the mark after them or to the end of
-- the tape, whatever they are.
abbrev pub DataKept : Type 0
DataKept =
    (code : Code) (seen : FileSeen) (data' : List TapeItem) → AllByRecursion IsNoMark data'
    → (of_data code seen data' ≡ data')
    × ((rest : List TapeItem)
    → of_data code seen (data' ++ mark ∷ rest)
    ≡ data' ++ mark ∷ of_trailer code (seen_behind seen data') rest)

-- a file that begins with this label in EBCDIC after an item that is not expected, and the rest
abbrev pub file_found : FileSeen → List ℕ → List TapeItem → List TapeItem
file_found seen b rest =
    block (headed (lost seen) (in_ascii Ebcdic b)).0
    ∷ of_second Ebcdic (headed (lost seen) (in_ascii Ebcdic b)).1 rest

-- On a tape with labels in EBCDIC no unreadable or lost label or mark behind VOL1 or a file hides
-- the next file, and none before its data hides its trailer labels, unless a lost HDR1 leaves two
-- marks together, which end the volume.
pub record FilesFound (seen : FileSeen) (rest : List TapeItem) : Type 0 where
  pub behind_trailer : (b : List ℕ) → kind_at (in_ascii Ebcdic b) ≡ Some Hdr1
      → of_trailer Ebcdic seen (bad ∷ mark ∷ block b ∷ rest) ≡ bad ∷ mark ∷ file_found seen b rest
  pub behind_trailers : (b : List ℕ) → kind_at (in_ascii Ebcdic b) ≡ Some Hdr1
      → of_trailers Ebcdic seen (bad ∷ mark ∷ block b ∷ rest) ≡ bad ∷ mark ∷ file_found seen b rest
  pub behind_mark : (b : List ℕ) → kind_at (in_ascii Ebcdic b) ≡ Some Hdr1
      → of_trailers Ebcdic seen (bad ∷ block b ∷ rest) ≡ bad ∷ file_found seen b rest
  pub no_mark : (b : List ℕ) → kind_at (in_ascii Ebcdic b) ≡ Some Hdr1
      → of_trailers Ebcdic seen (block b ∷ rest) ≡ file_found seen b rest
  pub no_trailer : (b : List ℕ) → kind_at (in_ascii Ebcdic b) ≡ Some Hdr1
      → of_trailer Ebcdic seen (block b ∷ rest) ≡ file_found seen b rest
  pub bad_header : of_next Ebcdic seen (bad ∷ mark ∷ rest)
      ≡ bad ∷ mark ∷ of_data Ebcdic (lost seen) rest
  pub bad_second : of_second Ebcdic seen (bad ∷ mark ∷ rest)
      ≡ bad ∷ mark ∷ of_data Ebcdic (lost seen) rest
  pub no_data_mark : (b : List ℕ) → length b ≢ 80
      → of_headers Ebcdic seen (block b ∷ rest) ≡ block b ∷ of_data Ebcdic (lost seen) rest
  pub lost_header : (h b : List ℕ) → kind_at (in_ascii Ebcdic h) ≡ Some Hdr2 → length b ≢ 80
      → of_next Ebcdic seen (block h ∷ mark ∷ block b ∷ rest)
      ≡ block h ∷ mark ∷ block b ∷ of_data Ebcdic (lost (lost seen)) rest
  pub bad_first : (n : ℕ) → of_labels Ebcdic n (bad ∷ mark ∷ rest)
      ≡ bad ∷ mark ∷ of_data Ebcdic (lost no_file) rest
  pub lost_first : (n : ℕ) (h b : List ℕ) → nat_lt n most_dropped ≡ true
      → kind_at (in_ascii Ebcdic h) ≡ Some Hdr2 → length b ≢ 80
      → of_labels Ebcdic n (block h ∷ mark ∷ block b ∷ rest)
      ≡ mark ∷ block b ∷ of_data Ebcdic (lost no_file) rest
  pub mark_first : (n : ℕ) (b : List ℕ) → kind_at (in_ascii Ebcdic b) ≡ Some Hdr1
      → of_labels Ebcdic n (mark ∷ block b ∷ rest) ≡ mark ∷ file_found no_file b rest
  pub bad_behind_mark : (n : ℕ) (b : List ℕ) → kind_at (in_ascii Ebcdic b) ≡ Some Hdr1
      → of_labels Ebcdic n (mark ∷ bad ∷ mark ∷ block b ∷ rest)
      ≡ mark ∷ bad ∷ mark ∷ file_found (lost no_file) b rest

-- An image of at most 4,294,967,295 bytes that encodes the items of a tape, up to the end of the
-- medium, gives one that encodes those of the tape in normal form.
abbrev pub NormalSpells : Type 0
NormalSpells = (xs : List ℕ) (items : List TapeItem) → length xs ≤ image_limit → Spells xs items
    → Spells (normal_bytes xs) (normal items)

-- Such an image of a copy of a volume of a valid set gives one that encodes the same items.
abbrev pub CopySpells : FileSet → Type 0
CopySpells set = (k : ℕ) (good : List Bool) (xs : List ℕ) → length xs ≤ image_limit
    → Spells xs (as_read (items set k) good) → Spells (normal_bytes xs) (as_read (items set k) good)

-- Such an image of items that are their own normal form is its own normal form, byte for byte.
abbrev pub BytesKept : Type 0
BytesKept = (xs : List ℕ) (items : List TapeItem) → length xs ≤ image_limit → Spells xs items
    → normal items ≡ items → normal_bytes xs ≡ xs

-- So is one of a copy of a volume of a valid set.
abbrev pub CopyBytesKept : FileSet → Type 0
CopyBytesKept set = (k : ℕ) (good : List Bool) (xs : List ℕ) → length xs ≤ image_limit
    → Spells xs (as_read (items set k) good) → normal_bytes xs ≡ xs

-- So is the beginning of such an image, wherever it is cut off.
abbrev pub CutBytesKept : Type 0
CutBytesKept = (xs : List ℕ) (items : List TapeItem) (m : ℕ) → length xs ≤ image_limit
    → Spells xs items → normal items ≡ items → normal_bytes (take m xs) ≡ take m xs

-- So is that of an image of a copy of a volume of a valid set.
abbrev pub CopyCutBytesKept : FileSet → Type 0
CopyCutBytesKept set = (k : ℕ) (good : List Bool) (xs : List ℕ) (m : ℕ) → length xs ≤ image_limit
    → Spells xs (as_read (items set k) good) → normal_bytes (take m xs) ≡ take m xs
