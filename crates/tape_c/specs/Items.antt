-- The items of an image, as entries of a table.
use Rattle.std.specs.Prelude.{◌≡◌, ℕ, ◌+◌, ◌-◌, ◌%◌, ◌^◌, ◌==◌, if◌then◌else◌, List, [], ◌∷◌}
use Rattle.std.specs.Prelude.{◌++◌, length, drop, Some}
use Rattle.byteorder.specs.Endian.{little_number}
use Rattle.tape_image.specs.{declared.item.Ending.Ending, declared.item.ImageFault.ImageFault}
use Rattle.tape_image.specs.{Tape.TapeItem, Tape.block, Tape.bad, Tape.mark, Fault.number_of}
use Rattle.tape_image.specs.{Begins.ends, Begins.front_word, Begins.Begins}
use Rattle.tape_image.specs.{Word.block_len, Word.block_extent, Step.TakesItem, Step.TakesFault}
use Rattle.tape_c.specs.{declared.items.Entry.Entry, declared.end.End.End, Ends.nothing_given}

-- the number of the item's kind
abbrev pub kind_number : TapeItem → ℕ
kind_number (block bytes) = 1
kind_number bad = 2
kind_number mark = 3

-- the length in the entry of an item with this first word: that of the block's content, also of a
-- bad one
abbrev pub IsLength : TapeItem → ℕ → ℕ → Type 0
IsLength (block bytes) word n = block_len word ≡ Some n
IsLength bad word n = block_len word ≡ Some n
IsLength mark word n = n ≡ 0

-- The bytes xs at offset p are erase gaps and one encoding of the item, up to offset q, followed by
-- ys. The entry describes it: its kind, the offset of its first byte, and its length.
pub record Enters (p : ℕ) (item : TapeItem) (entry : Entry) (q : ℕ) (xs ys : List ℕ) : Type 0 where
  pub takes : TakesItem p item q xs ys
  pub kind : entry.kind ≡ kind_number item
  pub place : entry.place ≡ p + length takes.gaps
  pub long : IsLength item (front_word takes.spelling) entry.length

-- From offset p on the bytes xs are these items, with gaps between them, up to offset q, followed
-- by ys. Each has an entry that describes it.
abbrev pub Tabled : ℕ → List TapeItem → List Entry → ℕ → List ℕ → List ℕ → Type 0
Tabled p [] [] q xs ys = (p ≡ q) × (xs ≡ ys)
Tabled p [] (entry ∷ entries) q xs ys = ⊥
Tabled p (item ∷ items) [] q xs ys = ⊥
Tabled p (item ∷ items) (entry ∷ entries) q xs ys =
    (at : ℕ) × (mid : List ℕ) × Enters p item entry at xs mid × Tabled at items entries q mid ys

-- Why a call ended after these items of the image, which are followed by the bytes `rest` at offset
-- `at`. The buffer has room for as many entries as `room` says.
pub data Stopped (image rest : List ℕ) (items : List TapeItem) (at room : ℕ) (end : End) : Type 0
  where
    -- the image has no more items
    all : (ending : Ending) → Begins 0 image items end.place (ends ending) → end.state ≡ 0
        → end.needed ≡ end.count → Stopped image rest items at room end
    -- the image has a fault after them
    fault : (fault : ImageFault) (left : List ℕ) → TakesFault 0 items fault image left
        → end.place ≡ fault.place → end.state ≡ number_of fault.cause
        → end.needed ≡ end.count → Stopped image rest items at room end
    -- there is another item, and no room for it
    full : (item : TapeItem) (q : ℕ) (left : List ℕ) → TakesItem at item q rest left
        → length items ≡ room → end.place ≡ at → end.state ≡ 7
        → end.needed ≡ end.count + 1 → Stopped image rest items at room end
    -- memory was refused before anything was read
    refused : items ≡ [] → end ≡ nothing_given 6 → Stopped image rest items at room end

-- The start of the buffer has an entry for each of the first items of the image; the rest of the
-- buffer is as before.
pub record Tables (image : List ℕ) (old new : List Entry) (end : End) : Type 0 where
  pub items : List TapeItem
  pub entries : List Entry
  pub at : ℕ
  pub rest : List ℕ
  pub tabled : Tabled 0 items entries at image rest
  pub count : end.count ≡ length entries
  pub put : new ≡ entries ++ drop end.count old
  pub stopped : Stopped image rest items at (length old) end

-- the entry of the item with which the bytes end, as its last word gives it
abbrev pub last_entry : List ℕ → ℕ → Entry
last_entry read kind =
    let n = little_number 4 (drop (length read - 4) read) % 2 ^ 24 in
    record {
      place = length read - (if n == 0 then 4 else block_extent n);
      length = n;
      kind = kind;
    }
