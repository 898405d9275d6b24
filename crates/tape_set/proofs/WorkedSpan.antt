-- A spanned record of 290 bytes on two volumes of 1,042 bytes: 22 blocks of 18 bytes and EOV1, then
-- one block and EOF1.
use Rattle.std.proofs.Common.{◌≡◌, ◌≤◌, ℕ, zero, suc, List, [], ◌∷◌, ◌++◌, true, false, refl, codes}
use Rattle.std.proofs.Common.{lit≤, lit<, arith}
use Rattle.std.specs.{Prelude.map, Prelude.replicate, List.AllByRecursion}
use Rattle.tape_image.specs.Tape.{IsTapeItem}
use Rattle.tape_label.specs.declared.values.Format.TheVariants.{Fixed, Spanned}
use Rattle.tape_label.specs.Head2.{Head2Fits}
use Rattle.tape_blocks.specs.declared.parts.Span.TheVariants.{First, Middle, Last}
use Rattle.tape_blocks.specs.{Packing.written, Packing.IsWritable, declared.parts.Shape.Shape}
use Rattle.tape_blocks.specs.Tight.{Filled, Chain, IsWritten, IsDue}
use Rattle.tape_blocks.specs.{Block.Portion, Block.Holds, Spans.InOrder}
use Rattle.tape_blocks.specs.Tight as packing
use Rattle.tape_blocks.proofs.PackLaws.{written_holds}
use Rattle.tape_set.specs.Layout.{FileSet, sections, all_items, item_of, data_group}
use Rattle.tape_set.specs.{Position.awaiting, Position.at_part, Sizes.items_size, Before.before}
use Rattle.tape_set.specs.Tight.{IsTight, IsTightChange, ChainBehind, second_of}
use Rattle.tape_set.specs.Lawful.{IsLawful}
use Rattle.tape_set.proofs.Worked.{makes, alike_file, made, filled, plain_set, shape_of}

-- for a format other than F the least record length does not matter
pub not_fixed : Spanned ≡ Fixed → 1 ≤ 0
not_fixed e = absurd (cc)

abbrev pub shape : Shape
shape = shape_of Spanned 18 0 0 not_fixed

pub shape_fits : Head2Fits (second_of shape)
shape_fits = record {
  standard = refl;
  block_len = lit≤ tt;
  rec_len = (lit≤ tt, lit≤ tt);
  offset = lit≤ tt;
}

pub writable : IsWritable shape
writable = search (lit≤, tt)

-- ---- segments and blocks

abbrev pub the_record : List ℕ
the_record = replicate 290 65

abbrev pub first : Portion
first = record { span = First; bytes = replicate 13 65 }

abbrev pub middle : Portion
middle = record { span = Middle; bytes = replicate 13 65 }

abbrev pub last : Portion
last = record { span = Last; bytes = replicate 4 65 }

first_text : written shape (first ∷ []) ≡ codes "10018AAAAAAAAAAAAA"
first_text = refl

middle_text : written shape (middle ∷ []) ≡ codes "20018AAAAAAAAAAAAA"
middle_text = refl

last_text : written shape (last ∷ []) ≡ codes "30009AAAA^^^^^^^^^"
last_text = refl

abbrev pub first_block : Filled
first_block = filled shape (first ∷ [])

abbrev pub middle_block : Filled
middle_block = filled shape (middle ∷ [])

abbrev pub last_block : Filled
last_block = filled shape (last ∷ [])

pub first_written : IsWritten shape first_block
first_written = search (makes, written_holds) depth 9

pub middle_written : IsWritten shape middle_block
middle_written = search (makes, written_holds) depth 9

pub last_written : IsWritten shape last_block
last_written = search (makes, written_holds) depth 9

-- ---- many middle segments

pub every_middle : (P : Filled → Type 0) (n : ℕ) → P middle_block
    → AllByRecursion P (replicate n middle_block)
every_middle P zero h = tt
every_middle P (suc n) h = (h, every_middle P n h)

pub middles_before : (P : Filled → Type 0) (n : ℕ) → P middle_block → P last_block
    → AllByRecursion P (replicate n middle_block ++ last_block ∷ [])
middles_before P zero h g = (g, tt)
middles_before P (suc n) h g = (h, middles_before P n h g)

pub middles_sized : (n : ℕ)
    → AllByRecursion IsTapeItem (map item_of (data_group (replicate n middle_block)))
middles_sized zero = tt
middles_sized (suc n) = ((lit< tt, lit≤ tt), middles_sized n)

pub middles_in_order : (n : ℕ) → InOrder true (replicate n middle ++ last ∷ []) false
middles_in_order zero = (refl, refl)
middles_in_order (suc n) = (refl, middles_in_order n)

pub middles_closed : (n : ℕ)
    → Chain (IsDue shape) (middle_block ∷ replicate n middle_block ++ last_block ∷ [])
middles_closed zero = (lit< tt, tt)
middles_closed (suc n) = (lit< tt, middles_closed n)

-- the record in all its blocks
pub record_packed : packing.IsTight shape (the_record ∷ [])
    (first_block ∷ replicate 21 middle_block ++ last_block ∷ [])
record_packed = record {
  joins = refl;
  order = (refl, middles_in_order 21);
  each = (first_written, middles_before (IsWritten shape) 21 middle_written last_written);
  closed = (lit< tt, middles_closed 20);
}

-- ---- the set

abbrev pub on_first : List Filled
on_first = first_block ∷ replicate 21 middle_block

abbrev pub spanned : FileSet
spanned = plain_set 2 ((made shape 1 1 1 false on_first ∷ made shape 2 1 2 true (last_block
    ∷ []) ∷ []) ∷ [])

spanned_lawful : IsLawful spanned
spanned_lawful =
    search (makes, alike_file shape, shape_fits, middles_sized 21, held, middles_in_order 21)
    depth 9
  where
    held : AllByRecursion (λ b. Holds Spanned 0 0 b.bytes b.parts) on_first
        × AllByRecursion (λ b. Holds Spanned 0 0 b.bytes b.parts) (last_block ∷ [])
    held = grind (arith, first_written, every_middle, middle_written, last_written)

spanned_tight : IsTight spanned 1042 (shape ∷ [])
spanned_tight = search (makes, writable, shape_fits, record_packed) depth 9

-- the parts of the first section are before the second section, and the last part before the end of
-- the second
before_second : before spanned 1 (awaiting 2 0) ≡ first ∷ replicate 21 middle
before_second = refl

before_last : before spanned 1 (at_part 1 (awaiting 2 0)) ≡ first ∷ replicate 21 middle ++ last ∷ []
before_last = refl

-- the volumes take 1,032 and 486 bytes, including the end-of-medium marker
spanned_sizes : map items_size (all_items spanned) ≡ 1028 ∷ 482 ∷ []
spanned_sizes = refl

-- one byte less is free than the next block and the end of a volume need, so the change of volumes
-- is required there
just_no_room : ChainBehind (IsTightChange spanned.volumes 1057) [] (sections spanned)
just_no_room = (refl, tt)
