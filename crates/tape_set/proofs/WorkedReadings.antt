-- Readings of the worked file, complete and truncated, and the positions they reach.
use Rattle.std.proofs.Common.{◌≡◌, ◌≤◌, ℕ, List, [], ◌∷◌, ◌++◌, Bool, true, false, refl, arith}
use Rattle.std.proofs.Common.{lit≤, inl, inr, lit<}
use Rattle.std.specs.Prelude.{replicate, IsSome, map}
use Rattle.tape_image.specs.Tape.{block, bad}
use Rattle.tape_label.specs.declared.values.Format.TheVariants.{Fixed}
use Rattle.tape_label.specs.declared.values.Kind.TheVariants as kinds
use Rattle.tape_blocks.specs.declared.parts.Shape.{Shape}
use Rattle.tape_set.specs.Position.{awaiting, start, at_part, next_block, next_section}
use Rattle.tape_set.specs.Layout.{FileSet, nth, items, all_items}
use Rattle.tape_set.specs.{declared.position.Position.TheVariants.Finished, Reading.Reading}
use Rattle.tape_set.specs.{Reading.IsReadingOf, Reading.as_read, Reach.far, Before.before}
use Rattle.tape_set.specs.{Before.IsIn, Sizes.items_size, Lawful.IsLawful, Tight.IsTight}
use Rattle.tape_set.proofs.Worked.{vol1, second, made, filled, plain_set, shape_of, makes}
use Rattle.tape_set.proofs.Worked.{alike_file, made_plain}
use Rattle.tape_set.proofs.WorkedFile.{shape, wholes, one_volume, two_volumes, shape_fits, writable}
use Rattle.tape_set.proofs.WorkedFile.{lengths, blocks, held, sized, in_order, packed}

-- ---- readings

abbrev pub reading : ℕ → List Bool → Reading
reading k good = record { volume = k; good = good }

-- cut after the last block: only the end of the section is expected
cut_behind_blocks : far one_volume 1 (awaiting 1 0) (reading 1 (replicate 7 true)) ≡ awaiting 1 3
cut_behind_blocks = refl

-- cut after the closing mark, and after the trailer label
cut_behind_mark : far one_volume 1 (awaiting 1 0) (reading 1 (replicate 8 true)) ≡ awaiting 1 3
cut_behind_mark = refl

cut_behind_trailer : far one_volume 1 (awaiting 1 0) (reading 1 (replicate 9 true)) ≡ Finished
cut_behind_trailer = refl

-- cut after the headers
cut_behind_headers : far one_volume 1 (awaiting 1 0) (reading 1 (replicate 4 true)) ≡ awaiting 1 0
cut_behind_headers = refl

-- the mark after the headers was not readable: nothing after it counts
bad_header_mark : far one_volume 1 (awaiting 1 0) (reading 1
    (replicate 3 true ++ false ∷ replicate 8 true)) ≡ awaiting 1 0
bad_header_mark = refl

-- the end of a section is known only if its trailer label was readable
bad_trailer : far one_volume 1 (awaiting 1 0) (reading 1
    (replicate 8 true ++ false ∷ replicate 3 true)) ≡ awaiting 1 3
bad_trailer = refl

-- on two volumes: the second volume alone gives nothing; the first gives its section, and then the
-- second the rest of the file
later_section_first : far two_volumes 1 (awaiting 1 0) (reading 2 (replicate 9 true)) ≡ awaiting 1 0
later_section_first = refl

first_section : far two_volumes 1 (awaiting 1 0) (reading 1 (replicate 12 true)) ≡ awaiting 2 0
first_section = refl

first_section_again : far two_volumes 1 (awaiting 2 0) (reading 1 (replicate 12 true))
    ≡ awaiting 2 0
first_section_again = refl

last_section : far two_volumes 1 (awaiting 2 0) (reading 2 (replicate 9 true)) ≡ Finished
last_section = refl

-- a shape with blocks of 400 bytes, which needs five of them
abbrev pub shorter : Shape
shorter = shape_of Fixed 400 80 0 (λ _. lit≤ tt)

abbrev pub five_blocks : FileSet
five_blocks = plain_set 1 ((made shorter 1 1 1 true (filled shorter (wholes 1 5)
    ∷ filled shorter (wholes 6 5) ∷ filled shorter (wholes 11 5) ∷ filled shorter (wholes 16 5)
    ∷ filled shorter (wholes 21 5) ∷ []) ∷ []) ∷ [])

-- block 3 was not readable, and is expected
block_3_bad : far five_blocks 1 (awaiting 1 0) (reading 1
    (replicate 7 true ++ false ∷ replicate 6 true)) ≡ awaiting 1 3
block_3_bad = refl

-- from block 3 on, block 1 may be bad: it was delivered already
block_1_bad : far five_blocks 1 (awaiting 1 3) (reading 1
    (replicate 5 true ++ false ∷ replicate 8 true)) ≡ Finished
block_1_bad = refl

-- ---- sections and blocks that do not exist

no_section_0 : far one_volume 1 (awaiting 0 0) (reading 1 (replicate 12 true)) ≡ awaiting 0 0
no_section_0 = refl

no_block_4 : far one_volume 1 (awaiting 1 4) (reading 1 (replicate 12 true)) ≡ awaiting 1 4
no_block_4 = refl

-- ---- valid readings, and the items found in them

whole_reading_is : IsReadingOf one_volume (reading 1 (replicate 12 true))
whole_reading_is = record { volume = refl; within = lit≤ tt }

no_longer_reading : IsReadingOf one_volume (reading 1 (replicate 13 true)) → ⊥
no_longer_reading h = let most : 13 ≤ 12 = h.within in absurd (omega arith)

no_reading_of_0 : IsReadingOf one_volume (reading 0 []) → ⊥
no_reading_of_0 h = let there : IsSome (nth one_volume.volumes 0) = h.volume in absurd (cc)

read_so : as_read (items one_volume 1) (true ∷ false ∷ true ∷ false ∷ [])
    ≡ block vol1 ∷ bad ∷ block (second kinds.Hdr2 shape) ∷ bad ∷ []
read_so = refl

-- Positions inside a block, in the worked file: its blocks have 10, 10 and 5 parts.

-- ---- the parts before a position

thirteen_before : before one_volume 1 (at_part 3 (awaiting 1 1)) ≡ wholes 1 13
thirteen_before = refl

one_before : before one_volume 1 (at_part 1 start) ≡ wholes 1 1
one_before = refl

-- all parts of a block are before the next block
all_of_block_1 : before one_volume 1 (at_part 10 (awaiting 1 1))
    ≡ before one_volume 1 (awaiting 1 2)
all_of_block_1 = refl

-- a block has no more parts than its own
no_more_of_block_2 : before one_volume 1 (at_part 7 (awaiting 1 2)) ≡ wholes 1 25
no_more_of_block_2 = refl

-- ---- the positions of the file

part_9 : IsIn one_volume 1 (at_part 9 (awaiting 1 1))
part_9 = (_, refl, omega arith, inr (lit< tt))

-- once all parts of a block were delivered, the next block is expected
no_part_10 : IsIn one_volume 1 (at_part 10 (awaiting 1 1)) → ⊥
no_part_10 (s, found, within, inl h) = absurd (omega arith)
no_part_10 (s, found, within, inr h) = search (makes) depth 9

-- the end of a section has no parts
no_part_of_end : IsIn one_volume 1 (at_part 1 (awaiting 1 3)) → ⊥
no_part_of_end (s, found, within, inl h) = absurd (omega arith)
no_part_of_end (s, found, within, inr h) = search (makes) depth 9

-- ---- how far readings move these positions

-- the delivered parts of block 1 are kept if the reading ends before the block, or the block was
-- not readable
cut_before_block : far one_volume 1 (at_part 3 (awaiting 1 1)) (reading 1 (replicate 5 true))
    ≡ at_part 3 (awaiting 1 1)
cut_before_block = refl

block_not_read : far one_volume 1 (at_part 3 (awaiting 1 1)) (reading 1
    (replicate 5 true ++ false ∷ replicate 6 true)) ≡ at_part 3 (awaiting 1 1)
block_not_read = refl

-- after block 1 no delivered parts are kept
cut_behind_block : far one_volume 1 (at_part 3 (awaiting 1 1)) (reading 1 (replicate 6 true))
    ≡ awaiting 1 2
cut_behind_block = refl

next_not_read : far one_volume 1 (at_part 3 (awaiting 1 1)) (reading 1
    (replicate 6 true ++ false ∷ replicate 5 true)) ≡ awaiting 1 2
next_not_read = refl

-- the first block may be bad: its parts were delivered already
whole_behind_bad : far one_volume 1 (at_part 3 (awaiting 1 1)) (reading 1
    (replicate 4 true ++ false ∷ replicate 7 true)) ≡ Finished
whole_behind_bad = refl

-- a reading of another volume keeps the delivered parts
other_volume : far two_volumes 1 (at_part 3 (awaiting 1 1)) (reading 2 (replicate 9 true))
    ≡ at_part 3 (awaiting 1 1)
other_volume = refl

own_volume : far two_volumes 1 (at_part 3 (awaiting 1 1)) (reading 1 (replicate 12 true))
    ≡ awaiting 2 0
own_volume = refl

-- a position after a part of a section's end, which no file has, does not change
part_of_end : far one_volume 1 (at_part 1 (awaiting 1 3)) (reading 1 (replicate 8 true))
    ≡ at_part 1 (awaiting 1 3)
part_of_end = refl

-- the start of the next block and of the next section
behind_parts : next_block (at_part 3 (awaiting 1 1)) ≡ awaiting 1 2
behind_parts = refl

section_behind_parts : next_section (at_part 3 (awaiting 1 1)) ≡ awaiting 2 0
section_behind_parts = refl

-- Two files of 25 records on two volumes of 2,848 bytes: after the first file's end there is
-- exactly enough room for a section without blocks, so the first section of the second file has no
-- blocks, and ends with EOV1.

abbrev pub two_files : FileSet
two_files = plain_set 2 ((made shape 1 1 1 true blocks ∷ []) ∷ (made shape 1 2 1 false []
    ∷ made shape 2 2 2 true blocks ∷ []) ∷ [])

two_files_lawful : IsLawful two_files
two_files_lawful =
    search (makes, alike_file shape, shape_fits, sized, held, in_order 1 25) depth 9

two_files_tight : IsTight two_files 2848 (shape ∷ shape ∷ [])
two_files_tight = search (lit≤, tt, writable, made_plain, shape_fits, lengths, packed)

-- the first volume is full to the last byte, including the end-of-medium marker
two_files_sizes : map items_size (all_items two_files) ≡ 2844 ∷ 2480 ∷ []
two_files_sizes = refl

-- a reading of the first volume moves the position in the second file past its empty section; only
-- the labels of that section state its form
behind_empty_section : far two_files 2 start (reading 1 (replicate 19 true)) ≡ awaiting 2 0
behind_empty_section = refl

-- if the trailer label of the empty section was not read, its end is expected, which is the start
-- of the file
cut_in_empty_section : far two_files 2 start (reading 1 (replicate 15 true)) ≡ start
cut_in_empty_section = refl

second_volume : far two_files 2 (awaiting 2 0) (reading 2 (replicate 12 true)) ≡ Finished
second_volume = refl

-- ---- bad items elsewhere on the volume

-- a bad block in the data of the first file is skipped
bad_data_passed : far two_files 2 start (reading 1 (replicate 5 true ++ false ∷ replicate 13 true))
    ≡ awaiting 2 0
bad_data_passed = refl

-- a bad mark or label of the first file ends the reading there
bad_mark_passed : far two_files 2 start (reading 1 (replicate 7 true ++ false ∷ replicate 11 true))
    ≡ start
bad_mark_passed = refl

bad_trailer_passed : far two_files 2 start (reading 1
    (replicate 8 true ++ false ∷ replicate 10 true)) ≡ start
bad_trailer_passed = refl

-- the closing mark of the expected section is bad: the end of the section is still expected,
-- although its trailer label was readable
bad_closing_mark : far two_files 1 start (reading 1 (replicate 7 true ++ false ∷ replicate 11 true))
    ≡ awaiting 1 3
bad_closing_mark = refl

-- items after the trailer label do not matter
bad_behind_trailer : far two_files 1 start (reading 1 (replicate 9 true ++ replicate 10 false))
    ≡ Finished
bad_behind_trailer = refl

-- ---- over sections

behind_empty_section_none : before two_files 2 (awaiting 2 0) ≡ []
behind_empty_section_none = refl

second_section_parts : before two_files 2 (awaiting 2 1) ≡ wholes 1 10
second_section_parts = refl

-- the records of the first file are not before any position of the second
first_file_apart : before two_files 1 Finished ≡ wholes 1 25
first_file_apart = refl
