-- A valid set that no writer writes: a data block without parts, a volume that ends with EOF1
-- although the next file begins on the next volume, and a volume without sections.
use Rattle.std.proofs.Common.{◌≡◌, [], ◌∷◌, true, refl, lit≤, lit<, ◌≤◌, ℕ, ◌++◌, length, false, ap}
use Rattle.std.proofs.Common.{inl, inr, arith, length-append}
use Rattle.std.specs.Prelude.{map, replicate, length, slice_index, drop, unwrap_or, IsSome}
use Rattle.tape_image.specs.Tape.{bad}
use Rattle.tape_label.specs.declared.values.Format.TheVariants.{Fixed}
use Rattle.tape_blocks.specs.{Block.Holds, Tight.Filled}
use Rattle.tape_set.specs.declared.position.Position.TheVariants.{Finished, Awaits}
use Rattle.tape_set.specs.Position.{start, awaiting, block_of, IsUpTo}
use Rattle.tape_set.specs.Layout.{FileSet, all_items, file_of}
use Rattle.tape_set.specs.Laws.{IsFrontOf, StandsIn, FitsDigits, IsFirstUnread}
use Rattle.tape_set.specs.{Before.before, Before.IsIn, Lawful.IsLawful, Reach.far, Reach.far_over}
use Rattle.tape_set.specs.{Sizes.items_size, Reading.as_read, Reading.whole_readings}
use Rattle.tape_set.proofs.Worked.{makes, alike_file, made, plain_set}
use Rattle.tape_set.proofs.WorkedFile.{shape, shape_fits, one_volume, two_volumes}
use Rattle.tape_set.proofs.WorkedReadings.{reading}

abbrev no_parts : Filled
no_parts = record { bytes = replicate 5 94; parts = [] }

no_parts_held : Holds Fixed 80 0 no_parts.bytes no_parts.parts
no_parts_held =
    (replicate 5 94, record { reaches = lit≤ tt; units = tt; body = refl }, (refl, lit< tt))

abbrev pub sparse : FileSet
sparse = plain_set 3 ((made shape 1 1 1 true (no_parts ∷ []) ∷ []) ∷ (made shape 2 2 1 true []
    ∷ []) ∷ [])

sparse_lawful : IsLawful sparse
sparse_lawful = search (makes, alike_file shape, shape_fits, no_parts_held) depth 9

-- the last volume contains only its label and a mark
sparse_lengths : map length (all_items sparse) ≡ 10 ∷ 9 ∷ 2 ∷ []
sparse_lengths = refl

-- the block without parts is passed, and no parts are before any position
passed : far sparse 1 start (reading 1 (replicate 5 true)) ≡ awaiting 1 1
passed = refl

none_before : before sparse 1 Finished ≡ []
none_before = refl

-- the second file is neither on the first volume nor on the last
first_volume : far sparse 2 start (reading 1 (replicate 10 true)) ≡ start
first_volume = refl

last_volume : far sparse 2 start (reading 3 (replicate 2 true)) ≡ start
last_volume = refl

own_volume : far sparse 2 start (reading 2 (replicate 7 true)) ≡ Finished
own_volume = refl

-- Definitions used by the laws, worked out: prefixes of lists, elements of lists, the order of
-- positions, numbers that fit their digits, and the first item that was not readable.

-- ---- prefixes

front : IsFrontOf {A = ℕ} (1 ∷ []) (1 ∷ 2 ∷ [])
front = (2 ∷ [], refl)

whole_front : IsFrontOf {A = ℕ} (1 ∷ 2 ∷ []) (1 ∷ 2 ∷ [])
whole_front = ([], refl)

no_longer_front : IsFrontOf {A = ℕ} (1 ∷ 2 ∷ []) (1 ∷ []) → ⊥
no_longer_front (rest, e) = search (makes) depth 9

-- the end of a list is not a prefix of it
no_end_front : IsFrontOf {A = ℕ} (2 ∷ []) (1 ∷ 2 ∷ []) → ⊥
no_end_front (rest, e) = let d : 2 ≡ 1 = ap (λ v. slice_index v 0) e in absurd (omega (arith, d))

-- ---- elements of a list

last_stands : StandsIn {A = ℕ} (1 ∷ 2 ∷ []) 2
last_stands = (1 ∷ [], [], refl)

first_stands : StandsIn {A = ℕ} (1 ∷ 2 ∷ []) 1
first_stands = ([], 2 ∷ [], refl)

none_stands : StandsIn {A = ℕ} [] 1 → ⊥
none_stands (front, rest, e) =
    let none : 0 ≡ length (front ++ 1 ∷ rest) = ap length e in
    absurd (omega (arith, none, length-append front (1 ∷ rest)))

no_other_stands : StandsIn {A = ℕ} (2 ∷ []) 1 → ⊥
no_other_stands ([], rest, e) = search (makes) depth 9
no_other_stands (x ∷ front, rest, e) = none_stands (front, rest, ap (drop 1) e)

-- ---- up to a position

up_to_itself : IsUpTo (awaiting 1 1) (awaiting 1 1)
up_to_itself = inr refl

up_to_later : IsUpTo (awaiting 1 0) (awaiting 1 1)
up_to_later = inl (inr (refl, inl (lit< tt)))

not_up_to_earlier : IsUpTo (awaiting 1 1) (awaiting 1 0) → ⊥
not_up_to_earlier (inl (inl h)) = absurd (omega (arith, h))
not_up_to_earlier (inl (inr (e, inl h))) = absurd (omega (arith, h))
not_up_to_earlier (inl (inr (e, inr (d, h)))) = absurd (omega (arith, d))
not_up_to_earlier (inr e) = let d : 1 ≡ 0 = ap block_of e in absurd (omega (arith, d))

-- ---- digits

most_fits : FitsDigits (Awaits 9999 4294967295 99998)
most_fits = record { sect = lit≤ tt; block = lit≤ tt; part = lit≤ tt }

end_fits : FitsDigits Finished
end_fits = record { sect = lit≤ tt; block = lit≤ tt; part = lit≤ tt }

section_too_great : FitsDigits (Awaits 10000 0 0) → ⊥
section_too_great h = let most : 10000 ≤ 9999 = h.sect in absurd (omega arith)

block_too_great : FitsDigits (Awaits 1 4294967296 0) → ⊥
block_too_great h = let most : 4294967296 ≤ 4294967295 = h.block in absurd (omega arith)

part_too_great : FitsDigits (Awaits 1 0 99999) → ⊥
part_too_great h = let most : 99999 ≤ 99998 = h.part in absurd (omega arith)

-- ---- the first item that was not readable

none_before_first : IsFirstUnread (false ∷ []) 1 1 0 → ⊥
none_before_first h = absurd (omega (arith, h.0))

none_behind_last : IsFirstUnread (true ∷ true ∷ []) 0 1 2 → ⊥
none_behind_last h = absurd (omega (arith, h.1))

no_second_unread : IsFirstUnread (false ∷ false ∷ []) 0 2 1 → ⊥
no_second_unread h = search (makes, unwrap_or) depth 9

no_read_one : IsFirstUnread (true ∷ []) 0 1 0 → ⊥
no_read_one h = h.3 (lit< tt) refl

-- The positions of the worked sets, and readings of all their volumes.

-- ---- positions

end_of_file : IsIn one_volume 1 Finished
end_of_file = refl

no_end_of_file_2 : IsIn one_volume 2 Finished → ⊥
no_end_of_file_2 h = let e : IsSome (file_of one_volume 2) = h in absurd (cc)

-- the end of a section is a position of the file, but the block number after it is not
end_of_section : IsIn one_volume 1 (awaiting 1 3)
end_of_section = (_, refl, omega arith, inl refl)

no_block_4 : IsIn one_volume 1 (awaiting 1 4) → ⊥
no_block_4 (s, found, block, part) = search (makes) depth 9

no_section_2 : IsIn one_volume 1 (awaiting 2 0) → ⊥
no_section_2 (s, found, block, part) = search (makes) depth 9

-- a block without parts is only expected from its start
before_no_parts : IsIn sparse 1 start
before_no_parts = (_, refl, omega arith, inl refl)

-- ---- readings

readings_in_order : whole_readings two_volumes 0 2
    ≡ reading 1 (replicate 12 true) ∷ reading 2 (replicate 9 true) ∷ []
readings_in_order = refl

over_both : far_over two_volumes 1 start (whole_readings two_volumes 0 2) ≡ Finished
over_both = refl

-- reading the first volume again moves nothing
over_the_first : far_over two_volumes 1 start (reading 2 (replicate 9 true)
    ∷ reading 1 (replicate 12 true) ∷ reading 1 (replicate 12 true) ∷ []) ≡ awaiting 2 0
over_the_first = refl

-- a reading longer than the volume returns only the items of the volume
no_more_met : as_read (bad ∷ []) (true ∷ true ∷ []) ≡ bad ∷ []
no_more_met = refl

-- a bad item has size 0
no_room_for_bad : items_size (bad ∷ []) ≡ 0
no_room_for_bad = refl
