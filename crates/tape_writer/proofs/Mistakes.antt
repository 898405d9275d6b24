-- Results that the contracts of the writer and its tapes exclude: each is the result of a wrong
-- body.
use Rattle.tape_writer.proofs.Words.{◌≡◌, ◌≤◌, ℕ, ◌+◌, ◌%◌, List, [], ◌∷◌, ◌++◌, length, refl, ap}
use Rattle.tape_writer.proofs.Words.{false, arith, length-append, Ok, Err, nat_tests, TapeItem}
use Rattle.tape_writer.proofs.Words.{mark, sym, ◌∙◌, subst, codes, inl, inr, Some}
use Rattle.std.proofs.Common.{nat_le, slice_index}
use Rattle.tape_writer.specs.Tapes.{Tapes, Ended, UnderWay, volume_at}
use Rattle.tape_writer.specs.Blank.{IsPrefixByte, IsPrefix, blank_image, blank_volume}
use Rattle.tape_writer.specs.declared.fault.WriteFault.TheVariants as faults
use Rattle.tape_writer.proofs.records.flush.Reads as flush
use Rattle.tape_writer.proofs.set.SetWriter.finish.Reads as finish
use Rattle.tape_writer.proofs.tape.Tape.begin_section.Reads as begin_section
use Rattle.tape_writer.proofs.blank.blank_volume.Reads as blank_volume_of
use Rattle.tape_writer.proofs.blank.blank_image.Reads as blank_image_of
use Rattle.tape_writer.proofs.blank.Prefix.new.Reads as prefix

-- ---- a set

-- last_volume_with_one_mark: after the end of the set its last volume has no further mark. The
-- contents of the tapes are unique, as for tapes in memory.
last_volume_with_one_mark : (T : _) (L : _) (g : _) (d : _) (e : _) (κs : _) (a : _) (s : _)
    (items : List TapeItem) → finish.Learnt-named T L g d e κs a (Ok tt) s
    → g.holds a.0.now.out (UnderWay [] items) → g.holds s.0.now.out (Ended (items ∷ []))
    → ((x y : Tapes) → g.holds s.0.now.out x → g.holds s.0.now.out y → x ≡ y) → ⊥
last_volume_with_one_mark T L g d e κs a s items l held ended one =
    let q : Ended ((items ++ mark ∷ []) ∷ []) ≡ Ended (items ∷ [])
    = one _ _ (l.closes [] items held) ended in
    let n : length (items ++ mark ∷ []) ≡ length items = ap (λ t. length (volume_at t 0)) q in
    absurd (omega (arith, n, length-append items (mark ∷ [])))

-- ---- a volume

-- volume_end_left_out: a block of 400 bytes is written after 1,884 bytes with a capacity of 2,400,
-- although the closing labels of 192 bytes would exceed it
volume_end_left_out : (T : _) (L : _) (g : _) (d : _) (κs : _) (a : _) (s : _)
    → flush.Learnt-named T L g d κs a (Ok tt) s → a.1.1.1.1.0 ≡ 2400
    → s.0.now.course.used ≡ 2292 → ⊥
volume_end_left_out T L g d κs a s l capacity used =
    let fits : s.0.now.course.used + 192 ≤ a.1.1.1.1.0 = l.roomy.room in
    absurd (omega (arith, fits, used, capacity))

fits : (capacity used size : ℕ) → used + size + 192 ≤ capacity
    → nat_le (used + size + 192) capacity ≡ false → ⊥
fits capacity used size room refused = absurd (grind (arith, nat_tests))

-- volume_per_block: the second block of the volume fits, but is refused because no volume is left
volume_per_block : (T : _) (L : _) (g : _) (d : _) (κs : _) (a : _) (s : _)
    → flush.Learnt-named T L g d κs a (Err faults.OutOfVolumes) s
    → a.0.now.course ≡ record { volume = 1; sect = 1; count = 1; used = 1076 }
    → a.1.1.1.1.0 ≡ 100000 → a.1.0.now.shape.block_len ≡ 800 → ⊥
volume_per_block T L g d κs a s l course capacity size =
    let out = (l.stuck refl).1 in
    let n : ℕ = length out.text in
    let within : n ≤ a.1.0.now.shape.block_len = out.given.within in
    let used : a.0.now.course.used ≡ 1076 = ap (λ c. c.used) course in
    fits a.1.1.1.1.0 a.0.now.course.used (8 + n + n % 2)
    (omega (arith, within, used, capacity, size)) out.due

-- count_of_the_file: the count of the next section begins with the three blocks that the file has
-- so far
count_of_the_file : (T : _) (L : _) (g : _) (d : _) (κs : _) (a : _) (s : _)
    → begin_section.Learnt-named T L g d κs a (Ok tt) s → s.0.now.course.count ≡ 3 → ⊥
count_of_the_file T L g d κs a s l three = absurd (omega (arith, three, ap (λ c. c.count) l.course))

-- blank_volume_of_version_3: the label states version 3 of the standard
blank_volume_of_version_3 : (κs : _) (a : _) (z : _) (s : _) → blank_volume_of.Learnt κs a z s
    → z.version ≡ 51 → ⊥
blank_volume_of_version_3 κs a z s h w =
    absurd (let d : 51 ≡ 52 = sym w ∙ ap (λ v. v.version) h in omega arith)

-- volume_numbers_begin_at_2: the first volume with the prefix ABC has the identifier ABC002
volume_numbers_begin_at_2 : (κs : _) (z : _) (s : _)
    → blank_volume_of.Learnt κs (record { characters = codes "ABC" }, (1, tt)) z s
    → z.volume ≡ codes "ABC002" → ⊥
volume_numbers_begin_at_2 κs z s h w =
    absurd (let d : 50 ≡ 49 = ap (λ v. slice_index v 5) (sym w ∙ ap (λ v. v.volume) h) in
    omega arith)

-- one_mark_behind_the_label: the end-of-medium marker follows a single tape mark
one_mark_behind_the_label : (κs : _) (a : _) (z : _) (s : _) → blank_image_of.Learnt κs a z s
    → a.0.now ≡ blank_volume (codes "ABC") 1 → slice_index z.items 92 ≡ 255 → ⊥
one_mark_behind_the_label κs a z s h e w =
    absurd (let d : 255 ≡ 0 = sym w ∙ ap (λ v. slice_index v 92) (h ∙ ap blank_image e) in
    omega arith)

-- small_letters_in_prefixes: `abc` is accepted as a prefix
no_capital : IsPrefixByte 97 → ⊥
no_capital (inl h) = absurd (omega (arith, h.1))
no_capital (inr h) = absurd (omega (arith, h.1))

small_letters_in_prefixes : (κs : _) (a : _) (p : _) (s : _)
    → prefix.Learnt-named κs a (Some p) s → a.0.now ≡ codes "abc" → ⊥
small_letters_in_prefixes κs a p s l e =
    let w : IsPrefix (codes "abc") = subst IsPrefix e (l.some.0 refl) in
    no_capital w.1.0
