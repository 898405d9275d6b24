-- Sections of many blocks of one byte: up to `most_blocks` blocks they are valid, and their labels
-- state the last six digits of the number; with one more block, only the number of blocks makes
-- them invalid.
use Rattle.std.proofs.Common.{◌≡◌, ◌<◌, ◌≤◌, ℕ, zero, suc, List, [], ◌∷◌, length, true, false, refl}
use Rattle.std.proofs.Common.{sym, ap, subst, arith, codes, lit≤, lit<}
use Rattle.std.proofs.lemmas.List.{length-replicate}
use Rattle.std.specs.{Prelude.map, Prelude.replicate, List.AllByRecursion}
use Rattle.tape_image.specs.Tape.{IsTapeItem}
use Rattle.tape_label.specs.{declared.values.Format.TheVariants.Fixed, declared.values.Head1.Head1}
use Rattle.tape_label.specs.{declared.values.Trail1.Trail1, Head1.HeadFits, Head2.Head2Fits}
use Rattle.tape_label.specs.Trail1.{TrailFits}
use Rattle.tape_label.specs.declared.values.Kind.TheVariants as kinds
use Rattle.tape_blocks.specs.{Tight.Filled, Tight.Chain, Tight.parts_of_all, Block.Holds}
use Rattle.tape_blocks.specs.{declared.parts.Shape.Shape, Spans.InOrder}
use Rattle.tape_blocks.proofs.PackLaws.{written_holds}
use Rattle.tape_set.specs.Layout.{FileSet, Section, Placed, sections, item_of, section_entries}
use Rattle.tape_set.specs.Lawful.{IsLawful, IsVolume, IsSection, IsHeader, IsTrailer, IsFile}
use Rattle.tape_set.specs.{Layout.data_group, Tight.second_of}
use Rattle.tape_set.specs.Lawful.{StartsOnFirst, GoesOn, most_blocks, label_count}
use Rattle.tape_set.proofs.Worked.{set_id, head, trail, trailer, made, filled, form, hdr1_is}
use Rattle.tape_set.proofs.Worked.{trailer_is, second_is, label_count_most, made_sized}
use Rattle.tape_set.proofs.Worked.{plain_volume_is, plain_set, shape_of}
use Rattle.tape_set.proofs.{Numbering.placed, PartsBefore.section_parts-one, WorkedFile.whole}

abbrev shape : Shape
shape = shape_of Fixed 1 1 0 (λ _. lit≤ tt)

shape_fits : Head2Fits (second_of shape)
shape_fits = record {
  standard = refl;
  block_len = lit≤ tt;
  rec_len = (lit≤ tt, lit≤ tt);
  offset = lit≤ tt;
}

-- ---- the blocks

abbrev letter : Filled
letter = filled shape (whole (65 ∷ []) ∷ [])

letter_holds : Holds Fixed 1 0 letter.bytes letter.parts
letter_holds = written_holds shape letter.parts ((refl, refl), tt) refl

all_held : (n : ℕ) → AllByRecursion (λ b. Holds Fixed 1 0 b.bytes b.parts) (replicate n letter)
all_held zero = tt
all_held (suc n) = (letter_holds, all_held n)

all_sized : (n : ℕ) → AllByRecursion IsTapeItem (map item_of (data_group (replicate n letter)))
all_sized zero = tt
all_sized (suc n) = ((lit< tt, lit≤ tt), all_sized n)

all_in_order : (n : ℕ) → InOrder false (parts_of_all (replicate n letter)) false
all_in_order zero = refl
all_in_order (suc n) = (refl, all_in_order n)

-- ---- the sets

abbrev section : ℕ → Section
section n = made shape 1 1 1 true (replicate n letter)

abbrev set_of : Section → FileSet
set_of s = plain_set 1 ((s ∷ []) ∷ [])

abbrev many : ℕ → FileSet
many n = set_of (section n)

-- all clauses of a valid section except the one about the number of blocks
record AllButFew (of_set : List ℕ) (volumes : ℕ) (x : Placed) : Type 0 where
  header : (h : Head1) × IsHeader of_set x h
  trailer : (t : Trail1) × IsTrailer x t
  volume : (1 ≤ x.section.volume) × (x.section.volume ≤ volumes)
  sized : AllByRecursion IsTapeItem (map item_of (section_entries x.section))

head_fits : HeadFits (head 1 1)
head_fits = record { sect = (lit≤ tt, lit≤ tt); sequence = (lit≤ tt, lit≤ tt) }

section_but : (n : ℕ) → AllButFew set_id 1 (placed 1 1 (section n))
section_but n =
    let count = label_count (length (replicate n letter)) in
    let fits : TrailFits (trail true 1 1 count) =
    record { head = head_fits; blocks = label_count_most (length (replicate n letter)) } in
    record {
      header = (
        head 1 1,
        record { label = hdr1_is 1 1 head_fits; set_id = refl; file = refl; sect = refl },
      );
      trailer = (
        trail true 1 1 count,
        record { label = trailer_is true 1 1 count fits; file = refl; sect = refl; count = refl },
      );
      volume = (lit≤ tt, lit≤ tt);
      sized = made_sized shape 1 1 1 true (replicate n letter) shape_fits head_fits (all_sized n);
    }

file_is : (n : ℕ) → IsFile (section n ∷ [])
file_is n = record {
  ends = refl;
  alike = (
    form shape,
    (
      record {
        labels = record {
          head = head 1 1;
          second = second_of shape;
          hdr1 = hdr1_is 1 1 head_fits;
          hdr2 = second_is kinds.Hdr2 shape tt shape_fits;
          told = refl;
        };
        held = all_held n;
      },
      tt,
    ),
  );
  order = subst (λ v. InOrder false v false) (sym (section_parts-one (section n))) (all_in_order n);
}

many_lawful : (n : ℕ) → n ≤ most_blocks → IsLawful (many n)
many_lawful n h =
    let but : AllButFew set_id 1 (placed 1 1 (section n)) = section_but n in
    record {
      volumes = (plain_volume_is, tt);
      each = (
        record {
          header = but.header;
          trailer = but.trailer;
          volume = but.volume;
          few = omega (arith, h, length-replicate {A = Filled} n letter);
          sized = but.sized;
        },
        tt,
      );
      files = (file_is n, tt);
      first = refl;
      goes_on = tt;
    }

-- ---- 1,000,003 blocks

million_lawful : IsLawful (many 1000003)
million_lawful = many_lawful 1000003 (lit≤ tt)

million_trailer : (section 1000003).trailer
    ≡ codes "EOF1PAYROLL          ABC00100010001000100 00000 00000 000003                    "
million_trailer =
    ap (λ n. trailer true 1 1 (label_count n)) (length-replicate {A = Filled} 1000003 letter)

-- the greatest number of blocks
most_lawful : IsLawful (many 4294967295)
most_lawful = many_lawful 4294967295 (lit≤ tt)

most_trailer : (section 4294967295).trailer
    ≡ codes "EOF1PAYROLL          ABC00100010001000100 00000 00000 967295                    "
most_trailer =
    ap (λ n. trailer true 1 1 (label_count n)) (length-replicate {A = Filled} 4294967295 letter)

-- ---- one more block

-- all clauses except the one about the number of blocks hold
record OnlyFew (s : Section) : Type 0 where
  volumes : AllByRecursion IsVolume (set_of s).volumes
  each : AllButFew set_id 1 (placed 1 1 s)
  files : AllByRecursion IsFile (set_of s).files
  first : StartsOnFirst (sections (set_of s))
  goes_on : Chain GoesOn (sections (set_of s))
  refused : IsSection set_id 1 (placed 1 1 s) → ⊥

-- n stays a variable here: for a literal number, arithmetic would build the list
too_many : (n : ℕ) → most_blocks < n → OnlyFew (section n)
too_many n h = record {
  volumes = (plain_volume_is, tt);
  each = section_but n;
  files = (file_is n, tt);
  first = refl;
  goes_on = tt;
  refused = λ l. absurd (omega (arith, h, l.few, length-replicate {A = Filled} n letter));
}

one_too_many : OnlyFew (section 4294967296)
one_too_many = too_many 4294967296 (lit< tt)
