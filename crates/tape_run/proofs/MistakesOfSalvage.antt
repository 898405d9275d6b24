-- Wrong answers of `salvage` that the definitions exclude.
use Rattle.std.proofs.Common.{◌≡◌, ◌<◌, ℕ, ◌&&◌, not, Bool, true, false, List, [], ◌∷◌, ◌++◌}
use Rattle.std.proofs.Common.{Option, Some, None, Result, Ok, Err, ap, sym, ◌∙◌, arith, ◌==◌}
use Rattle.std.proofs.Common.{if◌then◌else◌, min, ◌||◌, refl}
use Rattle.std.specs.Str.{bytes_eq}
use Rattle.tape_run.specs.SalvageLabels.{are_other_forms, has_other}
use Rattle.tape_image.specs.Tape.{TapeItem, block}
use Rattle.tape_label.specs.declared.values.{Head1.Head1, Trail1.Trail1}
use Rattle.tape_label.specs.declared.label.LabelFault.{LabelFault}
use Rattle.tape_set.specs.Lawful.{label_count, FileForm}
use Rattle.tape_run.specs.declared.salvage.walk.{Expected.Expected, OpenSection.OpenSection}
use Rattle.tape_run.specs.declared.salvage.walk.{Closing.Closing, UnnamedItems.UnnamedItems}
use Rattle.tape_run.specs.declared.salvage.copies.SectionCopy.{SectionCopy}
use Rattle.tape_run.specs.declared.section.SectionKey.{SectionKey}
use Rattle.tape_run.specs.declared.salvage.walk.Expected.TheVariants.{Trailers, Unnamed}
use Rattle.tape_run.specs.SalvageWalk.{begun_by, named_by, one_read, unnamed_by}
use Rattle.tape_run.specs.{SalvageCopies.believed, SalvageBlocks.Salvaged, SalvageBlocks.gap_text}
use Rattle.tape_run.specs.{SalvageImage.ReadsSection, SalvageImage.closings, SalvageGaps.Gap}
use Rattle.tape_run.specs.SalvageGaps.{AreGaps}
use Rattle.tape_run.specs.SalvageConflicts.{are_conflicting, has_conflict, conflict_text, text_if}
use Rattle.tape_run.specs.SalvageConflicts.{end_alike, have_same_blocks, is_counted}
use Rattle.tape_run.specs.SalvageWalk.{closing_of}

-- gap_not_reported: blocks are missing, and no line says so
gap_not_reported : (sect first next records : ℕ) → gap_text sect (Some first) next records ≡ []
    → ⊥
gap_not_reported sect first next records e = absurd (cc e)

-- trailer_taken_as_record: all items of a section that does not close are recovered, although one
-- of them was unreadable
trailer_taken_as_record : (image n b : ℕ) (u : OpenSection) → n < b
    → believed (record {
      image = image;
      section = record u { certain = Some n; blocks = b };
      closed = None;
      skip = None;
    }) ≡ b → ⊥
trailer_taken_as_record image n b u less e = absurd (few u.trailer e)
  where
    few : (o : Option ℕ) → believed (record {
      image = image;
      section = record u { certain = Some n; trailer = o; blocks = b };
      closed = None;
      skip = None;
    }) ≡ b → ⊥
    few None e = let same : min b n ≡ b = e in omega (arith, less, same)
    few (Some m) e = let same : min m n ≡ b = e in omega (arith, less, same)

-- trailer_of_a_lost_mark_taken_as_record: the first trailer label of a section is recovered as a
-- block, because the tape mark before it is lost
trailer_of_a_lost_mark_taken_as_record : (image n b : ℕ) (u : OpenSection) → n < b
    → believed (record {
      image = image;
      section = record u { trailer = Some n; blocks = b };
      closed = None;
      skip = None;
    }) ≡ b → ⊥
trailer_of_a_lost_mark_taken_as_record image n b u less e = absurd (few u.certain e)
  where
    few : (o : Option ℕ) → believed (record {
      image = image;
      section = record u { certain = o; trailer = Some n; blocks = b };
      closed = None;
      skip = None;
    }) ≡ b → ⊥
    few None e = let same : min n b ≡ b = e in omega (arith, less, same)
    few (Some m) e = let same : min n m ≡ b = e in omega (arith, less, same)

-- labels_taken_as_data: items count as the data of a section whose HDR1 was not read, although its
-- trailer label does not count them
not_trailers : (h : Result Head1 LabelFault) (u : OpenSection) (k : Closing)
    → begun_by h (Unnamed one_read) ≡ Trailers u k → ⊥
not_trailers (Ok g) u k e = absurd (cc e)
not_trailers (Err f) u k e = absurd (cc e)

labels_taken_as_data : (r : UnnamedItems) (t : Trail1) (h : Result Head1 LabelFault)
    (u : OpenSection) (k : Closing) → (t.blocks == label_count r.items) ≡ false
    → unnamed_by r (Ok t) h ≡ Trailers u k → ⊥
labels_taken_as_data r t h u k other e = not_trailers h u k
    (sym (ap (λ (b : Bool). if b
    then Trailers (named_by r t) (closing_of (named_by r t) t)
    else begun_by h (Unnamed one_read)) other) ∙ e)

-- conflict_not_reported: two copies contradict each other, and no line says so
conflict_not_reported : (best c : SectionCopy)
    → are_conflicting best c ≡ true
    → conflict_text (Some best) (c ∷ []) ≡ [] → ⊥
conflict_not_reported best c differ e =
    absurd (cc (sym (ap (λ b. text_if b best c ++ []) differ) ∙ e))

-- conflict_reported_as_complete: two copies of section 1 contradict each other, and the file is
-- called complete
conflict_reported_as_complete : (best c : SectionCopy) (cs : List SectionCopy)
    (missing any : Bool)
    → are_conflicting best c ≡ true → any ≡ has_conflict (Some best) (c ∷ cs)
    → (not missing && not any) ≡ true → ⊥
conflict_reported_as_complete best c cs missing any differ is complete = grind (arith)

-- two_weeks_reported_as_complete: the images have copies of section 1 that were created on
-- different days, and the file is called complete
other_dates : (best c : SectionCopy) (blocks : Bool)
    → (c.section.key.sect == best.section.key.sect) ≡ true
    → bytes_eq best.section.created c.section.created ≡ false
    → (b d f : Bool) → ((c.section.key.sect == best.section.key.sect)
    && (blocks || ((b || (not (bytes_eq best.section.created c.section.created) || d)) || f)))
    ≡ true
other_dates best c blocks same other b d f = grind (arith)

two_weeks_reported_as_complete : (best c : SectionCopy) (cs : List SectionCopy)
    (missing any : Bool) → (c.section.key.sect == best.section.key.sect) ≡ true
    → bytes_eq best.section.created c.section.created ≡ false
    → any ≡ has_conflict (Some best) (c ∷ cs) → (not missing && not any) ≡ true → ⊥
two_weeks_reported_as_complete best c cs missing any same other is complete =
    conflict_reported_as_complete best c cs missing any
    (other_dates best c _ same other _ _ _) is complete

-- two_forms_reported_as_complete: the labels of two copies of section 1 record different forms, and
-- the file is called complete
other_forms : (best c : SectionCopy) → (c.section.key.sect == best.section.key.sect) ≡ true
    → are_other_forms best.section.form c.section.form ≡ true
    → (a b : Bool) → ((c.section.key.sect == best.section.key.sect)
    && (a || (b || are_other_forms best.section.form c.section.form))) ≡ true
other_forms best c same other a b = grind (arith)

two_forms_reported_as_complete : (best c : SectionCopy) (cs : List SectionCopy)
    (missing any : Bool) → (c.section.key.sect == best.section.key.sect) ≡ true
    → are_other_forms best.section.form c.section.form ≡ true
    → any ≡ has_conflict (Some best) (c ∷ cs) → (not missing && not any) ≡ true → ⊥
two_forms_reported_as_complete best c cs missing any same other is complete =
    conflict_reported_as_complete best c cs missing any
    (other_forms best c same other _ _) is complete

-- two_ends_reported_as_complete: the file ends with one of two counted copies of a section and
-- continues after the other, and the file is called complete
unlike_if : (s p q r e b : Bool) → s ≡ true → p ≡ true → q ≡ true → e ≡ false
    → (s && ((p && (q && not (r && e))) || b)) ≡ true
unlike_if s p q true e b is one two other = rw (is, one, two, other) refl
unlike_if s p q false e b is one two other = rw (is, one, two) refl

two_ends_reported_as_complete : (best c : SectionCopy) (cs : List SectionCopy)
    (missing any : Bool) → (c.section.key.sect == best.section.key.sect) ≡ true
    → is_counted best ≡ true → is_counted c ≡ true
    → end_alike best.closed c.closed ≡ false
    → any ≡ has_conflict (Some best) (c ∷ cs) → (not missing && not any) ≡ true → ⊥
two_ends_reported_as_complete best c cs missing any same one two other is complete =
    conflict_reported_as_complete best c cs missing any
    (unlike_if _ (is_counted best) (is_counted c) (have_same_blocks best c)
    (end_alike best.closed c.closed) _ same one two other) is complete

-- two_files_reported_as_complete: section 2 has the file identifier of another file than section 1,
-- and the file is called complete
two_files_reported_as_complete : (known : Option FileForm) (first best : SectionCopy)
    (missing earlier any : Bool)
    → bytes_eq best.section.file_id first.section.file_id ≡ false
    → any ≡ (has_other known (Some first) (Some best) || earlier)
    → (not missing && not any) ≡ true → ⊥
two_files_reported_as_complete known first best missing earlier any other is complete =
    grind (arith)

-- overwritten_reported_as_complete: the trailer label of a section names another file than its
-- HDR1, and the file is called complete
overwritten_reported_as_complete : (known : Option FileForm) (first best : SectionCopy)
    (k : Closing) (missing earlier any : Bool) → best.closed ≡ Some k → k.named ≡ false
    → any ≡ (has_other known (Some first) (Some best) || earlier)
    → (not missing && not any) ≡ true → ⊥
overwritten_reported_as_complete known first best k missing earlier any ends other is complete =
    grind (arith)

-- section_read_twice: the data of a section that is on the image twice are read from both
section_read_twice : (before after : Option (List ℕ)) (start : Expected) (key : SectionKey)
    (items : List TapeItem) → ReadsSection before after start key items true
    → closings key start items ≡ 2 → ⊥
section_read_twice before after start key items r twice = absurd (omega (arith, r.once, twice))

-- gap_with_a_readable_block: a block that was read is reported as missing
gap_with_a_readable_block : (form : Option FileForm) (n : ℕ) (g : Salvaged) (b : List ℕ)
    (gap : Gap) → AreGaps form n g (block b ∷ []) (gap ∷ []) → ⊥
gap_with_a_readable_block form n g b gap ([], rest, more, is, all, starts, one, next) =
    absurd (cc is)
gap_with_a_readable_block form n g b gap (x ∷ [], rest, more, is, all, starts, one, next) =
    absurd (cc is)
gap_with_a_readable_block form n g b gap (x ∷ y ∷ front, rest, more, is, all, starts, one, next) =
    absurd (cc is)
