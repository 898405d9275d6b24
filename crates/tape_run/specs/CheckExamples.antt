-- Worked lines of a report.
use Rattle.std.specs.Prelude.{◌≡◌, true, false, [], ◌∷◌, ◌++◌, codes, Option, Some, None}
use Rattle.tape_image.specs.declared.item.ImageCause.TheVariants.{Truncated}
use Rattle.tape_run.specs.declared.section.ImageStop.TheVariants.{Marked, Physical, Fault}
use Rattle.tape_run.specs.declared.section.{ImageLine.ImageLine, SectionLine.SectionLine, Lack.Lack}
use Rattle.tape_run.specs.declared.section.SectionState.TheVariants.{Good, Bad, Count, Cut}
use Rattle.tape_run.specs.CheckLine.{image_line, image_lines, stop_text, section_line, lack_line}
use Rattle.tape_run.specs.CheckLine.{state_text}
use Rattle.tape_run.specs.Checked.{summary_of}

-- the lines of images
pub record ImagesAreWorked : Type 0 where
  pub ended : image_line 3 (Some (record { items = 2; stop = Marked })) ≡ codes "IMAGE 3 2 MARKED\n"
  pub physical : stop_text Physical ≡ codes "PHYSICAL"
  pub broken : stop_text (Fault (record { place = 9; cause = Truncated })) ≡ codes "FAULT 1 9"
  pub absent : image_line 1 None ≡ codes "IMAGE 1 0 NOT OPENED\n"
  pub numbered : (first second : Option ImageLine)
      → image_lines 1 (first ∷ second ∷ []) ≡ image_line 1 first ++ (image_line 2 second ++ [])

-- the lines of sections and of missing sections
pub record SectionsAreWorked : Type 0 where
  pub good : section_line (record {
    set_id = codes "ABC001";
    file = 1;
    sect = 2;
    volume = codes "XYZ009";
    blocks = 3;
    state = Good;
  })
      ≡ codes "SECTION ABC001 1 2 XYZ009 3 GOOD\n"
  pub states : state_text Bad ++ state_text Count ++ state_text Cut ≡ codes "BADCOUNTCUT"
  pub lack : lack_line (record { set_id = codes "ABC001"; file = 3; sect = 2 })
      ≡ codes "LACKS ABC001 3 2\n"
  -- bytes below the space and above the tilde
  pub printed : lack_line (record {
    set_id = 31 ∷ 32 ∷ 126 ∷ 127 ∷ 7 ∷ 233 ∷ [];
    file = 1;
    sect = 2;
  })
      ≡ codes "LACKS ? ~??? 1 2\n"

-- the text after the lines of images, in its order
pub record SummaryIsWorked : Type 0 where
  pub order : (s : SectionLine) (l : Lack) → summary_of (s ∷ []) (l ∷ []) false
      ≡ (section_line s ++ []) ++ (lack_line l ++ []) ++ []
  pub last : summary_of [] [] true ≡ codes "ALL SECTIONS FOUND\n"

-- a worked report
pub record ReportIsWorked : Type 0 where
  pub images : ImagesAreWorked
  pub sections : SectionsAreWorked
  pub summary : SummaryIsWorked
