-- Worked examples of what `extract` reports and writes.
use Rattle.std.specs.Prelude.{◌≡◌, ℕ, List, [], ◌∷◌, ◌++◌, Option, Some, None, codes, decimal}
use Rattle.tape_image.specs.declared.item.ImageCause.TheVariants.{Truncated}
use Rattle.tape_blocks.specs.declared.parts.Span.TheVariants.{Whole, First, Middle, Last}
use Rattle.tape_blocks.specs.Block.{Portion}
use Rattle.tape_blocks.specs.declared.parts.Form.TheVariants.{Lines, Raw, Counted}
use Rattle.tape_set.specs.declared.position.Want.{Want}
use Rattle.tape_core.specs.declared.event.{Answer.TheVariants.Useless, Reason.TheVariants.ReelEnded}
use Rattle.tape_run.specs.{declared.reel_reader.ReelAnswer.ReelAnswer, RecordText.output_of}
use Rattle.tape_run.specs.ReelLine.{reel_line, reel_lines, last_line}

-- a record AB, a record CDE in three parts, and an unfinished record that begins with F
abbrev pub worked_parts : List Portion
worked_parts =
    record { span = Whole; bytes = codes "AB" }
    ∷ record { span = First; bytes = codes "C" }
    ∷ record { span = Middle; bytes = codes "D" }
    ∷ record { span = Last; bytes = codes "E" }
    ∷ record { span = First; bytes = codes "F" } ∷ []

-- block 2 of the first section of file 9, after the given number of its parts was delivered
abbrev pub worked_want : ℕ → Want
worked_want part = record { file = 9; sect = 1; block = 2; part = part }

-- a reel that is truncated in the item at byte 1,884
abbrev pub worked_end : Option ReelAnswer
worked_end = Some (record {
  answer = Useless ReelEnded;
  fault = Some (record { place = 1884; cause = Truncated });
  blocks = 2;
})

-- the records written and the lines reported, worked out
pub record ExtractIsWorked : Type 0 where
  pub lines : output_of Lines worked_parts ≡ codes "AB\nCDE\n"
  pub raw : output_of Raw worked_parts ≡ codes "ABCDE"
  pub counted : output_of Counted worked_parts
      ≡ 0 ∷ 0 ∷ 0 ∷ 2 ∷ codes "AB" ++ 0 ∷ 0 ∷ 0 ∷ 3 ∷ codes "CDE"
  pub nothing : output_of Lines [] ≡ []
  pub empty_record : output_of Lines (record { span = Whole; bytes = [] } ∷ []) ≡ codes "\n"
  pub not_opened : reel_line 1 None
      ≡ codes "REEL " ++ decimal 1 ++ codes " " ++ codes "NOT OPENED" ++ codes "\n"
  pub ended : reel_line 2 worked_end
      ≡ codes "REEL " ++ decimal 2 ++ codes " "
      ++ (codes "REEL ENDED" ++ (codes " IMAGE " ++ decimal 1 ++ codes " " ++ decimal 1884))
      ++ codes "\n"
  pub reels : reel_lines 1 (None ∷ worked_end ∷ [])
      ≡ reel_line 1 None ++ (reel_line 2 worked_end ++ [])
  pub awaits : last_line (Some (worked_want 0)) 5
      ≡ codes "AWAITS " ++ decimal 9 ++ codes " " ++ decimal 1 ++ codes " " ++ decimal 2
      ++ [] ++ codes "\n"
  pub awaits_part : last_line (Some (worked_want 7)) 5
      ≡ codes "AWAITS " ++ decimal 9 ++ codes " " ++ decimal 1 ++ codes " " ++ decimal 2
      ++ (codes " " ++ decimal 7) ++ codes "\n"
