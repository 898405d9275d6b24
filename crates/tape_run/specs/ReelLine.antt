-- The lines that `extract` reports. Numbers are decimals without leading zeros.
use Rattle.std.specs.Prelude.{ℕ, ◌+◌, List, [], ◌∷◌, ◌++◌, Option, Some, None, codes, decimal}
use Rattle.std.specs.Prelude.{if◌then◌else◌, ◌==◌}
use Rattle.tape_image.specs.declared.item.ImageFault.{ImageFault}
use Rattle.tape_image.specs.Fault as image_faults
use Rattle.tape_label.specs.Faults as label_faults
use Rattle.tape_blocks.specs.Numbers.{cause_number}
use Rattle.tape_set.specs.declared.position.Want.{Want}
use Rattle.tape_core.specs.declared.event.{Answer.Answer, Reason.Reason}
use Rattle.tape_core.specs.declared.event.Answer.TheVariants.{Passed, Deliver, SectionDone}
use Rattle.tape_core.specs.declared.event.Answer.TheVariants.{Complete, Useless}
use Rattle.tape_core.specs.declared.event.Reason.TheVariants.{NotLabelled, OtherSet, NotOnReel}
use Rattle.tape_core.specs.declared.event.Reason.TheVariants.{LaterSection, EarlierSection, BadItem}
use Rattle.tape_core.specs.declared.event.Reason.TheVariants.{ReelEnded, BadBlock, BlockCount}
use Rattle.tape_core.specs.declared.event.Reason.TheVariants.{SpanLeft, SectionDiffers, BadLabel}
use Rattle.tape_core.specs.declared.event.Reason.TheVariants.{Broken}
use Rattle.tape_run.specs.declared.reel_reader.ReelAnswer.{ReelAnswer}

-- a word, followed by two numbers
abbrev pub two_numbers : List ℕ → ℕ → ℕ → List ℕ
two_numbers word a b = word ++ decimal a ++ codes " " ++ decimal b

-- the text of the reason why a reading yielded nothing more
abbrev pub reason_text : Reason → List ℕ
reason_text NotLabelled = codes "NOT LABELLED"
reason_text OtherSet = codes "OTHER SET"
reason_text NotOnReel = codes "NOT ON REEL"
reason_text LaterSection = codes "LATER SECTION"
reason_text EarlierSection = codes "EARLIER SECTION"
reason_text BadItem = codes "BAD ITEM"
reason_text ReelEnded = codes "REEL ENDED"
reason_text (BadBlock fault) =
    two_numbers (codes "BAD BLOCK ") (cause_number fault.cause) fault.place
reason_text (BlockCount label seen) = two_numbers (codes "BLOCK COUNT ") label seen
reason_text SpanLeft = codes "SPAN LEFT"
reason_text SectionDiffers = codes "SECTION DIFFERS"
reason_text (BadLabel fault) = codes "BAD LABEL " ++ decimal (label_faults.number fault)
reason_text Broken = codes "BROKEN"

-- the text of the answer that ended a reading; the first two answers never end one
abbrev pub answer_text : Answer → List ℕ
answer_text Passed = codes "PASSED"
answer_text Deliver = codes "DELIVER"
answer_text SectionDone = codes "SECTION DONE"
answer_text Complete = codes "COMPLETE"
answer_text (Useless reason) = reason_text reason

-- the fault of the image that ended the reading, if any
abbrev pub end_text : Option ImageFault → List ℕ
end_text None = []
end_text (Some fault) =
    two_numbers (codes " IMAGE ") (image_faults.number_of fault.cause) fault.place

-- the outcome of an image: it was read, or it was not opened
abbrev pub outcome_text : Option ReelAnswer → List ℕ
outcome_text None = codes "NOT OPENED"
outcome_text (Some answer) = answer_text answer.answer ++ end_text answer.fault

-- the line of the image with this number
abbrev pub reel_line : ℕ → Option ReelAnswer → List ℕ
reel_line n outcome = codes "REEL " ++ decimal n ++ codes " " ++ outcome_text outcome ++ codes "\n"

-- the number of delivered parts of the missing block, if any
abbrev pub part_text : ℕ → List ℕ
part_text part = if part == 0 then [] else codes " " ++ decimal part

-- the last line: the missing part, or the number of records in the file
abbrev pub last_line : Option Want → ℕ → List ℕ
last_line None records = codes "COMPLETE " ++ decimal records ++ codes "\n"
last_line (Some want) records = codes "AWAITS " ++ decimal want.file ++ codes " "
    ++ decimal want.sect ++ codes " " ++ decimal want.block ++ part_text want.part ++ codes "\n"

-- the lines of images, the first of which has this number
abbrev pub reel_lines : ℕ → List (Option ReelAnswer) → List ℕ
reel_lines n [] = []
reel_lines n (outcome ∷ outcomes) = reel_line n outcome ++ reel_lines (n + 1) outcomes
