-- Examples for the definition of suspect reels. They are the contract of the call
-- `laws::suspect_reels`.
use Rattle.std.specs.Prelude.{◌≡◌, ℕ, Option, true, false}
use Rattle.tape_image.specs.declared.item.ImageFault.{ImageFault}
use Rattle.tape_label.specs.declared.label.LabelFault.TheVariants.{NotEighty, Identifier}
use Rattle.tape_label.specs.declared.label.LabelFault.TheVariants.{NotDigits}
use Rattle.tape_core.specs.declared.event.Answer.{Answer}
use Rattle.tape_core.specs.declared.event.Answer.TheVariants.{SectionDone, Useless}
use Rattle.tape_core.specs.declared.event.Reason.TheVariants.{BlockCount, BadLabel, ReelEnded}
use Rattle.tape_run.specs.{declared.reel_reader.ReelAnswer.ReelAnswer, Reeling.is_suspect}

-- an answer that ended a reading, after so many blocks
abbrev pub ended_by : Answer → Option ImageFault → ℕ → ReelAnswer
ended_by answer fault blocks = record { answer = answer; fault = fault; blocks = blocks }

-- reels that are suspect, and others
pub record CasesOfSuspects : Type 0 where
  -- one with a wrong number of blocks is, however the images are read
  pub counted : (again : _) (fault : Option ImageFault) (blocks : ℕ)
      → (is_suspect again (ended_by (Useless (BlockCount 3 4)) fault blocks) ≡ true)
  -- so is one that gave blocks, and then has something else in place of its trailer label, if the
  -- images are read again
  pub unended : (fault : Option ImageFault)
      → (is_suspect true (ended_by (Useless (BadLabel Identifier)) fault 2) ≡ true)
      × (is_suspect true (ended_by (Useless (BadLabel NotEighty)) fault 1) ≡ true)
      × (is_suspect true (ended_by (Useless (BadLabel Identifier)) fault 0) ≡ false)
      × (is_suspect true (ended_by (Useless (BadLabel (NotDigits 5))) fault 2) ≡ false)
      × (is_suspect false (ended_by (Useless (BadLabel Identifier)) fault 2) ≡ false)
  -- one that was cut is not, nor one that ended its section
  pub calm : (again : _) (fault : Option ImageFault) (blocks : ℕ)
      → (is_suspect again (ended_by (Useless ReelEnded) fault blocks) ≡ false)
      × (is_suspect again (ended_by SectionDone fault blocks) ≡ false)
