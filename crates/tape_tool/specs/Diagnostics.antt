-- The line that reports a fault.
use Rattle.std.specs.Prelude.{ℕ, List, ◌++◌, codes, decimal}
use Rattle.tape_image.specs.{Fault.number_of}
use Rattle.tape_label.specs.Faults.{number}
use Rattle.tape_run.specs.Fault as run_faults
use Rattle.tape_stage.specs.Faults as stage_faults
use Rattle.tape_tool.specs.declared.fault.ToolFault.TheVariants.{Image, Label, Write, File, Run}
use Rattle.tape_tool.specs.declared.fault.ToolFault.{ToolFault}
use Rattle.tape_tool.specs.declared.fault.ToolFault.TheVariants.{Stage, StageInUse, Conflict}
use Rattle.tape_tool.specs.Fault.{file_number, write_number}

-- a kind of fault, and its number
abbrev pub numbered : List ℕ → ℕ → List ℕ
numbered kind n = kind ++ codes " fault " ++ decimal n

-- what ended the program; in an image, with its offset
abbrev pub fault_text : ToolFault → List ℕ
fault_text (Image fault) = numbered (codes "image") (number_of fault.cause) ++ codes " at "
    ++ decimal fault.place
fault_text (Label fault) = numbered (codes "label") (number fault)
fault_text (Write fault) = numbered (codes "write") (write_number fault)
fault_text (File fault) = numbered (codes "file") (file_number fault)
fault_text (Run fault) = numbered (codes "run") (run_faults.number_of fault)
fault_text (Stage fault) = numbered (codes "stage") (stage_faults.number fault)
fault_text StageInUse = numbered (codes "stage") 7
fault_text Conflict = numbered (codes "set") 1

-- the line on standard error
abbrev pub fault_line : ToolFault → List ℕ
fault_line fault = codes "tape: " ++ fault_text fault ++ codes "\n"
