-- Fixed numbers of faults.
use Rattle.std.specs.Prelude.{ℕ}
use Rattle.tape_run.specs.declared.fault.RunFault.{RunFault}
use Rattle.tape_run.specs.declared.fault.RunFault.TheVariants.{Sink, NoSuchPoint, TooFewReels}
use Rattle.tape_run.specs.declared.fault.RunFault.TheVariants.{OutOfMemory, OtherFile}

abbrev pub number_of : RunFault → ℕ
number_of (Sink cause) = 1
number_of NoSuchPoint = 2
number_of TooFewReels = 3
number_of OutOfMemory = 4
number_of OtherFile = 5
