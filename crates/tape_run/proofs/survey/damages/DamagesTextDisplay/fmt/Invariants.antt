use Rattle.std.proofs.Common.{take}
use Rattle.std.specs.Fmt.{HasWritten, IsPlainFormatter}
use Rattle.tape_run.specs.SurveyLine.{damages_text}
use Rattle.tape_run.proofs.survey.damages.DamagesTextDisplay.fmt.Given as goal

abbrev pub invariant-loop-line : goal.invariant-loop-line
invariant-loop-line g l = IsPlainFormatter l.initial.f
    → HasWritten g.W.Write.write_str_gives l.initial.f
    (damages_text l.self.0.now (take l.line-index l.self.1.now)) l.f
