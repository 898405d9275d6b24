-- The cases of `stage`.
use Rattle.std.proofs.Common.{◌≡◌, ◌≢◌, ◌⊎◌, Bool, true, false, List, ℕ, Option, Some, None, refl}
use Rattle.std.proofs.Common.{inl, inr, arith, subst}
use Rattle.std.specs.{Fmt.digits, Io.KnownBytes.Keeps}
use Rattle.tape_blocks.specs.{declared.parts.Form.Form, Block.Portion}
use Rattle.tape_blocks.specs.declared.parts.Form.TheVariants.{Counted}
use Rattle.tape_run.specs.declared.fault.RunFault.{RunFault}
use Rattle.tape_run.specs.declared.fault.RunFault.TheVariants as run
use Rattle.tape_stage.specs.declared.stage.StageFault.TheVariants.{BadFrame, Device, Failed, Full}
use Rattle.tape_stage.specs.{Faults.OnBadFrame, Faults.SaysNone, Found.IsFaultOf, Salvaged.Remains}
use Rattle.tape_stage.specs.{Staged.HoldsNone, declared.stage.StageFault.StageFault}
use Rattle.tape_stage.specs.declared.stage.StageFault.TheVariants.{OutOfMemory, NoPoint}
use Rattle.tape_core.specs.Point.{Point}
use Rattle.tape_writer.specs.declared.system.fault.FileFault.TheVariants.{WriteFailed}
use Rattle.tape_tool.specs.StageReport.{unopened, in_part, in_lines, in_records}
use Rattle.tape_tool.specs.{declared.fault.ToolFault.ToolFault, StageReport.StopsShowing}
use Rattle.tape_tool.specs.declared.fault.ToolFault.TheVariants.{File, Run, Stage}
use Rattle.tape_tool.specs.CasesOfShowing.{CasesOfShowing, StopSays, StoppedOnlyBy}

module _ (read : List ℕ) (damaged : Bool) (form : Option Form)
    (out written said says : Option (List ℕ)) where
  stopped : (fault : ToolFault) → StopSays read damaged form out written said says fault
  stopped fault (unopened cause is none why frame full failed kept quiet) =
      inl (cause, is, none, why, frame, full, failed, kept, quiet)
  stopped fault (in_part g point broken parts remains whole (in_records wrote quiet ends)) =
      inr (g, point, broken, parts, remains, whole, inl (wrote, quiet, ends.0, ends.1))
  stopped fault (in_part g point broken parts remains whole (in_lines wrote told failed)) =
      inr (g, point, broken, parts, remains, whole, inr (wrote, told, failed))

  -- a fault of the stage occurred before it was opened, or is one of its device
  of_stage : (cause : StageFault)
      → StopsShowing read damaged form out written said says (Stage cause)
      → ((SaysNone cause → HoldsNone read) × IsFaultOf read cause
      × OnBadFrame cause (λ place. damaged ≡ false) × (cause ≢ Full) × (cause ≢ Failed)
      × Keeps out written × Keeps said says) ⊎ (cause ≡ Device)
  of_stage cause h = elim (stopped (Stage cause) h) [
    | inl w ↦
        let same : cause ≡ w.0 = cc in
        inl (rw same (w.2, w.3, w.4, w.5, w.6, w.7, w.8))
    | inr w ↦ inr (grind (arith, w))
  ]

  -- a fault of the run occurred while records were written
  of_run : (fault : RunFault) → StopsShowing read damaged form out written said says (Run fault)
      → (form ≡ Some Counted) × (fault ≡ run.OutOfMemory)
  of_run fault (unopened cause is none why frame full failed kept quiet) = absurd (cc is)
  of_run fault (in_part g point broken parts remains whole (in_records wrote quiet ends)) =
      elim ends.1 [
        | inl e ↦ absurd (cc e)
        | inr (inl e) ↦ absurd (cc e)
        | inr (inr (counted, e)) ↦ (counted, cc e)
      ]
  of_run fault (in_part g point broken parts remains whole (in_lines wrote told failed)) =
      absurd (cc failed)

  stops_by : StoppedOnlyBy form (StopsShowing read damaged form out written said says)
      (Keeps out written × Keeps said says)
  stops_by = (
    λ h. elim (of_stage Full h) [ inl w ↦ w.3 refl | inr e ↦ cc ],
    λ h. elim (of_stage Failed h) [ inl w ↦ w.4 refl | inr e ↦ cc ],
    λ h. elim (of_stage OutOfMemory h) [ inl w ↦ (w.5, w.6) | inr e ↦ absurd (cc) ],
    λ fault h. grind (arith, stopped (File fault) h),
    λ fault h. of_run fault h,
  )

  -- what NoPoint and BadFrame say is true, and BadFrame is not reported with `damaged`
  none_told : (cause : StageFault) → SaysNone cause
      → StopsShowing read damaged form out written said says (Stage cause)
      → HoldsNone read × IsFaultOf read cause × OnBadFrame cause (λ place. damaged ≡ false)
  none_told cause says h = elim (of_stage cause h) [
    | inl w ↦ (w.0 says, w.1, w.2)
    | inr e ↦ absurd (subst SaysNone e says)
  ]

  fails_before : StopsShowing read damaged form out written said says (Stage Device)
      → Keeps said says × (form ≡ None → Keeps out written)
  fails_before (unopened cause is none why frame full failed kept quiet) = (quiet, λ no. kept)
  fails_before (in_part g point broken parts remains whole (in_records wrote quiet ends)) =
      (quiet, λ no. absurd (ends.0 no))
  fails_before (in_part g point broken parts remains whole (in_lines wrote told failed)) =
      absurd (let h : Stage Device ≡ File WriteFailed = failed in cc)

remaining : (read : List ℕ) (g : ℕ) (point : Point) (broken : Option ℕ) (parts : List Portion)
    (cause : StageFault) → Remains read g point broken parts → SaysNone cause
    → IsFaultOf read cause × OnBadFrame cause (λ place. true ≡ false) → ⊥
remaining read g point broken parts NoPoint remains none told =
    told.0 g point broken parts remains
remaining read g point broken parts (BadFrame place) remains none told = cc (told.1)
remaining read g point broken parts Device remains none told = none
remaining read g point _ parts _ remains none told = none

pub cases_of_showing : CasesOfShowing
unfolding digits
cases_of_showing = record {
  awaits = refl;
  complete = refl;
  breaks = refl;
  ends = λ want place fault. (refl, refl, refl, refl);
  shown = λ read damaged form out written said says ending s.
      (s.remains, s.whole, s.ends, s.wrote, s.told);
  counted = λ read damaged out written said says ending s. (s.wrote, s.told);
  stopped = λ read damaged form out written said says. (
    stopped read damaged form out written said says,
    fails_before read damaged form out written said says,
    stops_by read damaged form out written said says,
    λ g point parts cause staged none h.
        (none_told read damaged form out written said says cause none h).0 g point parts staged,
  );
  remaining = λ read form out written said says g point broken parts cause remains none h.
      let told = none_told read true form out written said says cause none h in
      remaining read g point broken parts cause remains none (told.1, told.2);
}
