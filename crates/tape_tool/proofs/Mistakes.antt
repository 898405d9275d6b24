-- Wrong answers about ends, faults and stages that the contracts of the program's functions
-- exclude.
use Rattle.std.proofs.Common.{◌≡◌, ◌+◌, ℕ, [], length, get_or, true, false, refl, sym, ap, ◌∙◌}
use Rattle.std.proofs.Common.{subst, arith, ⊎_elim, ◌≤◌, Some, Ok, Err}
use Rattle.std.proofs.Math.Nat.{min-eq_left}
use Rattle.tape_set.specs.declared.position.Want.{Want}
use Rattle.tape_stage.specs.Staged.{Staged}
use Rattle.tape_stage.proofs.Remaining.{none_staged}
use Rattle.tape_tool.specs.declared.program.End.TheVariants as ends
use Rattle.tape_tool.specs.declared.stage.show.StageEnding.TheVariants as endings
use Rattle.tape_tool.specs.{Ends.exit_status, Staging.IsOfFile, Staging.IsUnmade}
use Rattle.tape_tool.proofs.program.End.status.Reads as status
use Rattle.tape_tool.proofs.program.stage_end.Reads as stage_end
use Rattle.tape_tool.proofs.program.extract_end.Reads as extract_end
use Rattle.tape_tool.proofs.program.check_end.Reads as check_end
use Rattle.tape_tool.proofs.staging.is_unmade.Reads as is_unmade
use Rattle.tape_tool.proofs.staging.open_session.Reads as open_session
use Rattle.tape_tool.proofs.staging.same_file.Reads as same_file

-- ---- how a run ends

-- fault_exits_with_zero: a run that ended with a fault exits with success
fault_exits_with_zero : (κs : _) (a : _) (s : _) (f : _) → status.Learnt κs a 0 s
    → a.0.now ≡ ends.Faulted f → ⊥
fault_exits_with_zero κs a s f h e =
    absurd (let d : 0 ≡ 1 = h ∙ ap exit_status e in omega arith)

-- incomplete_is_done: `extract` still needs something, but is reported as done
incomplete_is_done : (κs : _) (w : Want) (s : _)
    → extract_end.Learnt κs (Ok (Some w), tt) ends.Done s → ⊥
incomplete_is_done κs w s h =
    let e : ends.Done ≡ ends.Incomplete = h in
    absurd (cc)

-- damage_ends_with_success: a stage is damaged, but `stage --damaged` is reported as done
damage_ends_with_success : (κs : _) (place : ℕ) (s : _)
    → stage_end.Learnt κs (Ok (endings.Broken place), tt) ends.Done s → ⊥
damage_ends_with_success κs place s h =
    let e : ends.Done ≡ ends.Incomplete = h in
    absurd (cc)

-- missing_is_done: `check` finds a section missing, but is reported as done
missing_is_done : (κs : _) (s : _) → check_end.Learnt κs (Ok false, tt) ends.Done s → ⊥
missing_is_done κs s h =
    let e : ends.Done ≡ ends.Incomplete = h in
    absurd (cc)

-- ---- stages

-- another_file_gone_on_with: the checkpoint belongs to file 2, but file 1 is continued from it
another_file_gone_on_with : (κs : _) (point : _) (set_id : _) (s : _)
    → same_file.Learnt κs (point, (set_id, (1, tt))) true s → point.now.file ≡ 2 → ⊥
another_file_gone_on_with κs point set_id s h e =
    let w : IsOfFile set_id 1 point.now = h.0 refl in
    absurd (let d : 2 ≡ 1 = sym e ∙ w.1 in omega arith)

-- letter_emptied: a file that begins with D is taken for the beginning of a new stage
letter_emptied : (D : _) (L : _) (g : _) (d : _) (κs : _) (a : _) (s : _)
    → is_unmade.Learnt-named D L g d κs a (Ok true) s → g.is_honest a.0.now
    → get_or (g.seen a.0.now) 0 0 ≡ 68 → ⊥
letter_emptied D L g d κs a s l honest letter =
    let made : IsUnmade a.1.0 a.1.1.0 (g.seen a.0.now) = l.unmade honest in
    ⊎_elim (λ zero. omega (arith, zero, letter)) (λ due. omega (arith, due, letter)) (made.each 0)

-- stage_of_another_file_emptied: the staged data of another file are lost from the disk
stage_of_another_file_emptied : (D : _) (L : _) (g : _) (d : _) (e : _) (κs : _) (a : _)
    (refused : _) (s : _) (generation : _) (point : _) (parts : _)
    → open_session.Learnt-named D L g d e κs a (Err refused) s → g.is_honest a.1.0
    → Staged (g.seen a.1.0) generation point parts
    → 256 + point.staged ≤ length (g.seen a.1.0) → g.seen refused.disk ≡ [] → ⊥
stage_of_another_file_emptied D L g d e κs a refused s generation point parts l honest staged
    long none =
    let k = (l.refused honest (λ made. none_staged (g.seen a.1.0) made.none generation point parts
    staged)).kept generation point parts staged in
    let m : 256 + point.staged ≤ length (g.seen refused.disk)
    = subst (λ v. v ≤ length (g.seen refused.disk)) (min-eq_left long) k.no_shorter in
    absurd (let n : length (g.seen refused.disk) ≡ 0 = ap length none in omega (arith, m))
