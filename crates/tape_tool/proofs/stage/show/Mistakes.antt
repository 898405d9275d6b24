-- Wrong answers that the contracts of the pieces of `stage` exclude.
use Rattle.std.proofs.Common.{◌≡◌, ℕ, List, ap, ◌∙◌, Option, Some, None, Ok}
use Rattle.tape_blocks.specs.{Block.Portion, declared.parts.Form.Form}
use Rattle.tape_core.specs.Point.{Point}
use Rattle.tape_stage.specs.Salvaged.{Remains}
use Rattle.tape_stage.proofs.Once.{remains_once}
use Rattle.tape_tool.specs.StageReport.{Shows, ending_of}
use Rattle.tape_tool.specs.declared.stage.show.StageEnding.{StageEnding}
use Rattle.tape_tool.specs.declared.stage.show.StageEnding.TheVariants.{Broken, Whole}
use Rattle.tape_tool.proofs.stage.show.show_stage.Reads as show_stage

-- the end that was reported, if these are the remains of the bytes
shown_end : (read : List ℕ) (n : ℕ) (point : Point) (broken : Option ℕ) (parts : List Portion)
    → Remains read n point broken parts
    → (damaged : _) (form : Option Form) (out written said says : _) (ending : StageEnding)
    → Shows read damaged form out written said says ending → ending ≡ ending_of point broken
shown_end read n point broken parts is damaged form out written said says ending shows =
    let same = remains_once read shows.generation n shows.point point shows.broken broken
    shows.parts parts shows.remains is in
    shows.ends ∙ ap (λ p. ending_of p shows.broken) same.1 ∙ ap (ending_of point) same.2

-- damage_told_as_complete: a stage is damaged, but it is reported as intact, with its file complete
damage_told_as_complete : (D : _) (W : _) (P : _) (LD : _) (LW : _) (LP : _) (g : _) (d : _)
    (h : _) (e : _) (i : _) (j : _) (k : _) (κs : _) (a : _) (s : _) (n : _) (point : _)
    (parts : _) (place : ℕ) (left : _)
    → show_stage.Learnt-named D W P LD LW LP g d h e i j k κs a (Ok (Whole None), left) s
    → g.is_honest a.1.0 → Remains (g.seen a.1.0) n point (Some place) parts → ⊥
damage_told_as_complete D W P LD LW LP g d h e i j k κs a s n point parts place left l honest is =
    absurd (let e : Whole None ≡ Broken place
    = shown_end (g.seen a.1.0) n point (Some place) parts is a.1.1.0 a.1.1.1.0 _ _ _ _ (Whole None)
    (l.ok honest) in cc)
