-- Wrong answers that the contracts of a session exclude.
use Rattle.std.proofs.Common.{◌≡◌, List, [], ◌∷◌, sym, ap, ◌∙◌, arith, inl, inr, Some, Ok, Err}
use Rattle.std.proofs.Common.{slice_get}
use Rattle.tape_blocks.specs.Block.{Portion}
use Rattle.tape_set.specs.{declared.position.Position.TheVariants.Awaits, Position.block_of}
use Rattle.tape_core.specs.{Point.Point, Place.rest_of, Stands.weight_of}
use Rattle.tape_run.specs.declared.fault.RunFault.TheVariants as run
use Rattle.tape_run.specs.Seen.{seen, IsKept}
use Rattle.tape_run.proofs.session.Session.resume.Reads as resume
use Rattle.tape_run.proofs.session.Session.restart.Reads as restart

-- resumed_at_start: a session that is resumed at block 5 is at the start of the file.
resumed_at_start : (S : _) (LS : _) (g : _) (d : _) (κs : _) (a : _) (z : _) (s : _)
    → resume.Learnt-named S LS g d κs a z s
    → a.1.0.now.position ≡ Awaits 1 5 0 → z.core.position ≡ Awaits 1 0 0 → ⊥
resumed_at_start S LS g d κs a z s l five start =
    let e : z.core.position ≡ a.1.0.now.position
    = ap (λ p. p.position) (l.resumed []).place in
    absurd (let n : 0 ≡ 5 = ap block_of (sym start ∙ e ∙ five) in omega arith)

-- restart_keeps_later_parts: at a checkpoint with weight 10 the sink still contains parts with
-- weight 20. The assumption about checkpoints is true of every session (`kept` of `Session::new`).
restart_keeps_later_parts : (S : _) (LS : _) (g : _) (d : _) (κs : _) (a : _) (s : _)
    (held : List Portion) (point : Point) → restart.Learnt-named S LS g d κs a (Ok tt) s
    → g.holds a.0.now.sink held → IsKept (seen g a.0.now held)
    → slice_get a.0.now.notes a.1.0 ≡ Some point → point.staged ≡ 10 → weight_of held ≡ 20
    → ((xs ys : List Portion) → g.holds s.0.now.sink xs → g.holds s.0.now.sink ys → xs ≡ ys)
    → g.holds s.0.now.sink held → ⊥
restart_keeps_later_parts S LS g d κs a s held point l was kept noted ten twenty one same =
    let r = l.ok held was kept in
    let p : r.2.1.point ≡ point = cc (noted, r.2.1.noted) in
    let n : 20 ≡ 10 = sym twenty ∙ ap weight_of (one held r.0 same r.1) ∙ r.2.1.weighs
    ∙ ap (λ c. c.staged) p ∙ ten in
    absurd (omega (arith, n))

-- no_such_point_cuts: a session without checkpoints is asked to roll back, and its sink is cut to
-- nothing.
no_such_point_cuts : (S : _) (LS : _) (g : _) (d : _) (κs : _) (a : _) (s : _)
    (part : Portion) → restart.Learnt-named S LS g d κs a (Err run.NoSuchPoint) s
    → g.holds a.0.now.sink (part ∷ []) → a.0.now.notes ≡ []
    → ((xs ys : List Portion) → g.holds s.0.now.sink xs → g.holds s.0.now.sink ys → xs ≡ ys)
    → g.holds s.0.now.sink [] → ⊥
no_such_point_cuts S LS g d κs a s part l was none one gone = grind (arith, seen, rest_of)

-- saves_before_going_back: a session at block 5 rolls back to a checkpoint at the start of the
-- file, the only state that a crash could leave, but now a crash leaves block 5.
saves_before_going_back : (S : _) (LS : _) (g : _) (d : _) (κs : _) (a : _) (s : _)
    (held there : List Portion) (note back : Point)
    → restart.Learnt-named S LS g d κs a (Ok tt) s
    → g.holds a.0.now.sink held → IsKept (seen g a.0.now held)
    → slice_get a.0.now.notes a.1.0 ≡ Some note → note.position ≡ Awaits 1 0 0
    → ((old : Point) (parts : List Portion) → (g.crashes a.0.now.sink).returns old parts
    → old.position ≡ Awaits 1 0 0)
    → (g.crashes s.0.now.sink).returns back there → back.position ≡ Awaits 1 5 0 → ⊥
saves_before_going_back S LS g d κs a s held there note back l was kept noted first alone comes
    five = elim ((l.crash held was kept).now back there comes) [
      | inl old ↦ absurd (
          let n : 0 ≡ 5 = ap block_of (sym (alone back there old) ∙ five) in
          omega (arith, n)
          )
      | inr (is, front, weighs) ↦ absurd (
          let same : note ≡ back = cc (noted, is) in
          let n : 0 ≡ 5 = ap block_of (sym first ∙ ap (λ c. c.position) same ∙ five) in
          omega (arith, n)
          )
    ]
