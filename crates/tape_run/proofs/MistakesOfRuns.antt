-- Wrong answers that the contract of a run excludes.
use Rattle.std.proofs.Common.{◌≡◌, List, [], ◌∷◌, map, ap, ◌∙◌, subst, codes, Some, Ok, slice_get}
use Rattle.std.proofs.Common.{option_map}
use Rattle.tape_blocks.specs.declared.parts.Span.TheVariants as spans
use Rattle.tape_blocks.specs.Block.{Portion}
use Rattle.tape_run.specs.{Headline.IsRead, Headline.IsStart, Seen.Seen, Seen.seen}
use Rattle.tape_run.specs.WorkedHistory.{worked_steps, worked_reels, first, middle, last}
use Rattle.tape_run.proofs.WorkedHistory.{is_worked}
use Rattle.tape_run.proofs.script.run.Reads as run

-- a sink that satisfies this contains only one list of parts, as an in-memory sink does
abbrev pub HoldsOne : (List Portion → Type 0) → Type 0
HoldsOne holds = (xs ys : List Portion) → holds xs → holds ys → xs ≡ ys

-- the parts of a sink after the worked reels were read from the start of file 1, as in a new
-- session, and no reader failed
worked_parts : (S : _) (R : _) (LS : _) (LR : _) (g : _) (d : _) (h : _) (e : _) (κs : _) (a : _)
    (s : _) (held : List Portion)
    → run.Learnt-named S R LS LR g d h e κs a (Ok tt) s
    → g.holds a.0.now.sink [] → IsStart (codes "ABC001") 1 (seen g a.0.now [])
    → a.1.0.now ≡ worked_steps → map h.remaining a.1.1.0.now ≡ map Some worked_reels
    → s.0.now.failures ≡ 0 → HoldsOne (g.holds s.0.now.sink) → g.holds s.0.now.sink held
    → held ≡ first ∷ middle ∷ last ∷ []
worked_parts S R LS LR g d h e κs a s held l empty fresh steps known none one there =
    let r = l.start (codes "ABC001") 1 empty fresh in
    let now : Seen = seen g s.0.now r.0 in
    let left = map h.remaining s.1.1.0.now in
    let read : IsRead (codes "ABC001") 1 worked_steps worked_reels left now
    = subst (λ v. IsRead (codes "ABC001") 1 v worked_reels left now) steps
    (r.2 worked_reels known).0 in
    one held r.0 there r.1 ∙ (is_worked.read now left read none).0

-- section_delivered_twice: volume 1 was mounted four times, and the first part of its section was
-- delivered again at its second mount.
section_delivered_twice : (S : _) (R : _) (LS : _) (LR : _) (g : _) (d : _) (h : _) (e : _) (κs : _)
    (a : _) (s : _) (more : List Portion) → run.Learnt-named S R LS LR g d h e κs a (Ok tt) s
    → g.holds a.0.now.sink [] → IsStart (codes "ABC001") 1 (seen g a.0.now [])
    → a.1.0.now ≡ worked_steps → map h.remaining a.1.1.0.now ≡ map Some worked_reels
    → s.0.now.failures ≡ 0 → HoldsOne (g.holds s.0.now.sink)
    → g.holds s.0.now.sink (first ∷ first ∷ more) → ⊥
section_delivered_twice S R LS LR g d h e κs a s more l empty fresh steps known none one there =
    let second : Some spans.First ≡ Some spans.Middle
    = ap (λ v. option_map (λ p. p.span) (slice_get v 1)) (worked_parts S R LS LR g d h e κs a s
    (first ∷ first ∷ more) l empty fresh steps known none one there) in
    absurd (cc second)
