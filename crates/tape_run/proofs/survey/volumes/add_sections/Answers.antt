use Rattle.std.proofs.Common.{◌≡◌, ℕ, suc, ◌+◌, ◌-◌, Bool, true, false, Some, None, refl}
use Rattle.std.proofs.Common.{sym, ◌∙◌, arith, append_assoc, append-nil, if◌then◌else◌}
use Rattle.tape_run.proofs.survey.volumes.add_sections.Goals as goal

goes_on : (b : Bool) (n m : ℕ) → Some n ≡ (if b then None else Some m) → (b ≡ false) × (n ≡ m)
goes_on true n m e = absurd (cc e)
goes_on false n m e = (refl, cc e)

is_over : (b : Bool) (m : ℕ) → None ≡ (if b then None else Some m) → b ≡ true
is_over true m e = refl
is_over false m e = absurd (cc e)

pub loop-before-preserved : goal.loop-before-preserved
loop-before-preserved c =
    let (on, same) = goes_on _ _ _ (sym c.in-Some.is ∙ c.in_ok-next.ensures.next) in
    let left = c.args.most - (c.loop-before.before + 1) in
    let one : c.args.most - c.loop-before.before ≡ suc left =
    omega (arith, c.loop-before-test.true) in
    rw (same, c.in_ok-next.ensures.chain, append_assoc) (rw (one, on) at c.loop-before.invariant)

pub returns-in-None : goal.returns-in-None
returns-in-None c =
    let over = is_over _ _ (sym c.in-None.is ∙ c.in_ok-next.ensures.next) in
    let left = c.args.most - (c.loop-before.before + 1) in
    let one : c.args.most - c.loop-before.before ≡ suc left =
    omega (arith, c.loop-before-test.true) in
    c.in_ok-next.ensures.chain ∙ rw (one, over, append-nil) at c.loop-before.invariant
