use Rattle.tape_tool.proofs.Sizing.{digits_fit, product_fits, none_if}
use Rattle.tape_tool.proofs.write.words.size_of.Goals as goal

pub returns-in-Ok-clause-none : goal.returns-in-Ok-clause-none
returns-in-Ok-clause-none c = none_if _ _ _ _ c.checked_mul.ensures (λ n s.
    product_fits _ _ _ n c.unit_of-factor.ensures.only s _ c.in-Ok.ensures.value.0.1)

pub returns-in-Err-clause-none : goal.returns-in-Err-clause-none
returns-in-Err-clause-none c = λ n s.
    c.in-Err.ensures.value.0 (digits_fit _ _ _ n c.unit_of-factor.ensures.only s)
