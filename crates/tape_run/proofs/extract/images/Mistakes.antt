-- Wrong answers that the contract about the last pass excludes.
use Rattle.std.proofs.Common.{◌≡◌, true, false, refl, inl, inr, Some}
use Rattle.tape_run.proofs.extract.images.is_enough.Reads as is_enough

-- rounds_end_too_early: less is missing than before the pass, but no other pass follows
rounds_end_too_early : (κs : _) (before want : _) (s : _)
    → is_enough.Learnt-named κs (true, (before, (Some want, tt))) true s
    → (Some want ≡ before → ⊥) → ⊥
rounds_end_too_early κs before want s l other = elim (l.yes refl) [
  | inl none ↦ absurd (cc)
  | inr same ↦ other same
]

-- round_without_gain_is_followed: the same is missing as before the pass, but another pass follows
round_without_gain_is_followed : (κs : _) (want : _) (s : _)
    → is_enough.Learnt-named κs (true, (want, (want, tt))) false s → ⊥
round_without_gain_is_followed κs want s l = l.no.2 refl
