-- Volume labels of any sort: the test agrees with the definition.
use Rattle.std.proofs.Common.{◌≡◌, ◌≢◌, ℕ, List, [], ◌∷◌, take, true, false, refl, inl, inr}
use Rattle.tape_label.specs.VolumeLabels.{IsOfVolume, is_volume_label}
use Rattle.tape_label.specs.{declared.values.Kind.Kind, Kinds.HasKind, Positions.positions}
use Rattle.tape_label.specs.declared.values.Kind.TheVariants as kinds

pub volume_label_again : (block : List ℕ) → IsOfVolume block → is_volume_label block ≡ true
unfolding is_volume_label
volume_label_again block (size, inl vol) = rw (size, vol) refl
volume_label_again block (size, inr uvl) = rw (size, uvl) refl

first_three : (block : List ℕ) → positions block 1 3 ≡ take 3 (positions block 1 4)
first_three [] = refl
first_three (a ∷ []) = refl
first_three (a ∷ b ∷ []) = refl
first_three (a ∷ b ∷ c ∷ []) = refl
first_three (a ∷ b ∷ c ∷ d ∷ rest) = refl

-- ---- for the crates above

-- no header or trailer label is a volume label
pub no_volume_label : (block : List ℕ) (kind : Kind) → HasKind block kind → kind ≢ kinds.Vol1
    → is_volume_label block ≡ false
unfolding is_volume_label
no_volume_label block kinds.Vol1 has other = absurd (other refl)
no_volume_label block _ has other = rw (has.size, first_three block, has.named) refl
