-- The bytes that readers returned, and the count of readers that failed.
use Rattle.std.specs.Prelude.{◌≡◌, ℕ, zero, suc, ◌+◌, Bool, true, false, List, [], ◌∷◌, ◌++◌, map}
use Rattle.std.specs.Prelude.{min, Option, Some, None}
use Rattle.tape_image.specs.declared.item.{ImageFault.ImageFault, ImageCause.ImageCause}
use Rattle.tape_image.specs.declared.item.ImageCause.TheVariants.{Device}

-- whether the reader failed
abbrev pub is_device_cause : ImageCause → Bool
is_device_cause Device = true
is_device_cause cause = false

-- whether the fault, if any, is that of a reader that failed
abbrev pub is_device : Option ImageFault → Bool
is_device None = false
is_device (Some fault) = is_device_cause fault.cause

-- The returned bytes are all that a reader had or, if it failed, those that it no longer has.
abbrev pub IsGiven : Bool → List ℕ → Option (List ℕ) → List ℕ → Type 0
IsGiven false bytes left given = given ≡ bytes
IsGiven true bytes left given = (rest : List ℕ) × (left ≡ Some rest) × (bytes ≡ given ++ rest)

-- If each of the readers knows its bytes, the claim about them is true.
abbrev pub IfTold : {R : Type 0} → (R → Option (List ℕ)) → List R → (List (List ℕ) → Type 0)
    → Type 0
IfTold remaining readers so = (bytes : List (List ℕ)) → map remaining readers ≡ map Some bytes
    → so bytes

-- a count of failures after one more reader, which failed or did not; it never exceeds its greatest
-- value
abbrev pub counted : Bool → ℕ → ℕ
counted false n = n
counted true n = min (n + 1) 18446744073709551615

-- The bytes that each of the first readers returned, one for each entry of the list, which says
-- whether it failed: all its bytes, or those that it no longer has. The other readers were not
-- used.
abbrev pub AreGivenBy : List Bool → List (List ℕ) → List (Option (List ℕ)) → List (List ℕ) → Type 0
AreGivenBy [] all left given = given ≡ all
AreGivenBy (f ∷ which) [] left given = ⊥
AreGivenBy (f ∷ which) (bytes ∷ all) [] given = ⊥
AreGivenBy (f ∷ which) (bytes ∷ all) (l ∷ left) [] = ⊥
AreGivenBy (f ∷ which) (bytes ∷ all) (l ∷ left) (g ∷ given) =
    IsGiven f bytes l g × AreGivenBy which all left given

-- the number of readers that failed
abbrev pub failed_of : List Bool → ℕ
failed_of [] = 0
failed_of (true ∷ which) = suc (failed_of which)
failed_of (false ∷ which) = failed_of which

-- Values written over a list, from its beginning, as far as it reaches.
abbrev pub written : List Bool → List Bool → List Bool
written [] row = row
written (f ∷ which) [] = []
written (f ∷ which) (old ∷ row) = f ∷ written which row

-- a count of failures after n readers that failed
abbrev pub counted_up : ℕ → ℕ → ℕ
counted_up zero c = c
counted_up (suc n) c = counted_up n (counted true c)
