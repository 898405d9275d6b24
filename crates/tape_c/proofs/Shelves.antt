-- Images in memory as a source, and their names.
use Rattle.std.proofs.Common.{◌≡◌, ℕ, zero, suc, ◌+◌, List, [], ◌∷◌, ◌++◌, map, decimal, refl}
use Rattle.std.proofs.Common.{sym, ap, ◌∙◌, add-one, Option, Some, None, slice_get}
use Rattle.std.specs.Prelude.{option_map}
use Rattle.tape_c.specs.{declared.survey.Image.Image, Surveyed.bytes_of, Surveyed.numbers_to}

-- one number more
pub numbers_more : (n : ℕ) → numbers_to (n + 1) ≡ numbers_to n ++ decimal (n + 1) ∷ []
numbers_more n = rw (add-one n) refl

-- the bytes of an image, by its number
pub bytes_at : (images : List Image) (n : ℕ)
    → slice_get (bytes_of images) n ≡ option_map (λ image. image.bytes.now) (slice_get images n)
bytes_at [] n = refl
bytes_at (x ∷ images) zero = refl
bytes_at (x ∷ images) (suc n) = bytes_at images n
