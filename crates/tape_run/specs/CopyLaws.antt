-- Images that are copies of volumes of a valid set, or reels of other sets, as an engine reads them.
use Rattle.std.specs.Prelude.{◌≡◌, ◌≤◌, ℕ, false, List, [], ◌∷◌, Option, Some, None, length, ⊤}
use Rattle.tape_image.specs.Begins.{image_limit}
use Rattle.tape_set.specs.Layout.{FileSet}
use Rattle.tape_run.specs.{Reeling.Turn, Mount.MountEvent, Mount.IsMountOf}

-- The bytes of the image are known, within the limit of an image, and are those of a copy of a
-- volume of the set, or of a reel of another set.
pub record IsCopyOf (set : FileSet) (had : Option (List ℕ)) : Type 0 where
  pub bytes : List ℕ
  pub known : had ≡ Some bytes
  pub short : length bytes ≤ image_limit
  pub mount : MountEvent
  pub is : IsMountOf set bytes mount

-- Each image that was opened is such a copy.
abbrev pub AreCopiesOf : FileSet → List Turn → Type 0
AreCopiesOf set [] = ⊤
AreCopiesOf set (None ∷ turns) = AreCopiesOf set turns
AreCopiesOf set (Some o ∷ turns) = IsCopyOf set o.had × AreCopiesOf set turns

-- No image that was opened is suspect.
abbrev pub NoneIsSuspect : List Turn → Type 0
NoneIsSuspect [] = ⊤
NoneIsSuspect (None ∷ turns) = NoneIsSuspect turns
NoneIsSuspect (Some o ∷ turns) = (o.suspect ≡ false) × NoneIsSuspect turns
