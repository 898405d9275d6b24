-- A prefix of a mount is a mount.
use Rattle.std.specs.Prelude.{Bool, ℕ, List, Option, ◌++◌}
use Rattle.tape_set.specs.Layout.{FileSet}
use Rattle.tape_run.specs.{declared.script.Step.Step, Mount.MountEvent, Mount.IsMountOf, Mount.cut}
use Rattle.tape_run.specs.{History.IsHistory, Given.AreGivenBy}

-- The part of a reel that a reader returned before it failed is a mount: of a prefix of the same
-- volume, or of a foreign reel.
abbrev pub FrontsAreMounts : Type 0
FrontsAreMounts = (set : FileSet) (front rest : List ℕ) (h : MountEvent)
    → IsMountOf set (front ++ rest) h → (n : ℕ) × IsMountOf set front (cut n h)

-- So whichever readers failed, the returned bytes represent a history too.
abbrev pub GivenIsHistory : Type 0
GivenIsHistory = (set : FileSet) (notes : ℕ) (which : List Bool) (steps : List Step)
    (bytes given : List (List ℕ)) (left : List (Option (List ℕ))) (hs : List MountEvent)
    → IsHistory set notes steps bytes hs → AreGivenBy which bytes left given
    → (hs' : List MountEvent) × IsHistory set notes steps given hs'
