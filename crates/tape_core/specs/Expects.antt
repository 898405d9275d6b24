-- The item of the section needed that a reader expects next, by its phase.
use Rattle.std.specs.Prelude.{◌≡◌, true, ⊤}
use Rattle.tape_core.specs.declared.event.{Expected.Expected, Phase.Phase}
use Rattle.tape_core.specs.declared.event.Expected.TheVariants as expected
use Rattle.tape_core.specs.declared.event.Phase.TheVariants as phases
use Rattle.tape_core.specs.Table.{IsShapeOf}

-- The phase expects this item of the section needed: its HDR2, data in the shape of its labels
-- after so many blocks seen, its trailer, or nothing of it.
abbrev pub Expects : Phase → Expected → Type 0
Expects (phases.Header2 heading true) expected.Header2 = ⊤
Expects (phases.Header2 heading true) found = ⊥
Expects (phases.DataWanted heading form seen) (expected.Data count shape) =
    (count ≡ seen) × IsShapeOf form shape
Expects (phases.DataWanted heading form seen) found = ⊥
Expects (phases.TrailerWanted heading form) expected.Trailer = ⊤
Expects (phases.TrailerWanted heading form) found = ⊥
Expects phase expected.Other = ⊤
Expects phase found = ⊥
