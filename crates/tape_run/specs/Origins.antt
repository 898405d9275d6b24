-- The images from which the blocks of a file came.
use Rattle.std.specs.Prelude.{◌≡◌, ◌==◌, nat_lt, ℕ, zero, suc, ◌+◌, Bool, true, false}
use Rattle.std.specs.Prelude.{if◌then◌else◌, List, [], ◌∷◌, Option, Some, None}
use Rattle.std.specs.{Map.lookup, List.AllByRecursion}
use Rattle.tape_set.specs.{declared.position.Position.Position, Position.start, Position.awaiting}
use Rattle.tape_set.specs.declared.position.Position.TheVariants.{Awaits, Finished}
use Rattle.tape_run.specs.declared.unpack.origin.{OpenedImage.OpenedImage, BlockRun.BlockRun}
use Rattle.tape_run.specs.{Lacks.good_end, Lacks.entry_at, Lacks.key_at}
use Rattle.tape_run.specs.{Noted.same_key, Passing.Told, SurveyLocations.Located}

-- whether a position is before another one: by section, then by block, then by part
abbrev pub is_before : Position → Position → Bool
is_before (Awaits s b j) (Awaits t c k) =
    if s == t then (if b == c then nat_lt j k else nat_lt b c) else nat_lt s t
is_before (Awaits s b j) Finished = true
is_before Finished q = false

-- ---- recovered image by image

-- the first of two sources, if it is known
abbrev pub or_else : Option ℕ → Option ℕ → Option ℕ
or_else None other = other
or_else (Some n) other = Some n

-- The image from which a block came, by the position before the block: the last of these images
-- that was opened when the session was there or before. The session went past the block for the
-- last time while it read that image: all later ones were opened after the block. If there is no
-- such image the session had the block before.
abbrev pub source_at : Position → List OpenedImage → Option ℕ
source_at at [] = None
source_at at (o ∷ os) = or_else (source_at at os) (if is_before at o.at then None else Some o.image)

-- the blocks of a run, all those between its two positions, came from its image
abbrev pub IsSource : List OpenedImage → BlockRun → Type 0
IsSource openings run = (at : Position) → is_before at run.from ≡ false
    → is_before at run.end ≡ true → source_at at openings ≡ run.image

-- runs of at least one block each, one after another from one position to another, without a gap
abbrev pub Follow : Position → Position → List BlockRun → Type 0
Follow from end [] = from ≡ end
Follow from end (run ∷ runs) =
    (run.from ≡ from) × (is_before run.from run.end ≡ true) × Follow run.end end runs

-- The blocks from the start of the file to a position came from these runs, each from its image.
pub record AreSources (openings : List OpenedImage) (end : Position) (runs : List BlockRun)
    : Type 0 where
  pub from : Position
  pub from_start : is_before start from ≡ false
  pub follow : Follow from end runs
  pub sources : AllByRecursion (IsSource openings) runs

-- ---- recovered section by section

-- A section comes first, if the image on which it begins and whether it ends the file are known:
-- then the others follow, unless it does.
abbrev pub with_section : Option ℕ → Option Bool → ℕ → List BlockRun → List BlockRun
with_section None eof sect more = []
with_section (Some image) None sect more = []
with_section (Some image) (Some true) sect more =
    record { image = Some image; from = awaiting sect 0; end = Finished } ∷ []
with_section (Some image) (Some false) sect more =
    record { image = Some image; from = awaiting sect 0; end = awaiting (sect + 1) 0 } ∷ more

-- at most so many good sections of a file, from this one on, each from the image on which it begins
abbrev pub runs_from : List Located → List Told → List ℕ → ℕ → ℕ → ℕ → List BlockRun
runs_from located sections set_id file sect zero = []
runs_from located sections set_id file sect (suc n) = let key = key_at set_id file sect in
    with_section (lookup (same_key key) located) (good_end (entry_at sections key)) sect
    (runs_from located sections set_id file (sect + 1) n)

-- the good sections of a file, up to the one that ends it; section numbers have four digits
unfoldable pub section_runs : List Located → List Told → List ℕ → ℕ → List BlockRun
section_runs located sections set_id file = runs_from located sections set_id file 1 9999
