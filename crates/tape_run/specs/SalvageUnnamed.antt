-- The items of a section whose HDR1 was not read.
use Rattle.std.specs.Prelude.{◌≡◌, ◌≢◌, ℕ, min, List, [], ◌∷◌, ◌++◌, length, Some, None, Ok}
use Rattle.std.specs.List.{AllByRecursion}
use Rattle.tape_image.specs.Tape.{TapeItem, block, bad, mark}
use Rattle.tape_label.specs.{declared.values.Trail1.Trail1, Reading.trail1_at}
use Rattle.tape_set.specs.Lawful.{label_count}
use Rattle.tape_run.specs.{declared.salvage.walk.OpenSection.OpenSection, SalvageSections.IsNoHead}
use Rattle.tape_run.specs.{declared.salvage.walk.Closing.Closing, SalvageClosed.IsNoMark}
use Rattle.tape_run.specs.SalvageWalk.{FoundAt, section_by, sections_in}
use Rattle.tape_run.specs.SalvageClosed.{EndsBy}

-- the item does not read as HDR1
abbrev pub IsNoFirst : TapeItem → Type 0
IsNoFirst (block b) = IsNoHead b
IsNoFirst bad = Unit {0}
IsNoFirst mark = Unit {0}

-- The items contain the section: a tape mark, its data, none of which is a tape mark or reads as
-- HDR1, a tape mark, and a trailer label with its numbers, which counts exactly these data.
pub record IsUnnamedIn (items : List TapeItem) (u : OpenSection) (k : Closing) : Type 0 where
  pub front : List TapeItem
  pub data_items : List TapeItem
  pub trailer : List ℕ
  pub trail : Trail1
  pub rest : List TapeItem
  pub is : items ≡ front ++ (mark ∷ (data_items ++ (mark ∷ block trailer ∷ rest)))
  pub some : data_items ≢ []
  pub no_data : AllByRecursion IsNoMark data_items
  pub no_first : AllByRecursion IsNoFirst data_items
  pub ends : trail1_at trailer ≡ Ok trail
  pub key : u.key ≡ (section_by trail.head).key
  pub closing : EndsBy trail k
  pub blocks : u.blocks ≡ min (length data_items) 4294967295
  pub count : trail.blocks ≡ label_count u.blocks

-- a section that was found without its HDR1 is among the items
abbrev pub IsThereUnnamed : List TapeItem → FoundAt → Type 0
IsThereUnnamed items (place, (u, None)) = Unit {0}
IsThereUnnamed items (place, (u, Some k)) = u.after ≢ None → IsUnnamedIn items u k

-- Of any image, lawful or not, each section that is found without its HDR1 has exactly the items
-- between two tape marks, and its trailer label follows and counts them.
abbrev pub UnnamedAreThere : Type 0
UnnamedAreThere = (items : List TapeItem)
    → AllByRecursion (IsThereUnnamed items) (sections_in items)
