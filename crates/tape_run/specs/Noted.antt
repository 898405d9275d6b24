-- How the sections found change a catalogue, seen as the list of its sections in the order in which
-- they were found first.
use Rattle.std.specs.Prelude.{◌≡◌, ◌⊎◌, ◌==◌, ◌&&◌, not, Bool, true, false, if◌then◌else◌, Option}
use Rattle.std.specs.Prelude.{Some, None, List, [], ◌∷◌, ◌++◌, map}
use Rattle.std.specs.Str.{bytes_eq}
use Rattle.tape_image.specs.Tape.{TapeItem}
use Rattle.tape_run.specs.{declared.section.SectionKey.SectionKey, declared.section.Entry.Entry}
use Rattle.tape_run.specs.{declared.section.SectionState.SectionState, Passing.Told, Shown.Shown}
use Rattle.tape_run.specs.declared.section.SectionState.TheVariants.{Good, Bad, Count, Cut}

-- one section
abbrev pub same_key : SectionKey → SectionKey → Bool
same_key a b = bytes_eq a.set_id b.set_id && ((a.file == b.file) && (a.sect == b.sect))

-- whether the section is complete
abbrev pub is_good : SectionState → Bool
is_good Good = true
is_good Bad = false
is_good Count = false
is_good Cut = false

-- a good entry replaces one that is not
abbrev pub better : Entry → Entry → Entry
better old new = if is_good new.state && not (is_good old.state) then new else old

-- the entry that is kept for a section with a known entry
abbrev pub kept : Option Entry → Entry → Entry
kept None new = new
kept (Some old) new = better old new

-- the catalogue after one more section: a new one goes last, and a known one keeps its place
abbrev pub noted : List Told → Told → List Told
noted [] t = t ∷ []
noted (x ∷ xs) t = if same_key t.0 x.0 then (x.0, better x.1 t.1) ∷ xs else x ∷ noted xs t

-- after each of these sections in turn
abbrev pub noted_all : List Told → List Told → List Told
noted_all sections [] = sections
noted_all sections (t ∷ ts) = noted_all (noted sections t) ts

-- t is in the list
abbrev pub StandsIn : List Told → Told → Type 0
StandsIn ts t = (front rest : List Told) × (ts ≡ front ++ t ∷ rest)

-- The earlier sections keep their places, and new ones follow them.
abbrev pub KeepsPlaces : List Told → List Told → Type 0
KeepsPlaces old new = (more : List SectionKey) × (map (λ t. t.0) new ≡ map (λ t. t.0) old ++ more)

-- Every good section was good before, or these items show it.
abbrev pub GoodIsShown : List TapeItem → List Told → List Told → Type 0
GoodIsShown items old new =
    (t : Told) → StandsIn new t → t.1.state ≡ Good → StandsIn old t ⊎ Shown items t.0 t.1
