-- The missing sections of a catalogue.
use Rattle.std.specs.Prelude.{◌≡◌, ◌<◌, ◌≤◌, ℕ, zero, suc, ◌+◌, max, Bool, true, false, MatchOption}
use Rattle.std.specs.Prelude.{if◌then◌else◌, List, [], ◌∷◌, ◌++◌, Option, Some, None}
use Rattle.std.specs.{List.flat_map, Str.bytes_eq, Map.lookup}
use Rattle.tape_run.specs.declared.section.{SectionKey.SectionKey, SectionState.TheVariants.Good}
use Rattle.tape_run.specs.declared.section.{Entry.Entry, SectionLine.SectionLine, Lack.Lack}
use Rattle.tape_run.specs.{Passing.Told, Noted.same_key, Noted.is_good}

-- the entry of a section
abbrev pub entry_at : List Told → SectionKey → Option Entry
entry_at c key = lookup (same_key key) c

-- the section is good, and has this entry
pub record IsGoodAt (c : List Told) (key : SectionKey) : Type 0 where
  pub entry : Entry
  pub there : entry_at c key ≡ Some entry
  pub good : entry.state ≡ Good

-- whether the good section with this key ends its file; `None` if it is not good
abbrev pub good_end : Option Entry → Option Bool
good_end None = None
good_end (Some e) = if is_good e.state then Some e.eof else None

-- the key of a section
abbrev pub key_at : List ℕ → ℕ → ℕ → SectionKey
key_at set_id file sect = record { set_id = set_id; file = file; sect = sect }

-- the first missing section, if it is known whether this section ends its file: none if it does,
-- otherwise the first one after it; if it is not known, this section
abbrev pub lack_by : Option Bool → ℕ → Option ℕ → Option ℕ
lack_by None sect behind = Some sect
lack_by (Some true) sect behind = None
lack_by (Some false) sect behind = behind

-- The first section of a file that is not good, counting from `from` while good sections end with
-- EOV, among at most `most` sections; `None` if the file ends before.
abbrev pub first_lack : List Told → List ℕ → ℕ → ℕ → ℕ → Option ℕ
first_lack c set_id file sect zero = Some sect
first_lack c set_id file sect (suc n) =
    let end = good_end (entry_at c (key_at set_id file sect)) in
    lack_by end sect (first_lack c set_id file (sect + 1) n)

-- the first missing section of a file; section numbers have four digits
unfoldable pub lack_of : List Told → List ℕ → ℕ → Option ℕ
lack_of c set_id file = first_lack c set_id file 1 9999

-- the sections of a file before this one are good, and none of them ends the file
abbrev pub GoesOnTo : List Told → List ℕ → ℕ → ℕ → Type 0
GoesOnTo c set_id file sect =
    (i : ℕ) → 1 ≤ i → i < sect → good_end (entry_at c (key_at set_id file i)) ≡ Some false

-- Nothing of the file is missing: its sections are good up to one that ends it.
pub record IsFoundWhole (c : List Told) (set_id : List ℕ) (file : ℕ) : Type 0 where
  pub sect : ℕ
  pub numbered : (1 ≤ sect) × (sect ≤ 9999)
  pub goes_on : GoesOnTo c set_id file sect
  pub ends : good_end (entry_at c (key_at set_id file sect)) ≡ Some true

-- This section is the first missing one of the file: those before it are good and continue, and it
-- is not good, or it would be the 10,000th.
pub record IsFirstLack (c : List Told) (set_id : List ℕ) (file sect : ℕ) : Type 0 where
  pub numbered : (1 ≤ sect) × (sect ≤ 10000)
  pub goes_on : GoesOnTo c set_id file sect
  pub lacks : sect ≤ 9999 → good_end (entry_at c (key_at set_id file sect)) ≡ None

-- The missing section of a file is its first section that is not good; none is missing if all are
-- good.
abbrev pub LackIsFirst : Type 0
LackIsFirst = (c : List Told) (set_id : List ℕ) (file : ℕ)
    → MatchOption (lack_of c set_id file) (IsFoundWhole c set_id file) (IsFirstLack c set_id file)

-- a set, and the greatest number of a file found in it
abbrev pub SetFiles : Type 0
SetFiles = List ℕ × ℕ

-- the greatest number of a file, if this was the greatest known and one more file is found
abbrev pub greatest : Option ℕ → ℕ → ℕ
greatest None file = file
greatest (Some known) file = max known file

-- sets, each with the greatest number of a file, with one more file
abbrev pub with_file : List SetFiles → List ℕ → ℕ → List SetFiles
with_file [] set_id file = (set_id, file) ∷ []
with_file (x ∷ xs) set_id file =
    if bytes_eq set_id x.0 then (x.0, max x.1 file) ∷ xs else x ∷ with_file xs set_id file

-- the sets of a catalogue in the order in which they were found first, each with the greatest
-- number of a file
abbrev pub sets_from : List SetFiles → List Told → List SetFiles
sets_from sets [] = sets
sets_from sets (t ∷ ts) = sets_from (with_file sets t.0.set_id t.0.file) ts

-- the missing section of a file, as a list
abbrev pub one_lack : List ℕ → ℕ → Option ℕ → List Lack
one_lack set_id file None = []
one_lack set_id file (Some sect) = record { set_id = set_id; file = file; sect = sect } ∷ []

-- the missing sections of n files of a set, beginning with the given file
abbrev pub file_lacks : List Told → List ℕ → ℕ → ℕ → List Lack
file_lacks c set_id file zero = []
file_lacks c set_id file (suc n) =
    one_lack set_id file (lack_of c set_id file) ++ file_lacks c set_id (file + 1) n

-- the missing sections of these sets, file by file up to the greatest number of each
abbrev pub set_lacks : List Told → List SetFiles → List Lack
set_lacks c sets = flat_map (λ x. file_lacks c x.0 1 x.1) sets

-- the missing sections of a catalogue: set by set in the order in which the sets were found first
abbrev pub lacks : List Told → List Lack
lacks c = set_lacks c (sets_from [] c)

-- a section's line
abbrev pub line_of : Told → SectionLine
line_of t = record {
  set_id = t.0.set_id;
  file = t.0.file;
  sect = t.0.sect;
  volume = t.1.volume;
  blocks = t.1.blocks;
  state = t.1.state;
}

-- no missing section is listed
abbrev pub is_none_lacking : List Lack → Bool
is_none_lacking [] = true
is_none_lacking (_ ∷ _) = false

-- sections were found, and none is missing
abbrev pub found_all : List Told → Bool
found_all [] = false
found_all (t ∷ ts) = is_none_lacking (lacks (t ∷ ts))
