-- A volume of a valid set of which any items may be unreadable, also labels and tape marks.
use Rattle.std.specs.Prelude.{◌≡◌, ◌≢◌, ℕ, ◌==◌, ◌&&◌, Bool, false, if◌then◌else◌, List, [], ◌∷◌}
use Rattle.std.specs.Prelude.{◌++◌, length, Some, None, Ok}
use Rattle.std.specs.List.{AllByRecursion}
use Rattle.tape_image.specs.Tape.{TapeItem, block, bad, mark}
use Rattle.tape_label.specs.{declared.values.Head1.Head1, declared.values.Trail1.Trail1}
use Rattle.tape_label.specs.Reading.{head1_at, trail1_at}
use Rattle.tape_set.specs.{Layout.Placed, Layout.Volume, Laws.StandsIn}
use Rattle.tape_set.specs.Lawful.{IsSection, IsVolume, label_count}
use Rattle.tape_run.specs.SalvageSections.{Labels, read_labels, labels_of, read_blocks, filled_of}
use Rattle.tape_run.specs.{declared.salvage.walk.OpenSection.OpenSection, SalvageWhole.Blocks}
use Rattle.tape_run.specs.{declared.salvage.walk.Closing.Closing, SalvageClosed.digest_items}
use Rattle.tape_run.specs.{declared.section.SectionKey.SectionKey, SalvageSections.AreLabels}
use Rattle.tape_run.specs.SalvageWalk.{FoundAt, sections_in}

-- which items of a section were read
pub record AnySection : Type 0 where
  pub placed : Placed
  pub hdr1 : Bool
  pub headers : Labels
  pub first_mark : Bool
  pub blocks : Blocks
  pub second_mark : Bool
  pub trailer : Bool
  pub trailers : Labels
  pub last_mark : Bool

abbrev pub if_read : Bool → TapeItem → TapeItem
if_read is x = if is then x else bad

-- the items after its HDR1 and before its trailer label
abbrev pub to_trailer : AnySection → List TapeItem
to_trailer r = read_labels r.headers ++ (if_read r.first_mark mark ∷ (read_blocks r.blocks
    ++ (if_read r.second_mark mark ∷ [])))

-- its trailer label, and the items after it
abbrev pub from_trailer : AnySection → List TapeItem
from_trailer r = if_read r.trailer (block r.placed.section.trailer)
    ∷ (read_labels r.trailers ++ (if_read r.last_mark mark ∷ []))

-- the items of sections, one after another
abbrev pub any_sections : List AnySection → List TapeItem
any_sections [] = []
any_sections (r ∷ rs) = if_read r.hdr1 (block r.placed.section.hdr1)
    ∷ (to_trailer r ++ (from_trailer r ++ any_sections rs))

-- the items of a volume
abbrev pub any_volume : Labels → List AnySection → Bool → List TapeItem
any_volume ls rs last = read_labels ls ++ (any_sections rs ++ (if_read last mark ∷ []))

-- The block reads neither as an HDR1 of the set, nor as EOF1 or EOV1.
pub record IsPlain (set_id b : List ℕ) : Type 0 where
  pub no_head : (h : Head1) → head1_at b ≡ Ok h → h.set_id ≢ set_id
  pub no_trail : (t : Trail1) → trail1_at b ≢ Ok t

-- A section of a valid set. Its data blocks, and its labels other than HDR1 and the trailer label,
-- cannot be mistaken for these two labels.
pub record IsPlainSection (set_id : List ℕ) (volumes : ℕ) (r : AnySection) : Type 0 where
  pub is : IsSection set_id volumes r.placed
  pub are_headers : labels_of r.headers ≡ r.placed.section.hdr2 ∷ r.placed.section.headers
  pub are_blocks : filled_of r.blocks ≡ r.placed.section.blocks
  pub are_trailers : labels_of r.trailers ≡ r.placed.section.trailers
  pub headers : AllByRecursion (λ l. IsPlain set_id l.1) r.headers
  pub blocks : AllByRecursion (λ b. IsPlain set_id b.1.bytes) r.blocks
  pub trailers : AllByRecursion (λ l. IsPlain set_id l.1) r.trailers

-- no two of the sections have the same numbers
abbrev pub AreApart : List AnySection → Type 0
AreApart [] = Unit {0}
AreApart (r ∷ rs) = AllByRecursion (λ q. ((q.placed.sect == r.placed.sect)
    && (q.placed.file == r.placed.file)) ≡ false) rs × AreApart rs

abbrev pub key_in : List ℕ → AnySection → SectionKey
key_in set_id r = record { set_id = set_id; file = r.placed.file; sect = r.placed.sect }

-- The section that was found is one of these: its data are exactly the items of this section's
-- blocks, and its trailer label counts them.
pub record IsExact (set_id : List ℕ) (rs : List AnySection) (items : List TapeItem)
    (u : OpenSection) (k : Closing) : Type 0 where
  pub section : AnySection
  pub among : StandsIn rs section
  pub key : u.key ≡ key_in set_id section
  pub front : List TapeItem
  pub rest : List TapeItem
  pub is : items ≡ front ++ (mark ∷ (read_blocks section.blocks ++ (mark ∷ rest)))
  pub blocks : u.blocks ≡ length section.blocks
  pub digest : u.digest ≡ digest_items 0 (read_blocks section.blocks)
  pub count : k.count ≡ label_count (length section.blocks)

abbrev pub IsFoundExactly : List ℕ → List AnySection → List TapeItem → FoundAt → Type 0
IsFoundExactly set_id rs items (place, (u, None)) = Unit {0}
IsFoundExactly set_id rs items (place, (u, Some k)) = u.after ≡ None → u.key.set_id ≡ set_id
    → IsExact set_id rs items u k

-- If the items are those of such a volume, or a prefix of them, whichever were unreadable, then
-- each section of the set that is found by its HDR1 and closes is one of the volume's, and has
-- exactly its blocks.
abbrev pub ClosedAreExact : Type 0
ClosedAreExact = (set_id : List ℕ) (volumes : ℕ) (v : Volume) (ls : Labels) (rs : List AnySection)
    (last : Bool) (items more : List TapeItem) → IsVolume v → AreLabels v ls
    → AllByRecursion (IsPlainSection set_id volumes) rs → AreApart rs
    → items ++ more ≡ any_volume ls rs last
    → AllByRecursion (IsFoundExactly set_id rs items) (sections_in items)
