-- The items of a section that closes.
use Rattle.std.specs.Prelude.{◌≡◌, ℕ, min, ◌==◌, ◌&&◌, true, List, [], ◌∷◌, ◌++◌, length, Some}
use Rattle.std.specs.{Prelude.None, Prelude.Ok, List.AllByRecursion}
use Rattle.tape_image.specs.Tape.{TapeItem, block, bad, mark}
use Rattle.tape_label.specs.{declared.values.Head1.Head1, declared.values.Trail1.Trail1}
use Rattle.tape_label.specs.Reading.{head1_at, trail1_at}
use Rattle.tape_run.specs.{declared.salvage.walk.OpenSection.OpenSection, SurveyDigest.digest_with}
use Rattle.tape_run.specs.{declared.salvage.walk.Closing.Closing, SalvageGaps.IsReadable}
use Rattle.tape_run.specs.SalvageWalk.{FoundAt, section_by, sections_in}

abbrev pub IsNoMark : TapeItem → Type 0
IsNoMark (block b) = Unit {0}
IsNoMark bad = Unit {0}
IsNoMark mark = ⊥

-- the digest after data items, of which the unreadable ones do not count
abbrev pub digest_items : ℕ → List TapeItem → ℕ
digest_items d [] = d
digest_items d (block b ∷ xs) = digest_items (digest_with d b) xs
digest_items d (bad ∷ xs) = digest_items d xs
digest_items d (mark ∷ xs) = digest_items d xs

-- the section ends as its trailer label says
abbrev pub EndsBy : Trail1 → Closing → Type 0
EndsBy trail k = (k.eof ≡ trail.eof) × (k.count ≡ trail.blocks)

-- The items contain the section: its HDR1, items other than tape marks, a tape mark, its data, none
-- of which is a tape mark, a tape mark, and its trailer label. The section has exactly these data,
-- and if no item was unreadable, all of them are blocks.
pub record IsClosedIn (items : List TapeItem) (u : OpenSection) (k : Closing) : Type 0 where
  pub front : List TapeItem
  pub hdr1 : List ℕ
  pub head : Head1
  pub labels : List TapeItem
  pub data_items : List TapeItem
  pub trailer : List ℕ
  pub trail : Trail1
  pub rest : List TapeItem
  pub is : items ≡ front ++ (block hdr1 ∷ (labels ++ (mark ∷ (data_items ++ (mark ∷ block trailer
      ∷ rest)))))
  pub begins : head1_at hdr1 ≡ Ok head
  pub key : u.key ≡ (section_by head).key
  pub no_labels : AllByRecursion IsNoMark labels
  pub no_data : AllByRecursion IsNoMark data_items
  pub ends : trail1_at trailer ≡ Ok trail
  pub same : ((trail.head.sect == u.key.sect) && (trail.head.sequence == u.key.file)) ≡ true
  pub closing : EndsBy trail k
  pub blocks : u.blocks ≡ min (length data_items) 4294967295
  pub digest : u.digest ≡ digest_items 0 data_items
  pub readable : u.certain ≡ None → AllByRecursion IsReadable data_items

-- a section that was found by its HDR1 and closes is among the items
abbrev pub IsThere : List TapeItem → FoundAt → Type 0
IsThere items (place, (u, None)) = Unit {0}
IsThere items (place, (u, Some k)) = u.after ≡ None → IsClosedIn items u k

-- Of any image, lawful or not, each section that closes is exactly the items between the tape mark
-- after its labels and the one before its trailer label.
abbrev pub ClosedAreThere : Type 0
ClosedAreThere = (items : List TapeItem) → AllByRecursion (IsThere items) (sections_in items)
