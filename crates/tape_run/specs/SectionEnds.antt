-- A section that a reading ended, as it stands on the reel.
use Rattle.std.specs.Prelude.{◌≡◌, ◌≢◌, ℕ, ◌+◌, Bool, true, false, List, [], ◌∷◌, ◌++◌}
use Rattle.std.specs.Prelude.{length, map, Ok}
use Rattle.std.specs.List.{AllByRecursion}
use Rattle.tape_image.specs.Tape.{TapeItem, block, mark}
use Rattle.tape_label.specs.{declared.values.Trail1.Trail1, Reading.trail1_at}
use Rattle.tape_blocks.specs.{Block.Portion, Content.content_in}
use Rattle.tape_set.specs.{Position.block_of, Lawful.label_count, Lawful.FileForm}
use Rattle.tape_core.specs.{State.State, Table.mount_of, Overlap.Certified}
use Rattle.tape_run.specs.Reels.{answers_to, delivered_by}

-- The items end with a tape mark, the data of a section, and another mark, and then this item
-- follows. The data are the items that the reading skipped, as many as had been delivered before,
-- and the blocks that it delivered; and the item is a trailer label that counts all of them.
pub record StandsOnReel (wide : Bool) (core : State) (items : List TapeItem) (item : TapeItem)
    : Type 0 where
  pub front : List TapeItem
  pub skipped : List TapeItem
  pub blocks : List (List ℕ)
  pub trailer : List ℕ
  pub label : Trail1
  pub all : items ≡ front ++ (mark ∷ (skipped ++ (map block blocks ++ (mark ∷ []))))
  pub no_mark : AllByRecursion (λ x. x ≢ mark) skipped
  pub before : length skipped ≡ block_of core.position
  pub delivered : delivered_by (answers_to wide (mount_of core) items) ≡ length blocks
  pub is : item ≡ block trailer
  pub reads : trail1_at trailer ≡ Ok label
  pub count : label.blocks ≡ label_count (length skipped + length blocks)

-- the data of a block, without padding of NULs or spaces in the wider reading
abbrev pub data_of : Bool → FileForm → List ℕ → List ℕ
data_of false form bytes = bytes
data_of true form bytes = content_in form.format form.rec_len form.offset bytes

-- The items are those of `StandsOnReel`, and the skipped ones from number `from` on are blocks that
-- have, in one form, exactly the parts `held`.
pub record HeldOnReel (wide : Bool) (core : State) (from : ℕ) (held : List Portion)
    (items : List TapeItem) (item : TapeItem) : Type 0 where
  pub front : List TapeItem
  pub passed : List TapeItem
  pub form : FileForm
  pub texts : List (List ℕ)
  pub blocks : List (List ℕ)
  pub trailer : List ℕ
  pub label : Trail1
  pub all : items ≡ front ++ (mark ∷ ((passed ++ map block texts)
      ++ (map block blocks ++ (mark ∷ []))))
  pub no_mark : AllByRecursion (λ x. x ≢ mark) passed
  pub first : length passed ≡ from
  pub before : length passed + length texts ≡ block_of core.position
  pub had : Certified form held (map (data_of wide form) texts) []
  pub delivered : delivered_by (answers_to wide (mount_of core) items) ≡ length blocks
  pub is : item ≡ block trailer
  pub reads : trail1_at trailer ≡ Ok label
  pub count : label.blocks ≡ label_count (length passed + length texts + length blocks)
