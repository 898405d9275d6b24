-- Test cases for the definitions: small images and results that each definition accepts or
-- excludes.
use Rattle.std.specs.Prelude.{◌≡◌, ◌⊎◌, ◌≤◌, ◌<◌, ◌+◌, ℕ, List, [], ◌∷◌, ◌++◌, length, Option}
use Rattle.std.specs.{Prelude.Result, Prelude.Ok, Prelude.Err, Prelude.None, Io.KnownBytes.Appends}
use Rattle.tape_image.specs.declared.item.ImageCause.TheVariants.{Truncated, LengthsDiffer}
use Rattle.tape_image.specs.Laws.{SpellingsAreUnique, NeverBoth, BeginsIsUnique, SpelledBegins}
use Rattle.tape_image.specs.Step.{least_extent, TakesEnd, TakesFault, IsCause, GivesItem, MeetsEnd}
use Rattle.tape_image.specs.Writer.{Writer, Standing, writing, finished, broken, PutsAll, Puts}
use Rattle.tape_image.specs.{declared.item.Ending.Ending, declared.item.ImageFault.ImageFault}
use Rattle.tape_image.specs.declared.item.Ending.TheVariants.{Marked, Physical}
use Rattle.tape_image.specs.declared.item.ImageCause.TheVariants.{Reserved, TooLong, Device}
use Rattle.tape_image.specs.{declared.item.ImageWriteFault.ImageWriteFault, declared.item.Item.Item}
use Rattle.tape_image.specs.Tape.{TapeItem, block, bad, mark, IsTapeItem}
use Rattle.tape_image.specs.{Spelling.IsSpelling, Spelling.Spells, Spelling.end_len, Calls.Gave}
use Rattle.tape_image.specs.Begins.{image_limit, Stop, ends, faults, Stops, Stands, Walks, Begins}
use Rattle.tape_image.specs.{Laws.WalkedIsFront, Reader.Reader, Reader.ended, Reader.failed}
use Rattle.tape_image.specs.{Step.MeetsFault, Step.Answers, Next.HasMoved, Written.written}
use Rattle.tape_image.specs.Writer.{PutsFrom, BlockFrom}
use Rattle.tape_image.specs.declared.item.ImageWriteFault.TheVariants as refusal

-- images and their items
pub record ImagesAreHeld : Type 0 where
  -- a tape mark and an end-of-medium marker encode the items of a tape with one mark, whatever
  -- follows the marker
  pub marked : Spells (0 ∷ 0 ∷ 0 ∷ 0 ∷ 255 ∷ 255 ∷ 255 ∷ 255 ∷ 7 ∷ []) (mark ∷ [])
  pub no_empty_block : IsTapeItem (block []) → ⊥
  pub no_longer_block : (bytes : List ℕ) → length bytes ≡ 100000 → IsTapeItem (block bytes) → ⊥
  pub least_odd : least_extent (block (7 ∷ [])) ≡ 10
  pub least_bad : least_extent bad ≡ 10

-- results of `next`, and the reader's state after them
pub record AnswersAreHeld : Type 0 where
  pub no_calls : (r : Reader) → Gave r [] r
  pub mark_moves : (old new : Reader) → GivesItem old mark new → old.place + 4 ≤ new.place
  -- after the end of the medium or a fault every further call returns the same result
  pub end_stays :
      (old new : Reader) (ending : Ending) (r : Result (Option TapeItem) ImageFault)
      → Answers (ended ending) old r new → (r ≡ Ok None) × (new ≡ old)
  pub fault_stays :
      (old new : Reader) (fault : ImageFault) (r : Result (Option TapeItem) ImageFault)
      → Answers (failed fault) old r new → (r ≡ Err fault) × (new ≡ old)
  pub fault_is_kept :
      (old new : Reader) (fault : ImageFault)
      → MeetsFault old fault new → (new.status ≡ failed fault) × (new.place ≡ fault.place)
  -- at the limit no end-of-medium marker fits, so reaching the end does not move the reader
  pub end_moves :
      (old new : Reader) → old.place ≡ image_limit → MeetsEnd old new → new.place ≡ image_limit
  pub same_device_and_room :
      (old new : Reader) (r : Result (Option Item) ImageFault)
      → HasMoved old r new → (new.device ≡ old.device) × (new.room ≡ old.room)

-- how many of the device's bytes are read
pub record TakingIsHeld : Type 0 where
  pub end_takes_no_byte : TakesEnd 0 [] Physical 1 [] [] → ⊥
  pub end_word_is_taken : (xs ys : List ℕ) → TakesEnd 0 [] Marked 0 xs ys → ⊥
  pub fault_takes_a_front :
      (fault : ImageFault) (xs ys : List ℕ)
      → TakesFault 0 [] fault xs ys → (given : List ℕ) × (xs ≡ given ++ ys)
  -- only the word is read
  pub reserved_at_once :
      (w : ℕ) (xs given : List ℕ) → IsCause (Reserved w) 0 [] 0 xs given → length given ≡ 4
  pub too_long_at_once :
      (xs given : List ℕ) → IsCause TooLong 0 [] 0 xs given → length given ≡ 4
  -- the whole block is read, up to the last byte of its trailing word
  pub differ_at_the_end :
      (xs given : List ℕ) (h : IsCause LengthsDiffer 0 [] 0 xs given) → length given ≡ h.1
  pub truncated_takes_all :
      (xs given : List ℕ) → IsCause Truncated 0 [] 0 xs given → given ≡ xs
  pub device_cuts_off :
      (xs given : List ℕ) → IsCause Device 0 [] 0 xs given
      → (stop : Stop) × Begins 0 given [] 0 stop
      × ((stop ≡ ends Physical) ⊎ (stop ≡ faults Truncated))

-- the laws, each applied, so that no law has premises that nothing satisfies
pub record LawsAreHeld : Type 0 where
  pub unique :
      SpellingsAreUnique → (s t x y : List ℕ) (given other : List TapeItem)
      → IsSpelling s given → IsSpelling t other → s ++ x ≡ t ++ y → s ≡ t
  pub apart :
      NeverBoth → (place : ℕ) (rest : List ℕ) (stop : Stop)
      → Stands place rest → Stops place rest stop → ⊥
  pub one_list :
      BeginsIsUnique
      → (place : ℕ) (xs : List ℕ) (items others : List TapeItem) (end far : ℕ) (stop other : Stop)
      → Begins place xs items end stop → Begins place xs others far other → items ≡ others
  pub begins :
      SpelledBegins → (xs : List ℕ) (items : List TapeItem) (s : Spells xs items) (end : ℕ)
      → end + length s.rest ≡ length xs → end + end_len s.ending ≤ image_limit
      → Begins 0 xs items end (ends s.ending)
  pub first :
      WalkedIsFront
      → (xs ys : List ℕ) (taken items : List TapeItem) (at end : ℕ) (stop : Stop)
      → Walks 0 xs taken at ys → at ≤ image_limit → Begins 0 xs items end stop
      → (more : List TapeItem) × (items ≡ taken ++ more)

-- the bytes that a writer's call writes, its result, and the writer's state after it
pub record WritingIsHeld : Type 0 where
  pub three_bytes :
      written (block (7 ∷ 8 ∷ 9 ∷ []))
      ≡ 3 ∷ 0 ∷ 0 ∷ 0 ∷ 7 ∷ 8 ∷ 9 ∷ 0 ∷ 3 ∷ 0 ∷ 0 ∷ 0 ∷ []
  pub a_mark : written mark ≡ 0 ∷ 0 ∷ 0 ∷ 0 ∷ []
  pub counted :
      (bytes : List ℕ) (after : Standing) (old new : Writer) → PutsAll bytes after old new
      → (new.standing ≡ after) × (new.size ≡ old.size + length bytes) × (new.size ≤ image_limit)
  -- a failed device contains a prefix, which is not counted, and the writer remains broken
  pub failed_at :
      (bytes : List ℕ) (after : Standing) (old new : Writer)
      → Puts bytes after old (Err refusal.Device) new
      → (new.standing ≡ broken) × (new.size ≡ old.size)
      × ((front rest : List ℕ) × Appends old.contents new.contents front
      × (bytes ≡ front ++ rest))
  pub too_long :
      (bytes : List ℕ) (after : Standing) (old new : Writer)
      → Puts bytes after old (Err refusal.TooLong) new
      → (image_limit < old.size + length bytes) × (new ≡ old)
  pub no_bytes :
      (old new : Writer) (r : Result (Unit {0}) ImageWriteFault)
      → BlockFrom writing [] old r new → (r ≡ Err refusal.BlockLength) × (new ≡ old)
  -- for a finished or failed writer this is reported before the block's length is checked
  pub finished_stays :
      (old new : Writer) (r : Result (Unit {0}) ImageWriteFault)
      → BlockFrom finished [] old r new → (r ≡ Err refusal.Finished) × (new ≡ old)
  pub broken_stays :
      (bytes : List ℕ) (after : Standing) (old new : Writer)
      (r : Result (Unit {0}) ImageWriteFault)
      → PutsFrom broken bytes after old r new → (r ≡ Err refusal.Device) × (new ≡ old)
