-- The blocks that a reading skips because they were delivered before, compared with the parts that
-- were delivered.
use Rattle.std.specs.Prelude.{◌≡◌, ◌⊎◌, ℕ, ◌+◌, ◌-◌, nat_lt, Bool, true, false, List, [], ◌∷◌, ◌++◌}
use Rattle.std.specs.Prelude.{Option, Some, None, take, drop, unwrap_or, ⊤}
use Rattle.std.specs.List.{AllByRecursion}
use Rattle.tape_image.specs.Tape.{TapeItem, block, bad, mark}
use Rattle.tape_blocks.specs.{Block.Portion, Block.Holds, Tight.Filled, Tight.parts_of_all}
use Rattle.tape_blocks.specs.{Tight.bytes_of_all, Spans.InOrder}
use Rattle.tape_core.specs.Parts.{goes_on_at}
use Rattle.tape_set.specs.declared.position.Position.TheVariants.{Awaits}
use Rattle.tape_set.specs.{Layout.FileSet, Layout.Section, Layout.file_of, Layout.section_of}
use Rattle.tape_set.specs.{Before.before, Before.section_parts, Before.parts_at, Lawful.FileForm}
use Rattle.tape_core.specs.{State.State, declared.event.Answer.Answer}
use Rattle.tape_core.specs.declared.event.Answer.TheVariants.{SectionDone, Complete}

-- The block contains these parts in this form, in span order from what its first unit says.
abbrev pub Contains : FileForm → List ℕ → List Portion → Type 0
Contains form bytes parts = Holds form.format form.rec_len form.offset bytes parts
    × ((end : Bool) × InOrder (goes_on_at form.format form.offset bytes) parts end)

-- The next item of a section's data, compared with the parts that were delivered of the data not
-- yet seen. If blocks that were delivered are still to come (`true`), a block contains the next of
-- these parts, and the others are left for the following blocks; after an unreadable block nothing
-- is compared. The next block (`false`) begins with all of them: the first `part` parts of it. The
-- mark after the data leaves none. The table itself refuses a mark that comes too early.
abbrev pub Fits : FileForm → Bool → ℕ → List Portion → TapeItem → Option (List Portion) → Type 0
Fits form true part delivered (block bytes) (Some left) =
    (parts : List Portion) × Contains form bytes parts × (delivered ≡ parts ++ left)
Fits form true part delivered (block bytes) None = ⊥
Fits form true part delivered item left = ⊤
Fits form false part delivered (block bytes) left = (left ≡ Some [])
    × ((parts : List Portion) × Contains form bytes parts × (delivered ≡ take part parts))
Fits form false part delivered mark left = (part ≡ 0) × (delivered ≡ [])
Fits form false part delivered bad left = ⊤

-- The item contradicts the parts that were delivered.
abbrev pub Contradicts : FileForm → Bool → ℕ → List Portion → TapeItem → Type 0
Contradicts form early part delivered item =
    (left : Option (List Portion)) → Fits form early part delivered item left → ⊥

-- the parts that were delivered of a section before a block and a part of it, without those of its
-- first `count` blocks
abbrev pub delivered_after : Section → ℕ → ℕ → ℕ → List Portion
delivered_after s count number part =
    parts_of_all (drop count (take number s.blocks)) ++ take part (parts_at s.blocks number)

-- The next item of the data of the section needed does not contradict what was delivered: the parts
-- before the position are those of earlier sections, and those that the section's blocks have.
pub record Agrees (set : FileSet) (core : State) (form : FileForm) (count : ℕ) (item : TapeItem)
    : Type 0 where
  pub sect : ℕ
  pub number : ℕ
  pub part : ℕ
  pub section : Section
  pub at : core.position ≡ Awaits sect number part
  pub found : section_of set core.file sect ≡ Some section
  pub parts : before set core.file core.position
      ≡ section_parts (take (sect - 1) (unwrap_or (file_of set core.file) []))
      ++ delivered_after section 0 number part
  pub left : Option (List Portion)
  pub fits : Fits form (nat_lt count number) part (delivered_after section count number part) item
      left
  -- What is left for the next item is compared with it, unless this one is unreadable.
  pub next : (left ≡ None) ⊎ ((left ≡ Some (delivered_after section (count + 1) number part))
      ⊎ (nat_lt count number ≡ false))

-- Blocks that are skipped, one after another, fit the parts that were delivered; `left` are the
-- parts after them.
abbrev pub FitAll : FileForm → List Portion → List (List ℕ) → List Portion → Type 0
FitAll form delivered [] left = left ≡ delivered
FitAll form delivered (b ∷ bs) left = (mid : List Portion)
    × Fits form true 0 delivered (block b) (Some mid) × FitAll form mid bs left

-- The blocks have these texts, and contain parts in this form; what was delivered is their parts,
-- and then the given ones.
pub record Certified (form : FileForm) (delivered : List Portion) (texts : List (List ℕ))
    (left : List Portion) : Type 0 where
  pub blocks : List Filled
  pub texts_are : bytes_of_all blocks ≡ texts
  pub each : AllByRecursion (λ b. Contains form b.bytes b.parts) blocks
  pub parts : delivered ≡ parts_of_all blocks ++ left

-- The answer ends a section, which is complete.
abbrev pub EndsSection : Answer → Type 0
EndsSection answer = (answer ≡ SectionDone) ⊎ (answer ≡ Complete)
