-- Further examples for the definitions of sections, and of lines about them. They are the contract
-- of the call `laws::cases`.
use Rattle.std.specs.Prelude.{◌≡◌, ℕ, List, [], ◌∷◌, ◌++◌, Option, IfSome}
use Rattle.std.specs.Io.KnownBytes.{Appends}
use Rattle.tape_image.specs.{Begins.Walks, Written.AppendsFront}
use Rattle.tape_set.specs.Layout.{FileSet, Placed}
use Rattle.tape_run.specs.{declared.section.SectionKey.SectionKey, Added.AddsInPart, Lacks.IsGoodAt}
use Rattle.tape_run.specs.{declared.section.SectionLine.SectionLine, Noted.noted_all}
use Rattle.tape_run.specs.{declared.passing.Phase.TheVariants.Volume, WholeReels.IsListedGood}
use Rattle.tape_run.specs.declared.section.SectionState.TheVariants.{Good}
use Rattle.tape_run.specs.{Passing.Told, Passing.told_from, WholeSet.AreAllGood, WholeSet.key_in}

-- single sections
pub record CasesOfSections : Type 0 where
  -- if all of them are good, so is the given one
  pub all_good : (set : FileSet) (c : List Told) (x : Placed) → AreAllGood set c (x ∷ [])
      → IsGoodAt c (key_in set x)
  -- after memory ran out, the sections in a prefix of the items were added
  pub added_in_part : (before : Option (List ℕ)) (old new : List Told)
      (a : AddsInPart before old new)
      → IfSome before (λ xs. (place : ℕ) × (ys : List ℕ) × Walks 0 xs a.items place ys)
      × (new ≡ noted_all old (told_from Volume a.items))
  -- a section that is listed as good has its own line among the others, and this says GOOD
  pub listed : (lines : List SectionLine) (key : SectionKey) (l : IsListedGood lines key)
      → (lines ≡ l.front ++ l.line ∷ l.rest) × (l.line.set_id ≡ key.set_id)
      × (l.line.file ≡ key.file) × (l.line.sect ≡ key.sect) × (l.line.state ≡ Good)
  -- if a write failed, a prefix of the text was written
  pub written_front : (old new : Option (List ℕ)) (all : List ℕ) (a : AppendsFront old new all)
      → Appends old new a.0 × (all ≡ a.0 ++ a.1)
