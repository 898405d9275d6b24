-- The images from which the blocks of a file came.
use Rattle.std.proofs.Common.{◌≡◌, ◌∙◌, ◌++◌, List, [], ◌∷◌, Some, if◌then◌else◌, true, false}
use Rattle.std.proofs.Common.{ap, arith, refl, ℕ, zero, suc, ◌+◌, ◌-◌, ◌<◌, Bool, Option}
use Rattle.std.specs.Map.{lookup}
use Rattle.std.proofs.lemmas.Bool.Decides.{nat_tests}
use Rattle.tape_set.specs.declared.position.Position.{Position}
use Rattle.tape_set.specs.declared.position.Position.TheVariants.{Awaits, Finished}
use Rattle.tape_run.specs.declared.unpack.origin.OpenedImage.{OpenedImage}
use Rattle.tape_run.specs.Origins.{is_before, source_at, IsSource, with_section, runs_from}
use Rattle.tape_run.specs.{Lacks.good_end, Lacks.entry_at, Lacks.key_at}
use Rattle.tape_run.specs.{Noted.same_key, Passing.Told, SurveyLocations.Located}
use Rattle.tape_set.specs.Position.{awaiting}

-- the source of a block, if one more image was opened
source_at_more : (at : Position) (os : List OpenedImage) (o : OpenedImage)
    → source_at at (os ++ o ∷ []) ≡ (if is_before at o.at then source_at at os else Some o.image)
source_at_more at [] o = grind arith
source_at_more at (p ∷ os) o = let more = source_at_more at os o in grind (arith, more)

-- if that was after the block
source_at_past : (at : Position) (os : List OpenedImage) (o : OpenedImage)
    → is_before at o.at ≡ true → source_at at (os ++ o ∷ []) ≡ source_at at os
source_at_past at os o h = source_at_more at os o
    ∙ ap (λ b. if b then source_at at os else Some o.image) h

-- if it was not
source_at_last : (at : Position) (os : List OpenedImage) (o : OpenedImage)
    → is_before at o.at ≡ false → source_at at (os ++ o ∷ []) ≡ Some o.image
source_at_last at os o h = source_at_more at os o
    ∙ ap (λ b. if b then source_at at os else Some o.image) h

-- what is before a position is before all that are not
before_rest : (p q r : Position) → is_before p q ≡ true → is_before r q ≡ false
    → is_before p r ≡ true
before_rest (Awaits s b j) (Awaits t c k) (Awaits u d l) h i = grind (arith, nat_tests)
before_rest (Awaits s b j) Finished (Awaits u d l) h i = grind arith
before_rest (Awaits s b j) q Finished h i = refl
before_rest Finished q r h i = grind arith

before_both : (p q r : Position) → is_before p q ≡ true → is_before q r ≡ true
    → is_before p r ≡ true
before_both (Awaits s b j) (Awaits t c k) (Awaits u d l) h i = grind (arith, nat_tests)
before_both (Awaits s b j) q Finished h i = refl
before_both (Awaits s b j) Finished (Awaits u d l) h i = grind arith
before_both Finished q r h i = grind arith

-- of the blocks before a position these openings have the source
abbrev pub HaveSources : List OpenedImage → Position → List OpenedImage → Type 0
HaveSources all end rest = (at : Position) → is_before at end ≡ true
    → source_at at all ≡ source_at at rest

-- without the last one, before the position at which it was opened
pub sources_before : (all rest before : List OpenedImage) (o : OpenedImage) (end : Position)
    → rest ≡ before ++ o ∷ [] → is_before o.at end ≡ true → HaveSources all end rest
    → HaveSources all o.at before
sources_before all rest before o end e b later at h = later at (before_both at o.at end h b)
    ∙ ap (source_at at) e ∙ source_at_past at before o h

-- without the last one, if nothing is left of what was read from it
pub sources_without : (all rest before : List OpenedImage) (o : OpenedImage) (end : Position)
    → rest ≡ before ++ o ∷ [] → is_before o.at end ≡ false → HaveSources all end rest
    → HaveSources all end before
sources_without all rest before o end e b later at h = later at h
    ∙ ap (source_at at) e ∙ source_at_past at before o (before_rest at end o.at h b)

-- what follows its position came from it
pub source_of_last : (all rest before : List OpenedImage) (o : OpenedImage) (end : Position)
    → rest ≡ before ++ o ∷ [] → HaveSources all end rest
    → IsSource all record { image = Some o.image; from = o.at; end = end }
source_of_last all rest before o end e later at h i = later at i
    ∙ ap (source_at at) e ∙ source_at_last at before o h

-- ---- recovered section by section

-- after the section that ends the file
pub runs_end : (located : List Located) (sections : List Told) (set_id : List ℕ)
    (file sect left image : ℕ) → 0 < left
    → lookup (same_key (key_at set_id file sect)) located ≡ Some image
    → good_end (entry_at sections (key_at set_id file sect)) ≡ Some true
    → runs_from located sections set_id file sect left
    ≡ record { image = Some image; from = awaiting sect 0; end = Finished } ∷ []
runs_end located sections set_id file sect zero image some at ends = absurd (omega arith)
runs_end located sections set_id file sect (suc n) image some at ends =
    let more = runs_from located sections set_id file (sect + 1) n in
    let good = good_end (entry_at sections (key_at set_id file sect)) in
    ap (λ (i : Option ℕ). with_section i good sect more) at
    ∙ ap (λ (e : Option Bool). with_section (Some image) e sect more) ends

-- after another one
pub runs_go_on : (located : List Located) (sections : List Told) (set_id : List ℕ)
    (file sect left image : ℕ) → 0 < left
    → lookup (same_key (key_at set_id file sect)) located ≡ Some image
    → good_end (entry_at sections (key_at set_id file sect)) ≡ Some false
    → runs_from located sections set_id file sect left
    ≡ record { image = Some image; from = awaiting sect 0; end = awaiting (sect + 1) 0 }
    ∷ runs_from located sections set_id file (sect + 1) (left - 1)
runs_go_on located sections set_id file sect zero image some at ends = absurd (omega arith)
runs_go_on located sections set_id file sect (suc n) image some at ends =
    let one : n ≡ suc n - 1 = omega arith in
    let more = runs_from located sections set_id file (sect + 1) in
    let good = good_end (entry_at sections (key_at set_id file sect)) in
    ap (λ (i : Option ℕ). with_section i good sect (more n)) at
    ∙ (ap (λ (e : Option Bool). with_section (Some image) e sect (more n)) ends
    ∙ ap (λ (m : ℕ). with_section (Some image) (Some false) sect (more m)) one)
