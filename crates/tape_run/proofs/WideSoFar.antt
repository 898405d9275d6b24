-- The number of data blocks that a step finds in the wider reading, and the sections that it finds
-- if each section has a second label.
use Rattle.std.proofs.Common.{◌≡◌, ℕ, ◌+◌, ◌≤◌, List, [], ◌∷◌, ◌++◌, Option}
use Rattle.std.proofs.Common.{Bool, true, false, refl, ap, ◌∙◌, arith}
use Rattle.tape_image.specs.{Tape.TapeItem, Tape.block, Tape.bad, Tape.mark}
use Rattle.tape_label.specs.{Kinds.kind_at, WideHead2.is_further_header}
use Rattle.tape_run.specs.declared.passing.Phase.TheVariants.{Volume, Labels, Second, Headers, Data}
use Rattle.tape_run.specs.declared.passing.Phase.TheVariants.{Trailer, Trailers, Next, Over}
use Rattle.tape_run.specs.Passing.{Told, in_list, under_way, blocks_of}
use Rattle.tape_run.specs.Passing as Strict
use Rattle.tape_run.specs.WidePassing.{step, AreNoAbsence, IsNoAbsence, second_if}
use Rattle.tape_run.specs.{declared.met.Met.Met, declared.passing.Phase.Phase}
use Rattle.tape_run.proofs.{NotedSoFar.one_second}
use Rattle.tape_run.proofs.NotedSoFar as Strictly

one_further : (met : Met) (b : List ℕ) (is : Bool)
    → blocks_of (second_if met b is).0 ≤ met.blocks + 1
one_further met b true = omega arith
one_further met b false = one_second met (kind_at b)

-- a step finds at most one data block
pub wide_block : (p : Phase) (x : TapeItem) → blocks_of (step p x).0 ≤ blocks_of p + 1
wide_block Volume x = Strictly.one_block Volume x
wide_block (Labels v) x = Strictly.one_block (Labels v) x
wide_block (Second met) (block b) = one_further met b (is_further_header b)
wide_block (Second met) mark = omega arith
wide_block (Second met) bad = omega arith
wide_block (Headers met) x = Strictly.one_block (Headers met) x
wide_block (Data met) x = Strictly.one_block (Data met) x
wide_block (Trailer met) x = Strictly.one_block (Trailer met) x
wide_block (Trailers v) x = Strictly.one_block (Trailers v) x
wide_block (Next v) x = Strictly.one_block (Next v) x
wide_block Over x = Strictly.one_block Over x

-- ---- the sections that are found in the order of a volume

-- the phase after these items
abbrev pub phase_after : Phase → List TapeItem → Phase
phase_after p [] = p
phase_after p (x ∷ xs) = phase_after (step p x).0 xs

-- the sections that these items contain, in order
abbrev pub told_from : Phase → List TapeItem → List Told
told_from p [] = []
told_from p (x ∷ xs) = in_list (step p x).1 ++ told_from (step p x).0 xs

-- the sections that the items of an image contain, in the order in which they were found
abbrev pub met_in : List TapeItem → List Told
met_in items = told_from Volume items ++ in_list (under_way (phase_after Volume items))

-- ---- the same without the wider reading

same_step : (p : Phase) (x : TapeItem) → IsNoAbsence p x → step p x ≡ Strict.step p x
same_step Volume x none = refl
same_step (Labels v) x none = refl
same_step (Second met) (block b) none = rw none refl
same_step (Second met) mark none = absurd none
same_step (Second met) bad none = refl
same_step (Headers met) x none = refl
same_step (Data met) x none = refl
same_step (Trailer met) x none = refl
same_step (Trailers v) x none = refl
same_step (Next v) x none = refl
same_step Over x none = refl

same_told : (p : Phase) (xs : List TapeItem) → AreNoAbsence p xs
    → told_from p xs ≡ Strict.told_from p xs
same_told p [] none = refl
same_told p (x ∷ xs) (one, none) =
    ap (λ (r : Phase × Option Told). in_list r.1 ++ told_from r.0 xs) (same_step p x one)
    ∙ ap (λ (l : List Told). in_list (Strict.step p x).1 ++ l)
    (same_told (Strict.step p x).0 xs none)

same_phase : (p : Phase) (xs : List TapeItem) → AreNoAbsence p xs
    → phase_after p xs ≡ Strict.phase_after p xs
same_phase p [] none = refl
same_phase p (x ∷ xs) (one, none) =
    ap (λ (r : Phase × Option Told). phase_after r.0 xs) (same_step p x one)
    ∙ same_phase (Strict.step p x).0 xs none

pub finds_the_same : (items : List TapeItem) → AreNoAbsence Volume items
    → met_in items ≡ Strict.met_in items
finds_the_same items none =
    ap (λ (l : List Told). l ++ in_list (under_way (phase_after Volume items)))
    (same_told Volume items none)
    ∙ ap (λ (p : Phase). Strict.told_from Volume items ++ in_list (under_way p))
    (same_phase Volume items none)
