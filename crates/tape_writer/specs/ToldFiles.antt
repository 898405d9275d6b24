-- Files passed with the records of inputs.
use Rattle.std.specs.Prelude.{IfSome, List, Option, length, ℕ, ◌++◌, ◌∷◌, ◌≡◌, [], ◌+◌}
use Rattle.tape_label.specs.declared.values.Head1.{Head1}
use Rattle.tape_blocks.specs.declared.parts.Shape.{Shape}
use Rattle.tape_writer.specs.{Records.records_of, Told.Told, Told.opened_by, Told.with_record}
use Rattle.tape_writer.specs.{declared.inputs.cut.Cut.Cut}

-- further records were passed for the last file
abbrev pub with_records : List Told → List (List ℕ) → List Told
with_records told [] = told
with_records told (r ∷ rs) = with_records (with_record told r) rs

-- the files with the given heads, numbered from n, with the records of the given inputs
abbrev pub told_files : List ℕ → Shape → Cut → ℕ → List (Head1 × List ℕ) → List Told
told_files set_id shape cut n [] = []
told_files set_id shape cut n (f ∷ fs) = record {
  file = opened_by set_id n f.0 shape;
  records = records_of cut f.1;
} ∷ told_files set_id shape cut (n + 1) fs

-- P holds if the bytes of all inputs are known
abbrev pub IfAllKnown : List (Head1 × Option (List ℕ)) → (List (Head1 × List ℕ) → Type 0) → Type 0
IfAllKnown [] P = P []
IfAllKnown (x ∷ xs) P = IfSome x.1 (λ bytes. IfAllKnown xs (λ fs. P ((x.0, bytes) ∷ fs)))

-- P holds for one of the inputs: for the files passed before it, its head and its bytes. The inputs
-- before it were passed completely, after the files `told`. Makes no claim if the bytes of one of
-- these inputs are unknown.
pub record InOne (set_id : List ℕ) (told : List Told) (shape : Shape) (cut : Cut)
    (inputs : List (Head1 × Option (List ℕ))) (P : List Told → Head1 → List ℕ → Type 0)
    : Type 0 where
  pub before : List (Head1 × Option (List ℕ))
  pub input : Head1 × Option (List ℕ)
  pub after : List (Head1 × Option (List ℕ))
  pub split : inputs ≡ before ++ input ∷ after
  pub holds : IfAllKnown before (λ fs. IfSome input.1 (λ bytes.
      P (told ++ told_files set_id shape cut (length told + 1) fs) input.0 bytes))
