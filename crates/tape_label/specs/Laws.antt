-- Laws about labels. Each is the contract of a function of the module `laws`.
use Rattle.std.specs.Prelude.{ℕ, ◌+◌, List, Result, Ok, Err}
use Rattle.tape_label.specs.declared.{label.LabelFault.LabelFault, values.Kind.Kind}
use Rattle.tape_label.specs.{declared.values.Head2.Head2, Head2.IsHead2}
use Rattle.tape_label.specs.Reading.{vol1_at, head1_at, head2_at, trail1_at}

-- No block is a label of both sorts, whatever the fields.
abbrev pub IsNotBoth : {A B : Type 0} → (List ℕ → A → Type 0) → (List ℕ → B → Type 0)
    → List ℕ → Type 0
IsNotBoth {A} {B} One Other block = (a : A) (b : B) → One block a → Other block b → ⊥

-- a second label of some kind
abbrev pub IsSecondLabel : List ℕ → Head2 → Type 0
IsSecondLabel block fields = (which : Kind) × IsHead2 block which fields

-- 1 for a block that was read, 0 for a fault
abbrev pub one_if_read : {A : Type 0} → Result A LabelFault → ℕ
one_if_read (Ok fields) = 1
one_if_read (Err fault) = 0

-- how many of the four reading functions accept the block
abbrev pub readings : List ℕ → ℕ
readings block =
    one_if_read (vol1_at block) + one_if_read (head1_at block) + one_if_read (head2_at block)
    + one_if_read (trail1_at block)
