-- No block is two kinds of label, and a reading function refuses all other kinds.
use Rattle.std.proofs.Common.{arith, ◌≡◌, ℕ, List, [], ◌∷◌, length, Bool, true, false, cond, eqb}
use Rattle.std.proofs.Common.{Option, None, Some, Result, Ok, Err, refl, sym, subst, ◌∙◌}
use Rattle.std.proofs.{lemmas.Bool.eqb-true, lemmas.Slice.Eq.bytes_eq-Decides}
use Rattle.std.specs.{List.find, Str.bytes_eq}
use Rattle.tape_label.specs.Kinds.{identifier, HasKind, IsFirstTrailer, IsSecond, kind_named}
use Rattle.tape_label.specs.{Kinds.kind_at, declared.values.Kind.Kind, Positions.positions}
use Rattle.tape_label.specs.Reading.{◌>>=◌, eighty, of_kind, begins_as, vol1_fields, vol1_at}
use Rattle.tape_label.specs.Reading.{head_at, head1_at, trail1_at, end_at, head2_at, second}
use Rattle.tape_label.specs.Reading.{wide_head2_at}
use Rattle.tape_label.specs.{declared.label.LabelFault.LabelFault, Labels.no_kind}
use Rattle.tape_label.specs.declared.label.LabelFault.TheVariants as faults
use Rattle.tape_label.specs.declared.values.Kind.TheVariants as kinds
use Rattle.tape_label.proofs.Steps.{size_again, begins_found}

-- ---- the kind as a function of the block

find_step : {X : Type 0} (p : X → Bool) (x : X) (rest : Option X) (y : X) (b : Bool) → p x ≡ b
    → (rest ≡ Some y → p y ≡ true) → cond b (Some x) rest ≡ Some y → p y ≡ true
find_step p x rest y true test later e = let same : x ≡ y = cc in subst (λ z. p z ≡ true) same test
find_step p x rest y false test later e = later e

find_passes : {X : Type 0} (p : X → Bool) (xs : List X) (y : X) → find p xs ≡ Some y → p y ≡ true
find_passes p [] y e = absurd cc
find_passes p (x ∷ xs) y e = find_step p x (find p xs) y (p x) refl (find_passes p xs y) e

named_is : (text : List ℕ) (kind : Kind) → kind_named text ≡ Some kind → text ≡ identifier kind
named_is text kind e = grind (arith, bytes_eq-Decides, find_passes, bytes_eq)

kind_step : (block : List ℕ) (kind : Kind) (b : Bool) → eqb (length block) 80 ≡ b
    → cond b (kind_named (positions block 1 4)) None ≡ Some kind → HasKind block kind
kind_step block kind true size e = grind (arith, eqb-true, named_is)
kind_step block kind false size e = absurd cc

pub kind_found : (block : List ℕ) (kind : Kind) → kind_at block ≡ Some kind → HasKind block kind
unfolding kind_at
kind_found block kind e = kind_step block kind (eqb (length block) 80) refl e

pub kind_again : (block : List ℕ) (kind : Kind) → HasKind block kind → kind_at block ≡ Some kind
unfolding kind_at
kind_again block kinds.Vol1 has = rw (has.size, has.named) refl
kind_again block kinds.Hdr1 has = rw (has.size, has.named) refl
kind_again block kinds.Hdr2 has = rw (has.size, has.named) refl
kind_again block kinds.Eof1 has = rw (has.size, has.named) refl
kind_again block kinds.Eof2 has = rw (has.size, has.named) refl
kind_again block kinds.Eov1 has = rw (has.size, has.named) refl
kind_again block kinds.Eov2 has = rw (has.size, has.named) refl

some_is : (a b : Kind) → Some a ≡ Some b → a ≡ b
some_is a b e = cc

pub HasKind-unique : (block : List ℕ) (a b : Kind) → HasKind block a → HasKind block b → a ≡ b
HasKind-unique block a b p q = some_is a b (sym (kind_again block a p) ∙ kind_again block b q)

-- ---- labels of other kinds

pub head2_refuses : (block : List ℕ) (kind : Kind) → HasKind block kind → (IsSecond kind → ⊥)
    → head2_at block ≡ Err faults.Identifier
unfolding head2_at
head2_refuses block kinds.Hdr2 has other = absurd (other tt)
head2_refuses block kinds.Eof2 has other = absurd (other tt)
head2_refuses block kinds.Eov2 has other = absurd (other tt)
head2_refuses block _ has other = rw (size_again block has.size, has.named) refl

pub wide_refuses : (block : List ℕ) (kind : Kind) → HasKind block kind → (IsSecond kind → ⊥)
    → wide_head2_at block ≡ Err faults.Identifier
unfolding wide_head2_at
wide_refuses block kinds.Hdr2 has other = absurd (other tt)
wide_refuses block kinds.Eof2 has other = absurd (other tt)
wide_refuses block kinds.Eov2 has other = absurd (other tt)
wide_refuses block _ has other = rw (size_again block has.size, has.named) refl

pub trail1_refuses : (block : List ℕ) (kind : Kind) → HasKind block kind → (IsFirstTrailer kind → ⊥)
    → trail1_at block ≡ Err faults.Identifier
unfolding trail1_at end_at
trail1_refuses block kinds.Eof1 has other = absurd (other tt)
trail1_refuses block kinds.Eov1 has other = absurd (other tt)
trail1_refuses block _ has other = rw (size_again block has.size, has.named) refl

-- ---- blocks of no expected kind

-- a block of 80 characters that is not of a kind does not begin as that kind
begins_otherwise : (label : List ℕ) (kind : Kind) (b : Bool) → begins_as label kind ≡ b
    → (HasKind label kind → ⊥) → length label ≡ 80 → b ≡ false
begins_otherwise label kind true e none size =
    absurd (none (record { size = size; named = begins_found label kind e }))
begins_otherwise label kind false e none size = refl

-- the first two tests of a block that is not of the kind
tests_refuse : {A : Type 0} (label : List ℕ) (kind : Kind) (next : Result A LabelFault)
    → (HasKind label kind → ⊥)
    → (eighty label >>= λ _. of_kind label kind >>= λ _. next) ≡ Err (no_kind label)
tests_refuse label kind next none = go (eqb (length label) 80) refl
  where
    go : (b : Bool) → eqb (length label) 80 ≡ b
        → (eighty label >>= λ _. of_kind label kind >>= λ _. next) ≡ Err (no_kind label)
    go true e =
        let z = begins_otherwise label kind (begins_as label kind) refl none (eqb-true _ _ e) in
        rw (e, z) refl
    go false e = rw e refl

pub vol1_none : (label : List ℕ) → (HasKind label kinds.Vol1 → ⊥)
    → vol1_at label ≡ Err (no_kind label)
unfolding vol1_at
vol1_none label none = tests_refuse label kinds.Vol1 (Ok (vol1_fields label)) none

pub head1_none : (label : List ℕ) → (HasKind label kinds.Hdr1 → ⊥)
    → head1_at label ≡ Err (no_kind label)
unfolding head1_at
head1_none label none = tests_refuse label kinds.Hdr1 (head_at label) none

-- the first two tests of a block that is not a second label
second_refuses : {A : Type 0} (label : List ℕ) (next : Result A LabelFault)
    → ((kind : Kind) → IsSecond kind → HasKind label kind → ⊥)
    → (eighty label >>= λ _. second label >>= λ _. next) ≡ Err (no_kind label)
second_refuses label next none = go (eqb (length label) 80) refl
  where
    go : (b : Bool) → eqb (length label) 80 ≡ b
        → (eighty label >>= λ _. second label >>= λ _. next) ≡ Err (no_kind label)
    go true e =
        let no : (kind : Kind) → IsSecond kind → begins_as label kind ≡ false =
        λ kind is. begins_otherwise label kind (begins_as label kind) refl (none kind is)
        (eqb-true _ _ e) in
        rw (e, no kinds.Hdr2 tt, no kinds.Eof2 tt, no kinds.Eov2 tt) refl
    go false e = rw e refl

pub head2_none : (label : List ℕ) → ((kind : Kind) → IsSecond kind → HasKind label kind → ⊥)
    → head2_at label ≡ Err (no_kind label)
unfolding head2_at
head2_none label none = second_refuses label _ none

pub wide_none : (label : List ℕ) → ((kind : Kind) → IsSecond kind → HasKind label kind → ⊥)
    → wide_head2_at label ≡ Err (no_kind label)
unfolding wide_head2_at
wide_none label none = second_refuses label _ none

pub trail1_none : (label : List ℕ) → ((kind : Kind) → IsFirstTrailer kind → HasKind label kind → ⊥)
    → trail1_at label ≡ Err (no_kind label)
unfolding trail1_at end_at
trail1_none label none = go (eqb (length label) 80) refl
  where
    go : (b : Bool) → eqb (length label) 80 ≡ b → trail1_at label ≡ Err (no_kind label)
    go true e =
        let no : (kind : Kind) → IsFirstTrailer kind → begins_as label kind ≡ false =
        λ kind is. begins_otherwise label kind (begins_as label kind) refl (none kind is)
        (eqb-true _ _ e) in
        rw (e, no kinds.Eof1 tt, no kinds.Eov1 tt) refl
    go false e = rw e refl
