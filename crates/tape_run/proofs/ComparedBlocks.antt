-- A block of a reading, compared with the parts that a walk over a sink returns.
use Rattle.std.proofs.Common.{◌≡◌, ℕ, ◌<◌, ◌≤◌, refl, ◌++◌, Bool, true, false, List, Option, Some}
use Rattle.std.proofs.Common.{sym, ap, subst, ◌∙◌, inl, inr, take, length, arith}
use Rattle.tape_image.specs.{Tape.TapeItem, Tape.block, Tape.mark}
use Rattle.tape_blocks.specs.{declared.parts.Shape.Shape, Block.Portion}
use Rattle.tape_set.specs.Lawful.{FileForm}
use Rattle.tape_core.specs.{State.State, Overlap.Contains, Expects.Expects, Table.IsShapeOf}
use Rattle.tape_core.specs.Wide.{read_as, bytes_as}
use Rattle.tape_core.specs.declared.event.{Heading.Heading, Phase.Phase}
use Rattle.tape_core.specs.declared.event.Expected.TheVariants.{Data}
use Rattle.tape_core.specs.declared.event.Phase.TheVariants.{Over, Broken, Volume, VolumeLabels}
use Rattle.tape_core.specs.declared.event.Phase.TheVariants.{Header2, Headers, DataPassed}
use Rattle.tape_core.specs.declared.event.Phase.TheVariants.{DataWanted, TrailerPassed}
use Rattle.tape_core.specs.declared.event.Phase.TheVariants.{TrailerWanted, Trailers, NextFile}
use Rattle.tape_run.specs.declared.session.compared.overlap.Overlap.{Overlap}
use Rattle.tape_run.specs.Comparing.{Reads, Meets, MeetsFront, IsBehind, IsOther}
use Rattle.tape_run.proofs.ByTable.{read_block}

-- a shape that is that of a form reads the same parts
pub in_form : (form : FileForm) (shape : Shape) (b : List ℕ) (parts : List Portion)
    → IsShapeOf form shape → Reads shape b parts → Contains form b parts
in_form form shape b parts i r = rw (sym i.format, sym i.rec_len, sym i.offset) r

pub in_shape : (form : FileForm) (shape : Shape) (b : List ℕ) (parts : List Portion)
    → IsShapeOf form shape → Contains form b parts → Reads shape b parts
in_shape form shape b parts i c = rw (i.format, i.rec_len, i.offset) c

-- the phase in which data are expected
pub record InPhase (phase : Phase) (seen : ℕ) (shape : Shape) : Type 0 where
  pub heading : Heading
  pub form : FileForm
  pub is : phase ≡ DataWanted heading form seen
  pub shown : IsShapeOf form shape

pub in_phase : (phase : Phase) (seen : ℕ) (shape : Shape) → Expects phase (Data seen shape)
    → InPhase phase seen shape
in_phase (DataWanted heading form n) seen shape (e, i) = record {
  heading = heading;
  form = form;
  is = ap (λ z. DataWanted heading form z) (sym e);
  shown = i;
}
in_phase (Header2 heading true) seen shape e = absurd e
in_phase (Header2 heading false) seen shape e = absurd e
in_phase (TrailerWanted heading form) seen shape e = absurd e
in_phase Over seen shape e = absurd e
in_phase Broken seen shape e = absurd e
in_phase Volume seen shape e = absurd e
in_phase VolumeLabels seen shape e = absurd e
in_phase (Headers heading form) seen shape e = absurd e
in_phase (DataPassed heading) seen shape e = absurd e
in_phase (TrailerPassed heading) seen shape e = absurd e
in_phase Trailers seen shape e = absurd e
in_phase NextFile seen shape e = absurd e

module _ (wide : Bool) (from : ℕ) (core : State) (came : Option TapeItem) (bytes content : List ℕ)
    (seen : ℕ) (shape : Shape) (is : came ≡ Some (block bytes))
    (value : content ≡ bytes_as wide core bytes) (e : Expects core.phase (Data seen shape)) where
  abbrev there : InPhase core.phase seen shape
  there = in_phase core.phase seen shape e

  -- the item as the reading takes it
  taken : block content ≡ read_as wide core (block bytes)
  taken = ap block value ∙ sym (read_block wide core bytes)

  -- the block in which the session continues
  pub came_front : (part : ℕ) (ahead parts left : List Portion) → Reads shape content parts
      → part ≤ length parts → ahead ≡ take part parts ++ left
      → (item : TapeItem) × (came ≡ Some item)
      × MeetsFront part core.phase (read_as wide core item) ahead left
  came_front part ahead parts left r few q = (
    block bytes,
    is,
    subst (λ z. MeetsFront part core.phase z ahead left) taken
        (subst (λ z. MeetsFront part z (block content) ahead left) (sym there.is)
        (parts, in_form there.form shape content parts there.shown r, few, q)),
  )

  -- what is known of a block that is compared
  next_back : (ahead left : List Portion) → from ≤ seen
      → Meets from core.phase (read_as wide core (block bytes)) ahead left
      → (parts : List Portion) × Reads shape content parts × (ahead ≡ parts ++ left)
  next_back ahead left le m = elim (subst (λ z. Meets from z (block content) ahead left) there.is
      (subst (λ z. Meets from core.phase z ahead left) (sym taken) m)) [
        | inl early ↦ absurd (let lt = early.0 in omega (arith, lt, le))
        | inr (at, (parts, c, q)) ↦
            (parts, in_shape there.form shape content parts there.shown c, q)
      ]

  pub other_next : (o : Overlap) (ahead : List Portion) → o.from ≡ from
      → from ≤ seen → seen < o.block
      → ((parts left : List Portion) → Reads shape content parts → ahead ≡ parts ++ left → ⊥)
      → (item : TapeItem) × (came ≡ Some item) × IsOther wide o core item ahead
  other_next o ahead same le early never = (
    block bytes,
    is,
    inl (
      bytes,
      refl,
      λ behind. let n = subst (λ z. IsBehind o.block z) there.is behind in omega (arith, n, early),
      λ left m.
          let (parts, r, q) = next_back ahead left le
          (subst (λ z. Meets z core.phase (read_as wide core (block bytes)) ahead left) same m) in
          never parts left r q,
    ),
  )

  pub other_front : (o : Overlap) (ahead : List Portion) → o.block ≤ seen → o.from ≤ seen
      → 0 < o.part
      → ((parts left : List Portion) → Reads shape content parts → o.part ≤ length parts
      → ahead ≡ take o.part parts ++ left → ⊥)
      → (item : TapeItem) × (came ≡ Some item) × IsOther wide o core item ahead
  other_front o ahead last from_there some never = (
    block bytes,
    is,
    inr (
      subst (λ z. IsBehind o.block z) (sym there.is) last,
      subst (λ z. IsBehind o.from z) (sym there.is) from_there,
      some,
      λ e. cc e,
      λ left m.
          let (parts, c, few, q) =
          subst (λ z. MeetsFront o.part z (block content) ahead left) there.is
          (subst (λ z. MeetsFront o.part core.phase z ahead left) (sym taken) m) in
          never parts left (in_shape there.form shape content parts there.shown c) few q,
    ),
  )

read_mark : (wide : Bool) (core : State) → read_as wide core mark ≡ mark
read_mark false core = refl
read_mark true core = refl

no_front : (part : ℕ) (phase : Phase) (ahead left : List Portion)
    → MeetsFront part phase mark ahead left → ⊥
no_front part (DataWanted heading form seen) ahead left f = f
no_front part _ ahead left f = f

-- a mark in place of the block of which the session has the first parts
pub other_mark : (wide : Bool) (core : State) (o : Overlap) (seen : ℕ) (shape : Shape)
    (came : Option TapeItem) (ahead : List Portion) → Expects core.phase (Data seen shape)
    → came ≡ Some mark → o.block ≤ seen → o.from ≤ seen → 0 < o.part
    → (item : TapeItem) × (came ≡ Some item) × IsOther wide o core item ahead
other_mark wide core o seen shape came ahead e is last from_there some =
    let there = in_phase core.phase seen shape e in (
      mark,
      is,
      inr (
        subst (λ z. IsBehind o.block z) (sym there.is) last,
        subst (λ z. IsBehind o.from z) (sym there.is) from_there,
        some,
        λ e. cc e,
        λ left m. no_front o.part core.phase ahead left
            (subst (λ z. MeetsFront o.part core.phase z ahead left) (read_mark wide core) m),
      ),
    )

-- in this phase the block is expected
pub is_behind : (number seen : ℕ) (core : State) (shape : Shape)
    → Expects core.phase (Data seen shape) → number ≤ seen → IsBehind number core.phase
is_behind number seen core shape e le =
    let there = in_phase core.phase seen shape e in
    subst (λ z. IsBehind number z) (sym there.is) le
