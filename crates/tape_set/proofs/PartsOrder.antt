-- The parts before positions determine the order of the positions, except at blocks without parts.
use Rattle.std.proofs.Common.{◌≡◌, ◌<◌, ◌⊎◌, inl, inr, ℕ, ◌+◌, List, [], ◌∷◌, ◌++◌, length, ltb}
use Rattle.std.proofs.Common.{Option, Some, None, refl, ap, ◌∙◌, arith, length-append}
use Rattle.std.proofs.lemmas.Bool.Decides.{nat_tests}
use Rattle.std.specs.Prelude.{slice_get, IsSome}
use Rattle.tape_blocks.specs.{Block.Portion, Tight.Filled}
use Rattle.tape_set.specs.declared.position.Position.{Position}
use Rattle.tape_set.specs.declared.position.Position.TheVariants.{Awaits, Finished}
use Rattle.tape_set.specs.Layout.{FileSet, Section, section_of}
use Rattle.tape_set.specs.Before.{blocks_of, parts_of, parts_at, before, IsIn}
use Rattle.tape_set.specs.{Position.IsBefore, Position.IsUpTo, Laws.PartsTellPositions}
use Rattle.tape_set.proofs.{Everywhere.nth_there, Numbering.section_found, Orders.up_to_end}
use Rattle.tape_set.proofs.{Orders.up_to_part, PartsBefore.before_grows, FileParts.before_one}

-- ---- one of two numbers is less than the other, or they are equal

abbrev Three : ℕ → ℕ → Type 0
Three m n = (m < n) ⊎ ((m ≡ n) ⊎ (n < m))

three : (m n : ℕ) → Three m n
three m n = grind (arith, ltb, nat_tests)

abbrev Either : Position → Position → Type 0
Either p q = IsBefore p q ⊎ ((p ≡ q) ⊎ IsBefore q p)

either : (p q : Position) → Either p q
either Finished Finished = inr (inl refl)
either Finished (Awaits t c k) = inr (inr tt)
either (Awaits s b j) Finished = inl tt
either (Awaits s b j) (Awaits t c k) = grind (arith, three)

-- ---- a longer prefix of parts

longer_later : (set : FileSet) (file : ℕ) (p q : Position)
    → length (before set file p) < length (before set file q) → IsBefore p q
longer_later set file p q less = go (either p q)
  where
    go : Either p q → IsBefore p q
    go (inl h) = h
    go (inr (inl e)) = absurd (let same : length (before set file p) ≡ length (before set file q) =
        ap (λ v. length (before set file v)) e in omega (arith, less, same))
    go (inr (inr h)) =
        let front = before_grows set file q p (inl h) in
        let long : length (before set file q ++ front.0) ≡ length (before set file p) =
        ap length front.1 in
        absurd (omega (arith, less, long, length-append (before set file q) front.0))

-- ---- the same prefix of parts

-- a position before q is, after one more part, at most q
next_part : (s b k : ℕ) (q : Position) → IsBefore (Awaits s b k) q → IsUpTo (Awaits s b (k + 1)) q
next_part s b k Finished h = up_to_end (Awaits s b (k + 1))
next_part s b k (Awaits t c l) (inl h) = inl (inl h)
next_part s b k (Awaits t c l) (inr (e, inl h)) = inl (inr (e, inl h))
next_part s b k (Awaits t c l) (inr (e, inr (f, h))) = grind (arith, up_to_part)

some_there : {A : Type 0} (o : Option A) → IsSome o → (x : A) × (o ≡ Some x)
some_there None h = absurd (cc)
some_there (Some x) h = (x, refl)

-- the parts before a position in a block, if a part of the block is expected, are not those before
-- any later position
none_to_come : (set : FileSet) (file s b k : ℕ) (w : Section) (d : Filled) (q : Position)
    → section_of set file s ≡ Some w → slice_get w.blocks b ≡ Some d → k < length d.parts
    → IsBefore (Awaits s b k) q → before set file (Awaits s b k) ≡ before set file q → ⊥
none_to_come set file s b k w d q found this there later same =
    let (x, it) = some_there (slice_get d.parts k) (nth_there d.parts k there) in
    let one = before_one set file s w (section_found set file s w found) b k d x this it in
    let front = before_grows set file (Awaits s b (k + 1)) q (next_part s b k q later) in
    let long : length (before set file (Awaits s b (k + 1)) ++ front.0)
    ≡ length (before set file q) = ap length front.1 in
    let more : length (before set file (Awaits s b (k + 1)))
    ≡ length (before set file (Awaits s b k) ++ x ∷ []) = ap length one in
    let equal : length (before set file (Awaits s b k)) ≡ length (before set file q) =
    ap length same in
    omega (
      arith,
      long,
      more,
      equal,
      length-append (before set file (Awaits s b (k + 1))) front.0,
      length-append (before set file (Awaits s b k)) (x ∷ []),
    )

no_parts : (set : FileSet) (file s b k : ℕ) (q : Position) → IsIn set file (Awaits s b k)
    → IsBefore (Awaits s b k) q → before set file (Awaits s b k) ≡ before set file q
    → parts_at (blocks_of (section_of set file s)) b ≡ []
no_parts set file s b k q (w, found, within, part) later same =
    ap (λ o. parts_at (blocks_of o) b) found ∙ by_block (slice_get w.blocks b) refl
  where
    by_parts : (d : Filled) → slice_get w.blocks b ≡ Some d → (ps : List Portion) → d.parts ≡ ps
        → (k ≡ 0) ⊎ (k < length (parts_at w.blocks b)) → ps ≡ []
    by_parts d this [] e h = refl
    by_parts d this (x ∷ ps) e (inl z) =
        let n : length d.parts ≡ length (x ∷ ps) = ap length e in
        absurd (none_to_come set file s b k w d q found this (omega (arith, n, z)) later same)
    by_parts d this (x ∷ ps) e (inr h) = grind (arith, none_to_come)

    by_block : (o : Option Filled) → slice_get w.blocks b ≡ o → parts_of o ≡ []
    by_block None e = refl
    by_block (Some d) e = by_parts d e d.parts refl part

pub parts_tell : (set : FileSet) → PartsTellPositions set
parts_tell set = grind (arith, longer_later, no_parts)
