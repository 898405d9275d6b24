-- The parts of a section that a session has, as a copy of a volume of a valid set has them.
use Rattle.std.proofs.Common.{◌≡◌, ◌<◌, ◌≤◌, ◌⊎◌, inl, inr, ℕ, zero, suc, ◌+◌, Bool, true, false}
use Rattle.std.proofs.Common.{List, [], ◌∷◌, ◌++◌, length, take, drop, Option, Some, None, refl}
use Rattle.std.proofs.Common.{sym, ap, subst, ◌∙◌, arith, nat_lt, if◌then◌else◌}
use Rattle.std.proofs.{lemmas.Bool.Decides.nat_tests, lemmas.List.length-take-le}
use Rattle.tape_image.specs.Tape.{block, bad}
use Rattle.tape_blocks.specs.{Block.Portion, Tight.Filled, Tight.parts_of_all}
use Rattle.tape_blocks.proofs.{Wide.content_kept, OwnLaws.judged_only}
use Rattle.tape_set.specs.declared.position.Position.TheVariants.{Awaits}
use Rattle.tape_set.specs.Layout.{FileSet, Section, section_of, file_of, nth}
use Rattle.tape_set.specs.{Lawful.FileForm, Before.before, Before.parts_at, Before.parts_up_to}
use Rattle.tape_set.specs.Before.{blocks_of}
use Rattle.tape_core.specs.declared.event.{Heading.Heading, Phase.Phase}
use Rattle.tape_core.specs.declared.event.Phase.TheVariants.{DataWanted}
use Rattle.tape_core.specs.{State.State, Wide.read_as, Wide.item_by}
use Rattle.tape_core.specs.Overlap.{Contains, Fits, Agrees, delivered_after}
use Rattle.tape_run.specs.declared.session.compared.overlap.Overlap.{Overlap}
use Rattle.tape_run.specs.Comparing.{had_from, up_to}
use Rattle.tape_run.proofs.SalvageWhole.{some_holds}

pub less_or : (i n : ℕ) → (i < n) ⊎ (n ≤ i)
less_or i n = go (nat_lt i n) refl
  where
    go : (t : Bool) → nat_lt i n ≡ t → (i < n) ⊎ (n ≤ i)
    go true e = inl (grind (arith, nat_tests))
    go false e = inr (grind (arith, nat_tests))

take_few : (n : ℕ) (xs : List Portion) → length (take n xs) ≤ n
take_few zero xs = omega arith
take_few (suc n) [] = omega arith
take_few (suc n) (x ∷ xs) = let h = take_few n xs in omega (arith, h)

take_within : (n : ℕ) (xs : List Portion) → length (take n xs) ≤ length xs
take_within zero xs = omega arith
take_within (suc n) [] = omega arith
take_within (suc n) (x ∷ xs) = let h = take_within n xs in omega (arith, h)

none_from : (blocks : List Filled) (n : ℕ) → drop n (take n blocks) ≡ []
none_from [] zero = refl
none_from [] (suc n) = refl
none_from (b ∷ blocks) zero = refl
none_from (b ∷ blocks) (suc n) = none_from blocks n

pub read_bad : (wide : Bool) (core : State) → read_as wide core bad ≡ bad
read_bad false core = refl
read_bad true core = refl

-- a block that contains its parts has no other padding
pub kept : (wide : Bool) (core : State) (heading : Heading) (form : FileForm) (count : ℕ)
    (content : List ℕ) (parts : List Portion) → core.phase ≡ DataWanted heading form count
    → Contains form content parts → read_as wide core (block content) ≡ block content
kept false core heading form count content parts e c = refl
kept true core heading form count content parts e (holds, (end, order)) =
    subst (λ (z : Phase). item_by z (block content) ≡ block content) (sym e)
    (ap block (content_kept form.format form.rec_len form.offset _ end content
    (some_holds _ _ _ _ _ holds)
    (judged_only form.format form.rec_len form.offset _ end content parts holds order)))

module _ (o : Overlap) (w : Section) where
  -- the parts of the section that the session has, from a block on
  abbrev pub had : ℕ → List Portion
  had count = delivered_after w count o.block o.part

  -- the same from any block on
  abbrev pub rest : ℕ → List Portion
  rest count = if nat_lt o.block count then [] else had count

  pub rest_is : (count : ℕ) → count ≤ o.block → rest count ≡ had count
  rest_is count le = let e : nat_lt o.block count ≡ false = grind (arith, nat_tests) in rw e refl

  had_last : (count : ℕ) → count ≡ o.block
      → had count ≡ take o.part (parts_at w.blocks o.block)
  had_last count e =
      ap (λ z. parts_of_all (drop z (take o.block w.blocks))
      ++ take o.part (parts_at w.blocks o.block)) e
      ∙ ap (λ z. parts_of_all z ++ take o.part (parts_at w.blocks o.block))
      (none_from w.blocks o.block)

  pub few_rest : (count : ℕ) → o.block ≤ count → length (rest count) ≤ o.part
  few_rest count le = go (nat_lt o.block count) refl
    where
      go : (t : Bool) → nat_lt o.block count ≡ t
          → length (if t then [] else had count) ≤ o.part
      go true e = omega arith
      go false e =
          let n : count ≤ o.block = grind (arith, nat_tests) in
          let same : length (had count) ≡ length (take o.part (parts_at w.blocks o.block)) =
          ap length (had_last count (omega (arith, n, le))) in
          let few = take_few o.part (parts_at w.blocks o.block) in
          omega (arith, same, few)

  -- parts that begin like those of the block at the position are as many as the session has
  pub enough : (count : ℕ) (parts : List Portion) → count ≡ o.block
      → o.part ≤ length (parts_at w.blocks o.block) → had count ≡ take o.part parts
      → o.part ≤ length parts
  enough count parts e le q =
      let same : length (take o.part parts) ≡ o.part =
      ap length (sym q ∙ had_last count e)
      ∙ length-take-le o.part (parts_at w.blocks o.block) le in
      let within = take_within o.part parts in
      omega (arith, same, within)

module _ (set : FileSet) (core : State) (sect : ℕ) (o : Overlap) (w : Section) (form : FileForm)
    (count : ℕ) (content : List ℕ) (at : core.position ≡ Awaits sect o.block o.part)
    (found : section_of set core.file sect ≡ Some w)
    (g : Agrees set core form count (block content)) where
  same_at : Awaits g.sect g.number g.part ≡ Awaits sect o.block o.part
  same_at = sym g.at ∙ at

  number : g.number ≡ o.block
  number = cc same_at

  part : g.part ≡ o.part
  part = cc same_at

  section : g.section ≡ w
  section =
      let s : g.sect ≡ sect = cc same_at in
      let f : section_of set core.file sect ≡ Some g.section =
      subst (λ z. section_of set core.file z ≡ Some g.section) s g.found in
      cc (f, found)

  fits : Fits form (nat_lt count o.block) o.part (had o w count) (block content) g.left
  fits = subst (λ (z : Section). Fits form (nat_lt count o.block) o.part
      (delivered_after z count o.block o.part) (block content) g.left) section
      (subst (λ z. Fits form (nat_lt count o.block) z (delivered_after g.section count o.block z)
      (block content) g.left) part
      (subst (λ z. Fits form (nat_lt count z) g.part (delivered_after g.section count z g.part)
      (block content) g.left) number g.fits))

  next_is : (g.left ≡ None)
      ⊎ ((g.left ≡ Some (had o w (count + 1))) ⊎ (nat_lt count o.block ≡ false))
  next_is = subst (λ (z : Section). (g.left ≡ None)
      ⊎ ((g.left ≡ Some (delivered_after z (count + 1) o.block o.part))
      ⊎ (nat_lt count o.block ≡ false))) section
      (subst (λ z. (g.left ≡ None)
      ⊎ ((g.left ≡ Some (delivered_after g.section (count + 1) o.block z))
      ⊎ (nat_lt count o.block ≡ false))) part
      (subst (λ z. (g.left ≡ None)
      ⊎ ((g.left ≡ Some (delivered_after g.section (count + 1) z g.part))
      ⊎ (nat_lt count z ≡ false))) number g.next))

  -- a block before the one at which the session continues
  pub early : count < o.block → (parts : List Portion) × Contains form content parts
      × (had o w count ≡ parts ++ had o w (count + 1))
  early lt = by (nat_lt count o.block) g.left (grind (arith, nat_tests)) fits next_is
    where
      by : (t : Bool) (left : Option (List Portion)) → t ≡ true
          → Fits form t o.part (had o w count) (block content) left
          → (left ≡ None) ⊎ ((left ≡ Some (had o w (count + 1))) ⊎ (t ≡ false))
          → (parts : List Portion) × Contains form content parts
          × (had o w count ≡ parts ++ had o w (count + 1))
      by false left is f n = absurd (cc is)
      by true None is f n = absurd f
      by true (Some left) is (parts, c, q) n = elim n [
        | inl e ↦ absurd (cc e)
        | inr e ↦ elim e [
          | inl e ↦
              let same : left ≡ had o w (count + 1) = cc e in
              (parts, c, q ∙ ap (λ z. parts ++ z) same)
          | inr e ↦ absurd (cc e)
        ]
      ]

  -- that block
  pub last : o.block ≤ count → (parts : List Portion) × Contains form content parts
      × (had o w count ≡ take o.part parts)
  last le = by (nat_lt count o.block) (grind (arith, nat_tests)) fits
    where
      by : (t : Bool) → t ≡ false → Fits form t o.part (had o w count) (block content) g.left
          → (parts : List Portion) × Contains form content parts
          × (had o w count ≡ take o.part parts)
      by true is f = absurd (cc is)
      by false is f = f.1

-- the parts before a position in section 1
pub first_parts : (set : FileSet) (file number part : ℕ) (w : Section)
    → section_of set file 1 ≡ Some w
    → before set file (Awaits 1 number part) ≡ had_from w (up_to number part)
first_parts set file number part w found = go (file_of set file) refl
  where
    go : (f : Option (List Section)) → file_of set file ≡ f
        → before set file (Awaits 1 number part) ≡ had_from w (up_to number part)
    go None e = absurd (let f : section_of set file 1 ≡ Some w = found in cc)
    go (Some ss) e =
        let there : nth ss 1 ≡ Some w = cc in
        let all : before set file (Awaits 1 number part) ≡ delivered_after w 0 number part =
        rw e (ap (λ z. parts_up_to (blocks_of z) number part) there) in
        all ∙ sym (rest_is (up_to number part) w 0 (omega arith))
