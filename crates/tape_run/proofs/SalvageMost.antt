-- No image has more of a section's blocks than the one from which it is recovered.
use Rattle.std.proofs.Common.{◌≡◌, ◌<◌, ◌≤◌, ℕ, ◌+◌, ◌*◌, ◌-◌, ◌==◌, ◌&&◌, Bool, true, false, List}
use Rattle.std.proofs.Common.{[], ◌∷◌, ◌++◌, length, Option, Some, None, refl, sym, ap, subst, ◌∙◌}
use Rattle.std.proofs.Common.{arith, suc, zero, inl, inr, if◌then◌else◌, slice_get, not, ◌⊎◌}
use Rattle.std.proofs.lemmas.Bool.Decides.{nat_tests}
use Rattle.std.specs.List.{AllByRecursion}
use Rattle.tape_set.specs.Layout.{FileSet, Section, Placed, on, sections, section_of}
use Rattle.tape_set.specs.{Lawful.IsLawful, Laws.StandsIn, Reading.Reading}
use Rattle.tape_set.proofs.Everywhere.{every, every-append, every_stands, stands_behind}
use Rattle.tape_set.proofs.Everywhere.{stands_before}
use Rattle.tape_set.proofs.{Numbering.placed, Volumes.IsOn, Volumes.sections_on_are}
use Rattle.tape_run.specs.{declared.salvage.copies.SectionCopy.SectionCopy, SalvageCopies.rank}
use Rattle.tape_run.specs.SalvageChoice.{firsts, is_considered, IsBest}
use Rattle.tape_run.specs.{SalvageSections.IsRead, SalvageWhole.Blocks, SalvageWhole.not_read}
use Rattle.tape_run.specs.SalvageSets.{IsCompleteOr, copies_on, HasBlocks, rank_of, NoneHasMore}
use Rattle.tape_run.proofs.{SalvageOpened.long, SalvageSame.same_blocks}
use Rattle.tape_run.proofs.{SalvageReadings.placed_of, SalvageAgain.IsOne, SalvageAgain.firsts_all}
use Rattle.tape_run.proofs.SalvageGood.{IsGood, copies_good, good_placed, placed_at, image_has}

-- ---- the copies that are considered

-- a copy on this image
record OnImage (cs : List SectionCopy) (n : ℕ) : Type 0 where
  copy : SectionCopy
  among : StandsIn cs copy
  image : copy.image ≡ n

-- the first copy of a section on an image is considered
first_on : (i : ℕ) (last : Option ℕ) (front : List SectionCopy) (c : SectionCopy)
    (rest : List SectionCopy) → c.section.key.sect ≡ i
    → OnImage (firsts i last (front ++ c ∷ rest)) c.image ⊎ (last ≡ Some c.image)
first_on i None [] c rest number =
    let same : (c.section.key.sect == i) ≡ true = grind (arith, nat_tests, number) in
    inl (by (c.section.key.sect == i) same)
  where
    by : (b : Bool) → b ≡ true
        → OnImage (if b && true then c ∷ firsts i (Some c.image) rest else firsts i None rest)
        c.image
    by true e = record { copy = c; among = ([], firsts i (Some c.image) rest, refl); image = refl }
    by false e = absurd (cc e)
first_on i (Some m) [] c rest number =
    let same : (c.section.key.sect == i) ≡ true = grind (arith, nat_tests, number) in
    by (c.section.key.sect == i) same (m == c.image) refl
  where
    by : (a : Bool) → a ≡ true → (b : Bool) → (m == c.image) ≡ b
        → OnImage (if a && not b then c ∷ firsts i (Some c.image) rest
        else firsts i (Some m) rest) c.image ⊎ (Some m ≡ Some c.image)
    by true e true f =
        let same : m ≡ c.image = grind (arith, nat_tests, f) in
        inr (ap (λ (k : ℕ). Some k) same)
    by true e false f = inl (record {
      copy = c;
      among = ([], firsts i (Some c.image) rest, refl);
      image = refl;
    })
    by false e b f = absurd (cc e)
first_on i last (x ∷ front) c rest number =
    by (first_on i (Some x.image) front c rest number) (first_on i last front c rest number)
    (is_considered i last x)
  where
    by : OnImage (firsts i (Some x.image) (front ++ c ∷ rest)) c.image
        ⊎ (Some x.image ≡ Some c.image)
        → OnImage (firsts i last (front ++ c ∷ rest)) c.image ⊎ (last ≡ Some c.image) → (b : Bool)
        → OnImage (if b then x ∷ firsts i (Some x.image) (front ++ c ∷ rest)
        else firsts i last (front ++ c ∷ rest)) c.image ⊎ (last ≡ Some c.image)
    by (inl h) other true = inl (record {
      copy = h.copy;
      among = stands_behind (x ∷ []) _ _ h.among;
      image = h.image;
    })
    by (inr e) other true =
        let same : x.image ≡ c.image = cc e in
        inl (record {
          copy = x;
          among = ([], firsts i (Some x.image) (front ++ c ∷ rest), refl);
          image = same;
        })
    by taken other false = other

best_most : (cs : List SectionCopy) (c d : SectionCopy) → IsBest cs (Some c) → StandsIn cs d
    → rank d ≤ rank c
best_most cs c d (front, rest, is, less, most) among =
    let le : rank c ≤ rank c = omega arith in
    every_stands (λ x. rank x ≤ rank c) _ _ (subst (AllByRecursion (λ x. rank x ≤ rank c)) (sym is)
    (every-append (λ x. rank x ≤ rank c) _ (c ∷ rest) (every (λ x. rank x < rank c)
    (λ x. rank x ≤ rank c) (λ x h. omega (arith, h)) _ less) (le, most))) among

-- ---- the number of blocks

few_missing : (bs : Blocks) → not_read bs ≤ length bs
few_missing [] = omega arith
few_missing ((true, f) ∷ bs) = let r = few_missing bs in omega (arith, r)
few_missing ((false, f) ∷ bs) = let r = few_missing bs in omega (arith, r)

-- the rank of a copy with n blocks of which all but these were read
abbrev rank_in : ℕ → ℕ → ℕ
rank_in n missing = (if missing == 0 then 8589934592 else 0) + (2 * (n - missing) + 1)

fewer_missing : (a b n : ℕ) (x y : Bool) → (a == 0) ≡ x → (b == 0) ≡ y → a ≤ n → b ≤ n
    → n ≤ 4294967295
    → (if y then 8589934592 else 0) + (2 * (n - b) + 1)
    ≤ (if x then 8589934592 else 0) + (2 * (n - a) + 1) → a ≤ b
fewer_missing a b n true y e f fa fb few le =
    let zero_a : a ≡ 0 = grind (arith, nat_tests, e) in omega (arith, zero_a)
fewer_missing a b n false true e f fa fb few le = omega (arith, fa, fb, few, le)
fewer_missing a b n false false e f fa fb few le = omega (arith, fa, fb, few, le)

-- ---- the images

module _ (set : FileSet) (file i : ℕ) (w : Section) (all : List (Option Reading))
    (l : IsLawful set) (found : section_of set file i ≡ Some w) where
  -- the copy on an image that has the section
  record CopyOn (m n : ℕ) (cs : List SectionCopy) : Type 0 where
    copy : SectionCopy
    among : StandsIn cs copy
    number : copy.section.key.sect ≡ i
    image : copy.image ≡ m + n

  copy_at : (m n : ℕ) (rs : List (Option Reading)) (q : Reading)
      → AllByRecursion (IsCompleteOr set) rs → slice_get rs n ≡ Some (Some q)
      → q.volume ≡ w.volume → CopyOn m n (copies_on set file m rs)
  copy_at m n [] q c at on_it = absurd (cc at)
  copy_at m zero (None ∷ rs) q c at on_it = absurd (cc at)
  copy_at m zero (Some r ∷ rs) q (c, cs) at on_it =
      let same : r ≡ q = cc at in
      let (h, place) = image_has set file i w l found m r c
      (ap (λ (z : Reading). z.volume) same ∙ on_it) in
      record {
        copy = h.copy;
        among = stands_before _ _ _ h.among;
        number = h.number;
        image = omega (arith, place);
      }
  copy_at m (suc n) (None ∷ rs) q (c, cs) at on_it =
      let h = copy_at (m + 1) n rs q cs at on_it in
      let place = h.image in
      record {
        copy = h.copy;
        among = h.among;
        number = h.number;
        image = omega (arith, place);
      }
  copy_at m (suc n) (Some r ∷ rs) q (c, cs) at on_it =
      let h = copy_at (m + 1) n rs q cs at on_it in
      let place = h.image in
      record {
        copy = h.copy;
        among = stands_behind _ _ _ h.among;
        number = h.number;
        image = omega (arith, place);
      }

  -- the volume of a reading that has the section
  volume_is : (q : Reading) (cs : Blocks) → HasBlocks set q (placed file i w) cs
      → q.volume ≡ w.volume
  volume_is q cs h =
      let on_it = every_stands (IsOn set q.volume) (on q.volume (sections set)) h.section.placed
      (sections_on_are set q.volume l) (
        placed_of h.among.0,
        placed_of h.among.1,
        sym h.volume.all ∙ ap placed_of h.among.2 ∙ placed_at h.among.0 h.section h.among.1,
      ) in
      sym on_it.there ∙ ap (λ (p : Placed). p.section.volume) h.is

  -- the blocks of a copy that is considered
  of_copy : (c : SectionCopy) (r : Reading) (bs : Blocks) → IsGood set file all c
      → c.section.key.sect ≡ i → slice_get all c.image ≡ Some (Some r)
      → HasBlocks set r (placed file i w) bs → rank c ≡ rank_of bs
  of_copy c r bs g number at had =
      let p = good_placed set file i all w c l g number found in
      let same : g.reading ≡ r = cc (sym g.image ∙ at) in
      let own : HasBlocks set g.reading (placed file i w) g.section.blocks = record {
        volume = g.volume;
        section = g.section;
        among = (g.before, g.rest, g.is);
        is = p;
        blocks = refl;
      } in
      g.rank_is ∙ ap rank_of (same_blocks set r (placed file i w) g.section.blocks bs l
      (subst (λ (z : Reading). HasBlocks set z (placed file i w) g.section.blocks) same own) had)

  filled_all : (r : Reading) (bs : Blocks) → HasBlocks set r (placed file i w) bs
      → (length bs ≡ length w.blocks) × (length w.blocks ≤ 4294967295)
  filled_all r bs h =
      let read = every_stands (IsRead set.set_id (length set.volumes)) h.volume.reads h.section
      h.volume.are_read h.among in
      let few = read.is.few in
      let n = ap (λ (p : Placed). length p.section.blocks) h.is in
      let m = long h.section.blocks in
      let k = ap length read.blocks in
      let b = ap length h.blocks in (omega (arith, b, m, k, n), omega (arith, few, n))

pub none_has_more : NoneHasMore
none_has_more set file i w rs c r q n bs cs l complete found best at had there has =
    let copies = copies_on set file 0 rs in
    let good = copies_good set file rs l complete in
    let Good = IsGood set file rs in
    let all = firsts_all Good i None copies good in
    let (front, rest, is, less, most) = best in
    let one = every_stands (IsOne Good i) (firsts i None copies) c all (front, rest, is) in
    let e = one.1 in
    let number : c.section.key.sect ≡ i = grind (arith, nat_tests, e) in
    let mine = of_copy set file i w rs l found c r bs one.0 number at had in
    let x = copy_at set file i w rs l found 0 n rs q complete there
    (volume_is set file i w rs l found q cs has) in
    let y = on_list (first_on i None x.among.0 x.copy x.among.1 x.number) in
    let among = subst (λ (z : List SectionCopy). StandsIn (firsts i None z) y.copy)
    (sym x.among.2) y.among in
    let two = every_stands (IsOne Good i) (firsts i None copies) y.copy all among in
    let f = two.1 in
    let same : y.copy.section.key.sect ≡ i = grind (arith, nat_tests, f) in
    let place : y.copy.image ≡ n = let a = y.image in let b = x.image in omega (arith, a, b) in
    let other = of_copy set file i w rs l found y.copy q cs two.0 same
    (ap (λ (m : ℕ). slice_get rs m) place ∙ there) has in
    let le = best_most (firsts i None copies) c y.copy best among in
    let a = filled_all set file i w rs l found r bs had in
    let b = filled_all set file i w rs l found q cs has in
    let la = a.0 in
    let lb = b.0 in
    let fa = few_missing bs in
    let fb = few_missing cs in
    let few = a.1 in
    let ranks : rank_of cs ≤ rank_of bs = subst (λ (z : ℕ). z ≤ rank_of bs) other
    (subst (λ (z : ℕ). rank y.copy ≤ z) mine le) in
    let shown : rank_in (length w.blocks) (not_read cs) ≤ rank_in (length w.blocks) (not_read bs) =
    subst (λ (z : ℕ). rank_in z (not_read cs) ≤ rank_in (length w.blocks) (not_read bs)) lb
    (subst (λ (z : ℕ). rank_of cs ≤ rank_in z (not_read bs)) la ranks) in
    fewer_missing (not_read bs) (not_read cs) (length w.blocks) (not_read bs == 0)
    (not_read cs == 0) refl refl (omega (arith, fa, la)) (omega (arith, fb, lb)) few shown
  where
    on_list : {cs : List SectionCopy} {n : ℕ} → OnImage cs n ⊎ (None ≡ Some n) → OnImage cs n
    on_list (inl h) = h
    on_list (inr e) = absurd (cc e)
