-- Images that are reported to be in conflict, and images that are not.
use Rattle.std.proofs.Common.{◌≡◌, ◌⊎◌, inl, inr, ℕ, ◌+◌, Bool, true, false, List, [], ◌∷◌, ◌++◌}
use Rattle.std.proofs.Common.{Option, Some, None, refl, sym, ap, ◌∙◌, arith, append_assoc}
use Rattle.std.proofs.Common.{append-nil, map, subst, ◌==◌, if◌then◌else◌, option_map, flat_map}
use Rattle.std.proofs.{lemmas.Bool.Decides.nat_tests, lemmas.List.map-append}
use Rattle.tape_run.specs.SurveyCopies.{Copy, copies_on, Noted, Held, Copied, noted_at, differs}
use Rattle.tape_run.specs.{declared.section.SectionKey.SectionKey, Checked.Reel, Reeling.Mounting}
use Rattle.tape_run.specs.{declared.survey.view.ImageSurvey.ImageSurvey, SurveyDigest.digest_of}
use Rattle.tape_run.specs.SurveyConflicts.{Placed, placed_in, all_placed, IsIn, TellsDispute}
use Rattle.tape_run.specs.SurveyCopies.{with_good, with_copies, disputed_by, disputed, disputed_on}
use Rattle.tape_run.specs.SurveyRead.{Found, nothing_found, IsViewed, AreViewed}
use Rattle.tape_run.proofs.SurveyAgreed.{same_nat}

-- ---- each copy was recorded

-- the record of a copy
abbrev as_held : Placed → Held
as_held x = (x.0, x.1.0.0)

held_copies : (image : ℕ) (c : Copied) (ys : List Copy)
    → (with_copies image c ys).held ≡ c.held ++ map as_held (map (λ y. (image, y)) ys)
held_copies image c [] = sym (append-nil c.held)
held_copies image c (y ∷ ys) =
    held_copies image (with_good c image y.0.0 y.0.1 (digest_of y.1)) ys
    ∙ append_assoc c.held ((image, y.0.0) ∷ []) (map as_held (map (λ z. (image, z)) ys))

held_image : (reel : Reel) (sight : Option ImageSurvey) (c d : Found)
    → (v : IsViewed reel sight c d) → d.copies.held
    ≡ c.copies.held ++ map as_held (placed_in reel sight c d v)
held_image None None c d v = ap (λ (f : Found). f.copies.held) v ∙ sym (append-nil c.copies.held)
held_image (Some before) (Some sight) c d v =
    ap (λ (k : Copied). k.held) v.1.copied
    ∙ held_copies c.images c.copies (copies_on v.1.items)
held_image None (Some sight) c d v = absurd v
held_image (Some before) None c d v = absurd v

held_images : {L R : Type 0} (gives : Mounting L R) (remaining : R → Option (List ℕ)) (shelf : L)
    (number : ℕ) (sights : List (Option ImageSurvey)) (c : Found) (last : L) (d : Found)
    → (v : AreViewed gives remaining shelf number sights c last d) → d.copies.held
    ≡ c.copies.held ++ map as_held (all_placed gives remaining shelf number sights c last d v)
held_images gives remaining shelf number [] c last d v =
    ap (λ (f : Found). f.copies.held) v.1 ∙ sym (append-nil c.copies.held)
held_images gives remaining shelf number (sight ∷ sights) c last d
    (image, next, mid, gave, is, are) =
    let here = placed_in (option_map remaining image) sight c mid is in
    let more = all_placed gives remaining next (number + 1) sights mid last d are in
    held_images gives remaining next (number + 1) sights mid last d are
    ∙ ap (λ (l : List Held). l ++ map as_held more)
    (held_image (option_map remaining image) sight c mid is)
    ∙ append_assoc c.copies.held (map as_held here) (map as_held more)
    ∙ ap (λ (l : List Held). c.copies.held ++ l) (sym (map-append as_held here more))

-- ---- those whose section is in conflict

in_first : {X : Type 0} (x : X) (xs : List X) → IsIn (x ∷ xs) x
in_first x xs = record { front = []; rest = xs; stands = refl }

in_rest : {X : Type 0} (x y : X) (xs : List X) → IsIn xs y → IsIn (x ∷ xs) y
in_rest x y xs i = record {
  front = x ∷ i.front;
  rest = i.rest;
  stands = ap (λ l. x ∷ l) i.stands;
}

first_or_rest : {X : Type 0} (x y : X) (xs front rest : List X) → x ∷ xs ≡ front ++ y ∷ rest
    → (y ≡ x) ⊎ IsIn xs y
first_or_rest x y xs [] rest e = let same : x ≡ y = cc e in inl (sym same)
first_or_rest x y xs (f ∷ front) rest e =
    let same : xs ≡ front ++ y ∷ rest = cc e in
    inr (record { front = front; rest = rest; stands = same })

-- one more copy that is on another image, or whose section is not in conflict
none_more : (xs : List Placed) (x y : Placed) (notes : List Noted) (image : ℕ)
    → (x.0 ≡ image → differs (noted_at notes x.1.0.0) ≡ false)
    → ((z : Placed) → IsIn xs z → z.0 ≡ image → differs (noted_at notes z.1.0.0) ≡ false)
    → (y ≡ x) ⊎ IsIn xs y → y.0 ≡ image → differs (noted_at notes y.1.0.0) ≡ false
none_more xs x y notes image not all (inl same) on =
    ap (λ (p : Placed). differs (noted_at notes p.1.0.0)) same
    ∙ not (sym (ap (λ (p : Placed). p.0) same) ∙ on)
none_more xs x y notes image not all (inr i) on = all y i on

told_more : (xs : List Placed) (x : Placed) (notes : List Noted) (image : ℕ) (o : Option SectionKey)
    → (x.0 ≡ image → differs (noted_at notes x.1.0.0) ≡ false) → TellsDispute xs notes image o
    → TellsDispute (x ∷ xs) notes image o
told_more xs x notes image (Some key) not (y, i, on, of, is) = (y, in_rest x y xs i, on, of, is)
told_more xs x notes image None not all =
    λ y i on. none_more _ _ _ notes _ not all (first_or_rest _ _ _ _ _ i.stands) on

other_nat : (m n : ℕ) → (m == n) ≡ false → m ≡ n → ⊥
other_nat m n e same = absurd (let no : (m == n) ≡ true = grind (arith, nat_tests, same) in
    let wrong : true ≡ false = sym no ∙ e in cc wrong)

-- a copy whose section is in conflict
told_here : (xs : List Placed) (x : Placed) (notes : List Noted) (image : ℕ) (hs : List Held)
    (b : Bool)
    → (x.0 == image) ≡ b → differs (noted_at notes x.1.0.0) ≡ true
    → TellsDispute xs notes image (disputed_on hs image)
    → TellsDispute (x ∷ xs) notes image (if b then Some x.1.0.0 else disputed_on hs image)
told_here xs x notes image hs true on is h = (x, in_first x xs, same_nat _ _ on, refl, is)
told_here xs x notes image hs false on is h =
    told_more xs x notes image (disputed_on hs image) (λ e. absurd (other_nat x.0 image on e)) h

told_by : (xs : List Placed) (x : Placed) (notes : List Noted) (image : ℕ) (hs : List Held)
    (b : Bool)
    → differs (noted_at notes x.1.0.0) ≡ b → TellsDispute xs notes image (disputed_on hs image)
    → TellsDispute (x ∷ xs) notes image
    (disputed_on ((if b then as_held x ∷ [] else []) ++ hs) image)
told_by xs x notes image hs true is h = told_here xs x notes image hs (x.0 == image) refl is h
told_by xs x notes image hs false is h = told_more _ x _ _ _ (λ e. is) h

none_in : (x : Placed) (front rest : List Placed) → [] ≡ front ++ x ∷ rest → ⊥
none_in x [] rest e = cc e
none_in x (f ∷ front) rest e = cc e

all_told : (xs : List Placed) (notes : List Noted) (image : ℕ) → TellsDispute xs notes image
    (disputed_on (flat_map (disputed_by notes) (map as_held xs)) image)
all_told [] notes image = λ x i on. absurd (none_in x i.front i.rest i.stands)
all_told (x ∷ xs) notes image =
    told_by _ x _ _ _ (differs (noted_at notes x.1.0.0)) refl (all_told xs notes image)

-- ---- together

pub disputes_are_told : {L R : Type 0} (gives : Mounting L R) (remaining : R → Option (List ℕ))
    (shelf last : L) (sights : List (Option ImageSurvey)) (d : Found)
    (v : AreViewed gives remaining shelf 0 sights nothing_found last d) (image : ℕ)
    → TellsDispute (all_placed gives remaining shelf 0 sights nothing_found last d v) d.copies.notes
    image (disputed_on (disputed d.copies) image)
disputes_are_told gives remaining shelf last sights d v image =
    let all = all_placed gives remaining shelf 0 sights nothing_found last d v in
    subst (λ (l : List Held). TellsDispute all d.copies.notes image
    (disputed_on (flat_map (disputed_by d.copies.notes) l) image))
    (sym (held_images gives remaining shelf 0 sights nothing_found last d v))
    (all_told all d.copies.notes image)
