-- Images that were opened, and readers at the beginning of images, one for each device that an
-- iterator yielded.
use Rattle.std.proofs.Common.{◌≡◌, ℕ, List, [], ◌∷◌, ◌++◌, length, map, Option, refl, sym, ap}
use Rattle.std.proofs.Common.{subst, ◌+◌, ◌∙◌, Some, arith, append_assoc, append-nil, length-append}
use Rattle.std.proofs.lemmas.List.{map-append, nil_from_length}
use Rattle.tape_image.specs.Reader.{going}
use Rattle.tape_run.specs.{declared.merge.reading.Reading.Reading, MergeCalls.AreAtFront}
use Rattle.tape_run.specs.{MergeNow.IsOn, Reeling.Mounting, Reeling.AreMounted}
use Rattle.tape_run.proofs.Turns.{one_mounted}

front_more : {R : Type 0} (bs : List (Option (List ℕ))) (rs : List (Reading R))
    (b : Option (List ℕ)) (r : Reading R)
    → AreAtFront bs rs → r.image.left ≡ b → r.image.status ≡ going → r.image.place ≡ 0
    → (r.items ≡ 0) × (r.bad ≡ 0) → AreAtFront (bs ++ b ∷ []) (rs ++ r ∷ [])
front_more [] [] b r h left on first none = (left, on, first, none.0, none.1, tt)
front_more [] (q ∷ rs) b r h left on first none = absurd h
front_more (a ∷ bs) [] b r h left on first none = absurd h
front_more (a ∷ bs) (q ∷ rs) b r h left on first none =
    (h.0, h.1, h.2, h.3, h.4, front_more bs rs b r h.5 left on first none)

pub open_more : {X R : Type 0} (bytes : X → Option (List ℕ)) (xs : List X)
    (ys : List (Reading R)) (x : X) (y : Reading R) (all : List (Reading R))
    → AreAtFront (map bytes xs) ys → all ≡ ys ++ y ∷ []
    → y.image.left ≡ bytes x → y.image.status ≡ going → y.image.place ≡ 0
    → (y.items ≡ 0) × (y.bad ≡ 0)
    → AreAtFront (map bytes (xs ++ x ∷ [])) all
open_more {X} {R} bytes xs ys x y all h is left on first none =
    let more = front_more (map bytes xs) ys (bytes x) y h left on first none in
    let there : AreAtFront (map bytes (xs ++ x ∷ [])) (ys ++ y ∷ []) =
    subst (λ (l : List (Option (List ℕ))). AreAtFront l (ys ++ y ∷ []))
    (sym (map-append bytes xs (x ∷ []))) more in
    subst (λ (l : List (Reading R)). AreAtFront (map bytes (xs ++ x ∷ [])) l) (sym is) there

pub split_more : {X D : Type 0} (value : X → D) (xs : List X) (x : X) (old rest devices : List D)
    → map value xs ++ old ≡ devices → old ≡ value x ∷ rest
    → map value (xs ++ x ∷ []) ++ rest ≡ devices
split_more {X} {D} value xs x old rest devices e is =
    ap (λ (l : List D). l ++ rest) (map-append value xs (x ∷ []))
    ∙ append_assoc (map value xs) (value x ∷ []) rest
    ∙ ap (λ (l : List D). map value xs ++ l) (sym is) ∙ e

map_twice : {X D B : Type 0} (f : D → B) (value : X → D) (xs : List X)
    → map (λ x. f (value x)) xs ≡ map f (map value xs)
map_twice {X} {D} {B} f value [] = refl
map_twice {X} {D} {B} f value (x ∷ xs) = ap (λ (l : List B). f (value x) ∷ l) (map_twice f value xs)

pub all_open : {X D R : Type 0} (bytes : D → Option (List ℕ)) (value : X → D) (xs : List X)
    (rest devices : List D) (rs : List (Reading R))
    → AreAtFront (map (λ x. bytes (value x)) xs) rs → map value xs ++ rest ≡ devices
    → length rest ≡ 0 → AreAtFront (map bytes devices) rs
all_open {X} {D} {R} bytes value xs rest devices rs h e none =
    let values : map value xs ≡ devices =
    sym (append-nil (map value xs)) ∙ ap (λ (l : List D). map value xs ++ l)
    (sym (nil_from_length rest none)) ∙ e in
    subst (λ (l : List (Option (List ℕ))). AreAtFront l rs)
    (map_twice bytes value xs ∙ ap (map bytes) values) h

-- ---- mounting

-- the first images were opened
pub record MountsFirst {L R : Type 0} (gives : Mounting L R) (shelf left : L) (number : ℕ)
    (devices : List R) : Type 0 where
  pub mounted : AreMounted gives IsOn shelf 0 devices left
  pub many : length devices ≡ number

pub mounts_more : {L R : Type 0} (gives : Mounting L R) (shelf mid next : L) (number : ℕ)
    (devices all : List R) (image : Option R) (device : R)
    → MountsFirst gives shelf mid number devices → gives mid number image next
    → image ≡ Some device → all ≡ devices ++ device ∷ []
    → MountsFirst gives shelf next (number + 1) all
mounts_more {L} {R} gives shelf mid next number devices all image device h g is grown = record {
  mounted = subst (λ (l : List R). AreMounted gives IsOn shelf 0 l next) (sym grown)
      (one_mounted gives IsOn shelf 0 devices mid device image next h.mounted
      (subst (λ n. gives mid n image next) (omega (arith, h.many)) g) is);
  many = ap length grown ∙ omega (arith, length-append devices (device ∷ []), h.many);
}
