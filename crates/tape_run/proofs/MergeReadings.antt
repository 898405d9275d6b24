-- Readings of a longer or a better tape, and readings with one more item.
use Rattle.std.proofs.Common.{◌≡◌, inl, inr, List, [], ◌∷◌, ◌++◌, length, refl, ◌∙◌, arith}
use Rattle.tape_image.specs.Tape.{TapeItem}
use Rattle.tape_run.specs.Merging.{IsReadAs, IsReadFrom, AreReadFrom}

pub met_trans : (x y t : TapeItem) → IsReadAs x y → IsReadAs y t → IsReadAs x t
met_trans x y t (inl e) h = inl e
met_trans x y t (inr e) (inl f) = inl (e ∙ f)
met_trans x y t (inr e) (inr f) = inr (e ∙ f)

pub reads_self : (r : List TapeItem) → IsReadFrom r r
reads_self [] = tt
reads_self (x ∷ r) = (inr refl, reads_self r)

-- a reading of a reading of a tape is a reading of the tape
pub reads_trans : (r s t : List TapeItem) → IsReadFrom r s → IsReadFrom s t → IsReadFrom r t
reads_trans [] s t h k = tt
reads_trans (x ∷ r) [] t h k = absurd h
reads_trans (x ∷ r) (y ∷ s) [] h k = absurd k
reads_trans (x ∷ r) (y ∷ s) (z ∷ t) h k = (met_trans x y z h.0 k.0, reads_trans r s t h.1 k.1)

pub reads_more : (r t more : List TapeItem) → IsReadFrom r t → IsReadFrom r (t ++ more)
reads_more [] t more h = tt
reads_more (x ∷ r) [] more h = absurd h
reads_more (x ∷ r) (y ∷ t) more h = (h.0, reads_more r t more h.1)

pub reads_front : (r more t : List TapeItem) → IsReadFrom (r ++ more) t → IsReadFrom r t
reads_front [] more t h = tt
reads_front (x ∷ r) more [] h = absurd h
reads_front (x ∷ r) more (y ∷ t) h = (h.0, reads_front r more t h.1)

-- a reading that is not longer than a prefix of the tape is a reading of the prefix
pub reads_short : (r t more : List TapeItem) → length r ≡ length t → IsReadFrom r (t ++ more)
    → IsReadFrom r t
reads_short [] t more e h = tt
reads_short (x ∷ r) [] more e h = absurd (omega arith)
reads_short (x ∷ r) (y ∷ t) more e h = (h.0, reads_short r t more (omega arith) h.1)

pub reads_one_more : (r t : List TapeItem) (x y : TapeItem) → length r ≡ length t
    → IsReadFrom r t → IsReadAs x y → IsReadFrom (r ++ x ∷ []) (t ++ y ∷ [])
reads_one_more [] [] x y e h m = (m, tt)
reads_one_more [] (b ∷ t) x y e h m = absurd (omega arith)
reads_one_more (a ∷ r) [] x y e h m = absurd h
reads_one_more (a ∷ r) (b ∷ t) x y e h m = (h.0, reads_one_more r t x y (omega arith) h.1 m)

-- an item of one reading after a prefix is possible there in another reading of the same tape
pub reads_behind : (s r t : List TapeItem) (x : TapeItem) → length r ≡ length s
    → IsReadFrom s t → IsReadFrom (r ++ x ∷ []) t → IsReadFrom (s ++ x ∷ []) t
reads_behind [] [] t x e h k = k
reads_behind [] (a ∷ r) t x e h k = absurd (omega arith)
reads_behind (b ∷ s) [] t x e h k = absurd (omega arith)
reads_behind (b ∷ s) (a ∷ r) [] x e h k = absurd h
reads_behind (b ∷ s) (a ∷ r) (c ∷ t) x e h k = (h.0, reads_behind s r t x (omega arith) h.1 k.1)

-- two readings of one tape have readings of the same item after prefixes of equal length
pub meets_both : (r s t : List TapeItem) (x y : TapeItem) → length r ≡ length s
    → IsReadFrom (r ++ x ∷ []) t → IsReadFrom (s ++ y ∷ []) t
    → (z : TapeItem) × (IsReadAs x z × IsReadAs y z)
meets_both [] [] [] x y e h k = absurd h
meets_both [] [] (z ∷ t) x y e h k = (z, (h.0, k.0))
meets_both [] (b ∷ s) t x y e h k = absurd (omega arith)
meets_both (a ∷ r) [] t x y e h k = absurd (omega arith)
meets_both (a ∷ r) (b ∷ s) [] x y e h k = absurd h
meets_both (a ∷ r) (b ∷ s) (c ∷ t) x y e h k = meets_both r s t x y (omega arith) h.1 k.1

-- readings of a tape are readings of a better one
pub are_better : (rs : List (List TapeItem)) (s t : List TapeItem) → IsReadFrom s t
    → AreReadFrom rs s → AreReadFrom rs t
are_better [] s t h k = tt
are_better (r ∷ rs) s t h k = (reads_trans r s t k.0 h, are_better rs s t h k.1)
