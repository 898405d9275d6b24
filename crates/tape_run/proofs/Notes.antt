-- The checkpoints of a session are valid for prefixes of its parts, each at least as long as the
-- one before.
use Rattle.std.proofs.Common.{◌≡◌, ℕ, zero, suc, ◌+◌, ◌≤◌, List, [], ◌∷◌, ◌++◌, length, take, Some}
use Rattle.std.proofs.Common.{refl, sym, ap, subst, ◌∙◌, arith, append_assoc, append-nil, slice_get}
use Rattle.tape_blocks.specs.Block.{Portion}
use Rattle.tape_set.specs.Layout.{FileSet}
use Rattle.tape_core.specs.{Point.Point, Stands.Stands, Stands.weight_of, Weight.IsFront}
use Rattle.tape_run.specs.Seen.{AreNotes}

pub front_self : (xs : List Portion) → IsFront xs xs
front_self xs = ([], sym (append-nil xs))

pub front_trans : (xs ys zs : List Portion) → IsFront xs ys → IsFront ys zs → IsFront xs zs
front_trans xs ys zs (a, e) (b, f) =
    (a ++ b, f ∙ ap (λ (l : List Portion). l ++ b) e ∙ append_assoc xs a b)

pub front_more : (xs ys : List Portion) → IsFront xs (xs ++ ys)
front_more xs ys = (ys, refl)

pub weight_more : (x : Portion) (xs : List Portion)
    → weight_of (x ∷ xs) ≡ (5 + length x.bytes) + weight_of xs
weight_more x xs = refl

-- prefixes of one list are determined by their weight
pub same_front : (xs zs ys : List Portion) → IsFront xs ys → IsFront zs ys
    → weight_of xs ≡ weight_of zs → xs ≡ zs
same_front [] [] ys f g h = refl
same_front [] (z ∷ zs) ys f g h = absurd (omega (arith, h, weight_more z zs))
same_front (x ∷ xs) [] ys f g h = absurd (omega (arith, h, weight_more x xs))
same_front (x ∷ xs) (z ∷ zs) [] f g h = absurd (let q = f.1 in cc)
same_front (x ∷ xs) (z ∷ zs) (y ∷ ys) f g h =
    let q = f.1 in
    let r = g.1 in
    let a : y ≡ x = cc in
    let b : y ≡ z = cc in
    let same : x ≡ z = sym a ∙ b in
    let fx : IsFront xs ys = (f.0, cc) in
    let gz : IsFront zs ys = (g.0, cc) in
    let w : weight_of xs ≡ weight_of zs = omega (
      arith,
      h,
      ap (λ (p : Portion). length p.bytes) same,
      weight_more x xs,
      weight_more z zs,
    ) in
    ap (λ v. v ∷ xs) same ∙ ap (λ v. z ∷ v) (same_front xs zs ys fx gz w)

-- more parts come
pub notes_grow : (set : FileSet) (file : ℕ) (front : List Portion) (notes : List Point)
    (parts more : List Portion)
    → IsFront parts more → AreNotes set file front notes parts → AreNotes set file front notes more
notes_grow set file front [] parts more f h = front_trans front parts more h f
notes_grow set file front (c ∷ cs) parts more f (ps, a, s, rest) =
    (ps, a, s, notes_grow set file ps cs parts more f rest)

-- checkpoints are valid for prefixes of the parts
pub notes_front : (set : FileSet) (file : ℕ) (front : List Portion) (notes : List Point)
    (parts : List Portion)
    → AreNotes set file front notes parts → IsFront front parts
notes_front set file front [] parts h = h
notes_front set file front (c ∷ cs) parts (ps, a, s, rest) =
    front_trans front ps parts a (notes_front set file ps cs parts rest)

-- one more note
pub notes_push : (set : FileSet) (file : ℕ) (front : List Portion) (notes : List Point)
    (c : Point) (parts : List Portion)
    → Stands set file c parts → AreNotes set file front notes parts
    → AreNotes set file front (notes ++ c ∷ []) parts
notes_push set file front [] c parts s h = (parts, h, s, front_self parts)
notes_push set file front (d ∷ ds) c parts s (ps, a, t, rest) =
    (ps, a, t, notes_push set file ps ds c parts s rest)

-- The n-th checkpoint is valid for a prefix of the parts, and the checkpoints up to it are the
-- checkpoints of this prefix.
pub record NoteAt (set : FileSet) (file : ℕ) (front : List Portion) (notes : List Point)
    (n : ℕ) (c : Point) (parts : List Portion) : Type 0 where
  pub ps : List Portion
  pub is_front : IsFront ps parts
  pub stands : Stands set file c ps
  pub notes_left : AreNotes set file front (take (n + 1) notes) ps

pub note_at : (set : FileSet) (file : ℕ) (front : List Portion) (notes : List Point)
    (n : ℕ) (c : Point) (parts : List Portion)
    → slice_get notes n ≡ Some c → AreNotes set file front notes parts
    → NoteAt set file front notes n c parts
note_at set file front [] n c parts e h = absurd (cc)
note_at set file front (d ∷ ds) zero c parts e (ps, a, s, rest) =
    let same : d ≡ c = cc in
    record {
      ps = ps;
      is_front = notes_front set file ps ds parts rest;
      stands = subst (λ (z : Point). Stands set file z ps) same s;
      notes_left = (ps, a, s, front_self ps);
    }
note_at set file front (d ∷ ds) (suc n) c parts e (ps, a, s, rest) =
    let next = note_at set file ps ds n c parts e rest in
    let more : suc n + 1 ≡ suc (n + 1) = omega arith in
    record {
      ps = next.ps;
      is_front = next.is_front;
      stands = next.stands;
      notes_left = rw more ((ps, a, s, next.notes_left));
    }

-- a prefix has at most the weight of the whole
pub light_front : (xs r : List Portion) → weight_of xs ≤ weight_of (xs ++ r)
light_front [] r = omega arith
light_front (x ∷ xs) r = omega (arith, light_front xs r, weight_more x xs, weight_more x (xs ++ r))

pub front_weighs : (xs ys : List Portion) → IsFront xs ys → weight_of xs ≤ weight_of ys
front_weighs xs ys (r, e) = rw e (light_front xs r)
