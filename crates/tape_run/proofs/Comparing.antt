-- Parts that a walk over a sink returned, compared with the parts of a block.
use Rattle.std.proofs.Common.{◌≡◌, ◌++◌, ◌∷◌, [], List, refl, sym, ap, ◌∙◌, subst, append_assoc}
use Rattle.std.proofs.Common.{append-nil, take, zero, suc, length-append, ℕ, ◌+◌, ◌≤◌, ◌<◌}
use Rattle.std.proofs.Common.{◌⊎◌, inl, inr, arith, length}
use Rattle.tape_core.specs.Stands.{weight_of}
use Rattle.std.proofs.Common.{Bool, true, false}
use Rattle.std.specs.Bool.{OnTrue, OnFalse}
use Rattle.std.proofs.Common.{Result, Ok, Err, IfOk}
use Rattle.tape_blocks.specs.{declared.parts.Shape.Shape, Block.Holds}
use Rattle.tape_core.specs.declared.sink.SinkFault.{SinkFault}
use Rattle.tape_run.specs.Comparing.{Reads}
use Rattle.tape_blocks.specs.Block.{Portion}
use Rattle.tape_core.specs.declared.sink.PartSink.{Ghosts}
use Rattle.tape_run.specs.Crash.{BringsNoMore}
use Rattle.tape_core.proofs.Crashes.{only_same}
use Rattle.tape_run.proofs.{Walked.Walked, Crashes.adds_then}

pub on_true : (b : Bool) (P : Type 0) → b ≡ true → OnTrue b P → P
on_true true P e h = h
on_true false P e h = absurd (cc e)

pub on_false : (b : Bool) (P : Type 0) → b ≡ false → OnFalse b P → P
on_false true P e h = absurd (cc e)
on_false false P e h = h

-- a sink that was walked on
pub walked_on : {S : Type 0} {g : Ghosts S} {old mid new : S} → Walked g old mid
    → ((parts : List Portion) → g.holds mid parts → g.holds new parts) → BringsNoMore g mid new
    → g.refusals new ≡ g.refusals mid → Walked g old new
walked_on w kept crash calm = record {
  calm = calm ∙ w.calm;
  kept = λ parts was. kept parts (w.kept parts was);
  crash = λ parts was. adds_then _ _ _ (w.crash parts was) (crash parts (w.kept parts was));
}

-- The walk returned the first of these parts, and `rest` are those not yet compared.
pub record Compared (before now : List Portion → Type 0) (parts rest : List Portion)
    : Type 0 where
  pub seen : List Portion
  pub split : parts ≡ seen ++ rest
  pub walked : (ahead : List Portion) → before ahead
      → (left : List Portion) × (ahead ≡ seen ++ left) × now left

pub compared_none : (now : List Portion → Type 0) (parts : List Portion)
    → Compared now now parts parts
compared_none now parts = record {
  seen = [];
  split = refl;
  walked = λ ahead was. (ahead, refl, was);
}

pub compared_one : (before mid now : List Portion → Type 0) (parts rest : List Portion)
    (p : Portion) (more : List Portion) → Compared before mid parts rest → rest ≡ p ∷ more
    → ((ahead : List Portion) → mid ahead → (left : List Portion) × (ahead ≡ p ∷ left) × now left)
    → Compared before now parts more
compared_one before mid now parts rest p more c is next = record {
  seen = c.seen ++ p ∷ [];
  split = c.split ∙ (ap (λ z. c.seen ++ z) is ∙ sym (append_assoc c.seen (p ∷ []) more));
  walked = λ ahead was.
      let (left, e, at) = c.walked ahead was in
      let (left', e', at') = next left at in
      (left', e ∙ (ap (λ z. c.seen ++ z) e' ∙ sym (append_assoc c.seen (p ∷ []) left')), at');
}

pub compared_all : (before now : List Portion → Type 0) (parts rest : List Portion)
    → Compared before now parts rest → rest ≡ []
    → (ahead : List Portion) → before ahead
    → (left : List Portion) × (ahead ≡ parts ++ left) × now left
compared_all before now parts rest c is ahead was =
    let (left, e, at) = c.walked ahead was in
    let all : parts ≡ c.seen = c.split ∙ (ap (λ z. c.seen ++ z) is ∙ append-nil c.seen) in
    (left, e ∙ ap (λ z. z ++ left) (sym all), at)

cancel : (seen a b : List Portion) → seen ++ a ≡ seen ++ b → a ≡ b
cancel [] a b e = e
cancel (p ∷ seen) a b e = cancel seen a b (cc)

pub compared_not : (before mid : List Portion → Type 0) (parts rest : List Portion)
    (p : Portion) (more : List Portion) → Compared before mid parts rest → rest ≡ p ∷ more
    → ((left : List Portion) → mid (p ∷ left) → ⊥)
    → (left : List Portion) → before (parts ++ left) → ⊥
compared_not before mid parts rest p more c is none left was =
    let (left', e, at) = c.walked (parts ++ left) was in
    let whole : parts ≡ c.seen ++ p ∷ more = c.split ∙ ap (λ z. c.seen ++ z) is in
    let both : c.seen ++ (p ∷ more ++ left) ≡ c.seen ++ left' =
    sym (append_assoc c.seen (p ∷ more) left) ∙ (ap (λ z. z ++ left) (sym whole) ∙ e) in
    none (more ++ left) (subst mid (sym (cancel c.seen (p ∷ more ++ left) left' both)) at)

-- ---- parts of a weight

-- The walk returned the first parts; they and the rest of the weight are this weight.
abbrev pub Skipped : (List Portion → Type 0) → (List Portion → Type 0) → ℕ → ℕ → Type 0
Skipped holds now weight rest = (parts : List Portion) → holds parts
    → (front left : List Portion) × (parts ≡ front ++ left) × (weight_of front + rest ≡ weight)
    × now left

pub skipped_none : (holds now : List Portion → Type 0) (weight : ℕ)
    → ((parts : List Portion) → holds parts → now parts) → Skipped holds now weight weight
skipped_none holds now weight all parts was =
    ([], parts, refl, (let z : weight_of [] ≡ 0 = refl in omega (arith, z)), all parts was)

weight_push : (front : List Portion) (p : Portion)
    → weight_of (front ++ p ∷ []) ≡ weight_of front + (5 + length p.bytes)
weight_push [] p = omega arith
weight_push (q ∷ front) p = let e = weight_push front p in omega (arith, e)

pub skipped_one : (holds mid now : List Portion → Type 0) (weight rest new : ℕ) (p : Portion)
    → Skipped holds mid weight rest → new + (5 + length p.bytes) ≡ rest
    → ((ahead : List Portion) → mid ahead
    → (left : List Portion) × (ahead ≡ p ∷ left) × now left)
    → Skipped holds now weight new
skipped_one holds mid now weight rest new p s is next parts was =
    let (front, left, e, w, at) = s parts was in
    let (left', e', at') = next left at in (
      front ++ p ∷ [],
      left',
      e ∙ (ap (λ z. front ++ z) e' ∙ sym (append_assoc front (p ∷ []) left')),
      (let q = weight_push front p in omega (arith, q, w, is)),
      at',
    )

pub skipped_all : (holds now : List Portion → Type 0) (weight rest : ℕ)
    → Skipped holds now weight rest → rest ≤ 0
    → (parts : List Portion) → holds parts → (front left : List Portion) × (parts ≡ front ++ left)
    × (weight_of front ≡ weight) × now left
skipped_all holds now weight rest s none parts was =
    let (front, left, e, w, at) = s parts was in
    (front, left, e, omega (arith, w, none), at)

-- parts in front of the same parts: one is in front of the other
fronts_apart : (front other : List Portion) (p : Portion) (left rest : List Portion)
    → front ++ p ∷ left ≡ other ++ rest
    → (weight_of other ≤ weight_of front)
    ⊎ (weight_of front + (5 + length p.bytes) ≤ weight_of other)
fronts_apart front [] p left rest e = inl (omega arith)
fronts_apart [] (q ∷ other) p left rest e =
    let same : p ≡ q = cc in
    let n : length p.bytes ≡ length q.bytes = ap (λ z. length z.bytes) same in
    inr (omega (arith, n))
fronts_apart (f ∷ front) (q ∷ other) p left rest e =
    let same : f ≡ q = cc in
    let n : length f.bytes ≡ length q.bytes = ap (λ z. length z.bytes) same in
    elim (fronts_apart front other p left rest (cc)) [
      | inl a ↦ inl (omega (arith, a, n))
      | inr a ↦ inr (omega (arith, a, n))
    ]

-- the next part is too heavy, so no first parts have the weight
pub skipped_not : (holds mid : List Portion → Type 0) (weight rest : ℕ) (p : Portion)
    (now : List Portion → Type 0) → Skipped holds mid weight rest → 0 < rest
    → rest < 5 + length p.bytes
    → ((ahead : List Portion) → mid ahead → (left : List Portion) × (ahead ≡ p ∷ left) × now left)
    → (front left : List Portion) → holds (front ++ left) → weight_of front ≡ weight → ⊥
skipped_not holds mid weight rest p now s some heavy next other left was is =
    let (front, ahead, e, w, at) = s (other ++ left) was in
    let (left', e', at') = next ahead at in
    elim (fronts_apart front other p left' left (ap (λ z. front ++ z) (sym e') ∙ sym e)) [
      | inl a ↦ omega (arith, a, w, is, some)
      | inr a ↦ omega (arith, a, w, is, heavy)
    ]

front_weight : (front left : List Portion) → weight_of front ≤ weight_of (front ++ left)
front_weight [] left = omega arith
front_weight (q ∷ front) left = let e = front_weight front left in omega (arith, e)

-- no part is left, so no first parts have the weight
pub skipped_short : (holds mid : List Portion → Type 0) (weight rest : ℕ)
    → Skipped holds mid weight rest → 0 < rest
    → ((ahead : List Portion) → mid ahead → ahead ≡ [])
    → (front left : List Portion) → holds (front ++ left) → weight_of front ≡ weight → ⊥
skipped_short holds mid weight rest s some none other left was is =
    let (front, ahead, e, w, at) = s (other ++ left) was in
    let whole : other ++ left ≡ front = e ∙ (ap (λ z. front ++ z) (none ahead at)
    ∙ append-nil front) in
    let a = front_weight other left in
    let b : weight_of (other ++ left) ≡ weight_of front = ap weight_of whole in
    omega (arith, a, b, w, is, some)

-- ---- a block

pub block_yes : (r : Result Bool SinkFault) (before now : List Portion → Type 0) (shape : Shape)
    (block : List ℕ) (rest parts : List Portion) → Reads shape block parts → rest ≡ parts
    → IfOk r (λ yes. OnTrue yes ((ahead : List Portion) → before ahead
    → (left : List Portion) × (ahead ≡ rest ++ left) × now left))
    → IfOk r (λ yes. OnTrue yes ((ahead : List Portion) → before ahead
    → (parts left : List Portion) × Reads shape block parts × (ahead ≡ parts ++ left) × now left))
block_yes (Err fault) before now shape block rest parts reads is h = h
block_yes (Ok false) before now shape block rest parts reads is h = h
block_yes (Ok true) before now shape block rest parts reads is h = λ ahead was.
    let (left, e, at) = h ahead was in
    (parts, left, reads, e ∙ ap (λ z. z ++ left) is, at)

pub block_no : (r : Result Bool SinkFault) (before : List Portion → Type 0) (shape : Shape)
    (block : List ℕ) (rest : List Portion)
    → ((parts : List Portion) → Holds shape.format shape.rec_len shape.offset block parts
    → rest ≡ parts)
    → IfOk r (λ yes. OnFalse yes ((left : List Portion) → before (rest ++ left) → ⊥))
    → IfOk r (λ yes. OnFalse yes ((parts left : List Portion) → Reads shape block parts
    → before (parts ++ left) → ⊥))
block_no (Err fault) before shape block rest one h = h
block_no (Ok true) before shape block rest one h = h
block_no (Ok false) before shape block rest one h = λ parts left reads was.
    h left (subst (λ z. before (z ++ left)) (sym (one parts reads.0)) was)

-- ---- the first parts of a block

-- The walk returned the first of these parts, and so many more are to be compared.
abbrev pub ComparedFront : (List Portion → Type 0) → (List Portion → Type 0) → List Portion
    → List Portion → ℕ → ℕ → Type 0
ComparedFront before now parts rest count more =
    (c : Compared before now parts rest) × (length c.seen + more ≡ count)

pub front_one : (before mid now : List Portion → Type 0) (parts rest : List Portion)
    (count more new : ℕ) (p : Portion) (others : List Portion)
    → ComparedFront before mid parts rest count more → new + 1 ≡ more → rest ≡ p ∷ others
    → ((ahead : List Portion) → mid ahead → (left : List Portion) × (ahead ≡ p ∷ left) × now left)
    → ComparedFront before now parts others count new
unfolding compared_one
front_one before mid now parts rest count more new p others (c, e) less is next = (
  compared_one before mid now parts rest p others c is next,
  (let n = length-append c.seen (p ∷ []) in omega (arith, n, e, less)),
)

take_all : (seen rest : List Portion) (n : ℕ) → length seen ≡ n → take n (seen ++ rest) ≡ seen
take_all [] rest zero e = refl
take_all [] rest (suc n) e = absurd (omega arith)
take_all (p ∷ seen) rest zero e = absurd (omega arith)
take_all (p ∷ seen) rest (suc n) e = ap (λ z. p ∷ z) (take_all seen rest n (omega arith))

pub front_all : (before now : List Portion → Type 0) (parts rest : List Portion) (count more : ℕ)
    → ComparedFront before now parts rest count more → more ≤ 0
    → (ahead : List Portion) → before ahead
    → (left : List Portion) × (count ≤ length parts) × (ahead ≡ take count parts ++ left)
    × now left
front_all before now parts rest count more (c, n) none ahead was =
    let (left, e, at) = c.walked ahead was in
    let first : take count parts ≡ c.seen = ap (λ z. take count z) c.split
    ∙ take_all c.seen rest count (omega (arith, n, none)) in
    let all : length parts ≡ length c.seen + length rest = ap length c.split
    ∙ length-append c.seen rest in
    (left, omega (arith, all, n, none), e ∙ ap (λ z. z ++ left) (sym first), at)

take_more : (seen others : List Portion) (p : Portion) (n : ℕ) → length seen < n
    → (some : List Portion) × (take n (seen ++ p ∷ others) ≡ seen ++ p ∷ some)
take_more [] others p zero lt = absurd (omega arith)
take_more [] others p (suc n) lt = (take n others, refl)
take_more (q ∷ seen) others p zero lt = absurd (omega arith)
take_more (q ∷ seen) others p (suc n) lt =
    let (some, e) = take_more seen others p n (omega arith) in (some, ap (λ z. q ∷ z) e)

pub front_not : (before mid : List Portion → Type 0) (parts rest : List Portion) (count more : ℕ)
    (p : Portion) (others : List Portion) → ComparedFront before mid parts rest count more
    → 0 < more → rest ≡ p ∷ others → ((left : List Portion) → mid (p ∷ left) → ⊥)
    → (left : List Portion) → count ≤ length parts → before (take count parts ++ left) → ⊥
front_not before mid parts rest count more p others (c, n) some is none left few was =
    let (left', e, at) = c.walked (take count parts ++ left) was in
    let whole : parts ≡ c.seen ++ p ∷ others = c.split ∙ ap (λ z. c.seen ++ z) is in
    let (more', taken) = take_more c.seen others p count (omega (arith, n, some)) in
    let first : take count parts ≡ c.seen ++ p ∷ more' = ap (λ z. take count z) whole ∙ taken in
    let both : c.seen ++ (p ∷ more' ++ left) ≡ c.seen ++ left' =
    sym (append_assoc c.seen (p ∷ more') left) ∙ (ap (λ z. z ++ left) (sym first) ∙ e) in
    none (more' ++ left) (subst mid (sym (cancel c.seen (p ∷ more' ++ left) left' both)) at)

pub front_short : (before mid : List Portion → Type 0) (parts rest : List Portion) (count more : ℕ)
    → ComparedFront before mid parts rest count more → 0 < more → rest ≡ []
    → (left : List Portion) → count ≤ length parts → before (take count parts ++ left) → ⊥
front_short before mid parts rest count more (c, n) some is left few was =
    let all : parts ≡ c.seen = c.split ∙ (ap (λ z. c.seen ++ z) is ∙ append-nil c.seen) in
    let m : length parts ≡ length c.seen = ap length all in
    omega (arith, m, n, some, few)

pub front_yes : (r : Result Bool SinkFault) (before now : List Portion → Type 0) (shape : Shape)
    (block : List ℕ) (count : ℕ) (rest parts : List Portion) → Reads shape block parts
    → rest ≡ parts → IfOk r (λ yes. OnTrue yes ((ahead : List Portion) → before ahead
    → (left : List Portion) × (count ≤ length rest) × (ahead ≡ take count rest ++ left)
    × now left))
    → IfOk r (λ yes. OnTrue yes ((ahead : List Portion) → before ahead
    → (parts left : List Portion) × Reads shape block parts × (count ≤ length parts)
    × (ahead ≡ take count parts ++ left) × now left))
front_yes (Err fault) before now shape block count rest parts reads is h = h
front_yes (Ok false) before now shape block count rest parts reads is h = h
front_yes (Ok true) before now shape block count rest parts reads is h = λ ahead was.
    let (left, few, e, at) = h ahead was in (
      parts,
      left,
      reads,
      subst (λ z. count ≤ length z) is few,
      e ∙ ap (λ z. take count z ++ left) is,
      at,
    )

pub front_no : (r : Result Bool SinkFault) (before : List Portion → Type 0) (shape : Shape)
    (block : List ℕ) (count : ℕ) (rest : List Portion)
    → ((parts : List Portion) → Holds shape.format shape.rec_len shape.offset block parts
    → rest ≡ parts)
    → IfOk r (λ yes. OnFalse yes ((left : List Portion) → count ≤ length rest
    → before (take count rest ++ left) → ⊥))
    → IfOk r (λ yes. OnFalse yes ((parts left : List Portion) → Reads shape block parts
    → count ≤ length parts → before (take count parts ++ left) → ⊥))
front_no (Err fault) before shape block count rest one h = h
front_no (Ok true) before shape block count rest one h = h
front_no (Ok false) before shape block count rest one h = λ parts left reads few was.
    let is = one parts reads.0 in
    h left (subst (λ z. count ≤ length z) (sym is) few)
    (subst (λ z. before (take count z ++ left)) (sym is) was)

pub front_none : (now : List Portion → Type 0) (parts : List Portion) (count : ℕ)
    → ComparedFront now now parts parts count count
unfolding compared_none
front_none now parts count = (
  compared_none now parts,
  (let z : length (compared_none now parts).seen ≡ 0 = refl in
      omega (arith, z)),
)

pub walked_none : {S : Type 0} {g : Ghosts S} (sink : S) → Walked g sink sink
walked_none sink = record {
  calm = refl;
  kept = λ parts was. was;
  crash = λ parts was. only_same _ _;
}
