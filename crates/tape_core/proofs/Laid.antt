-- Parts whose bytes are consecutive: adding, removing, borrowing and weighing them.
use Rattle.std.proofs.Common.{◌≡◌, ◌≤◌, ℕ, zero, suc, ◌+◌, ◌-◌, ◌*◌, List, [], ◌∷◌, ◌++◌, length}
use Rattle.std.proofs.Common.{take, drop, Some, refl, sym, ap, ◌∙◌, subst, arith, slice_get}
use Rattle.std.proofs.lemmas.List.{drop-take, take-take, take-append-le, drop_at, take_all}
use Rattle.std.proofs.{Common.slice_range, lemmas.List.length-take-le, lemmas.List.length-drop}
use Rattle.tape_blocks.specs.Block.{Portion}
use Rattle.tape_core.specs.{declared.event.Entry.Entry, Stands.weight_of}
use Rattle.tape_core.specs.Entries.{part_at, parts_from, end_from, AreLaid, IsLaid}

range_is : (xs : List ℕ) (from to : ℕ) → from ≤ to → slice_range xs from to ≡ drop from (take to xs)
range_is xs from to le =
    let whole : from + (to - from) ≡ to = omega (arith, le) in
    sym (drop-take from (to - from) xs) ∙ ap (λ k. drop from (take k xs)) whole

pub range_same : (xs ys : List ℕ) (from to : ℕ) → from ≤ to → take to xs ≡ take to ys
    → slice_range xs from to ≡ slice_range ys from to
range_same xs ys from to le same =
    range_is xs from to le ∙ ap (drop from) same ∙ sym (range_is ys from to le)

pub range_length : (xs : List ℕ) (from to : ℕ) → from ≤ to → to ≤ length xs
    → length (slice_range xs from to) + from ≡ to
range_length xs from to le fits =
    let room : to - from ≤ length (drop from xs) = simp length-drop (omega (arith, fits)) in
    let n = length-take-le (to - from) (drop from xs) room in
    omega (arith, n, le)

laid_below : (start : ℕ) (es : List Entry) (finish : ℕ) → AreLaid start es finish → start ≤ finish
laid_below start [] finish l = omega (arith, l)
laid_below start (e ∷ es) finish l =
    let below = laid_below e.end es finish l.2 in
    omega (arith, l.0, below)

laid_end : (start : ℕ) (es : List Entry) (finish : ℕ) → AreLaid start es finish
    → end_from start es ≡ finish
laid_end start [] finish l = l
laid_end start (e ∷ es) finish l = laid_end e.end es finish l.2

-- one more entry
pub laid_more : (start : ℕ) (es : List Entry) (finish : ℕ) (last : Entry) → AreLaid start es finish
    → finish ≤ last.end → last.end ≤ finish + 99999 → AreLaid start (es ++ last ∷ []) last.end
laid_more start [] finish last l low high = (omega (arith, l, low), omega (arith, l, high), refl)
laid_more start (e ∷ es) finish last l low high =
    (l.0, l.1, laid_more e.end es finish last l.2 low high)

-- bytes that agree up to the end of the parts contain the same parts
parts_same : (start : ℕ) (es : List Entry) (finish : ℕ) (xs ys : List ℕ) → AreLaid start es finish
    → take finish xs ≡ take finish ys → parts_from start es xs ≡ parts_from start es ys
parts_same start [] finish xs ys l same = refl
parts_same start (e ∷ es) finish xs ys l same =
    let below = laid_below e.end es finish l.2 in
    let front : take e.end xs ≡ take e.end ys = sym (take-take e.end finish xs below)
    ∙ ap (take e.end) same ∙ take-take e.end finish ys below in
    let bytes = range_same xs ys start e.end l.0 front in
    let first : part_at start e xs ≡ part_at start e ys =
    ap (λ (bs : List ℕ). record { span = e.span; bytes = bs }) bytes in
    ap (λ (p : Portion). p ∷ parts_from e.end es xs) first
    ∙ ap (λ (ps : List Portion). part_at start e ys ∷ ps) (parts_same e.end es finish xs
    ys l.2 same)

parts_split : (start : ℕ) (es : List Entry) (last : Entry) (bytes : List ℕ)
    → parts_from start (es ++ last ∷ []) bytes
    ≡ parts_from start es bytes ++ part_at (end_from start es) last bytes ∷ []
parts_split start [] last bytes = refl
parts_split start (e ∷ es) last bytes =
    ap (λ (ps : List Portion). part_at start e bytes ∷ ps) (parts_split e.end es last bytes)

-- bytes appended to the others, with an entry that ends with them, are one more part
pub parts_added : (es : List Entry) (bytes more : List ℕ) (last : Entry)
    → IsLaid es bytes → last.end ≡ length bytes + length more
    → parts_from 0 (es ++ last ∷ []) (bytes ++ more)
    ≡ parts_from 0 es bytes ++ record { span = last.span; bytes = more } ∷ []
parts_added es bytes more last laid ends =
    let at = laid_end 0 es (length bytes) laid in
    let seam = take-append-le (length bytes) bytes more (omega arith) in
    let old : parts_from 0 es (bytes ++ more) ≡ parts_from 0 es bytes =
    parts_same 0 es (length bytes) (bytes ++ more) bytes laid seam in
    let behind : drop (length bytes) (bytes ++ more) ≡ more =
    drop_at bytes more (length bytes) refl in
    let own : slice_range (bytes ++ more) (end_from 0 es) last.end ≡ more =
    ap (λ k. slice_range (bytes ++ more) k last.end) at ∙ ap (take (last.end - length bytes)) behind
    ∙ take_all (last.end - length bytes) more (omega (arith, ends)) in
    let one : part_at (end_from 0 es) last (bytes ++ more) ≡ record {
      span = last.span;
      bytes = more;
    } = ap (λ (bs : List ℕ). record { span = last.span; bytes = bs }) own in
    parts_split 0 es last (bytes ++ more)
    ∙ ap (λ (ps : List Portion). ps ++ part_at (end_from 0 es) last (bytes ++ more) ∷ []) old
    ∙ ap (λ (p : Portion). parts_from 0 es bytes ++ p ∷ []) one

parts_front : (n start : ℕ) (es : List Entry) (bytes : List ℕ)
    → take n (parts_from start es bytes) ≡ parts_from start (take n es) bytes
parts_front zero start es bytes = refl
parts_front (suc n) start [] bytes = refl
parts_front (suc n) start (e ∷ es) bytes =
    ap (λ (ps : List Portion). part_at start e bytes ∷ ps) (parts_front n e.end es bytes)

laid_front : (n start : ℕ) (es : List Entry) (finish : ℕ) → AreLaid start es finish
    → AreLaid start (take n es) (end_from start (take n es))
laid_front zero start es finish l = refl
laid_front (suc n) start [] finish l = refl
laid_front (suc n) start (e ∷ es) finish l = (l.0, l.1, laid_front n e.end es finish l.2)

-- the first entries end before the last
pub end_front : (n start : ℕ) (es : List Entry) (finish : ℕ) → AreLaid start es finish
    → end_from start (take n es) ≤ finish
end_front zero start es finish l = laid_below start es finish l
end_front (suc n) start [] finish l = omega (arith, l)
end_front (suc n) start (e ∷ es) finish l = end_front n e.end es finish l.2

-- the first entries and their bytes are the first parts
pub parts_cut : (n : ℕ) (es : List Entry) (bytes : List ℕ) → IsLaid es bytes
    → parts_from 0 (take n es) (take (end_from 0 (take n es)) bytes)
    ≡ take n (parts_from 0 es bytes)
parts_cut n es bytes laid =
    let m = end_from 0 (take n es) in
    parts_same 0 (take n es) m (take m bytes) bytes (laid_front n 0 es (length bytes) laid)
    (take-take m m bytes (omega arith))
    ∙ sym (parts_front n 0 es bytes)

pub laid_cut : (n : ℕ) (es : List Entry) (bytes : List ℕ) → IsLaid es bytes
    → IsLaid (take n es) (take (end_from 0 (take n es)) bytes)
laid_cut n es bytes laid =
    let long =
    length-take-le (end_from 0 (take n es)) bytes (end_front n 0 es (length bytes) laid) in
    subst (AreLaid 0 (take n es)) (sym long) (laid_front n 0 es (length bytes) laid)

-- there are as many parts as entries
pub parts_length : (start : ℕ) (es : List Entry) (bytes : List ℕ)
    → length (parts_from start es bytes) ≡ length es
parts_length start [] bytes = refl
parts_length start (e ∷ es) bytes = ap suc (parts_length e.end es bytes)

-- the part with a given number
pub parts_get : (start : ℕ) (es : List Entry) (bytes : List ℕ) (n : ℕ) (e : Entry)
    → slice_get es n ≡ Some e
    → slice_get (parts_from start es bytes) n ≡ Some (part_at (end_from start (take n es)) e bytes)
parts_get start [] bytes n e h = absurd (cc)
parts_get start (x ∷ xs) bytes zero e h =
    let same : x ≡ e = cc in
    ap (λ (z : Entry). Some (part_at start z bytes)) same
parts_get start (x ∷ xs) bytes (suc n) e h = parts_get x.end xs bytes n e h

-- the range of the bytes of the part with a given number
pub record LiesBetween (start : ℕ) (e : Entry) (finish : ℕ) : Type 0 where
  pub rises : start ≤ e.end
  pub short : e.end ≤ start + 99999
  pub within : e.end ≤ finish

pub laid_get : (start : ℕ) (es : List Entry) (finish n : ℕ) (e : Entry) → AreLaid start es finish
    → slice_get es n ≡ Some e → LiesBetween (end_from start (take n es)) e finish
laid_get start [] finish n e l h = absurd (cc)
laid_get start (x ∷ xs) finish zero e l h =
    let same : x ≡ e = cc in
    subst (λ (z : Entry). LiesBetween start z finish) same
    (record { rises = l.0; short = l.1; within = laid_below x.end xs finish l.2 })
laid_get start (x ∷ xs) finish (suc n) e l h = laid_get x.end xs finish n e l.2 h

-- the end of the parts up to and including the one with a given number
pub end_get : (start : ℕ) (es : List Entry) (n : ℕ) (e : Entry) → slice_get es n ≡ Some e
    → end_from start (take (suc n) es) ≡ e.end
end_get start [] n e h = absurd (cc)
end_get start (x ∷ xs) zero e h = let same : x ≡ e = cc in ap (λ (z : Entry). z.end) same
end_get start (x ∷ xs) (suc n) e h = end_get x.end xs n e h

weight_laid : (start : ℕ) (es : List Entry) (finish : ℕ) (bytes : List ℕ) → AreLaid start es finish
    → finish ≤ length bytes → start + weight_of (parts_from start es bytes) ≡ 5 * length es + finish
weight_laid start [] finish bytes l fits = omega (arith, l)
weight_laid start (e ∷ es) finish bytes l fits =
    let rest = weight_laid e.end es finish bytes l.2 fits in
    let below = laid_below e.end es finish l.2 in
    let long = range_length bytes start e.end l.0 (omega (arith, below, fits)) in
    omega (arith, rest, long)

-- the weight of the first parts
pub weight_front : (n : ℕ) (es : List Entry) (bytes : List ℕ) → IsLaid es bytes → n ≤ length es
    → weight_of (take n (parts_from 0 es bytes)) ≡ 5 * n + end_from 0 (take n es)
weight_front n es bytes laid within =
    let first = laid_front n 0 es (length bytes) laid in
    let w = weight_laid 0 (take n es) (end_from 0 (take n es)) bytes first
    (end_front n 0 es (length bytes) laid) in
    let many = length-take-le n es within in
    ap weight_of (parts_front n 0 es bytes) ∙ omega (arith, w, many)

-- the weight of all parts
pub weight_all : (es : List Entry) (bytes : List ℕ) → IsLaid es bytes
    → weight_of (parts_from 0 es bytes) ≡ 5 * length es + length bytes
weight_all es bytes laid = omega (arith, weight_laid 0 es (length bytes) bytes laid (omega arith))

-- the parts after the first n begin with part number n
pub drop_get : (ps : List Portion) (n : ℕ) (p : Portion) → slice_get ps n ≡ Some p
    → drop n ps ≡ p ∷ drop (n + 1) ps
drop_get [] n p h = absurd (cc)
drop_get (q ∷ qs) zero p h = let same : q ≡ p = cc in ap (λ (z : Portion). z ∷ qs) same
drop_get (q ∷ qs) (suc n) p h =
    let next : suc (n + 1) ≡ suc n + 1 = omega arith in
    drop_get qs n p h ∙ ap (λ k. p ∷ drop k (q ∷ qs)) next
