-- Tapes in memory: ending a volume, and looking up volumes.
use Rattle.tape_writer.proofs.Words.{◌≡◌, ◌≢◌, ◌≤◌, ℕ, zero, suc, List, [], ◌∷◌, ◌++◌, length}
use Rattle.tape_writer.proofs.Words.{Option, Some, None, refl, sym, ap, ◌∙◌, arith, map, slice_get}
use Rattle.tape_writer.proofs.Words.{option_map, map-append, length-map, TapeItem}
use Rattle.std.proofs.lemmas.Option.{slice_get-map, slice_get_past}
use Rattle.tape_writer.specs.declared.memory.Kept.{Kept}
use Rattle.tape_writer.specs.Tapes.{Tapes, Ended, UnderWay, all_volumes}
use Rattle.tape_writer.specs.Kept.{item_of, volume_of, tapes_of}

pub closed : (old new : List (List Kept)) (current left : Option (List Kept)) (items : List Kept)
    (tapes : Tapes)
    → current ≡ Some items → left ≡ None → new ≡ old ++ items ∷ [] → tapes_of old current ≡ tapes
    → tapes_of new left ≡ Ended (all_volumes tapes)
closed old new current left items tapes some none more is =
    let now : tapes_of new left ≡ Ended (map volume_of (old ++ items ∷ [])) =
    ap (tapes_of new) none ∙ ap (λ z. Ended (map volume_of z)) more in
    let before : UnderWay (map volume_of old) (volume_of items) ≡ tapes =
    ap (tapes_of old) (sym some) ∙ is in
    now ∙ (ap Ended (map-append volume_of old (items ∷ []))
    ∙ ap (λ z. Ended (all_volumes z)) before)

-- an element other than the first of the second list, which has at most one
get_other : {A : Type 0} (xs ys : List A) (n : ℕ) → length ys ≤ 1 → n ≢ length xs
    → slice_get (xs ++ ys) n ≡ slice_get xs n
get_other [] [] n s e = refl
get_other [] (y ∷ ys) zero s e = absurd (e refl)
get_other [] (y ∷ ys) (suc n) s e = slice_get_past ys n (omega (arith, s))
get_other (x ∷ xs) ys zero s e = refl
get_other (x ∷ xs) ys (suc n) s e = get_other xs ys n s (λ i. e (omega (arith, i)))

-- ---- looking up volumes, if f makes a list from a volume

both : {V : Type 0} (f : V → List Kept) (vs : List V)
    → map (λ v. volume_of (f v)) vs ≡ map volume_of (map f vs)
both f [] = refl
both f (v ∷ vs) = ap (λ z. volume_of (f v) ∷ z) (both f vs)

found_in : {V : Type 0} (f : V → List Kept) (vs : List V) (found : Option V) (n : ℕ)
    → found ≡ slice_get vs n
    → option_map (λ v. volume_of (f v)) found ≡ slice_get (map volume_of (map f vs)) n
found_in f vs found n e =
    ap (option_map (λ v. volume_of (f v))) e
    ∙ (sym (slice_get-map (λ v. volume_of (f v)) vs n) ∙ ap (λ z. slice_get z n) (both f vs))

pub volume_between : {V : Type 0} (f : V → List Kept) (vs : List V)
    (current found : Option V) (n : ℕ)
    → current ≡ None → found ≡ slice_get vs n → option_map (λ v. volume_of (f v)) found
    ≡ slice_get (all_volumes (tapes_of (map f vs) (option_map f current))) n
volume_between f vs current found n none e =
    found_in f vs found n e
    ∙ sym (ap (λ z. slice_get (all_volumes (tapes_of (map f vs) (option_map f z))) n) none)

pub volume_ended : {V : Type 0} (f : V → List Kept) (vs : List V)
    (v : V) (current found : Option V) (n : ℕ)
    → current ≡ Some v → n ≢ length vs → found ≡ slice_get vs n
    → option_map (λ v. volume_of (f v)) found
    ≡ slice_get (all_volumes (tapes_of (map f vs) (option_map f current))) n
volume_ended f vs v current found n some e is =
    let all = map volume_of (map f vs) in
    let long : length all ≡ length vs = length-map (map f vs) volume_of ∙ length-map vs f in
    found_in f vs found n is
    ∙ sym (ap (λ z. slice_get (all_volumes (tapes_of (map f vs) (option_map f z))) n) some
    ∙ get_other all (volume_of (f v) ∷ []) n (omega arith) (λ i. e (i ∙ long)))

-- ---- items of a volume

pub kept_length : (xs : List Kept) → length (volume_of xs) ≡ length xs
kept_length xs = length-map xs item_of

pub kept_item : (xs : List Kept) (ys : List TapeItem) (k : ℕ) → volume_of xs ≡ ys
    → slice_get ys k ≡ option_map item_of (slice_get xs k)
kept_item xs ys k e = ap (λ z. slice_get z k) (sym e) ∙ slice_get-map item_of xs k
