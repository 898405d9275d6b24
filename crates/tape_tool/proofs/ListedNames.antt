-- Names in a list.
use Rattle.std.proofs.Common.{◌≡◌, ℕ, ◌+◌, ◌<◌, nat_lt, Bool, true, false, List, [], ◌∷◌, ◌++◌}
use Rattle.std.proofs.Common.{map, length, take, get_or, slice_get, Option, Some, None, refl, sym}
use Rattle.std.proofs.Common.{ap, ◌∙◌, arith, cond, append-nil}
use Rattle.std.proofs.{lemmas.Bool.Decides.nat_tests, lemmas.List.take_more, lemmas.List.map-append}
use Rattle.std.proofs.lemmas.{List.Elements.filter_map-append, Option.slice_get_past}
use Rattle.std.specs.List.{cons_option, filter, filter_map}
use Rattle.tape_tool.specs.Names.{end_byte, is_name, pieces_of, names_in}

pub end_is_low : (null : Bool) → end_byte null < 128
end_is_low true = omega arith
end_is_low false = omega arith

mapped_if : {X : Type 0} (view : X → List ℕ) (x : X) (xs : List X) (b : Bool)
    → map view (cond b (x ∷ xs) xs) ≡ cond b (view x ∷ map view xs) (map view xs)
mapped_if view x xs true = refl
mapped_if view x xs false = refl

mapped_names : {X : Type 0} (view : X → List ℕ) (xs : List X)
    → map view (filter (λ x. is_name (view x)) xs) ≡ filter is_name (map view xs)
mapped_names view [] = refl
mapped_names view (x ∷ xs) =
    mapped_if view x (filter (λ y. is_name (view y)) xs) (is_name (view x))
    ∙ ap (λ v. cond (is_name (view x)) (view x ∷ v) v) (mapped_names view xs)

-- the arguments, followed by the names among the pieces
pub all_named : {X : Type 0} (view : X → List ℕ) (words names pieces : List X) (null : Bool)
    (text : List ℕ) → names ≡ words ++ filter (λ p. is_name (view p)) pieces
    → map view pieces ≡ pieces_of null text
    → map view names ≡ map view words ++ names_in null text
all_named view words names pieces null text named cut = ap (map view) named
    ∙ map-append view words (filter (λ p. is_name (view p)) pieces)
    ∙ ap (λ v. map view words ++ v) (mapped_names view pieces ∙ ap (filter is_name) cut)

taken : (f : ℕ → Option (List ℕ)) (numbers : List ℕ) (i : ℕ) → i < length numbers
    → filter_map f (take (i + 1) numbers)
    ≡ filter_map f (take i numbers) ++ cons_option (f (get_or numbers i 0)) []
taken f numbers i within = ap (filter_map f) (take_more numbers i 0 within)
    ∙ filter_map-append f (take i numbers) (get_or numbers i 0 ∷ [])

-- one more place: there is a name, or none
pub one_more : {X : Type 0} (view : X → List ℕ) (f : ℕ → Option (List ℕ)) (items more : List X)
    (numbers : List ℕ) (i : ℕ) (name : X) → i < length numbers
    → f (get_or numbers i 0) ≡ Some (view name) → more ≡ items ++ name ∷ []
    → map view items ≡ filter_map f (take i numbers)
    → map view more ≡ filter_map f (take (i + 1) numbers)
one_more view f items more numbers i name within found pushed was = ap (map view) pushed
    ∙ map-append view items (name ∷ []) ∙ ap (λ l. l ++ view name ∷ []) was
    ∙ sym (taken f numbers i within
    ∙ ap (λ o. filter_map f (take i numbers) ++ cons_option o []) found)

pub none_more : (f : ℕ → Option (List ℕ)) (numbers : List ℕ) (i : ℕ) → i < length numbers
    → f (get_or numbers i 0) ≡ None → filter_map f (take i numbers)
    ≡ filter_map f (take (i + 1) numbers)
none_more f numbers i within none = sym (taken f numbers i within
    ∙ ap (λ o. filter_map f (take i numbers) ++ cons_option o []) none
    ∙ append-nil (filter_map f (take i numbers)))

pub slice_past : {X : Type 0} (xs : List X) (n : ℕ) → false ≡ nat_lt n (length xs)
    → slice_get xs n ≡ None
slice_past xs n past = slice_get_past xs n (grind (arith, nat_tests))
