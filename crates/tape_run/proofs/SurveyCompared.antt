-- The names of images, by their numbers.
use Rattle.std.proofs.Common.{◌≡◌, ◌<◌, ◌≤◌, ℕ, List, [], length, map, get_or, ap, ◌∙◌}
use Rattle.std.proofs.Common.{encode_utf8_all, arith, flat_map}
use Rattle.std.proofs.lemmas.{List.get_or-map, List.get_or_past, List.length-map, Str.chars-nil}
use Rattle.tape_run.specs.{SurveyCompared.name_at, Quoting.name_text, Quoting.quoted}

pub no_name : {X : Type 0} (f : X → List ℕ) (xs : List X) (i : ℕ) → length xs ≤ i
    → name_at (map f xs) i ≡ []
no_name f xs i past =
    ap name_text (get_or_past (map f xs) i [] (omega (arith, past, length-map xs f)))
    ∙ ap (λ cs. encode_utf8_all (flat_map quoted cs)) chars-nil

pub is_name : {X : Type 0} (f : X → List ℕ) (xs : List X) (i : ℕ) (d : X) → i < length xs
    → name_at (map f xs) i ≡ name_text (f (get_or xs i d))
is_name f xs i d within = ap name_text (get_or-map f xs i d [] within)
