-- Lines of volumes, one after another.
use Rattle.std.proofs.Common.{◌≡◌, ℕ, ◌+◌, ◌<◌, List, [], ◌∷◌, ◌++◌, length, take, drop, get_or}
use Rattle.std.proofs.Common.{Option, flat_map, sym, ap, subst, ◌∙◌, append-nil}
use Rattle.std.proofs.lemmas.{Grind.flat_map-append, List.take_more, List.take-append-drop}
use Rattle.std.specs.Io.KnownBytes.{Appends}
use Rattle.tape_image.specs.Written.{AppendsFront}
use Rattle.tape_image.proofs.Pieces.{front_more, front_behind}
use Rattle.tape_writer.specs.declared.system.image_files.Ended.{Ended}
use Rattle.tape_tool.specs.Report.{volume_line}

-- one line more
pub lines_more : (xs : List Ended) (i : ℕ) (d : Ended) → i < length xs
    → flat_map volume_line (take (i + 1) xs)
    ≡ flat_map volume_line (take i xs) ++ volume_line (get_or xs i d)
lines_more xs i d within = ap (flat_map volume_line) (take_more xs i d within)
    ∙ flat_map-append volume_line (take i xs) (get_or xs i d ∷ [])
    ∙ ap (λ l. flat_map volume_line (take i xs) ++ l) (append-nil (volume_line (get_or xs i d)))

-- the lines up to an index were written, and a prefix of the next: a prefix of all lines, and more
pub front_of_lines : (old mid new : Option (List ℕ)) (xs : List Ended) (i : ℕ) (x : Ended)
    (more : List ℕ) → i < length xs → x ≡ get_or xs i x
    → Appends old mid (flat_map volume_line (take i xs))
    → AppendsFront mid new (volume_line x) → AppendsFront old new (flat_map volume_line xs ++ more)
front_of_lines old mid new xs i x more within is wrote part =
    let before = flat_map volume_line (take i xs) in
    let after = flat_map volume_line (drop (i + 1) xs) in
    let all : flat_map volume_line xs ≡ (before ++ volume_line x) ++ after =
    ap (flat_map volume_line) (sym (take-append-drop (i + 1) xs))
    ∙ flat_map-append volume_line (take (i + 1) xs) (drop (i + 1) xs)
    ∙ ap (λ l. l ++ after) (lines_more xs i x within)
    ∙ ap (λ y. (before ++ volume_line y) ++ after) (sym is) in
    subst (AppendsFront old new) (ap (λ t. t ++ more) (sym all))
    (front_more old new ((before ++ volume_line x) ++ after) more
    (front_more old new (before ++ volume_line x) after
    (front_behind old mid new before (volume_line x) wrote part)))
