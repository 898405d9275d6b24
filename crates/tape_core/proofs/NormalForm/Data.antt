-- Data are the same in the normal form.
use Rattle.std.proofs.Common.{◌≡◌, List, [], ◌∷◌, ◌++◌, refl, ap}
use Rattle.std.specs.List.{AllByRecursion}
use Rattle.tape_image.specs.Tape.{TapeItem, block, bad, mark}
use Rattle.tape_core.specs.declared.normal.code.Code.{Code}
use Rattle.tape_core.specs.declared.normal.numbers.FileSeen.{FileSeen}
use Rattle.tape_core.specs.NormalForm.{Laws.IsNoMark, Laws.DataKept, Laws.seen_behind}
use Rattle.tape_core.specs.NormalForm.{of_data, of_trailer, Mended.counted, Mended.uncounted}

to_end : (code : Code) (seen : FileSeen) (xs : List TapeItem) → AllByRecursion IsNoMark xs
    → of_data code seen xs ≡ xs
to_end code seen [] h = refl
to_end code seen (block b ∷ xs) h = ap (λ v. block b ∷ v) (to_end code (counted seen) xs h.1)
to_end code seen (bad ∷ xs) h = ap (λ v. bad ∷ v) (to_end code (uncounted seen) xs h.1)
to_end code seen (mark ∷ xs) h = absurd h.0

to_mark : (code : Code) (seen : FileSeen) (xs rest : List TapeItem) → AllByRecursion IsNoMark xs
    → of_data code seen (xs ++ mark ∷ rest)
    ≡ xs ++ mark ∷ of_trailer code (seen_behind seen xs) rest
to_mark code seen [] rest h = refl
to_mark code seen (block b ∷ xs) rest h =
    ap (λ v. block b ∷ v) (to_mark code (counted seen) xs rest h.1)
to_mark code seen (bad ∷ xs) rest h = ap (λ v. bad ∷ v) (to_mark code (uncounted seen) xs rest h.1)
to_mark code seen (mark ∷ xs) rest h = absurd h.0

pub data_kept : DataKept
data_kept code seen xs h = (to_end code seen xs h, λ rest. to_mark code seen xs rest h)
