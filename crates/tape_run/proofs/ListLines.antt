-- The lines of items, one after another.
use Rattle.std.proofs.Common.{◌≡◌, ℕ, ◌+◌, List, [], ◌∷◌, ◌++◌, length, sym, ap, ◌∙◌, arith}
use Rattle.std.proofs.Common.{append_assoc}
use Rattle.tape_image.specs.Tape.{TapeItem}
use Rattle.tape_run.specs.{ListLine.line_of, Listing.lines_from}

pub lines_from-append : (n : ℕ) (items more : List TapeItem)
    → lines_from n (items ++ more) ≡ lines_from n items ++ lines_from (n + length items) more
lines_from-append n [] more =
    ap (λ m. lines_from m more) (let same : n ≡ n + 0 = omega arith in same)
lines_from-append n (item ∷ items) more =
    let same : n + 1 + length items ≡ n + length (item ∷ items) = omega arith in
    ap (λ l. line_of n item ++ l) (lines_from-append (n + 1) items more
    ∙ ap (λ m. lines_from (n + 1) items ++ lines_from m more) same)
    ∙ sym (append_assoc (line_of n item) (lines_from (n + 1) items)
    (lines_from (n + length (item ∷ items)) more))
