-- A label keeps its kind when its numbers are filled.
use Rattle.std.proofs.Common.{◌≡◌, ◌≤◌, ℕ, suc, ◌+◌, ◌-◌, List, [], ◌∷◌, ◌++◌, length, take, drop}
use Rattle.std.proofs.Common.{cond, Bool}
use Rattle.std.proofs.Common.{true, false, ◌==◌, ◌||◌, refl, ap, ◌∙◌, arith, Some}
use Rattle.std.proofs.lemmas.List.{take-append-le, take-take, length-drop, length-take-le}
use Rattle.std.proofs.lemmas.List.{length-append}
use Rattle.tape_core.proofs.Laid.{range_length}
use Rattle.tape_label.specs.declared.values.Kind.TheVariants as kinds
use Rattle.tape_label.specs.{Kinds.kind_at, Positions.positions, Reading.head2_at}
use Rattle.tape_label.specs.{Reading.wide_head2_at}
use Rattle.tape_label.proofs.Apart.{kind_found}
use Rattle.tape_core.specs.NormalForm.Mended.{filled_number, fill_at, filled, mended, is_ok}

pub filled_length : (xs : List ℕ) → length (filled_number xs) ≡ length xs
filled_length [] = refl
filled_length (c ∷ cs) = go ((c == 0) || (c == 32)) (filled_length cs)
  where
    go : (t : Bool) → length (filled_number cs) ≡ length cs
        → length (cond t (48 ∷ filled_number cs) (c ∷ cs)) ≡ suc (length cs)
    go true h = ap (λ v. suc v) h
    go false h = refl

-- the length, and the first four characters
pub record Alike (xs ys : List ℕ) : Type 0 where
  pub size : length xs ≡ 80
  pub front : take 4 xs ≡ take 4 ys

fill_alike : (first last : ℕ) (b : List ℕ) → length b ≡ 80 → 5 ≤ first → first ≤ last → last ≤ 80
    → Alike (fill_at first last b) b
fill_alike first last b n f o l =
    let room : first - 1 ≤ length b = omega (arith, n, f, o, l) in
    let a : length (take (first - 1) b) ≡ first - 1 = length-take-le (first - 1) b room in
    let four : 4 ≤ length (take (first - 1) b) = omega (arith, a, f) in
    let m : length (filled_number (positions b first last)) ≡ length (positions b first last) =
    filled_length (positions b first last) in
    let r : length (positions b first last) + (first - 1) ≡ last =
    range_length b (first - 1) last (omega (arith, f, o)) (omega (arith, n, l)) in
    let d : length (drop last b) ≡ length b - last = length-drop last b in
    record {
      size = simp length-append (omega (arith, a, m, r, d, n, f, o, l));
      front = take-append-le 4 (take (first - 1) b)
          (filled_number (positions b first last) ++ drop last b) four
          ∙ take-take 4 (first - 1) b (omega (arith, f));
    }

pub filled_alike : (b : List ℕ) → length b ≡ 80 → Alike (filled b) b
filled_alike b n =
    let x = fill_alike 6 10 b n (omega arith) (omega arith) (omega arith) in
    let y = fill_alike 11 15 (fill_at 6 10 b) x.size (omega arith) (omega arith) (omega arith) in
    let z = fill_alike 51 52 (fill_at 11 15 (fill_at 6 10 b)) y.size (omega arith) (omega arith)
    (omega arith) in
    record { size = z.size; front = z.front ∙ (y.front ∙ x.front) }

kind_alike : (xs ys : List ℕ) → Alike xs ys → length ys ≡ 80 → kind_at xs ≡ kind_at ys
unfolding kind_at
kind_alike xs ys a n = rw (a.size, n, a.front) refl

pub kind_mended : (b : List ℕ) → kind_at b ≡ Some kinds.Hdr2 → kind_at (mended b) ≡ Some kinds.Hdr2
kind_mended b e =
    go (is_ok (head2_at b)) (is_ok (head2_at (filled b))) (is_ok (wide_head2_at b))
    (is_ok (wide_head2_at (filled b)))
  where
    n : length b ≡ 80
    n = (kind_found b kinds.Hdr2 e).size

    go : (t u v w : Bool)
        → kind_at (cond t b (cond u (filled b) (cond v b (cond w (filled b) b)))) ≡ Some kinds.Hdr2
    go true u v w = e
    go false true v w = kind_alike (filled b) b (filled_alike b n) n ∙ e
    go false false true w = e
    go false false false true = kind_alike (filled b) b (filled_alike b n) n ∙ e
    go false false false false = e
