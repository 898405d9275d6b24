-- The rows of the log, as items are merged one after another.
use Rattle.std.proofs.Common.{◌≡◌, ℕ, ◌+◌, ◌<◌, ◌≤◌, List, [], ◌∷◌, ◌++◌, length, map, Option, Some}
use Rattle.std.proofs.Common.{refl, sym, ap, ◌∙◌, arith, append_assoc, append-nil, drop}
use Rattle.std.proofs.lemmas.List.{drop_all}
use Rattle.std.specs.{Prelude.◌||◌, Prelude.nat_lt, Prelude.if◌then◌else◌, Prelude.⊤, List.flat_map}
use Rattle.tape_image.specs.Tape.{TapeItem}
use Rattle.tape_run.specs.MergeLog.{has_bad, has_bad_verdict, is_logged, seen_cell, verdict_cells}
use Rattle.tape_run.specs.{declared.merge.reading.Reading.Reading, MergeCalls.firsts_in}
use Rattle.tape_run.specs.{MergeSteps.column, MergeSteps.goods_in, MergeLines.lines_from}
use Rattle.tape_run.specs.MergeLog.{row_text, kind_at, log_row, log_rows, row_now}
use Rattle.tape_run.proofs.MergeVerdicts.{SeenAs}

-- ---- one item

-- the item of each reading at a place, by its verdict
abbrev pub AreSeenAs : {R : Type 0} → List (Reading R) → List (Option TapeItem) → Type 0
AreSeenAs [] [] = ⊤
AreSeenAs (r ∷ rs) (x ∷ xs) = SeenAs r.verdict x × AreSeenAs rs xs
AreSeenAs _ _ = ⊥

pub goods_seen : {R : Type 0} (rs : List (Reading R)) (xs : List (Option TapeItem))
    → AreSeenAs rs xs → goods_in xs ≡ firsts_in rs
goods_seen [] [] h = refl
goods_seen (r ∷ rs) (x ∷ xs) h = omega (arith, h.0.good, goods_seen rs xs h.1)
goods_seen [] (x ∷ xs) h = absurd h
goods_seen (r ∷ rs) [] h = absurd h

bad_seen : {R : Type 0} (rs : List (Reading R)) (xs : List (Option TapeItem))
    → AreSeenAs rs xs → has_bad xs ≡ has_bad_verdict rs
bad_seen [] [] h = refl
bad_seen (r ∷ rs) (x ∷ xs) h = cc (h.0.is_bad, bad_seen rs xs h.1)
bad_seen [] (x ∷ xs) h = absurd h
bad_seen (r ∷ rs) [] h = absurd h

cells_seen : {R : Type 0} (rs : List (Reading R)) (xs : List (Option TapeItem))
    → AreSeenAs rs xs → flat_map seen_cell xs ≡ verdict_cells rs
cells_seen [] [] h = refl
cells_seen (r ∷ rs) (x ∷ xs) h = cc (h.0.cell, cells_seen rs xs h.1)
cells_seen [] (x ∷ xs) h = absurd h
cells_seen (r ∷ rs) [] h = absurd h

-- whether the item has a row
pub due_seen : {R : Type 0} (have : ℕ) (rs : List (Reading R)) (xs : List (Option TapeItem))
    → AreSeenAs rs xs → have ≡ firsts_in rs
    → is_logged xs ≡ (nat_lt have 2 || has_bad_verdict rs)
due_seen have rs xs h many =
    let goods : goods_in xs ≡ have = goods_seen rs xs h ∙ sym many in
    ap (λ k. nat_lt k 2 || has_bad xs) goods
    ∙ ap (λ b. nat_lt have 2 || b) (bad_seen rs xs h)

-- the row of the item
row_seen : {R : Type 0} (n have : ℕ) (x : TapeItem) (rs : List (Reading R))
    (xs : List (Option TapeItem)) → AreSeenAs rs xs → have ≡ firsts_in rs
    → log_row n x xs ≡ row_now n (Some x) have rs
row_seen n have x rs xs h many =
    let is = due_seen have rs xs h many in
    ap (λ b. if b then row_text n (kind_at x) (flat_map seen_cell xs) else []) is
    ∙ ap (λ cells. if nat_lt have 2 || has_bad_verdict rs then row_text n (kind_at x) cells else [])
    (cells_seen rs xs h)

-- ---- several items

-- the readings continued after these items
pub rows_kept : (j : ℕ) (items : List TapeItem) (rs ss : List (List TapeItem))
    → ((i : ℕ) → i < j + length items → column i ss ≡ column i rs)
    → log_rows j items ss ≡ log_rows j items rs
rows_kept j [] rs ss same = refl
rows_kept j (x ∷ items) rs ss same =
    let here : log_row (j + 1) x (column j ss) ≡ log_row (j + 1) x (column j rs) =
    ap (log_row (j + 1) x) (same j (omega arith)) in
    let more : log_rows (j + 1) items ss ≡ log_rows (j + 1) items rs =
    rows_kept (j + 1) items rs ss (λ i lt. same i (omega (arith, lt))) in
    cc (here, more)

rows-append : (j : ℕ) (items : List TapeItem) (x : TapeItem) (rs : List (List TapeItem)) (k : ℕ)
    → k ≡ j + length items
    → log_rows j (items ++ x ∷ []) rs ≡ log_rows j items rs ++ log_row (k + 1) x (column k rs)
rows-append j [] x rs k is =
    let at : k ≡ j = omega (arith, is) in
    append-nil (log_row (j + 1) x (column j rs))
    ∙ ap (λ i. log_row (i + 1) x (column i rs)) (sym at)
rows-append j (y ∷ items) x rs k is =
    let ih : log_rows (j + 1) (items ++ x ∷ []) rs
    ≡ log_rows (j + 1) items rs ++ log_row (k + 1) x (column k rs) =
    rows-append (j + 1) items x rs k (omega (arith, is)) in
    ap (λ t. log_row (j + 1) y (column j rs) ++ t) ih
    ∙ sym (append_assoc (log_row (j + 1) y (column j rs)) (log_rows (j + 1) items rs)
    (log_row (k + 1) x (column k rs)))

pub rows_more : {R : Type 0} (merged : List TapeItem) (x : TapeItem) (rs ss : List (List TapeItem))
    (nows : List (Reading R)) (n have : ℕ)
    → ((j : ℕ) → j < length merged → column j ss ≡ column j rs)
    → AreSeenAs nows (column (length merged) ss) → have ≡ firsts_in nows → length merged + 1 ≡ n
    → log_rows 0 merged rs ++ row_now n (Some x) have nows ≡ log_rows 0 (merged ++ x ∷ []) ss
rows_more merged x rs ss nows n have same here many is =
    let row : log_row (length merged + 1) x (column (length merged) ss)
    ≡ row_now n (Some x) have nows =
    row_seen (length merged + 1) have x nows (column (length merged) ss) here many
    ∙ ap (λ k. row_now k (Some x) have nows) is in
    let front : log_rows 0 merged ss ≡ log_rows 0 merged rs =
    rows_kept 0 merged rs ss (λ j lt. same j (omega (arith, lt))) in
    let all : log_rows 0 (merged ++ x ∷ []) ss
    ≡ log_rows 0 merged ss ++ log_row (length merged + 1) x (column (length merged) ss) =
    rows-append 0 merged x ss (length merged) (omega arith) in
    cc (row, front, all)

-- ---- as the loops write

-- the text of these elements, each on a line
pub lines_flat : {A : Type 0} (f : A → List ℕ) (n : ℕ) (xs : List A)
    → lines_from (λ _ x. f x) n xs ≡ flat_map f xs
lines_flat f n [] = refl
lines_flat f n (x ∷ xs) = ap (λ t. f x ++ t) (lines_flat f (n + 1) xs)

pub flat_none : {A : Type 0} (f : A → List ℕ) (n : ℕ) (xs : List A) (text : List ℕ)
    → length xs ≤ n → text ≡ text ++ flat_map f (drop n xs)
flat_none f n xs text le = sym (append-nil text)
    ∙ ap (λ l. text ++ flat_map f l) (sym (drop_all n xs le))

-- the text of the values of elements
pub flat_values : {A B : Type 0} (f : B → List ℕ) (value : A → B) (xs : List A)
    → flat_map f (map value xs) ≡ flat_map (λ x. f (value x)) xs
flat_values f value [] = refl
flat_values f value (x ∷ xs) = ap (λ t. f (value x) ++ t) (flat_values f value xs)
