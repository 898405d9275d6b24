-- Lists of items read, compared with the contents of a volume.
use Rattle.std.proofs.Common.{◌≡◌, ◌<◌, ◌≤◌, ℕ, zero, suc, ◌+◌, ◌-◌, List, [], ◌∷◌, ◌++◌, length}
use Rattle.std.proofs.Common.{take, drop, Bool, true, false, cond, ltb, refl, sym, ap, ◌∙◌, arith}
use Rattle.std.proofs.Common.{length-append, eq-eqb, ◌==◌, ◌&&◌, ◌||◌}
use Rattle.std.proofs.lemmas.Bool.Decides.{nat_tests}
use Rattle.tape_set.specs.Layout.{Section, Entry, is_data}
use Rattle.tape_set.specs.Reach.{passes, good_run, both_good, moved, stopped, behind}
use Rattle.tape_set.specs.declared.position.Position.{Position}
use Rattle.tape_set.specs.declared.position.Position.TheVariants.{Awaits, Finished}
use Rattle.tape_set.specs.Position.{awaiting, block_of}
use Rattle.std.proofs.lemmas.List.{drop-append-le, length-drop, drop_at, take_all, drop_all}

-- one more entry, which was readable or is a data block
pub passes_push : (good : List Bool) (g : Bool) (done : List Entry) (e : Entry)
    → length done ≡ length good → passes good done ≡ true → (g || is_data e) ≡ true
    → passes (good ++ g ∷ []) (done ++ e ∷ []) ≡ true
passes_push [] g [] e n h t = rw t refl
passes_push [] g (d ∷ done) e n h t = absurd (cc)
passes_push (b ∷ good) g [] e n h t = absurd (omega arith)
passes_push (b ∷ good) g (d ∷ done) e n h t =
    go (b || is_data d) refl h (passes_push good g done e (omega arith))
  where
    go : (v : Bool) → (b || is_data d) ≡ v → (v && passes good done) ≡ true
        → (passes good done ≡ true → (g || is_data e) ≡ true
        → passes (good ++ g ∷ []) (done ++ e ∷ []) ≡ true)
        → ((b || is_data d) && passes (good ++ g ∷ []) (done ++ e ∷ [])) ≡ true
    go true ev hv ih = rw ev (ih hv t)
    go false ev hv ih = absurd (cc)

-- a bad entry that is not a data block
pub passes_bad : (good more : List Bool) (done rest : List Entry) (e : Entry)
    → length done ≡ length good → is_data e ≡ false
    → passes (good ++ false ∷ more) (done ++ e ∷ rest) ≡ false
passes_bad [] more [] rest e n t = rw t refl
passes_bad [] more (d ∷ done) rest e n t = absurd (omega arith)
passes_bad (b ∷ good) more [] rest e n t = absurd (omega arith)
passes_bad (b ∷ good) more (d ∷ done) rest e n t =
    rw (passes_bad good more done rest e (omega arith) t) (and_false (b || is_data d))
  where
    and_false : (v : Bool) → (v && false) ≡ false
    and_false true = refl
    and_false false = refl

-- a list is split in two ways; the longer first half continues inside the other's second half
pub split_longer : {A : Type 0} (xs ys us vs : List A) → xs ++ ys ≡ us ++ vs → length vs < length ys
    → (e : A) × (more : List A) × (us ≡ xs ++ e ∷ more) × (ys ≡ e ∷ more ++ vs)
split_longer [] [] us vs h n = absurd (omega arith)
split_longer [] (y ∷ ys) [] vs h n = absurd (omega (arith, ap length h))
split_longer [] (y ∷ ys) (u ∷ us) vs h n = (u, us, refl, h)
split_longer (x ∷ xs) ys [] vs h n = absurd (omega (arith, ap length h, length-append xs ys))
split_longer (x ∷ xs) ys (u ∷ us) vs h n =
    let same : x ≡ u = cc in
    let tails : xs ++ ys ≡ us ++ vs = cc in
    let ih = split_longer xs ys us vs tails n in
    (ih.0, ih.1, ap (λ v. v ∷ us) (sym same) ∙ ap (λ v. x ∷ v) ih.2, ih.3)

pub run_all : (gs : List Bool) → good_run gs ≤ length gs
run_all [] = omega arith
run_all (true ∷ gs) = let ih = run_all gs in omega (arith, ih)
run_all (false ∷ gs) = omega arith

-- one more readable item after readable items
pub run_push : (gs : List Bool) → good_run gs ≡ length gs
    → good_run (gs ++ true ∷ []) ≡ good_run gs + 1
run_push [] h = refl
run_push (true ∷ gs) h =
    let e : good_run gs ≡ length gs = omega arith in
    let ih = run_push gs e in
    omega (arith, ih)
run_push (false ∷ gs) h = absurd (omega arith)

-- after a bad item no further items count
pub run_stop : (gs more : List Bool) (m : ℕ) → good_run gs ≡ length gs → length gs ≤ m
    → good_run (take m (gs ++ false ∷ more)) ≡ good_run gs
run_stop [] more zero h n = refl
run_stop [] more (suc m) h n = refl
run_stop (true ∷ gs) more zero h n = absurd (omega arith)
run_stop (true ∷ gs) more (suc m) h n =
    let e : good_run gs ≡ length gs = omega arith in
    ap (λ v. v + 1) (run_stop gs more m e (omega arith))
run_stop (false ∷ gs) more m h n = absurd (omega arith)

-- if all items are readable, the run has their full number
pub run_whole : (gs more : List Bool) (m : ℕ) → good_run gs ≡ length gs → length gs ≡ m
    → good_run (take m (gs ++ more)) ≡ m
run_whole [] more zero h n = refl
run_whole [] more (suc m) h n = absurd (omega arith)
run_whole (true ∷ gs) more zero h n = absurd (omega arith)
run_whole (true ∷ gs) more (suc m) h n =
    let e : good_run gs ≡ length gs = omega arith in
    let ih = run_whole gs more m e (omega arith) in
    omega (arith, ih)
run_whole (false ∷ gs) more m h n = absurd (omega (arith, run_all gs))

-- all items of `seen` from index `block` on are readable
abbrev pub Full : ℕ → List Bool → Type 0
Full block seen = block + good_run (drop block seen) ≡ length seen

full_run : (block : ℕ) (seen : List Bool) → Full block seen
    → good_run (drop block seen) ≡ length (drop block seen)
full_run block seen h = simp length-drop (omega (arith, h))

pub full_next : (block : ℕ) (seen : List Bool) → Full block seen
    → block + good_run (drop block (seen ++ true ∷ [])) ≡ length seen + 1
full_next block seen h =
    let r = run_push (drop block seen) (full_run block seen h) in
    rw (drop-append-le block seen (true ∷ []) (omega (arith, h))) (omega (arith, r, h))

full_bad : (block n : ℕ) (seen more : List Bool) → Full block seen → length seen ≤ n
    → block + good_run (take (n - block) (drop block (seen ++ false ∷ more))) ≡ length seen
full_bad block n seen more h le =
    let d : length (drop block seen) ≡ length seen - block = length-drop block seen in
    let r = run_stop (drop block seen) more (n - block) (full_run block seen h) (omega arith) in
    rw (drop-append-le block seen (false ∷ more) (omega (arith, h))) (omega (arith, r, h))

full_end : (block n : ℕ) (seen more : List Bool) → Full block seen → length seen ≡ n
    → block + good_run (take (n - block) (drop block (seen ++ more))) ≡ n
full_end block n seen more h le =
    let d : length (drop block seen) ≡ length seen - block = length-drop block seen in
    let r = run_whole (drop block seen) more (n - block) (full_run block seen h) (omega arith) in
    rw (drop-append-le block seen more (omega (arith, h))) (omega (arith, r, h))

-- an expected block is bad
pub moved_bad : (p : Position) (sect block : ℕ) (s : Section) (seen more : List Bool)
    → Full block seen → length seen < length s.blocks
    → moved p sect block s (seen ++ false ∷ more) ≡ stopped p sect block (length seen)
moved_bad p sect block s seen more h lt =
    let t : ltb (length seen) (length s.blocks) ≡ true = grind (arith, nat_tests) in
    let u : ltb (length s.blocks) block ≡ false =
    (let le : block ≤ length seen = omega (arith, h) in grind (arith, nat_tests)) in
    rw (full_bad block (length s.blocks) seen more h (omega arith), t, u) refl

-- all blocks were read, and further items after them
pub moved_all : (p : Position) (sect block : ℕ) (s : Section) (seen rest : List Bool)
    → Full block seen → length seen ≡ length s.blocks → moved p sect block s (seen ++ rest)
    ≡ cond (both_good rest) (behind sect s) (stopped p sect block (length s.blocks))
moved_all p sect block s seen rest h e =
    let t : ltb (length s.blocks) (length s.blocks) ≡ false = grind (arith, nat_tests) in
    let u : ltb (length s.blocks) block ≡ false =
    (let le : block ≤ length s.blocks = omega (arith, h, e) in grind (arith, nat_tests)) in
    rw (
      full_end block (length s.blocks) seen rest h e,
      t,
      u,
      drop_at seen rest (length s.blocks) e,
    ) refl

-- while the data are read, the position is at the block that was reached
pub moved_short : (p : Position) (sect block : ℕ) (s : Section) (seen : List Bool)
    → block ≤ length s.blocks → length seen ≤ length s.blocks
    → moved p sect block s seen ≡ stopped p sect block (block + good_run (drop block seen))
moved_short p sect block s seen h le =
    let u : ltb (length s.blocks) block ≡ false = grind (arith, nat_tests) in
    let all : take (length s.blocks - block) (drop block seen) ≡ drop block seen =
    take_all (length s.blocks - block) (drop block seen) (simp length-drop (omega arith)) in
    let none : drop (length s.blocks) seen ≡ [] = drop_all (length s.blocks) seen le in
    let run : good_run (drop block seen) ≤ length seen - block =
    simp length-drop at (run_all (drop block seen)) in
    rw (u, all, none) (go (ltb (block + good_run (drop block seen)) (length s.blocks)) refl run)
  where
    go : (t : Bool) → ltb (block + good_run (drop block seen)) (length s.blocks) ≡ t
        → good_run (drop block seen) ≤ length seen - block
        → cond t (stopped p sect block (block + good_run (drop block seen))) (stopped p sect block
        (length s.blocks)) ≡ stopped p sect block (block + good_run (drop block seen))
    go true e run = refl
    go false e run =
        let same : length s.blocks ≡ block + good_run (drop block seen) =
        grind (arith, nat_tests) in
        ap (λ n. stopped p sect block n) same

-- ---- the position while a block is expected

pub stopped_block : (sect block part n : ℕ)
    → block_of (stopped (Awaits sect block part) sect block n) ≡ n
stopped_block sect block part n = go (n == block) refl
  where
    go : (t : Bool) → (n == block) ≡ t
        → block_of (cond t (Awaits sect block part) (awaiting sect n)) ≡ n
    go true e = grind (arith, nat_tests)
    go false e = refl

pub stopped_waits : (sect block part n : ℕ)
    → Finished ≡ stopped (Awaits sect block part) sect block n → ⊥
stopped_waits sect block part n = go (n == block)
  where
    go : (t : Bool) → Finished ≡ cond t (Awaits sect block part) (awaiting sect n) → ⊥
    go true e = cc
    go false e = cc

pub stopped_later : (p : Position) (sect block n : ℕ) → block < n
    → stopped p sect block n ≡ awaiting sect n
stopped_later p sect block n lt =
    let t : (n == block) ≡ false = grind (arith, nat_tests) in
    rw t refl

pub stopped_here : (p : Position) (sect block : ℕ) → stopped p sect block block ≡ p
stopped_here p sect block = let t : (block == block) ≡ true = eq-eqb block block refl in rw t refl

-- entries that were not passed are not passed with one more
pub passes_stays_bad : (good : List Bool) (g : Bool) (done : List Entry) (e : Entry)
    → length done ≡ length good → passes good done ≡ false
    → passes (good ++ g ∷ []) (done ++ e ∷ []) ≡ false
passes_stays_bad good g [] e n h = absurd (cc)
passes_stays_bad [] g (d ∷ done) e n h = absurd (omega arith)
passes_stays_bad (b ∷ good) g (d ∷ done) e n h =
    go (b || is_data d) h (passes_stays_bad good g done e (omega arith))
  where
    go : (v : Bool) → (v && passes good done) ≡ false
        → (passes good done ≡ false → passes (good ++ g ∷ []) (done ++ e ∷ []) ≡ false)
        → (v && passes (good ++ g ∷ []) (done ++ e ∷ [])) ≡ false
    go true hv ih = ih hv
    go false hv ih = refl

pub or_true : (g : Bool) → (g || true) ≡ true
or_true true = refl
or_true false = refl

pub both_false : (more : List Bool) → both_good (false ∷ more) ≡ false
both_false [] = refl
both_false (b ∷ more) = refl
