-- Reading the merged image once moves a position at least as far as reading its copies again and
-- again.
use Rattle.std.proofs.Common.{◌≡◌, ◌<◌, ◌≤◌, ◌⊎◌, inl, inr, ℕ, zero, suc, ◌+◌, ◌-◌, List, [], ◌∷◌}
use Rattle.std.proofs.Common.{length, take, drop, Bool, true, false, cond, ltb, Option, Some, None}
use Rattle.std.proofs.Common.{refl, sym, ap, subst, ◌∙◌, arith, ◌==◌, ◌&&◌}
use Rattle.std.proofs.lemmas.Bool.Decides.{nat_tests}
use Rattle.std.specs.List.{AllByRecursion}
use Rattle.tape_set.specs.Reach.{far, far_in, far_over, before_data, passes, good_run, first_unread}
use Rattle.tape_set.specs.{declared.position.Position.Position, Laws.GoesOnOnNext, Reading.Reading}
use Rattle.tape_set.specs.declared.position.Position.TheVariants.{Awaits, Finished}
use Rattle.tape_set.specs.Position.{awaiting, next_section, IsUpTo}
use Rattle.tape_set.specs.Layout.{FileSet, Section, section_of, ends_file}
use Rattle.tape_set.specs.Reach.{both_good, stopped, moved, behind}
use Rattle.tape_set.proofs.Reaching.{and_left, first_unread_most, far_never_falls, up_to_behind}
use Rattle.tape_set.proofs.{Orders.up_to_same, Orders.up_to_end, AllVolumes.goes_on_on_next}
use Rattle.tape_set.proofs.Reaching.{far_better}
use Rattle.tape_run.specs.MergedCopies.{IsBetter, OnceIsEnough}
use Rattle.tape_run.proofs.MergedOrders.{up_trans, up_both, up_sect, up_block}

-- ---- the first block that was not read well is the same from any block before it

drop_nil : (d : ℕ) → drop {A = Bool} d [] ≡ []
drop_nil zero = refl
drop_nil (suc d) = refl

drop_at : (b c d : ℕ) (l : List Bool) → c ≡ b + d → drop c l ≡ drop d (drop b l)
drop_at zero c d l e = let z : c ≡ d = omega (arith, e) in ap (λ k. drop k l) z
drop_at (suc b) zero d l e = absurd (omega (arith, e))
drop_at (suc b) (suc c) d [] e = sym (drop_nil d)
drop_at (suc b) (suc c) d (x ∷ l) e = drop_at b c d l (omega (arith, e))

run_drop : (d m : ℕ) (l : List Bool) → d ≤ good_run (take m l)
    → d + good_run (take (m - d) (drop d l)) ≡ good_run (take m l)
run_drop zero m l le =
    let e : m - 0 ≡ m = omega arith in
    omega (arith, ap (λ k. good_run (take k l)) e)
run_drop (suc d) zero l le = absurd (omega (arith, le))
run_drop (suc d) (suc m) [] le = absurd (omega (arith, le))
run_drop (suc d) (suc m) (false ∷ l) le = absurd (omega (arith, le))
run_drop (suc d) (suc m) (true ∷ l) le =
    let ih : d + good_run (take (m - d) (drop d l)) ≡ good_run (take m l) =
    run_drop d m l (omega (arith, le)) in
    let e : suc m - suc d ≡ m - d = omega arith in
    omega (arith, ih, ap (λ k. good_run (take k (drop d l))) e)

first_same : (good : List Bool) (b c n : ℕ) → b ≤ n → b ≤ c → c ≤ first_unread good b n
    → first_unread good c n ≡ first_unread good b n
first_same good b c n le low high =
    let most : first_unread good b n ≤ n = first_unread_most good b n le in
    let e : c ≡ b + (c - b) = omega (arith, low) in
    let there : drop c good ≡ drop (c - b) (drop b good) = drop_at b c (c - b) good e in
    let k : n - c ≡ (n - b) - (c - b) = omega (arith, low, high, most) in
    let near : c - b ≤ good_run (take (n - b) (drop b good)) = omega (arith, low, high) in
    let run = run_drop (c - b) (n - b) (drop b good) near in
    let same : good_run (take (n - c) (drop c good))
    ≡ good_run (take ((n - b) - (c - b)) (drop (c - b) (drop b good))) =
    ap (λ x. good_run (take x (drop c good))) k
    ∙ ap (λ (l : List Bool). good_run (take ((n - b) - (c - b)) l)) there in
    omega (arith, run, same, e)

-- ---- where a reading moves a position in a section

data Goes (t b j : ℕ) (w : Section) (good : List Bool) (there : Position) : Type 0 where
  stays : there ≡ Awaits t b j → Goes t b j w good there
  reaches : b ≤ length w.blocks → first_unread good b (length w.blocks) < length w.blocks
      → there ≡ awaiting t (first_unread good b (length w.blocks)) → Goes t b j w good there
  completes : length w.blocks ≤ first_unread good b (length w.blocks)
      → both_good (drop (length w.blocks) good) ≡ true → there ≡ behind t w
      → Goes t b j w good there
  ends : b ≤ length w.blocks → length w.blocks ≤ first_unread good b (length w.blocks)
      → both_good (drop (length w.blocks) good) ≡ false → there ≡ awaiting t (length w.blocks)
      → Goes t b j w good there

goes : (t b j : ℕ) (w : Section) (good : List Bool)
    → Goes t b j w good (moved (Awaits t b j) t b w good)
goes t b j w good = one (ltb (length w.blocks) b) refl
  where
    at_block : (x : Bool) → b ≤ length w.blocks
        → first_unread good b (length w.blocks) < length w.blocks
        → Goes t b j w good
        (cond x (Awaits t b j) (awaiting t (first_unread good b (length w.blocks))))
    at_block true le lt = stays refl
    at_block false le lt = reaches le lt refl

    at_end : (x : Bool) → b ≤ length w.blocks
        → length w.blocks ≤ first_unread good b (length w.blocks)
        → both_good (drop (length w.blocks) good) ≡ false
        → Goes t b j w good (cond x (Awaits t b j) (awaiting t (length w.blocks)))
    at_end true le all off = stays refl
    at_end false le all off = ends le all off refl

    whole : (x : Bool) → both_good (drop (length w.blocks) good) ≡ x → b ≤ length w.blocks
        → length w.blocks ≤ first_unread good b (length w.blocks)
        → Goes t b j w good (cond x (behind t w) (stopped (Awaits t b j) t b (length w.blocks)))
    whole true e le all = completes all e refl
    whole false e le all = at_end (length w.blocks == b) le all e

    two : (x : Bool) → ltb (first_unread good b (length w.blocks)) (length w.blocks) ≡ x
        → b ≤ length w.blocks
        → Goes t b j w good (cond x
        (stopped (Awaits t b j) t b (first_unread good b (length w.blocks)))
        (cond (both_good (drop (length w.blocks) good)) (behind t w)
        (stopped (Awaits t b j) t b (length w.blocks))))
    two true e le =
        at_block (first_unread good b (length w.blocks) == b) le (grind (arith, nat_tests))
    two false e le =
        whole (both_good (drop (length w.blocks) good)) refl le (grind (arith, nat_tests))

    one : (x : Bool) → ltb (length w.blocks) b ≡ x
        → Goes t b j w good (cond x (Awaits t b j)
        (cond (ltb (first_unread good b (length w.blocks)) (length w.blocks))
        (stopped (Awaits t b j) t b (first_unread good b (length w.blocks)))
        (cond (both_good (drop (length w.blocks) good)) (behind t w)
        (stopped (Awaits t b j) t b (length w.blocks)))))
    one true e = stays refl
    one false e = two (ltb (first_unread good b (length w.blocks)) (length w.blocks)) refl
        (grind (arith, nat_tests))

-- ---- from a position on the way the same reading goes no further

-- the position to which a reading moves any position
abbrev moves : Section → List Bool → Position → Position
moves w good (Awaits t b j) = moved (Awaits t b j) t b w good
moves w good Finished = Finished

moved_within : (t b j c i : ℕ) (w : Section) (good : List Bool) (from there : Position)
    → IsUpTo (Awaits t b j) (Awaits t c i) → IsUpTo (Awaits t c i) from
    → from ≡ moved (Awaits t b j) t b w good → there ≡ moved (Awaits t c i) t c w good
    → Goes t b j w good from → Goes t c i w good there → IsUpTo there from
moved_within t b j c i w good from there below on is here (stays e) gone =
    let same : Awaits t c i ≡ Awaits t b j =
    up_both _ _ (subst (λ (x : Position). IsUpTo (Awaits t c i) x) e on) below in
    inr (here ∙ ap (moves w good) same ∙ sym is)
moved_within t b j c i w good from there below on is here (reaches le lt e) (stays f) =
    subst (λ (x : Position). IsUpTo x from) (sym f) on
moved_within t b j c i w good from there below on is here (reaches le lt e) (reaches lf lg f) =
    let n = length w.blocks in
    let high : c ≤ first_unread good b n = up_block t c i (first_unread good b n) 0
    (subst (λ (x : Position). IsUpTo (Awaits t c i) x) e on) in
    let same = first_same good b c n le (up_block t b j c i below) high in
    inr (f ∙ ap (awaiting t) same ∙ sym e)
moved_within t b j c i w good from there below on is here (reaches le lt e) (completes all u f) =
    let n = length w.blocks in
    let high : c ≤ first_unread good b n = up_block t c i (first_unread good b n) 0
    (subst (λ (x : Position). IsUpTo (Awaits t c i) x) e on) in
    let same = first_same good b c n le (up_block t b j c i below) high in
    absurd (omega (arith, same, all, lt))
moved_within t b j c i w good from there below on is here (reaches le lt e) (ends lf all u f) =
    let n = length w.blocks in
    let high : c ≤ first_unread good b n = up_block t c i (first_unread good b n) 0
    (subst (λ (x : Position). IsUpTo (Awaits t c i) x) e on) in
    let same = first_same good b c n le (up_block t b j c i below) high in
    absurd (omega (arith, same, all, lt))
moved_within t b j c i w good from there below on is here (completes all u e) (stays f) =
    subst (λ (x : Position). IsUpTo x from) (sym f) on
moved_within t b j c i w good from there below on is here (completes all u e) (reaches lf lg f) =
    subst (λ (x : Position). IsUpTo x from) (sym f)
    (subst (λ (x : Position). IsUpTo (awaiting t (first_unread good c (length w.blocks))) x) (sym e)
    (up_to_behind t (first_unread good c (length w.blocks)) 0 w))
moved_within t b j c i w good from there below on is here (completes all u e) (completes al v f) =
    inr (f ∙ sym e)
moved_within t b j c i w good from there below on is here (completes all u e) (ends lf al v f) =
    subst (λ (x : Position). IsUpTo x from) (sym f)
    (subst (λ (x : Position). IsUpTo (awaiting t (length w.blocks)) x) (sym e)
    (up_to_behind t (length w.blocks) 0 w))
moved_within t b j c i w good from there below on is here (ends le all u e) (stays f) =
    subst (λ (x : Position). IsUpTo x from) (sym f) on
moved_within t b j c i w good from there below on is here (ends le all u e) (reaches lf lg f) =
    let n = length w.blocks in
    let high : c ≤ n = up_block t c i n 0
    (subst (λ (x : Position). IsUpTo (Awaits t c i) x) e on) in
    let same = first_same good b c n le (up_block t b j c i below) (omega (arith, high, all)) in
    absurd (omega (arith, same, all, lg))
moved_within t b j c i w good from there below on is here (ends le all u e) (completes al v f) =
    absurd (cc (u, v))
moved_within t b j c i w good from there below on is here (ends le all u e) (ends lf al v f) =
    inr (f ∙ sym e)

later_or_same : (s t : ℕ) → s ≤ t → (s ≡ t) ⊎ (s < t)
later_or_same s t le = go (ltb s t) refl
  where
    go : (x : Bool) → ltb s t ≡ x → (s ≡ t) ⊎ (s < t)
    go true e = inr (grind (arith, nat_tests))
    go false e = inl (grind (arith, nat_tests))

-- no further than the start of a section, except in a later section
at_front : (t x c i : ℕ) → t < x → IsUpTo (Awaits x c i) (awaiting (t + 1) 0)
    → Awaits x c i ≡ awaiting (t + 1) 0
at_front t x c i lt (inr e) = e
at_front t x c i lt (inl (inl y)) = absurd (omega (arith, lt, y))
at_front t x c i lt (inl (inr (e, inl y))) = absurd (omega (arith, y))
at_front t x c i lt (inl (inr (e, inr (f, y)))) = absurd (omega (arith, y))

-- the reading of one volume
module _ (set : FileSet) (file : ℕ) (s : Reading) (lawful : GoesOnOnNext set) where
  abbrev past : ℕ → Section → Bool
  past t w = (w.volume == s.volume) && passes s.good (before_data set file t w)

  abbrev rest : ℕ → Section → List Bool
  rest t w = drop (length (before_data set file t w)) s.good

  far_is : (t b j : ℕ) (o : Option Section) → section_of set file t ≡ o
      → far set file (Awaits t b j) s ≡ far_in set file (Awaits t b j) t b s o
  far_is t b j o e = ap (far_in set file (Awaits t b j) t b s) e

  far_passed : (t b j : ℕ) (w : Section) (x : Bool) → section_of set file t ≡ Some w → past t w ≡ x
      → far set file (Awaits t b j) s
      ≡ cond x (moved (Awaits t b j) t b w (rest t w)) (Awaits t b j)
  far_passed t b j w x e f = far_is t b j (Some w) e
      ∙ ap (λ (y : Bool). cond y (moved (Awaits t b j) t b w (rest t w)) (Awaits t b j)) f

  -- a section that follows one on the volume is not on it
  far_next : (t : ℕ) (w : Section) (o : Option Section) → section_of set file t ≡ Some w
      → past t w ≡ true → section_of set file (t + 1) ≡ o
      → far set file (awaiting (t + 1) 0) s ≡ awaiting (t + 1) 0
  far_next t w None e f g = far_is (t + 1) 0 0 None g
  far_next t w (Some v) e f g =
      let here : (w.volume == s.volume) ≡ true =
      and_left (w.volume == s.volume) (passes s.good (before_data set file t w)) f in
      let next : v.volume ≡ w.volume + 1 = lawful file t w v e g in
      let off : (v.volume == s.volume) ≡ false = grind (arith, nat_tests) in
      far_passed (t + 1) 0 0 v false g
      (ap (λ (y : Bool). y && passes s.good (before_data set file (t + 1) v)) off)

  -- a position that is not further than its start, and not less far, is equal to it
  stayed : (p q : Position) → far set file p s ≡ p → IsUpTo p q → IsUpTo q (far set file p s)
      → IsUpTo (far set file q s) (far set file p s)
  stayed p q e below on =
      let same : q ≡ p = up_both q p (subst (λ (x : Position). IsUpTo q x) e on) below in
      inr (ap (λ (x : Position). far set file x s) same)

  same_section : (t b j c i : ℕ) (w : Section) → section_of set file t ≡ Some w → past t w ≡ true
      → IsUpTo (Awaits t b j) (Awaits t c i) → IsUpTo (Awaits t c i) (far set file (Awaits t b j) s)
      → IsUpTo (far set file (Awaits t c i) s) (far set file (Awaits t b j) s)
  same_section t b j c i w e f below on =
      let from = far_passed t b j w true e f in
      let there = far_passed t c i w true e f in
      moved_within t b j c i w (rest t w) (far set file (Awaits t b j) s)
      (far set file (Awaits t c i) s) below on from there
      (subst (λ (x : Position). Goes t b j w (rest t w) x) (sym from) (goes t b j w (rest t w)))
      (subst (λ (x : Position). Goes t c i w (rest t w) x) (sym there) (goes t c i w (rest t w)))

  later_section : (t b j x c i : ℕ) (w : Section) (from : Position) → section_of set file t ≡ Some w
      → past t w ≡ true → t < x → IsUpTo (Awaits x c i) from → Goes t b j w (rest t w) from
      → IsUpTo (far set file (Awaits x c i) s) from
  later_section t b j x c i w from e f lt on (stays g) =
      absurd (omega (
        arith,
        lt,
        up_sect x c i t b j
            (subst (λ (y : Position). IsUpTo (Awaits x c i) y) g on),
      ))
  later_section t b j x c i w from e f lt on (reaches le few g) =
      absurd (omega (
        arith,
        lt,
        up_sect x c i t (first_unread (rest t w) b (length w.blocks)) 0
            (subst (λ (y : Position). IsUpTo (Awaits x c i) y) g on),
      ))
  later_section t b j x c i w from e f lt on (ends le all u g) =
      absurd (omega (
        arith,
        lt,
        up_sect x c i t (length w.blocks) 0
            (subst (λ (y : Position). IsUpTo (Awaits x c i) y) g on),
      ))
  later_section t b j x c i w from e f lt on (completes all u g) = go (ends_file w) g
    where
      go : (z : Bool) → from ≡ cond z Finished (next_section (awaiting t 0))
          → IsUpTo (far set file (Awaits x c i) s) from
      go true h = subst (λ (y : Position). IsUpTo (far set file (Awaits x c i) s) y) (sym h)
          (up_to_end (far set file (Awaits x c i) s))
      go false h =
          let same : Awaits x c i ≡ awaiting (t + 1) 0 =
          at_front t x c i lt (subst (λ (y : Position). IsUpTo (Awaits x c i) y) h on) in
          inr (ap (λ (y : Position). far set file y s) same
          ∙ far_next t w (section_of set file (t + 1)) e f refl ∙ sym h)

  once : (p q : Position) → IsUpTo p q → IsUpTo q (far set file p s)
      → IsUpTo (far set file q s) (far set file p s)
  once Finished q below on = up_to_end (far set file q s)
  once (Awaits t b j) Finished below on = on
  once (Awaits t b j) (Awaits x c i) below on = go (section_of set file t) refl
    where
      passed : (w : Section) → section_of set file t ≡ Some w → past t w ≡ true → (t ≡ x) ⊎ (t < x)
          → IsUpTo (far set file (Awaits x c i) s) (far set file (Awaits t b j) s)
      passed w e f (inr lt) = later_section t b j x c i w (far set file (Awaits t b j) s) e f lt on
          (subst (λ (y : Position). Goes t b j w (rest t w) y) (sym (far_passed t b j w true e f))
          (goes t b j w (rest t w)))
      passed w e f (inl is) =
          subst (λ (y : ℕ).
          IsUpTo (far set file (Awaits y c i) s) (far set file (Awaits t b j) s)) is
          (same_section t b j c i w e f
          (subst (λ (y : ℕ). IsUpTo (Awaits t b j) (Awaits y c i)) (sym is) below)
          (subst (λ (y : ℕ). IsUpTo (Awaits y c i) (far set file (Awaits t b j) s)) (sym is) on))

      tried : (w : Section) (v : Bool) → section_of set file t ≡ Some w → past t w ≡ v
          → IsUpTo (far set file (Awaits x c i) s) (far set file (Awaits t b j) s)
      tried w true e f = passed w e f (later_or_same t x (up_sect t b j x c i below))
      tried w false e f =
          stayed (Awaits t b j) (Awaits x c i) (far_passed t b j w false e f) below on

      go : (o : Option Section) → section_of set file t ≡ o
          → IsUpTo (far set file (Awaits x c i) s) (far set file (Awaits t b j) s)
      go None e = stayed (Awaits t b j) (Awaits x c i) (far_is t b j None e) below on
      go (Some w) e = tried w (past t w) e refl

pub once_is_enough : OnceIsEnough
once_is_enough set file p rs s lawful all =
    go rs p (up_to_same p) (far_never_falls set file p s) all
  where
    go : (rs : List Reading) (q : Position) → IsUpTo p q → IsUpTo q (far set file p s)
        → AllByRecursion (λ r. IsBetter s r) rs → IsUpTo (far_over set file q rs) (far set file p s)
    go [] q below on all = on
    go (r ∷ rs) q below on all = go rs (far set file q r)
        (up_trans p q (far set file q r) below (far_never_falls set file q r))
        (up_trans (far set file q r) (far set file q s) (far set file p s)
        (far_better set file q r s all.0.0 all.0.1)
        (once set file s (goes_on_on_next set lawful) p q below on)) all.1
