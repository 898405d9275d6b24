-- The effect of buffered bytes on the results of reads, and on the contents that a crash may leave.
use Rattle.std.proofs.Common.{◌≡◌, inl, inr, ⊎_elim, ℕ, ◌+◌, ◌-◌, ◌≤◌, ◌<◌, List, [], ◌++◌, length}
use Rattle.std.proofs.Common.{take, drop, sym, ap, ◌∙◌, subst, arith, length-append, length-drop}
use Rattle.std.proofs.Common.{Bool, true, false, refl, append_assoc}
use Rattle.std.specs.List.{slice_range}
use Rattle.std.proofs.lemmas.List.{length-take-le, take_at, drop_at, take-append-drop, drop-drop}
use Rattle.std.proofs.lemmas.List.{take_all}
use Rattle.std.proofs.{lemmas.List.take-append-le, lemmas.List.Folds.drop_split}
use Rattle.std.proofs.{lemmas.Bool.cases_lt, Math.ListN.drop_of_length-le, Math.Seq.take-add}
use Rattle.tape_stage.specs.Calls.{over}
use Rattle.tape_stage.specs.Disk.{Torn, Elapses, NoMore, Holds, Allows, Follows}
use Rattle.tape_stage.specs.Holding.{with_held, unwritten, LeftTorn, LeftSince, torn_same}
use Rattle.tape_stage.proofs.Torn.{alike_less, alike_piece, later_rest}

-- nothing is torn
pub torn_none : (p : ℕ) (d c : List ℕ) → Torn p 0 d c → c ≡ d
torn_none p d c torn = sym (take-append-drop p c) ∙ ap (λ (l : List ℕ). l ++ drop p c) torn.before
    ∙ ap (λ (l : List ℕ). take p d ++ l) (subst (λ (k : ℕ). drop k c ≡ drop k d) none torn.after)
    ∙ take-append-drop p d
  where
    none : p + 0 ≡ p
    none = omega arith

pub left_none : (leaves : List ℕ → Type 0) (p : ℕ) (bytes c : List ℕ) → bytes ≡ []
    → LeftTorn leaves p bytes c → leaves c
left_none leaves p bytes c none left = subst leaves
    (sym (torn_none _ _ _ (subst (λ (l : List ℕ). Torn p (length l) left.0 c) none left.2))) left.1

pub none_left : (leaves : List ℕ → Type 0) (p : ℕ) (bytes c : List ℕ) → leaves c
    → LeftTorn leaves p bytes c
none_left leaves p bytes c left = (c, left, torn_same p (length bytes) c)

-- no time passes
pub elapses_self : (m : ℕ) (past : ℕ → List ℕ → Type 0) (leaves : List ℕ → Type 0)
    → Elapses m m past past leaves
elapses_self m past leaves =
    record { later = omega arith; nothing_else = λ t c le was. inl was; keeps = λ t c le was. was }

-- time passes on the disk; the contents with the buffered bytes torn in remain possible
pub held_elapses : (m0 m1 : ℕ) (past0 past1 : ℕ → List ℕ → Type 0)
    (leaves0 leaves1 : List ℕ → Type 0) (s0 s1 : ℕ) (b0 b1 : List ℕ)
    → Elapses m0 m1 past0 past1 leaves1 → ((t : ℕ) (c : List ℕ) → t ≤ m0
    → LeftTorn leaves0 s0 b0 c → LeftSince past1 leaves1 s1 b1 t c)
    → Elapses m0 m1 (LeftSince past0 leaves0 s0 b0) (LeftSince past1 leaves1 s1 b1)
    (LeftTorn leaves1 s1 b1)
held_elapses m0 m1 past0 past1 leaves0 leaves1 s0 s1 b0 b1 time held = record {
  later = time.later;
  nothing_else = λ t c le was. ⊎_elim
      (λ there. ⊎_elim (λ before. inl (inl before)) (λ now. inr (none_left leaves1 s1 b1 c now))
      (time.nothing_else t c le there)) (λ now. inr now) was;
  keeps = λ t c le was. ⊎_elim (λ before. inl (time.keeps t c le before)) (held t c le) was;
}

-- a disk is read twice
pub reads_elapse : {m0 m1 m2 : ℕ} {past0 past1 past2 : ℕ → List ℕ → Type 0}
    {leaves0 leaves1 leaves2 : List ℕ → Type 0} → Elapses m0 m1 past0 past1 leaves1
    → Elapses m1 m2 past1 past2 leaves2 → NoMore leaves0 leaves1
    → ((t : ℕ) (c : List ℕ) → t ≤ m0 → leaves0 c → past0 t c) → Elapses m0 m2 past0 past2 leaves2
reads_elapse first second more counts = record {
  later = omega (arith, first.later, second.later);
  nothing_else = λ t c le was. ⊎_elim
      (λ mid. ⊎_elim (λ old. inl old) (λ now. inl (counts t c le (more c now)))
      (first.nothing_else t c le mid))
      (λ now. inr now) (second.nothing_else t c (omega (arith, le, first.later)) was);
  keeps = λ t c le was. second.keeps t c (omega (arith, le, first.later)) (first.keeps t c le was);
}

-- the buffer is written, and then a call is made on the disk
pub then_elapses : {m0 m1 m2 : ℕ} {past0 past1 past2 : ℕ → List ℕ → Type 0}
    {leaves0 leaves1 leaves2 : List ℕ → Type 0} {s0 s1 s2 : ℕ} {b1 : List ℕ} (b0 b2 : List ℕ)
    → Elapses m0 m1 (LeftSince past0 leaves0 s0 b0) (LeftSince past1 leaves1 s1 b1)
    (LeftTorn leaves1 s1 b1) → Elapses m1 m2 past1 past2 leaves2 → b1 ≡ []
    → NoMore (LeftTorn leaves0 s0 b0) (LeftTorn leaves1 s1 b1)
    → ((t : ℕ) (c : List ℕ) → t ≤ m1 → leaves1 c → past1 t c)
    → Elapses m0 m2 (LeftSince past0 leaves0 s0 b0) (LeftSince past2 leaves2 s2 b2)
    (LeftTorn leaves2 s2 b2)
then_elapses {leaves1 = leaves1} {leaves2 = leaves2} {s1 = s1} {s2 = s2} b0 b2 first second none
    crash counts = record {
      later = omega (arith, first.later, second.later);
      nothing_else = λ t c le was. ⊎_elim
          (λ there. ⊎_elim
          (λ before. ⊎_elim (λ old. inl old) (λ mid. inl (inr (crash c mid)))
          (first.nothing_else t c le (inl before)))
          (λ now. inr (none_left leaves2 s2 b2 c now))
          (second.nothing_else t c (omega (arith, le, first.later)) there))
          (λ now. inr now) was;
      keeps = λ t c le was. ⊎_elim
          (λ before. inl (second.keeps t c (omega (arith, le, first.later)) before))
          (λ now. inl (second.keeps t c (omega (arith, le, first.later))
          (counts t c (omega (arith, le, first.later)) (left_none leaves1 s1 _ c none now))))
          (first.keeps t c le was);
    }

-- the contents that a crash may leave after the buffer is written and a call is made on the disk
module _ (old mid new : List ℕ → Type 0) {s0 s1 : ℕ} (b0 b1 : List ℕ) where
  pub then_stays : b0 ≡ [] → NoMore (LeftTorn mid s0 b0) old → NoMore new mid
      → NoMore (LeftTorn new s1 b1) old
  then_stays none stays more c left = none_left new s1 b1 c
      (more c (left_none mid s0 _ c none (stays c left)))

  pub then_follows : (step : List ℕ → List ℕ → Type 0) → b1 ≡ [] → NoMore old (LeftTorn mid s0 b0)
      → Follows step mid new → Follows step old (LeftTorn new s1 b1)
  then_follows step none crash follows c left =
      let (d, was, stepped) = follows c (left_none new s1 _ c none left) in
      (d, crash d (none_left mid s0 b0 d was), stepped)

  pub then_allows : (step : List ℕ → List ℕ → Type 0) → b0 ≡ [] → NoMore (LeftTorn mid s0 b0) old
      → Allows step mid new → Allows step old (LeftTorn new s1 b1)
  then_allows step none stays allows d c left torn = none_left new s1 b1 c
      (allows d c (left_none mid s0 _ d none (stays d left)) torn)

-- two torn writes, one after the other, are one torn write
pub torn_one : (p m n : ℕ) (d e c : List ℕ) → Torn p m d e → Torn (p + m) n e c → Torn p (m + n) d c
torn_one p m n d e c first second = record {
  before = alike_less (p + m) p e c (omega arith) second.before ∙ first.before;
  after = later_rest (p + m + n) (p + (m + n)) _ _ (omega arith) second.after
      ∙ later_rest (p + m) (p + (m + n)) _ _ (omega arith) first.after;
  no_shorter = omega (arith, first.no_shorter, second.no_shorter);
  no_longer = omega (arith, first.no_longer, second.no_longer);
}

-- more bytes are buffered
pub more_open : (leaves : List ℕ → Type 0) (p : ℕ) (bytes more : List ℕ) (d c : List ℕ)
    → LeftTorn leaves p bytes d → Torn (p + length bytes) (length more) d c
    → LeftTorn leaves p (bytes ++ more) c
more_open leaves p bytes more d c left torn = (
  left.0,
  left.1,
  subst (λ (n : ℕ). Torn p n left.0 c) (sym (length-append bytes more))
      (torn_one _ _ _ _ _ _ left.2 torn),
)

pub more_stays : (leaves : List ℕ → Type 0) (p : ℕ) (bytes more : List ℕ) (c : List ℕ)
    → LeftTorn leaves p bytes c → LeftTorn leaves p (bytes ++ more) c
more_stays leaves p bytes more c left = more_open leaves p bytes more _ _ left
    (torn_same (p + length bytes) (length more) c)

-- one torn write is two torn writes, one after the other
pub torn_two : (p m n : ℕ) (d c : List ℕ) → Torn p (m + n) d c
    → (e : List ℕ) × Torn p m d e × Torn (p + m) n e c
torn_two p m n d c torn = ⊎_elim
    (λ (short : length c < p + m).
    let none : drop (p + m) c ≡ drop (p + m) d = drop_of_length-le c (omega (arith, short))
    ∙ sym (drop_of_length-le d (omega (arith, short, torn.no_shorter))) in (
      c,
      record {
        before = torn.before;
        after = none;
        no_shorter = torn.no_shorter;
        no_longer = omega (arith, short);
      },
      torn_same (p + m) n c,
    )) (λ (long : p + m ≤ length c).
    let front : length (take (p + m) c) ≡ p + m = length-take-le (p + m) c long in
    let all : length (take (p + m) c ++ drop (p + m) d) ≡ (p + m) + (length d - (p + m)) =
    omega (arith, front, length-append (take (p + m) c) (drop (p + m) d), length-drop (p + m) d) in
    let rest : drop (p + m) (take (p + m) c ++ drop (p + m) d) ≡ drop (p + m) d =
    drop_at (take (p + m) c) (drop (p + m) d) (p + m) front in
    let low : take (p + m) (take (p + m) c ++ drop (p + m) d) ≡ take (p + m) c =
    take_at (take (p + m) c) (drop (p + m) d) (p + m) front in
    let first : Torn p m d (take (p + m) c ++ drop (p + m) d) = record {
      before = alike_less (p + m) p c (take (p + m) c ++ drop (p + m) d) (omega arith) low
          ∙ torn.before;
      after = rest;
      no_shorter = omega (arith, all);
      no_longer = omega (arith, all);
    } in
    let assoc : p + (m + n) ≡ p + m + n = omega arith in (
      take (p + m) c ++ drop (p + m) d,
      first,
      record {
        before = sym low;
        after = subst (λ (k : ℕ). drop k c ≡ drop k d) assoc torn.after
            ∙ sym (later_rest (p + m) (p + m + n) _ _ (omega arith) first.after);
        no_shorter = omega (arith, all, torn.no_shorter, long);
        no_longer = omega (arith, all, torn.no_longer);
      },
    )) (cases_lt (length c) (p + m))

-- the buffered bytes with more bytes after them
pub holds_more : (p : ℕ) (bytes more old : List ℕ) → p ≤ length old
    → Holds (with_held p bytes old) (p + length bytes) more (with_held p (bytes ++ more) old)
holds_more p bytes more old le =
    let w : List ℕ = with_held p bytes old in
    let front : length (take p old ++ bytes) ≡ p + length bytes =
    omega (arith, length-append (take p old) bytes, length-take-le p old le) in
    let low : take (p + length bytes) w ≡ take p old ++ bytes =
    take_at (take p old ++ bytes) (drop (p + length bytes) old) (p + length bytes) front in
    let rest : drop (p + length bytes + length more) w ≡ drop (p + length bytes + length more) old =
    later_rest (p + length bytes) _ _ _ (omega arith) (over p bytes old le).after in
    let count : p + length (bytes ++ more) ≡ p + length bytes + length more =
    omega (arith, length-append bytes more) in
    ap (λ (n : ℕ). take p old ++ (bytes ++ more) ++ drop n old) count
    ∙ ap (λ (l : List ℕ). l ++ drop (p + length bytes + length more) old)
    (sym (append_assoc (take p old) bytes more))
    ∙ ap (λ (l : List ℕ). l ++ more ++ drop (p + length bytes + length more) old) (sym low)
    ∙ ap (λ (l : List ℕ). take (p + length bytes) w ++ more ++ l) (sym rest)

-- bytes were appended to the buffer
module _ (leaves : List ℕ → Type 0) (p place : ℕ) (bytes more : List ℕ)
    (end : p + length bytes ≡ place) where
  pub added_follows : Follows (Torn place (length more)) (LeftTorn leaves p bytes)
      (LeftTorn leaves p (bytes ++ more))
  added_follows c left =
      let (e, first, second) = torn_two _ (length bytes) (length more) _ _
      (subst (λ (n : ℕ). Torn p n left.0 c) (length-append bytes more) left.2) in
      (e, (left.0, left.1, first), subst (λ (n : ℕ). Torn n (length more) e c) end second)

  pub added_allows : Allows (Torn place (length more)) (LeftTorn leaves p bytes)
      (LeftTorn leaves p (bytes ++ more))
  added_allows d c left torn = more_open leaves p bytes more _ _ left
      (subst (λ (n : ℕ). Torn n (length more) d c) (sym end) torn)

-- the buffer was written, and then bytes were buffered
pub begun_allows : (leaves old : List ℕ → Type 0) (p place : ℕ) (none bytes : List ℕ) → none ≡ []
    → NoMore (LeftTorn leaves p none) old
    → Allows (Torn place (length bytes)) old (LeftTorn leaves place bytes)
begun_allows leaves old p place none bytes is stays d c left torn =
    (d, left_none leaves p _ d is (stays d left), torn)

-- a write that is torn twice
pub torn_both : (p n : ℕ) (d e c : List ℕ) → Torn p n d e → Torn p n e c → Torn p n d c
torn_both p n d e c first second = record {
  before = second.before ∙ first.before;
  after = second.after ∙ first.after;
  no_shorter = omega (arith, first.no_shorter, second.no_shorter);
  no_longer = omega (arith, first.no_longer, second.no_longer);
}

-- ---- bytes that the disk has

pub all_written : (on_disk : Bool) (bytes : List ℕ) → on_disk ≡ true → unwritten on_disk bytes ≡ []
all_written true bytes on = refl
all_written false bytes on = absurd (cc on)

pub none_written : (on_disk : Bool) (bytes : List ℕ) → on_disk ≡ false
    → unwritten on_disk bytes ≡ bytes
none_written true bytes on = absurd (cc on)
none_written false bytes on = refl

-- writing bytes over themselves changes nothing
pub held_same : (p : ℕ) (bytes xs : List ℕ) → bytes ≡ slice_range xs p (p + length bytes)
    → with_held p bytes xs ≡ xs
held_same p bytes xs same = append_assoc (take p xs) bytes (drop (p + length bytes) xs)
    ∙ ap (λ (l : List ℕ). take p xs ++ l)
    (ap (λ (b : List ℕ). b ++ drop (p + length bytes) xs) same
    ∙ sym (drop_split xs p (p + length bytes) (omega arith))) ∙ take-append-drop p xs

-- a slice of the buffered bytes is a slice of the bytes that reads return
pub held_piece : (p at n place : ℕ) (bytes old : List ℕ) → place ≡ p + at → p ≤ length old
    → at + n ≤ length bytes
    → take n (drop at bytes) ≡ slice_range (with_held p bytes old) place (place + n)
held_piece p at n place bytes old there le few =
    let all : List ℕ = take p old ++ bytes in
    let long : length all ≡ p + length bytes =
    omega (arith, length-append (take p old) bytes, length-take-le p old le) in
    ap (take n) (ap (drop at) (sym (drop_at (take p old) bytes p (length-take-le p old le)))
    ∙ drop-drop at p all ∙ ap (λ k. drop k all) (sym there))
    ∙ sym (alike_piece (p + length bytes) place n all (with_held p bytes old)
    (omega (arith, there, few)) (take-append-le (p + length bytes) all
    (drop (p + length bytes) old) (omega (arith, long))))
    ∙ ap (λ k. take k (drop place (with_held p bytes old))) (omega arith)

-- bytes written twice are there as if they were written once
pub held_twice : (p : ℕ) (bytes old : List ℕ) → p ≤ length old
    → with_held p bytes (with_held p bytes old) ≡ with_held p bytes old
held_twice p bytes old le = held_same p bytes (with_held p bytes old)
    (sym (take_all (length bytes) bytes (omega arith))
    ∙ held_piece p 0 (length bytes) p bytes old (omega arith) le (omega arith))

-- two consecutive slices are a slice of both lengths
pub slices_join : (xs front rest : List ℕ) (place n m size : ℕ) → n + m ≡ size
    → front ≡ take (place + n - place) (drop place xs)
    → rest ≡ take (place + n + m - (place + n)) (drop (place + n) xs)
    → front ++ rest ≡ take (place + size - place) (drop place xs)
slices_join xs front rest place n m size all first second =
    let ys : List ℕ = drop place xs in
    let f : front ≡ take n ys = first ∙ ap (λ k. take k ys) (omega arith) in
    let r : rest ≡ take m (drop n ys) = second ∙ ap (λ k. take k (drop (place + n) xs))
    (omega arith) ∙ ap (take m) (sym (drop-drop n place xs)) in
    ap (λ l. l ++ rest) f ∙ ap (λ l. take n ys ++ l) r ∙ sym (take-add n m ys)
    ∙ ap (λ k. take k ys) (omega (arith, all))
