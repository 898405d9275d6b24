-- A body that was written is read back.
use Rattle.std.proofs.Common.{◌≡◌, ℕ, Bool, true, false, cond, List, ◌++◌, length, take, drop}
use Rattle.std.proofs.Common.{replicate, Option, Some, None, refl, ap, ◌∙◌, arith, length-append}
use Rattle.std.proofs.Common.{◌+◌, ◌==◌, [], ◌∷◌, get_or, sym, subst, append-nil}
use Rattle.std.proofs.lemmas.List.{take_at, drop_at, get_or_at, nil_from_length, drop_all}
use Rattle.std.specs.{Str.all_ascii_digits, Result.result_ok}
use Rattle.tape_label.specs.Digits.{digits, number_of}
use Rattle.tape_label.proofs.DigitLaws.{length-digits, all_ascii_digits-digits, number_of-digits}
use Rattle.tape_core.specs.Point.{Point}
use Rattle.tape_stage.specs.Body.{Slot, point_text, body_text, with_generation, body_of, FitBody}
use Rattle.tape_stage.specs.Staged.{gate_at, body_at, Holding, Loses, Ready, blank}
use Rattle.tape_stage.specs.{declared.point.Version.TheVariants.Two, Text.IsPointText}
use Rattle.tape_stage.specs.{Reading.point_in, Disk.Holds, Disk.Only}
use Rattle.tape_stage.proofs.PointLaws.{wide_only, text_size}
use Rattle.tape_stage.proofs.Tears.{closed_none, none_loses}

length-point : (point : Point) → IsPointText Two (point_text point) point
    → length (point_text point) ≡ 80
length-point point is = text_size _ _ _ is

pub length-body : (g : ℕ) (point : Point) → FitBody g point → length (body_text g point) ≡ 127
unfolding body_text
length-body g point fit = omega (
  arith,
  length-append (digits 15 g) (point_text point ++ replicate 32 32),
  length-append (point_text point) (replicate 32 32),
  length-digits 15 g,
  length-point _ fit.text,
)

body_is : (G P R : List ℕ) (g : ℕ) (f : Point) → length G ≡ 15 → length P ≡ 80 → all_ascii_digits G
    ≡ true → number_of G ≡ g → point_in P ≡ Some f → body_of (G ++ (P ++ R)) ≡ Some (g, f)
unfolding body_of
body_is G P R g f long size digits value says =
    let front : take 15 (G ++ (P ++ R)) ≡ G = take_at G (P ++ R) 15 long in
    let text : take 80 (drop 15 (G ++ (P ++ R))) ≡ P =
    ap (take 80) (drop_at G (P ++ R) 15 long) ∙ take_at P R 80 size in
    rw (front, text, digits, value, says) refl

pub body_reads : (g : ℕ) (point : Point) → FitBody g point → body_of (body_text g point) ≡ Some
    (g, point)
unfolding body_text
body_reads g point fit = body_is (digits 15 g) (point_text point) (replicate 32 32) _ point
    (length-digits 15 g) (length-point _ fit.text) (all_ascii_digits-digits 15 g)
    (number_of-digits 15 g fit.generation) (ap result_ok (wide_only _ _ _ fit.text))

-- ---- a body that was read

digits_none : (b : Bool) (n : ℕ) (s : Option Slot) → cond b (Some n) None ≡ None
    → cond b s None ≡ None
digits_none true n s e = absurd cc
digits_none false n s e = refl

digits_some : (b : Bool) (n m : ℕ) (f : Option Point) → cond b (Some n) None ≡ Some m
    → cond b (with_generation n f) None ≡ with_generation m f
digits_some true n m f e = let same : n ≡ m = cc in ap (λ (k : ℕ). with_generation k f) same
digits_some false n m f e = absurd cc

pub body_none : (body : List ℕ) → cond (all_ascii_digits (take 15 body))
    (Some (number_of (take 15 body))) None ≡ None → body_of body ≡ None
unfolding body_of
body_none body e = digits_none (all_ascii_digits (take 15 body)) (number_of (take 15 body))
    (with_generation (number_of (take 15 body)) (point_in (take 80 (drop 15 body)))) e

pub body_some : (body : List ℕ) (m : ℕ) (f : Option Point) → cond (all_ascii_digits (take 15 body))
    (Some (number_of (take 15 body))) None ≡ Some m → point_in (take 80 (drop 15 body)) ≡ f
    → body_of body ≡ with_generation m f
unfolding body_of
body_some body m f e is = digits_some (all_ascii_digits (take 15 body)) (number_of (take 15 body)) m
    (point_in (take 80 (drop 15 body))) e ∙ ap (with_generation m) is

pub none_seen : (r : Option (ℕ × Point)) → r ≡ None → None ≡ r
none_seen r e = rw e refl

ready_text : (point : Point) (staged_none : point.staged ≡ 0) (bytes : List ℕ)
    (may_leave : List ℕ → Type 0) → FitBody 1 point → bytes ≡ 79 ∷ body_text 1 point
    ++ 67 ∷ blank → Only bytes may_leave → Ready false 1 point [] false bytes may_leave
ready_text point none bytes may_leave fit is only =
    let B = body_text 1 point in
    let size = length-body _ _ fit in
    let gate : gate_at true bytes ≡ 67 =
    ap (λ (l : List ℕ). get_or l 128 0) is ∙ get_or_at B 67 blank 0 127 size in
    let closed : gate_at true bytes ≡ 79 → ⊥ = λ open_now. absurd (omega (arith, gate, open_now)) in
    record {
      staged = record {
        is_open = ap (λ (l : List ℕ). get_or l 0 0) is;
        body =
            ap body_of (ap (λ (l : List ℕ). take 127 (drop 1 l)) is ∙ take_at B (67 ∷ blank) 127
            size) ∙ body_reads _ _ fit;
        other = subst (Loses false 1) (sym (closed_none (gate_at true bytes)
            (body_at true bytes) closed)) (none_loses false 1);
        parts_are = subst (λ (n : ℕ). Holding n [] bytes) (sym none) (record {
          long = omega (arith, ap length is, length-append B (67 ∷ blank), size);
          frames_are = refl;
          short = tt;
        });
      };
      gate = sym (ap (λ (n : ℕ). n == 79) gate);
      alike = λ c left. ap (take (256 + point.staged)) (only c left);
    }

pub made_ready : (point : Point) (s0 s1 s2 : List ℕ) (may_leave : List ℕ → Type 0)
    → point.staged ≡ 0 → FitBody 1 point
    → length s0 ≡ 0 → Holds s0 0 (67 ∷ body_text 1 point ++ 67 ∷ blank) s1 → Holds s1 0 (79 ∷ []) s2
    → Only s2 may_leave → Ready false 1 point [] false s2 may_leave
made_ready point s0 s1 s2 may_leave none fit empty first second only =
    let nil : s0 ≡ [] = nil_from_length s0 empty in
    let header : List ℕ = 67 ∷ (body_text 1 point ++ 67 ∷ blank) in
    let now : s1 ≡ header =
    first ∙ ap (λ (l : List ℕ). take 0 l ++ (header ++ drop (0 + length header) l)) nil ∙
    nothing_more header in
    ready_text _ none _ may_leave fit (second ∙ ap (λ (l : List ℕ). 79 ∷ drop 1 l) now) only
  where
    nothing_more : (l : List ℕ) → l ++ drop (0 + length l) [] ≡ l
    nothing_more l = ap (λ (r : List ℕ). l ++ r) (drop_all (0 + length l) [] (omega arith)) ∙
        append-nil l
