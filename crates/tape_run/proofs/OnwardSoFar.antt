-- The sections added after some items, also past items that break the order of a volume.
use Rattle.std.proofs.Common.{◌≡◌, ℕ, ◌+◌, ◌≤◌, List, [], ◌∷◌, ◌++◌, length, Option}
use Rattle.std.proofs.Common.{Result, Ok, Err, refl, sym, ap, subst, ◌∙◌, arith}
use Rattle.std.proofs.Common.{append-nil, append_assoc, length-append}
use Rattle.tape_image.specs.{Tape.TapeItem, Tape.block, Tape.bad, Tape.mark}
use Rattle.tape_image.specs.{Begins.Walks, Reader.IfKnown, Step.TakesItem}
use Rattle.tape_image.proofs.Walks.{known_start, known_item}
use Rattle.tape_label.specs.declared.{label.LabelFault.LabelFault, values.Head1.Head1}
use Rattle.tape_label.specs.Reading.{head1_at}
use Rattle.tape_run.specs.declared.passing.Phase.TheVariants.{Volume, Labels, Second, Headers, Data}
use Rattle.tape_run.specs.declared.passing.Phase.TheVariants.{Trailer, Trailers, Next, Over}
use Rattle.tape_run.specs.Passing.{Told, in_list, under_way, blocks_of}
use Rattle.tape_run.specs.WidePassing as Wide
use Rattle.tape_run.specs.Onward.{step, phase_after, told_from, met_in, past, past_block, goes_on}
use Rattle.tape_run.specs.{declared.passing.Phase.Phase, Noted.noted_all}
use Rattle.tape_run.proofs.{KeepingPlaces.noted_all-append, WideSoFar.wide_block}

-- Of the bytes `all` the items up to an offset were read, and `left` is left; the sections in these
-- items were added.
pub record SoFar (all left : Option (List ℕ)) (place count : ℕ) (old : List Told)
    (phase : Phase) (new : List Told) : Type 0 where
  pub items : List TapeItem
  pub known : IfKnown all left (λ xs ys. Walks 0 xs items place ys)
  pub counted : length items ≡ count
  pub stands : phase ≡ phase_after Volume items
  pub noted : new ≡ noted_all old (told_from Volume items)

abbrev pub starts : (all left : Option (List ℕ)) (place : ℕ) (old : List Told) → place ≡ 0
    → left ≡ all → SoFar all left place 0 old Volume old
starts all left place old first same =
    let P : ℕ → Type 0 = λ p. IfKnown all left (λ xs ys. Walks 0 xs [] p ys) in
    record {
      items = [];
      known = subst P (sym first) (known_start all left 0 same);
      counted = refl;
      stands = refl;
      noted = refl;
    }

pub phase_after-append : (p : Phase) (xs ys : List TapeItem)
    → phase_after p (xs ++ ys) ≡ phase_after (phase_after p xs) ys
phase_after-append p [] ys = refl
phase_after-append p (x ∷ xs) ys = phase_after-append (step p x).0 xs ys

pub told_from-append : (p : Phase) (xs ys : List TapeItem)
    → told_from p (xs ++ ys) ≡ told_from p xs ++ told_from (phase_after p xs) ys
told_from-append p [] ys = refl
told_from-append p (x ∷ xs) ys =
    ap (λ (r : List Told). in_list (step p x).1 ++ r) (told_from-append (step p x).0 xs ys)
    ∙ sym (append_assoc (in_list (step p x).1) (told_from (step p x).0 xs)
    (told_from (phase_after (step p x).0 xs) ys))

abbrev pub one_more : (all left next : Option (List ℕ)) (p q count : ℕ) (item : TapeItem)
    (old : List Told)
    (phase after : Phase) (mid new : List Told)
    → SoFar all left p count old phase mid
    → IfKnown left next (TakesItem p item q) → after ≡ (step phase item).0
    → new ≡ noted_all mid (in_list (step phase item).1)
    → SoFar all next q (count + 1) old after new
one_more all left next p q count item old phase after mid new s takes goes notes = record {
  items = s.items ++ item ∷ [];
  known = known_item all left next 0 p q s.items item s.known takes;
  counted = length-append s.items (item ∷ []) ∙ ap (λ n. n + 1) s.counted;
  stands = goes ∙ ap (λ (r : Phase). (step r item).0) s.stands
      ∙ sym (phase_after-append Volume s.items (item ∷ []));
  noted =
      let told : told_from Volume (s.items ++ item ∷ [])
      ≡ told_from Volume s.items ++ in_list (step phase item).1 =
      told_from-append Volume s.items (item ∷ [])
      ∙ ap (λ (r : List Told). told_from Volume s.items ++ r) (append-nil
      (in_list (step (phase_after Volume s.items) item).1))
      ∙ ap (λ (r : Phase). told_from Volume s.items ++ in_list (step r item).1) (sym s.stands) in
      notes ∙ ap (λ (r : List Told). noted_all r (in_list (step phase item).1)) s.noted
      ∙ sym (noted_all-append old (told_from Volume s.items) (in_list (step phase item).1))
      ∙ ap (noted_all old) (sym told);
}

-- the sections added at the end
pub all_noted : (all left : Option (List ℕ)) (p count : ℕ) (old : List Told)
    (phase : Phase) (mid new : List Told)
    → (s : SoFar all left p count old phase mid)
    → new ≡ noted_all mid (in_list (under_way phase)) → new ≡ noted_all old (met_in s.items)
all_noted all left p count old phase mid new s notes = grind (arith, noted_all-append)

-- ---- the number of blocks

past_label : (p : Phase) (r : Result Head1 LabelFault)
    → blocks_of (past_block p r) ≤ blocks_of p + 1
past_label Over r = omega arith
past_label Volume (Ok head) = omega arith
past_label Volume (Err f) = omega arith
past_label (Labels v) (Ok head) = omega arith
past_label (Labels v) (Err f) = omega arith
past_label (Second met) (Ok head) = omega arith
past_label (Second met) (Err f) = omega arith
past_label (Headers met) (Ok head) = omega arith
past_label (Headers met) (Err f) = omega arith
past_label (Data met) (Ok head) = omega arith
past_label (Data met) (Err f) = omega arith
past_label (Trailer met) (Ok head) = omega arith
past_label (Trailer met) (Err f) = omega arith
past_label (Trailers v) (Ok head) = omega arith
past_label (Trailers v) (Err f) = omega arith
past_label (Next v) (Ok head) = omega arith
past_label (Next v) (Err f) = omega arith

past_one : (p : Phase) (x : TapeItem) → blocks_of (past p x) ≤ blocks_of p + 1
past_one p (block b) = past_label p (head1_at b)
past_one Volume _ = omega arith
past_one (Labels v) _ = omega arith
past_one (Second met) _ = omega arith
past_one (Headers met) _ = omega arith
past_one (Data met) _ = omega arith
past_one (Trailer met) _ = omega arith
past_one (Trailers v) _ = omega arith
past_one (Next v) _ = omega arith
past_one Over _ = omega arith

goes_one : (p : Phase) (x : TapeItem) (q : Phase) (told : Option Told)
    → blocks_of q ≤ blocks_of p + 1 → blocks_of (goes_on p x (q, told)).0 ≤ blocks_of p + 1
goes_one p x Over told most = past_one p x
goes_one p x Volume told most = most
goes_one p x (Labels v) told most = most
goes_one p x (Second met) told most = most
goes_one p x (Headers met) told most = most
goes_one p x (Data met) told most = most
goes_one p x (Trailer met) told most = most
goes_one p x (Trailers v) told most = most
goes_one p x (Next v) told most = most

-- a step finds at most one data block
pub one_block : (p : Phase) (x : TapeItem) → blocks_of (step p x).0 ≤ blocks_of p + 1
one_block p x = goes_one p x (Wide.step p x).0 (Wide.step p x).1 (wide_block p x)
