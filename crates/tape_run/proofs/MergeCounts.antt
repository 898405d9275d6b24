-- Items that are written one after another, and counted.
use Rattle.std.proofs.Common.{◌≡◌, ℕ, zero, suc, ◌+◌, ◌<◌, ◌≤◌, List, [], ◌∷◌, ◌++◌, length, Option}
use Rattle.std.proofs.Common.{Some, None, Bool, true, false, refl, sym, ap, subst, ◌∙◌, arith}
use Rattle.std.proofs.Common.{length-append, ◌==◌}
use Rattle.tape_image.specs.Tape.{TapeItem, block, bad, mark}
use Rattle.tape_image.specs.{Begins.image_limit, Written.written}
use Rattle.tape_image.specs.Writer.{Writer, writing, PutItem, PutItems}
use Rattle.tape_image.proofs.WrittenItems.{put_item}
use Rattle.tape_run.specs.declared.passing.{Phase.Phase, Phase.TheVariants.Volume}
use Rattle.tape_run.specs.declared.{merge.Merged.Merged, section.SectionState.SectionState}
use Rattle.tape_run.specs.declared.section.SectionState.TheVariants as states
use Rattle.tape_run.specs.Passing.{Told, step, in_list, phase_after, told_from}
use Rattle.tape_run.specs.MergeSteps.{is_bad_one, one_if}
use Rattle.tape_run.specs.MergeCalls.{Counts, witnesses_at, alone_in, miscounted_in, miscounted_of}
use Rattle.tape_run.specs.MergeCalls.{has_wrong_count, Puts}
use Rattle.tape_run.proofs.MergeTaken.{bads-append}
use Rattle.tape_run.proofs.NotedSoFar.{phase_after-append, told_from-append}

-- ---- writing

pub put_one_more : (items : List TapeItem) (a b c : Writer) (x : TapeItem) → PutItems items a b
    → PutItem x b c → PutItems (items ++ x ∷ []) a c
put_one_more [] a b c x same put = (c, subst (λ (w : Writer). PutItem x w c) same put, refl)
put_one_more (y ∷ items) a b c x (mid, first, then) put =
    (mid, first, put_one_more items mid b c x then put)

written_some : (x : TapeItem) → 4 ≤ length (written x)
written_some (block bytes) = omega arith
written_some bad = omega arith
written_some mark = omega arith

pub put_moves : (x : TapeItem) (a b : Writer) → PutItem x a b
    → (a.size + 4 ≤ b.size) × (b.size ≤ image_limit) × (b.standing ≡ writing)
put_moves x a b put =
    let all = (put_item x a b put).1 in
    (omega (arith, all.size, written_some x), all.within, all.stands)

pub was_put : (best : Option TapeItem) (a b : Writer) → Puts best true a b
    → (x : TapeItem) × (best ≡ Some x) × PutItem x a b
was_put None a b h = absurd (cc h.0)
was_put (Some x) a b h = (x, refl, h.1)

pub was_none : (best : Option TapeItem) (a b : Writer) → Puts best false a b
    → (best ≡ None) × (b ≡ a)
was_none None a b h = (refl, h.1)
was_none (Some x) a b h = absurd (cc h.0)

-- ---- counting

pub alone_kept : (n : ℕ) (rs ss : List (List TapeItem))
    → ((j : ℕ) → j < n → witnesses_at j ss ≡ witnesses_at j rs) → alone_in n ss ≡ alone_in n rs
alone_kept zero rs ss same = refl
alone_kept (suc n) rs ss same =
    let here : witnesses_at n ss ≡ witnesses_at n rs = same n (omega arith) in
    let ih : alone_in n ss ≡ alone_in n rs = alone_kept n rs ss (λ j lt. same j (omega arith)) in
    let one : one_if (witnesses_at n ss == 1) ≡ one_if (witnesses_at n rs == 1) =
    ap (λ k. one_if (k == 1)) here in
    omega (arith, ih, one)

-- one more item, which `count` readings have
alone_more : (n k have : ℕ) (rs ss : List (List TapeItem))
    → ((j : ℕ) → j < n → witnesses_at j ss ≡ witnesses_at j rs) → witnesses_at n ss ≡ have
    → k ≡ n + 1 → alone_in k ss ≡ alone_in n rs + one_if (have == 1)
alone_more n k have rs ss same here is =
    let next : k ≡ suc n = omega (arith, is) in
    let one : one_if (witnesses_at n ss == 1) ≡ one_if (have == 1) =
    ap (λ k. one_if (k == 1)) here in
    ap (λ i. alone_in i ss) next ∙ omega (arith, alone_kept n rs ss same, one)

miscounted-append : (ts us : List Told)
    → miscounted_in (ts ++ us) ≡ miscounted_in ts + miscounted_in us
miscounted-append [] us = omega arith
miscounted-append (t ∷ ts) us =
    let ih : miscounted_in (ts ++ us) ≡ miscounted_in ts + miscounted_in us =
    miscounted-append ts us in
    omega arith

pub one_at_most : (b : Bool) → one_if b ≤ 1
one_at_most true = omega arith
one_at_most false = omega arith

wrong_one : (s : SectionState) → has_wrong_count s ≤ 1
wrong_one states.Good = omega arith
wrong_one _ = omega arith

pub wrong_at_most : (t : Option Told) → miscounted_of t ≤ 1
wrong_at_most None = omega arith
wrong_at_most (Some t) = wrong_one t.1.state

miscounted_one : (t : Option Told) → miscounted_in (in_list t ++ []) ≡ miscounted_of t
miscounted_one None = refl
miscounted_one (Some t) = omega arith

-- how the counts change with one more item, which `count` readings have
pub record CountsOne (a b : Merged) (p q : Phase) (have : ℕ) (x : TapeItem) : Type 0 where
  pub items : b.items ≡ a.items + 1
  pub alone : b.alone ≡ a.alone + one_if (have == 1)
  pub bad : b.bad ≡ a.bad + one_if (is_bad_one (Some x))
  pub miscounted : b.miscounted ≡ a.miscounted + miscounted_of (step p x).1
  pub phase : q ≡ (step p x).0

pub counts_more : (merged : List TapeItem) (x : TapeItem) (rs ss : List (List TapeItem))
    (a b : Merged) (p q : Phase) (have : ℕ)
    → Counts rs merged a → p ≡ phase_after Volume merged → CountsOne a b p q have x
    → ((j : ℕ) → j < length merged → witnesses_at j ss ≡ witnesses_at j rs)
    → witnesses_at (length merged) ss ≡ have → Counts ss (merged ++ x ∷ []) b
counts_more merged x rs ss a b p q have counts at one same here =
    let more : miscounted_in (told_from Volume (merged ++ x ∷ [])) ≡ miscounted_in
    (told_from Volume merged) + miscounted_of (step p x).1 =
    ap miscounted_in (told_from-append Volume merged (x ∷ [])) ∙ miscounted-append
    (told_from Volume merged) (told_from (phase_after Volume merged) (x ∷ [])) ∙ ap (λ (s : Phase).
    miscounted_in (told_from Volume merged) + miscounted_in (told_from s (x ∷ []))) (sym at) ∙ ap
    (λ k. miscounted_in (told_from Volume merged) + k) (miscounted_one (step p x).1) in
    record {
      items = omega (arith, length-append merged (x ∷ []), counts.items, one.items);
      bad = omega (arith, bads-append merged (x ∷ []), counts.bad, one.bad);
      alone = omega (
        arith,
        alone_more _ _ _ rs _ same here (length-append merged (x ∷ [])),
        counts.alone,
        one.alone,
      );
      miscounted = omega (arith, more, counts.miscounted, one.miscounted);
    }

pub phase_more : (merged : List TapeItem) (x : TapeItem) (a b : Merged) (p q : Phase) (have : ℕ)
    → p ≡ phase_after Volume merged → CountsOne a b p q have x
    → q ≡ phase_after Volume (merged ++ x ∷ [])
phase_more merged x a b p q have at one =
    one.phase ∙ ap (λ (s : Phase). (step s x).0) at
    ∙ sym (phase_after-append Volume merged (x ∷ []))
