-- The gaps that are reported for a section are the longest runs of unreadable blocks.
use Rattle.std.proofs.Common.{◌≡◌, ◌<◌, ℕ, suc, ◌+◌, ◌-◌, Bool, true, false, List, [], ◌∷◌, ◌++◌}
use Rattle.std.proofs.Common.{length, Option, Some, None, refl, sym, ap, subst, ◌∙◌, arith}
use Rattle.std.proofs.Common.{append_assoc, append-nil, replicate}
use Rattle.std.specs.List.{AllByRecursion}
use Rattle.tape_image.specs.Tape.{TapeItem, block, bad, mark}
use Rattle.tape_blocks.specs.declared.check.BlockFault.{BlockFault}
use Rattle.tape_set.specs.Lawful.{FileForm}
use Rattle.tape_run.specs.SalvageBlocks.{Salvaged, salvaged_at, text_at, gap_text, torn_text}
use Rattle.tape_run.specs.SalvageGaps.{salvaged_data, Gap, BlockLine, a_gap, a_torn, a_refused}
use Rattle.tape_run.specs.SalvageGaps.{block_line, block_lines, gaps_in, IsReadable, StartsReadable}
use Rattle.tape_run.specs.{SalvageBlocks.refused_text, SalvageGaps.AreGaps, SalvageClosed.IsNoMark}
use Rattle.tape_run.specs.{SalvageWalk.first_of, SalvageRecords.found_fault, SalvageRecords.is_cut}
use Rattle.tape_run.specs.SalvageRecords.{taken}
use Rattle.tape_run.proofs.SalvageComing.{not_bad}

-- ---- lines

lines_append : (sect : ℕ) (ls ms : List BlockLine)
    → block_lines sect (ls ++ ms) ≡ block_lines sect ls ++ block_lines sect ms
lines_append sect [] ms = refl
lines_append sect (l ∷ ls) ms = ap (λ (t : List ℕ). block_line sect l ++ t)
    (lines_append sect ls ms)
    ∙ sym (append_assoc (block_line sect l) (block_lines sect ls) (block_lines sect ms))

-- lines that are not about gaps
record Others (sect : ℕ) (text : List ℕ) : Type 0 where
  lines : List BlockLine
  says : text ≡ block_lines sect lines
  none : gaps_in lines ≡ []

torn_lines : (is : Bool) (sect n records : ℕ) → Others sect (torn_text is sect n records)
torn_lines true sect n records =
    record { lines = a_torn n records ∷ []; says = sym (append-nil _); none = refl }
torn_lines false sect n records = record { lines = []; says = refl; none = refl }

gaps_append : (ls ms : List BlockLine) → gaps_in ls ≡ [] → gaps_in (ls ++ ms) ≡ gaps_in ms
gaps_append [] ms none = refl
gaps_append (a_gap gap ∷ ls) ms none = absurd (cc none)
gaps_append (a_torn n records ∷ ls) ms none = gaps_append ls ms none
gaps_append (a_refused n fault records ∷ ls) ms none = gaps_append ls ms none

both_lines : (sect : ℕ) (t u : List ℕ) → Others sect t → Others sect u → Others sect (t ++ u)
both_lines sect t u a b = record {
  lines = a.lines ++ b.lines;
  says = ap (λ (l : List ℕ). l ++ u) a.says
      ∙ ap (λ (l : List ℕ). block_lines sect a.lines ++ l) b.says
      ∙ sym (lines_append sect a.lines b.lines);
  none = gaps_append a.lines b.lines a.none ∙ b.none;
}

refused_lines : (sect n : ℕ) (fault : Option BlockFault) (begun : Bool) (records : ℕ)
    → Others sect (refused_text sect n fault begun records)
refused_lines sect n None begun records = record { lines = []; says = refl; none = refl }
refused_lines sect n (Some fault) begun records =
    both_lines sect _ _ (torn_lines begun sect n records)
    (record { lines = a_refused n fault records ∷ []; says = sym (append-nil _); none = refl })

-- ---- data items

abbrev pub text_data : ℕ → Option FileForm → ℕ → Salvaged → List TapeItem → List ℕ
text_data sect form n g [] = []
text_data sect form n g (x ∷ xs) = text_at sect form g (Some n) x
    ++ text_data sect form (n + 1) (salvaged_at form g (Some n) x) xs

-- with the line of the gap at the end
abbrev pub data_text : ℕ → Option FileForm → ℕ → Salvaged → List TapeItem → ℕ → List ℕ
data_text sect form n g xs end =
    let h = salvaged_data form n g xs in
    text_data sect form n g xs ++ gap_text sect h.gap end h.piece.records

-- a gap that began at block `first` continues with these items
abbrev InGap : Option FileForm → ℕ → Salvaged → List TapeItem → ℕ → List Gap → Type 0
InGap form n g xs first [] = ⊥
InGap form n g xs first (gap ∷ gaps) = (rest : List TapeItem) × (more : ℕ)
    × (xs ≡ replicate more bad ++ rest) × StartsReadable rest × (gap.first ≡ first)
    × (gap.last + 1 ≡ n + more) × (gap.records ≡ g.piece.records)
    × AreGaps form (gap.last + 1) (salvaged_data form n g (replicate more bad)) rest gaps

-- the gaps among items, after a gap that may continue
abbrev GapsFrom : Option FileForm → ℕ → Salvaged → List TapeItem → Option ℕ → List Gap → Type 0
GapsFrom form n g xs None gaps = AreGaps form n g xs gaps
GapsFrom form n g xs (Some first) gaps = InGap form n g xs first gaps

abbrev IsBefore : Option ℕ → ℕ → Type 0
IsBefore None n = Unit {0}
IsBefore (Some first) n = first < n

-- one readable item more at the start
with_readable : (form : Option FileForm) (n : ℕ) (g : Salvaged) (x : TapeItem)
    (xs : List TapeItem) (gaps : List Gap) → IsReadable x
    → AreGaps form (n + 1) (salvaged_at form g (Some n) x) xs gaps
    → AreGaps form n g (x ∷ xs) gaps
with_readable form n g x xs [] good all = (good, all)
with_readable form n g x xs (gap ∷ gaps) good (before, rest, more, is, all, starts, one, next) = (
  x ∷ before,
  rest,
  more,
  ap (λ (l : List TapeItem). x ∷ l) is,
  (good, all),
  starts,
  record {
    first = let a = one.first in omega (arith, a);
    last = one.last;
    records = one.records;
  },
  next,
)

-- an unreadable item at the start begins a gap, or continues it
with_gap : (form : Option FileForm) (n : ℕ) (g : Salvaged) (xs : List TapeItem) (gaps : List Gap)
    → InGap form (n + 1) (salvaged_at form g (Some n) bad) xs n gaps
    → AreGaps form n g (bad ∷ xs) gaps
with_gap form n g xs [] h = absurd h
with_gap form n g xs (gap ∷ gaps) (rest, more, is, starts, first, last, records, next) = (
  [],
  rest,
  more,
  ap (λ (l : List TapeItem). bad ∷ l) is,
  tt,
  starts,
  record {
    first = omega (arith, first);
    last = omega (arith, first, last);
    records = records;
  },
  next,
)

with_more : (form : Option FileForm) (n : ℕ) (g : Salvaged) (xs : List TapeItem) (first : ℕ)
    (gaps : List Gap) → InGap form (n + 1) (salvaged_at form g (Some n) bad) xs first gaps
    → InGap form n g (bad ∷ xs) first gaps
with_more form n g xs first [] h = absurd h
with_more form n g xs first (gap ∷ gaps) (rest, more, is, starts, one, last, records, next) =
    let l : gap.last + 1 ≡ n + suc more = omega (arith, last) in (
      rest,
      suc more,
      ap (λ (l : List TapeItem). bad ∷ l) is,
      starts,
      one,
      l,
      records,
      next,
    )

-- the lines of a block other than that of the gap before it
abbrev after_block_text : ℕ → Option FileForm → ℕ → Salvaged → List ℕ → List ℕ
after_block_text sect form n g b = torn_text (is_cut form g.piece b) sect n g.piece.records
    ++ refused_text sect n (found_fault form g.piece b) (taken form g.piece b).begun
    (taken form g.piece b).records

after_block : (sect : ℕ) (form : Option FileForm) (n : ℕ) (g : Salvaged) (b : List ℕ)
    → Others sect (after_block_text sect form n g b)
after_block sect form n g b = both_lines sect _ _
    (torn_lines (is_cut form g.piece b) sect n g.piece.records)
    (refused_lines sect n (found_fault form g.piece b) (taken form g.piece b).begun
    (taken form g.piece b).records)

-- these lines, and those of what follows
joined : (sect : ℕ) (ls ms : List BlockLine) (t u v : List ℕ) → t ≡ block_lines sect ls
    → u ++ v ≡ block_lines sect ms → (t ++ u) ++ v ≡ block_lines sect (ls ++ ms)
joined sect ls ms t u v a b = append_assoc t u v ∙ ap (λ (l : List ℕ). t ++ l) b
    ∙ ap (λ (l : List ℕ). l ++ block_lines sect ms) a ∙ sym (lines_append sect ls ms)

pub record Runs (sect : ℕ) (form : Option FileForm) (n : ℕ) (g : Salvaged) (xs : List TapeItem)
    (end : ℕ) (o : Option ℕ) : Type 0 where
  pub lines : List BlockLine
  pub says : data_text sect form n g xs end ≡ block_lines sect lines
  pub gaps : GapsFrom form n g xs o (gaps_in lines)

pub runs : (sect : ℕ) (form : Option FileForm) (n : ℕ) (g : Salvaged) (xs : List TapeItem)
    (end : ℕ) (o : Option ℕ) → AllByRecursion IsNoMark xs → g.gap ≡ o → IsBefore o n
    → end ≡ n + length xs → Runs sect form n g xs end o
runs sect form n g [] end None none gap before last = record {
  lines = [];
  says = ap (λ (m : Option ℕ). gap_text sect m end g.piece.records) gap;
  gaps = tt;
}
runs sect form n g [] end (Some first) none gap before last =
    let e : n ≡ end = omega (arith, last) in
    let l : end - 1 + 1 ≡ n + 0 = omega (arith, e, before) in
    record {
      lines = a_gap (record { first = first; last = end - 1; records = g.piece.records }) ∷ [];
      says = ap (λ (m : Option ℕ). gap_text sect m end g.piece.records) gap
          ∙ sym (append-nil _);
      gaps = ([], 0, refl, tt, refl, l, refl, tt);
    }
runs sect form n g (mark ∷ xs) end o (off, none) gap before last = absurd off
runs sect form n g (bad ∷ xs) end None (off, none) gap before last =
    let h = salvaged_at form g (Some n) bad in
    let first : n < n + 1 = omega arith in
    let r = runs sect form (n + 1) h xs end (Some n) none (ap (λ m. first_of m n) gap) first
    (omega (arith, last)) in
    let o = torn_lines g.piece.begun sect n g.piece.records in
    record {
      lines = o.lines ++ r.lines;
      says = joined sect o.lines r.lines _ _ _ o.says r.says;
      gaps = subst (AreGaps form n g (bad ∷ xs)) (sym (gaps_append o.lines r.lines o.none))
          (with_gap form n g xs (gaps_in r.lines) r.gaps);
    }
runs sect form n g (bad ∷ xs) end (Some first) (off, none) gap before last =
    let h = salvaged_at form g (Some n) bad in
    let r = runs sect form (n + 1) h xs end (Some first) none (ap (λ m. first_of m n) gap)
    (omega (arith, before)) (omega (arith, last)) in
    let o = torn_lines g.piece.begun sect n g.piece.records in
    record {
      lines = o.lines ++ r.lines;
      says = joined sect o.lines r.lines _ _ _ o.says r.says;
      gaps = subst (InGap form n g (bad ∷ xs) first) (sym (gaps_append o.lines r.lines o.none))
          (with_more form n g xs first (gaps_in r.lines) r.gaps);
    }
runs sect form n g (block b ∷ xs) end None (off, none) gap before last =
    let h = salvaged_at form g (Some n) (block b) in
    let r = runs sect form (n + 1) h xs end None none refl tt (omega (arith, last)) in
    let o = after_block sect form n g b in
    record {
      lines = o.lines ++ r.lines;
      says = ap (λ m. ((gap_text sect m n g.piece.records ++ after_block_text sect form n g b)
          ++ text_data sect form (n + 1) h xs)
          ++ gap_text sect (salvaged_data form (n + 1) h xs).gap end
          (salvaged_data form (n + 1) h xs).piece.records) gap
          ∙ joined sect o.lines r.lines _ _ _ o.says r.says;
      gaps = subst (AreGaps form n g (block b ∷ xs)) (sym (gaps_append o.lines r.lines o.none))
          (with_readable form n g (block b) xs (gaps_in r.lines) (not_bad b) r.gaps);
    }
runs sect form n g (block b ∷ xs) end (Some first) (off, none) gap before last =
    let h = salvaged_at form g (Some n) (block b) in
    let r = runs sect form (n + 1) h xs end None none refl tt (omega (arith, last)) in
    let o = after_block sect form n g b in
    let it : Gap = record { first = first; last = n - 1; records = g.piece.records } in
    let l : n - 1 + 1 ≡ n + 0 = omega (arith, before) in
    let m : n ≡ n - 1 + 1 = omega (arith, before) in
    let line = block_line sect (a_gap it) in
    let text = after_block_text sect form n g b in
    let rest = text_data sect form (n + 1) h xs in
    let z = salvaged_data form (n + 1) h xs in
    let last_gap = gap_text sect z.gap end z.piece.records in
    record {
      lines = a_gap it ∷ (o.lines ++ r.lines);
      says = ap (λ m. ((gap_text sect m n g.piece.records ++ text) ++ rest) ++ last_gap) gap
          ∙ ap (λ (t : List ℕ). t ++ last_gap) (append_assoc line text rest)
          ∙ append_assoc line (text ++ rest) last_gap
          ∙ ap (λ (t : List ℕ). line ++ t) (joined sect o.lines r.lines _ _ _ o.says r.says);
      gaps = (
        block b ∷ xs,
        0,
        refl,
        not_bad b,
        refl,
        l,
        refl,
        subst (λ k. AreGaps form k g (block b ∷ xs) (gaps_in (o.lines ++ r.lines))) m
            (subst (AreGaps form n g (block b ∷ xs)) (sym (gaps_append o.lines r.lines o.none))
            (with_readable form n g (block b) xs (gaps_in r.lines) (not_bad b) r.gaps)),
      );
    }
