-- The state of merging after some items, and its effect from there.
use Rattle.std.proofs.Common.{◌≡◌, ◌≢◌, ℕ, ◌+◌, ◌≤◌, List, [], ◌∷◌, ◌++◌, length, Option, Some}
use Rattle.std.proofs.Common.{None, Bool, true, false, Result, Err, refl, sym, ap, subst, ◌∙◌, inl}
use Rattle.std.proofs.Common.{length-append, append-nil, arith}
use Rattle.std.proofs.KnownBytes.{Appends-nil, Appends-trans}
use Rattle.std.specs.Prelude.{◌==◌, ◌||◌, nat_lt, is_some, IfSome, IfErr}
use Rattle.std.specs.Io.KnownBytes.{Appends}
use Rattle.tape_image.specs.{declared.item.ImageWriteFault.ImageWriteFault, Tape.TapeItem}
use Rattle.tape_image.specs.Begins.{image_limit}
use Rattle.tape_image.specs.Writer.{Writer, writing, PutItem, PutItems}
use Rattle.tape_run.specs.MergeSteps.{best_items, AskedAll, HaveTaken, AreUpTo, nothing, is_bad_one}
use Rattle.tape_run.specs.MergeCalls.{Counts, firsts_in, miscounted_of, Puts, Merges, DiffersAt}
use Rattle.tape_run.specs.{declared.merge.Merged.Merged, declared.merge.MergeFault.MergeFault}
use Rattle.tape_run.specs.{declared.passing.Phase.Phase, declared.passing.Phase.TheVariants.Volume}
use Rattle.tape_run.specs.Passing.{Told, step, phase_after, blocks_of}
use Rattle.tape_run.specs.Merging.{IsReadFrom, AreReadFrom, IsMerged}
use Rattle.tape_run.specs.declared.merge.reading.Reading.{Reading}
use Rattle.tape_run.specs.MergeSteps.{one_if, goods_in}
use Rattle.tape_run.specs.MergeLog.{log_rows, row_now, has_bad_verdict}
use Rattle.tape_run.specs.MergeCalls.{FitsFault, RefusesCandidate}
use Rattle.tape_run.specs.declared.merge.MergeFault.TheVariants as faults
use Rattle.tape_run.proofs.MergeCounts.{put_one_more, put_moves, was_put, was_none, CountsOne}
use Rattle.tape_run.proofs.{NotedSoFar.one_block, MergeAsking.HaveCandidate, MergeAsking.all_best}
use Rattle.tape_run.proofs.MergeRefusals.{best_fits, refuses_puts}
use Rattle.tape_run.proofs.{MergeDiffers.all_differ, MergeFirsts.first_is, MergeFirsts.second_is}
use Rattle.tape_run.proofs.MergeCounts.{counts_more, phase_more, alone_kept}
use Rattle.tape_run.proofs.MergeRows.{goods_seen, rows_kept, rows_more, due_seen}

-- ---- the loop

-- items were merged, written, counted and logged
pub record SoFar {R : Type 0} (firsts nows : List (Reading R)) (m : Merged) (phase : Phase)
    (old new : Writer) (log logged : Option (List ℕ)) : Type 0 where
  pub readings : List (List TapeItem)
  pub have : HaveTaken firsts nows readings
  pub merged : List TapeItem
  pub at : AreUpTo (length merged) nows readings
  pub is : IsMerged readings merged
  pub count : Counts readings merged m
  pub phase_is : phase ≡ phase_after Volume merged
  pub wrote : PutItems merged old new
  pub rows : Appends log logged (log_rows 0 merged readings)

-- nothing was read yet
none_of : {R : Type 0} → List (Reading R) → List (List TapeItem)
none_of [] = []
none_of (r ∷ rs) = [] ∷ none_of rs

nothing_read : {R : Type 0} (rs : List (Reading R)) → HaveTaken rs rs (none_of rs)
unfolding none_of
nothing_read [] = tt
nothing_read (r ∷ rs) = (
  record {
    read = record { behind = r.image; gave = refl; stands = inl refl };
    items = λ le. omega arith;
    bad = λ le. omega arith;
    last = nothing refl refl refl;
  },
  nothing_read rs,
)

nothing_at : {R : Type 0} (rs : List (Reading R)) → AreUpTo 0 rs (none_of rs)
unfolding none_of
nothing_at [] = tt
nothing_at (r ∷ rs) = (λ _. refl, λ _. omega arith, nothing_at rs)

nothing_best : {R : Type 0} (rs : List (Reading R)) → AreReadFrom (none_of rs) []
unfolding none_of
nothing_best [] = tt
nothing_best (r ∷ rs) = (tt, nothing_best rs)

pub starts : {R : Type 0} (rs : List (Reading R)) (w : Writer) (log : Option (List ℕ))
    → SoFar rs rs (record { items = 0; bad = 0; alone = 0; miscounted = 0 }) Volume w w log log
starts rs w log = record {
  readings = none_of rs;
  have = nothing_read rs;
  merged = [];
  at = nothing_at rs;
  is = record { all = nothing_best rs; least = λ tape h. tt };
  count = record { items = refl; bad = refl; alone = refl; miscounted = refl };
  phase_is = refl;
  wrote = refl;
  rows = Appends-nil log;
}

-- a round was made, and all agreed
round : {R : Type 0} (firsts olds nows : List (Reading R)) (a : Merged) (p : Phase)
    (old new : Writer) (log row : Option (List ℕ)) (now beside : Option TapeItem)
    → (s : SoFar firsts olds a p old new log row)
    → AskedAll olds nows None now None beside → beside ≡ None
    → HaveCandidate firsts nows s.readings s.merged None now beside (λ _. Unit {0})
round firsts olds nows a p old new log row now beside s asked none =
    let empty : s.merged ≡ s.merged ++ [] = sym (append-nil s.merged) in
    all_best firsts olds nows s.readings s.merged None now beside (λ _. Unit {0}) s.have s.at
    (subst (λ (l : List TapeItem). AreReadFrom s.readings l) empty s.is.all)
    (λ tape k reads. subst (λ (l : List TapeItem). IsReadFrom l tape) empty
    (s.is.least tape reads)) asked none

-- the best item is the next one of the merged tape
is_next : {R : Type 0} (firsts nows : List (Reading R)) (rs : List (List TapeItem))
    (m : List TapeItem) (now beside : Option TapeItem) (x : TapeItem) → now ≡ Some x
    → (h : HaveCandidate firsts nows rs m None now beside (λ _. Unit {0}))
    → IsMerged h.readings (m ++ x ∷ [])
is_next firsts nows rs m now beside x is h =
    subst (λ (l : List TapeItem). IsMerged h.readings l)
    (ap (λ (t : Option TapeItem). m ++ best_items t) is)
    (record { all = h.all; least = λ tape reads. h.least tape tt reads })

-- there was an item, and it was written
pub goes_on : {R : Type 0} (firsts olds nows : List (Reading R)) (a b : Merged) (p q : Phase)
    (have : ℕ) (old mid new : Writer) (log row logged : Option (List ℕ))
    (now beside : Option TapeItem) (x : TapeItem)
    → SoFar firsts olds a p old mid log row → AskedAll olds nows None now None beside
    → beside ≡ None → have ≡ firsts_in nows → now ≡ Some x → PutItem x mid new
    → Appends row logged (row_now (a.items + 1) now have nows) → CountsOne a b p q have x
    → SoFar firsts nows b q old new log logged
goes_on firsts olds nows a b p q have old mid new log row logged now beside x s asked none many is
    put noted one =
    let h = round firsts olds nows a p old mid log row now beside s asked none in
    let long : length (s.merged ++ x ∷ []) ≡ length s.merged + 1 =
    length-append s.merged (x ∷ []) in
    record {
      readings = h.readings;
      have = h.have;
      merged = s.merged ++ x ∷ [];
      at = subst (λ (k : ℕ). AreUpTo k nows h.readings) (sym long) h.at;
      is = is_next firsts nows s.readings s.merged now beside x is h;
      count = counts_more s.merged x s.readings h.readings a b p q have s.count s.phase_is one
          (λ j lt. ap goods_in (h.before j lt)) (goods_seen nows _ h.here ∙ sym many);
      phase_is = phase_more s.merged x a b p q have s.phase_is one;
      wrote = put_one_more s.merged old mid new x s.wrote put;
      rows = subst (λ t. Appends log logged t)
          (rows_more s.merged x s.readings h.readings nows (a.items + 1) have h.before h.here many
          (ap (λ k. k + 1) s.count.items))
          (Appends-trans log row logged (log_rows 0 s.merged s.readings)
          (row_now (a.items + 1) (Some x) have nows) s.rows
          (subst (λ t. Appends row logged (row_now (a.items + 1) t have nows)) is noted));
    }

-- there was none: all have stopped
pub ends : {R : Type 0} (firsts olds nows : List (Reading R)) (a : Merged) (p : Phase)
    (old mid new : Writer) (log row : Option (List ℕ)) (now beside : Option TapeItem)
    → SoFar firsts olds a p old mid log row
    → AskedAll olds nows None now None beside → beside ≡ None → now ≡ None → new ≡ mid
    → Merges (HaveTaken firsts nows) nows a old new log row
ends firsts olds nows a p old mid new log row now beside s asked none is same =
    let h = round firsts olds nows a p old mid log row now beside s asked none in
    let shown : s.merged ++ best_items now ≡ s.merged =
    ap (λ (t : Option TapeItem). s.merged ++ best_items t) is ∙ append-nil s.merged in
    record {
      readings = h.readings;
      have = h.have;
      ended = h.none is;
      merged = s.merged;
      is = record {
        all = subst (λ (l : List TapeItem). AreReadFrom h.readings l) shown h.all;
        least = λ tape reads. subst (λ (l : List TapeItem). IsReadFrom l tape) shown
            (h.least tape tt reads);
      };
      count = record {
        items = s.count.items;
        bad = s.count.bad;
        alone = s.count.alone
            ∙ sym (alone_kept (length s.merged) s.readings h.readings
            (λ j lt. ap goods_in (h.before j lt)));
        miscounted = s.count.miscounted;
      };
      wrote = subst (λ (w : Writer). PutItems s.merged old w) (sym same) s.wrote;
      rows = subst (λ t. Appends log row t)
          (sym (rows_kept 0 s.merged s.readings h.readings
          (λ i lt. h.before i (omega (arith, lt))))) s.rows;
    }

-- one did not agree
pub differs : {R : Type 0} (firsts olds nows : List (Reading R)) (a : Merged) (p : Phase)
    (old new : Writer) (log row : Option (List ℕ)) (now beside : Option TapeItem)
    → SoFar firsts olds a p old new log row
    → AskedAll olds nows None now None beside → beside ≢ None
    → DiffersAt firsts nows (a.items + 1) old new
differs firsts olds nows a p old new log row now beside s asked some =
    let empty : s.merged ≡ s.merged ++ [] = sym (append-nil s.merged) in
    let h = all_differ firsts olds nows s.readings s.merged None now beside (λ _. Unit {0}) s.have
    s.at
    (subst (λ (l : List TapeItem). AreReadFrom s.readings l) empty s.is.all)
    (λ tape k reads. subst (λ (l : List TapeItem). IsReadFrom l tape) empty
    (s.is.least tape reads)) asked some in
    let number : length s.merged + 1 ≡ a.items + 1 = ap (λ k. k + 1) s.count.items in
    let (second, more) = second_is nows _ None now beside h.compared in
    record {
      readings = h.readings;
      have = h.have;
      up_to = subst (λ (k : ℕ). AreUpTo k nows h.readings) number h.at;
      differ = λ tape reads. h.differ tape tt reads;
      merged = s.merged;
      judged = record {
        best = now;
        other = beside;
        first = first_is nows _ None now None beside h.compared refl (more some);
        second = second;
        judged = h.judged;
      };
      is = subst (λ (l : List (List TapeItem)). IsMerged l s.merged) (sym h.front) s.is;
      count = number;
      wrote = s.wrote;
    }

-- ---- in the form in which the code has it

not_none : (t : Option TapeItem) → is_some t ≡ true → t ≢ None
not_none None is = absurd (cc is)
not_none (Some x) is = λ e. cc e

is_none : (t : Option TapeItem) → is_some t ≡ false → t ≡ None
is_none None is = refl
is_none (Some x) is = absurd (cc is)

-- readings differed
pub stops_at : {R : Type 0} (firsts olds nows : List (Reading R)) (a : Merged) (p : Phase)
    (old new : Writer) (log row : Option (List ℕ)) (now other : Option TapeItem)
    → SoFar firsts olds a p old new log row
    → AskedAll olds nows None now None other → is_some other ≡ true
    → DiffersAt firsts nows (a.items + 1) old new
stops_at firsts olds nows a p old new log row now other s h is =
    differs firsts olds nows a p old new log row now other s h (not_none other is)

-- nothing was written
pub comes_to_end : {R : Type 0} (firsts olds nows : List (Reading R)) (a : Merged) (p : Phase)
    (old mid new : Writer) (log row : Option (List ℕ)) (now other : Option TapeItem) (some : Bool)
    → SoFar firsts olds a p old mid log row
    → AskedAll olds nows None now None other → is_some other ≡ false → Puts now some mid new
    → some ≡ false → Merges (HaveTaken firsts nows) nows a old new log row
comes_to_end firsts olds nows a p old mid new log row now other some s h none puts is =
    let (no_item, same) =
    was_none now mid new (subst (λ (b : Bool). Puts now b mid new) is puts) in
    ends firsts olds nows a p old mid new log row now other s h (is_none other none) no_item same

-- one more item was written, counted and logged
pub record OneMore {R : Type 0} (firsts nows : List (Reading R)) (b : Merged) (p q : Phase)
    (old mid new : Writer) (log logged : Option (List ℕ)) : Type 0 where
  pub so_far : SoFar firsts nows b q old new log logged
  pub moves : mid.size + 4 ≤ new.size
  pub within : new.size ≤ image_limit
  pub stands : new.standing ≡ writing
  pub blocks : blocks_of q ≤ blocks_of p + 1

-- so was the candidate
one_counted : (a b : Merged) (p : Phase) (next : Phase × Option Told) (have : ℕ)
    (now : Option TapeItem)
    (x : TapeItem) (is_bad : Bool) → now ≡ Some x → IfSome now (λ x. next ≡ step p x)
    → is_bad ≡ is_bad_one now → b.items ≡ a.items + 1 → b.bad ≡ a.bad + one_if is_bad
    → b.alone ≡ a.alone + one_if (have == 1)
    → b.miscounted ≡ a.miscounted + miscounted_of next.1 → CountsOne a b p next.0 have x
one_counted a b p next have now x is_bad is stepped kind items more_bad alone miscounted =
    let here : next ≡ step p x =
    subst (λ (t : Option TapeItem). IfSome t (λ x. next ≡ step p x)) is stepped in
    record {
      items = items;
      alone = alone;
      bad = more_bad ∙ ap (λ (b : Bool). a.bad + one_if b) (kind ∙ ap is_bad_one is);
      miscounted = miscounted
          ∙ ap (λ (s : Phase × Option Told). a.miscounted + miscounted_of s.1) here;
      phase = ap (λ (s : Phase × Option Told). s.0) here;
    }

pub one_more : {R : Type 0} (firsts olds nows : List (Reading R)) (a b : Merged) (p : Phase)
    (next : Phase × Option Told) (have : ℕ) (old mid new : Writer)
    (log row logged : Option (List ℕ)) (now other : Option TapeItem)
    (some is_bad : Bool) → SoFar firsts olds a p old mid log row
    → AskedAll olds nows None now None other → have ≡ firsts_in nows
    → is_some other ≡ false → Puts now some mid new → some ≡ true
    → Appends row logged (row_now (a.items + 1) now have nows) → IfSome now (λ x. next ≡ step p x)
    → is_bad ≡ is_bad_one now → b.items ≡ a.items + 1 → b.bad ≡ a.bad + one_if is_bad
    → b.alone ≡ a.alone + one_if (have == 1)
    → b.miscounted ≡ a.miscounted + miscounted_of next.1
    → OneMore firsts nows b p next.0 old mid new log logged
one_more firsts olds nows a b p next have old mid new log row logged now other some is_bad s h many
    none puts is noted stepped kind items more_bad alone miscounted =
    let (x, best, put) =
    was_put now mid new (subst (λ (b : Bool). Puts now b mid new) is puts) in
    let moved = put_moves x mid new put in
    let one =
    one_counted a b p next have now x is_bad best stepped kind items more_bad alone miscounted in
    record {
      so_far = goes_on firsts olds nows a b p next.0 have old mid new log row logged now other x s
          h (is_none other none) many best put noted one;
      moves = moved.0;
      within = moved.1;
      stands = moved.2;
      blocks = subst (λ (q : Phase). blocks_of q ≤ blocks_of p + 1) (sym one.phase) (one_block p x);
    }

-- the item was refused
pub refused_now : {T R : Type 0} (result : Result T MergeFault)
    (firsts olds nows : List (Reading R)) (a : Merged) (p : Phase) (old mid new : Writer)
    (log row : Option (List ℕ)) (now other : Option TapeItem) (fault : ImageWriteFault)
    → result ≡ Err (faults.Write fault) → SoFar firsts olds a p old mid log row
    → AskedAll olds nows None now None other → is_some other ≡ false → mid.standing ≡ writing
    → RefusesCandidate now fault mid new → IfErr result (FitsFault firsts nows old new)
refused_now result firsts olds nows a p old mid new log row None other fault is s asked none on
    refused = absurd refused
refused_now {T} {R} result firsts olds nows a p old mid new log row (Some x) other fault is s asked
    none on refused =
    let h = round firsts olds nows a p old mid log row (Some x) other s asked (is_none other none)
    in
    let P : Result T MergeFault → Type 0 = λ r. IfErr r (FitsFault firsts nows old new) in
    subst P (sym is) (record {
      readings = h.readings;
      taken = h.have;
      merged = s.merged;
      x = x;
      is = is_next firsts nows s.readings s.merged (Some x) other x refl h;
      mid = mid;
      wrote = s.wrote;
      refused = refuses_puts x mid new fault (best_fits olds nows None (Some x) None other tt asked)
          on refused;
    })

-- the item was written, but its row was refused
pub row_refused : {T R : Type 0} (result : Result T MergeFault)
    (firsts olds nows : List (Reading R)) (a : Merged) (p : Phase) (have : ℕ)
    (old mid new : Writer) (log row : Option (List ℕ)) (now other : Option TapeItem) (some : Bool)
    → have ≡ firsts_in nows → (nat_lt have 2 || has_bad_verdict nows) ≡ true
    → result ≡ Err faults.Log → SoFar firsts olds a p old mid log row
    → AskedAll olds nows None now None other → is_some other ≡ false → Puts now some mid new
    → some ≡ true → IfErr result (FitsFault firsts nows old new)
row_refused {T} {R} result firsts olds nows a p have old mid new log row now other some many due is
    s asked none puts put_it =
    let (x, best, put) =
    was_put now mid new (subst (λ (b : Bool). Puts now b mid new) put_it puts) in
    let h = round firsts olds nows a p old mid log row now other s asked (is_none other none) in
    let P : Result T MergeFault → Type 0 = λ r. IfErr r (FitsFault firsts nows old new) in
    subst P (sym is) (record {
      readings = h.readings;
      taken = h.have;
      merged = s.merged;
      x = x;
      is = is_next firsts nows s.readings s.merged now other x best h;
      wrote = put_one_more s.merged old mid new x s.wrote put;
      due = due_seen have nows _ h.here many ∙ due;
    })
