-- Readings that are asked for one item, one after another, if at least one does not agree.
use Rattle.std.proofs.Common.{◌≡◌, ◌≢◌, ℕ, ◌+◌, ◌-◌, ◌≤◌, List, [], ◌∷◌, ◌++◌, length, take, Option}
use Rattle.std.proofs.Common.{Some, None, refl, sym, ap, subst, map, ◌∙◌, length-append, arith}
use Rattle.std.proofs.{lemmas.Option.slice_get_past, lemmas.List.take_all, lemmas.List.take_at}
use Rattle.std.specs.Prelude.{slice_get}
use Rattle.tape_image.specs.{Tape.TapeItem, Reader.going}
use Rattle.tape_run.specs.MergeSteps.{best_items, Asked, gives, stops, AskedAll, column, HasTaken}
use Rattle.tape_run.specs.declared.merge.reading.Reading.{Reading}
use Rattle.tape_run.specs.declared.merge.reading.Verdict.{Verdict}
use Rattle.tape_run.specs.Merging.{IsReadFrom, AreReadFrom}
use Rattle.tape_run.specs.MergeSteps.{HaveTaken, AreUpTo, Judges, AreJudged, Compares, agrees}
use Rattle.tape_run.proofs.MergeVerdicts.{IsOther, none_yet, Keeps, judges, judges_stop}
use Rattle.tape_run.proofs.MergeReadings.{reads_front, are_better}
use Rattle.tape_run.proofs.{MergePlaces.best_differs, MergeAsking.within_up, MergeAsking.one_best}
use Rattle.tape_run.proofs.MergeTaken.{has_given, has_stopped, stopped_off, get_last}
use Rattle.tape_run.proofs.MergeVerdicts.{second_alone, all_keep, next_other}
use Rattle.tape_run.proofs.MergeFirsts.{ComparesIf, AreCompared}

-- a reading that was asked consists of the same items, or of one more
record HasMore {R : Type 0} (f n : Reading R) (r : List TapeItem) (k : ℕ)
    (best now other beside : Option TapeItem) : Type 0 where
  pub reading : List TapeItem
  pub has : HasTaken f n reading
  pub at : n.image.status ≡ going → length reading ≡ k + 1
  pub short : n.image.status ≢ going → length reading ≤ k + 1 - 1
  pub of_all : (t : List TapeItem) → IsReadFrom reading t → IsReadFrom r t
  pub front : take k reading ≡ r
  pub item : ComparesIf n.verdict (slice_get reading k) best now other beside
  pub judged : (end last : Option TapeItem) → Keeps now end beside last
      → Judges n.verdict n.image.status reading end last
  pub differs : other ≡ None → beside ≢ None → (m tape : List TapeItem) → k ≡ length m
      → IsReadFrom (m ++ best_items best) tape → IsReadFrom reading tape → ⊥

-- an item that is the second one does not agree with the best
second_differs : (v : Verdict) (x : TapeItem) (best now other beside : Option TapeItem)
    → Compares v x best now other beside → other ≡ None → beside ≢ None → agrees best x → ⊥
second_differs v x best now other None compares none some = absurd (some refl)
second_differs v x best now other (Some y) compares none some =
    second_alone v x best now y (subst (λ o. Compares v x best now o (Some y)) none compares)

has_more : {R : Type 0} (f o n : Reading R) (r : List TapeItem) (k : ℕ)
    (best now other beside : Option TapeItem) → HasTaken f o r
    → (o.image.status ≡ going → length r ≡ k) → length r ≤ k → IsOther other
    → Asked o n best now other beside → HasMore f n r k best now other beside
has_more f o n r k best now other beside h at within is_other
    (gives x on given compares counts) =
    let e : length r ≡ k = at on in
    let long : length (r ++ x ∷ []) ≡ k + 1 = length-append r (x ∷ []) ∙ ap (λ k. k + 1) e in
    record {
      reading = r ++ x ∷ [];
      has = has_given f o n r x h on given counts;
      at = λ _. long;
      short = λ off. absurd (off given.goes_on);
      of_all = λ t reads. reads_front r (x ∷ []) t reads;
      front = take_at r (x ∷ []) k e;
      item = subst (λ t. ComparesIf n.verdict t best now other beside) (sym (get_last r x k e))
          compares;
      judged = λ end last keeps. judges n.verdict n.image.status r x best now other beside end
          last given.goes_on compares is_other keeps;
      differs = λ none some m tape same. best_differs m r tape best x
          (second_differs n.verdict x best now other beside compares none some) (e ∙ same);
    }
has_more f o n r k best now other beside h at within is_other (stops off how counts same left) =
    record {
      reading = r;
      has = has_stopped f o n r h off counts;
      at = λ on. absurd (stopped_off o.image n.image off on);
      short = λ _. omega (arith, within);
      of_all = λ t reads. reads;
      front = take_all k r within;
      item = subst (λ t. ComparesIf n.verdict t best now other beside)
          (sym (slice_get_past r k within)) (same, left);
      judged = λ end last keeps. judges_stop n.verdict n.image.status r end last how;
      differs = λ none some. absurd (some (left ∙ none));
    }

-- so have readings
record HaveMore {R : Type 0} (firsts nows : List (Reading R)) (rs : List (List TapeItem)) (k : ℕ)
    (best end other last : Option TapeItem) : Type 0 where
  pub readings : List (List TapeItem)
  pub have : HaveTaken firsts nows readings
  pub at : AreUpTo (k + 1) nows readings
  pub of_all : (tape : List TapeItem) → AreReadFrom readings tape → AreReadFrom rs tape
  pub front : map (take k) readings ≡ rs
  pub compared : AreCompared nows (column k readings) best end other last
  pub judged : AreJudged nows readings end last

have_more : {R : Type 0} (firsts olds nows : List (Reading R)) (rs : List (List TapeItem)) (k : ℕ)
    (best now other beside : Option TapeItem) → HaveTaken firsts olds rs → AreUpTo k olds rs
    → IsOther other → AskedAll olds nows best now other beside
    → HaveMore firsts nows rs k best now other beside
have_more [] [] [] [] k best now other beside h at is_other asked = record {
  readings = [];
  have = tt;
  at = tt;
  of_all = λ tape k. tt;
  front = refl;
  compared = asked;
  judged = tt;
}
have_more [] [] (n ∷ nows) [] k best now other beside h at is_other asked = absurd asked
have_more (f ∷ firsts) (o ∷ olds) [] (r ∷ rs) k best now other beside h at is_other asked =
    absurd asked
have_more (f ∷ firsts) (o ∷ olds) (n ∷ nows) (r ∷ rs) k best now other beside h at is_other
    (mid, between, one, rest) =
    let first = has_more f o n r k best mid other between h.0 at.0
    (within_up o.image.status r k at.0 at.1) is_other one in
    let more = have_more firsts olds nows rs k mid now between beside h.1 at.2
    (next_other o n best mid other between is_other one) rest in
    record {
      readings = first.reading ∷ more.readings;
      have = (first.has, more.have);
      at = (first.at, first.short, more.at);
      of_all = λ tape k. (first.of_all tape k.0, more.of_all tape k.1);
      front = cc (first.front, more.front);
      compared = (mid, between, first.item, more.compared);
      judged = (
        first.judged now beside (all_keep olds nows mid now between beside rest),
        more.judged,
      );
    }
have_more _ _ _ _ k best now other beside h at is_other asked = absurd h

-- the facts known if one reading did not agree
pub record HaveDiffered {R : Type 0} (firsts nows : List (Reading R)) (rs : List (List TapeItem))
    (k : ℕ) (best end last : Option TapeItem) (others : List TapeItem → Type 0) : Type 0 where
  pub readings : List (List TapeItem)
  pub have : HaveTaken firsts nows readings
  pub at : AreUpTo (k + 1) nows readings
  pub front : map (take k) readings ≡ rs
  pub compared : AreCompared nows (column k readings) best end None last
  pub judged : AreJudged nows readings end last
  pub differ : (tape : List TapeItem) → others tape → AreReadFrom readings tape → ⊥

-- not all agreed
pub all_differ : {R : Type 0} (firsts olds nows : List (Reading R)) (rs : List (List TapeItem))
    (m : List TapeItem) (best now beside : Option TapeItem) (others : List TapeItem → Type 0)
    → HaveTaken firsts olds rs → AreUpTo (length m) olds rs
    → AreReadFrom rs (m ++ best_items best)
    → ((tape : List TapeItem) → others tape → AreReadFrom rs tape
    → IsReadFrom (m ++ best_items best) tape)
    → AskedAll olds nows best now None beside → beside ≢ None
    → HaveDiffered firsts nows rs (length m) best now beside others
all_differ [] [] [] [] m best now beside others h at reads least (same, is) not_so =
    absurd (not_so is)
all_differ [] [] (n ∷ nows) [] m best now beside others h at reads least asked not_so =
    absurd asked
all_differ (f ∷ firsts) (o ∷ olds) [] (r ∷ rs) m best now beside others h at reads least asked
    not_so = absurd asked
all_differ (f ∷ firsts) (o ∷ olds) (n ∷ nows) (r ∷ rs) m best now beside others h at reads least
    (mid, Some y, one, rest) not_so =
    let first = has_more f o n r (length m) best mid None (Some y) h.0 at.0
    (within_up o.image.status r (length m) at.0 at.1) none_yet one in
    let more = have_more firsts olds nows rs (length m) mid now (Some y) beside h.1 at.2
    (next_other o n best mid None (Some y) none_yet one) rest in
    record {
      readings = first.reading ∷ more.readings;
      have = (first.has, more.have);
      at = (first.at, first.short, more.at);
      front = cc (first.front, more.front);
      compared = (mid, Some y, first.item, more.compared);
      judged = (
        first.judged now beside (all_keep olds nows mid now (Some y) beside rest),
        more.judged,
      );
      differ = λ tape k reads. first.differs refl (λ e. cc e) m tape refl
          (least tape k (first.of_all tape reads.0, more.of_all tape reads.1)) reads.0;
    }
all_differ (f ∷ firsts) (o ∷ olds) (n ∷ nows) (r ∷ rs) m best now beside others h at reads least
    (mid, None, one, rest) not_so =
    let first = one_best f o n r m best mid (λ tape. others tape × AreReadFrom rs tape) h.0 at.0
    (within_up o.image.status r (length m) at.0 at.1) reads.0
    (λ tape k reads. least tape k.0 (reads, k.1)) one in
    let more = all_differ firsts olds nows rs m mid now beside
    (λ tape. others tape × IsReadFrom first.reading tape) h.1 at.2
    (are_better rs (m ++ best_items best) (m ++ best_items mid) first.better reads.1)
    (λ tape k read. first.least tape (k.0, read) k.1) rest not_so in
    record {
      readings = first.reading ∷ more.readings;
      have = (first.has, more.have);
      at = (first.at, first.short, more.at);
      front = cc (first.front, more.front);
      compared = (mid, None, first.item, more.compared);
      judged = (
        first.judged now beside (all_keep olds nows mid now None beside rest),
        more.judged,
      );
      differ = λ tape k reads. more.differ tape (k, reads.0) reads.1;
    }
all_differ _ _ _ _ m best now beside others h at reads least asked not_so = absurd h
