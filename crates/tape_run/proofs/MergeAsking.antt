-- Readings that are asked for one item, one after another: how far they were read then, and the
-- best item.
use Rattle.std.proofs.Common.{◌≡◌, ◌≢◌, ℕ, ◌+◌, ◌-◌, ◌<◌, ◌≤◌, List, [], ◌∷◌, ◌++◌, length, take}
use Rattle.std.proofs.Common.{Option, Some, None, refl, sym, ap, subst, ◌∙◌, length-append, arith}
use Rattle.std.proofs.{lemmas.Option.slice_get_past, lemmas.List.take_all, lemmas.List.take_at}
use Rattle.std.specs.Prelude.{slice_get}
use Rattle.tape_image.specs.Tape.{TapeItem}
use Rattle.tape_image.specs.Reader.{Status, going, ended, failed}
use Rattle.tape_run.specs.MergeSteps.{joined, best_items, Asked, gives, stops, AskedAll, column}
use Rattle.tape_run.specs.declared.merge.reading.Reading.{Reading}
use Rattle.tape_run.specs.Merging.{IsReadFrom, AreReadFrom}
use Rattle.tape_run.specs.MergeSteps.{HasTaken, HaveTaken, AllStopped, AreUpTo, Judges, StopsAs}
use Rattle.tape_run.proofs.MergeVerdicts.{none_yet, Keeps, judges, judges_stop, agreed_alone}
use Rattle.tape_run.proofs.MergeReadings.{reads_self, reads_front, reads_trans, are_better}
use Rattle.tape_run.proofs.MergePlaces.{best_better, reads_best, best_least}
use Rattle.tape_run.proofs.MergeTaken.{has_given, has_stopped, stopped_off, get_front, get_last}
use Rattle.tape_run.proofs.MergeVerdicts.{later_other, SeenAs, seen_item, seen_none}
use Rattle.tape_run.proofs.{MergeFirsts.ComparesIf, MergeRows.AreSeenAs}

-- ---- readings at a place of a tape

-- What is known of readings that were asked for the item after these, and agreed: the best item so
-- far; that they are readings of every tape of which the other readings, and the best item, are
-- readings; how many readings have it; and that there is no item only if every reader has stopped.
pub record HaveCandidate {R : Type 0} (firsts nows : List (Reading R)) (rs : List (List TapeItem))
    (m : List TapeItem) (best now beside : Option TapeItem) (others : List TapeItem → Type 0)
    : Type 0 where
  pub readings : List (List TapeItem)
  pub have : HaveTaken firsts nows readings
  pub at : AreUpTo (length m + 1) nows readings
  pub better : IsReadFrom (m ++ best_items best) (m ++ best_items now)
  pub all : AreReadFrom readings (m ++ best_items now)
  pub least : (tape : List TapeItem) → others tape → AreReadFrom readings tape
      → IsReadFrom (m ++ best_items now) tape
  pub kept : best ≢ None → now ≢ None
  pub none : now ≡ None → AllStopped nows
  pub before : (j : ℕ) → j < length m → column j readings ≡ column j rs
  pub here : AreSeenAs nows (column (length m) readings)

-- one reading was asked, and agreed
pub record HasCandidate {R : Type 0} (f n : Reading R) (r m : List TapeItem)
    (best now : Option TapeItem) (others : List TapeItem → Type 0) : Type 0 where
  pub reading : List TapeItem
  pub has : HasTaken f n reading
  pub at : n.image.status ≡ going → length reading ≡ length m + 1
  pub short : n.image.status ≢ going → length reading ≤ length m + 1 - 1
  pub better : IsReadFrom (m ++ best_items best) (m ++ best_items now)
  pub reads : IsReadFrom reading (m ++ best_items now)
  pub least : (tape : List TapeItem) → others tape → IsReadFrom reading tape
      → IsReadFrom (m ++ best_items now) tape
  pub kept : best ≢ None → now ≢ None
  pub none : now ≡ None → StopsAs n.verdict n.image.status
  pub before : (j : ℕ) → j < length m → slice_get reading j ≡ slice_get r j
  pub here : SeenAs n.verdict (slice_get reading (length m))
  pub front : take (length m) reading ≡ r
  pub item : ComparesIf n.verdict (slice_get reading (length m)) best now None None
  pub judged : (end beside : Option TapeItem) → Keeps now end None beside
      → Judges n.verdict n.image.status reading end beside

-- a reading has at most as many items as were asked for
pub within_up : (status : Status) (r : List TapeItem) (k : ℕ) → (status ≡ going → length r ≡ k)
    → (status ≢ going → length r ≤ k - 1) → length r ≤ k
within_up going r k at short = omega (arith, at refl)
within_up (ended ending) r k at short = omega (arith, short (λ is. absurd (cc is)))
within_up (failed fault) r k at short = omega (arith, short (λ is. absurd (cc is)))

pub one_best : {R : Type 0} (f o n : Reading R) (r m : List TapeItem) (best now : Option TapeItem)
    (others : List TapeItem → Type 0) → HasTaken f o r
    → (o.image.status ≡ going → length r ≡ length m) → length r ≤ length m
    → IsReadFrom r (m ++ best_items best)
    → ((tape : List TapeItem) → others tape → IsReadFrom r tape
    → IsReadFrom (m ++ best_items best) tape)
    → Asked o n best now None None → HasCandidate f n r m best now others
one_best f o n r m best now others h at within reads least (gives x on given compares counts) =
    let (a, is) = agreed_alone n.verdict x best now compares in
    let e : length r ≡ length m = at on in
    let long : length (r ++ x ∷ []) ≡ length m + 1 =
    length-append r (x ∷ []) ∙ ap (λ k. k + 1) e in
    let shown : m ++ best_items now ≡ m ++ joined best x ∷ [] =
    ap (λ (t : Option TapeItem). m ++ best_items t) is in
    let some : now ≢ None = λ none. cc (is, none) in
    record {
      reading = r ++ x ∷ [];
      has = has_given f o n r x h on given counts;
      at = λ _. long;
      short = λ off. absurd (off given.goes_on);
      better = subst (λ l. IsReadFrom (m ++ best_items best) l) (sym shown) (best_better m best x);
      reads = subst (λ l. IsReadFrom (r ++ x ∷ []) l) (sym shown)
          (reads_best m r best x a e reads);
      least = λ tape o k. subst (λ l. IsReadFrom l tape) (sym shown)
          (best_least m r tape best x e (least tape o (reads_front r (x ∷ []) tape k)) k);
      kept = λ _. some;
      none = λ none. absurd (some none);
      before = λ j lt. get_front r x j (omega (arith, e, lt));
      here = subst (λ t. SeenAs n.verdict t) (sym (get_last r x (length m) e))
          (seen_item n.verdict x best now compares);
      front = take_at r (x ∷ []) (length m) e;
      item = subst (λ t. ComparesIf n.verdict t best now None None)
          (sym (get_last r x (length m) e)) compares;
      judged = λ end beside keeps. judges n.verdict n.image.status r x best now None None end
          beside given.goes_on compares none_yet keeps;
    }
one_best f o n r m best now others h at within reads least (stops off how counts same left) =
    let shown : m ++ best_items now ≡ m ++ best_items best =
    ap (λ (t : Option TapeItem). m ++ best_items t) same in
    record {
      reading = r;
      has = has_stopped f o n r h off counts;
      at = λ on. absurd (stopped_off o.image n.image off on);
      short = λ _. omega (arith, within);
      better = subst (λ l. IsReadFrom (m ++ best_items best) l) (sym shown)
          (reads_self (m ++ best_items best));
      reads = subst (λ l. IsReadFrom r l) (sym shown) reads;
      least = λ tape o k. subst (λ l. IsReadFrom l tape) (sym shown) (least tape o k);
      kept = λ some none. some (sym same ∙ none);
      none = λ _. how;
      before = λ j lt. refl;
      here = subst (λ t. SeenAs n.verdict t) (sym (slice_get_past r (length m) within))
          (seen_none n.verdict n.image.status how);
      front = take_all (length m) r within;
      item = subst (λ t. ComparesIf n.verdict t best now None None)
          (sym (slice_get_past r (length m) within)) (same, left);
      judged = λ end beside keeps. judges_stop n.verdict n.image.status r end beside how;
    }

none_before : (mid now : Option TapeItem) → (mid ≢ None → now ≢ None) → now ≡ None → mid ≡ None
none_before None now kept none = refl
none_before (Some x) now kept none = absurd (kept (λ e. cc e) none)

-- all were asked, and agreed
pub all_best : {R : Type 0} (firsts olds nows : List (Reading R)) (rs : List (List TapeItem))
    (m : List TapeItem) (best now beside : Option TapeItem) (others : List TapeItem → Type 0)
    → HaveTaken firsts olds rs → AreUpTo (length m) olds rs
    → AreReadFrom rs (m ++ best_items best)
    → ((tape : List TapeItem) → others tape → AreReadFrom rs tape
    → IsReadFrom (m ++ best_items best) tape)
    → AskedAll olds nows best now None beside → beside ≡ None
    → HaveCandidate firsts nows rs m best now beside others
all_best [] [] [] [] m best now beside others h at reads least (same, _) so =
    let shown : m ++ best_items now ≡ m ++ best_items best =
    ap (λ (t : Option TapeItem). m ++ best_items t) same in
    record {
      readings = [];
      have = tt;
      at = tt;
      better = subst (λ l. IsReadFrom (m ++ best_items best) l) (sym shown)
          (reads_self (m ++ best_items best));
      all = tt;
      least = λ tape o k. subst (λ l. IsReadFrom l tape) (sym shown) (least tape o tt);
      kept = λ some none. some (sym same ∙ none);
      none = λ _. tt;
      before = λ j lt. refl;
      here = tt;
    }
all_best [] [] (n ∷ nows) [] m best now beside others h at reads least asked so = absurd asked
all_best (f ∷ firsts) (o ∷ olds) [] (r ∷ rs) m best now beside others h at reads least asked so =
    absurd asked
all_best (f ∷ firsts) (o ∷ olds) (n ∷ nows) (r ∷ rs) m best now beside others h at reads least
    (mid, Some y, one, rest) so =
    absurd (later_other o n best mid y olds nows now beside one rest so)
all_best (f ∷ firsts) (o ∷ olds) (n ∷ nows) (r ∷ rs) m best now beside others h at reads least
    (mid, None, one, rest) so =
    let first = one_best f o n r m best mid (λ tape. others tape × AreReadFrom rs tape) h.0 at.0
    (within_up o.image.status r (length m) at.0 at.1) reads.0
    (λ tape k reads. least tape k.0 (reads, k.1)) one in
    let more = all_best firsts olds nows rs m mid now beside
    (λ tape. others tape × IsReadFrom first.reading tape) h.1 at.2
    (are_better rs (m ++ best_items best) (m ++ best_items mid) first.better reads.1)
    (λ tape k read. first.least tape (k.0, read) k.1) rest so in
    record {
      readings = first.reading ∷ more.readings;
      have = (first.has, more.have);
      at = (first.at, first.short, more.at);
      better = reads_trans (m ++ best_items best) (m ++ best_items mid) (m ++ best_items now)
          first.better more.better;
      all = (
        reads_trans first.reading (m ++ best_items mid) (m ++ best_items now) first.reads
            more.better,
        more.all,
      );
      least = λ tape k reads. more.least tape (k, reads.0) reads.1;
      kept = λ some. more.kept (first.kept some);
      none = λ none. (first.none (none_before mid now more.kept none), more.none none);
      before = λ j lt. cc (first.before j lt, more.before j lt);
      here = (first.here, more.here);
    }
all_best _ _ _ _ m best now beside others h at reads least asked so = absurd h
