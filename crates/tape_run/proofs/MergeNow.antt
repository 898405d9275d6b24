-- What merging readings comes to, and what a fault leaves.
use Rattle.std.proofs.Common.{◌≡◌, ◌≢◌, ◌⊎◌, ℕ, zero, suc, ◌+◌, List, [], ◌∷◌, ◌++◌, length, map}
use Rattle.std.proofs.Common.{Option, Some, Result, Ok, Err, IfErr, refl, sym, subst, ◌∙◌, inl, inr}
use Rattle.std.proofs.Common.{arith, length-append, append_assoc, append-nil}
use Rattle.std.proofs.KnownBytes.{Appends-nil, Appends-trans}
use Rattle.std.specs.{List.flat_map, Io.KnownBytes.Appends, Io.KnownBytes.Keeps}
use Rattle.tape_image.specs.{Tape.TapeItem, Written.written, Written.AppendsFront}
use Rattle.tape_image.specs.Writer.{Writer, writing, PutItems}
use Rattle.tape_image.proofs.{Pieces.front_more, WrittenItems.put_item}
use Rattle.tape_run.specs.MergeNow.{EndsAs, end_bytes, FitsEnd, HoldsMerged, ComesTo, Misses}
use Rattle.tape_run.specs.{declared.merge.Merged.Merged, declared.merge.MergeFault.MergeFault}
use Rattle.tape_run.specs.declared.merge.line.MergedEnd.{MergedEnd}
use Rattle.tape_run.specs.declared.merge.line.MergedEnd.TheVariants.{Marked, Physical, Cut}
use Rattle.tape_run.specs.declared.merge.now.MergeEnd.{MergeEnd}
use Rattle.tape_run.specs.declared.merge.now.MergeEnd.TheVariants.{Whole, Partial, Differs}
use Rattle.tape_run.specs.declared.merge.now.MergeStop.{MergeStop}
use Rattle.tape_run.specs.declared.merge.reading.Reading.{Reading}
use Rattle.tape_run.specs.MergeCalls.{AreAtFront, IfImages, Merges}
use Rattle.tape_run.specs.MergedImages.{TakeImages, FaultsImages, DifferImages}
use Rattle.tape_run.specs.MergeLines.{lines_from, reading_line, has_line, merged_line, differ_line}
use Rattle.tape_run.specs.MergeNow.{ReportsNoImage, LeavesPlace}
use Rattle.tape_run.specs.MergeLog.{log_head, log_rows}
use Rattle.tape_run.specs.declared.merge.now.MergeStop.TheVariants as stops
use Rattle.tape_run.specs.declared.merge.MergeFault.TheVariants as faults
use Rattle.tape_run.proofs.{Fitting.kept, Reporting.front_then}

-- ---- what was written

pub items_put : (items : List TapeItem) (old new : Writer) → PutItems items old new
    → Appends old.contents new.contents (flat_map written items)
    × (new.size ≡ old.size + length (flat_map written items))
items_put [] old new same =
    subst (λ (w : Writer). Appends old.contents w.contents [] × (w.size ≡ old.size + 0)) (sym same)
    (Appends-nil old.contents, omega arith)
items_put (x ∷ items) old new (mid, put, then) =
    let all = (put_item x old mid put).1 in
    let (wrote, size) = items_put items mid new then in (
      Appends-trans old.contents mid.contents new.contents (written x) (flat_map written items)
          all.wrote wrote,
      omega (arith, size, all.size, length-append (written x) (flat_map written items)),
    )

-- ---- causes

pub misses_more : (a b p q : ℕ → Type 0) (stop : MergeStop) → ((n : ℕ) → a n → b n)
    → ((n : ℕ) → p n → q n) → Misses a p stop → Misses b q stop
misses_more a b p q (stops.NotOpened number) f g h = f number h
misses_more a b p q (stops.TooLong size) f g h = g size h
misses_more a b p q stops.OutOfMemory f g h = tt
misses_more a b p q stops.WriteFailed f g h = tt
misses_more a b p q stops.LogFailed f g h = tt

pub err_misses : {T : Type 0} (result : Result T MergeStop) (a b p q : ℕ → Type 0)
    → ((n : ℕ) → a n → b n) → ((n : ℕ) → p n → q n) → IfErr result (Misses a p)
    → IfErr result (Misses b q)
err_misses (Ok end) a b p q f g h = tt
err_misses (Err stop) a b p q f g h = misses_more a b p q stop f g h

-- ---- the output's name

-- the output's name was not touched
pub stays : {O : Type 0} (stands : O → Option (List ℕ)) (place : O) (said made : Type 0)
    (stop : MergeStop) → said → LeavesPlace stands place place said made stop
stays stands place said made (stops.NotOpened number) h = (refl, h)
stays stands place said made (stops.TooLong size) h = (refl, h)
stays stands place said made stops.OutOfMemory h = (refl, h)
stays stands place said made stops.WriteFailed h = inl (refl, h)
stays stands place said made stops.LogFailed h = (refl, h)

pub err_stays : {T O : Type 0} (result : Result T MergeStop) (stands : O → Option (List ℕ))
    (place : O) (said made : Type 0) → said
    → IfErr result (LeavesPlace stands place place said made)
err_stays (Ok end) stands place said made h = tt
err_stays (Err stop) stands place said made h = stays stands place said made stop h

-- a write failed
pub err_write : {T O : Type 0} (result : Result T MergeStop) (stands : O → Option (List ℕ))
    (old new : O) (said made : Type 0) → result ≡ Err stops.WriteFailed
    → ((stands new ≡ stands old) × said) ⊎ made
    → IfErr result (LeavesPlace stands old new said made)
err_write {T} result stands old new said made is h =
    subst (λ (r : Result T MergeStop). IfErr r (LeavesPlace stands old new said made)) (sym is) h

-- ---- the report after a fault

-- lines about readings that were read to their ends, or a prefix of them
pub says_front : {R : Type 0} (firsts nows : List (Reading R)) (counts : Merged)
    (first mid : Writer) (log logged : Option (List ℕ)) (names : List (List ℕ)) (same : Type 0)
    (old new : Option (List ℕ))
    → IfImages firsts (λ images. Merges (TakeImages images nows) nows counts first mid log logged)
    → length nows ≡ length firsts
    → AppendsFront old new (lines_from (reading_line names) 0 nows)
    → same ⊎ ReportsNoImage R (IfImages firsts) names (length firsts) old new
says_front firsts nows counts first mid log logged names same old new merges all part = inr (
  nows,
  all,
  inl (
    part,
    λ images front. let m = merges images front in (m.readings, m.merged, m.have, m.ended, m.is),
  ),
)

pub says_lines : {R : Type 0} (firsts nows : List (Reading R)) (counts : Merged)
    (first mid : Writer) (log logged : Option (List ℕ)) (names : List (List ℕ)) (same : Type 0)
    (old new : Option (List ℕ))
    → IfImages firsts (λ images. Merges (TakeImages images nows) nows counts first mid log logged)
    → length nows ≡ length firsts
    → Appends old new (lines_from (reading_line names) 0 nows)
    → same ⊎ ReportsNoImage R (IfImages firsts) names (length firsts) old new
says_lines firsts nows counts first mid log logged names same old new merges all wrote =
    let lines = lines_from (reading_line names) 0 nows in
    says_front firsts nows counts first mid log logged names same old new merges all
    (lines, [], wrote, sym (append-nil lines))

-- lines about readings that differ
module _ {R : Type 0} (firsts nows : List (Reading R)) (was now : Writer) (n : ℕ)
    (fault : MergeFault) (names : List (List ℕ)) (same : Type 0)
    (faulted : IfImages firsts (λ images. FaultsImages images nows was now fault))
    (is : fault ≡ faults.Differ n)
    (all : fault ≢ faults.OutOfMemory → length nows ≡ length firsts) where
  differ : (images : List (List ℕ)) → AreAtFront (map Some images) firsts
      → DifferImages images nows n
  differ images front =
      (subst (λ (f : MergeFault). FaultsImages images nows was now f) is (faulted images front)).0

  many : length nows ≡ length firsts
  many = all (λ other. absurd (let e = sym is ∙ other in cc e))

  abbrev pub Says : Option (List ℕ) → Option (List ℕ) → Type 0
  Says old new = same ⊎ ReportsNoImage R (IfImages firsts) names (length firsts) old new

  pub says_first : (old new : Option (List ℕ))
      → AppendsFront old new (lines_from (reading_line names) 0 nows) → Says old new
  says_first old new part =
      let lines = lines_from (reading_line names) 0 nows in
      let more = differ_line n ++ lines_from (has_line names) 0 nows in
      inr (nows, many, inr (n, front_more old new lines more part, differ))

  -- also the number of the item, or a prefix of that line
  pub says_differ : (old mid new : Option (List ℕ))
      → Appends old mid (lines_from (reading_line names) 0 nows)
      → AppendsFront mid new (differ_line n) → Says old new
  says_differ old mid new wrote part =
      let lines = lines_from (reading_line names) 0 nows in
      let items = lines_from (has_line names) 0 nows in
      inr (
        nows,
        many,
        inr (
          n,
          front_then old mid new lines (differ_line n) items _ wrote part
              (sym (append_assoc lines (differ_line n) items)),
          differ,
        ),
      )

  -- also items of the readings there, or a prefix of those lines
  pub says_items : (old mid new : Option (List ℕ))
      → Appends old mid (lines_from (reading_line names) 0 nows ++ differ_line n)
      → AppendsFront mid new (lines_from (has_line names) 0 nows) → Says old new
  says_items old mid new wrote part =
      let lines = lines_from (reading_line names) 0 nows in
      let items = lines_from (has_line names) 0 nows in
      inr (
        nows,
        many,
        inr (
          n,
          front_then old mid new (lines ++ differ_line n) items [] _ wrote part
              (sym (append_assoc lines (differ_line n) items)
              ∙ sym (append-nil ((lines ++ differ_line n) ++ items))),
          differ,
        ),
      )

-- ---- the readings

pub some_end : (bad miscounted : ℕ) (ends : MergedEnd)
    → (end : MergeEnd) × FitsEnd bad miscounted ends end
some_end (suc bad) miscounted ends = (Partial, inl (omega arith))
some_end zero (suc miscounted) ends = (Partial, inr (inl (omega arith)))
some_end zero zero Marked = (Whole, (refl, refl, λ e. cc e))
some_end zero zero Physical = (Whole, (refl, refl, λ e. cc e))
some_end zero zero Cut = (Partial, inr (inr refl))

-- The images were merged, the end was written, and the place has that. The lines were reported, if
-- the last one was.
pub made : {R : Type 0} (firsts nows : List (Reading R)) (counts : Merged) (first mid : Writer)
    (log logged out put stands : Option (List ℕ)) (ends : MergedEnd) (end : MergeEnd)
    (names : List (List ℕ)) (logs says : List ℕ → Type 0)
    → first ≡ record { size = 0; standing = writing; contents = out }
    → IfImages firsts (λ images. Merges (TakeImages images nows) nows counts first mid log logged)
    → Appends mid.contents put (end_bytes ends) → stands ≡ put
    → FitsEnd counts.bad counts.miscounted ends end → EndsAs counts.items nows ends
    → ((rows : List ℕ) → Appends log logged rows → logs (log_head names ++ rows))
    → says (lines_from (reading_line names) 0 nows ++ merged_line counts ends)
    → IfImages firsts (λ images. HoldsMerged R images names out stands logs says end)
made firsts nows counts first mid log logged out put stands ends end names logs says is merges
    wrote there fits how noted lines = λ images front.
    let m = merges images front in
    let begun : Appends out mid.contents (flat_map written m.merged) =
    subst (λ (w : Writer). Appends w.contents mid.contents (flat_map written m.merged)) is
    (items_put m.merged first mid m.wrote).0 in
    record {
      nows = nows;
      readings = m.readings;
      have = m.have;
      stopped = m.ended;
      merged = m.merged;
      is = m.is;
      counts = counts;
      count = m.count;
      ends = ends;
      ends_as = how;
      holds = Appends-trans out mid.contents stands (flat_map written m.merged) (end_bytes ends)
          begun (subst (λ (s : Option (List ℕ)). Appends mid.contents s (end_bytes ends))
          (sym there) wrote);
      fits = fits;
      logged = noted (log_rows 0 m.merged m.readings) m.rows;
      lines = lines;
    }

-- that is what merging comes to
pub comes_whole : {R : Type 0} (firsts : List (Reading R)) (names : List (List ℕ))
    (out stands : Option (List ℕ)) (logs says : List ℕ → Type 0) (end : MergeEnd)
    (ends : MergedEnd) (bad miscounted : ℕ) → FitsEnd bad miscounted ends end
    → IfImages firsts (λ images. HoldsMerged R images names out stands logs says end)
    → IfImages firsts (λ images. ComesTo R images names out stands logs says end)
comes_whole firsts names out stands logs says Whole ends bad miscounted fits h = h
comes_whole firsts names out stands logs says Partial ends bad miscounted fits h = h
comes_whole firsts names out stands logs says Differs ends bad miscounted fits h = absurd fits

-- the names of the columns were written, followed by the rows, and the log was flushed
pub all_logged : (a b c d : Option (List ℕ)) (names : List (List ℕ)) (text head : List ℕ)
    → text ≡ head → head ≡ log_head names → Appends a b text → Keeps c d
    → (rows : List ℕ) → Appends b c rows → Appends a d (log_head names ++ rows)
all_logged a b c d names text head is named wrote flushed rows more =
    kept a c d (log_head names ++ rows)
    (Appends-trans a b c (log_head names) rows (subst (λ t. Appends a b t) (is ∙ named) wrote) more)
    flushed

-- readings at the beginning of images, as a borrow of the devices and of themselves
pub at_front : {R D : Type 0} (remaining : D → Option (List ℕ)) (devices lent : List D)
    (xs ys : List (Reading R)) → lent ≡ devices → ys ≡ xs → AreAtFront (map remaining lent) xs
    → AreAtFront (map remaining devices) ys
at_front {R} {D} remaining devices lent xs ys same e h =
    subst (λ (l : List D). AreAtFront (map remaining l) ys) same
    (subst (λ (l : List (Reading R)). AreAtFront (map remaining lent) l) (sym e) h)
