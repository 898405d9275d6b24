-- The set is finished: its volumes are those of a valid, tight set.
use Rattle.tape_writer.proofs.Words.{◌≡◌, ◌≢◌, ◌<◌, ◌≤◌, ℕ, zero, suc, ◌+◌, List, [], ◌∷◌, ◌++◌}
use Rattle.tape_writer.proofs.Words.{length, Some, refl, sym, ap, ◌∙◌, arith, take, add-one}
use Rattle.tape_writer.proofs.Words.{map, slice_get, AllByRecursion, map-append, append-nil, mark}
use Rattle.tape_writer.proofs.Words.{Vol1, Section, Placed, Volume, a_mark, on, all_entries}
use Rattle.tape_writer.proofs.Words.{numbered, all_numbered, group_of, item_of, IsSection}
use Rattle.tape_writer.proofs.Words.{IsTightChange, used_before, items_size-append, every}
use Rattle.tape_writer.proofs.{Words.IsWideVolume, Words.length-take-le, Sections.vol1_is}
use Rattle.tape_writer.proofs.Volumes.{all_push, first_next}
use Rattle.tape_set.specs.Layout.{FileSet, nth, sections, header_group, data_group, first_items}
use Rattle.tape_set.specs.{Layout.all_items, Sizes.entries_size, Lawful.IsVolume, Lawful.IsFile}
use Rattle.tape_set.specs.Tight.{IsTightEnd, AreTightFiles, EachBehind, ChainBehind, last_volume}
use Rattle.tape_writer.specs.Draft.{Draft, placed, body, first_volumes, body_items, ended_volumes}
use Rattle.tape_writer.specs.{declared.course.Course.Course, Tapes.Tapes, Tapes.Ended}
use Rattle.tape_writer.specs.Told.{labelled, IsWithin, Told, AreFiled, IsWrittenSet}
use Rattle.tape_writer.specs.Draft.{IsDone, Between, OfLast}

abbrev pub set_of : List Vol1 → List ℕ → Draft → FileSet
set_of vs set_id d =
    record { set_id = set_id; volumes = take (d.past + 1) (map labelled vs); files = d.files }

-- ---- the volumes used

all_volumes : (vs : List Vol1) (n : ℕ) → AllByRecursion IsWideVolume vs
    → AllByRecursion IsVolume (take n (map labelled vs))
all_volumes vs zero w = tt
all_volumes [] (suc n) w = tt
all_volumes (v ∷ vs) (suc n) w =
    (record { vol1 = (vol1_is v w.0).kind; labels = tt }, all_volumes vs n w.1)

all_plain : (vs : List Vol1) (n : ℕ)
    → AllByRecursion (λ v. v.labels ≡ []) (take n (map labelled vs))
all_plain vs zero = tt
all_plain [] (suc n) = tt
all_plain (v ∷ vs) (suc n) = (refl, all_plain vs n)

get_taken : {A : Type 0} (vs : List A) (n k : ℕ) → k < n → slice_get (take n vs) k ≡ slice_get vs k
get_taken vs zero k h = absurd (omega arith)
get_taken [] (suc n) k h = refl
get_taken (v ∷ vs) (suc n) zero h = refl
get_taken (v ∷ vs) (suc n) (suc k) h = get_taken vs n k (omega arith)

nth_taken : {A : Type 0} (vs : List A) (n k : ℕ) → k ≤ n → nth (take n vs) k ≡ nth vs k
nth_taken vs n zero h = refl
nth_taken vs n (suc k) h = get_taken vs n k (omega arith)

get_some : {A : Type 0} (vs : List A) (k : ℕ) → k < length vs → (v : A) × (slice_get vs k ≡ Some v)
get_some [] k h = absurd (omega arith)
get_some (v ∷ vs) zero h = (v, refl)
get_some (v ∷ vs) (suc k) h = get_some vs k (omega arith)

-- ---- earlier decisions do not depend on later volumes

used_taken : (vs : List Volume) (n : ℕ) (past : List Placed) (s : Section) → s.volume ≤ n
    → used_before (take n vs) past s ≡ used_before vs past s
used_taken vs n past s h = ap (λ z. entries_size (group_of z ++ all_entries (on s.volume past)
    ++ header_group s ++ data_group s.blocks)) (nth_taken vs n s.volume h)

ends_taken : (vs : List Volume) (cap n : ℕ) (past xs : List Placed)
    → AllByRecursion (λ x. x.section.volume ≤ n) xs → EachBehind (IsTightEnd vs cap) past xs
    → EachBehind (IsTightEnd (take n vs) cap) past xs
ends_taken vs cap n past [] h e = tt
ends_taken vs cap n past (x ∷ xs) h e =
    let used = used_taken vs n past x.section h.0 in (
      record { volume_end = rw used e.0.volume_end; file_end = λ i. rw used (e.0.file_end i) },
      ends_taken vs cap n (past ++ x ∷ []) xs h.1 e.1,
    )

changes_taken : (vs : List Volume) (cap n : ℕ) (past xs : List Placed)
    → AllByRecursion (λ x. x.section.volume ≤ n) xs → ChainBehind (IsTightChange vs cap) past xs
    → ChainBehind (IsTightChange (take n vs) cap) past xs
changes_taken vs cap n past [] h c = tt
changes_taken vs cap n past (x ∷ []) h c = tt
changes_taken vs cap n past (x ∷ y ∷ xs) h c = (
  rw (used_taken vs n past x.section h.0) c.0,
  changes_taken vs cap n (past ++ x ∷ []) (y ∷ xs) h.1 c.1,
)

-- ---- the items of all volumes

first_are : (set : FileSet) (k : ℕ) → k ≤ length set.volumes
    → first_items set.volumes (sections set) k ≡ first_volumes set.volumes (sections set) k
first_are set zero h = refl
first_are set (suc k) h =
    let v = get_some set.volumes k (omega arith) in
    let there : nth set.volumes (k + 1) ≡ Some v.0 = ap (nth set.volumes) (add-one k) ∙ v.1 in
    rw (first_are set k (omega arith), there, v.1)

first_taken : (vs : List Volume) (xs : List Placed) (n k : ℕ) → k ≤ n
    → first_volumes (take n vs) xs k ≡ first_volumes vs xs k
first_taken vs xs n zero h = refl
first_taken vs xs n (suc k) h =
    rw (first_taken vs xs n k (omega arith), get_taken vs n k (omega arith))

-- ---- files

are_files : (cap : ℕ) (told : List Told) (fs : List (List Section)) → AreFiled cap told fs
    → AllByRecursion IsFile fs
are_files cap [] [] h = tt
are_files cap [] (f ∷ fs) h = absurd h
are_files cap (t ∷ ts) [] h = absurd h
are_files cap (t ∷ ts) (f ∷ fs) h = (h.0.is_file, are_files cap ts fs h.1)

are_tight : (cap : ℕ) (told : List Told) (fs : List (List Section)) → AreFiled cap told fs
    → AreTightFiles cap (map (λ t. t.file.shape) told) fs
are_tight cap [] [] h = tt
are_tight cap [] (f ∷ fs) h = h
are_tight cap (t ∷ ts) [] h = h
are_tight cap (t ∷ ts) (f ∷ fs) h = (h.0.tight, are_tight cap ts fs h.1)

some_sections : (cap : ℕ) (told : List Told) (fs : List (List Section)) → AreFiled cap told fs
    → told ≢ [] → all_numbered 1 fs ≢ []
some_sections cap [] fs h some = absurd (some refl)
some_sections cap (t ∷ ts) [] h some = absurd h
some_sections cap (t ∷ ts) ([] ∷ fs) h some = absurd h.0.is_file.ends
some_sections cap (t ∷ ts) ((s ∷ ss) ∷ fs) h some = λ e. cc

last_stands : (xs : List Placed) (n : ℕ) → xs ≢ [] → OfLast xs (λ ys x. x.section.volume ≡ n)
    → last_volume xs ≡ n
last_stands [] n some h = absurd (some refl)
last_stands (x ∷ []) n some h = h [] x refl
last_stands (x ∷ y ∷ xs) n some h =
    last_stands (y ∷ xs) n (λ e. absurd (cc)) (λ ys z e. h (x ∷ ys) z (ap (λ v. x ∷ v) e))

-- **the end**
pub written_set : (H : Tapes → Type 0) (vs : List Vol1) (cap : ℕ) (set_id : List ℕ)
    (course : Course) (d : Draft) (told : List Told)
    → AllByRecursion IsWideVolume vs → told ≢ [] → Between (map labelled vs) cap set_id course d
    → AreFiled cap told d.files → H (Ended (ended_volumes (map labelled vs) d
    ++ (body_items (map labelled vs) d ++ mark ∷ []) ∷ []))
    → IsWrittenSet H vs cap set_id told
written_set H vs cap set_id course d told wide some b files h =
    let n : ℕ = d.past + 1 in
    let all_vs : List Volume = map labelled vs in
    let set : FileSet = set_of vs set_id d in
    let long : length set.volumes ≡ n = length-take-le n all_vs (omega (arith, b.volume, b.few)) in
    let all : placed d ≡ sections set =
    ap (λ z. all_numbered 1 d.files ++ numbered (length d.files + 1) 1 z) b.no_sects
    ∙ append-nil (all_numbered 1 d.files) in
    let done : IsDone all_vs cap set_id n (sections set) = rw all at b.done in
    let below : AllByRecursion (λ x. x.section.volume ≤ n) (sections set) = every (IsSection set_id
    n) (λ x. x.section.volume ≤ n) (λ x k. k.volume.1) (sections set) done.each in
    let stands : OfLast (sections set) (λ ys x. x.section.volume ≡ n) =
    λ ys x e. (b.last ys x (all ∙ e)).1 ∙ b.volume in
    let items : all_items set ≡ ended_volumes all_vs d ++ (body_items all_vs d ++ mark ∷ []) ∷ [] =
    first_are set (length set.volumes) (omega arith)
    ∙ (ap (first_volumes set.volumes (sections set)) long
    ∙ (first_taken all_vs (sections set) n n (omega arith)
    ∙ (ap (λ z. first_volumes all_vs z n) (sym all) ∙ (first_next all_vs (placed d) d.past
    ∙ ap (λ z. ended_volumes all_vs d ++ z ∷ []) (map-append item_of (body all_vs (placed d) d.past)
    (a_mark ∷ [])))))) in
    record {
      layout = set;
      lawful = record {
        volumes = all_volumes vs n wide;
        each = rw long done.each;
        files = are_files cap told d.files files;
        first = done.first;
        goes_on = done.chain;
      };
      tight = record {
        plain = all_plain vs n;
        last = last_stands (sections set) n (some_sections cap told d.files files some) stands
            ∙ sym long;
        files = are_tight cap told d.files files;
        ends = ends_taken all_vs cap n [] (sections set) below done.ends;
        changes = changes_taken all_vs cap n [] (sections set) below done.changes;
      };
      held = rw items h;
      within = rw items (all_push (IsWithin cap) (ended_volumes all_vs d)
          (body_items all_vs d ++ mark ∷ []) b.within
          (omega (arith, items_size-append (body_items all_vs d) (mark ∷ []), b.used, b.room)));
      of_set = refl;
      of_volumes = ap (λ k. take k all_vs) (sym long);
      files = files;
    }
