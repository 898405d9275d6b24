-- A copy of a volume of a valid set is its own normal form.
use Rattle.std.proofs.Common.{length, zero, suc}
use Rattle.std.proofs.Common.{◌≡◌, ℕ, List, [], ◌∷◌, ◌++◌, map, Bool, true, false, cond, Option}
use Rattle.std.proofs.Common.{Some, None}
use Rattle.std.proofs.Common.{Ok, refl, sym, ap, ◌∙◌, subst, append_assoc, ◌==◌, ◌+◌, ◌≤◌, ◌<◌}
use Rattle.std.proofs.{Common.arith, lemmas.List.length-map}
use Rattle.std.specs.{List.AllByRecursion}
use Rattle.tape_image.specs.Tape.{TapeItem, block, bad, mark}
use Rattle.tape_label.specs.declared.values.Kind.TheVariants as kinds
use Rattle.tape_label.specs.{declared.values.Head1.Head1, declared.values.Head2.Head2}
use Rattle.tape_label.specs.{Kinds.kind_at, Kinds.trailer, VolumeLabels.is_volume_label}
use Rattle.tape_label.specs.{Reading.head1_at, Reading.head2_at, Head1.IsHead1, Head2.IsHead2}
use Rattle.tape_label.specs.{Trail1.IsTrail1, Kinds.HasKind}
use Rattle.tape_label.proofs.{Apart.kind_again, First.head1_again, Second.head2_again}
use Rattle.tape_label.proofs.{First.trail1_again}
use Rattle.tape_label.specs.{declared.values.Trail1.Trail1, Reading.trail1_at}
use Rattle.tape_label.proofs.VolumeLabels.{volume_label_again, no_volume_label}
use Rattle.tape_blocks.specs.Tight.{Filled}
use Rattle.tape_set.specs.Layout.{FileSet, Section, Placed, Volume, nth, sections, on, section_of}
use Rattle.tape_set.specs.Layout.{Entry, item_of, a_label, a_data_block, a_mark, all_entries}
use Rattle.tape_set.specs.Layout.{header_group, data_group, trailer_group, volume_group, entries_on}
use Rattle.tape_set.specs.Layout.{section_entries}
use Rattle.tape_set.specs.Lawful.{IsLawful, IsSection, IsVolume, IsVolumeLabel, label_count}
use Rattle.tape_set.specs.Lawful.{most_blocks}
use Rattle.tape_set.specs.Reading.{as_read}
use Rattle.tape_set.proofs.Everywhere.{every, every_both, every-filter, every_at}
use Rattle.tape_set.proofs.Numbering.{sections_found}
use Rattle.tape_set.proofs.Forms.{form_told}
use Rattle.tape_core.specs.declared.normal.code.Code.{Code}
use Rattle.tape_core.specs.declared.normal.code.Code.TheVariants.{Ascii}
use Rattle.tape_core.specs.declared.normal.numbers.FileSeen.{FileSeen}
use Rattle.tape_core.specs.NormalForm.Mended.{is_first_trailer, is_dummy, is_hdr1, mended}
use Rattle.tape_core.specs.NormalForm.Mended.{seen_as, trailed, counted, uncounted, one_more, told}
use Rattle.tape_core.specs.NormalForm.Mended.{is_uncounted, no_file}
use Rattle.tape_core.proofs.NormalForm.Numbers.{headed_ok, trailed_ok, trailed_same}
use Rattle.tape_core.proofs.NormalForm.Numbers.{same_uncounted, none_uncounted}
use Rattle.tape_core.proofs.{NormalForm.Enough.is_less, Labels.code_vol1}
use Rattle.tape_core.specs.NormalForm.{of_start, of_labels, of_second, of_headers, of_data}
use Rattle.tape_core.specs.NormalForm.{of_trailer, of_trailers, of_next, normal}
use Rattle.tape_core.specs.NormalForm.Laws.{NormalKeeps}

-- ---- the items of a volume, one section after another

abbrev blocks : List (List ℕ) → List TapeItem → List TapeItem
blocks [] k = k
blocks (b ∷ bs) k = block b ∷ blocks bs k

abbrev data_of : List Filled → List (List ℕ)
data_of fs = map (λ f. f.bytes) fs

-- from a section's trailers, trailer, data, headers and HDR2 on
abbrev trailers_on : Section → List TapeItem → List TapeItem
trailers_on s k = blocks s.trailers (mark ∷ k)

abbrev trailer_on : Section → List TapeItem → List TapeItem
trailer_on s k = block s.trailer ∷ trailers_on s k

abbrev data_on : Section → List TapeItem → List TapeItem
data_on s k = blocks (data_of s.blocks) (mark ∷ trailer_on s k)

abbrev headers_on : Section → List TapeItem → List TapeItem
headers_on s k = blocks s.headers (mark ∷ data_on s k)

abbrev second_on : Section → List TapeItem → List TapeItem
second_on s k = block s.hdr2 ∷ headers_on s k

-- the sections, and the last mark
abbrev rest_of : List Placed → List TapeItem
rest_of [] = mark ∷ []
rest_of (x ∷ xs) = block x.section.hdr1 ∷ second_on x.section (rest_of xs)

-- what is used of a section's labels
record Labelled (s : Section) : Type 0 where
  pub header : kind_at s.hdr1 ≡ Some kinds.Hdr1
  pub head : Head1
  pub read : head1_at s.hdr1 ≡ Ok head
  pub no_label : is_volume_label s.hdr1 ≡ false
  pub no_dummy : is_dummy s.hdr1 ≡ false
  pub second : kind_at s.hdr2 ≡ Some kinds.Hdr2
  pub kept : mended s.hdr2 ≡ s.hdr2
  pub trailer : is_first_trailer (kind_at s.trailer) ≡ true
  pub last : Trail1
  pub ended : trail1_at s.trailer ≡ Ok last
  pub count : last.blocks ≡ label_count (length s.blocks)
  pub few : length s.blocks ≤ most_blocks
  pub no_header : is_hdr1 (kind_at s.trailer) ≡ false

-- a copy of these items, however damaged, is kept by this part of the normal form
abbrev Keeps : (List TapeItem → List TapeItem) → List TapeItem → Type 0
Keeps f k = (good : List Bool) → f (as_read k good) ≡ as_read k good

-- the same where the header label of the file has numbers
abbrev KeepsIn : (Code → FileSeen → List TapeItem → List TapeItem) → List TapeItem → Type 0
KeepsIn f k = (seen : FileSeen) → seen.is_filled ≡ false → Keeps (f Ascii seen) k

-- the same after so many blocks of data
abbrev KeepsAt : ℕ → (Code → FileSeen → List TapeItem → List TapeItem) → List TapeItem → Type 0
KeepsAt n f k =
    (seen : FileSeen) → seen.is_filled ≡ false → seen.blocks ≡ Some n → Keeps (f Ascii seen) k

-- the same after an item among the data that cannot be read
abbrev KeepsAfter : (Code → FileSeen → List TapeItem → List TapeItem) → List TapeItem → Type 0
KeepsAfter f k =
    (seen : FileSeen) → seen.is_filled ≡ false → seen.blocks ≡ None → Keeps (f Ascii seen) k

-- ---- blocks up to a mark

trailers_run : (bs : List (List ℕ)) (k : List TapeItem) → KeepsIn of_next k
    → KeepsIn of_trailers (blocks bs (mark ∷ k))
trailers_run [] k h seen u [] = refl
trailers_run [] k h seen u (true ∷ gs) = ap (λ v. mark ∷ v) (h seen u gs)
trailers_run [] k h seen u (false ∷ gs) = refl
trailers_run (b ∷ bs) k h seen u [] = refl
trailers_run (b ∷ bs) k h seen u (true ∷ gs) = ap (λ v. block b ∷ v) (trailers_run bs k h seen u gs)
trailers_run (b ∷ bs) k h seen u (false ∷ gs) = refl

headers_run : (bs : List (List ℕ)) (k : List TapeItem) → KeepsAt 0 of_data k
    → KeepsAt 0 of_headers (blocks bs (mark ∷ k))
headers_run [] k h seen u n [] = refl
headers_run [] k h seen u n (true ∷ gs) = ap (λ v. mark ∷ v) (h seen u n gs)
headers_run [] k h seen u n (false ∷ gs) = refl
headers_run (b ∷ bs) k h seen u n [] = refl
headers_run (b ∷ bs) k h seen u n (true ∷ gs) =
    ap (λ v. block b ∷ v) (headers_run bs k h seen u n gs)
headers_run (b ∷ bs) k h seen u n (false ∷ gs) = refl

data_run : (bs : List (List ℕ)) (k : List TapeItem) → KeepsAfter of_trailer k
    → KeepsAfter of_data k → KeepsAfter of_data (blocks bs (mark ∷ k))
data_run [] k h d seen u n [] = refl
data_run [] k h d seen u n (true ∷ gs) = ap (λ v. mark ∷ v) (h seen u n gs)
data_run [] k h d seen u n (false ∷ gs) = ap (λ v. bad ∷ v) (d (uncounted seen) u refl gs)
data_run (b ∷ bs) k h d seen u n [] = refl
data_run (b ∷ bs) k h d seen u n (true ∷ gs) =
    ap (λ v. block b ∷ v) (data_run bs k h d (counted seen) u (ap one_more n) gs)
data_run (b ∷ bs) k h d seen u n (false ∷ gs) =
    ap (λ v. bad ∷ v) (data_run bs k h d (uncounted seen) u refl gs)

one_counted : (m : ℕ) (o : Option ℕ) → o ≡ Some m → m < most_blocks → one_more o ≡ Some (m + 1)
one_counted m o e h = rw (e, is_less m 4294967295 h) refl

-- the data of a section, as long as all items can be read
data_read : (bs : List (List ℕ)) (k : List TapeItem) (m all : ℕ) → m + length bs ≡ all
    → all ≤ most_blocks → KeepsAt all of_trailer k → KeepsAfter of_trailer k → KeepsAfter of_data k
    → KeepsAt m of_data (blocks bs (mark ∷ k))
data_read [] k m all e few h a d seen u n [] = refl
data_read [] k m all e few h a d seen u n (true ∷ gs) =
    let same : m ≡ all = omega (arith, e) in
    ap (λ v. mark ∷ v) (h seen u (n ∙ ap (λ v. Some v) same) gs)
data_read [] k m all e few h a d seen u n (false ∷ gs) =
    ap (λ v. bad ∷ v) (d (uncounted seen) u refl gs)
data_read (b ∷ bs) k m all e few h a d seen u n [] = refl
data_read (b ∷ bs) k m all e few h a d seen u n (true ∷ gs) =
    ap (λ v. block b ∷ v) (data_read bs k (m + 1) all (omega (arith, e)) few h a d
    (counted seen) u (one_counted m seen.blocks n (omega (arith, e, few))) gs)
data_read (b ∷ bs) k m all e few h a d seen u n (false ∷ gs) =
    ap (λ v. bad ∷ v) (data_run bs k a d (uncounted seen) u refl gs)

data_block : (b : List ℕ) (k : List TapeItem) → KeepsAfter of_data k
    → KeepsAfter of_data (block b ∷ k)
data_block b k d seen u n [] = refl
data_block b k d seen u n (true ∷ gs) =
    ap (λ v. block b ∷ v) (d (counted seen) u (ap one_more n) gs)
data_block b k d seen u n (false ∷ gs) = ap (λ v. bad ∷ v) (d (uncounted seen) u refl gs)

-- ---- one section

module _ (s : Section) (l : Labelled s) (k : List TapeItem) (next : KeepsIn of_next k)
    (data' : KeepsAfter of_data k) (trail : KeepsAfter of_trailer k) where
  next_at_trailer : KeepsIn of_next (trailer_on s k)
  next_at_trailer seen u [] = refl
  next_at_trailer seen u (true ∷ gs) = rw (l.no_header) refl
  next_at_trailer seen u (false ∷ gs) = refl

  trailer_read : (seen : FileSeen) → seen.is_filled ≡ false
      → is_uncounted seen l.last.blocks ≡ false → Keeps (of_trailer Ascii seen) (trailer_on s k)
  trailer_read seen u c [] = refl
  trailer_read seen u c (true ∷ gs) =
      rw (l.trailer, trailed_ok seen s.trailer l.last l.ended c)
      (ap (λ v. block s.trailer ∷ v)
      (trailers_run s.trailers k next (told l.last.blocks seen) u gs))
  trailer_read seen u c (false ∷ gs) = refl

  trailer_at_trailer : KeepsAt (length s.blocks) of_trailer (trailer_on s k)
  trailer_at_trailer seen u n =
      trailer_read seen u (same_uncounted seen l.last.blocks (length s.blocks) n l.count)

  trailer_after : KeepsAfter of_trailer (trailer_on s k)
  trailer_after seen u n = trailer_read seen u (none_uncounted seen l.last.blocks n)

  data_at_trailer : KeepsAfter of_data (trailer_on s k)
  data_at_trailer =
      data_block s.trailer (trailers_on s k) (data_run s.trailers k trail data')

  trailer_at_data : (bs : List (List ℕ))
      → KeepsAfter of_trailer (blocks bs (mark ∷ trailer_on s k))
  trailer_at_data [] seen u n [] = refl
  trailer_at_data [] seen u n (true ∷ gs) = refl
  trailer_at_data [] seen u n (false ∷ gs) = refl
  trailer_at_data (b ∷ bs) seen u n [] = refl
  trailer_at_data (b ∷ bs) seen u n (true ∷ gs) = go (is_first_trailer (kind_at b))
    where
      go : (t : Bool)
          → cond t (block (trailed seen b).0
          ∷ of_trailers Ascii (trailed seen b).1 (as_read (blocks bs (mark ∷ trailer_on s k)) gs))
          (block b ∷ as_read (blocks bs (mark ∷ trailer_on s k)) gs)
          ≡ block b ∷ as_read (blocks bs (mark ∷ trailer_on s k)) gs
      go true =
          let is = trailed_same seen b u n in
          rw (is.label) (ap (λ v. block b ∷ v)
          (trailers_run bs (trailer_on s k) next_at_trailer (trailed seen b).1 is.filled gs))
      go false = refl
  trailer_at_data (b ∷ bs) seen u n (false ∷ gs) = refl

  data_count : length (data_of s.blocks) ≡ length s.blocks
  data_count = length-map s.blocks (λ f. f.bytes)

  data_at_data : KeepsAt 0 of_data (data_on s k)
  data_at_data =
      data_read (data_of s.blocks) (trailer_on s k) 0 (length s.blocks) (omega (arith, data_count))
      l.few trailer_at_trailer trailer_after data_at_trailer

  data_after : KeepsAfter of_data (data_on s k)
  data_after =
      data_run (data_of s.blocks) (trailer_on s k) trailer_after data_at_trailer

  headers_at_headers : KeepsAt 0 of_headers (headers_on s k)
  headers_at_headers = headers_run s.headers (data_on s k) data_at_data

  data_at_headers : KeepsAfter of_data (headers_on s k)
  data_at_headers =
      data_run s.headers (data_on s k) (trailer_at_data (data_of s.blocks)) data_after

  data_at_second : KeepsAfter of_data (second_on s k)
  data_at_second = data_block s.hdr2 (headers_on s k) data_at_headers

  second_at_second : KeepsAt 0 of_second (second_on s k)
  second_at_second seen u n [] = refl
  second_at_second seen u n (true ∷ gs) =
      rw (l.second, l.kept) (ap (λ v. block s.hdr2 ∷ v) (headers_at_headers seen u n gs))
  second_at_second seen u n (false ∷ gs) = refl

  next_at_header : KeepsIn of_next (block s.hdr1 ∷ second_on s k)
  next_at_header seen u [] = refl
  next_at_header seen u (true ∷ gs) =
      rw (l.header, headed_ok seen s.hdr1 l.head l.read)
      (ap (λ v. block s.hdr1 ∷ v) (second_at_second (seen_as seen false l.head) refl refl gs))
  next_at_header seen u (false ∷ gs) = refl

  data_at_header : KeepsAfter of_data (block s.hdr1 ∷ second_on s k)
  data_at_header = data_block s.hdr1 (second_on s k) data_at_second

  trailer_at_header : KeepsAfter of_trailer (block s.hdr1 ∷ second_on s k)
  trailer_at_header seen u n [] = refl
  trailer_at_header seen u n (true ∷ gs) = rw (l.header) refl
  trailer_at_header seen u n (false ∷ gs) = refl

  labels_at_header : Keeps (of_labels Ascii 0) (block s.hdr1 ∷ second_on s k)
  labels_at_header [] = refl
  labels_at_header (true ∷ gs) =
      rw (l.no_label, l.header, l.no_dummy, headed_ok no_file s.hdr1 l.head l.read)
      (ap (λ v. block s.hdr1 ∷ v) (second_at_second (seen_as no_file false l.head) refl refl gs))
  labels_at_header (false ∷ gs) = refl

-- ---- all sections of a volume

record AllKept (k : List TapeItem) : Type 0 where
  pub next : KeepsIn of_next k
  pub data' : KeepsAfter of_data k
  pub trail : KeepsAfter of_trailer k
  pub labels : Keeps (of_labels Ascii 0) k

last_next : KeepsIn of_next (mark ∷ [])
last_next seen u [] = refl
last_next seen u (true ∷ gs) = refl
last_next seen u (false ∷ gs) = refl

last_data : KeepsAfter of_data (mark ∷ [])
last_data seen u n [] = refl
last_data seen u n (true ∷ gs) = refl
last_data seen u n (false ∷ gs) = refl

last_trail : KeepsAfter of_trailer (mark ∷ [])
last_trail seen u n [] = refl
last_trail seen u n (true ∷ gs) = refl
last_trail seen u n (false ∷ gs) = refl

last_labels : Keeps (of_labels Ascii 0) (mark ∷ [])
last_labels [] = refl
last_labels (true ∷ gs) = refl
last_labels (false ∷ gs) = refl

all_kept : (xs : List Placed) → AllByRecursion (λ x. Labelled x.section) xs → AllKept (rest_of xs)
all_kept [] h = record {
  next = last_next;
  data' = last_data;
  trail = last_trail;
  labels = last_labels;
}
all_kept (x ∷ xs) h =
    let a = all_kept xs h.1 in
    record {
      next = next_at_header x.section h.0 (rest_of xs) a.next a.data' a.trail;
      data' = data_at_header x.section h.0 (rest_of xs) a.next a.data' a.trail;
      trail = trailer_at_header x.section h.0 (rest_of xs) a.next a.data' a.trail;
      labels = labels_at_header x.section h.0 (rest_of xs) a.next a.data' a.trail;
    }

-- ---- the whole volume

labels_run : (bs : List (List ℕ)) (k : List TapeItem) → AllByRecursion IsVolumeLabel bs
    → Keeps (of_labels Ascii 0) k → Keeps (of_labels Ascii 0) (blocks bs k)
labels_run [] k h d good = d good
labels_run (b ∷ bs) k h d [] = refl
labels_run (b ∷ bs) k h d (true ∷ gs) =
    let is : is_volume_label b ≡ true = volume_label_again b (h.0.size, h.0.named) in
    rw (is) (ap (λ v. block b ∷ v) (labels_run bs k h.1 d gs))
labels_run (b ∷ bs) k h d (false ∷ gs) = refl

volume_kept : (v : Volume) (k : List TapeItem) → IsVolume v → Keeps (of_labels Ascii 0) k
    → Keeps (of_start 0) (block v.vol1 ∷ blocks v.labels k)
volume_kept v k is d [] = refl
volume_kept v k is d (true ∷ gs) =
    let first : kind_at v.vol1 ≡ Some kinds.Vol1 = kind_again v.vol1 kinds.Vol1 is.vol1 in
    rw (code_vol1 v.vol1 first, first)
    (ap (λ w. block v.vol1 ∷ w) (labels_run v.labels k is.labels d gs))
volume_kept v k is d (false ∷ gs) = refl

-- ---- the items of a volume are these

labels_then : (bs : List (List ℕ)) (es : List Entry)
    → map item_of (map a_label bs ++ es) ≡ blocks bs (map item_of es)
labels_then [] es = refl
labels_then (b ∷ bs) es = ap (λ v. block b ∷ v) (labels_then bs es)

headers_then : (bs : List (List ℕ)) (d es : List Entry)
    → map item_of (((map a_label bs ++ a_mark ∷ []) ++ d) ++ es)
    ≡ blocks bs (mark ∷ map item_of (d ++ es))
headers_then [] d es = refl
headers_then (b ∷ bs) d es = ap (λ v. block b ∷ v) (headers_then bs d es)

data_then : (fs : List Filled) (t es : List Entry)
    → map item_of ((map (λ f. a_data_block f.bytes) fs ++ t) ++ es)
    ≡ blocks (data_of fs) (map item_of (t ++ es))
data_then [] t es = refl
data_then (f ∷ fs) t es = ap (λ v. block f.bytes ∷ v) (data_then fs t es)

trailers_then : (bs : List (List ℕ)) (es : List Entry)
    → map item_of ((map a_label bs ++ a_mark ∷ []) ++ es) ≡ blocks bs (mark ∷ map item_of es)
trailers_then [] es = refl
trailers_then (b ∷ bs) es = ap (λ v. block b ∷ v) (trailers_then bs es)

section_is : (s : Section) (es : List Entry)
    → map item_of (section_entries s ++ es) ≡ block s.hdr1 ∷ second_on s (map item_of es)
section_is s es =
    let t : map item_of (trailer_group s ++ es) ≡ mark ∷ trailer_on s (map item_of es) =
    ap (λ v. mark ∷ block s.trailer ∷ v) (trailers_then s.trailers es) in
    let d : map item_of ((data_group s.blocks ++ trailer_group s) ++ es)
    ≡ data_on s (map item_of es) =
    data_then s.blocks (trailer_group s) es ∙ ap (λ v. blocks (data_of s.blocks) v) t in
    let h : map item_of (((map a_label s.headers ++ a_mark ∷ [])
    ++ (data_group s.blocks ++ trailer_group s)) ++ es) ≡ headers_on s (map item_of es) =
    headers_then s.headers (data_group s.blocks ++ trailer_group s) es
    ∙ ap (λ v. blocks s.headers (mark ∷ v)) d in
    ap (λ v. map item_of (v ++ es))
    (append_assoc (header_group s) (data_group s.blocks) (trailer_group s))
    ∙ ap (λ v. block s.hdr1 ∷ block s.hdr2 ∷ v) h

rest_is : (xs : List Placed) → map item_of (all_entries xs ++ a_mark ∷ []) ≡ rest_of xs
rest_is [] = refl
rest_is (x ∷ xs) =
    ap (λ v. map item_of v)
    (append_assoc (section_entries x.section) (all_entries xs) (a_mark ∷ []))
    ∙ section_is x.section (all_entries xs ++ a_mark ∷ [])
    ∙ ap (λ v. block x.section.hdr1 ∷ second_on x.section v) (rest_is xs)

volume_is : (v : Volume) (k : ℕ) (xs : List Placed)
    → map item_of (entries_on (Some v) k xs) ≡ block v.vol1 ∷ blocks v.labels (rest_of (on k xs))
volume_is v k xs =
    ap (λ w. map item_of w)
    (append_assoc (volume_group v) (all_entries (on k xs)) (a_mark ∷ []))
    ∙ ap (λ w. block v.vol1 ∷ w) (labels_then v.labels (all_entries (on k xs) ++ a_mark ∷ [])
    ∙ ap (λ w. blocks v.labels w) (rest_is (on k xs)))

-- ---- the labels of a valid set

ok_kept : (b : List ℕ) (h : Head2) → head2_at b ≡ Ok h → mended b ≡ b
ok_kept b h e = rw (e) refl

pub ok_no_dummy : (b : List ℕ) (h : Head1) → head1_at b ≡ Ok h → is_dummy b ≡ false
ok_no_dummy b h e = rw (e) refl

pub first_trailer : (b : List ℕ) (eof : Bool) → HasKind b (trailer eof)
    → (is_first_trailer (kind_at b) ≡ true) × (is_hdr1 (kind_at b) ≡ false)
first_trailer b true is = let e = kind_again b kinds.Eof1 is in (rw (e) refl, rw (e) refl)
first_trailer b false is = let e = kind_again b kinds.Eov1 is in (rw (e) refl, rw (e) refl)

every_nth : {A : Type 0} (P : A → Type 0) (xs : List A) (n : ℕ) (x : A) → AllByRecursion P xs
    → nth xs n ≡ Some x → P x
every_nth P xs zero x h e = absurd (cc)
every_nth P xs (suc n) x h e = every_at P xs n x h e

module _ (set : FileSet) (lawful : IsLawful set) where
  labelled : (volumes : ℕ) (x : Placed)
      → IsSection set.set_id volumes x × (section_of set x.file x.sect ≡ Some x.section)
      → Labelled x.section
  labelled volumes x (is, found) =
      let form = form_told set x.file lawful x.sect x.section found in
      let h : IsHead1 x.section.hdr1 is.header.0 = is.header.1.label in
      let t : IsTrail1 x.section.trailer is.trailer.0 = is.trailer.1.label in
      let g : IsHead2 x.section.hdr2 kinds.Hdr2 form.1.second = form.1.hdr2 in
      let last = first_trailer x.section.trailer is.trailer.0.eof t.kind in
      record {
        header = kind_again x.section.hdr1 kinds.Hdr1 h.kind;
        head = is.header.0;
        read = head1_again x.section.hdr1 is.header.0 h;
        no_label = no_volume_label x.section.hdr1 kinds.Hdr1 h.kind (λ e. cc);
        no_dummy = ok_no_dummy x.section.hdr1 is.header.0
            (head1_again x.section.hdr1 is.header.0 h);
        second = kind_again x.section.hdr2 kinds.Hdr2 g.kind;
        kept = ok_kept x.section.hdr2 form.1.second
            (head2_again x.section.hdr2 kinds.Hdr2 form.1.second g);
        trailer = last.0;
        last = is.trailer.0;
        ended = trail1_again x.section.trailer is.trailer.0 t;
        count = is.trailer.1.count;
        few = is.few;
        no_header = last.1;
      }

  all_labelled : AllByRecursion (λ x. Labelled x.section) (sections set)
  all_labelled =
      every
      (λ x. IsSection set.set_id (length set.volumes) x
      × (section_of set x.file x.sect ≡ Some x.section))
      (λ x. Labelled x.section) (λ x h. labelled (length set.volumes) x h) (sections set)
      (every_both (IsSection set.set_id (length set.volumes))
      (λ x. section_of set x.file x.sect ≡ Some x.section) (sections set) lawful.each
      (sections_found set))

  on_labelled : (k : ℕ) → AllByRecursion (λ x. Labelled x.section) (on k (sections set))
  on_labelled k =
      every (λ x. Labelled x.section × ((x.section.volume == k) ≡ true)) (λ x. Labelled x.section)
      (λ x h. h.0) (on k (sections set))
      (every-filter (λ x. Labelled x.section) (λ x. x.section.volume == k) (sections set)
      all_labelled)

  kept_on : (v : Volume) (k : ℕ) → IsVolume v
      → Keeps normal (map item_of (entries_on (Some v) k (sections set)))
  kept_on v k is good =
      let same = volume_is v k (sections set) in
      let a = all_kept (on k (sections set)) (on_labelled k) in
      subst (λ xs. normal (as_read xs good) ≡ as_read xs good) (sym same)
      (volume_kept v (rest_of (on k (sections set))) is a.labels good)

  kept_if : (o : Option Volume) (k : ℕ) → ((v : Volume) → o ≡ Some v → IsVolume v)
      → Keeps normal (map item_of (entries_on o k (sections set)))
  kept_if None k is good = refl
  kept_if (Some v) k is good = kept_on v k (is v refl) good

  pub normal_keeps : NormalKeeps set
  normal_keeps k good =
      kept_if (nth set.volumes k) k (λ v e. every_nth IsVolume set.volumes k v lawful.volumes e)
      good
