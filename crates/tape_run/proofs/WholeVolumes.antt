-- A complete copy of a volume of a valid set makes each section on it good.
use Rattle.std.proofs.Common.{◌≡◌, ℕ, suc, Bool, List, [], ◌∷◌, ◌++◌, length, Option, Some, None}
use Rattle.std.proofs.Common.{Ok, refl, sym, ap, subst, ◌∙◌, append-nil, append_assoc, map}
use Rattle.std.proofs.Common.{if◌then◌else◌, IsSome}
use Rattle.std.specs.{Prelude.⊤, List.AllByRecursion}
use Rattle.tape_image.specs.Tape.{TapeItem, block, mark}
use Rattle.tape_label.specs.declared.values.Kind.TheVariants as kinds
use Rattle.tape_label.specs.declared.values.Head1.{Head1}
use Rattle.tape_label.specs.{Kinds.HasKind, Reading.vol1_fields, Reading.head1_at}
use Rattle.tape_label.proofs.First.{head1_again, trail1_again, vol1_kind}
use Rattle.tape_label.proofs.VolumeLabels.{volume_label_again, no_volume_label}
use Rattle.tape_label.proofs.Apart.{kind_again}
use Rattle.tape_blocks.specs.Tight.{Filled}
use Rattle.tape_set.specs.Layout.{FileSet, Section, Placed, Volume, Entry, a_label, a_mark, item_of}
use Rattle.tape_set.specs.Layout.{nth, sections, on, all_entries, section_entries, data_group}
use Rattle.tape_set.specs.Layout.{entries_on, items, ends_file}
use Rattle.tape_set.specs.Lawful.{IsLawful, IsVolume, IsVolumeLabel, label_count}
use Rattle.tape_set.proofs.{Everywhere.every_at, Everywhere.nth_found, Forms.form_told}
use Rattle.tape_set.proofs.{Forms.trailer_ends, Volumes.IsOn, Volumes.sections_on_are}
use Rattle.tape_run.specs.Passing.{Told, met_by, header_with, volume_with, step, in_list, told_from}
use Rattle.tape_run.specs.{declared.section.SectionKey.SectionKey, declared.passing.Phase.Phase}
use Rattle.tape_run.specs.{declared.section.SectionState.TheVariants.Good, Noted.noted_all}
use Rattle.tape_run.specs.declared.passing.Phase.TheVariants.{Next, Over}
use Rattle.tape_run.specs.Passing.{under_way, met_in}
use Rattle.tape_run.specs.{Lacks.IsGoodAt, WholeSet.key_in, WholeSet.WholeVolumeIsGood}
use Rattle.tape_run.specs.declared.passing.Phase.TheVariants.{Volume as AtVolume, Labels, Second}
use Rattle.tape_run.proofs.SectionRuns.{Runs, runs_nil, runs_append, runs_step, section_items}
use Rattle.tape_run.proofs.SectionRuns.{IsWhole, runs_section, good_told}
use Rattle.tape_run.proofs.StayingGood.{become_good}

-- ---- items of entries

items_append : (xs ys : List Entry) → map item_of (xs ++ ys) ≡ map item_of xs ++ map item_of ys
items_append [] ys = refl
items_append (x ∷ xs) ys = ap (λ (r : List TapeItem). item_of x ∷ r) (items_append xs ys)

items_labels : (ls : List (List ℕ)) → map item_of (map a_label ls) ≡ map block ls
items_labels [] = refl
items_labels (l ∷ ls) = ap (λ (r : List TapeItem). block l ∷ r) (items_labels ls)

abbrev bytes_of : List Filled → List (List ℕ)
bytes_of bs = map (λ b. b.bytes) bs

items_data : (bs : List Filled) → map item_of (data_group bs) ≡ map block (bytes_of bs)
items_data [] = refl
items_data (b ∷ bs) = ap (λ (r : List TapeItem). block b.bytes ∷ r) (items_data bs)

long_bytes : (bs : List Filled) → length (bytes_of bs) ≡ length bs
long_bytes [] = refl
long_bytes (b ∷ bs) = ap suc (long_bytes bs)

-- these entries are read as these items
record Gives (xs : List Entry) (us : List TapeItem) : Type 0 where
  is : map item_of xs ≡ us

one : (x : Entry) → Gives (x ∷ []) (item_of x ∷ [])
one x = record { is = refl }

some : (xs : List Entry) (us : List TapeItem) → map item_of xs ≡ us → Gives xs us
some xs us is = record { is = is }

push : (xs ys : List Entry) (us vs : List TapeItem) → Gives xs us → Gives ys vs
    → Gives (xs ++ ys) (us ++ vs)
push xs ys us vs a b =
    record {
      is = items_append xs ys ∙ ap (λ (r : List TapeItem). r ++ map item_of ys) a.is
          ∙ ap (λ (r : List TapeItem). us ++ r) b.is;
    }

regroup_entries : (x y z m : Entry) (A B C : List Entry)
    → ((x ∷ (y ∷ (A ++ (m ∷ [])))) ++ B) ++ (m ∷ (z ∷ (C ++ (m ∷ []))))
    ≡ (x ∷ []) ++ ((y ∷ [])
    ++ (A ++ ((m ∷ []) ++ (B ++ ((m ∷ []) ++ ((z ∷ []) ++ (C ++ (m ∷ []))))))))
regroup_entries x y z m A B C = simp append_assoc

regroup_section : (s : Section) → section_entries s
    ≡ (a_label s.hdr1 ∷ []) ++ ((a_label s.hdr2 ∷ [])
    ++ (map a_label s.headers ++ ((a_mark ∷ []) ++ (data_group s.blocks ++ ((a_mark ∷ [])
    ++ ((a_label s.trailer ∷ []) ++ (map a_label s.trailers ++ (a_mark ∷ []))))))))
regroup_section s = regroup_entries (a_label s.hdr1) (a_label s.hdr2) (a_label s.trailer) a_mark
    (map a_label s.headers) (data_group s.blocks) (map a_label s.trailers)

items_section : (s : Section)
    → map item_of (section_entries s)
    ≡ section_items s.hdr1 s.hdr2 s.headers (bytes_of s.blocks) s.trailer s.trailers
items_section s = ap (map item_of) (regroup_section s) ∙ all.is
  where
    all : Gives ((a_label s.hdr1 ∷ []) ++ ((a_label s.hdr2 ∷ [])
        ++ (map a_label s.headers ++ ((a_mark ∷ []) ++ (data_group s.blocks ++ ((a_mark ∷ [])
        ++ ((a_label s.trailer ∷ []) ++ (map a_label s.trailers ++ (a_mark ∷ [])))))))))
        (section_items s.hdr1 s.hdr2 s.headers (bytes_of s.blocks) s.trailer s.trailers)
    all =
        push (a_label s.hdr1 ∷ []) _ (block s.hdr1 ∷ []) _ (one (a_label s.hdr1))
        (push (a_label s.hdr2 ∷ []) _ (block s.hdr2 ∷ []) _ (one (a_label s.hdr2))
        (push (map a_label s.headers) _ (map block s.headers) _ (some _ _ (items_labels s.headers))
        (push (a_mark ∷ []) _ (mark ∷ []) _ (one a_mark)
        (push (data_group s.blocks) _ (map block (bytes_of s.blocks)) _
        (some _ _ (items_data s.blocks)) (push (a_mark ∷ []) _ (mark ∷ []) _ (one a_mark)
        (push (a_label s.trailer ∷ []) _ (block s.trailer ∷ []) _ (one (a_label s.trailer))
        (push (map a_label s.trailers) (a_mark ∷ []) (map block s.trailers)
        (mark ∷ []) (some _ _ (items_labels s.trailers)) (one a_mark))))))))

-- ---- if a section may begin

record MayBegin (v : List ℕ) (p : Phase) : Type 0 where
  begins : (b : List ℕ) (head : Head1) → HasKind b kinds.Hdr1 → head1_at b ≡ Ok head
      → step p (block b) ≡ (Second (met_by v head), None)
  ends : step p mark ≡ (Over, None)

next_begins : (v : List ℕ) → MayBegin v (Next v)
next_begins v =
    record { begins = λ b head kind is. ap (λ r. (header_with v r, None)) is; ends = refl }

labels_begin : (v : List ℕ) → MayBegin v (Labels v)
labels_begin v = record {
  begins = λ b head kind is.
      ap (λ (c : Bool). (if c then Labels v else header_with v (head1_at b), None))
      (no_volume_label b kinds.Hdr1 kind (λ e. cc e))
      ∙ ap (λ r. (header_with v r, None)) is;
  ends = refl;
}

runs_labels : (v : List ℕ) (ls : List (List ℕ)) → AllByRecursion IsVolumeLabel ls
    → Runs (Labels v) (map block ls) (Labels v) []
runs_labels v [] h = runs_nil (Labels v)
runs_labels v (l ∷ ls) (h, hs) =
    runs_append (Labels v) (Labels v) (Labels v) (block l ∷ []) (map block ls) [] []
    (runs_step (Labels v) (Labels v) (block l) None
    (ap (λ (c : Bool). (if c then Labels v else header_with v (head1_at l), None))
    (volume_label_again l (h.size, h.named))))
    (runs_labels v ls hs)

-- ---- sections

-- these are added for the sections, as good
abbrev pub AreGood : FileSet → List Placed → List Told → Type 0
AreGood set [] [] = ⊤
AreGood set [] (t ∷ ts) = ⊥
AreGood set (x ∷ xs) [] = ⊥
AreGood set (x ∷ xs) (t ∷ ts) = ((t.0 ≡ key_in set x) × (t.1.state ≡ Good)
    × (t.1.eof ≡ ends_file x.section)) × AreGood set xs ts

key_same : (set : FileSet) (x : Placed) (h : Head1) → h.set_id ≡ set.set_id → h.sequence ≡ x.file
    → h.sect ≡ x.sect → Rattle.tape_run.proofs.SectionRuns.key_of h ≡ key_in set x
key_same set x h a b c =
    let key : List ℕ → ℕ → ℕ → SectionKey = λ i f s. record { set_id = i; file = f; sect = s } in
    ap (λ (i : List ℕ). key i h.sequence h.sect) a ∙ ap (λ (f : ℕ). key set.set_id f h.sect) b
    ∙ ap (λ (s : ℕ). key set.set_id x.file s) c

-- the effect of a section's items, if one may begin
record Section-runs (set : FileSet) (v : List ℕ) (p : Phase) (x : Placed) : Type 0 where
  told : Told
  runs : Runs p (map item_of (section_entries x.section)) (Next v) (told ∷ [])
  key : told.0 ≡ key_in set x
  good : told.1.state ≡ Good
  eof : told.1.eof ≡ ends_file x.section

section_runs : (set : FileSet) (k : ℕ) (v : List ℕ) (p : Phase) (x : Placed) → IsLawful set
    → MayBegin v p → IsOn set k x → Section-runs set v p x
section_runs set k v p x lawful may is =
    let (head, header) = is.lawful.header in
    let (trail, trailer) = is.lawful.trailer in
    let (form, tells) = form_told set x.file lawful x.sect x.section is.found in
    let s = x.section in
    let n = length (bytes_of s.blocks) in
    let hdr1_is = head1_again s.hdr1 head header.label in
    let w : IsWhole s.hdr1 s.hdr2 (bytes_of s.blocks) s.trailer head trail = record {
      hdr1_is = hdr1_is;
      hdr2_is = kind_again s.hdr2 kinds.Hdr2 tells.hdr2.kind;
      trailer_is = trail1_again s.trailer trail trailer.label;
      file = trailer.file ∙ sym header.file;
      sect = trailer.sect ∙ sym header.sect;
      count = trailer.count ∙ ap label_count (sym (long_bytes s.blocks));
    } in
    record {
      told = good_told v head trail n;
      runs = subst (λ (r : List TapeItem). Runs p r (Next v) (good_told v head trail n ∷ []))
          (sym (items_section s))
          (runs_section p v s.hdr1 s.hdr2 s.headers (bytes_of s.blocks) s.trailer s.trailers head
          trail (may.begins s.hdr1 head header.label.kind hdr1_is) w);
      key = key_same set x head header.set_id header.file header.sect;
      good = refl;
      eof = trailer_ends s trail trailer.label;
    }

record Sections-run (set : FileSet) (v : List ℕ) (p : Phase) (xs : List Placed) : Type 0 where
  tolds : List Told
  last : Phase
  may : MayBegin v last
  runs : Runs p (map item_of (all_entries xs)) last tolds
  good : AreGood set xs tolds

sections_run : (set : FileSet) (k : ℕ) (v : List ℕ) (p : Phase) (xs : List Placed) → IsLawful set
    → MayBegin v p → AllByRecursion (IsOn set k) xs → Sections-run set v p xs
sections_run set k v p [] lawful may h =
    record { tolds = []; last = p; may = may; runs = runs_nil p; good = tt }
sections_run set k v p (x ∷ xs) lawful may (h, hs) =
    let a = section_runs set k v p x lawful may h in
    let b = sections_run set k v (Next v) xs lawful (next_begins v) hs in
    record {
      tolds = a.told ∷ b.tolds;
      last = b.last;
      may = b.may;
      runs = subst (λ (r : List TapeItem). Runs p r b.last (a.told ∷ b.tolds))
          (sym (items_append (section_entries x.section) (all_entries xs)))
          (runs_append p (Next v) b.last (map item_of (section_entries x.section))
          (map item_of (all_entries xs)) (a.told ∷ []) b.tolds a.runs b.runs);
      good = ((a.key, a.good, a.eof), b.good);
    }

-- ---- a volume

items_volume : (v : Volume) (k : ℕ) (xs : List Placed)
    → map item_of (entries_on (Some v) k xs) ≡ (block v.vol1 ∷ []) ++ (map block v.labels
    ++ (map item_of (all_entries (on k xs)) ++ (mark ∷ [])))
items_volume v k xs =
    ap (λ (r : List Entry). map item_of (a_label v.vol1 ∷ r))
    (append_assoc (map a_label v.labels) (all_entries (on k xs)) (a_mark ∷ []))
    ∙ (push (a_label v.vol1 ∷ []) (map a_label v.labels ++ (all_entries (on k xs) ++ (a_mark ∷ [])))
    (block v.vol1 ∷ []) _ (one (a_label v.vol1))
    (push (map a_label v.labels) (all_entries (on k xs) ++ (a_mark ∷ [])) (map block v.labels) _
    (some _ _ (items_labels v.labels))
    (push (all_entries (on k xs)) (a_mark ∷ []) _ (mark ∷ []) (some _ _ refl) (one a_mark)))).is

pub record Tells (set : FileSet) (k : ℕ) : Type 0 where
  pub tolds : List Told
  pub met : met_in (items set k) ≡ tolds
  pub good : AreGood set (on k (sections set)) tolds

pub volume_tells : (set : FileSet) (k : ℕ) (v : Volume) → IsLawful set → nth set.volumes k ≡ Some v
    → Tells set k
volume_tells set k v lawful there =
    let at = nth_found set.volumes k v there in
    let is : IsVolume v = every_at IsVolume set.volumes at.place v lawful.volumes at.found in
    let name = (vol1_fields v.vol1).volume in
    let r = sections_run set k name (Labels name) (on k (sections set)) lawful (labels_begin name)
    (sections_on_are set k lawful) in
    let runs : Runs AtVolume (items set k) Over r.tolds =
    subst (λ (i : List TapeItem). Runs AtVolume i Over r.tolds)
    (sym (items_volume v k (sections set))
    ∙ ap (λ (o : Option Volume). map item_of (entries_on o k (sections set))) (sym there))
    (runs_append AtVolume (Labels name) Over (block v.vol1 ∷ []) _ [] r.tolds (runs_step AtVolume
    (Labels name) (block v.vol1) None (ap (λ l. (volume_with l, None)) (vol1_kind v.vol1 is.vol1)))
    (runs_append (Labels name) (Labels name) Over (map block v.labels) _ [] r.tolds
    (runs_labels name v.labels is.labels)
    (subst (λ (ts : List Told). Runs (Labels name) (map item_of (all_entries (on k (sections set)))
    ++ (mark ∷ [])) Over ts) (append-nil r.tolds)
    (runs_append (Labels name) r.last Over (map item_of (all_entries (on k (sections set))))
    (mark ∷ []) r.tolds [] r.runs (runs_step r.last Over mark None r.may.ends))))) in
    record {
      tolds = r.tolds;
      met = ap (λ (p : Phase). told_from AtVolume (items set k) ++ in_list (under_way p)) runs.after
          ∙ append-nil (told_from AtVolume (items set k)) ∙ runs.tells;
      good = r.good;
    }

all_good : (set : FileSet) (xs : List Placed) (ts : List Told) → AreGood set xs ts
    → AllByRecursion (λ t. t.1.state ≡ Good) ts
all_good set [] [] h = tt
all_good set [] (t ∷ ts) h = absurd h
all_good set (x ∷ xs) [] h = absurd h
all_good set (x ∷ xs) (t ∷ ts) (h, hs) = (h.1, all_good set xs ts hs)

by_keys : (set : FileSet) (c : List Told) (xs : List Placed) (ts : List Told) → AreGood set xs ts
    → AllByRecursion (λ t. IsGoodAt c t.0) ts → AllByRecursion (λ x. IsGoodAt c (key_in set x)) xs
by_keys set c [] ts h g = tt
by_keys set c (x ∷ xs) [] h g = absurd h
by_keys set c (x ∷ xs) (t ∷ ts) (h, hs) (g, gs) =
    (subst (λ (k : SectionKey). IsGoodAt c k) h.0 g, by_keys set c xs ts hs gs)

pub some_of : {A : Type 0} (o : Option A) → IsSome o → (x : A) × (o ≡ Some x)
some_of None h = absurd (cc h)
some_of (Some x) h = (x, refl)

pub whole_volume : WholeVolumeIsGood
whole_volume set k c lawful there =
    let (v, is) = some_of (nth set.volumes k) there in
    let t = volume_tells set k v lawful is in
    subst (λ (ts : List Told). AllByRecursion (λ x. IsGoodAt (noted_all c ts) (key_in set x)) (on k
    (sections set))) (sym t.met)
    (by_keys set (noted_all c t.tolds) (on k (sections set)) t.tolds t.good
    (become_good c t.tolds (all_good set (on k (sections set)) t.tolds t.good)))
