-- Readings of volumes of a valid set, of which any items may be unreadable: what is found on them.
use Rattle.std.proofs.Common.{◌≡◌, ◌<◌, ℕ, ◌==◌, ◌&&◌, Bool, true, false, List, [], ◌∷◌, ◌++◌}
use Rattle.std.proofs.Common.{length, map, Option, refl, sym, ap, subst, ◌∙◌, arith, append_assoc}
use Rattle.std.proofs.Common.{append-nil, suc, if◌then◌else◌}
use Rattle.std.specs.List.{AllByRecursion}
use Rattle.std.proofs.lemmas.Bool.Decides.{nat_tests}
use Rattle.tape_image.specs.Tape.{TapeItem, block, bad, mark}
use Rattle.tape_label.specs.declared.values.Kind.TheVariants as kinds
use Rattle.tape_label.specs.Kinds.{HasKind, trailer}
use Rattle.tape_label.proofs.{First.head1_found, First.trail1_found, Apart.HasKind-unique}
use Rattle.tape_blocks.specs.Tight.{Filled}
use Rattle.tape_set.specs.Layout.{FileSet, Volume, Placed, Entry, a_label, a_mark, item_of, items}
use Rattle.tape_set.specs.Layout.{entries, entries_on, on, sections, section_entries}
use Rattle.tape_set.specs.Layout.{all_entries, data_group, volume_group}
use Rattle.tape_set.specs.{Lawful.IsLawful, Lawful.IsSection, Reading.as_read}
use Rattle.tape_set.proofs.Everywhere.{every_at, every-filter, every, nth_found}
use Rattle.tape_set.proofs.Forms.{form_told}
use Rattle.tape_set.proofs.Volumes.{IsOn, Rising, sections_on_are, sections_on_rise}
use Rattle.tape_run.specs.SalvageWhole.{Blocks}
use Rattle.tape_run.specs.SalvageSections.{Labels, read_labels, labels_of, read_blocks, filled_of}
use Rattle.tape_run.specs.SalvageDamaged.{AnySection, if_read, any_sections, any_volume, IsPlain}
use Rattle.tape_run.specs.SalvageDamaged.{IsPlainSection, AreApart, to_trailer, from_trailer}
use Rattle.tape_run.specs.SalvageDamagedSets.{IsPlainAt, ClosedOfSetAreExact}
use Rattle.tape_run.proofs.{SalvageDamaged.closed_are_exact, WholeVolumes.some_of}
use Rattle.tape_run.proofs.SalvageSetBlocks.{of_filled}

-- ---- items that were read, with those after them

abbrev read_as : List Bool → List Entry → List TapeItem
read_as gs es = as_read (map item_of es) gs

-- a reading, continued to the last item
record Whole (es : List Entry) (gs : List Bool) : Type 0 where
  all : List Bool
  fits : length all ≡ length es
  more : List TapeItem
  is : read_as gs es ++ more ≡ read_as all es

whole : (es : List Entry) (gs : List Bool) → Whole es gs
whole [] [] = record { all = []; fits = refl; more = []; is = refl }
whole [] (g ∷ gs) = record { all = []; fits = refl; more = []; is = refl }
whole (e ∷ es) [] =
    let r = whole es [] in
    record {
      all = true ∷ r.all;
      fits = ap suc r.fits;
      more = item_of e ∷ read_as r.all es;
      is = refl;
    }
whole (e ∷ es) (g ∷ gs) =
    let r = whole es gs in
    record {
      all = g ∷ r.all;
      fits = ap suc r.fits;
      more = r.more;
      is = ap (λ (l : List TapeItem). (if g then item_of e else bad) ∷ l) r.is;
    }

-- entries in two parts
record InTwo (gs : List Bool) (es fs : List Entry) : Type 0 where
  first : List Bool
  more : List Bool
  fits : length first ≡ length es
  rest : length more ≡ length fs
  is : read_as gs (es ++ fs) ≡ read_as first es ++ read_as more fs

in_two : (gs : List Bool) (es fs : List Entry) → length gs ≡ length (es ++ fs) → InTwo gs es fs
in_two gs [] fs h = record { first = []; more = gs; fits = refl; rest = h; is = refl }
in_two [] (e ∷ es) fs h = absurd (cc h)
in_two (g ∷ gs) (e ∷ es) fs h =
    let t : length gs ≡ length (es ++ fs) = omega (arith, h) in
    let r = in_two gs es fs t in
    record {
      first = g ∷ r.first;
      more = r.more;
      fits = ap suc r.fits;
      rest = r.rest;
      is = ap (λ (l : List TapeItem). (if g then item_of e else bad) ∷ l) r.is;
    }

one_read : (gs : List Bool) (e : Entry) → length gs ≡ 1
    → (g : Bool) × (read_as gs (e ∷ []) ≡ if_read g (item_of e) ∷ [])
one_read [] e h = absurd (omega (arith, h))
one_read (g ∷ []) e h = (g, refl)
one_read (g ∷ f ∷ gs) e h = absurd (omega (arith, h))

record ReadLabels (gs : List Bool) (bs : List (List ℕ)) : Type 0 where
  labels : Labels
  are : labels_of labels ≡ bs
  is : read_as gs (map a_label bs) ≡ read_labels labels

labels_read : (gs : List Bool) (bs : List (List ℕ)) → length gs ≡ length (map a_label bs)
    → ReadLabels gs bs
labels_read [] [] h = record { labels = []; are = refl; is = refl }
labels_read (g ∷ gs) [] h = absurd (omega (arith, h))
labels_read [] (b ∷ bs) h = absurd (omega (arith, h))
labels_read (g ∷ gs) (b ∷ bs) h =
    let t : length gs ≡ length (map a_label bs) = omega (arith, h) in
    let r = labels_read gs bs t in
    record {
      labels = (g, b) ∷ r.labels;
      are = ap (λ (l : List (List ℕ)). b ∷ l) r.are;
      is = ap (λ (l : List TapeItem). (if g then block b else bad) ∷ l) r.is;
    }

record ReadBlocks (gs : List Bool) (fs : List Filled) : Type 0 where
  blocks : Blocks
  are : filled_of blocks ≡ fs
  is : read_as gs (data_group fs) ≡ read_blocks blocks

blocks_read : (gs : List Bool) (fs : List Filled) → length gs ≡ length (data_group fs)
    → ReadBlocks gs fs
blocks_read [] [] h = record { blocks = []; are = refl; is = refl }
blocks_read (g ∷ gs) [] h = absurd (omega (arith, h))
blocks_read [] (f ∷ fs) h = absurd (omega (arith, h))
blocks_read (g ∷ gs) (f ∷ fs) h =
    let t : length gs ≡ length (data_group fs) = omega (arith, h) in
    let r = blocks_read gs fs t in
    record {
      blocks = (g, f) ∷ r.blocks;
      are = ap (λ (l : List Filled). f ∷ l) r.are;
      is = ap (λ (l : List TapeItem). (if g then block f.bytes else bad) ∷ l) r.is;
    }

-- ---- a section

record ReadSection (gs : List Bool) (p : Placed) : Type 0 where
  section : AnySection
  placed : section.placed ≡ p
  headers : labels_of section.headers ≡ p.section.hdr2 ∷ p.section.headers
  blocks : filled_of section.blocks ≡ p.section.blocks
  trailers : labels_of section.trailers ≡ p.section.trailers
  is : read_as gs (section_entries p.section)
      ≡ any_sections (section ∷ [])

section_read : (gs : List Bool) (p : Placed) → length gs ≡ length (section_entries p.section)
    → ReadSection gs p
section_read gs p h =
    let s = p.section in
    let m = a_mark ∷ [] in
    let heads = map a_label (s.hdr2 ∷ s.headers) in
    let tails = map a_label s.trailers in
    let end = (a_label s.trailer ∷ []) ++ (tails ++ m) in
    let body = data_group s.blocks ++ (m ++ end) in
    let all = (a_label s.hdr1 ∷ []) ++ (heads ++ (m ++ body)) in
    let same : section_entries s ≡ all =
    append_assoc ((a_label s.hdr1 ∷ heads) ++ m) (data_group s.blocks) (m ++ end)
    ∙ append_assoc (a_label s.hdr1 ∷ heads) m body in
    let n : length gs ≡ length all = h ∙ ap length same in
    let a = in_two gs (a_label s.hdr1 ∷ []) (heads ++ (m ++ body)) n in
    let b = in_two a.more heads (m ++ body) a.rest in
    let c = in_two b.more m body b.rest in
    let d = in_two c.more (data_group s.blocks) (m ++ end) c.rest in
    let e = in_two d.more m end d.rest in
    let f = in_two e.more (a_label s.trailer ∷ []) (tails ++ m) e.rest in
    let g = in_two f.more tails m f.rest in
    let hdr1 = one_read a.first (a_label s.hdr1) a.fits in
    let headers = labels_read b.first (s.hdr2 ∷ s.headers) b.fits in
    let first = one_read c.first a_mark c.fits in
    let blocks = blocks_read d.first s.blocks d.fits in
    let second = one_read e.first a_mark e.fits in
    let trail = one_read f.first (a_label s.trailer) f.fits in
    let trailers = labels_read g.first s.trailers g.fits in
    let last = one_read g.more a_mark g.rest in
    let r : AnySection = record {
      placed = p;
      hdr1 = hdr1.0;
      headers = headers.labels;
      first_mark = first.0;
      blocks = blocks.blocks;
      second_mark = second.0;
      trailer = trail.0;
      trailers = trailers.labels;
      last_mark = last.0;
    } in
    let h1 = if_read hdr1.0 (block s.hdr1) ∷ [] in
    let hs = read_labels headers.labels in
    let m1 = if_read first.0 mark ∷ [] in
    let bs = read_blocks blocks.blocks in
    let m2 = if_read second.0 mark ∷ [] in
    let t1 = if_read trail.0 (block s.trailer) ∷ [] in
    let ts = read_labels trailers.labels in
    let m3 = if_read last.0 mark ∷ [] in
    let joined = λ (x y : List TapeItem) (v w : List TapeItem) (k : x ≡ v) (l : y ≡ w).
    ap (λ (z : List TapeItem). z ++ y) k ∙ ap (λ (z : List TapeItem). v ++ z) l in
    let end_is = f.is ∙ joined _ _ t1 (ts ++ m3) trail.1
    (g.is ∙ joined _ _ ts m3 trailers.is last.1) in
    let body_is = d.is ∙ joined _ _ bs (m2 ++ (t1 ++ (ts ++ m3))) blocks.is
    (e.is ∙ joined _ _ m2 (t1 ++ (ts ++ m3)) second.1 end_is) in
    let all_is = a.is ∙ joined _ _ h1 (hs ++ (m1 ++ (bs ++ (m2 ++ (t1 ++ (ts ++ m3)))))) hdr1.1
    (b.is ∙ joined _ _ hs (m1 ++ (bs ++ (m2 ++ (t1 ++ (ts ++ m3))))) headers.is
    (c.is ∙ joined _ _ m1 (bs ++ (m2 ++ (t1 ++ (ts ++ m3)))) first.1 body_is)) in
    record {
      section = r;
      placed = refl;
      headers = headers.are;
      blocks = blocks.are;
      trailers = trailers.are;
      is = ap (read_as gs) same ∙ all_is ∙ ap (λ (l : List TapeItem). h1 ++ l)
          (ap (λ (l : List TapeItem). hs ++ (m1 ++ l))
          (sym (append_assoc bs m2 (t1 ++ (ts ++ m3))))
          ∙ sym (append_assoc hs (m1 ++ (bs ++ m2)) (t1 ++ (ts ++ m3)))
          ∙ ap (λ (l : List TapeItem). (hs ++ (m1 ++ (bs ++ m2))) ++ l)
          (sym (append-nil (t1 ++ (ts ++ m3)))));
    }

-- ---- labels that cannot be mistaken

plain_hdr2 : (set_id b : List ℕ) → HasKind b kinds.Hdr2 → IsPlain set_id b
plain_hdr2 set_id b has = record {
  no_head = λ h e. absurd (let x = HasKind-unique b kinds.Hdr2 kinds.Hdr1 has
      (head1_found b h e).kind in cc x);
  no_trail = λ t e. apart t.eof (trail1_found b t e).kind;
}
  where
    apart : (z : Bool) → HasKind b (trailer z) → ⊥
    apart true c = let x = HasKind-unique b kinds.Hdr2 kinds.Eof1 has c in cc x
    apart false c = let x = HasKind-unique b kinds.Hdr2 kinds.Eov1 has c in cc x

of_labels : (P : List ℕ → Type 0) (ls : Labels) → AllByRecursion P (labels_of ls)
    → AllByRecursion (λ l. P l.1) ls
of_labels P [] all = tt
of_labels P (l ∷ ls) (h, all) = (h, of_labels P ls all)

plain_section : (set : FileSet) (k : ℕ) (p : Placed) (gs : List Bool) → IsLawful set
    → IsOn set k p → IsPlainAt set.set_id p → (r : ReadSection gs p)
    → IsPlainSection set.set_id (length set.volumes) r.section
plain_section set k p gs l here plain r =
    let s = r.section in
    let id = set.set_id in
    let back = sym r.placed in
    let told = form_told set p.file l p.sect p.section here.found in
    record {
      is = subst (IsSection id (length set.volumes)) back here.lawful;
      are_headers = subst (λ (q : Placed). labels_of s.headers ≡ q.section.hdr2 ∷ q.section.headers)
          back r.headers;
      are_blocks = subst (λ (q : Placed). filled_of s.blocks ≡ q.section.blocks) back r.blocks;
      are_trailers = subst (λ (q : Placed). labels_of s.trailers ≡ q.section.trailers) back
          r.trailers;
      headers = of_labels (IsPlain id) s.headers (subst (AllByRecursion (IsPlain id))
          (sym r.headers) (plain_hdr2 id _ told.1.hdr2.kind, plain.headers));
      blocks = of_filled (λ (b : Filled). IsPlain id b.bytes) s.blocks (subst
          (AllByRecursion (λ (b : Filled). IsPlain id b.bytes)) (sym r.blocks) plain.blocks);
      trailers = of_labels (IsPlain id) s.trailers (subst (AllByRecursion (IsPlain id))
          (sym r.trailers) plain.trailers);
    }

-- ---- a volume

sections_append : (r : AnySection) (rs : List AnySection)
    → any_sections (r ∷ []) ++ any_sections rs ≡ any_sections (r ∷ rs)
sections_append r rs =
    let h = if_read r.hdr1 (block r.placed.section.hdr1) in
    let a = to_trailer r in
    let b = from_trailer r in
    ap (λ (l : List TapeItem). h ∷ l) (append_assoc a (b ++ []) (any_sections rs)
    ∙ ap (λ (l : List TapeItem). a ++ (l ++ any_sections rs)) (append-nil b))

abbrev pub placed_of : List AnySection → List Placed
placed_of rs = map (λ (r : AnySection). r.placed) rs

record ReadSections (set : FileSet) (ps : List Placed) (gs : List Bool) : Type 0 where
  reads : List AnySection
  all : placed_of reads ≡ ps
  each : AllByRecursion (IsPlainSection set.set_id (length set.volumes)) reads
  is : read_as gs (all_entries ps) ≡ any_sections reads

sections_read : (set : FileSet) (k : ℕ) (ps : List Placed) (gs : List Bool) → IsLawful set
    → AllByRecursion (IsOn set k) ps → AllByRecursion (IsPlainAt set.set_id) ps
    → length gs ≡ length (all_entries ps) → ReadSections set ps gs
sections_read set k [] [] l here plain h = record { reads = []; all = refl; each = tt; is = refl }
sections_read set k [] (g ∷ gs) l here plain h = absurd (omega (arith, h))
sections_read set k (p ∷ ps) gs l (here, all) (plain, plains) h =
    let a = in_two gs (section_entries p.section) (all_entries ps) h in
    let one = section_read a.first p a.fits in
    let rest = sections_read set k ps a.more l all plains a.rest in
    record {
      reads = one.section ∷ rest.reads;
      all = ap (λ (q : Placed). q ∷ placed_of rest.reads) one.placed
          ∙ ap (λ (ps : List Placed). p ∷ ps) rest.all;
      each = (plain_section set k p a.first l here plain one, rest.each);
      is = a.is ∙ ap (λ (x : List TapeItem). x ++ read_as a.more (all_entries ps)) one.is
          ∙ ap (λ (x : List TapeItem). any_sections (one.section ∷ []) ++ x) rest.is
          ∙ sections_append one.section rest.reads;
    }

-- sections of different files
others : (r : AnySection) (rs : List AnySection)
    → AllByRecursion (λ y. r.placed.file < y.file) (placed_of rs)
    → AllByRecursion (λ (q : AnySection). ((q.placed.sect == r.placed.sect)
    && (q.placed.file == r.placed.file)) ≡ false) rs
others r [] all = tt
others r (q ∷ rs) (lt, all) =
    let off : (q.placed.file == r.placed.file) ≡ false = grind (arith, nat_tests) in
    (both (q.placed.sect == r.placed.sect) (q.placed.file == r.placed.file) off, others r rs all)
  where
    both : (a b : Bool) → b ≡ false → (a && b) ≡ false
    both true b e = e
    both false b e = refl

apart : (rs : List AnySection) → Rising (placed_of rs) → AreApart rs
apart [] rise = tt
apart (r ∷ rs) (all, rise) = (others r rs all, apart rs rise)

pub closed_of_set_are_exact : ClosedOfSetAreExact
closed_of_set_are_exact set r its more l reading plain splits =
    let k = r.volume in
    let ps = on k (sections set) in
    let (v, there) = some_of _ reading.volume in
    let at = nth_found _ _ _ there in
    let es : entries set k ≡ map a_label (v.vol1 ∷ v.labels) ++ (all_entries ps ++ (a_mark ∷ [])) =
    ap (λ (o : Option Volume). entries_on o k (sections set)) there ∙ append_assoc (volume_group v)
    (all_entries ps) (a_mark ∷ []) in
    let w = whole (entries set k) r.good in
    let a = in_two w.all (map a_label (v.vol1 ∷ v.labels)) (all_entries ps ++ (a_mark ∷ []))
    (w.fits ∙ ap length es) in
    let b = in_two _ _ _ a.rest in
    let ls = labels_read _ _ a.fits in
    let plains = every (λ p. IsPlainAt set.set_id p × ((p.section.volume == k) ≡ true))
    (IsPlainAt set.set_id) (λ p h. h.0) _ (every-filter _ (λ p. p.section.volume == k) _ plain) in
    let rs = sections_read _ _ _ _ l (sections_on_are _ k l) plains b.fits in
    let last = one_read _ a_mark b.rest in
    let is : as_read (items set k) r.good ++ w.more ≡ any_volume ls.labels rs.reads last.0 =
    w.is ∙ ap (read_as w.all) es ∙ a.is ∙ ap (λ (x : List TapeItem). x ++ read_as a.more
    (all_entries ps ++ (a_mark ∷ []))) ls.is ∙ ap
    (λ (x : List TapeItem). read_labels ls.labels ++ x) (b.is ∙ ap
    (λ (x : List TapeItem). x ++ read_as b.more (a_mark ∷ [])) rs.is ∙ ap
    (λ (x : List TapeItem). any_sections rs.reads ++ x) last.1) in (
      rs.reads,
      record { each = rs.each; all = rs.all },
      closed_are_exact set.set_id (length set.volumes) v ls.labels rs.reads last.0 its
          (more ++ w.more) (every_at _ _ _ _ l.volumes at.found) ls.are rs.each (apart rs.reads
          (subst Rising (sym rs.all) (sections_on_rise _ k l))) (sym (append_assoc its more w.more)
          ∙ ap (λ (x : List TapeItem). x ++ w.more) splits ∙ is),
    )
