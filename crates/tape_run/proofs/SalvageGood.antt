-- The copies of a file's sections on complete readings of the volumes of a valid set.
use Rattle.std.proofs.Common.{◌≡◌, ℕ, ◌+◌, ◌-◌, ◌==◌, ◌&&◌, Bool, true, false, List, [], ◌∷◌, ◌++◌}
use Rattle.std.proofs.Common.{length, Option, Some, None, refl, sym, ap, subst, ◌∙◌, arith}
use Rattle.std.proofs.Common.{append_assoc, suc, if◌then◌else◌, option_map, slice_get}
use Rattle.std.specs.{List.AllByRecursion, Str.bytes_eq}
use Rattle.std.proofs.lemmas.{Bool.and_parts, Bool.Decides.nat_tests}
use Rattle.tape_label.specs.declared.values.Kind.TheVariants as kinds
use Rattle.tape_label.proofs.{First.head1_again, First.trail1_again, Apart.kind_again}
use Rattle.tape_set.specs.Layout.{FileSet, Section, Placed, nth, on}
use Rattle.tape_set.specs.{Layout.sections, Layout.section_of, Layout.ends_file, Lawful.IsLawful}
use Rattle.tape_set.specs.{Lawful.FileForm, Lawful.TellsForm, Laws.StandsIn, Reading.Reading}
use Rattle.tape_set.proofs.Everywhere.{every_stands, stands_behind, stands_before, every-append}
use Rattle.tape_set.proofs.{Numbering.placed, Forms.trailer_ends}
use Rattle.tape_set.proofs.Volumes.{IsOn, sections_on_are, wanted_lies}
use Rattle.tape_run.specs.declared.salvage.walk.{OpenSection.OpenSection, Closing.Closing}
use Rattle.tape_run.specs.declared.salvage.copies.SectionCopy.{SectionCopy}
use Rattle.tape_run.specs.SalvageWalk.{FoundAt, sections_in}
use Rattle.tape_run.specs.SalvageCopies.{is_of, copy_of, of_file, rank}
use Rattle.tape_run.specs.SalvageSections.{SectionRead, IsRead, key_of}
use Rattle.tape_run.specs.{SalvageFile.closed_copy, SalvageReadings.IsReadVolume}
use Rattle.tape_run.specs.SalvageSets.{items_read, IsCompleteOr, copies_on, HasVolume, rank_of}
use Rattle.tape_run.proofs.{SalvageSteps.AreHeads, StayingGood.key_again}
use Rattle.tape_run.proofs.{WholeVolumes.some_of, SalvageRanks.form_read, SalvageRanks.found_rank}
use Rattle.tape_run.proofs.SalvageFound.{IsFound, AreFound, volume_found}
use Rattle.tape_run.proofs.SalvageReadings.{placed_of, ReadVolume, volume_read}

module _ (set : FileSet) (file : ℕ) (all : List (Option Reading)) where
  -- A copy is a section of the file on one of the images, which was found as it is.
  pub record IsGood (c : SectionCopy) : Type 0 where
    pub reading : Reading
    pub image : slice_get all c.image ≡ Some (Some reading)
    pub volume : IsReadVolume set reading.volume (items_read set reading)
    pub before : List SectionRead
    pub section : SectionRead
    pub rest : List SectionRead
    pub is : volume.reads ≡ before ++ section ∷ rest
    pub found : OpenSection
    pub closing : Closing
    pub copy : c ≡ closed_copy c.image found closing
    pub key : found.key ≡ key_of set.set_id section
    pub own : section.placed.file ≡ file
    pub blocks : found.blocks ≡ length section.blocks
    pub eof : closing.eof ≡ ends_file section.placed.section
    pub form : (form : FileForm) → TellsForm form section.placed.section → found.form ≡ Some form
    pub rank_is : rank c ≡ rank_of section.blocks

  good_copy : (n : ℕ) (r : Reading) (v : IsReadVolume set r.volume (items_read set r))
      (before : List SectionRead) (s : SectionRead) (rest : List SectionRead) (t : FoundAt)
      → slice_get all n ≡ Some (Some r) → v.reads ≡ before ++ s ∷ rest → AreHeads s.headers
      → IsRead set.set_id (length set.volumes) s → IsFound set.set_id s t
      → is_of set.set_id file t.1 ≡ true → IsGood (copy_of n t)
  good_copy n r v before s rest t at is first read f own =
      let u = f.section in
      let k = f.closing in
      let x = s.placed.section in
      let (label, trailer) = read.is.trailer in
      let here : is_of set.set_id file (u, Some k) ≡ true =
      ap (λ (z : FoundAt). is_of set.set_id file z.1) (sym f.is) ∙ own in
      let same = (and_parts (bytes_eq u.key.set_id set.set_id) (u.key.file == file) here).1 in
      let number : u.key.file ≡ file = grind (arith, nat_tests, same) in
      let copy : copy_of n t ≡ closed_copy n u k =
      ap (copy_of n) f.is ∙ ap (λ (a : Option ℕ). record {
        image = n;
        section = u;
        closed = Some k;
        skip = option_map (λ m. f.place - m - u.blocks) a;
      }) f.has.after in
      record {
        reading = r;
        image = at;
        volume = v;
        before = before;
        section = s;
        rest = rest;
        is = is;
        found = u;
        closing = k;
        copy = copy;
        key = f.has.key;
        own = ap (λ (z : _). z.file) (sym f.has.key) ∙ number;
        blocks = f.has.blocks;
        eof = f.has.eof label (trail1_again x.trailer label trailer.label)
            ∙ trailer_ends x label trailer.label;
        form = λ form told. f.has.form told.head form (head1_again x.hdr1 told.head told.hdr1)
            first.0 (kind_again x.hdr2 kinds.Hdr2 told.hdr2.kind) (form_read form x told);
        rank_is = ap rank copy ∙ found_rank set.set_id n s t f first.1;
      }

  module _ (n : ℕ) (r : Reading) (v : IsReadVolume set r.volume (items_read set r))
      (at : slice_get all n ≡ Some (Some r)) where
    of_file_good : (before reads : List SectionRead) (ts : List FoundAt) → v.reads ≡ before ++ reads
        → AllByRecursion (λ (s : SectionRead). AreHeads s.headers) reads
        → AllByRecursion (IsRead set.set_id (length set.volumes)) reads
        → AreFound set.set_id reads ts → AllByRecursion IsGood (of_file set.set_id file n ts)
    of_file_good before [] [] is firsts read f = tt
    of_file_good before [] (t ∷ ts) is firsts read f = absurd f
    of_file_good before (s ∷ reads) [] is firsts read f = absurd f
    of_file_good before (s ∷ reads) (t ∷ ts) is (first, firsts) (one, read) (f, fs) =
        by (is_of set.set_id file t.1) refl (of_file_good (before ++ s ∷ []) reads ts
        (is ∙ sym (append_assoc before (s ∷ []) reads)) firsts read fs)
      where
        by : (b : Bool) → is_of set.set_id file t.1 ≡ b
            → AllByRecursion IsGood (of_file set.set_id file n ts)
            → AllByRecursion IsGood (if b then copy_of n t ∷ of_file set.set_id file n ts
            else of_file set.set_id file n ts)
        by true e rest = (good_copy n r v before s reads t at is first one f e, rest)
        by false e rest = rest

  -- the sections on an image were found as they are
  record Found (r : Reading) : Type 0 where
    read : ReadVolume set r.volume (items_read set r)
    found : AreFound set.set_id read.volume.reads (sections_in (items_read set r))

  image_found : IsLawful set → (r : Reading) → IsCompleteOr set (Some r) → Found r
  image_found l r c =
      let (v, there) = some_of (nth set.volumes r.volume) c.reading.volume in
      let w = volume_read set r.volume v r.good l there c.labels in
      let x = w.volume in
      record {
        read = w;
        found = subst (λ xs. AreFound set.set_id x.reads (sections_in xs)) (sym x.is)
            (volume_found set.set_id (length set.volumes) x.volume x.labels x.reads x.is_volume
            x.are_labels x.are_read);
      }

  copies_from : IsLawful set → (n : ℕ) (rs : List (Option Reading))
      → ((i : ℕ) → slice_get rs i ≡ slice_get all (n + i))
      → AllByRecursion (IsCompleteOr set) rs → AllByRecursion IsGood (copies_on set file n rs)
  copies_from l n [] there c = tt
  copies_from l n (None ∷ rs) there (one, c) = copies_from l (n + 1) rs
      (λ i. let e : n + suc i ≡ (n + 1) + i = omega arith in
      there (suc i) ∙ ap (λ v. slice_get all v) e) c
  copies_from l n (Some r ∷ rs) there (one, c) =
      let f = image_found l r one in
      let e : n + 0 ≡ n = omega arith in
      let at : slice_get all n ≡ Some (Some r) =
      ap (λ v. slice_get all v) (sym e) ∙ sym (there 0) in
      every-append IsGood (of_file set.set_id file n (sections_in (items_read set r)))
      (copies_on set file (n + 1) rs)
      (of_file_good n r f.read.volume at [] f.read.volume.reads (sections_in (items_read set r))
      refl f.read.firsts f.read.volume.are_read f.found)
      (copies_from l (n + 1) rs (λ i. let e : n + suc i ≡ (n + 1) + i = omega arith in
      there (suc i) ∙ ap (λ v. slice_get all v) e) c)

pub copies_good : (set : FileSet) (file : ℕ) (all : List (Option Reading)) → IsLawful set
    → AllByRecursion (IsCompleteOr set) all
    → AllByRecursion (IsGood set file all) (copies_on set file 0 all)
copies_good set file all l c = copies_from set file all l 0 all
    (λ i. let e : i ≡ 0 + i = omega arith in ap (λ v. slice_get all v) e) c

-- ---- each section on an image has a copy

read_at : (xs : List SectionRead) (front rest : List Placed) (p : Placed)
    → placed_of xs ≡ front ++ p ∷ rest
    → (before : List SectionRead) × (s : SectionRead) × (after : List SectionRead)
    × (xs ≡ before ++ s ∷ after) × (s.placed ≡ p)
read_at [] [] rest p e = absurd (cc e)
read_at [] (y ∷ front) rest p e = absurd (cc e)
read_at (x ∷ xs) [] rest p e = let h : x.placed ≡ p = cc e in ([], x, xs, refl, h)
read_at (x ∷ xs) (y ∷ front) rest p e =
    let t : placed_of xs ≡ front ++ p ∷ rest = cc e in
    let (a, s, b, is, at) = read_at xs front rest p t in
    (x ∷ a, s, b, ap (λ (l : List SectionRead). x ∷ l) is, at)

found_at : (set_id : List ℕ) (before : List SectionRead) (s : SectionRead)
    (rest : List SectionRead) (ts : List FoundAt) → AreFound set_id (before ++ s ∷ rest) ts
    → (t : FoundAt) × StandsIn ts t × IsFound set_id s t
found_at set_id [] s rest [] f = absurd f
found_at set_id [] s rest (t ∷ ts) (f, fs) = (t, ([], ts, refl), f)
found_at set_id (b ∷ before) s rest [] f = absurd f
found_at set_id (b ∷ before) s rest (t ∷ ts) (f, fs) =
    let (x, at, g) = found_at set_id before s rest ts fs in
    (x, stands_behind (t ∷ []) ts x at, g)

of_file_has : (set_id : List ℕ) (file n : ℕ) (front : List FoundAt) (t : FoundAt)
    (rest : List FoundAt) → is_of set_id file t.1 ≡ true
    → StandsIn (of_file set_id file n (front ++ t ∷ rest)) (copy_of n t)
of_file_has set_id file n [] t rest own = by (is_of set_id file t.1) own
  where
    by : (b : Bool) → b ≡ true
        → StandsIn (if b then copy_of n t ∷ of_file set_id file n rest
        else of_file set_id file n rest) (copy_of n t)
    by true e = ([], of_file set_id file n rest, refl)
    by false e = absurd (cc e)
of_file_has set_id file n (x ∷ front) t rest own =
    by (is_of set_id file x.1) (of_file_has set_id file n front t rest own)
  where
    by : (b : Bool) → StandsIn (of_file set_id file n (front ++ t ∷ rest)) (copy_of n t)
        → StandsIn (if b then copy_of n x ∷ of_file set_id file n (front ++ t ∷ rest)
        else of_file set_id file n (front ++ t ∷ rest)) (copy_of n t)
    by true h = stands_behind (copy_of n x ∷ []) _ _ h
    by false h = h

-- a copy of a section of the file among these
pub record HasCopy (cs : List SectionCopy) (sect : ℕ) : Type 0 where
  pub copy : SectionCopy
  pub among : StandsIn cs copy
  pub number : copy.section.key.sect ≡ sect

module _ (set : FileSet) (file sect : ℕ) (w : Section) (l : IsLawful set)
    (found : section_of set file sect ≡ Some w) where
  pub image_has : (n : ℕ) (r : Reading) → IsCompleteOr set (Some r) → r.volume ≡ w.volume
      → (h : HasCopy (of_file set.set_id file n (sections_in (items_read set r))) sect)
      × (h.copy.image ≡ n)
  image_has n r c at =
      let f = image_found set file [] l r c in
      let v = f.read.volume in
      let lies = wanted_lies set file sect r.volume w [] (on r.volume (sections set)) l found
      (sym at) refl tt in
      let (a, s, b, is, here) = read_at v.reads lies.pre lies.post (placed file sect w)
      (v.all ∙ lies.here) in
      let (t, among, g) = found_at set.set_id a s b (sections_in (items_read set r))
      (subst (λ xs. AreFound set.set_id xs (sections_in (items_read set r))) is f.found) in
      let key : g.section.key ≡ record { set_id = set.set_id; file = file; sect = sect } =
      g.has.key ∙ ap (λ (p : Placed). record { set_id = set.set_id; file = p.file; sect = p.sect })
      here in
      let again = key_again (record { set_id = set.set_id; file = file; sect = sect }) in
      let ids = (and_parts (bytes_eq set.set_id set.set_id)
      ((file == file) && (sect == sect)) again).0 in
      let same : (file == file) ≡ true = grind (arith, nat_tests) in
      let own : is_of set.set_id file t.1 ≡ true =
      ap (λ (z : FoundAt). is_of set.set_id file z.1) g.is
      ∙ ap (λ (k : _). bytes_eq k.set_id set.set_id && (k.file == file)) key
      ∙ ap (λ (x : Bool). x && (file == file)) ids ∙ same in (
        record {
          copy = copy_of n t;
          among = subst (λ ts. StandsIn (of_file set.set_id file n ts) (copy_of n t)) (sym among.2)
              (of_file_has set.set_id file n among.0 t among.1 own);
          number = ap (λ (z : FoundAt). z.1.0.key.sect) g.is ∙ ap (λ (k : _). k.sect) key;
        },
        refl,
      )

  images_have : (n : ℕ) (front : List (Option Reading)) (r : Reading)
      (rest : List (Option Reading)) → AllByRecursion (IsCompleteOr set) (front ++ Some r ∷ rest)
      → r.volume ≡ w.volume → HasCopy (copies_on set file n (front ++ Some r ∷ rest)) sect
  images_have n [] r rest (c, cs) at =
      let h = (image_has n r c at).0 in
      record { copy = h.copy; among = stands_before _ _ _ h.among; number = h.number }
  images_have n (None ∷ front) r rest (c, cs) at = images_have (n + 1) front r rest cs at
  images_have n (Some q ∷ front) r rest (c, cs) at =
      let h = images_have (n + 1) front r rest cs at in
      record { copy = h.copy; among = stands_behind _ _ _ h.among; number = h.number }

  pub has_copy : (all : List (Option Reading)) → AllByRecursion (IsCompleteOr set) all
      → HasVolume all w.volume → HasCopy (copies_on set file 0 all) sect
  has_copy all c (r, (front, rest, is), at) =
      subst (λ rs. HasCopy (copies_on set file 0 rs) sect) (sym is)
      (images_have 0 front r rest (subst (AllByRecursion (IsCompleteOr set)) is c) at)

-- ---- which section a copy is

pub placed_at : (before : List SectionRead) (s : SectionRead) (rest : List SectionRead)
    → placed_of (before ++ s ∷ rest) ≡ placed_of before ++ s.placed ∷ placed_of rest
placed_at [] s rest = refl
placed_at (b ∷ before) s rest = ap (λ (ps : List Placed). b.placed ∷ ps) (placed_at before s rest)

pub good_on : (set : FileSet) (file : ℕ) (all : List (Option Reading)) (c : SectionCopy)
    → IsLawful set → (g : IsGood set file all c) → IsOn set g.reading.volume g.section.placed
good_on set file all c l g =
    every_stands _ _ g.section.placed (sections_on_are _ g.reading.volume l) (
      placed_of g.before,
      placed_of g.rest,
      sym g.volume.all ∙ ap placed_of g.is ∙ placed_at g.before g.section g.rest,
    )

pub good_sect : (set : FileSet) (file : ℕ) (all : List (Option Reading)) (c : SectionCopy)
    → (g : IsGood set file all c) → c.section.key.sect ≡ g.section.placed.sect
good_sect set file all c g = ap (λ (d : SectionCopy). d.section.key.sect) g.copy
    ∙ ap (λ (k : _). k.sect) g.key

-- a copy of a section with this number is this section
pub good_placed : (set : FileSet) (file sect : ℕ) (all : List (Option Reading)) (w : Section)
    (c : SectionCopy) → IsLawful set → (g : IsGood set file all c)
    → c.section.key.sect ≡ sect → section_of set file sect ≡ Some w
    → g.section.placed ≡ placed file sect w
good_placed set file sect all w c l g number found =
    let p = g.section.placed in
    let n : p.sect ≡ sect = sym (good_sect set file all c g) ∙ number in
    let here = (good_on set file all c l g).found in
    let there : section_of set file sect ≡ Some p.section =
    ap (λ (m : ℕ). section_of set file m) (sym n)
    ∙ ap (λ (m : ℕ). section_of set m p.sect) (sym g.own) ∙ here in
    let same : p.section ≡ w = cc (sym there ∙ found) in
    ap (λ (m : ℕ). placed m p.sect p.section) g.own ∙ ap (λ (m : ℕ). placed file m p.section) n
    ∙ ap (placed file sect) same
