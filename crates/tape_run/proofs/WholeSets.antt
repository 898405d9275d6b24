-- Complete copies of all volumes of a valid set make each of its sections good, and nothing of its
-- files is missing.
use Rattle.std.proofs.Common.{max, ◌≡◌, ℕ, zero, suc, ◌+◌, ◌≤◌, Bool, true, false, List, [], ◌∷◌}
use Rattle.std.proofs.Common.{◌++◌, length, Option, Some, None, refl, sym, ap, subst, ◌∙◌, arith}
use Rattle.std.proofs.Common.{map, if◌then◌else◌, IsSome, slice_get, option_and_then, ◌-◌}
use Rattle.std.proofs.lemmas.Option.{slice_get_within}
use Rattle.std.specs.{List.AllByRecursion, Str.bytes_eq}
use Rattle.tape_set.specs.Layout.{FileSet, Section, Placed, Volume, item_of, nth, sections}
use Rattle.tape_set.specs.Layout.{section_of, on, entries_on, items, ends_file, file_of}
use Rattle.tape_set.specs.Lawful.{IsLawful, IsSection, IsFile, Ends}
use Rattle.tape_set.specs.Laws.{StandsIn}
use Rattle.tape_set.proofs.Everywhere.{every, every_at, every_stands, nth_found, nth_there}
use Rattle.tape_set.proofs.{Everywhere.is_there, Forms.all_four_digits, AllVolumes.has_start}
use Rattle.tape_set.proofs.Numbering.{section_stands, section_found}
use Rattle.tape_set.proofs.Volumes.{IsOn, sections_on_are, over_volumes}
use Rattle.tape_run.specs.Lacks.{IsGoodAt, key_at, SetFiles, with_file, sets_from, lack_of}
use Rattle.tape_run.specs.WholeSet.{key_in, behind_copies, WholeSetIsGood, WholeSetLacksNothing}
use Rattle.tape_run.specs.{declared.section.SectionKey.SectionKey, declared.section.Lack.Lack}
use Rattle.tape_run.specs.{Passing.Told, Passing.met_in, WholeSet.WholeSetIsFound}
use Rattle.tape_run.specs.Noted.{same_key, better, noted, noted_all}
use Rattle.tape_run.specs.Lacks.{one_lack, file_lacks, set_lacks, lacks, is_none_lacking, found_all}
use Rattle.tape_run.proofs.NothingLacks.{KindIs, noted_all_kind, GoodAs, FileGood, whole_file}
use Rattle.tape_run.proofs.StayingGood.{stays_good}
use Rattle.tape_run.proofs.WholeVolumes.{AreGood, some_of, volume_tells, whole_volume}

-- ---- all volumes

copies_append : (set : FileSet) (c : List Told) (js ks : List ℕ)
    → behind_copies set c (js ++ ks) ≡ behind_copies set (behind_copies set c js) ks
copies_append set c [] ks = refl
copies_append set c (j ∷ js) ks = copies_append set (noted_all c (met_in (items set j))) js ks

stays_copies : (set : FileSet) (c : List Told) (ks : List ℕ) (key : SectionKey) → IsGoodAt c key
    → IsGoodAt (behind_copies set c ks) key
stays_copies set c [] key g = g
stays_copies set c (k ∷ ks) key g = stays_copies set (noted_all c (met_in (items set k))) ks key
    (stays_good c (met_in (items set k)) key g)

copied : (set : FileSet) (ks : List ℕ) (c : List Told) (k : ℕ) → IsLawful set
    → IsSome (nth set.volumes k) → StandsIn ks k
    → AllByRecursion (λ x. IsGoodAt (behind_copies set c ks) (key_in set x)) (on k (sections set))
copied set ks c k lawful there (front, rest, is) =
    let before = behind_copies set c front in
    let after = noted_all before (met_in (items set k)) in
    let same : behind_copies set after rest ≡ behind_copies set c ks =
    sym (copies_append set c front (k ∷ rest)) ∙ ap (behind_copies set c) (sym is) in
    subst (λ (r : List Told). AllByRecursion (λ x. IsGoodAt r (key_in set x)) (on k (sections set)))
    same
    (every (λ x. IsGoodAt after (key_in set x))
    (λ x. IsGoodAt (behind_copies set after rest) (key_in set x))
    (λ x g. stays_copies set after rest (key_in set x) g)
    (on k (sections set)) (whole_volume set k before lawful there))

pub whole_set : WholeSetIsGood
whole_set set ks c lawful all =
    over_volumes (λ x. IsGoodAt (behind_copies set c ks) (key_in set x)) set.volumes (sections set)
    (λ k there. copied set ks c k lawful there (all k there))
    (every (IsSection set.set_id (length set.volumes))
    (λ x. IsSome (nth set.volumes x.section.volume))
    (λ x is. is_there set.volumes x.section.volume is.volume.0 is.volume.1)
    (sections set) lawful.each)

-- ---- nothing is missing

-- the entry that is added for a section of the set has the kind of its own trailer
told_kinds : (set : FileSet) (k : ℕ) (x : Placed) (xs : List Placed) (ts : List Told)
    → section_of set x.file x.sect ≡ Some x.section → AllByRecursion (IsOn set k) xs
    → AreGood set xs ts → KindIs (key_in set x) (ends_file x.section) ts
told_kinds set k x [] [] found h g = tt
told_kinds set k x [] (t ∷ ts) found h g = absurd g
told_kinds set k x (y ∷ ys) [] found h g = absurd g
told_kinds set k x (y ∷ ys) (t ∷ ts) found (h, hs) (g, gs) = (
  (λ same.
      let key : key_in set y ≡ key_in set x = sym g.0 ∙ same in
      let one : section_of set y.file y.sect ≡ section_of set x.file x.sect =
      ap (λ (r : SectionKey). section_of set r.file r.sect) key in
      let is : y.section ≡ x.section = some_same y.section x.section (sym h.found ∙ one ∙ found) in
      g.2 ∙ ap ends_file is),
  told_kinds set k x ys ts found hs gs,
)
  where
    some_same : (a b : Section) → Some a ≡ Some b → a ≡ b
    some_same a b e = cc

volume_kinds : (set : FileSet) (k : ℕ) (x : Placed) (o : Option Volume) → nth set.volumes k ≡ o
    → IsLawful set → section_of set x.file x.sect ≡ Some x.section
    → KindIs (key_in set x) (ends_file x.section) (met_in (items set k))
volume_kinds set k x None e lawful found =
    subst (λ (o : Option Volume). KindIs (key_in set
    x) (ends_file x.section) (met_in (map item_of (entries_on o k (sections set))))) (sym e) tt
volume_kinds set k x (Some v) e lawful found =
    let t = volume_tells set k v lawful e in
    subst (KindIs (key_in set x) (ends_file x.section)) (sym t.met)
    (told_kinds set k x (on k (sections set)) t.tolds found (sections_on_are set k lawful) t.good)

copies_kind : (set : FileSet) (ks : List ℕ) (c : List Told) (x : Placed) → IsLawful set
    → section_of set x.file x.sect ≡ Some x.section → KindIs (key_in set x) (ends_file x.section) c
    → KindIs (key_in set x) (ends_file x.section) (behind_copies set c ks)
copies_kind set [] c x lawful found h = h
copies_kind set (k ∷ ks) c x lawful found h =
    copies_kind set ks (noted_all c (met_in (items set k))) x lawful found
    (noted_all_kind c (met_in (items set k)) (key_in set x) (ends_file x.section) h
    (volume_kinds set k x (nth set.volumes k) refl lawful found))

file_good : (c : List Told) (set_id : List ℕ) (file sect : ℕ) (ss : List Section)
    → ((i : ℕ) (s : Section) → slice_get ss i ≡ Some s
    → GoodAs c (key_at set_id file (sect + i)) (ends_file s))
    → FileGood c set_id file sect ss
file_good c set_id file sect [] h = tt
file_good c set_id file sect (s ∷ ss) h = (
  subst (λ (n : ℕ). GoodAs c (key_at set_id file n) (ends_file s)) (omega arith) (h 0 s refl),
  file_good c set_id file (sect + 1) ss (λ i t e. subst
      (λ (n : ℕ). GoodAs c (key_at set_id file n) (ends_file t)) (omega arith) (h (suc i) t e)),
)

not_empty : (ss : List Section) → Ends ss → 1 ≤ length ss
not_empty [] e = absurd e
not_empty (s ∷ ss) e = omega arith

pub nothing_lacks : WholeSetLacksNothing
unfolding lack_of
nothing_lacks set ks file lawful all there =
    let (f, is) = some_of (file_of set file) there in
    let at = nth_found set.files file f is in
    let lawful_file = every_at IsFile set.files at.place f lawful.files at.found in
    let c = behind_copies set [] ks in
    let good = whole_set set ks [] lawful all in
    let found : (i : ℕ) (s : Section) → slice_get f i ≡ Some s
    → section_of set file (suc i) ≡ Some s =
    λ i s e. ap (λ (o : Option (List Section)). option_and_then (λ g. nth g (suc i)) o) is ∙ e in
    let each : (i : ℕ) (s : Section) → slice_get f i ≡ Some s
    → GoodAs c (key_at set.set_id file (1 + i)) (ends_file s) = λ i s e.
    let one : suc i ≡ 1 + i = omega arith in
    let x : Placed = record { file = file; sect = suc i; section = s } in
    let g : IsGoodAt c (key_in set x) = every_stands (λ y. IsGoodAt c (key_in set y))
    (sections set) x good (section_stands set file (suc i) s (found i s e)) in
    subst (λ (n : ℕ). GoodAs c (key_at set.set_id file n) (ends_file s)) one
    (record { good = g; kind = copies_kind set ks [] x lawful (found i s e) tt }) in
    let some = not_empty f lawful_file.ends in
    let (s, last) =
    some_of (slice_get f (length f - 1)) (nth_there f (length f - 1) (omega (arith, some))) in
    let digits =
    every_stands (λ x. ((1 ≤ x.file) × (x.file ≤ 9999)) × ((1 ≤ x.sect) × (x.sect ≤ 9999)))
    (sections set) (record { file = file; sect = suc (length f - 1); section = s })
    (all_four_digits set lawful)
    (section_stands set file (suc (length f - 1)) s (found (length f - 1) s last)) in
    whole_file c set.set_id file 1 9999 f lawful_file.ends
    (omega (arith, digits.1.1, some)) (file_good c set.set_id file 1 f each)

-- ---- nothing of the set is missing, and nothing else was found

-- the sections belong to the set, and their files exist
abbrev OfSet : FileSet → List Told → Type 0
OfSet set ts = AllByRecursion (λ t. (t.0.set_id ≡ set.set_id) × (t.0.file ≤ length set.files)) ts

abbrev InSet : FileSet → Told → Type 0
InSet set t = (t.0.set_id ≡ set.set_id) × (t.0.file ≤ length set.files)

noted_here_of : (set : FileSet) (x t : Told) (xs rest : List Told) (b : Bool) → InSet set x
    → OfSet set xs → OfSet set rest → OfSet set (if b then (x.0, better x.1 t.1) ∷ xs else x ∷ rest)
noted_here_of set x t xs rest true h hs g = (h, hs)
noted_here_of set x t xs rest false h hs g = (h, g)

noted_of : (set : FileSet) (c : List Told) (t : Told) → OfSet set c → InSet set t
    → OfSet set (noted c t)
noted_of set [] t h g = (g, tt)
noted_of set (x ∷ xs) t (h, hs) g =
    noted_here_of set x t xs (noted xs t) (same_key t.0 x.0) h hs (noted_of set xs t hs g)

noted_all_of : (set : FileSet) (c ts : List Told) → OfSet set c → OfSet set ts
    → OfSet set (noted_all c ts)
noted_all_of set c [] h g = h
noted_all_of set c (t ∷ ts) h (g, gs) = noted_all_of set (noted c t) ts (noted_of set c t h g) gs

file_there : (set : FileSet) (file sect : ℕ) (s : Section) → section_of set file sect ≡ Some s
    → file ≤ length set.files
file_there set file sect s found =
    let f = section_found set file sect s found in
    let within = slice_get_within set.files f.file_at.place f.sections f.file_at.found in
    let number = f.file_at.number in
    omega (arith, within, number)

told_of : (set : FileSet) (k : ℕ) (xs : List Placed) (ts : List Told)
    → AllByRecursion (IsOn set k) xs → AreGood set xs ts → OfSet set ts
told_of set k [] [] h g = tt
told_of set k [] (t ∷ ts) h g = absurd g
told_of set k (y ∷ ys) [] h g = absurd g
told_of set k (y ∷ ys) (t ∷ ts) (h, hs) (g, gs) =
    let there = file_there set y.file y.sect y.section h.found in
    let is : (t.0.set_id ≡ set.set_id) × (t.0.file ≤ length set.files) =
    subst (λ (r : SectionKey). (r.set_id ≡ set.set_id) × (r.file ≤ length set.files)) (sym g.0)
    (refl, there) in
    (is, told_of set k ys ts hs gs)

volume_of_set : (set : FileSet) (k : ℕ) (o : Option Volume) → nth set.volumes k ≡ o → IsLawful set
    → OfSet set (met_in (items set k))
volume_of_set set k None e lawful =
    subst (λ (o : Option Volume). OfSet set (met_in (map item_of (entries_on o k (sections set)))))
    (sym e) tt
volume_of_set set k (Some v) e lawful =
    let t = volume_tells set k v lawful e in
    subst (OfSet set) (sym t.met)
    (told_of set k (on k (sections set)) t.tolds (sections_on_are set k lawful) t.good)

copies_of : (set : FileSet) (ks : List ℕ) (c : List Told) → IsLawful set → OfSet set c
    → OfSet set (behind_copies set c ks)
copies_of set [] c lawful h = h
copies_of set (k ∷ ks) c lawful h =
    copies_of set ks (noted_all c (met_in (items set k))) lawful
    (noted_all_of set c (met_in (items set k)) h
    (volume_of_set set k (nth set.volumes k) refl lawful))

-- no other set, and no file after its last
abbrev FewSets : FileSet → List SetFiles → Type 0
FewSets set sets = AllByRecursion (λ x. (x.0 ≡ set.set_id) × (x.1 ≤ length set.files)) sets

filed_here : (set : FileSet) (x : SetFiles) (xs rest : List SetFiles) (file : ℕ) (b : Bool)
    → FewSets set (x ∷ xs) → file ≤ length set.files → FewSets set rest
    → FewSets set (if b then (x.0, max x.1 file) ∷ xs else x ∷ rest)
filed_here set x xs rest file true (h, hs) few g = ((h.0, omega (arith, h.1, few)), hs)
filed_here set x xs rest file false (h, hs) few g = (h, g)

filed : (set : FileSet) (sets : List SetFiles) (set_id : List ℕ) (file : ℕ) → FewSets set sets
    → set_id ≡ set.set_id → file ≤ length set.files → FewSets set (with_file sets set_id file)
filed set [] set_id file h e few = ((e, few), tt)
filed set (x ∷ xs) set_id file (h, hs) e few =
    filed_here set x xs (with_file xs set_id file) file (bytes_eq set_id x.0) (h, hs) few
    (filed set xs set_id file hs e few)

sets_few : (set : FileSet) (sets : List SetFiles) (c : List Told) → FewSets set sets → OfSet set c
    → FewSets set (sets_from sets c)
sets_few set sets [] h g = h
sets_few set sets (t ∷ ts) h (g, gs) = sets_few set (with_file sets t.0.set_id t.0.file) ts
    (filed set sets t.0.set_id t.0.file h g.0 g.1) gs

none_of_files : (c : List Told) (set_id : List ℕ) (file n most : ℕ) → file + n ≤ most + 1
    → ((f : ℕ) → file ≤ f → f ≤ most → lack_of c set_id f ≡ None) → file_lacks c set_id file n ≡ []
none_of_files c set_id file zero most few none = refl
none_of_files c set_id file (suc n) most few none =
    ap (λ (o : Option ℕ). one_lack set_id file o ++ file_lacks c set_id (file + 1) n)
    (none file (omega arith) (omega (arith, few)))
    ∙ none_of_files c set_id (file + 1) n most
    (omega (arith, few)) (λ f a b. none f (omega (arith, a)) b)

none_of_sets : (set : FileSet) (c : List Told) (sets : List SetFiles) → FewSets set sets
    → ((f : ℕ) → 1 ≤ f → f ≤ length set.files → lack_of c set.set_id f ≡ None)
    → set_lacks c sets ≡ []
none_of_sets set c [] h none = refl
none_of_sets set c (x ∷ xs) (h, hs) none =
    let own : file_lacks c x.0 1 x.1 ≡ [] =
    subst (λ (i : List ℕ). file_lacks c i 1 x.1 ≡ []) (sym h.0)
    (none_of_files c set.set_id 1 x.1 (length set.files) (omega (arith, h.1)) none) in
    ap (λ (ls : List Lack). ls ++ set_lacks c xs) own ∙ none_of_sets set c xs hs none

-- if something was found and nothing is missing, everything was found
found_by : (c : List Told) (key : SectionKey) → IsGoodAt c key → lacks c ≡ [] → found_all c ≡ true
found_by [] key g none = absurd (cc g.there)
found_by (x ∷ xs) key g none = ap is_none_lacking none

pub all_found : WholeSetIsFound
all_found set ks lawful all there =
    let c = behind_copies set [] ks in
    let none : (f : ℕ) → 1 ≤ f → f ≤ length set.files → lack_of c set.set_id f ≡ None =
    λ f a b. nothing_lacks set ks f lawful all (is_there set.files f a b) in
    let empty : lacks c ≡ [] = none_of_sets set c (sets_from [] c)
    (sets_few set [] c tt (copies_of set ks [] lawful tt)) none in
    let (s, first, fits, part) = has_start set lawful 1 there in
    let x : Placed = record { file = 1; sect = 1; section = s } in
    let good : IsGoodAt c (key_in set x) =
    every_stands (λ y. IsGoodAt c (key_in set y)) (sections set) x (whole_set set ks [] lawful all)
    (section_stands set 1 1 s first) in
    found_by c (key_in set x) good empty
