-- The valid set of the same shape: its volumes have the same entries except for second labels, and
-- its readings move positions equally far.
use Rattle.std.proofs.Common.{◌≡◌, ◌⊎◌, inl, inr, ℕ, zero, suc, ◌+◌, List, [], ◌∷◌, ◌++◌, length}
use Rattle.std.proofs.Common.{Bool, true, false, cond, Option, Some, None, refl, sym, ap, ◌∙◌, subst}
use Rattle.std.proofs.Common.{map, arith, ◌==◌, ◌&&◌, ◌||◌, length-append, append_assoc, slice_get}
use Rattle.std.proofs.lemmas.List.{length-map}
use Rattle.std.specs.List.{AllByRecursion}
use Rattle.std.specs.Prelude.{option_and_then, filter, drop, ⊤}
use Rattle.tape_label.specs.declared.values.Kind.TheVariants as kinds
use Rattle.tape_label.specs.Kinds.{HasKind}
use Rattle.tape_set.specs.Layout.{FileSet, Section, Placed, Volume, Entry, a_label, a_data_block}
use Rattle.tape_set.specs.Layout.{a_mark, is_data, nth, file_of, section_of, sections, on, entries}
use Rattle.tape_set.specs.Layout.{entries_on, all_entries, section_entries, header_group, data_group}
use Rattle.tape_set.specs.Layout.{trailer_group, volume_group, group_of}
use Rattle.tape_set.specs.declared.position.Position.{Position}
use Rattle.tape_set.specs.declared.position.Position.TheVariants.{Awaits, Finished}
use Rattle.tape_set.specs.Reach.{earlier, before_data, passes, far, far_in, moved}
use Rattle.tape_set.specs.Reading.{Reading}
use Rattle.tape_set.specs.Lawful.{FileForm}
use Rattle.tape_set.specs.Readable.{IsReadable, IsReadableFile, HasWideForm}
use Rattle.tape_set.proofs.Everywhere.{every, every_at}
use Rattle.tape_set.proofs.Numbering.{FileOf, section_found, sections_found}
use Rattle.tape_set.proofs.FileParts.{file_is}
use Rattle.tape_set.proofs.Standing.{all_entries-append}
use Rattle.tape_core.specs.Follows.{to_come}
use Rattle.tape_core.proofs.Fronts.{opened}
use Rattle.tape_run.proofs.PlainSets.{plain_set, plain_section, plain_placed, plain_block}
use Rattle.tape_run.proofs.PlainSets.{plain_sections, plain_data, label_is}

-- ---- the files of the set

pub readable_file : (set : FileSet) (file sect : ℕ) (w : Section) → IsReadable set
    → (at : FileOf set file sect w) → IsReadableFile at.sections
readable_file set file sect w r at =
    every_at IsReadableFile set.files at.file_at.place at.sections r.files at.file_at.found

pub form_of_it : (set : FileSet) (file sect : ℕ) (w : Section) → IsReadable set
    → section_of set file sect ≡ Some w → (form : FileForm) × HasWideForm form w
form_of_it set file sect w r found =
    let at = section_found set file sect w found in
    let alike = (readable_file set file sect w r at).alike in (
      alike.0,
      every_at (HasWideForm alike.0) at.sections at.sect_at.place w alike.1
          at.sect_at.found,
    )

-- ---- elements of mapped lists

slice_map : {A B : Type 0} (f : A → B) (xs : List A) (n : ℕ) (x : A) → slice_get xs n ≡ Some x
    → slice_get (map f xs) n ≡ Some (f x)
slice_map f [] n x e = absurd (cc e)
slice_map f (y ∷ xs) zero x e = let same : y ≡ x = cc e in ap (λ z. Some (f z)) same
slice_map f (y ∷ xs) (suc n) x e = slice_map f xs n x e

slice_back : {A B : Type 0} (f : A → B) (xs : List A) (n : ℕ) (y : B)
    → slice_get (map f xs) n ≡ Some y → (x : A) × (slice_get xs n ≡ Some x) × (f x ≡ y)
slice_back f [] n y e = absurd (cc e)
slice_back f (x ∷ xs) zero y e = (x, refl, cc e)
slice_back f (x ∷ xs) (suc n) y e = slice_back f xs n y e

pub nth_map : {A B : Type 0} (f : A → B) (xs : List A) (n : ℕ) (x : A) → nth xs n ≡ Some x
    → nth (map f xs) n ≡ Some (f x)
nth_map f xs zero x e = absurd (cc e)
nth_map f xs (suc n) x e = slice_map f xs n x e

nth_back : {A B : Type 0} (f : A → B) (xs : List A) (n : ℕ) (y : B) → nth (map f xs) n ≡ Some y
    → (x : A) × (nth xs n ≡ Some x) × (f x ≡ y)
nth_back f xs zero y e = absurd (cc e)
nth_back f xs (suc n) y e = slice_back f xs n y e

pub plain_found : (set : FileSet) (file sect : ℕ) (s : Section)
    → section_of set file sect ≡ Some s
    → section_of (plain_set set) file sect ≡ Some (plain_section s)
plain_found set file sect s h =
    let at = section_found set file sect s h in
    let its : nth at.sections sect ≡ Some s =
    ap (λ z. nth at.sections z) at.sect_at.number ∙ at.sect_at.found in
    ap (λ o. option_and_then (λ f. nth f sect) o)
    (nth_map (map plain_section) set.files file at.sections (file_is set file sect s at))
    ∙ nth_map plain_section at.sections sect s its

pub found_back : (set : FileSet) (file sect : ℕ) (w : Section)
    → section_of (plain_set set) file sect ≡ Some w
    → (s : Section) × (section_of set file sect ≡ Some s) × (plain_section s ≡ w)
found_back set file sect w h =
    let at = section_found (plain_set set) file sect w h in
    let f = nth_back (map plain_section) set.files file at.sections
    (file_is (plain_set set) file sect w at) in
    let its : nth (map plain_section f.0) sect ≡ Some w =
    ap (λ z. nth z sect) f.2
    ∙ (ap (λ z. nth at.sections z) at.sect_at.number ∙ at.sect_at.found) in
    let s = nth_back plain_section f.0 sect w its in
    (s.0, ap (λ o. option_and_then (λ g. nth g sect) o) f.1 ∙ s.1, s.2)

-- ---- lists of sections

plain_earlier : (file sect : ℕ) (xs : List Placed)
    → earlier file sect (map plain_placed xs) ≡ map plain_placed (earlier file sect xs)
plain_earlier file sect [] = refl
plain_earlier file sect (x ∷ xs) =
    go ((x.file == file) && (x.sect == sect)) (plain_earlier file sect xs)
  where
    go : (t : Bool)
        → earlier file sect (map plain_placed xs) ≡ map plain_placed (earlier file sect xs)
        → cond t [] (plain_placed x ∷ earlier file sect (map plain_placed xs))
        ≡ map plain_placed (cond t [] (x ∷ earlier file sect xs))
    go true e = refl
    go false e = ap (λ z. plain_placed x ∷ z) e

pub plain_on : (k : ℕ) (xs : List Placed) → on k (map plain_placed xs) ≡ map plain_placed (on k xs)
plain_on k [] = refl
plain_on k (x ∷ xs) = go (x.section.volume == k) (plain_on k xs)
  where
    go : (t : Bool) → on k (map plain_placed xs) ≡ map plain_placed (on k xs)
        → cond t (plain_placed x ∷ on k (map plain_placed xs)) (on k (map plain_placed xs))
        ≡ map plain_placed (cond t (x ∷ on k xs) (on k xs))
    go true e = ap (λ z. plain_placed x ∷ z) e
    go false e = e

-- the section has a second header label
abbrev pub HasSecond : Placed → Type 0
HasSecond x = HasKind x.section.hdr2 kinds.Hdr2

seconds : (set : FileSet) → IsReadable set → AllByRecursion HasSecond (sections set)
seconds set r =
    every (λ x. section_of set x.file x.sect ≡ Some x.section) HasSecond
    (λ x found. (form_of_it set x.file x.sect x.section r found).1.labels.hdr2.kind)
    (sections set) (sections_found set)

seconds_on : (k : ℕ) (xs : List Placed) → AllByRecursion HasSecond xs
    → AllByRecursion HasSecond (on k xs)
seconds_on k [] h = tt
seconds_on k (x ∷ xs) h = go (x.section.volume == k) (seconds_on k xs h.1)
  where
    go : (t : Bool) → AllByRecursion HasSecond (on k xs)
        → AllByRecursion HasSecond (cond t (x ∷ on k xs) (on k xs))
    go true g = (h.0, g)
    go false g = g

seconds_earlier : (file sect : ℕ) (xs : List Placed) → AllByRecursion HasSecond xs
    → AllByRecursion HasSecond (earlier file sect xs)
seconds_earlier file sect [] h = tt
seconds_earlier file sect (x ∷ xs) h =
    go ((x.file == file) && (x.sect == sect)) (seconds_earlier file sect xs h.1)
  where
    go : (t : Bool) → AllByRecursion HasSecond (earlier file sect xs)
        → AllByRecursion HasSecond (cond t [] (x ∷ earlier file sect xs))
    go true g = tt
    go false g = (h.0, g)

-- the section is found by its numbers
abbrev IsThere : FileSet → Placed → Type 0
IsThere set x = section_of set x.file x.sect ≡ Some x.section

found_on : (set : FileSet) (k : ℕ) (xs : List Placed) → AllByRecursion (IsThere set) xs
    → AllByRecursion (IsThere set) (on k xs)
found_on set k [] h = tt
found_on set k (x ∷ xs) h = pick (x.section.volume == k) (found_on set k xs h.1)
  where
    pick : (t : Bool) → AllByRecursion (IsThere set) (on k xs)
        → AllByRecursion (IsThere set) (cond t (x ∷ on k xs) (on k xs))
    pick true g = (h.0, g)
    pick false g = g

pub on_found : (set : FileSet) (k : ℕ)
    → AllByRecursion (λ x. section_of set x.file x.sect ≡ Some x.section) (on k (sections set))
on_found set k = found_on set k (sections set) (sections_found set)

-- ---- entries

-- two second header labels
pub record AreSeconds (e f : Entry) : Type 0 where
  pub one : List ℕ
  pub other : List ℕ
  pub is : e ≡ a_label one
  pub other_is : f ≡ a_label other
  pub kind : HasKind one kinds.Hdr2
  pub other_kind : HasKind other kinds.Hdr2

abbrev pub IsAlike : Entry → Entry → Type 0
IsAlike e f = (e ≡ f) ⊎ AreSeconds e f

abbrev pub AreAlike : List Entry → List Entry → Type 0
AreAlike [] [] = ⊤
AreAlike [] (f ∷ fs) = ⊥
AreAlike (e ∷ es) [] = ⊥
AreAlike (e ∷ es) (f ∷ fs) = IsAlike e f × AreAlike es fs

alike_same : (es : List Entry) → AreAlike es es
alike_same [] = tt
alike_same (e ∷ es) = (inl refl, alike_same es)

alike_append : (es fs gs hs : List Entry) → AreAlike es fs → AreAlike gs hs
    → AreAlike (es ++ gs) (fs ++ hs)
alike_append [] [] gs hs a b = b
alike_append [] (f ∷ fs) gs hs a b = absurd a
alike_append (e ∷ es) [] gs hs a b = absurd a
alike_append (e ∷ es) (f ∷ fs) gs hs a b = (a.0, alike_append es fs gs hs a.1 b)

pub alike_length : (es fs : List Entry) → AreAlike es fs → length es ≡ length fs
alike_length [] [] a = refl
alike_length [] (f ∷ fs) a = absurd a
alike_length (e ∷ es) [] a = absurd a
alike_length (e ∷ es) (f ∷ fs) a = ap suc (alike_length es fs a.1)

data_alike : (e f : Entry) → IsAlike e f → is_data e ≡ is_data f
data_alike e f (inl same) = ap is_data same
data_alike e f (inr s) = ap is_data s.is ∙ sym (ap is_data s.other_is)

pub alike_passes : (good : List Bool) (es fs : List Entry) → AreAlike es fs
    → passes good es ≡ passes good fs
alike_passes good [] [] a = refl
alike_passes good [] (f ∷ fs) a = absurd a
alike_passes good (e ∷ es) [] a = absurd a
alike_passes [] (e ∷ es) (f ∷ fs) a = refl
alike_passes (g ∷ good) (e ∷ es) (f ∷ fs) a =
    ap (λ z. (g || z) && passes good es) (data_alike e f a.0)
    ∙ ap (λ z. (g || is_data f) && z) (alike_passes good es fs a.1)

pub alike_at : (es fs : List Entry) (n : ℕ) (e : Entry) → AreAlike es fs
    → slice_get es n ≡ Some e → (f : Entry) × (slice_get fs n ≡ Some f) × IsAlike e f
alike_at [] [] n e a h = absurd (cc h)
alike_at [] (f ∷ fs) n e a h = absurd a
alike_at (d ∷ es) [] n e a h = absurd a
alike_at (d ∷ es) (f ∷ fs) zero e a h =
    let same : d ≡ e = cc h in (f, refl, subst (λ z. IsAlike z f) same a.0)
alike_at (d ∷ es) (f ∷ fs) (suc n) e a h = alike_at es fs n e a.1 h

header_alike : (s : Section) → HasKind s.hdr2 kinds.Hdr2
    → AreAlike (header_group s) (header_group (plain_section s))
header_alike s h = (
  inl refl,
  (
    inr (record {
      one = s.hdr2;
      other = (plain_section s).hdr2;
      is = refl;
      other_is = refl;
      kind = h;
      other_kind = label_is.kind;
    }),
    alike_same (map a_label s.headers ++ a_mark ∷ []),
  ),
)

section_alike : (s : Section) → HasKind s.hdr2 kinds.Hdr2
    → AreAlike (section_entries s) (section_entries (plain_section s))
section_alike s h =
    alike_append (header_group s ++ data_group s.blocks)
    (header_group (plain_section s) ++ data_group (map plain_block s.blocks))
    (trailer_group s) (trailer_group s)
    (alike_append (header_group s) (header_group (plain_section s)) (data_group s.blocks)
    (data_group (map plain_block s.blocks)) (header_alike s h)
    (subst (AreAlike (data_group s.blocks)) (sym (plain_data s.blocks))
    (alike_same (data_group s.blocks))))
    (alike_same (trailer_group s))

all_alike : (xs : List Placed) → AllByRecursion HasSecond xs
    → AreAlike (all_entries xs) (all_entries (map plain_placed xs))
all_alike [] h = tt
all_alike (x ∷ xs) h =
    alike_append (section_entries x.section) (section_entries (plain_section x.section))
    (all_entries xs) (all_entries (map plain_placed xs)) (section_alike x.section h.0)
    (all_alike xs h.1)

on_alike : (k : ℕ) (xs : List Placed) → AllByRecursion HasSecond xs
    → AreAlike (all_entries (on k xs)) (all_entries (on k (map plain_placed xs)))
on_alike k xs h = subst (λ z. AreAlike (all_entries (on k xs)) (all_entries z))
    (sym (plain_on k xs)) (all_alike (on k xs) (seconds_on k xs h))

entries_on_alike : (o : Option Volume) (k : ℕ) (xs : List Placed) → AllByRecursion HasSecond xs
    → AreAlike (entries_on o k xs) (entries_on o k (map plain_placed xs))
entries_on_alike None k xs h = tt
entries_on_alike (Some v) k xs h =
    alike_append (volume_group v ++ all_entries (on k xs))
    (volume_group v ++ all_entries (on k (map plain_placed xs))) (a_mark ∷ []) (a_mark ∷ [])
    (alike_append (volume_group v) (volume_group v) (all_entries (on k xs))
    (all_entries (on k (map plain_placed xs))) (alike_same (volume_group v)) (on_alike k xs h))
    (alike_same (a_mark ∷ []))

-- A volume of the set, and the volume of the valid set.
pub entries_alike : (set : FileSet) → IsReadable set → (k : ℕ)
    → AreAlike (entries set k) (entries (plain_set set) k)
entries_alike set r k =
    subst (λ z. AreAlike (entries set k) (entries_on (nth set.volumes k) k z))
    (sym (plain_sections set))
    (entries_on_alike (nth set.volumes k) k (sections set) (seconds set r))

before_alike : (set : FileSet) → IsReadable set → (file sect : ℕ) (s : Section)
    → HasKind s.hdr2 kinds.Hdr2
    → AreAlike (before_data set file sect s)
    (before_data (plain_set set) file sect (plain_section s))
before_alike set r file sect s h =
    let past = earlier file sect (sections set) in
    let same : earlier file sect (sections (plain_set set)) ≡ map plain_placed past =
    ap (earlier file sect) (plain_sections set) ∙ plain_earlier file sect (sections set) in
    let group = group_of (nth set.volumes s.volume) in
    subst (λ z. AreAlike (before_data set file sect s)
    ((group ++ all_entries (on s.volume z)) ++ header_group (plain_section s))) (sym same)
    (alike_append (group ++ all_entries (on s.volume past))
    (group ++ all_entries (on s.volume (map plain_placed past))) (header_group s)
    (header_group (plain_section s))
    (alike_append group group (all_entries (on s.volume past))
    (all_entries (on s.volume (map plain_placed past))) (alike_same group)
    (on_alike s.volume past (seconds_earlier file sect (sections set) (seconds set r))))
    (header_alike s h))

-- ---- positions

moved_same : (p : Position) (sect b : ℕ) (s : Section) (good : List Bool)
    → moved p sect b (plain_section s) good ≡ moved p sect b s good
moved_same p sect b s good = rw (length-map s.blocks plain_block) refl

-- A reading moves a position as far as one of the valid set.
pub far_same : (set : FileSet) → IsReadable set → (file sect b part : ℕ) (s : Section)
    → section_of set file sect ≡ Some s → (r : Reading)
    → far (plain_set set) file (Awaits sect b part) r ≡ far set file (Awaits sect b part) r
far_same set is file sect b part s found r =
    let p = Awaits sect b part in
    let kind = (form_of_it set file sect s is found).1.labels.hdr2.kind in
    let alike = before_alike set is file sect s kind in
    let past = before_data set file sect s in
    let its = before_data (plain_set set) file sect (plain_section s) in
    let plain : far (plain_set set) file p r
    ≡ cond ((s.volume == r.volume) && passes r.good its)
    (moved p sect b (plain_section s) (drop (length its) r.good)) p =
    ap (far_in (plain_set set) file p sect b r) (plain_found set file sect s found) in
    let wide : far set file p r ≡ cond ((s.volume == r.volume) && passes r.good past)
    (moved p sect b s (drop (length past) r.good)) p =
    ap (far_in set file p sect b r) found in
    plain
    ∙ (ap (λ z. cond ((s.volume == r.volume) && z)
    (moved p sect b (plain_section s) (drop (length its) r.good)) p)
    (sym (alike_passes r.good past its alike))
    ∙ (ap (λ z. cond ((s.volume == r.volume) && passes r.good past)
    (moved p sect b (plain_section s) (drop z r.good)) p) (sym (alike_length past its alike))
    ∙ (ap (λ z. cond ((s.volume == r.volume) && passes r.good past) z p)
    (moved_same p sect b s (drop (length past) r.good)) ∙ sym wide)))

-- ---- the second label of a section

-- what is expected from the second label of a section on
abbrev pub from_second : Placed → List Placed → List Entry
from_second x later = (a_label x.section.hdr2 ∷ map a_label x.section.headers
    ++ a_mark ∷ data_group x.section.blocks ++ trailer_group x.section) ++ to_come later

-- the entries of a volume before that, for the sections before it
front_is : (v : Volume) (k : ℕ) (past : List Placed) (x : Placed) (later xs : List Placed)
    → past ++ x ∷ later ≡ on k xs
    → ((volume_group v ++ all_entries past) ++ a_label x.section.hdr1 ∷ []) ++ from_second x later
    ≡ entries_on (Some v) k xs
front_is v k past x later xs e =
    let f = volume_group v ++ all_entries past in
    let s = x.section in
    append_assoc f (a_label s.hdr1 ∷ []) (from_second x later)
    ∙ (ap (λ z. f ++ z) (sym (opened (a_label s.hdr1) (a_label s.hdr2) (map a_label s.headers)
    (data_group s.blocks) (trailer_group s) (all_entries later) (a_mark ∷ [])))
    ∙ (sym (append_assoc f (all_entries (x ∷ later)) (a_mark ∷ []))
    ∙ (ap (λ z. z ++ a_mark ∷ []) (append_assoc (volume_group v) (all_entries past)
    (all_entries (x ∷ later)))
    ∙ (ap (λ z. (volume_group v ++ z) ++ a_mark ∷ []) (sym (all_entries-append past (x ∷ later)))
    ∙ ap (λ z. (volume_group v ++ all_entries z) ++ a_mark ∷ []) e))))

get_at : (front rest : List Entry) (e : Entry) (n : ℕ) → length front ≡ n
    → slice_get (front ++ e ∷ rest) n ≡ Some e
get_at [] rest e zero h = refl
get_at [] rest e (suc n) h = absurd (omega (arith, h))
get_at (x ∷ front) rest e zero h = absurd (omega (arith, h))
get_at (x ∷ front) rest e (suc n) h = get_at front rest e n (omega (arith, h))

-- The place of the second label is the same on both volumes.
pub second_at : (set : FileSet) → IsReadable set → (k : ℕ) (v : Volume)
    → nth set.volumes k ≡ Some v → (past : List Placed) (x : Placed) (later : List Placed)
    → past ++ x ∷ later ≡ on k (sections set) → AllByRecursion HasSecond (x ∷ later)
    → (done : List Entry)
    → done ++ from_second (plain_placed x) (map plain_placed later) ≡ entries (plain_set set) k
    → slice_get (entries set k) (length done) ≡ Some (a_label x.section.hdr2)
second_at set r k v vol past x later e kinds done whole =
    let front = (volume_group v ++ all_entries past) ++ a_label x.section.hdr1 ∷ [] in
    let is : front ++ from_second x later ≡ entries set k =
    front_is v k past x later (sections set) e
    ∙ ap (λ z. entries_on z k (sections set)) (sym vol) in
    let rest_alike : AreAlike (a_label x.section.hdr1 ∷ from_second x later)
    (a_label x.section.hdr1 ∷ from_second (plain_placed x) (map plain_placed later)) =
    subst (λ z. AreAlike z (a_label x.section.hdr1
    ∷ from_second (plain_placed x) (map plain_placed later)))
    (opened (a_label x.section.hdr1) (a_label x.section.hdr2) (map a_label x.section.headers)
    (data_group x.section.blocks) (trailer_group x.section) (all_entries later) (a_mark ∷ []))
    (subst (λ z. AreAlike (all_entries (x ∷ later) ++ a_mark ∷ []) z)
    (opened (a_label x.section.hdr1) (a_label (plain_placed x).section.hdr2)
    (map a_label x.section.headers) (data_group (plain_placed x).section.blocks)
    (trailer_group x.section) (all_entries (map plain_placed later)) (a_mark ∷ []))
    (alike_append (all_entries (x ∷ later)) (all_entries (map plain_placed (x ∷ later)))
    (a_mark ∷ []) (a_mark ∷ []) (all_alike (x ∷ later) kinds) (alike_same (a_mark ∷ [])))) in
    let rests = alike_length (from_second x later)
    (from_second (plain_placed x) (map plain_placed later)) rest_alike.1 in
    let alls = alike_length (entries set k) (entries (plain_set set) k) (entries_alike set r k) in
    let a = length-append front (from_second x later) in
    let b = length-append done (from_second (plain_placed x) (map plain_placed later)) in
    let c = ap length is in
    let d = ap length whole in
    let count : length front ≡ length done = omega (arith, rests, alls, a, b, c, d) in
    ap (λ z. slice_get z (length done)) (sym is)
    ∙ get_at front _ (a_label x.section.hdr2) (length done) count
