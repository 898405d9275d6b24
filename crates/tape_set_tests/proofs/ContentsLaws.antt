-- Entries in the order in which they are appended, and the sections before a section.
use Rattle.std.proofs.Common.{◌≡◌, ◌<◌, ◌≤◌, ℕ, zero, suc, ◌+◌, ◌-◌, List, [], ◌∷◌, ◌++◌, length}
use Rattle.std.proofs.Common.{take, true, false, Some, refl, sym, ap, ◌∙◌, append_assoc, arith}
use Rattle.std.proofs.Common.{eq-eqb}
use Rattle.std.specs.Prelude.{map, slice_get, option_and_then, ◌==◌}
use Rattle.std.proofs.lemmas.Bool.Decides.{nat_tests}
use Rattle.std.proofs.lemmas.List.Elements.{filter-append}
use Rattle.tape_set.specs.Layout.{FileSet, Section, Placed, Entry, a_label, a_mark, section_of}
use Rattle.tape_set.specs.Layout.{sections, nth, group_of, on, all_entries, header_group}
use Rattle.tape_set.specs.Layout.{trailer_group, numbered, all_numbered}
use Rattle.tape_set.specs.Lawful.{IsLawful, IsSection, most_blocks}
use Rattle.tape_set.specs.Reach.{earlier, before_data}
use Rattle.tape_set.proofs.Everywhere.{every_stands}
use Rattle.tape_set.proofs.Numbering.{placed, section_stands}
use Rattle.tape_set.proofs.Forms.{all_four_digits}
use Rattle.tape_set.proofs.Standing.{all_entries-append}

-- ---- the order in which entries are appended

two_and_more : (xs ys : List Entry) (a b m : Entry)
    → (((xs ++ a ∷ []) ++ b ∷ []) ++ ys) ++ m ∷ [] ≡ xs ++ a ∷ b ∷ (ys ++ m ∷ [])
two_and_more xs ys a b m = simp append_assoc

pub headers_put : (xs : List Entry) (s : Section)
    → (((xs ++ a_label s.hdr1 ∷ []) ++ a_label s.hdr2 ∷ []) ++ map a_label s.headers) ++ a_mark ∷ []
    ≡ xs ++ header_group s
headers_put xs s = two_and_more xs (map a_label s.headers) (a_label s.hdr1) (a_label s.hdr2) a_mark

pub trailers_put : (xs : List Entry) (s : Section)
    → (((xs ++ a_mark ∷ []) ++ a_label s.trailer ∷ []) ++ map a_label s.trailers) ++ a_mark ∷ []
    ≡ xs ++ trailer_group s
trailers_put xs s = two_and_more xs (map a_label s.trailers) a_mark (a_label s.trailer) a_mark

pub section_put : (xs a b c : List Entry) → ((xs ++ a) ++ b) ++ c ≡ xs ++ ((a ++ b) ++ c)
section_put xs a b c = simp append_assoc

-- ---- the sections before a section

-- the sections before it in its own file, in which numbers begin with j
earlier_numbered : (file sect j n : ℕ) (ss : List Section) (rest : List Placed) (w : Section)
    → slice_get ss n ≡ Some w → sect ≡ j + n
    → earlier file sect (numbered file j ss ++ rest) ≡ numbered file j (take n ss)
earlier_numbered file sect j n [] rest w h e = absurd (cc)
earlier_numbered file sect j zero (s ∷ ss) rest w h e =
    let a : (file == file) ≡ true = eq-eqb file file refl in
    let b : (j == sect) ≡ true = eq-eqb j sect (omega (arith, e)) in
    rw (a, b) refl
earlier_numbered file sect j (suc n) (s ∷ ss) rest w h e =
    let a : (file == file) ≡ true = eq-eqb file file refl in
    let b : (j == sect) ≡ false = grind (arith, nat_tests, e) in
    rw (a, b) (ap (λ v. placed file j s ∷ v)
    (earlier_numbered file sect (j + 1) n ss rest w h (omega (arith, e))))

-- all sections of another file precede it
earlier_other : (file sect m j : ℕ) (ss : List Section) (rest : List Placed) → (m == file) ≡ false
    → earlier file sect (numbered m j ss ++ rest) ≡ numbered m j ss ++ earlier file sect rest
earlier_other file sect m j [] rest h = refl
earlier_other file sect m j (s ∷ ss) rest h =
    rw h (ap (λ v. placed m j s ∷ v) (earlier_other file sect m (j + 1) ss rest h))

-- the sections before it, if the files have numbers from m
earlier_files : (file sect m i n : ℕ) (fs : List (List Section)) (f : List Section) (w : Section)
    → slice_get fs i ≡ Some f → slice_get f n ≡ Some w
    → file ≡ m + i → sect ≡ 1 + n → earlier file sect (all_numbered m fs)
    ≡ all_numbered m (take i fs) ++ numbered file 1 (take n f)
earlier_files file sect m i n [] f w g h a b = absurd (cc)
earlier_files file sect m zero n (x ∷ fs) f w g h a b =
    let same : x ≡ f = cc in
    let number : m ≡ file = omega (arith, a) in
    ap (λ v. earlier file sect (numbered v 1 x ++ all_numbered (m + 1) fs)) number
    ∙ (earlier_numbered file sect 1 n x (all_numbered (m + 1) fs) w (ap (λ v. slice_get v n) same
    ∙ h) b ∙ ap (λ v. numbered file 1 (take n v)) same)
earlier_files file sect m (suc i) n (x ∷ fs) f w g h a b =
    let other : (m == file) ≡ false = grind (arith, nat_tests, a) in
    earlier_other file sect m 1 x (all_numbered (m + 1) fs) other
    ∙ (ap (λ v. numbered m 1 x ++ v) (earlier_files file sect (m + 1) i n fs f w g h
    (omega (arith, a)) b)
    ∙ sym (append_assoc (numbered m 1 x) (all_numbered (m + 1) (take i fs))
    (numbered file 1 (take n f))))

-- the sections of the files before its file, and those before it in its file
pub earlier_are : (set : FileSet) (file sect : ℕ) (f : List Section) (w : Section)
    → nth set.files file ≡ Some f → nth f sect ≡ Some w
    → earlier file sect (sections set)
    ≡ all_numbered 1 (take (file - 1) set.files) ++ numbered file 1 (take (sect - 1) f)
earlier_are set zero sect f w g h = absurd (cc)
earlier_are set (suc i) zero f w g h = absurd (cc)
earlier_are set (suc i) (suc n) f w g h =
    let a : suc i - 1 ≡ i = omega arith in
    let b : suc n - 1 ≡ n = omega arith in
    rw (a, b) (earlier_files (suc i) (suc n) 1 i n set.files f w g h (omega arith) (omega arith))

pub data_before : (set : FileSet) (file sect : ℕ) (f : List Section) (w : Section)
    → nth set.files file ≡ Some f → nth f sect ≡ Some w
    → ((group_of (nth set.volumes w.volume)
    ++ all_entries (on w.volume (all_numbered 1 (take (file - 1) set.files))))
    ++ all_entries (on w.volume (numbered file 1 (take (sect - 1) f)))) ++ header_group w
    ≡ before_data set file sect w
data_before set file sect f w g h =
    let front = group_of (nth set.volumes w.volume) in
    let files = all_numbered 1 (take (file - 1) set.files) in
    let own = numbered file 1 (take (sect - 1) f) in
    ap (λ z. z ++ header_group w)
    (append_assoc front (all_entries (on w.volume files)) (all_entries (on w.volume own))
    ∙ ap (λ z. front ++ z) (sym (ap (λ z. all_entries (on w.volume z))
    (earlier_are set file sect f w g h)
    ∙ (ap all_entries (filter-append (λ x. x.section.volume == w.volume) files own)
    ∙ all_entries-append (on w.volume files) (on w.volume own)))))

-- ---- numbers of a valid section

pub section_fits : (set : FileSet) (file sect : ℕ) (f : List Section) (w : Section) → IsLawful set
    → nth set.files file ≡ Some f → nth f sect ≡ Some w
    → (length w.blocks ≤ most_blocks) × (sect < 65535)
section_fits set file sect f w lawful g h =
    let found : section_of set file sect ≡ Some w =
    ap (λ o. option_and_then (λ v. nth v sect) o) g ∙ h in
    let stands = section_stands set file sect w found in
    let is = every_stands (IsSection set.set_id (length set.volumes)) (sections set)
    (placed file sect w) lawful.each stands in
    let digits = every_stands (λ x. ((1 ≤ x.file) × (x.file ≤ 9999))
    × ((1 ≤ x.sect) × (x.sect ≤ 9999))) (sections set) (placed file sect w)
    (all_four_digits set lawful) stands in
    (is.few, omega (arith, digits.1.1))
