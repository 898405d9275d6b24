-- A section of a valid set is found to close.
use Rattle.std.proofs.Common.{◌≡◌, ℕ, Bool, true, false, List, [], ◌∷◌, ◌++◌, Option, Some, None}
use Rattle.std.proofs.Common.{map, refl, sym, ap, subst, ◌∙◌, append_assoc, append-nil}
use Rattle.std.proofs.Common.{if◌then◌else◌, ◌==◌}
use Rattle.std.specs.List.{AllByRecursion}
use Rattle.tape_image.specs.Tape.{TapeItem, block, bad, mark}
use Rattle.tape_set.specs.{Layout.Volume, Lawful.IsVolume}
use Rattle.tape_run.specs.declared.salvage.walk.Expected.TheVariants.{Outside, Second, Headers}
use Rattle.tape_run.specs.SalvageWalk.{step, expected_after, found_from, in_list, FoundSection}
use Rattle.tape_run.specs.SalvageWalk.{FoundAt, read_after, one_further, open_section}
use Rattle.tape_run.specs.SalvageSections.{SectionRead, IsRead, Labels, AreLabels, read_labels}
use Rattle.tape_run.specs.SalvageSections.{read_section, read_sections, read_volume, key_of}
use Rattle.tape_run.specs.{declared.salvage.walk.OpenSection.OpenSection, SalvageWalk.sections_in}
use Rattle.tape_run.specs.{declared.salvage.walk.Closing.Closing}
use Rattle.tape_run.specs.declared.salvage.walk.Expected.{Expected}
use Rattle.tape_run.specs.declared.salvage.walk.Expected.TheVariants.{Trailer, Trailers, Next, Over}
use Rattle.tape_run.specs.SalvageSections.{MayBegin, after_trailers, FindsSection}
use Rattle.tape_run.proofs.SalvageSteps.{gathered, Quiet, quiet_data, section_walked, outside}
use Rattle.tape_run.proofs.{SalvagedSoFar.expected_after-append, SalvageVolumes.volume_no_heads}
use Rattle.tape_run.proofs.SalvageOpened.{trailer_step, may_after}
use Rattle.tape_run.proofs.SalvageSteps.{IsAsRead}

pub found_from-append : (s : Expected) (n : ℕ) (xs ys : List TapeItem)
    → found_from s n (xs ++ ys)
    ≡ found_from s n xs ++ found_from (expected_after s xs) (read_after n xs) ys
found_from-append s n [] ys = refl
found_from-append s n (x ∷ xs) ys =
    let z = (step s x).0 in
    let m = one_further n in
    ap (λ (r : List FoundAt). in_list n (step s x).1 ++ r) (found_from-append z m xs ys)
    ∙ sym (append_assoc (in_list n (step s x).1) (found_from z m xs)
    (found_from (expected_after z xs) (read_after m xs) ys))

-- ---- the sections without their places

abbrev ending : Option FoundSection → List FoundSection
ending None = []
ending (Some t) = t ∷ []

-- the sections that are found, with earlier ones
abbrev added : Expected → List FoundSection → TapeItem → List FoundSection
added s ts x = ts ++ ending (step s x).1

one_found : (n : ℕ) (o : Option FoundSection) (l : List FoundAt)
    → map (λ (t : FoundAt). t.1) (in_list n o ++ l) ≡ ending o ++ map (λ (t : FoundAt). t.1) l
one_found n None l = refl
one_found n (Some t) l = refl

same_gathered : (s : Expected) (n : ℕ) (ts : List FoundSection) (xs : List TapeItem)
    → gathered added s ts xs ≡ ts ++ map (λ (t : FoundAt). t.1) (found_from s n xs)
same_gathered s n ts [] = sym (append-nil ts)
same_gathered s n ts (x ∷ xs) =
    let rest = found_from (step s x).0 (one_further n) xs in
    same_gathered (step s x).0 (one_further n) (added s ts x) xs
    ∙ append_assoc ts (ending (step s x).1) (map (λ (t : FoundAt). t.1) rest)
    ∙ ap (λ (l : List FoundSection). ts ++ l) (sym (one_found n (step s x).1 rest))

-- one section was found somewhere
at_place : (l : List FoundAt) (t : FoundSection) → map (λ (t : FoundAt). t.1) l ≡ t ∷ []
    → (place : ℕ) × (l ≡ (place, t) ∷ [])
at_place [] t e = absurd (cc e)
at_place ((n, x) ∷ []) t e = (n, cc e)
at_place (x ∷ y ∷ l) t e = absurd (cc e)

none_ends : (s : Expected) (x : TapeItem) → MayBegin s → (step s x).1 ≡ None
none_ends (Outside n) (block b) may = refl
none_ends Next (block b) may = refl
none_ends (Second u) x may = absurd may
none_ends (Outside n) _ may = refl
none_ends Next _ may = refl
none_ends _ x may = absurd may

none_second : (u : OpenSection) (x : TapeItem) → (step (Second u) x).1 ≡ None
none_second u (block b) = refl
none_second u bad = refl
none_second u mark = refl

none_headers : (u : OpenSection) (x : TapeItem) → (step (Headers u) x).1 ≡ None
none_headers u (block b) = refl
none_headers u bad = refl
none_headers u mark = refl

none_added : (s : Expected) (ts : List FoundSection) (x : TapeItem) → (step s x).1 ≡ None
    → added s ts x ≡ ts
none_added s ts x e = ap (λ (o : Option FoundSection). ts ++ ending o) e ∙ append-nil ts

quiet : Quiet added
quiet = record {
  begin = λ s ts x may. none_added s ts x (none_ends s x may);
  second = λ u ts x. none_added (Second u) ts x (none_second u x);
  headers = λ u ts x. none_added (Headers u) ts x (none_headers u x);
  trailer = λ u ts b t is closed. none_added (Trailer u) ts (block b)
      (ap (λ (p : Expected × Option FoundSection). p.1) (trailer_step u b t is closed));
  trailers = λ u k ts b. none_added (Trailers u k) ts (block b) refl;
}

-- a section that was found as it is
pub record IsFound (set_id : List ℕ) (r : SectionRead) (found : FoundAt) : Type 0 where
  pub place : ℕ
  pub section : OpenSection
  pub closing : Closing
  pub is : found ≡ (place, (section, Some closing))
  pub has : IsAsRead set_id r section closing

pub record FindsOne (set_id : List ℕ) (r : SectionRead) (s : Expected) (before : ℕ) : Type 0 where
  pub found : FoundAt
  pub is_found : IsFound set_id r found
  pub only : found_from s before (read_section r) ≡ found ∷ []
  pub after : expected_after s (read_section r) ≡ after_trailers r.trailers

pub finds_one : (set_id : List ℕ) (volumes : ℕ) (r : SectionRead) (s : Expected) (before : ℕ)
    → IsRead set_id volumes r → MayBegin s → FindsOne set_id r s before
finds_one set_id volumes r s before read may =
    let w = section_walked added quiet set_id volumes r s [] [] [] (λ z k. (z, Some k) ∷ []) read
    may
    (λ v k z. quiet_data added (key_of set_id r) v [] r.blocks k (λ u b e. refl) (λ u e. refl))
    (λ v k l. refl) (λ z k. refl) (λ z k. refl) in
    let at = at_place (found_from s before (read_section r)) (w.section, Some w.closing)
    (sym (same_gathered s before [] (read_section r)) ∙ w.walk.gives) in
    record {
      found = (at.0, (w.section, Some w.closing));
      is_found = record {
        place = at.0;
        section = w.section;
        closing = w.closing;
        is = refl;
        has = w.has;
      };
      only = at.1;
      after = w.walk.after;
    }

pub finds_section : FindsSection
finds_section set_id volumes r s before read may =
    let one = finds_one set_id volumes r s before read may in
    let f = one.is_found in (
      f.section,
      f.closing,
      f.place,
      one.only ∙ ap (λ (t : FoundAt). t ∷ []) f.is,
      f.has.key,
      f.has.blocks,
      f.has.count,
    )

-- ---- a volume

-- each section of a volume was found as it is, in order
abbrev pub AreFound : List ℕ → List SectionRead → List FoundAt → Type 0
AreFound set_id [] [] = Unit {0}
AreFound set_id [] (t ∷ ts) = ⊥
AreFound set_id (r ∷ rs) [] = ⊥
AreFound set_id (r ∷ rs) (t ∷ ts) = IsFound set_id r t × AreFound set_id rs ts

record Founds (set_id : List ℕ) (rs : List SectionRead) (s : Expected) (before : ℕ) : Type 0 where
  found : AreFound set_id rs (found_from s before (read_sections rs))
  may : MayBegin (expected_after s (read_sections rs))

finds_all : (set_id : List ℕ) (volumes : ℕ) (rs : List SectionRead) (s : Expected) (before : ℕ)
    → AllByRecursion (IsRead set_id volumes) rs → MayBegin s → Founds set_id rs s before
finds_all set_id volumes [] s before read may = record { found = tt; may = may }
finds_all set_id volumes (r ∷ rs) s before (read, all) may =
    let xs = read_section r in
    let ys = read_sections rs in
    let z = after_trailers r.trailers in
    let m = read_after before xs in
    let one = finds_one _ _ _ _ before read may in
    let rest = finds_all set_id volumes rs z m all (may_after r.trailers) in
    let is : found_from s before (xs ++ ys) ≡ one.found ∷ found_from z m ys =
    found_from-append s before xs ys ∙ ap (λ (l : List FoundAt). l ++ found_from
    (expected_after s xs) m ys) one.only ∙ ap (λ (e : Expected). one.found ∷ found_from e m ys)
    one.after in
    record {
      found = subst (AreFound set_id (r ∷ rs)) (sym is) (one.is_found, rest.found);
      may = subst MayBegin (sym (expected_after-append s xs ys ∙ ap
          (λ (e : Expected). expected_after e ys) one.after)) rest.may;
    }

none_in : (l : List FoundAt) → map (λ (t : FoundAt). t.1) l ≡ [] → l ≡ []
none_in [] e = refl
none_in (t ∷ l) e = absurd (cc e)

none_open : (s : Expected) → MayBegin s → open_section (step s mark).0 ≡ None
none_open (Outside n) may = marks (n == 0) (n == 1)
  where
    marks : (a b : Bool)
        → open_section (if a then Outside 1 else (if b then Outside 2 else Over)) ≡ None
    marks true b = refl
    marks false true = refl
    marks false false = refl
none_open Next may = refl
none_open (Second u) may = absurd may
none_open _ may = absurd may

-- The sections on a volume of which the labels and tape marks were read are found as they are.
pub volume_found : (set_id : List ℕ) (volumes : ℕ) (v : Volume) (ls : Labels)
    (rs : List SectionRead) → IsVolume v → AreLabels v ls
    → AllByRecursion (IsRead set_id volumes) rs
    → AreFound set_id rs (sections_in (read_volume ls rs))
volume_found set_id volumes v ls rs is labels read =
    let o = Outside 0 in
    let front = read_labels ls in
    let xs = read_sections rs in
    let end = mark ∷ [] in
    let w = outside added quiet [] ls (volume_no_heads _ _ is labels) in
    let none = none_in (found_from o 0 front) (sym (same_gathered o 0 [] front) ∙ w.gives) in
    let n = read_after 0 front in
    let all = finds_all _ _ _ o n read refl in
    let s = expected_after o xs in
    let m = read_after n xs in
    let last : found_from s m end ≡ [] =
    ap (λ (f : Option FoundSection). in_list m f ++ []) (none_ends _ mark all.may) in
    let body : found_from o 0 (front ++ (xs ++ end)) ≡ found_from o n xs =
    found_from-append o 0 front (xs ++ end) ∙ ap (λ (l : List FoundAt). l ++ found_from
    (expected_after o front) n (xs ++ end)) none ∙ ap (λ (e : Expected). found_from e n (xs ++ end))
    w.after ∙ found_from-append o n xs end ∙ ap (λ (l : List FoundAt). found_from o n xs ++ l) last
    ∙ append-nil (found_from o n xs) in
    let over : expected_after o (front ++ (xs ++ end)) ≡ (step s mark).0 =
    expected_after-append o front (xs ++ end) ∙ ap (λ (e : Expected). expected_after e (xs ++ end))
    w.after ∙ expected_after-append o xs end in
    let tail : open_section (expected_after o (front ++ (xs ++ end))) ≡ None =
    ap open_section over ∙ none_open _ all.may in
    let whole : sections_in (read_volume ls rs) ≡ found_from o n xs =
    ap (λ (l : List FoundAt). l ++ in_list (read_after 0 (read_volume ls rs))
    (open_section (expected_after o (read_volume ls rs)))) body ∙ ap (λ (f : Option FoundSection).
    found_from o n xs ++ in_list (read_after 0 (read_volume ls rs)) f) tail ∙ append-nil
    (found_from o n xs) in
    subst (AreFound set_id rs) (sym whole) all.found
