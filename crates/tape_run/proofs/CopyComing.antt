-- What comes next on a copy of a volume of a valid set, in each phase of a survey.
use Rattle.std.proofs.Common.{◌≡◌, ◌≢◌, ◌⊎◌, inl, inr, ℕ, ◌+◌, Bool, true, false, List, [], ◌∷◌}
use Rattle.std.proofs.Common.{◌++◌, length, map, Option, Some, None, Result, Ok, Err, refl, sym, ap}
use Rattle.std.proofs.Common.{subst, ◌∙◌, append_assoc}
use Rattle.std.specs.{Prelude.⊤, List.AllByRecursion}
use Rattle.tape_image.specs.Tape.{TapeItem, block, bad, mark}
use Rattle.tape_label.specs.declared.values.{Kind.Kind, Vol1.Vol1, Head1.Head1, Head2.Head2}
use Rattle.tape_label.specs.declared.values.Trail1.{Trail1}
use Rattle.tape_label.specs.declared.values.Kind.TheVariants as kinds
use Rattle.tape_label.specs.{declared.label.LabelFault.LabelFault, Kinds.HasKind}
use Rattle.tape_label.specs.{Head1.IsHead1, Head2.IsHead2}
use Rattle.tape_label.specs.{Kinds.trailer}
use Rattle.tape_label.specs.Reading.{head1_at, trail1_at}
use Rattle.tape_label.proofs.First.{head1_found, trail1_found}
use Rattle.tape_label.proofs.VolumeLabels.{volume_label_again, no_volume_label}
use Rattle.tape_label.proofs.{Apart.HasKind-unique}
use Rattle.tape_blocks.specs.Tight.{Filled}
use Rattle.tape_set.specs.Layout.{FileSet, Section, Placed, Volume, Entry, a_label}
use Rattle.tape_set.specs.Layout.{a_mark, item_of, is_data, data_group, section_entries}
use Rattle.tape_set.specs.Layout.{all_entries, section_of, ends_file}
use Rattle.tape_set.specs.Lawful.{IsVolume, IsVolumeLabel}
use Rattle.tape_set.proofs.{Volumes.IsOn}
use Rattle.tape_run.specs.declared.{met.Met.Met, passing.Phase.Phase}
use Rattle.tape_run.specs.declared.section.{SectionKey.SectionKey}
use Rattle.tape_run.specs.declared.passing.Phase.TheVariants as phases
use Rattle.tape_run.specs.declared.survey.forms.FormNote.{FormNote}
use Rattle.tape_run.specs.declared.survey.forms.FormNote.TheVariants.{Stated, Trailer}
use Rattle.tape_run.specs.Passing.{Told}
use Rattle.tape_run.specs.{Onward.step, Onward.stray_by}
use Rattle.tape_run.specs.{SurveyGlance.label_in, SurveyGlance.head_by}
use Rattle.tape_run.specs.{SurveyFiles.form_in, SurveyFiles.trailer_by}
use Rattle.tape_run.specs.SurveyCopies.{Copy, blocks_with, good_told}
use Rattle.tape_run.specs.{WholeSet.key_in, CopySurveys.TrailerNames}

abbrev pub bytes_of : List Filled → List (List ℕ)
bytes_of bs = map (λ b. b.bytes) bs

-- ---- facts about labels and copies

-- the label names a section of the set, and has the identifiers of its HDR1
pub record IsHeadOf (set : FileSet) (head : Head1) : Type 0 where
  pub section : Section
  pub found : section_of set head.sequence head.sect ≡ Some section
  pub own : Head1
  pub hdr1 : IsHead1 section.hdr1 own
  pub of_set : head.set_id ≡ set.set_id
  pub file_id : head.file_id ≡ own.file_id
  pub generation : head.generation ≡ own.generation
  pub created : head.created ≡ own.created

abbrev pub IsFineLabel : FileSet → Option Head1 → Type 0
IsFineLabel set None = ⊤
IsFineLabel set (Some head) = IsHeadOf set head

-- the second label is that of a section of the set
abbrev pub IsFormOf : FileSet → SectionKey → Head2 → Type 0
IsFormOf set key form = (s : Section) × (section_of set key.file key.sect ≡ Some s)
    × IsHead2 s.hdr2 kinds.Hdr2 form

abbrev pub IsFineForm : FileSet → Option FormNote → Type 0
IsFineForm set (Some (Stated key form blocking)) = IsFormOf set key form
IsFineForm set _ = ⊤

-- the good copy has exactly the blocks of a section of the set, and ends as it does
abbrev pub IsExactCopy : FileSet → Copy → Type 0
IsExactCopy set y = (s : Section) × (section_of set y.0.0.file y.0.0.sect ≡ Some s)
    × (y.0.1.blocks ≡ length s.blocks) × (y.1 ≡ bytes_of s.blocks) × (y.0.1.eof ≡ ends_file s)

-- ---- what comes next

-- the item was read for this entry
abbrev pub IsRead : Entry → TapeItem → Type 0
IsRead e x = (x ≡ item_of e) ⊎ ((is_data e ≡ true) × (x ≡ bad))

abbrev pub to_come : List Placed → List Entry
to_come later = all_entries later ++ a_mark ∷ []

abbrev pub from_trailer : Placed → List Placed → List Entry
from_trailer x later = a_label x.section.trailer ∷ (map a_label x.section.trailers
    ++ (a_mark ∷ to_come later))

abbrev pub from_data : List Filled → Placed → List Placed → List Entry
from_data ds x later = data_group ds ++ (a_mark ∷ from_trailer x later)

abbrev pub from_headers : List (List ℕ) → Placed → List Placed → List Entry
from_headers hs x later = map a_label hs ++ (a_mark ∷ from_data x.section.blocks x later)

regroup : (x y z m : Entry) (A B C E : List Entry)
    → (((x ∷ (y ∷ (A ++ (m ∷ [])))) ++ B) ++ (m ∷ (z ∷ (C ++ (m ∷ []))))) ++ E
    ≡ x ∷ (y ∷ (A ++ (m ∷ (B ++ (m ∷ (z ∷ (C ++ (m ∷ E))))))))
regroup x y z m A B C E = simp append_assoc

pub section_comes : (x : Placed) (later : List Placed) → to_come (x ∷ later)
    ≡ a_label x.section.hdr1 ∷ (a_label x.section.hdr2 ∷ from_headers x.section.headers x later)
section_comes x later =
    append_assoc (section_entries x.section) (all_entries later) (a_mark ∷ [])
    ∙ regroup (a_label x.section.hdr1) (a_label x.section.hdr2) (a_label x.section.trailer) a_mark
    (map a_label x.section.headers) (data_group x.section.blocks) (map a_label x.section.trailers)
    (to_come later)

-- a section of the set is being read, and these follow it on the volume
pub record Inside (set : FileSet) (k : ℕ) (met : Met) (x : Placed) (later : List Placed) : Type 0
  where
    pub is : IsOn set k x
    pub named : TrailerNames x
    pub all : AllByRecursion (λ y. IsOn set k y × TrailerNames y) later
    pub key : met.key ≡ key_in set x

module _ (set : FileSet) (k : ℕ) where
  abbrev pub AreOn : List Placed → Type 0
  AreOn xs = AllByRecursion (λ y. IsOn set k y × TrailerNames y) xs

  -- These entries come next, and these blocks of the section were read.
  abbrev pub Coming : Phase → List Entry → List (List ℕ) → Type 0
  Coming phases.Volume es bs = (v : Volume) × (later : List Placed) × IsVolume v × AreOn later
      × (es ≡ a_label v.vol1 ∷ (map a_label v.labels ++ to_come later))
  Coming (phases.Labels u) es bs = (ls : List (List ℕ)) × (later : List Placed)
      × AllByRecursion IsVolumeLabel ls × AreOn later × (es ≡ map a_label ls ++ to_come later)
  Coming (phases.Second met) es bs = (x : Placed) × (later : List Placed)
      × Inside set k met x later × (met.blocks ≡ 0)
      × (es ≡ a_label x.section.hdr2 ∷ from_headers x.section.headers x later)
  Coming (phases.Headers met) es bs = (x : Placed) × (later : List Placed) × (hs : List (List ℕ))
      × Inside set k met x later × (met.blocks ≡ 0) × (es ≡ from_headers hs x later)
  Coming (phases.Data met) es bs = (x : Placed) × (later : List Placed) × (ds : List Filled)
      × Inside set k met x later × (met.blocks + length ds ≡ length x.section.blocks)
      × (met.bad ≡ false → bs ++ bytes_of ds ≡ bytes_of x.section.blocks)
      × (es ≡ from_data ds x later)
  Coming (phases.Trailer met) es bs = (x : Placed) × (later : List Placed)
      × Inside set k met x later × (met.blocks ≡ length x.section.blocks)
      × (met.bad ≡ false → bs ≡ bytes_of x.section.blocks) × (es ≡ from_trailer x later)
  Coming (phases.Trailers u) es bs = (ts : List (List ℕ)) × (later : List Placed) × AreOn later
      × (es ≡ map a_label ts ++ (a_mark ∷ to_come later))
  Coming (phases.Next u) es bs = ((later : List Placed) × AreOn later × (es ≡ to_come later))
      ⊎ (es ≡ [])
  Coming phases.Over es bs = es ≡ []

  -- One more item was read, and these entries are left.
  pub record Stepped (p : Phase) (x : TapeItem) (rest : List Entry) (bs : List (List ℕ)) : Type 0
    where
      pub coming : Coming (step p x).0 rest (blocks_with bs p x)
      pub label : IsFineLabel set (label_in p x)
      pub form : IsFineForm set (form_in p x)
      pub copy : AllByRecursion (IsExactCopy set) (good_told (step p x).1 bs)

  -- the same, if no section ends there
  pub stepped : (p : Phase) (x : TapeItem) (rest : List Entry) (bs : List (List ℕ)) (q : Phase)
      → step p x ≡ (q, None) → Coming q rest (blocks_with bs p x) → IsFineLabel set (label_in p x)
      → IsFineForm set (form_in p x) → Stepped p x rest bs
  stepped p x rest bs q is coming label form = record {
    coming = subst (λ (s : Phase × Option Told). Coming s.0 rest (blocks_with bs p x)) (sym is)
        coming;
    label = label;
    form = form;
    copy = subst (λ (s : Phase × Option Told). AllByRecursion (IsExactCopy set)
        (good_told s.1 bs)) (sym is) tt;
  }

-- ---- the first of the entries that come

pub first : {e a : Entry} {rest more : List Entry} → e ∷ rest ≡ a ∷ more → e ≡ a
first h = cc h

pub others : {e a : Entry} {rest more : List Entry} → e ∷ rest ≡ a ∷ more → rest ≡ more
others h = cc h

pub label_read : (e : Entry) (x : TapeItem) (b : List ℕ) → e ≡ a_label b → IsRead e x → x ≡ block b
label_read e x b is (inl h) = h ∙ ap item_of is
label_read e x b is (inr h) = absurd (let z = sym (ap is_data is) ∙ h.0 in cc z)

pub mark_read : (e : Entry) (x : TapeItem) → e ≡ a_mark → IsRead e x → x ≡ mark
mark_read e x is (inl h) = h ∙ ap item_of is
mark_read e x is (inr h) = absurd (let z = sym (ap is_data is) ∙ h.0 in cc z)

-- ---- labels that are not header or trailer labels

pub no_head : (b : List ℕ) (r : Result Head1 LabelFault) → head1_at b ≡ r
    → (HasKind b kinds.Hdr1 → ⊥) → head_by r ≡ None
no_head b (Ok h) e off = absurd (off (head1_found b h e).kind)
no_head b (Err f) e off = refl

pub no_trail : (b : List ℕ) (r : Result Trail1 LabelFault) → trail1_at b ≡ r
    → ((eof : Bool) → HasKind b (trailer eof) → ⊥) → stray_by r ≡ None
no_trail b (Ok t) e off = absurd (off t.eof (trail1_found b t e).kind)
no_trail b (Err f) e off = refl

pub apart : (b : List ℕ) (x y : Kind) → HasKind b x → x ≢ y → HasKind b y → ⊥
apart b x y has off other = off (HasKind-unique b x y has other)

-- volume labels are neither
pub not_labels : (b : List ℕ) (kind : Kind) → IsVolumeLabel b → kind ≢ kinds.Vol1 → HasKind b kind → ⊥
not_labels b kind is off has =
    let z = sym (volume_label_again b (is.size, is.named)) ∙ no_volume_label b kind has off in cc z

pub trailer_apart : (b : List ℕ) (kind : Kind) → HasKind b kind → kind ≢ kinds.Eof1
    → kind ≢ kinds.Eov1 → (eof : Bool) → HasKind b (trailer eof) → ⊥
trailer_apart b kind has one two true other = apart b kind kinds.Eof1 has one other
trailer_apart b kind has one two false other = apart b kind kinds.Eov1 has two other

pub trailer_no_volume : (b : List ℕ) → IsVolumeLabel b → (eof : Bool) → HasKind b (trailer eof) → ⊥
trailer_no_volume b is true has = not_labels b kinds.Eof1 is (λ e. cc e) has
trailer_no_volume b is false has = not_labels b kinds.Eov1 is (λ e. cc e) has

pub fine_trailer : (set : FileSet) (kind : Option Kind) → IsFineForm set (trailer_by kind)
fine_trailer set (Some kinds.Eof2) = tt
fine_trailer set (Some kinds.Eov2) = tt
fine_trailer set _ = tt
