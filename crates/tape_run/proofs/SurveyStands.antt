-- The structure of the items of an image, by the extent to which they are in the order of a volume.
use Rattle.std.proofs.Common.{◌≡◌, ℕ, Bool, true, false, List, [], ◌∷◌, ◌++◌, Option, Some, None}
use Rattle.std.proofs.Common.{Result, Ok, Err, refl, sym, ap, ◌∙◌, append_assoc, append-nil, ◌≢◌}
use Rattle.std.proofs.Common.{map, if◌then◌else◌, flat_map}
use Rattle.std.proofs.lemmas.Grind.{flat_map-append}
use Rattle.std.specs.{Prelude.⊤, List.AllByRecursion}
use Rattle.tape_image.specs.Tape.{TapeItem, block, mark}
use Rattle.tape_label.specs.{declared.values.Kind.Kind, declared.values.Vol1.Vol1, Head1.IsHead1}
use Rattle.tape_label.specs.{declared.values.Head1.Head1, declared.label.LabelFault.LabelFault}
use Rattle.tape_label.specs.{Kinds.kind_at, Reading.vol1_at, Reading.head1_at}
use Rattle.tape_label.specs.WideHead2.{is_further_header}
use Rattle.std.proofs.Common.{inl, inr}
use Rattle.tape_run.specs.WidePassing.{second_if}
use Rattle.tape_run.specs.WideShown.{IsSecond, AreHeaders}
use Rattle.tape_label.specs.VolumeLabels.{is_volume_label}
use Rattle.tape_label.specs.declared.values.Kind.TheVariants as kinds
use Rattle.tape_label.proofs.{First.vol1_found, First.head1_found, Apart.kind_found}
use Rattle.tape_run.specs.declared.passing.Phase.TheVariants.{Volume, Labels, Second, Headers, Data}
use Rattle.tape_run.specs.declared.survey.course.LabelOrder.TheVariants.{Follows, Blank, Ended}
use Rattle.tape_run.specs.{declared.met.Met.Met, declared.passing.Phase.Phase, SurveyGlance.left_by}
use Rattle.tape_run.specs.declared.survey.course.LabelOrder.{LabelOrder}
use Rattle.tape_run.specs.declared.passing.Phase.TheVariants.{Trailer, Trailers, Next, Over}
use Rattle.tape_run.specs.declared.survey.course.LabelOrder.TheVariants.{Leaves}
use Rattle.tape_run.specs.Passing.{volume_with, header_with, second_with}
use Rattle.tape_run.specs.SurveyLaws.{IsSectionInOrder, IsBegun, IsVolumeInOrder, end_marks}
use Rattle.tape_run.proofs.SectionsMet.{map_push}

-- ---- the state before each item

-- a section's first label after the sections so far
pub record Head (items : List TapeItem) (met : Met) (behind : List ℕ → List TapeItem) : Type 0 where
  pub before : List TapeItem
  pub sections : List (List TapeItem)
  pub begun : IsBegun before sections
  pub hdr1 : List ℕ
  pub head : Head1
  pub is_head : IsHead1 hdr1 head
  pub sect : met.key.sect ≡ head.sect
  pub file : met.key.file ≡ head.sequence
  pub stands : items ≡ before ++ behind hdr1

-- its labels
pub record Heads (items : List TapeItem) (met : Met) (behind : List TapeItem) : Type 0 where
  pub before : List TapeItem
  pub sections : List (List TapeItem)
  pub begun : IsBegun before sections
  pub hdr1 : List ℕ
  pub head : Head1
  pub is_head : IsHead1 hdr1 head
  pub sect : met.key.sect ≡ head.sect
  pub file : met.key.file ≡ head.sequence
  pub headers : List (List ℕ)
  pub second : AreHeaders headers
  pub stands : items ≡ before ++ block hdr1 ∷ map block headers ++ behind

-- its labels, of which at least one follows HDR1
pub record Seconded (items : List TapeItem) (met : Met) : Type 0 where
  pub heads : Heads items met []
  pub hdr2 : List ℕ
  pub more : List (List ℕ)
  pub are : heads.headers ≡ hdr2 ∷ more

-- its labels and its blocks
pub record Fills (items : List TapeItem) (met : Met) (behind : List TapeItem) : Type 0 where
  pub content : List TapeItem
  pub no_mark : AllByRecursion (λ x. x ≢ mark) content
  pub heads : Heads items met (mark ∷ content ++ behind)

-- a section without its last mark after the sections so far
pub record Closes (items : List TapeItem) : Type 0 where
  pub before : List TapeItem
  pub sections : List (List TapeItem)
  pub begun : IsBegun before sections
  pub part : List TapeItem
  pub more : List (List ℕ)
  pub whole : (trailers : List (List ℕ))
      → IsSectionInOrder (part ++ map block trailers ++ mark ∷ [])
  pub stands : items ≡ before ++ part ++ map block more

-- at least one section has begun
pub record Follow (items : List TapeItem) : Type 0 where
  pub sections : List (List TapeItem)
  pub last : List TapeItem
  pub begun : IsBegun items (sections ++ last ∷ [])

-- a mark after volume labels only
pub record Marked (items : List TapeItem) : Type 0 where
  pub before : List TapeItem
  pub begun : IsBegun before []
  pub stands : items ≡ before ++ mark ∷ []

-- the structure of the items in a phase, for a label order
abbrev pub At : Phase → LabelOrder → List TapeItem → Type 0
At p (Leaves n w) items = ⊤
At p Blank items = Marked items
At p Ended items = IsVolumeInOrder items
At Volume Follows items = items ≡ []
At (Labels v) Follows items = IsBegun items []
At (Second met) Follows items = Head items met (λ b. block b ∷ [])
At (Headers met) Follows items = Seconded items met
At (Data met) Follows items = Fills items met []
At (Trailer met) Follows items = Fills items met (mark ∷ [])
At (Trailers v) Follows items = Closes items
At (Next v) Follows items = Follow items
At Over Follows items = ⊥

-- ---- lists

pub all_more : {A : Type 0} (P : A → Type 0) (xs : List A) (x : A) → AllByRecursion P xs → P x
    → AllByRecursion P (xs ++ x ∷ [])
all_more P [] x a p = (p, tt)
all_more P (y ∷ ys) x (q, a) p = (q, all_more P ys x a p)

pub joined_push : (ss : List (List TapeItem)) (s : List TapeItem)
    → flat_map (λ x. x) (ss ++ s ∷ []) ≡ flat_map (λ x. x) ss ++ s
joined_push ss s = flat_map-append (λ x. x) ss (s ∷ [])
    ∙ ap (λ (r : List TapeItem). flat_map (λ x. x) ss ++ r) (append-nil s)

-- one mark ends a volume that has a section
pub one_mark : (ss : List (List TapeItem)) (s : List TapeItem)
    → end_marks (ss ++ s ∷ []) ≡ mark ∷ []
one_mark [] s = refl
one_mark (x ∷ ss) s = refl

-- ---- one item more

pub begun_label : (items : List TapeItem) (b : List ℕ) → is_volume_label b ≡ true → IsBegun items []
    → IsBegun (items ++ block b ∷ []) []
begun_label items b is h = record {
  vol1 = h.vol1;
  label = h.label;
  labels = h.labels ++ b ∷ [];
  stands = ap (λ (r : List TapeItem). r ++ block b ∷ []) (h.stands ∙ ap (λ (r : List TapeItem).
      block h.vol1 ∷ r) (append-nil (map block h.labels)))
      ∙ ap (λ (r : List TapeItem). block h.vol1 ∷ r) (map_push h.labels b
      ∙ sym (append-nil (map block (h.labels ++ b ∷ []))));
  is_label = h.is_label;
  further = all_more (λ l. is_volume_label l ≡ true) h.labels b h.further is;
  each = tt;
}

pub first_label : (b : List ℕ) (number : ℕ) (r : Result Vol1 LabelFault) → vol1_at b ≡ r
    → At (volume_with r) (left_by number Volume (volume_with r)) (block b ∷ [])
first_label b number (Ok label) e = record {
  vol1 = b;
  label = label;
  labels = [];
  stands = refl;
  is_label = vol1_found b label e;
  further = tt;
  each = tt;
}
first_label b number (Err f) e = tt

pub head_read : (items : List TapeItem) (sections : List (List TapeItem)) (p : Phase) (number : ℕ)
    (v b : List ℕ) (r : Result Head1 LabelFault) → head1_at b ≡ r → IsBegun items sections
    → At (header_with v r) (left_by number p (header_with v r)) (items ++ block b ∷ [])
head_read items sections p number v b (Ok head) e begun = record {
  before = items;
  sections = sections;
  begun = begun;
  hdr1 = b;
  head = head;
  is_head = head1_found b head e;
  sect = refl;
  file = refl;
  stands = refl;
}
head_read items sections p number v b (Err f) e begun = tt

pub label_read : (items : List TapeItem) (number : ℕ) (v b : List ℕ) (is : Bool)
    → is_volume_label b ≡ is → IsBegun items []
    → At (if is then Labels v else header_with v (head1_at b))
    (left_by number (Labels v) (if is then Labels v else header_with v (head1_at b)))
    (items ++ block b ∷ [])
label_read items number v b true e begun = begun_label items b e begun
label_read items number v b false e begun =
    head_read items [] (Labels v) number v b (head1_at b) refl begun

label_follows : (items : List TapeItem) (met : Met) (b : List ℕ) → IsSecond b
    → Head items met (λ c. block c ∷ []) → Seconded (items ++ block b ∷ []) met
label_follows items met b is h = record {
  heads = record {
    before = h.before;
    sections = h.sections;
    begun = h.begun;
    hdr1 = h.hdr1;
    head = h.head;
    is_head = h.is_head;
    sect = h.sect;
    file = h.file;
    headers = b ∷ [];
    second = is;
    stands = ap (λ (r : List TapeItem). r ++ block b ∷ []) h.stands
        ∙ append_assoc h.before (block h.hdr1 ∷ []) (block b ∷ [])
        ∙ sym (append-nil (h.before ++ block h.hdr1 ∷ block b ∷ []));
  };
  hdr2 = b;
  more = [];
  are = refl;
}

pub second_read : (items : List TapeItem) (met : Met) (number : ℕ) (b : List ℕ) (k : Option Kind)
    → kind_at b ≡ k → Head items met (λ c. block c ∷ [])
    → At (second_with met k) (left_by number (Second met) (second_with met k))
    (items ++ block b ∷ [])
second_read items met number b None e h = tt
second_read items met number b (Some kinds.Hdr2) e h =
    label_follows items met b (inl (kind_found b kinds.Hdr2 e)) h
second_read items met number b _ e h = tt

-- or a further label
pub further_read : (items : List TapeItem) (met : Met) (number : ℕ) (b : List ℕ) (is : Bool)
    → is_further_header b ≡ is → Head items met (λ c. block c ∷ [])
    → At (second_if met b is).0 (left_by number (Second met) (second_if met b is).0)
    (items ++ block b ∷ [])
further_read items met number b true e h = label_follows items met b (inr e) h
further_read items met number b false e h =
    second_read items met number b (kind_at b) refl h

-- or a mark
pub mark_read : (items : List TapeItem) (met : Met) → Head items met (λ c. block c ∷ [])
    → Fills (items ++ mark ∷ []) met []
mark_read items met h = record {
  content = [];
  no_mark = tt;
  heads = record {
    before = h.before;
    sections = h.sections;
    begun = h.begun;
    hdr1 = h.hdr1;
    head = h.head;
    is_head = h.is_head;
    sect = h.sect;
    file = h.file;
    headers = [];
    second = tt;
    stands = ap (λ (r : List TapeItem). r ++ mark ∷ []) h.stands;
  };
}
