-- A section that is found without its HDR1 has exactly the items between two tape marks.
use Rattle.std.proofs.Common.{◌≡◌, inl, inr, ◌⊎◌, ℕ, ◌+◌, ◌==◌, Bool, true, false, List, [], ◌∷◌}
use Rattle.std.proofs.Common.{Option, Some, None, Result, Ok, Err, refl, sym, ap, ◌∙◌, arith}
use Rattle.std.proofs.Common.{if◌then◌else◌, nat_lt, min, option_map}
use Rattle.std.specs.List.{AllByRecursion}
use Rattle.std.proofs.lemmas.Bool.Decides.{nat_tests}
use Rattle.tape_image.specs.Tape.{TapeItem, block, bad, mark}
use Rattle.tape_label.specs.declared.values.{Kind.Kind, Head1.Head1, Head2.Head2, Trail1.Trail1}
use Rattle.tape_label.specs.declared.label.LabelFault.{LabelFault}
use Rattle.tape_label.specs.declared.values.Kind.TheVariants as kinds
use Rattle.tape_label.specs.Reading.{head1_at, wide_head2_at, trail1_at}
use Rattle.tape_label.specs.{Kinds.kind_at, WideHead2.is_further_header}
use Rattle.tape_set.specs.Lawful.{label_count}
use Rattle.tape_run.specs.declared.salvage.walk.{OpenSection.OpenSection, Closing.Closing}
use Rattle.tape_run.specs.declared.salvage.walk.{UnnamedItems.UnnamedItems, Expected.Expected}
use Rattle.tape_run.specs.declared.salvage.walk.Expected.TheVariants.{Outside, Second, Headers}
use Rattle.tape_run.specs.declared.salvage.walk.Expected.TheVariants.{Data, Trailer, Trailers, Next}
use Rattle.tape_run.specs.declared.salvage.walk.Expected.TheVariants.{Over, Skipping, Unnamed}
use Rattle.tape_run.specs.declared.salvage.walk.Expected.TheVariants.{UnnamedTrailer}
use Rattle.tape_run.specs.SalvageWalk.{with_second}
use Rattle.tape_run.specs.SalvageWalk.{step, begun_by, closed_by, unnamed_by, goes_on_by, one_read}
use Rattle.tape_run.specs.SalvageWalk.{one_unreadable, second_by, closes, named_by, unclosed_by}
use Rattle.tape_run.specs.SalvageWalk.{FoundAt, and_read, followed_by}
use Rattle.tape_run.specs.SalvageSections.{IsNoHead}
use Rattle.tape_run.specs.SalvageUnnamed.{IsUnnamedIn, IsThereUnnamed, UnnamedAreThere}
use Rattle.tape_run.proofs.SalvageLater.{PAt, all_found, either}
use Rattle.tape_run.proofs.SalvageUnnamedComing.{NoHdr1, DataTo, AfterMark, AfterOne, Open, Comes}
use Rattle.tape_run.proofs.SalvageUnnamedComing.{further, at_mark, with_item, at_trailer}
use Rattle.tape_run.specs.SalvageWalk.{closing_of}

only : (x : TapeItem) (t : Expected) (xs : List TapeItem) (v : OpenSection) (k : Closing)
    → (Open t xs v k → ⊥) → IsUnnamedIn xs v k ⊎ Open t xs v k → IsUnnamedIn (x ∷ xs) v k
only x t xs v k none (inl h) = further x xs v k h
only x t xs v k none (inr o) = absurd (none o)

-- after a block that may begin a section: if it does not, this is what is expected
begun : {Q : Type 0} (b : List ℕ) (r : Result Head1 LabelFault) (other : Expected)
    (xs : List TapeItem) (v : OpenSection) (k : Closing) → head1_at b ≡ r
    → (IsNoHead b → Open other xs v k → Q)
    → IsUnnamedIn xs v k ⊎ Open (begun_by r other) xs v k
    → IsUnnamedIn (block b ∷ xs) v k ⊎ Q
begun b r other xs v k is next (inl h) = inl (further (block b) xs v k h)
begun b (Ok h) other xs v k is next (inr o) = absurd (o refl)
begun b (Err f) other xs v k is next (inr o) = inr (next (f, is) o)

first_block : (b : List ℕ) (xs : List TapeItem) (v : OpenSection) (k : Closing) → IsNoHead b
    → DataTo 1 xs v k → AfterMark (block b ∷ xs) v k
first_block b xs v k none d =
    record { first = block b; more = xs; is = refl; off = tt; none = none; goes = d }

none_goes_on : (o : Option Kind) (xs : List TapeItem) (v : OpenSection) (k : Closing)
    → Open (goes_on_by o) xs v k → ⊥
none_goes_on None xs v k o = o
none_goes_on (Some kinds.Vol1) xs v k o = o
none_goes_on _ xs v k o = o

outside : (a c : Bool) (b : List ℕ) (xs : List TapeItem) (v : OpenSection) (k : Closing)
    → IsUnnamedIn xs v k ⊎ Open (if a then begun_by (head1_at b) (if c then Unnamed one_read
    else Outside 0) else goes_on_by (kind_at b)) xs v k
    → IsUnnamedIn (block b ∷ xs) v k ⊎ AfterOne c (block b ∷ xs) v k
outside true true b xs v k h = begun b (head1_at b) (Unnamed one_read) xs v k refl
    (λ none d. first_block b xs v k none d) h
outside true false b xs v k h = begun b (head1_at b) (Outside 0) xs v k refl (λ none o. o) h
outside false c b xs v k h =
    inl (only (block b) (goes_on_by (kind_at b)) xs v k (none_goes_on (kind_at b) xs v k) h)

outside_bad : (n : ℕ) (a c : Bool) (xs : List TapeItem) (v : OpenSection) (k : Closing)
    → nat_lt n 2 ≡ a → (n == 1) ≡ c
    → IsUnnamedIn xs v k ⊎ Open (if a then (if c then Unnamed one_unreadable else Outside 0)
    else Outside n) xs v k → IsUnnamedIn (bad ∷ xs) v k ⊎ AfterOne c (bad ∷ xs) v k
outside_bad n a c xs v k e f (inl h) = inl (further bad xs v k h)
outside_bad n true true xs v k e f (inr d) =
    inr (record { first = bad; more = xs; is = refl; off = tt; none = tt; goes = d })
outside_bad n true false xs v k e f (inr o) = absurd o
outside_bad n false true xs v k e f (inr o) = absurd (apart n e f)
  where
    apart : (n : ℕ) → nat_lt n 2 ≡ false → (n == 1) ≡ true → ⊥
    apart n e f = grind (arith, nat_tests)
outside_bad n false false xs v k e f (inr o) =
    absurd (none (n == 1) f o)
  where
    none : (b : Bool) → b ≡ false → AfterOne b xs v k → ⊥
    none true e o = absurd (cc e)
    none false e o = o

outside_mark : (a c : Bool) (xs : List TapeItem) (v : OpenSection) (k : Closing)
    → IsUnnamedIn xs v k ⊎ Open (if a then Outside 1 else (if c then Outside 2 else Over)) xs v k
    → IsUnnamedIn (mark ∷ xs) v k
outside_mark a c xs v k (inl h) = further mark xs v k h
outside_mark true c xs v k (inr o) = at_mark xs v k o
outside_mark false true xs v k (inr o) = absurd o
outside_mark false false xs v k (inr o) = absurd o

second : (u : OpenSection) (o : Option Kind) (r : Result Head2 LabelFault) (xs : List TapeItem)
    (v : OpenSection) (k : Closing) → Open (second_by u o r) xs v k → NoHdr1 u.after
second u None r xs v k h = h
second u (Some kinds.Hdr2) r xs v k h = h
second u _ r xs v k h = h

trailer_item : (u w : OpenSection) (b : List ℕ) (r : Result Trail1 LabelFault)
    (xs : List TapeItem) (v : OpenSection) (k : Closing)
    → IsUnnamedIn xs v k ⊎ Open (closed_by u w r (head1_at b)).0 xs v k
    → IsUnnamedIn (block b ∷ xs) v k ⊎ NoHdr1 u.after
trailer_item u w b (Err f) xs v k h = begun b _ _ _ _ _ refl (λ none o. absurd o) h
trailer_item u w b (Ok t) xs v k h = chosen (closes u t) h
  where
    chosen : (c : Bool) → IsUnnamedIn xs v k ⊎ Open (if c
        then (Trailers u (closing_of u t), None)
        else unclosed_by w (head1_at b)).0 xs v k
        → IsUnnamedIn (block b ∷ xs) v k ⊎ NoHdr1 u.after
    chosen false h = begun b (head1_at b) (Outside 0) xs v k refl (λ none o. absurd o) h
    chosen true (inl h) = inl (further (block b) xs v k h)
    chosen true (inr o) = inr o.after

unnamed_item : (r : UnnamedItems) (b : List ℕ) (l : Result Trail1 LabelFault)
    (xs : List TapeItem) (v : OpenSection) (k : Closing) → trail1_at b ≡ l
    → IsUnnamedIn xs v k ⊎ Open (unnamed_by r l (head1_at b)) xs v k
    → IsUnnamedIn (block b ∷ xs) v k ⊎ Open (UnnamedTrailer r) (block b ∷ xs) v k
unnamed_item r b (Err f) xs v k is h = begun b (head1_at b) (Unnamed one_read) xs v k refl
    (λ none d. inr (first_block b xs v k none d)) h
unnamed_item r b (Ok t) xs v k is h = chosen (t.blocks == label_count r.items) refl h
  where
    chosen : (c : Bool) → (t.blocks == label_count r.items) ≡ c
        → IsUnnamedIn xs v k ⊎ Open (if c
        then Trailers (named_by r t) (closing_of (named_by r t) t)
        else begun_by (head1_at b) (Unnamed one_read)) xs v k
        → IsUnnamedIn (block b ∷ xs) v k ⊎ Open (UnnamedTrailer r) (block b ∷ xs) v k
    chosen false e h = begun b (head1_at b) (Unnamed one_read) xs v k refl
        (λ none d. inr (first_block b xs v k none d)) h
    chosen true e (inl h) = inl (further (block b) xs v k h)
    chosen true e (inr o) =
        let same : t.blocks ≡ label_count r.items = grind (arith, nat_tests) in
        inr (inl (record {
          trailer = b;
          trail = t;
          rest = xs;
          is = refl;
          ends = is;
          key = o.key;
          closing =
              (ap (λ (z : Closing). z.eof) o.closing, ap (λ (z : Closing). z.count) o.closing);
          blocks = o.blocks;
          count = same ∙ ap label_count (sym o.blocks);
        }))

back : (s : Expected) (x : TapeItem) (xs : List TapeItem) (v : OpenSection) (k : Closing)
    → Comes (step s x).0 xs v k → Comes s (x ∷ xs) v k
back (Outside n) (block b) xs v k h own = outside (nat_lt n 2) (n == 1) b xs v k (h own)
back (Outside n) bad xs v k h own = outside_bad n (nat_lt n 2) (n == 1) xs v k refl refl (h own)
back (Outside n) mark xs v k h own = inl (outside_mark (n == 0) (n == 1) xs v k (h own))
back (Second u) (block b) xs v k h own =
    either (h own) (further (block b) xs v k)
    (second (with_second (is_further_header b) u) (kind_at b) (wide_head2_at b) xs v k)
back (Second u) bad xs v k h own = either (h own) (further bad xs v k) (λ o. o)
back (Second u) mark xs v k h own = either (h own) (further mark xs v k) (λ o. o)
back (Headers u) (block b) xs v k h own = either (h own) (further (block b) xs v k) (λ o. o)
back (Headers u) bad xs v k h own = either (h own) (further bad xs v k) (λ o. o)
back (Headers u) mark xs v k h own = either (h own) (further mark xs v k) (λ o. o)
back (Data u) (block b) xs v k h own = either (h own) (further (block b) xs v k) (λ o. o)
back (Data u) bad xs v k h own = either (h own) (further bad xs v k) (λ o. o)
back (Data u) mark xs v k h own = either (h own) (further mark xs v k) (λ o. o)
back (Trailer u) (block b) xs v k h own =
    trailer_item u (followed_by b u) b (trail1_at b) xs v k (h own)
back (Trailer u) bad xs v k h own = inl (only bad (Outside 0) xs v k (λ o. o) (h own))
back (Trailer u) mark xs v k h own = elim (h own) [
  | inl c ↦ inl (further mark xs v k c)
  | inr o ↦ inl (at_mark xs v k o)
]
back (Trailers u l) (block b) xs v k h own = either (h own) (further (block b) xs v k)
    (λ o. record {
      key = o.key;
      blocks = o.blocks;
      after = λ e. o.after (ap (option_map (λ n. min (n + 1) 4294967295)) e);
      closing = o.closing;
    })
back (Trailers u l) bad xs v k h own = inl (only bad (Outside 0) xs v k (λ o. o) (h own))
back (Trailers u l) mark xs v k h own = inl (only mark Next xs v k (λ o. o) (h own))
back Next (block b) xs v k h own =
    begun b (head1_at b) (Outside 0) xs v k refl (λ none o. o) (h own)
back Next bad xs v k h own = inl (only bad (Outside 0) xs v k (λ o. o) (h own))
back Next mark xs v k h own = inl (only mark Over xs v k (λ o. o) (h own))
back Over x xs v k h own = inl (only x Over xs v k (λ o. o) (h own))
back (Unnamed r) (block b) xs v k h own = begun b (head1_at b) (Unnamed (and_read r)) xs v k refl
    (λ none d. with_item r.items (block b) xs v k tt none d) (h own)
back (Unnamed r) bad xs v k h own =
    either (h own) (further bad xs v k) (with_item r.items bad xs v k tt tt)
back (Unnamed r) mark xs v k h own = elim (h own) [
  | inl c ↦ inl (further mark xs v k c)
  | inr o ↦ elim o [
    | inl t ↦ inr (at_trailer r.items xs v k t)
    | inr a ↦ inl (at_mark xs v k a)
  ]
]
back (UnnamedTrailer r) (block b) xs v k h own = unnamed_item r b (trail1_at b) xs v k refl (h own)
back (UnnamedTrailer r) bad xs v k h own = elim (h own) [
  | inl c ↦ inl (further bad xs v k c)
  | inr d ↦ inr (inr (record {
    first = bad;
    more = xs;
    is = refl;
    off = tt;
    none = tt;
    goes = d;
  }))
]
back (UnnamedTrailer r) mark xs v k h own = inl (only mark (Outside 2) xs v k (λ o. o) (h own))
back (Skipping n u) x xs v k h own = inr tt

-- ---- all sections

here : (u : OpenSection) (l : Closing) (xs : List TapeItem) → Comes (Trailers u l) xs u l
here u l xs own = inr (record { key = refl; blocks = refl; after = own; closing = refl })

unsure : (u : OpenSection) (l : Closing) (xs : List TapeItem)
    → Comes (Trailers u l) xs (with_second false u) l
unsure u l xs own = inr (record { key = refl; blocks = refl; after = own; closing = refl })

all_there : (xs : List TapeItem) (l : List FoundAt) → AllByRecursion (PAt Comes (Outside 0) xs) l
    → AllByRecursion (IsThereUnnamed xs) l
all_there xs [] all = tt
all_there xs ((place, (v, None)) ∷ l) (h, all) = (tt, all_there xs l all)
all_there xs ((place, (v, Some k)) ∷ l) (h, all) =
    (λ own. elim (h own) [ inl c ↦ c | inr o ↦ absurd o ], all_there xs l all)

pub unnamed_are_there : UnnamedAreThere
unnamed_are_there items =
    all_there _ _ (all_found Comes back here unsure (λ n u xs v k own. inr tt) items)
