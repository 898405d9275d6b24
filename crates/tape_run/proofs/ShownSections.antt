-- The meaning of the items so far, according to what is expected next.
use Rattle.std.proofs.Common.{◌≡◌, ℕ, Bool, true, false, List, [], ◌∷◌, ◌++◌, Option, Some, None}
use Rattle.std.proofs.Common.{Result, Ok, Err, refl, sym, subst, append_assoc, ◌||◌, if◌then◌else◌}
use Rattle.std.specs.List.{AllByRecursion}
use Rattle.tape_image.specs.Tape.{TapeItem, block, bad, mark}
use Rattle.tape_label.specs.{declared.label.LabelFault.LabelFault, declared.values.Trail1.Trail1}
use Rattle.tape_label.specs.{Kinds.kind_at, VolumeLabels.is_volume_label}
use Rattle.tape_label.specs.Reading.{vol1_at, head1_at, trail1_at}
use Rattle.tape_run.specs.declared.passing.Phase.TheVariants.{Volume, Labels, Second, Headers, Data}
use Rattle.tape_run.specs.Passing.{Told, cut, closes, told, told_with, volume_with, step, in_list}
use Rattle.tape_run.specs.{declared.section.SectionState.TheVariants.Good, declared.met.Met.Met}
use Rattle.tape_run.specs.{declared.passing.Phase.Phase, Shown.Shown, Shown.GoodAreShown}
use Rattle.tape_run.specs.declared.passing.Phase.TheVariants.{Trailer, Trailers, Next, Over}
use Rattle.tape_run.specs.Passing.{phase_after, told_from, under_way}
use Rattle.tape_run.proofs.SectionsMet.{Filled, Stood, ShownIfGood, begins_more, shown_more, headed}
use Rattle.tape_run.proofs.SectionsMet.{begun, labels_or, seconded, labelled_more, filled_first}
use Rattle.tape_run.proofs.SectionsMet.{filled_more, filled_closed, shown}

abbrev pub told_if : Met → Trail1 → Bool → Phase × Option Told
told_if met trail c =
    if c then (Trailers met.volume, Some (told met trail)) else (Over, Some (cut met))

-- both
abbrev StoodBoth : List TapeItem → Phase × Option Told → Type 0
StoodBoth items after = Stood after.0 items × ShownIfGood items after.1

trailed : (items : List TapeItem) (met : Met) (b : List ℕ) (trail : Trail1) (c : Bool)
    → closes met trail ≡ c → trail1_at b ≡ Ok trail → Filled items met (mark ∷ [])
    → StoodBoth (items ++ block b ∷ []) (told_if met trail c)
trailed items met b trail true c e h = (
  begins_more items met.volume (block b ∷ []) h.volume,
  λ good. shown items met b trail e c h good,
)
trailed items met b trail false c e h = (tt, λ good. absurd (cc good))

told_stands : (items : List TapeItem) (met : Met) (b : List ℕ) (r : Result Trail1 LabelFault)
    → trail1_at b ≡ r → Filled items met (mark ∷ [])
    → Stood (told_with met r).0 (items ++ block b ∷ [])
    × ShownIfGood (items ++ block b ∷ []) (told_with met r).1
told_stands items met b (Ok trail) e h = trailed items met b trail (closes met trail) refl e h
told_stands items met b (Err _) e h = (tt, λ good. absurd (cc good))

-- one item more
pub stands_on : (p : Phase) (items : List TapeItem) (x : TapeItem) → Stood p items
    → Stood (step p x).0 (items ++ x ∷ []) × ShownIfGood (items ++ x ∷ []) (step p x).1
stands_on Volume items (block b) h = (
  subst (λ (r : List TapeItem). Stood (volume_with (vol1_at b)) (r ++ block b ∷ [])) (sym h)
      (begun b (vol1_at b) refl),
  tt,
)
stands_on (Labels v) items (block b) h = (labels_or items v b (is_volume_label b) h, tt)
stands_on (Second met) items (block b) h = (seconded items met b (kind_at b) refl h, tt)
stands_on (Headers met) items (block b) h = (labelled_more items met b h, tt)
stands_on (Headers met) items mark h = (filled_first items met h, tt)
stands_on (Data met) items (block b) h =
    (filled_more items met (block b) false (λ _. (b, refl)) h, tt)
stands_on (Data met) items bad h =
    (filled_more items met bad true (λ e. absurd (or_true met.bad e)) h, tt)
  where
    or_true : (p : Bool) → (p || true) ≡ false → ⊥
    or_true true e = cc e
    or_true false e = cc e
stands_on (Data met) items mark h = (filled_closed items met h, tt)
stands_on (Trailer met) items (block b) h = told_stands items met b (trail1_at b) refl h
stands_on (Trailer met) items bad h = (tt, λ good. absurd (cc good))
stands_on (Trailer met) items mark h = (tt, λ good. absurd (cc good))
stands_on (Trailers v) items (block b) h = (begins_more items v (block b ∷ []) h, tt)
stands_on (Trailers v) items mark h = (begins_more items v (mark ∷ []) h, tt)
stands_on (Next v) items (block b) h = (headed items v b (head1_at b) refl h, tt)
stands_on _ items x h = (tt, tt)

-- ---- over all items

-- each section that is reported as good is shown by these items
abbrev AllShown : List TapeItem → List Told → Type 0
AllShown items ts = AllByRecursion (λ t. t.1.state ≡ Good → Shown items t.0 t.1) ts

later_all : (items more : List TapeItem) (ts : List Told) → AllShown items ts
    → AllShown (items ++ more) ts
later_all items more [] h = tt
later_all items more (t ∷ ts) (h, hs) =
    ((λ good. shown_more items t.0 t.1 more (h good)), later_all items more ts hs)

one_shown : (items : List TapeItem) (t : Option Told) → ShownIfGood items t
    → AllShown items (in_list t)
one_shown items None h = tt
one_shown items (Some t) h = (h, tt)

both_shown : (items : List TapeItem) (ts us : List Told) → AllShown items ts → AllShown items us
    → AllShown items (ts ++ us)
both_shown items [] us a b = b
both_shown items (t ∷ ts) us (a, as_) b = (a, both_shown items ts us as_ b)

-- the sections that later items report as good are shown by all the items
told_shown : (p : Phase) (past items : List TapeItem) → Stood p past
    → AllShown (past ++ items) (told_from p items)
told_shown p past [] h = tt
told_shown p past (x ∷ items) h =
    let (on, first) = stands_on _ _ x h in
    let whole : (past ++ x ∷ []) ++ items ≡ past ++ x ∷ items = append_assoc past (x ∷ []) items in
    both_shown (past ++ x ∷ items) (in_list (step p x).1) (told_from (step p x).0 items) (subst
    (λ (r : List TapeItem). AllShown r (in_list (step p x).1)) whole (later_all _ items _
    (one_shown (past ++ x ∷ []) (step p x).1 first))) (subst (λ (r : List TapeItem). AllShown r
    (told_from (step p x).0 items)) whole (told_shown (step p x).0 (past ++ x ∷ []) items on))

left_shown : (p : Phase) (items : List TapeItem) → AllShown items (in_list (under_way p))
left_shown (Data met) items = (λ good. absurd (cc good), tt)
left_shown (Trailer met) items = (λ good. absurd (cc good), tt)
left_shown _ items = tt

pub good_are_shown : GoodAreShown
good_are_shown items =
    both_shown _ _ _ (told_shown Volume [] items refl) (left_shown (phase_after Volume items) items)
