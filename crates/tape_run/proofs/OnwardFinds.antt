-- A survey finds the sections that `check` finds, and those past items that break the order of a
-- volume.
use Rattle.std.proofs.Common.{◌≡◌, ℕ, ◌+◌, Bool, true, false, List, [], ◌∷◌, ◌++◌, Option, None}
use Rattle.std.proofs.Common.{Result, Ok, Err, refl, sym, ap, ◌∙◌, append_assoc, append-nil}
use Rattle.tape_image.specs.Tape.{TapeItem, block, bad, mark}
use Rattle.tape_label.specs.{declared.label.LabelFault.LabelFault, declared.values.Trail1.Trail1}
use Rattle.tape_label.specs.{Reading.trail1_at, Kinds.kind_at, WideHead2.is_further_header}
use Rattle.tape_run.specs.declared.passing.Phase.TheVariants.{Volume, Labels, Second, Headers, Data}
use Rattle.tape_run.specs.declared.passing.Phase.TheVariants.{Trailer, Trailers, Next, Over}
use Rattle.tape_run.specs.{declared.met.Met.Met, declared.passing.Phase.Phase}
use Rattle.tape_run.specs.declared.survey.glance.ImageSummary.{ImageSummary}
use Rattle.tape_run.specs.declared.survey.course.LabelOrder.{LabelOrder}
use Rattle.tape_run.specs.declared.survey.course.LabelOrder.TheVariants.{Follows, Blank, Ended}
use Rattle.tape_run.specs.Passing.{Told, in_list, under_way, told_with, closes}
use Rattle.tape_run.specs.WidePassing.{second_if}
use Rattle.tape_run.specs.WidePassing as Wide
use Rattle.tape_run.specs.Onward.{step, phase_after, told_from, goes_on, told_past}
use Rattle.tape_run.specs.SurveyGlance.{blank_glance, look_to, look_all, left_by, course_with}
use Rattle.tape_run.specs.SurveyLaws.{has_left, FindsWhatCheckFinds}
use Rattle.tape_run.proofs.{ShownSections.told_if, SurveyOrder.stays, SurveyOrder.where_left}
use Rattle.tape_run.proofs.WideSoFar.{finds_the_same}
use Rattle.tape_run.proofs.WideSoFar as In

-- the sections found from a phase on, in order only, and past what breaks it
abbrev ordered : Phase → List TapeItem → List Told
ordered p xs = In.told_from p xs ++ in_list (under_way (In.phase_after p xs))

abbrev onward : Phase → List TapeItem → List Told
onward p xs = told_from p xs ++ in_list (under_way (phase_after p xs))

-- after the end nothing is found
ordered_none : (xs : List TapeItem) → ordered Over xs ≡ []
ordered_none [] = refl
ordered_none (x ∷ xs) = ordered_none xs

onward_none : (xs : List TapeItem) → onward Over xs ≡ []
onward_none [] = refl
onward_none (block b ∷ xs) = onward_none xs
onward_none (bad ∷ xs) = onward_none xs
onward_none (mark ∷ xs) = onward_none xs

-- ---- each section that is found in order

none_first : (told : Option Told) (other : List Told) → told ≡ None
    → (m : List Told) × (other ≡ in_list told ++ m)
none_first told other e = (other, ap (λ (t : Option Told). in_list t ++ other) (sym e))

is_none : {q : Phase} {told : Option Told}
    → ◌≡◌ {A = Phase × Option Told} (q, None) (Over, told) → told ≡ None
is_none e = sym (ap (λ (r : Phase × Option Told). r.1) e)

second_none : (met : Met) (b : List ℕ) (is : Bool) → (second_if met b is).1 ≡ None
second_none met b true = refl
second_none met b false = refl

trailer_first : (met : Met) (trail : Trail1) (c : Bool) (told : Option Told)
    → told_if met trail c ≡ (Over, told)
    → (m : List Told) × (in_list (told_past (Trailer met) mark) ≡ in_list told ++ m)
trailer_first met trail true told e =
    absurd (let other : Trailers met.volume ≡ Over = ap (λ (r : Phase × Option Told). r.0) e in
    cc other)
trailer_first met trail false told e =
    ([], ap (λ (r : Phase × Option Told). in_list r.1) e ∙ sym (append-nil (in_list told)))

label_first : (met : Met) (r : Result Trail1 LabelFault) (told : Option Told)
    → told_with met r ≡ (Over, told)
    → (m : List Told) × (in_list (told_past (Trailer met) mark) ≡ in_list told ++ m)
label_first met (Ok trail) told e = trailer_first met trail (closes met trail) told e
label_first met (Err f) told e =
    ([], ap (λ (r : Phase × Option Told). in_list r.1) e ∙ sym (append-nil (in_list told)))

-- a section that is cut off in order is cut off
told_first : (p : Phase) (x : TapeItem) (told : Option Told) → Wide.step p x ≡ (Over, told)
    → (m : List Told) × (in_list (told_past p x) ≡ in_list told ++ m)
told_first (Trailer met) (block b) told e = label_first met (trail1_at b) told e
told_first (Trailer met) bad told e =
    ([], ap (λ (r : Phase × Option Told). in_list r.1) e ∙ sym (append-nil (in_list told)))
told_first (Trailer met) mark told e =
    ([], ap (λ (r : Phase × Option Told). in_list r.1) e ∙ sym (append-nil (in_list told)))
told_first (Second met) (block b) told e =
    none_first told (in_list (told_past (Second met) (block b)))
    (sym (ap (λ (r : Phase × Option Told). r.1) e) ∙ second_none met b (is_further_header b))
told_first (Second met) bad told e = none_first told [] (is_none e)
told_first (Second met) mark told e = none_first told [] (is_none e)
told_first Volume (block b) told e = none_first told [] (is_none e)
told_first Volume bad told e = none_first told [] (is_none e)
told_first Volume mark told e = none_first told [] (is_none e)
told_first (Labels v) (block b) told e =
    none_first told (in_list (told_past (Labels v) (block b))) (is_none e)
told_first (Labels v) bad told e = none_first told [] (is_none e)
told_first (Labels v) mark told e = none_first told [] (is_none e)
told_first (Headers met) (block b) told e =
    none_first told [] (is_none e)
told_first (Headers met) bad told e = none_first told [] (is_none e)
told_first (Headers met) mark told e =
    none_first told [] (is_none e)
told_first (Data met) (block b) told e =
    none_first told [] (is_none e)
told_first (Data met) bad told e = none_first told [] (is_none e)
told_first (Data met) mark told e = none_first told [] (is_none e)
told_first (Trailers v) (block b) told e =
    none_first told [] (is_none e)
told_first (Trailers v) bad told e = none_first told [] (is_none e)
told_first (Trailers v) mark told e =
    none_first told [] (is_none e)
told_first (Next v) (block b) told e = none_first told (in_list (told_past (Next v) (block b)))
    (is_none e)
told_first (Next v) bad told e = none_first told [] (is_none e)
told_first (Next v) mark told e = none_first told [] (is_none e)
told_first Over (block b) told e = none_first told [] (is_none e)
told_first Over bad told e = none_first told [] (is_none e)
told_first Over mark told e = none_first told [] (is_none e)

-- the sections after an item that leads to this
abbrev behind : Phase × Option Told → List TapeItem → List Told
behind after xs = (in_list after.1 ++ told_from after.0 xs)
    ++ in_list (under_way (phase_after after.0 xs))

abbrev in_order : Phase × Option Told → List TapeItem → List Told
in_order after xs = (in_list after.1 ++ In.told_from after.0 xs)
    ++ in_list (under_way (In.phase_after after.0 xs))

abbrev Leads : List Told → List Told → Type 0
Leads all first = (more : List Told) × (all ≡ first ++ more)

-- an item that does not break the order
leads_on : (q : Phase) (told : Option Told) (xs : List TapeItem)
    → Leads (onward q xs) (ordered q xs)
    → Leads (behind (q, told) xs) (in_order (q, told) xs)
leads_on q told xs (more, same) = (
  more,
  append_assoc (in_list told) (told_from q xs) (in_list (under_way (phase_after q xs)))
      ∙ ap (λ (l : List Told). in_list told ++ l) same
      ∙ sym (append_assoc (in_list told) (ordered q xs) more)
      ∙ ap (λ (l : List Told). l ++ more) (sym (append_assoc (in_list told) (In.told_from q xs)
      (in_list (under_way (In.phase_after q xs))))),
)

-- an item that breaks it
leads_past : (first told rest : List Told) (xs : List TapeItem) → Leads first told
    → Leads (first ++ rest) ((told ++ In.told_from Over xs)
    ++ in_list (under_way (In.phase_after Over xs)))
leads_past first told rest xs (m, same) = (
  m ++ rest,
  ap (λ (l : List Told). l ++ rest) same ∙ append_assoc told m rest
      ∙ ap (λ (l : List Told). l ++ (m ++ rest)) (sym (append_assoc told (In.told_from Over xs)
      (in_list (under_way (In.phase_after Over xs)))
      ∙ ap (λ (l : List Told). told ++ l) (ordered_none xs) ∙ append-nil told)),
)

leads_by : (p : Phase) (x : TapeItem) (xs : List TapeItem) (q : Phase) (told : Option Told)
    → Wide.step p x ≡ (q, told) → ((r : Phase) → Leads (onward r xs) (ordered r xs))
    → Leads (behind (goes_on p x (q, told)) xs) (in_order (q, told) xs)
leads_by p x xs Over told e rest =
    let after = goes_on p x (Over, told) in
    let (more, same) = leads_past (in_list (told_past p x)) (in_list told) (onward after.0 xs) xs
    (told_first p x told e) in (
      more,
      append_assoc (in_list (told_past p x)) (told_from after.0 xs)
          (in_list (under_way (phase_after after.0 xs))) ∙ same,
    )
leads_by p x xs Volume told e rest = leads_on Volume told xs (rest Volume)
leads_by p x xs (Labels v) told e rest = leads_on (Labels v) told xs (rest (Labels v))
leads_by p x xs (Second met) told e rest = leads_on (Second met) told xs (rest (Second met))
leads_by p x xs (Headers met) told e rest = leads_on (Headers met) told xs (rest (Headers met))
leads_by p x xs (Data met) told e rest = leads_on (Data met) told xs (rest (Data met))
leads_by p x xs (Trailer met) told e rest = leads_on (Trailer met) told xs (rest (Trailer met))
leads_by p x xs (Trailers v) told e rest = leads_on (Trailers v) told xs (rest (Trailers v))
leads_by p x xs (Next v) told e rest = leads_on (Next v) told xs (rest (Next v))

leads : (p : Phase) (xs : List TapeItem) → Leads (onward p xs) (ordered p xs)
leads p [] = ([], sym (append-nil (in_list (under_way p))))
leads p (x ∷ xs) =
    leads_by p x xs (Wide.step p x).0 (Wide.step p x).1 refl (λ r. leads r xs)

-- ---- no other section, if no item breaks the order

not_left : (c : LabelOrder) (g : ImageSummary) (p : Phase) (xs : List TapeItem) → g.course ≡ c
    → has_left (look_all g p xs).course ≡ false → (b : Bool) → has_left c ≡ b → has_left c ≡ false
not_left c g p xs is still false e = e
not_left c g p xs is still true e =
    let (n, w, there) = where_left c e in
    absurd (let wrong : true ≡ false =
    sym (ap has_left (stays g p xs n w (is ∙ there))) ∙ still in cc wrong)

-- a second mark in sequence, or nothing, follows a mark after the volume labels
blank_same : (g : ImageSummary) (v : List ℕ) (xs : List TapeItem) → g.course
    ≡ Blank
    → has_left (look_all g (Next v) xs).course ≡ false → onward (Next v) xs ≡ []
blank_same g v [] is still = refl
blank_same g v (mark ∷ xs) is still = onward_none xs
blank_same g v (bad ∷ xs) is still =
    let h = look_to g (Next v) bad (Wide.step (Next v) bad).0 in
    let c : h.course ≡ course_with Blank (g.items + 1) (Next v) bad Over =
    ap (λ (o : LabelOrder). course_with o (g.items + 1) (Next v) bad Over) is in
    absurd (let wrong = not_left _ h (step (Next v) bad).0 xs c still true refl in cc wrong)
blank_same g v (block b ∷ xs) is still =
    let q = (Wide.step (Next v) (block b)).0 in
    let h = look_to g (Next v) (block b) q in
    let c : h.course ≡ course_with Blank (g.items + 1) (Next v) (block b) q =
    ap (λ (o : LabelOrder). course_with o (g.items + 1) (Next v) (block b) q) is in
    absurd (let wrong = not_left _ h (step (Next v) (block b)).0 xs c still true refl in cc wrong)

-- an item that leads to another phase than the end does not break the order
left_same : (p : Phase) (x : TapeItem) (q : Phase) (told : Option Told) (n : ℕ)
    → has_left (left_by n p q) ≡ false
    → (goes_on p x (q, told) ≡ (q, told)) × (left_by n p q ≡ Follows)
left_same p x Over told n e = absurd (cc e)
left_same p x Volume told n e = (refl, refl)
left_same p x (Labels v) told n e = (refl, refl)
left_same p x (Second met) told n e = (refl, refl)
left_same p x (Headers met) told n e = (refl, refl)
left_same p x (Data met) told n e = (refl, refl)
left_same p x (Trailer met) told n e = (refl, refl)
left_same p x (Trailers v) told n e = (refl, refl)
left_same p x (Next v) told n e = (refl, refl)

same_on : (after : Phase × Option Told) (other : Phase × Option Told) (xs : List TapeItem)
    → after ≡ other → onward other.0 xs ≡ ordered other.0 xs → behind after xs ≡ in_order other xs
same_on after other xs e rest =
    ap (λ (r : Phase × Option Told). behind r xs) e
    ∙ append_assoc (in_list other.1) (told_from other.0 xs)
    (in_list (under_way (phase_after other.0 xs)))
    ∙ ap (λ (l : List Told). in_list other.1 ++ l) rest
    ∙ sym (append_assoc (in_list other.1) (In.told_from other.0 xs)
    (in_list (under_way (In.phase_after other.0 xs))))

-- the item x, which leaves the order if it leads to the end
one_same : (g : ImageSummary) (p : Phase) (x : TapeItem) (xs : List TapeItem)
    → (look_to g p x (Wide.step p x).0).course ≡ left_by (g.items + 1) p (Wide.step p x).0
    → has_left (look_all g p (x ∷ xs)).course ≡ false
    → ((h : ImageSummary) (r : Phase) → h.course ≡ Follows
    → has_left (look_all h r xs).course ≡ false → onward r xs ≡ ordered r xs)
    → onward p (x ∷ xs) ≡ ordered p (x ∷ xs)
one_same g p x xs is still rest =
    let q = (Wide.step p x).0 in
    let told = (Wide.step p x).1 in
    let h = look_to g p x q in
    let c = left_by (g.items + 1) p q in
    let kept = not_left c h (step p x).0 xs is still (has_left c) refl in
    let (goes, follows) = left_same p x q told (g.items + 1) kept in
    same_on (step p x) (q, told) xs goes (rest h q (is ∙ follows)
    (ap (λ (r : Phase). has_left (look_all h r xs).course)
    (sym (ap (λ (r : Phase × Option Told). r.0) goes)) ∙ still))

all_same : (g : ImageSummary) (p : Phase) (xs : List TapeItem) → g.course ≡ Follows
    → has_left (look_all g p xs).course ≡ false → onward p xs ≡ ordered p xs
all_same g p [] is still = refl
all_same g p (block b ∷ xs) is still = one_same g p (block b) xs
    (ap (λ (o : LabelOrder). course_with o (g.items + 1) p (block b) (Wide.step p (block b)).0) is)
    still (λ h r. all_same h r xs)
all_same g p (bad ∷ xs) is still = one_same g p bad xs
    (ap (λ (o : LabelOrder). course_with o (g.items + 1) p bad (Wide.step p bad).0) is)
    still (λ h r. all_same h r xs)
all_same g (Labels v) (mark ∷ xs) is still =
    blank_same (look_to g (Labels v) mark Over) v xs
    (ap (λ (o : LabelOrder). course_with o (g.items + 1) (Labels v) mark Over) is) still
    ∙ sym (ordered_none xs)
all_same g (Next v) (mark ∷ xs) is still = onward_none xs ∙ sym (ordered_none xs)
all_same g Volume (mark ∷ xs) is still = one_same g Volume mark xs
    (ap (λ (o : LabelOrder). course_with o (g.items + 1) Volume mark Over) is) still
    (λ h r. all_same h r xs)
all_same g (Second met) (mark ∷ xs) is still = one_same g (Second met) mark xs
    (ap (λ (o : LabelOrder). course_with o (g.items + 1) (Second met) mark (Data met)) is) still
    (λ h r. all_same h r xs)
all_same g (Headers met) (mark ∷ xs) is still = one_same g (Headers met) mark xs
    (ap (λ (o : LabelOrder). course_with o (g.items + 1) (Headers met) mark (Data met)) is) still
    (λ h r. all_same h r xs)
all_same g (Data met) (mark ∷ xs) is still = one_same g (Data met) mark xs
    (ap (λ (o : LabelOrder). course_with o (g.items + 1) (Data met) mark (Trailer met)) is) still
    (λ h r. all_same h r xs)
all_same g (Trailer met) (mark ∷ xs) is still = one_same g (Trailer met) mark xs
    (ap (λ (o : LabelOrder). course_with o (g.items + 1) (Trailer met) mark Over) is) still
    (λ h r. all_same h r xs)
all_same g (Trailers v) (mark ∷ xs) is still = one_same g (Trailers v) mark xs
    (ap (λ (o : LabelOrder). course_with o (g.items + 1) (Trailers v) mark (Next v)) is) still
    (λ h r. all_same h r xs)
all_same g Over (mark ∷ xs) is still = one_same g Over mark xs
    (ap (λ (o : LabelOrder). course_with o (g.items + 1) Over mark Over) is) still
    (λ h r. all_same h r xs)

pub finds_what_check_finds : FindsWhatCheckFinds
finds_what_check_finds = record {
  each = λ items none.
      let (more, same) = leads Volume items in
      (more, same ∙ ap (λ (l : List Told). l ++ more) (finds_the_same items none));
  all = λ items none still.
      all_same blank_glance Volume items refl still ∙ finds_the_same items none;
}
