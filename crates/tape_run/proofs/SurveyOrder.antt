-- The item that breaks the order of a volume on an image.
use Rattle.std.proofs.Common.{◌≡◌, ℕ, ◌+◌, Bool, true, false, List, [], ◌∷◌, ◌++◌, length, refl}
use Rattle.std.proofs.Common.{sym, ap, subst, ◌∙◌, arith, append_assoc}
use Rattle.tape_image.specs.Tape.{TapeItem, block, bad, mark}
use Rattle.tape_run.specs.declared.survey.course.LabelOrder.TheVariants.{Follows, Blank, Ended}
use Rattle.tape_run.specs.SurveyGlance.{blank_glance, look_to, look_all, glance_of, left_by}
use Rattle.tape_run.specs.declared.survey.course.ExpectedItem.{ExpectedItem}
use Rattle.tape_run.specs.declared.survey.course.LabelOrder.{LabelOrder}
use Rattle.tape_run.specs.declared.survey.glance.ImageSummary.{ImageSummary}
use Rattle.tape_run.specs.{declared.passing.Phase.Phase, Onward.step, Onward.phase_after}
use Rattle.tape_run.specs.WidePassing as Wide
use Rattle.tape_run.specs.declared.passing.Phase.TheVariants.{Volume, Labels, Second, Next, Over}
use Rattle.tape_run.specs.declared.survey.course.LabelOrder.TheVariants.{Leaves}
use Rattle.tape_run.specs.SurveyGlance.{behind_mark, behind, course_with}
use Rattle.tape_run.specs.SurveyLaws.{course_of, has_left, IsFirstAstray, LeavesThere}
use Rattle.tape_run.proofs.{OnwardSoFar.phase_after-append, SurveyLooks.look_all-append}

-- the summary counts the items
counts : (g : ImageSummary) (p : Phase) (xs : List TapeItem)
    → (look_all g p xs).items ≡ g.items + length xs
counts g p [] = omega arith
counts g p (x ∷ xs) =
    let rest = counts (look_to g p x (Wide.step p x).0) (step p x).0 xs in
    omega (arith, rest)

-- once items have left the order, that is final
pub stays : (g : ImageSummary) (p : Phase) (xs : List TapeItem) (n : ℕ) (w : ExpectedItem)
    → g.course ≡ Leaves n w
    → (look_all g p xs).course ≡ Leaves n w
stays g p [] n w e = e
stays g p (x ∷ xs) n w e =
    let ordered = (Wide.step p x).0 in
    stays (look_to g p x ordered) (step p x).0 xs n w
    (ap (λ (c : LabelOrder). course_with c (g.items + 1) p x ordered) e)

-- the number reported for an item that breaks the order is its own
number_left : (number : ℕ) (p next : Phase) (n : ℕ) (w : ExpectedItem)
    → left_by number p next ≡ Leaves n w → n ≡ number
number_left number p Over n w e = cc e
number_left number p Volume n w e = absurd (cc e)
number_left number p _ n w e = absurd (cc e)

number_mark : (number : ℕ) (p next : Phase) (n : ℕ) (w : ExpectedItem)
    → behind_mark number p next ≡ Leaves n w → n ≡ number
number_mark number (Labels v) next n w e = absurd (cc e)
number_mark number (Next v) next n w e = absurd (cc e)
number_mark number Volume next n w e = number_left number Volume next n w e
number_mark number (Second met) next n w e = number_left number (Second met) next n w e
number_mark number Over next n w e = number_left number Over next n w e
number_mark number s next n w e = number_left number s next n w e

number_behind : (number : ℕ) (p : Phase) (x : TapeItem) (next : Phase) (n : ℕ) (w : ExpectedItem)
    → behind number p x next ≡ Leaves n w → n ≡ number
number_behind number p mark next n w e = number_mark number p next n w e
number_behind number p bad next n w e = number_left number p next n w e
number_behind number p (block b) next n w e = number_left number p next n w e

its_number : (c : LabelOrder) (number : ℕ) (p : Phase) (x : TapeItem) (next : Phase) (n : ℕ)
    (w : ExpectedItem) → has_left c ≡ false → course_with c number p x next ≡ Leaves n w → n
    ≡ number
its_number Follows number p x next n w still e = number_behind number p x next n w e
its_number Blank number p mark next n w still e = absurd (cc e)
its_number Blank number p bad next n w still e = cc e
its_number Blank number p (block b) next n w still e = cc e
its_number Ended number p x next n w still e = cc e
its_number (Leaves m v) number p x next n w still e = absurd (cc still)

-- the summary of items that left the order says where
pub where_left : (c : LabelOrder) → has_left c ≡ true
    → (n : ℕ) × (w : ExpectedItem) × (c ≡ Leaves n w)
where_left Follows e = absurd (cc e)
where_left Blank e = absurd (cc e)
where_left Ended e = absurd (cc e)
where_left (Leaves n w) e = (n, w, refl)

abbrev number_of : LabelOrder → ℕ → ℕ
number_of (Leaves n w) other = n
number_of _ other = other

-- the items after `before` were examined from the state that these lead to
from_there : (before xs : List TapeItem) (x : TapeItem)
    → look_all (glance_of before) (phase_after Volume before) (x ∷ xs)
    ≡ look_all (glance_of (before ++ x ∷ [])) (phase_after Volume (before ++ x ∷ [])) xs
from_there before xs x =
    ap (λ (g : ImageSummary). look_all g (step (phase_after Volume before) x).0 xs)
    (sym (look_all-append blank_glance Volume before x))
    ∙ ap (λ (p : Phase). look_all (glance_of (before ++ x ∷ [])) p xs)
    (sym (phase_after-append Volume before (x ∷ [])))

-- the item x breaks the order, or does not
leaves_at : (before xs : List TapeItem) (x : TapeItem) (n : ℕ) (w : ExpectedItem) (b : Bool)
    → has_left (course_of (before ++ x ∷ [])) ≡ b → has_left (course_of before) ≡ false
    → (look_all (glance_of before) (phase_after Volume before) (x ∷ xs)).course ≡ Leaves n w
    → (has_left (course_of (before ++ x ∷ [])) ≡ false
    → (look_all (glance_of (before ++ x ∷ [])) (phase_after Volume (before ++ x ∷ [])) xs).course
    ≡ Leaves n w → IsFirstAstray ((before ++ x ∷ []) ++ xs) n)
    → IsFirstAstray (before ++ x ∷ xs) n
leaves_at before xs x n w true is still e more =
    let mid = before ++ x ∷ [] in
    let (m, v, there) = where_left (course_of mid) is in
    let p = phase_after Volume before in
    let same : Leaves m v ≡ Leaves n w =
    sym (stays (glance_of mid) (phase_after Volume mid) xs m v there)
    ∙ ap (λ (g : ImageSummary). g.course) (sym (from_there before xs x)) ∙ e in
    let here : course_with (course_of before) ((glance_of before).items + 1) p x (Wide.step p x).0
    ≡ Leaves m v =
    ap (λ (g : ImageSummary). g.course) (sym (look_all-append blank_glance Volume before x))
    ∙ there in
    let number = its_number (course_of before) ((glance_of before).items + 1) p x (Wide.step p x).0
    m v still here in
    let one : m ≡ n = ap (λ (c : LabelOrder). number_of c 0) same in
    record {
      before = before;
      item = x;
      behind = xs;
      stands = refl;
      number = omega (arith, one, number, counts blank_glance Volume before);
      follow = still;
      leaves = is;
    }
leaves_at before xs x n w false is still e more =
    subst (λ (l : List TapeItem). IsFirstAstray l n) (append_assoc before (x ∷ []) xs)
    (more is (ap (λ (g : ImageSummary). g.course) (sym (from_there before xs x)) ∙ e))

leaves_behind : (before rest : List TapeItem) (n : ℕ) (w : ExpectedItem)
    → has_left (course_of before) ≡ false
    → (look_all (glance_of before) (phase_after Volume before) rest).course ≡ Leaves n w
    → IsFirstAstray (before ++ rest) n
leaves_behind before [] n w still e =
    absurd (let same : true ≡ false = ap has_left (sym e) ∙ still in cc same)
leaves_behind before (x ∷ xs) n w still e =
    leaves_at before xs x n w (has_left (course_of (before ++ x ∷ []))) refl still e
    (λ stays_on goes. leaves_behind (before ++ x ∷ []) xs n w stays_on goes)

pub leaves_there : LeavesThere
leaves_there items n w e = leaves_behind [] items n w refl e
