-- The meaning of the verdicts after all readings were asked: which items are equal.
use Rattle.std.proofs.Common.{◌≡◌, ◌≢◌, ◌⊎◌, inl, inr, List, [], ◌∷◌, ◌++◌, Option, Some, None}
use Rattle.std.proofs.Common.{Bool, true, false, refl, sym, ap, subst, ◌∙◌}
use Rattle.tape_image.specs.Tape.{TapeItem, block, bad, mark}
use Rattle.tape_image.specs.Reader.{Status, going}
use Rattle.tape_run.specs.MergeSteps.{agrees, joined, Takes, Compares, Asked, gives, stops}
use Rattle.tape_run.specs.{declared.merge.reading.Reading.Reading, MergeCalls.has_first}
use Rattle.tape_run.specs.declared.merge.reading.Verdict.{Verdict}
use Rattle.tape_run.specs.MergeSteps.{AskedAll, StopsAs, Judges, is_good_one, is_bad_one, one_if}
use Rattle.tape_run.specs.MergeLog.{seen_cell, verdict_cell, is_bad_verdict}
use Rattle.tape_run.specs.declared.merge.reading.Verdict.TheVariants as verdicts
use Rattle.tape_run.proofs.MergeNext.{disagrees_good}

-- there is no item yet, or a bad one
abbrev pub is_less : Option TapeItem → Bool
is_less None = true
is_less (Some bad) = true
is_less (Some (block bytes)) = false
is_less (Some mark) = false

-- ---- the best item and the other one

agrees_self : (x : TapeItem) → agrees (Some x) x
agrees_self (block b) = refl
agrees_self bad = tt
agrees_self mark = tt

pub disagrees_more : (best : Option TapeItem) (x : TapeItem) → (agrees best x → ⊥)
    → is_less best ≡ false
disagrees_more None x never = absurd (never tt)
disagrees_more (Some bad) x never = absurd (never tt)
disagrees_more (Some (block b)) x never = refl
disagrees_more (Some mark) x never = refl

pub disagrees_other : (best : Option TapeItem) (x : TapeItem) → (agrees best x → ⊥) → best ≢ Some x
disagrees_other best x never is =
    never (subst (λ (t : Option TapeItem). agrees t x) (sym is) (agrees_self x))

pub good_more : (x : TapeItem) → x ≢ bad → is_less (Some x) ≡ false
good_more (block b) nb = refl
good_more bad nb = absurd (nb refl)
good_more mark nb = refl

pub joined_good : (best : Option TapeItem) (x : TapeItem) → agrees best x → x ≢ bad
    → joined best x ≡ x
joined_good None x a nb = refl
joined_good (Some bad) x a nb = refl
joined_good (Some (block b)) (block c) a nb = ap block a
joined_good (Some (block b)) bad a nb = absurd (nb refl)
joined_good (Some (block b)) mark a nb = absurd a
joined_good (Some mark) (block c) a nb = absurd a
joined_good (Some mark) bad a nb = absurd (nb refl)
joined_good (Some mark) mark a nb = refl

joined_more : (y x : TapeItem) → is_less (Some y) ≡ false → joined (Some y) x ≡ y
joined_more (block b) x more = refl
joined_more bad x more = absurd (cc more)
joined_more mark x more = refl

-- an item that could be read remains the best one
takes_keeps : (best : Option TapeItem) (x : TapeItem) (b : Bool) (now : Option TapeItem)
    → Takes best x b now → is_less best ≡ false → now ≡ best
takes_keeps None x b now h more = absurd (cc more)
takes_keeps (Some y) x true now (a, is) more = is ∙ ap Some (joined_more y x more)
takes_keeps (Some y) x false now (never, is) more = is

-- there is no other item yet, or it could be read
abbrev pub IsOther : Option TapeItem → Type 0
IsOther other = (other ≡ None) ⊎ (is_less other ≡ false)

pub none_yet : IsOther None
none_yet = inl refl

-- later items do not change one that could be read
abbrev pub Keeps : Option TapeItem → Option TapeItem → Option TapeItem → Option TapeItem → Type 0
Keeps best now other beside =
    (is_less best ≡ false → now ≡ best) × (is_less other ≡ false → beside ≡ other)

pub compares_keeps : (v : Verdict) (x : TapeItem) (best now other beside : Option TapeItem)
    → Compares v x best now other beside → Keeps best now other beside
compares_keeps verdicts.First x best now other beside h =
    (takes_keeps best x true now h.1, λ _. h.2)
compares_keeps verdicts.Bad x best now other beside h =
    (takes_keeps best x true now h.1, λ _. h.2)
compares_keeps verdicts.Second x best now other beside h =
    (takes_keeps best x false now h.0, takes_keeps other x true beside h.1)
compares_keeps verdicts.Third x best now other beside h =
    (takes_keeps best x false now h.0, takes_keeps other x false beside h.1)
compares_keeps verdicts.Ended x best now other beside h = absurd h
compares_keeps (verdicts.Failed fault) x best now other beside h = absurd h

asked_keeps : {R : Type 0} (o n : Reading R) (best now other beside : Option TapeItem)
    → Asked o n best now other beside → Keeps best now other beside
asked_keeps o n best now other beside (gives x on given compares counts) =
    compares_keeps n.verdict x best now other beside compares
asked_keeps o n best now other beside (stops off how counts same left) = (λ _. same, λ _. left)

pub less_of : (a b : Option TapeItem) → a ≡ b → is_less b ≡ false → is_less a ≡ false
less_of a b is more = ap is_less is ∙ more

pub all_keep : {R : Type 0} (olds nows : List (Reading R)) (best now other beside : Option TapeItem)
    → AskedAll olds nows best now other beside → Keeps best now other beside
all_keep [] [] best now other beside (same, left) = (λ _. same, λ _. left)
all_keep [] (n ∷ nows) best now other beside asked = absurd asked
all_keep (o ∷ olds) [] best now other beside asked = absurd asked
all_keep (o ∷ olds) (n ∷ nows) best now other beside (mid, between, one, rest) =
    let first = asked_keeps o n best mid other between one in
    let more = all_keep olds nows mid now between beside rest in (
      λ h. more.0 (less_of mid best (first.0 h) h) ∙ first.0 h,
      λ h. more.1 (less_of between other (first.1 h) h) ∙ first.1 h,
    )

compares_other : (v : Verdict) (x : TapeItem) (best now other beside : Option TapeItem)
    → Compares v x best now other beside → IsOther other → IsOther beside
compares_other verdicts.First x best now other beside h is = subst IsOther (sym h.2) is
compares_other verdicts.Bad x best now other beside h is = subst IsOther (sym h.2) is
compares_other verdicts.Second x best now other beside h is =
    let nb : x ≢ bad = disagrees_good best x h.0.0 in
    inr (ap is_less (h.1.1 ∙ ap Some (joined_good other x h.1.0 nb)) ∙ good_more x nb)
compares_other verdicts.Third x best now other beside h is = subst IsOther (sym h.1.1) is
compares_other verdicts.Ended x best now other beside h is = absurd h
compares_other (verdicts.Failed fault) x best now other beside h is = absurd h

pub next_other : {R : Type 0} (o n : Reading R) (best now other beside : Option TapeItem)
    → IsOther other → Asked o n best now other beside → IsOther beside
next_other o n best now other beside is (gives x on given compares counts) =
    compares_other n.verdict x best now other beside compares is
next_other o n best now other beside is (stops off how counts same left) =
    subst IsOther (sym left) is

other_more : (y : TapeItem) → IsOther (Some y) → is_less (Some y) ≡ false
other_more y (inl none) = absurd (cc none)
other_more y (inr more) = more

-- once there is a differing item, it remains
pub later_other : {R : Type 0} (o n : Reading R) (best mid : Option TapeItem) (y : TapeItem)
    (olds nows : List (Reading R)) (now beside : Option TapeItem)
    → Asked o n best mid None (Some y) → AskedAll olds nows mid now (Some y) beside
    → beside ≢ None
later_other o n best mid y olds nows now beside one rest none =
    let more : is_less (Some y) ≡ false =
    other_more y (next_other o n best mid None (Some y) none_yet one) in
    cc (none, (all_keep olds nows mid now (Some y) beside rest).1 more)

-- ---- while there is no differing item

pub agreed_alone : (v : Verdict) (x : TapeItem) (best now : Option TapeItem)
    → Compares v x best now None None → Takes best x true now
agreed_alone verdicts.First x best now h = h.1
agreed_alone verdicts.Bad x best now h = h.1
agreed_alone verdicts.Second x best now h = absurd (cc h.1.1)
agreed_alone verdicts.Third x best now h = absurd (h.1.0 tt)
agreed_alone verdicts.Ended x best now h = absurd h
agreed_alone (verdicts.Failed fault) x best now h = absurd h

pub second_alone : (v : Verdict) (x : TapeItem) (best now : Option TapeItem) (y : TapeItem)
    → Compares v x best now None (Some y) → agrees best x → ⊥
second_alone verdicts.First x best now y h = absurd (cc h.2)
second_alone verdicts.Bad x best now y h = absurd (cc h.2)
second_alone verdicts.Second x best now y h = h.0.0
second_alone verdicts.Third x best now y h = h.0.0
second_alone verdicts.Ended x best now y h = absurd h
second_alone (verdicts.Failed fault) x best now y h = absurd h

-- the item of a reading at a place, by its verdict
pub record SeenAs (v : Verdict) (x : Option TapeItem) : Type 0 where
  pub good : one_if (is_good_one x) ≡ has_first v
  pub is_bad : is_bad_one x ≡ is_bad_verdict v
  pub cell : seen_cell x ≡ verdict_cell v

seen_good : (x : TapeItem) → x ≢ bad → SeenAs verdicts.First (Some x)
seen_good (block content) good = record { good = refl; is_bad = refl; cell = refl }
seen_good bad good = absurd (good refl)
seen_good mark good = record { good = refl; is_bad = refl; cell = refl }

-- all agree: an item that is not bad is the best one
pub seen_item : (v : Verdict) (x : TapeItem) (best now : Option TapeItem)
    → Compares v x best now None None → SeenAs v (Some x)
seen_item verdicts.First x best now h = seen_good x h.0
seen_item verdicts.Bad x best now h =
    subst (λ (y : TapeItem). SeenAs verdicts.Bad (Some y)) (sym h.0)
    (record { good = refl; is_bad = refl; cell = refl })
seen_item verdicts.Second x best now h = absurd (cc h.1.1)
seen_item verdicts.Third x best now h = absurd (h.1.0 tt)
seen_item verdicts.Ended x best now h = absurd h
seen_item (verdicts.Failed fault) x best now h = absurd h

pub seen_none : (v : Verdict) (s : Status) → StopsAs v s → SeenAs v None
seen_none verdicts.First s h = absurd h
seen_none verdicts.Ended s h = record { good = refl; is_bad = refl; cell = refl }
seen_none (verdicts.Failed fault) s h = record { good = refl; is_bad = refl; cell = refl }
seen_none _ s h = absurd h

-- ---- after all were asked

pub judges_stop : (v : Verdict) (s : Status) (items : List TapeItem) (best other : Option TapeItem)
    → StopsAs v s → Judges v s items best other
judges_stop verdicts.First s items best other h = absurd h
judges_stop verdicts.Ended s items best other h = h
judges_stop (verdicts.Failed fault) s items best other h = h
judges_stop _ s items best other h = absurd h

third_other : (other beside end : Option TapeItem) (x : TapeItem) → IsOther other
    → (agrees other x → ⊥) → beside ≡ other → (is_less beside ≡ false → end ≡ beside)
    → end ≢ Some x
third_other other beside end x (inl none) never same keeps is =
    never (subst (λ (t : Option TapeItem). agrees t x) (sym none) tt)
third_other other beside end x (inr more) never same keeps is =
    disagrees_other other x never
    (sym same ∙ sym (keeps (less_of beside other same more)) ∙ is)

pub judges : (v : Verdict) (s : Status) (r : List TapeItem) (x : TapeItem)
    (best now other beside end last : Option TapeItem) → s ≡ going
    → Compares v x best now other beside → IsOther other → Keeps now end beside last
    → Judges v s (r ++ x ∷ []) end last
judges verdicts.First s r x best now other beside end last on (nb, (a, is), left) is_other keeps =
    let here : now ≡ Some x = is ∙ ap Some (joined_good best x a nb) in
    (on, x, (r, refl), nb, keeps.0 (less_of now (Some x) here (good_more x nb)) ∙ here)
judges verdicts.Bad s r x best now other beside end last on (is_bad, takes, left) is_other keeps =
    (on, (r, ap (λ (y : TapeItem). r ++ y ∷ []) is_bad))
judges verdicts.Second s r x best now other beside end last on ((never, same), (a, is)) is_other
    keeps =
    let nb : x ≢ bad = disagrees_good best x never in
    let here : beside ≡ Some x = is ∙ ap Some (joined_good other x a nb) in
    let stays : end ≡ now = keeps.0 (less_of now best same (disagrees_more best x never)) in (
      on,
      x,
      (r, refl),
      nb,
      λ e. disagrees_other best x never (sym same ∙ sym stays ∙ e),
      keeps.1 (less_of beside (Some x) here (good_more x nb)) ∙ here,
    )
judges verdicts.Third s r x best now other beside end last on ((never, same), (apart, left))
    is_other keeps =
    let stays : end ≡ now = keeps.0 (less_of now best same (disagrees_more best x never)) in (
      on,
      x,
      (r, refl),
      disagrees_good best x never,
      λ e. disagrees_other best x never (sym same ∙ sym stays ∙ e),
      third_other other beside last x is_other apart left keeps.1,
    )
judges verdicts.Ended s r x best now other beside end last on h is_other keeps = absurd h
judges (verdicts.Failed fault) s r x best now other beside end last on h is_other keeps = absurd h
