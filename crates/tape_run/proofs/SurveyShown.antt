-- The good copies that are compared are shown by the items, with their data blocks.
use Rattle.std.proofs.Common.{◌≡◌, ℕ, Bool, true, false, List, [], ◌∷◌, ◌++◌, Option, Some, None}
use Rattle.std.proofs.Common.{Result, Ok, Err, refl, sym, ap, subst, ◌∙◌, append_assoc, ◌||◌}
use Rattle.std.proofs.Common.{inl, inr}
use Rattle.std.proofs.{Common.if◌then◌else◌, lemmas.Bool.or_parts}
use Rattle.std.specs.{Prelude.⊤, List.AllByRecursion}
use Rattle.tape_image.specs.Tape.{TapeItem, block, bad, mark}
use Rattle.tape_label.specs.{declared.values.Kind.Kind, declared.values.Vol1.Vol1, Kinds.kind_at}
use Rattle.tape_label.specs.{declared.values.Head1.Head1, declared.values.Trail1.Trail1}
use Rattle.tape_label.specs.{declared.label.LabelFault.LabelFault, VolumeLabels.is_volume_label}
use Rattle.tape_label.specs.{Reading.vol1_at, Reading.head1_at, Reading.trail1_at, Vol1.IsVol1}
use Rattle.tape_label.specs.declared.values.Kind.TheVariants as kinds
use Rattle.tape_label.specs.WideHead2.{is_further_header}
use Rattle.tape_label.proofs.{First.vol1_found, First.vol1_again, Apart.kind_found}
use Rattle.tape_run.specs.declared.passing.Phase.TheVariants.{Volume, Labels, Second, Headers, Data}
use Rattle.tape_run.specs.Passing.{Told, closes, told_with, volume_with, header_with, second_with}
use Rattle.tape_run.specs.Passing.{with_block}
use Rattle.tape_run.specs.WidePassing.{second_if}
use Rattle.tape_run.specs.Onward.{step, goes_on, past, past_block, told_past, stray_in, volume_in}
use Rattle.tape_run.specs.Onward.{no_volume}
use Rattle.tape_run.specs.{declared.section.SectionState.SectionState, declared.met.Met.Met}
use Rattle.tape_run.specs.{declared.passing.Phase.Phase, Noted.is_good, WideShown.NamesVolume}
use Rattle.tape_run.specs.declared.section.SectionState.TheVariants.{Good, Bad, Count, Cut}
use Rattle.tape_run.specs.declared.passing.Phase.TheVariants.{Trailer, Trailers, Next, Over}
use Rattle.tape_run.specs.SurveyConflicts.{ShownAs, CopiesAreShown}
use Rattle.tape_run.specs.SurveyCopies.{Copy, blocks_with, good_told, copies_from}
use Rattle.tape_run.proofs.WideSections.{Stood, Headed, names_more, shown_more, shown_as, headed}
use Rattle.tape_run.proofs.WideSections.{labelled, labelled_more, filled_none, filled_first}
use Rattle.tape_run.proofs.WideSections.{filled_more, filled_closed}
use Rattle.tape_run.proofs.SectionsMet.{state_good}
use Rattle.tape_run.proofs.ShownSections.{told_if}

-- a section that was completed is shown, if it is good
abbrev ShownIf : List TapeItem → Option Told → List (List ℕ) → Type 0
ShownIf items None blocks = ⊤
ShownIf items (Some t) blocks = t.1.state ≡ Good → ShownAs items t blocks

-- after an item: what is expected, with the data blocks so far, and the section with those before
abbrev Both : List TapeItem → Phase × Option Told → List (List ℕ) → List (List ℕ) → Type 0
Both items after blocks before = Stood after.0 items blocks × ShownIf items after.1 before

-- ---- past an item that breaks the order

past_label : (items : List TapeItem) (p : Phase) (b : List ℕ) (blocks : List (List ℕ))
    (r : Result Head1 LabelFault) → head1_at b ≡ r
    → NamesVolume (items ++ block b ∷ []) (volume_in p)
    → Stood (past_block p r) (items ++ block b ∷ []) blocks
past_label items Over b blocks r e named = tt
past_label items Volume b blocks (Ok head) e named = (named, headed items no_volume b head e)
past_label items Volume b blocks (Err f) e named = named
past_label items (Labels v) b blocks (Ok head) e named = (named, headed items v b head e)
past_label items (Labels v) b blocks (Err f) e named = named
past_label items (Second met) b blocks (Ok head) e named =
    let h = headed items met.volume b head e in (
      named,
      record {
        before = h.before;
        hdr1 = h.hdr1;
        head = h.head;
        stands = h.stands;
        none = h.none;
      },
    )
past_label items (Second met) b blocks (Err f) e named = named
past_label items (Headers met) b blocks (Ok head) e named =
    (named, headed items met.volume b head e)
past_label items (Headers met) b blocks (Err f) e named = named
past_label items (Data met) b blocks (Ok head) e named = (named, headed items met.volume b head e)
past_label items (Data met) b blocks (Err f) e named = named
past_label items (Trailer met) b blocks (Ok head) e named =
    (named, headed items met.volume b head e)
past_label items (Trailer met) b blocks (Err f) e named = named
past_label items (Trailers v) b blocks (Ok head) e named = (named, headed items v b head e)
past_label items (Trailers v) b blocks (Err f) e named = named
past_label items (Next v) b blocks (Ok head) e named = (named, headed items v b head e)
past_label items (Next v) b blocks (Err f) e named = named

past_stood : (items : List TapeItem) (p : Phase) (x : TapeItem) (blocks : List (List ℕ))
    → NamesVolume (items ++ x ∷ []) (volume_in p) → Stood (past p x) (items ++ x ∷ []) blocks
past_stood items p (block b) blocks named = past_label items p b blocks (head1_at b) refl named
past_stood items (Second met) bad blocks named = (named, λ e. absurd (cc e))
past_stood items (Headers met) bad blocks named = (named, λ e. absurd (cc e))
past_stood items Over bad blocks named = tt
past_stood items Volume bad blocks named = named
past_stood items (Labels v) bad blocks named = named
past_stood items (Data met) bad blocks named = named
past_stood items (Trailer met) bad blocks named = named
past_stood items (Trailers v) bad blocks named = named
past_stood items (Next v) bad blocks named = named
past_stood items (Next v) mark blocks named = tt
past_stood items Over mark blocks named = tt
past_stood items Volume mark blocks named = named
past_stood items (Labels v) mark blocks named = named
past_stood items (Second met) mark blocks named = named
past_stood items (Headers met) mark blocks named = named
past_stood items (Data met) mark blocks named = named
past_stood items (Trailer met) mark blocks named = named
past_stood items (Trailers v) mark blocks named = named

stray_bad : (items : List TapeItem) (v : List ℕ) (r : Result Trail1 LabelFault)
    (blocks : List (List ℕ)) → ShownIf items (stray_in v r) blocks
stray_bad items v (Ok trail) blocks = λ good. absurd (cc good)
stray_bad items v (Err f) blocks = tt

-- no section is complete there
past_told : (items : List TapeItem) (p : Phase) (x : TapeItem) (blocks : List (List ℕ))
    → ShownIf items (told_past p x) blocks
past_told items (Trailer met) x blocks = λ good. absurd (cc good)
past_told items (Second met) (block b) blocks = λ good. absurd (cc good)
past_told items (Second met) bad blocks = tt
past_told items (Second met) mark blocks = tt
past_told items Volume x blocks = tt
past_told items (Labels v) (block b) blocks = stray_bad items v (trail1_at b) blocks
past_told items (Labels v) bad blocks = tt
past_told items (Labels v) mark blocks = tt
past_told items (Next v) (block b) blocks = stray_bad items v (trail1_at b) blocks
past_told items (Next v) bad blocks = tt
past_told items (Next v) mark blocks = tt
past_told items (Headers met) x blocks = tt
past_told items (Data met) x blocks = tt
past_told items (Trailers v) x blocks = tt
past_told items Over x blocks = tt

past_both : (items : List TapeItem) (p : Phase) (x : TapeItem) (blocks before : List (List ℕ))
    → NamesVolume (items ++ x ∷ []) (volume_in p)
    → Both (items ++ x ∷ []) (past p x, told_past p x) blocks before
past_both items p x blocks before named =
    (past_stood items p x blocks named, past_told (items ++ x ∷ []) p x before)

-- the volume that is named before an item is named after it
past_named : (items : List TapeItem) (p : Phase) (x : TapeItem) (blocks before : List (List ℕ))
    → NamesVolume items (volume_in p)
    → Both (items ++ x ∷ []) (past p x, told_past p x) blocks before
past_named items p x blocks before named =
    past_both items p x blocks before (names_more items (volume_in p) (x ∷ []) named)

-- ---- where labels are expected

-- an image that begins with another item than a volume label
begins_other : (items : List TapeItem) (x : TapeItem) → items ≡ []
    → ((bytes : List ℕ) (label : Vol1) → x ≡ block bytes → IsVol1 bytes label → ⊥)
    → NamesVolume (items ++ x ∷ []) no_volume
begins_other items x none other = inr (record {
  item = x;
  more = [];
  first = ap (λ (r : List TapeItem). r ++ x ∷ []) none;
  other = other;
  named = refl;
})

volume_both : (items : List TapeItem) (b : List ℕ) (blocks before : List (List ℕ))
    (r : Result Vol1 LabelFault) → vol1_at b ≡ r → items ≡ []
    → Both (items ++ block b ∷ []) (goes_on Volume (block b) (volume_with r, None)) blocks before
volume_both items b blocks before (Ok label) e none = (
  inl (record {
    bytes = b;
    more = [];
    first = ap (λ (r : List TapeItem). r ++ block b ∷ []) none;
    label = label;
    is = vol1_found b label e;
    named = refl;
  }),
  tt,
)
volume_both items b blocks before (Err f) e none =
    past_both items Volume (block b) blocks before (begins_other items (block b) none
    (λ bytes label same is.
    let again : vol1_at b ≡ Ok label =
    subst (λ c. vol1_at c ≡ Ok label) (sym (same_block b bytes same))
    (vol1_again bytes label is) in
    absurd (let wrong : Err f ≡ Ok label = sym e ∙ again in cc wrong)))
  where
    same_block : (a c : List ℕ) → block a ≡ block c → a ≡ c
    same_block a c e = cc e

header_both : (items : List TapeItem) (p : Phase) (v b : List ℕ) (blocks before : List (List ℕ))
    (r : Result Head1 LabelFault) → head1_at b ≡ r → volume_in p ≡ v → NamesVolume items v
    → Both (items ++ block b ∷ []) (goes_on p (block b) (header_with v r, None)) blocks before
header_both items p v b blocks before (Ok head) e same named =
    ((names_more items v (block b ∷ []) named, headed items v b head e), tt)
header_both items p v b blocks before (Err f) e same named =
    past_named items p (block b) blocks before (subst (λ w. NamesVolume items w) (sym same) named)

labels_both : (items : List TapeItem) (v b : List ℕ) (blocks before : List (List ℕ)) (is : Bool)
    → NamesVolume items v
    → Both (items ++ block b ∷ []) (goes_on (Labels v) (block b)
    (if is then Labels v else header_with v (head1_at b), None)) blocks before
labels_both items v b blocks before true named = (names_more items v (block b ∷ []) named, tt)
labels_both items v b blocks before false named =
    header_both items (Labels v) v b blocks before (head1_at b) refl refl named

second_both : (items : List TapeItem) (met : Met) (b : List ℕ) (blocks before : List (List ℕ))
    (k : Option Kind) → kind_at b ≡ k → NamesVolume items met.volume → Headed items met
    → Both (items ++ block b ∷ []) (goes_on (Second met) (block b) (second_with met k, None)) blocks
    before
second_both items met b blocks before None e named h =
    past_named items (Second met) (block b) blocks before named
second_both items met b blocks before (Some kinds.Hdr2) e named h = (
  (
    names_more items met.volume (block b ∷ []) named,
    λ _. labelled items met b (inl (kind_found b kinds.Hdr2 e)) h,
  ),
  tt,
)
second_both items met b blocks before _ e named h =
    past_named items (Second met) (block b) blocks before named

further_both : (items : List TapeItem) (met : Met) (b : List ℕ) (blocks before : List (List ℕ))
    (is : Bool) → is_further_header b ≡ is → NamesVolume items met.volume → Headed items met
    → Both (items ++ block b ∷ []) (goes_on (Second met) (block b) (second_if met b is)) blocks
    before
further_both items met b blocks before true e named h = (
  (
    names_more items met.volume (block b ∷ []) named,
    λ _. labelled items met b (inr e) h,
  ),
  tt,
)
further_both items met b blocks before false e named h =
    second_both items met b blocks before (kind_at b) refl named h

trailed_both : (items : List TapeItem) (met : Met) (b : List ℕ) (blocks : List (List ℕ))
    (trail : Trail1) (c : Bool) → closes met trail ≡ c → trail1_at b ≡ Ok trail
    → Stood (Trailer met) items blocks
    → Both (items ++ block b ∷ []) (goes_on (Trailer met) (block b) (told_if met trail c)) blocks
    blocks
unfolding shown_as
trailed_both items met b blocks trail true c e (named, h) = (
  names_more items met.volume (block b ∷ []) named,
  λ good.
      let (count, fine) = state_good met trail _ _ refl refl good in
      record {
        shown = shown_as items met b trail blocks e c named (h fine) count;
        blocks_are = refl;
      },
)
trailed_both items met b blocks trail false c e (named, h) =
    past_named items (Trailer met) (block b) blocks blocks named

told_both : (items : List TapeItem) (met : Met) (b : List ℕ) (blocks : List (List ℕ))
    (r : Result Trail1 LabelFault) → trail1_at b ≡ r → Stood (Trailer met) items blocks
    → Both (items ++ block b ∷ []) (goes_on (Trailer met) (block b) (told_with met r)) blocks blocks
told_both items met b blocks (Ok trail) e h =
    trailed_both items met b blocks trail (closes met trail) refl e h
told_both items met b blocks (Err f) e (named, h) =
    past_named items (Trailer met) (block b) blocks blocks named

-- ---- one item more

or_true : (p : Bool) → (p || true) ≡ false → ⊥
or_true true e = cc e
or_true false e = cc e

both_more : (p : Phase) (items : List TapeItem) (x : TapeItem) (blocks : List (List ℕ))
    → Stood p items blocks
    → Both (items ++ x ∷ []) (step p x) (blocks_with blocks p x) blocks
both_more Volume items (block b) blocks none =
    volume_both items b blocks blocks (vol1_at b) refl none
both_more Volume items bad blocks none =
    past_both items Volume bad blocks blocks (begins_other items bad none
    (λ bytes label e is. absurd (cc e)))
both_more Volume items mark blocks none =
    past_both items Volume mark blocks blocks (begins_other items mark none
    (λ bytes label e is. absurd (cc e)))
both_more (Labels v) items (block b) blocks named =
    labels_both items v b blocks blocks (is_volume_label b) named
both_more (Labels v) items bad blocks named = past_named items (Labels v) bad blocks blocks named
both_more (Labels v) items mark blocks named = past_named items (Labels v) mark blocks blocks named
both_more (Second met) items (block b) blocks (named, h) =
    further_both items met b blocks blocks (is_further_header b) refl named h
both_more (Second met) items bad blocks (named, h) =
    past_named items (Second met) bad blocks blocks named
both_more (Second met) items mark blocks (named, h) =
    ((names_more items met.volume (mark ∷ []) named, λ _. filled_none items met h), tt)
both_more (Headers met) items (block b) blocks (named, h) = (
  (names_more items met.volume (block b ∷ []) named, λ e. labelled_more items met b (h e)),
  tt,
)
both_more (Headers met) items bad blocks (named, h) =
    past_named items (Headers met) bad blocks blocks named
both_more (Headers met) items mark blocks (named, h) =
    ((names_more items met.volume (mark ∷ []) named, λ e. filled_first items met (h e)), tt)
both_more (Data met) items (block b) blocks (named, h) = (
  (
    names_more items met.volume (block b ∷ []) named,
    λ e. filled_more items met b blocks (h (or_parts met.bad false e).0),
  ),
  tt,
)
both_more (Data met) items bad blocks (named, h) =
    ((names_more items met.volume (bad ∷ []) named, λ e. absurd (or_true met.bad e)), tt)
both_more (Data met) items mark blocks (named, h) = (
  (names_more items met.volume (mark ∷ []) named, λ e. filled_closed items met blocks (h e)),
  tt,
)
both_more (Trailer met) items (block b) blocks h =
    told_both items met b blocks (trail1_at b) refl h
both_more (Trailer met) items bad blocks (named, h) =
    past_named items (Trailer met) bad blocks blocks named
both_more (Trailer met) items mark blocks (named, h) =
    past_named items (Trailer met) mark blocks blocks named
both_more (Trailers v) items (block b) blocks named = (names_more items v (block b ∷ []) named, tt)
both_more (Trailers v) items bad blocks named =
    past_named items (Trailers v) bad blocks blocks named
both_more (Trailers v) items mark blocks named = (names_more items v (mark ∷ []) named, tt)
both_more (Next v) items (block b) blocks named =
    header_both items (Next v) v b blocks blocks (head1_at b) refl refl named
both_more (Next v) items bad blocks named = past_named items (Next v) bad blocks blocks named
both_more (Next v) items mark blocks named = past_named items (Next v) mark blocks blocks named
both_more Over items (block b) blocks h = (tt, tt)
both_more Over items bad blocks h = (tt, tt)
both_more Over items mark blocks h = (tt, tt)

-- ---- over all items

abbrev pub AllShownAs : List TapeItem → List Copy → Type 0
AllShownAs items xs = AllByRecursion (λ x. ShownAs items x.0 x.1) xs

as_more : (items : List TapeItem) (t : Told) (blocks : List (List ℕ)) (more : List TapeItem)
    → ShownAs items t blocks → ShownAs (items ++ more) t blocks
unfolding shown_more
as_more items t blocks more s =
    record { shown = shown_more items t.0 t.1 more s.shown; blocks_are = s.blocks_are }

later : (items more : List TapeItem) (xs : List Copy) → AllShownAs items xs
    → AllShownAs (items ++ more) xs
later items more [] h = tt
later items more (x ∷ xs) (h, hs) = (as_more items x.0 x.1 more h, later items more xs hs)

both : (items : List TapeItem) (xs ys : List Copy) → AllShownAs items xs → AllShownAs items ys
    → AllShownAs items (xs ++ ys)
both items [] ys a b = b
both items (x ∷ xs) ys (a, as_) b = (a, both items xs ys as_ b)

pub good_is : (s : SectionState) → is_good s ≡ true → s ≡ Good
good_is Good e = refl
good_is Bad e = absurd (cc e)
good_is Count e = absurd (cc e)
good_is Cut e = absurd (cc e)

one_if : (items : List TapeItem) (t : Told) (blocks : List (List ℕ)) (b : Bool)
    → is_good t.1.state ≡ b → (t.1.state ≡ Good → ShownAs items t blocks)
    → AllShownAs items (if b then (t, blocks) ∷ [] else [])
one_if items t blocks true e h = (h (good_is t.1.state e), tt)
one_if items t blocks false e h = tt

one_as : (items : List TapeItem) (t : Option Told) (blocks : List (List ℕ))
    → ShownIf items t blocks → AllShownAs items (good_told t blocks)
one_as items None blocks h = tt
one_as items (Some t) blocks h = one_if items t blocks (is_good t.1.state) refl h

copies_shown : (p : Phase) (past items : List TapeItem) (blocks : List (List ℕ))
    → Stood p past blocks → AllShownAs (past ++ items) (copies_from p blocks items)
copies_shown p past [] blocks h = tt
copies_shown p past (x ∷ items) blocks h =
    let (on, first) = both_more p past x blocks h in
    let whole : (past ++ x ∷ []) ++ items ≡ past ++ x ∷ items = append_assoc past (x ∷ []) items in
    let next = blocks_with blocks p x in
    both (past ++ x ∷ items) (good_told (step p x).1 blocks)
    (copies_from (step p x).0 next items)
    (subst (λ (r : List TapeItem). AllShownAs r (good_told (step p x).1 blocks)) whole
    (later (past ++ x ∷ []) items (good_told (step p x).1 blocks)
    (one_as (past ++ x ∷ []) (step p x).1 blocks first)))
    (subst (λ (r : List TapeItem). AllShownAs r (copies_from (step p x).0 next items)) whole
    (copies_shown (step p x).0 (past ++ x ∷ []) items next on))

pub copies_are_shown : CopiesAreShown
copies_are_shown items = copies_shown Volume [] items [] refl
