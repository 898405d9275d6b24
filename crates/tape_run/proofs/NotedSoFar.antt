-- The sections added after some items.
use Rattle.std.proofs.Common.{◌≡◌, ℕ, ◌+◌, ◌≤◌, List, [], ◌∷◌, ◌++◌, length, Option, Some, None}
use Rattle.std.proofs.Common.{Result, Ok, Err, Bool, true, false, refl, sym, ap, subst, ◌∙◌, arith}
use Rattle.std.proofs.Common.{append-nil, append_assoc, length-append, IfSome, if◌then◌else◌}
use Rattle.tape_image.specs.{declared.item.Ending.Ending, declared.item.ImageFault.ImageFault}
use Rattle.tape_image.specs.{Tape.TapeItem, Tape.block, Begins.Walks, Reader.IfKnown}
use Rattle.tape_image.specs.Step.{TakesItem, TakesEnd, TakesFault}
use Rattle.tape_image.specs.declared.item.Ending.TheVariants as endings
use Rattle.tape_image.proofs.Walks.{known_start, known_item, known_end, known_fault, IfKnown-map}
use Rattle.tape_image.proofs.Walks.{IfKnown-some}
use Rattle.tape_label.specs.{declared.values.Kind.Kind, declared.values.Vol1.Vol1, Kinds.kind_at}
use Rattle.tape_label.specs.{declared.values.Head1.Head1, declared.values.Trail1.Trail1}
use Rattle.tape_label.specs.{declared.label.LabelFault.LabelFault, VolumeLabels.is_volume_label}
use Rattle.tape_label.specs.Reading.{vol1_at, head1_at, trail1_at}
use Rattle.tape_label.specs.declared.values.Kind.TheVariants as kinds
use Rattle.tape_run.specs.declared.passing.Phase.TheVariants.{Volume, Labels, Second, Headers, Data}
use Rattle.tape_run.specs.Passing.{Told, step, in_list, phase_after, told_from, under_way, met_in}
use Rattle.tape_run.specs.Passing.{blocks_of, volume_with, header_with, second_with, told_with}
use Rattle.tape_run.specs.{declared.section.ImageStop.ImageStop, declared.met.Met.Met}
use Rattle.tape_run.specs.{declared.section.ImageLine.ImageLine, declared.passing.Phase.Phase}
use Rattle.tape_run.specs.{declared.section.ImageStop.TheVariants.Fault, Passing.closes}
use Rattle.tape_run.specs.declared.passing.Phase.TheVariants.{Trailer, Trailers, Next}
use Rattle.tape_run.specs.Noted.{noted, noted_all}
use Rattle.tape_run.specs.Added.{Adds, AddsInPart, StopsBehind, stop_at}
use Rattle.tape_run.proofs.ShownSections.{told_if}
use Rattle.tape_run.proofs.KeepingPlaces.{noted_all-append, keeps_places, good_is_shown}

-- Of the bytes `all` the items up to an offset were read, and `left` is left; the sections in these
-- items were added.
pub record SoFar (all left : Option (List ℕ)) (place count : ℕ) (old : List Told)
    (phase : Phase) (new : List Told) : Type 0 where
  pub items : List TapeItem
  pub known : IfKnown all left (λ xs ys. Walks 0 xs items place ys)
  pub counted : length items ≡ count
  pub stands : phase ≡ phase_after Volume items
  pub noted : new ≡ noted_all old (told_from Volume items)

abbrev pub starts : (all left : Option (List ℕ)) (place : ℕ) (old : List Told) → place ≡ 0
    → left ≡ all → SoFar all left place 0 old Volume old
starts all left place old first same =
    let P : ℕ → Type 0 = λ p. IfKnown all left (λ xs ys. Walks 0 xs [] p ys) in
    record {
      items = [];
      known = subst P (sym first) (known_start all left 0 same);
      counted = refl;
      stands = refl;
      noted = refl;
    }

pub phase_after-append : (p : Phase) (xs ys : List TapeItem)
    → phase_after p (xs ++ ys) ≡ phase_after (phase_after p xs) ys
phase_after-append p [] ys = refl
phase_after-append p (x ∷ xs) ys = phase_after-append (step p x).0 xs ys

pub told_from-append : (p : Phase) (xs ys : List TapeItem)
    → told_from p (xs ++ ys) ≡ told_from p xs ++ told_from (phase_after p xs) ys
told_from-append p [] ys = refl
told_from-append p (x ∷ xs) ys =
    ap (λ (r : List Told). in_list (step p x).1 ++ r) (told_from-append (step p x).0 xs ys)
    ∙ sym (append_assoc (in_list (step p x).1) (told_from (step p x).0 xs)
    (told_from (phase_after (step p x).0 xs) ys))

abbrev pub one_more : (all left next : Option (List ℕ)) (p q count : ℕ) (item : TapeItem)
    (old : List Told)
    (phase after : Phase) (mid new : List Told)
    → SoFar all left p count old phase mid
    → IfKnown left next (TakesItem p item q) → after ≡ (step phase item).0
    → new ≡ noted_all mid (in_list (step phase item).1)
    → SoFar all next q (count + 1) old after new
one_more all left next p q count item old phase after mid new s takes goes notes = record {
  items = s.items ++ item ∷ [];
  known = known_item all left next 0 p q s.items item s.known takes;
  counted = length-append s.items (item ∷ []) ∙ ap (λ n. n + 1) s.counted;
  stands = goes ∙ ap (λ (r : Phase). (step r item).0) s.stands
      ∙ sym (phase_after-append Volume s.items (item ∷ []));
  noted =
      let told : told_from Volume (s.items ++ item ∷ [])
      ≡ told_from Volume s.items ++ in_list (step phase item).1 =
      told_from-append Volume s.items (item ∷ [])
      ∙ ap (λ (r : List Told). told_from Volume s.items ++ r) (append-nil
      (in_list (step (phase_after Volume s.items) item).1))
      ∙ ap (λ (r : Phase). told_from Volume s.items ++ in_list (step r item).1) (sym s.stands) in
      notes ∙ ap (λ (r : List Told). noted_all r (in_list (step phase item).1)) s.noted
      ∙ sym (noted_all-append old (told_from Volume s.items) (in_list (step phase item).1))
      ∙ ap (noted_all old) (sym told);
}

-- the sections added at the end
pub all_noted : (all left : Option (List ℕ)) (p count : ℕ) (old : List Told)
    (phase : Phase) (mid new : List Told)
    → (s : SoFar all left p count old phase mid)
    → new ≡ noted_all mid (in_list (under_way phase)) → new ≡ noted_all old (met_in s.items)
all_noted all left p count old phase mid new s notes = grind (arith, noted_all-append)

adds : (before after : Option (List ℕ)) (old : List Told) (items : List TapeItem)
    (line : ImageLine) (new : List Told)
    → line.items ≡ length items
    → IfKnown before after (StopsBehind items line.stop) → new ≡ noted_all old (met_in items)
    → Adds before after old line new
adds before after old items line new counted stop notes = record {
  items = items;
  counted = counted;
  stop = stop;
  noted = notes;
  places = subst (λ (r : List Told). Rattle.tape_run.specs.Noted.KeepsPlaces old r) (sym notes)
      (keeps_places old (met_in items));
  good = subst (λ (r : List Told). Rattle.tape_run.specs.Noted.GoodIsShown items old r) (sym notes)
      (good_is_shown items old);
}

pub by_ending : (items : List TapeItem) (ending : Ending) (q : ℕ) (xs ys : List ℕ)
    → TakesEnd 0 items ending q xs ys → StopsBehind items (stop_at ending) xs ys
by_ending items endings.Marked q xs ys t = (q, t)
by_ending items endings.Physical q xs ys t = (q, t)

pub at_end : (all left next : Option (List ℕ)) (p q count : ℕ) (ending : Ending) (old : List Told)
    (phase : Phase) (mid new : List Told) (line : ImageLine)
    → SoFar all left p count old phase mid
    → IfKnown left next (TakesEnd p [] ending q) → new ≡ noted_all mid (in_list (under_way phase))
    → line.items ≡ count → line.stop ≡ stop_at ending
    → Adds all next old line new
at_end all left next p q count ending old phase mid new line s takes notes counted stop =
    adds all next _ _ line _ (counted ∙ sym s.counted) (subst
    (λ (r : ImageStop). IfKnown all next (StopsBehind s.items r)) (sym stop) (IfKnown-map _ _ _
    (StopsBehind s.items (stop_at ending)) (by_ending s.items ending q)
    (known_end _ _ _ _ _ _ _ _ s.known takes))) (all_noted all left p count old _ _ _ s notes)

pub at_fault : (all left next : Option (List ℕ)) (p count : ℕ) (fault : ImageFault)
    (old : List Told) (phase : Phase) (mid new : List Told) (line : ImageLine)
    → SoFar all left p count old phase mid
    → IfKnown left next (TakesFault p [] fault) → new ≡ noted_all mid (in_list (under_way phase))
    → line.items ≡ count → line.stop ≡ Fault fault
    → Adds all next old line new
at_fault all left next p count fault old phase mid new line s takes notes counted stop =
    adds all next _ _ line _ (counted ∙ sym s.counted) (subst
    (λ (r : ImageStop). IfKnown all next (StopsBehind s.items r)) (sym stop)
    (known_fault _ _ _ _ _ _ _ s.known takes)) (all_noted all left p count old _ _ _ s notes)

front_of : (all left : Option (List ℕ)) (P : List ℕ → List ℕ → Type 0)
    → IfSome all (λ xs. (ys : List ℕ) × (left ≡ Some ys) × P xs ys)
    → IfSome all (λ xs. (ys : List ℕ) × P xs ys)
front_of None left P h = tt
front_of (Some xs) left P (ys, e, p) = (ys, p)

placed : (all : Option (List ℕ)) (p : ℕ) (items : List TapeItem)
    → IfSome all (λ xs. (ys : List ℕ) × Walks 0 xs items p ys)
    → IfSome all (λ xs. (place : ℕ) × (ys : List ℕ) × Walks 0 xs items place ys)
placed None p items h = tt
placed (Some xs) p items (ys, w) = (p, ys, w)

pub in_part : (all left : Option (List ℕ)) (p count : ℕ) (old : List Told)
    (phase : Phase) (mid new : List Told)
    → SoFar all left p count old phase mid → new ≡ mid → AddsInPart all old new
in_part all left p count old phase mid new s same = grind (arith, placed, front_of, IfKnown-some)

one_volume : (r : Result Vol1 LabelFault) → blocks_of (volume_with r) ≤ 0 + 1
one_volume (Ok label) = omega arith
one_volume (Err _) = omega arith

one_header : (v : List ℕ) (r : Result Head1 LabelFault) → blocks_of (header_with v r) ≤ 0 + 1
one_header v (Ok head) = omega arith
one_header v (Err _) = omega arith

one_labels : (v : List ℕ) (is : Bool) (r : Result Head1 LabelFault)
    → blocks_of (if is then Labels v else header_with v r) ≤ 0 + 1
one_labels v true r = omega arith
one_labels v false r = one_header v r

pub one_second : (met : Met) (k : Option Kind) → blocks_of (second_with met k) ≤ met.blocks + 1
one_second met (Some kinds.Hdr2) = omega arith
one_second met _ = omega arith

one_closed : (met : Met) (trail : Trail1) (c : Bool)
    → blocks_of (told_if met trail c).0 ≤ met.blocks + 1
one_closed met trail true = omega arith
one_closed met trail false = omega arith

one_told : (met : Met) (r : Result Trail1 LabelFault)
    → blocks_of (told_with met r).0 ≤ met.blocks + 1
one_told met (Ok trail) = one_closed met trail (closes met trail)
one_told met (Err _) = omega arith

-- a step finds at most one data block
pub one_block : (p : Phase) (x : TapeItem) → blocks_of (step p x).0 ≤ blocks_of p + 1
one_block Volume (block b) = one_volume (vol1_at b)
one_block (Labels v) (block b) = one_labels v (is_volume_label b) (head1_at b)
one_block (Second met) (block b) = one_second met (kind_at b)
one_block (Headers met) (block b) = omega arith
one_block (Data met) (block b) = omega arith
one_block (Trailer met) (block b) = one_told met (trail1_at b)
one_block (Trailers v) (block b) = omega arith
one_block (Next v) (block b) = one_header v (head1_at b)
one_block _ _ = omega arith
