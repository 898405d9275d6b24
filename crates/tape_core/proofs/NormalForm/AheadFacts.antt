-- What follows for two readings of a tape from a fact about one step.
use Rattle.std.proofs.Common.{◌≡◌, ℕ, ◌≤◌, List, [], ◌∷◌, ◌++◌, false, Option}
use Rattle.std.proofs.Common.{Some, None}
use Rattle.std.proofs.Common.{refl, sym, ap, ◌∙◌}
use Rattle.std.proofs.{Common.append-nil}
use Rattle.tape_image.specs.Tape.{TapeItem}
use Rattle.tape_core.specs.declared.event.{Answer.Answer, Phase.Phase}
use Rattle.tape_core.specs.declared.event.Answer.TheVariants.{Passed, Deliver, SectionDone}
use Rattle.tape_core.specs.declared.event.Answer.TheVariants.{Complete, Useless}
use Rattle.tape_core.specs.declared.event.Phase.TheVariants as phases
use Rattle.tape_set.specs.{declared.position.Position.Position, Position.block_of}
use Rattle.tape_core.specs.declared.normal.numbers.FileSeen.{FileSeen}
use Rattle.tape_core.specs.{State.State, Known.is_finished}
use Rattle.tape_core.specs.Table.{Outcome, step_of}
use Rattle.tape_core.specs.declared.normal.code.Code.TheVariants.{Ascii}
use Rattle.tape_core.specs.declared.normal.machine.TapePlace.{TapePlace}
use Rattle.tape_core.specs.declared.normal.machine.TapePlace.TheVariants as places
use Rattle.tape_core.specs.NormalForm.{Steps.from}
use Rattle.tape_core.specs.NormalForm.Ahead.{delivered, delivered_by, closed, closed_by, IsAhead}

-- ---- answers

abbrev pub EndsBare : Answer → Type 0
EndsBare (Useless why) = Unit {0}
EndsBare answer = ⊥

abbrev pub GoesOn : Answer → Type 0
GoesOn Passed = Unit {0}
GoesOn Deliver = Unit {0}
GoesOn answer = ⊥

-- ---- the reader's phases and the places of the normal form

-- the number of blocks read, if it is known, is n
abbrev pub Counts : ℕ → FileSeen → Type 0
Counts n seen = (m : ℕ) → seen.blocks ≡ Some m → m ≡ n

abbrev pub Fits : Position → Phase → TapePlace → Type 0
Fits p phases.Volume (places.Start n) = Unit {0}
Fits p phases.VolumeLabels (places.Labels Ascii n) = Unit {0}
Fits p (phases.Header2 h w) (places.Second Ascii seen) = Counts 0 seen
Fits p (phases.Headers h f) (places.Headers Ascii seen) = Counts 0 seen
Fits p (phases.DataPassed h) (places.Data Ascii seen) = Unit {0}
Fits p (phases.DataWanted h f n) (places.Data Ascii seen) = (n ≤ block_of p) × Counts n seen
Fits p (phases.TrailerPassed h) (places.Trailer Ascii seen) = Unit {0}
Fits p (phases.TrailerWanted h f) (places.Trailer Ascii seen) = Counts (block_of p) seen
Fits p phases.Trailers (places.Trailers Ascii seen) = Unit {0}
Fits p phases.NextFile (places.Next Ascii seen) = Unit {0}
Fits p phase places.Over = Unit {0}
Fits p phase place = ⊥

-- the reader still needs something, and is at this place
pub record Stands (place : TapePlace) (core : State) : Type 0 where
  pub waits : is_finished core.position ≡ false
  pub fits : Fits core.position core.phase place

-- What an outcome for an item means: it ends the reading and completes nothing; or the item is
-- kept, and the reader is at the next place if the reading goes on; or another label that is passed
-- over replaces one that is passed over.
pub data Fact (core : State) (place : TapePlace) (x : TapeItem) (out : Outcome) : Type 0 where
  ends : EndsBare out.0 → Fact core place x out
  kept : (next : TapePlace) → ((xs : List TapeItem) → from place (x ∷ xs) ≡ x ∷ from next xs)
      → (GoesOn out.0 → Stands next out.1) → Fact core place x out
  changed : (next : TapePlace) (y : TapeItem)
      → ((xs : List TapeItem) → from place (x ∷ xs) ≡ y ∷ from next xs)
      → out.0 ≡ Passed → step_of core (Some y) ≡ out → Stands next out.1 → Fact core place x out

-- ---- what follows from a fact

pub ahead_same : (core : State) (xs : List TapeItem) → IsAhead core xs xs
ahead_same core xs =
    record { more = []; front = sym (append-nil (delivered core xs)); same = λ o e. e }

pub bare_delivers : (a : Answer) (x : TapeItem) (rest : List TapeItem) → EndsBare a
    → delivered_by a x rest ≡ []
bare_delivers (Useless why) x rest h = refl
bare_delivers Passed x rest h = absurd h
bare_delivers Deliver x rest h = absurd h
bare_delivers SectionDone x rest h = absurd h
bare_delivers Complete x rest h = absurd h

pub bare_closes : (a : Answer) (c : State) (rest : Option Outcome) → EndsBare a
    → closed_by (a, c) rest ≡ None
bare_closes (Useless why) c rest h = refl
bare_closes Passed c rest h = absurd h
bare_closes Deliver c rest h = absurd h
bare_closes SectionDone c rest h = absurd h
bare_closes Complete c rest h = absurd h

pub ahead_bare : (core : State) (x : TapeItem) (xs ys : List TapeItem)
    → EndsBare (step_of core (Some x)).0 → IsAhead core (x ∷ xs) ys
ahead_bare core x xs ys h =
    let out = step_of core (Some x) in
    let d : delivered core (x ∷ xs) ≡ [] = bare_delivers out.0 x (delivered out.1 xs) h in
    let n : closed core (x ∷ xs) ≡ None = bare_closes out.0 out.1 (closed out.1 xs) h in
    record {
      more = delivered core ys;
      front = ap (λ v. v ++ delivered core ys) (sym d);
      same = λ o e. absurd (let q : None ≡ Some o = sym n ∙ e in cc);
    }

-- the same outcome for two items, of which the second replaces the first
pub front_by : (a : Answer) (x y : TapeItem) (d e more : List TapeItem) → (a ≡ Deliver → y ≡ x)
    → (GoesOn a → e ≡ d ++ more)
    → (rest : List TapeItem) × (delivered_by a y e ≡ delivered_by a x d ++ rest)
front_by Passed x y d e more h g = (more, g tt)
front_by Deliver x y d e more h g =
    (more, ap (λ v. v ∷ e) (h refl) ∙ ap (λ v. x ∷ v) (g tt))
front_by SectionDone x y d e more h g = ([], refl)
front_by Complete x y d e more h g = ([], refl)
front_by (Useless why) x y d e more h g = ([], refl)

pub same_by : (a : Answer) (c : State) (d e : Option Outcome)
    → (GoesOn a → (o : Outcome) → d ≡ Some o → e ≡ Some o)
    → (o : Outcome) → closed_by (a, c) d ≡ Some o → closed_by (a, c) e ≡ Some o
same_by Passed c d e g o q = g tt o q
same_by Deliver c d e g o q = g tt o q
same_by SectionDone c d e g o q = q
same_by Complete c d e g o q = q
same_by (Useless why) c d e g o q = q

pub record IfGoesOn (a : Answer) (core : State) (xs ys : List TapeItem) : Type 0 where
  pub more : List TapeItem
  pub front : GoesOn a → delivered core ys ≡ delivered core xs ++ more
  pub same : GoesOn a → (o : Outcome) → closed core xs ≡ Some o → closed core ys ≡ Some o

pub goes_on : (a : Answer) (core : State) (xs ys : List TapeItem)
    → (GoesOn a → IsAhead core xs ys) → IfGoesOn a core xs ys
goes_on Passed core xs ys h =
    record { more = (h tt).more; front = λ _. (h tt).front; same = λ _. (h tt).same }
goes_on Deliver core xs ys h =
    record { more = (h tt).more; front = λ _. (h tt).front; same = λ _. (h tt).same }
goes_on SectionDone core xs ys h =
    record { more = []; front = λ g. absurd g; same = λ g. absurd g }
goes_on Complete core xs ys h =
    record { more = []; front = λ g. absurd g; same = λ g. absurd g }
goes_on (Useless why) core xs ys h =
    record { more = []; front = λ g. absurd g; same = λ g. absurd g }

pub ahead_step : (core : State) (x y : TapeItem) (xs ys : List TapeItem)
    → step_of core (Some y) ≡ step_of core (Some x)
    → ((step_of core (Some x)).0 ≡ Deliver → y ≡ x)
    → (GoesOn (step_of core (Some x)).0 → IsAhead (step_of core (Some x)).1 xs ys)
    → IsAhead core (x ∷ xs) (y ∷ ys)
ahead_step core x y xs ys e h g =
    let out = step_of core (Some x) in
    let i = goes_on out.0 out.1 xs ys g in
    let f = front_by out.0 x y (delivered out.1 xs) (delivered out.1 ys) i.more h i.front in
    let d : delivered core (y ∷ ys) ≡ delivered_by out.0 y (delivered out.1 ys) =
    ap (λ (o : Outcome). delivered_by o.0 y (delivered o.1 ys)) e in
    let c : closed core (y ∷ ys) ≡ closed_by out (closed out.1 ys) =
    ap (λ (o : Outcome). closed_by o (closed o.1 ys)) e in
    record {
      more = f.0;
      front = d ∙ f.1;
      same = λ o q. c ∙ same_by out.0 out.1 (closed out.1 xs) (closed out.1 ys) i.same o q;
    }
