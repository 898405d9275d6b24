-- Wrong answers that the contracts of `Session::reel` and `Session::save` exclude.
use Rattle.std.proofs.Common.{◌≡◌, Bool, ℕ, List, ◌∷◌, ◌++◌, false, sym, ap, ◌∙◌, subst, arith}
use Rattle.std.proofs.Common.{Option, refl}
use Rattle.std.proofs.Common.{Some, None, Ok, IfSome}
use Rattle.tape_blocks.specs.Block.{Portion}
use Rattle.tape_image.specs.{declared.item.ImageFault.ImageFault, Begins.Begins, Begins.Stop}
use Rattle.tape_image.specs.{Reader.IfKnown, Tape.TapeItem}
use Rattle.tape_set.specs.{declared.position.Position.Position, Position.block_of}
use Rattle.tape_set.specs.declared.position.Position.TheVariants.{Awaits, Finished}
use Rattle.tape_core.specs.declared.event.Answer.TheVariants.{SectionDone, Complete, Useless}
use Rattle.tape_core.specs.{declared.event.Reason.Reason, Place.rest_of, Point.Point, State.State}
use Rattle.tape_core.specs.declared.event.Reason.TheVariants.{BlockCount}
use Rattle.tape_core.specs.{Table.mount_of, Wide.step_by}
use Rattle.tape_run.specs.Given as given
use Rattle.tape_run.specs.{Given.IsGiven, Reels.Reads, Reels.behind_items, Seen.Seen, Seen.seen}
use Rattle.tape_run.specs.{Steps.Reeled, declared.reel_reader.ReelAnswer.ReelAnswer}
use Rattle.tape_run.proofs.{ByTable.behind_app, Completes.step_tells}
use Rattle.tape_run.proofs.Finals.{behind_final}
use Rattle.tape_core.specs.Follows.{IsFinal}
use Rattle.tape_run.proofs.session.Session.reel.Reads as reel
use Rattle.tape_run.proofs.session.Session.save.Reads as save

-- ---- a checkpoint is saved

-- save_tells_no_sink: block 5 was not saved in the sink, and a crash leaves the start of the file
save_tells_no_sink : (S : _) (LS : _) (g : _) (d : _) (κs : _) (a : _) (point : _) (s : _)
    (held there : List Portion) (older : Point) → save.Learnt-named S LS g d κs a (Ok point) s
    → g.holds a.0.now.sink held → point.position ≡ Awaits 1 5 0
    → (g.crashes s.0.now.sink).returns older there → older.position ≡ Awaits 1 0 0 → ⊥
save_tells_no_sink S LS g d κs a point s held there older l was five back start =
    let e : older ≡ point = ((l.kept held was).0 older there back).0 in
    let n : 0 ≡ 5 = ap block_of (sym start ∙ ap (λ c. c.position) e ∙ five) in
    absurd (omega (arith, n))

-- ---- what a reel answers

-- the answer of a reel that is read from this position on, if the reader's bytes are known
read_from : (wide : Bool) (old : State) (p : Position) (before after : Option (List ℕ))
    (bytes left : List ℕ)
    (answer : ReelAnswer) (new : State)
    → IfKnown before after (λ xs ys. Reads wide old.position old (mount_of old) xs ys answer new)
    → old.position ≡ p → before ≡ Some bytes → after ≡ Some left
    → Reads wide p old (mount_of old) bytes left answer new
read_from wide old p before after bytes left answer new k q b e =
    let f : (xs ys : List ℕ) → Type 0 =
    λ xs ys. Reads wide old.position old (mount_of old) xs ys answer new in
    let r : f bytes left = subst (λ v. IfKnown (Some bytes) v f) e
    (subst (λ v. IfKnown v after f) b k) in
    subst (λ v. Reads wide v old (mount_of old) bytes left answer new) q r

-- complete_without_end: of a complete file another answer than Complete.
complete_without_end : (S : _) (R : _) (LS : _) (LR : _) (g : _) (d : _) (h : _) (e : _) (κs : _)
    (a : _) (answer : _) (s : _) (bytes left : List ℕ)
    → reel.Learnt-named S R LS LR g d h e κs a (Ok answer) s
    → a.0.now.core.position ≡ Finished → h.remaining a.1.0.now ≡ Some bytes
    → h.remaining s.1.0.now ≡ Some left → answer.answer ≡ SectionDone → ⊥
complete_without_end S R LS LR g d h e κs a answer s bytes left l p b q w =
    let c = read_from _ _ _ _ _ _ _ _ _ l.answer p b q in
    let f : SectionDone ≡ Complete = sym w ∙ c.1 in
    absurd (cc)

-- complete_while_something_is_wanted: the answer is Complete, although block 3 is expected
complete_while_something_is_wanted : (S : _) (R : _) (LS : _) (LR : _) (g : _) (d : _) (h : _)
    (e : _) (κs : _) (a : _) (answer : _) (s : _)
    → reel.Learnt-named S R LS LR g d h e κs a (Ok answer) s
    → answer.answer ≡ Complete → s.0.now.core.position ≡ Awaits 1 3 0 → ⊥
complete_while_something_is_wanted S R LS LR g d h e κs a answer s l told waits =
    let f : Awaits 1 3 0 ≡ Finished = sym waits ∙ l.complete told in
    absurd (cc f)

-- ---- a trailer label with another count

-- where a reel that was read without a fault leads: where the table leads over all its items
led_to : (old new : Seen) (bytes : List ℕ) (xs : List TapeItem) (end : ℕ) (stop : Stop)
    (fault : Option ImageFault) (left : Option (List ℕ))
    → Reeled bytes left (given.is_device fault) old new → fault ≡ None
    → Begins 0 bytes xs end stop → new.place ≡ rest_of
    (behind_items old.wide (mount_of old.place) xs)
led_to old new bytes xs end stop fault left r none b =
    let all : IsGiven false bytes left r.given
    = subst (λ f. IsGiven (given.is_device f) bytes left r.given) none r.is_given in
    (r.table xs end stop (subst (λ v. Begins 0 v xs end stop) (sym all) b)).place

-- the same for a session
led_there : (old new : Seen) (known : Option (List ℕ)) (bytes : List ℕ) (xs : List TapeItem)
    (end : ℕ) (stop : Stop) (fault : Option ImageFault) (left : Option (List ℕ))
    → IfSome known (λ v. Reeled v left (given.is_device fault) old new) → known ≡ Some bytes
    → fault ≡ None → Begins 0 bytes xs end stop
    → new.place ≡ rest_of (behind_items old.wide (mount_of old.place) xs)
led_there old new known bytes xs end stop fault left r is none b =
    led_to old new bytes xs end stop fault left
    (subst (λ v. IfSome v (λ z. Reeled z left (given.is_device fault) old new)) is r) none b

-- after an item that ended the reading before the end of the file, the file is not complete
not_finished : (wide : Bool) (core : State) (x : TapeItem) (more : List TapeItem) (why : Reason)
    → (step_by wide core (Some x)).0 ≡ Useless why
    → (behind_items wide (step_by wide core (Some x)).1 more).position ≡ Finished → ⊥
not_finished wide core x more why told end =
    let new : State = (step_by wide core (Some x)).1 in
    let final : IsFinal (step_by wide core (Some x)).0 = subst IsFinal (sym told) tt in
    let same = ap (λ (c : State). c.position)
    (behind_final wide core new x (step_by wide core (Some x)).0 more refl final).0 in
    let all : Complete ≡ Useless why =
    sym ((step_tells wide core (Some x)).told (sym same ∙ end)) ∙ told in
    absurd (cc)

-- count_passed_over: a trailer label counts 9 blocks but 6 were seen, on any tape, and yet the
-- session is at the end of the file
count_passed_over : (S : _) (R : _) (LS : _) (LR : _) (g : _) (d : _) (h : _) (e : _) (κs : _)
    (a : _) (answer : _) (s : _) (held : List Portion) (bytes : List ℕ) (end : ℕ) (stop : Stop)
    (items more : List TapeItem) (trailer : TapeItem)
    → reel.Learnt-named S R LS LR g d h e κs a (Ok answer) s
    → g.holds a.0.now.sink held → h.remaining a.1.0.now ≡ Some bytes → answer.fault ≡ None
    → Begins 0 bytes (items ++ trailer ∷ more) end stop
    → (step_by a.0.now.wide (behind_items a.0.now.wide (mount_of (rest_of a.0.now.core)) items)
    (Some trailer)).0
    ≡ Useless (BlockCount 9 6)
    → s.0.now.core.position ≡ Finished → ⊥
count_passed_over S R LS LR g d h e κs a answer s held bytes end stop items more trailer l was
    known none image counts finished =
    let r = l.ok held was in
    let front : State = mount_of (rest_of a.0.now.core) in
    let all : List TapeItem = items ++ trailer ∷ more in
    let led : rest_of s.0.now.core ≡ rest_of (behind_items a.0.now.wide front all)
    = led_there (seen g a.0.now held) (seen g s.0.now r.0)
    (h.remaining a.1.0.now) bytes all end stop answer.fault (h.remaining s.1.0.now) r.2.2 known none
    image in
    not_finished a.0.now.wide (behind_items a.0.now.wide front items) trailer more
    (BlockCount 9 6) counts
    (sym (ap (λ c. c.position) (behind_app a.0.now.wide front items (trailer ∷ more)))
    ∙ sym (ap (λ c. c.position) led) ∙ finished)
