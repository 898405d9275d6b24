-- A reading of a later file continues after that of an earlier one.
use Rattle.std.proofs.Common.{◌≡◌, ◌≢◌, ◌<◌, inl, inr, Bool, List, [], ◌∷◌, ◌++◌, false}
use Rattle.std.proofs.Common.{Some, refl, sym, ap, subst, ◌∙◌, append_assoc}
use Rattle.std.specs.List.{AllByRecursion}
use Rattle.tape_blocks.specs.Block.{Portion}
use Rattle.tape_image.specs.Tape.{TapeItem}
use Rattle.tape_set.specs.declared.position.Position.{Position}
use Rattle.tape_set.specs.declared.position.Position.TheVariants.{Awaits, Finished}
use Rattle.tape_core.specs.declared.event.Answer.TheVariants.{Passed, Deliver, SectionDone}
use Rattle.tape_core.specs.Behind.{passed_over, expected_over, PassesTo, AreInOrder, behind_of}
use Rattle.tape_core.specs.{declared.event.Answer.Answer, declared.event.Phase.Phase, State.State}
use Rattle.tape_core.specs.declared.event.Answer.TheVariants.{Complete, Useless}
use Rattle.tape_core.specs.declared.event.Phase.TheVariants.{Over, Broken, Volume, Trailers}
use Rattle.tape_core.specs.{Behind.mounted_behind, Known.is_finished}
use Rattle.tape_core.specs.Table.{Outcome, in_phase, passed, mount_of, mounted}
use Rattle.tape_core.specs.Wide.{step_by, read_as}
use Rattle.tape_core.specs.Place.{rest_of, resting}
use Rattle.tape_core.proofs.{WideReading.by_one_file, WideBehind.by_step_law}
use Rattle.tape_run.specs.Reels.{behind_items, answers_to, GoesOn}
use Rattle.tape_run.specs.ByTable.{delivered_parts, parts_by, parts_at, IsLed, IsCutAt, StopsInside}
use Rattle.tape_run.specs.ByTable.{PassedOver}
use Rattle.tape_run.specs.GoesBehind.{EndsSection, PassesFiles, LeadsOverAll}
use Rattle.tape_run.proofs.ByTable.{behind_app, delivered_app, led_nowhere}
use Rattle.tape_run.proofs.Completes.{step_tells}

-- an item after which the other reader continues: its effect on a reader of a later file
pub record PassedOne (wide : Bool) (first later : State) (x : TapeItem) : Type 0 where
  pub answer : (step_by wide later (Some x)).0 ≡ Passed
  pub next : (step_by wide later (Some x)).1
      ≡ in_phase later (passed_over (step_by wide first (Some x)).1.phase)

on_one : (wide : Bool) (first later : State) (x : TapeItem) (out : Outcome) → out
    ≡ step_by wide first (Some x)
    → PassesTo (expected_over out) later (step_by wide later (Some x)) → GoesOn out.0
    → PassedOne wide first later x
on_one wide first later x (Passed, s) is p on = record {
  answer = ap (λ (z : Outcome). z.0) p;
  next = ap (λ (z : Outcome). z.1) p
      ∙ ap (λ (z : Outcome). in_phase later (passed_over z.1.phase)) is;
}
on_one wide first later x (Deliver, s) is p on = record {
  answer = ap (λ (z : Outcome). z.0) p;
  next = ap (λ (z : Outcome). z.1) p
      ∙ ap (λ (z : Outcome). in_phase later (passed_over z.1.phase)) is;
}
on_one wide first later x (SectionDone, s) is p (inl on) = absurd (cc)
on_one wide first later x (SectionDone, s) is p (inr on) = absurd (cc)
on_one wide first later x (Complete, s) is p (inl on) = absurd (cc)
on_one wide first later x (Complete, s) is p (inr on) = absurd (cc)
on_one wide first later x (Useless why, s) is p (inl on) = absurd (cc)
on_one wide first later x (Useless why, s) is p (inr on) = absurd (cc)

-- and with the item that completes a section
end_one : (wide : Bool) (first later : State) (x : TapeItem) (out : Outcome)
    → PassesTo (expected_over out) later (step_by wide later (Some x)) → EndsSection out.0
    → step_by wide later (Some x) ≡ passed later Trailers
end_one wide first later x (Passed, s) p (inl on) = absurd (cc)
end_one wide first later x (Passed, s) p (inr on) = absurd (cc)
end_one wide first later x (Deliver, s) p (inl on) = absurd (cc)
end_one wide first later x (Deliver, s) p (inr on) = absurd (cc)
end_one wide first later x (SectionDone, s) p on = p
end_one wide first later x (Complete, s) p on = p
end_one wide first later x (Useless why, s) p (inl on) = absurd (cc)
end_one wide first later x (Useless why, s) p (inr on) = absurd (cc)

-- the file of a reader that continues is incomplete
pub still_waits : (wide : Bool) (core : State) (x : TapeItem) (q : Position)
    → q ≡ (step_by wide core (Some x)).1.position
    → GoesOn (step_by wide core (Some x)).0 → is_finished q ≡ false
still_waits wide core x (Awaits sect b part) is on = refl
still_waits wide core x Finished is (inl on) =
    absurd (let c = (step_tells wide core (Some x)).told (sym is) in cc)
still_waits wide core x Finished is (inr on) =
    absurd (let c = (step_tells wide core (Some x)).told (sym is) in cc)

in_order_on : (wide : Bool) (first later : State) (x : TapeItem) → AreInOrder first later
    → GoesOn (step_by wide first (Some x)).0 → PassedOne wide first later x
    → AreInOrder (step_by wide first (Some x)).1 (step_by wide later (Some x)).1
in_order_on wide first later x o on one = record {
  same_set = ap (λ (z : State). z.set_id) one.next ∙ (o.same_set
      ∙ sym ((by_one_file wide first (Some x)).set_id));
  earlier = subst (λ n. n < (step_by wide later (Some x)).1.file)
      (sym ((by_one_file wide first (Some x)).file))
      (subst (λ n. first.file < n) (sym (ap (λ (z : State). z.file) one.next)) o.earlier);
  first_waits = still_waits wide first x (step_by wide first (Some x)).1.position refl on;
  later_waits = ap (λ (z : State). is_finished z.position) one.next ∙ o.later_waits;
}

-- the answers and the state after all items, beginning in any phase
pub record PassedFrom (wide : Bool) (core : State) (items : List TapeItem) : Type 0 where
  pub answers : AllByRecursion (λ a. a ≡ Passed) (answers_to wide core items)
  pub behind : behind_items wide core items ≡ in_phase core Trailers
  pub nothing : delivered_parts wide core items ≡ []

no_parts : (x : TapeItem) (p : Position) (known : _) (a : Answer) → a ≡ Passed
    → parts_by a x p known ≡ []
no_parts x p known a is = subst (λ b. parts_by b x p known ≡ []) (sym is) refl

passed_from : (wide : Bool) (first later : State) (items : List TapeItem) (item : TapeItem)
    → AreInOrder first later → later.phase ≡ passed_over first.phase
    → AllByRecursion GoesOn (answers_to wide first items)
    → EndsSection (step_by wide (behind_items wide first items) (Some item)).0
    → PassedFrom wide later (items ++ item ∷ [])
passed_from wide first later [] item o there on ended =
    let p = end_one wide first _ _ _ (by_step_law wide _ _ item o there) ended in
    let answer : (step_by wide later (Some item)).0 ≡ Passed = ap (λ (z : Outcome). z.0) p in
    let none : parts_at wide later item ≡ [] = no_parts (read_as wide later item) later.position
    (step_by wide later (Some item)).1.known (step_by wide later (Some item)).0 answer in
    record {
      answers = (answer, tt);
      behind = ap (λ (z : Outcome). z.1) p;
      nothing = ap (λ (l : List Portion). l ++ []) none;
    }
passed_from wide first later (x ∷ xs) item o there (on, rest) ended =
    let one = on_one wide first _ _ _ refl (by_step_law wide _ _ x o there) on in
    let then = passed_from wide (step_by wide first (Some x)).1
    (step_by wide later (Some x)).1 xs item
    (in_order_on wide _ _ _ o on one) (ap (λ (z : State). z.phase) one.next) rest ended in
    let none : parts_at wide later x ≡ [] = no_parts (read_as wide later x) later.position
    (step_by wide later (Some x)).1.known
    (step_by wide later (Some x)).0 one.answer in
    record {
      answers = (one.answer, then.answers);
      behind = then.behind ∙ ap (λ (z : State). in_phase z Trailers) one.next;
      nothing = ap (λ (l : List Portion). l ++ delivered_parts wide (step_by wide later (Some x)).1
          (xs ++ item ∷ [])) none ∙ then.nothing;
    }

-- ---- a reel that is mounted

volume_of : (p : Phase) (q : Position) → p ≢ Broken → is_finished q ≡ false → mounted p q ≡ Volume
volume_of Broken q sound waits = absurd (sound refl)
volume_of Over Finished sound waits = absurd (cc)
volume_of Over (Awaits sect b part) sound waits = refl
volume_of _ Finished sound waits = absurd (cc)
volume_of _ (Awaits sect b part) sound waits = refl

trailers_of : (p : Phase) (q : Position) → p ≢ Broken → is_finished q ≡ false
    → mounted_behind p q ≡ Trailers
trailers_of Broken q sound waits = absurd (sound refl)
trailers_of Over Finished sound waits = absurd (cc)
trailers_of Over (Awaits sect b part) sound waits = refl
trailers_of _ Finished sound waits = absurd (cc)
trailers_of _ (Awaits sect b part) sound waits = refl

pub passes_files : PassesFiles
passes_files wide first later items item o sound r =
    let one : mounted first.phase first.position ≡ Volume =
    volume_of first.phase first.position r.sound o.first_waits in
    let two : mounted later.phase later.position ≡ Volume =
    volume_of later.phase later.position sound o.later_waits in
    let behind : mounted_behind later.phase later.position ≡ Trailers =
    trailers_of later.phase later.position sound o.later_waits in
    let all = passed_from wide (mount_of first) (mount_of later) items item (record {
      same_set = o.same_set;
      earlier = o.earlier;
      first_waits = o.first_waits;
      later_waits = o.later_waits;
    }) (two ∙ ap passed_over (sym one)) r.on r.ended in
    record {
      answers = all.answers;
      behind = all.behind ∙ ap (λ p. in_phase later p) (sym behind);
      nothing = all.nothing;
    }

-- where the table leads over all items, from where it leads over those that were not skipped
over_all : (wide : Bool) (core start : State) (front more : List TapeItem)
    → PassedOver wide core front start
    → (behind_items wide (mount_of core) (front ++ more) ≡ behind_items wide start more)
    × (delivered_parts wide (mount_of core) (front ++ more) ≡ delivered_parts wide start more)
over_all wide core start front more over = (
  behind_app wide (mount_of core) front more ∙ ap
      (λ (z : State). behind_items wide z more) over.behind,
  delivered_app wide (mount_of core) front more
      ∙ (ap (λ (l : List Portion). l ++ delivered_parts wide
      (behind_items wide (mount_of core) front) more)
      over.nothing ∙ ap (λ (z : State). delivered_parts wide z more) over.behind),
)

pub leads_over_all : LeadsOverAll
leads_over_all wide core start new front more held now over led =
    let (place, parts) = over_all wide core start front more over in
    record {
      place = led.place ∙ ap rest_of (sym place);
      parts = led.parts ∙ ap (λ (l : List Portion). held ++ l) (sym parts);
    }

pub cuts_over_all : (wide : Bool) (core start new : State) (front more : List TapeItem)
    (held now : List Portion) → PassedOver wide core front start
    → IsCutAt wide more start new held now
    → IsCutAt wide (front ++ more) (mount_of core) new held now
cuts_over_all wide core start new front more held now over c =
    let (place, parts) = over_all wide core start front c.before over in
    record {
      before = front ++ c.before;
      item = c.item;
      behind = c.behind;
      all = ap (λ (l : List TapeItem). front ++ l) c.all
          ∙ sym (append_assoc front c.before (c.item ∷ c.behind));
      stops = subst (λ (z : State). StopsInside wide z new c.item
          (held ++ delivered_parts wide (mount_of core) (front ++ c.before)) now) (sym place)
          (subst (λ (l : List Portion). StopsInside wide
          (behind_items wide start c.before) new c.item
          (held ++ l) now) (sym parts) c.stops);
    }

resting_behind : (p : Phase) (q : Position) → mounted_behind (resting p) q ≡ mounted_behind p q
resting_behind Broken q = refl
resting_behind _ Finished = refl
resting_behind _ (Awaits sect b part) = refl

-- a reading continues in the same way, whatever reading was under way
pub behind_rest : (core : State) → behind_of core ≡ behind_of (rest_of core)
behind_rest core = ap (λ p. record core { phase = p })
    (sym (resting_behind core.phase core.position))

-- if a file is complete, nothing is read
pub led_nowhere_behind : (wide : Bool) (core : State) (held : List Portion) (xs : List TapeItem)
    → core.position ≡ Finished → IsLed wide xs (behind_of (rest_of core)) (rest_of core) held held
led_nowhere_behind wide core held xs e =
    let over : behind_of (rest_of core) ≡ mount_of (rest_of core) =
    ap (λ p. record core { phase = p }) (at_end (resting core.phase) core.position e) in
    subst (λ (z : State). IsLed wide xs z (rest_of core) held held) (sym over)
    (led_nowhere wide core held xs e)
  where
    at_end : (p : Phase) (q : Position) → q ≡ Finished → mounted_behind p q ≡ mounted p q
    at_end p (Awaits sect b part) e = absurd (cc)
    at_end Broken Finished e = refl
    at_end _ Finished e = refl
