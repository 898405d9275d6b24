-- Items that the table processes one after another.
use Rattle.std.proofs.Common.{Bool, true, false, zero, suc, ◌+◌, ◌-◌, ◌<◌, ◌≤◌, arith, take, length}
use Rattle.std.proofs.Common.{length-drop, ◌≡◌}
use Rattle.std.proofs.Common.{◌≢◌, ℕ, List, [], ◌∷◌, ◌++◌, drop, Option, Some, None, refl, sym, ap}
use Rattle.std.proofs.Common.{subst, ◌∙◌, append_assoc, append-nil}
use Rattle.std.proofs.Math.Seq.{take-nil}
use Rattle.tape_blocks.specs.{Block.Portion, Block.Holds, Judged.begun_behind}
use Rattle.tape_image.specs.Tape.{TapeItem, block}
use Rattle.tape_set.specs.{Lawful.FileForm, Position.part_of, Position.at_part}
use Rattle.tape_set.specs.declared.position.Position.{Position}
use Rattle.tape_set.specs.declared.position.Position.TheVariants.{Awaits, Finished}
use Rattle.tape_core.specs.{declared.event.Answer.Answer, declared.event.Phase.Phase, State.State}
use Rattle.tape_core.specs.{declared.event.Phase.TheVariants.Broken, Parts.parts_in}
use Rattle.tape_core.specs.declared.event.Answer.TheVariants.{Deliver}
use Rattle.tape_core.specs.{Follows.IsFinal, Place.rest_of, Place.place_of, Place.resting}
use Rattle.tape_core.specs.Table.{saved, mount_of, mounted}
use Rattle.tape_core.specs.Wide.{step_by, read_as, bytes_as}
use Rattle.tape_core.specs.Table.{Outcome}
use Rattle.tape_core.specs.Table as Table
use Rattle.tape_core.specs.Wide as Wide
use Rattle.tape_core.proofs.{WideSteps.step_agrees, WideReading.delivers_same}
use Rattle.tape_core.proofs.BlockLaws.{parts_in_it}
use Rattle.tape_run.specs.ByTable.{parts_by, parts_at, delivered_parts, IsLed}
use Rattle.tape_run.specs.{Reels.behind_items, Puts.refused_point, ByTable.StopsInside}
use Rattle.tape_run.proofs.Places.{refused_position}
use Rattle.tape_run.proofs.Finals.{IsIdle, by_none, behind_final, idle_items}

-- ---- one item

-- the parts that an event delivers to a core: an item or the end of the reel
abbrev pub parts_of_arrival : Bool → State → Option TapeItem → List Portion
parts_of_arrival wide core None = []
parts_of_arrival wide core (Some item) = parts_at wide core item

by_delivery : (a : Answer) (k : Option FileForm) (p : Position) (bytes : List ℕ) (form : FileForm)
    → a ≡ Deliver → k ≡ Some form
    → parts_by a (block bytes) p k ≡ drop (part_of p) (parts_in form bytes)
by_delivery a k p bytes form e f = rw (e, f) refl

-- a block as a reading takes it
pub read_block : (wide : Bool) (core : State) (bytes : List ℕ)
    → read_as wide core (block bytes) ≡ block (bytes_as wide core bytes)
read_block true core bytes = refl
read_block false core bytes = refl

-- The step that delivers the expected block, in either reading.
pub awaited_step : (wide : Bool) (core new : State) (came : Option TapeItem)
    (bytes content : List ℕ) → came ≡ Some (block bytes) → content ≡ bytes_as wide core bytes
    → Table.step_of core (Some (block content)) ≡ (Deliver, new)
    → (Deliver, new) ≡ step_by wide core came
awaited_step false core new came bytes content is value step =
    sym step ∙ (ap (λ (b : List ℕ). Table.step_of core (Some (block b))) value
    ∙ ap (Table.step_of core) (sym is))
awaited_step true core new came bytes content is value step =
    let agrees : Wide.step_of core (Some (block content)) ≡ Table.step_of core
    (Some (block content)) =
    step_agrees core (Some (block content)) (λ f e. cc
    (sym (ap (λ (z : Outcome). z.0) step) ∙ e)) in
    sym step ∙ (sym agrees ∙ (ap (λ (b : List ℕ). Wide.step_of core (Some (block b))) value
    ∙ ap (step_by true core) (sym is)))

-- What is delivered in either reading is the block's content, as the table says.
pub delivers_content : (wide : Bool) (core : State) (bytes content : List ℕ)
    → content ≡ bytes_as wide core bytes
    → (step_by wide core (Some (block bytes))).0 ≡ Deliver
    → (Table.step_of core (Some (block content))).0 ≡ Deliver
delivers_content false core bytes content value d =
    ap (λ (b : List ℕ). (Table.step_of core (Some (block b))).0) value ∙ d
delivers_content true core bytes content value d =
    ap (λ (b : List ℕ). (Table.step_of core (Some (block b))).0) value
    ∙ (sym (ap (λ (z : Outcome). z.0)
    (delivers_same core (Some (block (bytes_as true core bytes))) d)) ∙ d)

-- the parts of a block that was delivered, from the expected one on
pub puts_delivered : (wide : Bool) (core new : State) (answer : Answer) (came : Option TapeItem)
    (x : TapeItem) (bytes : List ℕ) (form : FileForm) (parts : List Portion) (first : ℕ)
    → (answer, new) ≡ step_by wide core came → answer ≡ Deliver → came ≡ Some x
    → read_as wide core x ≡ block bytes
    → new.known ≡ Some form → Holds form.format form.rec_len form.offset bytes parts
    → first ≡ part_of core.position
    → drop first parts ≡ parts_of_arrival wide core came
puts_delivered wide core new answer came x bytes form parts first step is e taken known h at =
    let there : step_by wide core (Some x) ≡ (answer, new) =
    ap (step_by wide core) (sym e) ∙ sym step in
    let here : parts_at wide core x ≡ drop (part_of core.position) (parts_in form bytes) =
    ap (λ (y : TapeItem). parts_by (step_by wide core (Some x)).0 y core.position
    (step_by wide core (Some x)).1.known) taken
    ∙ by_delivery (step_by wide core (Some x)).0 (step_by wide core (Some x)).1.known
    core.position bytes form (ap (λ (z : Answer × State). z.0) there ∙ is)
    (ap (λ (z : Answer × State). z.1.known) there ∙ known) in
    ap (λ (n : ℕ). drop n parts) at
    ∙ (ap (drop (part_of core.position)) (sym (parts_in_it form bytes parts h))
    ∙ (sym here ∙ ap (parts_of_arrival wide core) (sym e)))

none_came : (wide : Bool) (core new : State) (answer : Answer) (came : Option TapeItem)
    → (answer, new) ≡ step_by wide core came → answer ≢ Deliver → parts_of_arrival wide core came
    ≡ []
none_came wide core new answer None step ne = refl
none_came wide core new answer (Some x) step ne =
    by_none (step_by wide core (Some x)).0 (read_as wide core x) core.position
    (step_by wide core (Some x)).1.known
    (λ e. ne (ap (λ (z : Answer × State). z.0) step ∙ e))

-- no parts, if the item delivers none
pub puts_none : (wide : Bool) (core new : State) (answer : Answer) (came : Option TapeItem)
    (held : List Portion)
    → (answer, new) ≡ step_by wide core came → answer ≢ Deliver
    → held ≡ held ++ parts_of_arrival wide core came
puts_none wide core new answer came held step ne =
    sym (ap (λ (l : List Portion). held ++ l) (none_came wide core new answer came step ne)
    ∙ append-nil held)

-- ---- items one after another

pub behind_app : (wide : Bool) (core : State) (xs ys : List TapeItem)
    → behind_items wide core (xs ++ ys) ≡ behind_items wide (behind_items wide core xs) ys
behind_app wide core [] ys = refl
behind_app wide core (x ∷ xs) ys = behind_app wide (step_by wide core (Some x)).1 xs ys

pub delivered_app : (wide : Bool) (core : State) (xs ys : List TapeItem)
    → delivered_parts wide core (xs ++ ys)
    ≡ delivered_parts wide core xs ++ delivered_parts wide (behind_items wide core xs) ys
delivered_app wide core [] ys = refl
delivered_app wide core (x ∷ xs) ys =
    ap (λ (l : List Portion). parts_at wide core x ++ l)
    (delivered_app wide (step_by wide core (Some x)).1 xs ys)
    ∙ sym (append_assoc (parts_at wide core x)
    (delivered_parts wide (step_by wide core (Some x)).1 xs)
    (delivered_parts wide (behind_items wide (step_by wide core (Some x)).1 xs) ys))

-- the core after one more item
pub core_more : (wide : Bool) (old mid new : State) (answer : Answer) (items : List TapeItem)
    (item : TapeItem)
    → (answer, new) ≡ step_by wide mid (Some item) → mid ≡ behind_items wide old items
    → new ≡ behind_items wide old (items ++ item ∷ [])
core_more wide old mid new answer items item step e =
    ap (λ (z : Answer × State). z.1) step
    ∙ (ap (λ (c : State). (step_by wide c (Some item)).1) e ∙ sym
    (behind_app wide old items (item ∷ [])))

-- the parts after one more item
pub parts_more : (wide : Bool) (old mid : State) (held now then : List Portion)
    (items : List TapeItem)
    (item : TapeItem)
    → then ≡ now ++ parts_at wide mid item → mid ≡ behind_items wide old items
    → now ≡ held ++ delivered_parts wide old items
    → then ≡ held ++ delivered_parts wide old (items ++ item ∷ [])
parts_more wide old mid held now then items item puts e f =
    grind (arith, append_assoc, append-nil, delivered_app wide)

-- after a final answer the other items of the reel do not matter
pub led_by_final : (wide : Bool) (old mid new : State) (answer : Answer) (held then : List Portion)
    (items more xs : List TapeItem) (item : TapeItem)
    → (answer, new) ≡ step_by wide mid (Some item) → IsFinal answer
    → new ≡ behind_items wide old (items ++ item ∷ [])
    → then ≡ held ++ delivered_parts wide old (items ++ item ∷ [])
    → xs ≡ (items ++ item ∷ []) ++ more
    → IsLed wide xs old (rest_of new) held then
led_by_final wide old mid new answer held then items more xs item step final core parts e =
    let (rest, none) = behind_final wide mid new item answer more step final in
    let upto = items ++ item ∷ [] in
    record {
      place = sym (ap (λ (z : List TapeItem). rest_of (behind_items wide old z)) e
          ∙ (ap rest_of (behind_app wide old upto more)
          ∙ (ap (λ (c : State). rest_of (behind_items wide c more)) (sym core) ∙ rest)));
      parts = parts ∙ ap (λ (l : List Portion). held ++ l)
          (sym (ap (delivered_parts wide old) e ∙ (delivered_app wide old upto more
          ∙ (ap (λ (c : State). delivered_parts wide old upto ++ delivered_parts wide c more)
          (sym core)
          ∙ (ap (λ (l : List Portion). delivered_parts wide old upto ++ l) none
          ∙ append-nil (delivered_parts wide old upto))))));
    }

-- all items were taken
pub led_to_end : (wide : Bool) (old mid new : State) (held now : List Portion)
    (items xs : List TapeItem)
    → rest_of new ≡ rest_of mid → mid ≡ behind_items wide old items
    → now ≡ held ++ delivered_parts wide old items → xs ≡ items → IsLed wide xs old
    (rest_of new) held now
led_to_end wide old mid new held now items xs same core parts e = record {
  place = same ∙ (ap rest_of core ∙ ap (λ (z : List TapeItem). rest_of (behind_items wide old z))
      (sym e));
  parts = parts ∙ ap (λ (z : List TapeItem). held ++ delivered_parts wide old z) (sym e);
}

-- ---- preserved properties, from reel to reel

mounted_resting : (phase : Phase) (p : Position) → mounted (resting phase) p ≡ mounted phase p
mounted_resting Broken p = refl
mounted_resting _ Finished = refl
mounted_resting _ (Awaits sect b part) = refl

pub resting_mounted : (phase : Phase) (p : Position) → resting (mounted phase p) ≡ resting phase
resting_mounted Broken p = refl
resting_mounted _ Finished = refl
resting_mounted _ (Awaits sect b part) = refl

pub resting_twice : (phase : Phase) → resting (resting phase) ≡ resting phase
resting_twice Broken = refl
resting_twice _ = refl

-- a mount begins in the same way, whatever reading was under way
pub mount_rest : (core : State) → mount_of core ≡ mount_of (rest_of core)
mount_rest core =
    ap (λ (z : Phase). record core { phase = z }) (sym (mounted_resting core.phase core.position))

-- if a file is complete, nothing is read
pub led_nowhere : (wide : Bool) (core : State) (held : List Portion) (xs : List TapeItem)
    → core.position ≡ Finished → IsLed wide xs (mount_of (rest_of core)) (rest_of core) held held
led_nowhere wide core held xs e =
    let mount = mount_of (rest_of core) in
    let (rest, none) = idle_items wide xs mount
    (subst (λ (p : Position). IsIdle p mount.phase) (sym e)
    tt) in
    record {
      place = sym (rest ∙ ap (λ (z : Phase). record core { phase = z })
          (resting_mounted (resting core.phase) core.position ∙ resting_twice core.phase));
      parts = sym (ap (λ (l : List Portion). held ++ l) none ∙ append-nil held);
    }

-- ---- a part that was refused

pub drop_take : (f m : ℕ) (xs : List Portion) → drop f (take (f + m) xs) ≡ take m (drop f xs)
drop_take zero m xs = let e : zero + m ≡ m = omega arith in rw e refl
drop_take (suc f) m [] = rw (take-nil {A = Portion} (suc f + m), take-nil {A = Portion} m) refl
drop_take (suc f) m (x ∷ xs) =
    let e : suc f + m ≡ suc (f + m) = omega arith in
    rw e (drop_take f m xs)

-- the parts of a block before the refused one
pub puts_front : (wide : Bool) (core new : State) (x : TapeItem) (bytes : List ℕ) (form : FileForm)
    (parts held : List Portion) (first n : ℕ) (place : State)
    → (Deliver, new) ≡ step_by wide core (Some x) → read_as wide core x ≡ block bytes
    → new.known ≡ Some form
    → Holds form.format form.rec_len form.offset bytes parts → first ≡ part_of core.position
    → first ≤ n → n < length parts
    → place ≡ place_of (refused_point (saved core 0) (saved new 0) n
    (begun_behind core.begun (drop first (take n parts))))
    → StopsInside wide core place x held (held ++ drop first (take n parts))
puts_front wide core new x bytes form parts held first n place step taken known h at le lt back =
    let more = n - first in
    let up : n ≡ first + more = omega (arith, le) in
    let all : drop first parts ≡ parts_at wide core x =
    puts_delivered wide core new Deliver
    (Some x) x bytes form parts first step refl refl taken known
    h at in
    let put : drop first (take n parts) ≡ take more (parts_at wide core x) =
    ap (λ (k : ℕ). drop first (take k parts)) up
    ∙ (drop_take first more parts ∙ ap (take more) all) in
    let number : n ≡ part_of core.position + more = up ∙ ap (λ (f : ℕ). f + more) at in
    record {
      delivers = sym (ap (λ (z : Answer × State). z.0) step);
      more = more;
      within = omega (arith, le, lt, length-drop first parts, ap length all);
      parts = ap (λ (l : List Portion). held ++ l) put;
      position = ap (λ (z : State). z.position) back
          ∙ (refused_position core new n _ ∙ ap (λ (k : ℕ). at_part k core.position) number);
      place = back ∙ (ap (λ (z : State). place_of (refused_point (saved core 0) (saved z 0) n
          (begun_behind core.begun (drop first (take n parts)))))
          (ap (λ (z : Answer × State). z.1) step)
          ∙ (ap (λ (k : ℕ). place_of (refused_point (saved core 0)
          (saved (step_by wide core (Some x)).1 0) k
          (begun_behind core.begun (drop first (take n parts))))) number
          ∙ ap (λ (l : List Portion). place_of (refused_point (saved core 0)
          (saved (step_by wide core (Some x)).1 0) (part_of core.position + more)
          (begun_behind core.begun l))) put));
    }
