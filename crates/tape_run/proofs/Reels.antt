-- A core's answers to the items of a reel, and to the end of the reel.
use Rattle.std.proofs.Common.{◌≡◌, ℕ, ◌+◌, Bool, List, [], ◌∷◌, ◌++◌, Option, Some, None, refl, sym}
use Rattle.std.proofs.Common.{ap}
use Rattle.std.proofs.Common.{Result, Ok, Err, subst, ◌∙◌, inl, inr, arith}
use Rattle.std.specs.List.{AllByRecursion}
use Rattle.tape_image.specs.{declared.item.ImageFault.ImageFault, declared.item.Ending.Ending}
use Rattle.tape_image.specs.{Tape.TapeItem, Tape.block, Begins.Walks, Reader.Reader, Reader.IfKnown}
use Rattle.tape_image.specs.Step.{TakesEnd, TakesFault, Meets, GivesItem}
use Rattle.tape_image.specs.Step as image
use Rattle.tape_image.proofs.Walks.{Walks-nil, Walks-trans, Walks-item, TakesEnd-behind}
use Rattle.tape_image.proofs.Walks.{TakesFault-behind, known_then, known_same}
use Rattle.tape_core.specs.declared.event.Answer.TheVariants.{Passed, Deliver, SectionDone}
use Rattle.tape_core.specs.{declared.event.Answer.Answer, State.State, Place.rest_of}
use Rattle.tape_core.specs.declared.event.Answer.TheVariants.{Complete, Useless}
use Rattle.tape_core.specs.{Follows.IsFinal, Table.Outcome, Table.saved, Wide.step_by}
use Rattle.tape_run.specs.Reels.{behind_items, answers_to, GoesOn, delivered_by, ReadsReel}
use Rattle.tape_run.specs.declared.reel_reader.ReelAnswer.{ReelAnswer}
use Rattle.tape_run.specs.Reels.{ReadsToBlock, StopsAt}
use Rattle.tape_run.specs.Taking.{came_of, fault_of}
use Rattle.tape_run.proofs.ByTable.{core_more}

-- So far the bytes up to an offset encode these items, and the reading continued after each.
pub record ReadsSoFar (wide : Bool) (old new : State) (blocks at : ℕ)
    (bytes left : List ℕ) : Type 0 where
  pub items : List TapeItem
  pub taken : Walks 0 bytes items at left
  pub on : AllByRecursion GoesOn (answers_to wide old items)
  pub counted : blocks ≡ delivered_by (answers_to wide old items)
  pub core : new ≡ behind_items wide old items

-- ---- the events

-- By the core's answer the item is the expected block, and a part of it was refused.
abbrev pub IsDelivery : Bool → State → Option TapeItem → State → Type 0
IsDelivery wide core came new = (content : List ℕ) × (came ≡ Some (block content))
    × ((step_by wide core came).0 ≡ Deliver) × StopsAt (saved core 0)
    (saved (step_by wide core came).1 0) new

final_ends : (answer : Answer) → GoesOn answer → IsFinal answer → ⊥
final_ends answer (inl e) final = subst IsFinal e final
final_ends answer (inr e) final = subst IsFinal e final

-- If the reading continues after an event, it is an item.
pub item_came : (old new : State) (came : Option TapeItem) (answer : Answer)
    → (came ≡ None → (rest_of new ≡ rest_of old) × IsFinal answer) → GoesOn answer
    → (item : TapeItem) × (came ≡ Some item)
item_came old new None answer left on = absurd (final_ends answer on (left refl).1)
item_came old new (Some item) answer left on = (item, refl)

-- The item of an event is the one that the reader returned.
pub item_given : (told : Result (Option TapeItem) ImageFault) (old new : Reader) (item : TapeItem)
    → came_of told ≡ Some item → Meets old told new → GivesItem old item new
item_given (Ok (Some x)) old new item e m =
    let same : x ≡ item = cc e in subst (λ y. GivesItem old y new) same m
item_given (Ok None) old new item e m = absurd (cc e)
item_given (Err fault) old new item e m = absurd (cc e)

-- The delivered block is the one that the reader returned.
pub block_given : (wide : Bool) (core : State) (came : Option TapeItem)
    (told : Result (Option TapeItem) ImageFault) (old new : Reader)
    → (after : State) → came ≡ came_of told → IsDelivery wide core came after → Meets old told new
    → (content : List ℕ) × (came ≡ Some (block content)) × GivesItem old (block content) new
    × ((step_by wide core (Some (block content))).0 ≡ Deliver)
    × StopsAt (saved core 0) (saved (step_by wide core (Some (block content))).1 0) after
block_given wide core came told old new after same (content, is, delivers, stops) m =
    grind (arith, item_given)

-- ---- items one after another

answers_more : (wide : Bool) (core : State) (xs : List TapeItem) (x : TapeItem)
    → answers_to wide core (xs ++ x ∷ []) ≡ answers_to wide core xs ++
    (step_by wide (behind_items wide core xs)
    (Some x)).0 ∷ []
answers_more wide core [] x = refl
answers_more wide core (y ∷ xs) x = ap (λ (l : List Answer). (step_by wide core (Some y)).0 ∷ l)
    (answers_more wide (step_by wide core (Some y)).1 xs x)

all_more : (xs : List Answer) (x : Answer) → AllByRecursion GoesOn xs → GoesOn x
    → AllByRecursion GoesOn (xs ++ x ∷ [])
all_more [] x h g = (g, tt)
all_more (y ∷ xs) x (a, h) g = (a, all_more xs x h g)

delivered_more : (xs : List Answer) (x : Answer)
    → delivered_by (xs ++ x ∷ []) ≡ delivered_by xs + delivered_by (x ∷ [])
delivered_more [] x = omega arith
delivered_more (Passed ∷ xs) x = delivered_more xs x
delivered_more (Deliver ∷ xs) x = omega (arith, delivered_more xs x)
delivered_more (SectionDone ∷ xs) x = delivered_more xs x
delivered_more (Complete ∷ xs) x = delivered_more xs x
delivered_more (Useless why ∷ xs) x = delivered_more xs x

-- The start, with no item of the image read.
pub none_read : (wide : Bool) (core : State) (left : Option (List ℕ)) (place : ℕ) → place ≡ 0
    → IfKnown left left (ReadsSoFar wide core core 0 place)
none_read wide core left place first = grind (arith, known_same, Walks-nil)

pub walks_on : (p q : ℕ) (bytes ys zs : List ℕ) (items : List TapeItem) (item : TapeItem)
    → Walks 0 bytes items p ys → image.TakesItem p item q ys zs
    → Walks 0 bytes (items ++ item ∷ []) q zs
walks_on p q bytes ys zs items item w k =
    Walks-trans 0 p q bytes ys zs items (item ∷ []) w (Walks-item p q ys zs item k)

answer_is : (wide : Bool) (core mid new : State) (items : List TapeItem) (item : Option TapeItem)
    (answer : Answer)
    → mid ≡ behind_items wide core items → (answer, new) ≡ step_by wide mid item
    → (answer, new) ≡ step_by wide (behind_items wide core items) item
answer_is wide core mid new items item answer e f = f ∙ ap (λ (c : State). step_by wide c item) e

one_read : (wide : Bool) (old mid new : State) (blocks more p q : ℕ) (bytes ys zs : List ℕ)
    (item : TapeItem) (answer : Answer)
    → (answer, new) ≡ step_by wide mid (Some item) → GoesOn answer
    → more ≡ blocks + delivered_by (answer ∷ [])
    → ReadsSoFar wide old mid blocks p bytes ys → image.TakesItem p item q ys zs
    → ReadsSoFar wide old new more q bytes zs
one_read wide old mid new blocks more p q bytes ys zs item answer step on count s k =
    let is = ap (λ (z : Outcome). z.0)
    (answer_is wide old mid new s.items (Some item) answer s.core step) in
    let all = answers_more wide old s.items item
    ∙ ap (λ (a : Answer). answers_to wide old s.items ++ a ∷ []) (sym is) in
    record {
      items = s.items ++ item ∷ [];
      taken = walks_on p q bytes ys zs s.items item s.taken k;
      on = subst (AllByRecursion GoesOn) (sym all)
          (all_more (answers_to wide old s.items) answer s.on on);
      counted = count ∙ (ap (λ (n : ℕ). n + delivered_by (answer ∷ [])) s.counted
          ∙ (sym (delivered_more (answers_to wide old s.items) answer) ∙ ap delivered_by
          (sym all)));
      core = core_more wide old mid new answer s.items item step s.core;
    }

-- An item was processed, and the reading continues.
pub read_on : (wide : Bool) (core mid : State) (blocks : ℕ)
    (all : Option (List ℕ)) {new : State} {more : ℕ}
    {old next : Reader} {item : TapeItem} {answer : Answer}
    → IfKnown all old.left (ReadsSoFar wide core mid blocks old.place) → GivesItem old item next
    → (answer, new) ≡ step_by wide mid (Some item) → GoesOn answer
    → more ≡ blocks + delivered_by (answer ∷ [])
    → IfKnown all next.left (ReadsSoFar wide core new more next.place)
read_on wide core mid blocks all {new} {more} {old} {next} {item} {answer} known gives step on
    count =
    known_then all old.left next.left _ _ (ReadsSoFar wide core new more next.place)
    (λ xs ys zs s k. one_read wide core mid new blocks more old.place next.place xs ys zs item
    answer
    step on count s k) known gives.takes

by_item : (wide : Bool) (old mid new : State) (blocks p q : ℕ) (bytes ys zs : List ℕ)
    (item : TapeItem) (answer : Answer) (reel : ReelAnswer)
    → (answer, new) ≡ step_by wide mid (Some item) → IsFinal answer
    → reel.answer ≡ answer → reel.fault ≡ None → reel.blocks ≡ blocks
    → ReadsSoFar wide old mid blocks p bytes ys → image.TakesItem p item q ys zs
    → ReadsReel wide old bytes zs reel new
by_item wide old mid new blocks p q bytes ys zs item answer reel step final is none count s k =
    record {
      items = s.items;
      on = s.on;
      blocks = count ∙ s.counted;
      ended = inl (record {
        item = item;
        last = ap (λ (a : Answer). (a, new)) is
            ∙ answer_is wide old mid new s.items (Some item) answer s.core step;
        final = subst IsFinal (sym is) final;
        no_fault = none;
        at = q;
        taken = walks_on p q bytes ys zs s.items item s.taken k;
      });
    }

by_medium : (wide : Bool) (old mid new : State) (blocks p q : ℕ) (bytes ys zs : List ℕ)
    (ending : Ending) (answer : Answer) (reel : ReelAnswer)
    → (answer, new) ≡ step_by wide mid None
    → reel.answer ≡ answer → reel.fault ≡ None → reel.blocks ≡ blocks
    → ReadsSoFar wide old mid blocks p bytes ys → TakesEnd p [] ending q ys zs
    → ReadsReel wide old bytes zs reel new
by_medium wide old mid new blocks p q bytes ys zs ending answer reel step is none count s t =
    record {
      items = s.items;
      on = s.on;
      blocks = count ∙ s.counted;
      ended = inr (inl (record {
        last = ap (λ (a : Answer). (a, new)) is
            ∙ answer_is wide old mid new s.items None answer s.core step;
        no_fault = none;
        ending = ending;
        at = q;
        taken = TakesEnd-behind 0 p q bytes ys zs s.items ending s.taken t;
      }));
    }

by_fault : (wide : Bool) (old mid new : State) (blocks p : ℕ) (bytes ys zs : List ℕ)
    (fault : ImageFault) (answer : Answer) (reel : ReelAnswer)
    → (answer, new) ≡ step_by wide mid None
    → reel.answer ≡ answer → reel.fault ≡ Some fault → reel.blocks ≡ blocks
    → ReadsSoFar wide old mid blocks p bytes ys → TakesFault p [] fault ys zs
    → ReadsReel wide old bytes zs reel new
by_fault wide old mid new blocks p bytes ys zs fault answer reel step is told count s t = record {
  items = s.items;
  on = s.on;
  blocks = count ∙ s.counted;
  ended = inr (inr
      (record {
        last = ap (λ (a : Answer). (a, new)) is
            ∙ answer_is wide old mid new s.items None answer s.core step;
        fault = fault;
        told = told;
        taken = TakesFault-behind 0 p bytes ys zs s.items fault s.taken t;
      }));
}

-- The reading ended with the reader's result.
pub reads_reel : (wide : Bool) (core mid : State) (blocks : ℕ) (all : Option (List ℕ))
    (old next : Reader)
    (told : Result (Option TapeItem) ImageFault) {new : State} {answer : Answer} {reel : ReelAnswer}
    → IfKnown all old.left (ReadsSoFar wide core mid blocks old.place) → Meets old told next
    → (answer, new) ≡ step_by wide mid (came_of told) → IsFinal answer
    → reel.answer ≡ answer → reel.fault ≡ fault_of told → reel.blocks ≡ blocks
    → IfKnown all next.left (λ bytes left. ReadsReel wide core bytes left reel new)
reads_reel wide core mid blocks all old next (Ok (Some item)) {new} {answer} {reel} known m
    step final is fault count =
    known_then all old.left next.left _ _ (λ bytes left. ReadsReel wide core bytes left reel new)
    (λ xs ys zs s t. by_item wide core mid new blocks old.place next.place xs ys zs item answer
    reel step
    final is fault count s t) known m.takes
reads_reel wide core mid blocks all old next (Ok None) {new} {answer} {reel} known m
    step final is fault count =
    known_then all old.left next.left _ _ (λ bytes left. ReadsReel wide core bytes left reel new)
    (λ xs ys zs s t. by_medium wide core mid new blocks old.place next.place xs ys zs m.ending
    answer
    reel step is fault count s t) known m.takes
reads_reel wide core mid blocks all old next (Err met) {new} {answer} {reel} known m
    step final is fault count =
    known_then all old.left next.left _ _ (λ bytes left. ReadsReel wide core bytes left reel new)
    (λ xs ys zs s t. by_fault wide core mid new blocks old.place xs ys zs met answer reel step is
    fault
    count s t) known m.takes

-- A part of a delivered block was refused.
pub reads_to_block : (wide : Bool) (core mid : State) (blocks : ℕ)
    (all : Option (List ℕ)) {old next : Reader}
    {content : List ℕ} (new : State)
    → IfKnown all old.left (ReadsSoFar wide core mid blocks old.place)
    → GivesItem old (block content) next → (step_by wide mid (Some (block content))).0 ≡ Deliver
    → StopsAt (saved mid 0) (saved (step_by wide mid (Some (block content))).1 0) new
    → IfKnown all next.left (ReadsToBlock wide new core)
reads_to_block wide core mid blocks all {old} {next} {content} new known gives delivers stops =
    known_then all old.left next.left _ _ (ReadsToBlock wide new core) (λ xs ys zs s k. record {
      items = s.items;
      on = s.on;
      content = content;
      delivers = ap (λ (c : State). (step_by wide c (Some (block content))).0) (sym s.core)
          ∙ delivers;
      stops = subst (λ (c : State). StopsAt (saved c 0)
          (saved (step_by wide c (Some (block content))).1 0) new) s.core stops;
      at = next.place;
      taken = walks_on old.place next.place xs ys zs s.items (block content) s.taken k;
    }) known gives.takes
