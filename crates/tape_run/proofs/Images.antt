-- The items of an image, processed one after another.
use Rattle.std.proofs.Common.{◌≡◌, ◌≢◌, ◌⊎◌, ℕ, ◌≤◌, Bool, false, List, [], ◌∷◌, ◌++◌, Option, Some}
use Rattle.std.proofs.Common.{None}
use Rattle.std.proofs.Common.{IfSome, Result, Ok, Err, refl, sym, subst, ◌∙◌, inl, inr, arith}
use Rattle.std.proofs.Common.{append_assoc, append-nil}
use Rattle.tape_blocks.specs.Block.{Portion}
use Rattle.tape_image.specs.{declared.item.Ending.Ending, declared.item.ImageFault.ImageFault}
use Rattle.tape_image.specs.{declared.item.ImageCause.ImageCause, Tape.TapeItem}
use Rattle.tape_image.specs.declared.item.ImageCause.TheVariants.{Truncated, Device}
use Rattle.tape_image.specs.Reader.{Reader, IfKnown}
use Rattle.tape_image.specs.Begins.{image_limit, Stop, ends, faults, Begins, Walks}
use Rattle.tape_image.specs.Step.{TakesEnd, TakesFault, Meets, GivesItem}
use Rattle.tape_image.specs.Step as image
use Rattle.tape_image.proofs.Walks.{Walks-nil, TakesEnd-behind, TakesFault-behind, known_same}
use Rattle.tape_image.proofs.{Callers.front_of_image, Uniqueness.Begins-one}
use Rattle.tape_image.proofs.Walks.{TakesFault-begins, TakesFault-device, known_then}
use Rattle.tape_core.specs.{declared.event.Answer.Answer, State.State, Follows.IsFinal}
use Rattle.tape_core.specs.{Wide.step_by, Place.rest_of}
use Rattle.tape_run.specs.{Reels.behind_items, Given.is_device_cause, Given.is_device}
use Rattle.tape_run.specs.Taking.{ReadsImage, CutsTable, came_of, fault_of}
use Rattle.tape_run.specs.ByTable.{delivered_parts, StopsInside}
use Rattle.tape_run.proofs.ByTable.{core_more, parts_more, led_by_final, led_to_end}
use Rattle.tape_run.proofs.ByTable.{parts_of_arrival}
use Rattle.tape_run.proofs.Reels.{walks_on}

-- So far these items were processed, up to an offset of all the bytes that the reader has.
pub record SoFar (wide : Bool) (old new : State) (held now : List Portion) (at : ℕ)
    (bytes left : List ℕ)
    : Type 0 where
  pub items : List TapeItem
  pub walks : Walks 0 bytes items at left
  pub core : new ≡ behind_items wide old items
  pub parts : now ≡ held ++ delivered_parts wide old items

-- ---- the items that an image begins with

whole_image : (bytes : List ℕ) (taken xs : List TapeItem) (end far : ℕ) (stop other : Stop)
    → Begins 0 bytes taken far other → Begins 0 bytes xs end stop → xs ≡ taken
whole_image bytes taken xs end far stop other a b = (Begins-one _ _ _ _ _ _ _ _ b a).0

-- ---- a core over the items so far

-- The start, with no item of the image read.
pub none_taken : (wide : Bool) (core : State) (held : List Portion) (left : Option (List ℕ))
    (place : ℕ)
    → place ≡ 0 → IfKnown left left (SoFar wide core core held held place)
none_taken wide core held left place first = grind (arith, known_same, Walks-nil, append-nil)

-- The core processed the event, and the sink received the parts that it delivers.
pub record IsTaken (wide : Bool) (came : Option TapeItem) (answer : Answer) (old new : State)
    (held now : List Portion) : Type 0 where
  pub step : (answer, new) ≡ step_by wide old came
  pub left : came ≡ None → (rest_of new ≡ rest_of old) × IsFinal answer
  pub puts : now ≡ held ++ parts_of_arrival wide old came

one_more : (wide : Bool) (old mid new : State) (held now then : List Portion) (p q : ℕ)
    (bytes ys zs : List ℕ) (item : TapeItem) (answer : Answer)
    → IsTaken wide (Some item) answer mid new now then
    → SoFar wide old mid held now p bytes ys → image.TakesItem p item q ys zs
    → SoFar wide old new held then q bytes zs
one_more wide old mid new held now then p q bytes ys zs item answer t s k =
    record {
      items = s.items ++ item ∷ [];
      walks = walks_on p q bytes ys zs s.items item s.walks k;
      core = core_more wide old mid new answer s.items item t.step s.core;
      parts = parts_more wide old mid held now then s.items item t.puts s.core s.parts;
    }

-- An item was taken.
pub taken_on : (wide : Bool) (core : State) (held : List Portion)
    (all : Option (List ℕ)) {mid new : State}
    {now then : List Portion} {old next : Reader} {came : Option TapeItem} {item : TapeItem}
    {answer : Answer}
    → IfKnown all old.left (SoFar wide core mid held now old.place) → GivesItem old item next
    → came ≡ Some item → IsTaken wide came answer mid new now then
    → IfKnown all next.left (SoFar wide core new held then next.place)
taken_on wide core held all {mid} {new} {now} {then} {old} {next} {came} {item} {answer} known gives
    is t =
    known_then all old.left next.left _ _ (SoFar wide core new held then next.place)
    (λ xs ys zs s k. one_more wide core mid new held now then old.place next.place xs ys zs item
    answer
    (subst (λ z. IsTaken wide z answer mid new now then) is t) s k) known gives.takes

-- the end of the medium, or a fault, delivers nothing
nothing_more : (wide : Bool) (old mid new : State) (held now then : List Portion) (p : ℕ)
    (bytes ys : List ℕ)
    (answer : Answer) → IsTaken wide None answer mid new now then
    → SoFar wide old mid held now p bytes ys → SoFar wide old mid held then p bytes ys
nothing_more wide old mid new held now then p bytes ys answer t s =
    subst (λ (l : List Portion). SoFar wide old mid held l p bytes ys)
    (sym (t.puts ∙ append-nil now)) s

-- ---- what ended the reading

ends_early : (wide : Bool) (old mid new : State) (held now then : List Portion) (p q : ℕ)
    (bytes ys zs : List ℕ) (item : TapeItem) (answer : Answer)
    → IsFinal answer → q ≤ image_limit → IsTaken wide (Some item) answer mid new now then
    → SoFar wide old mid held now p bytes ys → image.TakesItem p item q ys zs
    → ReadsImage wide false old new held then (Some zs) bytes
unfolding one_more
ends_early wide old mid new held now then p q bytes ys zs item answer final le t s k =
    let up = one_more wide old mid new held now then p q bytes ys zs item answer t s k in
    record {
      given = bytes;
      is_given = refl;
      table = λ xs end stop b.
          let (more, e) = front_of_image bytes zs up.items xs q end stop up.walks le b in
          led_by_final wide old mid new answer held then s.items more xs item t.step
          final up.core up.parts e;
    }

ends_there : (wide : Bool) (old mid new : State) (held now : List Portion) (p q : ℕ)
    (bytes ys zs : List ℕ)
    (ending : Ending)
    → rest_of new ≡ rest_of mid
    → SoFar wide old mid held now p bytes ys → TakesEnd p [] ending q ys zs
    → ReadsImage wide false old new held now (Some zs) bytes
ends_there wide old mid new held now p q bytes ys zs ending same s t =
    let all = TakesEnd-behind 0 p q bytes ys zs s.items ending s.walks t in
    record {
      given = bytes;
      is_given = refl;
      table = λ xs end stop b. led_to_end wide old mid new held now s.items xs same
          s.core s.parts (whole_image bytes s.items xs end all.end stop (ends ending) all.begins b);
    }

device_or_not : (cause : ImageCause)
    → (cause ≡ Device) ⊎ ((cause ≢ Device) × (is_device_cause cause ≡ false))
device_or_not Device = inl refl
device_or_not Truncated = inr ((λ e. cc, refl))
device_or_not _ = inr ((λ e. cc, refl))

faults_there : (wide : Bool) (old mid new : State) (held now : List Portion) (p : ℕ)
    (bytes ys zs : List ℕ)
    (fault : ImageFault)
    → rest_of new ≡ rest_of mid
    → SoFar wide old mid held now p bytes ys → TakesFault p [] fault ys zs
    → ReadsImage wide (is_device (Some fault)) old new held now (Some zs) bytes
faults_there wide old mid new held now p bytes ys zs fault same s t =
    go (device_or_not fault.cause)
  where
    go : (fault.cause ≡ Device) ⊎ ((fault.cause ≢ Device) × (is_device_cause fault.cause ≡ false))
        → ReadsImage wide (is_device (Some fault)) old new held now (Some zs) bytes
    go (inl e) =
        let all = TakesFault-behind 0 p bytes ys zs s.items fault s.walks t in
        let (stop, begins, cut_off) = TakesFault-device 0 s.items fault bytes zs all e in
        rw e (record {
          given = all.given;
          is_given = (zs, refl, all.whole);
          table = λ xs end halt b. led_to_end wide old mid new held now s.items xs
              same s.core s.parts
              (whole_image all.given s.items xs end fault.place halt stop begins b);
        })
    go (inr (e, f)) =
        let all = TakesFault-behind 0 p bytes ys zs s.items fault s.walks t in
        rw f (record {
          given = bytes;
          is_given = refl;
          table = λ xs end stop b. led_to_end wide old mid new held now s.items xs
              same s.core s.parts
              (whole_image bytes s.items xs end fault.place stop (faults fault.cause)
              (TakesFault-begins 0 s.items fault bytes zs all e) b);
        })

-- The facts about the known bytes, expressed by the bytes that are left.
known_by : (all left next : Option (List ℕ)) (P Q : List ℕ → List ℕ → Type 0)
    (R : Option (List ℕ) → List ℕ → Type 0)
    → ((xs ys zs : List ℕ) → P xs ys → Q ys zs → R (Some zs) xs)
    → IfKnown all left P → IfKnown left next Q → IfSome all (R next)
known_by None left next P Q R f a b = tt
known_by (Some xs) None next P Q R f a b = absurd a
known_by (Some xs) (Some ys) None P Q R f a b = absurd b
known_by (Some xs) (Some ys) (Some zs) P Q R f a b = f xs ys zs a b

-- The reading ended with the reader's result.
pub reads_image : (wide : Bool) (core : State) (held : List Portion) (all : Option (List ℕ))
    (old next : Reader) (told : Result (Option TapeItem) ImageFault) {mid new : State}
    {now then : List Portion} {answer : Answer} {fault : Option ImageFault}
    → IfKnown all old.left (SoFar wide core mid held now old.place) → Meets old told next
    → IsTaken wide (came_of told) answer mid new now then → IsFinal answer → fault ≡ fault_of told
    → IfSome all (ReadsImage wide (is_device fault) core new held then next.left)
reads_image wide core held all old next
    (Ok (Some item)) {mid} {new} {now} {then} {answer} {fault} known
    m t final is =
    known_by all old.left next.left _ _ (ReadsImage wide (is_device fault) core new held then)
    (λ xs ys zs s k. rw is
    (ends_early wide core mid new held now then old.place next.place xs ys zs item
    answer final m.within t s k)) known m.takes
reads_image wide core held all old next (Ok None) {mid} {new} {now} {then} {answer} {fault} known m
    t final is =
    known_by all old.left next.left _ _ (ReadsImage wide (is_device fault) core new held then)
    (λ xs ys zs s k. rw is
    (ends_there wide core mid new held then old.place next.place xs ys zs m.ending
    (t.left refl).0 (nothing_more wide core mid new held now then old.place xs ys answer t s) k))
    known
    m.takes
reads_image wide core held all old next (Err met) {mid} {new} {now} {then} {answer} {fault} known m
    t final is =
    known_by all old.left next.left _ _ (ReadsImage wide (is_device fault) core new held then)
    (λ xs ys zs s k. rw is (faults_there wide core mid new held then old.place xs ys zs met
    (t.left refl).0 (nothing_more wide core mid new held now then old.place xs ys answer t s) k))
    known
    m.takes

-- A part of an item's block was refused: the table stops there.
pub refuses_image : (wide : Bool) (core place : State) (held : List Portion) (all : Option (List ℕ))
    {mid : State} {now then : List Portion} {old next : Reader} {item : TapeItem}
    → IfKnown all old.left (SoFar wide core mid held now old.place) → GivesItem old item next
    → StopsInside wide mid place item now then → IfSome all (CutsTable wide core place held then)
refuses_image wide core place held all {mid} {now} {then} {old} {next} {item} known gives stops =
    known_by all old.left next.left _ _ (λ _. CutsTable wide core place held then)
    (λ bytes ys zs s k xs end stop b.
    let (more, e) = front_of_image bytes zs (s.items ++ item ∷ []) xs next.place end stop
    (walks_on old.place next.place bytes ys zs s.items item s.walks k) gives.within b in
    record {
      before = s.items;
      item = item;
      behind = more;
      all = e ∙ append_assoc s.items (item ∷ []) more;
      stops = subst (λ (c : State). StopsInside wide c place item
          (held ++ delivered_parts wide core s.items) then) s.core
          (subst (λ (l : List Portion). StopsInside wide mid place item l then) s.parts stops);
    }) known gives.takes
