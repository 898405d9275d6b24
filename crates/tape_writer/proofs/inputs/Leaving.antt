-- The contents of the tapes after a fault, in terms of the files and their inputs.
use Rattle.tape_writer.proofs.Words.{◌≡◌, ℕ, ◌≤◌, List, [], ◌∷◌, ◌++◌, Bool, true, Option, Some}
use Rattle.tape_writer.proofs.Words.{None, length, refl, sym, ap, ◌∙◌, inl, inr, ◌⊎◌, IfSome}
use Rattle.tape_writer.proofs.Words.{IfKnown, Head1, Shape, AllByRecursion, every}
use Rattle.tape_writer.proofs.inputs.Putting.{Put, PutWithin, known_more, with_records-one}
use Rattle.tape_writer.proofs.{inputs.Filing.all_known, inputs.Refusing.less_long}
use Rattle.tape_writer.proofs.Fronts.{inside_writing, behind_writing, front_here}
use Rattle.tape_image.proofs.Walks.{known_all, IfKnown-some}
use Rattle.std.proofs.{Common.append-nil, lemmas.Option.IfSome_then}
use Rattle.tape_writer.specs.{declared.fault.WriteFault.WriteFault, declared.course.Opened.Opened}
use Rattle.tape_writer.specs.{declared.inputs.cut.Cut.Cut, declared.phase.Phase.TheVariants.Between}
use Rattle.tape_writer.specs.declared.fault.SetFault.{SetFault}
use Rattle.tape_writer.specs.declared.fault.SetFault.TheVariants.{Write}
use Rattle.tape_writer.specs.{declared.inputs.records.InputFault.InputFault, ToldFiles.with_records}
use Rattle.tape_writer.specs.{Tapes.Tapes, WriteFaults.told_as, WriteFaults.IsOfInput}
use Rattle.tape_writer.specs.{Told.Told, Told.with_record, Refusals.IsInFile, Refusals.IsBeginFault}
use Rattle.tape_writer.specs.{Faults.IsEnding, State.SetState, State.IsWriting, State.Leaves}
use Rattle.tape_writer.specs.Front.{IsInLast, IsLeftInside, IsLeftBehind, HoldsFront}
use Rattle.tape_writer.specs.Records.{to_come, records_of, given, IsFirstLong}
use Rattle.tape_writer.specs.LeftOf.{IsLeftOf, IsLeftOfAll, IsLeftUnbegun}
use Rattle.tape_writer.specs.declared.fault.WriteFault.TheVariants as faults
use Rattle.tape_writer.specs.declared.inputs.records.InputFault.TheVariants as inputs

-- a fault ends the writer, or leaves it unchanged
is_ending : {T : Type 0} (f : WriteFault)
    → IsEnding f ⊎ ((old new : SetState T) → Leaves old new f → new ≡ old)
is_ending faults.OutOfVolumes = inl tt
is_ending faults.Device = inl tt
is_ending faults.OutOfMemory = inl tt
is_ending _ = inr (λ old new l. l)

-- a refused call ended the writer, or left it unchanged
pub refused_left : {T : Type 0} (H : T → Tapes → Type 0) (old new : SetState T) (f : WriteFault)
    (P : Type 0) (told : List Told) → Leaves old new f → IsWriting (H old.out) old told
    → (new ≡ old → IsWriting (H new.out) new told → P) → (IsEnding f → P) → P
refused_left H old new f P told leaves held stays ends = elim (is_ending f) [
  | inl e ↦ ends e
  | inr same ↦
      let is = same old new leaves in
      stays is (rw is held)
]

-- ---- the records of an input

pub if_any : (known : Option (List ℕ)) (P : List ℕ → Type 0) → ((bytes : List ℕ) → P bytes)
    → IfSome known P
if_any None P p = tt
if_any (Some bytes) P p = p bytes

known_left : {T : Type 0} (H : Tapes → Type 0) (w : SetState T) (G : Type 0) (fault : SetFault)
    (told : List Told) (cut : Cut) (a c : Bool) (rs : List (List ℕ)) (all next : Option (List ℕ))
    → IfKnown all next (λ xs ys. to_come cut a xs ≡ rs ++ to_come cut c ys)
    → (fault ≡ Write faults.OutOfMemory → IfSome next (λ ys.
    G ⊎ AllByRecursion (λ r. IsFirstLong (length r) (to_come cut c ys)) rs))
    → IsLeftInside H w (with_records told rs)
    → (IsOfInput fault → IsInLast H w.volumes w.capacity w.set_id (with_records told rs))
    → IfSome all (λ xs. IsLeftOf H w G fault told (to_come cut a xs))
known_left H w G fault told cut a c rs all next k m left held =
    IfSome_then all (IfKnown-some all next _ k) (λ xs q. record {
      front = rs;
      back = to_come cut c q.0;
      split = q.2;
      memory = λ e. rw q.1 at (m e);
      left = inl left;
      all = held;
    })

memory_told : (fault : InputFault) → told_as fault ≡ Write faults.OutOfMemory
    → fault ≡ inputs.OutOfMemory
memory_told inputs.ReadFailed e = cc
memory_told inputs.TooLong e = cc
memory_told inputs.OutOfMemory e = refl

-- the next record was not read
pub read_left : {T : Type 0} (H : Tapes → Type 0) (w : SetState T) (G : Type 0)
    (fault : InputFault) (n : ℕ) (file : Opened) (cut : Cut) (a b : Bool)
    (all left : Option (List ℕ)) (old : List Told → Type 0)
    → PutWithin n cut a b all left old (IsWriting H w) → IsInFile file w.phase
    → (fault ≡ inputs.OutOfMemory → IfSome left (λ ys. IsFirstLong n (to_come cut b ys)))
    → (told : List Told) → old told
    → IfSome all (λ xs. IsLeftOf H w G (told_as fault) told (to_come cut a xs))
read_left H w G fault n file cut a b all left old p is m told h =
    known_left H w G (told_as fault) told cut a b p.put.records all left p.put.known
    (λ f. IfSome_then left (m (memory_told fault f)) (λ ys l. inr (every (λ r. length r ≤ n) _
    (λ r le. less_long (length r) n _ le l) p.put.records p.within)))
    (inside_writing H (HoldsFront H) w file _ (front_here H) is (p.put.told told h))
    (λ e. inside_writing H H w file _ (λ t h. h) is (p.put.told told h))

-- a fault of the writer other than `RecordLength` is not a fault of an input
pub other_than : (P : WriteFault → Type 0) (f : WriteFault) → (P faults.RecordLength → ⊥) → P f
    → IsOfInput (Write f) → ⊥
other_than P faults.RecordLength none p is = none p
other_than P _ none p is = is

pub of_writer : (f g : WriteFault) → Write f ≡ Write g → f ≡ g
of_writer f g e = cc

-- the next record was not written
pub put_left : {T : Type 0} (H : T → Tapes → Type 0) (mid w : SetState T) (G : Type 0)
    (file : Opened) (cut : Cut) (a b c : Bool) (all left next : Option (List ℕ))
    (old : List Told → Type 0) (r : List ℕ) (f : WriteFault)
    → Put cut a b all left old (IsWriting (H mid.out) mid) → IsInFile file mid.phase
    → IfKnown left next (λ xs ys. to_come cut b xs ≡ given true r (to_come cut c ys))
    → Leaves mid w f → (f ≡ faults.OutOfMemory → G)
    → ((told : List Told) → IsWriting (H mid.out) mid told → IsEnding f
    → IsLeftInside (H w.out) w (with_record told r))
    → (told : List Told) → old told
    → IfSome all (λ xs. IsLeftOf (H w.out) w G (Write f) told (to_come cut a xs))
put_left H mid w G file cut a b c all left next old r f p is k leaves grew ends told h =
    let held = p.told told h in
    let memory : (known : Option (List ℕ)) (rs : List (List ℕ)) (d : Bool)
    → Write f ≡ Write faults.OutOfMemory → IfSome known (λ ys.
    G ⊎ AllByRecursion (λ r. IsFirstLong (length r) (to_come cut d ys)) rs)
    = λ known rs d e. if_any known _ (λ ys. inl (grew cc)) in
    refused_left H mid w f _ (with_records told p.records) leaves held
    (λ same writing. known_left (H w.out) w G (Write f) told cut a b p.records all left p.known
    (memory left p.records b)
    (inside_writing (H w.out) (HoldsFront (H w.out)) w file _ (front_here (H w.out))
    (rw same is) writing)
    (λ i. inside_writing (H w.out) (H w.out) w file _ (λ t h. h) (rw same is) writing))
    (λ e. known_left (H w.out) w G (Write f) told cut a c (p.records ++ r ∷ []) all next
    (known_more cut a b c r p.records all left next p.known k)
    (memory next (p.records ++ r ∷ []) c)
    (rw (with_records-one told p.records r) (ends _ held e))
    (λ i. absurd (other_than IsEnding f (λ n. n) e i)))

-- ---- a file

-- the file has begun, and no record was passed
pub none_left : {T : Type 0} (H : Tapes → Type 0) (w : SetState T) (G : Type 0) (fault : SetFault)
    (told : List Told) (records : List (List ℕ)) → IsLeftInside H w told
    → (IsOfInput fault → ⊥) → IsLeftOf H w G fault told records
none_left H w G fault told records left other = record {
  front = [];
  back = records;
  split = refl;
  memory = λ e. inr tt;
  left = inl left;
  all = λ e. absurd (other e);
}

-- the file did not begin, or no record was passed
pub begin_left : {T : Type 0} (H : T → Tapes → Type 0) (old w : SetState T) (G : Type 0)
    (f : WriteFault) (told more : List Told) (records : List (List ℕ)) (capacity n : ℕ)
    (head : Head1) (shape : Shape) → IsBeginFault capacity n head shape f → Leaves old w f
    → IsWriting (H old.out) old told → old.phase ≡ Between
    → (IsEnding f → IsLeftBehind (H w.out) w told ⊎ IsLeftInside (H w.out) w more)
    → IsLeftUnbegun (H w.out) w (Write f) told ⊎ IsLeftOf (H w.out) w G (Write f) more records
begin_left H old w G f told more records capacity n head shape due leaves held between ends =
    let other = other_than (IsBeginFault capacity n head shape) f (λ n. n) due in
    refused_left H old w f _ told leaves held
    (λ same writing. inl (
      other,
      behind_writing (H w.out) w told (ap (λ z. z.phase) same ∙ between) writing,
    ))
    (λ e. elim (ends e) [
      | inl same ↦ inl (other, same)
      | inr begun ↦ inr (none_left (H w.out) w G (Write f) more records begun other)
    ])

-- an allocation of the tapes failed in a part of the call
pub left_more : {T : Type 0} (H : Tapes → Type 0) (w : SetState T) (G G' : Type 0)
    (fault : SetFault) (told : List Told) (records : List (List ℕ)) → (G → G')
    → IsLeftOf H w G fault told records → IsLeftOf H w G' fault told records
left_more H w G G' fault told records f l = record {
  front = l.front;
  back = l.back;
  split = l.split;
  memory = λ e. elim (l.memory e) [
    | inl grew ↦ inl (f grew)
    | inr longer ↦ inr longer
  ];
  left = l.left;
  all = l.all;
}

-- the end of the file was not written
pub ended_left : {T : Type 0} (H : T → Tapes → Type 0) (mid w : SetState T) (f : WriteFault)
    (file : Opened) → IsInFile file mid.phase → Leaves mid w f
    → ((told : List Told) → IsWriting (H mid.out) mid told → IsEnding f
    → IsLeftInside (H w.out) w told ⊎ IsLeftBehind (H w.out) w told)
    → (told : List Told) → IsWriting (H mid.out) mid told
    → IsLeftInside (H w.out) w told ⊎ IsLeftBehind (H w.out) w told
ended_left H mid w f file is leaves ends told held =
    refused_left H mid w f _ told leaves held
    (λ same writing. inl (inside_writing (H w.out) (HoldsFront (H w.out)) w file told
    (front_here (H w.out)) (rw same is) writing))
    (ends told held)

-- all records of the file were written, but not its end
pub end_left : {T : Type 0} (H : Tapes → Type 0) (w : SetState T) (G : Type 0) (fault : SetFault)
    (told : List Told) (records : List ℕ → List (List ℕ)) (all next : Option (List ℕ))
    (mid : List Told → Type 0) → IfKnown all next (λ xs ys. mid (with_records told (records xs)))
    → (IsOfInput fault → ⊥) → (fault ≡ Write faults.OutOfMemory → G)
    → ((t : List Told) → mid t → IsLeftInside H w t ⊎ IsLeftBehind H w t)
    → IfSome all (λ xs. IsLeftOf H w G fault told (records xs))
end_left H w G fault told records all next mid put other grew left =
    known_all all next _ _ (λ xs ys m. record {
      front = records xs;
      back = [];
      split = sym (append-nil _);
      memory = λ e. inl (grew e);
      left = elim (left _ m) [
        | inl inside ↦ inl inside
        | inr ended ↦ inr (refl, ended)
      ];
      all = λ e. absurd (other e);
    }) put

pub all_more : {T : Type 0} (H : Tapes → Type 0) (w : SetState T) (G G' : Type 0)
    (fault : SetFault) (first told : List Told) (cut : Cut) (input : Option (List ℕ)) → (G → G')
    → IfSome input (λ bytes. IsLeftUnbegun H w fault first
    ⊎ IsLeftOf H w G fault told (records_of cut bytes))
    → IfSome input (λ bytes. IsLeftUnbegun H w fault first
    ⊎ IsLeftOf H w G' fault told (records_of cut bytes))
all_more H w G G' fault first told cut None more l = tt
all_more H w G G' fault first told cut (Some bytes) more (inl l) = inl l
all_more H w G G' fault first told cut (Some bytes) more (inr l) =
    inr (left_more H w G G' fault told (records_of cut bytes) more l)

-- ---- a set

-- on tapes that do not allocate, no allocation failed
pub left_without : {T : Type 0} (H : Tapes → Type 0) (w : SetState T) (G : Type 0)
    (fault : SetFault) (set_id : List ℕ) (told : List Told) (shape : Shape) (cut : Cut)
    (given : List (Head1 × Option (List ℕ))) → (G → ⊥)
    → IsLeftOfAll H w G fault set_id told shape cut given
    → IsLeftOfAll H w ⊥ fault set_id told shape cut given
left_without H w G fault set_id told shape cut given none (inl l) = inl record {
  before = l.before;
  input = l.input;
  after = l.after;
  split = l.split;
  holds = all_known l.before _ _ l.holds (λ fs m.
      all_more H w G ⊥ fault _ _ cut l.input.1 none m);
}
left_without H w G fault set_id told shape cut given none (inr l) =
    inr (λ e. none (l.0 e), l.1, l.2)
