-- An interrupted call leaves a prefix of the items that it was to write.
use Rattle.tape_writer.proofs.Words.{◌≡◌, ◌≢◌, List, [], ◌∷◌, ◌++◌, refl, sym, ap, ◌∙◌}
use Rattle.tape_writer.proofs.Words.{append_assoc, inl, inr, ◌⊎◌, IfErr, Result, Ok, Err}
use Rattle.tape_writer.proofs.Words.{append-nil, TapeItem, ℕ, Vol1, Packing, Section}
use Rattle.tape_writer.specs.Front.{Step, Item, Change, Close, behind_step, behind_steps}
use Rattle.tape_writer.specs.{declared.fault.WriteFault.WriteFault, declared.course.Opened.Opened}
use Rattle.tape_writer.specs.{declared.course.Course.Course, declared.phase.Phase.Phase, Told.Told}
use Rattle.tape_writer.specs.declared.phase.Phase.TheVariants.{Between, Filing}
use Rattle.tape_writer.specs.Tapes.{Tapes, Ended, UnderWay, all_volumes, Takes, Keeps}
use Rattle.tape_writer.specs.Front.{HoldsFront, IsInLast, IsLeftBehind}
use Rattle.tape_writer.specs.Inside.{IsInside, IsPacking, IsFlat, IsWaiting}
use Rattle.tape_writer.specs.{State.SetState, State.Stands, State.IsWriting, Refusals.IsInFile}
use Rattle.tape_writer.specs.Draft.{Draft, IsOpen}
use Rattle.tape_writer.specs.declared.fault.WriteFault.TheVariants as faults

behind-append : (a b : List Step) (t : Tapes)
    → behind_steps b (behind_steps a t) ≡ behind_steps (a ++ b) t
behind-append [] b t = refl
behind-append (s ∷ a) b t = behind-append a b (behind_step s t)

-- contents are a prefix of themselves
pub front_here : (H : Tapes → Type 0) (t : Tapes) → H t → HoldsFront H t
front_here H t h = record { now = t; held = h; steps = []; leads = refl }

-- contents are a prefix of the result of further steps
pub front_on : (H : Tapes → Type 0) (t : Tapes) (more : List Step) → HoldsFront H t
    → HoldsFront H (behind_steps more t)
front_on H t more f = record {
  now = f.now;
  held = f.held;
  steps = f.steps ++ more;
  leads = sym (behind-append f.steps more f.now) ∙ ap (behind_steps more) f.leads;
}

abbrev items_of : List TapeItem → List Step
items_of [] = []
items_of (x ∷ xs) = Item x ∷ items_of xs

behind-items : (vs : List (List TapeItem)) (items more : List TapeItem)
    → behind_steps (items_of more) (UnderWay vs items) ≡ UnderWay vs (items ++ more)
behind-items vs items [] = ap (UnderWay vs) (sym (append-nil items))
behind-items vs items (x ∷ more) = behind-items vs (items ++ x ∷ []) more
    ∙ ap (UnderWay vs) (append_assoc items (x ∷ []) more)

-- items that follow
pub front_items : (H : Tapes → Type 0) (vs : List (List TapeItem)) (items more : List TapeItem)
    → HoldsFront H (UnderWay vs items) → HoldsFront H (UnderWay vs (items ++ more))
front_items H vs items more f = rw (← behind-items vs items more) (front_on H _ (items_of more) f)

-- some items, and then others
pub front_assoc : (H : Tapes → Type 0) (vs : List (List TapeItem)) (items a b : List TapeItem)
    → HoldsFront H (UnderWay vs ((items ++ a) ++ b))
    → HoldsFront H (UnderWay vs (items ++ (a ++ b)))
front_assoc H vs items a b f = rw (append_assoc items a b) at f

pub front_thrice : (H : Tapes → Type 0) (vs : List (List TapeItem)) (items a b c : List TapeItem)
    → HoldsFront H (UnderWay vs (((items ++ a) ++ b) ++ c))
    → HoldsFront H (UnderWay vs (items ++ (a ++ (b ++ c))))
front_thrice H vs items a b c f =
    front_assoc H vs items a (b ++ c) (front_assoc H vs (items ++ a) b c f)

-- only some of the items were written
pub front_behind : (H : Tapes → Type 0) (vs : List (List TapeItem)) (items a b : List TapeItem)
    → HoldsFront H (UnderWay vs (items ++ a)) → HoldsFront H (UnderWay vs (items ++ (a ++ b)))
front_behind H vs items a b f = front_assoc H vs items a b (front_items H vs (items ++ a) b f)

-- the next volume begins
pub front_changed : (H : Tapes → Type 0) (t : Tapes) (first : List TapeItem)
    → HoldsFront H t → HoldsFront H (UnderWay (all_volumes t) first)
front_changed H t first f = front_items H (all_volumes t) [] first (front_on H t (Change ∷ []) f)

-- the last volume ends
pub front_closed : (H : Tapes → Type 0) (t : Tapes) → HoldsFront H t
    → HoldsFront H (Ended (all_volumes t))
front_closed H t f = front_on H t (Close ∷ []) f

-- ---- at the result of a call

-- items are accepted or not
pub took : (H H' : Tapes → Type 0) (more : List TapeItem) (r : Result (Unit {0}) WriteFault)
    → Takes more H r H' → Keeps H r H' → (vs : List (List TapeItem)) (items : List TapeItem)
    → H (UnderWay vs items) → HoldsFront H' (UnderWay vs (items ++ more))
took H H' more (Ok x) takes keeps vs items h = front_here H' _ (takes vs items h)
took H H' more (Err e) takes keeps vs items h =
    front_items H' vs items more (front_here H' _ (keeps _ h))

-- a property of every fault
pub err_any : (r : Result (Unit {0}) WriteFault) (P : WriteFault → Type 0)
    → ((f : WriteFault) → P f) → IfErr r P
err_any (Ok x) P p = tt
err_any (Err e) P p = p e

-- a fault is `OutOfVolumes`, or it is not
pub is_out : (f : WriteFault) → (f ≡ faults.OutOfVolumes) ⊎ (f ≢ faults.OutOfVolumes)
is_out faults.OutOfVolumes = inl refl
is_out _ = inr (λ e. absurd cc)

-- ---- an unchanged writer: the contents of the tapes are a prefix of themselves

module _ {H K : Tapes → Type 0} {vs : List Vol1} {cap : ℕ} {set_id : List ℕ} {course : Course}
    (f : (t : Tapes) → H t → K t) where
  open_left : {file : Opened} {d : Draft} → IsOpen H vs cap set_id file course d
      → IsOpen K vs cap set_id file course d
  open_left o = record { steady = o.steady; held = f _ o.held }

  module _ {file : Opened} {fs : List (List Section)} {records : List (List ℕ)} where
    pub inside_left : {p : Packing} → IsInside H vs cap set_id file course p fs records
        → IsInside K vs cap set_id file course p fs records
    inside_left k = record {
      draft = k.draft;
      is_open = open_left k.is_open;
      files = k.files;
      shape = k.shape;
      ended = k.ended;
      run = k.run;
      lengths = k.lengths;
    }

    pub packing_left : {p : Packing} {whole rest : List ℕ}
        → IsPacking H vs cap set_id file course p fs records whole rest
        → IsPacking K vs cap set_id file course p fs records whole rest
    packing_left k = record {
      draft = k.draft;
      is_open = open_left k.is_open;
      files = k.files;
      shape = k.shape;
      going = k.going;
      lengths = k.lengths;
    }

    pub flat_left : IsFlat H vs cap set_id file course fs records
        → IsFlat K vs cap set_id file course fs records
    flat_left k = record {
      draft = k.draft;
      is_open = open_left k.is_open;
      files = k.files;
      tight = k.tight;
      lengths = k.lengths;
    }

  pub waiting_left : {told : List Told} → IsWaiting H vs cap set_id course told
      → IsWaiting K vs cap set_id course told
  waiting_left (inl (first, held, none)) = inl (first, f _ held, none)
  waiting_left (inr (k, some)) = inr (
    record {
      draft = k.draft;
      resting = record { between = k.resting.between; held = f _ k.resting.held };
      filed = k.filed;
    },
    some,
  )

-- inside a file, the tapes contain everything that was passed, and so a prefix of it
pub inside_writing : {T : Type 0} (H K : Tapes → Type 0) (w : SetState T) (file : Opened)
    (told : List Told) → ((t : Tapes) → H t → K t) → IsInFile file w.phase → IsWriting H w told
    → IsInLast K w.volumes w.capacity w.set_id told
inside_writing H K w file told f is k = go w.phase is k.stands
  where
    go : (phase : Phase) → IsInFile file phase
        → Stands H w.volumes w.capacity w.set_id w.course phase told
        → IsInLast K w.volumes w.capacity w.set_id told
    go (Filing o) is s = record {
      past = s.past;
      last = record { file = o.file; records = s.records };
      is_told = s.is_told;
      files = s.filing.files;
      filed = s.filing.filed;
      course = w.course;
      partly = inl (o.packer, inside_left f s.filing.inside);
    }
    go _ is s = absurd is

-- between two files
pub waits : {T : Type 0} (H : Tapes → Type 0) (w : SetState T) (told : List Told)
    → w.phase ≡ Between → IsWriting H w told
    → IsWaiting H w.volumes w.capacity w.set_id w.course told
waits H w told is k = rw is at k.stands

pub behind_writing : {T : Type 0} (H : Tapes → Type 0) (w : SetState T) (told : List Told)
    → w.phase ≡ Between → IsWriting H w told → IsLeftBehind H w told
behind_writing H w told is k = (w.course, waiting_left (front_here H) (waits H w told is k))
