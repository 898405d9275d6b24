-- The writer's calls, as its callers see them.
use Rattle.tape_writer.proofs.Words.{◌≡◌, ℕ, ◌+◌, List, [], ◌∷◌, ◌++◌, length, refl, sym, ap, ◌∙◌}
use Rattle.tape_writer.proofs.Words.{subst, inr, map, map-append, length-map, Vol1, Head1, Shape}
use Rattle.tape_writer.proofs.{Words.Packing, Words.Section, Changed.not_nil}
use Rattle.tape_writer.proofs.{Fronts.waits, Last.lasting_self, Last.lasting_then, Last.rose_from}
use Rattle.tape_writer.specs.State.{SetState, IsFilingLast, IsWriting, Leaves, IfFiling}
use Rattle.tape_writer.specs.{State.IsOutOfVolumes, State.tape_of, declared.phase.OpenFile.OpenFile}
use Rattle.tape_writer.specs.{declared.course.Opened.Opened, declared.fault.WriteFault.WriteFault}
use Rattle.tape_writer.specs.{declared.course.Course.Course, declared.out.TapeOut.Ghosts}
use Rattle.tape_writer.specs.{declared.phase.Phase.Phase, Tapes.Tapes, Faults.IsEnding}
use Rattle.tape_writer.specs.declared.phase.Phase.TheVariants.{Between, Filing, Failed}
use Rattle.tape_writer.specs.{Told.Told, Told.opened_by, Told.with_record, Lasting.TapeLasts}
use Rattle.tape_writer.specs.Inside.{IsInside, IsFiling, IsBetween, IsWaiting, IsStuck}
use Rattle.tape_writer.specs.declared.fault.WriteFault.TheVariants as faults

pub with_last : (past : List Told) (t : Told) (r : List ℕ) → with_record (past ++ t ∷ []) r
    ≡ past ++ record { file = t.file; records = t.records ++ r ∷ [] } ∷ []
with_last [] t r = refl
with_last (u ∷ []) t r = refl
with_last (u ∷ v ∷ past) t r = ap (λ z. u ∷ z) (with_last (v ∷ past) t r)

-- one more record was passed for the last file
pub put_last : (told past : List Told) (file : Opened) (records : List (List ℕ)) (r : List ℕ)
    → told ≡ past ++ record { file = file; records = records } ∷ []
    → with_record told r ≡ past ++ record { file = file; records = records ++ r ∷ [] } ∷ []
put_last told past file records r e = ap (λ z. with_record z r) e
    ∙ with_last past (record { file = file; records = records }) r

with_kept : (told : List Told) (r : List ℕ)
    → map (λ t. t.file) (with_record told r) ≡ map (λ t. t.file) told
with_kept [] r = refl
with_kept (t ∷ []) r = refl
with_kept (t ∷ u ∷ ts) r = ap (λ z. t.file ∷ z) (with_kept (u ∷ ts) r)

-- the current file is the last of the files passed
pub last_told : {T : Type 0} (H : Tapes → Type 0) (w : SetState T) (o : OpenFile) (told : List Told)
    → w.phase ≡ Filing o → IsWriting H w told
    → IsFilingLast H w.volumes w.capacity w.set_id w.course o told
last_told H w o told is k = rw is at k.stands

pub put_told : {T : Type 0} (H H' : Tapes → Type 0) (w : SetState T) (out : T) (vs : List Vol1)
    (course : Course) (o p : OpenFile) (told : List Told) (r : List ℕ)
    → w.phase ≡ Filing o → vs ≡ w.volumes → p.file ≡ o.file
    → ((fs : List (List Section)) (records : List (List ℕ))
    → IsInside H vs w.capacity w.set_id o.file w.course o.packer fs records
    → IsInside H' vs w.capacity w.set_id o.file course p.packer fs (records ++ r ∷ []))
    → IsWriting H w told
    → IsWriting H' (record w { out = out; course = course; phase = Filing p }) (with_record told r)
put_told H H' w out vs course o p told r is v same packed k =
    let last = last_told H w o told is k in
    let f = last.filing in
    record {
      kept = k.kept ∙ sym (with_kept told r);
      stands = record {
        past = last.past;
        records = last.records ++ r ∷ [];
        is_told = rw same (put_last told last.past o.file last.records r last.is_told);
        filing = rw same (record {
          files = f.files;
          filed = f.filed;
          inside = subst (λ z. IsInside H' z w.capacity w.set_id o.file course p.packer f.files
              (last.records ++ r ∷ [])) v
              (packed f.files last.records
              (subst (λ z. IsInside H z w.capacity w.set_id o.file w.course o.packer f.files
              last.records) (sym v) f.inside));
        });
      };
    }

pub end_told : {T : Type 0} (H H' : Tapes → Type 0) (w : SetState T) (out : T) (vs : List Vol1)
    (course : Course) (o : OpenFile) (told : List Told)
    → w.phase ≡ Filing o → vs ≡ w.volumes → ((past : List Told) (records : List (List ℕ))
    → IsFiling H vs w.capacity w.set_id o.file w.course o.packer past records
    → IsBetween H' vs w.capacity w.set_id course (past
    ++ record { file = o.file; records = records } ∷ []))
    → IsWriting H w told
    → IsWriting H' (record w { out = out; course = course; phase = Between }) told
end_told H H' w out vs course o told is v closed k =
    let last = last_told H w o told is k in
    let all = last.past ++ record { file = o.file; records = last.records } ∷ [] in
    let between : IsBetween H' vs w.capacity w.set_id course all =
    closed last.past last.records
    (subst (λ z. IsFiling H z w.capacity w.set_id o.file w.course o.packer last.past last.records)
    (sym v) last.filing) in
    record {
      kept = k.kept;
      stands = inr (
        subst (IsBetween H' w.volumes w.capacity w.set_id course) (sym last.is_told)
            (subst (λ z. IsBetween H' z w.capacity w.set_id course all) v between),
        λ z. not_nil last.past _ (sym last.is_told ∙ z),
      );
    }

pub begin_told : {T : Type 0} (H H' : Tapes → Type 0) (w : SetState T) (out : T)
    (files : List Opened) (file : Opened) (course : Course) (p : Packing) (told : List Told)
    (head : Head1) (shape : Shape) → w.phase ≡ Between
    → file ≡ opened_by w.set_id (length w.files + 1) head shape → files ≡ w.files ++ file ∷ []
    → (file.head.set_id ≡ w.set_id → file.head.sequence ≡ length told + 1
    → IsWaiting H w.volumes w.capacity w.set_id w.course told
    → IsFiling H' w.volumes w.capacity w.set_id file course p told [])
    → IsWriting H w told → IsWriting H'
    (record w {
      out = out;
      files = files;
      course = course;
      phase = Filing (record { file = file; packer = p });
    })
    (told ++ record { file = opened_by w.set_id (length told + 1) head shape; records = [] } ∷ [])
begin_told H H' w out files file course p told head shape is same f filing k =
    let many : length w.files ≡ length told = ap length k.kept ∙ length-map told (λ t. t.file) in
    let named : file ≡ opened_by w.set_id (length told + 1) head shape =
    same ∙ ap (λ i. opened_by w.set_id (i + 1) head shape) many in
    let t : Told = record { file = file; records = [] } in
    let made : IsWriting H' (record w {
      out = out;
      files = files;
      course = course;
      phase = Filing (record { file = file; packer = p });
    }) (told ++ t ∷ []) = record {
      kept = f ∙ (ap (λ z. z ++ file ∷ []) k.kept ∙ sym (map-append (λ x. x.file) told (t ∷ [])));
      stands = record {
        past = told;
        records = [];
        is_told = refl;
        filing = filing (ap (λ z. z.head.set_id) named) (ap (λ z. z.head.sequence) named)
            (waits H w told is k);
      };
    } in
    rw (← named) made

-- no volume is left, for the records passed or for others in their place
pub stuck_told : {T : Type 0} (H H' : Tapes → Type 0) (w : SetState T) (out : T) (vs : List Vol1)
    (course : Course) (o : OpenFile) (told told' : List Told)
    (grow : List (List ℕ) → List (List ℕ)) → w.phase ≡ Filing o → vs ≡ w.volumes
    → ((past : List Told) (records : List (List ℕ))
    → told ≡ past ++ record { file = o.file; records = records } ∷ []
    → told' ≡ past ++ record { file = o.file; records = grow records } ∷ [])
    → ((fs : List (List Section)) (records : List (List ℕ))
    → IsInside H vs w.capacity w.set_id o.file w.course o.packer fs records
    → IsStuck H' vs w.capacity w.set_id o.file course fs (grow records))
    → IsWriting H w told
    → IsOutOfVolumes H' (record w { out = out; course = course; phase = Failed }) told'
stuck_told H H' w out vs course o told told' grow is v grown stuck k =
    let last = last_told H w o told is k in
    let f = last.filing in
    record {
      past = last.past;
      last = record { file = o.file; records = grow last.records };
      is_told = grown last.past last.records last.is_told;
      files = f.files;
      filed = f.filed;
      stuck = subst (λ z. IsStuck H' z w.capacity w.set_id o.file course f.files
          (grow last.records)) v
          (stuck f.files last.records
          (subst (λ z. IsInside H z w.capacity w.set_id o.file w.course o.packer f.files
          last.records) (sym v) f.inside));
    }

-- inside a file
pub if_filing : (x : Phase) (o : OpenFile) (Q : OpenFile → Type 0) → x ≡ Filing o → Q o
    → IfFiling x Q
if_filing x o Q e q = rw e q

-- the writer is unchanged
pub lasting_unchanged : {T : Type 0} (g : Ghosts T) (old new : SetState T) → new ≡ old
    → TapeLasts g (tape_of old) (tape_of new)
lasting_unchanged g old new is = rw is (lasting_self _ _ _)

-- a fault that ends the writer leaves a failed writer
pub leaves_failed : {T : Type 0} (old new : SetState T) (fault : WriteFault) → new.phase ≡ Failed
    → IsEnding fault → Leaves old new fault
leaves_failed old new faults.OutOfVolumes is e = is
leaves_failed old new faults.Device is e = is
leaves_failed old new faults.OutOfMemory is e = is
leaves_failed old new _ is e = absurd e

-- what is known of a sequence of calls, of an unchanged writer, and of a writer that failed
pub ruleset calls = (lasting_then, lasting_self, rose_from, lasting_unchanged, leaves_failed)
