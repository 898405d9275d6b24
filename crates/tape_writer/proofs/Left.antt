-- The contents of the tapes after a refused call, in terms of the files and records passed to the
-- writer.
use Rattle.tape_writer.proofs.Words.{◌⊎◌, subst, ◌≡◌, ◌≢◌, ℕ, ◌+◌, List, [], ◌∷◌, ◌++◌, length}
use Rattle.tape_writer.proofs.Words.{refl, sym, ap, ◌∙◌, inl, inr, drop, length-map, Vol1, Head1}
use Rattle.tape_writer.proofs.Words.{Shape, Packing, IsJudged, Offers, emptied, Section}
use Rattle.tape_writer.proofs.Fronts.{front_here, is_out, inside_left, packing_left, waits}
use Rattle.tape_writer.proofs.{Changed.not_nil, Packed.packing_with, Packed.flat_with}
use Rattle.tape_writer.proofs.Calls.{last_told, put_last}
use Rattle.tape_blocks.specs.declared.offer.Offer.TheVariants.{BlockReady}
use Rattle.tape_writer.specs.Inside.{IsInside, IsPacking, Flushed, IsBetween, IsFiling, IsWaiting}
use Rattle.tape_writer.specs.{declared.course.Opened.Opened, declared.phase.OpenFile.OpenFile}
use Rattle.tape_writer.specs.{declared.course.Course.Course, Draft.Draft, Draft.IsOpen}
use Rattle.tape_writer.specs.{declared.fault.WriteFault.WriteFault, State.SetState, State.IsWriting}
use Rattle.tape_writer.specs.{Tapes.Tapes, Told.Told, Told.opened_by, Told.with_record}
use Rattle.tape_writer.specs.declared.phase.Phase.TheVariants.{Between, Filing}
use Rattle.tape_writer.specs.Front.{HoldsFront, IsMidRecord, IsPartly, IsInLast}
use Rattle.tape_writer.specs.declared.fault.WriteFault.TheVariants as faults

-- ---- inside a file

module _ {H K : Tapes → Type 0} {vs : List Vol1} {cap : ℕ} {set_id : List ℕ} {file : Opened}
    {course : Course} {fs : List (List Section)} {records : List (List ℕ)} (fault : WriteFault)
    (out : fault ≡ faults.OutOfVolumes → (t : Tapes) → H t → K t) where
  -- a block of the record was not written, or only in part
  pub mid_left : (old new : Packing) (whole rest : List ℕ) (n : ℕ) → IsJudged old rest
      → Offers old rest (BlockReady n) new
      → ((d : Draft) → IsOpen H vs cap set_id file course d → fault ≢ faults.OutOfVolumes
      → (c : Course) × Flushed (HoldsFront K) vs cap set_id file c d new)
      → IsPacking H vs cap set_id file course old fs records whole rest
      → (c : Course) × IsMidRecord (HoldsFront K) vs cap set_id file c fs (records ++ whole ∷ [])
  mid_left old new whole rest n judged offers flushed k = elim (is_out fault) [
    | inl e ↦ (
      course,
      record {
        packer = old;
        before = records;
        whole = whole;
        rest = rest;
        split = refl;
        packing = packing_left (λ t h. front_here K t (out e t h)) k;
      },
    )
    | inr not ↦
        let q = flushed k.draft k.is_open not in (
          q.0,
          record {
            packer = emptied new;
            before = records;
            whole = whole;
            rest = drop n rest;
            split = refl;
            packing = packing_with old new whole rest n judged offers refl k q.1;
          },
        )
  ]

  -- the last block of the file was not written, or only in part
  pub last_left : (p : Packing) → ((d : Draft) → IsOpen H vs cap set_id file course d
      → fault ≢ faults.OutOfVolumes
      → (c : Course) × Flushed (HoldsFront K) vs cap set_id file c d p)
      → IsInside H vs cap set_id file course p fs records
      → (c : Course) × IsPartly (HoldsFront K) vs cap set_id file c fs records
  last_left p flushed k = elim (is_out fault) [
    | inl e ↦ (course, inl (p, inside_left (λ t h. front_here K t (out e t h)) k))
    | inr not ↦
        let q = flushed k.draft k.is_open not in (q.0, inr (inr (flat_with p k q.1)))
  ]

-- after the first volume has begun, the writer is between two files
pub is_begun : (H : Tapes → Type 0) (vs : List Vol1) (cap : ℕ) (set_id : List ℕ) (course : Course)
    (told : List Told) → (course.volume ≡ 0 → ⊥) → IsWaiting H vs cap set_id course told
    → IsBetween H vs cap set_id course told × (told ≢ [])
is_begun H vs cap set_id course told some (inl (none, held, empty)) = absurd (some none)
is_begun H vs cap set_id course told some (inr k) = k

-- ---- the writer's calls

pub left_put : {T : Type 0} (H H' : Tapes → Type 0) (w : SetState T) (vs : List Vol1)
    (o : OpenFile) (told : List Told) (r : List ℕ)
    → w.phase ≡ Filing o → vs ≡ w.volumes
    → ((fs : List (List Section)) (records : List (List ℕ))
    → IsInside H vs w.capacity w.set_id o.file w.course o.packer fs records
    → (c : Course) × IsMidRecord (HoldsFront H') vs w.capacity w.set_id o.file c fs
    (records ++ r ∷ []))
    → IsWriting H w told
    → IsInLast (HoldsFront H') w.volumes w.capacity w.set_id (with_record told r)
left_put H H' w vs o told r is v mid k =
    let last = last_told H w o told is k in
    let f = last.filing in
    let q = mid f.files last.records
    (subst (λ z. IsInside H z w.capacity w.set_id o.file w.course o.packer f.files last.records)
    (sym v) f.inside) in
    record {
      past = last.past;
      last = record { file = o.file; records = last.records ++ r ∷ [] };
      is_told = put_last told last.past o.file last.records r last.is_told;
      files = f.files;
      filed = f.filed;
      course = q.0;
      partly = inr (inl (subst (λ z. IsMidRecord (HoldsFront H') z w.capacity w.set_id o.file q.0
          f.files (last.records ++ r ∷ [])) v q.1));
    }

pub left_end : {T : Type 0} (H H' : Tapes → Type 0) (w : SetState T) (vs : List Vol1)
    (o : OpenFile) (told : List Told) → w.phase ≡ Filing o → vs ≡ w.volumes
    → ((past : List Told) (records : List (List ℕ))
    (k : IsFiling H vs w.capacity w.set_id o.file w.course o.packer past records)
    → ((c : Course) × IsPartly (HoldsFront H') vs w.capacity w.set_id o.file c k.files records)
    ⊎ ((c : Course) × IsBetween (HoldsFront H') vs w.capacity w.set_id c
    (past ++ record { file = o.file; records = records } ∷ [])))
    → IsWriting H w told → IsInLast (HoldsFront H') w.volumes w.capacity w.set_id told
    ⊎ ((c : Course) × IsWaiting (HoldsFront H') w.volumes w.capacity w.set_id c told)
left_end H H' w vs o told is v ends k =
    let last = last_told H w o told is k in
    let f = subst (λ z. IsFiling H z w.capacity w.set_id o.file w.course o.packer last.past
    last.records) (sym v) last.filing in
    elim (ends last.past last.records f) [
      | inl p ↦ inl record {
        past = last.past;
        last = record { file = o.file; records = last.records };
        is_told = last.is_told;
        files = f.files;
        filed = f.filed;
        course = p.0;
        partly = subst (λ z. IsPartly (HoldsFront H') z w.capacity w.set_id o.file p.0 f.files
            last.records) v p.1;
      }
      | inr b ↦ inr (
        b.0,
        inr (
          subst (λ z. IsBetween (HoldsFront H') z w.capacity w.set_id b.0 told) v
              (subst (IsBetween (HoldsFront H') vs w.capacity w.set_id b.0) (sym last.is_told) b.1),
          λ z. not_nil last.past _ (sym last.is_told ∙ z),
        ),
      )
    ]

pub left_begin : {T : Type 0} (H H' : Tapes → Type 0) (w : SetState T) (file : Opened)
    (p : Packing) (told : List Told) (head : Head1) (shape : Shape) → w.phase ≡ Between
    → file ≡ opened_by w.set_id (length w.files + 1) head shape
    → (file.head.set_id ≡ w.set_id → file.head.sequence ≡ length told + 1
    → IsWaiting H w.volumes w.capacity w.set_id w.course told
    → (c : Course) × IsFiling (HoldsFront H') w.volumes w.capacity w.set_id file c p told [])
    → IsWriting H w told
    → IsInLast (HoldsFront H') w.volumes w.capacity w.set_id
    (told ++ record { file = opened_by w.set_id (length told + 1) head shape; records = [] } ∷ [])
left_begin H H' w file p told head shape is same filing k =
    let many : length w.files ≡ length told = ap length k.kept ∙ length-map told (λ t. t.file) in
    let named : file ≡ opened_by w.set_id (length told + 1) head shape =
    same ∙ ap (λ i. opened_by w.set_id (i + 1) head shape) many in
    let q = filing (ap (λ z. z.head.set_id) named) (ap (λ z. z.head.sequence) named)
    (waits H w told is k) in
    let left : IsInLast (HoldsFront H') w.volumes w.capacity w.set_id
    (told ++ record { file = file; records = [] } ∷ []) = record {
      past = told;
      last = record { file = file; records = [] };
      is_told = refl;
      files = q.1.files;
      filed = q.1.filed;
      course = q.0;
      partly = inl (p, q.1.inside);
    } in
    rw (← named) left
