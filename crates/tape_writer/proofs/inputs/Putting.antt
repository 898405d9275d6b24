-- Records that are written one after another, until no volume is left.
use Rattle.tape_writer.proofs.Words.{◌≡◌, ℕ, List, [], ◌∷◌, ◌++◌, Bool, true, Option, refl, sym, ap}
use Rattle.tape_writer.proofs.Words.{◌∙◌, append_assoc, ◌≤◌, length, arith, IfSome, AllByRecursion}
use Rattle.tape_writer.proofs.Words.{IfKnown, Head1, Shape, every, false}
use Rattle.tape_writer.proofs.{Volumes.all_push, Calls.with_last}
use Rattle.tape_image.proofs.Walks.{known_all, known_same, known_then}
use Rattle.std.proofs.Common.{append-nil}
use Rattle.tape_writer.specs.{declared.course.Opened.Opened, declared.inputs.cut.Cut.Cut}
use Rattle.tape_writer.specs.{Told.Told, Told.with_record, Tapes.Tapes, Tapes.Failures, Tapes.Grows}
use Rattle.tape_writer.specs.{ToldFiles.with_records, State.SetState, State.IsOutOfVolumes}
use Rattle.tape_writer.specs.{Records.to_come, Records.given, Records.records_of, LeftOf.GaveUp}
use Rattle.tape_writer.specs.{State.IsWriting, Told.with_file}

-- records were returned and written, which moved the writer from `old` to `new`
pub record Put (cut : Cut) (over over' : Bool) (all left : Option (List ℕ))
    (old new : List Told → Type 0) : Type 0 where
  pub records : List (List ℕ)
  pub known : IfKnown all left (λ xs ys. to_come cut over xs ≡ records ++ to_come cut over' ys)
  pub told : (told : List Told) → old told → new (with_records told records)

-- one more record was returned
pub known_more : (cut : Cut) (a b c : Bool) (r : List ℕ) (rs : List (List ℕ))
    (all left next : Option (List ℕ))
    → IfKnown all left (λ xs ys. to_come cut a xs ≡ rs ++ to_come cut b ys)
    → IfKnown left next (λ xs ys. to_come cut b xs ≡ given true r (to_come cut c ys))
    → IfKnown all next (λ xs ys. to_come cut a xs ≡ (rs ++ r ∷ []) ++ to_come cut c ys)
known_more cut a b c r rs all left next = known_then all left next _ _ _
    (λ xs ys zs h k. h ∙ ap (λ l. rs ++ l) k ∙ sym (append_assoc rs (r ∷ []) (to_come cut c zs)))

pub with_records-one : (told : List Told) (rs : List (List ℕ)) (r : List ℕ)
    → with_records told (rs ++ r ∷ []) ≡ with_record (with_records told rs) r
with_records-one told [] r = refl
with_records-one told (s ∷ rs) r = with_records-one (with_record told s) rs r

-- one more record
pub put_one : {cut : Cut} {a b c : Bool} {all left next : Option (List ℕ)}
    {old mid new : List Told → Type 0} (r : List ℕ) → Put cut a b all left old mid
    → IfKnown left next (λ xs ys. to_come cut b xs ≡ given true r (to_come cut c ys))
    → ((told : List Told) → mid told → new (with_record told r)) → Put cut a c all next old new
put_one r p k step = record {
  records = p.records ++ r ∷ [];
  known = known_more _ _ _ _ r p.records _ _ _ p.known k;
  told = λ told h. rw (with_records-one told p.records r) (step _ (p.told told h));
}

-- the same, and none of the records is longer than n
pub record PutWithin (n : ℕ) (cut : Cut) (over over' : Bool) (all left : Option (List ℕ))
    (old new : List Told → Type 0) : Type 0 where
  pub put : Put cut over over' all left old new
  pub within : AllByRecursion (λ r. length r ≤ n) put.records

-- the files passed when a file began
abbrev pub Begun : {T : Type 0} → (Tapes → Type 0) → SetState T → Head1 → Shape → List Told
    → Type 0
Begun H w head shape t =
    (told : List Told) × IsWriting H w told × (t ≡ with_file w.set_id told head shape)

-- none of its records was returned yet
pub within_begun : {T : Type 0} (H K : Tapes → Type 0) (old new : SetState T) (head : Head1)
    (shape : Shape) (n : ℕ) (cut : Cut) (all left : Option (List ℕ)) → left ≡ all
    → ((told : List Told) → IsWriting H old told
    → IsWriting K new (with_file old.set_id told head shape))
    → PutWithin n cut false false all left (Begun H old head shape) (IsWriting K new)
within_begun H K old new head shape n cut all left same begins = record {
  put = record {
    records = [];
    known = known_same all left _ same (λ xs. refl);
    told = λ t b. rw b.2 (begins b.0 b.1);
  };
  within = tt;
}

-- one more record, for which there is room
pub within_one : {n m : ℕ} {cut : Cut} {a b c : Bool} {all left next : Option (List ℕ)}
    {old mid new : List Told → Type 0} (r : List ℕ) → PutWithin n cut a b all left old mid
    → IfKnown left next (λ xs ys. to_come cut b xs ≡ given true r (to_come cut c ys))
    → ((told : List Told) → mid told → new (with_record told r)) → n ≤ m → length r ≤ m
    → PutWithin m cut a c all next old new
unfolding put_one
within_one {n} {m} r p k step le fits = record {
  put = put_one r p.put k step;
  within = all_push (λ x. length x ≤ m) p.put.records r
      (every (λ x. length x ≤ n) (λ x. length x ≤ m) (λ x l. omega (arith, l, le))
      p.put.records p.within) fits;
}

-- no record is left, so all records of the input were written
pub all_put : {n : ℕ} {cut : Cut} {b : Bool} {all left : Option (List ℕ)}
    {old mid : List Told → Type 0} (c : Bool) (next : Option (List ℕ))
    → PutWithin n cut false b all left old mid
    → IfKnown left next (λ xs ys. to_come cut b xs ≡ to_come cut c ys) → c ≡ true
    → (told : List Told) → old told
    → IfKnown all next (λ xs ys. mid (with_records told (records_of cut xs)))
all_put {cut = cut} {all = all} {left = left} c next p k over told h =
    known_then all left next _ _ _ (λ xs ys zs e f.
    let same : records_of cut xs ≡ p.put.records = e ∙ ap (λ l. p.put.records ++ l)
    (f ∙ ap (λ o. to_come cut o zs) over) ∙ append-nil p.put.records in
    rw same (p.put.told told h)) p.put.known k

-- the records of a file that has just begun
pub of_file : (told : List Told) (file : Opened) (before rs : List (List ℕ))
    → with_records (told ++ record { file = file; records = before } ∷ []) rs
    ≡ told ++ record { file = file; records = before ++ rs } ∷ []
of_file told file before [] =
    ap (λ l. told ++ record { file = file; records = l } ∷ []) (sym (append-nil before))
of_file told file before (r ∷ rs) =
    ap (λ l. with_records l rs) (with_last told (record { file = file; records = before }) r)
    ∙ of_file told file (before ++ r ∷ []) rs
    ∙ ap (λ l. told ++ record { file = file; records = l } ∷ []) (append_assoc before (r ∷ []) rs)

-- a file began, the records of its input were written, and it ended
pub file_told : (told : List Told) (file : Opened) (records : List ℕ → List (List ℕ))
    (all next : Option (List ℕ)) (mid last : List Told → Type 0) → IfKnown all next (λ xs ys.
    mid (with_records (told ++ record { file = file; records = [] } ∷ []) (records xs)))
    → ((t : List Told) → mid t → last t)
    → IfSome all (λ xs. last (told ++ record { file = file; records = records xs } ∷ []))
file_told told file records all next mid last h ends =
    known_all all next _ _ (λ xs ys m. ends _ (rw (of_file told file [] _) at m)) h

-- ---- no volume is left

-- the last record was not written
pub gave_up : {T : Type 0} (H : Tapes → Type 0) (w : SetState T) (cut : Cut) (a b : Bool)
    (all left : Option (List ℕ)) (old : List Told → Type 0)
    → Put cut a b all left old (IsOutOfVolumes H w)
    → (told : List Told) → old told → IfSome all (λ xs. GaveUp H w told (to_come cut a xs))
gave_up H w cut a b all left old p told h = known_all all left _ _ (λ xs ys e. record {
  front = p.records;
  back = to_come cut b ys;
  split = e;
  out = p.told told h;
}) p.known

-- all records of the file were written, but not its end
pub end_out : {T : Type 0} (H : Tapes → Type 0) (w : SetState T) (told : List Told)
    (records : List ℕ → List (List ℕ)) (all next : Option (List ℕ)) (mid : List Told → Type 0)
    → IfKnown all next (λ xs ys. mid (with_records told (records xs)))
    → ((t : List Told) → mid t → IsOutOfVolumes H w t)
    → IfSome all (λ xs. GaveUp H w told (records xs))
end_out H w told records all next mid put stuck = known_all all next _ _ (λ xs ys m.
    record { front = records xs; back = []; split = sym (append-nil _); out = stuck _ m }) put

-- ---- the device failed

pub grows_then : (a b c : Failures) → Grows a b → Grows b c → Grows a c
grows_then a b c k l = (omega (arith, k.0, l.0), omega (arith, k.1, l.1))

pub grows_self : (a : Failures) → Grows a a
grows_self a = (omega arith, omega arith)
