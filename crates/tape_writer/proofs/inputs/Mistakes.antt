-- Results that the contracts of writing from inputs exclude: each is the result of a wrong body.
use Rattle.tape_writer.proofs.Words.{◌≡◌, ℕ, List, [], ◌∷◌, ◌++◌, length, false, refl, sym, ap, ◌∙◌}
use Rattle.tape_writer.proofs.Words.{subst, arith, codes, Option, Some, Ok, Err, map, IfKnown}
use Rattle.tape_writer.proofs.Words.{Head1}
use Rattle.tape_writer.specs.{State.IsWriting, Records.left_of, Records.last_record}
use Rattle.tape_writer.specs.{ToldFiles.IfAllKnown, ToldFiles.told_files}
use Rattle.tape_writer.specs.declared.inputs.cut.Cut.TheVariants.{Lines}
use Rattle.tape_writer.specs.declared.inputs.records.InputFault.TheVariants.{ReadFailed}
use Rattle.tape_writer.proofs.inputs.cut.Cut.is_last.Reads as is_last
use Rattle.tape_writer.proofs.inputs.records.Records.next.Reads as next
use Rattle.tape_writer.proofs.inputs.files.write_files.Reads as write_files

-- ---- inputs cut into records

-- last_line_of_one_byte_dropped: one byte at the end of an input of lines is not a record
last_line_of_one_byte_dropped : (κs : _) (s : _) → is_last.Learnt κs (Lines, (1, tt)) false s → ⊥
last_line_of_one_byte_dropped κs s h =
    let e : last_record Lines (65 ∷ []) ≡ [] = h (65 ∷ []) refl in
    absurd (let n : 1 ≡ 0 = ap length e in omega arith)

-- bytes_lost_at_a_failed_read: two bytes of a record were read, the reader fails, and the bytes are
-- lost
bytes_lost_at_a_failed_read : (R : _) (L : _) (g : _) (d : _) (h : _) (κs : _) (a : _) (s : _)
    → next.Learnt-named R L g d h κs a (Err ReadFailed) s
    → left_of g.remaining a.0.now ≡ Some (codes "AB") → left_of g.remaining s.0.now ≡ Some []
    → s.0.now.content.items ≡ [] → ⊥
bytes_lost_at_a_failed_read R L g d h κs a s l old new none =
    let k : (xs ys : List ℕ) → Type 0 = λ xs ys. xs ≡ s.0.now.content.items ++ ys in
    let e : codes "AB" ≡ s.0.now.content.items ++ [] =
    subst (λ v. IfKnown (Some (codes "AB")) v k) new
    (subst (λ v. IfKnown v (left_of g.remaining s.0.now) k) old l.taken) in
    absurd (let n : 2 ≡ 0 = ap length e ∙ ap (λ r. length (r ++ [])) none in omega arith)

-- ---- files

-- every_other_file_left_out: only the first of two inputs is written
every_other_file_left_out : (T : _) (R : _) (LT : _) (LR : _) (g : _) (d : _) (e : _) (h : _)
    (f : _) (κs : _) (a : _) (s : _) (x y : Head1) (b c : List ℕ)
    → write_files.Learnt-named T R LT LR g d e h f κs a (Ok tt) s
    → IsWriting (g.holds a.1.0.now.out) a.1.0.now []
    → map {B = Head1 × Option (List ℕ)} (λ v. (v.head, e.remaining v.reader)) a.1.1.0.now ≡ (
      x,
      Some b,
    ) ∷ (y, Some c) ∷ []
    → length s.1.0.now.files ≡ 1 → ⊥
every_other_file_left_out T R LT LR g d e h f κs a s x y b c l writing two one =
    let k : List (Head1 × List ℕ) → Type 0 = λ fs. IsWriting (g.holds s.1.0.now.out) s.1.0.now
    ([] ++ told_files a.1.0.now.set_id a.1.1.1.0 a.1.1.1.1.0 1 fs) in
    let w : k ((x, b) ∷ (y, c) ∷ [])
    = subst (λ v. IfAllKnown v k) two (l.told [] writing) in
    absurd (let n : 1 ≡ 2 = sym one ∙ ap length w.kept in omega arith)
