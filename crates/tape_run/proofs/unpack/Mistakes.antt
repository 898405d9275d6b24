-- Wrong answers that the contracts of unpacking exclude.
use Rattle.std.proofs.Common.{◌≡◌, ◌∙◌, [], ◌++◌, length, sym, ap, arith, codes, Ok, Some}
use Rattle.std.proofs.Common.{slice_index}
use Rattle.std.specs.Fmt.{digits}
use Rattle.tape_run.specs.declared.survey.files.FileNote.{FileNote}
use Rattle.tape_run.specs.SurveyFiles.{note_at, file_key}
use Rattle.tape_run.specs.Unpacking as unpacking
use Rattle.tape_run.specs.UnpackLine as lines
use Rattle.tape_run.proofs.unpack.add_files.Reads as add_files
use Rattle.tape_run.proofs.unpack.name.file_name.Reads as file_name
use Rattle.tape_run.proofs.unpack.line.notice_line.Reads as notice_line
use Rattle.tape_run.specs.declared.unpack.line.Notice.TheVariants as notices

-- slash_kept: the name of a file leads into another folder
slash_kept : (κs : _) (a : _) (z : _) (s : _) → file_name.Learnt κs a z s → a.0.now ≡ codes "ABC001"
    → a.1.0 ≡ 1 → a.1.1.0.now ≡ codes "A/B              " → z.items ≡ codes "ABC001.1.A/B" → ⊥
unfolding digits
slash_kept κs a z s h set file name w =
    absurd (let e : 47 ≡ 37 = ap (λ v. slice_index v 10) (sym w ∙ h
    ∙ ap (λ x. unpacking.file_name x a.1.0 a.1.1.0.now) set
    ∙ ap (λ n. unpacking.file_name (codes "ABC001") n a.1.1.0.now) file
    ∙ ap (unpacking.file_name (codes "ABC001") 1) name) in omega arith)

-- stop_of_a_set_kept: file 2 of set A.1 has a name that file 1 of set A may have
stop_of_a_set_kept : (κs : _) (a : _) (z : _) (s : _) → file_name.Learnt κs a z s
    → a.0.now ≡ codes "A.1   " → a.1.0 ≡ 2 → a.1.1.0.now ≡ codes "B                "
    → z.items ≡ codes "A.1___.2.B" → ⊥
unfolding digits
stop_of_a_set_kept κs a z s h set file name w =
    absurd (let e : 46 ≡ 37 = ap (λ v. slice_index v 1) (sym w ∙ h
    ∙ ap (λ x. unpacking.file_name x a.1.0 a.1.1.0.now) set
    ∙ ap (λ n. unpacking.file_name (codes "A.1   ") n a.1.1.0.now) file
    ∙ ap (unpacking.file_name (codes "A.1   ") 2) name) in omega arith)

-- small_letters_kept: two sets have the same name if case is ignored
small_letters_kept : (κs : _) (a : _) (z : _) (s : _) → file_name.Learnt κs a z s
    → a.0.now ≡ codes "aBC001" → a.1.0 ≡ 1 → a.1.1.0.now ≡ codes "B                "
    → z.items ≡ codes "aBC001.1.B" → ⊥
unfolding digits
small_letters_kept κs a z s h set file name w =
    absurd (let e : 97 ≡ 37 = ap (λ v. slice_index v 0) (sym w ∙ h
    ∙ ap (λ x. unpacking.file_name x a.1.0 a.1.1.0.now) set
    ∙ ap (λ n. unpacking.file_name (codes "aBC001") n a.1.1.0.now) file
    ∙ ap (unpacking.file_name (codes "aBC001") 1) name) in omega arith)

-- final_stop_kept: a name has a full stop at its end, which some file systems drop
final_stop_kept : (κs : _) (a : _) (z : _) (s : _) → file_name.Learnt κs a z s
    → a.0.now ≡ codes "ABC001" → a.1.0 ≡ 1 → a.1.1.0.now ≡ codes "A.               "
    → z.items ≡ codes "ABC001.1.A." → ⊥
unfolding digits
final_stop_kept κs a z s h set file name w =
    absurd (let e : 46 ≡ 37 = ap (λ v. slice_index v 10) (sym w ∙ h
    ∙ ap (λ x. unpacking.file_name x a.1.0 a.1.1.0.now) set
    ∙ ap (λ n. unpacking.file_name (codes "ABC001") n a.1.1.0.now) file
    ∙ ap (unpacking.file_name (codes "ABC001") 1) name) in omega arith)

-- left_over_not_told: an image was not read, and a line says that no set was found
left_over_not_told : (κs : _) (a : _) (z : _) (s : _) → notice_line.Learnt κs a (Ok z) s
    → a.1.0 ≡ notices.Unread → a.1.1.0.now ≡ codes "a" → z.items ≡ codes "NO SET a\n" → ⊥
left_over_not_told κs a z s h notice name w =
    absurd (let e : 78 ≡ 73 = ap (λ v. slice_index v 0) (sym w ∙ h
    ∙ ap (λ n. lines.notice_line n a.1.1.0.now) notice) in omega arith)

-- first_file_left_out: a set has one file, but none is added
first_file_left_out : (κs : _) (a : _) (s : _) (n : FileNote) → add_files.Learnt κs a (Ok tt) s
    → a.1.1.1.0 ≡ 1 → a.0.now.items ≡ []
    → note_at a.1.0.now.files (file_key a.1.1.0 1) ≡ Some n → s.0.now.items ≡ [] → ⊥
first_file_left_out κs a s n h one old note new =
    let d = a.1.0.now in
    absurd (let e : 0 ≡ 1 = ap length (sym new ∙ h
    ∙ ap (λ xs. xs ++ unpacking.files_from d a.1.1.0 1 a.1.1.1.0) old
    ∙ ap (λ n. [] ++ unpacking.files_from d a.1.1.0 1 n) one
    ∙ ap (λ o. unpacking.file_by d a.1.1.0 1 o ++ []) note) in omega arith)
