-- The lines, sets and missing sections of a catalogue, index by index.
use Rattle.std.proofs.Common.{◌≡◌, ℕ, zero, suc, ◌+◌, ◌-◌, ◌<◌, ◌≤◌, Bool, true, false, List, []}
use Rattle.std.proofs.Common.{◌∷◌, ◌++◌, drop, slice_get, Some, refl, sym, ap, ◌∙◌}
use Rattle.std.proofs.{Common.arith, Common.append_assoc}
use Rattle.std.proofs.lemmas.Option.{slice_get_within, get_or_from_slice_get}
use Rattle.std.proofs.lemmas.List.{drop_more}
use Rattle.std.specs.{Map.lookup, Str.bytes_eq}
use Rattle.indexmap.specs.IndexMap.{insert_entry}
use Rattle.tape_run.specs.Lacks.{SetFiles, greatest, with_file, lack_of}
use Rattle.tape_run.specs.{Passing.Told}
use Rattle.tape_run.specs.Lacks.{one_lack, file_lacks, set_lacks}
use Rattle.tape_run.specs.NextLack.{lacks_after, lacks_from}

-- inserting the greater number records the file
put_here : (x : SetFiles) (xs : List SetFiles) (set_id : List ℕ) (file : ℕ) (b : Bool)
    → bytes_eq set_id x.0 ≡ b
    → insert_entry bytes_eq xs set_id (greatest (lookup (bytes_eq set_id) xs) file)
    ≡ with_file xs set_id file
    → insert_entry bytes_eq (x ∷ xs) set_id (greatest (lookup (bytes_eq set_id) (x ∷ xs)) file)
    ≡ with_file (x ∷ xs) set_id file
put_here x xs set_id file true e rest = simp e
put_here x xs set_id file false e rest = simp (e, rest)

pub put_file : (sets : List SetFiles) (set_id : List ℕ) (file : ℕ)
    → insert_entry bytes_eq sets set_id (greatest (lookup (bytes_eq set_id) sets) file)
    ≡ with_file sets set_id file
put_file [] set_id file = refl
put_file (x ∷ xs) set_id file =
    put_here x xs set_id file (bytes_eq set_id x.0) refl (put_file xs set_id file)

-- the missing sections of one more file
lack_behind : (c : List Told) (set_id : List ℕ) (file left : ℕ) → 0 < left
    → file_lacks c set_id file left
    ≡ one_lack set_id file (lack_of c set_id file) ++ file_lacks c set_id (file + 1) (left - 1)
lack_behind c set_id file zero some = absurd (omega arith)
lack_behind c set_id file (suc n) some =
    let one : n ≡ suc n - 1 = omega arith in
    ap (λ m. one_lack set_id file (lack_of c set_id file) ++ file_lacks c set_id (file + 1) m) one

-- the elements from an index on
pub drop_get : {A : Type 0} (xs : List A) (i : ℕ) (x : A) → Some x ≡ slice_get xs i
    → drop i xs ≡ x ∷ drop (i + 1) xs
drop_get xs i x at =
    let here = sym at in
    drop_more xs i x (slice_get_within xs i x here)
    ∙ ap (λ y. y ∷ drop (i + 1) xs) (get_or_from_slice_get xs i x x here)

-- no file was searched
all_files : (c : List Told) (sets : List SetFiles) → lacks_after c 0 sets ≡ set_lacks c sets
all_files c [] = refl
all_files c (x ∷ sets) =
    let same : x.1 - 0 ≡ x.1 = omega arith in
    ap (λ n. file_lacks c x.0 1 n ++ set_lacks c sets) same

-- all files of a set were searched
pub set_done : (c : List Told) (sets : List SetFiles) (i file : ℕ) (x : SetFiles)
    → Some x ≡ slice_get sets i → x.1 ≤ file
    → lacks_from c sets i file ≡ lacks_from c sets (i + 1) 0
set_done c sets i file x at all =
    let rest = drop (i + 1) sets in
    let none : x.1 - file ≡ 0 = omega (arith, all) in
    ap (lacks_after c file) (drop_get sets i x at)
    ∙ ap (λ n. file_lacks c x.0 (file + 1) n ++ set_lacks c rest) none
    ∙ sym (all_files c rest)

-- the next file of a set
pub file_done : (c : List Told) (sets : List SetFiles) (i file : ℕ) (x : SetFiles)
    → Some x ≡ slice_get sets i → file < x.1
    → lacks_from c sets i file
    ≡ one_lack x.0 (file + 1) (lack_of c x.0 (file + 1)) ++ lacks_from c sets i (file + 1)
file_done c sets i file x at some = grind (arith, drop_get, lack_behind, append_assoc)
