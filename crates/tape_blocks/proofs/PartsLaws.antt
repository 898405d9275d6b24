-- The parts that an iterator has left are the parts that its bytes represent.
use Rattle.std.proofs.Common.{◌≡◌, ℕ, zero, suc, ◌+◌, ◌-◌, ◌≤◌, List, [], ◌∷◌, ◌++◌, length, take}
use Rattle.std.proofs.Common.{drop, Option, Some, None, Result, Ok, Err, refl, sym, ap, ◌∙◌}
use Rattle.std.proofs.Common.{append_assoc, arith, length-append}
use Rattle.std.proofs.lemmas.List.{append-nil, length-drop, length-take, drop-take, take-take}
use Rattle.std.proofs.{lemmas.Bool.Decides.nat_tests, lemmas.List.Concat.flat_map-cons}
use Rattle.std.specs.{Prelude.nat_lt, List.AllByRecursion}
use Rattle.tape_label.specs.declared.values.Format.{Format}
use Rattle.tape_label.specs.declared.values.Format.TheVariants.{Fixed, Counted, Spanned}
use Rattle.tape_label.specs.declared.values.Format.TheVariants.{Undefined, Variable}
use Rattle.tape_blocks.specs.{declared.check.BlockFault.BlockFault, declared.check.Found.Found}
use Rattle.tape_blocks.specs.Block.{Portion, head_len, spelling, spellings, IsUnit, IsPadding}
use Rattle.tape_blocks.specs.Parts.{portion, unit_len, with_unit, parts_by, parts_of}
use Rattle.tape_blocks.specs.Units.{unit_at}
use Rattle.tape_blocks.proofs.UnitLaws.{found_of, unit_found, unit_again, portion_of, rest_of}
use Rattle.tape_blocks.proofs.{UnitLaws.length-spelling, PaddingLaws.padding_again}

abbrev unit_of : Found → Result (Option Found) BlockFault
unit_of found = Ok (Some found)

some_is : (x y : Found) → unit_of x ≡ unit_of y → x ≡ y
some_is x y e = cc

pub unit_size : (format : Format) (rec_len : ℕ) (p : Portion) → (format ≡ Fixed → 1 ≤ rec_len)
    → IsUnit format rec_len p → 1 ≤ head_len format + length p.bytes
unit_size Fixed rec_len p some is = omega (arith, is.1, some refl)
unit_size Counted rec_len p some is = omega arith
unit_size Spanned rec_len p some is = omega arith
unit_size Undefined rec_len p some is = omega (arith, is.1)
unit_size Variable rec_len p some is = omega arith

pub found_size : (format : Format) (rec_len : ℕ) (bytes : List ℕ) (found : Found)
    → (format ≡ Fixed → 1 ≤ rec_len) → unit_at format rec_len bytes ≡ Ok (Some found)
    → (1 ≤ found.len) × (found.len ≤ length bytes)
found_size format rec_len bytes found some e =
    let stands = unit_found format rec_len bytes found e in
    let p = portion found bytes in
    let again = unit_again format rec_len p (drop found.len bytes) stands.unit in
    let same : unit_of (found_of format p) ≡ unit_of found =
    sym again ∙ ap (unit_at format rec_len) (sym stands.whole) ∙ e in
    let is : head_len format + length p.bytes ≡ found.len =
    ap (λ (f : Found). f.len) (some_is (found_of format p) found same) in
    let size : length bytes ≡ length (spelling format p ++ drop found.len bytes) =
    ap length stands.whole in (
      omega (arith, is, unit_size format rec_len p some stands.unit),
      omega (
        arith,
        is,
        size,
        length-append (spelling format p) (drop found.len bytes),
        length-spelling format p,
      ),
    )

step_is : (n : ℕ) (format : Format) (rec_len : ℕ) (bytes : List ℕ) (u : Result (Option
    Found) BlockFault) → unit_at format rec_len bytes ≡ u → parts_by (suc n) format rec_len bytes
    ≡ with_unit u bytes (parts_by n format rec_len (drop (unit_len u) bytes))
unfolding parts_by
step_is n format rec_len bytes u e = rw e refl

none_left : (u : Result (Option Found) BlockFault) (n : ℕ) (format : Format) (rec_len : ℕ)
    → (format ≡ Fixed → 1 ≤ rec_len) → unit_at format rec_len [] ≡ u
    → parts_by (suc n) format rec_len [] ≡ []
none_left (Ok (Some found)) n format rec_len some e = grind (arith, found_size)
none_left (Ok None) n format rec_len some e = step_is n format rec_len [] (Ok None) e
none_left (Err f) n format rec_len some e = step_is n format rec_len [] (Err f) e

same_by : (u : Result (Option Found) BlockFault) (n
    m : ℕ) (format : Format) (rec_len : ℕ) (bytes : List ℕ) → (format ≡ Fixed → 1 ≤ rec_len)
    → unit_at format rec_len bytes ≡ u → length bytes ≤ suc n → length bytes ≤ suc m
    → ((rest : List ℕ) → length rest ≤ n → length rest ≤ m
    → parts_by n format rec_len rest ≡ parts_by m format rec_len rest)
    → parts_by (suc n) format rec_len bytes ≡ parts_by (suc m) format rec_len bytes
same_by (Ok (Some found)) n m format rec_len bytes some e low high same =
    let size = found_size format rec_len bytes found some e in
    let rest = drop found.len bytes in
    step_is n format rec_len bytes (Ok (Some found)) e
    ∙ ap (λ (ps : List Portion). portion found bytes ∷ ps) (same rest (omega (
      arith,
      length-drop found.len bytes,
      size.0,
    )) (omega (arith, length-drop found.len bytes, size.0)))
    ∙ sym (step_is m format rec_len bytes (Ok (Some found)) e)
same_by (Ok None) n m format rec_len bytes some e low high same =
    step_is n format rec_len bytes (Ok None) e ∙ sym (step_is m format rec_len bytes (Ok None) e)
same_by (Err f) n m format rec_len bytes some e low high same =
    step_is n format rec_len bytes (Err f) e ∙ sym (step_is m format rec_len bytes (Err f) e)

parts_by-any : (n m : ℕ) (format : Format) (rec_len : ℕ) (bytes : List ℕ)
    → (format ≡ Fixed → 1 ≤ rec_len) → length bytes ≤ n → length bytes ≤ m
    → parts_by n format rec_len bytes ≡ parts_by m format rec_len bytes
unfolding parts_by
parts_by-any zero zero format rec_len bytes some low high = refl
parts_by-any zero (suc m) format rec_len [] some low high = grind (arith, none_left)
parts_by-any zero (suc m) format rec_len (c ∷ cs) some low high = absurd (omega arith)
parts_by-any (suc n) zero format rec_len [] some low high = grind (arith, none_left)
parts_by-any (suc n) zero format rec_len (c ∷ cs) some low high = absurd (omega arith)
parts_by-any (suc n) (suc m) format rec_len bytes some low high =
    same_by (unit_at format rec_len bytes) n m format rec_len bytes some refl low high
    (λ rest a b. parts_by-any n m format rec_len rest some a b)

pub parts_next : (format : Format) (rec_len : ℕ) (bytes : List ℕ) (found : Found) → (format ≡ Fixed
    → 1 ≤ rec_len) → unit_at format rec_len bytes ≡ Ok (Some found) → parts_of format rec_len bytes
    ≡ portion found bytes ∷ parts_of format rec_len (drop found.len bytes)
parts_next format rec_len bytes found some e =
    let size = found_size format rec_len bytes found some e in
    let rest = drop found.len bytes in
    parts_by-any (length bytes) (suc (length bytes)) format rec_len bytes some (omega arith)
    (omega arith)
    ∙ step_is (length bytes) format rec_len bytes (Ok (Some found)) e
    ∙ ap (λ (ps : List Portion). portion found bytes ∷ ps) (parts_by-any (length bytes) (length
    rest) format rec_len rest some (omega (arith, length-drop found.len bytes)) (omega arith))

-- the content of a unit, cut from it or from the bytes that begin with it
pub content_of : (bytes : List ℕ) (h len : ℕ) → h ≤ len → len ≤ length bytes
    → take (length (take len bytes) - h) (drop h (take len bytes)) ≡ take (len - h) (drop h bytes)
content_of bytes h len le lt =
    let size : length (take len bytes) - h ≡ len - h = omega (arith, length-take len bytes) in
    let sum : h + (len - h) ≡ len = omega arith in
    let whole : take len bytes ≡ take (h + (len - h)) bytes =
    ap (λ (k : ℕ). take k bytes) (sym sum) in
    let cut : drop h (take len bytes) ≡ take (len - h) (drop h bytes) =
    ap (drop h) whole ∙ drop-take h (len - h) bytes in
    rw (size, cut) (take-take (len - h) (len - h) (drop h bytes) (omega arith))

stops_by : (u : Result (Option Found) BlockFault)
    (n : ℕ) (format : Format) (rec_len : ℕ) (bytes : List ℕ) → unit_at format rec_len bytes ≡ u
    → ((found : Found) → u ≡ unit_of found → ⊥) → parts_by n format rec_len bytes ≡ []
unfolding parts_by
stops_by u zero format rec_len bytes e never = refl
stops_by (Ok (Some found)) (suc n) format rec_len bytes e never = absurd (never found refl)
stops_by (Ok None) (suc n) format rec_len bytes e never = step_is n format rec_len bytes (Ok None) e
stops_by (Err f) (suc n) format rec_len bytes e never = step_is n format rec_len bytes (Err f) e

-- without bytes there is no unit and no part
pub unit_none : (format : Format) (rec_len : ℕ) → (format ≡ Fixed → 1 ≤ rec_len)
    → unit_at format rec_len [] ≡ Ok None
unfolding unit_at
unit_none Fixed rec_len some = grind (arith, nat_lt, nat_tests)
unit_none Counted rec_len some = refl
unit_none Spanned rec_len some = refl
unit_none Undefined rec_len some = refl
unit_none Variable rec_len some = refl

pub parts_none : (format : Format) (rec_len : ℕ) (bytes : List ℕ) → length bytes ≡ 0
    → parts_of format rec_len bytes ≡ []
unfolding parts_by
parts_none format rec_len [] e = refl
parts_none format rec_len (c ∷ cs) e = absurd (omega (arith, e))

pub parts_end : (format : Format) (rec_len : ℕ) (bytes : List ℕ)
    → unit_at format rec_len bytes ≡ Ok None → parts_of format rec_len bytes ≡ []
parts_end format rec_len bytes e = grind (arith, stops_by)

pub parts_fault : (format : Format) (rec_len : ℕ) (bytes : List ℕ) (f : BlockFault)
    → unit_at format rec_len bytes ≡ Err f → parts_of format rec_len bytes ≡ []
parts_fault format rec_len bytes f e = grind (arith, stops_by)

-- The parts of the given units are followed by the parts of the rest.
pub parts_front : (format : Format) (rec_len : ℕ) (ps : List Portion) (bytes rest : List ℕ)
    → (format ≡ Fixed → 1 ≤ rec_len) → AllByRecursion (IsUnit format rec_len) ps
    → bytes ≡ spellings format ps ++ rest
    → parts_of format rec_len bytes ≡ ps ++ parts_of format rec_len rest
parts_front format rec_len [] bytes rest some all e = ap (parts_of format rec_len) e
parts_front format rec_len (p ∷ ps) bytes rest some all e =
    let others = spellings format ps ++ rest in
    let grouped : bytes ≡ spelling format p ++ others =
    e ∙ ap (λ (s : List ℕ). s ++ rest) (flat_map-cons (spelling format) p ps)
    ∙ append_assoc (spelling format p) (spellings format ps) rest in
    let unit : unit_at format rec_len bytes ≡ Ok (Some (found_of format p)) =
    rw grouped (unit_again format rec_len p others all.0) in
    let part : portion (found_of format p) bytes ≡ p = rw grouped (portion_of format p others) in
    let left : drop (head_len format + length p.bytes) bytes ≡ others =
    rw grouped (rest_of format p others) in
    parts_next format rec_len bytes (found_of format p) some unit
    ∙ ap (λ (x : Portion). x ∷ parts_of format rec_len (drop (head_len format + length p.bytes)
    bytes)) part
    ∙ ap (λ (xs : List Portion). p ∷ xs) (parts_front format rec_len ps
    (drop (head_len format + length p.bytes) bytes) rest some all.1 left)

-- With padding in format F, the record length is at least 1.
pub some_of : (format : Format) (rec_len : ℕ) (padding : List ℕ) → IsPadding format rec_len padding
    → format ≡ Fixed → 1 ≤ rec_len
some_of Fixed rec_len padding is e = omega (arith, is.1)
some_of Counted rec_len padding is e = absurd cc
some_of Spanned rec_len padding is e = absurd cc
some_of Undefined rec_len padding is e = absurd cc
some_of Variable rec_len padding is e = absurd cc

-- The parts of bytes that consist of units and padding are those of the units.
pub parts_are : (format : Format) (rec_len : ℕ) (ps : List Portion) (bytes padding : List ℕ)
    → AllByRecursion (IsUnit format rec_len) ps → IsPadding format rec_len padding
    → bytes ≡ spellings format ps ++ padding → parts_of format rec_len bytes ≡ ps
parts_are format rec_len ps bytes padding all is e =
    parts_front format rec_len ps bytes padding (some_of format rec_len padding is) all e
    ∙ ap (λ (qs : List Portion). ps ++ qs) (parts_end format rec_len padding
    (padding_again format rec_len padding is))
    ∙ append-nil ps
