-- Steps enough for the bytes of an image in normal form, and what is looked at.
use Rattle.std.proofs.Common.{◌≡◌, ℕ, zero, suc, ◌+◌, ◌-◌, ◌%◌, ◌≤◌, ◌<◌, Bool, true, false}
use Rattle.std.proofs.Common.{◌==◌}
use Rattle.std.proofs.Common.{nat_lt, List, ◌++◌}
use Rattle.std.proofs.Common.{length, take, drop, Option, Some, None, refl, sym, ap, subst, ◌∙◌}
use Rattle.std.proofs.Common.{arith}
use Rattle.std.proofs.Common.{length-drop, IfSome}
use Rattle.std.proofs.lemmas.Bool.Decides.{nat_tests}
use Rattle.tape_image.specs.Word.{block_len, block_extent, mark_word, gap_word}
use Rattle.tape_image.specs.{Tape.block, Tape.mark}
use Rattle.byteorder.specs.{Endian.little_number}
use Rattle.tape_core.specs.declared.normal.machine.{TapePlace.TapePlace, Change.Change}
use Rattle.tape_core.specs.declared.normal.looking.Looked.{Looked}
use Rattle.tape_core.specs.NormalForm.Steps.{step_of, same}
use Rattle.tape_core.specs.NormalForm.Bytes.{looked, looked_word, looked_label, looked_block}
use Rattle.tape_core.specs.NormalForm.Bytes.{within, is_over, begins_label}
use Rattle.tape_core.specs.NormalForm.Bytes.{bytes_from, by_looked, normal_from, inserted_bytes}
use Rattle.tape_core.specs.NormalForm.Bytes.{instead_bytes, block_step}

-- ---- tests

pub is_less : (a b : ℕ) → a < b → nat_lt a b ≡ true
is_less a b h = grind (arith, nat_tests)

pub no_less : (a b : ℕ) → b ≤ a → nat_lt a b ≡ false
no_less a b h = grind (arith, nat_tests)

pub less_is : (a b : ℕ) → nat_lt a b ≡ true → a < b
less_is a b e = grind (arith, nat_tests)

pub less_no : (a b : ℕ) → nat_lt a b ≡ false → b ≤ a
less_no a b e = grind (arith, nat_tests)

-- ---- what is looked at

-- the size of an item that was looked at
abbrev pub Sized : ℕ → Option Looked → Type 0
Sized room seen = IfSome seen (λ l. (4 ≤ l.size) × (l.size ≤ room))

within_sized : (room size : ℕ) (step : TapePlace × Change) → 4 ≤ size
    → Sized room (within room size step)
within_sized room size step h = go (nat_lt room size) refl
  where
    go : (t : Bool) → nat_lt room size ≡ t → Sized room (within room size step)
    go true e = rw (e) tt
    go false e = rw (e) (h, less_no room size e)

block_sized : (room : ℕ) (place : TapePlace) (w : ℕ) (n : Option ℕ)
    → Sized room (looked_block room place w n)
block_sized room place w None = tt
block_sized room place w (Some n) =
    within_sized room (block_extent n) (block_step place w n) (omega arith)

label_sized : (room : ℕ) (place : TapePlace) (w : ℕ) (xs : List ℕ) (t u : Bool)
    → nat_lt (length xs) (block_extent w) ≡ t
    → (little_number 4 (drop (4 + w + w % 2) xs) == w) ≡ u
    → Sized room (looked_label room place w xs)
label_sized room place w xs true u e f = rw (e) tt
label_sized room place w xs false true e f =
    rw (e, f) (within_sized room (block_extent w) (step_of place (block (take w (drop 4 xs))))
    (omega arith))
label_sized room place w xs false false e f = rw (e, f) tt

word_sized : (room : ℕ) (place : TapePlace) (w : ℕ) (xs : List ℕ) (m g b : Bool)
    → (w == mark_word) ≡ m → (w == gap_word) ≡ g → begins_label place xs ≡ b
    → Sized room (looked_word room place w xs)
word_sized room place w xs true g b d e f =
    rw (d) (within_sized room 4 (step_of place mark) (omega arith))
word_sized room place w xs false true b d e f =
    rw (d, e) (within_sized room 4 (place, same) (omega arith))
word_sized room place w xs false false true d e f =
    rw (d, e, f) (label_sized room place w xs _ _ refl refl)
word_sized room place w xs false false false d e f =
    rw (d, e, f) (block_sized room place w (block_len w))

-- an item that was looked at takes at least four bytes, and ends within the limit
pub looked_sized : (room : ℕ) (place : TapePlace) (xs : List ℕ) → Sized room (looked room place xs)
looked_sized room place xs = go (is_over place) (nat_lt (length xs) 4) refl refl
  where
    go : (o t : Bool) → is_over place ≡ o → nat_lt (length xs) 4 ≡ t
        → Sized room (looked room place xs)
    go true t e f = rw (e) tt
    go false true e f = rw (e, f) tt
    go false false e f =
        rw (e, f) (word_sized room place (little_number 4 xs) xs _ _ _ refl refl refl)

-- nothing is looked at in fewer than four bytes
pub looked_short : (room : ℕ) (place : TapePlace) (xs : List ℕ) → nat_lt (length xs) 4 ≡ true
    → looked room place xs ≡ None
looked_short room place xs f = go (is_over place) refl
  where
    go : (o : Bool) → is_over place ≡ o → looked room place xs ≡ None
    go true e = rw (e) refl
    go false e = rw (e, f) refl

-- ---- enough steps

-- no step is needed where nothing is looked at
stays : (room : ℕ) (place : TapePlace) (xs : List ℕ) (rest : ℕ → TapePlace → List ℕ → List ℕ)
    → looked room place xs ≡ None → xs ≡ by_looked (looked room place xs) room xs rest
stays room place xs rest e = rw (e) refl

-- the rest of the bytes is shorter
less : (room : ℕ) (place : TapePlace) (xs : List ℕ) (l : Looked) (n : ℕ)
    → looked room place xs ≡ Some l → length xs ≤ suc n → length (drop l.size xs) ≤ n
less room place xs l n e h =
    let sized : Sized room (Some l) = subst (Sized room) e (looked_sized room place xs) in
    omega (arith, h, sized.0, length-drop l.size xs)

-- the bytes are the same if those of the rest are
by_rest : (room : ℕ) (xs : List ℕ) (o : Option Looked) (f g : ℕ → TapePlace → List ℕ → List ℕ)
    → ((l : Looked) → o ≡ Some l
    → f (room - l.size) l.next (drop l.size xs) ≡ g (room - l.size) l.next (drop l.size xs))
    → by_looked o room xs f ≡ by_looked o room xs g
by_rest room xs None f g h = refl
by_rest room xs (Some l) f g h =
    ap (λ v. inserted_bytes l.change.missing ++ instead_bytes l.change.instead l.size xs v)
    (h l refl)

-- any number of steps is enough from the number of bytes on
pub enough : (s t room : ℕ) (place : TapePlace) (xs : List ℕ) → length xs ≤ s → length xs ≤ t
    → bytes_from s room place xs ≡ bytes_from t room place xs
enough zero zero room place xs h k = refl
enough zero (suc t) room place xs h k =
    stays room place xs (bytes_from t)
    (looked_short room place xs (is_less (length xs) 4 (omega (arith, h))))
enough (suc s) zero room place xs h k =
    sym (stays room place xs (bytes_from s)
    (looked_short room place xs (is_less (length xs) 4 (omega (arith, k)))))
enough (suc s) (suc t) room place xs h k =
    by_rest room xs (looked room place xs) (bytes_from s) (bytes_from t)
    (λ l e. enough s t (room - l.size) l.next (drop l.size xs)
    (less room place xs l s e h) (less room place xs l t e k))

-- the bytes in normal form, by the first item
pub first_item : (room : ℕ) (place : TapePlace) (xs : List ℕ)
    → normal_from room place xs ≡ by_looked (looked room place xs) room xs normal_from
first_item room place xs =
    enough (length xs) (suc (length xs)) room place xs (omega arith) (omega arith)
    ∙ by_rest room xs (looked room place xs) (bytes_from (length xs)) normal_from
    (λ l e. enough (length xs) (length (drop l.size xs)) (room - l.size) l.next
    (drop l.size xs) (omega (arith, length-drop l.size xs)) (omega arith))
