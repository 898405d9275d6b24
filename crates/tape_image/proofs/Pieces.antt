-- Bytes that are written in several pieces.
use Rattle.std.proofs.Common.{◌≡◌, ◌≤◌, ℕ, zero, suc, refl, arith, replicate, List, [], ◌∷◌, ◌++◌}
use Rattle.std.proofs.Common.{Option, Result, Ok, Err, OnErr, sym, ap, ◌∙◌, append_assoc, take}
use Rattle.std.specs.Io.KnownBytes.{Appends}
use Rattle.std.proofs.KnownBytes.{Appends-trans}
use Rattle.tape_image.specs.declared.item.ImageWriteFault.{ImageWriteFault}
use Rattle.tape_image.specs.Written.{AppendsFront, Writes}

-- a prefix of the next piece, after those already written, is a prefix of all pieces
pub front_behind : (a b c : Option (List ℕ)) (done piece : List ℕ) → Appends a b done
    → AppendsFront b c piece → AppendsFront a c (done ++ piece)
front_behind a b c done piece whole (front, rest, some, e) = (
  done ++ front,
  rest,
  Appends-trans a b c done front whole some,
  ap (λ l. done ++ l) e ∙ sym (append_assoc done front rest),
)

-- a prefix of `bytes` is a prefix of `bytes` followed by more
pub front_more : (a b : Option (List ℕ)) (bytes more : List ℕ) → AppendsFront a b bytes
    → AppendsFront a b (bytes ++ more)
front_more a b bytes more (front, rest, some, e) =
    (front, rest ++ more, some, ap (λ l. l ++ more) e ∙ append_assoc front rest more)

-- a piece that is written after others
pub piece_after : (a b c : Option (List ℕ)) (done piece : List ℕ)
    (result : Result (Unit {0}) ImageWriteFault) → Appends a b done → Writes b c piece result
    → Writes a c (done ++ piece) result
piece_after a b c done piece (Ok _) whole all = Appends-trans a b c done piece whole all
piece_after a b c done piece (Err _) whole (is, part) =
    (is, front_behind a b c done piece whole part)

-- a piece that others would follow, at which the device failed
pub piece_fails : (a b : Option (List ℕ)) (piece more : List ℕ) (fault : ImageWriteFault)
    → Writes a b piece (Err fault) → Writes a b (piece ++ more) (Err fault)
piece_fails a b piece more fault (is, part) = (is, front_more a b piece more part)

-- a prefix of at most one zero
pub take_one : (k : ℕ) → k ≤ 1 → take {A = ℕ} k (0 ∷ []) ≡ replicate k 0
take_one zero h = refl
take_one (suc zero) h = refl
take_one (suc (suc k)) h = absurd (omega arith)

-- a fact that is always true is true on an error
pub on_err : {T E : Type 0} (r : Result T E) (P : Type 0) → P → OnErr r P
on_err (Ok x) P p = tt
on_err (Err e) P p = p

-- the last piece, which may fail
pub last_front : {T E : Type 0} (r : Result T E) (a b c : Option (List ℕ)) (done piece : List ℕ)
    → Appends a b done → OnErr r (AppendsFront b c piece)
    → OnErr r (AppendsFront a c (done ++ piece))
last_front (Ok x) a b c done piece whole p = tt
last_front (Err e) a b c done piece whole p = front_behind a b c done piece whole p
