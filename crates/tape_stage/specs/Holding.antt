-- Bytes of a disk that are buffered.
use Rattle.std.proofs.Common.{◌≡◌, ◌⊎◌, ℕ, ◌+◌, ◌≤◌, Bool, true, false, List, [], ◌++◌}
use Rattle.std.proofs.Common.{length, take, drop, max, refl, sym, subst, arith, length-append}
use Rattle.std.proofs.Common.{length-drop}
use Rattle.std.proofs.lemmas.List.{length-take-le}
use Rattle.tape_stage.specs.{Disk.Torn, Calls.over}

-- the bytes that a read returns: those of the disk, with the buffered bytes written over them
abbrev pub with_held : ℕ → List ℕ → List ℕ → List ℕ
with_held start bytes old = take start old ++ bytes ++ drop (start + length bytes) old

-- the buffered bytes that are to be written: all, or none if the disk has them
abbrev pub unwritten : Bool → List ℕ → List ℕ
unwritten true bytes = []
unwritten false bytes = bytes

-- the contents that a crash may leave, with the buffered bytes torn in
abbrev pub LeftTorn : (List ℕ → Type 0) → ℕ → List ℕ → List ℕ → Type 0
LeftTorn leaves start bytes c = (d : List ℕ) × leaves d × Torn start (length bytes) d c

-- the contents that a crash since then might have left, or may leave now with the buffered bytes
-- torn in
abbrev pub LeftSince : (ℕ → List ℕ → Type 0) → (List ℕ → Type 0) → ℕ → List ℕ → ℕ → List ℕ → Type 0
LeftSince left leaves start bytes t c = left t c ⊎ LeftTorn leaves start bytes c

pub torn_same : (place n : ℕ) (c : List ℕ) → Torn place n c c
torn_same place n c = record {
  before = refl;
  after = refl;
  no_shorter = omega arith;
  no_longer = omega arith;
}

pub held_long : (start : ℕ) (bytes old : List ℕ) (long : ℕ) → long ≡ length old → start ≤ long
    → max long (start + length bytes) ≡ length (with_held start bytes old)
held_long start bytes old long same le = omega (
  arith,
  same,
  length-append (take start old ++ bytes) (drop (start + length bytes) old),
  length-append (take start old) bytes,
  length-drop (start + length bytes) old,
  length-take-le start old (omega (arith, same, le)),
)

pub held_over : (on_disk : Bool) (start : ℕ) (bytes old : List ℕ) (long : ℕ) → long ≡ length old
    → start ≤ long → (on_disk ≡ true → with_held start bytes old ≡ old)
    → Torn start (length (unwritten on_disk bytes)) old (with_held start bytes old)
held_over true start bytes old long same le right =
    subst (Torn start 0 old) (sym (right refl)) (torn_same start 0 old)
held_over false start bytes old long same le right =
    over start bytes old (omega (arith, same, le))
