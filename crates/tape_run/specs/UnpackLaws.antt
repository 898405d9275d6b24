-- Laws about the names that unpacked files get.
use Rattle.std.specs.Prelude.{◌≡◌, ◌≢◌, ℕ, ◌-◌, ◌<◌, ◌≤◌, ◌^◌, ◌&&◌, nat_le, if◌then◌else◌, List}
use Rattle.std.specs.Prelude.{[], ◌∷◌, ◌++◌, length, map, codes, true}
use Rattle.std.specs.List.{AllByRecursion}
use Rattle.tape_run.specs.Unpacking.{is_kept, file_name}

-- these are bytes
abbrev pub AreBytes : List ℕ → Type 0
AreBytes bytes = AllByRecursion (λ b. b < 256) bytes

-- a byte as a file system that ignores case compares it
abbrev pub folded : ℕ → ℕ
folded b = if nat_le 97 b && nat_le b 122 then b - 32 else b

-- Two files whose names are equal if case is ignored have the same number, in sets with the same
-- identifier. This remains true with any text appended to the names, such as `.stage`.
abbrev pub NamesDiffer : Type 0
NamesDiffer = (s t : List ℕ) (m n : ℕ) (a b x y : List ℕ) → AreBytes s → AreBytes t
    → length s ≡ length t → m < 2 ^ 16 → n < 2 ^ 16
    → map folded (file_name s m a ++ x) ≡ map folded (file_name t n b ++ y) → (s ≡ t) × (m ≡ n)

-- a character that every file system keeps
abbrev pub MayStand : ℕ → Type 0
MayStand b = is_kept b ≡ true

-- It is the name of one file in a directory, and every file system keeps it.
pub record IsNameOfOne (name : List ℕ) : Type 0 where
  pub bytes : AllByRecursion MayStand name
  pub some : name ≢ []
  pub not_itself : name ≢ codes "."
  pub not_above : name ≢ codes ".."
  -- a space or a full stop at the end would be dropped
  pub last : (front : List ℕ) (b : ℕ) → name ≡ front ++ b ∷ [] → (b ≢ 32) × (b ≢ 46)

-- Each name is.
abbrev pub NamesStay : Type 0
NamesStay = (s : List ℕ) (n : ℕ) (a : List ℕ) → AreBytes s → AreBytes a → n < 2 ^ 16
    → IsNameOfOne (file_name s n a)

-- It is short enough, and more than five characters precede its first full stop: a name of a
-- device, such as CON, NUL or LPT1, which no file may have, has at most four before it.
pub record IsNoDevice (name : List ℕ) : Type 0 where
  pub short : length name ≤ 76
  pub device : (d rest : List ℕ) → name ≡ d ++ codes "." ++ rest → 5 < length d

-- Each name of a file from a tape is.
abbrev pub NamesFit : Type 0
NamesFit = (s : List ℕ) (n : ℕ) (a : List ℕ) → AreBytes s → n < 2 ^ 16 → length s ≡ 6
    → length a ≡ 17 → IsNoDevice (file_name s n a)
