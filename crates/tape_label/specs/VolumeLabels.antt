-- Volume labels of any sort, by the length of a block and its first three characters.
use Rattle.std.specs.Prelude.{◌≡◌, ◌==◌, ◌&&◌, ◌||◌, ◌⊎◌, ℕ, List, length, codes, Bool}
use Rattle.std.specs.Str.{bytes_eq}
use Rattle.tape_label.specs.Positions.{positions}

-- 80 characters that begin with `VOL`, or with `UVL` as a user's own volume labels do
abbrev pub IsOfVolume : List ℕ → Type 0
IsOfVolume block =
    (length block ≡ 80)
    × ((positions block 1 3 ≡ codes "VOL") ⊎ (positions block 1 3 ≡ codes "UVL"))

-- the same, as a decidable test
unfoldable pub is_volume_label : List ℕ → Bool
is_volume_label block =
    (length block == 80)
    && (bytes_eq (positions block 1 3) (codes "VOL")
    || bytes_eq (positions block 1 3) (codes "UVL"))
