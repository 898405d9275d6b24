-- The a-characters: the only characters in the fields of written labels.
use Rattle.std.specs.Prelude.{ℕ, Bool, nat_le, ◌==◌, ◌&&◌, ◌||◌, not, Option, List}
use Rattle.std.specs.List.{position}

-- space to `"`, `%` to `?` (including the digits), `A` to `Z`, and `_`
abbrev pub is_a_character : ℕ → Bool
is_a_character c =
    (nat_le 32 c && nat_le c 34) || (nat_le 37 c && nat_le c 63)
    || (nat_le 65 c && nat_le c 90) || (c == 95)

-- the index, counted from 0, of the first character that is not an a-character
abbrev pub first_other : List ℕ → Option ℕ
first_other text = position (λ c. not (is_a_character c)) text
