-- Names as they are printed for people: no character of a name controls the terminal.
use Rattle.std.specs.Prelude.{ℕ, Bool, ◌==◌, ◌||◌, ◌&&◌, nat_le, nat_lt, ◌+◌, ◌/◌, ◌%◌, List, []}
use Rattle.std.specs.Prelude.{◌∷◌, if◌then◌else◌, chars, encode_utf8_all}
use Rattle.std.specs.List.{flat_map}

-- a hexadecimal digit
abbrev pub hex : ℕ → ℕ
hex n = if nat_lt n 10 then 48 + n else 55 + n

-- a control character, or an invisible one that ends a line, joins or separates characters, or
-- changes the direction of the text
abbrev pub is_hidden : ℕ → Bool
is_hidden c =
    nat_lt c 32 || (nat_le 127 c && nat_le c 159) || (c == 173) || (c == 1564)
    || (nat_le 8203 c && nat_le c 8207) || (nat_le 8232 c && nat_le c 8238)
    || (nat_le 8288 c && nat_le c 8303) || (c == 65279)

-- a character of a name: `\` is doubled, and `\u` with four hexadecimal digits represents a hidden
-- character
abbrev pub quoted : ℕ → List ℕ
quoted c =
    if c == 92 then 92 ∷ 92 ∷ []
    else if is_hidden c then
    92 ∷ 117 ∷ hex (c / 16 / 16 / 16) ∷ hex (c / 16 / 16 % 16) ∷ hex (c / 16 % 16) ∷ hex (c % 16)
    ∷ []
    else c ∷ []

-- a name
abbrev pub name_text : List ℕ → List ℕ
name_text name = encode_utf8_all (flat_map quoted (chars name))
