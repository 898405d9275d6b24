-- Laws of names as they are printed.
use Rattle.std.specs.Prelude.{◌≡◌, ◌≢◌, ℕ, List, false, chars, IsUtf8}
use Rattle.std.specs.List.{AllByRecursion}
use Rattle.tape_run.specs.Quoting.{is_hidden, name_text}

-- No character of a printed name is hidden.
abbrev pub NamesShow : Type 0
NamesShow = (name : List ℕ) → IsUtf8 name
    → AllByRecursion (λ c. is_hidden c ≡ false) (chars (name_text name))

-- Two names that are printed in the same way are equal.
abbrev pub NamesTellApart : Type 0
NamesTellApart = (a b : List ℕ) → IsUtf8 a → IsUtf8 b → name_text a ≡ name_text b → a ≡ b

-- A name without `\` and hidden characters is printed unchanged.
abbrev pub NamesKeep : Type 0
NamesKeep = (name : List ℕ) → IsUtf8 name
    → AllByRecursion (λ c. (is_hidden c ≡ false) × (c ≢ 92)) (chars name) → name_text name ≡ name
