-- Lines of JSON: an object for each row.
use Rattle.std.specs.Prelude.{◌≡◌, ℕ, List, [], ◌∷◌, ◌++◌, decimal, flat_map}
use Rattle.std.specs.Borrow.{Bor}
use Rattle.json.specs.{Lex.tokens, Print.print, Token.Token}
use Rattle.json.specs.Token.{begin_object, end_object, key, string, number, boolean, null}
use Rattle.tape_tool.specs.declared.json_lines.JsonCell.{JsonCell}
use Rattle.tape_tool.specs.declared.json_lines.JsonCell.TheVariants.{Text, Number, Flag, Null}

-- the token of a value
abbrev pub cell_token : JsonCell → Token
cell_token (Text text) = string text.now
cell_token (Number n) = number (decimal n)
cell_token (Flag b) = boolean b
cell_token Null = null

-- the tokens of a member: its key and its value
abbrev pub member_tokens : Bor (List ℕ) × JsonCell → List Token
member_tokens m = key m.0.now ∷ cell_token m.1 ∷ []

-- the tokens of an object with these members
abbrev pub object_tokens : List (Bor (List ℕ) × JsonCell) → List Token
object_tokens ms = begin_object ∷ (flat_map member_tokens ms ++ end_object ∷ [])

-- its line
abbrev pub json_line : List (Bor (List ℕ) × JsonCell) → List ℕ
json_line ms = print (object_tokens ms) ++ 10 ∷ []

-- a line of JSON: the text of tokens, which reads back as them
pub record IsJsonLine (line : List ℕ) : Type 0 where
  pub line_tokens : List Token
  pub text_is : line ≡ print line_tokens ++ 10 ∷ []
  pub reads_back : tokens (print line_tokens) ≡ line_tokens
