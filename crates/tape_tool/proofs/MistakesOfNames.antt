-- Wrong answers that the contract of `all_names` excludes.
use Rattle.std.proofs.Common.{◌≡◌, ℕ, List, [], ◌++◌, length, map, Bool, false, sym, ap, ◌∙◌, arith}
use Rattle.std.proofs.{Common.codes, Common.Ok, lemmas.List.length-map}
use Rattle.tape_tool.specs.Names.{names_in}
use Rattle.tape_tool.proofs.names.all_names.Reads as all_names

-- the names in these arguments, and in a list of lines with this text
named : (names words known : List (List ℕ)) (null : Bool) (text lines : List ℕ)
    → names ≡ words ++ names_in null text → words ≡ known → null ≡ false → text ≡ lines
    → names ≡ known ++ names_in false lines
named names words known null text lines all w n t = all ∙ ap (λ v. v ++ names_in null text) w
    ∙ ap (λ v. known ++ names_in v text) n ∙ ap (λ v. known ++ names_in false v) t

-- the number of names in no arguments and these lines
counted : {X : Type 0} (view : X → List ℕ) (names : List X) (words : List (List ℕ)) (null : Bool)
    (text lines : List ℕ) → map view names ≡ words ++ names_in null text → words ≡ []
    → null ≡ false → text ≡ lines → length names ≡ length (names_in false lines)
counted view names words null text lines all w n t = sym (length-map names view)
    ∙ ap length (named (map view names) words [] null text lines all w n t)

-- last_line_left_out: a list is one line without a line feed, but yields no name
last_line_left_out : (κs : _) (a : _) (names : _) (s : _) → all_names.Learnt κs a (Ok names) s
    → map (λ w. w.now) a.1.0.now ≡ [] → a.1.1.1.0 ≡ false → a.1.1.0.now ≡ codes "a"
    → names.items ≡ [] → ⊥
last_line_left_out κs a names s h none lines text empty =
    absurd (let n : 0 ≡ 1
    = sym (ap length empty)
    ∙ counted (λ n. n.now) names.items _ _ _ (codes "a") h none lines text in
    omega arith)
