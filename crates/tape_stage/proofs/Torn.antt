-- The bytes outside the range of a write that was interrupted.
use Rattle.std.proofs.Common.{◌≡◌, ℕ, ◌+◌, ◌-◌, ◌≤◌, ◌<◌, List, [], ◌∷◌, ◌++◌, length, take, drop}
use Rattle.std.proofs.Common.{get_or, refl, sym, ap, ◌∙◌, subst, arith, append_assoc}
use Rattle.std.proofs.lemmas.List.{drop-take, take-take, drop-drop, get_or-take, get_or-drop}
use Rattle.std.proofs.lemmas.List.{drop_at, take_at, get_or_at, length-take-le}
use Rattle.tape_stage.specs.{Disk.Torn, Disk.Holds, Calls.over}

-- lists with the same prefix
pub alike_piece : (n a k : ℕ) (old new : List ℕ) → a + k ≤ n → take n new ≡ take n old
    → take k (drop a new) ≡ take k (drop a old)
alike_piece n a k old new le same =
    sym (drop-take a k new) ∙ ap (drop a) (sym (take-take (a + k) n new le) ∙ ap (take (a + k)) same
    ∙ take-take (a + k) n old le) ∙ drop-take a k old

pub alike_byte : (n i : ℕ) (old new : List ℕ) → i < n → take n new ≡ take n old
    → get_or new i 0 ≡ get_or old i 0
alike_byte n i old new lt same = sym (get_or-take n new i 0 lt) ∙ ap (λ (l : List ℕ). get_or l i 0)
    same ∙ get_or-take n old i 0 lt

pub alike_less : (n m : ℕ) (old new : List ℕ) → m ≤ n → take n new ≡ take n old
    → take m new ≡ take m old
alike_less n m old new le same = sym (take-take m n new le) ∙ ap (take m) same ∙ take-take m n old
    le

-- lists with the same end
pub later_rest : (n a : ℕ) (old new : List ℕ) → n ≤ a → drop n new ≡ drop n old
    → drop a new ≡ drop a old
later_rest n a old new le same =
    let e : n + (a - n) ≡ a = omega arith in
    subst (λ (m : ℕ). drop m new ≡ drop m old) e (sym (drop-drop (a - n) n new) ∙ ap (drop (a - n))
    same ∙ drop-drop (a - n) n old)

pub later_byte : (n i : ℕ) (old new : List ℕ) → n ≤ i → drop n new ≡ drop n old
    → get_or new i 0 ≡ get_or old i 0
later_byte n i old new le same =
    let e : n + (i - n) ≡ i = omega arith in
    subst (λ (m : ℕ). get_or new m 0 ≡ get_or old m 0) e (sym (get_or-drop n new (i - n) 0) ∙ ap
    (λ (l : List ℕ). get_or l (i - n) 0) same ∙ get_or-drop n old (i - n) 0)

-- a write that was completed
pub holds_torn : (p : ℕ) (bytes old new : List ℕ) → p ≤ length old → Holds old p bytes new
    → Torn p (length bytes) old new
holds_torn p bytes old new le holds = subst (λ (l : List ℕ). Torn p (length bytes) old l)
    (sym holds) (over p bytes old le)

pub holds_piece : (p : ℕ) (bytes old new : List ℕ) → p ≤ length old → Holds old p bytes new
    → take (length bytes) (drop p new) ≡ bytes
holds_piece p bytes old new le holds = ap (λ (l : List ℕ). take (length bytes) (drop p l))
    (holds ∙ sym_assoc) ∙ ap (take (length bytes))
    (drop_at (take p old) (bytes ++ drop (p + length bytes) old) p (length-take-le p old le))
    ∙ take_at bytes (drop (p + length bytes) old) (length bytes) refl
  where
    sym_assoc : take p old ++ bytes ++ drop (p + length bytes) old ≡ take p old
        ++ (bytes ++ drop (p + length bytes) old)
    sym_assoc = append_assoc (take p old) bytes (drop (p + length bytes) old)

pub holds_byte : (p b : ℕ) (old new : List ℕ) → p ≤ length old → Holds old p (b ∷ []) new
    → get_or new p 0 ≡ b
holds_byte p b old new le holds = ap (λ (l : List ℕ). get_or l p 0)
    (holds ∙ append_assoc (take p old) (b ∷ []) (drop (p + 1) old))
    ∙ get_or_at (take p old) b (drop (p + 1) old) 0 p (length-take-le p old le)
