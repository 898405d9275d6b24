-- The directory and the name in a path.
use Rattle.tape_writer.proofs.Words.{◌≡◌, ◌≢◌, ◌<◌, ◌+◌, ℕ, zero, suc, List, [], ◌∷◌, ◌++◌, length}
use Rattle.tape_writer.proofs.Words.{get_or, take, drop, codes, refl, sym, ap, subst, ◌∙◌, inl, inr}
use Rattle.tape_writer.proofs.Words.{arith, Option, Some, None, drop_more, length-take-le}
use Rattle.std.proofs.Common.{MatchOption}
use Rattle.std.proofs.lemmas.List.{get_or-drop, length-drop, take-append-drop}
use Rattle.tape_writer.specs.System.{IsPathOf}

-- the last slash of a path is at this index
abbrev pub IsLastSlash : List ℕ → ℕ → Type 0
IsLastSlash path k = (k < length path) × (get_or path k 0 ≡ 47)
    × ((i : ℕ) → k < i → i < length path → get_or path i 0 ≢ 47)

-- what a search from the end found
pub last_of : (path : List ℕ) (r : Option ℕ) (k : ℕ) → MatchOption r ((i : ℕ)
    → i < length path → get_or path i 0 ≢ 47) (IsLastSlash path) → r ≡ Some k → IsLastSlash path k
last_of path (Some n) k found is = subst (IsLastSlash path) (cc is) found
last_of path None k found is = absurd (cc is)

pub none_of : (path : List ℕ) (r : Option ℕ) → MatchOption r ((i : ℕ)
    → i < length path → get_or path i 0 ≢ 47) (IsLastSlash path) → r ≡ None
    → (i : ℕ) → i < length path → get_or path i 0 ≢ 47
none_of path (Some n) found is = absurd (cc is)
none_of path None found is = found

-- nothing after the last slash is a slash
rest_plain : (path : List ℕ) (k : ℕ) → IsLastSlash path k → (i : ℕ)
    → i < length (drop (k + 1) path) → get_or (drop (k + 1) path) i 0 ≢ 47
rest_plain path k (inside, is, last) i small same =
    last (k + 1 + i) (omega arith) (omega (arith, small, length-drop (k + 1) path))
    (sym (get_or-drop (k + 1) path i 0) ∙ same)

-- a path is what precedes its last slash, the slash, and what follows it
cut_at : (path : List ℕ) (k : ℕ) → IsLastSlash path k → path ≡ take k path ++ 47 ∷ drop (k + 1) path
cut_at path k (inside, is, last) =
    sym (take-append-drop k path) ∙ ap (λ rest. take k path ++ rest) (drop_more path k 0 inside
    ∙ ap (λ b. b ∷ drop (k + 1) path) is)

not_nil : (xs : List ℕ) → 0 < length xs → xs ≢ []
not_nil xs some none = omega (arith, some, ap length none)

pub in_folder : (path : List ℕ) (k : ℕ) → 0 < k → IsLastSlash path k
    → IsPathOf path (take k path) (drop (k + 1) path)
in_folder path k some (inside, is, last) = record {
  plain = rest_plain path k (inside, is, last);
  joined = inr (inr (
    not_nil (take k path)
        (omega (arith, some, inside, length-take-le k path (omega (arith, inside)))),
    cut_at path k (inside, is, last),
  ));
}

pub in_root : (path : List ℕ) → IsLastSlash path 0 → IsPathOf path (codes "/") (drop 1 path)
in_root path last = record {
  plain = rest_plain path 0 last;
  joined = inr (inl (cut_at path 0 last, refl));
}

pub in_current : (path : List ℕ) → ((i : ℕ) → i < length path → get_or path i 0 ≢ 47)
    → IsPathOf path (codes ".") path
in_current path none = record { plain = none; joined = inl (refl, refl) }

-- the name after the last slash
pub in_some : (path : List ℕ) (k : ℕ) → IsLastSlash path k
    → (folder : List ℕ) × IsPathOf path folder (drop (k + 1) path)
in_some path zero last = (codes "/", in_root path last)
in_some path (suc k) last = (take (suc k) path, in_folder path (suc k) (omega arith) last)
