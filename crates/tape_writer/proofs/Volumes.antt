-- The effect of one more section on the volumes.
use Rattle.tape_writer.proofs.Words.{sym, ◌≡◌, ℕ, ◌+◌, List, [], ◌∷◌, ◌++◌, length, refl, ap, ◌∙◌}
use Rattle.tape_writer.proofs.Words.{append_assoc, arith, length-append, AllByRecursion, Placed}
use Rattle.tape_writer.proofs.Words.{Section, numbered, all_numbered, ◌≢◌, ◌<◌, zero, suc, add-one}
use Rattle.tape_writer.proofs.Words.{map, slice_get, append-nil, block, Volume, a_mark, on}
use Rattle.tape_writer.proofs.Words.{all_entries, section_entries, item_of, group_of, Filled}
use Rattle.tape_writer.proofs.Words.{ne_eqb}
use Rattle.std.proofs.Common.{append-nil, cond, ◌==◌}
use Rattle.std.proofs.lemmas.{List.Elements.filter-append, Grind.flat_map-append, Bool.eq-eqb}
use Rattle.tape_blocks.specs.Tight.{Chain}
use Rattle.tape_set.specs.{Tight.EachBehind, Tight.ChainBehind, Layout.a_data_block}
use Rattle.tape_writer.specs.Draft.{data_item, body, first_volumes}

-- ---- lists with one more element at the end

-- equal lists have equal last elements
pub snoc_same : {A : Type 0} (xs ys : List A) (x y : A) → xs ++ x ∷ [] ≡ ys ++ y ∷ []
    → (xs ≡ ys) × (x ≡ y)
snoc_same [] [] x y e = (refl, cc)
snoc_same [] (b ∷ ys) x y e = absurd (omega (arith, ap length e, length-append ys (y ∷ [])))
snoc_same (a ∷ xs) [] x y e = absurd (omega (arith, ap length e, length-append xs (x ∷ [])))
snoc_same (a ∷ xs) (b ∷ ys) x y e =
    let heads : a ≡ b = cc in
    let tails : xs ++ x ∷ [] ≡ ys ++ y ∷ [] = cc in
    let ih = snoc_same xs ys x y tails in
    (ap (λ v. v ∷ xs) heads ∙ ap (λ v. b ∷ v) ih.0, ih.1)

pub all_push : {A : Type 0} (P : A → Type 0) (xs : List A) (x : A) → AllByRecursion P xs → P x
    → AllByRecursion P (xs ++ x ∷ [])
all_push P [] x h p = (p, tt)
all_push P (y ∷ xs) x h p = (h.0, all_push P xs x h.1 p)

pub chain_push : {A : Type 0} (R : A → A → Type 0) (xs : List A) (y : A) → Chain R xs
    → ((ys : List A) (x : A) → xs ≡ ys ++ x ∷ [] → R x y) → Chain R (xs ++ y ∷ [])
chain_push R [] y c h = tt
chain_push R (x ∷ []) y c h = (h [] x refl, tt)
chain_push R (x ∷ z ∷ xs) y c h =
    (c.0, chain_push R (z ∷ xs) y c.1 (λ ys w e. h (x ∷ ys) w (ap (λ v. x ∷ v) e)))

pub each_push : (R : List Placed → Placed → Type 0) (past xs : List Placed) (y : Placed)
    → EachBehind R past xs → R (past ++ xs) y → EachBehind R past (xs ++ y ∷ [])
each_push R past [] y c r = (rw append-nil at r, tt)
each_push R past (x ∷ xs) y c r =
    (c.0, each_push R (past ++ x ∷ []) xs y c.1 (rw (append_assoc past (x ∷ []) xs) r))

pub chain_behind_push : (R : List Placed → Placed → Placed → Type 0) (past xs : List Placed)
    (y : Placed) → ChainBehind R past xs
    → ((ys : List Placed) (x : Placed) → xs ≡ ys ++ x ∷ [] → R (past ++ ys) x y)
    → ChainBehind R past (xs ++ y ∷ [])
chain_behind_push R past [] y c h = tt
chain_behind_push R past (x ∷ []) y c h = (rw append-nil at (h [] x refl), tt)
chain_behind_push R past (x ∷ z ∷ xs) y c h = (
  c.0,
  chain_behind_push R (past ++ x ∷ []) (z ∷ xs) y c.1
      (λ ys w e. rw (append_assoc past (x ∷ []) ys) (h (x ∷ ys) w (ap (λ v. x ∷ v) e))),
)

pub numbered-push : (file sect : ℕ) (ss : List Section) (s : Section) (n : ℕ) → n ≡ sect + length ss
    → numbered file sect (ss ++ s ∷ []) ≡ numbered file sect ss ++ record {
      file = file;
      sect = n;
      section = s;
    } ∷ []
numbered-push file sect [] s n e =
    let z : sect ≡ n = omega arith in
    rw z
numbered-push file sect (t ∷ ss) s n e = rw (numbered-push file (sect + 1) ss s n (omega arith))

pub all_numbered-push : (file : ℕ) (fs : List (List Section)) (f : List Section) (n : ℕ) → n
    ≡ file + length fs → all_numbered file (fs ++ f ∷ []) ≡ all_numbered file fs ++ numbered n 1 f
all_numbered-push file [] f n e =
    let z : file ≡ n = omega arith in
    rw (z, append-nil)
all_numbered-push file (g ∷ fs) f n e =
    rw (all_numbered-push (file + 1) fs f n (omega arith), append_assoc)

-- ---- volumes

pub on_here : (k : ℕ) (xs : List Placed) (x : Placed) → x.section.volume ≡ k
    → on k (xs ++ x ∷ []) ≡ on k xs ++ x ∷ []
on_here k xs x e = filter-append (λ y. y.section.volume == k) xs (x ∷ [])
    ∙ ap (λ v. on k xs ++ v) (ap (λ b. cond b (x ∷ []) []) (ap (λ n. n == k) e ∙ eq-eqb k k refl))

pub on_other : (k : ℕ) (xs : List Placed) (x : Placed) → x.section.volume ≢ k
    → on k (xs ++ x ∷ []) ≡ on k xs
on_other k xs x e = filter-append (λ y. y.section.volume == k) xs (x ∷ [])
    ∙ (ap (λ v. on k xs ++ v) (ap (λ b. cond b (x ∷ []) []) (ne_eqb x.section.volume k e))
    ∙ append-nil (on k xs))

pub on_none : (k : ℕ) (xs : List Placed) → AllByRecursion (λ x. x.section.volume < k) xs
    → on k xs ≡ []
on_none k [] h = refl
on_none k (x ∷ xs) h = ap (λ b. cond b (x ∷ on k xs) (on k xs)) (ne_eqb x.section.volume k
    (λ e. absurd (omega (arith, h.0, e)))) ∙ on_none k xs h.1

pub body_here : (vs : List Volume) (xs : List Placed) (x : Placed) (k : ℕ) → x.section.volume
    ≡ k + 1 → body vs (xs ++ x ∷ []) k ≡ body vs xs k ++ section_entries x.section
body_here vs xs x k e =
    let front = group_of (slice_get vs k) in
    rw (on_here (k + 1) xs x e) (ap (λ v. front ++ v)
    (flat_map-append (λ y. section_entries y.section) (on (k + 1) xs) (x ∷ [])
    ∙ ap (λ v. all_entries (on (k + 1) xs) ++ v) (append-nil (section_entries x.section)))
    ∙ sym (append_assoc front (all_entries (on (k + 1) xs)) (section_entries x.section)))

pub body_other : (vs : List Volume) (xs : List Placed) (x : Placed) (k : ℕ)
    → x.section.volume ≢ k + 1 → body vs (xs ++ x ∷ []) k ≡ body vs xs k
body_other vs xs x k e =
    ap (λ v. group_of (slice_get vs k) ++ all_entries v) (on_other (k + 1) xs x e)

-- the volumes before that of the section are unchanged
pub first_same : (vs : List Volume) (xs : List Placed) (x : Placed) (k : ℕ) → k < x.section.volume
    → first_volumes vs (xs ++ x ∷ []) k ≡ first_volumes vs xs k
first_same vs xs x zero h = refl
first_same vs xs x (suc k) h =
    rw (first_same vs xs x k (omega arith), body_other vs xs x k (λ e. absurd (omega (arith, e))))

pub first_next : (vs : List Volume) (xs : List Placed) (k : ℕ) → first_volumes vs xs (k + 1)
    ≡ first_volumes vs xs k ++ map item_of (body vs xs k ++ a_mark ∷ []) ∷ []
first_next vs xs k = ap (first_volumes vs xs) (add-one k)

pub data_items : (bs : List Filled)
    → map item_of (map (λ b. a_data_block b.bytes) bs) ≡ map data_item bs
data_items [] = refl
data_items (b ∷ bs) = ap (λ v. block b.bytes ∷ v) (data_items bs)
