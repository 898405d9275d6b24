-- Items of one kind and their places in lists.
use Rattle.std.proofs.Common.{◌≡◌, List, [], ◌∷◌, ◌++◌, refl, ap, subst, ◌∙◌}
use Rattle.std.specs.List.{AllByRecursion}
use Rattle.tape_image.specs.Tape.{TapeItem, mark}
use Rattle.tape_run.specs.SalvageClosed.{IsNoMark}

-- the same item at a place where it is the only one of its kind
pub record SamePlace (xs : List TapeItem) (t : TapeItem) (ps : List TapeItem) (u : TapeItem)
    : Type 0 where
  pub before : xs ≡ ps
  pub here : t ≡ u

pub same_place : (P : TapeItem → Type 0) (xs : List TapeItem) (t : TapeItem) (ys ps : List TapeItem)
    (u : TapeItem) (bs : List TapeItem) → (P t → ⊥) → AllByRecursion P ps → AllByRecursion P bs
    → xs ++ t ∷ ys ≡ ps ++ u ∷ bs → SamePlace xs t ps u
same_place P [] t ys [] u bs own pa pb e =
    let same : t ≡ u = cc e in record { before = refl; here = same }
same_place P [] t ys (a ∷ ps) u bs own (h, pa) pb e =
    let same : a ≡ t = cc e in absurd (own (subst P same h))
same_place P (x ∷ xs) t ys [] u bs own pa pb e =
    let same : bs ≡ xs ++ t ∷ ys = cc e in
    absurd (own (in_list xs (subst (AllByRecursion P) same pb)))
  where
    in_list : (zs : List TapeItem) → AllByRecursion P (zs ++ t ∷ ys) → P t
    in_list [] all = all.0
    in_list (z ∷ zs) all = in_list zs all.1
same_place P (x ∷ xs) t ys (a ∷ ps) u bs own (h, pa) pb e =
    let rest : xs ++ t ∷ ys ≡ ps ++ u ∷ bs = cc e in
    let same : x ≡ a = cc e in
    let r = same_place P xs t ys ps u bs own pa pb rest in
    record {
      before = ap (λ (l : List TapeItem). x ∷ l) r.before ∙ ap (λ z. z ∷ ps) same;
      here = r.here;
    }

no_marks_before : (xs ys bs : List TapeItem) (y m : TapeItem) → AllByRecursion IsNoMark bs
    → xs ++ (mark ∷ (y ∷ ys)) ≡ bs ++ (m ∷ []) → ⊥
no_marks_before [] ys [] y m off e = absurd (cc e)
no_marks_before [] ys (b ∷ bs) y m (h, off) e =
    let same : b ≡ mark = cc e in absurd (subst IsNoMark same h)
no_marks_before (x ∷ xs) ys [] y m off e = absurd (two xs (cc e))
  where
    two : (zs : List TapeItem) → zs ++ (mark ∷ (y ∷ ys)) ≡ [] → ⊥
    two [] e = absurd (cc e)
    two (z ∷ zs) e = absurd (cc e)
no_marks_before (x ∷ xs) ys (b ∷ bs) y m (h, off) e =
    let rest : xs ++ (mark ∷ (y ∷ ys)) ≡ bs ++ (m ∷ []) = cc e in
    no_marks_before xs ys bs y m off rest

same_data : (xs bs : List TapeItem) (m : TapeItem) → AllByRecursion IsNoMark xs
    → AllByRecursion IsNoMark bs → xs ++ (mark ∷ []) ≡ bs ++ (m ∷ []) → xs ≡ bs
same_data [] [] m off off' e = refl
same_data [] (b ∷ bs) m off (h, off') e =
    let same : b ≡ mark = cc e in absurd (subst IsNoMark same h)
same_data (x ∷ xs) [] m off off' e = absurd (one xs (cc e))
  where
    one : (zs : List TapeItem) → zs ++ (mark ∷ []) ≡ [] → ⊥
    one [] e = absurd (cc e)
    one (z ∷ zs) e = absurd (cc e)
same_data (x ∷ xs) (b ∷ bs) m (g, off) (h, off') e =
    let rest : xs ++ (mark ∷ []) ≡ bs ++ (m ∷ []) = cc e in
    let same : x ≡ b = cc e in
    ap (λ (l : List TapeItem). x ∷ l) (same_data xs bs m off off' rest) ∙ ap (λ z. z ∷ bs) same

-- the items between two marks, if there are no others
pub between : (ls xs hs bs : List TapeItem) (m n : TapeItem) → AllByRecursion IsNoMark ls
    → AllByRecursion IsNoMark xs → AllByRecursion IsNoMark hs → AllByRecursion IsNoMark bs
    → ls ++ (mark ∷ (xs ++ (mark ∷ []))) ≡ hs ++ (m ∷ (bs ++ (n ∷ []))) → xs ≡ bs
between [] xs [] bs m n l x h b e =
    let rest : xs ++ (mark ∷ []) ≡ bs ++ (n ∷ []) = cc e in same_data xs bs n x b rest
between [] xs (z ∷ hs) bs m n l x (h, off) b e =
    let same : z ≡ mark = cc e in absurd (subst IsNoMark same h)
between (z ∷ ls) xs [] bs m n l x h b e =
    let rest : ls ++ (mark ∷ (xs ++ (mark ∷ []))) ≡ bs ++ (n ∷ []) = cc e in
    absurd (more xs rest)
  where
    more : (ws : List TapeItem) → ls ++ (mark ∷ (ws ++ (mark ∷ []))) ≡ bs ++ (n ∷ []) → ⊥
    more [] f = no_marks_before ls [] bs mark n b f
    more (w ∷ ws) f = no_marks_before ls (ws ++ (mark ∷ [])) bs w n b f
between (z ∷ ls) xs (y ∷ hs) bs m n (g, l) x (h, off) b e =
    let rest : ls ++ (mark ∷ (xs ++ (mark ∷ []))) ≡ hs ++ (m ∷ (bs ++ (n ∷ []))) = cc e in
    between ls xs hs bs m n l x off b rest
