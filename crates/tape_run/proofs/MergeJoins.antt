-- The merged tape of several readings, from the merged tape of two of them.
use Rattle.std.proofs.Common.{◌≡◌, ◌⊎◌, inl, inr, ℕ, List, [], ◌∷◌, refl, sym, ap, subst, ◌∙◌}
use Rattle.std.proofs.lemmas.Bool.{cases_eq}
use Rattle.tape_image.specs.Tape.{TapeItem, block, bad, mark}
use Rattle.tape_run.specs.Merging.{IsReadAs, IsReadFrom, AreReadFrom, IsMerged, Differ}
use Rattle.tape_run.specs.MergeLaws.{AreFronts, DifferForGood, IsOneOf, OrderDoesNotMatter}
use Rattle.tape_run.proofs.MergeReadings.{reads_self, reads_front, are_better}

-- ---- the order

met_both : (x y : TapeItem) → IsReadAs x y → IsReadAs y x → x ≡ y
met_both x y (inl e) (inl f) = e ∙ sym f
met_both x y (inl e) (inr f) = sym f
met_both x y (inr e) k = e

pub reads_both : (r s : List TapeItem) → IsReadFrom r s → IsReadFrom s r → r ≡ s
reads_both [] [] h k = refl
reads_both [] (y ∷ s) h k = absurd k
reads_both (x ∷ r) [] h k = absurd h
reads_both (x ∷ r) (y ∷ s) h k =
    let e : x ≡ y = met_both x y h.0 k.0 in
    let f : r ≡ s = reads_both r s h.1 k.1 in
    cc

pub merged_one : (rs : List (List TapeItem)) (m n : List TapeItem) → IsMerged rs m → IsMerged rs n
    → m ≡ n
merged_one rs m n a b = reads_both m n (a.least n b.all) (b.least m a.all)

-- ---- prefixes

are_fronts : (fronts readings : List (List TapeItem)) (tape : List TapeItem)
    → AreFronts fronts readings → AreReadFrom readings tape → AreReadFrom fronts tape
are_fronts [] [] tape h k = tt
are_fronts [] (s ∷ ss) tape h k = absurd h
are_fronts (r ∷ rs) [] tape h k = absurd h
are_fronts (r ∷ rs) (s ∷ ss) tape ((more, is), rest) k = (
  reads_front r more tape (subst (λ (l : List TapeItem). IsReadFrom l tape) is k.0),
  are_fronts rs ss tape rest k.1,
)

pub differ_for_good : DifferForGood
differ_for_good fronts readings h never tape k = never tape (are_fronts fronts readings tape h k)

-- ---- two readings

same_cons : (x y : ℕ) (a b : List ℕ) → (x ≡ y) ⊎ (x ≡ y → ⊥) → (a ≡ b) ⊎ (a ≡ b → ⊥)
    → (x ∷ a ≡ y ∷ b) ⊎ (x ∷ a ≡ y ∷ b → ⊥)
same_cons x y a b (inl e) (inl f) = inl (cc)
same_cons x y a b (inl e) (inr never) = inr (λ g. never (cc g))
same_cons x y a b (inr never) h = inr (λ g. never (cc g))

same_bytes : (a b : List ℕ) → (a ≡ b) ⊎ (a ≡ b → ⊥)
same_bytes [] [] = inl refl
same_bytes [] (y ∷ b) = inr (λ e. cc e)
same_bytes (x ∷ a) [] = inr (λ e. cc e)
same_bytes (x ∷ a) (y ∷ b) = same_cons x y a b (cases_eq x y) (same_bytes a b)

-- one item that two readings have
record TellItem (x y : TapeItem) : Type 0 where
  pub item : TapeItem
  pub first : IsReadAs x item
  pub second : IsReadAs y item
  pub least : (t : TapeItem) → IsReadAs x t → IsReadAs y t → IsReadAs item t

abbrev NoItem : TapeItem → TapeItem → Type 0
NoItem x y = (t : TapeItem) → IsReadAs x t → IsReadAs y t → ⊥

no_item : (x y t : TapeItem) → (x ≡ bad → ⊥) → (y ≡ bad → ⊥) → (x ≡ y → ⊥) → IsReadAs x t
    → IsReadAs y t → ⊥
no_item x y t a b c (inl e) k = a e
no_item x y t a b c (inr e) (inl f) = b f
no_item x y t a b c (inr e) (inr f) = c (e ∙ sym f)

blocks : (a b : List ℕ) → (a ≡ b) ⊎ (a ≡ b → ⊥)
    → TellItem (block a) (block b) ⊎ NoItem (block a) (block b)
blocks a b (inl e) = inl (record {
  item = block a;
  first = inr refl;
  second = inr (ap block (sym e));
  least = λ t h k. h;
})
blocks a b (inr never) =
    inr (λ t h k. no_item (block a) (block b) t (λ e. cc e) (λ e. cc e) (λ e. never (cc e)) h k)

tell_item : (x y : TapeItem) → TellItem x y ⊎ NoItem x y
tell_item bad y = inl (record { item = y; first = inl refl; second = inr refl; least = λ t h k. k })
tell_item (block a) bad =
    inl (record { item = block a; first = inr refl; second = inl refl; least = λ t h k. h })
tell_item mark bad =
    inl (record { item = mark; first = inr refl; second = inl refl; least = λ t h k. h })
tell_item mark mark =
    inl (record { item = mark; first = inr refl; second = inr refl; least = λ t h k. h })
tell_item (block a) (block b) = blocks a b (same_bytes a b)
tell_item (block a) mark = inr (λ t h k. no_item _ _ _ (λ e. cc e) (λ e. cc e) (λ e. cc e) h k)
tell_item mark (block b) = inr (λ t h k. no_item _ _ _ (λ e. cc e) (λ e. cc e) (λ e. cc e) h k)

-- the merged tape of two readings
record Join (a b : List TapeItem) : Type 0 where
  pub items : List TapeItem
  pub first : IsReadFrom a items
  pub second : IsReadFrom b items
  pub least : (t : List TapeItem) → IsReadFrom a t → IsReadFrom b t → IsReadFrom items t

abbrev NoJoin : List TapeItem → List TapeItem → Type 0
NoJoin a b = (t : List TapeItem) → IsReadFrom a t → IsReadFrom b t → ⊥

least_cons : (x y : TapeItem) (a b : List TapeItem) (i : TellItem x y) (j : Join a b)
    (t : List TapeItem) → IsReadFrom (x ∷ a) t → IsReadFrom (y ∷ b) t
    → IsReadFrom (i.item ∷ j.items) t
least_cons x y a b i j [] h k = absurd h
least_cons x y a b i j (z ∷ t) h k = (i.least z h.0 k.0, j.least t h.1 k.1)

no_first : (x y : TapeItem) (a b : List TapeItem) → NoItem x y → NoJoin (x ∷ a) (y ∷ b)
no_first x y a b never [] h k = absurd h
no_first x y a b never (z ∷ t) h k = never z h.0 k.0

no_rest : (x y : TapeItem) (a b : List TapeItem) → NoJoin a b → NoJoin (x ∷ a) (y ∷ b)
no_rest x y a b never [] h k = absurd h
no_rest x y a b never (z ∷ t) h k = never t h.1 k.1

join_cons : (x y : TapeItem) (a b : List TapeItem) → TellItem x y ⊎ NoItem x y
    → Join a b ⊎ NoJoin a b → Join (x ∷ a) (y ∷ b) ⊎ NoJoin (x ∷ a) (y ∷ b)
join_cons x y a b (inl i) (inl j) = inl (record {
  items = i.item ∷ j.items;
  first = (i.first, j.first);
  second = (i.second, j.second);
  least = least_cons x y a b i j;
})
join_cons x y a b (inl i) (inr never) = inr (no_rest x y a b never)
join_cons x y a b (inr never) j = inr (no_first x y a b never)

join : (a b : List TapeItem) → Join a b ⊎ NoJoin a b
join [] b = inl (record { items = b; first = tt; second = reads_self b; least = λ t h k. k })
join (x ∷ a) [] = inl (record {
  items = x ∷ a;
  first = reads_self (x ∷ a);
  second = tt;
  least = λ t h k. h;
})
join (x ∷ a) (y ∷ b) = join_cons x y a b (tell_item x y) (join a b)

-- ---- any number of them

with_first : (r : List TapeItem) (rs : List (List TapeItem)) (m : List TapeItem) → IsMerged rs m
    → Join r m ⊎ NoJoin r m → ((n : List TapeItem) × IsMerged (r ∷ rs) n) ⊎ Differ (r ∷ rs)
with_first r rs m is (inl j) = inl (
  j.items,
  record {
    all = (j.first, are_better rs m j.items j.second is.all);
    least = λ tape k. j.least tape k.0 (is.least tape k.1);
  },
)
with_first r rs m is (inr never) = inr (λ tape k. never tape k.0 (is.least tape k.1))

with_rest : (r : List TapeItem) (rs : List (List TapeItem))
    → ((m : List TapeItem) × IsMerged rs m) ⊎ Differ rs
    → ((n : List TapeItem) × IsMerged (r ∷ rs) n) ⊎ Differ (r ∷ rs)
with_rest r rs (inl (m, is)) = with_first r rs m is (join r m)
with_rest r rs (inr never) = inr (λ tape k. never tape k.1)

pub either : (rs : List (List TapeItem)) → ((m : List TapeItem) × IsMerged rs m) ⊎ Differ rs
either [] = inl ([], record { all = tt; least = λ tape k. tt })
either (r ∷ rs) = with_rest r rs (either rs)

-- ---- in any order

reads_one : (ss : List (List TapeItem)) (tape r : List TapeItem) → AreReadFrom ss tape
    → IsOneOf r ss → IsReadFrom r tape
reads_one [] tape r h k = absurd k
reads_one (s ∷ ss) tape r h (inl e) = subst (λ (l : List TapeItem). IsReadFrom l tape) (sym e) h.0
reads_one (s ∷ ss) tape r h (inr k) = reads_one ss tape r h.1 k

read_those : (rs ss : List (List TapeItem)) (tape : List TapeItem)
    → ((r : List TapeItem) → IsOneOf r rs → IsOneOf r ss) → AreReadFrom ss tape
    → AreReadFrom rs tape
read_those [] ss tape only h = tt
read_those (r ∷ rs) ss tape only h = (
  reads_one ss tape r h (only r (inl refl)),
  read_those rs ss tape (λ s k. only s (inr k)) h,
)

pub order_does_not_matter : OrderDoesNotMatter
order_does_not_matter rs ss m there back is = record {
  all = read_those ss rs m back is.all;
  least = λ tape h. is.least tape (read_those rs ss tape there h);
}
