-- A table of the items read so far, and its end.
use Rattle.std.proofs.Common.{◌≡◌, ℕ, zero, suc, ◌+◌, ◌-◌, ◌<◌, ◌≤◌, List, [], ◌∷◌}
use Rattle.std.proofs.Common.{◌++◌, length, take}
use Rattle.std.proofs.Common.{drop, set, Option, Some, refl, sym, ap, subst, ◌∙◌, arith}
use Rattle.std.proofs.{Common.append_assoc, Common.append-nil, Common.length-append}
use Rattle.std.proofs.lemmas.List.{set_at}
use Rattle.tape_image.specs.{declared.item.Ending.Ending, declared.item.ImageFault.ImageFault}
use Rattle.tape_image.specs.{Tape.TapeItem, Begins.Walks, Begins.Begins, Begins.ends}
use Rattle.tape_image.specs.{Reader.IfKnown, Spelling.end_len, Fault.number_of}
use Rattle.tape_image.specs.Step.{TakesItem, TakesEnd, TakesFault}
use Rattle.tape_image.proofs.Walks.{Walks-nil, Walks-trans, Walks-item, IfKnown-at}
use Rattle.tape_image.proofs.Walks.{TakesEnd-behind, TakesFault-behind}
use Rattle.tape_c.specs.{declared.items.Entry.Entry, declared.end.End.End, Ends.nothing_given}
use Rattle.tape_c.specs.Items.{Enters, Tabled, Tables, Stopped, all, fault, full, refused}
use Rattle.tape_c.specs.Items.{kind_number, last_entry}
use Rattle.tape_c.proofs.Trailing.{entered}

-- one entry more
tabled_then : (p q r : ℕ) (items : List TapeItem) (entries : List Entry) (item : TapeItem)
    (entry : Entry) (xs ys zs : List ℕ) → Tabled p items entries q xs ys
    → Enters q item entry r ys zs
    → Tabled p (items ++ item ∷ []) (entries ++ entry ∷ []) r xs zs
tabled_then p q r [] [] item entry xs ys zs (here, same) e =
    let P : ℕ → Type 0 = λ n. Enters n item entry r xs zs in
    let Q : List ℕ → Type 0 = λ l. Enters q item entry r l zs in
    (r, zs, subst P (sym here) (subst Q (sym same) e), (refl, refl))
tabled_then p q r [] (x ∷ entries) item entry xs ys zs t e = absurd t
tabled_then p q r (x ∷ items) [] item entry xs ys zs t e = absurd t
tabled_then p q r (y ∷ items) (x ∷ entries) item entry xs ys zs (at, mid, first, rest) e =
    (at, mid, first, tabled_then at q r items entries item entry mid ys zs rest e)

-- the items were read
tabled_walks : (p q : ℕ) (items : List TapeItem) (entries : List Entry) (xs ys : List ℕ)
    → Tabled p items entries q xs ys → Walks p xs items q ys
tabled_walks p q [] [] xs ys (here, same) =
    let P : ℕ → Type 0 = λ n. Walks p xs [] n ys in
    let Q : List ℕ → Type 0 = λ l. Walks p xs [] p l in
    subst P here (subst Q same (Walks-nil p xs))
tabled_walks p q [] (x ∷ entries) xs ys t = absurd t
tabled_walks p q (y ∷ items) [] xs ys t = absurd t
tabled_walks p q (y ∷ items) (x ∷ entries) xs ys (at, mid, first, rest) =
    Walks-trans p at q xs mid ys (y ∷ []) items (Walks-item p at xs mid y first.takes)
    (tabled_walks at q items entries mid ys rest)

-- the bytes that were read
pub record Front (p q : ℕ) (xs ys : List ℕ) : Type 0 where
  pub front : List ℕ
  pub whole : xs ≡ front ++ ys
  pub size : p + length front ≡ q

tabled_front : (p q : ℕ) (items : List TapeItem) (entries : List Entry) (xs ys : List ℕ)
    → Tabled p items entries q xs ys → Front p q xs ys
tabled_front p q [] [] xs ys (here, same) =
    record { front = []; whole = same; size = omega (arith, here) }
tabled_front p q [] (x ∷ entries) xs ys t = absurd t
tabled_front p q (y ∷ items) [] xs ys t = absurd t
tabled_front p q (y ∷ items) (x ∷ entries) xs ys (at, mid, first, rest) =
    let f = tabled_front at q items entries mid ys rest in
    let t = first.takes in
    record {
      front = (t.gaps ++ t.spelling) ++ f.front;
      whole = t.whole ∙ ap (λ (r : List ℕ). t.gaps ++ (t.spelling ++ r)) f.whole
          ∙ simp append_assoc;
      size = omega (
        arith,
        t.place,
        f.size,
        length-append (t.gaps ++ t.spelling) f.front,
        length-append t.gaps t.spelling,
      );
    }

tabled_long : (p q : ℕ) (items : List TapeItem) (entries : List Entry) (xs ys : List ℕ)
    → Tabled p items entries q xs ys → length items ≡ length entries
tabled_long p q [] [] xs ys t = refl
tabled_long p q [] (x ∷ entries) xs ys t = absurd t
tabled_long p q (y ∷ items) [] xs ys t = absurd t
tabled_long p q (y ∷ items) (x ∷ entries) xs ys (at, mid, first, rest) =
    ap (λ n. suc n) (tabled_long at q items entries mid ys rest)

-- the element at an index, before the others
pub record Split (n : ℕ) (xs : List Entry) : Type 0 where
  pub at : Entry
  pub is : drop n xs ≡ at ∷ drop (suc n) xs

split : (n : ℕ) (xs : List Entry) → n < length xs → Split n xs
split n [] few = absurd (omega (arith, few))
split zero (x ∷ xs) few = record { at = x; is = refl }
split (suc n) (x ∷ xs) few =
    let s = split n xs (omega (arith, few)) in
    record { at = s.at; is = s.is }

-- an entry is written after the others
pub put_entry : (entries old : List Entry) (entry : Entry) (n : ℕ) → length entries ≡ n
    → n < length old
    → set (entries ++ drop n old) n entry ≡ (entries ++ entry ∷ []) ++ drop (n + 1) old
put_entry entries old entry n size few =
    let s = split n old few in
    let next : suc n ≡ n + 1 = omega arith in
    ap (λ (r : List Entry). set (entries ++ r) n entry) s.is
    ∙ set_at entries s.at (drop (suc n) old) entry n size
    ∙ ap (λ k. entries ++ entry ∷ drop k old) next
    ∙ sym (append_assoc entries (entry ∷ []) (drop (n + 1) old))

-- Of the image the items up to an offset were read, and `left` is left. The buffer has an entry for
-- each.
pub record SoFar (image : List ℕ) (left : Option (List ℕ)) (place count : ℕ) (old new : List Entry)
    : Type 0 where
  pub items : List TapeItem
  pub entries : List Entry
  pub rest : List ℕ
  pub known : left ≡ Some rest
  pub tabled : Tabled 0 items entries place image rest
  pub counted : count ≡ length entries
  pub put : new ≡ entries ++ drop count old

pub nothing_yet : (image : List ℕ) (left : Option (List ℕ)) (place : ℕ) (old : List Entry)
    → left ≡ Some image → place ≡ 0 → SoFar image left place 0 old old
nothing_yet image left place old known start = record {
  items = [];
  entries = [];
  rest = image;
  known = known;
  tabled = (sym start, refl);
  counted = refl;
  put = refl;
}

-- an item is within the image
pub is_within : (image : List ℕ) (left next : Option (List ℕ)) (p q count : ℕ) (item : TapeItem)
    (old new : List Entry) → SoFar image left p count old new
    → IfKnown left next (TakesItem p item q) → q ≤ length image
is_within image left next p q count item old new s takes =
    let (ys, there, t) = IfKnown-at left next (TakesItem p item q) s.rest s.known takes in
    let f = tabled_front 0 p s.items s.entries image s.rest s.tabled in
    omega (
      arith,
      t.place,
      f.size,
      ap length f.whole,
      ap length t.whole,
      length-append f.front s.rest,
      length-append t.gaps (t.spelling ++ ys),
      length-append t.spelling ys,
    )

pub one_more : (image : List ℕ) (left next : Option (List ℕ)) (p q count kind : ℕ)
    (item : TapeItem) (old new : List Entry) → SoFar image left p count old new
    → IfKnown left next (TakesItem p item q) → kind ≡ kind_number item → count < length old
    → SoFar image next q (count + 1) old (set new count (last_entry (take q image) kind))
one_more image left next p q count kind item old new s takes is few =
    let (ys, there, t) = IfKnown-at left next (TakesItem p item q) s.rest s.known takes in
    let f = tabled_front 0 p s.items s.entries image s.rest s.tabled in
    let entry = last_entry (take q image) kind in
    let e = entered p q kind item image f.front s.rest ys f.whole (omega (arith, f.size)) t is in
    record {
      items = s.items ++ item ∷ [];
      entries = s.entries ++ entry ∷ [];
      rest = ys;
      known = there;
      tabled = tabled_then 0 p q s.items s.entries item entry image s.rest ys s.tabled e;
      counted = omega (arith, s.counted, length-append s.entries (entry ∷ []));
      put = ap (λ (r : List Entry). set r count entry) s.put
          ∙ put_entry s.entries old entry count (sym s.counted) few;
    }

-- ---- the end

made : (image : List ℕ) (left : Option (List ℕ)) (p count : ℕ) (old new : List Entry) (end : End)
    → (s : SoFar image left p count old new) → end.count ≡ count
    → Stopped image s.rest s.items p (length old) end → Tables image old new end
made image left p count old new end s same stopped = record {
  items = s.items;
  entries = s.entries;
  at = p;
  rest = s.rest;
  tabled = s.tabled;
  count = same ∙ s.counted;
  put = s.put ∙ ap (λ n. s.entries ++ drop n old) (sym same);
  stopped = stopped;
}

pub ends_full : (image : List ℕ) (left next : Option (List ℕ)) (p q count : ℕ) (item : TapeItem)
    (old new : List Entry) → SoFar image left p count old new
    → IfKnown left next (TakesItem p item q) → count ≡ length old
    → Tables image old new
    (record { count = count; needed = count + 1; place = p; state = 7 })
ends_full image left next p q count item old new s takes none =
    let (ys, there, t) = IfKnown-at left next (TakesItem p item q) s.rest s.known takes in
    made image left p count old new _ s refl
    (full item q ys t (tabled_long 0 p s.items s.entries image s.rest s.tabled
    ∙ sym s.counted ∙ none) refl refl refl)

pub ends_all : (image : List ℕ) (left next : Option (List ℕ)) (p q count place : ℕ)
    (ending : Ending) (old new : List Entry) → SoFar image left p count old new
    → IfKnown left next (TakesEnd p [] ending q) → place ≡ q - end_len ending
    → Tables image old new
    (record { count = count; needed = count; place = place; state = 0 })
ends_all image left next p q count place ending old new s takes is =
    let (ys, there, t) = IfKnown-at left next (TakesEnd p [] ending q) s.rest s.known takes in
    let walks = tabled_walks 0 p s.items s.entries image s.rest s.tabled in
    let whole = TakesEnd-behind 0 p q image s.rest ys s.items ending walks t in
    let same : whole.end ≡ place = omega (arith, is, whole.behind) in
    made image left p count old new _ s refl
    (all ending (subst (λ n. Begins 0 image s.items n (ends ending)) same whole.begins) refl refl)

pub ends_fault : (image : List ℕ) (left next : Option (List ℕ)) (p count : ℕ)
    (met : ImageFault) (old new : List Entry) → SoFar image left p count old new
    → IfKnown left next (TakesFault p [] met)
    → Tables image old new
    (record { count = count; needed = count; place = met.place; state = number_of met.cause })
ends_fault image left next p count met old new s takes =
    let (ys, there, t) = IfKnown-at left next (TakesFault p [] met) s.rest s.known takes in
    let walks = tabled_walks 0 p s.items s.entries image s.rest s.tabled in
    made image left p count old new _ s refl
    (fault met ys (TakesFault-behind 0 p image s.rest ys s.items met walks t) refl refl refl)

pub refuses : (image : List ℕ) (old : List Entry) → Tables image old old (nothing_given 6)
refuses image old = record {
  items = [];
  entries = [];
  at = 0;
  rest = image;
  tabled = (refl, refl);
  count = refl;
  put = refl;
  stopped = refused refl refl;
}
