-- Each number of a listing with offsets is the one in the image's bytes.
use Rattle.std.proofs.Common.{◌≡◌, ℕ, ◌+◌, List, [], ◌∷◌, ◌++◌, length, map, Option, length-append}
use Rattle.std.proofs.Common.{refl, sym, ap, subst, ◌∙◌, arith, append-nil, append_assoc}
use Rattle.std.proofs.lemmas.List.{nil_from_length}
use Rattle.std.specs.Prelude.{Bool, true, false, if◌then◌else◌, nat_le}
use Rattle.std.specs.{List.flat_map, Fmt.digits}
use Rattle.tape_image.specs.Spelling.{Spelling, IsSpelling, IsFramed, item_of, a_mark, a_gap}
use Rattle.tape_image.specs.{Tape.TapeItem, Tape.block, Tape.bad, Tape.mark, Word.block_extent}
use Rattle.tape_image.specs.{Spelling.a_block, Begins.Walks, declared.item.ImageFault.ImageFault}
use Rattle.tape_image.specs.Step.{TakesItem}
use Rattle.tape_image.proofs.Walks.{Walks-nil, Walks-trans, Walks-item, TakesEnd-behind}
use Rattle.tape_image.proofs.{Spellings.one_spelling, Spellings.same_back, Walks.TakesFault-behind}
use Rattle.tape_run.specs.Placed.{PlacedItem, Places, placed_line, placed_lines, placed_end}
use Rattle.tape_run.specs.PlacedExamples.{PlacesAreWorked, PlacedAreFirst, OnePlaces, PlaceIsOfWord}
use Rattle.tape_run.specs.Placed.{at_item, at_end, at_fault}
use Rattle.tape_run.specs.PlacedExamples.{items_of, PlacesEndSays, PlacesFaultSays, PlacesStopSays}
use Rattle.tape_run.proofs.{ListExamples.into_front, ListedSoFar.met}

pub placed_worked : PlacesAreWorked
unfolding digits
placed_worked = refl

-- items with their offsets were read
pub placed_first : PlacedAreFirst
placed_first [] p q xs ys (at, same) =
    let P : ℕ → Type 0 = λ n. Walks p xs [] n ys in
    let Q : List ℕ → Type 0 = λ l. Walks p xs [] p l in
    subst P at (subst Q same (Walks-nil p xs))
placed_first (x ∷ more) p q xs ys (at, mid, takes, rest) =
    Walks-trans p x.behind q xs mid ys (x.item ∷ []) (map (λ y. y.item) more)
    (Walks-item p x.behind xs mid x.item takes) (placed_first more x.behind q mid ys rest)

abbrev texts : List Spelling → List ℕ
texts l = flat_map (λ s. s.bytes) l

abbrev gifts : List Spelling → List TapeItem
gifts l = flat_map (λ s. s.given) l

-- an item is no gap
no_gap : (g : Spelling) (gs : List Spelling) (given : List TapeItem) (i : TapeItem)
    → [] ≡ gifts (g ∷ gs) → given ≡ i ∷ [] → given ≡ g.given → ⊥
no_gap g gs given i none is same =
    let one : length given ≡ 1 = ap length is in
    absurd (omega (arith, ap length none, length-append g.given (gifts gs), ap length same, one))

-- gaps after a gap are gaps
gaps_behind : (g : Spelling) (gs : List Spelling) → [] ≡ gifts (g ∷ gs) → [] ≡ gifts gs
gaps_behind g gs none =
    let few : length (gifts gs) ≡ 0 =
    omega (arith, ap length none, length-append g.given (gifts gs)) in
    sym (nil_from_length (gifts gs) few)

-- after gaps, the bytes begin with one encoding of an item
one_behind : (fs gs : List Spelling) (s t ys zs : List ℕ) (f h : List TapeItem) (i j : TapeItem)
    → [] ≡ gifts fs → [] ≡ gifts gs → IsSpelling s f → IsSpelling t h → f ≡ i ∷ [] → h ≡ j ∷ []
    → texts fs ++ (s ++ ys) ≡ texts gs ++ (t ++ zs)
    → (f ≡ h) × (length (texts fs) + length s ≡ length (texts gs) + length t) × (ys ≡ zs)
one_behind [] [] s t ys zs f h i j a b k l is js e =
    let one = one_spelling s t ys zs f h k l e in
    (one.1, ap (λ n. 0 + n) (ap length one.0), same_back s t ys zs (ap length one.0) e)
one_behind [] (g ∷ gs) s t ys zs f h i j a b k l is js e =
    let front = e ∙ append_assoc g.bytes (texts gs) (t ++ zs) in
    let one = one_spelling s g.bytes ys (texts gs ++ (t ++ zs)) f g.given k g.spelled front in
    absurd (no_gap g gs f i b is one.1)
one_behind (g ∷ gs) [] s t ys zs f h i j a b k l is js e =
    let front = sym e ∙ append_assoc g.bytes (texts gs) (s ++ ys) in
    let one = one_spelling t g.bytes zs (texts gs ++ (s ++ ys)) h g.given l g.spelled front in
    absurd (no_gap g gs h j a js one.1)
one_behind (g ∷ gs) (d ∷ ds) s t ys zs f h i j a b k l is js e =
    let both : g.bytes ++ (texts gs ++ (s ++ ys)) ≡ d.bytes ++ (texts ds ++ (t ++ zs)) =
    sym (append_assoc g.bytes (texts gs) (s ++ ys)) ∙ e
    ∙ append_assoc d.bytes (texts ds) (t ++ zs) in
    let one = one_spelling g.bytes d.bytes (texts gs ++ (s ++ ys)) (texts ds ++ (t ++ zs)) g.given
    d.given g.spelled d.spelled both in
    let same : length g.bytes ≡ length d.bytes = ap length one.0 in
    let next = one_behind gs ds s t ys zs f h i j (gaps_behind g gs a) (gaps_behind d ds b) k l is
    js (same_back g.bytes d.bytes (texts gs ++ (s ++ ys)) (texts ds ++ (t ++ zs)) same both) in (
      next.0,
      omega (
        arith,
        next.1,
        same,
        length-append g.bytes (texts gs),
        length-append d.bytes (texts ds),
      ),
      next.2,
    )

abbrev head : TapeItem → List TapeItem → TapeItem
head other [] = other
head other (i ∷ is) = i

-- bytes begin with one item, which ends at one place
one_item : (p q r : ℕ) (i j : TapeItem) (xs ys zs : List ℕ) → TakesItem p i q xs ys
    → TakesItem p j r xs zs → (i ≡ j) × (q ≡ r) × (ys ≡ zs)
one_item p q r i j xs ys zs a b =
    let fs = a.gap.spellings in
    let gs = b.gap.spellings in
    let here : a.gaps ≡ texts fs = a.gap.whole ∙ append-nil (texts fs) in
    let there : b.gaps ≡ texts gs = b.gap.whole ∙ append-nil (texts gs) in
    let e : texts fs ++ (a.spelling ++ ys) ≡ texts gs ++ (b.spelling ++ zs) =
    ap (λ l. l ++ (a.spelling ++ ys)) (sym here) ∙ sym a.whole ∙ b.whole
    ∙ ap (λ l. l ++ (b.spelling ++ zs)) there in
    let one = one_behind fs gs a.spelling b.spelling ys zs (i ∷ []) (j ∷ []) i j a.gap.items_are
    b.gap.items_are a.spelled b.spelled refl refl e in (
      ap (head i) one.0,
      omega (arith, a.place, b.place, one.1, ap length here, ap length there),
      one.2,
    )

same_placed : (x y : PlacedItem) → x.item ≡ y.item → x.from ≡ y.from → x.behind ≡ y.behind → x ≡ y
same_placed x y a b c =
    ap (λ i. met i x.from x.behind) a ∙ ap (λ f. met y.item f x.behind) b
    ∙ ap (λ q. met y.item y.from q) c

pub one_places : OnePlaces
one_places [] [] p q r xs ys zs a b few = refl
one_places [] (y ∷ others) p q r xs ys zs a b few = absurd (omega (arith, few))
one_places (x ∷ items) [] p q r xs ys zs a b few = absurd (omega (arith, few))
one_places (x ∷ items) (y ∷ others) p q r xs ys zs (f, mid, t, rest) (g, other, u, more) few =
    let one = one_item p x.behind y.behind x.item y.item xs mid other t u in
    let P : ℕ → Type 0 = λ n. Places n others r other zs in
    let Q : List ℕ → Type 0 = λ l. Places x.behind others r l zs in
    let there = subst Q (sym one.2) (subst P (sym one.1) more) in
    let less : length items ≡ length others = omega (arith, few) in
    let same = same_placed x y one.0 (f ∙ sym g) one.1 in
    let behind = one_places items others x.behind q r mid ys zs rest there less in
    ap (λ l. x ∷ l) behind ∙ ap (λ w. w ∷ others) same

-- the length of the encoding of a block, and of a mark
framed_long : (s : List ℕ) (w : ℕ) (content : List ℕ) → IsFramed s w content
    → length s ≡ block_extent (length content)
framed_long s w content f = grind (arith, length-append)

content_is : (b : Bool) (content bytes : List ℕ)
    → (if b then block content else bad) ≡ block bytes → content ≡ bytes
content_is true content bytes e = cc
content_is false content bytes e = absurd (cc)

no_mark : (b : Bool) (content : List ℕ) → (if b then block content else bad) ≡ mark → ⊥
no_mark true content e = absurd (cc)
no_mark false content e = absurd (cc)

block_long : (s bytes : List ℕ) (given : List TapeItem) → IsSpelling s given
    → given ≡ block bytes ∷ [] → length s ≡ block_extent (length bytes)
block_long s bytes given (a_mark is e) g = absurd (cc)
block_long s bytes given (a_gap is e) g = absurd (cc)
block_long s bytes given (a_block w content len f e) g =
    let same : item_of w content ≡ block bytes = ap (head bad) (sym e ∙ g) in
    framed_long s w content f
    ∙ ap (λ (l : List ℕ). block_extent (length l)) (content_is (nat_le w 99999) content bytes same)

mark_long : (s : List ℕ) (given : List TapeItem) → IsSpelling s given → given ≡ mark ∷ []
    → length s ≡ 4
mark_long s given (a_mark is e) g = is.four
mark_long s given (a_gap is e) g = absurd (cc)
mark_long s given (a_block w content len f e) g =
    let same : item_of w content ≡ mark = ap (head bad) (sym e ∙ g) in
    absurd (no_mark (nat_le w 99999) content same)

pub block_word : (bytes : List ℕ) → PlaceIsOfWord (block bytes)
block_word bytes p q xs ys t =
    omega (arith, t.place, block_long t.spelling bytes (block bytes ∷ []) t.spelled refl)

pub mark_word : PlaceIsOfWord mark
mark_word p q xs ys t = omega (arith, t.place, mark_long t.spelling (mark ∷ []) t.spelled refl)

-- the meaning of the outcomes of a listing with offsets
pub ended : (offsets : Bool) (old new : Option (List ℕ)) (bytes left : List ℕ)
    → PlacesEndSays offsets old new bytes left
ended offsets old new bytes left l = (
  TakesEnd-behind 0 l.at l.place bytes l.rest left (items_of l.items) l.ending
      (placed_first l.items 0 l.at bytes l.rest l.stand) l.takes,
  l.wrote,
)

pub faulted : (offsets : Bool) (fault : ImageFault) (old new : Option (List ℕ))
    (bytes left : List ℕ) → PlacesFaultSays offsets fault old new bytes left
faulted offsets fault old new bytes left l = (
  TakesFault-behind 0 l.at bytes l.rest left (items_of l.items) fault
      (placed_first l.items 0 l.at bytes l.rest l.stand) l.takes,
  l.wrote,
)

pub stopped : (offsets : Bool) (old new : Option (List ℕ)) (bytes left : List ℕ)
    → PlacesStopSays offsets old new bytes left
stopped offsets old new bytes left (at_item done x at stand near wrote) =
    let walks = placed_first (done ++ x ∷ []) 0 at bytes left stand in
    let line = placed_line offsets (length done + 1) x in
    let lines = placed_lines offsets 1 done in (
      (flat_map (λ s. s.bytes) walks.leads.spellings, walks.leads.whole),
      (lines ++ line, into_front old new lines line wrote),
    )
stopped offsets old new bytes left (at_end items at rest ending place stand takes wrote) =
    let all = TakesEnd-behind 0 at place bytes rest left (items_of items) ending
    (placed_first items 0 at bytes rest stand) takes in
    let line = placed_end offsets ending place in
    let lines = placed_lines offsets 1 items in (
      (all.taken, all.whole),
      (lines ++ line, into_front old new lines line wrote),
    )
stopped offsets old new bytes left (at_fault fault f) =
    let all = (faulted offsets fault old new bytes left f).0 in
    let lines = placed_lines offsets 1 f.items in (
      (all.given, all.whole),
      (lines, (lines, [], f.wrote, sym (append-nil lines))),
    )
