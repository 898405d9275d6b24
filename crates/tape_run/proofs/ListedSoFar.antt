-- What a listing has done after some items, and its result from there.
use Rattle.std.proofs.Common.{◌≡◌, ◌≤◌, ℕ, ◌+◌, ◌-◌, List, [], ◌∷◌, ◌++◌, length, Option, Result}
use Rattle.std.proofs.Common.{Err, IfErr, refl, sym, ap, subst, ◌∙◌, arith, append-nil}
use Rattle.std.proofs.{Common.append_assoc, Common.length-append, KnownBytes.Appends-trans}
use Rattle.std.specs.{Prelude.Bool, Prelude.unwrap_or, Io.KnownBytes.Appends, Io.KnownBytes.Keeps}
use Rattle.tape_image.specs.{declared.item.Ending.Ending, declared.item.ImageFault.ImageFault}
use Rattle.tape_image.specs.{Tape.TapeItem, Begins.image_limit, Reader.IfKnown}
use Rattle.tape_image.specs.{Step.TakesItem, Step.TakesEnd, Step.TakesFault, Written.AppendsFront}
use Rattle.tape_image.proofs.Walks.{known_then, IfKnown-map}
use Rattle.tape_run.specs.Placed.{PlacedItem, Places, item_extent, shown_line, placed_line}
use Rattle.tape_run.specs.Placed.{placed_lines, placed_end, PlacesToEnd, PlacesToFault}
use Rattle.tape_run.specs.{declared.fault.ListFault.ListFault, ListLine.line_of, Listed.AppendsInto}
use Rattle.tape_run.specs.declared.fault.ListFault.TheVariants.{WriteFailed}
use Rattle.tape_run.specs.Placed.{StopsPlacing, at_item, at_end, at_fault, FitsPlaces}
use Rattle.tape_run.proofs.Fitting.{kept}

-- one item more
pub Places-then : (p q : ℕ) (items : List PlacedItem) (x : PlacedItem) (xs ys zs : List ℕ)
    → Places p items q xs ys → x.from ≡ q → TakesItem q x.item x.behind ys zs
    → Places p (items ++ x ∷ []) x.behind xs zs
Places-then p q [] x xs ys zs (here, same) from t =
    let P : ℕ → Type 0 = λ n. TakesItem n x.item x.behind xs zs in
    let Q : List ℕ → Type 0 = λ l. TakesItem q x.item x.behind l zs in
    (from ∙ sym here, zs, subst P (sym here) (subst Q (sym same) t), (refl, refl))
Places-then p q (y ∷ more) x xs ys zs (at, mid, takes, rest) from t =
    (at, mid, takes, Places-then y.behind q more x mid ys zs rest from t)

placed_lines-append : (offsets : Bool) (n : ℕ) (items more : List PlacedItem)
    → placed_lines offsets n (items ++ more)
    ≡ placed_lines offsets n items ++ placed_lines offsets (n + length items) more
placed_lines-append offsets n [] more =
    ap (λ m. placed_lines offsets m more) (let same : n ≡ n + 0 = omega arith in same)
placed_lines-append offsets n (x ∷ items) more =
    grind (arith, append_assoc, placed_lines-append offsets (n + 1) items more)

-- Of the bytes `all` the items up to an offset were read, and `left` is left; their lines were
-- written.
pub record SoFar (offsets : Bool) (all left : Option (List ℕ)) (place count : ℕ)
    (old new : Option (List ℕ)) : Type 0 where
  pub items : List PlacedItem
  pub known : IfKnown all left (Places 0 items place)
  pub counted : length items ≡ count
  pub wrote : Appends old new (placed_lines offsets 1 items)

-- the item that a call returned, with its offsets
abbrev pub met : TapeItem → ℕ → ℕ → PlacedItem
met item p q = record { item = item; from = p; behind = q }

-- the lines of some items and of one more
pub one_line : (offsets : Bool) (items : List PlacedItem) (x : PlacedItem) (count : ℕ)
    → length items ≡ count → placed_lines offsets 1 (items ++ x ∷ [])
    ≡ placed_lines offsets 1 items ++ placed_line offsets (count + 1) x
one_line offsets items x count counted = grind (arith, placed_lines-append, append-nil)

known_more : (all left next : Option (List ℕ)) (p q : ℕ) (items : List PlacedItem) (item : TapeItem)
    → IfKnown all left (Places 0 items p) → IfKnown left next (TakesItem p item q)
    → IfKnown all next (Places 0 (items ++ met item p q ∷ []) q)
known_more all left next p q items item a b =
    known_then all left next (Places 0 items p) (TakesItem p item q)
    (Places 0 (items ++ met item p q ∷ []) q)
    (λ xs ys zs s t. Places-then 0 p items (met item p q) xs ys zs s refl t) a b

pub one_more : (offsets : Bool) (all left next : Option (List ℕ))
    (p q count : ℕ) (item : TapeItem) (old mid new : Option (List ℕ))
    → SoFar offsets all left p count old mid → IfKnown left next (TakesItem p item q)
    → Appends mid new (placed_line offsets (count + 1) (met item p q))
    → SoFar offsets all next q (count + 1) old new
one_more offsets all left next p q count item old mid new s takes line =
    let x = met item p q in
    record {
      items = s.items ++ x ∷ [];
      known = known_more all left next p q s.items item s.known takes;
      counted = length-append s.items (x ∷ []) ∙ ap (λ n. n + 1) s.counted;
      wrote = subst (Appends old new) (sym (one_line offsets s.items x count s.counted))
          (Appends-trans old mid new (placed_lines offsets 1 s.items)
          (placed_line offsets (count + 1) x) s.wrote line);
    }

pub ends_at : (offsets : Bool) (all left next : Option (List ℕ))
    (p q count : ℕ) (ending : Ending) (old mid new : Option (List ℕ))
    → SoFar offsets all left p count old mid → IfKnown left next (TakesEnd p [] ending q)
    → Appends mid new (placed_end offsets ending q)
    → IfKnown all next (PlacesToEnd offsets old new)
ends_at offsets all left next p q count ending old mid new s takes line =
    known_then all left next (Places 0 s.items p) (TakesEnd p [] ending q)
    (PlacesToEnd offsets old new)
    (λ xs ys zs stand t. record {
      items = s.items;
      at = p;
      rest = ys;
      stand = stand;
      ending = ending;
      place = q;
      takes = t;
      wrote = Appends-trans old mid new (placed_lines offsets 1 s.items)
          (placed_end offsets ending q) s.wrote line;
    })
    s.known takes

pub fails_at : (offsets : Bool) (all left next : Option (List ℕ))
    (p count : ℕ) (fault : ImageFault) (old mid new : Option (List ℕ))
    → SoFar offsets all left p count old mid → p ≤ image_limit
    → IfKnown left next (TakesFault p [] fault) → Keeps mid new
    → IfKnown all next (PlacesToFault offsets fault old new)
fails_at offsets all left next p count fault old mid new s near takes keeps =
    grind (arith, known_then, kept)

-- further text was written after the earlier text
into : (old mid new : Option (List ℕ)) (all part : List ℕ) → Appends old mid all
    → AppendsFront mid new part → AppendsInto old new all part
into old mid new all part wrote front =
    (front.0, front.1, Appends-trans old mid new all front.0 wrote front.2, front.3)

-- the line of an item was not written completely
pub stops_at_item : (offsets : Bool) (all left next : Option (List ℕ))
    (p q count : ℕ) (item : TapeItem) (old mid new : Option (List ℕ))
    → SoFar offsets all left p count old mid → q ≤ image_limit
    → IfKnown left next (TakesItem p item q)
    → AppendsFront mid new (placed_line offsets (count + 1) (met item p q))
    → IfKnown all next (StopsPlacing offsets old new)
stops_at_item offsets all left next p q count item old mid new s near takes front =
    let x = met item p q in
    let line = subst (λ n. AppendsFront mid new (placed_line offsets (n + 1) x)) (sym s.counted)
    front in
    known_then all left next (Places 0 s.items p) (TakesItem p item q)
    (StopsPlacing offsets old new)
    (λ xs ys zs stand t. at_item s.items x q (Places-then 0 p s.items x xs ys zs stand refl t) near
    (into old mid new (placed_lines offsets 1 s.items)
    (placed_line offsets (length s.items + 1) x) s.wrote line))
    s.known takes

-- the last line was not written completely
pub stops_at_end : (offsets : Bool) (all left next : Option (List ℕ))
    (p q count : ℕ) (ending : Ending) (old mid new : Option (List ℕ))
    → SoFar offsets all left p count old mid → IfKnown left next (TakesEnd p [] ending q)
    → AppendsFront mid new (placed_end offsets ending q)
    → IfKnown all next (StopsPlacing offsets old new)
stops_at_end offsets all left next p q count ending old mid new s takes front =
    known_then all left next (Places 0 s.items p) (TakesEnd p [] ending q)
    (StopsPlacing offsets old new)
    (λ xs ys zs stand t. at_end s.items p ys ending q stand t
    (into old mid new (placed_lines offsets 1 s.items) (placed_end offsets ending q) s.wrote front))
    s.known takes

-- the lines before a fault were written, but not flushed
pub stops_at_fault : (offsets : Bool) (all left next : Option (List ℕ))
    (p count : ℕ) (fault : ImageFault) (old mid new : Option (List ℕ))
    → SoFar offsets all left p count old mid → p ≤ image_limit
    → IfKnown left next (TakesFault p [] fault) → Keeps mid new
    → IfKnown all next (StopsPlacing offsets old new)
stops_at_fault offsets all left next p count fault old mid new s near takes keeps =
    IfKnown-map all next (PlacesToFault offsets fault old new) (StopsPlacing offsets old new)
    (λ xs ys f. at_fault fault f)
    (fails_at offsets all left next p count fault old mid new s near takes keeps)

-- a write failed after this was read
pub write_failed : {T : Type 0} (offsets : Bool) (result : Result T ListFault)
    (before after old new : Option (List ℕ)) → result ≡ Err WriteFailed
    → IfKnown before after (StopsPlacing offsets old new)
    → IfErr result (FitsPlaces offsets before after old new)
write_failed {T} offsets result before after old new is stops =
    let P : Result T ListFault → Type 0 = λ r. IfErr r (FitsPlaces offsets before after old new) in
    subst P (sym is) stops

-- the line that is written from the results of the calls
pub line_is : (offsets : Bool) (size behind from p q n : ℕ) (extent : Option ℕ) (item : TapeItem)
    (line : List ℕ) → size ≡ unwrap_or extent (behind - from) → extent ≡ item_extent item
    → behind ≡ q → from ≡ p → line ≡ line_of n item
    → shown_line offsets behind size line ≡ placed_line offsets n (met item p q)
line_is offsets size behind from p q n extent item line sized known ends begins tells =
    grind (arith)
