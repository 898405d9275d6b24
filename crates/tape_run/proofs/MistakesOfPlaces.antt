-- Wrong answers that the contract of a listing with offsets excludes.
use Rattle.std.proofs.Common.{◌≡◌, ℕ, List, [], ◌∷◌, ◌++◌, length, map, sym, refl, ap, ◌∙◌, subst}
use Rattle.std.proofs.{Common.arith, Common.codes, lemmas.List.length-map}
use Rattle.std.specs.{Prelude.Some, Prelude.Ok, Prelude.slice_index, Prelude.true, Fmt.digits}
use Rattle.std.specs.Io.KnownBytes.{Appends}
use Rattle.tape_image.specs.{declared.item.Ending.TheVariants.Physical, Tape.mark, Reader.IfKnown}
use Rattle.tape_image.specs.{Begins.Begins, Begins.ends, Step.TakesEnd}
use Rattle.tape_image.proofs.{Uniqueness.Begins-one, Walks.TakesEnd-behind}
use Rattle.tape_run.specs.Placed.{PlacedItem, Places, PlacesToEnd, placed_lines, placed_end}
use Rattle.tape_run.proofs.PlacedExamples.{placed_first, one_places}
use Rattle.tape_run.proofs.list.list_places_to.Reads as list_places_to

-- a tape mark after an erase gap
abbrev behind_gap : PlacedItem
behind_gap = record { item = mark; from = 0; behind = 8 }

-- the number of items read from bytes that encode this item and then end
same_items : (items : List PlacedItem) (x : PlacedItem) (bytes rest ys left : List ℕ)
    (at q place end : ℕ) (ending : _) → Places 0 items at bytes rest
    → TakesEnd at [] ending place rest left → Places 0 (x ∷ []) q bytes ys
    → Begins 0 bytes (x.item ∷ []) end (ends Physical) → items ≡ x ∷ []
same_items items x bytes rest ys left at q place end ending stand takes one begins =
    let walks = placed_first items 0 at bytes rest stand in
    let names = map (λ (y : PlacedItem). y.item) items in
    let all = TakesEnd-behind 0 at place bytes rest left names ending walks takes in
    let same = (Begins-one 0 bytes names (x.item ∷ []) all.end end (ends ending) (ends Physical)
    all.begins begins).0 in
    let few : length items ≡ 1 =
    sym (length-map items (λ (y : PlacedItem). y.item)) ∙ ap length same in
    one_places items (x ∷ []) 0 at q bytes rest ys stand one few

-- its line begins with a 4
its_first : (more : List ℕ) → slice_index (placed_lines true 1 (behind_gap ∷ []) ++ more) 0 ≡ 52
unfolding digits
its_first more = refl

-- the first number listed for a tape mark after an erase gap is 4
first_is_four : (R : _) (W : _) (LR : _) (LW : _) (g : _) (d : _) (h : _) (e : _) (κs : _) (a : _)
    (s : _) (bytes left text ys : List ℕ) (end : ℕ)
    → list_places_to.Learnt-named R W LR LW g d h e κs a (Ok tt) s
    → g.remaining a.1.0.now ≡ Some bytes → g.remaining s.1.0.now ≡ Some left
    → h.contents a.1.1.0.now ≡ Some [] → h.contents s.1.1.0.now ≡ Some text
    → Places 0 (behind_gap ∷ []) 8 bytes ys → Begins 0 bytes (mark ∷ []) end (ends Physical)
    → slice_index text 0 ≡ 52
first_is_four R W LR LW g d h e κs a s bytes left text ys end l b q old new stand begins =
    let k : (xs ys : List ℕ) → Type 0 = PlacesToEnd true (h.contents a.1.1.0.now) (h.contents
    s.1.1.0.now) in
    let r : k bytes left = subst (λ v. IfKnown (Some bytes) v k) q
    (subst (λ v. IfKnown v (g.remaining s.1.0.now) k) b l.ok) in
    let told = placed_lines true 1 r.items ++ placed_end true r.ending r.place in
    let w : Appends (Some []) (Some text) told
    = subst (λ v. Appends (Some []) v told) new
    (subst (λ v. Appends v (h.contents s.1.1.0.now) told) old r.wrote) in
    let same = same_items r.items behind_gap bytes r.rest ys left r.at 8 r.place end r.ending
    r.stand r.takes stand begins in
    ap (λ v. slice_index v 0) w
    ∙ ap (λ is. slice_index (placed_lines true 1 is ++ placed_end true r.ending r.place) 0) same
    ∙ its_first (placed_end true r.ending r.place)

-- place_behind_the_item: the offset of the item's end is reported
place_behind_the_item : (R : _) (W : _) (LR : _) (LW : _) (g : _) (d : _) (h : _) (e : _) (κs : _)
    (a : _) (s : _) (bytes left ys : List ℕ) (end : ℕ)
    → list_places_to.Learnt-named R W LR LW g d h e κs a (Ok tt) s
    → g.remaining a.1.0.now ≡ Some bytes → g.remaining s.1.0.now ≡ Some left
    → h.contents a.1.1.0.now ≡ Some []
    → h.contents s.1.1.0.now ≡ Some (codes "8 4 000001 MARK\n8 0 END PHYSICAL\n")
    → Places 0 (behind_gap ∷ []) 8 bytes ys → Begins 0 bytes (mark ∷ []) end (ends Physical) → ⊥
place_behind_the_item R W LR LW g d h e κs a s bytes left ys end l b q old new stand begins =
    absurd (let w : 56 ≡ 52 = first_is_four R W LR LW g d h e κs a s bytes left
    (codes "8 4 000001 MARK\n8 0 END PHYSICAL\n") ys end l b q old new stand begins in omega arith)

-- gaps_counted_to_the_item: a tape mark is listed with the offset of the gap before it
gaps_counted_to_the_item : (R : _) (W : _) (LR : _) (LW : _) (g : _) (d : _) (h : _) (e : _)
    (κs : _) (a : _) (s : _) (bytes left ys : List ℕ) (end : ℕ)
    → list_places_to.Learnt-named R W LR LW g d h e κs a (Ok tt) s
    → g.remaining a.1.0.now ≡ Some bytes → g.remaining s.1.0.now ≡ Some left
    → h.contents a.1.1.0.now ≡ Some []
    → h.contents s.1.1.0.now ≡ Some (codes "0 8 000001 MARK\n8 0 END PHYSICAL\n")
    → Places 0 (behind_gap ∷ []) 8 bytes ys → Begins 0 bytes (mark ∷ []) end (ends Physical) → ⊥
gaps_counted_to_the_item R W LR LW g d h e κs a s bytes left ys end l b q old new stand begins =
    absurd (let w : 48 ≡ 52 = first_is_four R W LR LW g d h e κs a s bytes left
    (codes "0 8 000001 MARK\n8 0 END PHYSICAL\n") ys end l b q old new stand begins in omega arith)
