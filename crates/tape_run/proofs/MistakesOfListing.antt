-- Wrong answers that the contract of listing excludes.
use Rattle.std.proofs.Common.{◌≡◌, ℕ, List, [], ◌∷◌, length, ap, ◌∙◌, subst, arith, codes, Some, Ok}
use Rattle.std.specs.Io.KnownBytes.{Appends}
use Rattle.tape_image.specs.{declared.item.Ending.TheVariants.Physical, Tape.TapeItem, Tape.mark}
use Rattle.tape_image.specs.{Reader.IfKnown, Begins.Begins, Begins.ends, Begins.faults}
use Rattle.tape_image.proofs.Uniqueness.{Begins-one}
use Rattle.tape_run.specs.{Listing.listing_of, Listed.ListsToEnd}
use Rattle.tape_run.proofs.list.list_to.Reads as list_to

-- what `list` wrote for bytes that begin with these items and end like this
listed : (R : _) (W : _) (LR : _) (LW : _) (g : _) (d : _) (h : _) (e : _) (κs : _) (a : _) (s : _)
    (bytes left text : List ℕ) (items : List TapeItem) (place : ℕ) (ending : _)
    → list_to.Learnt-named R W LR LW g d h e κs a (Ok tt) s
    → g.remaining a.1.0.now ≡ Some bytes → g.remaining s.1.0.now ≡ Some left
    → h.contents a.1.1.0.now ≡ Some [] → h.contents s.1.1.0.now ≡ Some text
    → Begins 0 bytes items place (ends ending) → text ≡ listing_of items (ends ending)
listed R W LR LW g d h e κs a s bytes left text items place ending l b q old new begins =
    let k : (xs ys : List ℕ) → Type 0 = ListsToEnd (h.contents a.1.1.0.now) (h.contents s.1.1.0.now)
    in
    let r : k bytes left = subst (λ v. IfKnown (Some bytes) v k) q
    (subst (λ v. IfKnown v (g.remaining s.1.0.now) k) b l.ok) in
    let one = Begins-one _ _ _ _ _ _ _ _ r.takes.begins begins in
    let w : Appends (Some []) (Some text) (listing_of r.items (ends r.ending)) = subst
    (λ v. Appends (Some []) v (listing_of r.items (ends r.ending))) new (subst (λ v. Appends v
    (h.contents s.1.1.0.now) (listing_of r.items (ends r.ending))) old r.wrote) in
    w ∙ ap (λ is. listing_of is (ends r.ending)) one.0 ∙ ap (listing_of items) one.2

-- stops_after_one_item: only the first of two tape marks is listed
stops_after_one_item : (R : _) (W : _) (LR : _) (LW : _) (g : _) (d : _) (h : _) (e : _) (κs : _)
    (a : _) (s : _) (bytes left : List ℕ) (place : ℕ)
    → list_to.Learnt-named R W LR LW g d h e κs a (Ok tt) s
    → g.remaining a.1.0.now ≡ Some bytes → g.remaining s.1.0.now ≡ Some left
    → h.contents a.1.1.0.now ≡ Some [] → h.contents s.1.1.0.now ≡ Some (codes "000001 MARK\n")
    → Begins 0 bytes (mark ∷ mark ∷ []) place (ends Physical) → ⊥
stops_after_one_item R W LR LW g d h e κs a s bytes left place l b q old new begins =
    absurd (let w : 12 ≡ 37 = ap length (listed R W LR LW g d h e κs a s bytes left
    (codes "000001 MARK\n") (mark ∷ mark ∷ []) place Physical l b q old new begins) in
    omega arith)

-- fault_swallowed: an image that stops at a fault is listed with success
fault_swallowed : (R : _) (W : _) (LR : _) (LW : _) (g : _) (d : _) (h : _) (e : _) (κs : _) (a : _)
    (s : _) (bytes left : List ℕ) (items : List TapeItem) (place : ℕ) (cause : _)
    → list_to.Learnt-named R W LR LW g d h e κs a (Ok tt) s
    → g.remaining a.1.0.now ≡ Some bytes → g.remaining s.1.0.now ≡ Some left
    → Begins 0 bytes items place (faults cause) → ⊥
fault_swallowed R W LR LW g d h e κs a s bytes left items place cause l b q begins =
    let k : (xs ys : List ℕ) → Type 0 = ListsToEnd (h.contents a.1.1.0.now) (h.contents s.1.1.0.now)
    in
    let r : k bytes left = subst (λ v. IfKnown (Some bytes) v k) q
    (subst (λ v. IfKnown v (g.remaining s.1.0.now) k) b l.ok) in
    let c : faults cause ≡ ends r.ending = (Begins-one _ _ _ _ _ _ _ _ begins r.takes.begins).2 in
    absurd (cc)
