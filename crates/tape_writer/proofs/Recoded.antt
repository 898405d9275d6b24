-- Volumes whose labels are in EBCDIC, item by item.
use Rattle.tape_writer.proofs.Words.{◌≡◌, ℕ, List, [], ◌∷◌, ◌++◌, refl, ap, ◌∙◌, sym, map, map-append}
use Rattle.tape_writer.proofs.Words.{TapeItem, block, subst, Result, Ok, Err}
use Rattle.tape_writer.specs.declared.ebcdic.Part.{Part}
use Rattle.tape_writer.specs.declared.ebcdic.Part.TheVariants.{Headers}
use Rattle.tape_writer.specs.Tapes.{Tapes, Ended, UnderWay, all_volumes, Takes}
use Rattle.tape_writer.specs.Coded.{after, coded_item, part_of, coded_from, coded, coded_tapes}
use Rattle.tape_writer.specs.Coded.{HoldsCoded}

-- one more item
pub coded_more : (part : Part) (xs : List TapeItem) (x : TapeItem)
    → coded_from part (xs ++ x ∷ [])
    ≡ coded_from part xs ++ coded_item (part_of part xs) x ∷ []
coded_more part [] x = refl
coded_more part (y ∷ ys) x =
    ap (λ v. coded_item part y ∷ v) (coded_more (after part y) ys x)

pub part_more : (part : Part) (xs : List TapeItem) (x : TapeItem)
    → part_of part (xs ++ x ∷ []) ≡ after (part_of part xs) x
part_more part [] x = refl
part_more part (y ∷ ys) x = part_more (after part y) ys x

-- the tapes contain one more item
pub one_more : (H : Tapes → Type 0) (part next : Part) (x : TapeItem)
    (volumes : List (List TapeItem)) (items : List TapeItem) → part ≡ part_of Headers items
    → next ≡ after part x
    → H (UnderWay (map coded volumes) (coded items ++ coded_item part x ∷ []))
    → HoldsCoded H next (UnderWay volumes (items ++ x ∷ []))
one_more H part next x volumes items at is held =
    let more : coded (items ++ x ∷ []) ≡ coded items ++ coded_item part x ∷ [] =
    coded_more Headers items x ∙ ap (λ p. coded items ++ coded_item p x ∷ []) (sym at) in (
      subst (λ ys. H (UnderWay (map coded volumes) ys)) (sym more) held,
      is ∙ ap (λ p. after p x) at ∙ sym (part_more Headers items x),
    )

-- a block is written
pub block_coded : {E : Type 0} (H H' : Tapes → Type 0) (part : Part) (b : List ℕ) (y : TapeItem)
    (r : Result (Unit {0}) E) → y ≡ coded_item part (block b) → Takes (y ∷ []) H r H'
    → Takes (block b ∷ []) (HoldsCoded H part) r (HoldsCoded H' part)
block_coded H H' part b y (Ok u) e takes = λ volumes items held.
    one_more H' part part (block b) volumes items held.1 refl
    (subst (λ z. H' (UnderWay (map coded volumes) (coded items ++ z ∷ []))) e
    (takes (map coded volumes) (coded items) held.0))
block_coded H H' part b y (Err f) e takes = λ volumes items held. tt

-- all volumes, including the current one
pub coded_volumes : (tapes : Tapes)
    → all_volumes (coded_tapes tapes) ≡ map coded (all_volumes tapes)
coded_volumes (Ended volumes) = refl
coded_volumes (UnderWay volumes items) =
    sym (map-append coded volumes (items ∷ []))
