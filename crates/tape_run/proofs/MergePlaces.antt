-- One more item at a place.
use Rattle.std.proofs.Common.{◌≡◌, inl, inr, List, [], ◌∷◌, ◌++◌, length, Option, Some, None, refl}
use Rattle.std.proofs.Common.{sym, ap, subst, append-nil}
use Rattle.tape_image.specs.Tape.{TapeItem, block, bad, mark}
use Rattle.tape_run.specs.Merging.{IsReadAs, IsReadFrom}
use Rattle.tape_run.specs.MergeSteps.{agrees, joined, best_items}
use Rattle.tape_run.proofs.MergeReadings.{reads_self, reads_more, reads_front, reads_short}
use Rattle.tape_run.proofs.MergeReadings.{reads_one_more, reads_behind, meets_both}

-- two readings of the same item of a tape agree
both_agree : (y x z : TapeItem) → IsReadAs y z → IsReadAs x z → agrees (Some y) x
both_agree bad x z h k = tt
both_agree (block b) (block c) z (inl e) k = absurd (cc e)
both_agree (block b) (block c) z (inr e) (inl f) = absurd (cc f)
both_agree (block b) (block c) z (inr e) (inr f) = cc
both_agree (block b) mark z (inl e) k = absurd (cc e)
both_agree (block b) mark z (inr e) (inl f) = absurd (cc f)
both_agree (block b) mark z (inr e) (inr f) = absurd (cc (e, f))
both_agree mark (block c) z (inl e) k = absurd (cc e)
both_agree mark (block c) z (inr e) (inl f) = absurd (cc f)
both_agree mark (block c) z (inr e) (inr f) = absurd (cc (e, f))
both_agree _ _ z h k = tt

-- an item that agrees with the best one is a reading of the better of the two
item_met : (best : Option TapeItem) (x : TapeItem) → agrees best x → IsReadAs x (joined best x)
item_met None x a = inr refl
item_met (Some bad) x a = inr refl
item_met (Some (block b)) (block c) a = inr (ap block (sym a))
item_met (Some (block b)) bad a = inl refl
item_met (Some (block b)) mark a = absurd a
item_met (Some mark) (block c) a = absurd a
item_met (Some mark) bad a = inl refl
item_met (Some mark) mark a = inr refl

-- so is the earlier best one
best_met : (y x : TapeItem) → IsReadAs y (joined (Some y) x)
best_met bad x = inl refl
best_met (block b) x = inr refl
best_met mark x = inr refl

-- the tape with the best item so far is a reading of the tape with the better of that and the item
pub best_better : (m : List TapeItem) (best : Option TapeItem) (x : TapeItem)
    → IsReadFrom (m ++ best_items best) (m ++ joined best x ∷ [])
best_better m None x =
    subst (λ l. IsReadFrom l (m ++ x ∷ [])) (sym (append-nil m))
    (reads_more m m (x ∷ []) (reads_self m))
best_better m (Some y) x = reads_one_more _ _ _ _ refl (reads_self m) (best_met y x)

-- a reading that continues with the item is a reading of the tape that continues with the better
-- item
pub reads_best : (m r : List TapeItem) (best : Option TapeItem) (x : TapeItem) → agrees best x
    → length r ≡ length m → IsReadFrom r (m ++ best_items best)
    → IsReadFrom (r ++ x ∷ []) (m ++ joined best x ∷ [])
reads_best m r best x a e h = reads_one_more _ _ _ _ e (reads_short _ _ _ e h) (item_met _ _ a)

-- a reading with the better of the two items is a reading of each tape of which both the earlier
-- best item and the reading with the item are readings
pub best_least : (m r t : List TapeItem) (best : Option TapeItem) (x : TapeItem)
    → length r ≡ length m → IsReadFrom (m ++ best_items best) t → IsReadFrom (r ++ x ∷ []) t
    → IsReadFrom (m ++ joined best x ∷ []) t
best_least m r t None x e h k = reads_behind m r t x e (reads_front m [] t h) k
best_least m r t (Some bad) x e h k = reads_behind m r t x e (reads_front m (bad ∷ []) t h) k
best_least m r t (Some (block b)) x e h k = h
best_least m r t (Some mark) x e h k = h

-- if the item does not agree, there is no such tape
pub best_differs : (m r t : List TapeItem) (best : Option TapeItem) (x : TapeItem)
    → (agrees best x → ⊥) → length r ≡ length m → IsReadFrom (m ++ best_items best) t
    → IsReadFrom (r ++ x ∷ []) t → ⊥
best_differs m r t None x never e h k = never tt
best_differs m r t (Some y) x never e h k =
    let (z, met) = meets_both r m t x y e k h in
    never (both_agree y x z met.1 met.0)
