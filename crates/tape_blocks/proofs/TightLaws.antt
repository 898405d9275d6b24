-- Lists of blocks with one more block.
use Rattle.std.proofs.Common.{◌≡◌, ◌≢◌, ℕ, ◌+◌, List, [], ◌∷◌, ◌++◌, length, refl, ap, subst, ◌∙◌}
use Rattle.std.proofs.{Common.arith, Common.length-append, lemmas.List.append-nil}
use Rattle.std.proofs.lemmas.List.Concat.{flat_map-cons, flat_map-append}
use Rattle.std.specs.List.{AllByRecursion}
use Rattle.tape_label.specs.declared.values.Format.TheVariants.{Spanned}
use Rattle.tape_blocks.specs.Tight.{Filled, Chain, IsDue, IsWritten, IsSegment, AreSegments}
use Rattle.tape_blocks.specs.{Block.Portion, Block.spelling, Block.spellings, Packing.IsFull}
use Rattle.tape_blocks.specs.{Tight.first_len, Tight.parts_of_all, declared.parts.Shape.Shape}
use Rattle.tape_blocks.specs.Run.{AreClosed}
use Rattle.tape_blocks.proofs.UnitLaws.{length-spelling}

-- ---- lists of blocks

pub first_push : (ps : List Portion) (p : Portion) (n : ℕ)
    → first_len (ps ++ p ∷ []) n ≡ first_len ps (length p.bytes)
first_push [] p n = refl
first_push (q ∷ ps) p n = refl

pub first_some : (ps : List Portion) (n m : ℕ) → ps ≢ [] → first_len ps n ≡ first_len ps m
first_some [] n m some = absurd (some refl)
first_some (p ∷ ps) n m some = refl

pub closed_more : (shape : Shape) (taken : List Filled) (b : Filled) (n : ℕ)
    → AreClosed shape taken (first_len b.parts 0) → IsFull shape b.parts n
    → AreClosed shape (taken ++ b ∷ []) n
closed_more shape [] b n closed full = full
closed_more shape (x ∷ []) b n closed full = (closed, full)
closed_more shape (x ∷ y ∷ bs) b n closed full =
    (closed.0, closed_more shape (y ∷ bs) b n closed.1 full)

pub chain_of : (shape : Shape) (taken : List Filled) (n : ℕ) → AreClosed shape taken n
    → Chain (IsDue shape) taken
chain_of shape [] n closed = tt
chain_of shape (x ∷ []) n closed = tt
chain_of shape (x ∷ y ∷ bs) n closed = (closed.0, chain_of shape (y ∷ bs) n closed.1)

pub chain_more : (shape : Shape) (taken : List Filled) (b : Filled)
    → AreClosed shape taken (first_len b.parts 0) → Chain (IsDue shape) (taken ++ b ∷ [])
chain_more shape [] b closed = tt
chain_more shape (x ∷ []) b closed = (closed, tt)
chain_more shape (x ∷ y ∷ bs) b closed = (closed.0, chain_more shape (y ∷ bs) b closed.1)

pub each_more : (shape : Shape) (taken : List Filled) (b : Filled)
    → AllByRecursion (IsWritten shape) taken → IsWritten shape b
    → AllByRecursion (IsWritten shape) (taken ++ b ∷ [])
each_more shape [] b all is = (is, tt)
each_more shape (x ∷ bs) b all is = (all.0, each_more shape bs b all.1 is)

pub parts_more : (taken : List Filled) (b : Filled)
    → parts_of_all (taken ++ b ∷ []) ≡ parts_of_all taken ++ b.parts
parts_more taken b = grind (arith, flat_map-append, flat_map-cons, append-nil)

-- ---- segments

pub segments_push : (block_len at : ℕ) (ps : List Portion) (p : Portion)
    → AreSegments block_len at ps → IsSegment block_len (at + length (spellings Spanned ps)) p
    → AreSegments block_len at (ps ++ p ∷ [])
segments_push block_len at [] p all is = grind arith
segments_push block_len at (q ∷ ps) p all is =
    let long : length (spellings Spanned (q ∷ ps))
    ≡ 5 + length q.bytes + length (spellings Spanned ps) =
    ap length (flat_map-cons (spelling Spanned) q ps) ∙ omega (
      arith,
      length-append (spelling Spanned q) (spellings Spanned ps),
      length-spelling Spanned q,
    ) in
    let sum : at + length (spellings Spanned (q ∷ ps))
    ≡ at + (5 + length q.bytes) + length (spellings Spanned ps) = omega (arith, long) in (
      all.0,
      segments_push block_len (at + (5 + length q.bytes)) ps p all.1
          (subst (λ (n : ℕ). IsSegment block_len n p) sum is),
    )
