-- One more record of a list.
use Rattle.std.proofs.Common.{◌≡◌, ℕ, ◌+◌, ◌<◌, List, [], ◌∷◌, ◌++◌, take, drop, length, get_or}
use Rattle.std.proofs.Common.{refl, sym, ap, subst, ◌∙◌, arith}
use Rattle.std.specs.declared.alloc.Global.{Global}
use Rattle.std.specs.declared.vec.Vec.{Vec}
use Rattle.std.specs.List.{Contains}
use Rattle.std.proofs.lemmas.List.{take-append-drop, take_more, map-append}
use Rattle.std.proofs.lemmas.List.Elements.{Contains-append_left, Contains-append_right}
use Rattle.tape_blocks.specs.declared.offer.PackFault.{PackFault}
use Rattle.tape_blocks.specs.declared.offer.PackFault.TheVariants.{RecordLength, ShapeRange}
use Rattle.tape_blocks.specs.declared.offer.PackFault.TheVariants.{OutOfMemory}
use Rattle.tape_blocks.specs.declared.parts.Shape.{Shape}
use Rattle.tape_blocks.specs.Packing.{IsWritable, HasRecordLength}
use Rattle.tape_blocks_tests.specs.Records.{contents, IsRefusedFor, IsRefusedOne}
use Rattle.tape_blocks.specs.Records.{AreRecordsOf}

pub one_more : (vs : List (Vec ℕ Global)) (i : ℕ) (v : Vec ℕ Global) → i < length vs
    → v ≡ get_or vs i v → contents (take (i + 1) vs) ≡ contents (take i vs) ++ v.items ∷ []
one_more vs i v lt is = ap contents (take_more vs i v lt)
    ∙ map-append (λ (x : Vec ℕ Global). x.items) (take i vs) (get_or vs i v ∷ [])
    ∙ ap (λ (x : Vec ℕ Global). contents (take i vs) ++ x.items ∷ []) (sym is)

pub lengths_push : (shape : Shape) (rs : List (List ℕ)) (r : List ℕ) → AreRecordsOf shape rs
    → HasRecordLength shape.format shape.rec_len (length r) → AreRecordsOf shape (rs ++ r ∷ [])
lengths_push shape [] r all is = (is, tt)
lengths_push shape (x ∷ rs) r all is = (all.0, lengths_push shape rs r all.1 is)

pub has_record : (vs : List (Vec ℕ Global)) (i : ℕ) (r : List ℕ)
    → contents (take (i + 1) vs) ≡ contents (take i vs) ++ r ∷ [] → Contains (contents vs) r
has_record vs i r e =
    let whole : contents vs ≡ contents (take (i + 1) vs) ++ contents (drop (i + 1) vs) =
    ap contents (sym (take-append-drop (i + 1) vs))
    ∙ map-append (λ (x : Vec ℕ Global). x.items) (take (i + 1) vs) (drop (i + 1) vs) in
    let one : Contains (r ∷ []) r = (0, omega arith, refl) in
    let front : Contains (contents (take (i + 1) vs)) r =
    subst (λ (rs : List (List ℕ)). Contains rs r) (sym e)
    (Contains-append_right (contents (take i vs)) (r ∷ []) r one) in
    subst (λ (rs : List (List ℕ)). Contains rs r) (sym whole)
    (Contains-append_left (contents (take (i + 1) vs)) (contents (drop (i + 1) vs)) r front)

-- If one of the records is refused, the list is refused.
pub refused_for : (e : PackFault) (shape : Shape) (records : List (List ℕ)) (r : List ℕ)
    → IsWritable shape → Contains records r → IsRefusedOne shape r e
    → IsRefusedFor shape records e
refused_for RecordLength shape records r writable there is = (writable, (r, there, is))
refused_for ShapeRange shape records r writable there is = absurd is
refused_for OutOfMemory shape records r writable there is = writable
