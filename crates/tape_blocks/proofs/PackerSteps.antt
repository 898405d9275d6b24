-- The invariants that the steps of a packer preserve, in the form that its proofs need.
use Rattle.std.proofs.Common.{◌≡◌, ◌≢◌, ℕ, ◌+◌, ◌-◌, ◌<◌, ◌≤◌, Bool, true, false, List, [], ◌∷◌}
use Rattle.std.proofs.Common.{◌++◌, length, take, replicate, refl, sym, ap, subst, ◌∙◌, arith}
use Rattle.std.proofs.lemmas.List.{length-take, length-replicate, take-take, take-append-le}
use Rattle.std.proofs.lemmas.List.{take-replicate, with_items_is}
use Rattle.std.specs.{Vec.with_items, declared.alloc.Global.Global, declared.vec.Vec.Vec}
use Rattle.tape_blocks.specs.Block.{Portion, head_len, spelling, IsUnit, Holds}
use Rattle.tape_blocks.specs.Packing.{Given, the_packing, IsWritable, size_of, written, padded_len}
use Rattle.tape_blocks.specs.{declared.parts.Shape.Shape, Packed.parts_in, Packed.Keeps}
use Rattle.tape_blocks.proofs.PackLaws.{keeps_len, keeps_front, keeps_more, parts_in_is, keeps_none}
use Rattle.tape_blocks.proofs.PackLaws.{some_size, none_size, offset_fits, padded_fits}
use Rattle.tape_blocks.proofs.PackLaws.{written_holds, standard_of, written_is, padded_size}

-- ---- the packer's own steps

pub packed_is : (shape : Shape) (items : List ℕ) (len : ℕ) (parts : List Portion)
    (begun closed : Bool) → Keeps shape items len parts
    → the_packing shape (parts_in shape items len) begun closed
    ≡ the_packing shape parts begun closed
packed_is shape items len parts begun closed k = grind (arith, parts_in_is)

pub first_keeps : (shape : Shape) (items : List ℕ) (n len : ℕ) → IsWritable shape
    → items ≡ replicate n 32
    → n ≡ shape.block_len → len ≡ shape.offset → Keeps shape items len []
first_keeps shape items n len w spaces size is =
    grind (arith, offset_fits, take-replicate, length-replicate, keeps_none)

pub put_keeps : (shape : Shape) (items more : List ℕ) (len last : ℕ) (parts : List Portion)
    (p : Portion)
    → Keeps shape items len parts → IsUnit shape.format shape.rec_len p
    → take last more ≡ take len items ++ spelling shape.format p → length more ≡ length items
    → last ≡ len + (head_len shape.format + length p.bytes) → length items ≡ shape.block_len
    → size_of shape parts + (head_len shape.format + length p.bytes) ≤ shape.block_len
    → Keeps shape more last (parts ++ p ∷ [])
put_keeps shape items more len last parts p k unit e same is size room =
    let sized = keeps_len shape items len parts k in
    let inside : last ≤ length more = omega (arith, is, sized, room, same, size) in
    let long : length (take last more) ≡ last = omega (arith, length-take last more, inside) in
    keeps_front shape more last last (parts ++ p ∷ []) (omega arith) inside
    (keeps_more shape items (take last more) len last parts p k unit e (sym long)
    (omega (arith, is, sized, room)))

pub push_some : (ps : List Portion) (p : Portion) → ps ++ p ∷ [] ≢ []
push_some [] p e = cc
push_some (q ∷ ps) p e = cc

pub keeps_some : (shape : Shape) (items : List ℕ) (len : ℕ) (parts : List Portion)
    → Keeps shape items len parts → parts ≢ [] → shape.offset < len
keeps_some shape items len parts k some = grind (arith, keeps_len, some_size)

pub keeps_nothing : (shape : Shape) (items : List ℕ) (len : ℕ) (parts : List Portion)
    → Keeps shape items len parts → len ≡ shape.offset → parts ≡ []
keeps_nothing shape items len parts k e = grind (arith, none_size, keeps_len)

pub keeps_none_len : (shape : Shape) (items : List ℕ) (len : ℕ) (parts : List Portion)
    → Keeps shape items len parts → parts ≡ [] → len ≡ shape.offset
keeps_none_len shape items len parts k e =
    keeps_len shape items len parts k ∙ ap (size_of shape) e ∙ omega arith

pub not_closed : (b : Bool) → (b ≡ true → ⊥) → b ≡ false
not_closed true h = absurd (h refl)
not_closed false h = refl

pub given_is : (shape : Shape) (items text : List ℕ) (len last : ℕ) (parts : List Portion)
    (begun closed : Bool) → IsWritable shape
    → Keeps shape items len parts → last ≡ padded_len shape len
    → text ≡ take len items ++ replicate (last - len) 94
    → len ≢ shape.offset → Given (the_packing shape parts begun closed) text
given_is shape items text len last parts begun closed w k is e some =
    let whole : text ≡ written shape parts = written_is shape items text len last parts k is e in
    let sized = keeps_len shape items len parts k in
    let fits = padded_fits shape (size_of shape parts) w (omega (arith, sized, k.within)) in
    let long : length text ≡ padded_len shape (size_of shape parts) =
    ap length whole ∙ padded_size shape parts fits.0 in
    let held : parts ≢ [] = λ none. some (sized ∙ ap (size_of shape) none ∙ omega arith) in
    record {
      holds = subst (λ (s : List ℕ). Holds shape.format shape.rec_len shape.offset s parts)
          (sym whole) (written_holds shape parts k.units (standard_of shape w));
      text_is = whole;
      within = omega (arith, long, fits.1);
      some_bytes = omega (arith, long, fits.0, some_size shape parts k.units held);
      some = held;
    }

-- the vector after all its elements were lent and overwritten
pub written_in : (block : Vec ℕ Global) (lent more : List ℕ) → lent ≡ block.items
    → length more ≡ length lent
    → (with_items block more).items ≡ more
written_in block lent more same size = grind (arith, with_items_is)

-- padding after the end of the current block
pub padded_in : (block : Vec ℕ Global) (lent more : List ℕ) (len last : ℕ) → lent ≡ block.items
    → length more ≡ length lent
    → take last more ≡ take len lent ++ replicate (last - len) 94
    → take last (with_items block more).items ≡ take len block.items ++ replicate (last - len) 94
padded_in block lent more len last same size e = grind (arith, written_in)

-- the spaces before a block that was taken
pub given_keeps : (shape : Shape) (block : Vec ℕ Global) (lent more : List ℕ)
    (len last n : ℕ) (parts : List Portion) → IsWritable shape
    → Keeps shape block.items len parts → block.len ≡ shape.block_len → lent ≡ block.items
    → length more ≡ length lent
    → last ≡ padded_len shape len → take last more ≡ take len lent ++ replicate (last - len) 94
    → n ≡ shape.offset
    → Keeps shape (with_items block more).items n []
given_keeps shape block lent more len last n parts w k full same size is e at =
    let padded = (with_items block more).items in
    let fits = padded_fits shape len w k.within in
    let long : length padded ≡ shape.block_len = omega (
      arith,
      ap length (written_in block lent more same size),
      size,
      ap length same,
      block.ok,
      full,
    ) in
    let room : shape.offset ≤ length (take len block.items) =
    omega (arith, length-take len block.items, k.begins, k.inside) in
    let front : take shape.offset padded ≡ replicate shape.offset 32 =
    sym (take-take shape.offset last padded (omega (arith, k.begins, is, fits.0)))
    ∙ ap (take shape.offset) (padded_in block lent more len last same size e)
    ∙ take-append-le shape.offset (take len block.items) (replicate (last - len) 94) room
    ∙ take-take shape.offset len block.items k.begins ∙ k.front in
    subst (λ (m : ℕ). Keeps shape padded m []) (sym at)
    (keeps_none shape padded front (omega (arith, long, offset_fits shape w)) (offset_fits shape w))
