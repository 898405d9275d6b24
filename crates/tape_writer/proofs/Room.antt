-- Each record uses up room of the writer.
use Rattle.tape_writer.proofs.Words.{◌≡◌, inl, inr, ℕ, ◌+◌, ◌-◌, ◌<◌, ◌≤◌, List, [], ◌∷◌, ◌++◌}
use Rattle.tape_writer.proofs.Words.{length, Bool, true, false, refl, sym, ap, ◌∙◌, arith}
use Rattle.tape_writer.proofs.Words.{length-append, block, Format, Shape, Portion, Packing, Given}
use Rattle.tape_writer.proofs.Words.{IsJudged, IsWritable, HasRecordLength, Offers, emptied}
use Rattle.tape_writer.proofs.Words.{item_size, suc, ◌⊎◌}
use Rattle.std.proofs.{Common.◌*◌, Common.replicate, lemmas.List.length-replicate, Math.Nat.suc-mul}
use Rattle.tape_label.specs.declared.values.Format.TheVariants.{Fixed, Counted, Spanned}
use Rattle.tape_label.specs.declared.values.Format.TheVariants.{Undefined, Variable}
use Rattle.tape_blocks.specs.declared.offer.Offer.TheVariants.{Taken, BlockReady}
use Rattle.tape_blocks.specs.{Block.spellings, Block.head_len, Spans.span_of}
use Rattle.tape_blocks.specs.Packing.{HasWritableRecords, size_of, padded_len}
use Rattle.tape_blocks.proofs.PackLaws.{size_push}
use Rattle.tape_writer.specs.{declared.course.Course.Course}
use Rattle.tape_writer.specs.{Draft.changed_course, Room.room_of}
use Rattle.tape_writer.proofs.Drafts.{added_course}

-- a block is at least as long as its parts
given_size : (p : Packing) (text : List ℕ) → Given p text → size_of p.shape p.parts ≤ length text
given_size p text given =
    let front : List ℕ = replicate p.shape.offset 32 in
    let units : List ℕ = spellings p.shape.format p.parts in
    let padding : List ℕ =
    replicate (padded_len p.shape (size_of p.shape p.parts) - size_of p.shape p.parts) 94 in
    let long = ap length given.text_is in
    omega (
      arith,
      long,
      length-append (front ++ units) padding,
      length-append front units,
      length-replicate {A = ℕ} p.shape.offset 32,
    )

-- writing a block uses up room, in the current section or on the next volume
pub flushed_room : (vs cap : ℕ) (old mid new : Course) (p q : Packing) (text : List ℕ)
    → Given p text → q ≡ emptied p
    → (mid ≡ old) ⊎ ((mid ≡ changed_course old) × (old.volume < vs))
    → mid.used + item_size (block text) + 192 ≤ cap
    → new ≡ added_course mid (item_size (block text))
    → room_of vs cap new q ≤ room_of vs cap old p
flushed_room vs cap old mid new p q text given is (inl same) fits course =
    let all : new ≡ added_course old (item_size (block text)) =
    course ∙ ap (λ k. added_course k (item_size (block text))) same in
    rw (is, all) (omega (arith, fits, ap (λ k. k.used) same, given_size p text given, given.within))
flushed_room vs cap old mid new p q text given is (inr (changed, more)) fits course =
    let all : new ≡ added_course (changed_course old) (item_size (block text)) =
    course ∙ ap (λ k. added_course k (item_size (block text))) changed in
    let m = cap + p.shape.block_len in
    let volumes : vs - old.volume ≡ suc (vs - (old.volume + 1)) = omega (arith, more) in
    let product : (vs - old.volume) * m ≡ (vs - (old.volume + 1)) * m + m =
    ap (λ k. k * m) volumes ∙ suc-mul (vs - (old.volume + 1)) m in
    rw (is, all) (omega (
      arith,
      product,
      fits,
      ap (λ k. k.used) changed,
      given_size p text given,
      given.within,
    ))

-- an offer that closes the block does not increase the room
pub offered_room : (vs cap : ℕ) (course : Course) (p q : Packing) (rest : List ℕ) (n : ℕ)
    → Offers p rest (BlockReady n) q → room_of vs cap course q ≤ room_of vs cap course p
offered_room vs cap course p q rest n (some, inl closed) =
    let same : room_of vs cap course q ≡ room_of vs cap course p =
    ap (room_of vs cap course) closed.same in
    omega (arith, same)
offered_room vs cap course p q rest n (some, inr (inl full)) =
    let same : room_of vs cap course q ≡ room_of vs cap course p =
    ap (room_of vs cap course) full.same in
    omega (arith, same)
offered_room vs cap course p q rest n (some, inr (inr fills)) =
    let shape : q.shape ≡ p.shape = ap (λ z. z.shape) fills.part in
    let length_is : q.shape.block_len ≡ p.shape.block_len = ap (λ s. s.block_len) shape in
    let product : (vs - course.volume) * (cap + q.shape.block_len)
    ≡ (vs - course.volume) * (cap + p.shape.block_len) =
    ap (λ l. (vs - course.volume) * (cap + l)) length_is in
    omega (arith, product, fills.filled)

-- a unit has at least one byte
unit_some : (format : Format) (rec_len block_len offset n : ℕ) (pad begun : Bool)
    → HasWritableRecords format rec_len block_len offset pad → (begun ≡ true → format ≡ Spanned)
    → (begun ≡ false → HasRecordLength format rec_len n) → 0 < head_len format + n
unit_some Fixed rec_len block_len offset n pad true w spanned judged =
    absurd (let e = spanned refl in cc)
unit_some Fixed rec_len block_len offset n pad false w spanned judged =
    omega (arith, w.0, judged refl)
unit_some Counted rec_len block_len offset n pad begun w spanned judged = omega arith
unit_some Spanned rec_len block_len offset n pad begun w spanned judged = omega arith
unit_some Undefined rec_len block_len offset n pad begun w spanned judged = absurd w
unit_some Variable rec_len block_len offset n pad begun w spanned judged = absurd w

-- an offer that accepts the rest of a record uses up room
pub taken_room : (vs cap : ℕ) (course : Course) (p q : Packing) (rest : List ℕ)
    → IsWritable p.shape → (p.begun ≡ true → p.shape.format ≡ Spanned) → IsJudged p rest
    → Offers p rest Taken q → room_of vs cap course q < room_of vs cap course p
taken_room vs cap course p q rest w spanned judged ends =
    let x : Portion = record { span = span_of p.begun false; bytes = rest } in
    let some : 0 < head_len p.shape.format + length rest =
    unit_some p.shape.format p.shape.rec_len p.shape.block_len p.shape.offset (length rest)
    p.shape.pad_full p.begun w.units spanned (λ e. judged ends.opened e) in
    let size : size_of q.shape q.parts ≡ size_of p.shape (p.parts ++ x ∷ []) =
    ap (λ z. size_of z.shape z.parts) ends.part in
    let length_is : q.shape.block_len ≡ p.shape.block_len = ap (λ z. z.shape.block_len) ends.part in
    let product : (vs - course.volume) * (cap + q.shape.block_len)
    ≡ (vs - course.volume) * (cap + p.shape.block_len) =
    ap (λ l. (vs - course.volume) * (cap + l)) length_is in
    omega (arith, product, size, size_push p.shape p.parts x, some, ends.within, length_is)

-- a record can be unfinished only in format S
pub begun_spanned : (shape : Shape) (p q r : Packing) (rest : List ℕ) (n : ℕ) → p.shape ≡ shape
    → p.closed ≡ false → (p.begun ≡ true → shape.format ≡ Spanned)
    → Offers p rest (BlockReady n) q → r ≡ emptied q → r.begun ≡ true → shape.format ≡ Spanned
begun_spanned shape p q r rest n same opened spanned (some, inl closed) is begun =
    absurd (let e = closed.closed in cc)
begun_spanned shape p q r rest n same opened spanned (some, inr (inl full)) is begun =
    spanned (sym (ap (λ z. z.begun) full.same) ∙ sym (ap (λ z. z.begun) is) ∙ begun)
begun_spanned shape p q r rest n same opened spanned (some, inr (inr fills)) is begun =
    ap (λ s. s.format) (sym same) ∙ fills.spanned
