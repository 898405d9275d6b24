-- A block's content and the bytes after it, read in one call.
use Rattle.std.proofs.Common.{◌≡◌, ℕ, ◌+◌, ◌-◌, ◌≤◌, ◌%◌, List, ◌++◌, length, take, drop, Option}
use Rattle.std.proofs.Common.{Some, None, refl, sym, ap, subst, ◌∙◌, arith, append_assoc}
use Rattle.std.proofs.lemmas.List.{length-take-le, take-append-drop, take-append-le, drop-append-le}
use Rattle.std.proofs.{Common.length-drop, lemmas.List.drop-drop}
use Rattle.std.specs.Io.KnownBytes.{Consumes}
use Rattle.byteorder.specs.{Endian.little_number, Numbers.little_from-take}
use Rattle.tape_image.specs.Device.{TakesRest}
use Rattle.tape_image.proofs.Words.{word-append}

-- the word after the pad bytes, as the code cuts it out
pub trail_word : (pads n : ℕ) (held more : List ℕ) → 4 ≤ n → length held ≡ pads + 4
    → little_number 4 (take n (drop pads (held ++ more))) ≡ little_number 4 (drop pads held)
trail_word pads n held more room long =
    little_from-take 0 4 n (drop pads (held ++ more)) room
    ∙ ap (little_number 4) (drop-append-le pads held more (omega arith))
    ∙ word-append (drop pads held) more (omega (arith, length-drop pads held))

-- bytes that were read at once were read in two consecutive pieces
two_pieces : (old new : Option (List ℕ)) (front back : List ℕ) → Consumes old new (front ++ back)
    → (mid : Option (List ℕ)) × Consumes old mid front × Consumes mid new back
two_pieces None new front back taken = (None, tt, tt)
two_pieces (Some xs) None front back taken = absurd taken
two_pieces (Some xs) (Some ys) front back taken =
    (Some (back ++ ys), taken ∙ append_assoc front back ys, refl)

-- content, pad byte and word read at once into the start of the buffer
pub rest_at_once : (old new : Option (List ℕ)) (w n end long v : ℕ) (held more : List ℕ)
    → Consumes old new held → length held ≡ end → end ≡ n + (n % 2 + 4) → 4 ≤ long
    → v ≡ little_number 4 (take long (drop (end - 4) (held ++ more)))
    → TakesRest old new w n (held ++ more) v
rest_at_once old new w n end long v held more taken is e room value =
    let behind = drop n held in
    let pads = n % 2 in
    let (mid, first, last) = two_pieces old new (take n held) behind
    (subst (Consumes old new) (sym (take-append-drop n held)) taken) in
    let size : length behind ≡ pads + 4 = omega (arith, length-drop n held, is, e) in
    let at : drop (end - 4) held ≡ drop pads behind =
    ap (λ k. drop k held) {x = end - 4} {y = n + pads} (omega (arith, e))
    ∙ sym (drop-drop pads n held) in (
      mid,
      record {
        content = take n held;
        taken = first;
        count = length-take-le n held (omega (arith, is, e));
        held = λ _. sym (take-append-le n held more (omega (arith, is, e)));
      },
      record {
        pad = take pads behind;
        trail = drop pads behind;
        taken = subst (Consumes mid new) (sym (take-append-drop pads behind)) last;
        pad_is = length-take-le pads behind (omega (arith, size));
        trail_is = grind (arith, pads, behind, size, trail_word);
      },
    )
