-- Results of an `ImageReader`, and its states after them, that its contracts exclude: each is the
-- result of a wrong body, for `next` with the given bytes.
use Rattle.std.proofs.Common.{◌≡◌, ◌≤◌, ◌+◌, ℕ, List, [], ◌∷◌, ◌++◌, length, refl, subst}
use Rattle.std.proofs.Common.{arith, rules}
use Rattle.std.specs.Prelude.{Option, Some, Result, Ok, Err}
use Rattle.tape_image.specs.declared.item.Ending.TheVariants.{Physical}
use Rattle.tape_image.specs.declared.item.ImageCause.TheVariants.{Truncated, LengthsDiffer}
use Rattle.tape_image.specs.declared.item.ImageCause.TheVariants.{Reserved, TooLong, Device}
use Rattle.tape_image.specs.Tape.{TapeItem, block, bad, mark}
use Rattle.tape_image.specs.Begins.{image_limit, Stop, ends, faults, Stops, Begins, nothing}
use Rattle.tape_image.specs.Begins.{in_block, words_differ}
use Rattle.tape_image.specs.Step.{Meets, GivesItem, TakesItem, TakesFault}
use Rattle.tape_image.specs.{declared.item.Item.Item, declared.item.ImageCause.ImageCause}
use Rattle.tape_image.specs.{declared.item.ImageFault.ImageFault, Spelling.a_block, Spelling.a_gap}
use Rattle.tape_image.specs.{Reader.Reader, Reader.going, Reader.seen, Next.HasMoved}
use Rattle.tape_image.proofs.Walks.{Walks-nil, Walks-item, IfKnown-at}
use Rattle.tape_image.proofs.Callers.{walked_front, from_going}
use Rattle.tape_image.proofs.reader.ImageReader.new.Reads as new_reader
use Rattle.tape_image.proofs.reader.ImageReader.next.Reads as next

-- ---- readers and bytes

-- a reader in the state `going` at an offset, whose device has the bytes `left`
abbrev at : ℕ → List ℕ → ℕ → ℕ → Reader
at place left device room = record {
  place = place;
  left = Some left;
  status = going;
  device = device;
  room = room;
}

-- a fault at a place
abbrev fault : ℕ → ImageCause → ImageFault
fault place cause = record { place = place; cause = cause }

-- bytes that stop at once
at_once : (p : ℕ) (xs : List ℕ) (stop : Stop) → p ≤ image_limit → Stops p xs stop
    → Begins p xs [] p stop
at_once p xs stop near stops = search (arith, tt, Walks-nil)

-- the item that a call returned is the first of those that the bytes begin with
gives_first : (p : ℕ) (xs : List ℕ) (device room : ℕ) (old new : Reader)
    (result : Result (Option Item) ImageFault) (item : TapeItem) (items : List TapeItem) (end : ℕ)
    (stop : Stop) → HasMoved old result new → old ≡ at p xs device room
    → seen result ≡ Ok (Some item) → Begins p xs items end stop
    → (more : List TapeItem) × (items ≡ (item ∷ []) ++ more)
gives_first p xs device room old new result item items end stop h e w b =
    let here : Reader = at p xs device room in
    let moved : HasMoved here result new = subst (λ r. HasMoved r result new) e h in
    let gave : GivesItem here item new = subst (λ r. Meets here r new) w moved.answers in
    let (ys, there, takes) =
    IfKnown-at (Some xs) new.left (TakesItem p item new.place) xs refl gave.takes in
    let (more, same, _) = walked_front p xs ys (item ∷ []) items new.place end stop
    (Walks-item p new.place xs ys item takes) gave.within b in
    (more, same)

-- so no item is returned for bytes that begin with no item
gives_none : (p : ℕ) (xs : List ℕ) (device room : ℕ) (old new : Reader)
    (result : Result (Option Item) ImageFault) (item : TapeItem) (end : ℕ) (stop : Stop)
    → HasMoved old result new → old ≡ at p xs device room
    → seen result ≡ Ok (Some item) → Begins p xs [] end stop → ⊥
gives_none p xs device room old new result item end stop h e w b =
    let (more, same) = gives_first p xs device room old new result item [] end stop h e w b in
    absurd (cc same)

-- the bytes that a call read for the fault that it returned
takes_fault : (p : ℕ) (xs : List ℕ) (device room : ℕ) (old new : Reader)
    (result : Result (Option Item) ImageFault) (f : ImageFault) → HasMoved old result new
    → old ≡ at p xs device room → seen result ≡ Err f
    → (ys : List ℕ) × (new.left ≡ Some ys) × TakesFault p [] f xs ys
takes_fault p xs device room old new result f h e w = grind (arith, IfKnown-at)

-- the encoding of a block of one byte: its words, the byte and its pad byte
abbrev one_byte : List ℕ
one_byte = 1 ∷ 0 ∷ 0 ∷ 0 ∷ 7 ∷ 0 ∷ 1 ∷ 0 ∷ 0 ∷ 0 ∷ []

one_byte_begins : Begins 0 one_byte (block (7 ∷ []) ∷ []) 10 (ends Physical)
one_byte_begins = record {
  rest = [];
  walks = record {
    leads = record {
      spellings = record {
        bytes = one_byte;
        given = block (7 ∷ []) ∷ [];
        spelled = a_block 1 (7 ∷ []) refl (record {
          lead = 1 ∷ 0 ∷ 0 ∷ 0 ∷ [];
          pad = 0 ∷ [];
          trail = 1 ∷ 0 ∷ 0 ∷ 0 ∷ [];
          whole = refl;
          lead_is = record { four = refl; value = refl };
          pad_is = refl;
          trail_is = record { four = refl; value = refl };
        }) refl;
      } ∷ [];
      whole = refl;
      items_are = refl;
    };
    moves = refl;
  };
  within = omega arith;
  stops = nothing refl refl;
}

gap_begins : Begins 0 (254 ∷ 255 ∷ 255 ∷ 255 ∷ []) [] 4 (ends Physical)
gap_begins = record {
  rest = [];
  walks = record {
    leads = record {
      spellings = record {
        bytes = 254 ∷ 255 ∷ 255 ∷ 255 ∷ [];
        given = [];
        spelled = a_gap (record { four = refl; value = refl }) refl;
      } ∷ [];
      whole = refl;
      items_are = refl;
    };
    moves = refl;
  };
  within = omega arith;
  stops = nothing refl refl;
}

-- the number of bytes of the first item, if it is a block
abbrev first_length : List TapeItem → ℕ
first_length (block bytes ∷ items) = length bytes
first_length (bad ∷ items) = 0
first_length (mark ∷ items) = 0
first_length [] = 0

-- refused_buffer_told_as_device: a reader without memory reports that the device failed
refused_buffer_told_as_device : (T : _) (L : _) (g : _) (d : _) (κs : _) (a : _) (s : _)
    → new_reader.Learnt-named T L g d κs a (Err (record { place = 0; cause = Device })) s → ⊥
refused_buffer_told_as_device T L g d κs a s l = absurd (cc l.err.1)

-- ---- one call of `next`, for any reader of bytes

module _ (T : _) (L : _) (g : _) (d : _) (κs : _) (a : _) (z : _) (s : _)
    (h : next.tells T L g d κs a z s) (device room : ℕ) where
  abbrev new : Reader
  new = h.0.lender-at-none

  -- words_not_compared: a block is returned although its leading word is 1 and its trailing word 2
  words_not_compared : a.0.now ≡ at 0 (1 ∷ 0 ∷ 0 ∷ 0 ∷ 7 ∷ 0 ∷ 2 ∷ 0 ∷ 0 ∷ 0 ∷ []) device room
      → seen z ≡ Ok (Some (block (7 ∷ []))) → ⊥
  words_not_compared e w =
      let xs : List ℕ = 1 ∷ 0 ∷ 0 ∷ 0 ∷ 7 ∷ 0 ∷ 2 ∷ 0 ∷ 0 ∷ 0 ∷ [] in
      gives_none 0 xs device room a.0.now new z (block (7 ∷ [])) 0 (faults LengthsDiffer)
      h.0.holds-at-none e w
      (at_once 0 xs (faults LengthsDiffer) (omega arith)
      (words_differ (omega arith) 1 refl (omega arith) (omega arith)
      (λ same. let n : 2 ≡ 1 = same in omega arith) refl))

  -- bad_block_words_not_compared: a block recorded with an error is reported as bad although its
  -- trailing word differs
  bad_block_words_not_compared :
      a.0.now ≡ at 0 (1 ∷ 0 ∷ 0 ∷ 128 ∷ 7 ∷ 0 ∷ 1 ∷ 0 ∷ 0 ∷ 0 ∷ []) device room
      → seen z ≡ Ok (Some bad) → ⊥
  bad_block_words_not_compared e w =
      let xs : List ℕ = 1 ∷ 0 ∷ 0 ∷ 128 ∷ 7 ∷ 0 ∷ 1 ∷ 0 ∷ 0 ∷ 0 ∷ [] in
      gives_none 0 xs device room a.0.now new z bad 0 (faults LengthsDiffer)
      h.0.holds-at-none e w
      (at_once 0 xs (faults LengthsDiffer) (omega arith)
      (words_differ (omega arith) 1 refl (omega arith) (omega arith)
      (λ same. let n : 1 ≡ 2147483649 = same in omega arith) refl))

  -- block_before_trailing_word: a block is returned although the bytes end before its trailing word
  block_before_trailing_word : a.0.now ≡ at 0 (1 ∷ 0 ∷ 0 ∷ 0 ∷ 7 ∷ 0 ∷ []) device room
      → seen z ≡ Ok (Some (block (7 ∷ []))) → ⊥
  block_before_trailing_word e w =
      let xs : List ℕ = 1 ∷ 0 ∷ 0 ∷ 0 ∷ 7 ∷ 0 ∷ [] in
      gives_none 0 xs device room a.0.now new z (block (7 ∷ [])) 0 (faults Truncated)
      h.0.holds-at-none e w
      (at_once 0 xs (faults Truncated) (omega arith)
      (in_block (omega arith) 10 refl (omega arith) (omega arith) refl))

  -- gap_given_as_mark: an erase gap is returned as a mark
  gap_given_as_mark : a.0.now ≡ at 0 (254 ∷ 255 ∷ 255 ∷ 255 ∷ []) device room
      → seen z ≡ Ok (Some mark) → ⊥
  gap_given_as_mark e w = search (arith, tt, gives_none, gap_begins)

  -- block_lent_shifted: a block is lent without its first byte
  block_lent_shifted : a.0.now ≡ at 0 one_byte device room → seen z ≡ Ok (Some (block [])) → ⊥
  block_lent_shifted e w = grind (arith, gives_first, one_byte_begins)

  -- too_long_after_the_data: a block that would end past the limit is read whole before the fault
  too_long_after_the_data : a.0.now ≡ at 4294967290 one_byte device room
      → seen z ≡ Err (fault 4294967290 TooLong) → new.left ≡ Some [] → ⊥
  too_long_after_the_data e w none = search (rules, takes_fault)

  -- place_behind_the_fault: after the fault the reader's place is after the reserved word
  place_behind_the_fault : (p w : ℕ) → a.0.now.status ≡ going
      → seen z ≡ Err (fault p (Reserved w)) → new.place ≡ p + 4 → ⊥
  place_behind_the_fault p w on e far = grind (arith, from_going)

  -- memory_taken_at_each_call: a call doubles the buffer's capacity
  memory_taken_at_each_call : a.0.now.room ≡ 100000 → new.room ≡ 200000 → ⊥
  memory_taken_at_each_call e w = absurd (omega (arith, e, w, h.0.holds-at-none.same_room))
