-- The parts that the bytes of a current block represent, and writing after them.
use Rattle.std.proofs.Common.{◌≡◌, ◌≢◌, ℕ, zero, suc, ◌+◌, ◌-◌, ◌<◌, ◌≤◌, Bool, true, false, List}
use Rattle.std.proofs.Common.{[], ◌∷◌, ◌++◌, length, take, drop, replicate, max, not, ◌==◌, None}
use Rattle.std.proofs.lemmas.List.{length-drop, length-take, length-replicate, take-take}
use Rattle.std.proofs.lemmas.List.{take-append-drop, take_all, drop_all, drop_at, take-append-le}
use Rattle.std.proofs.Common.{refl, sym, ap, ◌∙◌, append_assoc, arith, length-append}
use Rattle.std.proofs.{lemmas.List.drop-append-le, lemmas.List.append-nil, lemmas.Bool.le-ltb}
use Rattle.std.proofs.lemmas.List.Concat.{flat_map-cons}
use Rattle.std.specs.List.{AllByRecursion, position_or_len}
use Rattle.tape_label.specs.declared.values.Format.{Format}
use Rattle.tape_label.specs.declared.values.Format.TheVariants.{Fixed, Counted, Spanned}
use Rattle.tape_label.specs.declared.values.Format.TheVariants.{Undefined, Variable}
use Rattle.tape_blocks.specs.Block.{Portion, head_len, spelling, spellings, IsUnit, IsPadding}
use Rattle.tape_blocks.specs.Packing.{IsWritable, HasWritableRecords, size_of, written, padded_by}
use Rattle.tape_blocks.specs.{declared.parts.Shape.Shape, Block.first_other, Block.Holds}
use Rattle.tape_blocks.specs.Block.{HoldsUnits}
use Rattle.tape_label.specs.Formats.{is_standard}
use Rattle.tape_blocks.proofs.OwnLaws.{as_standard}
use Rattle.tape_blocks.specs.{Packed.body_of, Packed.parts_in, Packed.Keeps, Packing.padded_len}
use Rattle.tape_blocks.proofs.FrontLaws.{all_append, spellings_push}
use Rattle.tape_blocks.proofs.{PartsLaws.parts_are, PartsLaws.unit_size, UnitLaws.length-spelling}

-- ---- the current block

pub keeps_len : (shape : Shape) (items : List ℕ) (len : ℕ) (parts : List Portion)
    → Keeps shape items len parts → len ≡ size_of shape parts
keeps_len shape items len parts k = grind (arith, length-drop, length-take)

pub keeps_text : (shape : Shape) (items : List ℕ) (len : ℕ) (parts : List Portion)
    → Keeps shape items len parts
    → take len items ≡ replicate shape.offset 32 ++ spellings shape.format parts
keeps_text shape items len parts k =
    sym (take-append-drop shape.offset (take len items))
    ∙ ap (λ (s : List ℕ). s ++ body_of shape items len) (take-take shape.offset len items k.begins
    ∙ k.front)
    ∙ ap (λ (s : List ℕ). replicate shape.offset 32 ++ s) k.body

pub size_push : (shape : Shape) (ps : List Portion) (p : Portion)
    → size_of shape (ps ++ p ∷ []) ≡ size_of shape ps + (head_len shape.format + length p.bytes)
size_push shape ps p = grind (arith, spellings_push, length-append, length-spelling)

-- bytes after the current block do not matter
pub keeps_front : (shape : Shape) (items : List ℕ) (m len : ℕ) (parts : List Portion) → len ≤ m
    → m ≤ length items
    → Keeps shape (take m items) len parts → Keeps shape items len parts
keeps_front shape items m len parts le inside k = grind (arith, take-take)

pub keeps_more : (shape : Shape) (items more : List ℕ) (len last : ℕ) (parts : List Portion)
    (p : Portion) → Keeps shape items len parts → IsUnit shape.format shape.rec_len p
    → more ≡ take len items ++ spelling shape.format p → last ≡ length more → last ≤ shape.block_len
    → Keeps shape more last (parts ++ p ∷ [])
keeps_more shape items more len last parts p k unit e is within =
    grind (
      arith,
      length-take,
      take_all,
      length-append,
      take-append-le,
      take-take,
      all_append,
      drop-append-le,
      spellings_push,
    )

no_padding : (format : Format) (rec_len : ℕ) → (format ≡ Fixed → 1 ≤ rec_len)
    → IsPadding format rec_len []
no_padding Fixed rec_len some = (refl, omega (arith, some refl))
no_padding Counted rec_len some = refl
no_padding Spanned rec_len some = refl
no_padding Undefined rec_len some = refl
no_padding Variable rec_len some = refl

pub parts_in_is : (shape : Shape) (items : List ℕ) (len : ℕ) (parts : List Portion)
    → Keeps shape items len parts → parts_in shape items len ≡ parts
parts_in_is shape items len parts k =
    parts_are shape.format shape.rec_len parts (body_of shape items len) [] k.units
    (no_padding shape.format shape.rec_len shape.some_record)
    (k.body ∙ sym (append-nil (spellings shape.format parts)))

-- the current block contains the parts that are read from it
pub keeps_itself : (shape : Shape) (items : List ℕ) (len : ℕ) (parts : List Portion)
    → Keeps shape items len parts → Keeps shape items len (parts_in shape items len)
keeps_itself shape items len parts k = grind (arith, parts_in_is)

pub keeps_none : (shape : Shape) (items : List ℕ)
    → take shape.offset items ≡ replicate shape.offset 32 → shape.offset ≤ length items
    → shape.offset ≤ shape.block_len → Keeps shape items shape.offset []
keeps_none shape items front inside within = grind (arith, drop_all, length-take)

-- ---- parts and their size

pub some_size : (shape : Shape) (parts : List Portion)
    → AllByRecursion (IsUnit shape.format shape.rec_len) parts → parts ≢ []
    → shape.offset < size_of shape parts
some_size shape [] all some = absurd (some refl)
some_size shape (p ∷ ps) all some =
    grind (arith, flat_map-cons, length-append, length-spelling, unit_size)

pub none_size : (shape : Shape) (parts : List Portion)
    → AllByRecursion (IsUnit shape.format shape.rec_len) parts → size_of shape parts ≡ shape.offset
    → parts ≡ []
none_size shape [] all e = refl
none_size shape (p ∷ ps) all e =
    grind (arith, flat_map-cons, length-append, length-spelling, unit_size)

-- ---- shapes

writable_offset : (format : Format) (rec_len block_len offset : ℕ) (pad_full : Bool)
    → HasWritableRecords format rec_len block_len offset pad_full → offset ≤ block_len
writable_offset Fixed rec_len block_len offset pad_full w = omega (arith, w.1)
writable_offset Counted rec_len block_len offset pad_full w = omega (arith, w.2)
writable_offset Spanned rec_len block_len offset pad_full w = omega (arith, w.2)
writable_offset Undefined rec_len block_len offset pad_full w = absurd w
writable_offset Variable rec_len block_len offset pad_full w = absurd w

pub offset_fits : (shape : Shape) → IsWritable shape → shape.offset ≤ shape.block_len
offset_fits shape w = grind (arith, writable_offset)

-- ---- padding

padded_cases : (format : Format) (pad_full : Bool) (block_len n : ℕ) → 18 ≤ block_len
    → n ≤ block_len → (n ≤ padded_by format pad_full block_len n)
    × (padded_by format pad_full block_len n ≤ block_len)
padded_cases Fixed pad_full block_len n least le = (omega arith, le)
padded_cases Counted true block_len n least le = (le, omega arith)
padded_cases Counted false block_len n least le = (omega arith, omega arith)
padded_cases Spanned pad_full block_len n least le = (omega arith, omega arith)
padded_cases Undefined pad_full block_len n least le = (omega arith, le)
padded_cases Variable pad_full block_len n least le = (omega arith, le)

pub padded_fits : (shape : Shape) (n : ℕ) → IsWritable shape → n ≤ shape.block_len
    → (n ≤ padded_len shape n) × (padded_len shape n ≤ shape.block_len)
padded_fits shape n w le = padded_cases shape.format shape.pad_full shape.block_len n w.least le

all_circumflexes : (n : ℕ) → position_or_len (λ c. not (c == 94)) (replicate n 94) ≡ n
all_circumflexes zero = refl
all_circumflexes (suc n) = omega (arith, all_circumflexes n)

circumflexes : (n : ℕ) → first_other (replicate n 94) ≡ None
circumflexes n = grind (arith, le-ltb, all_circumflexes, length-replicate)

is_padding : (format : Format) (pad_full : Bool) (rec_len block_len n : ℕ)
    → (format ≡ Fixed → 1 ≤ rec_len)
    → IsPadding format rec_len (replicate (padded_by format pad_full block_len n - n) 94)
is_padding Fixed pad_full rec_len block_len n some = grind (arith, circumflexes)
is_padding Counted pad_full rec_len block_len n some = grind (arith, circumflexes)
is_padding Spanned pad_full rec_len block_len n some = circumflexes (max n 18 - n)
is_padding Undefined pad_full rec_len block_len n some =
    let z : n - n ≡ 0 = omega arith in rw z refl
is_padding Variable pad_full rec_len block_len n some =
    let z : n - n ≡ 0 = omega arith in rw z refl

written_units : (shape : Shape) (parts : List Portion)
    → AllByRecursion (IsUnit shape.format shape.rec_len) parts
    → HoldsUnits shape.format shape.rec_len shape.offset (written shape parts) parts
written_units shape parts all =
    let padding = replicate (padded_len shape (size_of shape parts) - size_of shape parts) 94 in
    let spaces = replicate shape.offset 32 in
    let split : written shape parts ≡ spaces ++ (spellings shape.format parts ++ padding) =
    append_assoc spaces (spellings shape.format parts) padding in
    let long : length (written shape parts)
    ≡ shape.offset + length (spellings shape.format parts ++ padding) =
    ap length split ∙ omega (
      arith,
      length-append spaces (spellings shape.format parts ++ padding),
      length-replicate {A = ℕ} shape.offset 32,
    ) in (
      padding,
      record {
        reaches = omega (arith, long);
        units = all;
        body = ap (drop shape.offset) split ∙ drop_at spaces (spellings shape.format parts
            ++ padding) shape.offset (length-replicate {A = ℕ} shape.offset 32);
      },
      is_padding shape.format shape.pad_full shape.rec_len shape.block_len
          (size_of shape parts) shape.some_record,
    )

pub written_holds : (shape : Shape) (parts : List Portion)
    → AllByRecursion (IsUnit shape.format shape.rec_len) parts → is_standard shape.format ≡ true
    → Holds shape.format shape.rec_len shape.offset (written shape parts) parts
written_holds shape parts all standard =
    as_standard shape.format shape.rec_len shape.offset (written shape parts) parts standard
    (written_units shape parts all)

-- shapes that can be written have one of the formats of ECMA-13
writable_standard : (format : Format) (rec_len block_len offset : ℕ) (pad_full : Bool)
    → HasWritableRecords format rec_len block_len offset pad_full → is_standard format ≡ true
writable_standard Fixed rec_len block_len offset pad_full w = refl
writable_standard Counted rec_len block_len offset pad_full w = refl
writable_standard Spanned rec_len block_len offset pad_full w = refl
writable_standard Undefined rec_len block_len offset pad_full w = absurd w
writable_standard Variable rec_len block_len offset pad_full w = absurd w

pub standard_of : (shape : Shape) → IsWritable shape → is_standard shape.format ≡ true
standard_of shape w =
    writable_standard shape.format shape.rec_len shape.block_len shape.offset shape.pad_full w.units

-- the block that is taken
pub written_is : (shape : Shape) (items text : List ℕ) (len last : ℕ) (parts : List Portion)
    → Keeps shape items len parts
    → last ≡ padded_len shape len → text ≡ take len items ++ replicate (last - len) 94
    → text ≡ written shape parts
written_is shape items text len last parts k is e = grind (arith, keeps_len, keeps_text)

pub padded_size : (shape : Shape) (parts : List Portion)
    → size_of shape parts ≤ padded_len shape (size_of shape parts)
    → length (written shape parts) ≡ padded_len shape (size_of shape parts)
padded_size shape parts le = grind (arith, length-append, length-replicate)
