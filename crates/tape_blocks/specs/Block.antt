-- The contents of a block of a labelled tape: the buffer offset, the units of parts, and then
-- padding.
use Rattle.std.specs.Prelude.{◌≡◌, ℕ, ◌+◌, ◌*◌, ◌/◌, ◌%◌, ◌<◌, ◌≤◌, ◌==◌, ◌-◌, ◌&&◌, nat_le, nat_lt}
use Rattle.std.specs.Prelude.{Bool, max, not, List, [], ◌∷◌, ◌++◌, length, drop}
use Rattle.std.specs.Prelude.{Option, Some, None, if◌then◌else◌, slice_index}
use Rattle.std.specs.List.{position, flat_map, AllByRecursion}
use Rattle.tape_label.specs.{Digits.digits, declared.values.Format.Format}
use Rattle.tape_label.specs.declared.values.Format.TheVariants.{Fixed, Counted, Spanned}
use Rattle.tape_label.specs.declared.values.Format.TheVariants.{Undefined, Variable}
use Rattle.tape_blocks.specs.declared.parts.Span.{Span}
use Rattle.tape_blocks.specs.declared.parts.Span.TheVariants.{Whole, First, Middle, Last}

-- a part: a record or a segment of a record, without the address of its bytes
pub record Portion : Type 0 where
  pub span : Span
  pub bytes : List ℕ

-- ---- the encoding of a part

-- the indicator of each span: the digits 0 to 3
abbrev pub indicator : Span → ℕ
indicator Whole = 48
indicator First = 49
indicator Middle = 50
indicator Last = 51

-- the span with the given indicator, or `None`
abbrev pub span_by : ℕ → Option Span
span_by c =
    if c == 48 then Some Whole
    else (if c == 49 then Some First
    else (if c == 50 then Some Middle else (if c == 51 then Some Last else None)))

-- the code of each span in a record descriptor word, the head of a unit of format V
abbrev pub code : Span → ℕ
code Whole = 0
code First = 1
code Last = 2
code Middle = 3

-- the span with the given code in a record descriptor word whose last byte is `last`, or `None`;
-- that byte must be 0
abbrev pub span_coded : ℕ → ℕ → Option Span
span_coded c last =
    if not (last == 0) then None
    else (if c == 0 then Some Whole
    else (if c == 1 then Some First
    else (if c == 2 then Some Last else (if c == 3 then Some Middle else None))))

-- the number of characters before a part's content
abbrev pub head_len : Format → ℕ
head_len Fixed = 0
head_len Counted = 4
head_len Spanned = 5
head_len Undefined = 0
head_len Variable = 4

-- the characters before a part's content: nothing, a four-digit count of the whole unit, an
-- indicator and such a count, or in V a record descriptor word: the length of the whole unit in two
-- bytes, the most significant first, the code of the span, and 0
abbrev pub head : Format → Portion → List ℕ
head Fixed p = []
head Counted p = digits 4 (4 + length p.bytes)
head Spanned p = indicator p.span ∷ digits 4 (5 + length p.bytes)
head Undefined p = []
head Variable p =
    (4 + length p.bytes) / 256 ∷ (4 + length p.bytes) % 256 ∷ code p.span ∷ 0 ∷ []

-- the unit of a part
abbrev pub spelling : Format → Portion → List ℕ
spelling format p = head format p ++ p.bytes

-- the units of parts, one after another
abbrev pub spellings : Format → List Portion → List ℕ
spellings format parts = flat_map (spelling format) parts

-- a part that the format can encode: in F a whole record of exactly `rec_len` bytes; in D a whole
-- record, and in S any part, if the length of the unit has at most four digits; in U a whole record
-- of `rec_len` bytes, or of one byte if `rec_len` is 0; in V any part, if the length of the unit
-- fits in two bytes
abbrev pub IsUnit : Format → ℕ → Portion → Type 0
IsUnit Fixed rec_len p = (p.span ≡ Whole) × (length p.bytes ≡ rec_len)
IsUnit Counted rec_len p = (p.span ≡ Whole) × (4 + length p.bytes < 10000)
IsUnit Spanned rec_len p = 5 + length p.bytes < 10000
IsUnit Undefined rec_len p = (p.span ≡ Whole) × (length p.bytes ≡ max 1 rec_len)
IsUnit Variable rec_len p = 4 + length p.bytes < 65536

-- ---- padding

-- the index of the first byte that is not a circumflex, or `None`
abbrev pub first_other : List ℕ → Option ℕ
first_other bytes = position (λ c. not (c == 94)) bytes

-- circumflexes, in format F fewer than the length of a record; in U and V there is no padding
abbrev pub IsPadding : Format → ℕ → List ℕ → Type 0
IsPadding Fixed rec_len bytes = (first_other bytes ≡ None) × (length bytes < rec_len)
IsPadding Counted rec_len bytes = first_other bytes ≡ None
IsPadding Spanned rec_len bytes = first_other bytes ≡ None
IsPadding Undefined rec_len bytes = bytes ≡ []
IsPadding Variable rec_len bytes = bytes ≡ []

-- ---- blocks

-- the offset is followed by the units of the given parts, and then by `rest`
pub record BeginsWith (format : Format) (rec_len offset : ℕ) (block : List ℕ)
    (parts : List Portion) (rest : List ℕ) : Type 0 where
  pub reaches : offset ≤ length block
  pub units : AllByRecursion (IsUnit format rec_len) parts
  pub body : drop offset block ≡ spellings format parts ++ rest

-- the offset is followed by the units of the given parts, in order, and then by padding to the end
-- of the block
abbrev pub HoldsUnits : Format → ℕ → ℕ → List ℕ → List Portion → Type 0
HoldsUnits format rec_len offset block parts =
    (padding : List ℕ)
    × BeginsWith format rec_len offset block parts padding × IsPadding format rec_len padding

-- ---- what a block says of its own units

-- the length of a record: in format U of all bytes after the offset, which are the only record
abbrev pub own_len : Format → ℕ → ℕ → List ℕ → ℕ
own_len Fixed rec_len offset block = rec_len
own_len Counted rec_len offset block = rec_len
own_len Spanned rec_len offset block = rec_len
own_len Undefined rec_len offset block = length block - offset
own_len Variable rec_len offset block = rec_len

-- whether the bytes begin with a block descriptor word that gives their number: in its first two
-- bytes, if the other two are 0, or, if the first bit of the four is set, in the other 31 bits
unfoldable pub is_described : List ℕ → Bool
is_described bytes =
    let a = slice_index bytes 0 in let b = slice_index bytes 1 in
    let c = slice_index bytes 2 in let d = slice_index bytes 3 in
    nat_le 4 (length bytes)
    && (if nat_lt a 128 then (a * 256 + b == length bytes) && (c == 0) && (d == 0)
    else (((a - 128) * 256 + b) * 256 + c) * 256 + d == length bytes)

-- the offset at which the units begin: in format V after the block descriptor word; if this word is
-- missing or wrong, more than the length of the block, which then contains no list of parts
abbrev pub own_offset : Format → ℕ → List ℕ → ℕ
own_offset Fixed offset block = offset
own_offset Counted offset block = offset
own_offset Spanned offset block = offset
own_offset Undefined offset block = offset
own_offset Variable offset block =
    if is_described (drop offset block) then offset + 4 else length block + 1

-- the block contains the given parts: as above, but in format U with the block's own record length,
-- and in format V with its own offset
abbrev pub Holds : Format → ℕ → ℕ → List ℕ → List Portion → Type 0
Holds format rec_len offset block parts =
    HoldsUnits format (own_len format rec_len offset block) (own_offset format offset block)
    block parts
