-- The fault of a block, and its place: the first test that fails after the longest sequence of
-- units in span order.
use Rattle.std.specs.Prelude.{◌≡◌, ℕ, ◌+◌, ◌*◌, ◌-◌, ◌<◌, ◌≤◌, ◌⊎◌, ◌==◌, ◌&&◌, ◌||◌, nat_lt, max}
use Rattle.std.specs.Prelude.{slice_index, nat_le, not}
use Rattle.std.specs.Prelude.{Bool, true, false, List, [], ◌∷◌, ◌++◌, length, take, drop, Option}
use Rattle.std.specs.Prelude.{Some, None, is_some, is_none, if◌then◌else◌}
use Rattle.std.specs.Str.{all_ascii_digits}
use Rattle.tape_label.specs.{Digits.number_of, declared.values.Format.Format}
use Rattle.tape_label.specs.declared.values.Format.TheVariants.{Fixed, Counted, Spanned}
use Rattle.tape_label.specs.declared.values.Format.TheVariants.{Undefined, Variable}
use Rattle.tape_blocks.specs.declared.check.BlockCause.TheVariants.{ShortOffset, NotMultiple}
use Rattle.tape_blocks.specs.declared.check.BlockCause.TheVariants.{BadCount, PastEnd, BadIndicator}
use Rattle.tape_blocks.specs.{declared.check.BlockCause.BlockCause, declared.parts.Span.Span}
use Rattle.tape_blocks.specs.declared.check.BlockCause.TheVariants.{SpanBroken, BadPadding}
use Rattle.tape_blocks.specs.{declared.check.BlockFault.BlockFault, Spans.continues, Spans.InOrder}
use Rattle.tape_blocks.specs.Block.{Portion, own_len, own_offset, span_by, span_coded, first_other}
use Rattle.tape_blocks.specs.Block.{spellings, BeginsWith}

-- the number in the first two bytes, the most significant first
abbrev pub word_of : List ℕ → ℕ
word_of bytes = slice_index bytes 0 * 256 + slice_index bytes 1

-- whether the first two numbers are bytes, which is so in every block
abbrev pub are_bytes : List ℕ → Bool
are_bytes bytes = nat_lt (slice_index bytes 0) 256 && nat_lt (slice_index bytes 1) 256

-- a cause at a place of the block
abbrev pub fault : ℕ → BlockCause → BlockFault
fault place cause = record { place = place; cause = cause }

-- a test, and its fault if it fails
pub record Test : Type 0 where
  pub passes : Bool
  pub fails_by : BlockFault

-- a test with the given outcome, and its fault
abbrev pub test : Bool → ℕ → BlockCause → Test
test passes place cause = record { passes = passes; fails_by = fault place cause }

-- the fault of the first test that fails
abbrev pub first_fault : List Test → Option BlockFault
first_fault [] = None
first_fault (t ∷ ts) = if t.passes then first_fault ts else Some t.fails_by

-- whether both are true or both are false
abbrev pub bool_eq : Bool → Bool → Bool
bool_eq true b = b
bool_eq false b = not b

-- whether a part with this span may follow; a character that is not an indicator has no span that
-- could violate the order
abbrev pub may_stand : Option Span → Bool → Bool
may_stand (Some span) begun = bool_eq (continues span) begun
may_stand None begun = true

-- the index, or 0 for `None`
abbrev pub place_of : Option ℕ → ℕ
place_of (Some place) = place
place_of None = 0

-- All bytes of the padding are circumflexes, like the first one; the place of the fault is the
-- first other byte.
abbrev pub padding_tests : ℕ → List ℕ → List Test
padding_tests at rest =
    test (is_none (first_other rest)) (at + place_of (first_other rest)) BadPadding ∷ []

-- The bytes begin with a head of the given length that ends with four digits. Their value is at
-- least the length of the head, and at most the number of bytes left.
abbrev pub count_tests : ℕ → ℕ → List ℕ → List Test
count_tests head at rest =
    let count = take 4 (drop (head - 4) rest)
    in test (nat_le head (length rest)) at BadCount
    ∷ test (all_ascii_digits count) at BadCount
    ∷ test (nat_le head (number_of count)) at BadCount
    ∷ test (nat_le (number_of count) (length rest)) at PastEnd
    ∷ []

-- The bytes begin with a record descriptor word, whose length is at least 4 and at most the number
-- of bytes left.
abbrev pub word_tests : Bool → ℕ → List ℕ → List Test
word_tests begun at rest =
    let span = span_coded (slice_index rest 2) (slice_index rest 3)
    in test (nat_le 4 (length rest) && are_bytes rest) at BadCount
    ∷ test (is_some span) at BadIndicator
    ∷ test (nat_le 4 (word_of rest)) at BadCount
    ∷ test (nat_le (word_of rest) (length rest)) at PastEnd
    ∷ test (may_stand span begun) at SpanBroken
    ∷ []

-- the tests of the bytes after the units, at the offset `at`; `begun` says whether a record is
-- unfinished there
abbrev pub tests : Format → ℕ → Bool → ℕ → List ℕ → List Test
tests Fixed rec_len begun at rest =
    test (nat_le rec_len (length rest) || is_none (first_other rest)) at NotMultiple
    ∷ test (nat_lt (length rest) rec_len || not begun) at SpanBroken
    ∷ []
tests Counted rec_len begun at [] = []
tests Counted rec_len begun at (c ∷ cs) =
    if c == 94 then padding_tests at (c ∷ cs)
    else count_tests 4 at (c ∷ cs) ++ test (not begun) at SpanBroken ∷ []
tests Spanned rec_len begun at [] = []
tests Spanned rec_len begun at (c ∷ cs) =
    if c == 94 then padding_tests at (c ∷ cs)
    else test (is_some (span_by c)) at BadIndicator
    ∷ count_tests 5 at (c ∷ cs) ++ test (may_stand (span_by c) begun) at SpanBroken ∷ []
tests Undefined rec_len begun at [] = []
tests Undefined rec_len begun at (c ∷ cs) =
    test (nat_le (max 1 rec_len) (length (c ∷ cs))) at NotMultiple
    ∷ test (not begun) at SpanBroken ∷ []
tests Variable rec_len begun at [] = []
tests Variable rec_len begun at (c ∷ cs) = word_tests begun at (c ∷ cs)

-- the start of the block: the offset, the units of the given parts, in span order, and then `rest`
pub record IsFront (format : Format) (rec_len offset : ℕ) (begun : Bool) (block : List ℕ)
    (parts : List Portion) (end : Bool) (rest : List ℕ) : Type 0 where
  pub begins : BeginsWith format rec_len offset block parts rest
  pub order : InOrder begun parts end

-- The fault is that of the first failed test after the longest sequence of units.
pub record FaultStands (format : Format) (rec_len offset : ℕ) (begun : Bool) (block : List ℕ)
    (f : BlockFault) : Type 0 where
  pub parts : List Portion
  pub end : Bool
  pub rest : List ℕ
  pub front : IsFront format rec_len offset begun block parts end rest
  pub longest : (others : List Portion) (last : Bool) (left : List ℕ)
      → IsFront format rec_len offset begun block others last left → length rest ≤ length left
  pub first : first_fault (tests format rec_len end (offset + length (spellings format parts)) rest)
      ≡ Some f

-- the fault of a block: that it is shorter than its offset, or the fault after its longest sequence
-- of units
abbrev pub HasUnitFault : Format → ℕ → ℕ → Bool → List ℕ → BlockFault → Type 0
HasUnitFault format rec_len offset begun block f =
    ((length block < offset) × (f ≡ fault 0 ShortOffset))
    ⊎ ((offset ≤ length block) × FaultStands format rec_len offset begun block f)

-- the same, but in format U with the block's own record length, and in format V with its own offset
abbrev pub HasFault : Format → ℕ → ℕ → Bool → List ℕ → BlockFault → Type 0
HasFault format rec_len offset begun block f =
    HasUnitFault format (own_len format rec_len offset block) (own_offset format offset block)
    begun block f
