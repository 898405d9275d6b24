-- The order of spans, and the records that parts join to.
use Rattle.std.specs.Prelude.{◌≡◌, ℕ, Bool, true, false, List, [], ◌∷◌, ◌++◌, Option, Some, None}
use Rattle.std.specs.Prelude.{if◌then◌else◌}
use Rattle.tape_blocks.specs.{declared.parts.Span.Span, Block.Portion}
use Rattle.tape_blocks.specs.declared.parts.Span.TheVariants.{Whole, First, Middle, Last}

-- whether the span continues a record
abbrev pub continues : Span → Bool
continues Whole = false
continues First = false
continues Middle = true
continues Last = true

-- whether the span leaves its record unfinished
abbrev pub leaves : Span → Bool
leaves Whole = false
leaves First = true
leaves Middle = true
leaves Last = false

-- the span of a part, from whether it continues a record and whether it leaves the record
-- unfinished
abbrev pub span_of : Bool → Bool → Span
span_of true true = Middle
span_of true false = Last
span_of false true = First
span_of false false = Whole

-- span order: a part that follows an unfinished record is Middle or Last, any other part is Whole
-- or First; `end` says whether a record is unfinished after the parts
abbrev pub InOrder : Bool → List Portion → Bool → Type 0
InOrder begun [] end = begun ≡ end
InOrder begun (p ∷ ps) end = (continues p.span ≡ begun) × InOrder (leaves p.span) ps end

-- the finished records, and the content of the unfinished record so far, if there is one
pub record Joined : Type 0 where
  pub records : List (List ℕ)
  pub rest : Option (List ℕ)

-- content appended to that of an unfinished record, if there is one
abbrev pub content_after : Option (List ℕ) → List ℕ → List ℕ
content_after None bytes = bytes
content_after (Some front) bytes = front ++ bytes

-- one finished record, followed by the others
abbrev pub with_record : List ℕ → Joined → Joined
with_record r j = record { records = r ∷ j.records; rest = j.rest }

-- the records that the parts join to, after the content of an unfinished record: contents are
-- collected until a part does not leave its record unfinished
abbrev pub join_after : Option (List ℕ) → List Portion → Joined
join_after begun [] = record { records = []; rest = begun }
join_after begun (p ∷ ps) =
    if leaves p.span
    then join_after (Some (content_after begun p.bytes)) ps
    else with_record (content_after begun p.bytes) (join_after None ps)

-- the records that the parts join to; whether or not they are in span order, records end at Whole
-- and Last
abbrev pub join : List Portion → Joined
join ps = join_after None ps

-- the records joined so far, followed by those that further parts add
abbrev pub joined_with : Joined → List Portion → Joined
joined_with j ps =
    record {
      records = j.records ++ (join_after j.rest ps).records;
      rest = (join_after j.rest ps).rest;
    }
