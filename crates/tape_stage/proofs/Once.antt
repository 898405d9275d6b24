-- A stage file has at most one meaning.
use Rattle.std.proofs.Common.{◌≡◌, inl, inr, ℕ, ◌+◌, ◌-◌, ◌≤◌, ◌<◌, min, List, [], ◌∷◌, length}
use Rattle.std.proofs.Common.{Some, refl, sym, ap, ◌∙◌, subst, arith, Option, None, IfSome}
use Rattle.tape_blocks.specs.{declared.parts.Span.Span, Block.Portion}
use Rattle.tape_stage.specs.Parts.{AheadIn, IsFrameAt, NoFrameAt}
use Rattle.tape_stage.specs.Salvaged.{BreaksAt, FramedTo, Remains, RemainsOnce}
use Rattle.tape_stage.specs.Laws.{StandsOnce, ReadsOneOf, NamedStands, EitherStands}
use Rattle.tape_stage.specs.{Body.Slot, Staged.Staged}
use Rattle.tape_core.specs.Point.{Point}
use Rattle.tape_stage.proofs.Tears.{staged_named}
use Rattle.tape_stage.proofs.Giving.{one_ahead, one_frame, more_ahead, held_ahead, none_ends}

same_parts : (a b : Portion) (xs ys : List Portion) → a.span ≡ b.span → a.bytes ≡ b.bytes → xs ≡ ys
    → a ∷ xs ≡ b ∷ ys
same_parts a b xs ys first second rest = rw (first, second, rest) refl

-- a frame that ends before a limit ends before a greater limit
widen : (place end limit : ℕ) (bytes : List ℕ) (span : Span) (content : List ℕ) → end ≤ limit
    → IsFrameAt place end bytes span content → IsFrameAt place limit bytes span content
widen place end limit bytes span content le frame = record {
  room = omega (arith, le, frame.room);
  header = frame.header;
  content_is = frame.content_is;
  short = frame.short;
}

-- no frames begin at an offset at which no frame begins
no_further : (place end limit : ℕ) (bytes : List ℕ) (part : Portion) (rest : List Portion)
    → end ≤ limit → AheadIn place end bytes (part ∷ rest) → NoFrameAt place limit bytes → ⊥
no_further place end limit bytes part rest le ahead none =
    let low = more_ahead _ _ _ part rest ahead in
    let one = one_ahead _ _ _ _ low ahead in
    none one.part.span one.part.bytes (widen _ _ limit _ _ _ le one.frame_is)

-- The frames from an offset to an end after which no frame follows are unique.
pub frames_once : (parts more : List Portion) (place a b limit : ℕ) (bytes : List ℕ)
    → a ≤ limit → b ≤ limit → AheadIn place a bytes parts → AheadIn place b bytes more
    → NoFrameAt a limit bytes → NoFrameAt b limit bytes → (a ≡ b) × (parts ≡ more)
frames_once [] [] place a b limit bytes le high first second none other =
    (none_ends _ _ _ first ∙ sym (none_ends _ _ _ second), refl)
frames_once [] (y ∷ ys) place a b limit bytes le high first second none other =
    absurd (no_further _ _ limit _ y ys high second
    (subst (λ (n : ℕ). NoFrameAt n limit bytes) (none_ends _ _ _ first) none))
frames_once (x ∷ xs) [] place a b limit bytes le high first second none other =
    absurd (no_further _ _ limit _ x xs le first
    (subst (λ (n : ℕ). NoFrameAt n limit bytes) (none_ends _ _ _ second) other))
frames_once (x ∷ xs) (y ∷ ys) place a b limit bytes le high first second none other =
    let one = one_ahead _ _ _ _ (more_ahead _ _ _ x xs first) first in
    let two = one_ahead _ _ _ _ (more_ahead _ _ _ y ys second) second in
    let same = one_frame _ _ _ _ _ _ _ (widen _ _ limit _ _ _ le one.frame_is)
    (widen _ _ limit _ _ _ high two.frame_is) in
    let rest_is : xs ≡ one.rest = cc one.is in
    let further = place + (5 + length one.part.bytes) in
    let next : AheadIn further a bytes xs =
    subst (AheadIn further a bytes) (sym rest_is) one.next in
    let size : place + (5 + length two.part.bytes) ≡ further =
    ap (λ (l : List ℕ). place + (5 + length l)) (sym same.1) in
    let then : AheadIn further b bytes two.rest =
    subst (λ (p : ℕ). AheadIn p b bytes two.rest) size two.next in
    let all = frames_once xs two.rest _ _ _ limit _ le high next then none other in (
      all.0,
      one.is ∙ same_parts one.part two.part _ _ same.0 same.1 (sym rest_is ∙ all.1) ∙ sym two.is,
    )

-- the offset at which the frames of a given weight end, or at which they are damaged
abbrev end_of : ℕ → Option ℕ → ℕ
end_of staged None = 256 + staged
end_of staged (Some place) = place

-- the given parts are to come up to that offset, and no frame begins there that ends in time
ends : (staged : ℕ) (broken : Option ℕ) (parts : List Portion) (bytes : List ℕ) → FramedTo staged
    broken parts bytes → (end_of staged broken ≤ min (256 + staged) (length bytes))
    × AheadIn (256 + 0) (end_of staged broken) bytes parts
    × NoFrameAt (end_of staged broken) (min (256 + staged) (length bytes)) bytes
ends staged None parts bytes framed = (
  omega (arith, framed.holds.long),
  held_ahead _ _ _ framed.holds,
  λ span content frame. omega (arith, frame.room),
)
ends staged (Some place) parts bytes framed =
    let low : 256 + (place - 256) ≡ place = omega (arith, framed.breaks.low) in (
      omega (arith, framed.holds.long, framed.breaks.low, framed.breaks.high),
      subst (λ (n : ℕ). AheadIn (256 + 0) n bytes parts) low (held_ahead _ _ _ framed.holds),
      framed.breaks.none,
    )

-- two offsets of damage are equal if the frames end at the same offset
same_break : (staged : ℕ) (broken other : Option ℕ)
    → IfSome broken (λ place. place < 256 + staged) → IfSome other (λ place. place < 256 + staged)
    → end_of staged broken ≡ end_of staged other → broken ≡ other
same_break staged None None low high e = refl
same_break staged None (Some place) low high e = absurd (omega (arith, high, e))
same_break staged (Some place) None low high e = absurd (omega (arith, low, e))
same_break staged (Some a) (Some b) low high e = ap Some e

before_end : (staged : ℕ) (broken : Option ℕ) (bytes : List ℕ) → IfSome broken
    (λ place. BreaksAt staged place bytes) → IfSome broken (λ place. place < 256 + staged)
before_end staged None bytes breaks = tt
before_end staged (Some place) bytes breaks = breaks.high

pub framed_once : (staged : ℕ) (broken other : Option ℕ) (parts more : List Portion)
    (bytes : List ℕ) → FramedTo staged broken parts bytes → FramedTo staged other more bytes
    → (broken ≡ other) × (parts ≡ more)
framed_once staged broken other parts more bytes first second =
    let one = ends _ _ _ _ first in
    let two = ends _ _ _ _ second in
    let same = frames_once _ _ _ _ _
    (min (256 + staged) (length bytes)) _ one.0 two.0 one.1 two.1 one.2 two.2 in (
      same_break staged broken other (before_end staged broken bytes first.breaks)
          (before_end staged other bytes second.breaks) same.0,
      same.1,
    )

-- the remains of a stage are unique
pub remains_once : (bytes : List ℕ) → RemainsOnce bytes
remains_once bytes g h point next broken other parts more first second =
    let slots : (g, point) ≡ (h, next) = cc (first.slot, second.slot) in
    let points : point ≡ next = ap (λ (s : Slot). s.1) slots in
    let then : FramedTo point.staged other more bytes =
    subst (λ (c : Point). FramedTo c.staged other more bytes) (sym points) second.framed in
    let same = framed_once _ _ _ _ _ _ first.framed then in
    (ap (λ (s : Slot). s.0) slots, points, same.0, same.1)

-- all that is staged remains
pub staged_remains : (bytes : List ℕ) (g : ℕ) (point : Point) (parts : List Portion)
    → Staged bytes g point parts → Remains bytes g point None parts
staged_remains bytes g point parts staged = record {
  slot = staged.slot;
  framed = record { holds = staged.parts_are; breaks = tt };
}

-- so staged data are unique
pub staged_once : (bytes : List ℕ) → StandsOnce bytes
staged_once bytes g h point next parts more first second =
    let same = remains_once bytes g h point next None None parts more
    (staged_remains _ _ _ _ first) (staged_remains _ _ _ _ second) in
    (same.0, same.1, same.3)

pub read_one_of : (bytes : List ℕ) → ReadsOneOf bytes
read_one_of bytes point next parts more (inl was) g read there staged =
    let same = staged_once bytes g was.0 read point there parts staged was.1 in inl (same.1, same.2)
read_one_of bytes point next parts more (inr is) g read there staged =
    let same = staged_once bytes g is.0 read next there more staged is.1 in inr (same.1, same.2)

pub named_stands : (bytes : List ℕ) → NamedStands bytes
named_stands bytes second g point parts is = staged_named _ _ _ _ _ is

pub either_is : (bytes : List ℕ) → EitherStands bytes
either_is bytes second g point next parts more (inl was) = inl (g, staged_named _ _ _ _ _ was)
either_is bytes second g point next parts more (inr is) = inr (g + 1, staged_named _ _ _ _ _ is)
