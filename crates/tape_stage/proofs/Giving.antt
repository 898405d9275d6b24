-- Frames can be read in only one way.
use Rattle.std.proofs.Common.{◌≡◌, ℕ, ◌+◌, ◌-◌, ◌≤◌, ◌<◌, List, [], ◌∷◌, ◌++◌, length, take, drop}
use Rattle.std.proofs.Common.{w32, refl, sym, ap, ◌∙◌, subst, arith, length-append, Bool, ◌⊎◌, inl}
use Rattle.std.proofs.Common.{inr, ◌==◌, if◌then◌else◌, append_assoc, append-nil, slice_set}
use Rattle.std.proofs.{lemmas.List.length-take, lemmas.Slice.take-put_mid}
use Rattle.std.proofs.lemmas.List.{take-take, take_at, take_all, drop_at, length-take-le}
use Rattle.std.proofs.lemmas.List.{length-drop, drop-drop}
use Rattle.std.proofs.{lemmas.Nat.from_be_bytes-to_be_bytes_4, Math.Seq.take-add}
use Rattle.std.specs.Int.{to_be_bytes, from_be_bytes}
use Rattle.tape_core.specs.declared.sink.SinkFault.TheVariants.{Device, Failed}
use Rattle.tape_core.specs.{Weight.Rose, declared.sink.SinkFault.SinkFault, Stands.weight_of}
use Rattle.tape_stage.specs.Parts.{frame, frames, AllShort, IsFront}
use Rattle.tape_stage.specs.{Parts.AheadIn, Parts.IsFrameAt, Parts.NoFrameAt, Staged.Holding}
use Rattle.tape_stage.specs.{declared.disk.Disk.Ghosts, Stages.LendsNone, Disk.Holds}
use Rattle.tape_blocks.specs.declared.parts.Span.TheVariants.{Whole, First, Middle, Last}
use Rattle.tape_blocks.specs.{declared.parts.Span.Span, Block.Portion, Block.indicator}
use Rattle.tape_stage.proofs.Torn.{alike_piece, holds_piece}

pub frames-append : (xs ys : List Portion) → frames (xs ++ ys) ≡ frames xs ++ frames ys
frames-append [] ys = refl
frames-append (x ∷ xs) ys = ap (λ (l : List ℕ). frame x ++ l) (frames-append xs ys) ∙ sym
    (append_assoc (frame x) (frames xs) (frames ys))

pub length-frame : (part : Portion) → length (frame part) ≡ 5 + length part.bytes
length-frame part = omega (arith, length-append (to_be_bytes w32 (length part.bytes)) part.bytes)

pub length-frames : (xs : List Portion) → length (frames xs) ≡ weight_of xs
length-frames [] = refl
length-frames (x ∷ xs) =
    omega (arith, length-append (frame x) (frames xs), length-frames xs, length-frame x)

short_push : (xs : List Portion) (x : Portion) → AllShort xs → length x.bytes ≤ 99999
    → AllShort (xs ++ x ∷ [])
short_push [] x all short = (short, tt)
short_push (y ∷ ys) x all short = (all.0, short_push ys x all.1 short)

short_front : (xs ys : List Portion) → AllShort (xs ++ ys) → AllShort xs
short_front [] ys all = tt
short_front (x ∷ xs) ys all = (all.0, short_front xs ys all.1)

-- one more part
pub put_holding : (weight place : ℕ) (parts : List Portion) (part : Portion) (old new : List ℕ)
    → place ≡ 256 + weight → length part.bytes ≤ 99999 → Holding weight parts old
    → take place new ≡ take place old → take (5 + length part.bytes) (drop place new) ≡ frame part
    → place + (5 + length part.bytes) ≤ length new
    → Holding (weight + (5 + length part.bytes)) (parts ++ part ∷ []) new
put_holding weight place parts part old new is short holding front frame_is long =
    let size = 5 + length part.bytes in
    let there : drop weight (drop 256 new) ≡ drop place new =
    drop-drop weight 256 new ∙ ap (λ (n : ℕ). drop n new) (sym is) in
    let before : take weight (drop 256 new) ≡ frames parts =
    alike_piece place 256 weight old new (omega arith) front ∙ holding.frames_are in
    record {
      long = omega (arith, long);
      frames_are = take-add weight size (drop 256 new)
          ∙ ap (λ (l : List ℕ). take weight (drop 256 new) ++ take size l) there
          ∙ ap (λ (l : List ℕ). l ++ take size (drop place new)) before
          ∙ ap (λ (l : List ℕ). frames parts ++ l) (frame_is ∙ sym (append-nil (frame part)))
          ∙ sym (frames-append parts (part ∷ []));
      short = short_push parts part holding.short short;
    }

-- the first parts only
pub front_holding : (weight staged : ℕ) (parts front : List Portion) (bytes : List ℕ)
    → staged ≤ weight → IsFront staged front parts → Holding weight parts bytes
    → Holding staged front bytes
front_holding weight staged parts front bytes le is holding =
    let all : take weight (drop 256 bytes) ≡ frames front ++ frames is.rest =
    holding.frames_are ∙ ap frames is.whole ∙ frames-append front is.rest in
    record {
      long = omega (arith, holding.long);
      frames_are = sym (take-take staged weight (drop 256 bytes) le) ∙ ap (take staged) all ∙
          take_at (frames front) (frames is.rest) staged (length-frames front ∙ is.weighs);
      short = short_front front is.rest (subst AllShort is.whole holding.short);
    }

-- a frame that was written
pub one_write : (place : ℕ) (part : Portion) (bytes old new : List ℕ) → bytes ≡ frame part
    → place ≤ length old → Holds old place bytes new
    → (take (5 + length part.bytes) (drop place new) ≡ frame part)
    × (place + (5 + length part.bytes) ≤ length new)
one_write place part bytes old new is le holds =
    let size : length bytes ≡ 5 + length part.bytes = ap length is ∙ length-frame part in (
      subst (λ (n : ℕ). take n (drop place new) ≡ frame part) size
          (holds_piece place bytes old new le holds ∙ is),
      omega (
        arith,
        size,
        ap length holds,
        length-append (take place old ++ bytes) (drop (place + length bytes) old),
        length-append (take place old) bytes,
        length-take-le place old le,
      ),
    )

-- the first byte is stored after those that follow it
set_first : (b n rest : List ℕ) (d : ℕ) → 1 ≤ length b
    → slice_set (take 1 b ++ (n ++ rest)) 0 d ≡ (d ∷ n) ++ rest
set_first [] n rest d some = absurd (omega (arith, some))
set_first (x ∷ b) n rest d some = refl

-- a buffer with a frame at its start, whose first byte was stored after the next four
abbrev pub stored : List ℕ → List ℕ → ℕ → List ℕ → ℕ → List ℕ
stored b n d content size =
    let filled : List ℕ = slice_set (take 1 b ++ (n ++ drop 4 (drop 1 b))) 0 d in
    take 5 filled ++ (content ++ drop (5 + size - 5) (drop 5 filled))

pub stored_is : (part : Portion) (b n content : List ℕ) (d : ℕ) → length part.bytes ≤ 99999
    → 100004 ≤ length b → d ≡ indicator part.span → n ≡ to_be_bytes w32 (length part.bytes)
    → content ≡ part.bytes → (length (stored b n d content (length part.bytes)) ≡ length b)
    × (take (5 + length part.bytes) (stored b n d content (length part.bytes)) ≡ frame part)
stored_is part b n content d short room first four after =
    let k = length part.bytes in
    let head : List ℕ = d ∷ n in
    let rest : List ℕ = drop 4 (drop 1 b) in
    let filled : List ℕ = slice_set (take 1 b ++ (n ++ rest)) 0 d in
    let framed : filled ≡ head ++ rest = set_first b n rest d (omega (arith, room)) in
    let is : head ≡ indicator part.span ∷ to_be_bytes w32 k =
    ap (λ x. x ∷ n) first ∙ ap (λ l. indicator part.span ∷ l) four in
    let size : length head ≡ 5 = ap length is in
    let more : 5 ≤ length filled =
    omega (arith, ap length framed, size, length-append head rest) in (
      omega (
        arith,
        short,
        room,
        size,
        ap length framed,
        ap length after,
        length-append head rest,
        length-append content (drop (5 + k - 5) (drop 5 filled)),
        length-append (take 5 filled) (content ++ drop (5 + k - 5) (drop 5 filled)),
        length-take 5 filled,
        length-drop 5 filled,
        length-drop (5 + k - 5) (drop 5 filled),
        length-drop 4 (drop 1 b),
        length-drop 1 b,
      ),
      take-put_mid 5 _ filled content _ (omega (arith, ap length after)) more
          ∙ ap (λ l. take 5 l ++ content) framed ∙ ap (λ l. l ++ content) (take_at head rest 5 size)
          ∙ ap (λ l. head ++ l) after ∙ ap (λ l. l ++ part.bytes) is,
    )

-- the span with the given digit
abbrev span_of : ℕ → Span
span_of n = if n == 48 then Whole else (if n == 49 then First
    else (if n == 50 then Middle else Last))

span_again : (s : Span) → span_of (indicator s) ≡ s
span_again Whole = refl
span_again First = refl
span_again Middle = refl
span_again Last = refl

pub size_same : (m n : ℕ) → m ≤ 99999 → n ≤ 99999 → to_be_bytes w32 m ≡ to_be_bytes w32 n → m ≡ n
size_same m n low high e = sym (from_be_bytes-to_be_bytes_4 m (omega arith)) ∙ ap
    (from_be_bytes w32) e ∙ from_be_bytes-to_be_bytes_4 n (omega arith)

-- At most one frame begins at an offset.
pub one_frame : (place end : ℕ) (bytes : List ℕ) (s t : Span) (c d : List ℕ)
    → IsFrameAt place end bytes s c → IsFrameAt place end bytes t d → (s ≡ t) × (c ≡ d)
one_frame place end bytes s t c d a b =
    let headers : indicator s ∷ to_be_bytes w32 (length c) ≡ indicator t ∷ to_be_bytes w32
    (length d) = sym a.header ∙ b.header in
    let first : indicator s ≡ indicator t = cc headers in
    let size : length c ≡ length d =
    size_same (length c) (length d) a.short b.short (ap (drop 1) headers) in (
      sym (span_again s) ∙ ap span_of first ∙ span_again t,
      sym a.content_is ∙ ap (λ (k : ℕ). take k (drop (place + 5) bytes)) size ∙ b.content_is,
    )

-- the next part, and the parts after it
pub record OneAhead (place end : ℕ) (bytes : List ℕ) (parts : List Portion) : Type 0 where
  pub part : Portion
  pub rest : List Portion
  pub is : parts ≡ part ∷ rest
  pub frame_is : IsFrameAt place end bytes part.span part.bytes
  pub next : AheadIn (place + (5 + length part.bytes)) end bytes rest

length-between : (place end : ℕ) (bytes : List ℕ) → place ≤ end → end ≤ length bytes
    → length (take (end - place) (drop place bytes)) ≡ end - place
length-between place end bytes low high =
    length-take-le (end - place) (drop place bytes) (omega (arith, length-drop place bytes))

-- if no parts are to come, the offset is the end
pub none_ends : (place end : ℕ) (bytes : List ℕ) → AheadIn place end bytes [] → end ≡ place
none_ends place end bytes ahead = omega (
  arith,
  length-between place end bytes ahead.low ahead.high,
  ap length ahead.frames_are,
  ahead.low,
)

split_ahead : (place end : ℕ) (bytes : List ℕ) (part : Portion) (rest : List Portion) → place ≤ end
    → end ≤ length bytes → take (end - place) (drop place bytes) ≡ frame part ++ frames rest
    → length part.bytes ≤ 99999 → AllShort rest → OneAhead place end bytes (part ∷ rest)
split_ahead place end bytes part rest low high is short all =
    let n = length part.bytes in
    let whole = end - place in
    let all_of : List ℕ = frame part ++ frames rest in
    let size : whole ≡ length all_of =
    sym (length-between place end bytes low high) ∙ ap length is in
    let sum : length all_of ≡ 5 + n + length (frames rest) =
    length-append (frame part) (frames rest)
    ∙ ap (λ k. k + length (frames rest)) (length-frame part) in
    let alike : take whole (drop place bytes) ≡ take whole all_of =
    is ∙ sym (take_all whole all_of (omega (arith, size))) in
    record {
      part = part;
      rest = rest;
      is = refl;
      frame_is = record {
        room = omega (arith, size, sum);
        header = alike_piece whole 0 5 all_of _ (omega (arith, size, sum)) alike;
        content_is = ap (take n) (sym (drop-drop 5 place bytes))
            ∙ alike_piece whole 5 n all_of _ (omega (arith, size, sum)) alike
            ∙ take_at part.bytes (frames rest) n refl;
        short = short;
      };
      next = record {
        low = omega (arith, size, sum);
        high = high;
        frames_are = ap (take (end - (place + (5 + n)))) (sym (drop-drop (5 + n) place bytes))
            ∙ alike_piece whole (5 + n) _ all_of _ (omega (arith, size, sum)) alike
            ∙ ap (take (end - (place + (5 + n))))
            (drop_at (frame part) (frames rest) (5 + n) (length-frame part))
            ∙ take_all _ (frames rest) (omega (arith, size, sum));
        short = all;
      };
    }

pub one_ahead : (place end : ℕ) (bytes : List ℕ) (parts : List Portion) → place < end
    → AheadIn place end bytes parts → OneAhead place end bytes parts
one_ahead place end bytes [] low ahead = absurd (omega (
  arith,
  length-between place end bytes ahead.low ahead.high,
  ap length ahead.frames_are,
))
one_ahead place end bytes (part ∷ rest) low ahead = split_ahead place end bytes part rest ahead.low
    ahead.high ahead.frames_are ahead.short.0 ahead.short.1

-- no parts are to come at or after the end
pub none_ahead : (place end : ℕ) (bytes : List ℕ) (parts : List Portion) → end ≤ place
    → AheadIn place end bytes parts → parts ≡ []
none_ahead place end bytes [] low ahead = refl
none_ahead place end bytes (part ∷ rest) low ahead = absurd (omega (
  arith,
  length-between place end bytes ahead.low ahead.high,
  ap length ahead.frames_are,
  length-append (frame part) (frames rest),
  length-frame part,
))

-- if a part is to come, the offset is before the end
pub more_ahead : (place end : ℕ) (bytes : List ℕ) (part : Portion) (rest : List Portion)
    → AheadIn place end bytes (part ∷ rest) → place < end
more_ahead place end bytes part rest ahead = omega (
  arith,
  length-between place end bytes ahead.low ahead.high,
  ap length ahead.frames_are,
  length-append (frame part) (frames rest),
  length-frame part,
)

-- the frame that was read is the next part
pub given : (walked end size : ℕ) (old new : List ℕ) (span : Span) (content : List ℕ)
    (parts : List Portion) → 256 + walked < end → IsFrameAt (256 + walked) end old span content
    → length content ≡ size → new ≡ old
    → AheadIn (256 + walked) end old parts → (rest : List Portion) × (parts ≡ record {
      span = span;
      bytes = content;
    } ∷ rest) × AheadIn (256 + (walked + (5 + size))) end new rest
given walked end size old new span content parts low found long same ahead =
    let place = 256 + walked in
    let one = one_ahead _ _ _ _ low ahead in
    let frame_same = one_frame _ _ _ _ _ _ _ one.frame_is found in
    let value : one.part ≡ record { span = span; bytes = content } =
    rw (← frame_same.0, ← frame_same.1) refl in
    let there : place + (5 + length one.part.bytes) ≡ 256 + (walked + (5 + size)) =
    omega (arith, ap length frame_same.1, long) in (
      one.rest,
      one.is ∙ ap (λ (p : Portion). p ∷ one.rest) value,
      subst (λ (b : List ℕ). AheadIn (256 + (walked + (5 + size))) end b one.rest) (sym same)
          (subst (λ (k : ℕ). AheadIn k end old one.rest) there one.next),
    )

-- no parts are to come at the end, and none after that
pub nothing_ahead : (place end : ℕ) (bytes : List ℕ) (parts : List Portion) → end ≤ place
    → AheadIn place end bytes parts → (parts ≡ []) × AheadIn place end bytes []
nothing_ahead place end bytes parts low ahead =
    let none = none_ahead _ _ _ _ low ahead in
    (none, subst (λ (ps : List Portion). AheadIn place end bytes ps) none ahead)

-- at the beginning all parts are to come
pub held_ahead : (weight : ℕ) (parts : List Portion) (bytes : List ℕ) → Holding weight parts bytes
    → AheadIn (256 + 0) (256 + weight) bytes parts
held_ahead weight parts bytes holding = record {
  low = omega arith;
  high = holding.long;
  frames_are = ap (λ (n : ℕ). take n (drop 256 bytes)) (less weight) ∙ holding.frames_are;
  short = holding.short;
}
  where
    less : (n : ℕ) → 256 + n - 256 ≡ n
    less n = omega arith

-- ---- a part that is not returned

pub lends_none : {D : Type 0} (disk : Ghosts D) (readable : Bool) (walked weight : ℕ) (old new : D)
    (fault : SinkFault) → (fault ≡ Device) ⊎ (fault ≡ Failed)
    → (fault ≡ Device → Rose (disk.faults old) (disk.faults new)) → (disk.is_honest old
    → fault ≡ Failed → NoFrameAt (256 + walked) (256 + weight) (disk.seen old))
    → LendsNone disk readable walked weight old fault new
lends_none disk readable walked weight old new fault (inl is) device none =
    rw is (device is)
lends_none disk readable walked weight old new fault (inr is) device none =
    rw is (inr (λ honest. none honest is))
