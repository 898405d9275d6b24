-- A stage whose checkpoint lies inside a part.
use Rattle.std.proofs.Common.{◌≡◌, ℕ, ◌+◌, ◌-◌, ◌<◌, ◌≤◌, Bool, List, [], ◌∷◌, ◌++◌, length, take}
use Rattle.std.proofs.lemmas.List.{drop_at, drop-drop, drop-take, length-drop, length-take}
use Rattle.std.proofs.Common.{drop, refl, sym, ap, ◌∙◌, arith, length-append}
use Rattle.std.proofs.lemmas.List.{take-take}
use Rattle.tape_blocks.specs.Block.{Portion}
use Rattle.tape_core.specs.{Point.Point, Stands.weight_of}
use Rattle.tape_stage.specs.{Found.IsBadPlace, Parts.AheadIn, Parts.frames, Parts.AllShort}
use Rattle.tape_stage.specs.Staged.{Holding, NamedIn, SameFrames}
use Rattle.tape_stage.proofs.Giving.{frames-append, front_holding, length-frames, one_ahead}
use Rattle.tape_stage.proofs.{Giving.size_same, Tears.best_of, Tears.open_reads, Torn.alike_piece}

short_back : (front back : List Portion) → AllShort (front ++ back) → AllShort back
short_back [] back all = all
short_back (x ∷ front) back all = short_back front back all.1

-- the weights of framed parts
weighs : (weight : ℕ) (front back : List Portion) (bytes : List ℕ)
    → Holding weight (front ++ back) bytes → weight ≡ weight_of front + weight_of back
weighs weight front back bytes holding = omega (
  arith,
  holding.long,
  ap length holding.frames_are,
  ap length (frames-append front back),
  length-append (frames front) (frames back),
  length-frames front,
  length-frames back,
  length-take weight (drop 256 bytes),
  length-drop 256 bytes,
)

-- the parts after the first ones
pub ahead_of : (weight : ℕ) (front back : List Portion) (bytes : List ℕ)
    → Holding weight (front ++ back) bytes
    → AheadIn (256 + weight_of front) (256 + weight) bytes back
ahead_of weight front back bytes holding =
    let w = weight_of front in
    let sum = weighs weight front back bytes holding in
    let k = weight - w in
    let rest : (256 + weight) - (256 + w) ≡ k = omega arith in
    let split : w + k ≡ weight = omega (arith, sum) in
    record {
      low = omega (arith, sum);
      high = holding.long;
      frames_are = ap (λ (n : ℕ). take n (drop (256 + w) bytes)) rest
          ∙ ap (take k) (sym (drop-drop w 256 bytes)) ∙ sym (drop-take w k (drop 256 bytes))
          ∙ ap (λ (n : ℕ). drop w (take n (drop 256 bytes))) split ∙ ap (drop w) holding.frames_are
          ∙ ap (drop w) (frames-append front back)
          ∙ drop_at (frames front) (frames back) w (length-frames front);
      short = short_back front back holding.short;
    }

-- there is no valid frame where the part begins
pub bad_inside : (second : Bool) (g : ℕ) (point : Point) (weight : ℕ) (front rest : List Portion)
    (part : Portion) (old bytes : List ℕ) → Holding weight (front ++ part ∷ rest) old
    → NamedIn second g point bytes → SameFrames point.staged old bytes
    → weight_of front < point.staged
    → point.staged < weight_of front + (5 + length part.bytes)
    → IsBadPlace bytes (256 + weight_of front)
bad_inside second g point weight front rest part old bytes holding named same more less =
    let w = weight_of front in
    let place = 256 + w in
    let last : weight_of (part ∷ rest) ≡ (5 + length part.bytes) + weight_of rest = refl in
    let sum = weighs weight front (part ∷ rest) old holding in
    let staged : point.staged ≤ weight = omega (arith, less, sum, last) in
    let first = front_holding weight w (front ++ part ∷ rest) front old (omega (arith, sum))
    (record { rest = part ∷ rest; whole = refl; weighs = refl }) holding in
    let one = one_ahead place (256 + weight) old (part ∷ rest) (omega (arith, sum, last))
    (ahead_of weight front (part ∷ rest) old holding) in
    let is : part ≡ one.part = cc one.is in (
      g,
      point,
      front,
      record {
        slot = best_of second g point bytes (open_reads _ _ named.is_open ∙ named.body) named.other;
        framed = record {
          holds = record {
            long = omega (
              arith,
              more,
              staged,
              holding.long,
              ap length same,
              length-take point.staged (drop 256 bytes),
              length-take point.staged (drop 256 old),
              length-drop 256 bytes,
              length-drop 256 old,
            );
            frames_are = ap (λ (n : ℕ). take n (drop 256 bytes)) (omega arith)
                ∙ sym (take-take w point.staged (drop 256 bytes) (omega (arith, more)))
                ∙ ap (take w) same ∙ take-take w point.staged (drop 256 old) (omega (arith, more))
                ∙ first.frames_are;
            short = first.short;
          };
          breaks = record {
            low = omega arith;
            high = omega (arith, more);
            none = λ span content frame.
                let five : take 5 (drop place bytes) ≡ take 5 (drop place old) =
                ap (take 5) (sym (drop-drop w 256 bytes)) ∙ alike_piece point.staged w 5
                (drop 256 old) (drop 256 bytes) (omega (arith, frame.room)) same
                ∙ ap (take 5) (drop-drop w 256 old) in
                let size = size_same (length content) (length one.part.bytes) frame.short
                one.frame_is.short (ap (drop 1) (sym frame.header ∙ five ∙ one.frame_is.header)) in
                omega (arith, frame.room, size, less, ap (λ (p : Portion). length p.bytes) is);
          };
        };
      },
    )
