-- The remains of a damaged stage.
use Rattle.std.proofs.Common.{◌≡◌, ℕ, ◌+◌, ◌≤◌, ◌<◌, List, length, min, Some, subst, arith, Option}
use Rattle.std.proofs.Common.{None, ◌-◌, [], ◌∷◌, ◌++◌, take, drop, w32, refl, sym, ap, ◌∙◌, true}
use Rattle.std.proofs.{Common.false, Common.length-append, Math.Seq.take-add}
use Rattle.std.proofs.lemmas.List.{length-take-le, length-drop, drop-drop}
use Rattle.tape_blocks.specs.Spans.{join, Joined, content_after, leaves}
use Rattle.tape_blocks.specs.{Block.Portion, Block.indicator, declared.parts.Span.Span}
use Rattle.tape_core.specs.Point.{Point}
use Rattle.tape_stage.specs.Salvaged.{FramedTo, Remains, RemainsNone, WalkedOver}
use Rattle.tape_stage.specs.Staged.{Holding, HoldsNone, Staged}
use Rattle.tape_stage.specs.{Found.IsFound, Found.IsBadPlace, Parts.NoFrameAt, Parts.AllShort}
use Rattle.tape_stage.specs.{declared.stage.Found.Found, Parts.frame, Parts.frames}
use Rattle.tape_stage.proofs.{Once.remains_once, Once.staged_remains, Tears.best_of}
use Rattle.tape_stage.proofs.Giving.{put_holding}
use Rattle.std.specs.Int.{to_be_bytes}
use Rattle.tape_blocks.proofs.JoinLaws.{join_ends, join_goes_on}

-- the frames from offset 256 to the offset `place` are those of some parts
pub record WalkedTo (place : ℕ) (bytes : List ℕ) : Type 0 where
  pub low : 256 ≤ place
  pub parts : List Portion
  pub frames_are : take (place - 256) (drop 256 bytes) ≡ frames parts
  pub short : AllShort parts

pub walked_holding : (place : ℕ) (bytes : List ℕ) → place ≤ length bytes
    → (walked : WalkedTo place bytes) → Holding (place - 256) walked.parts bytes
walked_holding place bytes le walked = record {
  long = omega (arith, walked.low);
  frames_are = walked.frames_are;
  short = walked.short;
}

pub walked_more : (place size : ℕ) (span : Span) (bytes : List ℕ)
    → place + (5 + size) ≤ length bytes → take 5 (drop place bytes) ≡ indicator span
    ∷ to_be_bytes w32 size → size ≤ 99999 → (old : WalkedTo place bytes)
    → (new : WalkedTo (place + (5 + size)) bytes) × (new.parts ≡ old.parts ++ record {
      span = span;
      bytes = take size (drop (place + 5) bytes);
    } ∷ [])
walked_more place size span bytes room is short walked =
    let content : List ℕ = take size (drop (place + 5) bytes) in
    let part : Portion = record { span = span; bytes = content } in
    let n : length content ≡ size =
    length-take-le size (drop (place + 5) bytes) (omega (arith, length-drop (place + 5) bytes)) in
    let head : take 5 (drop place bytes) ≡ indicator span ∷ to_be_bytes w32 (length content) =
    is ∙ ap (λ (k : ℕ). indicator span ∷ to_be_bytes w32 k) (sym n) in
    let whole : take (5 + size) (drop place bytes) ≡ frame part = take-add 5 size (drop place bytes)
    ∙ ap (λ (l : List ℕ). l ++ take size (drop 5 (drop place bytes))) head
    ∙ ap (λ (l : List ℕ). (indicator span ∷ to_be_bytes w32 (length content)) ++ take size l)
    (drop-drop 5 place bytes) in
    let holding = put_holding _ _ _ part bytes bytes (omega (arith, walked.low)) (omega (arith, n))
    (walked_holding place bytes (omega arith) walked) refl
    (subst (λ (k : ℕ). take (5 + k) (drop place bytes) ≡ frame part) (sym n) whole)
    (omega (arith, n)) in (
      record {
        low = omega (arith, walked.low);
        parts = walked.parts ++ part ∷ [];
        frames_are = subst (λ (k : ℕ). take k (drop 256 bytes) ≡ frames (walked.parts ++ part ∷ []))
            (omega (arith, n, walked.low)) holding.frames_are;
        short = holding.short;
      },
      refl,
    )

-- the number of records in the parts of a walk, after one more part
pub counted_ends : (parts : List Portion) (part : Portion) (n : ℕ) → leaves part.span ≡ false
    → n ≡ length (join parts).records → n + 1 ≡ length (join (parts ++ part ∷ [])).records
counted_ends parts part n ends is = omega (
  arith,
  is,
  length-append (join parts).records (content_after (join parts).rest part.bytes ∷ []),
  ap (λ (j : Joined). length j.records)
      (join_ends parts part (join parts).records (join parts).rest refl ends),
)

pub counted_goes_on : (parts : List Portion) (part : Portion) (n : ℕ) → leaves part.span ≡ true
    → n ≡ length (join parts).records → n ≡ length (join (parts ++ part ∷ [])).records
counted_goes_on parts part n goes is =
    is ∙ sym (ap (λ (j : Joined). length j.records)
    (join_goes_on parts part (join parts).records (join parts).rest refl goes))

-- no frame begins at the offset
pub framed_broken : (staged place limit records : ℕ) (bytes : List ℕ)
    → limit ≡ min (256 + staged) (length bytes) → place ≤ limit → place < 256 + staged
    → (walked : WalkedTo place bytes) → records ≡ length (join walked.parts).records
    → NoFrameAt place limit bytes → WalkedOver staged (Some place) records bytes
framed_broken staged place limit records bytes is le high walked count none = (
  walked.parts,
  record {
    holds = walked_holding place bytes (omega (arith, is, le)) walked;
    breaks = record {
      low = walked.low;
      high = high;
      none = subst (λ (n : ℕ). NoFrameAt place n bytes) is none;
    };
  },
  count,
)

-- nothing is damaged
pub whole_framed : (staged : ℕ) (broken : Option ℕ) (parts : List Portion) (bytes : List ℕ)
    → broken ≡ None → FramedTo staged broken parts bytes → Holding staged parts bytes
whole_framed staged broken parts bytes none framed =
    (subst (λ (b : Option ℕ). FramedTo staged b parts bytes) none framed).holds

-- the remains for the slot that was found
pub found_remains : (found : Found) (broken : Option ℕ) (parts : List Portion) (bytes : List ℕ)
    → IsFound found bytes → FramedTo found.point.staged broken parts bytes
    → Remains bytes found.generation found.point broken parts
found_remains found broken parts bytes is framed = record {
  slot = best_of found.in_second found.generation found.point bytes is.slot is.other;
  framed = framed;
}

-- bytes with damaged frames are not a stage
pub broken_none : (bytes : List ℕ) (g : ℕ) (point : Point) (place : ℕ) (parts : List Portion)
    → Remains bytes g point (Some place) parts → HoldsNone bytes
broken_none bytes g point place parts remains n next more staged =
    let same = remains_once bytes g n point next (Some place) None parts more remains
    (staged_remains _ _ _ _ staged) in
    let no : Some place ≡ None = same.2 in
    absurd cc

-- the offset of the damage is that of a bad frame
pub broken_bad : (bytes : List ℕ) (g : ℕ) (point : Point) (place : ℕ) (parts : List Portion)
    → Remains bytes g point (Some place) parts → IsBadPlace bytes place
broken_bad bytes g point place parts remains = (g, point, parts, remains)

-- without damage, all that is staged remains
pub whole_staged : (bytes : List ℕ) (g : ℕ) (point : Point) (broken : Option ℕ)
    (parts : List Portion) → broken ≡ None → Remains bytes g point broken parts
    → Staged bytes g point parts
whole_staged bytes g point broken parts none remains = record {
  slot = remains.slot;
  parts_are = whole_framed _ _ _ _ none remains.framed;
}

-- if nothing remains, nothing is staged
pub none_staged : (bytes : List ℕ) → RemainsNone bytes → HoldsNone bytes
none_staged bytes none g point parts staged =
    none g point None parts (staged_remains _ _ _ _ staged)
