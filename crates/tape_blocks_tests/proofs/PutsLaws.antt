-- A run as seen by a caller that copies each block.
use Rattle.std.proofs.Common.{◌≡◌, ◌≢◌, ℕ, false, List, [], ◌∷◌, ◌++◌, length, drop, Option, None}
use Rattle.std.proofs.Common.{refl, sym, ap, subst, ◌∙◌, append_assoc, arith}
use Rattle.std.proofs.lemmas.List.{append-nil, map-append}
use Rattle.tape_blocks.specs.declared.offer.Offer.TheVariants.{BlockReady}
use Rattle.tape_blocks.specs.Block.{Portion}
use Rattle.tape_blocks.specs.Spans.{content_after}
use Rattle.tape_blocks.specs.Packing.{Packing, Given, IsRefused, IsJudged, HasRecordLength, emptied}
use Rattle.tape_blocks.specs.Packing.{Offers}
use Rattle.tape_blocks.specs.Run.{Run, RunOf, Going}
use Rattle.tape_blocks.specs.Tight.{Filled, bytes_of_all, Packs}
use Rattle.tape_blocks.proofs.RunLaws.{filled_of, going_block, run_last, run_none}

bytes_more : (taken : List Filled) (b : Filled) (blocks : List (List ℕ))
    → bytes_of_all taken ≡ blocks → bytes_of_all (taken ++ b ∷ []) ≡ blocks ++ b.bytes ∷ []
bytes_more taken b blocks e = map-append (λ (x : Filled). x.bytes) taken (b ∷ [])
    ∙ ap (λ (xs : List (List ℕ)). xs ++ b.bytes ∷ []) e

abbrev pub MoreBy : List (List ℕ) → List (List ℕ) → Packing → Type 0
MoreBy blocks more p = (text : List ℕ) × (more ≡ blocks ++ text ∷ []) × Given p text

last_by : (ps : List Portion) (taken : List Filled) (blocks
    more : List (List ℕ)) (p : Packing) (records : List (List ℕ)) → p.parts ≡ ps
    → bytes_of_all taken ≡ blocks → Run taken p records None 0 → p.begun ≡ false
    → (p.parts ≡ [] → more ≡ blocks) → (p.parts ≢ [] → MoreBy blocks more p)
    → Packs p.shape records more
last_by [] taken blocks more p records e bytes run ended none some =
    (taken, bytes ∙ sym (none e), run_none taken p records 0 run e ended)
last_by (x ∷ ps) taken blocks more p records e bytes run ended none some =
    let t = some (λ f. cc) in (
      taken ++ filled_of p t.0 ∷ [],
      bytes_more taken (filled_of p t.0) blocks bytes ∙ sym t.1,
      run_last taken p records t.0 0 run t.2 ended,
    )

pub last_block : (taken : List Filled) (blocks
    more : List (List ℕ)) (p : Packing) (records : List (List ℕ)) → bytes_of_all taken ≡ blocks
    → Run taken p records None 0 → p.begun ≡ false
    → (p.parts ≡ [] → more ≡ blocks) → (p.parts ≢ [] → MoreBy blocks more p)
    → Packs p.shape records more
last_block taken blocks more p records bytes run ended none some =
    last_by p.parts taken blocks more p records refl bytes run ended none some

-- If a record is refused, all of it is refused.
pub going_refused : (taken : List Filled) (p : Packing) (records : List (List ℕ)) (r rest : List ℕ)
    → Going taken p records r rest → IsRefused p rest
    → HasRecordLength p.shape.format p.shape.rec_len (length r) → ⊥
going_refused blocks p records r rest going refused fits =
    let whole : rest ≡ r =
    ap (λ (f : Option (List ℕ)). content_after f rest) (sym (going.run.ended refused.begins))
    ∙ going.content in
    refused.length_is (subst
    (λ (s : List ℕ). HasRecordLength p.shape.format p.shape.rec_len (length s)) (sym whole) fits)

-- the blocks taken for a record that is not finished yet
pub record Puts (taken : List Filled) (records blocks more : List (List ℕ))
    (p : Packing) (whole rest : List ℕ) : Type 0 where
  pub filled : List Filled
  pub bytes : blocks ++ bytes_of_all filled ≡ more
  pub going : Going (taken ++ filled) p records whole rest

pub puts_none : (taken : List Filled) (records blocks : List (List ℕ)) (p : Packing)
    (whole : List ℕ) → RunOf taken p records → Puts taken records blocks blocks p whole whole
puts_none taken records blocks p whole run = record {
  filled = [];
  bytes = append-nil blocks;
  going = record {
    front = None;
    run = subst (λ (bs : List Filled). Run bs p records None (length whole))
        (sym (append-nil taken)) (run (length whole));
    content = refl;
    length_is = λ e. absurd (let never = (run 0).more e in omega arith);
  };
}

pub puts_block : (taken : List Filled) (records blocks more last : List (List ℕ))
    (p q left : Packing) (whole rest : List ℕ) (n : ℕ) → Puts taken records blocks more p whole rest
    → IsJudged p rest → Offers p rest (BlockReady n) q
    → (q.parts ≢ [] → MoreBy more last q) → left ≡ emptied q
    → Puts taken records blocks last left whole (drop n rest)
puts_block taken records blocks more last p q left whole rest n puts judged offers some is =
    let t = some offers.0 in
    let b = filled_of q t.0 in
    let next =
    going_block (taken ++ puts.filled) p q records whole rest t.0 n puts.going judged offers t.2 in
    record {
      filled = puts.filled ++ b ∷ [];
      bytes = ap (λ (xs : List (List ℕ)). blocks ++ xs) (map-append (λ (x : Filled). x.bytes)
          puts.filled (b ∷ [])) ∙ sym (append_assoc blocks (bytes_of_all puts.filled) (t.0 ∷ []))
          ∙ ap (λ (xs : List (List ℕ)). xs ++ t.0 ∷ []) puts.bytes ∙ sym t.1;
      going = subst
          (λ (v : Packing). Going (taken ++ (puts.filled ++ b ∷ [])) v records whole (drop n rest))
          (sym is) (subst (λ (bs : List Filled). Going bs (emptied q) records whole (drop n rest))
          (append_assoc taken puts.filled (b ∷ [])) next);
    }
