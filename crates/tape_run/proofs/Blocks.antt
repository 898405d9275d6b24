-- The parts of a block, put one after another.
use Rattle.std.proofs.Common.{◌≡◌, ℕ, zero, suc, ◌<◌, ◌≤◌, Bool, List, [], ◌∷◌, ◌++◌, length, map}
use Rattle.std.proofs.Common.{◌+◌, take, drop, refl, sym, ap, ◌∙◌, arith, append_assoc}
use Rattle.std.proofs.Common.{length-append}
use Rattle.tape_blocks.specs.{declared.parts.Part.Part, declared.parts.Parts.Parts, Block.Portion}
use Rattle.tape_blocks.specs.{Spans.leaves, Parts.view, PartsLeft.parts_left, Judged.begun_behind}
use Rattle.std.specs.Iterator.{YieldsFirstBy, Yields}
use Rattle.tape_blocks.proofs.YieldLaws.{yielded_parts}
use Rattle.tape_core.specs.declared.sink.PartSink.{Ghosts}
use Rattle.tape_core.proofs.StateLaws.{one_more}
use Rattle.tape_run.specs.Crash.{BringsNoMore}
use Rattle.tape_run.proofs.Crashes.{adds_then}

-- ---- the parts from a number on

drop_all : (n : ℕ) (ys : List Portion) → length ys ≤ n → drop n ys ≡ []
drop_all zero [] h = refl
drop_all zero (y ∷ ys) h = absurd (omega (arith, h))
drop_all (suc n) [] h = refl
drop_all (suc n) (y ∷ ys) h = drop_all n ys (omega (arith, h))

drop_push : (n : ℕ) (ys : List Portion) (p : Portion) → n ≤ length ys
    → drop n (ys ++ p ∷ []) ≡ drop n ys ++ p ∷ []
drop_push zero ys p h = refl
drop_push (suc n) [] p h = absurd (omega (arith, h))
drop_push (suc n) (y ∷ ys) p h = drop_push n ys p (omega (arith, h))

-- Of the parts of a block, the first ones were put.
pub record PutSoFar {S : Type 0} (g : Ghosts S) (old new : S) (first seen : ℕ) (begun going : Bool)
    (came : List Portion) : Type 0 where
  pub count : seen ≡ length came
  pub behind : going ≡ begun_behind begun (drop first came)
  pub calm : g.refusals new ≡ g.refusals old
  pub held_now : (held : List Portion) → g.holds old held → g.holds new (held ++ drop first came)
  pub crash : BringsNoMore g old new

module _ {S : Type 0} (g : Ghosts S) (old : S) (first : ℕ) (begun : Bool) where
  abbrev Puts : S → ℕ → Bool → List Portion → Type 0
  Puts new seen going came = PutSoFar g old new first seen begun going came

  -- a part before the first changes nothing
  pub one_passed : (new : S) (seen : ℕ) (going : Bool) (came : List Portion) (p : Portion)
      → seen < first → Puts new seen going came → Puts new (seen + 1) going (came ++ p ∷ [])
  one_passed new seen going came p lt s = grind (arith, length-append, drop_all)

  -- one more part was put
  pub one_put : (mid new : S) (seen : ℕ) (going : Bool) (came : List Portion) (p : Portion)
      → first ≤ seen → ((parts : List Portion) → g.holds mid parts → g.holds new (parts ++ p ∷ []))
      → g.refusals new ≡ g.refusals mid → BringsNoMore g mid new → Puts mid seen going came
      → Puts new (seen + 1) (leaves p.span) (came ++ p ∷ [])
  one_put mid new seen going came p le put calm crash s =
      grind (arith, drop_push, length-append, one_more, append_assoc, adds_then)

-- ---- the index of a part

-- the number of parts before the part at this index
pub number_of : (ps ys rest : List Portion) (p : Portion) → ps ≡ ys ++ p ∷ rest
    → length ys < length ps
number_of ps ys rest p e = omega (arith, ap length e, length-append ys (p ∷ rest))

pub front_is : (ps ys rest : List Portion) → ps ≡ ys ++ rest → take (length ys) ps ≡ ys
front_is ps ys rest e = ap (take (length ys)) e ∙ go ys rest
  where
    go : (ys rest : List Portion) → take (length ys) (ys ++ rest) ≡ ys
    go [] rest = refl
    go (y ∷ ys) rest = ap (λ (l : List Portion). y ∷ l) (go ys rest)

-- the parts that an iterator over a block has yielded precede those that are left
pub stands_here : (s t u : Parts) (xs : List Part) (parts left : List Portion)
    → parts_left s ≡ parts → t ≡ s → Yields (YieldsFirstBy view parts_left) t xs u
    → parts_left u ≡ left → parts ≡ map view xs ++ left
stands_here s t u xs parts left from same come next =
    sym from ∙ (ap parts_left (sym same)
    ∙ (yielded_parts t xs u come ∙ ap (λ (l : List Portion). map view xs ++ l) next))
