-- The step after a reel: the session made a checkpoint or none, or rolled back to its last one.
use Rattle.std.proofs.Common.{◌≡◌, ◌⊎◌, ◌-◌, ℕ, Bool, true, false, List, length, refl, inl, inr}
use Rattle.tape_blocks.specs.Block.{Portion}
use Rattle.tape_core.specs.{Crash.AddsOnly, Crash.ThisAlone, Place.rest_of, Point.Point}
use Rattle.tape_core.specs.{Stands.weight_of, Table.saved, declared.sink.PartSink.Ghosts}
use Rattle.tape_run.specs.{Causes.IsCalm, Crash.IsHere, Crash.IsNoteOf, Crash.KeepsLast}
use Rattle.tape_run.specs.Reeling.{HasNotedHere, IsKeptFor, IsNoted}
use Rattle.tape_run.specs.Seen.{seen, IsKept, IfSeen, IsSeen}
use Rattle.tape_run.specs.{SessionState.SessionState, Steps.Saved, Steps.WentBack}
use Rattle.tape_run.proofs.{Causes.calm_same, Left.last_of}
use Rattle.tape_run.proofs.Lasting.{last_kept, last_same, last_went}

-- the session after the step, which led from `a` to `b`
pub record Settled {S : Type 0} (g : Ghosts S) (back spares suspect : Bool)
    (a b : SessionState S) : Type 0 where
  pub noted : Bool
  pub keeps : IfSeen g a (λ was. IsKeptFor back was → IsSeen g b (λ is.
      IsNoted back spares suspect noted was is × KeepsLast g a was.parts b is.parts))
  pub calm : IsCalm g a b

-- the session rolled back
pub settled_back : {S : Type 0} (g : Ghosts S) (spares : Bool) (a b : SessionState S) (n : ℕ)
    → n ≡ length a.notes - 1
    → IfSeen g a (λ was. IsKept was → IsSeen g b (λ is. IsKept is × WentBack n was is))
    → IfSeen g a (λ was. IsKept was
    → AddsOnly (IsNoteOf n was) (g.crashes a.sink) (g.crashes b.sink))
    → IsCalm g a b → Settled g true spares true a b
settled_back g spares a b n last ok crash calm = record {
  noted = false;
  keeps = λ held was kept.
      let (now, has, (still, went)) = ok held was kept in
      let count = last_of a.notes n went.point last went.noted in
      (now, has, ((n, count, went), last_went g a b held now n count went (crash held was kept)));
  calm = calm;
}

-- the session is unchanged: after a suspect reel, or because its last checkpoint has its position
pub settled_same : {S : Type 0} (g : Ghosts S) (back spares suspect : Bool) (a : SessionState S)
    → ((suspect ≡ true) × (back ≡ false))
    ⊎ ((suspect ≡ false) × (spares ≡ true) × IfSeen g a HasNotedHere)
    → Settled g back spares suspect a a
settled_same {S} g back spares suspect a why = record {
  noted = false;
  keeps = λ held was kept. (held, was, (as_it_was back suspect held was why, last_same g a held));
  calm = calm_same g a;
}
  where
    as_it_was : (back suspect : Bool) (held : List Portion) → g.holds a.sink held
        → ((suspect ≡ true) × (back ≡ false))
        ⊎ ((suspect ≡ false) × (spares ≡ true) × IfSeen g a HasNotedHere)
        → IsNoted back spares suspect false (seen g a held) (seen g a held)
    as_it_was false true held has why = refl
    as_it_was true true held has (inl (is, none)) = absurd (cc none)
    as_it_was true true held has (inr (is, goes, here)) = absurd (cc is)
    as_it_was back false held has (inl (is, none)) = absurd (cc is)
    as_it_was back false held has (inr (is, goes, here)) = (goes, here held has, refl)

-- a checkpoint was made
pub settled_saved : {S : Type 0} (g : Ghosts S) (back spares : Bool) (a b : SessionState S)
    (point : Point) → (spares ≡ true → IfSeen g a (λ now. HasNotedHere now → ⊥))
    → IfSeen g a (λ was. IsSeen g b (λ is. (IsKept was → IsKept is) × Saved was is))
    → ((held : List Portion) → g.holds a.sink held
    → point ≡ saved (rest_of a.core) (weight_of held))
    → ((held : List Portion) → g.holds a.sink held → ThisAlone point held (g.crashes b.sink))
    → IfSeen g a (λ was. AddsOnly (IsHere was) (g.crashes a.sink) (g.crashes b.sink))
    → IsCalm g a b → Settled g back spares false a b
settled_saved g back spares a b point elsewhere ok at alone crash calm = record {
  noted = true;
  keeps = λ held was kept.
      let (now, has, (keeps, made)) = ok held was in (
        now,
        has,
        (
          (λ goes. elsewhere goes held was, made),
          last_kept g a b held now point _ (at held was) (alone held was) made (crash held was),
        ),
      );
  calm = calm;
}
