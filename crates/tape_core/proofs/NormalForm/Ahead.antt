-- A reader takes from the normal form everything that it takes from the tape.
use Rattle.std.proofs.Common.{◌≡◌, List, [], ◌∷◌, false}
use Rattle.std.proofs.Common.{Some}
use Rattle.std.proofs.Common.{refl, sym, ◌∙◌, subst, ◌⊎◌, inl}
use Rattle.std.proofs.Common.{inr}
use Rattle.tape_image.specs.Tape.{TapeItem, block, bad, mark}
use Rattle.tape_label.specs.{Kinds.kind_at, VolumeLabels.is_volume_label}
use Rattle.tape_label.specs.Reading.{head1_at, trail1_at}
use Rattle.tape_core.specs.declared.event.{Phase.Phase}
use Rattle.tape_core.specs.declared.event.Phase.TheVariants as phases
use Rattle.tape_core.specs.{State.State, Known.is_finished}
use Rattle.tape_core.specs.Table.{step_of, at_item}
use Rattle.tape_core.specs.declared.normal.code.Code.TheVariants.{Ascii}
use Rattle.tape_core.specs.declared.normal.machine.TapePlace.{TapePlace}
use Rattle.tape_core.specs.declared.normal.machine.TapePlace.TheVariants as places
use Rattle.tape_core.specs.NormalForm.{Steps.from}
use Rattle.tape_core.specs.NormalForm.Ahead.{IsAhead}
use Rattle.tape_core.specs.NormalForm.Ahead.{NormalIsAhead}
use Rattle.tape_core.specs.NormalForm.Ahead.{BehindIsAhead}
use Rattle.tape_core.proofs.NormalForm.AheadFacts.{Fits, Stands, Fact, ahead_same, ahead_bare}
use Rattle.tape_core.proofs.NormalForm.AheadFacts.{ahead_step}
use Rattle.tape_core.proofs.NormalForm.AheadRules.{step_is, stays, volume, heads, labels, second}
use Rattle.tape_core.proofs.NormalForm.AheadRules.{headers, data_passed, data_wanted}
use Rattle.tape_core.proofs.NormalForm.AheadRules.{trailer_passed, trailer_wanted, next_kept}
use Rattle.tape_core.proofs.NormalForm.AheadFacts.{ends, kept, changed}

-- ---- all phases

-- the places where the tape is not passed on as it is
abbrev IsNotOver : TapePlace → Type 0
IsNotOver places.Over = ⊥
IsNotOver place = Unit {0}

by_phase : (core : State) (w : is_finished core.position ≡ false) (p : Phase) → core.phase ≡ p
    → (place : TapePlace) → IsNotOver place → Fits core.position p place → (x : TapeItem)
    → Fact core place x (at_item core p x)
by_phase core w phases.Volume e (places.Start n) o h (block b) = volume core w n b (kind_at b) refl
by_phase core w phases.Volume e (places.Start n) o h mark = ends tt
by_phase core w phases.Volume e (places.Start n) o h bad = ends tt
by_phase core w phases.VolumeLabels e (places.Labels Ascii n) o h (block b) =
    labels core w n b (is_volume_label b) refl (kind_at b) refl
by_phase core w phases.VolumeLabels e (places.Labels Ascii n) o h mark = ends tt
by_phase core w phases.VolumeLabels e (places.Labels Ascii n) o h bad = ends tt
by_phase core w (phases.Header2 a c) e (places.Second Ascii seen) o h (block b) =
    second core w seen h a c b (kind_at b) refl e
by_phase core w (phases.Header2 a c) e (places.Second Ascii seen) o h mark = ends tt
by_phase core w (phases.Header2 a c) e (places.Second Ascii seen) o h bad = ends tt
by_phase core w (phases.Headers a f) e (places.Headers Ascii seen) o h x =
    headers core w seen h a f x
by_phase core w (phases.DataPassed a) e (places.Data Ascii seen) o h x =
    data_passed core w seen a x
by_phase core w (phases.DataWanted a f n) e (places.Data Ascii seen) o h x =
    data_wanted core w seen a f n h x
by_phase core w (phases.TrailerPassed a) e (places.Trailer Ascii seen) o h (block b) =
    trailer_passed core w seen a e b (trail1_at b) refl
by_phase core w (phases.TrailerPassed a) e (places.Trailer Ascii seen) o h mark = ends tt
by_phase core w (phases.TrailerPassed a) e (places.Trailer Ascii seen) o h bad = ends tt
by_phase core w (phases.TrailerWanted a f) e (places.Trailer Ascii seen) o h (block b) =
    trailer_wanted core w seen h a f b (trail1_at b) refl
by_phase core w (phases.TrailerWanted a f) e (places.Trailer Ascii seen) o h mark = ends tt
by_phase core w (phases.TrailerWanted a f) e (places.Trailer Ascii seen) o h bad = ends tt
by_phase core w phases.Trailers e (places.Trailers Ascii seen) o h (block b) =
    kept (places.Trailers Ascii seen) (λ xs. refl)
    (λ g. stays core w (places.Trailers Ascii seen) phases.Trailers tt)
by_phase core w phases.Trailers e (places.Trailers Ascii seen) o h mark =
    kept (places.Next Ascii seen) (λ xs. refl)
    (λ g. stays core w (places.Next Ascii seen) phases.NextFile tt)
by_phase core w phases.Trailers e (places.Trailers Ascii seen) o h bad = ends tt
by_phase core w phases.NextFile e (places.Next Ascii seen) o h (block b) =
    heads core w (places.Next Ascii seen) seen b (next_kept core w seen b) (head1_at b) refl
by_phase core w phases.NextFile e (places.Next Ascii seen) o h mark = ends tt
by_phase core w phases.NextFile e (places.Next Ascii seen) o h bad = ends tt
by_phase core w p e places.Over o h x = absurd o
by_phase core w p e place o h x = absurd h

-- ---- all items

pub from_nil : (place : TapePlace) → from place [] ≡ []
from_nil (places.Start n) = refl
from_nil (places.Labels code n) = refl
from_nil (places.Blank code) = refl
from_nil (places.Second code seen) = refl
from_nil (places.Headers code seen) = refl
from_nil (places.Data code seen) = refl
from_nil (places.Trailer code seen) = refl
from_nil (places.Trailers code seen) = refl
from_nil (places.Next code seen) = refl
from_nil places.Ended = refl
from_nil places.Over = refl

by_fact : (core : State) (place : TapePlace) (x : TapeItem) (xs : List TapeItem)
    → Fact core place x (step_of core (Some x))
    → ((next : TapePlace) (mid : State) → Stands next mid → IsAhead mid xs (from next xs))
    → IsAhead core (x ∷ xs) (from place (x ∷ xs))
by_fact core place x xs (ends h) ih = ahead_bare core x xs (from place (x ∷ xs)) h
by_fact core place x xs (kept next eq s) ih =
    subst (λ v. IsAhead core (x ∷ xs) v) (sym (eq xs))
    (ahead_step core x x xs (from next xs) refl (λ d. refl)
    (λ g. ih next (step_of core (Some x)).1 (s g)))
by_fact core place x xs (changed next y eq p same s) ih =
    subst (λ v. IsAhead core (x ∷ xs) v) (sym (eq xs))
    (ahead_step core x y xs (from next xs) same (λ d. absurd (let q = sym p ∙ d in cc))
    (λ g. ih next (step_of core (Some x)).1 s))

not_over : (place : TapePlace) → (place ≡ places.Over) ⊎ IsNotOver place
not_over places.Over = inl refl
not_over (places.Start n) = inr tt
not_over (places.Labels code n) = inr tt
not_over (places.Blank code) = inr tt
not_over (places.Second code seen) = inr tt
not_over (places.Headers code seen) = inr tt
not_over (places.Data code seen) = inr tt
not_over (places.Trailer code seen) = inr tt
not_over (places.Trailers code seen) = inr tt
not_over (places.Next code seen) = inr tt
not_over places.Ended = inr tt

ahead : (xs : List TapeItem) (place : TapePlace) (core : State) → Stands place core
    → IsAhead core xs (from place xs)
ahead [] place core s =
    subst (λ v. IsAhead core [] v) (sym (from_nil place)) (ahead_same core [])
ahead (x ∷ xs) place core s = go (not_over place) (λ next mid t. ahead xs next mid t)
  where
    go : (place ≡ places.Over) ⊎ IsNotOver place
        → ((next : TapePlace) (mid : State) → Stands next mid → IsAhead mid xs (from next xs))
        → IsAhead core (x ∷ xs) (from place (x ∷ xs))
    go (inl e) ih =
        subst (λ v. IsAhead core (x ∷ xs) (from v (x ∷ xs))) (sym e) (ahead_same core (x ∷ xs))
    go (inr o) ih =
        by_fact core place x xs
        (subst (λ v. Fact core place x v) (sym (step_is core core.phase s.waits refl x))
        (by_phase core s.waits core.phase refl place o s.fits x)) ih

pub normal_is_ahead : NormalIsAhead
normal_is_ahead core items e w =
    ahead items (places.Start 0) core
    (record { waits = w; fits = subst (λ p. Fits core.position p (places.Start 0)) (sym e) tt })

pub behind_is_ahead : BehindIsAhead
behind_is_ahead core seen items e w =
    ahead items (places.Trailers Ascii seen) core
    (record {
      waits = w;
      fits = subst (λ p. Fits core.position p (places.Trailers Ascii seen)) (sym e) tt;
    })
