-- Images that stay open, and are read file by file.
use Rattle.std.proofs.Common.{◌≡◌, ◌≢◌, ◌⊎◌, inl, inr, ℕ, Bool, false, List, [], ◌∷◌, ◌++◌, Option}
use Rattle.std.proofs.Common.{Some, None, refl, sym, ap, subst, ◌∙◌, true, length, arith}
use Rattle.std.proofs.Common.{length-append}
use Rattle.tape_set.specs.declared.position.{Position.TheVariants.Finished, Want.Want}
use Rattle.tape_core.specs.declared.sink.PartSink.{Ghosts}
use Rattle.tape_run.specs.ExtractingLocated.{IsHeld, Stretch, IsPartOf, AreFrom, held_behind}
use Rattle.tape_run.specs.ExtractingLocated.{ReadsPart, ReadsLocated, ReadsSections, EndsReading}
use Rattle.tape_run.specs.ExtractingLocated.{BeginsOn, NextBeginsOn, FollowsOn}
use Rattle.tape_run.specs.{Reeling.Mounting, SessionState.SessionState, SurveyLocations.Located}
use Rattle.tape_run.specs.Seen.{seen, IfSeen, IsSeen}
use Rattle.tape_run.specs.declared.extract.located.Mounted.{Mounted}
use Rattle.tape_run.proofs.LocatedParts.{follows_more}

-- ---- which images

-- whether an image is open after these stretches
abbrev pub open_behind : Bool → List Stretch → Bool
open_behind opened [] = opened
open_behind opened (s ∷ ss) = true

pub stays_open : (ss : List Stretch) → open_behind true ss ≡ true
stays_open [] = refl
stays_open (s ∷ ss) = refl

pub open_more : (opened : Bool) (ss : List Stretch) (s : Stretch)
    → open_behind opened (ss ++ s ∷ []) ≡ true
open_more opened [] s = refl
open_more opened (t ∷ ss) s = refl

-- one more stretch, of the image that was mounted or of one that the shelf gave
pub read_more : {L R : Type 0} (on : ℕ → Type 0) (gives : Mounting L R)
    (remaining : R → Option (List ℕ)) (opened : Bool) (whole : Option (List ℕ)) (shelf : L)
    (ss : List Stretch) (mid next : L) (s : Stretch)
    → AreFrom on gives remaining opened whole shelf ss mid → IsPartOf s
    → ((open_behind opened ss ≡ true) × (s.whole ≡ held_behind whole ss) × (next ≡ mid))
    ⊎ ((image : ℕ) × on image × (device : R) × gives mid image (Some device) next
    × (s.whole ≡ remaining device))
    → AreFrom on gives remaining opened whole shelf (ss ++ s ∷ []) next
read_more on gives remaining opened whole shelf [] mid next s same part (inl (is, of, left)) =
    (part, inl (is, of, left ∙ same))
read_more on gives remaining opened whole shelf [] mid next s same part
    (inr (image, is, device, gave, of)) = (
      part,
      inr (
        image,
        is,
        device,
        next,
        subst (λ z. gives z image (Some device) next) same gave,
        of,
        refl,
      ),
    )
read_more {L} {R} on gives remaining opened whole shelf (t ∷ ss) mid next s (first, are) part
    more = (
      first,
      elim are [
        | inl (is, of, behind) ↦ inl (
          is,
          of,
          read_more on gives remaining true t.whole shelf ss mid next s behind part (later more),
        )
        | inr (image, is, device, then, gave, of, behind) ↦ inr (
          image,
          is,
          device,
          then,
          gave,
          of,
          read_more on gives remaining true t.whole then ss mid next s behind part (later more),
        )
      ],
    )
  where
    later : ((true ≡ true) × (s.whole ≡ held_behind t.whole ss) × (next ≡ mid))
        ⊎ ((image : ℕ) × on image × (device : R) × gives mid image (Some device) next
        × (s.whole ≡ remaining device))
        → ((open_behind true ss ≡ true) × (s.whole ≡ held_behind t.whole ss) × (next ≡ mid))
        ⊎ ((image : ℕ) × on image × (device : R) × gives mid image (Some device) next
        × (s.whole ≡ remaining device))
    later (inl (is, of, left)) = inl (stays_open ss, of, left)
    later (inr yields) = inr yields

pub held_more : (whole : Option (List ℕ)) (ss : List Stretch) (s : Stretch)
    → held_behind whole (ss ++ s ∷ []) ≡ s.whole
held_more whole [] s = refl
held_more whole (t ∷ ss) s = held_more t.whole ss s

-- ---- calls

-- The stretches of images that have been read so far, and the image that is now open, if any.
pub record ReadSoFar {S L R : Type 0} (g : Ghosts S) (on : ℕ → Type 0) (gives : Mounting L R)
    (remaining : R → Option (List ℕ)) (session now : SessionState S) (shelf left : L)
    (opened : Bool) (whole : Option (List ℕ)) (after : Option (Mounted R)) : Type 0 where
  pub stretches : List Stretch
  pub are_read : AreFrom on gives remaining opened whole shelf stretches left
  pub held : IsHeld now.wide remaining after (held_behind whole stretches)
  pub follows : IfSeen g session (λ was. IsSeen g now (λ is. FollowsOn was stretches is))

pub nothing_read : {S L R : Type 0} (g : Ghosts S) (on : ℕ → Type 0) (gives : Mounting L R)
    (remaining : R → Option (List ℕ)) (session : SessionState S) (shelf : L) (opened : Bool)
    (whole : Option (List ℕ)) (after : Option (Mounted R))
    → IsHeld session.wide remaining after whole
    → ReadSoFar g on gives remaining session session shelf shelf opened whole after
nothing_read g on gives remaining session shelf opened whole after held = grind (arith)

pub nothing_open : {S L R : Type 0} (g : Ghosts S) (on : ℕ → Type 0) (gives : Mounting L R)
    (remaining : R → Option (List ℕ)) (session : SessionState S) (shelf : L) (opened : Bool)
    (whole : Option (List ℕ)) (after : Option (Mounted R))
    (held : IsHeld session.wide remaining after whole)
    → opened ≡ open_behind opened (nothing_read g on gives remaining session shelf opened whole
    after held).stretches
unfolding nothing_read
nothing_open g on gives remaining session shelf opened whole after held = refl

more_read : {S L R : Type 0} (g : Ghosts S) (on : ℕ → Type 0) (gives : Mounting L R)
    (remaining : R → Option (List ℕ)) (session mid new : SessionState S) (shelf left next : L)
    (opened : Bool) (whole image : Option (List ℕ)) (held after : Option (Mounted R))
    (s : ReadSoFar g on gives remaining session mid shelf left opened whole held)
    (p : ReadsPart g remaining image mid new after)
    → ((open_behind opened s.stretches ≡ true) × (image ≡ held_behind whole s.stretches)
    × (next ≡ left)) ⊎ ((number : ℕ) × on number × (device : R)
    × gives left number (Some device) next × (image ≡ remaining device))
    → ReadSoFar g on gives remaining session new shelf next opened whole after
more_read {S} {L} {R} g on gives remaining session mid new shelf left next opened whole image held
    after s p from = record {
      stretches = s.stretches ++ p.stretch ∷ [];
      are_read = read_more on gives remaining opened whole shelf s.stretches left next p.stretch
          s.are_read p.is_part (of from);
      held = subst (IsHeld new.wide remaining after)
          (sym (held_more whole s.stretches p.stretch ∙ p.of_image)) p.held;
      follows = λ parts was.
          let (now, has, f) = s.follows parts was in
          let (then, has_then, r) = p.reads now has in (
            then,
            has_then,
            follows_more (seen g session parts) s.stretches (seen g mid now) (seen g new then)
                p.stretch f r,
          );
    }
  where
    of : ((open_behind opened s.stretches ≡ true) × (image ≡ held_behind whole s.stretches)
        × (next ≡ left))
        ⊎ ((number : ℕ) × on number × (device : R) × gives left number (Some device) next
        × (image ≡ remaining device)) → ((open_behind opened s.stretches ≡ true)
        × (p.stretch.whole ≡ held_behind whole s.stretches) × (next ≡ left))
        ⊎ ((number : ℕ) × on number × (device : R) × gives left number (Some device) next
        × (p.stretch.whole ≡ remaining device))
    of (inl (is, same, left)) = inl (is, p.of_image ∙ same, left)
    of (inr (number, is, device, gave, same)) = inr (number, is, device, gave, p.of_image ∙ same)

pub located_open : {S L R : Type 0} (g : Ghosts S) (gives : Mounting L R)
    (remaining : R → Option (List ℕ)) (number : ℕ) (old new : SessionState S) (shelf left : L)
    (was opened : Bool) (whole : Option (List ℕ)) (after : Option (Mounted R)) → was ≡ opened
    → ReadsLocated g gives remaining number old new shelf left was whole after
    → ReadsLocated g gives remaining number old new shelf left opened whole after
located_open g gives remaining number old new shelf left was opened whole after same r =
    subst (λ b. ReadsLocated g gives remaining number old new shelf left b whole after) same r

-- a section was read, and its image stays mounted
pub section_read : {S L R : Type 0} (g : Ghosts S) (on : ℕ → Type 0) (gives : Mounting L R)
    (remaining : R → Option (List ℕ)) (session mid new : SessionState S) (shelf left next : L)
    (opened : Bool) (whole : Option (List ℕ)) (held after : Option (Mounted R))
    (s : ReadSoFar g on gives remaining session mid shelf left opened whole held)
    → (number : ℕ) → on number
    → ReadsLocated g gives remaining number mid new left next (open_behind opened s.stretches)
    (held_behind whole s.stretches) after
    → after ≢ None → ReadSoFar g on gives remaining session new shelf next opened whole after
section_read g on gives remaining session mid new shelf left next opened whole held after s number
    is
    (inl (is_open, same, p)) some = more_read g on gives remaining session mid new shelf left next
    opened whole (held_behind whole s.stretches) held after s p (inl (is_open, refl, same))
section_read g on gives remaining session mid new shelf left next opened whole held after s number
    is
    (inr (inl (device, gave, p))) some =
    more_read g on gives remaining session mid new shelf left next opened whole (remaining device)
    held
    after s p (inr (number, is, device, gave, refl))
section_read g on gives remaining session mid new shelf left next opened whole held after s number
    is
    (inr (inr (gave, same, none))) some = absurd (some none)

-- What was read so far is all.
pub sections_read : {S L R : Type 0} (g : Ghosts S) (gives : Mounting L R)
    (remaining : R → Option (List ℕ)) (locations : List Located) (complete : Bool)
    (session now : SessionState S) (shelf left last : L) (opened : Bool)
    (whole : Option (List ℕ)) (held after : Option (Mounted R))
    (s : ReadSoFar g (BeginsOn locations session.core) gives remaining session now shelf left opened
    whole held) → IsHeld now.wide remaining after (held_behind whole s.stretches)
    → EndsReading gives locations s.stretches now.core left last complete
    → ReadsSections g gives remaining locations complete session now shelf last opened whole after
sections_read {S} {L} {R} g gives remaining locations complete session now shelf left last opened
    whole held after s mounted ends = record {
      stretches = s.stretches;
      mid = left;
      are_from = s.are_read;
      held = mounted;
      follows = s.follows;
      ends = ends;
    }

some_more : (ss : List Stretch) (s : Stretch) → ss ++ s ∷ [] ≢ []
some_more ss s = λ e. absurd (omega (arith, ap length e, length-append ss (s ∷ [])))

-- no section ended, and no image stays open
pub section_failed : {S L R : Type 0} (g : Ghosts S) (gives : Mounting L R)
    (remaining : R → Option (List ℕ)) (locations : List Located) (session mid new : SessionState S)
    (shelf left next : L) (opened : Bool) (whole : Option (List ℕ))
    (held after : Option (Mounted R))
    (s : ReadSoFar g (BeginsOn locations session.core) gives remaining session mid shelf left opened
    whole held) (number : ℕ) → BeginsOn locations session.core number
    → NextBeginsOn locations mid.core (Some number)
    → ReadsLocated g gives remaining number mid new left next (open_behind opened s.stretches)
    (held_behind whole s.stretches) after
    → after ≡ None → new.core.position ≢ Finished
    → ReadsSections g gives remaining locations false session new shelf next opened whole after
unfolding more_read
section_failed {S} {L} {R} g gives remaining locations session mid new shelf left next opened whole
    held after s number is at (inl (is_open, same, p)) none waits =
    let t = more_read g (BeginsOn locations session.core) gives remaining session mid new shelf left
    next opened whole (held_behind whole s.stretches) held after s p (inl (is_open, refl, same)) in
    sections_read g gives remaining locations false session new shelf next next opened whole after
    after t t.held (waits, inl (refl, inr (some_more s.stretches p.stretch)))
section_failed {S} {L} {R} g gives remaining locations session mid new shelf left next opened whole
    held after s number is at (inr (inl (device, gave, p))) none waits =
    let t = more_read g (BeginsOn locations session.core) gives remaining session mid new shelf left
    next opened whole (remaining device) held after s p (inr (number, is, device, gave, refl)) in
    sections_read g gives remaining locations false session new shelf next next opened whole after
    after t t.held (waits, inl (refl, inr (some_more s.stretches p.stretch)))
section_failed {S} {L} {R} g gives remaining locations session mid new shelf left next opened whole
    held after s number is at (inr (inr (gave, same, gone))) none waits =
    subst (λ z. ReadsSections g gives remaining locations false session z shelf next opened whole
    after)
    (sym same)
    (sections_read g gives remaining locations false session mid shelf left next opened whole held
    after s
    (subst (λ m. IsHeld mid.wide remaining m (held_behind whole s.stretches)) (sym gone) tt) (
      λ e. waits (ap (λ (z : SessionState S). z.core.position) same ∙ e),
      inr (number, at, gave),
    ))

-- one more was read
pub read_some : {S L R : Type 0} (g : Ghosts S) (on : ℕ → Type 0) (gives : Mounting L R)
    (remaining : R → Option (List ℕ)) (session mid new : SessionState S) (shelf left next : L)
    (opened : Bool) (whole : Option (List ℕ)) (held after : Option (Mounted R))
    (s : ReadSoFar g on gives remaining session mid shelf left opened whole held)
    (number : ℕ) (is : on number)
    (r : ReadsLocated g gives remaining number mid new left next (open_behind opened s.stretches)
    (held_behind whole s.stretches) after) (some : after ≢ None)
    → (section_read g on gives remaining session mid new shelf left
    next opened whole held after s number is r some).stretches ≢ []
unfolding section_read more_read
read_some g on gives remaining session mid new shelf left next opened whole held after s number is
    (inl (is_open, same, p)) some = some_more s.stretches p.stretch
read_some g on gives remaining session mid new shelf left next opened whole held after s number is
    (inr (inl (device, gave, p))) some = some_more s.stretches p.stretch
read_some g on gives remaining session mid new shelf left next opened whole held after s number is
    (inr (inr (gave, same, none))) some = absurd (some none)

-- an image is open then
pub read_open : {S L R : Type 0} (g : Ghosts S) (on : ℕ → Type 0) (gives : Mounting L R)
    (remaining : R → Option (List ℕ)) (session mid new : SessionState S) (shelf left next : L)
    (opened : Bool) (whole : Option (List ℕ)) (held after : Option (Mounted R))
    (s : ReadSoFar g on gives remaining session mid shelf left opened whole held)
    (number : ℕ) (is : on number)
    (r : ReadsLocated g gives remaining number mid new left next (open_behind opened s.stretches)
    (held_behind whole s.stretches) after) (some : after ≢ None)
    → open_behind opened (section_read g on gives remaining session mid new shelf left
    next opened whole held after s number is r some).stretches ≡ true
unfolding section_read more_read
read_open g on gives remaining session mid new shelf left next opened whole held after s number is
    (inl (is_open, same, p)) some = open_more opened s.stretches p.stretch
read_open g on gives remaining session mid new shelf left next opened whole held after s number is
    (inr (inl (device, gave, p))) some = open_more opened s.stretches p.stretch
read_open g on gives remaining session mid new shelf left next opened whole held after s number is
    (inr (inr (gave, same, none))) some = absurd (some none)

-- the section of what is expected
abbrev pub wanted_sect : Option Want → ℕ
wanted_sect None = 0
wanted_sect (Some want) = want.sect

-- the file is complete, as far as it was read
pub ended_as : {S L R : Type 0} {g : Ghosts S} {gives : Mounting L R}
    {remaining : R → Option (List ℕ)} {locations : List Located} {old new : SessionState S}
    {shelf left : L} {opened : Bool} {whole : Option (List ℕ)} {after : Option (Mounted R)}
    {b is : Bool} → b ≡ is
    → ReadsSections g gives remaining locations b old new shelf left opened whole after
    → ReadsSections g gives remaining locations is old new shelf left opened whole after
ended_as {S} {L} {R} {g} {gives} {remaining} {locations} {old} {new} {shelf} {left} {opened} {whole}
    {after} same reads =
    subst (λ b. ReadsSections g gives remaining locations b old new shelf left opened whole after)
    same reads

pub not_none : {X : Type 0} (o : Option X) → Rattle.std.specs.Prelude.is_some o ≡ true → o ≢ None
not_none None some = absurd (cc)
not_none (Some x) some = λ e. cc

pub is_none_then : {X : Type 0} (o : Option X) → Rattle.std.specs.Prelude.is_some o ≡ false
    → o ≡ None
is_none_then None none = refl
is_none_then (Some x) none = absurd (cc)
