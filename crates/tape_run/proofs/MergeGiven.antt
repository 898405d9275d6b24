-- The bytes of an image that readers returned.
use Rattle.std.proofs.Common.{◌≡◌, ◌⊎◌, inl, inr, ℕ, List, [], ◌∷◌, Some, sym, ap, subst, ◌∙◌}
use Rattle.tape_image.specs.declared.item.ImageFault.{ImageFault}
use Rattle.tape_image.specs.{Tape.TapeItem, Reader.Reader, Reader.Status, Reader.going, Calls.Gave}
use Rattle.tape_image.specs.Step.{MeetsEnd, MeetsFault, TakesFault}
use Rattle.tape_image.proofs.Callers.{Gave-walks, give_up_to_end, give_up_to_fault}
use Rattle.tape_image.proofs.Walks.{IfKnown-at}
use Rattle.tape_run.specs.MergeLaws.{TakesAs, ReadersGiveImages}

goes_on : (items : List TapeItem) (a b : Reader) → a.status ≡ going → Gave a items b
    → b.status ≡ going
goes_on [] a b on same = ap (λ (r : Reader). r.status) same ∙ on
goes_on (x ∷ items) a b on (mid, given, then) = goes_on items mid b given.goes_on then

-- the items that a reader has returned, and the bytes that it has left
abbrev Gives : Reader → Reader → List TapeItem → List ℕ → Type 0
Gives first now items bytes = (left : List ℕ) × (now.left ≡ Some left)
    × TakesAs first.place now.status items now.place bytes left

at_end : (first behind now : Reader) (items : List TapeItem) (bytes : List ℕ)
    → first.left ≡ Some bytes → Gave first items behind → MeetsEnd behind now
    → Gives first now items bytes
at_end first behind now items bytes known gave met =
    let (ys, here, walks) = Gave-walks _ _ _ _ known gave in
    let (zs, there, takes) =
    IfKnown-at _ _ _ _ here met.takes in (
      zs,
      there,
      subst (λ (s : Status). TakesAs first.place s items now.place bytes zs) (sym met.ended)
          (give_up_to_end first behind now items bytes zs known there gave met),
    )

at_fault : (first behind now : Reader) (items : List TapeItem) (bytes : List ℕ)
    (fault : ImageFault) → first.left ≡ Some bytes → Gave first items behind
    → MeetsFault behind fault now → Gives first now items bytes
at_fault first behind now items bytes fault known gave met =
    let (ys, here, walks) = Gave-walks items first behind bytes known gave in
    let (zs, there, takes) =
    IfKnown-at behind.left now.left (TakesFault behind.place [] fault) ys here met.takes in (
      zs,
      there,
      subst (λ (s : Status). TakesAs first.place s items now.place bytes zs) (sym met.failed)
          (give_up_to_fault first behind now items fault bytes zs known there gave met),
    )

given : (first behind now : Reader) (items : List TapeItem) (bytes : List ℕ)
    → first.status ≡ going → first.left ≡ Some bytes → Gave first items behind → (now ≡ behind)
    ⊎ (MeetsEnd behind now ⊎ ((fault : ImageFault) × MeetsFault behind fault now))
    → Gives first now items bytes
given first behind now items bytes on known gave (inl e) =
    let (ys, here, walks) = Gave-walks items first behind bytes known gave in
    subst (λ (r : Reader). Gives first r items bytes) (sym e) (
      ys,
      here,
      subst (λ (s : Status). TakesAs first.place s items behind.place bytes ys)
          (sym (goes_on items first behind on gave)) walks,
    )
given first behind now items bytes on known gave (inr (inl met)) = at_end _ _ _ _ _ known gave met
given first behind now items bytes on known gave (inr (inr (fault, met))) =
    at_fault first behind now items bytes fault known gave met

pub readers_give_images : ReadersGiveImages
readers_give_images first now items bytes h on known = given _ _ _ _ _ on known h.gave h.stands
