-- A run is where the table leads it.
use Rattle.std.proofs.Common.{◌≡◌, ℕ, zero, suc, ◌+◌, List, [], ◌∷◌, ◌++◌, take, Some, refl, sym}
use Rattle.std.proofs.Common.{ap, ◌∙◌, arith, Bool, Option, slice_get}
use Rattle.tape_blocks.specs.Block.{Portion}
use Rattle.tape_image.specs.{Tape.TapeItem, Begins.Stop, Begins.Begins}
use Rattle.tape_core.specs.{Point.Point, State.State, Place.rest_of, Place.place_of, Weight.IsFront}
use Rattle.tape_core.specs.{Table.saved, Table.mount_of, Stands.weight_of}
use Rattle.tape_run.specs.Lead.{Noted, Lead, over_reel, over_save, back_to, AreItems, AreNoted}
use Rattle.tape_run.specs.{declared.script.Step.Step, Reels.behind_items, ByTable.delivered_parts}
use Rattle.tape_run.specs.declared.script.Step.TheVariants.{Reel, Save, Restart}
use Rattle.tape_run.specs.{Seen.Seen, Steps.Reeled, Steps.Saved, Steps.WentBack}
use Rattle.tape_run.specs.Lead.{StandsThere, LeadsBy, ItemsAreThere}
use Rattle.tape_image.proofs.{Existence.Begins-some, Uniqueness.Begins-one}
use Rattle.tape_run.proofs.Notes.{front_self, front_trans, same_front}

-- ---- notes

pub noted_grow : (front : List Portion) (ns : List Noted) (cs : List Point)
    (parts more : List Portion) → IsFront parts more → AreNoted front ns cs parts
    → AreNoted front ns cs more
noted_grow front [] [] parts more f h = front_trans front parts more h f
noted_grow front [] (c ∷ cs) parts more f h = absurd h
noted_grow front (n ∷ ns) [] parts more f h = absurd h
noted_grow front (n ∷ ns) (c ∷ cs) parts more f (a, e, rest) =
    (a, e, noted_grow n.parts ns cs parts more f rest)

noted_front : (front : List Portion) (ns : List Noted) (cs : List Point) (parts : List Portion)
    → AreNoted front ns cs parts → IsFront front parts
noted_front front [] [] parts h = h
noted_front front [] (c ∷ cs) parts h = absurd h
noted_front front (n ∷ ns) [] parts h = absurd h
noted_front front (n ∷ ns) (c ∷ cs) parts (a, e, rest) =
    front_trans front n.parts parts a (noted_front n.parts ns cs parts rest)

noted_push : (front : List Portion) (ns : List Noted) (cs : List Point) (place : State)
    (parts : List Portion) → AreNoted front ns cs parts
    → AreNoted front (ns ++ record { place = place; parts = parts } ∷ [])
    (cs ++ saved place (weight_of parts) ∷ []) parts
noted_push front [] [] place parts h = (h, refl, front_self parts)
noted_push front [] (c ∷ cs) place parts h = absurd h
noted_push front (n ∷ ns) [] place parts h = absurd h
noted_push front (n ∷ ns) (c ∷ cs) place parts (a, e, rest) =
    (a, e, noted_push n.parts ns cs place parts rest)

record NotedAt (front : List Portion) (ns : List Noted) (cs : List Point) (i : ℕ) (c : Point)
    (parts : List Portion) : Type 0 where
  note : Noted
  found : slice_get ns i ≡ Some note
  is_front : IsFront note.parts parts
  point : c ≡ saved note.place (weight_of note.parts)
  left : AreNoted front (take (i + 1) ns) (take (i + 1) cs) note.parts

noted_at : (front : List Portion) (ns : List Noted) (cs : List Point) (i : ℕ) (c : Point)
    (parts : List Portion) → slice_get cs i ≡ Some c → AreNoted front ns cs parts
    → NotedAt front ns cs i c parts
noted_at front [] [] i c parts e h = absurd (cc)
noted_at front [] (d ∷ ds) i c parts e h = absurd h
noted_at front (n ∷ ns) [] i c parts e h = absurd h
noted_at front (n ∷ ns) (d ∷ ds) zero c parts e (a, f, rest) =
    grind (arith, noted_front, front_self)
noted_at front (n ∷ ns) (d ∷ ds) (suc i) c parts e (a, f, rest) =
    grind (arith, noted_at n.parts ns ds i c parts e rest)

-- ---- one step

there_reel : (old new : Seen) (bytes : List ℕ) (failed : Bool) {left : Option (List ℕ)}
    (r : Reeled bytes left failed old new)
    (xs : List TapeItem) (end : ℕ) (stop : Stop) → Begins 0 r.given xs end stop
    → (t : Lead) → StandsThere t old → StandsThere (over_reel t xs) new
there_reel old new bytes failed r xs end stop b t s =
    let led = r.table xs end stop b in
    record {
      place = led.place
          ∙ (ap (λ (z : State). rest_of (behind_items old.wide (mount_of z) xs)) s.place
          ∙ ap (λ (w : Bool). rest_of (behind_items w (mount_of t.place) xs)) s.wide);
      parts = led.parts
          ∙ (ap (λ (l : List Portion). l ++ delivered_parts old.wide (mount_of old.place) xs)
          s.parts
          ∙ (ap (λ (z : State). t.parts ++ delivered_parts old.wide (mount_of z) xs) s.place
          ∙ ap (λ (w : Bool). t.parts ++ delivered_parts w (mount_of t.place) xs) s.wide));
      notes = rw r.notes (noted_grow [] _ _ _ _ r.grows s.notes);
      wide = r.same_wide ∙ s.wide;
    }

there_save : (old new : Seen) → Saved old new → (t : Lead) → StandsThere t old
    → StandsThere (over_save t) new
there_save old new v t s = record {
  place = v.place ∙ s.place;
  parts = v.parts ∙ s.parts;
  notes = rw (v.notes, v.parts, sym s.place, sym s.parts) (noted_push [] _ _ old.place _ s.notes);
  wide = v.same_wide ∙ s.wide;
}

there_restart : (old new : Seen) (n : ℕ) → WentBack n old new → (t : Lead) → StandsThere t old
    → StandsThere (back_to t n (slice_get t.notes n)) new
there_restart old new n w t s =
    let at = noted_at [] _ _ _ _ _ w.noted s.notes in
    let same : new.parts ≡ at.note.parts =
    same_front _ _ _ w.front at.is_front (w.weighs ∙ ap (λ (c : Point). c.staged) at.point) in
    rw at.found (record {
      place = w.place ∙ ap place_of at.point;
      parts = same;
      notes = rw (w.notes, same) at.left;
      wide = w.same_wide ∙ s.wide;
    })

-- ---- all steps

pub led_nothing : (old new : Seen) (given : List (List ℕ)) → new ≡ old → LeadsBy old [] given new
led_nothing old new given e = λ t reels a s. rw e s

pub led_reel : (old mid new : Seen) (steps : List Step) (bytes : List ℕ) (failed : Bool)
    {left : Option (List ℕ)} (r : Reeled bytes left failed old mid) (given : List (List ℕ))
    → LeadsBy mid steps given new
    → LeadsBy old (Reel ∷ steps) (r.given ∷ given) new
led_reel old mid new steps bytes failed r given rest t [] a s = absurd a
led_reel old mid new steps bytes failed r given rest t (xs ∷ reels) ((end, stop, b), a) s =
    rest (over_reel t xs) reels a (there_reel old mid bytes failed r xs end stop b t s)

pub led_save : (old mid new : Seen) (steps : List Step) (given : List (List ℕ)) → Saved old mid
    → LeadsBy mid steps given new → LeadsBy old (Save ∷ steps) given new
led_save old mid new steps given v rest t reels a s =
    rest (over_save t) reels a (there_save old mid v t s)

pub led_restart : (old mid new : Seen) (n : ℕ) (steps : List Step) (given : List (List ℕ))
    → WentBack n old mid → LeadsBy mid steps given new → LeadsBy old (Restart n ∷ steps) given new
led_restart old mid new n steps given w rest t reels a s =
    rest (back_to t n (slice_get t.notes n)) reels a (there_restart old mid n w t s)

-- ---- there are items

items_one : (given : List (List ℕ)) (reels others : List (List TapeItem)) → AreItems given reels
    → AreItems given others → others ≡ reels
items_one [] [] [] a b = refl
items_one [] [] (ys ∷ others) a b = absurd b
items_one [] (xs ∷ reels) others a b = absurd a
items_one (g ∷ given) [] others a b = absurd a
items_one (g ∷ given) (xs ∷ reels) [] a b = absurd b
items_one (g ∷ given) (xs ∷ reels) (ys ∷ others) ((end, stop, here), a) ((far, other, there), b) =
    ap (λ (l : List TapeItem). l ∷ others) (Begins-one 0 g ys xs far end other stop there here).0
    ∙ ap (λ (l : List (List TapeItem)). xs ∷ l) (items_one given reels others a b)

items_some : (given : List (List ℕ)) → (reels : List (List TapeItem)) × AreItems given reels
items_some [] = ([], tt)
items_some (g ∷ given) =
    let (xs, end, stop, b) = Begins-some 0 g (omega arith) in
    let (reels, a) = items_some given in
    (xs ∷ reels, ((end, stop, b), a))

pub items_are_there : ItemsAreThere
items_are_there given =
    let (reels, a) = items_some given in
    (reels, a, λ others b. items_one given reels others a b)
