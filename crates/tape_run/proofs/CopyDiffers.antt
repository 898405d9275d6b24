-- A copy of a volume of a valid set has no other data than a session for a file of the set.
use Rattle.std.proofs.Common.{◌≡◌, ◌<◌, ◌≤◌, ◌⊎◌, inl, inr, ℕ, ◌+◌, Bool, List, []}
use Rattle.std.proofs.Common.{◌∷◌, ◌++◌, length, take, Some, refl, sym, ap, subst, ◌∙◌}
use Rattle.std.proofs.Common.{arith, length-append, append_assoc}
use Rattle.std.proofs.lemmas.List.{length-take-le}
use Rattle.tape_image.specs.{Tape.TapeItem, Tape.block, Tape.bad, Tape.mark}
use Rattle.tape_image.specs.Begins.{image_limit}
use Rattle.tape_image.proofs.Callers.{front_of_image}
use Rattle.tape_blocks.specs.{Block.Portion}
use Rattle.tape_set.specs.declared.position.Position.TheVariants.{Awaits}
use Rattle.tape_set.specs.Layout.{FileSet, Section, section_of}
use Rattle.tape_set.specs.{Lawful.IsLawful, Before.parts_at, Before.IsIn, Before.before}
use Rattle.tape_core.specs.declared.event.{Phase.Phase}
use Rattle.tape_core.specs.declared.event.Phase.TheVariants.{DataWanted, Over}
use Rattle.tape_core.specs.{State.State, Follows.IsAt, Wide.read_as}
use Rattle.tape_core.specs.Table.{saved}
use Rattle.tape_core.specs.Place.{place_of}
use Rattle.tape_run.specs.declared.session.compared.overlap.Overlap.{Overlap}
use Rattle.tape_run.specs.declared.session.compared.overlap.Found.TheVariants.{Other}
use Rattle.tape_run.specs.{Reels.behind_items, Mount.MountEvent, Mount.IsMount, Mount.IsMountOf}
use Rattle.tape_run.specs.Comparing.{MeetAll, MeetsFront, IsBehind, IsOther, FindsAll}
use Rattle.tape_run.specs.Comparing.{core_before, had_from, up_to}
use Rattle.tape_run.proofs.{CopyAlong.Along, CopyAlong.starts, CopyHad.first_parts}
use Rattle.tape_run.proofs.CopyOverlaps.{Step, outside, walked, none_front, none_next, none_mark}
use Rattle.tape_run.proofs.CopyOverlaps.{at_end}
use Rattle.tape_run.proofs.SectionStands.{starts_out}

no_length : (left : List Portion) → length left ≡ 0 → left ≡ []
no_length [] e = refl
no_length (p ∷ left) e = absurd (omega (arith, e))

front_only : (part : ℕ) (phase : Phase) (y : TapeItem) (mid left : List Portion)
    → length mid ≤ part → MeetsFront part phase y mid left → left ≡ []
front_only part (DataWanted heading form seen) (block content) mid left few (parts, c, le, q) =
    let a : length mid ≡ length (take part parts) + length left =
    ap length q ∙ length-append (take part parts) left in
    let b = length-take-le part parts le in
    no_length left (omega (arith, a, b, few))
front_only part (DataWanted heading form seen) bad mid left few f = absurd f
front_only part (DataWanted heading form seen) mark mid left few f = absurd f
front_only part _ y mid left few f = absurd f

module _ (set : FileSet) (wide : Bool) (core : State) (sect : ℕ) (o : Overlap) (w : Section)
    (found : section_of set core.file sect ≡ Some w) (l : IsLawful set) (a : IsAt set core)
    (at : core.position ≡ Awaits sect o.block o.part) (xs : List TapeItem) (h : MountEvent)
    (m : IsMount set xs h) where
  abbrev StepTo : State → List TapeItem → List Portion → Type 0
  StepTo mid more ahead = Step set core.file sect o w found wide xs h l m mid more ahead

  begun : StepTo (core_before core) xs (had_from w o)
  begun = record {
    at = at;
    same_file = refl;
    taken = subst (λ z. Along set z xs h (core_before core) xs) at
        (starts set (place_of (saved core 0)) xs h l m (record {
          of_set = a.of_set;
          sound = refl;
          stands = a.stands;
        }));
    to_come = outside set core.file sect o w found wide xs h l m (core_before core).phase
        (had_from w o) (starts_out Over core.position (λ f. let z = sym at ∙ f in cc z)) refl;
  }

  -- the position is in the section
  within : o.part ≤ length (parts_at w.blocks o.block)
  within =
      let i : IsIn set core.file (Awaits sect o.block o.part) =
      subst (λ z. IsIn set core.file z) at a.stands.inside in
      let same : i.0 ≡ w = cc (i.1, found) in
      elim i.3 [
        | inl none ↦ omega (arith, none)
        | inr lt ↦
            let lt' : o.part < length (parts_at w.blocks o.block) =
            subst (λ (z : Section). o.part < length (parts_at z.blocks o.block)) same lt in
            omega (arith, lt')
      ]

  walked_to : (its more : List TapeItem) (left : List Portion) → xs ≡ its ++ more
      → MeetAll wide o.from (core_before core) its (had_from w o) left
      → StepTo (behind_items wide (core_before core) its) more left
  walked_to its more left is met =
      walked set core.file sect o w found wide xs h l m its more (core_before core) (had_from w o)
      left (subst (λ z. StepTo (core_before core) z (had_from w o)) is begun) met

  none_other : (mid : State) (item : TapeItem) (more : List TapeItem) (left : List Portion)
      → StepTo mid (item ∷ more) left → IsOther wide o mid item left → ⊥
  none_other mid (block content) more left s (inl (bytes, same, not, never)) =
      none_next set core.file sect o w found wide xs h l m mid content more left s mid.phase refl
      s.to_come not never
  none_other mid (block content) more left s (inr (le, there, some, off, never)) =
      none_front set core.file sect o w found wide xs h l m mid content more left s within
      mid.phase refl s.to_come le there never
  none_other mid mark more left s (inl (bytes, same, not, never)) = absurd (cc same)
  none_other mid mark more left s (inr (le, there, some, off, never)) =
      none_mark set core.file sect o w found wide xs h l m mid more left s mid.phase refl s.to_come
      le some
  none_other mid bad more left s (inl (bytes, same, not, never)) = absurd (cc same)
  none_other mid bad more left s (inr (le, there, some, off, never)) = absurd (off refl)

  none_left : (its more : List TapeItem) (mid left : List Portion) → xs ≡ its ++ more
      → MeetAll wide o.from (core_before core) its (had_from w o) mid
      → IsBehind o.block (behind_items wide (core_before core) its).phase
      → (((o.part ≡ 0) × (left ≡ mid)) ⊎ ((item : TapeItem)
      × MeetsFront o.part (behind_items wide (core_before core) its).phase
      (read_as wide (behind_items wide (core_before core) its) item) mid left)) → left ≡ []
  none_left its more mid left is met there ends =
      let s = walked_to its more mid is met in
      let few = at_end set core.file sect o w found wide xs h l m mid
      (behind_items wide (core_before core) its).phase s.to_come there in
      elim ends [
        | inl (none, same) ↦ same ∙ no_length mid (omega (arith, few, none))
        | inr (item, front) ↦
            front_only o.part (behind_items wide (core_before core) its).phase
            (read_as wide (behind_items wide (core_before core) its) item) mid left few front
      ]

pub no_copy_differs : (set : FileSet) (h : MountEvent) (bytes : List ℕ) (wide : Bool) (core : State)
    (sect : ℕ) (o : Overlap) (section : Section) → IsLawful set → IsMountOf set bytes h
    → length bytes ≤ image_limit → IsAt set core → core.position ≡ Awaits sect o.block o.part
    → section_of set core.file sect ≡ Some section
    → FindsAll wide o (core_before core) bytes Other (had_from section o) → ⊥
no_copy_differs set h bytes wide core sect o w l (xs, end, stop, b, m) short a at found other =
    elim other [
      | inl u ↦
          let n = u.taken.moves in
          let (more, is) = front_of_image bytes u.rest (u.items ++ u.item ∷ []) xs u.at end stop
          u.taken (omega (arith, n, short)) b in
          none_other set wide core sect o w found l a at xs h m
          (behind_items wide (core_before core) u.items) u.item more u.left
          (walked_to set wide core sect o w found l a at xs h m u.items (u.item ∷ more) u.left
          (is ∙ append_assoc u.items (u.item ∷ []) more) u.met) u.other
      | inr (left, some, s) ↦
          let n = s.taken.moves in
          let (more, is) = front_of_image bytes s.rest s.items xs s.at end stop s.taken
          (omega (arith, n, short)) b in
          some (none_left set wide core sect o w found l a at xs h m s.items more s.mid left is
          s.met s.there (elim s.ends [
            | inl none ↦ inl none
            | inr (item, to, rest, taken, front) ↦ inr (item, front)
          ]))
    ]

pub no_copy_differs_first : (set : FileSet) (h : MountEvent) (bytes : List ℕ) (wide : Bool)
    (core : State) (number part : ℕ) → IsLawful set → IsMountOf set bytes h
    → length bytes ≤ image_limit → IsAt set core → core.position ≡ Awaits 1 number part
    → FindsAll wide (up_to number part) (core_before core) bytes Other
    (before set core.file core.position) → ⊥
no_copy_differs_first set h bytes wide core number part l m short a at other =
    let i : IsIn set core.file (Awaits 1 number part) =
    subst (λ z. IsIn set core.file z) at a.stands.inside in
    no_copy_differs set h bytes wide core 1 (up_to number part) i.0 l m short a at i.1
    (subst (λ z. FindsAll wide (up_to number part) (core_before core) bytes Other z)
    (ap (λ z. before set core.file z) at ∙ first_parts set core.file number part i.0 i.1) other)
