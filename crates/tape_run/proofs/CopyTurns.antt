-- Of copies of volumes of a valid set that an engine reads, one after another, none is suspect.
use Rattle.std.proofs.Common.{◌≡◌, ℕ, Bool, true, false, List, [], ◌∷◌, Option, Some, None, refl}
use Rattle.std.proofs.Common.{sym, subst, ◌∙◌}
use Rattle.std.specs.Prelude.{IfSome}
use Rattle.tape_image.proofs.Walks.{IfKnown-at}
use Rattle.tape_set.specs.{Layout.FileSet, Lawful.IsLawful}
use Rattle.tape_core.specs.{State.State, Follows.IsAt, Place.IsPlaced, Place.rest_of}
use Rattle.tape_core.specs.Table.{mount_of}
use Rattle.tape_core.proofs.Standing.{rested}
use Rattle.tape_run.specs.{Seen.Seen, Given.is_device}
use Rattle.tape_run.specs.{Reeling.Turn, Reeling.Opened, Reeling.Follows, Reeling.ReadsAndNotes}
use Rattle.tape_run.specs.{Reeling.IsNoted, Reels.Reads, Steps.Reeled}
use Rattle.tape_run.specs.CopyLaws.{IsCopyOf, AreCopiesOf, NoneIsSuspect}
use Rattle.tape_run.specs.{Given.IsGiven, Mount.MountEvent, Mount.IsMountOf, Mount.cut}
use Rattle.tape_run.proofs.{Fronts.fronts_are_mounts, CopySuspects.no_copy_is_suspect}

module _ (set : FileSet) (lawful : IsLawful set) where
  -- the session is still in the set after a reel that is not suspect
  kept : (back spares suspect saves : Bool) (mid new : Seen) → suspect ≡ false
      → IsNoted back spares suspect saves mid new → IsPlaced set mid.place mid.parts
      → IsPlaced set new.place new.parts
  kept back spares true saves mid new e n at = absurd (cc e)
  kept back spares false true mid new e n at =
      let made = n.1 in
      subst (λ z. IsPlaced set z new.parts) (sym made.place)
      (subst (λ z. IsPlaced set mid.place z) (sym made.parts) at)
  kept back spares false false mid new e n at =
      subst (λ (z : Seen). IsPlaced set z.place z.parts) (sym n.2) at

  -- what a reader returned of a mount is a mount
  returned : (bytes given : List ℕ) (left : Option (List ℕ)) (h : MountEvent) (failed : Bool)
      → IsMountOf set bytes h → IsGiven failed bytes left given
      → (k : MountEvent) × IsMountOf set given k
  returned bytes given left h false m same =
      (h, subst (λ z. IsMountOf set z h) (sym same) m)
  returned bytes given left h true m (rest, is, whole) =
      let (n, front) = fronts_are_mounts set given rest h
      (subst (λ z. IsMountOf set z h) whole m) in (cut n h, front)

  -- one reel
  pub record Calm (o : Opened) (next : State) (new : Seen) : Type 0 where
    pub calm : o.suspect ≡ false
    pub at : IsPlaced set new.place new.parts
    pub place : new.place ≡ rest_of next

  one : (back spares : Bool) (core : State) (old : Seen) (o : Opened) (next : State) (new : Seen)
      → IsPlaced set old.place old.parts → old.place ≡ rest_of core → IsCopyOf set o.had
      → ReadsAndNotes back spares core old o next new → Calm o next new
  one back spares core old o next new at same c r =
      let (left, is_left, reads) = IfKnown-at o.had o.left (λ bytes left. Reads old.wide core.position
      core (mount_of core) bytes left o.answer r.behind) c.bytes c.known r.answers in
      let here : IsAt set core = rested set core (subst (IsAt set) same at.at) in
      let calm : o.suspect ≡ false = r.doubt ∙ no_copy_is_suspect set c.mount c.bytes left old.wide
      spares core r.behind o.answer lawful c.is c.short here reads in
      let so = subst (λ (z : Option (List ℕ)). IfSome z (λ bytes. (mid : Seen)
      × Reeled bytes o.left (is_device o.answer.fault) old mid
      × IsNoted back spares o.suspect o.noted mid new)) c.known r.reeled in
      let reeled = so.1 in
      let (h, (xs, end, stop, b, m)) = returned c.bytes reeled.given o.left c.mount
      (is_device o.answer.fault) c.is reeled.is_given in
      let there = reeled.reads set [] xs end stop h lawful
      (record { answers = tt; behind = refl; nothing = refl }) b m at in
      record {
        calm = calm;
        at = kept back spares o.suspect o.noted so.0 new calm so.2 there.at;
        place = r.place;
      }

  pub none_is_suspect : (back spares : Bool) (core last : State) (old new : Seen)
      (turns : List Turn) → IsPlaced set old.place old.parts → old.place ≡ rest_of core
      → AreCopiesOf set turns → Follows back spares core old turns last new → NoneIsSuspect turns
  none_is_suspect back spares core last old new [] at same c f = tt
  none_is_suspect back spares core last old new (None ∷ turns) at same c f =
      none_is_suspect back spares core last old new turns at same c f.1
  none_is_suspect back spares core last old new (Some o ∷ turns) at same (c, cs) f =
      let (next, mid, reads, rest) = f in
      let k = one back spares core old o next mid at same c reads in
      (k.calm, none_is_suspect back spares next last mid new turns k.at k.place cs rest)
