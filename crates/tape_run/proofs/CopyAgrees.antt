-- Each item of a copy agrees with what was delivered before.
use Rattle.std.proofs.Common.{◌≡◌, ◌≢◌, inl, inr, ℕ, ◌+◌, ◌<◌, Bool, List, ◌∷◌, ◌++◌, length}
use Rattle.std.proofs.Common.{take, drop, refl, sym, ap, subst, ◌∙◌, arith}
use Rattle.std.proofs.Common.{length-append, slice_get}
use Rattle.tape_image.specs.Tape.{TapeItem}
use Rattle.tape_set.specs.declared.position.Position.{Position}
use Rattle.tape_set.specs.declared.position.Position.TheVariants.{Awaits, Finished}
use Rattle.tape_set.specs.Layout.{FileSet, items, data_group, trailer_group, Section}
use Rattle.tape_set.specs.{Lawful.IsLawful, Lawful.FileForm, Reading.Reading}
use Rattle.tape_blocks.specs.Tight.{Filled}
use Rattle.tape_core.specs.declared.event.{Heading.Heading, Phase.TheVariants.DataWanted}
use Rattle.tape_core.specs.{State.State, Table.mount_of, Follows.IsReading, Follows.Follows}
use Rattle.tape_core.specs.Follows.{IsAt}
use Rattle.tape_core.specs.{Follows.to_come, Foreign.IsForeignAt, Overlap.Agrees}
use Rattle.tape_core.proofs.Overlap.{copies_agree}
use Rattle.tape_run.specs.Reels.{behind_items}
use Rattle.tape_run.specs.Mount.{MountEvent, reads, foreign_reel, saves, restarts, IsMount}
use Rattle.tape_run.proofs.CopyAlong.{Along, starts, goes, first_of, item_at, none_left, Behind}
use Rattle.tape_run.proofs.{CopySuspects.waits_on, CopyTold.IsInSection}

-- blocks that are left, and what ends their section
some_left : (blocks : List Filled) (s : Section) (more : List _)
    → 0 < length ((data_group blocks ++ trailer_group s) ++ more)
some_left blocks s more =
    let a = length-append (data_group blocks ++ trailer_group s) more in
    let b = length-append (data_group blocks) (trailer_group s) in
    omega (arith, a, b)

module _ (set : FileSet) (xs : List TapeItem) (l : IsLawful set) (p : Position) (core : State)
    (item : TapeItem) (more : List TapeItem) (heading : Heading) (form : FileForm) (count : ℕ)
    (off : p ≢ Finished) (e : core.phase ≡ DataWanted heading form count)
    (waits : core.position ≢ Finished) where
  none_behind : (r : Reading) (i : ℕ) → Behind set r i → (q : Position) → q ≢ Finished
      → IsReading set q r.volume (take i r.good) core → ⊥
  none_behind r i b Finished off u = off refl
  none_behind r i b (Awaits sect place part) off u =
      let f : Follows set core.file sect place part r.volume (DataWanted heading form count)
      core.position (take i r.good) = subst (λ z. Follows set core.file sect place part r.volume z
      core.position (take i r.good)) e u.follows in
      none_left set r i _ b (some_left f.1.blocks f.0.section (to_come f.1.inside.later))
      f.1.inside.left

  not_here : (rest : List TapeItem) (q : Position) → q ≢ Finished
      → IsForeignAt set.set_id rest q (DataWanted heading form count) → ⊥
  not_here rest Finished waits f = waits refl
  not_here rest (Awaits sect b part) waits f = f

  pub agrees : (h : MountEvent) → IsMount set xs h → Along set p xs h core (item ∷ more)
      → Agrees set core form count item
  agrees (reads r) m a =
      elim (item_at set xs r a.index item more m (first_of xs a.index item more a.left)) [
        | inl c ↦ subst (Agrees set core form count) c.is (copies_agree set p r.volume
            (take a.index r.good) c.g c.item core heading form count l m.is_reading.volume
            (ap (slice_get (items set r.volume)) c.count ∙ c.stands) a.under waits e)
        | inr b ↦ absurd (none_behind r a.index b p off a.under)
      ]
  agrees foreign_reel m a = absurd (not_here (drop a.index xs) core.position waits
      (subst (λ z. IsForeignAt set.set_id (drop a.index xs) core.position z) e a.under.1))
  agrees saves m a = absurd m
  agrees (restarts n) m a = absurd m

pub each_item_agrees : (set : FileSet) (h : MountEvent) (items more : List TapeItem)
    (item : TapeItem) (wide : Bool) (core : State) (heading : Heading) (form : FileForm) (count : ℕ)
    → IsLawful set → IsMount set (items ++ item ∷ more) h → IsAt set core
    → core.position ≢ Finished
    → (behind_items wide (mount_of core) items).phase ≡ DataWanted heading form count
    → Agrees set (behind_items wide (mount_of core) items) form count item
each_item_agrees set h its more item wide core heading form count l m at off e =
    let xs = its ++ item ∷ more in
    let mid = behind_items wide (mount_of core) its in
    let a = goes wide set core.position xs h its (item ∷ more) (mount_of core) l m
    (starts set core xs h l m at) in
    agrees set xs l core.position mid item more heading form count off e
    (waits_on set xs h l m core.position h m mid (item ∷ more) off (subst IsInSection (sym e) tt) a)
    h m a
