-- No copy of a volume of a valid set is suspect.
use Rattle.std.proofs.Common.{◌≡◌, ◌≢◌, inl, inr, ℕ, ◌+◌, ◌<◌, ◌≤◌, ◌==◌, Bool, true}
use Rattle.std.proofs.Common.{if◌then◌else◌, drop}
use Rattle.std.proofs.Common.{false, cond, List, [], ◌∷◌, ◌++◌, length, take, Some, None, refl}
use Rattle.std.proofs.Common.{sym, ap, subst, ◌∙◌, arith, nat_lt, append_assoc}
use Rattle.std.proofs.Common.{slice_get}
use Rattle.std.proofs.lemmas.Bool.Decides.{nat_tests}
use Rattle.std.specs.{List.AllByRecursion}
use Rattle.tape_image.specs.{Tape.TapeItem, Tape.block, Tape.mark, Tape.bad, Begins.image_limit}
use Rattle.tape_image.specs.Begins.{Begins, Stop}
use Rattle.tape_image.proofs.Callers.{front_of_image}
use Rattle.tape_set.specs.declared.position.Position.{Position}
use Rattle.tape_set.specs.declared.position.Position.TheVariants.{Awaits, Finished}
use Rattle.tape_set.specs.{Layout.FileSet, Layout.items, Lawful.IsLawful, Lawful.FileForm}
use Rattle.tape_set.specs.{Reach.stopped}
use Rattle.tape_core.specs.declared.event.{Answer.Answer, Phase.Phase, Heading.Heading}
use Rattle.tape_core.specs.declared.event.Phase.TheVariants.{DataWanted, TrailerWanted, Broken}
use Rattle.tape_core.specs.declared.event.Phase.TheVariants.{Header2}
use Rattle.tape_core.specs.{State.State, State.is_broken, Table.mount_of, Table.Outcome}
use Rattle.tape_core.specs.{Table.mounted, Table.at_reel_end, Table.unless_complete}
use Rattle.tape_core.specs.Table as Table
use Rattle.tape_core.specs.Wide as Wide
use Rattle.tape_core.specs.{Wide.step_by, Follows.IsAt}
use Rattle.tape_core.specs.{Follows.IsReading, Follows.Follows, Overlap.EndsSection}
use Rattle.tape_core.specs.Foreign.{IsForeignAt}
use Rattle.tape_core.proofs.Overlap.{trailers_end}
use Rattle.tape_run.specs.declared.reel_reader.ReelAnswer.{ReelAnswer}
use Rattle.tape_run.specs.Reels.{Reads, ReadsReel, behind_items, answers_to, GoesOn, delivered_by}
use Rattle.tape_run.specs.Reels.{EndedByItem}
use Rattle.tape_run.specs.Reeling.{is_suspect, counts_differ, is_no_label}
use Rattle.tape_run.specs.Mount.{MountEvent, reads, foreign_reel, saves, restarts, IsMount}
use Rattle.tape_run.specs.Mount.{IsMountOf}
use Rattle.tape_run.proofs.CopyTold.{IsInSection, step_tells, step_within}
use Rattle.tape_run.proofs.CopyAlong.{Along, starts, next, goes, first_of, item_at, none_left}
use Rattle.tape_run.proofs.CopyAlong.{Behind}

-- ---- within a section

within_stop : (sect place part n : ℕ) → stopped (Awaits sect place part) sect place n ≢ Finished
within_stop sect place part n = go (n == place)
  where
    go : (t : Bool) → (if t then Awaits sect place part else Awaits sect n 0) ≢ Finished
    go true e = cc e
    go false e = cc e

module _ (set : FileSet) (xs : List TapeItem) (h : MountEvent) (l : IsLawful set)
    (m : IsMount set xs h) where
  -- the file is not complete there
  waits_at : (file sect place part k : ℕ) (good : List Bool) (phase : Phase) (position : Position)
      → IsInSection phase → Follows set file sect place part k phase position good
      → position ≢ Finished
  waits_at file sect place part k good (DataWanted heading form seen) position i (x, d) =
      λ e. within_stop sect place part _ (sym d.awaited ∙ e)
  waits_at file sect place part k good (TrailerWanted heading form) position i (x, d) =
      λ e. within_stop sect place part _ (sym d.awaited ∙ e)
  waits_at file sect place part k good _ position i f = absurd i

  pub waits_on : (p : Position) (h : MountEvent) → IsMount set xs h → (core : State)
      (rest : List TapeItem) → p ≢ Finished → IsInSection core.phase → Along set p xs h core rest
      → core.position ≢ Finished
  waits_on Finished h m core rest waits i a = absurd (waits refl)
  waits_on (Awaits sect b part) (reads r) m core rest waits i a =
      waits_at core.file sect b part r.volume (take a.index r.good) core.phase core.position i
      a.under.follows
  waits_on (Awaits sect b part) foreign_reel m core rest waits i a =
      λ e. let x = sym a.under.0 ∙ e in cc x
  waits_on (Awaits sect b part) saves m core rest waits i a = absurd m
  waits_on (Awaits sect b part) (restarts n) m core rest waits i a = absurd m

  inside : (wide : Bool) (p : Position) (its more : List TapeItem) (core : State) → p ≢ Finished
      → Along set p xs h core (its ++ more) → AllByRecursion GoesOn (answers_to wide core its)
      → IsInSection core.phase → IsInSection (behind_items wide core its).phase
  inside wide p [] more core waits a on i = i
  inside wide p (x ∷ its) more core waits a (g, on) i =
      inside wide p its more (step_by wide core (Some x)).1 waits
      (next wide set p xs h core x (its ++ more) l m a) on
      ((step_within wide core x (waits_on p h m core (x ∷ (its ++ more)) waits i a) i).goes g)

  -- after delivered blocks
  delivered_inside : (wide : Bool) (p : Position) (its more : List TapeItem) (core : State)
      → p ≢ Finished → Along set p xs h core (its ++ more)
      → AllByRecursion GoesOn (answers_to wide core its)
      → 0 < delivered_by (answers_to wide core its)
      → IsInSection (behind_items wide core its).phase
  delivered_inside wide p [] more core waits a on some = absurd (omega (arith, some))
  delivered_inside wide p (x ∷ its) more core waits a (g, on) some =
      let new = (step_by wide core (Some x)).1 in
      let b = next wide set p xs h core x (its ++ more) l m a in
      elim g [
        | inl passed ↦ delivered_inside wide p its more new waits b on (subst
            (λ (z : Answer). 0 < delivered_by (z ∷ answers_to wide new its)) passed some)
        | inr delivers ↦ inside wide p its more new waits b on
            ((step_tells wide core x).delivers delivers)
      ]

  -- ---- the item that ends the reading

  -- no count differs
  counted : (wide : Bool) (p : Position) (core : State) (x : TapeItem) (rest : List TapeItem)
      → Along set p xs h core (x ∷ rest)
      → counts_differ (step_by wide core (Some x)).0 ≡ false
  counted wide p core x rest a = go (counts_differ (step_by wide core (Some x)).0) refl
    where
      go : (t : Bool) → counts_differ (step_by wide core (Some x)).0 ≡ t
          → counts_differ (step_by wide core (Some x)).0 ≡ false
      go false e = e
      go true e =
          let broken = (step_tells wide core x).counts e in
          let sound = (next wide set p xs h core x rest l m a).at.sound in
          absurd (let z = sym broken ∙ sound in cc z)

  by_table : (wide : Bool) (core : State) (x : TapeItem) (heading : Heading) (form : FileForm)
      → core.phase ≡ TrailerWanted heading form
      → step_by wide core (Some x) ≡ Table.step_of core (Some x)
  by_table false core x heading form e = refl
  by_table true core (block bytes) heading form e = rw e refl
  by_table true core mark heading form e = rw e refl
  by_table true core bad heading form e = rw e refl

  ends_well : (answer : Answer) → EndsSection answer → is_no_label answer ≡ false
  ends_well answer (inl e) = rw e refl
  ends_well answer (inr e) = rw e refl

  unread : (core : State) (p : Position) (heading : Heading) (form : FileForm) → p ≢ Finished
      → core.phase ≡ TrailerWanted heading form
      → is_no_label (Table.unless_complete core p (Table.at_item core core.phase bad)).0 ≡ false
  unread core Finished heading form waits e = absurd (waits refl)
  unread core (Awaits sect b part) heading form waits e = rw e refl

  -- the trailer label is one, or was not read
  labelled : (wide : Bool) (p : Position) (h : MountEvent) → IsMount set xs h → (core : State)
      (x : TapeItem) (rest : List TapeItem) (heading : Heading) (form : FileForm)
      → core.position ≢ Finished → core.phase ≡ TrailerWanted heading form → p ≢ Finished
      → Along set p xs h core (x ∷ rest)
      → is_no_label (step_by wide core (Some x)).0 ≡ false
  labelled wide p (reads r) m core x rest heading form waits e off a =
      elim (item_at set xs r a.index x rest m (first_of xs a.index x rest a.left)) [
        | inl c ↦ ap (λ (z : Outcome). is_no_label z.0) (by_table wide core x heading form e)
            ∙ ap (λ z. is_no_label (Table.step_of core (Some z)).0) (sym c.is)
            ∙ by_good c.g c.item (ap (slice_get (items set r.volume)) c.count ∙ c.stands)
        | inr b ↦ absurd (none_behind b p off a.under)
      ]
    where
      by_good : (g : Bool) (item : TapeItem)
          → slice_get (items set r.volume) (length (take a.index r.good)) ≡ Some item
          → is_no_label (Table.step_of core (Some (cond g item bad))).0 ≡ false
      by_good true item there = ends_well _ (trailers_end set p r.volume (take a.index r.good) item
          core heading form l m.is_reading.volume there a.under waits e)
      by_good false item there = unread core core.position heading form waits e

      none_behind : Behind set r a.index → (q : Position) → q ≢ Finished
          → IsReading set q r.volume (take a.index r.good) core → ⊥
      none_behind b Finished off u = off refl
      none_behind b (Awaits sect place part) off u =
          let f : Follows set core.file sect place part r.volume (TrailerWanted heading form)
          core.position (take a.index r.good) = subst (λ z. Follows set core.file sect place part
          r.volume z core.position (take a.index r.good)) e u.follows in
          none_left set r a.index _ b (omega arith) f.1.inside.left
  labelled wide p foreign_reel m core x rest heading form waits e off a =
      absurd (not_here core.position waits (subst (λ z. IsForeignAt set.set_id
      (drop a.index xs) core.position z) e a.under.1))
    where
      not_here : (q : Position) → q ≢ Finished
          → IsForeignAt set.set_id (drop a.index xs) q (TrailerWanted heading form) → ⊥
      not_here Finished waits f = waits refl
      not_here (Awaits sect b part) waits f = f
  labelled wide p saves m core x rest heading form waits e off a = absurd m
  labelled wide p (restarts n) m core x rest heading form waits e off a = absurd m

  no_label : (wide : Bool) (p : Position) (core : State) (x : TapeItem) (rest : List TapeItem)
      → p ≢ Finished → IsInSection core.phase → Along set p xs h core (x ∷ rest)
      → is_no_label (step_by wide core (Some x)).0 ≡ false
  no_label wide p core x rest off i a = go (is_no_label (step_by wide core (Some x)).0) refl
    where
      go : (t : Bool) → is_no_label (step_by wide core (Some x)).0 ≡ t
          → is_no_label (step_by wide core (Some x)).0 ≡ false
      go false e = e
      go true e =
          let waits = waits_on p h m core (x ∷ rest) off i a in
          let (heading, form, at) = (step_within wide core x waits i).label e in
          labelled wide p h m core x rest heading form waits at off a

-- ---- the end of the medium

by_end : (core : State) (phase : Phase) (p : Position)
    → Wide.by_phase core phase p None ≡ Table.step_of core None
by_end core (Header2 heading wanted) (Awaits sect b part) = refl
by_end core (Header2 heading wanted) Finished = refl
by_end core _ p = refl

end_by : (wide : Bool) (core : State) → step_by wide core None ≡ Table.step_of core None
end_by false core = refl
end_by true core = by_end core core.phase core.position

-- the answer is that of no suspect reel
abbrev IsCalm : Answer → Type 0
IsCalm answer = (counts_differ answer ≡ false) × (is_no_label answer ≡ false)

calm_phase : (core : State) (phase : Phase) → is_broken phase ≡ false
    → IsCalm (Table.at_reel_end core phase).0
calm_phase core Broken e = absurd (cc e)
calm_phase core _ e = (refl, refl)

calm_position : (core : State) (p : Position) → is_broken core.phase ≡ false
    → IsCalm (Table.unless_complete core p (Table.at_reel_end core core.phase)).0
calm_position core Finished e = (refl, refl)
calm_position core (Awaits sect b part) e = calm_phase core core.phase e

calm_end : (wide : Bool) (core : State) → is_broken core.phase ≡ false
    → IsCalm (step_by wide core None).0
calm_end wide core e = subst (λ (z : Outcome). IsCalm z.0) (sym (end_by wide core))
    (calm_position core core.position e)

sound_on : (wide : Bool) (its : List TapeItem) (core : State) → is_broken core.phase ≡ false
    → AllByRecursion GoesOn (answers_to wide core its)
    → is_broken (behind_items wide core its).phase ≡ false
sound_on wide [] core sound on = sound
sound_on wide (x ∷ its) core sound (g, on) =
    sound_on wide its (step_by wide core (Some x)).1 ((step_tells wide core x).sound g) on

mounted_sound : (set : FileSet) (core : State) → IsAt set core
    → is_broken (mount_of core).phase ≡ false
mounted_sound set core a = by core.phase core.position a.sound
  where
    by : (phase : Phase) (p : Position) → is_broken phase ≡ false
        → is_broken (mounted phase p) ≡ false
    by Broken p e = absurd (cc e)
    by _ Finished e = refl
    by _ (Awaits sect b part) e = refl

-- ---- a reel

-- an answer that is not that of a suspect reel
calm_answer : (again : Bool) (answer : ReelAnswer) → counts_differ answer.answer ≡ false
    → (0 < answer.blocks → is_no_label answer.answer ≡ false) → is_suspect again answer ≡ false
calm_answer again answer counts label = by again (nat_lt 0 answer.blocks) refl
  where
    by : (again some : Bool) → nat_lt 0 answer.blocks ≡ some → is_suspect again answer ≡ false
    by false some e = rw counts refl
    by true false e = rw (counts, e) refl
    by true true e =
        let lt : 0 < answer.blocks = grind (arith, nat_tests) in
        rw (counts, e, label lt) refl

module _ (set : FileSet) (h : MountEvent) (l : IsLawful set) (wide again : Bool)
    (core new : State) (answer : ReelAnswer) (a : IsAt set core) (off : core.position ≢ Finished)
  where
    by_end_of : (its : List TapeItem) → AllByRecursion GoesOn (answers_to wide (mount_of core) its)
        → (answer.answer, new) ≡ step_by wide (behind_items wide (mount_of core) its) None
        → is_suspect again answer ≡ false
    by_end_of its on last =
        let calm = subst IsCalm (sym (ap (λ (z : Outcome). z.0) last)) (calm_end wide
        (behind_items wide (mount_of core) its)
        (sound_on wide its (mount_of core) (mounted_sound set core a) on)) in
        calm_answer again answer calm.0 (λ some. calm.1)

    by_item : (bytes left : List ℕ) (xs : List TapeItem) (end : ℕ) (stop : Stop)
        → Begins 0 bytes xs end stop → IsMount set xs h → length bytes ≤ image_limit
        → (its : List TapeItem) → AllByRecursion GoesOn (answers_to wide (mount_of core) its)
        → answer.blocks ≡ delivered_by (answers_to wide (mount_of core) its)
        → EndedByItem wide (mount_of core) its bytes left answer new
        → is_suspect again answer ≡ false
    by_item bytes left xs end stop b m short its on blocks e =
        let n = e.taken.moves in
        let (more, is) = front_of_image bytes left (its ++ e.item ∷ []) xs e.at end stop e.taken
        (omega (arith, n, short)) b in
        let first = subst (Along set core.position xs h (mount_of core))
        (is ∙ append_assoc its (e.item ∷ []) more) (starts set core xs h l m a) in
        let there = goes wide set core.position xs h its (e.item ∷ more) (mount_of core) l m first in
        let same : (step_by wide (behind_items wide (mount_of core) its) (Some e.item)).0
        ≡ answer.answer = ap (λ (z : Outcome). z.0) (sym e.last) in
        calm_answer again answer
        (ap counts_differ (sym same) ∙ counted set xs h l m wide core.position
        (behind_items wide (mount_of core) its) e.item more there)
        (λ some. ap is_no_label (sym same) ∙ no_label set xs h l m wide core.position
        (behind_items wide (mount_of core) its) e.item more off
        (delivered_inside set xs h l m wide core.position its (e.item ∷ more) (mount_of core) off
        first on (subst (λ z. 0 < z) blocks some)) there)

    reel : (bytes left : List ℕ) → IsMountOf set bytes h → length bytes ≤ image_limit
        → ReadsReel wide (mount_of core) bytes left answer new → is_suspect again answer ≡ false
    reel bytes left (xs, end, stop, b, m) short r = elim r.ended [
      | inl e ↦ by_item bytes left xs end stop b m short r.items r.on r.blocks e
      | inr e ↦ elim e [
        | inl e ↦ by_end_of r.items r.on e.last
        | inr e ↦ by_end_of r.items r.on e.last
      ]
    ]

pub no_copy_is_suspect : (set : FileSet) (h : MountEvent) (bytes left : List ℕ) (wide again : Bool)
    (core new : State) (answer : ReelAnswer) → IsLawful set → IsMountOf set bytes h
    → length bytes ≤ image_limit → IsAt set core
    → Reads wide core.position core (mount_of core) bytes left answer new
    → is_suspect again answer ≡ false
no_copy_is_suspect set h bytes left wide again core new answer l m short a r =
    by core.position refl r
  where
    by : (p : Position) → core.position ≡ p
        → Reads wide p core (mount_of core) bytes left answer new → is_suspect again answer ≡ false
    by Finished e r =
        let complete = r.1 in
        calm_answer again answer (ap counts_differ complete) (λ some. ap is_no_label complete)
    by (Awaits sect b part) e r = reel set h l wide again core new answer a
        (λ f. let x = sym e ∙ f in cc x) bytes left m short r
