-- A run that ended with a fault is where its earlier steps lead, or at a part that was refused.
use Rattle.std.proofs.Common.{Bool, ◌≡◌, ℕ, ◌≤◌, List, [], ◌∷◌, length, map, take, drop, Option}
use Rattle.std.proofs.Common.{Some, Result, Ok, Err, refl, sym, ap, subst, ◌∙◌, arith, IfErr}
use Rattle.std.proofs.{Common.IsErrAnd, lemmas.List.drop-map, lemmas.List.length-map}
use Rattle.tape_image.specs.{Tape.TapeItem, Begins.Stop, Begins.Begins}
use Rattle.tape_set.specs.{Layout.FileSet, Lawful.IsLawful, declared.position.Position.Position}
use Rattle.tape_core.specs.{Point.Point, State.State, Table.mount_of}
use Rattle.tape_run.specs.declared.fault.RunFault.TheVariants.{Sink, NoSuchPoint, OutOfMemory}
use Rattle.tape_run.specs.{Mount.MountEvent, Mount.IsMount, Seen.Seen, Seen.AreNotes}
use Rattle.tape_run.specs.{History.Course, History.course, History.course_of, ByTable.IsCutAt}
use Rattle.tape_run.specs.{Runs.RunsUpTo, Runs.Fails, declared.script.Step.Step}
use Rattle.tape_run.specs.declared.fault.RunFault.{RunFault}
use Rattle.tape_run.specs.declared.script.Step.TheVariants.{Reel, Save, Restart}
use Rattle.tape_run.specs.Headline.{Ran, HasStopped, StopsStep, PutRefused, reels_in}
use Rattle.tape_run.specs.Steps.{StoppedBy, CutShort, Unmoved, ReelFails, SaveFails, RestartFails}
use Rattle.tape_run.specs.Lead.{Lead, AreNoted, StandsThere, StopsBy}
use Rattle.tape_blocks.specs.Block.{Portion}
use Rattle.tape_run.proofs.{Notes.notes_grow, Headline.headline, Headline.none_over}
use Rattle.tape_run.proofs.Lead.{noted_grow}

-- ---- results

pub told_err : {A B : Type 0} (r : Result A B) (e : B) (P : B → Type 0) → IsErrAnd r (λ x. x ≡ e)
    → P e → IfErr r P
told_err (Ok x) e P h p = tt
told_err (Err x) e P h p = subst P (sym h) p

-- ---- the step that failed

-- a session that is unchanged, except for the count of refused calls, has the same position
stayed : (set : FileSet) (old mid new : Seen) (hs : List MountEvent) → Unmoved mid new
    → Ran set old hs mid → Ran set old hs new
stayed set old mid new hs u r = record {
  session = record {
    at = rw (u.place, u.parts) r.session.at;
    notes = rw (u.place, u.parts, u.notes) r.session.notes;
  };
  same_file = rw u.place r.same_file;
  reached = r.reached ∙ rw (u.place, u.notes) refl;
}

same_there : (set : FileSet) (old mid new : Seen) (hs : List MountEvent) → new ≡ mid
    → Ran set old hs mid → Ran set old hs new
same_there set old mid new hs e r = rw e r

put_refused : (set : FileSet) (old mid new : Seen) (hs : List MountEvent) (bytes : List ℕ)
    → CutShort (mount_of mid.place) bytes mid new → IsLawful set → Ran set old hs mid
    → (xs : List TapeItem) (end : ℕ) (stop : Stop) (h : MountEvent) → Begins 0 bytes xs end stop
    → IsMount set xs h → PutRefused set old hs xs h new
put_refused set old mid new hs bytes c l r xs end stop h b m =
    let there = c.stops set [] xs end stop h l none_over b m r.session.at in
    let notes : AreNotes set mid.place.file [] mid.notes new.parts =
    notes_grow set mid.place.file [] mid.notes mid.parts new.parts c.grows r.session.notes in
    let start : mid.place.position ≡ (course set old.place.file (course_of old) hs).at =
    ap (λ (z : Course). z.at) (sym r.reached) in
    record {
      session = record { at = there.at; notes = rw (c.same_file, c.notes) notes };
      same_file = c.same_file ∙ r.same_file;
      notes = rw c.notes (ap (λ (z : Course). z.notes) (sym r.reached));
      by = subst (λ (q : Position). StoppedBy set old.place.file q xs h new.place new.parts) start
          (subst (λ (f : ℕ). StoppedBy set f mid.place.position xs h new.place new.parts)
          r.same_file there);
    }

reel_stops : (set : FileSet) (old mid new : Seen) (hs : List MountEvent) (b : List ℕ)
    (bs : List (List ℕ)) (fault : RunFault)
    → ReelFails b fault mid new → IsLawful set → Ran set old hs mid
    → StopsStep set old hs Reel (b ∷ bs) fault new
reel_stops set old mid new hs b bs (Sink cause) h l r = put_refused set old mid new hs b h l r
reel_stops set old mid new hs b bs OutOfMemory h l r = same_there set old mid new hs h r
reel_stops set old mid new hs b bs _ h l r = absurd h

save_stops : (set : FileSet) (old mid new : Seen) (hs : List MountEvent) (bs : List (List ℕ))
    (fault : RunFault)
    → SaveFails fault mid new → Ran set old hs mid → StopsStep set old hs Save bs fault new
save_stops set old mid new hs bs (Sink cause) h r = stayed set old mid new hs h r
save_stops set old mid new hs bs OutOfMemory h r = same_there set old mid new hs h r
save_stops set old mid new hs bs _ h r = absurd h

noted_positions : (set : FileSet) (old mid : Seen) (hs : List MountEvent) (n : ℕ)
    → length mid.notes ≤ n → Ran set old hs mid
    → length (course set old.place.file (course_of old) hs).notes ≤ n
noted_positions set old mid hs n le r =
    let e = ap (λ (z : Course). length z.notes) r.reached in
    let m = length-map mid.notes (λ (c : Point). c.position) in
    omega (arith, le, e, m)

restart_stops : (set : FileSet) (old mid new : Seen) (hs : List MountEvent)
    (n : ℕ) (bs : List (List ℕ)) (fault : RunFault)
    → RestartFails n fault mid new → Ran set old hs mid
    → StopsStep set old hs (Restart n) bs fault new
restart_stops set old mid new hs n bs (Sink cause) h r = stayed set old mid new hs h r
restart_stops set old mid new hs n bs NoSuchPoint (le, e) r =
    (noted_positions set old mid hs n le r, same_there set old mid new hs e r)
restart_stops set old mid new hs n bs _ h r = absurd h

-- ---- by the table

still_there : (t : Lead) (old new : Seen) → new ≡ old → StandsThere t old → StandsThere t new
still_there t old new e s = subst (StandsThere t) (sym e) s

unmoved_there : (t : Lead) (old new : Seen) → Unmoved old new → StandsThere t old
    → StandsThere t new
unmoved_there t old new u s = record {
  place = u.place ∙ s.place;
  parts = u.parts ∙ s.parts;
  notes = rw (u.notes, u.parts) s.notes;
  wide = u.same_wide ∙ s.wide;
}

cut_there : (t : Lead) (old new : Seen) (bytes : List ℕ)
    → CutShort (mount_of old.place) bytes old new
    → StandsThere t old → AreNoted [] t.notes new.notes new.parts × ((xs : List TapeItem) (end : ℕ)
    (stop : Stop) → Begins 0 bytes xs end stop
    → IsCutAt t.wide xs (mount_of t.place) new.place t.parts new.parts)
cut_there t old new bytes c s = (
  subst (λ (cs : List Point). AreNoted [] t.notes cs new.parts) (sym c.notes)
      (noted_grow [] _ _ _ _ c.grows s.notes),
  λ xs end stop b. subst (λ (w : Bool). IsCutAt w xs (mount_of t.place) new.place t.parts
      new.parts) s.wide
      (subst (λ (l : List Portion). IsCutAt old.wide xs (mount_of t.place) new.place l new.parts)
      s.parts (subst (λ (z : State). IsCutAt old.wide xs (mount_of z) new.place old.parts new.parts)
      s.place (c.table xs end stop b))),
)

reel_led : (t : Lead) (old new : Seen) (b : List ℕ) (bs : List (List ℕ)) (fault : RunFault)
    → ReelFails b fault old new → StandsThere t old → StopsBy t Reel (b ∷ bs) fault new
reel_led t old new b bs (Sink cause) h s = cut_there t old new b h s
reel_led t old new b bs OutOfMemory h s = still_there t old new h s
reel_led t old new b bs _ h s = absurd h

save_led : (t : Lead) (old new : Seen) (bs : List (List ℕ)) (fault : RunFault)
    → SaveFails fault old new → StandsThere t old → StopsBy t Save bs fault new
save_led t old new bs (Sink cause) h s = unmoved_there t old new h s
save_led t old new bs OutOfMemory h s = still_there t old new h s
save_led t old new bs _ h s = absurd h

restart_led : (t : Lead) (old new : Seen) (n : ℕ) (bs : List (List ℕ)) (fault : RunFault)
    → RestartFails n fault old new → StandsThere t old → StopsBy t (Restart n) bs fault new
restart_led t old new n bs (Sink cause) h s = unmoved_there t old new h s
restart_led t old new n bs NoSuchPoint (le, e) s = still_there t old new e s
restart_led t old new n bs _ h s = absurd h

-- ---- the count of readers that failed

reel_count : (b : List ℕ) (fault : RunFault) (old new : Seen) → ReelFails b fault old new
    → new.failures ≡ old.failures
reel_count b (Sink cause) old new h = h.count
reel_count b OutOfMemory old new h = ap (λ (s : Seen). s.failures) h
reel_count b _ old new h = absurd h

save_count : (fault : RunFault) (old new : Seen) → SaveFails fault old new
    → new.failures ≡ old.failures
save_count (Sink cause) old new h = h.count
save_count OutOfMemory old new h = ap (λ (s : Seen). s.failures) h
save_count _ old new h = absurd h

restart_count : (n : ℕ) (fault : RunFault) (old new : Seen) → RestartFails n fault old new
    → new.failures ≡ old.failures
restart_count n (Sink cause) old new h = h.count
restart_count n NoSuchPoint old new h = ap (λ (s : Seen). s.failures) h.1
restart_count n _ old new h = absurd h

-- ---- for a step of any kind

fails_count : (step : Step) (bs : List (List ℕ)) (fault : RunFault) (mid new : Seen)
    → Fails step (map Some bs) fault mid new → new.failures ≡ mid.failures
fails_count Reel [] fault mid new (is, same) = ap (λ (s : Seen). s.failures) same
fails_count Reel (b ∷ bs) fault mid new h = reel_count b fault mid new h
fails_count Save bs fault mid new h = save_count fault mid new h
fails_count (Restart n) bs fault mid new h = restart_count n fault mid new h

fails_stops : (step : Step) (bs : List (List ℕ)) (fault : RunFault) (set : FileSet)
    (old mid new : Seen) (hs : List MountEvent) → Fails step (map Some bs) fault mid new
    → IsLawful set → Ran set old hs mid → StopsStep set old hs step bs fault new
fails_stops Reel [] fault set old mid new hs (is, same) l r =
    subst (λ (z : RunFault). StopsStep set old hs Reel [] z new) (sym is)
    (same_there set old mid new hs same r)
fails_stops Reel (b ∷ bs) fault set old mid new hs h l r = reel_stops _ _ _ _ _ _ bs _ h l r
fails_stops Save bs fault set old mid new hs h l r = save_stops set old mid new hs bs fault h r
fails_stops (Restart n) bs fault set old mid new hs h l r = restart_stops _ _ _ _ _ _ bs _ h r

fails_led : (step : Step) (bs : List (List ℕ)) (fault : RunFault) (t : Lead) (mid new : Seen)
    → Fails step (map Some bs) fault mid new → StandsThere t mid → StopsBy t step bs fault new
fails_led Reel [] fault t mid new (is, same) s =
    subst (λ (z : RunFault). StopsBy t Reel [] z new) (sym is) (still_there t mid new same s)
fails_led Reel (b ∷ bs) fault t mid new h s = reel_led t mid new b bs fault h s
fails_led Save bs fault t mid new h s = save_led t mid new bs fault h s
fails_led (Restart n) bs fault t mid new h s = restart_led t mid new n bs fault h s

-- A step failed, and these readers failed before.
abbrev pub StoppedSo : List Bool → Seen → List Step → List (List ℕ) → List (Option (List ℕ)) → ℕ
    → RunFault → Seen → Type 0
StoppedSo which old steps bytes left n fault new =
    (end : HasStopped old steps bytes left n fault new) × (end.which ≡ which)

-- The position that the steps before the failed one lead to, and why it failed.
stopped : (which : List Bool) (old new : Seen) (steps : List Step) (bytes : List (List ℕ))
    (unread : List (Option (List ℕ))) (n : ℕ)
    (fault : RunFault) → RunsUpTo which old steps (map Some bytes) unread n fault new
    → StoppedSo which old steps bytes unread n fault new
stopped which old new steps bytes unread n fault r =
    let left = drop (reels_in (take n steps)) bytes in
    let fails : Fails r.step (map Some left) fault r.mid new =
    subst (λ (z : List (Option (List ℕ))). Fails r.step z fault r.mid new)
    (drop-map Some (reels_in (take n steps)) bytes) r.fails in
    let (run, same) = headline _ _ _ _ _ _ r.runs in (
      record {
        step = r.step;
        at = r.at;
        given = run.given;
        which = run.which;
        are_given = run.are_given;
        count = fails_count _ _ _ _ _ fails ∙ run.count;
        stops = λ set hs l h s. fails_stops _ _ _ _ _ _ _ _ fails l (run.ran set hs l h s);
        led = λ t reels a s. fails_led _ _ _ _ _ _ fails (run.led t reels a s);
      },
      same,
    )

-- ---- the invariant of sessions is preserved

-- if all readers know their bytes
pub stopped_so : (which : List Bool) (old new : Seen) (steps : List Step)
    (reels left : List (Option (List ℕ))) (n : ℕ) (fault : RunFault)
    → RunsUpTo which old steps reels left n fault new → (bytes : List (List ℕ))
    → reels ≡ map Some bytes → StoppedSo which old steps bytes left n fault new
stopped_so which old new steps reels left n fault runs bytes e =
    stopped which old new steps bytes left n fault
    (subst (λ (z : List (Option (List ℕ))). RunsUpTo which old steps z left n fault new) e runs)
