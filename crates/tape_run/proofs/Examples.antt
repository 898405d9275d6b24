-- The test cases for sessions and their histories.
use Rattle.std.proofs.Common.{◌≡◌, ℕ, zero, suc, List, [], ◌∷◌, ◌++◌, ◌∙◌, inr, arith, append-nil}
use Rattle.std.proofs.Common.{length, true, false, Option, Some, refl, subst, inl, slice_get}
use Rattle.std.proofs.lemmas.Option.{slice_get_within}
use Rattle.tape_image.specs.declared.item.Ending.TheVariants as endings
use Rattle.tape_image.specs.{Tape.TapeItem, Tape.block, Begins.Begins, Begins.ends}
use Rattle.tape_label.specs.{Kinds.kind_at, VolumeLabels.is_volume_label}
use Rattle.tape_label.specs.Reading.{head_at, head1_at}
use Rattle.tape_blocks.specs.Block.{Portion}
use Rattle.tape_set.specs.{declared.position.Position.Position, Reach.passes, Lawful.IsLawful}
use Rattle.tape_set.specs.Layout.{FileSet, items, entries}
use Rattle.tape_set.specs.Reading.{Reading, IsReadingOf, as_read}
use Rattle.tape_core.specs.{Point.Point, Stands.weight_of, Table.saved, Weight.IsFront}
use Rattle.tape_run.specs.{declared.fault.RunFault.RunFault, Runs.Runs, Runs.RunsUpTo, Runs.Fails}
use Rattle.tape_run.specs.{declared.script.Step.Step, History.IsHistory, Seen.Seen, Seen.IsSession}
use Rattle.tape_run.specs.{declared.fault.RunFault.TheVariants.TooFewReels, CasesOfSaves.comes_now}
use Rattle.tape_run.specs.declared.script.Step.TheVariants.{Reel, Save, Restart}
use Rattle.tape_run.specs.{Crash.IsOf, Crash.LastAlone, Headline.HasStopped, Headline.StopsStep}
use Rattle.tape_run.specs.{CrashRuns.IsPlaceOf, CasesOfRuns.CasesOfStops}
use Rattle.tape_run.specs.WorkedHistory.{worked_set, vol1, hdr1}
use Rattle.tape_run.specs.Mount.{MountEvent, foreign_reel, reads, IsMount}
use Rattle.tape_run.specs.Steps.{Reeled, ReelFails, Saved, WentBack}
use Rattle.tape_run.specs.Cases.{CasesOfMounts, CasesOfMade, CasesOfCrashes, came_by}
use Rattle.tape_run.proofs.ExamplesOfSaves.{one_note, of_one_note}
use Rattle.tape_run.proofs.Headline.{none_over}

-- ---- what may be mounted

readings : (set : FileSet) (r : Reading) → IsReadingOf set r
    → IsMount set (as_read (items set r.volume) r.good) (reads r)
readings set r is = grind (arith, append-nil)

more_behind : (set : FileSet) (r : Reading) (more : List TapeItem) → IsReadingOf set r
    → length r.good ≡ length (items set r.volume) → passes r.good (entries set r.volume) ≡ true
    → IsMount set (as_read (items set r.volume) r.good ++ more) (reads r)
more_behind set r more is all fine =
    record { is_reading = is; more = more; whole = refl; behind = λ n. (all, fine) }

pub empty_begins : Begins 0 [] [] 0 (ends endings.Physical)
empty_begins = grind (arith)

own_volume : (rest : List TapeItem)
    → IsMount worked_set (block vol1 ∷ block hdr1 ∷ rest) foreign_reel → ⊥
unfolding kind_at head_at head1_at is_volume_label
own_volume rest e = absurd (cc e)

pub cases_of_mounts : CasesOfMounts
cases_of_mounts = record {
  readings = readings;
  more_behind = more_behind;
  empty_image = λ set. ([], 0, ends endings.Physical, empty_begins, refl);
  mark_first = λ set rest. refl;
  own_volume = own_volume;
  any_stop = λ set bytes xs end stop h b m. (xs, end, stop, b, m);
  no_save = λ set xs m. m;
  no_restart = λ set xs m. m;
  cut_off = refl;
  foreign_moves_nothing = λ set p. refl;
}

-- ---- histories

-- ---- what readers gave

-- ---- the images of all volumes

-- ---- what a session is

-- ---- steps that succeeded, and runs that stopped

-- the step that is reported as failed
step_is : (step told : Step) → Some step ≡ Some told → told ≡ step
step_is step told e = cc

two_were_made : (old new : Seen) (bytes : List ℕ) (l : Option (List ℕ))
    → Runs (true ∷ []) old (Save ∷ Reel ∷ Restart 1 ∷ []) (Some bytes ∷ []) (l ∷ []) new
    → (first : Seen) × (second : Seen) × Saved old first
    × Reeled bytes l true first second × WentBack 1 second new
two_were_made old new bytes l (first, saved, (second, reeled, (last, went, (none, same)))) =
    (first, second, saved, reeled, rw same went)

second_was_not : (old new : Seen) (fault : RunFault) (bytes : List ℕ) (l : Option (List ℕ))
    → RunsUpTo (true ∷ []) old (Reel ∷ Reel ∷ Save ∷ []) (Some bytes ∷ []) (l ∷ []) 1 fault new
    → (mid : Seen) × Reeled bytes l true old mid × (fault ≡ TooFewReels) × (new ≡ mid)
second_was_not old new fault bytes l r =
    let (mid, reeled, (none, same)) = r.runs in
    let f = subst (λ z. Fails z [] fault r.mid new) (step_is Reel r.step r.at) r.fails in
    (mid, reeled, f.0, f.1 ∙ same)

third_was_not : (old new : Seen) (fault : RunFault) (bytes other : List ℕ) (l m : Option (List ℕ))
    → RunsUpTo (false ∷ []) old (Save ∷ Reel ∷ Reel ∷ []) (Some bytes ∷ Some other ∷ [])
    (l ∷ m ∷ []) 2 fault new → (first : Seen) × (mid : Seen) × Saved old first
    × Reeled bytes l false first mid × ReelFails other fault mid new
third_was_not old new fault bytes other l m r =
    let (first, saved, (mid, reeled, (none, same))) = r.runs in
    let f = subst (λ z. Fails z (Some other ∷ []) fault r.mid new) (step_is _ _ r.at) r.fails in
    (first, mid, saved, reeled, subst (λ z. ReelFails other fault z new) same f)

pub cases_of_made : CasesOfMade
cases_of_made = record {
  was_reeled = λ bytes left failed old new r. (r.is_given, r.count, r.notes, r.calm, r.grows);
  same_reader = λ bytes left failed old new r. (r.same_set, r.same_file);
  mount_was_read = λ bytes left failed old new set h r lawful (xs, end, stop, b, mount) placed.
      let by = r.reads set [] xs end stop h lawful none_over b mount placed in (by.at, by.position);
  nothing_was_made = λ which old new r. r;
  no_reel_was_there = λ failed other old new bytes l r. r.2;
  none_is_told = λ old new bytes l r. r;
  none_is_left = λ failed old new bytes r. r;
  two_were_made = two_were_made;
  second_was_not = second_was_not;
  third_was_not = third_was_not;
  none_behind = λ old new fault r. absurd (let e = r.at in cc);
  fails = λ old new fault reels. (λ f. f, λ f. f);
  was_saved = λ old new s. (s.notes, s.place, s.parts, s.count, s.calm);
  went_back = λ old new w.
      (w.noted, w.place, w.front, w.weighs, w.notes, w.count, w.calm);
  save_refused = λ cause old new f. (f.place, f.parts, f.notes, f.count);
  save_fails = λ old new. (λ x. x, λ x. x, λ x. x, λ e. e);
  restart_refused = λ cause old new f. (f.place, f.parts, f.notes, f.count);
  restart_fails = λ old new. (λ x. x, λ x. x, λ x. x);
  no_such_note = λ old new n f. f;
  reel_refused = λ cause bytes old new c. (c.grows, c.notes, c.count, c.same_file);
  stopped_by = λ set old new xs h s. (s.at, s.refused, s.awaited, s.position);
  reel_fails = λ bytes old new. (λ x. x, λ x. x, λ x. x, λ e. e);
}

stopped_so : (old new : Seen) (a b c : List ℕ) (left : List (Option (List ℕ))) (fault : RunFault)
    (set : FileSet) (hs : List MountEvent)
    (s : HasStopped old (Reel ∷ Reel ∷ Save ∷ Reel ∷ []) (a ∷ b ∷ c ∷ []) left 2 fault new)
    → IsLawful set → IsHistory set (length old.notes) (Reel ∷ Reel ∷ []) s.given hs
    → IsSession set old → StopsStep set old hs Save (c ∷ []) fault new
stopped_so old new a b c left fault set hs s lawful history is =
    subst (λ z. StopsStep set old hs z (c ∷ []) fault new) (step_is Save s.step s.at)
    (s.stops set hs lawful history is)

pub cases_of_stops : CasesOfStops
cases_of_stops = record {
  saves_stop = λ set old new hs readers. (λ x. x, λ x. x, λ x. x, λ r. r);
  reels_stop = λ set old new hs b readers. (λ x. x, λ x. x, λ x. x, λ r. r);
  no_reels_stop = λ set old new hs cause. (λ x. x, λ x. x, λ r. r);
  restarts_stop = λ set old new hs readers n. (λ x. x, λ x. x, λ x. x);
  sinks_stop = λ set old new hs readers cause. (λ r. r, λ r. r);
  part_refused = λ set old new hs xs h r.
      (r.session.at.all, r.same_file, r.by.refused, r.by.awaited, r.by.position, r.notes);
  stopped_at = λ old new bytes left fault s. (step_is Save s.step s.at, s.are_given, s.count);
  stopped_so = stopped_so;
  nothing_stops_none = λ old new bytes left n fault s.
      absurd (omega (arith, slice_get_within [] n s.step s.at));
  two_reels = refl;
  loses = ((4, refl), refl);
  mount_keeps = λ l. absurd (let e = l.0.1 in cc);
  save_keeps = λ l. absurd (let e = l.0.1 in cc);
  other_keeps = (λ l. absurd (let e = l.1 in cc), λ l. absurd (let e = l.1 in cc));
}

-- ---- crashes

its_place : (p q : Position) → IsPlaceOf (record { at = p; notes = [] }) q → q ≡ p
its_place p q (inl e) = e
its_place p q (inr (zero, e)) = absurd (cc e)
its_place p q (inr (suc n, e)) = absurd (cc e)

none_noted : (n : ℕ) (c : Point) → slice_get {X = Point} [] n ≡ Some c → ⊥
none_noted zero c e = absurd (cc e)
none_noted (suc n) c e = absurd (cc e)

of_session : (s : Seen) (back : Point) (there : List Portion) → s.notes ≡ [] → IsOf s back there
    → (back ≡ saved s.place (weight_of s.parts)) × (there ≡ s.parts)
of_session s back there none (inl here) = here
of_session s back there none (inr (n, (noted, front, weighs))) =
    absurd (none_noted n back (subst (λ notes. slice_get notes n ≡ Some back) none noted))

of_a_note : (s : Seen) (back : Point) (there : List Portion) → s.notes ≡ back ∷ []
    → IsFront there s.parts → weight_of there ≡ back.staged → IsOf s back there
of_a_note s back there one front weighs = inr ((0, (rw one refl, front, weighs)))

alone : (s : Seen) (c p : Point) (ps : List Portion) → s.notes ≡ c ∷ []
    → LastAlone (comes_now ps p) s → p ≡ c
alone s c p ps one (last, since) = (one_note s c p ps one last).0

alone_since : (s : Seen) (c p : Point) (ps : List Portion) → s.notes ≡ c ∷ []
    → LastAlone (came_by ps p) s → p ≡ c
alone_since s c p ps one (last, (t, le, since)) =
    (of_one_note s c p ps one (since p ps (le, (refl, refl)))).0

pub cases_of_crashes : CasesOfCrashes
cases_of_crashes = record {
  alone = alone;
  alone_since = alone_since;
  of_a_note = of_a_note;
  its_place = its_place;
  noted_place = inr (1, refl);
  of_session = of_session;
  of_no_step = λ s back there stood. stood;
  of_no_reel = λ s left back there stood. stood;
  of_none_left = λ s bytes back there stood. stood;
  came_back = λ old steps done bytes left given back there set hs c lawful history is.
      let stands = c.stands set hs lawful history is in (stands.0, stands.1, c.all, c.are_given);
  resumed = λ c ps s r. (r.place, r.parts, r.notes, r.failures);
  saved_life = λ set s. ((refl, tt), refl);
}
