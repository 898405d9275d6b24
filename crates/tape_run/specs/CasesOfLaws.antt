-- What a caller can conclude from each law, which shows that the premises of each law can be true.
-- They are the contract of the call `laws::cases`.
use Rattle.std.specs.Prelude.{◌≡◌, ℕ, true, false, List, [], ◌∷◌, ◌++◌, length, map, Option, Some}
use Rattle.std.specs.{Prelude.None, Prelude.IsSome, Prelude.Bool, List.AllByRecursion}
use Rattle.tape_image.specs.Tape.{TapeItem}
use Rattle.tape_blocks.specs.Block.{Portion}
use Rattle.tape_set.specs.Layout.{FileSet, nth, file_of, sections, items, on}
use Rattle.tape_set.specs.{Lawful.IsLawful, Before.before, Reach.far, Reading.Reading}
use Rattle.tape_core.specs.{declared.sink.SinkFault.SinkFault, Point.Point, Stands.Stands}
use Rattle.tape_run.specs.declared.fault.RunFault.TheVariants.{Sink, NoSuchPoint, TooFewReels}
use Rattle.tape_run.specs.CrashRuns.{StoodComesBack, StandsAcrossCrashes, ComesBack, CrashRun}
use Rattle.tape_run.specs.WholeReels.{WholeSetIsTold, GoodWasSeen, AreWholeCopies, IsToldWhole}
use Rattle.tape_run.specs.WholeSet.{HasEach, AreAllGood, behind_copies, WholeVolumeIsGood}
use Rattle.tape_run.specs.WholeSet.{WholeSetIsGood, WholeSetLacksNothing, WholeSetIsFound}
use Rattle.tape_run.specs.declared.fault.RunFault.TheVariants.{OutOfMemory, OtherFile}
use Rattle.tape_run.specs.CrashRuns.{Outlives, AreHistories, IsResumed, ResumedGoesOn}
use Rattle.tape_run.specs.{WholeReels.IsShownOn, Added.Adds, Checked.IsReport, Given.AreGivenBy}
use Rattle.tape_run.specs.WholeSet.{WholeCopiesAreAdded, IsWholeCopy, IsNoDevice}
use Rattle.tape_run.specs.{declared.script.Step.Step, Fronts.FrontsAreMounts, Fronts.GivenIsHistory}
use Rattle.tape_run.specs.{declared.script.Step.TheVariants.Reel, Lead.AreItems, Lead.ItemsAreThere}
use Rattle.tape_run.specs.{declared.fault.RunFault.RunFault, Listing.OneListing, Listing.IsListing}
use Rattle.tape_run.specs.{declared.section.ImageLine.ImageLine, Noted.noted_all, Noted.StandsIn}
use Rattle.tape_run.specs.declared.section.SectionState.TheVariants.{Good, Cut}
use Rattle.tape_run.specs.{CasesOfCatalogues.met, OneEntry.HasOneEach, OneEntry.OneEntryASection}
use Rattle.tape_run.specs.{Crash.StoodAt, Mount.MountEvent, Mount.IsMountOf, Mount.cut, Mount.reads}
use Rattle.tape_run.specs.{History.IsHistory, Runs.RunsUpTo, Runs.OnlyRefusalsStop, Runs.IsRefusal}
use Rattle.tape_run.specs.Headline.{HasRun}
use Rattle.tape_run.specs.{Seen.Seen, Passing.Told, Passing.met_in, Shown.Shown, Shown.GoodAreShown}
use Rattle.tape_run.specs.Lacks.{LackIsFirst, IsFoundWhole, IsFirstLack, lack_of, found_all}
use Rattle.tape_run.specs.Checked as checked

-- of laws of runs
pub record CasesOfRunLaws : Type 0 where
  pub a_front : FrontsAreMounts → (set : FileSet) (front rest : List ℕ) (h : MountEvent)
      → IsMountOf set (front ++ rest) h → (n : ℕ) × IsMountOf set front (cut n h)
  pub what_was_given : GivenIsHistory → (set : FileSet) (steps : List Step)
      (bytes given : List (List ℕ)) (left : List (Option (List ℕ))) (hs : List MountEvent)
      → IsHistory set 0 steps bytes hs → AreGivenBy (true ∷ false ∷ true ∷ []) bytes left given
      → (others : List MountEvent) × IsHistory set 0 steps given others
  pub a_refusal : OnlyRefusalsStop → (which : List Bool) (old new : Seen) (steps : List Step)
      (bytes : List (List ℕ)) (left : List (Option (List ℕ))) (n : ℕ) (fault : RunFault)
      (set : FileSet) (hs : List MountEvent)
      → RunsUpTo which old steps (map Some bytes) left n fault new
      → IsHistory set (length old.notes) steps bytes hs → IsRefusal fault
  pub refusals : (cause : SinkFault) → IsRefusal (Sink cause) × IsRefusal OutOfMemory
  pub no_refusals : (IsRefusal NoSuchPoint → ⊥) × (IsRefusal TooFewReels → ⊥)
      × (IsRefusal OtherFile → ⊥)
  pub came_back : StoodComesBack → (old : Seen) (steps : List Step) (bytes : List (List ℕ))
      (left : List (Option (List ℕ))) (back : Point) (there : List Portion)
      → StoodAt old steps (map Some bytes) left back there
      → (done : List Step) × (given : List (List ℕ))
      × ComesBack old steps done bytes left given back there
  pub one_crash : StandsAcrossCrashes → (set : FileSet) (c back : Point) (ps there : List Portion)
      (life : CrashRun) (hs : List MountEvent) → IsLawful set → Stands set c.file c ps
      → Outlives c ps (life ∷ []) back there → AreHistories set (life ∷ []) (hs ∷ [])
      → Stands set c.file back there
  pub went_on : ResumedGoesOn → (set : FileSet) (c : Point) (ps : List Portion) (began new : Seen)
      (bytes : List ℕ) (left : List (Option (List ℕ))) (r : Reading) → IsLawful set
      → Stands set c.file c ps
      → IsResumed c ps began → (run : HasRun began (Reel ∷ []) (bytes ∷ []) left new)
      → IsHistory set 0 (Reel ∷ []) run.given (reads r ∷ [])
      → (new.place.position ≡ far set c.file c.position r)
      × (new.parts ≡ before set c.file new.place.position)
  pub items_are : ItemsAreThere → (bytes : List ℕ)
      → (reels : List (List TapeItem)) × AreItems (bytes ∷ []) reels
  -- a run begins with the checkpoint and parts that existed, ends with those that a crash leaves,
  -- and has the history of the returned bytes
  pub no_life : (c : Point) (ps : List Portion) → Outlives c ps [] c ps
  pub one_life : (c back : Point) (ps there : List Portion) (life : CrashRun)
      → IsResumed c ps life.began
      → ComesBack life.began life.steps life.done life.bytes life.left life.given back there
      → Outlives c ps (life ∷ []) back there
  pub read_life : (set : FileSet) (s : Seen) (bytes given : List ℕ) (h : MountEvent)
      → IsMountOf set given h → AreHistories set (record {
        began = s;
        steps = Reel ∷ [];
        bytes = bytes ∷ [];
        left = None ∷ [];
        done = Reel ∷ [];
        given = given ∷ [];
      } ∷ []) ((h ∷ []) ∷ [])

-- laws about catalogues and reports
pub record CasesOfCatalogueLaws : Type 0 where
  pub none_lacks : LackIsFirst → (c : List Told) (id : List ℕ) (file : ℕ)
      → lack_of c id file ≡ None → IsFoundWhole c id file
  pub first_lacks : LackIsFirst → (c : List Told) (id : List ℕ) (file sect : ℕ)
      → lack_of c id file ≡ Some sect → IsFirstLack c id file sect
  pub volume_is_good : WholeVolumeIsGood → (set : FileSet) (k : ℕ) → IsLawful set
      → IsSome (nth set.volumes k)
      → AreAllGood set (noted_all [] (met_in (items set k))) (on k (sections set))
  pub set_is_good : WholeSetIsGood → (set : FileSet) (ks : List ℕ) (c : List Told) → IsLawful set
      → HasEach set ks → AreAllGood set (behind_copies set c ks) (sections set)
  pub set_lacks_none : WholeSetLacksNothing → (set : FileSet) (ks : List ℕ) → IsLawful set
      → HasEach set ks → IsSome (file_of set 1)
      → lack_of (behind_copies set [] ks) set.set_id 1 ≡ None
  pub set_is_found : WholeSetIsFound → (set : FileSet) (ks : List ℕ) → IsLawful set
      → HasEach set ks → IsSome (file_of set 1) → found_all (behind_copies set [] ks) ≡ true
  pub copy_is_added : WholeCopiesAreAdded → (set : FileSet) (k : ℕ) (xs : List ℕ)
      (after : Option (List ℕ)) (line : ImageLine) (new : List Told) → IsWholeCopy set k xs
      → IsNoDevice line.stop → Adds (Some xs) after [] line new
      → new ≡ noted_all [] (met_in (items set k))
  pub set_is_told : WholeSetIsTold → (set : FileSet) (ks : List ℕ) (reels : List checked.Reel)
      (text : List ℕ) (found : Bool) (report : IsReport reels text found) → IsLawful set
      → HasEach set ks → IsSome (file_of set 1) → AreWholeCopies set reels report.lines ks
      → IsToldWhole set report.lines text found
  pub good_was_seen : GoodWasSeen → (reels : List checked.Reel) (text : List ℕ) (found : Bool)
      (report : IsReport reels text found) (t : Told) → StandsIn report.sections t
      → t.1.state ≡ Good → IsShownOn reels t
  pub good_are_shown : GoodAreShown → (items : List TapeItem)
      → AllByRecursion (λ t. t.1.state ≡ Good → Shown items t.0 t.1) (met_in items)
  pub a_listing : OneListing → (bytes : List ℕ) → (text : List ℕ) × IsListing bytes text
  pub one_listing : OneListing → (bytes text other : List ℕ) → IsListing bytes text
      → IsListing bytes other → text ≡ other
  -- one entry for each section: two entries of different sections are possible, two of one section
  -- are not
  pub two_entries : HasOneEach (met 1 1 false Good ∷ met 1 2 true Cut ∷ [])
  pub twice : HasOneEach (met 1 1 false Good ∷ met 1 1 false Cut ∷ []) → ⊥
  pub one_entry : OneEntryASection → (before after : Option (List ℕ)) (new : List Told)
      (line : ImageLine) → Adds before after [] line new → HasOneEach new
