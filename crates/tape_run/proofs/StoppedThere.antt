-- Where a session is after a fault.
use Rattle.std.proofs.Common.{◌≢◌, ℕ, Bool, List, [], ◌∷◌, Option, Some, None, IfSome, refl, ap}
use Rattle.std.proofs.Common.{◌∙◌, inr, ◌≡◌}
use Rattle.tape_blocks.specs.Block.{Portion}
use Rattle.tape_image.specs.Reader.{IfKnown}
use Rattle.tape_set.specs.declared.position.Position.TheVariants.{Finished}
use Rattle.tape_core.proofs.Crashes.{only_same}
use Rattle.tape_core.specs.{Place.rest_of, declared.sink.PartSink.Ghosts, Table.mount_of}
use Rattle.tape_run.specs.{Crash.IsWalked, Given.is_device, Reels.Reads, Seen.Seen, Seen.seen}
use Rattle.tape_run.specs.Reeling.{Opened, Follows, IsNoted, is_suspect}
use Rattle.tape_run.specs.{SessionState.SessionState, Steps.Reeled}
use Rattle.tape_run.specs.Stopping.{IsStopped, NotNoted, ReadsOnly, StopsAt}
use Rattle.tape_run.specs.{declared.fault.EngineFault.EngineFault, declared.fault.RunFault.RunFault}
use Rattle.tape_run.specs.declared.reel_reader.ReelAnswer.{ReelAnswer}
use Rattle.tape_run.specs.declared.fault.EngineFault.TheVariants.{Run}
use Rattle.tape_run.proofs.{Notes.front_self, Notes.front_trans, Shown.some_map, Turns.noted}

-- a walk over its sink leaves a session unmoved
pub stopped_walked : {S R : Type 0} (g : Ghosts S) (remaining : R → Option (List ℕ))
    (back spares : Bool) (a b : SessionState S) (held : List Portion) (fault : EngineFault)
    → g.holds a.sink held → IsWalked g a b
    → IsStopped g remaining back spares (seen g a held) None fault b
stopped_walked g remaining back spares a b held fault has walked = (
  held,
  (λ live. walked.kept held has),
  record {
    place = ap rest_of walked.core;
    parts = refl;
    notes = walked.notes;
    count = walked.failures;
    same_wide = walked.wide;
  },
)

-- a session is itself after no walk
pub session_walked : {S : Type 0} (g : Ghosts S) (a : SessionState S) → IsWalked g a a
session_walked g a = record {
  core = refl;
  notes = refl;
  failures = refl;
  wide = refl;
  kept = λ parts has. has;
  crash = λ parts has. only_same _ (g.crashes a.sink);
}

-- nothing was done
pub stopped_there : {S R : Type 0} (g : Ghosts S) (remaining : R → Option (List ℕ))
    (back spares : Bool) (a : SessionState S) (held : List Portion) (fault : EngineFault)
    → g.holds a.sink held → IsStopped g remaining back spares (seen g a held) None fault a
stopped_there g remaining back spares a held fault has = (
  held,
  (λ live. has),
  record {
    place = refl;
    parts = refl;
    notes = refl;
    count = refl;
    same_wide = refl;
  },
)

-- a reel was read, and the step after it failed
pub step_stops : {R : Type 0} (remaining : R → Option (List ℕ)) (back spares : Bool) (image : R)
    (left : Option (List ℕ)) (answer : ReelAnswer) (fault : RunFault) (old mid new : Seen)
    → IfSome (remaining image) (λ bytes. Reeled bytes left (is_device answer.fault) old mid)
    → NotNoted back (is_suspect spares answer) fault mid new
    → StopsAt remaining back spares old (Some image) (Run fault) new
step_stops remaining back spares image left answer fault old mid new r n =
    some_map (remaining image) _ _ (λ bytes s. inr (left, answer, mid, s, n)) r

-- the turn of an image that was opened
pub one_turn : {S : Type 0} (g : Ghosts S) (back spares : Bool) (a b c : SessionState S)
    (o : Opened) (held now last : List Portion) → a.core.position ≢ Finished
    → IfKnown o.had o.left (λ bytes left. Reads a.wide a.core.position a.core
    (mount_of a.core) bytes left
    o.answer b.core)
    → IfSome o.had (λ bytes. Reeled bytes o.left (is_device o.answer.fault) (seen g a held)
    (seen g b now))
    → IsNoted back spares o.suspect o.noted (seen g b now) (seen g c last)
    → o.suspect ≡ is_suspect spares o.answer
    → Follows back spares a.core (seen g a held) (Some o ∷ []) c.core (seen g c last)
one_turn g back spares a b c o held now last waits answers reeled saved doubt = (
  c.core,
  seen g c last,
  record {
    waits = waits;
    behind = b.core;
    answers = answers;
    reeled = noted back spares o.had o (seen g a held) (seen g b now) (seen g c last) reeled saved;
    doubt = doubt;
    place = refl;
  },
  (refl, refl),
)

-- ---- a session that only read on

pub reads_nothing : {S : Type 0} (g : Ghosts S) (a : SessionState S) → ReadsOnly g a a
reads_nothing g a held was = (
  held,
  was,
  record {
    grows = front_self held;
    notes = refl;
    same_set = refl;
    same_file = refl;
    kept = λ kept. kept;
    same_wide = refl;
  },
)

pub reads_then : {S : Type 0} (g : Ghosts S) (a b c : SessionState S) → ReadsOnly g a b
    → ReadsOnly g b c → ReadsOnly g a c
reads_then g a b c first then held was =
    let (mid, has_mid, one) = first held was in
    let (now, has, two) = then mid has_mid in (
      now,
      has,
      record {
        grows = front_trans held mid now one.grows two.grows;
        notes = two.notes ∙ one.notes;
        same_set = two.same_set ∙ one.same_set;
        same_file = two.same_file ∙ one.same_file;
        kept = λ kept. two.kept (one.kept kept);
        same_wide = two.same_wide ∙ one.same_wide;
      },
    )
