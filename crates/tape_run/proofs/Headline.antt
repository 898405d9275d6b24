-- A run is where its history leads.
use Rattle.std.proofs.Common.{◌≡◌, ℕ, ◌+◌, ◌<◌, Bool, true, false, List, [], ◌∷◌, length, map, take}
use Rattle.std.proofs.Common.{Option, Some, refl, sym, ap, subst, ◌∙◌, arith, length-append}
use Rattle.std.proofs.{Common.slice_get, lemmas.Option.slice_get-map}
use Rattle.std.proofs.lemmas.List.{map-append, take-map, length-take-le}
use Rattle.tape_set.specs.{Layout.FileSet, Lawful.IsLawful, declared.position.Position.Position}
use Rattle.tape_core.specs.{Point.Point, State.State, Stands.Stands, Stands.weight_of, Table.saved}
use Rattle.tape_core.specs.Table.{mount_of}
use Rattle.tape_run.specs.ByTable.{PassedOver}
use Rattle.tape_run.specs.Mount.{MountEvent, reads, foreign_reel, saves, restarts, IsMountOf}
use Rattle.tape_run.specs.{Mount.after_mount, History.after, History.course_of, History.IsHistory}
use Rattle.tape_run.specs.{declared.script.Step.Step, Seen.Seen, Seen.AreNotes, Seen.IsSession}
use Rattle.tape_run.specs.{Runs.Runs, Given.failed_of, Given.counted, Given.counted_up}
use Rattle.tape_run.specs.declared.script.Step.TheVariants.{Reel, Save, Restart}
use Rattle.tape_run.specs.{Headline.Ran, Headline.HasRun, Steps.Reeled, Steps.Saved, Steps.WentBack}
use Rattle.tape_core.proofs.Standing.{stood, noted}
use Rattle.tape_run.proofs.Lead.{led_nothing, led_reel, led_save, led_restart}
use Rattle.tape_run.proofs.Notes.{same_front, notes_grow, notes_push, note_at}

-- ---- one step

-- the step of a history
pub record Stepped (set : FileSet) (old : Seen) (h : MountEvent) (new : Seen) : Type 0 where
  pub session : IsSession set new
  pub same_file : new.place.file ≡ old.place.file
  pub moved : after set old.place.file (course_of old) h ≡ course_of new

course_same : (old new : Seen) (p : Position) → p ≡ new.place.position → old.notes ≡ new.notes
    → record { at = p; notes = map (λ (c : Point). c.position) old.notes } ≡ course_of new
course_same old new p e f = rw (e, f) refl

after_reel : (set : FileSet) (old new : Seen) (given : List ℕ) (h : MountEvent)
    → IsMountOf set given h
    → new.place.position ≡ after_mount set old.place.file old.place.position h
    → new.notes ≡ old.notes → after set old.place.file (course_of old) h ≡ course_of new
after_reel set old new given (reads r) m e f = course_same old new _ (sym e) (sym f)
after_reel set old new given foreign_reel m e f = course_same old new _ (sym e) (sym f)
after_reel set old new given saves (xs, end, stop, b, m) e f = absurd m
after_reel set old new given (restarts n) (xs, end, stop, b, m) e f = absurd m

-- a reel is read from its first item
pub none_over : {wide : Bool} {core : State} → PassedOver wide core [] (mount_of core)
none_over {wide} {core} = record { answers = tt; behind = refl; nothing = refl }

pub reel_steps : (set : FileSet) (old new : Seen) (bytes : List ℕ) (failed : Bool) (h : MountEvent)
    {left : Option (List ℕ)} → (r : Reeled bytes left failed old new) → IsLawful set
    → IsMountOf set r.given h → IsSession set old → Stepped set old h new
reel_steps set old new bytes failed h r l m s =
    let (xs, end, stop, b, mount) = m in
    let read = r.reads set [] xs end stop h l none_over b mount s.at in
    let notes : AreNotes set old.place.file [] old.notes new.parts =
    notes_grow set old.place.file [] old.notes old.parts new.parts r.grows s.notes in
    record {
      session = record { at = read.at; notes = rw (r.same_file, r.notes) notes };
      same_file = r.same_file;
      moved = after_reel set old new r.given h m read.position r.notes;
    }

pub save_steps : (set : FileSet) (old new : Seen) → Saved old new → IsSession set old
    → Stepped set old saves new
save_steps set old new v s =
    let c = saved old.place (weight_of old.parts) in
    let stands : Stands set old.place.file c old.parts = noted set old.place old.parts s.at in
    let notes = notes_push set old.place.file [] old.notes c old.parts stands s.notes in
    record {
      session =
          record { at = rw (v.place, v.parts) s.at; notes = rw (v.place, v.parts, v.notes) notes };
      same_file = ap (λ (p : State). p.file) v.place;
      moved = rw (v.place, v.notes, map-append (λ (c : Point). c.position) old.notes (c ∷ [])) refl;
    }

pub restart_steps : (set : FileSet) (old new : Seen) (n : ℕ) → WentBack n old new
    → IsSession set old → Stepped set old (restarts n) new
restart_steps set old new n w s =
    let note = note_at set old.place.file [] old.notes n w.point old.parts w.noted s.notes in
    let same : new.parts ≡ note.ps =
    same_front new.parts note.ps old.parts w.front note.is_front (w.weighs ∙ note.stands.staged) in
    let file : new.place.file ≡ old.place.file =
    ap (λ (p : State). p.file) w.place ∙ note.stands.of_file in
    let found : slice_get (map (λ (c : Point). c.position) old.notes) n ≡ Some w.point.position =
    slice_get-map (λ (c : Point). c.position) old.notes n ∙ rw w.noted refl in
    record {
      session =
          record {
            at = rw (w.place, same) (stood set old.place.file w.point note.ps note.stands);
            notes = rw (file, w.notes, same) note.notes_left;
          };
      same_file = file;
      moved =
          rw (found, w.place, w.notes, take-map (λ (c : Point). c.position) (n + 1) old.notes) refl;
    }

-- ---- a step and a run

pub step_then_run : (set : FileSet) (old mid new : Seen) (h : MountEvent) (hs : List MountEvent)
    → Stepped set old h mid → Ran set mid hs new → Ran set old (h ∷ hs) new
step_then_run set old mid new h hs a b = grind (arith)

nothing_ran : (set : FileSet) (old new : Seen) (bytes : List (List ℕ)) (hs : List MountEvent)
    → new ≡ old → IsHistory set (length old.notes) [] bytes hs → IsSession set old
    → Ran set old hs new
nothing_ran set old new bytes [] e h s =
    rw e (record { session = s; same_file = refl; reached = refl })
nothing_ran set old new bytes (h' ∷ hs) e h s = absurd h

reel_then : (old mid new : Seen) (steps : List Step) (b : List ℕ) (bs : List (List ℕ))
    (failed : Bool) {left : Option (List ℕ)} (r : Reeled b left failed old mid)
    (given : List (List ℕ))
    → ((set : FileSet) (hs : List MountEvent) → IsLawful set
    → IsHistory set (length mid.notes) steps given hs → IsSession set mid → Ran set mid hs new)
    → (set : FileSet) (hs : List MountEvent) → IsLawful set
    → IsHistory set (length old.notes) (Reel ∷ steps) (r.given ∷ given) hs → IsSession set old
    → Ran set old hs new
reel_then old mid new steps b bs failed r given rest set [] l h s = absurd h
reel_then old mid new steps b bs failed r given rest set (x ∷ hs) l (m, h) s =
    let step = reel_steps set old mid b failed x r l m s in
    let left : IsHistory set (length mid.notes) steps given hs = rw r.notes h in
    step_then_run set old mid new x hs step (rest set hs l left step.session)

-- All steps succeeded, and these readers failed.
abbrev pub RanSo : List Bool → Seen → List Step → List (List ℕ) → List (Option (List ℕ)) → Seen
    → Type 0
RanSo which old steps bytes left new = (run : HasRun old steps bytes left new)
    × (run.which ≡ which)

counted_more : (failed : Bool) (which : List Bool) (a b c : ℕ) → b ≡ counted failed a
    → c ≡ counted_up (failed_of which) b → c ≡ counted_up (failed_of (failed ∷ which)) a
counted_more true which a b c e f = f ∙ ap (counted_up (failed_of which)) e
counted_more false which a b c e f = f ∙ ap (counted_up (failed_of which)) e

reel_given : (which : List Bool) (old mid new : Seen) (steps : List Step) (b : List ℕ)
    (bs : List (List ℕ)) (l : Option (List ℕ)) (left : List (Option (List ℕ))) (failed : Bool)
    → Reeled b l failed old mid → RanSo which mid steps bs left new
    → RanSo (failed ∷ which) old (Reel ∷ steps) (b ∷ bs) (l ∷ left) new
reel_given which old mid new steps b bs l left failed r (rest, same) = (
  record {
    given = r.given ∷ rest.given;
    which = failed ∷ rest.which;
    are_given = (r.is_given, rest.are_given);
    count = counted_more failed rest.which old.failures mid.failures new.failures r.count
        rest.count;
    ran = reel_then old mid new steps b bs failed r rest.given rest.ran;
    led = led_reel old mid new steps b failed r rest.given rest.led;
    same_wide = rest.same_wide ∙ r.same_wide;
  },
  ap (λ w. failed ∷ w) same,
)

save_then : (old mid new : Seen) (steps : List Step) (given : List (List ℕ)) → Saved old mid
    → ((set : FileSet) (hs : List MountEvent) → IsLawful set
    → IsHistory set (length mid.notes) steps given hs → IsSession set mid → Ran set mid hs new)
    → (set : FileSet) (hs : List MountEvent) → IsLawful set
    → IsHistory set (length old.notes) (Save ∷ steps) given hs → IsSession set old
    → Ran set old hs new
save_then old mid new steps given v rest set [] l h s = absurd h
save_then old mid new steps given v rest set (x ∷ hs) l (e, h) s =
    let step = save_steps set old mid v s in
    let count : length mid.notes ≡ length old.notes + 1 =
    ap length v.notes ∙ length-append old.notes _ in
    let left : IsHistory set (length mid.notes) steps given hs = rw count h in
    rw e (step_then_run set old mid new saves hs step (rest set hs l left step.session))

pub took_so_many : {A : Type 0} (n : ℕ) (xs : List A) → n < length xs
    → length (take (n + 1) xs) ≡ n + 1
took_so_many n xs h = length-take-le (n + 1) xs (omega (arith, h))

restart_then : (old mid new : Seen) (n : ℕ) (steps : List Step) (given : List (List ℕ))
    → WentBack n old mid
    → ((set : FileSet) (hs : List MountEvent) → IsLawful set
    → IsHistory set (length mid.notes) steps given hs → IsSession set mid → Ran set mid hs new)
    → (set : FileSet) (hs : List MountEvent) → IsLawful set
    → IsHistory set (length old.notes) (Restart n ∷ steps) given hs → IsSession set old
    → Ran set old hs new
restart_then old mid new n steps given w rest set [] l h s = absurd h
restart_then old mid new n steps given w rest set (x ∷ hs) l (e, less, h) s =
    let step = restart_steps set old mid n w s in
    let count : length mid.notes ≡ n + 1 = ap length w.notes ∙ took_so_many n old.notes less in
    let left : IsHistory set (length mid.notes) steps given hs = rw count h in
    rw e (step_then_run set old mid new (restarts n) hs step (rest set hs l left step.session))

-- All steps of a run that answered Ok succeeded.
pub headline : (which : List Bool) (old new : Seen) (steps : List Step) (bytes : List (List ℕ))
    (left : List (Option (List ℕ)))
    → Runs which old steps (map Some bytes) left new → RanSo which old steps bytes left new
headline which old new [] bytes left (none, same) = (
  record {
    given = bytes;
    which = [];
    are_given = refl;
    count = ap (λ (s : Seen). s.failures) same;
    ran = λ set hs l h s. nothing_ran set old new bytes hs same h s;
    led = led_nothing old new bytes same;
    same_wide = ap (λ (s : Seen). s.wide) same;
  },
  sym none,
)
headline [] old new (Reel ∷ steps) bytes left none = absurd none
headline (failed ∷ which) old new (Reel ∷ steps) [] left none = absurd none
headline (failed ∷ which) old new (Reel ∷ steps) (b ∷ bs) [] none = absurd none
headline (failed ∷ which) old new (Reel ∷ steps) (b ∷ bs) (l ∷ left) (mid, r, runs) =
    reel_given _ _ _ _ _ _ _ _ _ _ r (headline which mid new steps bs left runs)
headline which old new (Save ∷ steps) bytes left (mid, v, runs) =
    let (rest, same) = headline which mid new steps bytes left runs in (
      record {
        given = rest.given;
        which = rest.which;
        are_given = rest.are_given;
        count = rest.count ∙ ap (counted_up (failed_of rest.which)) v.count;
        ran = save_then old mid new steps rest.given v rest.ran;
        led = led_save old mid new steps rest.given v rest.led;
        same_wide = rest.same_wide ∙ v.same_wide;
      },
      same,
    )
headline which old new (Restart n ∷ steps) bytes left (mid, w, runs) =
    let (rest, same) = headline which mid new steps bytes left runs in (
      record {
        given = rest.given;
        which = rest.which;
        are_given = rest.are_given;
        count = rest.count ∙ ap (counted_up (failed_of rest.which)) w.count;
        ran = restart_then old mid new n steps rest.given w rest.ran;
        led = led_restart old mid new n steps rest.given w rest.led;
        same_wide = rest.same_wide ∙ w.same_wide;
      },
      same,
    )

-- if all readers know their bytes
pub ran_so : (which : List Bool) (old new : Seen) (steps : List Step)
    (reels left : List (Option (List ℕ))) → Runs which old steps reels left new
    → (bytes : List (List ℕ)) → reels ≡ map Some bytes → RanSo which old steps bytes left new
ran_so which old new steps reels left runs bytes e =
    headline which old new steps bytes left
    (subst (λ (z : List (Option (List ℕ))). Runs which old steps z left new) e runs)
