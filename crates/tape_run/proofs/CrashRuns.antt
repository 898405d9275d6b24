-- The state that a crash leaves is valid.
use Rattle.std.proofs.Common.{Bool, ◌≡◌, ◌⊎◌, ℕ, List, [], ◌∷◌, ◌++◌, Option, Some, length, map}
use Rattle.std.proofs.Common.{refl, sym, ap, subst, ◌∙◌, inl, inr, slice_get}
use Rattle.std.proofs.lemmas.Option.{slice_get-map}
use Rattle.tape_blocks.specs.Block.{Portion}
use Rattle.tape_set.specs.{Layout.FileSet, Lawful.IsLawful, Before.before}
use Rattle.tape_core.specs.{Point.Point, State.State, Stands.Stands, Crash.OnlyThis, Crash.Returns}
use Rattle.tape_core.proofs.Standing.{noted}
use Rattle.tape_run.specs.CrashRuns.{IsPlaceOf, ComesBack, CrashRun, IsResumed, Outlives}
use Rattle.tape_run.specs.{Mount.MountEvent, Seen.Seen, Seen.IsSession, Runs.Runs}
use Rattle.tape_run.specs.{Crash.IsOf, Crash.StoodAt, declared.script.Step.Step}
use Rattle.tape_run.specs.declared.script.Step.TheVariants.{Reel, Save, Restart}
use Rattle.tape_run.specs.History.{Course, course, course_of, IsHistory}
use Rattle.tape_run.specs.CrashRuns.{AreHistories, ResumedGoesOn, LivesOn}
use Rattle.tape_run.proofs.{Notes.same_front, Notes.note_at, Headline.headline, Begin.is_resumed}

-- a position or checkpoint of a session is valid
of_stands : (set : FileSet) (s : Seen) (back : Point) (there : List Portion) → IsSession set s
    → IsOf s back there → Stands set s.place.file back there × IsPlaceOf (course_of s) back.position
of_stands set s back there is (inl (e, f)) =
    (rw (e, f) (noted set s.place s.parts is.at), inl (ap (λ (c : Point). c.position) e))
of_stands set s back there is (inr (n, (e, f, w))) =
    let note = note_at set s.place.file [] s.notes n back s.parts e is.notes in
    let same : there ≡ note.ps =
    same_front there note.ps s.parts f note.is_front (w ∙ note.stands.staged) in
    let found : slice_get (map (λ (c : Point). c.position) s.notes) n ≡ Some back.position =
    slice_get-map (λ (c : Point). c.position) s.notes n ∙ rw e refl in
    (rw same note.stands, inr ((n, found)))

-- some of the steps were made, and the checkpoint belongs to the session after them
record Behind (old : Seen) (steps : List Step) (reels left : List (Option (List ℕ)))
    (back : Point) (there : List Portion) : Type 0 where
  done : List Step
  rest : List Step
  all : steps ≡ done ++ rest
  mid : Seen
  which : List Bool
  runs : Runs which old done reels left mid
  is_of : IsOf mid back there

none_made : (old : Seen) (steps : List Step) (reels left : List (Option (List ℕ)))
    (back : Point) (there : List Portion)
    → IsOf old back there → Behind old steps reels left back there
none_made old steps reels left back there h =
    record {
      done = [];
      rest = steps;
      all = refl;
      mid = old;
      which = [];
      runs = (refl, refl);
      is_of = h;
    }

behind : (old : Seen) (steps : List Step) (bytes : List (List ℕ))
    (left : List (Option (List ℕ))) (back : Point) (there : List Portion)
    → StoodAt old steps (map Some bytes) left back there
    → Behind old steps (map Some bytes) left back there
behind old [] bytes left back there h = none_made old [] _ left back there h
behind old (Reel ∷ steps) [] left back there h = none_made old (Reel ∷ steps) _ left back there h
behind old (Reel ∷ steps) (b ∷ bs) [] back there h = none_made _ (Reel ∷ steps) _ [] _ _ h
behind old (Reel ∷ steps) (b ∷ bs) (l ∷ left) back there (inl h) =
    none_made old (Reel ∷ steps) _ (l ∷ left) back there h
behind old (Reel ∷ steps) (b ∷ bs) (l ∷ left) back there (inr (failed, mid, r, h)) =
    let n = behind mid steps bs left back there h in
    record {
      done = Reel ∷ n.done;
      rest = n.rest;
      all = ap (λ (l : List Step). Reel ∷ l) n.all;
      mid = n.mid;
      which = failed ∷ n.which;
      runs = (mid, r, n.runs);
      is_of = n.is_of;
    }
behind old (Save ∷ steps) bytes left back there (inl h) = none_made _ (Save ∷ steps) _ left _ _ h
behind old (Save ∷ steps) bytes left back there (inr (mid, v, h)) =
    let n = behind mid steps bytes left back there h in
    record {
      done = Save ∷ n.done;
      rest = n.rest;
      all = ap (λ (l : List Step). Save ∷ l) n.all;
      mid = n.mid;
      which = n.which;
      runs = (mid, v, n.runs);
      is_of = n.is_of;
    }
behind old (Restart k ∷ steps) bytes left back there (inl h) =
    none_made old (Restart k ∷ steps) _ left back there h
behind old (Restart k ∷ steps) bytes left back there (inr (mid, w, h)) =
    let n = behind mid steps bytes left back there h in
    record {
      done = Restart k ∷ n.done;
      rest = n.rest;
      all = ap (λ (l : List Step). Restart k ∷ l) n.all;
      mid = n.mid;
      which = n.which;
      runs = (mid, w, n.runs);
      is_of = n.is_of;
    }

pub comes_back : (old : Seen) (steps : List Step) (bytes : List (List ℕ))
    (left : List (Option (List ℕ))) (back : Point) (there : List Portion)
    → StoodAt old steps (map Some bytes) left back there
    → (done : List Step) × (given : List (List ℕ))
    × ComesBack old steps done bytes left given back there
comes_back old steps bytes left back there h =
    let b = behind old steps bytes left back there h in
    let run = (headline b.which old b.mid b.done bytes left b.runs).0 in (
      b.done,
      run.given,
      record {
        rest = b.rest;
        all = b.all;
        which = run.which;
        are_given = run.are_given;
        stands = λ set hs l hist s.
            let r = run.ran set hs l hist s in
            let (stands, place) = of_stands set b.mid back there r.session b.is_of in (
              subst (λ (f : ℕ). Stands set f back there) r.same_file stands,
              subst (λ (c : Course). IsPlaceOf c back.position) (sym r.reached) place,
            );
      },
    )

resumed_session : (set : FileSet) (c : Point) (ps : List Portion) (s : Seen) → IsResumed c ps s
    → Stands set c.file c ps → IsSession set s
resumed_session set c ps s r st =
    let at = is_resumed set c s.place s.failures s.refusals s.wide s.notes ps r.place r.notes st in
    subst (λ (l : List Portion). IsSession set (record {
      place = s.place;
      parts = l;
      notes = s.notes;
      failures = s.failures;
      refusals = s.refusals;
      wide = s.wide;
    })) (sym r.parts) at

-- the state that one run leaves is valid
one_life : (set : FileSet) (c : Point) (ps : List Portion) (life : CrashRun) (hs : List MountEvent)
    (back : Point) (there : List Portion)
    → IsLawful set → Stands set c.file c ps → IsResumed c ps life.began
    → IsHistory set 0 life.done life.given hs → ((back ≡ c) × (there ≡ ps))
    ⊎ ComesBack life.began life.steps life.done life.bytes life.left life.given back there
    → Stands set c.file back there
one_life set c ps life hs back there l st r h (inl (e, f)) = rw (e, f) st
one_life set c ps life hs back there l st r h (inr b) =
    let none : length life.began.notes ≡ 0 = ap length r.notes in
    let file : life.began.place.file ≡ c.file = ap (λ (p : State). p.file) r.place in
    let (stands, place) =
    b.stands set hs l (subst (λ (n : ℕ). IsHistory set n life.done life.given hs) (sym none) h)
    (resumed_session set c ps life.began r st) in
    subst (λ (f : ℕ). Stands set f back there) file stands

pub across : (set : FileSet) (c : Point) (ps : List Portion) (lives : List CrashRun)
    (hss : List (List MountEvent)) (back : Point) (there : List Portion)
    → IsLawful set → Stands set c.file c ps
    → Outlives c ps lives back there → AreHistories set lives hss → Stands set c.file back there
across set c ps [] hss back there l st (e, f) h = rw (e, f) st
across set c ps (life ∷ lives) [] back there l st o h = absurd h
across set c ps (life ∷ lives) (hs ∷ hss) back there l st (r, (mid, front, how, left)) (h, more) =
    let there_now = one_life set c ps life hs mid front l st r h how in
    let file : mid.file ≡ c.file = there_now.of_file in
    let next = across set mid front lives hss back there l
    (subst (λ (f : ℕ). Stands set f mid front) (sym file) there_now) left more in
    subst (λ (f : ℕ). Stands set f back there) file next

-- one run, up to the state that a crash left
one_more_life : (c : Point) (ps : List Portion) (s : Seen) (steps : List Step)
    (reels left : List (Option (List ℕ))) (bytes : List (List ℕ))
    (old : Point → List Portion → Type 0) (back : Point) (there : List Portion)
    → IsResumed c ps s → reels ≡ map Some bytes
    → OnlyThis c ps old → old back there ⊎ StoodAt s steps reels left back there
    → (life : CrashRun) × (life.steps ≡ steps) × (life.bytes ≡ bytes) × (life.left ≡ left)
    × Outlives c ps (life ∷ []) back there
one_more_life c ps s steps reels left bytes old back there r e only (inl h) = (
  record { began = s; steps = steps; bytes = bytes; left = left; done = []; given = bytes },
  refl,
  refl,
  refl,
  (r, (back, there, inl (only back there h), (refl, refl))),
)
one_more_life c ps s steps reels left bytes old back there r e only (inr h) =
    let (done, given, b) = comes_back s steps bytes left back there
    (subst (λ (z : List (Option (List ℕ))). StoodAt s steps z left back there) e h) in (
      record { began = s; steps = steps; bytes = bytes; left = left; done = done; given = given },
      refl,
      refl,
      refl,
      (r, (back, there, inr b, (refl, refl))),
    )

pub lives_on : (c : Point) (ps : List Portion) (s : Seen) (steps : List Step)
    (reels left : List (Option (List ℕ))) (bytes : List (List ℕ)) (old new : Returns)
    → IsResumed c ps s → reels ≡ map Some bytes
    → ((back : Point) (there : List Portion) → new back there
    → old back there ⊎ StoodAt s steps reels left back there)
    → LivesOn c ps steps bytes left old new
lives_on c ps s steps reels left bytes old new r e adds only back there h =
    one_more_life c ps s steps reels left bytes old back there r e only (adds back there h)

pub goes_on : ResumedGoesOn
goes_on set c ps s new steps bytes left hs l st r h hist =
    let none : length s.notes ≡ 0 = ap length r.notes in
    let file : s.place.file ≡ c.file = ap (λ (p : State). p.file) r.place in
    let from : course_of s ≡ record { at = c.position; notes = [] } =
    rw (r.place, r.notes) refl in
    let ran = h.ran set hs l (subst (λ (n : ℕ). IsHistory set n steps h.given hs) (sym none) hist)
    (resumed_session set c ps s r st) in (
      sym (ap (λ (f : ℕ). course set f (course_of s) hs) file
          ∙ ap (λ (z : Course). course set c.file z hs) from) ∙ ran.reached,
      ran.session.at.all ∙ ap (λ (f : ℕ). before set f new.place.position) (ran.same_file ∙ file),
    )
