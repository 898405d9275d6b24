-- Wrong answers that the contracts of complete readings exclude.
use Rattle.std.proofs.Common.{◌≡◌, ◌⊎◌, inl, inr, ℕ, List, [], ◌∷◌, map, Bool, false, refl, sym, ap}
use Rattle.std.proofs.Common.{◌∙◌, subst, arith, Option, Some, None, Ok, IsSome}
use Rattle.tape_blocks.specs.Block.{Portion}
use Rattle.tape_set.specs.{declared.position.Position.TheVariants.Awaits, Before.before, Reach.far}
use Rattle.tape_set.specs.{Position.part_of, Position.start, Layout.FileSet, Layout.file_of}
use Rattle.tape_set.specs.Lawful.{IsLawful}
use Rattle.tape_set.proofs.Reaching.{far_keeps_part}
use Rattle.tape_core.specs.Stands.{Stands}
use Rattle.tape_run.specs.{declared.script.Step.TheVariants.Reel, Headline.begins, Seen.seen}
use Rattle.tape_run.specs.Given.{IsGiven, AreGivenBy, counted_up, failed_of}
use Rattle.tape_run.specs.History.{Course, IsHistory, course, after}
use Rattle.tape_run.specs.Mount.{MountEvent, reads, foreign_reel, saves, restarts, IsMountOf}
use Rattle.tape_run.proofs.{Back.none_failed, Back.none_of, CrashRuns.goes_on}
use Rattle.tape_run.proofs.MistakesOfRuns.{HoldsOne}
use Rattle.tape_run.proofs.whole.resume_and_run.Reads as resume_and_run
use Rattle.tape_run.proofs.whole.read_file.Reads as read_file

-- ---- whole readings

-- a mount moves the start of a file to the start of a block
to_a_front : (set : FileSet) (file : ℕ) (bytes : List ℕ) (m : MountEvent) → IsMountOf set bytes m
    → part_of (after set file begins m).at ≡ 0
to_a_front set file bytes (reads r) m = at_front (far_keeps_part set file start r)
  where
    at_front : (far set file start r ≡ start) ⊎ (part_of (far set file start r) ≡ 0)
        → part_of (far set file start r) ≡ 0
    at_front (inl e) = ap part_of e
    at_front (inr e) = e
to_a_front set file bytes foreign_reel m = refl
to_a_front set file bytes saves (xs, end, stop, b, m) = absurd m
to_a_front set file bytes (restarts n) (xs, end, stop, b, m) = absurd m

-- the bytes that a reader returns are a copy of a volume of the set or a foreign reel: this is true
-- of the image of a volume, since each prefix of it is a truncated reading
abbrev GivesMounts : FileSet → List ℕ → Type 0
GivesMounts set bytes =
    (failed : Bool) (left : Option (List ℕ)) (given : List ℕ) → IsGiven failed bytes left given
    → (m : MountEvent) × IsMountOf set given m

-- the bytes that one reader returned
one_given : (set : FileSet) (bytes : List ℕ) (failed : List Bool)
    (left : List (Option (List ℕ))) (given : List (List ℕ))
    → GivesMounts set bytes → AreGivenBy failed (bytes ∷ []) left given
    → (m : MountEvent) × IsHistory set 0 (Reel ∷ []) given (m ∷ [])
    × ((file : ℕ) → part_of (course set file begins (m ∷ [])).at ≡ 0)
one_given set bytes [] left given all e =
    let (m, of) = all false None bytes refl in (
      m,
      subst (λ z. IsHistory set 0 (Reel ∷ []) z (m ∷ [])) (sym e) ((of, tt)),
      λ file. to_a_front set file bytes m of,
    )
one_given set bytes (f ∷ failed) [] given all a = absurd a
one_given set bytes (f ∷ failed) (l ∷ left) [] all a = absurd a
one_given set bytes (f ∷ failed) (l ∷ left) (x ∷ xs) all (is, rest) =
    let (m, of) = all f l x is in (m, (of, tt), λ file. to_a_front set file x m of)

-- partial_file_given: the sink refused part 3 of a block, but the file is returned as one that was
-- read.
partial_file_given : (R : _) (LR : _) (h : _) (d : _) (κs : _) (a : _) (session : _) (s : _)
    (set : FileSet) (bytes : List ℕ) → read_file.Learnt-named R LR h d κs a (Ok (session, Ok tt)) s
    → IsLawful set → a.1.0 ≡ set.set_id → IsSome (file_of set a.1.1.0) → GivesMounts set bytes
    → a.1.1.1.0.now ≡ Reel ∷ [] → map h.remaining a.1.1.1.1.0.now ≡ Some bytes ∷ []
    → session.core.position ≡ Awaits 1 0 3 → ⊥
partial_file_given R LR h d κs a session s set bytes k lawful id file all one known stands =
    let r = k.read (bytes ∷ []) known in
    let (m, history, front) = one_given _ _ _ _ _ all r.6.are_given in
    let steps : IsHistory set 0 a.1.1.1.0.now r.6.given (m ∷ []) = subst
    (λ v. IsHistory set 0 v r.6.given (m ∷ [])) (sym one) history in
    let c = (r.6.reads set (m ∷ []) lawful id file steps).0 in
    let n : 3 ≡ 0 = sym (ap part_of stands) ∙ sym (ap (λ v. part_of v.position) r.2) ∙ ap
    (λ v. part_of v.at) c ∙ front a.1.1.0 in
    absurd (omega (arith, n))

-- gone_on_without_reading: no reader failed, but the session is returned as it was resumed. Its
-- parts are not those before any position to which the reels lead.
gone_on_without_reading : (S : _) (R : _) (LS : _) (LR : _) (g : _) (d : _) (h : _) (e : _)
    (κs : _) (a : _) (session : _) (s : _) (set : FileSet) (held : List Portion)
    (bytes : List (List ℕ)) (hs : List MountEvent)
    → resume_and_run.Learnt-named S R LS LR g d h e κs a (session, Ok tt) s
    → g.holds a.1.1.0 held → IsLawful set → Stands set a.1.0.now.file a.1.0.now held
    → map h.remaining a.1.1.1.1.0.now ≡ map Some bytes → session.failures ≡ 0
    → HoldsOne (g.holds session.sink) → g.holds session.sink held
    → IsHistory set 0 a.1.1.1.0.now bytes hs
    → (held ≡ before set a.1.0.now.file (course set a.1.0.now.file
    (record { at = a.1.0.now.position; notes = [] }) hs).at → ⊥) → ⊥
gone_on_without_reading S R LS LR g d h e κs a session s set held bytes hs l was lawful stands
    known calm one there history other =
    let (began, from, strict, (new, has, runs)) = l.delivers held was in
    let run = runs bytes known in
    let none : failed_of run.which ≡ 0 =
    none_failed (failed_of run.which) (sym (sym calm ∙ run.count
    ∙ ap (counted_up (failed_of run.which)) from.failures)) in
    let left = map h.remaining s.1.1.1.1.0.now in
    let given : run.given ≡ bytes = none_of run.which bytes run.given left none run.are_given in
    let (at, parts) = goes_on set a.1.0.now held began (seen g session new) a.1.1.1.0.now bytes left
    hs lawful stands from run
    (subst (λ z. IsHistory set 0 a.1.1.1.0.now z hs) (sym given) history) in
    other (one held new there has ∙ parts
    ∙ ap (λ (c : Course). before set a.1.0.now.file c.at) (sym at))
