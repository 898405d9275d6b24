-- The example set if a reader fails, if a part is refused, and if the session is resumed on another
-- day.
use Rattle.std.proofs.Common.{◌≡◌, ◌≤◌, ℕ, zero, suc, ◌+◌, List, [], ◌∷◌, true, false, refl, sym}
use Rattle.std.proofs.Common.{ap, ◌∙◌, subst, inl, lit≤, arith, take, Option, Some, length, Bool}
use Rattle.std.proofs.{Common.replicate, Common.min, lemmas.List.take_all}
use Rattle.std.proofs.lemmas.Option.{slice_get_within}
use Rattle.std.specs.Prelude.{⊤}
use Rattle.tape_set.proofs.Worked as w
use Rattle.tape_set.proofs.{Worked.made_form, WorkedFile.fit_of}
use Rattle.tape_set.proofs.WorkedSpan as sp
use Rattle.tape_set.specs.{declared.position.Position.Position, Before.before, Lawful.TellsForm}
use Rattle.tape_set.specs.{declared.position.Position.TheVariants.Finished, Reach.far}
use Rattle.tape_set.specs.Layout.{Section, section_of}
use Rattle.tape_set.specs.Position.{start, at_part, want_at}
use Rattle.tape_core.specs.{Stands.Stands, declared.sink.SinkFault.SinkFault}
use Rattle.tape_run.specs.{declared.script.Step.Step, declared.fault.RunFault.TheVariants.Sink}
use Rattle.tape_run.specs.{declared.script.Step.TheVariants.Reel, Seen.Seen, Seen.IsSession}
use Rattle.tape_run.specs.{CrashRuns.IsResumed, Given.AreGivenBy, Given.failed_of, Given.counted_up}
use Rattle.tape_run.specs.{Mount.MountEvent, Mount.IsMountOf, Mount.reads, Mount.cut, Back.reels_of}
use Rattle.tape_run.specs.History.{Course, course, course_of, IsHistory}
use Rattle.tape_run.specs.Headline.{begins, HasRun, HasStopped, StopsStep}
use Rattle.tape_run.specs.WorkedHistory.{worked_set, section_1, section_2, first, reel_1, reading}
use Rattle.tape_run.specs.WorkedDays.{DaysAreWorked, IsWhole, once, twice, two_reels, behind_one}
use Rattle.tape_run.proofs.{Back.none_of, CrashRuns.goes_on, Fronts.fronts_are_mounts}
use Rattle.tape_run.proofs.{WorkedHistory.is_lawful, WorkedReels.whole_1, WorkedReels.whole_2}

-- ---- wherever volume 1, or volume 2, was cut

abbrev vol_1 : MountEvent
vol_1 = reads (reading 1 (replicate 11 true))

abbrev vol_2 : MountEvent
vol_2 = reads (reading 2 (replicate 10 true))

-- P is true of the numbers below k
abbrev AllBelow : ℕ → (ℕ → Type 0) → Type 0
AllBelow zero P = ⊤
AllBelow (suc k) P = P 0 × AllBelow k (λ n. P (suc n))

-- a property that all numbers below k and all others have is a property of every number
each : (k : ℕ) (P : ℕ → Type 0) → AllBelow k P → ((n : ℕ) → k ≤ n → P n) → (n : ℕ) → P n
each zero P all more n = more n (omega arith)
each (suc k) P (now, later) more zero = now
each (suc k) P (now, later) more (suc n) =
    each k (λ m. P (suc m)) later (λ m le. more (suc m) (omega (arith, le))) n

-- the position after volume 1 was read up to n items, from the start, as a part of a block
abbrev behind_1 : ℕ → ℕ → Position
behind_1 n part = at_part part (far worked_set 1 start (reading 1 (take n (replicate 11 true))))

-- After such a part both volumes complete the file.
abbrev Completes : ℕ → Type 0
Completes n = (part : ℕ)
    → far worked_set 1 (far worked_set 1 (behind_1 n part) (reading 1 (replicate 11 true)))
    (reading 2 (replicate 10 true)) ≡ Finished

all_completes : (n : ℕ) → 11 ≤ n → Completes n
all_completes n le part = grind (arith)

completes : (n : ℕ) → Completes n
completes =
    let r : ℕ → Finished ≡ Finished = λ p. refl in
    each 11 Completes (r, (r, (r, (r, (r, (r, (r, (r, (r, (r, (r, tt))))))))))) all_completes

-- ---- a reader that failed

-- the events; event k, counted from 0, is cut after n items
abbrev cut_one : ℕ → ℕ → List MountEvent → List MountEvent
cut_one k n [] = []
cut_one zero n (h ∷ hs) = cut n h ∷ hs
cut_one (suc k) n (h ∷ hs) = h ∷ cut_one k n hs

-- if one reader failed, one of the events is cut
one_cut : (which : List Bool) (bytes given : List (List ℕ)) (left : List (Option (List ℕ)))
    (hs : List MountEvent)
    → IsHistory worked_set 0 (reels_of bytes) bytes hs → failed_of which ≡ 1
    → AreGivenBy which bytes left given
    → (k : ℕ) × (n : ℕ) × IsHistory worked_set 0 (reels_of bytes) given (cut_one k n hs)
one_cut [] bytes given left hs is one a = absurd (omega (arith, one))
one_cut (f ∷ which) [] given left hs is one a = absurd a
one_cut (f ∷ which) (b ∷ bytes) given [] hs is one a = absurd a
one_cut (f ∷ which) (b ∷ bytes) [] (l ∷ left) hs is one a = absurd a
one_cut (f ∷ which) (b ∷ bytes) (g ∷ given) (l ∷ left) [] is one a = absurd is
one_cut (false ∷ which) (b ∷ bytes) (g ∷ given) (l ∷ left) (h ∷ hs) (mount, rest) one (same, more) =
    let next = one_cut which bytes given left hs rest one more in
    (suc next.0, next.1, (subst (λ z. IsMountOf worked_set z h) (sym same) mount, next.2))
one_cut (true ∷ which) (b ∷ bytes) (g ∷ given) (l ∷ left) (h ∷ hs) (mount, rest) one
    ((over, told, is), more) =
    let front = fronts_are_mounts worked_set g over h
    (subst (λ z. IsMountOf worked_set z h) is mount) in
    let all : given ≡ bytes = none_of which bytes given left (omega (arith, one)) more in
    let same : IsHistory worked_set 0 (reels_of bytes) given hs =
    subst (λ z. IsHistory worked_set 0 (reels_of bytes) z hs) (sym all) rest in
    (0, front.0, (front.1, same))

abbrev four_volumes : List MountEvent
four_volumes = vol_1 ∷ vol_2 ∷ vol_1 ∷ vol_2 ∷ []

abbrev ends_with : List MountEvent → Position
ends_with hs = (course worked_set 1 begins hs).at

abbrev EndsSoon : ℕ → ℕ → Type 0
EndsSoon k n = ends_with (cut_one k n four_volumes) ≡ Finished

first_cut : (n : ℕ) → EndsSoon 0 n
first_cut = each 11 (EndsSoon 0)
    (refl, (refl, (refl, (refl, (refl, (refl, (refl, (refl, (refl, (refl, (refl, tt)))))))))))
    (λ n le. ap (λ g. ends_with (reads (reading 1 g) ∷ vol_2 ∷ vol_1 ∷ vol_2 ∷ []))
    (take_all n (replicate 11 true) le))

second_cut : (n : ℕ) → EndsSoon 1 n
second_cut = each 11 (EndsSoon 1)
    (refl, (refl, (refl, (refl, (refl, (refl, (refl, (refl, (refl, (refl, (refl, tt)))))))))))
    (λ n le. ap (λ g. ends_with (vol_1 ∷ reads (reading 2 g) ∷ vol_1 ∷ vol_2 ∷ []))
    (take_all n (replicate 10 true) (omega (arith, le))))

ends_soon : (k n : ℕ) → EndsSoon k n
ends_soon zero n = first_cut n
ends_soon (suc zero) n = second_cut n
ends_soon (suc (suc zero)) n = refl
ends_soon (suc (suc (suc zero))) n = refl
ends_soon (suc (suc (suc (suc k)))) n = refl

counts_up : (n c : ℕ) → c ≤ 18446744073709551615 → c ≤ counted_up n c
counts_up zero c le = omega arith
counts_up (suc n) c le =
    let next = counts_up n (min (c + 1) 18446744073709551615) (omega arith) in
    omega (arith, next, le)

one_failed : (n : ℕ) → 1 ≡ counted_up n 0 → n ≡ 1
one_failed zero e = absurd (omega (arith, e))
one_failed (suc zero) e = refl
one_failed (suc (suc n)) e = absurd (let two = counts_up n 2 (lit≤ tt) in omega (arith, two, e))

-- ---- a part that was refused

step_is : (step : Step) → Some Reel ≡ Some step → Reel ≡ step
step_is step e = cc

-- the only step failed
at_first : (old mid : Seen) (n : ℕ) (cause : SinkFault) (left : List (Option (List ℕ)))
    → HasStopped old (Reel ∷ []) (reel_1 ∷ []) left n (Sink cause) mid → IsSession worked_set old
    → StopsStep worked_set old [] Reel (reel_1 ∷ []) (Sink cause) mid
at_first old mid zero cause left halt fresh =
    subst (λ z. StopsStep worked_set old [] z (reel_1 ∷ []) (Sink cause) mid)
    (sym (step_is halt.step halt.at)) (halt.stops worked_set [] is_lawful tt fresh)
at_first old mid (suc n) cause left halt fresh =
    absurd (omega (arith, slice_get_within (Reel ∷ []) (suc n) halt.step halt.at))

none_up : (n c : ℕ) → 0 ≡ counted_up n c → n ≡ 0
none_up zero c e = refl
none_up (suc n) c e = absurd
    (let h = counts_up n (min (c + 1) 18446744073709551615) (omega arith) in omega (arith, e, h))

-- ---- another day

some_is : (s t : Section) → Some s ≡ Some t → s ≡ t
some_is s t e = cc

tells : (sect : ℕ) (s : Section) → section_of worked_set 1 sect ≡ Some s
    → TellsForm (w.form sp.shape) s
tells zero s e = absurd (cc)
tells (suc zero) s e = subst (TellsForm (w.form sp.shape)) (some_is section_1 s e)
    (made_form sp.shape 1 1 1 false (sp.first_block ∷ sp.middle_block ∷ []) sp.shape_fits
    (fit_of 1 2 (lit≤ tt) (lit≤ tt) (lit≤ tt))
    (sp.first_written.holds, (sp.middle_written.holds, tt))).labels
tells (suc (suc zero)) s e = subst (TellsForm (w.form sp.shape)) (some_is section_2 s e)
    (made_form sp.shape 2 1 2 true (sp.last_block ∷ []) sp.shape_fits
    (fit_of 2 1 (lit≤ tt) (lit≤ tt) (lit≤ tt)) (sp.last_written.holds, tt)).labels
tells (suc (suc (suc n))) s e = absurd (cc)

stands_there : Stands worked_set 1 behind_one (first ∷ [])
stands_there = record {
  of_set = refl;
  of_file = refl;
  there = record {
    inside = (section_1, refl, lit≤ tt, inl refl);
    span = refl;
    tells = (w.form sp.shape, refl, tells);
  };
  all = refl;
  staged = refl;
}

resumed : (began new : Seen) (left : List (Option (List ℕ)))
    → IsResumed behind_one (first ∷ []) began
    → HasRun began two_reels once left new → new.failures ≡ 0 → IsWhole new
resumed began new left from ran none =
    let no_failure : failed_of ran.which ≡ 0 =
    none_up (failed_of ran.which) began.failures (sym none ∙ ran.count) in
    let given : ran.given ≡ once =
    none_of ran.which once ran.given left no_failure ran.are_given in
    let both = vol_1 ∷ vol_2 ∷ [] in
    let (there, parts) = goes_on worked_set behind_one (first ∷ []) began new two_reels once left
    both is_lawful stands_there from ran
    (subst (λ z. IsHistory worked_set 0 two_reels z both) (sym given) (whole_1, (whole_2, tt))) in
    let end : new.place.position ≡ Finished = sym (ap (λ (c : Course). c.at) there) in
    record { all = parts ∙ ap (before worked_set 1) end; no_want = ap (want_at 1) end }

pub are_worked : DaysAreWorked
are_worked = record {
  failed_reader = λ s left r one.
      let count : failed_of r.which ≡ 1 = one_failed (failed_of r.which) (sym one ∙ r.count) in
      let h = one_cut r.which twice r.given left four_volumes
      (whole_1, (whole_2, (whole_1, (whole_2, tt)))) count r.are_given in
      let (there, parts) = r.reads worked_set (cut_one h.0 h.1 four_volumes) is_lawful refl refl
      h.2 in
      let end = ends_soon h.0 h.1 in
      record {
        all = parts ∙ ap (before worked_set 1) end;
        no_want = ap (λ (c : Course). want_at 1 c.at) there ∙ ap (want_at 1) end;
      };
  refused_part = λ old mid new n cause left over begun halt ran none.
      let fresh = begun.each worked_set is_lawful refl refl in
      let put = at_first _ _ _ _ _ halt fresh.session whole_1.0 whole_1.1 whole_1.2 vol_1 whole_1.3
      whole_1.4 in
      let cut_1 = reading 1 (take put.by.n (replicate 11 true)) in
      let at : mid.place.position ≡ behind_1 put.by.n put.by.part =
      put.by.position ∙ (ap (λ f. at_part put.by.part (far worked_set f (course_of old).at cut_1))
      fresh.its_file ∙ ap (λ (c : Course). at_part put.by.part (far worked_set 1 c.at cut_1))
      fresh.course) in
      let file : mid.place.file ≡ 1 = put.same_file ∙ fresh.its_file in
      let no_failure : failed_of ran.which ≡ 0 =
      none_up (failed_of ran.which) mid.failures (sym none ∙ ran.count) in
      let given : ran.given ≡ once =
      none_of _ _ _ _ no_failure ran.are_given in
      let both = vol_1 ∷ vol_2 ∷ [] in
      let r = ran.ran worked_set both is_lawful (subst
      (λ z. IsHistory worked_set (length mid.notes) two_reels z both) (sym given)
      (whole_1, (whole_2, tt))) put.session in
      let end : new.place.position ≡ Finished =
      sym (ap (λ (c : Course). c.at) r.reached) ∙ (ap
      (λ f. (course worked_set f (course_of mid) both).at) file ∙ (ap (λ p. far worked_set 1
      (far worked_set 1 p (reading 1 (replicate 11 true))) (reading 2 (replicate 10 true))) at
      ∙ completes put.by.n put.by.part)) in
      record {
        all = r.session.at.all ∙ (ap (λ f. before worked_set f new.place.position)
            (r.same_file ∙ file) ∙ ap (before worked_set 1) end);
        no_want = ap (want_at 1) end;
      };
  stands = stands_there;
  resumed = resumed;
}
