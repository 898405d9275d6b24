-- Wrong answers that the contracts of the engines exclude.
use Rattle.std.proofs.Common.{◌≡◌, ◌≢◌, ℕ, ◌+◌, List, [], ◌∷◌, ◌++◌, length, map, refl, ap}
use Rattle.std.proofs.Common.{◌∙◌, true, false, inl, inr, arith, codes, Bool, Option, Some, None}
use Rattle.std.proofs.Common.{Ok, option_map, ◌<◌, if◌then◌else◌}
use Rattle.std.proofs.lemmas.Bool.{lt-ltb}
use Rattle.std.specs.Fmt.{digits}
use Rattle.tape_core.specs.declared.sink.PartSink.{Ghosts}
use Rattle.tape_image.specs.Written.{AppendsFront}
use Rattle.tape_set.specs.declared.position.Want.{Want}
use Rattle.tape_run.specs.{declared.fault.EngineFault.EngineFault, Extracting.Stops, Passing.Told}
use Rattle.tape_run.specs.{ReelLine.reel_lines, Seen.Seen}
use Rattle.tape_run.specs.Reeling.{answer_of, Mounting, AreMounted}
use Rattle.tape_run.specs.{SessionState.SessionState, declared.section.ImageLine.ImageLine}
use Rattle.tape_run.specs.Rounds.{turns_of, core_behind, wanted}
use Rattle.tape_run.specs.{SalvageCopies.believed, SalvageBlocks.Salvaged, SalvageEnds.read_again}
use Rattle.tape_run.specs.Checked.{Reel, IsReel, AddsImages, Reports}
use Rattle.tape_run.specs.declared.salvage.copies.SectionCopy.{SectionCopy}
use Rattle.tape_run.proofs.check.check_to.Reads as check_to
use Rattle.tape_run.proofs.extract.extract_to.Reads as extract_to

-- ---- getting a file back

-- partial_output_written: something is still missing, but the output has changed
partial_output_written : (S : _) (R : _) (L : _) (W : _) (P : _) (LS : _) (LR : _)
    (LL : _) (LW : _) (LP : _) (g : _) (d : _)
    (g' : _) (d' : _) (h : _) (e : _) (m : _) (n : _) (w : _) (f : _) (p : _) (i : _) (j : _)
    (κs : _) (a : _) (want : _) (s : _)
    → extract_to.Learnt-named S R L W P LS LR LL LW LP g d g' d' h e m n w f p i j κs a (Ok (Some
    want)) s
    → (s.1.1.1.0.now ≡ a.1.1.1.0.now → ⊥) → ⊥
partial_output_written S R L W P LS LR LL LW LP g d g' d' h e m n w f p i j κs a want s l other =
    other (l.untouched (λ n. absurd (cc)))

-- awaits_before_the_images: an image was not read, but the last line names a missing part
awaits_before_the_images : {S L R : Type 0} (g : Ghosts S) (size : L → ℕ) (gives : Mounting L R)
    (remaining : R → Option (List ℕ)) (back again : Bool) (old new : SessionState S)
    (shelf left : L) (leaves : Type 0 → Option Want → Seen → Type 0) (said says : Option (List ℕ))
    (fault : EngineFault)
    (s : Stops g size gives remaining back again old new shelf left leaves said says fault)
    → (AppendsFront said says (reel_lines 1 (map answer_of (turns_of s.rounds ++ s.turns))) → ⊥)
    → s.want ≢ None → length s.turns < size shelf → ⊥
awaits_before_the_images g size gives remaining back again old new shelf left leaves said says fault
    s more some fewer = elim s.ended [
      | inl few ↦ more few
      | inr (inl all, enough) ↦ absurd (omega (arith, all, fewer))
      | inr (inr none, enough) ↦ some none
    ]

-- awaits_before_another_pass: less is missing than before the pass, and the last line names it
awaits_before_another_pass : {S L R : Type 0} (g : Ghosts S) (size : L → ℕ) (gives : Mounting L R)
    (remaining : R → Option (List ℕ)) (back : Bool) (old new : SessionState S) (shelf left : L)
    (leaves : Type 0 → Option Want → Seen → Type 0) (said says : Option (List ℕ))
    (fault : EngineFault)
    (s : Stops g size gives remaining back true old new shelf left leaves said says fault)
    → (AppendsFront said says (reel_lines 1 (map answer_of (turns_of s.rounds ++ s.turns))) → ⊥)
    → s.want ≢ None → s.want ≢ wanted (core_behind old.core s.rounds)
    → length (turns_of s.rounds) + size shelf + size shelf < 18446744073709551616 → ⊥
awaits_before_another_pass g size gives remaining back old new shelf left leaves said says fault s
    more some less numbers = elim s.ended [
      | inl few ↦ more few
      | inr (all, enough) ↦ elim (enough refl) [
        | inl none ↦ some none
        | inr (inl same) ↦ less same
        | inr (inr above) ↦ absurd (omega (arith, numbers, above))
      ]
    ]

-- ---- what is on reels

-- the report of an image that was not opened
report_of_none : (lines : List (Option ImageLine)) (sections : List Told)
    → AddsImages (None ∷ []) lines [] sections → (lines ≡ None ∷ []) × (sections ≡ [])
report_of_none [] sections h = absurd h
report_of_none (None ∷ []) sections h = (refl, h.2 ∙ h.1)
report_of_none (None ∷ line ∷ lines) sections h = absurd h.2
report_of_none (Some line ∷ lines) sections h = absurd h.1

-- the report of one image, which does not exist
one_absent : {L R : Type 0} (gives : Mounting L R) (remaining : R → Option (List ℕ))
    (shelf left : L)
    (reels : List Reel) → AreMounted gives (IsReel remaining) shelf 0 reels left
    → length reels ≡ 1 → ((image : _) (next : _) → gives shelf 0 image next → image ≡ None)
    → reels ≡ None ∷ []
one_absent gives remaining shelf left [] are one absent = absurd (omega (arith, one))
one_absent gives remaining shelf left (r ∷ []) (image, next, gave, is, rest) one absent =
    ap (λ x. x ∷ []) (is ∙ ap (option_map remaining) (absent image next gave))
one_absent gives remaining shelf left (r ∷ s ∷ rest) are one absent = absurd (omega (arith, one))

-- the text of this report
text_of_none : {L R : Type 0} (size : L → ℕ) (gives : Mounting L R)
    (remaining : R → Option (List ℕ)) (shelf left : L) (old contents : Option (List ℕ))
    (text : List ℕ) (found : _) → Reports size gives remaining shelf left old contents found
    → size shelf ≡ 1 → ((image : _) (next : _) → gives shelf 0 image next → image ≡ None)
    → old ≡ Some [] → contents ≡ Some text
    → (text ≡ codes "IMAGE 1 0 NOT OPENED\n") × (found ≡ false)
unfolding digits
text_of_none size gives remaining shelf left old contents text found h one absent first last =
    grind (arith, one_absent, report_of_none)

-- nothing_met_is_all_found: no image was opened, but the answer is that nothing is missing
nothing_met_is_all_found : (R : _) (L : _) (P : _) (LR : _) (LL : _) (LP : _) (g : _) (d : _)
    (h : _) (i : _) (m : _) (n : _) (j : _) (κs : _) (a : _) (s : _) (text : List ℕ)
    → check_to.Learnt-named R L P LR LL LP g d h i m n j κs a (Ok true) s
    → h.size a.1.0.now ≡ 1
    → ((image : _) (next : _) → h.gives a.1.0.now 0 image next → image ≡ None)
    → m.contents a.1.1.0.now ≡ Some [] → m.contents s.1.1.0.now ≡ Some text → ⊥
nothing_met_is_all_found R L P LR LL LP g d h i m n j κs a s text l one absent old new =
    let n : true ≡ false = (text_of_none _ _ _ _ _ _ _ _ _ l.ok one absent old new).1 in
    absurd (cc)

-- ---- the readable parts of a file

either_missing : (b : Bool) (x y : Salvaged) → b ≡ true → x.missing ≡ true
    → (if b then x else y).missing ≡ false → ⊥
either_missing true x y is one off = absurd (cc)
either_missing false x y is one off = absurd (cc)

-- stopped_reading_told_as_complete: fewer blocks of a section were read again than it certainly
-- has, but nothing is reported as missing
stopped_reading_told_as_complete : (n : ℕ) (c : SectionCopy) (g : Salvaged) → n < believed c
    → (read_again n c g).missing ≡ false → ⊥
stopped_reading_told_as_complete n c g fewer off =
    either_missing _ _ _ (lt-ltb n (believed c) fewer) refl off
