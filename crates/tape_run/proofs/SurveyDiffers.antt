-- Copies that are reported to differ, or to end otherwise, do so.
use Rattle.std.proofs.Common.{◌≡◌, ℕ, Bool, true, false, List, Option, Some, refl, sym, ap, ◌∙◌}
use Rattle.std.proofs.Common.{arith, length, ◌==◌, ◌&&◌}
use Rattle.std.proofs.lemmas.Bool.Decides.{nat_tests}
use Rattle.tape_blocks.specs.Faults.{bool_eq}
use Rattle.tape_run.specs.SurveyConflicts.{Placed, all_placed, IsIn, CopiesDiffer, EndsDiffer}
use Rattle.tape_run.specs.{SurveyCopies.Noted, declared.survey.copies.CopyNote.CopyNote}
use Rattle.tape_run.specs.{declared.survey.view.ImageSurvey.ImageSurvey, Reeling.Mounting}
use Rattle.tape_run.specs.{declared.section.SectionKey.SectionKey, SurveyDigest.digest_of}
use Rattle.tape_run.specs.SurveyRead.{Found, nothing_found, AreViewed}
use Rattle.tape_run.proofs.SurveyConflicts.{NoteOf, Other, OtherEnd, AllCounted, count, agrees}
use Rattle.tape_run.proofs.SurveyConflicts.{of_all, all_counted, note_is}

-- ---- copies that do not agree are different

same_test : (a b m n : ℕ) → a ≡ b → m ≡ n → ((a == b) && (m == n)) ≡ true
same_test a b m n e f = grind (arith, nat_tests, e, f)

apart : (xs : List Placed) (key : SectionKey) (n : CopyNote) (j : ℕ) → AllCounted xs
    → (h : NoteOf xs key n) → Other xs key n.blocks n.digest j → CopiesDiffer xs key n.image j
apart xs key n j counts h o = record {
  one = h.copy;
  two = o.copy;
  one_in = h.there;
  two_in = o.there;
  one_key = h.of_key;
  two_key = o.of_key;
  one_on = h.on;
  two_on = o.on;
  differ = λ same.
      let long = λ (x : Placed) (i : IsIn xs x).
      of_all (λ (y : Placed). y.1.0.1.blocks ≡ length y.1.1) xs x counts i in
      let many : n.blocks ≡ count o.copy =
      sym h.counted ∙ long h.copy h.there ∙ ap length same ∙ sym (long o.copy o.there) in
      let one : n.digest ≡ digest_of o.copy.1.1 = sym h.digested ∙ ap digest_of same in
      let yes : agrees n.blocks n.digest o.copy ≡ true =
      same_test n.blocks (count o.copy) n.digest (digest_of o.copy.1.1) many one in
      let no : true ≡ false = sym yes ∙ o.differs in
      cc no;
}

pub conflicts_are_real : {L R : Type 0} (gives : Mounting L R) (remaining : R → Option (List ℕ))
    (shelf last : L) (sights : List (Option ImageSurvey)) (d : Found)
    (v : AreViewed gives remaining shelf 0 sights nothing_found last d) (key : SectionKey)
    (n : CopyNote) (other : ℕ) → IsIn {X = Noted} d.copies.notes (key, n) → n.other ≡ Some other
    → CopiesDiffer (all_placed gives remaining shelf 0 sights nothing_found last d v) key n.image
    other
conflicts_are_real gives remaining shelf last sights d v key n other is e =
    let all = all_placed gives remaining shelf 0 sights nothing_found last d v in
    let h = note_is gives remaining shelf last sights d v key n is in
    apart all key n other
    (all_counted gives remaining shelf 0 sights nothing_found last d v) h (h.other other e)

-- ---- copies that end otherwise are different

end_test : (a b : Bool) → a ≡ b → bool_eq a b ≡ true
end_test true b e = sym e
end_test false true e = absurd (cc e)
end_test false false e = refl

ends_apart : (xs : List Placed) (key : SectionKey) (n : CopyNote) (j : ℕ)
    → (h : NoteOf xs key n) → OtherEnd xs key n.eof j → EndsDiffer xs key n.image j
ends_apart xs key n j h o = record {
  one = h.copy;
  two = o.copy;
  one_in = h.there;
  two_in = o.there;
  one_key = h.of_key;
  two_key = o.of_key;
  one_on = h.on;
  two_on = o.on;
  differ = λ same.
      let no : true ≡ false =
      sym (end_test n.eof o.copy.1.0.1.eof (sym h.ended ∙ same)) ∙ o.differs in
      cc no;
}

pub ends_are_real : {L R : Type 0} (gives : Mounting L R) (remaining : R → Option (List ℕ))
    (shelf last : L) (sights : List (Option ImageSurvey)) (d : Found)
    (v : AreViewed gives remaining shelf 0 sights nothing_found last d) (key : SectionKey)
    (n : CopyNote) (other : ℕ) → IsIn {X = Noted} d.copies.notes (key, n)
    → n.other_end ≡ Some other
    → EndsDiffer (all_placed gives remaining shelf 0 sights nothing_found last d v) key n.image
    other
ends_are_real gives remaining shelf last sights d v key n other is e =
    let h = note_is gives remaining shelf last sights d v key n is in
    ends_apart (all_placed gives remaining shelf 0 sights nothing_found last d v) key n other h
    (h.other_end other e)
