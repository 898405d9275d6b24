-- The copies of sections that contradict the best one, and sections with the labels of other files.
use Rattle.std.proofs.Common.{◌≡◌, ◌<◌, ℕ, suc, ◌+◌, ◌||◌, Bool, true, false, take, get_or, List}
use Rattle.std.proofs.Common.{[], ◌∷◌, ◌++◌, length, Option, Some, None, refl, sym, ap, subst, ◌∙◌}
use Rattle.std.proofs.Common.{append_assoc, append-nil, arith, zero, drop, ◌-◌}
use Rattle.std.proofs.{lemmas.List.take-append-drop, KnownBytes.Appends-trans}
use Rattle.std.specs.Io.KnownBytes.{Appends}
use Rattle.tape_run.specs.SalvageConflicts.{are_conflicting, has_conflict, conflict_text}
use Rattle.tape_run.specs.SalvageLabels.{has_other, labels_text, IsFirst}
use Rattle.std.specs.Option.{option_or}
use Rattle.tape_set.specs.Lawful.{FileForm}
use Rattle.tape_run.specs.declared.salvage.copies.SectionCopy.{SectionCopy}
use Rattle.tape_run.specs.SalvageChoice.{firsts, IsBest, form_of_file}
use Rattle.tape_run.specs.SalvageConflicts.{AreConflicts, text_if, as_read}
use Rattle.tape_image.specs.Written.{AppendsFront}
use Rattle.tape_image.proofs.Pieces.{front_more, front_behind}
use Rattle.tape_run.proofs.{SalvageChoice.taken_more, SalvageChoice.some_best, Reporting.front_then}

or_none : (b : Bool) → (b || false) ≡ b
or_none true = refl
or_none false = refl

or_assoc : (a b c : Bool) → (a || (b || c)) ≡ ((a || b) || c)
or_assoc true b c = refl
or_assoc false b c = refl

conflict_more : (best c : SectionCopy) (cs : List SectionCopy)
    → has_conflict (Some best) (cs ++ c ∷ [])
    ≡ (has_conflict (Some best) cs || are_conflicting best c)
conflict_more best c [] = or_none (are_conflicting best c)
conflict_more best c (d ∷ cs) =
    ap (λ b. are_conflicting best d || b) (conflict_more best c cs)
    ∙ or_assoc (are_conflicting best d) (has_conflict (Some best) cs)
    (are_conflicting best c)

text_more : (best c : SectionCopy) (cs : List SectionCopy)
    → conflict_text (Some best) (cs ++ c ∷ [])
    ≡ conflict_text (Some best) cs ++ text_if (are_conflicting best c) best c
text_more best c [] = append-nil (text_if (are_conflicting best c) best c)
text_more best c (d ∷ cs) =
    let line = text_if (are_conflicting best d) best d in
    ap (λ (t : List ℕ). line ++ t) (text_more best c cs)
    ∙ sym (append_assoc line (conflict_text (Some best) cs)
    (text_if (are_conflicting best c) best c))

or_turned : (a b c : Bool) → ((a || b) || c) ≡ (b || (a || c))
or_turned true true c = refl
or_turned true false c = refl
or_turned false b c = refl

-- The copies up to a place were compared with the best one; `before` says whether there was a
-- conflict before.
pub record ComparedSoFar (best : SectionCopy) (cs : List SectionCopy)
    (before any : Bool) (said says : Option (List ℕ)) : Type 0 where
  pub found : any ≡ (has_conflict (Some best) cs || before)
  pub wrote : Appends said says (conflict_text (Some best) cs)

-- one more copy
pub compared_more : (best c : SectionCopy) (cs : List SectionCopy) (place : ℕ)
    (before any now : Bool) (said w says : Option (List ℕ)) → place < length cs
    → c ≡ get_or cs place c → ComparedSoFar best (take place cs) before any said w
    → now ≡ (are_conflicting best c || any)
    → Appends w says (text_if (are_conflicting best c) best c)
    → ComparedSoFar best (take (place + 1) cs) before now said says
compared_more best c cs place before any now said w says within is s test wrote =
    let all = taken_more cs place c c within is in
    let front = take place cs in
    let b = are_conflicting best c in
    record {
      found = test ∙ ap (λ a. b || a) s.found
          ∙ sym (ap (λ l. has_conflict (Some best) l || before) all
          ∙ ap (λ d. d || before) (conflict_more best c front)
          ∙ or_turned (has_conflict (Some best) front) b before);
      wrote = subst (Appends said says)
          (sym (ap (conflict_text (Some best)) all ∙ text_more best c front))
          (Appends-trans said w says _ _ s.wrote wrote);
    }

text_join : (best : SectionCopy) (cs ds : List SectionCopy)
    → conflict_text (Some best) (cs ++ ds)
    ≡ conflict_text (Some best) cs ++ conflict_text (Some best) ds
text_join best [] ds = refl
text_join best (c ∷ cs) ds =
    let line = text_if (are_conflicting best c) best c in
    ap (λ (t : List ℕ). line ++ t) (text_join best cs ds)
    ∙ sym (append_assoc line (conflict_text (Some best) cs)
    (conflict_text (Some best) ds))

-- the line of a copy was not written completely
pub compared_front : (best c : SectionCopy) (cs : List SectionCopy) (place : ℕ)
    (before any : Bool) (said w says : Option (List ℕ)) → place < length cs
    → c ≡ get_or cs place c → ComparedSoFar best (take place cs) before any said w
    → AppendsFront w says (text_if (are_conflicting best c) best c)
    → AppendsFront said says (conflict_text (Some best) cs)
compared_front best c cs place before any said w says within is s part =
    let rest = drop (place + 1) cs in
    front_then said w says (conflict_text (Some best) (take place cs))
    (text_if (are_conflicting best c) best c) (conflict_text (Some best) rest)
    (conflict_text (Some best) cs) s.wrote part
    (ap (conflict_text (Some best)) (sym (take-append-drop (place + 1) cs))
    ∙ text_join best (take (place + 1) cs) rest
    ∙ ap (λ (t : List ℕ). t ++ conflict_text (Some best) rest)
    (ap (conflict_text (Some best)) (taken_more cs place c c within is)
    ∙ text_more best c (take place cs)))

-- ---- all sections

pub record ReportedSoFar (copies : List SectionCopy) (n : ℕ) (first : Option SectionCopy)
    (any : Bool) (said says : Option (List ℕ)) : Type 0 where
  pub text : List ℕ
  pub are : AreConflicts copies n text any
  pub is_first : IsFirst copies n first
  pub wrote : Appends said says text

-- the lines about the next section
abbrev pub next_text : List SectionCopy → Option SectionCopy → Option SectionCopy → List ℕ
next_text copies first best = conflict_text (as_read (form_of_file copies) best) copies
    ++ labels_text (form_of_file copies) first best

-- whether the next section has any
abbrev pub next_any : List SectionCopy → Option SectionCopy → Option SectionCopy → Bool → Bool
next_any copies first best any = has_other (form_of_file copies) first best
    || (has_conflict (as_read (form_of_file copies) best) copies || any)

-- one more section
next_first : (copies : List SectionCopy) (n : ℕ) (earlier first best : Option SectionCopy)
    → IsFirst copies n earlier → IsBest (firsts (n + 1) None copies) best
    → first ≡ option_or earlier best → IsFirst copies (suc n) first
next_first copies n earlier first best before is e = (earlier, best, before, is, e)

pub next_reported : (copies : List SectionCopy) (n : ℕ)
    (known : Option FileForm) (any mid now : Bool) (earlier first best used : Option SectionCopy)
    (said w v says : Option (List ℕ))
    → known ≡ form_of_file copies → ReportedSoFar copies n earlier any said w
    → IsBest (firsts (n + 1) None copies) best
    → first ≡ option_or earlier best → used ≡ as_read known best
    → mid ≡ (has_conflict used copies || any) → Appends w v (conflict_text used copies)
    → now ≡ (has_other known first best || mid) → Appends v says (labels_text known first best)
    → ReportedSoFar copies (n + 1) first now said says
next_reported copies n known any mid now earlier first best used said w v says form s is e
    uses found wrote other more =
    let next : suc n ≡ n + 1 = omega arith in
    let line = next_text copies first best in
    let reads : used ≡ as_read (form_of_file copies) best = uses ∙ ap (λ k. as_read k best) form in
    let begins = next_first copies n earlier first best s.is_first is e in
    let last_text : Appends v says (labels_text (form_of_file copies) first best) =
    subst (λ k. Appends v says (labels_text k first best)) form more in
    record {
      text = s.text ++ line;
      are = subst (λ m. AreConflicts copies m (s.text ++ line) now) next (
        s.text,
        any,
        best,
        first,
        s.are,
        is,
        begins,
        refl,
        other ∙ ap (λ k. has_other k first best || mid) form
            ∙ ap (λ b. has_other (form_of_file copies) first best || b)
            (found ∙ ap (λ u. has_conflict u copies || any) reads),
      );
      is_first = subst (λ m. IsFirst copies m first) next begins;
      wrote = Appends-trans said w says s.text line s.wrote
          (Appends-trans w v says _ _
          (subst (λ u. Appends w v (conflict_text u copies)) reads wrote) last_text);
    }

-- the lines of further sections follow these
more_conflicts : (copies : List SectionCopy) (k n m : ℕ) (first : Option SectionCopy)
    (text : List ℕ) (any : Bool) → m ≡ k + n → IsFirst copies n first
    → AreConflicts copies n text any
    → (all rest : List ℕ) × (any : Bool) × AreConflicts copies m all any × (all ≡ text ++ rest)
more_conflicts copies zero n m first text any e begins are =
    let same : n ≡ m = omega (arith, e) in
    (text, [], any, subst (λ z. AreConflicts copies z text any) same are, sym (append-nil text))
more_conflicts copies (suc k) n m first text any e begins are =
    let (best, is) = some_best (firsts (n + 1) None copies) in
    let then = option_or first best in
    let line = next_text copies then best in
    let now = next_any copies then best any in
    let after = next_first copies n first then best begins is refl in
    let (all, rest, some, more, joined) = more_conflicts copies k (suc n) m then (text ++ line) now
    (omega (arith, e)) after (text, any, best, then, are, is, after, refl, refl) in
    (all, line ++ rest, some, more, joined ∙ append_assoc text line rest)

-- the lines of a section were not written completely
pub reported_front : (copies : List SectionCopy) (n last : ℕ) (any : Bool)
    (earlier first best : Option SectionCopy) (said w says : Option (List ℕ)) → n < last
    → ReportedSoFar copies n earlier any said w → IsBest (firsts (n + 1) None copies) best
    → first ≡ option_or earlier best
    → AppendsFront w says (next_text copies first best)
    → (text : List ℕ) × (some : Bool) × AreConflicts copies last text some
    × AppendsFront said says text
reported_front copies n last any earlier first best said w says within s is e part =
    let line = next_text copies first best in
    let begins = next_first copies n earlier first best s.is_first is e in
    let (all, rest, some, more, joined) = more_conflicts copies (last - suc n) (suc n) last first
    (s.text ++ line) (next_any copies first best any) (omega (arith, within)) begins
    (s.text, any, best, first, s.are, is, begins, refl, refl) in
    (all, some, more, front_then said w says s.text line rest all s.wrote part joined)

-- the lines about the copies of a section were not written completely
pub copies_front : (copies : List SectionCopy) (known : Option FileForm)
    (first best used : Option SectionCopy) (w says : Option (List ℕ))
    → known ≡ form_of_file copies → used ≡ as_read known best
    → AppendsFront w says (conflict_text used copies)
    → AppendsFront w says (next_text copies first best)
copies_front copies known first best used w says form uses part = front_more w says _ _
    (subst (λ u. AppendsFront w says (conflict_text u copies))
    (uses ∙ ap (λ k. as_read k best) form) part)

-- the line about the labels of a section was not written completely
pub labels_front : (copies : List SectionCopy) (known : Option FileForm)
    (first best used : Option SectionCopy) (w v says : Option (List ℕ))
    → known ≡ form_of_file copies → used ≡ as_read known best
    → Appends w v (conflict_text used copies)
    → AppendsFront v says (labels_text known first best)
    → AppendsFront w says (next_text copies first best)
labels_front copies known first best used w v says form uses wrote part =
    front_behind w v says _ _
    (subst (λ u. Appends w v (conflict_text u copies)) (uses ∙ ap (λ k. as_read k best) form) wrote)
    (subst (λ k. AppendsFront v says (labels_text k first best)) form part)
