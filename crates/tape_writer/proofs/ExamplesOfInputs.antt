-- Proofs of the test cases for sets written from inputs.
use Rattle.tape_writer.proofs.Words.{◌≡◌, ◌⊎◌, ℕ, List, [], ◌∷◌, ◌++◌, length, Option, Some, IfSome}
use Rattle.tape_writer.proofs.Words.{refl, inl, inr, subst, arith, ap, prepend_known, Head1, Shape}
use Rattle.tape_writer.proofs.Words.{HasRecordLength}
use Rattle.tape_writer.proofs.inputs.Cutting.{within_longest, has_longest}
use Rattle.tape_writer.specs.CasesOfInputs.{CasesOfInputs, CasesOfSetFaults, CasesOfWritten}
use Rattle.tape_writer.specs.{declared.fault.SetFault.SetFault, declared.inputs.set.SetPlan.SetPlan}
use Rattle.tape_writer.specs.{declared.fault.SetFault.TheVariants.Write, Records.records_of}
use Rattle.tape_writer.specs.{declared.inputs.cut.Cut.Cut, Tapes.Ended, Told.Told, WriteSet.cut_of}
use Rattle.tape_writer.specs.{LeftOf.HasNoVolume, LeftOf.GaveUpSet, CasesOfInputs.CasesOfRecordLaws}
use Rattle.tape_writer.specs.WriteFaults.{OneIsOther, IsFileFault, IsFilesFault, IsWholeFault}
use Rattle.tape_writer.specs.ToldFiles.{told_files, IfAllKnown, InOne}
use Rattle.tape_writer.specs.declared.fault.WriteFault.TheVariants as faults

-- the only input of a set is the first one
pub in_first : (id : List ℕ) (shape : Shape) (cut : Cut) (x : Head1 × List ℕ)
    (P : List Told → Head1 → List ℕ → Type 0)
    → InOne id [] shape cut ((x.0, Some x.1) ∷ []) P → P [] x.0 x.1
in_first id shape cut x P g = go g.before g.split g.holds
  where
    go : (before : List (Head1 × Option (List ℕ)))
        → (x.0, Some x.1) ∷ [] ≡ before ++ g.input ∷ g.after
        → IfAllKnown before (λ fs. IfSome g.input.1 (P (told_files id shape cut 1 fs) g.input.0))
        → P [] x.0 x.1
    go [] split holds =
        let head : g.input ≡ (x.0, Some x.1) = cc split in
        subst (λ i. IfSome i.1 (P [] i.0)) head holds
    go (b ∷ []) split holds = absurd (cc split)
    go (b ∷ c ∷ before) split holds = absurd (cc split)

pub cases_of_inputs : CasesOfInputs
cases_of_inputs = record {
  lines = refl;
  last_line_ends = refl;
  no_lines = refl;
  pieces = refl;
  no_pieces = refl;
  whole = refl;
  empty_whole = refl;
  raw = (refl, refl, refl);
  lines_of_any = λ shape. refl;
  raw_of_shape = λ shape. refl;
  within_longest = within_longest;
  has_longest = has_longest;
  longest_of_each = (refl, refl, refl);
  none_is_long = λ most h. h;
  first_is_long = λ most r rs h. h;
  grows_long = λ most cut r bytes g. g;
  over = λ cut bytes. refl;
  not_over = λ cut bytes. refl;
  given_first = λ r rs. (refl, refl);
  ahead_first = λ r e. ap (λ a. prepend_known a (Some (66 ∷ []))) e;
  more_of_it = λ cut old bytes new more h. h more;
  ends_it = λ cut old bytes new more h. h more;
  told_in_order = λ id shape cut h k a b. refl;
  told_more = λ t r s. refl;
  all_known = λ h k a b given p. p;
  gave_up = λ H w told records g. (g.split, g.out);
  gave_up_in = λ tapes w id shape cut x g. in_first id shape cut x _ g;
  gave_up_set = λ plan cut given g. (g.on_tapes, g.on_volumes, g.capacity, g.set_id);
}

one_is_other : (shape : Shape) (r : List ℕ) → OneIsOther shape (r ∷ [])
    → HasRecordLength shape.format shape.rec_len (length r) → ⊥
one_is_other shape r (inl not) has = not has
one_is_other shape r (inr none) has = none

of_second : (capacity : ℕ) (shape : Shape) (cut : Cut) (x y : Head1 × Option (List ℕ))
    (fault : SetFault) → IsFilesFault capacity shape cut 0 (x ∷ y ∷ []) fault
    → IsFileFault capacity shape cut 0 x fault ⊎ IsFileFault capacity shape cut 1 y fault
of_second capacity shape cut x y fault (inl first) = inl first
of_second capacity shape cut x y fault (inr (inl second)) = inr second
of_second capacity shape cut x y fault (inr (inr none)) = absurd none

length_of_input : (capacity : ℕ) (shape : Shape) (cut : Cut) (n : ℕ) (head : Head1)
    (bytes : List ℕ)
    → IsFileFault capacity shape cut n (head, Some bytes) (Write faults.RecordLength)
    → OneIsOther shape (records_of cut bytes)
length_of_input capacity shape cut n head bytes (inl none) = absurd none
length_of_input capacity shape cut n head bytes (inr other) = other

of_nothing : (capacity : ℕ) (shape : Shape) (cut : Cut)
    → IsWholeFault capacity shape cut [] (Write faults.RecordLength) → ⊥
of_nothing capacity shape cut (inl none) = none
of_nothing capacity shape cut (inr none) = none

some_file : (capacity : ℕ) (shape : Shape) (cut : Cut) (x : Head1 × Option (List ℕ))
    → IsWholeFault capacity shape cut (x ∷ []) (Write faults.NoFile) → ⊥
some_file capacity shape cut x (inl (inl (inl none))) = none
some_file capacity shape cut x (inl (inl (inr none))) = none
some_file capacity shape cut x (inl (inr none)) = none
some_file capacity shape cut x (inr few) = absurd (omega (arith, few))

pub cases_of_set_faults : CasesOfSetFaults
cases_of_set_faults = record {
  as_told = (refl, refl, refl);
  none_is_other = λ shape h. h;
  one_is_other = one_is_other;
  of_writer = λ one other h. h;
  read_is_not = λ h. h;
  length_only_so = λ h. h;
  input_length_so = λ h. h;
  read_failed = λ shape. tt;
  of_no_file = λ capacity shape cut fault h. h;
  of_second = of_second;
  length_of_input = length_of_input;
  of_nothing = of_nothing;
  some_file = some_file;
  not_cut = λ plan given fault h. h;
  cut_so = λ plan given cut fault h. h;
}

no_volume : (plan : SetPlan) (cut : Cut) (given : List (Head1 × Option (List ℕ)))
    → cut_of plan.form plan.shape ≡ Some cut
    → HasNoVolume {T = ℕ} (λ n t. t ≡ Ended []) (λ n. n ≡ 7) plan given
    → (length plan.volumes.items ≡ 0)
    ⊎ GaveUpSet {T = ℕ} (λ n t. t ≡ Ended []) (λ n. n ≡ 7) plan cut given
no_volume plan cut given e h = subst (λ c. (length plan.volumes.items ≡ 0)
    ⊎ IfSome c (λ cut. GaveUpSet {T = ℕ} (λ n t. t ≡ Ended []) (λ n. n ≡ 7) plan cut given)) e h

pub cases_of_written : CasesOfWritten
cases_of_written = record {
  as_of_a_device = λ n. (refl, refl);
  its_sections = λ capacity t f i. (i.is_file, i.labels);
  its_number = λ file x o. o.number;
  begun_behind = λ id t head shape. refl;
  of_images = λ given volumes capacity id told w. w.held.1;
  set_failed = λ old new h. h refl;
  set_fault = λ plan given fault h. h;
  no_volume = no_volume;
}

pub cases_of_record_laws : CasesOfRecordLaws
cases_of_record_laws = record {
  lines_are_cut = λ law line rest one all. law (line ∷ []) rest (one, tt) all;
  pieces_are_cut = λ law piece rest less.
      law (length piece) (piece ∷ []) rest (omega (arith, less)) (refl, tt) less;
  whole_is_one = λ law bytes. law bytes;
  a_line = (λ e. absurd (omega (arith, e)), (λ e. absurd (omega (arith, e)), tt));
  no_line = λ l. l.1.0 refl;
  ended = refl;
}
