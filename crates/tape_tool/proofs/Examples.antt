-- The test cases for ends, faults, lines, names and sessions over stages.
use Rattle.std.proofs.Common.{◌≡◌, ◌⊎◌, ⊎_elim, inl, inr, refl, ap, subst, arith, Bool, true, false}
use Rattle.std.proofs.Common.{ℕ, zero, suc, ◌<◌, List, [], ◌∷◌, length, get_or}
use Rattle.std.proofs.{lemmas.List.get_or_past, lemmas.List.Splits.join_with_byte-slice_split}
use Rattle.std.specs.Fmt.{digits}
use Rattle.tape_stage.specs.{declared.disk.Disk.Ghosts, Staged.new_slots}
use Rattle.tape_stage.proofs.Once.{staged_once}
use Rattle.tape_tool.specs.Cases.{CasesOfEnds, CasesOfFaults, CasesOfLines, CasesOfNames}
use Rattle.tape_tool.specs.{Cases.CasesOfStaging, Ends.IsWrongWords, Names.end_byte, Names.names_in}
use Rattle.tape_tool.specs.declared.program.End.TheVariants.{Done, Incomplete}
use Rattle.tape_tool.specs.Staging.{IsOfFile, IsUnmade, first_point}
use Rattle.tape_tool.proofs.Unmade.{unmade_nil}

never_done : IsWrongWords Done → ⊥
never_done (inl e) = cc
never_done (inr e) = cc

never_incomplete : IsWrongWords Incomplete → ⊥
never_incomplete (inl e) = cc
never_incomplete (inr e) = cc

pub cases_of_ends : CasesOfEnds
cases_of_ends = record {
  statuses = λ fault. refl;
  commands = λ fault. (refl, refl);
  checks = λ fault. (refl, refl, refl, refl);
  extracts = λ want fault. (refl, refl, refl, refl);
  help = (refl, refl);
  printed = refl;
  not_printed = refl;
  no_memory = λ printed. (refl, refl);
  wrong_words = λ printed. refl;
  no_words = refl;
  not_begun = λ fault end is. is;
  lost = λ text. (inl refl, inr refl, never_done, never_incomplete);
  no_text = λ null number. (inl refl, never_done);
}

pub cases_of_faults : CasesOfFaults
cases_of_faults = assumption

pub cases_of_lines : CasesOfLines
unfolding digits
cases_of_lines = assumption

no_name : (null : Bool) → names_in null [] ≡ []
no_name true = refl
no_name false = refl

pub cases_of_names : CasesOfNames
cases_of_names = record {
  joined = λ null text. join_with_byte-slice_split (end_byte null) text;
  lines = refl;
  ended = refl;
  nulls = refl;
  none = no_name;
}

unmade_front : (set_id : List ℕ) (file : ℕ) (bytes : List ℕ) → length bytes < 256
    → ((i : ℕ) → (get_or bytes i 0 ≡ 0)
    ⊎ (get_or bytes i 0 ≡ get_or (new_slots (first_point set_id file)) i 0))
    → IsUnmade set_id file bytes
unmade_front set_id file bytes short each = record {
  none = λ g point broken parts r. omega (arith, r.framed.holds.long);
  few = omega arith;
  each = each;
}

two_zeros : (i : ℕ) → ◌≡◌ {A = ℕ} (get_or (0 ∷ 0 ∷ []) i 0) 0
two_zeros zero = refl
two_zeros (suc zero) = refl
two_zeros (suc (suc i)) = get_or_past (0 ∷ 0 ∷ []) (suc (suc i)) 0 (omega arith)

gate_alone : (set_id : List ℕ) (file i : ℕ) → (◌≡◌ {A = ℕ} (get_or (67 ∷ []) i 0) 0)
    ⊎ (◌≡◌ {A = ℕ} (get_or (67 ∷ []) i 0) (get_or (new_slots (first_point set_id file)) i 0))
gate_alone set_id file zero = inr refl
gate_alone set_id file (suc i) = inl (get_or_past (67 ∷ []) (suc i) 0 (omega arith))

pub cases_of_staging : {D : Type 0} (disk : Ghosts D) → CasesOfStaging disk
cases_of_staging disk = record {
  first = refl;
  own = λ point. (refl, refl);
  other_set = λ o.
      absurd (let e : 88 ≡ 65 = ap (λ l. get_or l 0 0) o.0 in omega (arith, e));
  other_file = λ o. absurd (let e : 4 ≡ 3 = o.1 in omega (arith, e));
  stands = λ point parts session s. (
    s.resumed.place,
    s.resumed.notes,
    s.holds.framed,
    λ bytes left. let x = s.survives bytes left in (x.1, x.2, (bytes, left, (x.0, x.3))),
    s.only,
    λ bytes left. let x = s.survived bytes (inl left) in (x.1, x.2, (bytes, inl left, (x.0, x.3))),
    s.since,
  );
  goes_on = λ set_id read file session g. (g.staged, g.of_file.0, g.of_file.1, g.stands);
  unmade = λ set_id file. (
    unmade_nil set_id file,
    unmade_front set_id file (0 ∷ 0 ∷ []) (omega arith) (λ i. inl (two_zeros i)),
    unmade_front set_id file (67 ∷ []) (omega arith) (gate_alone set_id file),
    λ u. ⊎_elim (λ e. omega arith) (λ e. omega arith) (u.each 0),
  );
  unmade_size = λ set_id file u. omega (arith, u.few);
  made = λ set_id read file g point broken parts remains u. u.none g point broken parts remains;
  fault_said = λ set_id read file place. (
    λ says. (says.0 tt, says.1),
    λ says. (says.0 tt, says.1),
  );
  of_another = λ set_id read file n point parts says staged set is.
      let same = staged_once read n says.0 point says.1 parts says.2 staged says.3 in
      says.4 (subst (IsOfFile set_id file) same.1 (set, is));
  none_of_another = λ set_id read file none says. none says.0 says.1 says.2 says.3;
  of_another_set = λ set_id read file n point parts staged other.
      (n, point, parts, staged, λ own. ⊎_elim (λ set. set own.0) (λ number. number own.1) other);
  unopened = (tt, tt, tt);
  opened = (λ h. h, λ h. h);
  none_told = (λ h. h, λ h. h);
  too_many = λ number. omega (arith, number);
  file_one = λ refuses. refuses (omega arith, omega arith);
  failed = (inl (omega arith), inl (omega arith));
  not_failed = (
    λ h. ⊎_elim (λ e. omega (arith, e)) (λ e. omega (arith, e)) h,
    λ h. ⊎_elim (λ e. omega (arith, e)) (λ e. omega (arith, e)) h,
  );
  not_full = (λ h. h, λ h. h);
}
