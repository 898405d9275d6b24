-- Proofs of the test cases for write buffers.
use Rattle.tape_writer.proofs.Words.{◌≡◌, length, true, false, refl, sym, ap, ◌∙◌, arith}
use Rattle.tape_writer.specs.CasesOfHolding.{CasesOfHolding}

pub cases_of_holding : CasesOfHolding
cases_of_holding = record {
  taken_is = refl;
  takes = λ bytes old new h. h.takes;
  counted = λ new h. omega (arith, h.size);
  counted_up_to = λ old new h full. omega (arith, h.size, full);
  not_taken = λ bytes old new s. (s.size, s.failed, s.front);
  did_not_fail = λ old new h failed. let e : true ≡ false = sym failed ∙ h.stands in absurd (cc);
  passes = λ old new h. h.passed;
  none_held = λ old new h held. absurd (omega (arith, ap length held, ap length h.none));
  not_counted = λ old new h. h.size;
  passed_well = λ old new h failed. let e : true ≡ false = sym failed ∙ h.stands in absurd (cc);
  opened = refl;
  first = λ new h. omega (arith, h.1.size);
  is_open = λ h. h;
  stays_open = λ old h. h;
  further = λ old new h. h;
  no_file = λ new e. absurd (cc);
  same_file = λ old h. h;
  of_file = λ old new h. h;
}
