use Rattle.std.proofs.Common.{◌≡◌, [], ◌∷◌, refl, arith, decimal}
use Rattle.std.proofs.lemmas.Fmt.{decimal_digit}
use Rattle.tape_run.proofs.laws.reports_are_worked.Goals as goal

one : decimal 1 ≡ 49 ∷ []
one = decimal_digit 1 (omega arith)

two : decimal 2 ≡ 50 ∷ []
two = decimal_digit 2 (omega arith)

three : decimal 3 ≡ 51 ∷ []
three = decimal_digit 3 (omega arith)

nine : decimal 9 ≡ 57 ∷ []
nine = decimal_digit 9 (omega arith)

pub returns : goal.returns
returns c = record {
  images = record {
    ended = simp (three, two);
    physical = refl;
    broken = simp (one, nine);
    absent = simp one;
    numbered = λ first second. refl;
  };
  sections = record {
    good = simp (one, two, three);
    states = refl;
    lack = simp (three, two);
    printed = simp (one, two);
  };
  summary = record { order = λ s l. refl; last = refl };
}
