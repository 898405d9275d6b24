-- Files whose sections state different record lengths in their second labels, which is valid in
-- formats D and S.
use Rattle.std.proofs.Common.{◌≡◌, ◌≤◌, ℕ, [], ◌∷◌, true, false, refl, sym, subst, lit≤}
use Rattle.tape_label.specs.declared.values.Format.TheVariants.{Counted, Spanned}
use Rattle.tape_label.specs.Head2.{Head2Fits}
use Rattle.tape_blocks.specs.declared.parts.Shape.{Shape}
use Rattle.tape_set.specs.{Layout.FileSet, Lawful.IsLawful, Lawful.HasForm, Tight.second_of}
use Rattle.tape_set.proofs.Worked.{made, form, Fit, made_section, made_form}
use Rattle.tape_set.proofs.Worked.{plain_volume_is, plain_set, shape_of}

fit_of : (sect : ℕ) → 1 ≤ sect → sect ≤ 9999 → Fit 1 sect 0
fit_of sect a b = search (lit≤, tt)

abbrev lengths_differ : Shape → Shape → FileSet
lengths_differ one other = plain_set 2 ((made one 1 1 1 false [] ∷ made other 2 1 2 true []
    ∷ []) ∷ [])

-- the labels state one form
abbrev counted_14 : Shape
counted_14 = shape_of Counted 20 14 0 (λ _. lit≤ tt)

abbrev counted_20 : Shape
counted_20 = shape_of Counted 20 20 0 (λ _. lit≤ tt)

abbrev spanned_14 : Shape
spanned_14 = shape_of Spanned 20 14 0 (λ _. lit≤ tt)

abbrev spanned_20 : Shape
spanned_20 = shape_of Spanned 20 20 0 (λ _. lit≤ tt)

counted_fits : Head2Fits (second_of counted_14) × Head2Fits (second_of counted_20)
counted_fits = search (lit≤, tt)

spanned_fits : Head2Fits (second_of spanned_14) × Head2Fits (second_of spanned_20)
spanned_fits = search (lit≤, tt)

lawful_if_alike : (one other : Shape) → Head2Fits (second_of one) → Head2Fits (second_of other)
    → form one ≡ form other → IsLawful (lengths_differ one other)
lawful_if_alike one other one_fits other_fits same = record {
  volumes = (plain_volume_is, (plain_volume_is, tt));
  each = (
    made_section one 2 1 1 1 false [] one_fits (fit_of 1 (lit≤ tt) (lit≤ tt)) (lit≤ tt)
        (lit≤ tt) tt,
    (
      made_section other 2 2 1 2 true [] other_fits (fit_of 2 (lit≤ tt) (lit≤ tt)) (lit≤ tt)
          (lit≤ tt) tt,
      tt,
    ),
  );
  files = (
    record {
      ends = (refl, refl);
      alike = (
        form one,
        (
          made_form one 1 1 1 false [] one_fits (fit_of 1 (lit≤ tt) (lit≤ tt)) tt,
          (
            subst (λ v. HasForm v (made other 2 1 2 true [])) (sym same)
                (made_form other 2 1 2 true [] other_fits (fit_of 2 (lit≤ tt) (lit≤ tt)) tt),
            tt,
          ),
        ),
      );
      order = refl;
    },
    tt,
  );
  first = refl;
  goes_on = (refl, tt);
}

counted_lawful : IsLawful (lengths_differ counted_14 counted_20)
counted_lawful = lawful_if_alike counted_14 counted_20 counted_fits.0 counted_fits.1 refl

spanned_lawful : IsLawful (lengths_differ spanned_14 spanned_20)
spanned_lawful = lawful_if_alike spanned_14 spanned_20 spanned_fits.0 spanned_fits.1 refl
