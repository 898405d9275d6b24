-- The test cases for values in the arguments of a command line.
use Rattle.std.proofs.Common.{◌≡◌, ◌≤◌, ℕ, List, length, Some, None, refl, sym, ◌∙◌, inl, inr}
use Rattle.std.proofs.{Common.arith, Common.codes, Common.lit<, lemmas.Grind.common_steps}
use Rattle.clap.specs.declared.error.kind.ErrorKind.TheVariants.{DisplayHelp, OutOfMemory}
use Rattle.clap.specs.{Words.kind_of, declared.error.Error.Error}
use Rattle.clap.specs.declared.error.kind.ErrorKind.TheVariants.{ValueValidation}
use Rattle.tape_label.specs.declared.values.Format.TheVariants.{Fixed, Counted, Spanned}
use Rattle.tape_blocks.specs.declared.parts.Form.TheVariants.{Lines, Raw}
use Rattle.tape_tool.specs.{declared.write.words.WriteOrder.WriteOrder, CasesOfWords.CasesOfWords}
use Rattle.tape_tool.specs.Words.{IsAtOdds, IsMistake, IsNoSet, IsSize}
use Rattle.tape_tool.proofs.Sizing.{size_is}

is_set : (text : List ℕ) → 1 ≤ length text → length text ≤ 6 → IsNoSet text → ⊥
is_set text some short (inl e) = absurd (omega (arith, some, e))
is_set text some short (inr h) = absurd (omega (arith, short, h))

nine_k : IsSize (codes "9K") 9216
nine_k = record {
  digits = codes "9";
  unit = codes "K";
  factor = 1024;
  text_is = refl;
  of_unit = inr (inl (refl, refl));
  numeral = (lit< tt, (lit< tt, tt));
  value = refl;
  few = lit< tt;
}

fixed : (order : WriteOrder) → order.format ≡ Fixed → order.«record» ≡ Some 80
    → IsAtOdds order → ⊥
fixed order is has (inl h) = let e : Some 80 ≡ None = sym has ∙ h.1 in absurd (cc)
fixed order is has (inr (inl h)) = let e : Fixed ≡ Spanned = sym is ∙ h.0 in absurd (cc)
fixed order is has (inr (inr h)) = let e : Fixed ≡ Counted = sym is ∙ h.0 in absurd (cc)

spanned : (order : WriteOrder) → order.format ≡ Spanned → order.«record» ≡ None
    → IsAtOdds order → ⊥
spanned order is none (inl h) = let e : Spanned ≡ Fixed = sym is ∙ h.0 in absurd (cc)
spanned order is none (inr (inl h)) = h.1 none
spanned order is none (inr (inr h)) = let e : Spanned ≡ Counted = sym is ∙ h.0 in absurd (cc)

counted : (order : WriteOrder) → order.format ≡ Counted → order.form ≡ Lines
    → IsAtOdds order → ⊥
counted order is lines (inl h) = let e : Counted ≡ Fixed = sym is ∙ h.0 in absurd (cc)
counted order is lines (inr (inl h)) = let e : Counted ≡ Spanned = sym is ∙ h.0 in absurd (cc)
counted order is lines (inr (inr h)) = let e : Lines ≡ Raw = sym lines ∙ h.1 in absurd (cc)

no_mistake : (error : Error) → kind_of error ≡ DisplayHelp → IsMistake error → ⊥
no_mistake error help (inl e) = let n : DisplayHelp ≡ OutOfMemory = sym help ∙ e in absurd (cc)
no_mistake error help (inr e) =
    let n : DisplayHelp ≡ ValueValidation = sym help ∙ e in absurd (cc)

pub cases_of_words : CasesOfWords
cases_of_words = record {
  set = refl;
  sets = (
    is_set (codes "ABC001") (omega arith) (omega arith),
    is_set (codes "A") (omega arith) (omega arith),
  );
  no_sets = (inl refl, inr (omega arith));
  size = nine_k;
  one_size = λ n s. (size_is (codes "9K") (codes "9") 1024 n
      (λ ds unit f text of_unit. grind (arith, common_steps)) s).1;
  fixed = λ order is. (λ none. inl (is, none), fixed order is);
  spanned = λ order is. (
    λ has. inr (inl (is, λ none. let e : Some 80 ≡ None = sym has ∙ none in absurd (cc))),
    spanned order is,
  );
  counted = λ order is. (λ raw. inr (inr (is, raw)), counted order is);
  mistakes = λ error. (λ e. inr e, λ e. inl e);
  no_mistake = no_mistake;
}
