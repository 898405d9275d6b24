-- Proofs of the test cases in `specs/Examples`, by computation and from the clauses of the
-- definitions.
use Rattle.std.proofs.Common.{[], ◌∷◌, length, refl, ap, arith, length-append}
use Rattle.tape_image.specs.declared.item.Ending.TheVariants.{Marked, Physical}
use Rattle.tape_image.specs.Examples.{ImagesAreHeld, AnswersAreHeld, TakingIsHeld, LawsAreHeld}
use Rattle.tape_image.specs.Examples.{WritingIsHeld}
use Rattle.tape_image.specs.{Tape.mark, Spelling.a_mark, Spelling.Spells, Step.TakesEnd}

marked_image : Spells (0 ∷ 0 ∷ 0 ∷ 0 ∷ 255 ∷ 255 ∷ 255 ∷ 255 ∷ 7 ∷ []) (mark ∷ [])
marked_image = record {
  rest = 255 ∷ 255 ∷ 255 ∷ 255 ∷ 7 ∷ [];
  leads = record {
    spellings = record {
      bytes = 0 ∷ 0 ∷ 0 ∷ 0 ∷ [];
      given = mark ∷ [];
      spelled = a_mark (record { four = refl; value = refl }) refl;
    } ∷ [];
    whole = refl;
    items_are = refl;
  };
  ending = Marked;
  ended = (omega arith, refl);
}

no_byte : TakesEnd 0 [] Physical 1 [] [] → ⊥
no_byte t = omega (arith, t.place, ap length t.whole, length-append t.taken [])

pub images_are_held : ImagesAreHeld
images_are_held = grind (arith, marked_image)

pub answers_are_held : AnswersAreHeld
answers_are_held = grind arith

pub taking_is_held : TakingIsHeld
taking_is_held = grind (arith, no_byte)

pub laws_are_held : LawsAreHeld
laws_are_held = record {
  unique = λ law s t x y given other a b e. (law s t x y given other a b e).0;
  apart = λ law place rest stop a b. law place rest stop a b;
  one_list = λ law place xs items others end far stop other a b.
      (law place xs items others end far stop other a b).0;
  begins = λ law xs items s end e near. law xs items s end e near;
  first = λ law xs ys taken items at end stop w near b.
      let (more, e, _) = law 0 xs ys taken items at end stop w near b in (more, e);
}

pub writing_is_held : WritingIsHeld
writing_is_held = grind arith
