-- The cases of unpacking.
use Rattle.std.proofs.Common.{refl, ap, sym, ◌≡◌, [], ◌∷◌, inl, arith, length, codes}
use Rattle.std.proofs.Common.{decimal, length-append, subst, true, false}
use Rattle.std.specs.Fmt.{digits}
use Rattle.tape_set.specs.Position.{start}
use Rattle.tape_run.specs.{CasesOfUnpacking.CasesOfUnpacking, Origins.is_before}

pub cases_of_unpacking : CasesOfUnpacking
unfolding digits
cases_of_unpacking = record {
  told_apart = λ law a b ua ub other e. other (law a b ua ub e);
  shows = λ law. law;
  keeps = λ law. law;
  on_images = λ shelf left met f.
      (f.viewed.all, f.viewed.viewed, f.files, f.whole, f.sections, f.notes);
  not_again = refl;
  read_again = refl;
  had_before = refl;
  in_order = (refl, refl, refl, refl, refl, refl);
  no_run = λ os end s. subst (λ p. is_before start p ≡ false) s.follow s.from_start;
  one_run = λ os end at run s h i. (
    subst (λ p. is_before start p ≡ false) (sym s.follow.0) s.from_start,
    s.follow.2,
    λ from. s.sources.0 at from (subst (λ p. is_before at p ≡ true) (sym s.follow.2) i),
  );
  no_gap = λ a b end (at_a, more_a, (at_b, more_b, ends)). (at_a, at_b, ends, more_b);
  star = (
    codes "A",
    codes "BBC",
    refl,
    λ n. refl,
    (codes "BB", codes "C", refl, λ n. absurd (n refl), (codes "C", [], refl, λ n. refl, refl)),
  );
  no_more = λ (piece, rest, e, r, f). let p : piece ≡ 65 ∷ [] = r (λ is. omega (arith, is)) in
      omega (arith, ap length e, length-append piece rest, ap length p, ap length f);
  by_number = λ f is. inl (ap decimal (sym is));
  other_set = λ f s other is. other is;
  any_set = λ f. tt;
  own_name = λ law s t m n a b x y ss ts long lm ln other e.
      other (law s t m n a b x y ss ts long lm ln e).0;
  case_folded = refl;
  stays = λ law. law;
  fits = λ law. law;
}
