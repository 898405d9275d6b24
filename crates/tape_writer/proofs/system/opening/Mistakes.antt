-- A result that the contract of the check for a blank volume excludes: it is the result of a wrong
-- body.
use Rattle.tape_writer.proofs.Words.{◌≡◌, ◌++◌, ◌∷◌, [], length, refl, ap, subst, arith}
use Rattle.tape_writer.proofs.Words.{length-append, IfSome, Ok, Some, true}
use Rattle.std.proofs.Common.{◌↔◌, IsTrue, min}
use Rattle.tape_writer.specs.Blank.{blank_image, blank_volume}
use Rattle.tape_writer.proofs.system.opening.is_blank.Reads as is_blank

-- longer_image_taken_for_blank: an image with further bytes after those of a blank volume is
-- accepted as blank
longer_image_taken_for_blank : (R : _) (L : _) (g : _) (d : _) (κs : _) (a : _) (s : _)
    → is_blank.Learnt-named R L g d κs a (Ok true) s → g.remaining a.0.now
    ≡ Some (blank_image (blank_volume a.1.0.characters (min a.1.1.0 999)) ++ 0 ∷ []) → ⊥
longer_image_taken_for_blank R L g d κs a s l longer =
    let blank = blank_image (blank_volume a.1.0.characters (min a.1.1.0 999)) in
    let same : blank ++ 0 ∷ [] ≡ blank
    = (subst (λ z. IfSome z (λ bytes. IsTrue true ↔ (bytes ≡ blank))) longer l.found).0 refl in
    absurd (omega (arith, ap length same, length-append blank (0 ∷ [])))
