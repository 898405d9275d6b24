-- Bytes that were read, and written.
use Rattle.std.proofs.Common.{ℕ, List, ◌++◌, Option, Some, None, sym, ap, ◌∙◌, append_assoc}
use Rattle.std.specs.Io.KnownBytes.{Consumes, Appends}
use Rattle.std.proofs.KnownBytes.{Appends-trans}
use Rattle.tape_image.specs.Convert.{CopiesFront}
use Rattle.tape_image.specs.Written.{AppendsFront}

-- all that was read was written, and of what was read last only a front
pub front_copied : (r0 r1 r2 w0 w1 w2 : Option (List ℕ)) (bs more : List ℕ) → Consumes r0 r1 bs
    → Appends w0 w1 bs → Consumes r1 r2 more → AppendsFront w1 w2 more → CopiesFront r0 w0 w2
front_copied None r1 r2 w0 w1 w2 bs more a b c (front, rest, d, e) = tt
front_copied (Some x) None r2 w0 w1 w2 bs more a b c (front, rest, d, e) = absurd a
front_copied (Some x) (Some y) None w0 w1 w2 bs more a b c (front, rest, d, e) = absurd c
front_copied (Some x) (Some y) (Some z) w0 w1 w2 bs more a b c (front, rest, d, e) = (
  bs ++ front,
  rest ++ z,
  Appends-trans w0 w1 w2 bs front b d,
  a ∙ ap (λ (l : List ℕ). bs ++ l) (c ∙ ap (λ (l : List ℕ). l ++ z) e
      ∙ append_assoc front rest z) ∙ sym (append_assoc bs front (rest ++ z)),
)
