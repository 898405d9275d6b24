use Rattle.tape_writer.proofs.Words.{◌≡◌, ◌<◌, ℕ, Bool, List, ◌++◌, length, take, Option, None}
use Rattle.tape_writer.proofs.Words.{Some, sym, ap, ◌∙◌, arith, rules, length-append, IfSome}
use Rattle.tape_writer.proofs.Words.{length-take-le}
use Rattle.std.proofs.Common.{append-nil, ◌↔◌, IsTrue}
use Rattle.std.proofs.lemmas.{Bool.Decides.Decides-eqb, Slice.Eq.slice_eq-Decides}
use Rattle.tape_image.specs.Device.{Fills}
use Rattle.tape_writer.proofs.system.opening.is_blank.Goals as goal

-- the bytes read are all bytes of the reader, if the buffer had room for more
all_taken : (xs ys buffer : List ℕ) (n : ℕ) → Fills (Some xs) (Some ys) buffer n
    → n < length buffer → take n buffer ≡ xs
all_taken xs ys buffer n fills short = sym (fills.taken
    ∙ ap (λ rest. take n buffer ++ rest) (fills.short short) ∙ append-nil (take n buffer))

-- so they are equal to a shorter image exactly if the reader's bytes are
is_image : (told : Bool) (old new : Option (List ℕ)) (buffer : List ℕ) (n : ℕ)
    (slice image : List ℕ) → (IsTrue told ↔ (take n buffer ≡ slice)) → slice ≡ image
    → Fills old new buffer n → length slice < length buffer
    → IfSome old (λ bytes. IsTrue told ↔ (bytes ≡ image))
is_image told None new buffer n slice image test is fills less = tt
is_image told (Some xs) None buffer n slice image test is fills less = absurd fills.taken
is_image told (Some xs) (Some ys) buffer n slice image test is fills less = (
  λ yes. let same = test.0 yes in sym (all_taken xs ys buffer n fills (omega (
    arith,
    less,
    ap length same,
    length-take-le n buffer fills.fits,
  ))) ∙ same ∙ is,
  λ same. test.1 (all_taken xs ys buffer n fills (omega (
    arith,
    less,
    ap length same,
    ap length is,
    ap length fills.taken,
    length-append (take n buffer) ys,
    length-take-le n buffer fills.fits,
  )) ∙ same ∙ sym is),
)

pub returns-in-Ok-clause-found : goal.returns-in-Ok-clause-found
returns-in-Ok-clause-found g c =
    let test = slice_eq-Decides Decides-eqb _ _ _ c.eq.ensures in
    let rem = g.R.Read.remaining in
    is_image c.eq.result (rem c.args.reader.now) (rem c.fill.new.device) c.fill.new.buffer
    c.in-Ok.count c.as_slice.result.now _ test (c.as_slice.ensures.value ∙ c.image_of.ensures)
    c.in-Ok.ensures.taken (search rules)
