use Rattle.std.proofs.Common.{ℕ, List}
use Rattle.std.specs.Io.KnownBytes.{Consumes, Appends}
use Rattle.tape_image.proofs.convert.copy.Given as goal

-- the bytes that were read were written
abbrev pub invariant-reads : goal.invariant-reads
invariant-reads g l = record {
  copied : (bs : List ℕ)
      × Consumes (g.R.Read.remaining l.initial.device) (g.R.Read.remaining l.device) bs
      × Appends (g.W.Write.contents l.initial.out) (g.W.Write.contents l.out) bs;
}
