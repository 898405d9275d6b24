use Rattle.std.proofs.Common.{◌≡◌, ◌+◌, ◌++◌, ℕ, List, length}
use Rattle.std.specs.Io.KnownBytes.{Consumes, prepend_known}
use Rattle.tape_image.specs.Format.{with_more}
use Rattle.tape_image.proofs.format.SimhImage.keep.Given as goal

-- some of the bytes were taken and kept, and nothing else has changed
abbrev pub invariant-bytes : goal.invariant-bytes
invariant-bytes g l = record {
  taken : (bs : List ℕ)
      × Consumes (prepend_known l.initial.self.input.held
      (g.R.Read.remaining l.initial.self.input.device))
      (prepend_known l.self.input.held (g.R.Read.remaining l.self.input.device)) bs
      × (length bs + l.left ≡ l.count)
      × ((zs : List ℕ) → with_more l.self.kept.items zs ≡ with_more l.initial.self.kept.items (bs
      ++ zs));
  format : l.self.format ≡ l.initial.self.format;
  before : l.self.before ≡ l.initial.self.before;
  course : l.self.course ≡ l.initial.self.course;
  out : l.self.out ≡ l.initial.self.out;
}

abbrev pub decreases-bytes : goal.decreases-bytes
decreases-bytes g l = l.left
