use Rattle.tape_writer.proofs.Words.{◌≡◌, ◌<◌, ◌≤◌, ◌+◌, ◌-◌, length, IsWritable, least_capacity}
use Rattle.tape_writer.proofs.inputs.Filing.{Wrote}
use Rattle.std.proofs.Common.{Some}
use Rattle.tape_writer.specs.{declared.phase.Phase.TheVariants.Between, State.IsWriting}
use Rattle.tape_writer.specs.{declared.fault.WriteFault.WriteFault, Refusals.closed_by, Tapes.Grows}
use Rattle.tape_writer.proofs.inputs.files.write_files.Given as goal

abbrev pub invariant-files : goal.invariant-files
invariant-files g l = record {
  volumes : l.writer.volumes ≡ l.fn.writer.volumes;
  capacity : l.writer.capacity ≡ l.fn.writer.capacity;
  set_id : l.writer.set_id ≡ l.fn.writer.set_id;
  stands : l.fn.writer.phase ≡ Between
      → (l.writer.phase ≡ Between) × (length l.writer.files ≡ length l.fn.writer.files + l.at);
  grew : Grows (g.T.TapeOut.failures l.fn.writer.out) (g.T.TapeOut.failures l.writer.out);
  begun : 0 < l.at → 0 < l.writer.course.volume;
  first : l.at ≡ 0 → l.writer ≡ l.fn.writer;
  closed : (fault : WriteFault) → closed_by l.fn.writer.phase ≡ Some fault → l.at ≡ 0;
  unfit : l.fn.writer.phase ≡ Between
      → (IsWritable l.shape → least_capacity l.shape ≤ l.fn.writer.capacity → ⊥)
      → (l.at ≡ 0) × (l.writer ≡ l.fn.writer);
  wrote : Wrote _ (λ f. (f.head, g.R.Read.remaining f.reader)) l.fn.writer.set_id l.shape l.cut
      l.fn.files l.files l.at
      (IsWriting (g.T.TapeOut.holds l.fn.writer.out) l.fn.writer)
      (IsWriting (g.T.TapeOut.holds l.writer.out) l.writer);
}

abbrev pub decreases-files : goal.decreases-files
decreases-files g l = length l.files - l.at
