use Rattle.tape_writer.proofs.Words.{◌≡◌, ◌+◌, length, false, vec_capacity}
use Rattle.tape_writer.proofs.inputs.Putting.{PutWithin, Begun}
use Rattle.tape_writer.specs.{State.IsWriting, Refusals.IsInFile, Told.opened_by}
use Rattle.tape_writer.specs.{Records.left_of, Records.longest, Room.room_left, Tapes.Grows}
use Rattle.tape_writer.proofs.inputs.files.write_file.Given as goal

abbrev pub invariant-records : goal.invariant-records
invariant-records g l = record {
  volumes : l.writer.volumes ≡ l.fn.writer.volumes;
  capacity : l.writer.capacity ≡ l.fn.writer.capacity;
  set_id : l.writer.set_id ≡ l.fn.writer.set_id;
  cut : l.records.cut ≡ l.fn.cut;
  limit : l.records.limit ≡ longest l.fn.shape;
  stays : IsInFile (opened_by l.fn.writer.set_id (length l.fn.writer.files + 1) l.fn.head
      l.fn.shape) l.writer.phase;
  files : length l.writer.files ≡ length l.fn.writer.files + 1;
  grew : Grows (g.T.TapeOut.failures l.fn.writer.out) (g.T.TapeOut.failures l.writer.out);
  so_far : PutWithin (vec_capacity l.records.content) l.fn.cut false l.records.over
      (g.R.Read.remaining l.fn.input) (left_of (λ d. g.R.Read.remaining d.now) l.records)
      (Begun (g.T.TapeOut.holds l.fn.writer.out) l.fn.writer l.fn.head l.fn.shape)
      (IsWriting (g.T.TapeOut.holds l.writer.out) l.writer);
}

abbrev pub decreases-records : goal.decreases-records
decreases-records g l = room_left l.writer
