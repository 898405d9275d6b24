use Rattle.tape_writer.proofs.Words.{◌≡◌, ◌⊎◌, ◌≤◌, ℕ, ◌+◌, List, length, false, true}
use Rattle.tape_writer.proofs.Words.{HasRecordLength, IsJudged, Section}
use Rattle.tape_label.specs.declared.values.Format.TheVariants.{Spanned}
use Rattle.tape_writer.specs.{Draft.IsRoomy, Lasting.Lasting, Tapes.WasAsked, Room.room_of}
use Rattle.tape_writer.specs.{Inside.IsInside, Inside.IsPacking}
use Rattle.tape_writer.proofs.records.put_record.Given as goal

abbrev pub invariant-offers : goal.invariant-offers
invariant-offers g l = record {
  file : l.current.file ≡ l.fn.current.file;
  roomy : IsRoomy l.capacity (length l.volumes) l.tape.course;
  shape : l.current.packer.shape ≡ l.current.file.shape;
  opened : l.current.packer.closed ≡ false;
  begun : l.current.packer.begun ≡ true → l.current.file.shape.format ≡ Spanned;
  room : room_of (length l.volumes) l.capacity l.tape.course l.current.packer
      ≤ room_of (length l.volumes) l.capacity l.fn.tape.course l.fn.current.packer;
  judged : ((l.tape ≡ l.fn.tape) × (l.current.packer ≡ l.fn.current.packer) × (l.rest ≡ l.whole))
      ⊎ (HasRecordLength l.fn.current.file.shape.format l.fn.current.file.shape.rec_len
      (length l.whole)
      × IsJudged l.current.packer l.rest);
  lasting : Lasting (g.T.TapeOut.holds l.fn.tape.out)
      (g.T.TapeOut.failures l.fn.tape.out) l.fn.tape.course.used (g.T.TapeOut.holds l.tape.out)
      (g.T.TapeOut.failures l.tape.out) l.tape.course.used;
  asked : WasAsked (g.T.TapeOut.asked l.fn.tape.out) l.volumes l.fn.tape.course.volume
      → WasAsked (g.T.TapeOut.asked l.tape.out) l.volumes l.tape.course.volume;
  packing : (set_id : List ℕ) (fs : List (List Section)) (records : List (List ℕ))
      → IsInside (g.T.TapeOut.holds l.fn.tape.out) l.volumes l.capacity set_id l.fn.current.file
      l.fn.tape.course l.fn.current.packer fs records
      → IsPacking (g.T.TapeOut.holds l.tape.out) l.volumes l.capacity set_id l.current.file
      l.tape.course l.current.packer fs records l.whole l.rest;
}

abbrev pub decreases-offers : goal.decreases-offers
decreases-offers g l = length l.rest + length l.current.packer.parts
