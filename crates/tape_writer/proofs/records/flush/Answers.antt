-- The current block is written, in the current section or after a change of the volume.
use Rattle.tape_writer.proofs.Words.{◌+◌, arith, ap, ◌∷◌, [], err_from_is_err_and, block, item_size}
use Rattle.tape_writer.proofs.{Words.lt-leb, Held.fits_next, Held.written, Room.flushed_room}
use Rattle.tape_writer.proofs.{Fronts.front_here, Fronts.front_items, Fronts.err_any}
use Rattle.tape_writer.proofs.{Last.lasting_self, Words.Filled}
use Rattle.tape_writer.specs.Draft.{changed_course}
use Rattle.tape_writer.specs.declared.course.Course.{Course}
use Rattle.tape_writer.proofs.Drafts.{added_course}
use Rattle.tape_writer.proofs.records.flush.Goals as goal

pub returns-in_default-clause-lasting : goal.returns-in_default-clause-lasting
returns-in_default-clause-lasting g c = lasting_self _ _ _

pub returns-in_err-make_room-clause-stuck : goal.returns-in_err-make_room-clause-stuck
returns-in_err-make_room-clause-stuck g c =
    let p = err_from_is_err_and c.from_residual.result c.from_residual.ensures.1 in
    rw (p.1, p.2) (λ e.
    let q = c.in_err-make_room.ensures.stuck e in (
      q.0,
      record {
        text = c.in-Some.block.now;
        given = c.in-Some.ensures.found;
        none_left = q.1;
        due = lt-leb _ _ (omega (arith, q.2));
      },
    ))

pub returns-clause-room : goal.returns-clause-room
returns-clause-room g c = flushed_room _ _ _ c.make_room.new.self.course _ _ _ c.in-Some.block.now
    c.in-Some.ensures.found c.take_block.follows.holds-at-none c.in_ok-make_room.ensures.course
    (omega (arith, c.in_ok-make_room.ensures.room))
    (ap (λ (k : Course). record k { count = k.count + 1 }) c.in_ok-block.ensures.course)

-- ---- the draft, or a prefix of its items

pub returns-clause-flushed : goal.returns-clause-flushed
returns-clause-flushed g c = λ some set_id d o.
    let b : Filled = record { bytes = c.in-Some.block.now; parts = c.args.packer.now.parts } in
    rw c.in_ok-block.ensures.course (written c.in-Some.ensures.found c.requires.shape
    (omega (arith, c.in_ok-make_room.ensures.room)) c.in_ok-block.ensures.ok
    (c.in_ok-make_room.ensures.place set_id d o (b ∷ []) (λ due. lt-leb _ _ (omega (arith, due)))))

pub returns-in_err-make_room-clause-front : goal.returns-in_err-make_room-clause-front
returns-in_err-make_room-clause-front g c =
    let p = err_from_is_err_and c.from_residual.result c.from_residual.ensures.1 in
    rw (p.1, p.2) (λ some set_id d o not.
    let b : Filled = record { bytes = c.in-Some.block.now; parts = c.args.packer.now.parts } in (
      added_course (changed_course c.args.tape.now.course) (item_size (block b.bytes)),
      written c.in-Some.ensures.found c.requires.shape (fits_next _ _ _ _ c.requires.shape
          c.in-Some.ensures.found c.requires.capacity)
          (λ vs items h. front_items _ vs items (block b.bytes ∷ []) h)
          (c.in_err-make_room.ensures.front set_id d o (b ∷ [])
          (λ due. lt-leb _ _ (omega (arith, due))) not),
    ))

pub returns-in_err-block-clause-front : goal.returns-in_err-block-clause-front
returns-in_err-block-clause-front g c = λ some set_id d o.
    err_any c.from_residual-in_err-block.result _ (λ f not.
    let b : Filled = record { bytes = c.in-Some.block.now; parts = c.args.packer.now.parts } in
    let K = g.T.TapeOut.holds c.block.new.self.out in (
      added_course c.make_room.new.self.course (item_size (block b.bytes)),
      written c.in-Some.ensures.found c.requires.shape
          (omega (arith, c.in_ok-make_room.ensures.room))
          (λ vs items h. front_items K vs items (block b.bytes ∷ [])
          (front_here K _ (c.in_err-block.ensures.err _ h)))
          (c.in_ok-make_room.ensures.place set_id d o (b ∷ [])
          (λ due. lt-leb _ _ (omega (arith, due)))),
    ))
