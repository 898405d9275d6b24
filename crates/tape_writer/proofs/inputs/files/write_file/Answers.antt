use Rattle.tape_writer.proofs.Words.{◌≡◌, ◌∙◌, inr, ap, length}
use Rattle.tape_writer.proofs.{Last.rose_from, Fronts.inside_writing, Fronts.front_here}
use Rattle.tape_writer.proofs.inputs.Leaving.{begin_left, none_left, if_any, end_left, put_left}
use Rattle.tape_writer.proofs.inputs.Leaving.{ended_left, other_than, of_writer, read_left}
use Rattle.tape_writer.proofs.inputs.Refusing.{of_ending, end_ends, not_told, put_fault, put_other}
use Rattle.tape_writer.proofs.inputs.Refusing.{told_input, next_long}
use Rattle.tape_writer.proofs.inputs.Putting.{file_told, end_out, put_one, within_begun, within_one}
use Rattle.tape_writer.proofs.inputs.Putting.{all_put, gave_up, grows_then}
use Rattle.tape_writer.specs.declared.fault.WriteFault.TheVariants.{OutOfVolumes, OutOfMemory}
use Rattle.tape_writer.specs.{declared.fault.WriteFault.TheVariants.FileBegun, State.IsWriting}
use Rattle.tape_writer.specs.{declared.phase.Phase.Phase, Refusals.IsBeginFault, Refusals.closed_by}
use Rattle.tape_writer.specs.declared.phase.Phase.TheVariants.{Between, Filing, Failed, Finished}
use Rattle.tape_writer.specs.{declared.fault.WriteFault.WriteFault, Faults.IsEnding}
use Rattle.std.proofs.{Common.ℕ, Common.Some, Common.refl, Common.sym, lemmas.Option.IfSome_then}
use Rattle.tape_label.specs.declared.values.Head1.{Head1}
use Rattle.tape_blocks.specs.declared.parts.Shape.{Shape}
use Rattle.tape_writer.specs.declared.fault.WriteFault.TheVariants as faults
use Rattle.tape_writer.proofs.inputs.files.write_file.Goals as goal

-- a file begins whether or not there is a further volume
not_out : (phase : Phase) (fault : WriteFault) (capacity n : ℕ) (head : Head1) (shape : Shape)
    → ((f : WriteFault) → closed_by phase ≡ Some f → fault ≡ f)
    → (phase ≡ Between → IsBeginFault capacity n head shape fault) → fault ≡ OutOfVolumes → ⊥
not_out Between fault capacity n head shape closed due is = rw is at (due refl)
not_out (Filing o) fault capacity n head shape closed due is =
    let no : FileBegun ≡ OutOfVolumes = sym (closed FileBegun refl) ∙ is in cc
not_out Failed fault capacity n head shape closed due is =
    let no : faults.Failed ≡ OutOfVolumes = sym (closed faults.Failed refl) ∙ is in cc
not_out Finished fault capacity n head shape closed due is =
    let no : faults.Finished ≡ OutOfVolumes = sym (closed faults.Finished refl) ∙ is in cc

pub returns-in-Err-clause-stuck : goal.returns-in-Err-clause-stuck
returns-in-Err-clause-stuck g c = λ e told held.
    let fault : c.in-Err.fault ≡ OutOfVolumes = cc in
    absurd (not_out c.args.writer.now.phase c.in-Err.fault _ _ _ _
    (λ f is. let same = (c.in-Err.ensures.closed f is).0 in cc) c.in-Err.ensures.due fault)

pub returns-in-Err-clause-unfit : goal.returns-in-Err-clause-unfit
returns-in-Err-clause-unfit g c = λ between unfit.
    ((c.in-Err.ensures.unfit between unfit).0, tt)

pub returns-in-Err-clause-front : goal.returns-in-Err-clause-front
returns-in-Err-clause-front g c = λ between told held. if_any _ _ (λ bytes. begin_left
    (λ out. g.T.TapeOut.holds out) _ _ _ _ told _ _ _ _ _ _ (c.in-Err.ensures.due between)
    c.in-Err.ensures.leaves held between (c.in-Err.ensures.front told held))

pub returns-in_default-new-clause-front : goal.returns-in_default-new-clause-front
returns-in_default-new-clause-front g c = λ between told held. if_any _ _ (λ bytes. inr (none_left
    (g.T.TapeOut.holds c.begin_file.new.self.out) _ _ _ _ _ (inside_writing
    (g.T.TapeOut.holds c.begin_file.new.self.out) _ _ _ _
    (front_here (g.T.TapeOut.holds c.begin_file.new.self.out)) c.in_default.ensures.opened
    (c.in_default.ensures.told told held)) (λ i. i)))

-- ---- the records

pub records-init : goal.records-init
records-init g c =
    let made = c.in-Ok.ensures in record {
      volumes = c.begin_file.ensures.same.0;
      capacity = c.begin_file.ensures.same.1;
      set_id = c.begin_file.ensures.same.2;
      cut = made.cut;
      limit = made.limit ∙ c.longest.ensures;
      stays = c.in_default.ensures.opened;
      files = c.in_default.ensures.files;
      grew = c.begin_file.ensures.lasting.count;
      so_far = rw made.begun
          (within_begun _ _ _ _ c.args.head c.args.shape _ _ _ _ made.left
          c.in_default.ensures.told);
    }

pub records-preserved : goal.records-preserved
records-preserved g c =
    let given = rw (
      ← c.as_slice.ensures.value,
      c.next.ensures.cut,
      c.records.invariant.cut,
      c.in-Ok-true.field-0-test,
    ) at c.in-Ok-true.ensures.given in
    record {
      volumes = c.put.ensures.same.0 ∙ c.records.invariant.volumes;
      capacity = c.put.ensures.same.1 ∙ c.records.invariant.capacity;
      set_id = c.put.ensures.same.2 ∙ c.records.invariant.set_id;
      cut = c.next.ensures.cut ∙ c.records.invariant.cut;
      limit = c.next.ensures.limit ∙ c.records.invariant.limit;
      stays = c.in-Ok-put.ensures.stays _ c.records.invariant.stays;
      files = ap length c.put.ensures.files ∙ c.records.invariant.files;
      grew = grows_then _ _ _ c.records.invariant.grew c.put.ensures.lasting.count;
      so_far = within_one c.as_slice.result.now c.records.invariant.so_far given
          c.in-Ok-put.ensures.told c.next.ensures.room.0
          (rw c.as_slice.ensures.value c.next.ensures.room.1);
    }

pub returns-in-Err-put-clause-due : goal.returns-in-Err-put-clause-due
returns-in-Err-put-clause-due g c = λ _.
    let given = rw (
      ← c.as_slice.ensures.value,
      c.next.ensures.cut,
      c.records.invariant.cut,
      c.in-Ok-true.field-0-test,
    ) at c.in-Ok-true.ensures.given in
    inr (put_fault _ c.records.writer.phase c.as_slice.result.now _ c.in-Err-put.fault
    c.records.invariant.stays c.in-Err-put.ensures.due (put_other c.args.shape _ _ _ _ _ _ _ _ _
    c.as_slice.result.now c.records.invariant.so_far.put given))

pub returns-in-Err-next-clause-due : goal.returns-in-Err-next-clause-due
returns-in-Err-next-clause-due g c = λ _. rw c.fault_of.ensures (inr (told_input _ _ (λ e.
    next_long c.args.shape c.records.invariant.so_far.put
    (rw (c.records.invariant.cut, c.records.invariant.limit) at (c.in-Err-next.ensures.long e)))))

pub returns-in-Err-put-clause-stuck : goal.returns-in-Err-put-clause-stuck
returns-in-Err-put-clause-stuck g c = λ e told held.
    let f : c.in-Err-put.fault ≡ OutOfVolumes = cc in
    let given = rw (
      ← c.as_slice.ensures.value,
      c.next.ensures.cut,
      c.records.invariant.cut,
      c.in-Ok-true.field-0-test,
    ) at c.in-Ok-true.ensures.given in
    gave_up (g.T.TapeOut.holds c.put.new.self.out) c.put.new.self _ _ _ _ _ _
    (put_one c.as_slice.result.now c.records.invariant.so_far.put given
    (λ t h. c.in-Err-put.ensures.stuck t h f)) _ (told, held, refl)

pub returns-in-Err-next-clause-stuck : goal.returns-in-Err-next-clause-stuck
returns-in-Err-next-clause-stuck g c = λ e. absurd (not_told _ (sym c.fault_of.ensures ∙ e))

pub returns-in-Err-put-clause-front : goal.returns-in-Err-put-clause-front
returns-in-Err-put-clause-front g c = λ between told held.
    let given = rw (
      ← c.as_slice.ensures.value,
      c.next.ensures.cut,
      c.records.invariant.cut,
      c.in-Ok-true.field-0-test,
    ) at c.in-Ok-true.ensures.given in
    IfSome_then _ (put_left (λ out. g.T.TapeOut.holds out) c.records.writer c.put.new.self _ _ _ _ _
    _ _ _ _ _ c.as_slice.result.now c.in-Err-put.fault c.records.invariant.so_far.put
    c.records.invariant.stays given c.in-Err-put.ensures.leaves
    (λ e. rose_from _ _ _ c.records.invariant.grew.1 (c.in-Err-put.ensures.cause.1 e))
    c.in-Err-put.ensures.front _ (told, held, refl)) (λ bytes l. inr l)

pub returns-in-Err-next-clause-front : goal.returns-in-Err-next-clause-front
returns-in-Err-next-clause-front g c = λ between told held. rw c.fault_of.ensures (IfSome_then _
    (read_left (g.T.TapeOut.holds c.records.writer.out) _ _ _ _ _ _ _ _ _ _ _
    c.records.invariant.so_far c.records.invariant.stays
    (rw c.records.invariant.cut at c.in-Err-next.ensures.memory) _ (told, held, refl))
    (λ bytes l. inr l))

-- ---- the end of the file

pub returns-in-Ok-end_file-clause-told : goal.returns-in-Ok-end_file-clause-told
returns-in-Ok-end_file-clause-told g c told held =
    let given = rw (
      c.next.ensures.cut,
      c.records.invariant.cut,
      c.in-Ok-false.field-0-test,
    ) at c.in-Ok-false.ensures.given in
    let put = all_put _ _ c.records.invariant.so_far given
    (c.in-Ok-false.ensures.end c.in-Ok-false.field-0-test) _ (told, held, refl) in
    file_told told _ _ _ _ _ (IsWriting (g.T.TapeOut.holds c.end_file.new.self.out)
    c.end_file.new.self) put c.in-Ok-end_file.ensures.told

pub returns-in-Err-end_file-clause-due : goal.returns-in-Err-end_file-clause-due
returns-in-Err-end_file-clause-due g c = λ _. inr (of_ending _ _ (end_ends _ _ _
    c.records.invariant.stays c.in-Err-end_file.ensures.due))

pub returns-in-Err-end_file-clause-stuck : goal.returns-in-Err-end_file-clause-stuck
returns-in-Err-end_file-clause-stuck g c = λ e told held.
    let given = rw (
      c.next.ensures.cut,
      c.records.invariant.cut,
      c.in-Ok-false.field-0-test,
    ) at c.in-Ok-false.ensures.given in
    let put = all_put _ _ c.records.invariant.so_far given
    (c.in-Ok-false.ensures.end c.in-Ok-false.field-0-test) _ (told, held, refl) in
    let f : c.in-Err-end_file.fault ≡ OutOfVolumes = cc in
    end_out (g.T.TapeOut.holds c.end_file.new.self.out) _ _ _ _ _ _ put
    (λ t h. c.in-Err-end_file.ensures.stuck t h f)

pub returns-in-Err-end_file-clause-front : goal.returns-in-Err-end_file-clause-front
returns-in-Err-end_file-clause-front g c = λ between told held.
    let given = rw (
      c.next.ensures.cut,
      c.records.invariant.cut,
      c.in-Ok-false.field-0-test,
    ) at c.in-Ok-false.ensures.given in
    let put = all_put _ _ c.records.invariant.so_far given
    (c.in-Ok-false.ensures.end c.in-Ok-false.field-0-test) _ (told, held, refl) in
    let stays = c.records.invariant.stays in
    IfSome_then _ (end_left (g.T.TapeOut.holds c.end_file.new.self.out) _ _ _ _ _ _ _ _ put
    (other_than IsEnding _ (λ n. n) (end_ends _ _ _ stays c.in-Err-end_file.ensures.due))
    (λ e. rose_from _ _ _ c.records.invariant.grew.1
    (c.in-Err-end_file.ensures.cause.1 (of_writer _ OutOfMemory e)))
    (ended_left (λ out. g.T.TapeOut.holds out) _ _ _ _ stays c.in-Err-end_file.ensures.leaves
    c.in-Err-end_file.ensures.front)) (λ bytes l. inr l)
