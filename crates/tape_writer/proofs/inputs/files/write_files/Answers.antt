use Rattle.tape_writer.proofs.Words.{rules, arith, refl, ◌∙◌, err_from_is_err_and}
use Rattle.tape_writer.proofs.{Last.rose_from, inputs.Putting.grows_self, inputs.Putting.grows_then}
use Rattle.tape_writer.proofs.{inputs.Refusing.wrote_fault, inputs.Leaving.all_more}
use Rattle.tape_writer.proofs.inputs.Filing.{wrote_none, wrote_one, wrote_in}
use Rattle.tape_writer.specs.State.{SetState}
use Rattle.tape_writer.specs.{declared.fault.WriteFault.WriteFault, Refusals.closed_by}
use Rattle.std.proofs.Common.{◌≡◌, Some}
use Rattle.tape_writer.proofs.inputs.files.write_files.Goals as goal

-- no file can begin in an unchanged writer
still_closed : {T : Type 0} (old now : SetState T) (fault : WriteFault) → now ≡ old
    → closed_by old.phase ≡ Some fault → closed_by now.phase ≡ Some fault
still_closed old now fault same is = rw same is

pub files-init : goal.files-init
files-init g c = record {
  volumes = refl;
  capacity = refl;
  set_id = refl;
  stands = λ is. (is, search rules);
  grew = grows_self _;
  begun = λ l. absurd (omega (arith, l));
  first = λ zero. refl;
  closed = λ fault is. refl;
  unfit = λ between unfit. (refl, refl);
  wrote = wrote_none _ _ _ _ _ _ _;
}

pub files-preserved : goal.files-preserved
files-preserved g c =
    let next = c.in_ok-write_file.ensures.stands in
    record {
      volumes = c.write_file.ensures.same.0 ∙ c.files.invariant.volumes;
      capacity = c.write_file.ensures.same.1 ∙ c.files.invariant.capacity;
      set_id = c.write_file.ensures.same.2 ∙ c.files.invariant.set_id;
      stands = λ is.
          let now = c.files.invariant.stands is in
          (next.0, omega (arith, now.1, next.2));
      grew = grows_then _ _ _ c.files.invariant.grew c.in_ok-write_file.ensures.count;
      begun = λ l. next.1;
      first = λ zero. absurd (omega (arith, zero));
      closed = λ fault is. absurd (let e = (c.in_ok-write_file.ensures.closed fault
          (still_closed _ _ fault (c.files.invariant.first (c.files.invariant.closed fault is))
          is)).0 in cc);
      unfit = λ between unfit. absurd (c.in_ok-write_file.ensures.unfit
          (c.files.invariant.stands between).0 (rw c.files.invariant.capacity unfit)).1;
      wrote = wrote_one c.files.invariant.wrote c.index-files-at.result (search rules) _
          (λ t h. rw c.files.invariant.set_id at (c.in_ok-write_file.ensures.told t h));
    }

pub returns-in_err-write_file-clause-due : goal.returns-in_err-write_file-clause-due
returns-in_err-write_file-clause-due g c = λ between.
    let p = err_from_is_err_and c.from_residual.result c.from_residual.ensures.1 in
    let now = c.files.invariant.stands between in
    rw (p.1, p.2) (wrote_fault c.files.invariant.wrote c.index-files-at.result (search rules) _ _ _
    _ now.1 (rw c.files.invariant.capacity at (c.in_err-write_file.ensures.due now.0)))

pub returns-in_err-write_file-clause-stuck : goal.returns-in_err-write_file-clause-stuck
returns-in_err-write_file-clause-stuck g c =
    let p = err_from_is_err_and c.from_residual.result c.from_residual.ensures.1 in
    rw (p.1, p.2) (λ e. wrote_in c.files.invariant.wrote c.index-files-at.result (search rules)
    (λ t h. rw c.files.invariant.set_id at (c.in_err-write_file.ensures.stuck e t h)))

pub returns-in_err-write_file-clause-front : goal.returns-in_err-write_file-clause-front
returns-in_err-write_file-clause-front g c =
    let p = err_from_is_err_and c.from_residual.result c.from_residual.ensures.1 in
    rw (p.1, p.2) (λ between.
    wrote_in c.files.invariant.wrote c.index-files-at.result (search rules)
    (λ t m. all_more (g.T.TapeOut.holds c.write_file.new.writer.out) _ _ _ _ _ _ _ _
    (λ grew. rose_from _ _ _ c.files.invariant.grew.1 grew) (rw c.files.invariant.set_id at
    (c.in_err-write_file.ensures.front (c.files.invariant.stands between).0 t m))))

pub returns-in_err-write_file-clause-unfit : goal.returns-in_err-write_file-clause-unfit
returns-in_err-write_file-clause-unfit g c =
    let p = err_from_is_err_and c.from_residual.result c.from_residual.ensures.1 in
    rw p.1 (λ between unfit some.
    let kept = c.in_err-write_file.ensures.unfit (c.files.invariant.stands between).0
    (rw c.files.invariant.capacity unfit) in
    (kept.0 ∙ (c.files.invariant.unfit between unfit).1, tt))

pub returns-in_err-write_file-clause-closed : goal.returns-in_err-write_file-clause-closed
returns-in_err-write_file-clause-closed g c =
    let p = err_from_is_err_and c.from_residual.result c.from_residual.ensures.1 in
    rw (p.1, p.2) (λ fault is some.
    let first = c.files.invariant.first (c.files.invariant.closed fault is) in
    let end = c.in_err-write_file.ensures.closed fault (still_closed _ _ fault first is) in
    (end.0, end.1 ∙ first))
