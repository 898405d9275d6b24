use Rattle.std.proofs.Common.{inl, inr, refl}
use Rattle.tape_image.proofs.Pieces.{on_err}
use Rattle.tape_run.proofs.SalvageShelf.{file_salvaged, file_placed}
use Rattle.tape_run.proofs.Fitting.{whole_front}
use Rattle.tape_run.proofs.SalvageShelf.{stops_comparing, stops_recovering, stops_placing}
use Rattle.tape_run.proofs.salvage.salvage_to.Goals as goal

pub returns-in_err-conflict-clause-err : goal.returns-in_err-conflict-clause-err
returns-in_err-conflict-clause-err g c =
    on_err c.from_residual-in_err-conflict.result _ (inl (
      refl,
      stops_comparing
          g.L.ImageSource.size g.L.ImageSource.gives g.R.Read.remaining c.args.task.now _ _ _ _ _ _
          _
          c.in_ok-copies.ensures.ok _ refl c.as_slice.ensures.value c.in_err-conflict.ensures.front,
    ))

pub returns-in_err-recover_sections-clause-err : goal.returns-in_err-recover_sections-clause-err
returns-in_err-recover_sections-clause-err g c =
    on_err c.from_residual-in_err-recover_sections.result _ (inl (
      refl,
      stops_recovering
          g.L.ImageSource.size g.L.ImageSource.gives g.R.Read.remaining c.args.task.now _ _ _ _ _ _
          _
          c.in_ok-copies.ensures.ok g.W.Write.contents _ c.new-recovery.result _ _ _ _
          c.in_ok-conflict.ensures.ok c.as_slice.ensures.value c.as_slice-2.ensures.value
          c.new-recovery.ensures c.in_err-recover_sections.ensures.front,
    ))

pub returns-in_err-flush-clause-err : goal.returns-in_err-flush-clause-err
returns-in_err-flush-clause-err g c =
    on_err c.from_residual-in_err-flush.result _ (inl (
      refl,
      stops_placing
          g.L.ImageSource.size g.L.ImageSource.gives g.R.Read.remaining c.args.task.now _ _ _ _ _ _
          _
          c.in_ok-copies.ensures.ok g.W.Write.contents _ c.new-recovery.result _ _ _ _ _
          c.in_ok-conflict.ensures.ok c.as_slice.ensures.value c.as_slice-2.ensures.value
          c.new-recovery.ensures c.in_ok-recover_sections.ensures.ok,
    ))

pub returns-in_err-place-clause-err : goal.returns-in_err-place-clause-err
returns-in_err-place-clause-err g c =
    on_err c.from_residual-in_err-place.result _ (inl (
      c.in_err-place.ensures.err,
      stops_placing
          g.L.ImageSource.size g.L.ImageSource.gives g.R.Read.remaining c.args.task.now _ _ _ _ _ _
          _
          c.in_ok-copies.ensures.ok g.W.Write.contents _ c.new-recovery.result _ _ _ _ _
          c.in_ok-conflict.ensures.ok c.as_slice.ensures.value c.as_slice-2.ensures.value
          c.new-recovery.ensures c.in_ok-recover_sections.ensures.ok,
    ))

pub returns-in_err-write_line-clause-err : goal.returns-in_err-write_line-clause-err
returns-in_err-write_line-clause-err g c =
    on_err c.from_residual-in_err-write_line.result _ (inr (file_placed g.W.Write.contents
    g.L.ImageSource.size g.L.ImageSource.gives g.R.Read.remaining c.args.task.now c.args.out
    _ _ _ _ _ _ _ _
    c.into_out-written.result c.flush.new.writer _ _ _ _ _ _ _ c.is_complete-complete.result
    c.records-records.result
    _ c.in_ok-copies.ensures.ok c.in_ok-conflict.ensures.ok
    c.as_slice.ensures.value c.in_ok-recover_sections.ensures.ok c.as_slice-2.ensures.value
    c.new-recovery.ensures c.into_out-written.ensures
    c.in_ok-flush.ensures.kept c.in_ok-place.ensures.ok c.records-records.ensures
    c.is_complete-complete.ensures refl
    (rw c.last_word-word.ensures at c.in_err-write_line.ensures.err)))

pub returns-in_err-flush-2-clause-err : goal.returns-in_err-flush-2-clause-err
returns-in_err-flush-2-clause-err g c =
    on_err c.from_residual-in_err-flush-2.result _ (inr (file_placed g.W.Write.contents
    g.L.ImageSource.size g.L.ImageSource.gives g.R.Read.remaining c.args.task.now c.args.out
    _ _ _ _ _ _ _ _
    c.into_out-written.result c.flush.new.writer _ _ _ _ _ _ _ c.is_complete-complete.result
    c.records-records.result
    _ c.in_ok-copies.ensures.ok c.in_ok-conflict.ensures.ok
    c.as_slice.ensures.value c.in_ok-recover_sections.ensures.ok c.as_slice-2.ensures.value
    c.new-recovery.ensures c.into_out-written.ensures
    c.in_ok-flush.ensures.kept c.in_ok-place.ensures.ok c.records-records.ensures
    c.is_complete-complete.ensures refl
    (whole_front _ _ _ _ (rw c.last_word-word.ensures at c.in_ok-write_line.ensures.ok)
    c.in_err-flush-2.ensures.kept)))

pub returns-clause-ok : goal.returns-clause-ok
returns-clause-ok g c =
    file_salvaged g.W.Write.contents g.L.ImageSource.size g.L.ImageSource.gives g.R.Read.remaining
    c.args.task.now c.args.out _ _ _ _ _ _ _ _ c.into_out-written.result c.flush.new.writer _ _ _ _
    _ _ _ _ c.is_complete-complete.result c.records-records.result
    _ c.in_ok-copies.ensures.ok
    c.in_ok-conflict.ensures.ok c.as_slice.ensures.value c.in_ok-recover_sections.ensures.ok
    c.as_slice-2.ensures.value c.new-recovery.ensures
    c.into_out-written.ensures c.in_ok-flush.ensures.kept c.in_ok-place.ensures.ok
    c.records-records.ensures c.is_complete-complete.ensures
    refl (rw c.last_word-word.ensures at c.in_ok-write_line.ensures.ok) c.in_ok-flush-2.ensures.kept
