use Rattle.std.proofs.{Common.Result, Common.Ok, Common.Err, Common.OnOk, KnownBytes.Appends-kept}
use Rattle.std.specs.Io.KnownBytes.{Appends}
use Rattle.tape_image.specs.Written.{AppendsFront}
use Rattle.tape_image.proofs.Pieces.{on_err}
use Rattle.tape_run.proofs.{Fitting.whole_front, Shown.some_map}
use Rattle.tape_run.proofs.text.pass_line.Goals as goal

on_ok : {T E : Type 0} (r : Result T E) (P : Type 0) → P → OnOk r P
on_ok (Ok x) P p = p
on_ok (Err e) P p = tt

pub returns-clause-ok : goal.returns-clause-ok
returns-clause-ok g c =
    let old = g.W.Write.contents c.args.writer.now in
    let mid = g.W.Write.contents c.write_line.new.writer in
    let new = g.W.Write.contents c.flush.new.writer in
    on_ok _ _ (some_map _ (Appends old mid) (Appends old new) (λ text wrote.
    Appends-kept old mid new text wrote c.flush.ensures.kept) c.in_ok-write_line.ensures.ok)

pub returns-clause-err : goal.returns-clause-err
returns-clause-err g c =
    let old = g.W.Write.contents c.args.writer.now in
    let mid = g.W.Write.contents c.write_line.new.writer in
    let new = g.W.Write.contents c.flush.new.writer in
    on_err _ _ (some_map _ (Appends old mid) (AppendsFront old new) (λ text wrote.
    whole_front old mid new text wrote c.flush.ensures.kept) c.in_ok-write_line.ensures.ok)
