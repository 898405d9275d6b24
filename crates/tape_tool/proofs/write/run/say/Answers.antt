use Rattle.std.proofs.Common.{◌≡◌, ◌++◌, flat_map, length, take, sym, ap, subst, ◌∙◌, rules, arith}
use Rattle.std.proofs.{lemmas.List.take_all, KnownBytes.Appends-trans}
use Rattle.std.specs.Io.KnownBytes.{Appends}
use Rattle.tape_image.specs.Written.{AppendsFront}
use Rattle.tape_image.proofs.Pieces.{last_front, on_err}
use Rattle.tape_tool.specs.Report.{volume_line, files_line}
use Rattle.tape_tool.proofs.LinesOfVolumes.{lines_more, front_of_lines}
use Rattle.tape_tool.proofs.write.run.say.Goals as goal

pub loop-volume-preserved : goal.loop-volume-preserved
loop-volume-preserved g c =
    let all = c.args.ended.now in
    let i = c.loop-volume.volume-index in
    let item = c.volume-item.result in
    let front = flat_map volume_line (take i all) in
    let line : Appends (g.W.Write.contents c.loop-volume.writer)
    (g.W.Write.contents c.write_text.new.writer) (volume_line item) = search rules in
    let more = lines_more all i item c.loop-volume-test.true
    ∙ ap (λ x. front ++ volume_line x) (sym c.volume-item.is) in
    subst (Appends (g.W.Write.contents c.args.writer.now)
    (g.W.Write.contents c.write_text.new.writer)) (sym more)
    (Appends-trans _ (g.W.Write.contents c.loop-volume.writer) _ front (volume_line item)
    c.loop-volume.invariant line)

pub returns-in_err-write_text-clause-front : goal.returns-in_err-write_text-clause-front
returns-in_err-write_text-clause-front g c =
    let all = c.args.ended.now in
    let item = c.volume-item.result in
    let part : AppendsFront (g.W.Write.contents c.loop-volume.writer)
    (g.W.Write.contents c.write_text.new.writer) (volume_line item) = search rules in
    on_err c.from_residual.result _
    (front_of_lines _ _ _ all c.loop-volume.volume-index item
    (files_line c.args.files (length all)) c.loop-volume-test.true c.volume-item.is
    c.loop-volume.invariant part)

pub returns-clause-front : goal.returns-clause-front
returns-clause-front g c =
    let all = c.args.ended.now in
    let whole : take c.loop-volume.volume-index all ≡ all =
    take_all _ _ (omega arith) in
    last_front c.write_text-2.result _ _ _ (flat_map volume_line all) _
    (subst (λ v. Appends (g.W.Write.contents c.args.writer.now)
    (g.W.Write.contents c.loop-volume.writer) (flat_map volume_line v)) whole
    c.loop-volume.invariant) (search rules)
