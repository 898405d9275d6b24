use Rattle.std.proofs.Common.{◌≡◌, rules, arith}
use Rattle.std.proofs.lemmas.Grind.{common_steps}
use Rattle.tape_label.specs.Written.{text_of, HaveWidths, vol1_pieces}
use Rattle.tape_label.proofs.Texts.{vol1_text_is}
use Rattle.tape_label.proofs.writing.write_vol1.Goals as goal

pub returns-clause-label : goal.returns-clause-label
returns-clause-label c =
    let fields = c.args.fields.now in
    let text : c.whole.result ≡ text_of (vol1_pieces fields) = grind (arith, common_steps) in
    let widths : HaveWidths (vol1_pieces fields) = search rules in
    rw text (vol1_text_is fields widths)
