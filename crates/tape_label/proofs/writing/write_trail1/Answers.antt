use Rattle.std.proofs.Common.{◌≡◌, rules}
use Rattle.tape_label.specs.{Kinds.trailer, Written.HaveWidths, Written.head_pieces}
use Rattle.tape_label.proofs.Texts.{trail1_text_is}
use Rattle.tape_label.proofs.writing.write_trail1.Goals as goal

pub returns-clause-label : goal.returns-clause-label
returns-clause-label c =
    let fields = c.args.fields.now in
    let kind : c.if-fields.kind ≡ trailer fields.eof = search rules in
    let widths : HaveWidths (head_pieces (trailer fields.eof) fields.head fields.blocks) =
    rw kind at c.head_text.ensures.widths in
    rw (c.head_text.ensures.text, kind) (trail1_text_is fields c.requires widths)
