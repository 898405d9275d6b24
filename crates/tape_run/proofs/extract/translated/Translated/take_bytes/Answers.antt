use Rattle.std.proofs.Common.{length, ◌≤◌, ◌+◌, ◌≡◌, ◌∙◌, arith}
use Rattle.tape_run.proofs.Translations.{bytes_taken}
use Rattle.tape_run.proofs.extract.translated.Translated.take_bytes.Goals as goal

pub returns-clause-taken : goal.returns-clause-taken
returns-clause-taken g c =
    let few : c.min-count.result ≤ length c.args.buf.now =
    omega (arith, c.min.ensures, c.min-count.ensures) in
    let sum : c.min-count.result + c.end.new.self.left ≡ c.args.self.now.left =
    omega (arith, c.min.ensures, c.min-count.ensures, c.in_ok-end.ensures.left) in (
      few,
      bytes_taken c.args.form c.args.buf.now c.min-count.result c.args.self.now.left
          c.end.new.self.left _ _ _ _ _ few sum c.requires (c.deref.ensures.0 ∙ c.characters.ensures)
          c.in_ok-write_all.ensures.bytes c.in_ok-end.ensures.left c.in_ok-end.ensures.text,
    )
