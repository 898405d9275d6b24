use Rattle.std.proofs.Common.{◌≡◌, ◌&&◌, false, sym, ◌∙◌}
use Rattle.tape_blocks.specs.{Parts.view, Spans.continues}
use Rattle.tape_run.proofs.MenderLaws.{no_right, no_left, put_open, put_end}
use Rattle.tape_run.proofs.salvage.mender.Mender.put.Goals.{else-self-via-else-self}
use Rattle.tape_run.proofs.salvage.mender.Mender.put.Goals.{
  else-self-via-then-self+else-continues,
}
use Rattle.tape_run.proofs.salvage.mender.Mender.put.Goals as goal

pub returns-in-Ok-clause-ok : goal.returns-in-Ok-clause-ok
returns-in-Ok-clause-ok g c start p h =
    let torn = c.args.self.now.torn in
    let on = continues c.args.part.span in
    let off : (torn && on) ≡ false = elim c.else-self.branch [
      | else-self-via-then-self+else-continues w ↦
          no_right torn on (sym w.continues.ensures ∙ w.if-continues.false)
      | else-self-via-else-self w ↦ no_left torn on w.if-self.false
    ] in
    put_open start _ _ _ _ _ _ torn _ p (view c.args.part) h off c.leaves-self.ensures
    c.if-self-2.true c.in-Ok.ensures.items

pub returns-clause-ok : goal.returns-clause-ok
returns-clause-ok g c start p h =
    let torn = c.args.self.now.torn in
    let on = continues c.args.part.span in
    let off : (torn && on) ≡ false = elim c.else-self.branch [
      | else-self-via-then-self+else-continues w ↦
          no_right torn on (sym w.continues.ensures ∙ w.if-continues.false)
      | else-self-via-else-self w ↦ no_left torn on w.if-self.false
    ] in
    put_end start _ _ _ _ _ _ _ _ _ torn _ p (view c.args.part) h off c.leaves-self.ensures
    c.if-self-2.false c.deref.ensures.value c.in_ok-write_record.ensures.ok
    c.clear.ensures.items c.saturating_add-self.ensures
