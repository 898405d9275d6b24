use Rattle.std.proofs.Common.{rules, ◌≡◌, ◌+◌, Ok, Option, sym, ap, subst, ◌∙◌, arith}
use Rattle.std.specs.{Prelude.OnErr, Prelude.OnOk, Io.KnownBytes.Appends}
use Rattle.tape_blocks.specs.{Spans.leaves, declared.parts.Form.Form}
use Rattle.tape_core.specs.{Walks.GivesPart, Weight.Rose}
use Rattle.tape_image.specs.Written.{AppendsFront}
use Rattle.tape_image.proofs.Pieces.{on_err}
use Rattle.tape_stage.specs.{OnlyReading.OnlyReads, Stages.IsAhead}
use Rattle.tape_stage.proofs.Passing.{only_reads_self, reads_then}
use Rattle.tape_run.specs.OutSinks.{with_end}
use Rattle.tape_run.proofs.Streams.{stream_starts, stream_writes, stream_failed, stream_ended}
use Rattle.tape_run.proofs.{Fitting.kept, Fitting.whole_front, Streams.stream_short}
use Rattle.tape_tool.specs.StageReport.{output_in}
use Rattle.tape_tool.proofs.stage.show.write_in.Goals as goal

pub parts-init : goal.parts-init
parts-init g c =
    let same = c.rewind.ensures.unchanged in
    record {
      reads = subst (λ (d : g.row.D.Denot). OnlyReads g.D.Disk c.args.stage.now.disk d)
          (sym same.1) (only_reads_self g.D.Disk c.args.stage.now.disk);
      honest = subst (λ (d : g.row.D.Denot). g.D.Disk.is_honest c.args.stage.now.disk
          → g.D.Disk.is_honest d) (sym same.1) (λ h. h);
      calm = ap (λ (d : g.row.D.Denot). g.D.Disk.faults d) same.1;
      readable = same.0.4;
      text = λ parts was e. stream_starts _ _ _ _ _ parts (search rules)
          (c.rewind.ensures.all parts was);
    }

pub parts-preserved : goal.parts-preserved
parts-preserved g c =
    let i = c.parts.invariant in
    let next = c.next_part.follows.lender-at-none in
    let gave = c.next_part.follows.holds-at-none in
    let is = c.in-Ok-Some.is ∙ ap Ok c.in-Ok-Some.field-0-is in
    let same : c.parts.ended + c.from.result
    ≡ with_end (leaves c.in-Ok-Some.part.span) c.parts.ended =
    search (rules, c.leaves-leaves.ensures, c.from.ensures) in
    record {
      reads = reads_then g.D.Disk _ _ _ i.honest i.reads gave.reads;
      honest = λ h. gave.honest (i.honest h);
      calm = subst (λ r. OnOk r (g.D.Disk.faults next.disk ≡ g.D.Disk.faults c.parts.stage.disk)) is
          gave.calm ∙ i.calm;
      readable = gave.same.4 ∙ i.readable;
      text = λ parts was e. stream_writes c.in-Some.form (λ ps. IsAhead c.parts.stage ps)
          (λ ps. IsAhead next ps) 0 c.parts.ended _ c.args.records _ _ _ _ _ parts c.in-Ok-Some.part
          (i.text parts was e) (omega arith) (omega (arith, c.parts-test.true)) e
          (λ xs x. subst (λ r. GivesPart r xs (λ ps. IsAhead next ps)) is (gave.gave.gives xs x))
          c.in_ok-write_part-in-Ok-Some.ensures.ok c.in_ok-write_part-in-Ok-Some.ensures.holds
          same;
    }

-- ---- a write failed

pub returns-in_err-write_part-in-Ok-Some-clause-err
    : goal.returns-in_err-write_part-in-Ok-Some-clause-err
returns-in_err-write_part-in-Ok-Some-clause-err g c =
    let next = c.next_part.follows.lender-at-none in
    let is = c.in-Ok-Some.is ∙ ap Ok c.in-Ok-Some.field-0-is in
    on_err c.from_residual.result _ (λ parts was e.
    subst (λ (form : Option Form). AppendsFront (g.W.Write.contents c.args.out.now)
    (g.W.Write.contents c.write_part.new.out) (output_in form parts)) (sym c.in-Some.is)
    (stream_failed c.in-Some.form (λ ps. IsAhead c.parts.stage ps) (λ ps. IsAhead next ps) 0
    c.parts.ended c.args.records _ _ _ _ parts c.in-Ok-Some.part
    (c.parts.invariant.text parts was e)
    (omega arith) (omega (arith, c.parts-test.true)) e
    (λ xs x. subst (λ r. GivesPart r xs (λ ps. IsAhead next ps)) is
    (c.next_part.follows.holds-at-none.gave.gives xs x))
    c.in_err-write_part-in-Ok-Some.ensures.err))

-- ---- no part was returned

pub returns-in-Ok-None-clause-reads : goal.returns-in-Ok-None-clause-reads
returns-in-Ok-None-clause-reads g c = reads_then g.D.Disk _ _ _ c.parts.invariant.honest
    c.parts.invariant.reads c.next_part.follows.holds-at-none.reads

pub returns-in-Ok-None-clause-err : goal.returns-in-Ok-None-clause-err
returns-in-Ok-None-clause-err g c parts was e =
    let next = c.next_part.follows.lender-at-none in
    let is = c.in-Ok-None.is ∙ ap Ok c.in-Ok-None.field-0-is in
    absurd (stream_short c.in-Some.form (λ ps. IsAhead c.parts.stage ps) (λ ps. IsAhead next ps) 0
    c.parts.ended c.args.records _ _ _ parts (c.parts.invariant.text parts was e)
    (omega (arith, c.parts-test.true)) e
    (λ xs x. subst (λ r. GivesPart r xs (λ ps. IsAhead next ps)) is
    (c.next_part.follows.holds-at-none.gave.gives xs x)))

pub returns-in-Ok-None-clause-cause : goal.returns-in-Ok-None-clause-cause
returns-in-Ok-None-clause-cause g c device readable parts was e =
    let next = c.next_part.follows.lender-at-none in
    let is = c.in-Ok-None.is ∙ ap Ok c.in-Ok-None.field-0-is in
    absurd (stream_short c.in-Some.form (λ ps. IsAhead c.parts.stage ps) (λ ps. IsAhead next ps) 0
    c.parts.ended c.args.records _ _ _ parts (c.parts.invariant.text parts was e)
    (omega (arith, c.parts-test.true)) e
    (λ xs x. subst (λ r. GivesPart r xs (λ ps. IsAhead next ps)) is
    (c.next_part.follows.holds-at-none.gave.gives xs x)))

-- ---- the stage refused the call

pub returns-in-Err-clause-reads : goal.returns-in-Err-clause-reads
returns-in-Err-clause-reads g c = reads_then g.D.Disk _ _ _ c.parts.invariant.honest
    c.parts.invariant.reads c.next_part.follows.holds-at-none.reads

pub returns-in-Err-clause-err : goal.returns-in-Err-clause-err
returns-in-Err-clause-err g c parts was e =
    let s = c.parts.invariant.text parts was e in
    subst (λ (form : Option Form). AppendsFront (g.W.Write.contents c.args.out.now)
    (g.W.Write.contents c.parts.out) (output_in form parts)) (sym c.in-Some.is)
    (s.done, _, s.wrote, sym s.text)

pub returns-in-Err-clause-cause : goal.returns-in-Err-clause-cause
returns-in-Err-clause-cause g c device readable parts was e =
    let i = c.parts.invariant in
    let s = i.text parts was e in
    let next = c.next_part.follows.lender-at-none in
    subst (λ n. Rose n (g.D.Disk.faults next.disk)) i.calm
    (subst (λ r. OnErr r (Rose (g.D.Disk.faults c.parts.stage.disk) (g.D.Disk.faults next.disk)))
    c.in-Err.is (c.next_part.follows.holds-at-none.fails s.rest s.is_ahead
    (i.readable ∙ readable)))

-- ---- all records were written

pub returns-in_err-flush-clause-err : goal.returns-in_err-flush-clause-err
returns-in_err-flush-clause-err g c =
    on_err c.from_residual-in_err-flush.result _ (λ parts was e.
    subst (λ (form : Option Form). AppendsFront (g.W.Write.contents c.args.out.now)
    (g.W.Write.contents c.flush.new.writer) (output_in form parts)) (sym c.in-Some.is)
    (whole_front _ _ _ _ (stream_ended c.in-Some.form _ 0 c.parts.ended c.args.records _ _ _ parts
    (c.parts.invariant.text parts was e) (omega (arith, c.parts-test.false)) e)
    c.flush.ensures.kept))

pub returns-clause-ok : goal.returns-clause-ok
returns-clause-ok g c parts was e =
    subst (λ (form : Option Form). Appends (g.W.Write.contents c.args.out.now)
    (g.W.Write.contents c.flush.new.writer) (output_in form parts)) (sym c.in-Some.is)
    (kept _ _ _ _ (stream_ended c.in-Some.form _ 0 c.parts.ended c.args.records _ _ _ parts
    (c.parts.invariant.text parts was e) (omega (arith, c.parts-test.false)) e)
    c.flush.ensures.kept)
