use Rattle.std.proofs.Common.{◌≡◌, ◌∙◌, false, true, sym, rules}
use Rattle.std.proofs.{KnownBytes.Appends-trans, lemmas.Result.on_ok_weaker}
use Rattle.std.proofs.lemmas.Result.{on_err_weaker}
use Rattle.tape_image.specs.Written.{AppendsFront}
use Rattle.tape_run.specs.SalvageBlocks.{ReportsFront}
use Rattle.tape_run.specs.SalvageEnds.{rest_text, unsure_text}
use Rattle.std.specs.Prelude.{nat_lt}
use Rattle.tape_image.proofs.Pieces.{on_err, front_more, front_behind}
use Rattle.tape_run.specs.{SalvageCopies.believed, SalvageEnds.with_count}
use Rattle.tape_run.proofs.salvage.recovery.Recovery.end_blocks.Goals as goal

pub returns-in_err-miss_rest-in-None-clause-front :
    goal.returns-in_err-miss_rest-in-None-clause-front
returns-in_err-miss_rest-in-None-clause-front g c =
    let all : nat_lt c.args.read (believed c.args.copy.now) ≡ false = search rules in
    on_err c.from_residual.result _ (λ start z h. rw (all, c.in-None.is) (front_more _ _ _ _
    (rw c.believed-believed.ensures at (c.in_err-miss_rest-in-None.ensures.front start z h))))

pub returns-in_ok-miss_rest-in-None-clause-front :
    goal.returns-in_ok-miss_rest-in-None-clause-front
returns-in_ok-miss_rest-in-None-clause-front g c =
    let all : nat_lt c.args.read (believed c.args.copy.now) ≡ false = search rules in
    let first = c.believed-believed.ensures in
    let section = c.args.copy.now.section in
    on_err_weaker c.write_unsure.result (λ (part : AppendsFront
    (g.P.Write.contents c.miss_rest-in-None.new.report) (g.P.Write.contents
    c.write_unsure.new.report)
    (unsure_text section.key.sect c.believed-believed.result section.blocks)) start z h.
    rw (all, c.in-None.is) (front_behind _ _ _ _ _
    (rw first at (c.in_ok-miss_rest-in-None.ensures.ok start z h).1) (rw first at part)))
    c.write_unsure.ensures.front

pub returns-in_err-take_count-in-Some-clause-front :
    goal.returns-in_err-take_count-in-Some-clause-front
returns-in_err-take_count-in-Some-clause-front g c =
    let all : nat_lt c.args.read (believed c.args.copy.now) ≡ false = search rules in
    on_err c.from_residual-in_err-take_count-in-Some.result _ (λ start z h.
    rw (all, c.in-Some.is) (front_more _ _ _ _
    (rw c.wrong_count.ensures at c.in_err-take_count-in-Some.ensures.front)))

pub returns-then-is_begun-clause-ok : goal.returns-then-is_begun-clause-ok
returns-then-is_begun-clause-ok g c =
    let all : nat_lt c.args.read (believed c.args.copy.now) ≡ false = search rules in
    on_ok_weaker c.tear.result (λ then start z h.
    let one = c.in_ok-take_count-in-Some.ensures.ok start z h in
    let two = then start (with_count c.wrong_count.result z) one.0 in
    let begun : z.piece.begun ≡ true =
    sym (c.is_begun.ensures ∙ one.0.piece.begins) ∙ c.if-is_begun.true in
    rw (all, c.in-Some.is, c.if-closed.true, begun) (
      two.0,
      Appends-trans _ _ _ _ _ (rw c.wrong_count.ensures at one.1) (rw begun at two.1),
    )) c.tear.ensures.ok

pub returns-then-is_begun-clause-front : goal.returns-then-is_begun-clause-front
returns-then-is_begun-clause-front g c =
    let all : nat_lt c.args.read (believed c.args.copy.now) ≡ false = search rules in
    let section = c.args.copy.now.section in
    on_err_weaker c.tear.result (λ (part : ReportsFront g.W.Write.contents c.take_count.new.self
    (g.P.Write.contents c.take_count.new.report) (g.P.Write.contents c.tear.new.report)
    (rest_text section.key.sect section.blocks)) start z h.
    let one = c.in_ok-take_count-in-Some.ensures.ok start z h in
    let begun : z.piece.begun ≡ true =
    sym (c.is_begun.ensures ∙ one.0.piece.begins) ∙ c.if-is_begun.true in
    rw (all, c.in-Some.is, c.if-closed.true, begun) (front_behind _ _ _ _ _
    (rw c.wrong_count.ensures at one.1)
    (rw begun at (part start (with_count c.wrong_count.result z) one.0)))) c.tear.ensures.front
