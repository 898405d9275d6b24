use Rattle.std.proofs.Common.{refl, sym, ap, subst, ◌∙◌, rules, if◌then◌else◌, is_some}
use Rattle.tape_image.proofs.Pieces.{on_err, front_more, front_behind}
use Rattle.tape_run.proofs.{Fitting.whole_text, SalvageOne.three_texts, SalvagePieces.torn_if}
use Rattle.tape_run.specs.SalvageRecords.{HasPiece, torn, taken}
use Rattle.tape_run.proofs.salvage.recovery.Recovery.take_block.Goals as goal

pub returns-in_err-write_gap-clause-front : goal.returns-in_err-write_gap-clause-front
returns-in_err-write_gap-clause-front g c = on_err c.from_residual.result _ (λ start z h.
    let recs = c.records-records.ensures ∙ h.piece.counts in
    front_more _ _ _ _ (rw (h.same_gap, recs) at c.in_err-write_gap.ensures.front))

pub returns-in_err-write_torn-clause-front : goal.returns-in_err-write_torn-clause-front
returns-in_err-write_torn-clause-front g c =
    on_err c.from_residual-in_err-write_torn.result _ (λ start z h.
    let recs = c.records-records.ensures ∙ h.piece.counts in
    let cut = c.is_cut.ensures z.piece h.piece.tears in
    front_behind _ _ _ _ _ (rw (h.same_gap, recs) at c.in_ok-write_gap.ensures.ok)
    (front_more _ _ _ _ (rw (cut, recs) at c.in_err-write_torn.ensures.front)))

pub returns-in_err-fault-clause-front : goal.returns-in_err-fault-clause-front
returns-in_err-fault-clause-front g c =
    on_err c.from_residual-in_err-fault.result _ (λ start z h.
    let recs = c.records-records.ensures ∙ h.piece.counts in
    let cut = c.is_cut.ensures z.piece h.piece.tears in
    front_behind _ _ _ _ _ (rw (h.same_gap, recs) at c.in_ok-write_gap.ensures.ok)
    (front_more _ _ _ _ (whole_text _ _ _ (rw (cut, recs) at c.in_ok-write_torn.ensures.ok))))

pub returns-in_err-write_refused-clause-front : goal.returns-in_err-write_refused-clause-front
returns-in_err-write_refused-clause-front g c =
    on_err c.from_residual-in_err-write_refused.result _ (λ start z h.
    let recs = c.records-records.ensures ∙ h.piece.counts in
    let cut = c.is_cut.ensures z.piece h.piece.tears in
    let took = c.in_ok-fault.ensures.ok start z.piece h.piece in
    let begun = c.is_begun-begun.ensures ∙ took.0.begins in
    let after = c.records-records-2.ensures ∙ took.0.counts in
    front_behind _ _ _ _ _ (rw (h.same_gap, recs) at c.in_ok-write_gap.ensures.ok)
    (front_behind _ _ _ _ _ (rw (cut, recs) at c.in_ok-write_torn.ensures.ok)
    (rw (took.1, begun, after) at c.in_err-write_refused.ensures.front)))

pub returns-clause-ok : goal.returns-clause-ok
returns-clause-ok g c = λ start z h.
    let form = c.args.form.now in
    let block = c.args.block.now in
    let recs = c.records-records.ensures ∙ h.piece.counts in
    let cut = c.is_cut.ensures z.piece h.piece.tears in
    let took = c.in_ok-fault.ensures.ok start z.piece h.piece in
    let begun = c.is_begun-begun.ensures ∙ took.0.begins in
    let after = c.records-records-2.ensures ∙ took.0.counts in (
      record {
        piece = subst (HasPiece g.W.Write.contents start c.tear_if.new.self)
            (ap (λ b. if b then torn (taken form z.piece block) else taken form z.piece block)
            (c.is_some.ensures ∙ ap is_some took.1) ∙ sym (torn_if form z.piece block))
            (c.tear_if.ensures start _ took.0);
        same_gap = refl;
        same_missing = search rules;
      },
      three_texts _ _ _ _ _ _ _ (rw (h.same_gap, recs) at c.in_ok-write_gap.ensures.ok)
          (rw (cut, recs) at c.in_ok-write_torn.ensures.ok)
          (rw (took.1, begun, after) at c.in_ok-write_refused.ensures.ok),
    )
