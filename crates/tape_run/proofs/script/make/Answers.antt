use Rattle.std.proofs.Common.{◌+◌, [], ◌∷◌, map, take, get_or, sym, ap, subst, ◌∙◌, arith}
use Rattle.std.proofs.Common.{append-nil}
use Rattle.std.proofs.lemmas.List.{drop_more, drop-set-lt, take_more_set, map-append}
use Rattle.tape_run.specs.{Given.is_device, Made.WritesFrom}
use Rattle.tape_run.proofs.{Lasting.alone_saved, Ended.told_err}
use Rattle.tape_run.proofs.Made.{reel_made, save_made, restart_made, writes_none}
use Rattle.tape_run.proofs.script.make.Goals as goal

-- ---- a reel

pub returns-in_ok-answer-in-Reel-clause-ok : goal.returns-in_ok-answer-in-Reel-clause-ok
returns-in_ok-answer-in-Reel-clause-ok g c =
    let rem = g.R.Read.remaining in
    let reels = c.args.reels.now in
    let failed = is_device c.in_ok-answer-in-Reel.answer.fault in
    let device = get_or reels c.args.used c.index-reels-used.result in
    let here = ap (map rem) (drop_more reels c.args.used c.index-reels-used.result
    c.if-used-reels.false) in
    let left = ap (map rem) (drop-set-lt (c.args.used + 1) reels c.args.used c.reel.new.device
    (omega arith)) in
    let taken = ap (map rem) (take_more_set reels c.args.used c.reel.new.device
    (omega (arith, c.if-used-reels.false)))
    ∙ map-append rem (take c.args.used reels) (c.reel.new.device ∷ []) in (
      failed ∷ [],
      rem c.reel.new.device ∷ [],
      subst (λ f. WritesFrom c.args.used (f ∷ []) c.args.failed.now c.write_at.new.row
          (c.args.used + 1)) c.is_device.ensures c.write_at.ensures,
      taken,
      λ held was kept.
          let (now, has, (front, keeps, reeled)) = c.in_ok-answer-in-Reel.ensures.ok held was in (
            now,
            has,
            (
              keeps kept,
              rw (here, left, c.in-Reel.is) (reel_made _ _ (rem device) _ failed reeled _ _ _
                  c.in_ok-answer-in-Reel.ensures.notes front (c.reel.ensures.crash held was)),
            ),
          ),
    )

-- ---- a save

pub returns-in_ok-save-in-Save-clause-ok : goal.returns-in_ok-save-in-Save-clause-ok
returns-in_ok-save-in-Save-clause-ok g c = (
  [],
  [],
  writes_none _ _,
  sym (append-nil _),
  λ held was kept.
      let told = c.in_ok-save-in-Save.ensures in
      let (now, has, (keeps, saved)) = told.ok held was in
      let last = alone_saved _ _ c.in_ok-save-in-Save.field-0
      (g.S.PartSink.crashes c.save.new.self.sink) (told.point held was)
      (told.kept held was) saved in
      (now, has, (keeps kept, rw c.in-Save.is (save_made _ _ saved _ _ _ last))),
)

-- ---- going back

pub returns-in_ok-restart-in-Restart-clause-ok : goal.returns-in_ok-restart-in-Restart-clause-ok
returns-in_ok-restart-in-Restart-clause-ok g c = (
  [],
  [],
  writes_none _ _,
  sym (append-nil _),
  λ held was kept.
      let (now, has, (still, went)) = c.in_ok-restart-in-Restart.ensures.ok held was kept in
      (now, has, (still, rw c.in-Restart.is (restart_made _ _ _ went _ _ _))),
)

pub returns-in_err-restart-in-Restart-clause-cause :
    goal.returns-in_err-restart-in-Restart-clause-cause
returns-in_err-restart-in-Restart-clause-cause g c =
    told_err _ _ _ c.from_residual-in_err-restart-in-Restart.ensures.1
    (rw c.in-Restart.is c.in_err-restart-in-Restart.ensures.refuses)

pub returns-in_ok-restart-in-Restart-clause-takes :
    goal.returns-in_ok-restart-in-Restart-clause-takes
returns-in_ok-restart-in-Restart-clause-takes g c = rw c.in-Restart.is (omega arith)
