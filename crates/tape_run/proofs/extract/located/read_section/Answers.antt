use Rattle.std.proofs.Common.{◌≡◌, ◌<◌, inl, inr, refl, ap, is_some, rules}
use Rattle.tape_run.specs.Given.{is_device}
use Rattle.tape_run.proofs.LocatedParts.{part_front, part_on}
use Rattle.tape_run.proofs.LocatedReaders.{held_by, held_front, held_on, not_finished}
use Rattle.tape_run.proofs.extract.located.read_section.Goals as goal

pub returns-then-ends_section-clause-ok : goal.returns-then-ends_section-clause-ok
returns-then-ends_section-clause-ok g c whole held =
    let core = c.args.session.now.core in
    let waits = not_finished core.position c.requires.waits in
    let same : c.in-Some.held.file.set_id ≡ core.set_id = search rules in
    let less : c.in-Some.held.file.file < core.file = search rules in
    let before = rw c.in-Some.is at held in
    inl (
      ap is_some c.in-Some.is,
      refl,
      part_on _ _ whole _ _ (is_device c.in_ok-answer-in-Some.answer.fault) _ _ _ _ waits same
          less before (λ parts was.
          let (now, has, (front, keeps, reeled)) = c.in_ok-answer-in-Some.ensures.ok parts was in
          (now, has, reeled)) (held_by _ _ _ _ _ c.reel_behind.ensures.wide
          (held_on _ whole _ _ _ _ _ _ _ waits same less
          c.file_key-file.ensures.set_id c.file_key-file.ensures.file c.if-ends_section.ensures.yes
          before c.in_ok-answer-in-Some.ensures.answer)),
    )

pub returns-then-held-file-clause-ok : goal.returns-then-held-file-clause-ok
returns-then-held-file-clause-ok g c whole held =
    let core = c.args.session.now.core in
    let same : c.in-Some.held.file.set_id ≡ core.set_id = search rules in
    let less : c.in-Some.held.file.file < core.file = search rules in
    inl (
      ap is_some c.in-Some.is,
      refl,
      part_on _ _ whole _ _ _ _ _ _ _
          (not_finished core.position c.requires.waits) same less
          (rw c.in-Some.is at held) (λ parts was.
          let (now, has, (front, keeps, reeled)) = c.in_ok-answer-in-Some.ensures.ok parts was in
          (now, has, reeled)) tt,
    )

pub returns-then-ends_section-2-clause-ok : goal.returns-then-ends_section-2-clause-ok
returns-then-ends_section-2-clause-ok g c whole held =
    inr (inl (
      c.in-Some-image.device,
      rw c.in-Some-image.is at c.in-Ok.ensures.ok,
      part_front _ _ _ _
          (is_device c.in_ok-answer.answer.fault) _ _ _ (λ parts was.
          let (now, has, (front, keeps, reeled)) = c.in_ok-answer.ensures.ok parts was in
          (now, has, reeled)) (held_by _ _ _ _ _ c.reel.ensures.wide (held_front _ _ _ _ _ _ _
          (not_finished c.args.session.now.core.position c.requires.waits)
          c.file_key-file.ensures.set_id c.file_key-file.ensures.file
          c.if-ends_section-2.ensures.yes c.in_ok-answer.ensures.answer)),
    ))

pub returns-clause-ok : goal.returns-clause-ok
returns-clause-ok g c whole held =
    inr (inl (
      c.in-Some-image.device,
      rw c.in-Some-image.is at c.in-Ok.ensures.ok,
      part_front _ _ _ _ _
          _ _ _ (λ parts was.
          let (now, has, (front, keeps, reeled)) = c.in_ok-answer.ensures.ok parts was in
          (now, has, reeled)) tt,
    ))
