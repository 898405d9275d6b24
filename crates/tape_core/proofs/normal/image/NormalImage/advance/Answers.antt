use Rattle.std.proofs.Common.{Some}
use Rattle.tape_core.proofs.NormalForm.Giving.{replaced_keeps, over_keeps}
use Rattle.tape_core.proofs.normal.image.NormalImage.advance.Goals as goal

pub returns-in-Some-clause-keeps : goal.returns-in-Some-clause-keeps
returns-in-Some-clause-keeps g c =
    let now = c.args.self.now in
    let seen = rw c.in-Some.is at c.in_ok-seen.ensures.seen in
    rw c.replace.ensures.left (replaced_keeps _ _ now.room now.place _ _ _ (Some c.in-Some.looked)
    c.requires.inserted c.requires.label c.requires.on c.in_ok-seen.ensures.keeps seen)

pub returns-in-None-clause-keeps : goal.returns-in-None-clause-keeps
returns-in-None-clause-keeps g c =
    let now = c.args.self.now in
    let seen = rw c.in-None.is at c.in_ok-seen.ensures.seen in
    over_keeps _ _ now.room now.place now.inserted.now now.label now.course c.requires.on
    c.in_ok-seen.ensures.keeps seen
