use Rattle.std.proofs.Common.{◌≡◌, take, ap, ◌∙◌, sym}
use Rattle.tape_stage.proofs.Finds.{front_same, found_alike, none_remains}
use Rattle.tape_stage.proofs.{stage.opening.look.Given.Over, stage.opening.look.Goals.In_ok-read}
use Rattle.tape_stage.proofs.stage.opening.look.Goals as goal

-- the slots that were read
read_at : (g : Over) (c : In_ok-read g) → g.D.Disk.is_honest c.args.disk.now
    → take 256 c.read.new.buf ≡ take 256 (g.D.Disk.seen c.args.disk.now)
read_at g c honest =
    let honest1 = c.in_ok-sync.ensures.honest honest in
    front_same 256 _ _ (c.in_ok-read.ensures.bytes (c.len.ensures.honest.onward honest1)
    ∙ ap (take 256) (c.len.ensures.same honest1 ∙ c.sync.ensures.same honest))

pub returns-clause-found : goal.returns-clause-found
returns-clause-found g c honest = found_alike _ _ _
    (sym (read_at g (goal.at.returns-clause-found g c).In_ok-read honest)) c.in-Some.ensures.found

pub returns-in_default-clause-none : goal.returns-in_default-clause-none
returns-in_default-clause-none g c honest is =
    none_remains _ _ (read_at g (goal.at.returns-in_default-clause-none g c).In_ok-read honest)
    c.in_default.ensures.found.0 c.in_default.ensures.found.1
