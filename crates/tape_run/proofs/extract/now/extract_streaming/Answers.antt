use Rattle.tape_run.proofs.Opening.{streams}
use Rattle.tape_run.proofs.extract.now.extract_streaming.Goals as goal

pub returns-clause-cause : goal.returns-clause-cause
returns-clause-cause g c =
    streams _ _ _ _ _ _ _ _ _ _ _ _ c.extract_watched.result c.extract_watched.ensures.err
    c.extract_watched.ensures.cause
