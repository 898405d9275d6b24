use Rattle.std.proofs.Common.{rules, ◌≡◌, true, false, ◌∙◌}
use Rattle.tape_run.proofs.{Located.ended_as, StoppedThere.session_walked}
use Rattle.tape_run.proofs.extract.located.extract_located.Goals as goal

pub returns-then-not-complete-clause-ok : goal.returns-then-not-complete-clause-ok
returns-then-not-complete-clause-ok g c whole held =
    let ended : c.in_ok-complete.complete ≡ false = search (rules, c.if-not-complete.true) in
    record {
      last = c.read_sections.new.session;
      reads = ended_as ended (c.in_ok-complete.ensures.ok whole held);
      same = session_walked _ _;
      complete = λ n none. absurd (cc);
    }

pub returns-in-Ok-clause-ok : goal.returns-in-Ok-clause-ok
returns-in-Ok-clause-ok g c whole held =
    let ended : c.in_ok-complete.complete ≡ true = search (rules, c.if-not-complete.false) in
    record {
      last = c.read_sections.new.session;
      reads = ended_as ended (c.in_ok-complete.ensures.ok whole held);
      same = c.place_output.ensures.same;
      complete = λ n is parts was.
          let done = c.in-Ok.ensures.ok parts was in
          let same : n ≡ c.in-Ok.records = cc in
          (same ∙ done.0, done.1);
    }
