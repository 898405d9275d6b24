use Rattle.std.proofs.Common.{◌∙◌, refl, subst, sym}
use Rattle.std.specs.List.{AllByRecursion}
use Rattle.tape_run.specs.Origins.{IsSource, Follow}
use Rattle.tape_run.proofs.Origins.{sources_before, sources_without, source_of_last}
use Rattle.tape_run.proofs.unpack.origin.runs_of.Goals as goal

pub openings-preserved-in_ok-insert : goal.openings-preserved-in_ok-insert
openings-preserved-in_ok-insert c =
    let is = c.openings.invariant in
    let opening = c.in-Some.opening.now in
    let rest = c.openings.rest.now in
    let front = c.in-Some.before.now in
    let end = c.openings.end in
    let parts = c.in-Some.ensures.cases.0 in
    let before = sym c.is_before.ensures ∙ c.if-is_before.true in
    record {
      later = sources_before c.args.openings.now rest front opening end parts before is.later;
      follow = subst (Follow opening.at c.args.end) (sym c.in_ok-insert.ensures.items)
          (refl, before, is.follow);
      sources = subst (AllByRecursion (IsSource c.args.openings.now))
          (sym c.in_ok-insert.ensures.items) (
            source_of_last c.args.openings.now rest front opening end parts is.later,
            is.sources,
          );
    }

pub openings-preserved : goal.openings-preserved
openings-preserved c = record {
  later = sources_without c.args.openings.now c.openings.rest.now c.in-Some.before.now
      c.in-Some.opening.now c.openings.end c.in-Some.ensures.cases.0
      (sym c.is_before.ensures ∙ c.if-is_before.false) c.openings.invariant.later;
  follow = c.openings.invariant.follow;
  sources = c.openings.invariant.sources;
}
