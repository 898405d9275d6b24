use Rattle.std.proofs.Common.{rules, ℕ, List, ◌≡◌, Some, ap, sym, ◌∙◌}
use Rattle.std.specs.Fmt.{option_append}
use Rattle.tape_run.specs.{Container.container_of}
use Rattle.tape_run.proofs.SurveyAhead.{viewed_ahead}
use Rattle.tape_run.proofs.survey.view.Findings.read.Goals as goal

pub returns-clause-ok : goal.returns-clause-ok
returns-clause-ok g c =
    let rest = g.R.Read.remaining c.read_front.new.reader in
    let front = c.in_ok-front.front.items in
    let left : c.over-image.result.left ≡ option_append (Some front) rest =
    c.over-image.ensures.unread ∙ (c.chain-bytes.ensures.bytes
    ∙ ap (λ (l : List ℕ). option_append (Some l) rest) c.as_slice.ensures.value) in
    rw (c.in-Some.is, sym c.self.view_is) (
      c.view_items-viewed.new.image.left,
      viewed_ahead _ rest _ _ front _ _ _ _ _ _ _ _ _ _ c.in_ok-front.ensures.taken left
          c.in_ok-sight.ensures.ok,
      search rules,
      search rules,
      (
        front,
        rest,
        c.in_ok-front.ensures.taken,
        c.in_ok-front.ensures.bound,
        c.in_ok-sight.ensures.kind ∙ (c.container_of.ensures
            ∙ ap container_of c.as_slice-2.ensures.value),
      ),
    )
