use Rattle.std.proofs.Common.{ap, ◌≡◌, ◌∙◌, ◌++◌, IfSome}
use Rattle.std.proofs.lemmas.Fmt.{contents_after_writes}
use Rattle.tape_run.proofs.Shown.{on_ok_shown, on_err_shown, some_map}
use Rattle.tape_run.proofs.text.write_line.Goals as goal

made : (g : _) (c : goal.After-write_text g)
    → IfSome (g.D.Display.output c.args.line.now) (λ bs. c.as_bytes.result.now ≡ bs)
made g c = some_map (g.D.Display.output c.args.line.now) _ (λ bs. c.as_bytes.result.now ≡ bs)
    (λ bs k. c.as_bytes.ensures.value ∙ c.deref.ensures.0
    ∙ contents_after_writes _ (λ s. s.bytes) (λ _ _ _ t. t) _ bs _ k
    ∙ ap (λ l. l ++ bs) c.new-text.ensures)
    c.in-Ok.ensures.writes

pub returns-in-Ok-clause-ok : goal.returns-in-Ok-clause-ok
returns-in-Ok-clause-ok g c = on_ok_shown _ _ _ _ (made g c) c.write_text.ensures.ok

pub returns-in-Ok-clause-err : goal.returns-in-Ok-clause-err
returns-in-Ok-clause-err g c = on_err_shown _ _ _ _ (made g c) c.write_text.ensures.err
