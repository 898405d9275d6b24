use Rattle.std.proofs.Common.{◌≡◌, [], refl, sym, subst}
use Rattle.std.proofs.lemmas.Result.{IfOk-weaker}
use Rattle.tape_image.specs.Reader.{IfKnown}
use Rattle.tape_set.specs.declared.position.Position.TheVariants.{Awaits}
use Rattle.tape_run.specs.{SessionState.SessionState, Comparing.FindsAll, Comparing.up_to}
use Rattle.tape_run.specs.Comparing.{core_before}
use Rattle.tape_run.proofs.session.Session.compare.Goals as goal

pub returns-clause-found : goal.returns-clause-found
returns-clause-found g c = IfOk-weaker c.compare_from.result _ _ (λ found h n p at held has.
    let there : c.self.inside.reel_reader.core.position ≡ Awaits 1 n p =
    subst (λ (z : SessionState g.row.S.Denot). z.core.position ≡ Awaits 1 n p)
    (sym c.self.view_is) at in
    let block : c.in-Awaits.block ≡ n = cc (there, c.in-Awaits.ensures.value) in
    let part : c.in-Awaits.part ≡ p = cc (there, c.in-Awaits.ensures.value) in
    let is : c.up_to.result ≡ up_to n p = cc (c.up_to.ensures, block, part) in
    subst (λ o. IfKnown (g.R.Read.remaining c.args.device.now)
    (g.R.Read.remaining c.compare_from.new.device) (λ bytes left. FindsAll c.args.self.now.wide o
    (core_before c.args.self.now.core) bytes found held)) is (h [] held has refl))
    c.compare_from.ensures.found
