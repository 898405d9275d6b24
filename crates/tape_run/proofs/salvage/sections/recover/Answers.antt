use Rattle.std.proofs.Common.{◌≡◌, Bool, Option, refl, sym, ap, ◌∙◌}
use Rattle.std.proofs.{Common.rules, lemmas.Result.IfOk-weaker, lemmas.Result.on_err_weaker}
use Rattle.tape_set.specs.Lawful.{FileForm}
use Rattle.tape_run.specs.declared.salvage.Content.{Content}
use Rattle.tape_run.specs.SalvageTaking.{form_for, has_form}
use Rattle.tape_image.proofs.Pieces.{on_err}
use Rattle.tape_run.proofs.SalvageBegun.{none_begun, without_copy, without_form, without_image}
use Rattle.tape_run.proofs.SalvageBegun.{copy_begun, none_read}
use Rattle.tape_run.proofs.SalvageOne.{no_copy, no_form, no_image, from_copy}
use Rattle.tape_run.proofs.salvage.sections.recover.Goals as goal

-- whether blocks can be read in the form for them
formed : (content : Content) (own known form : Option FileForm) (has b : Bool)
    → form ≡ form_for content own known → has ≡ has_form content form → has ≡ b
    → has_form content (form_for content own known) ≡ b
formed content own known form has b form_is has_is is =
    sym (has_is ∙ ap (has_form content) form_is) ∙ is

pub returns-in_default-clause-ok : goal.returns-in_default-clause-ok
returns-in_default-clause-ok g c = no_copy g.W.Write.contents g.L.ImageSource.gives
    g.R.Read.remaining c.args.copies.now c.args.content c.args.known.now c.args.sect _ _ _ _ _ _
    (rw c.in_default.is at c.best_copy.ensures) refl c.in_ok-miss_section.ensures.ok

pub returns-then-not-has_form-clause-ok : goal.returns-then-not-has_form-clause-ok
returns-then-not-has_form-clause-ok g c =
    let k = c.in-Some.copy in
    let off = formed _ k.section.form c.args.known.now _ _ _ c.form_for-form.ensures
    c.has_form.ensures c.if-not-has_form.true in
    no_form g.W.Write.contents g.L.ImageSource.gives g.R.Read.remaining c.args.copies.now
    c.args.content c.args.known.now c.args.sect k _ _ _ _ _ _
    (rw c.in-Some.is at c.best_copy.ensures) off refl c.in_ok-miss_form.ensures.ok

pub returns-in_default-image-clause-ok : goal.returns-in_default-image-clause-ok
returns-in_default-image-clause-ok g c =
    let k = c.in-Some.copy in
    let on = formed _ k.section.form c.args.known.now _ _ _ c.form_for-form.ensures
    c.has_form.ensures c.if-not-has_form.false in
    no_image g.W.Write.contents g.L.ImageSource.gives g.R.Read.remaining c.args.copies.now
    c.args.content c.args.known.now c.args.sect k _ _ _ _ _ _
    (rw c.in-Some.is at c.best_copy.ensures) on
    (rw c.in_default-image.is at c.in-Ok.ensures.ok) c.in_ok-miss_section-2.ensures.ok

pub returns-clause-ok : goal.returns-clause-ok
returns-clause-ok g c =
    let k = c.in-Some.copy in
    let on = formed _ k.section.form c.args.known.now _ _ _ c.form_for-form.ensures
    c.has_form.ensures c.if-not-has_form.false in
    IfOk-weaker c.recover_copy.result _ _
    (λ end t. from_copy g.W.Write.contents g.L.ImageSource.gives g.R.Read.remaining
    c.args.copies.now c.args.content c.args.known.now c.args.sect k c.in-Some-image.device
    _ _ _ _ _ _ end
    (rw c.in-Some.is at c.best_copy.ensures) on
    (rw c.in-Some-image.is at c.in-Ok.ensures.ok)
    (rw (c.form_for-form.ensures, c.in-Ok-new.ensures.unread) at t))
    c.recover_copy.ensures.ok

pub returns-in_err-miss_section-clause-front : goal.returns-in_err-miss_section-clause-front
returns-in_err-miss_section-clause-front g c = on_err c.from_residual.result _ (without_copy
    g.W.Write.contents g.L.ImageSource.gives
    g.R.Read.remaining c.args.copies.now c.args.content c.args.known.now c.args.sect _ _ _ _ _
    (rw c.in_default.is at c.best_copy.ensures) refl c.in_err-miss_section.ensures.front)

pub returns-in_err-miss_form-clause-front : goal.returns-in_err-miss_form-clause-front
returns-in_err-miss_form-clause-front g c =
    let k = c.in-Some.copy in
    let off = formed _ k.section.form c.args.known.now _ _ _ c.form_for-form.ensures
    c.has_form.ensures c.if-not-has_form.true in
    on_err c.from_residual-in_err-miss_form.result _
    (without_form g.W.Write.contents g.L.ImageSource.gives
    g.R.Read.remaining c.args.copies.now c.args.content c.args.known.now c.args.sect k _ _ _ _ _
    (rw c.in-Some.is at c.best_copy.ensures) off refl c.in_err-miss_form.ensures.front)

pub returns-in_default-mount-clause-front : goal.returns-in_default-mount-clause-front
returns-in_default-mount-clause-front g c =
    let stays : c.mount.new.self ≡ c.args.images.now = search rules in
    none_begun g.W.Write.contents g.L.ImageSource.gives
    g.R.Read.remaining c.args.copies.now c.args.content c.args.known.now c.args.sect _ _ _ _ stays

pub returns-in_err-miss_section-2-clause-front : goal.returns-in_err-miss_section-2-clause-front
returns-in_err-miss_section-2-clause-front g c =
    let k = c.in-Some.copy in
    let on = formed _ k.section.form c.args.known.now _ _ _ c.form_for-form.ensures
    c.has_form.ensures c.if-not-has_form.false in
    on_err c.from_residual-in_err-miss_section-2.result _
    (without_image g.W.Write.contents g.L.ImageSource.gives
    g.R.Read.remaining c.args.copies.now c.args.content c.args.known.now c.args.sect k _ _ _ _ _
    (rw c.in-Some.is at c.best_copy.ensures) on
    (rw c.in_default-image.is at c.in-Ok.ensures.ok) c.in_err-miss_section-2.ensures.front)

pub returns-in_default-new-clause-front : goal.returns-in_default-new-clause-front
returns-in_default-new-clause-front g c =
    let k = c.in-Some.copy in
    let on = formed _ k.section.form c.args.known.now _ _ _ c.form_for-form.ensures
    c.has_form.ensures c.if-not-has_form.false in
    none_read g.W.Write.contents g.L.ImageSource.gives
    g.R.Read.remaining c.args.copies.now c.args.content c.args.known.now c.args.sect k
    c.in-Some-image.device _ _ _ _
    (rw c.in-Some.is at c.best_copy.ensures) on
    (rw c.in-Some-image.is at c.in-Ok.ensures.ok)

pub returns-clause-front : goal.returns-clause-front
returns-clause-front g c =
    let k = c.in-Some.copy in
    let on = formed _ k.section.form c.args.known.now _ _ _ c.form_for-form.ensures
    c.has_form.ensures c.if-not-has_form.false in
    on_err_weaker c.recover_copy.result
    (λ part. copy_begun g.W.Write.contents g.L.ImageSource.gives
    g.R.Read.remaining c.args.copies.now c.args.content c.args.known.now c.args.sect k
    c.in-Some-image.device _ _ _ _ _
    (rw c.in-Some.is at c.best_copy.ensures) on
    (rw c.in-Some-image.is at c.in-Ok.ensures.ok)
    (rw (c.form_for-form.ensures, c.in-Ok-new.ensures.unread) at part))
    c.recover_copy.ensures.front
