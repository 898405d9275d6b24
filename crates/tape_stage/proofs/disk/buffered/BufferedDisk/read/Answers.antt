use Rattle.std.proofs.Common.{◌≡◌, ◌∙◌, ◌-◌, ◌++◌, [], List, ℕ, length, take, drop, ap, sym, arith}
use Rattle.std.proofs.Common.{append-nil}
use Rattle.std.proofs.lemmas.List.{length-take-le, length-drop, drop_all}
use Rattle.tape_stage.specs.Holding.{with_held}
use Rattle.tape_stage.proofs.HoldingLaws.{all_written, left_none, none_left, slices_join}
use Rattle.tape_stage.proofs.{HoldingLaws.then_elapses, Results.on_ok}
use Rattle.tape_stage.proofs.disk.buffered.BufferedDisk.read.Goals as goal

pub returns-clause-bytes : goal.returns-clause-bytes
returns-clause-bytes g c honest =
    let h = c.args.self.now in
    let given = c.give-given.ensures in
    let passed = c.in_ok-pass_on.ensures in
    let seen : List ℕ = with_held h.start h.bytes.items (g.D.Disk.seen h.disk) in
    let onward = passed.looks.honest.onward honest in
    let same : g.D.Disk.seen c.pass_on.new.self.disk ≡ seen =
    sym (c.pass_on.new.self.right onward passed.clean) ∙ passed.looks.same honest in
    let buf : List ℕ = c.give-given.new.buf in
    let n : ℕ = c.give-given.result in
    let m : ℕ = length (take (length buf - n) (drop n buf)) in
    let size : m ≡ length buf - n =
    length-take-le (length buf - n) (drop n buf) (omega (arith, length-drop n buf)) in
    let post : drop (length buf - n) (drop n buf) ≡ [] =
    drop_all (length buf - n) (drop n buf) (omega (arith, length-drop n buf)) in
    on_ok c.look.result (λ is. ap (λ l. take n buf ++ (c.look.new.buf ++ l)) post
    ∙ ap (λ l. take n buf ++ l) (append-nil c.look.new.buf)
    ∙ slices_join seen _ _ c.args.place n m _
    (omega (arith, size, c.give-given.auto.buf, given.few)) (given.bytes honest) (rw same at is))
    (c.look.ensures.bytes onward)

pub returns-clause-crash : goal.returns-clause-crash
returns-clause-crash g c honest x left =
    let passed = c.in_ok-pass_on.ensures in
    passed.looks.crash honest x (none_left _ _ _ x (c.look.ensures.looks.crash
    (passed.looks.honest.onward honest) x
    (left_none _ _ _ x (all_written _ _ c.look.ensures.clean) left)))

pub returns-clause-time : goal.returns-clause-time
returns-clause-time g c honest =
    let passed = c.in_ok-pass_on.ensures in
    let onward = passed.looks.honest.onward honest in
    then_elapses _ _ (passed.looks.time honest) (c.look.ensures.looks.time onward)
    (all_written _ _ passed.clean) (passed.looks.crash honest)
    (λ t x. g.met.D.Disk.counts_now _ t x onward)
