use Rattle.std.proofs.Common.{◌≡◌, ℕ, ◌-◌, List, ◌++◌, length, take}
use Rattle.std.proofs.Common.{replicate, ap, ◌∙◌, arith, rules}
use Rattle.tape_stage.specs.declared.disk.content.Call.TheVariants.{Cut}
use Rattle.tape_stage.proofs.CallLaws.{right_more}
use Rattle.tape_stage.proofs.disk.content.Content.cut.Goals as goal

pub invariant_of-self-2 : goal.invariant_of-self-2
invariant_of-self-2 c =
    let k = c.keep_first.new.self in
    let worst : c.extend_from_slice.new.self.items ≡ take c.args.len k.worst.items ++ replicate
    (length k.worst.items - c.args.len) 255 =
    let w : c.in_ok-worst.worst.items ≡ take c.args.len k.worst.items = search rules in
    let n : c.len.result ≡ length k.worst.items = search rules in
    let o : c.in_ok-open.open.items ≡ replicate (length k.worst.items - c.args.len) 255 =
    c.in_ok-open.ensures.items_if_clones_equal (λ y e. e)
    ∙ ap (λ (m : ℕ). replicate (m - c.args.len) 255) n in
    c.in_ok-extend_from_slice.ensures.items ∙ ap (λ (l : List ℕ). c.in_ok-worst.worst.items ++ l)
    (c.deref-3.ensures.value ∙ o) ∙ ap (λ (l : List ℕ). l ++ replicate
    (length k.worst.items - c.args.len) 255) w in
    record {
      right = right_more _ k.first.items k.worst.items _ _ _ _ _ (Cut c.args.len)
          c.in_ok-keep_first.ensures.ok k.right
          (omega (arith, ap length c.keep_first.ensures.same.bytes)) c.in_ok-push.ensures.items
          (search rules) worst;
    }
