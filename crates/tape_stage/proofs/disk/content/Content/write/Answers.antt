use Rattle.std.proofs.Common.{◌≡◌, ◌+◌, List, [], ◌∷◌, ◌++◌, length, take, drop}
use Rattle.std.proofs.Common.{ap, ◌∙◌, arith, rules}
use Rattle.tape_stage.specs.declared.disk.content.Call.TheVariants.{Write}
use Rattle.tape_stage.proofs.CallLaws.{right_more, over_same, kept_any, worst_over}
use Rattle.tape_stage.proofs.disk.content.Content.write.Goals as goal

pub invariant_of-self-2 : goal.invariant_of-self-2
invariant_of-self-2 c =
    let k = c.keep_first.new.self in
    let same : c.in_ok-copy.copy.items ≡ c.args.bytes.now = search rules in
    let next = over_same c.args.place _ _ _ _ _ c.in_ok-next.ensures c.deref.ensures.value same in
    let worst : c.in_ok-worst.worst.items ≡ take c.args.place k.worst.items
    ++ c.in_ok-open.open.items ++ drop (c.args.place + length c.in_ok-open.open.items) k.worst.items
    = cc (c.in_ok-worst.ensures, c.deref-2.ensures.value, c.deref-3.ensures.value) in
    record {
      right = right_more _ k.first.items k.worst.items _ _ _ _ _
          (Write c.args.place c.in_ok-copy.copy) c.in_ok-keep_first.ensures.ok k.right
          (omega (arith, ap length c.keep_first.ensures.same.bytes)) c.in_ok-push.ensures.items next
          (worst_over c.args.place _ k.worst.items _ _ _ k.bytes.items worst
          (c.in_ok-open.ensures.items_if_clones_equal (λ y e. e)) same);
    }

pub returns-clause-ok : goal.returns-clause-ok
returns-clause-ok c =
    let k = c.keep_first.new.self in
    let kept = c.keep_first.ensures.same in
    let same : c.in_ok-copy.copy.items ≡ c.args.bytes.now = search rules in
    let next = over_same c.args.place _ _ _ _ _ c.in_ok-next.ensures
    (c.deref.ensures.value ∙ kept.bytes) same in (
      c.in_ok-copy.copy,
      same,
      record {
        bytes = next;
        first = kept_any _ k.first.items k.bytes.items c.in_ok-next.next.items
            c.in_ok-keep_first.ensures.ok ∙ kept.first;
        calls = c.in_ok-push.ensures.items
            ∙ ap (λ (l : List _). l ++ Write c.args.place c.in_ok-copy.copy ∷ []) kept.calls;
      },
    )
