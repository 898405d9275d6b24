use Rattle.std.proofs.Common.{◌∙◌, ap, arith, filter_map, get_or, length, map, option_map, refl}
use Rattle.std.proofs.{Common.slice_get, lemmas.List.take_all, lemmas.Option.slice_get_read}
use Rattle.std.proofs.lemmas.Option.{slice_get-map}
use Rattle.tape_tool.proofs.ListedNames.{none_more, one_more, slice_past}
use Rattle.tape_tool.proofs.images.in_reading_order.Goals.{in-Some+in_ok-push, in_default}
use Rattle.tape_tool.proofs.images.in_reading_order.Goals as goal

pub loop-number-preserved : goal.loop-number-preserved
loop-number-preserved c =
    let names = c.args.names.now in
    let numbers = c.deref-number-items.result.now in
    let i = c.loop-number.number-index in
    let n = get_or numbers i 0 in
    elim c.match-get.branch [
      | in-Some+in_ok-push w ↦
          let found = slice_get_read names (length names) n w.in-Some.name.now refl
          w.in-Some.ensures.lookup.3.0 w.in-Some.ensures.lookup.1 in
          one_more (λ n. n.now) _ c.loop-number.order.items c.match-get.order.items numbers i
          w.in-Some.name.now c.loop-number-test.true (slice_get-map (λ n. n.now) names n
          ∙ ap (option_map (λ n. n.now)) found)
          (ap (λ v. v.items) w.order-is ∙ w.in_ok-push.ensures.items) c.loop-number.invariant
      | in_default w ↦
          let past = slice_past names n w.in_default.ensures.lookup.0 in
          ap (λ v. map (λ n. n.now) v.items) w.order-is ∙ c.loop-number.invariant
          ∙ none_more _ numbers i c.loop-number-test.true (slice_get-map (λ n. n.now) names n
          ∙ ap (option_map (λ n. n.now)) past)
    ]

pub returns : goal.returns
returns c =
    let f = filter_map (slice_get (map (λ n. n.now) c.args.names.now)) in
    c.loop-number.invariant
    ∙ ap f (take_all c.loop-number.number-index c.deref-number-items.result.now (omega arith))
    ∙ ap f (c.deref-number-items.ensures.value ∙ c.in_ok-numbers.ensures)
