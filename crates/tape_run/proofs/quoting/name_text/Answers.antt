use Rattle.std.proofs.Common.{◌≡◌, ◌++◌, ◌∙◌, ap, sym, map-id, arith, append-nil, encode_utf8_all}
use Rattle.std.proofs.{Common.flat_map, lemmas.Grind.common_steps, lemmas.Grind.flat_map-append}
use Rattle.std.proofs.{lemmas.Iterator.YieldsList-from_chars, lemmas.Str.encodes-append}
use Rattle.std.proofs.lemmas.Iterator.Consumers.{YieldsList-end}
use Rattle.tape_run.specs.Quoting.{quoted}
use Rattle.tape_run.proofs.quoting.name_text.Goals as goal

pub loop-c-preserved : goal.loop-c-preserved
loop-c-preserved c =
    let more : c.extend_from_slice.new.self.items
    ≡ c.loop-c.text.items ++ encode_utf8_all (quoted c.in-Some.c) = grind (arith, common_steps) in
    rw (flat_map-append, encodes-append, ← c.loop-c.invariant, append-nil) more

pub returns : goal.returns
returns c =
    let end = YieldsList-end (YieldsList-from_chars c.args.name.now c.utf8.name cc)
    c.loop-c.yielded _ c.loop-c.yielded_by _ _ c.in-None.is c.next.ensures.steps in
    c.loop-c.invariant
    ∙ ap (λ cs. encode_utf8_all (flat_map quoted cs)) (sym (map-id c.loop-c.yielded) ∙ end.0)
