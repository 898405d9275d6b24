use Rattle.std.proofs.Common.{◌≡◌, ◌++◌, ◌∙◌, ◌∷◌, [], ap, sym, refl, map-id, append-nil}
use Rattle.std.proofs.Common.{encode_utf8_all, flat_map}
use Rattle.std.proofs.lemmas.Grind.{flat_map-append, put_two}
use Rattle.std.proofs.{lemmas.Iterator.YieldsList-from_chars}
use Rattle.std.proofs.{lemmas.Iterator.Consumers.YieldsList-end, lemmas.Str.encodes-append}
use Rattle.tape_run.specs.Quoting.{quoted}
use Rattle.tape_tool.proofs.shown.ShownDisplay.fmt.Goals as goal

pub loop-c-preserved : goal.loop-c-preserved
loop-c-preserved g c = λ plain.
    let before = c.loop-c.invariant plain in
    let text : c.as_str.result.now ≡ encode_utf8_all (quoted c.in-Some.c)
    = c.as_str.ensures.value ∙ c.quoted_char.ensures in
    let joined : encode_utf8_all (flat_map quoted c.loop-c.yielded) ++ c.as_str.result.now
    ≡ encode_utf8_all (flat_map quoted (c.loop-c.yielded ++ c.in-Some.c ∷ []))
    = rw (flat_map-append, encodes-append)
    (ap (λ t. encode_utf8_all (flat_map quoted c.loop-c.yielded) ++ t)
    (text ∙ ap encode_utf8_all (sym (append-nil (quoted c.in-Some.c))))) in
    put_two g.W.Write.write_str_gives c.args.f.now c.loop-c.f c.write_str.new.self _ _ _ before
    (c.in_ok-write_str.ensures.writes before.plain refl) joined

pub returns-clause-writes : goal.returns-clause-writes
returns-clause-writes g c = λ plain _.
    let end = YieldsList-end (YieldsList-from_chars c.name.result.now c.name.utf8 cc)
    c.loop-c.yielded _ c.loop-c.yielded_by _ _ c.in-None.is c.next.ensures.steps in
    rw (← c.name.ensures, ← (sym (map-id c.loop-c.yielded) ∙ end.0)) (c.loop-c.invariant plain)
