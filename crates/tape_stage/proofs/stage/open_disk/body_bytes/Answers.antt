use Rattle.std.proofs.Common.{ℕ, List, ◌++◌, replicate, ap, ◌∙◌, append_assoc, rules, ◌≡◌}
use Rattle.tape_label.specs.Digits.{digits}
use Rattle.tape_stage.specs.Body.{body_text, point_text}
use Rattle.tape_stage.proofs.stage.open_disk.body_bytes.Goals as goal

pub returns-clause-text : goal.returns-clause-text
unfolding body_text
returns-clause-text c =
    let G = digits 15 c.args.generation in
    let P = point_text c.args.point in
    let R : List ℕ = replicate 32 32 in
    let e3 : c.unwrap.result ≡ c.put-3.new.text.items = search rules in
    let e2 = e3 ∙ c.put-3.ensures.items in
    let e1 =
    e2 ∙ ap (λ (l : List ℕ). l ++ R)
    (c.put-2.ensures.items ∙ ap (λ (l : List ℕ). c.put.new.text.items ++ l)
    c.write_point.ensures.text) in
    e1 ∙ ap (λ (l : List ℕ). (l ++ P) ++ R)
    (c.put.ensures.items ∙ ap (λ (l : List ℕ). l ++ c.digits_of.result) c.new-body.ensures ∙
    c.digits_of.ensures) ∙ append_assoc G P R
