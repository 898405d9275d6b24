use Rattle.std.proofs.Common.{◌≡◌, ℕ, List, ◌++◌, ap, append_assoc, [], append-nil, sym, ◌∙◌}
use Rattle.std.proofs.Common.{refl, rules}
use Rattle.tape_stage.proofs.point.text.fields_text.Goals as goal

-- one more piece at the end of the first part
back : (x y p q rest all : List ℕ) → all ≡ y ++ rest → y ≡ x ++ p → p ≡ q → all ≡ x ++ (q ++ rest)
back x y p q rest all e i s =
    e ∙ ap (λ (l : List ℕ). l ++ rest) (i ∙ ap (λ (l : List ℕ). x ++ l) s) ∙ append_assoc x q rest

pub returns-clause-text : goal.returns-clause-text
returns-clause-text c =
    let all : c.unwrap.result ≡ c.put-11.new.text.items = search rules in
    let e15 = all ∙ sym (append-nil c.put-11.new.text.items) in
    let e14 = back c.put-10.new.text.items _ _ _ _ _ e15 c.put-11.ensures.items refl in
    let e13 = back c.put-9.new.text.items _ _ _ _ _ e14
    c.put-10.ensures.items c.digits_of-7.ensures in
    let e12 = back c.put-8.new.text.items _ _ _ _ _ e13
    c.put-9.ensures.items c.bytes-2.ensures.value in
    let e11 = back c.put-7.new.text.items _ _ _ _ _ e12
    c.put-8.ensures.items c.digits_of-6.ensures in
    let e10 = back c.push-4.new.self.items _ _ _ _ _ e11
    c.put-7.ensures.items c.digits_of-5.ensures in
    let e9 = back c.push-3.new.self.items _ _ _ _ _ e10 c.push-4.ensures.items refl in
    let e8 = back c.push-2.new.self.items _ _ _ _ _ e9 c.push-3.ensures.items refl in
    let e7 = back c.push.new.self.items _ _ _ _ _ e8 c.push-2.ensures.items refl in
    let e6 = back c.put-6.new.text.items _ _ _ _ _ e7 c.push.ensures.items refl in
    let e5 = back c.put-5.new.text.items _ _ _ _ _ e6 c.put-6.ensures.items c.digits_of-4.ensures in
    let e4 = back c.put-4.new.text.items _ _ _ _ _ e5 c.put-5.ensures.items c.digits_of-3.ensures in
    let e3 = back c.put-3.new.text.items _ _ _ _ _ e4 c.put-4.ensures.items c.digits_of-2.ensures in
    let e2 = back c.put-2.new.text.items _ _ _ _ _ e3 c.put-3.ensures.items c.digits_of.ensures in
    let e1 = back c.put.new.text.items _ _ _ _ _ e2 c.put-2.ensures.items c.bytes.ensures.value in
    rw (
      ← c.flag_letter.ensures,
      ← c.flag_letter-2.ensures,
      ← c.flag_letter-3.ensures,
      ← c.format_letter.ensures,
    ) (back [] _ _ _ _ _ e1 (rw c.new-text.ensures at c.put.ensures.items) refl)
