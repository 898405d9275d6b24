use Rattle.std.proofs.Common.{◌≡◌, ℕ, ◌+◌, ◌-◌, ◌≤◌, ◌%◌, List, ◌++◌, length, take, drop, replicate}
use Rattle.std.proofs.Common.{rules, arith, sym, ap, ◌∙◌, append_assoc, length-take, length-drop}
use Rattle.std.proofs.lemmas.Slice.{take-put_mid, drop-put_mid}
use Rattle.std.proofs.lemmas.List.{take-replicate, drop-replicate}
use borrow.Rule.Slice.PartMut.{put_mid, same_len_mid}
use lib.Seq.{take-add}
use Rattle.byteorder.specs.Endian.{little_bytes}
use Rattle.tape_image.proofs.put.spell.Goals as goal

-- a word, content after it and a word at offset e, written over zeros, have p zeros between content
-- and second word
over_zeros : (n p j k e : ℕ) (z word content trail : List ℕ) → j ≡ n → length word ≡ 4
    → length content ≡ n → length trail ≡ 4 → e ≡ (4 + n) + p → e + 4 ≤ length z
    → take (e + 4) (put_mid e k (put_mid 4 j (put_mid 0 4 z word) content) trail)
    ≡ word ++ (content ++ (take p (drop (4 + n) z) ++ trail))
over_zeros n p j k e z word content trail it w c t at fits =
    let lead = put_mid 0 4 z word in
    let held = put_mid 4 j lead content in
    let lead_long : length lead ≡ length z = same_len_mid 0 4 z word
    (w ∙ sym (omega (arith, length-take {A = ℕ}, length-drop {A = ℕ}))) in
    let held_long : length held ≡ length lead =
    same_len_mid 4 j lead content
    (c ∙ sym it ∙ sym (omega (arith, length-take {A = ℕ}, length-drop {A = ℕ}))) in
    let front : take (4 + n) held ≡ word ++ content =
    take-put_mid 4 j lead content (4 + n) (omega arith) (omega arith)
    ∙ ap (λ l. l ++ content) (take-put_mid 0 4 z word 4 (omega arith) (omega arith)) in
    let rest : drop (4 + n) held ≡ drop (4 + n) z =
    drop-put_mid 4 j lead content (4 + n) (omega arith) (omega arith) (c ∙ sym it)
    ∙ drop-put_mid 0 4 z word (4 + n) (omega arith) (omega arith) w in
    let before : take e held ≡ (word ++ content) ++ take p (drop (4 + n) z) =
    ap (λ m. take m held) at ∙ take-add (4 + n) p held
    ∙ ap (λ l. l ++ take p (drop (4 + n) held)) front
    ∙ ap (λ l. (word ++ content) ++ take p l) rest in
    take-put_mid e k held trail (e + 4) (omega arith) (omega arith)
    ∙ ap (λ l. l ++ trail) before
    ∙ search (rules, append_assoc)

pub returns-clause-spelled : goal.returns-clause-spelled
returns-clause-spelled c =
    let content = c.args.content.now in
    let n = length content in
    let p = n % 2 in
    let z = c.args.spelled.now in
    let zeros : take p (drop (4 + n) z) ≡ replicate p 0 =
    ap (λ l. take p (drop (4 + n) l)) c.requires.clear ∙ ap (take p) (drop-replicate (4 + n) 128 0)
    ∙ take-replicate p (128 - (4 + n)) 0 (omega arith) in
    let word = c.copy_from_slice.new.self in
    let trail = c.copy_from_slice-3.new.self in
    let word_is : word ≡ little_bytes 4 n = c.copy_from_slice.ensures.after ∙ c.write_u32.ensures in
    let same : c.copy_from_slice-2.new.self ≡ content = c.copy_from_slice-2.ensures.after in
    let trail_is : trail ≡ little_bytes 4 n =
    c.copy_from_slice-3.ensures.after ∙ c.write_u32.ensures in
    over_zeros n p _ _ _ z word c.copy_from_slice-2.new.self trail (omega arith) (ap length word_is)
    (ap length same) (ap length trail_is) (omega arith) (omega arith)
    ∙ ap (λ l. word ++ (c.copy_from_slice-2.new.self ++ (l ++ trail))) zeros
    ∙ ap (λ l. word ++ (l ++ (replicate p 0 ++ trail))) same
    ∙ ap (λ l. l ++ (content ++ (replicate p 0 ++ trail))) word_is
    ∙ ap (λ l. little_bytes 4 n ++ (content ++ (replicate p 0 ++ l))) trail_is
