use Rattle.std.proofs.Common.{rules, ap, ◌++◌, ◌-◌, drop, take, List, ℕ}
use Rattle.std.proofs.Common.{sym, ◌∙◌}
use lib.Seq.{take_at, paste}
use Rattle.tape_image.proofs.Held.{moved_front}
use Rattle.tape_image.proofs.format.few.Few.take.Goals as goal

pub returns-clause-bytes : goal.returns-clause-bytes
returns-clause-bytes c =
    let bytes = c.self.inside.bytes in
    let end = c.self.inside.end in
    let n = c.min-count.result in
    let front = c.copy_from_slice.new.self in
    let given = take_at front (drop n c.args.buf.now) n (search rules) in
    let joined = moved_front bytes n end (search rules) (search rules) in
    let left : List ℕ = take (end - n) (paste bytes 0 (drop n bytes) (end - n)) in
    sym c.self.view_is ∙ sym joined
    ∙ ap (λ (l : List ℕ). l ++ left) (sym (given ∙ c.copy_from_slice.ensures.after))
    ∙ ap (λ (l : List ℕ). take n (front ++ drop n c.args.buf.now) ++ take (end - n) l)
    (sym c.copy_within.ensures.after)
