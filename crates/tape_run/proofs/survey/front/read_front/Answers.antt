use Rattle.std.proofs.Common.{arith, sym, subst, ◌≡◌, ℕ, List, length, take, drop}
use Rattle.std.specs.Io.KnownBytes.{Consumes}
use lib.Seq.{take_at}
use Rattle.tape_run.proofs.survey.front.read_front.Goals as goal

pub returns-clause-taken : goal.returns-clause-taken
returns-clause-taken g c =
    let old = g.R.Read.remaining c.args.reader.now in
    let new = g.R.Read.remaining c.fill_front-end.new.reader in
    let end = c.fill_front-end.result in
    let buffer = c.fill_front-end.new.buffer in
    let size : length buffer ≡ c.in_ok-front.front.len =
    omega (arith, c.fill_front-end.auto.buffer, c.as_mut_slice.ensures.len) in
    rw c.truncate.ensures.items (subst (λ (l : List ℕ). Consumes old new (take end l))
    (sym (take_at buffer (drop (length buffer) c.in_ok-front.front.items) c.in_ok-front.front.len
    size)) c.fill_front-end.ensures.taken)
