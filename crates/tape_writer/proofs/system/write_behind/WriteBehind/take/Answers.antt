use Rattle.tape_writer.proofs.Words.{◌∙◌, List, ℕ, [], ◌++◌, Option, sym, ap, subst, refl, arith}
use Rattle.std.proofs.Common.{append-nil}
use Rattle.tape_image.proofs.Pieces.{on_err, front_behind, front_more}
use Rattle.tape_image.specs.Written.{AppendsFront}
use Rattle.std.specs.Io.KnownBytes.{Appends}
use Rattle.tape_writer.specs.Holding.{Holding}
use Rattle.tape_writer.proofs.system.write_behind.WriteBehind.take.Goals.{else-self+else-bytes-len}
use Rattle.tape_writer.proofs.system.write_behind.WriteBehind.take.Goals.{then-self+in_ok-pass_on}
use Rattle.tape_writer.proofs.system.write_behind.WriteBehind.take.Goals as goal

-- if it fails while making room, it contains a prefix of the buffered bytes and those that follow
no_room_stops : (a b : Option (List ℕ)) (held bytes : List ℕ) → AppendsFront a b (held ++ [])
    → AppendsFront a b (held ++ bytes)
no_room_stops a b held bytes front = front_more a b held bytes
    (subst (AppendsFront a b) (append-nil held) front)

pub returns-in_err-pass_on-clause-err : goal.returns-in_err-pass_on-clause-err
returns-in_err-pass_on-clause-err g c =
    let stops = c.in_err-pass_on.ensures.err in
    on_err c.from_residual.result _ (record {
      front = no_room_stops _ _ _ _ stops.front;
      size = stops.size;
      failed = stops.failed;
    })

pub returns-in-Err-clause-err : goal.returns-in-Err-clause-err
returns-in-Err-clause-err g c = elim c.if-self.branch [
  | then-self+in_ok-pass_on w ↦
      let same = c.self-2.view_is ∙ w.self-is in
      let old = c.args.self.now in
      let passed = w.in_ok-pass_on.ensures.ok in
      record {
        front = front_behind old.device _ _ old.held c.args.bytes.now
            (subst (λ h. Appends old.device h.device old.held) (sym same) passed.passed)
            c.in-Err.ensures.err;
        size = ap (λ (h : Holding). h.size) same ∙ passed.size;
        failed = refl;
      }
  | else-self+else-bytes-len w ↦ absurd (omega (arith, c.if-bytes-gt-ROOM.true, w.if-bytes-len))
]
