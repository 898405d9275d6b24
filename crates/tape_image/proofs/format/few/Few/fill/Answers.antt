use Rattle.std.proofs.Common.{rules, arith, ◌+◌, ◌≤◌, subst, ◌-◌, take, drop, length}
use Rattle.std.proofs.Common.{length-drop}
use Rattle.std.proofs.Common.{length-take-le, ◌∙◌}
use Rattle.std.proofs.KnownBytes.{Keeps-trans}
use Rattle.std.specs.Io.KnownBytes.{Keeps, prepend_known}
use Rattle.tape_image.proofs.Held.{held_more, put_more, size_put}
use Rattle.tape_image.proofs.format.few.Few.fill.Goals as goal

pub bytes-preserved : goal.bytes-preserved
bytes-preserved g c =
    let at = c.bytes.self-inside.end in
    let old = c.bytes.self-inside.bytes in
    let n = c.in_ok-read.read in
    let joined = put_more old c.read.new.buf at (c.args.count - at) n (search rules)
    c.in_ok-read.ensures.bound.0 in
    let room_is : at + (c.args.count - at) ≤ length old =
    omega (arith, c.bytes.invariant.size, c.bytes-test.true, c.requires) in
    let long : c.args.count - at ≤ length (drop at old) =
    omega (arith, length-drop at old, c.bytes.invariant.size, c.requires) in
    let read_is = c.read.auto.buf ∙ length-take-le (c.args.count - at) (drop at old) long in
    record {
      size = size_put old c.read.new.buf at (c.args.count - at) room_is read_is
          ∙ c.bytes.invariant.size;
      within = search rules;
      keeps = Keeps-trans _ _ _ c.bytes.invariant.keeps (subst (λ l. Keeps (prepend_known
          (take at old) (g.R.Read.remaining c.bytes.device))
          (prepend_known l (g.R.Read.remaining c.read.new.self))) joined
          (held_more _ _ (take at old) (take n c.read.new.buf) c.in_ok-read.ensures.bytes.0));
    }

pub returns-clause-all : goal.returns-clause-all
returns-clause-all g c = λ _. omega (
  arith,
  length-take-le c.bytes.self-inside.end c.bytes.self-inside.bytes (search rules),
  c.bytes-test.false,
)
