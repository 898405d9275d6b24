use Rattle.std.proofs.Common.{◌≡◌, ◌∙◌, ℕ, List, [], arith, inr, refl, rules, subst, sym}
use Rattle.tape_stage.specs.{Disk.NoMore, Holding.unwritten, Holding.with_held, Holding.LeftTorn}
use Rattle.tape_stage.proofs.HoldingLaws.{elapses_self, held_elapses, held_twice, left_none}
use Rattle.tape_stage.proofs.HoldingLaws.{none_left, none_written, torn_both}
use Rattle.tape_stage.proofs.disk.buffered.Buffered.pass_on.Given.{Over}
use Rattle.tape_stage.proofs.disk.buffered.Buffered.pass_on.Goals.{In-Ok}
use Rattle.tape_stage.proofs.disk.buffered.Buffered.pass_on.Goals as goal

pub returns-then-self-clause-looks : goal.returns-then-self-clause-looks
returns-then-self-clause-looks g c = record {
  same_length = search rules;
  same = search rules;
  crash = λ honest x left. left;
  time = λ honest. elapses_self _ _ _;
  honest = search rules;
}

pub returns-in_default-clause-looks : goal.returns-in_default-clause-looks
returns-in_default-clause-looks g c = record {
  same_length = search rules;
  same = λ honest. search rules;
  crash = λ honest x left.
      let h = c.args.self.now in
      let same : c.as_slice.result.now ≡ unwritten h.on_disk h.bytes.items =
      c.as_slice.ensures.value ∙ sym (none_written _ _ c.if-self.false) in
      let (e, first, second) = c.write_at.ensures.crash honest left.0 left.1 in (
        e,
        first,
        torn_both _ _ _ _ _ (rw same at second) left.2,
      );
  time = λ honest. held_elapses _ _ _ _ _ _ _ _ _ _ (c.write_at.ensures.time honest)
      (λ t x le held. inr (held.0, c.write_at.ensures.stays honest held.0 held.1, held.2));
  honest = search rules;
}

module _ (g : Over) (c : In-Ok g) where
  unwritten_is : c.as_slice.result.now
      ≡ unwritten c.args.self.now.on_disk c.args.self.now.bytes.items
  unwritten_is = c.as_slice.ensures.value ∙ sym (none_written _ _ c.if-self.false)

  abbrev held : List ℕ → List ℕ
  held = with_held c.args.self.now.start c.args.self.now.bytes.items

  -- the buffered bytes are on the disk now
  written_twice : g.D.Disk.is_honest c.args.self.now.disk
      → (g.D.Disk.seen c.write_at.new.self ≡ held (g.D.Disk.seen c.args.self.now.disk))
      × (held (g.D.Disk.seen c.write_at.new.self) ≡ held (g.D.Disk.seen c.args.self.now.disk))
  written_twice honest =
      let h = c.args.self.now in
      let is : g.D.Disk.seen c.write_at.new.self ≡ held (g.D.Disk.seen h.disk) =
      rw c.as_slice.ensures.value at (c.in-Ok.ensures.written honest) in (
        is,
        subst (λ s. held s ≡ held (g.D.Disk.seen h.disk)) (sym is)
            (held_twice h.start h.bytes.items (g.D.Disk.seen h.disk)
            (omega (arith, g.met.D.Disk.long_as_seen h.disk honest, h.within))),
      )

  -- the contents that a crash may leave with the buffered bytes torn in are possible now
  torn_is_left : g.D.Disk.is_honest c.args.self.now.disk
      → NoMore (g.D.Disk.may_leave c.write_at.new.self) (LeftTorn
      (g.D.Disk.may_leave c.args.self.now.disk) c.args.self.now.start
      (unwritten c.args.self.now.on_disk c.args.self.now.bytes.items))
  torn_is_left honest x left = c.in-Ok.ensures.any honest left.0 x left.1
      (rw (sym unwritten_is) at left.2)

pub invariant_of-self-2-clause-right : goal.invariant_of-self-2-clause-right
invariant_of-self-2-clause-right g c honest on =
    let (is, same) = written_twice g c (c.write_at.ensures.honest.back honest) in
    same ∙ sym is

pub returns-clause-looks : goal.returns-clause-looks
returns-clause-looks g c = let there = (goal.at.returns-clause-looks g c).In-Ok in record {
  same_length = search rules;
  same = λ honest. (written_twice g there honest).1;
  crash = λ honest x left.
      let (e, first, torn) = c.write_at.ensures.crash honest x (left_none _ _ [] x refl left) in
      (e, first, rw (unwritten_is g there) at torn);
  time = λ honest. held_elapses _ _ _ _ _ _ _ _ _ [] (c.write_at.ensures.time honest)
      (λ t x le held. inr (none_left _ _ [] x (torn_is_left g there honest x held)));
  honest = search rules;
}

pub returns-clause-stays : goal.returns-clause-stays
returns-clause-stays g c honest x left = none_left _ _ [] x
    (torn_is_left g (goal.at.returns-clause-stays g c).In-Ok honest x left)
