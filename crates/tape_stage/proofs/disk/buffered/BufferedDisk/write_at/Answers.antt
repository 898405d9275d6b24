use Rattle.std.proofs.Common.{◌≡◌, ◌+◌, inr, length, arith}
use Rattle.tape_stage.specs.Holding.{torn_same}
use Rattle.tape_stage.proofs.HoldingLaws.{then_elapses, then_stays, then_follows, then_allows}
use Rattle.tape_stage.proofs.HoldingLaws.{all_written, elapses_self, held_elapses, more_stays}
use Rattle.tape_stage.proofs.HoldingLaws.{added_follows, added_allows, begun_allows, holds_more}
use Rattle.tape_stage.proofs.disk.buffered.BufferedDisk.write_at.Goals as goal

-- ---- bytes appended to the buffer

pub returns-then-is_low-clause-written : goal.returns-then-is_low-clause-written
returns-then-is_low-clause-written g c honest =
    let h = c.args.self.now in
    let end : c.args.place ≡ h.start + length h.bytes.items = omega arith in
    rw (c.extend_from_slice.ensures.items, c.unwrap.ensures, end) (holds_more h.start
    h.bytes.items c.args.bytes.now (g.D.Disk.seen h.disk)
    (omega (arith, g.met.D.Disk.long_as_seen h.disk honest, h.within)))

pub returns-then-is_low-clause-crash : goal.returns-then-is_low-clause-crash
returns-then-is_low-clause-crash g c honest =
    rw (c.extend_from_slice.ensures.items, c.unwrap.ensures, c.if-not-self.true)
    (added_follows (g.D.Disk.may_leave _) _ _ _ c.args.bytes.now (omega arith))

pub returns-then-is_low-clause-stays : goal.returns-then-is_low-clause-stays
returns-then-is_low-clause-stays g c honest =
    rw (c.extend_from_slice.ensures.items, c.unwrap.ensures, c.if-not-self.true)
    (more_stays (g.D.Disk.may_leave _) _ _ _)

pub returns-then-is_low-clause-any : goal.returns-then-is_low-clause-any
returns-then-is_low-clause-any g c honest =
    rw (c.extend_from_slice.ensures.items, c.unwrap.ensures, c.if-not-self.true)
    (added_allows (g.D.Disk.may_leave _) _ _ _ c.args.bytes.now (omega arith))

pub returns-then-is_low-clause-time : goal.returns-then-is_low-clause-time
returns-then-is_low-clause-time g c honest =
    rw (c.extend_from_slice.ensures.items, c.unwrap.ensures, c.if-not-self.true)
    (held_elapses _ _ _ _ _ _ _ _ _ _ (elapses_self _ _ _)
    (λ t x le held. inr (more_stays _ _ _ c.args.bytes.now x held)))

-- ---- the buffer written, and then bytes buffered

pub returns-in_err-pass_on-clause-crash : goal.returns-in_err-pass_on-clause-crash
returns-in_err-pass_on-clause-crash g c honest x left = (
  x,
  c.pass_on.ensures.looks.crash honest x left,
  torn_same c.args.place (length c.args.bytes.now) x,
)

pub returns-clause-stays : goal.returns-clause-stays
returns-clause-stays g c honest x left =
    let passed = c.in_ok-pass_on.ensures in
    rw (c.extend_from_slice-2.ensures.items, c.unwrap-2.ensures, c.clear.ensures.items)
    (begun_allows _ _ _ _ _ _ (all_written _ _ passed.clean) (passed.stays honest) x x left
    (torn_same c.args.place (length c.args.bytes.now) x))

pub returns-clause-any : goal.returns-clause-any
returns-clause-any g c honest =
    let passed = c.in_ok-pass_on.ensures in
    rw (c.extend_from_slice-2.ensures.items, c.unwrap-2.ensures, c.clear.ensures.items)
    (begun_allows _ _ _ _ _ _ (all_written _ _ passed.clean) (passed.stays honest))

pub returns-clause-time : goal.returns-clause-time
returns-clause-time g c honest =
    let passed = c.in_ok-pass_on.ensures in
    then_elapses _ _ (passed.looks.time honest) (elapses_self _ _ _)
    (all_written _ _ passed.clean) (passed.looks.crash honest)
    (λ t x. g.met.D.Disk.counts_now _ t x (passed.looks.honest.onward honest))

-- ---- the buffer written, and then more bytes than fit in it

pub returns-in-Ok-clause-crash : goal.returns-in-Ok-clause-crash
returns-in-Ok-clause-crash g c honest =
    let passed = c.in_ok-pass_on.ensures in
    then_follows _ _ _ _ _ _ (all_written _ _ passed.clean) (passed.looks.crash honest)
    (c.write_at.ensures.crash (passed.looks.honest.onward honest))

pub returns-in-Ok-clause-stays : goal.returns-in-Ok-clause-stays
returns-in-Ok-clause-stays g c honest =
    let passed = c.in_ok-pass_on.ensures in
    then_stays _ _ _ _ _ (all_written _ _ passed.clean) (passed.stays honest)
    (c.write_at.ensures.stays (passed.looks.honest.onward honest))

pub returns-in-Ok-clause-time : goal.returns-in-Ok-clause-time
returns-in-Ok-clause-time g c honest =
    let passed = c.in_ok-pass_on.ensures in
    let onward = passed.looks.honest.onward honest in
    then_elapses _ _ (passed.looks.time honest) (c.write_at.ensures.time onward)
    (all_written _ _ passed.clean) (passed.looks.crash honest)
    (λ t x. g.met.D.Disk.counts_now _ t x onward)

pub returns-in-Ok-clause-any : goal.returns-in-Ok-clause-any
returns-in-Ok-clause-any g c honest =
    let passed = c.in_ok-pass_on.ensures in
    then_allows _ _ _ _ _ _ (all_written _ _ passed.clean) (passed.stays honest)
    (c.in-Ok.ensures.any (passed.looks.honest.onward honest))

pub returns-in-Err-clause-crash : goal.returns-in-Err-clause-crash
returns-in-Err-clause-crash g c honest =
    let passed = c.in_ok-pass_on.ensures in
    then_follows _ _ _ _ _ _ (all_written _ _ passed.clean) (passed.looks.crash honest)
    (c.write_at.ensures.crash (passed.looks.honest.onward honest))

pub returns-in-Err-clause-stays : goal.returns-in-Err-clause-stays
returns-in-Err-clause-stays g c honest =
    let passed = c.in_ok-pass_on.ensures in
    then_stays _ _ _ _ _ (all_written _ _ passed.clean) (passed.stays honest)
    (c.write_at.ensures.stays (passed.looks.honest.onward honest))

pub returns-in-Err-clause-time : goal.returns-in-Err-clause-time
returns-in-Err-clause-time g c honest =
    let passed = c.in_ok-pass_on.ensures in
    let onward = passed.looks.honest.onward honest in
    then_elapses _ _ (passed.looks.time honest) (c.write_at.ensures.time onward)
    (all_written _ _ passed.clean) (passed.looks.crash honest)
    (λ t x. g.met.D.Disk.counts_now _ t x onward)
