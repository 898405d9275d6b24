use Rattle.std.proofs.Common.{◌≡◌, ◌+◌, length, take, refl, ap, ◌∙◌, arith, rules, Err}
use Rattle.std.proofs.{Common.⊎_elim, lemmas.List.with_items_is, lemmas.List.length-take-le}
use Rattle.tape_core.proofs.Crashes.{only_same}
use Rattle.tape_stage.proofs.Giving.{given, lends_none, nothing_ahead, one_ahead}
use Rattle.tape_stage.proofs.{Backs.adds_read, Held.read_held, Passing.only_reads_self}
use Rattle.tape_stage.proofs.stage.putting.StagePartWalk.next_part.Goals as goal

pub returns-then-self : goal.returns-then-self
returns-then-self g c =
    let s = c.args.self.now in
    let bytes = g.D.Disk.seen s.disk in (
      (
        refl,
        λ _. tt,
        record {
          gave = record {
            kept = λ parts holds. holds;
            crash = λ parts holds. only_same _ _;
            same_weight = refl;
            gives = λ parts is.
                let none = nothing_ahead (256 + s.walked) (256 + s.weight) bytes parts
                (omega (arith, c.if-self.true)) is.1 in
                (none.0, (is.0, none.1));
            lends = tt;
            counts = refl;
            why = tt;
          };
          same = (refl, refl, refl, refl, refl, refl, refl, refl);
          reads = only_reads_self g.D.Disk s.disk;
          honest = λ h. h;
          calm = refl;
          fails = λ parts is readable. tt;
        },
      ),
      record { after_borrow = tt },
    )

pub returns-in-Ok : goal.returns-in-Ok
returns-in-Ok g c =
    let s = c.args.self.now in
    let e = c.in-Ok.ensures in
    let d = c.read_frame.new.disk in
    let calm = s.settled c.if-not-self.false in
    let old = g.D.Disk.seen s.disk in
    let new = g.D.Disk.seen d in
    let same : c.deref.result.now ≡ c.read_frame.new.buffer = c.deref.ensures.value
    ∙ with_items_is s.buffer c.read_frame.new.buffer (omega (arith, c.read_frame.auto.buffer)) in
    let long : length (take c.in-Ok.size c.read_frame.new.buffer) ≡ c.in-Ok.size =
    length-take-le c.in-Ok.size c.read_frame.new.buffer
    (omega (arith, e.short, s.room, c.read_frame.auto.buffer)) in (
      (
        refl,
        λ _. tt,
        rw same record {
          gave = record {
            kept = λ parts holds. let honest = holds.honest calm in read_held s d parts
                (e.honest honest) (e.reads.same honest) (e.reads.any_moment honest).now holds;
            crash = λ parts holds. adds_read s d (e.reads.any_moment (holds.honest calm));
            same_weight = refl;
            gives = λ parts is.
                let next = given s.walked (256 + s.weight) c.in-Ok.size old new c.in-Ok.span
                (take c.in-Ok.size c.read_frame.new.buffer) parts
                (omega (arith, c.if-self.false)) (e.found (is.0 calm)) long
                (e.reads.same (is.0 calm)) is.1 in
                (next.0, next.1, (λ none. e.honest (is.0 none), next.2));
            lends = (omega (arith, long, e.short), omega (arith, c.if-self.false, e.ends));
            counts = refl;
            why = tt;
          };
          same = (refl, refl, refl, refl, refl, refl, refl, refl);
          reads = e.reads;
          honest = e.honest;
          calm = e.calm;
          fails = λ parts is readable. tt;
        },
      ),
      record { after_borrow = tt },
    )

pub returns-in-Err : goal.returns-in-Err
returns-in-Err g c =
    let s = c.args.self.now in
    let e = c.in-Err.ensures in
    let d = c.read_frame.new.disk in
    let calm = s.settled c.if-not-self.false in (
      (
        refl,
        λ _. tt,
        record {
          gave = record {
            kept = λ parts holds. let honest = holds.honest calm in read_held s d parts
                (e.honest honest) (e.reads.same honest) (e.reads.any_moment honest).now holds;
            crash = λ parts holds. adds_read s d (e.reads.any_moment (holds.honest calm));
            same_weight = refl;
            gives = λ parts is. (
              λ none. e.honest (is.0 none),
              rw (e.reads.same (is.0 calm)) is.1,
            );
            lends = tt;
            counts = search rules;
            why = lends_none g.D.Disk s.readable s.walked s.weight s.disk d c.in-Err.fault e.only
                (λ is. e.kinds (ap Err is)) (λ honest is. e.none honest (ap Err is));
          };
          same = (refl, refl, refl, refl, refl, refl, refl, refl);
          reads = e.reads;
          honest = e.honest;
          calm = tt;
          fails = λ parts is readable. ⊎_elim (λ device. e.kinds (ap Err device))
              (λ failed. absurd (
              let one = one_ahead _ _ _ _ (omega (arith, c.if-self.false)) is.1 in
              e.none (is.0 calm) (ap Err failed) one.part.span one.part.bytes one.frame_is)) e.only;
        },
      ),
      record { after_borrow = tt },
    )
