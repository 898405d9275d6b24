-- Wrong answers to a fault of a sink or a writer that the contracts exclude.
use Rattle.std.proofs.Common.{◌≡◌, ◌≢◌, ◌<◌, true, false, List, [], inl, inr, refl, sym, ◌∙◌}
use Rattle.std.specs.Prelude.{Err, None, Ok, is_some, map, ◌++◌}
use Rattle.std.specs.Io.KnownBytes.{Appends}
use Rattle.tape_blocks.specs.Block.{Portion}
use Rattle.tape_core.specs.declared.sink.SinkFault.TheVariants as sink
use Rattle.tape_set.specs.declared.position.Position.TheVariants.{Finished}
use Rattle.tape_run.specs.declared.fault.EngineFault.TheVariants.{Run, WriteFailed}
use Rattle.tape_run.specs.{declared.fault.RunFault.TheVariants.Sink, ReelLine.reel_lines}
use Rattle.tape_run.specs.{OutSinks.HasTaken, OutSinks.TellsAlways, Reeling.answer_of}
use Rattle.tape_run.specs.Rounds.{turns_of}
use Rattle.tape_core.specs.declared.sink.SinkFault.{SinkFault}
use Rattle.tape_image.specs.Written.{AppendsFront}
use Rattle.tape_run.proofs.Causes.{not_rose}
use Rattle.tape_run.proofs.extract.write_file.Reads as write_file
use Rattle.tape_run.proofs.extract.now.extract_streaming.Reads as streaming
use Rattle.tape_run.proofs.extract.out_sink.OutSink.finish.Reads as finish
use Rattle.tape_run.proofs.extract.out_sink.OutSinkPartSink.put.Reads as put
use Rattle.tape_run.proofs.session.Session.reel.Reads as reel
use Rattle.tape_run.proofs.session.Session.restart.Reads as restart
use Rattle.tape_run.proofs.session.Session.save.Reads as save

-- failed_flush_told_as_the_sink: a failure of the sink's device is reported, but the sink refused
-- no call
failed_flush_told_as_the_sink : (S : _) (W : _) (LS : _) (LW : _) (g : _) (d : _) (g' : _) (d' : _)
    (h : _) (e : _) (κs : _) (a : _) (s : _)
    → write_file.Learnt-named S W LS LW g d g' d' h e κs a (Err (Run (Sink sink.Device))) s
    → g'.refusals s.1.0.now ≡ g'.refusals a.1.0.now
    → g'.refusals a.1.0.now < 18446744073709551615 → ⊥
failed_flush_told_as_the_sink S W LS LW g d g' d' h e κs a s l same few = elim (l.cause) [
  | inl r ↦ not_rose _ _ same few r.counted
  | inr other ↦ absurd (cc other.0)
]

-- empty_file_not_ended: no record is unfinished, and the form is the sink's, but a run's fault is
-- reported
empty_file_not_ended : (W : _) (L : _) (g : _) (d : _) (w : _) (κs : _) (a : _) (fault : _) (s : _)
    → finish.Learnt-named W L g d w κs a (Err (Run fault)) s
    → a.0.now.begun ≡ false → a.0.now.form ≡ a.1.0 → ⊥
empty_file_not_ended W L g d w κs a fault s l ended same = elim (l.cause.1) [
  | inl begun ↦ absurd (let e : true ≡ false = sym begun ∙ ended in cc)
  | inr other ↦ other same
]

-- begun_record_told_as_a_write: a record is unfinished, but a failed write is reported
begun_record_told_as_a_write : (W : _) (L : _) (g : _) (d : _) (w : _) (κs : _) (a : _) (s : _)
    → finish.Learnt-named W L g d w κs a (Err WriteFailed) s → a.0.now.begun ≡ true → ⊥
begun_record_told_as_a_write W L g d w κs a s l begun = l.cause (inl begun)

-- begun_record_ended: a record is unfinished, but the output is finished
begun_record_ended : (W : _) (L : _) (g : _) (d : _) (w : _) (κs : _) (a : _) (given : _) (s : _)
    → finish.Learnt-named W L g d w κs a (Ok given) s → a.0.now.begun ≡ true → ⊥
begun_record_ended W L g d w κs a given s l begun = l.ended (inl begun)

-- writer_given_up_after_a_part: a part was accepted, but its sink has no writer
writer_given_up_after_a_part : (W : _) (L : _) (g : _) (d : _) (w : _) (κs : _) (a : _) (s : _)
    → put.Learnt-named W L g d w κs a (Ok tt) s → is_some s.0.now.out ≡ false → ⊥
writer_given_up_after_a_part W L g d w κs a s l gone =
    absurd (let e : true ≡ false = sym l.writer.1 ∙ gone in cc e)

-- ---- which fault: the sinks of these lemmas refuse each change, and each part, with Device

abbrev OnlyDevice : {S : Type 0} → (S → SinkFault → S → Type 0) → Type 0
OnlyDevice {S} refuses = (old : S) (fault : SinkFault) (new : S) → refuses old fault new
    → fault ≡ sink.Device

-- reel_swaps_the_fault: a reel was not read because the sink is full
reel_swaps_the_fault : (S : _) (R : _) (LS : _) (LR : _) (g : _) (d : _) (h : _) (e : _) (κs : _)
    (a : _) (s : _) → reel.Learnt-named S R LS LR g d h e κs a (Err (Sink sink.Full)) s
    → OnlyDevice g.refuses_change → ⊥
reel_swaps_the_fault S R LS LR g d h e κs a s l only =
    let r = l.refuses.1 in absurd (cc (only r.mid sink.Full s.0.now.sink r.why))

-- save_swaps_the_fault: no checkpoint was made because the sink is full
save_swaps_the_fault : (S : _) (LS : _) (g : _) (d : _) (κs : _) (a : _) (s : _)
    → save.Learnt-named S LS g d κs a (Err (Sink sink.Full)) s → OnlyDevice g.refuses_change → ⊥
save_swaps_the_fault S LS g d κs a s l only =
    let r = l.refuses.1 in absurd (cc (only r.mid sink.Full s.0.now.sink r.why))

-- rollback_swaps_the_fault: the session did not roll back because the sink is full
rollback_swaps_the_fault : (S : _) (LS : _) (g : _) (d : _) (κs : _) (a : _) (s : _)
    → restart.Learnt-named S LS g d κs a (Err (Sink sink.Full)) s → OnlyDevice g.refuses_change → ⊥
rollback_swaps_the_fault S LS g d κs a s l only = elim (l.refuses.1) [
  | inl r ↦ absurd (cc (only r.mid sink.Full s.0.now.sink r.why))
  | inr other ↦ absurd (cc other.0)
]

-- walk_swaps_the_fault: records are not written because memory ran out
walk_swaps_the_fault : (S : _) (W : _) (LS : _) (LW : _) (g : _) (d : _) (g' : _) (d' : _) (h : _)
    (e : _) (κs : _) (a : _) (s : _)
    → write_file.Learnt-named S W LS LW g d g' d' h e κs a (Err (Run (Sink sink.OutOfMemory))) s
    → OnlyDevice g.refuses → ⊥
walk_swaps_the_fault S W LS LW g d g' d' h e κs a s l only = elim (l.cause) [
  | inl r ↦ absurd (cc (only r.mid sink.OutOfMemory s.1.0.now r.why))
  | inr other ↦ absurd (cc other.0)
]

-- streaming_is_full_at_once: the images are not read because the sink is full, but it refused no
-- call
streaming_is_full_at_once : (W : _) (R : _) (L : _) (O : _) (P : _) (LW : _) (LR : _) (LL : _)
    (LO : _) (LP : _) (w : _) (f : _) (wd : _) (h : _) (e : _) (rd : _) (m : _) (n : _) (o : _)
    (p : _) (i : _) (j : _) (κs : _) (a : _) (s : _)
    → streaming.Learnt-named W R L O P LW LR LL LO LP w f wd h e rd m n o p i j κs a
    (Err (Run (Sink sink.Full))) s
    → s.0.now.sink.refused ≡ a.0.now.sink.refused
    → a.0.now.sink.refused < 18446744073709551615 → ⊥
streaming_is_full_at_once W R L O P LW LR LL LO LP w f wd h e rd m n o p i j κs a s l same few =
    elim (l.cause) [
      | inl (inl r) ↦ not_rose _ _ same few r.counted
      | inl (inr other) ↦ absurd (cc other.0)
      | inr (done, ends) ↦ absurd (cc ends.0)
    ]

-- missing_part_told_as_a_begun_record: the sink refused no call, and a part of the file is missing,
-- but a record is reported as unfinished
missing_part_told_as_a_begun_record : (W : _) (R : _) (L : _) (O : _) (P : _) (LW : _) (LR : _)
    (LL : _) (LO : _) (LP : _) (w : _) (f : _) (wd : _) (h : _) (e : _) (rd : _) (m : _) (n : _)
    (o : _) (p : _) (i : _) (j : _) (κs : _) (a : _) (s : _) (held : List Portion)
    → streaming.Learnt-named W R L O P LW LR LL LO LP w f wd h e rd m n o p i j κs a
    (Err (Run (Sink sink.Failed))) s
    → HasTaken w.contents a.0.now.sink.form a.0.now.sink.out a.0.now.sink.held.items
    a.0.now.sink.weight a.0.now.sink.records a.0.now.sink.begun held → a.0.now.notes ≡ []
    → s.0.now.sink.refused ≡ a.0.now.sink.refused
    → a.0.now.sink.refused < 18446744073709551615 → s.0.now.core.position ≢ Finished → ⊥
missing_part_told_as_a_begun_record W R L O P LW LR LL LO LP w f wd h e rd m n o p i j κs a s held
    l was unnoted same few missing = elim (l.cause) [
      | inl (inl r) ↦ not_rose _ _ same few r.counted
      | inl (inr other) ↦ other.1 held was (rw unnoted (held, refl))
      | inr ends ↦ missing ends.0
    ]

-- unsaved_reel_is_reported: a step failed, and the report is not exactly the lines of the images
-- before it
unsaved_reel_is_reported : (W : _) (R : _) (L : _) (O : _) (P : _) (LW : _) (LR : _) (LL : _)
    (LO : _) (LP : _) (w : _) (f : _) (h : _) (e : _) (m : _) (n : _) (o : _) (k : _) (p : _)
    (q : _) (i : _) (j : _) (κs : _) (a : _) (fault : _) (s : _)
    → (l : streaming.Learnt-named W R L O P LW LR LL LO LP w f h e m n o k p q i j κs a
    (Err (Run fault)) s)
    → (Appends (p.contents a.1.1.1.1.0.now) (p.contents s.1.1.1.1.0.now)
    (reel_lines 1 (map answer_of (turns_of l.err.rounds ++ l.err.turns))) → ⊥) → ⊥
unsaved_reel_is_reported W R L O P LW LR LL LO LP w f h e m n o k p q i j κs a fault s l more =
    more (l.err.told (λ same. cc same))

-- complete_reported_before_the_name: the last line reports a complete file, but none has the name
complete_reported_before_the_name : (W : _) (R : _) (L : _) (O : _) (P : _) (LW : _) (LR : _)
    (LL : _) (LO : _) (LP : _) (w : _) (f : _) (h : _) (e : _) (m : _) (n : _) (o : _) (k : _)
    (p : _) (q : _) (i : _) (j : _) (κs : _) (a : _) (fault : _) (s : _) (held : List Portion)
    → (l : streaming.Learnt-named W R L O P LW LR LL LO LP w f h e m n o k p q i j κs a
    (Err fault) s)
    → HasTaken w.contents a.0.now.sink.form a.0.now.sink.out a.0.now.sink.held.items
    a.0.now.sink.weight a.0.now.sink.records a.0.now.sink.begun held → TellsAlways w.contents
    → l.err.want ≡ None → (AppendsFront (p.contents a.1.1.1.1.0.now) (p.contents s.1.1.1.1.0.now)
    (reel_lines 1 (map answer_of (turns_of l.err.rounds ++ l.err.turns))) → ⊥)
    → o.stands s.1.1.1.0.now ≡ None → ⊥
complete_reported_before_the_name W R L O P LW LR LL LO LP w f h e m n o k p q i j κs a fault s held
    l was tells none more unnamed =
    let (last, now, follows, stopped, ends, leaves) = l.err.follows held was tt in elim leaves [
      | inl (same, inl less) ↦ more less
      | inl (same, inr some) ↦ some none
      | inr (done, inl (same, less)) ↦ more less
      | inr (done, inr named) ↦ absurd (let e = sym unnamed ∙ named tells in cc e)
    ]
