-- Wrong answers that the contracts of `extract` and of its last line exclude.
use Rattle.std.proofs.Common.{◌≡◌, ◌<◌, List, [], ◌∷◌, length, sym, ap, ◌∙◌, subst, arith, codes}
use Rattle.std.proofs.Common.{inl, inr, Some, Ok, Err, slice_index}
use Rattle.std.specs.{Fmt.digits, Io.KnownBytes.Appends}
use Rattle.tape_blocks.specs.declared.parts.{Span.TheVariants.First, Form.TheVariants.Lines}
use Rattle.tape_blocks.specs.Block.{Portion}
use Rattle.tape_core.specs.declared.sink.SinkFault.TheVariants.{Full}
use Rattle.tape_run.specs.{RecordText.output_of, Reeling.goes_back}
use Rattle.tape_run.proofs.Causes.{not_rose}
use Rattle.tape_run.specs.declared.fault.{EngineFault.TheVariants.Run, RunFault.TheVariants.Sink}
use Rattle.tape_run.specs.Causes.{ExtractFails, RefusesAny}
use Rattle.tape_run.proofs.extract.extract_to.Reads as extract_to
use Rattle.tape_run.proofs.extract.line.last_line.Reads as last_line
use Rattle.tape_run.proofs.extract.write_file.Reads as write_file

-- the first part of a record that does not end
abbrev begun : List Portion
begun = record { span = First; bytes = codes "AB" } ∷ []

-- full_told_at_once: the images are not read because the sink is full, but it refused no call
full_told_at_once : (S : _) (R : _) (L : _) (W : _) (P : _) (LS : _) (LR : _) (LL : _) (LW : _)
    (LP : _) (g : _) (d : _) (g' : _) (d' : _) (h : _) (e : _) (m : _) (n : _) (w : _) (f : _)
    (p : _) (i : _) (j : _) (κs : _) (a : _) (s : _)
    → extract_to.Learnt-named S R L W P LS LR LL LW LP g d g' d' h e m n w f p i j κs a
    (Err (Run (Sink Full))) s
    → g'.refusals s.0.now.sink ≡ g'.refusals a.0.now.sink
    → g'.refusals a.0.now.sink < 18446744073709551615 → ⊥
full_told_at_once S R L W P LS LR LL LW LP g d g' d' h e m n w f p i j κs a s l same few =
    by l.cause
  where
    by : ExtractFails g' (RefusesAny g' g.refuses) (goes_back a.0.now.notes) (Run (Sink Full))
        a.0.now s.0.now → ⊥
    by (inl r) = not_rose _ _ same few r.counted
    by (inr (is, none)) = absurd (cc is)

-- begun_rest_written: an unfinished record is written
begun_rest_written : (S : _) (W : _) (LS : _) (LW : _) (g : _) (d : _) (g' : _) (d' : _) (h : _)
    (e : _) (κs : _) (a : _) (n : _) (s : _)
    → write_file.Learnt-named S W LS LW g d g' d' h e κs a (Ok n) s
    → g'.holds a.1.0.now begun → a.1.1.0 ≡ Lines
    → h.contents a.1.1.1.0.now ≡ Some [] → h.contents s.1.1.1.0.now ≡ Some (codes "AB") → ⊥
begun_rest_written S W LS LW g d g' d' h e κs a n s l holds form old new =
    let r : Appends (Some []) (Some (codes "AB")) (output_of a.1.1.0 begun)
    = subst (λ v. Appends (Some []) v (output_of a.1.1.0 begun)) new
    (subst (λ v. Appends v (h.contents s.1.1.1.0.now) (output_of a.1.1.0 begun)) old
    (l.ok begun holds).1) in
    absurd (let n : 2 ≡ 0 = ap length (r ∙ ap (λ v. output_of v begun) form) in omega arith)

-- awaits_without_the_part: three parts of block 2 were delivered, but the last line does not say so
awaits_without_the_part : (κs : _) (z : _) (s : _)
    → last_line.Learnt κs (Some (record { file = 1; sect = 1; block = 2; part = 3 }), (0, tt)) z s
    → z.bytes ≡ codes "AWAITS 1 1 2\n" → ⊥
unfolding digits
awaits_without_the_part κs z s h w =
    absurd (let d : 10 ≡ 32 = ap (λ v. slice_index v 12) (sym w ∙ h) in omega arith)
