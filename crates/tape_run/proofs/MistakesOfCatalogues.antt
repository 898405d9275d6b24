-- Wrong answers that the contracts of a catalogue exclude.
use Rattle.std.proofs.Common.{◌≡◌, ℕ, List, true, false, sym, ap, ◌∙◌}
use Rattle.tape_label.specs.declared.values.{Head1.Head1, Trail1.Trail1}
use Rattle.tape_run.specs.declared.{met.Met.Met, section.SectionKey.SectionKey}
use Rattle.tape_run.specs.declared.section.SectionState.TheVariants.{Good, Bad, Count}
use Rattle.tape_run.specs.Passing as passing
use Rattle.tape_run.proofs.met.Met.told.Reads as told

-- a section of file 1, with the number of blocks found
abbrev met : List ℕ → List ℕ → ℕ → Met
met set_id volume blocks =
    let key : SectionKey = record { set_id = set_id; file = 1; sect = 1 } in
    record { volume = volume; key = key; blocks = blocks; bad = false }

-- a trailer label of section 1 of this file, with this count
abbrev trailer : Head1 → ℕ → ℕ → Trail1
trailer head file count = record {
  eof = true;
  head = record head { sect = 1; sequence = file };
  blocks = count;
}

-- the description of a section with a trailer label
told_so : (κs : _) (a : _) (z : _) (s : _) (m : Met) (t : Trail1) → told.Learnt κs a z s
    → a.0.now ≡ m → a.1.0.now ≡ t → z ≡ passing.told m t
told_so κs a z s m t h of by = h ∙ ap (λ v. passing.told v a.1.0.now) of ∙ ap (passing.told m) by

-- wrong_count_called_good: the trailer label of a section of five blocks counts four, but the
-- section is reported as good.
wrong_count_called_good : (κs : _) (a : _) (z : _) (s : _) (id volume : List ℕ) (head : Head1)
    → told.Learnt κs a z s → a.0.now ≡ met id volume 5
    → a.1.0.now ≡ trailer head 1 4 → z.1.state ≡ Good → ⊥
wrong_count_called_good κs a z s id volume head h of by w =
    let e : Good ≡ Count = sym w
    ∙ ap (λ t. t.1.state) (told_so κs a z s (met id volume 5) (trailer head 1 4) h of by) in
    absurd (cc e)

-- bad_section_called_good: one of five blocks is unreadable, but the section is reported as good.
bad_section_called_good : (κs : _) (a : _) (z : _) (s : _) (id volume : List ℕ) (head : Head1)
    → told.Learnt κs a z s → a.0.now ≡ record (met id volume 5) { bad = true }
    → a.1.0.now ≡ trailer head 1 5 → z.1.state ≡ Good → ⊥
bad_section_called_good κs a z s id volume head h of by w =
    let e : Good ≡ Bad = sym w ∙ ap (λ t. t.1.state)
    (told_so κs a z s (record (met id volume 5) { bad = true }) (trailer head 1 5) h of by) in
    absurd (cc e)
