-- A file recovered from the images of a shelf.
use Rattle.std.proofs.Common.{◌≡◌, ℕ, inl, inr, arith, Bool, not, ◌&&◌, List, [], ◌++◌, Option}
use Rattle.std.proofs.Common.{Some, None, refl, sym, ap, subst, ◌∙◌}
use Rattle.std.proofs.KnownBytes.{Appends-trans}
use Rattle.tape_image.specs.Written.{AppendsFront}
use Rattle.std.specs.{Prelude.option_map, Io.KnownBytes.Appends, Io.KnownBytes.Keeps}
use Rattle.tape_image.proofs.Pieces.{front_more, front_behind}
use Rattle.tape_run.specs.{declared.salvage.copies.SectionCopy.SectionCopy, Reeling.Mounting}
use Rattle.tape_run.specs.{declared.salvage.recovery.Recovery.Recovery, SalvageLine.last_line}
use Rattle.tape_run.specs.{declared.salvage.SalvageTask.SalvageTask, SalvageConflicts.AreConflicts}
use Rattle.tape_run.specs.{RecordText.output_of, SalvageRecords.Start}
use Rattle.tape_run.specs.SalvageBlocks.{Salvaged, HasSalvaged, ReportsFront, none_salvaged}
use Rattle.tape_run.specs.SalvageTaking.{TakesFile, StopsTaking, after_file, file_text, all_text}
use Rattle.tape_run.specs.SalvageChoice.{last_section, form_of_file}
use Rattle.tape_run.specs.Salvaging.{FindsAll, Salvages, StopsSalvage}
use Rattle.tape_run.proofs.{Fitting.kept, Fitting.whole_text, SalvageOne.three_texts}

-- the contents of a report after text that might have been written
abbrev with_line : Option (List ℕ) → List ℕ → Option (List ℕ)
with_line w line = option_map (λ xs. xs ++ line) w

grows : (w : Option (List ℕ)) (line : List ℕ) → Appends w (with_line w line) line
grows None line = tt
grows (Some xs) line = refl

stays : (o : Option (List ℕ)) → Keeps o o
stays None = tt
stays (Some xs) = refl

pub file_salvaged : {W L R : Type 0} (contents : W → Option (List ℕ)) (size : L → ℕ)
    (gives : Mounting L R) (remaining : R → Option (List ℕ)) (task : SalvageTask) (out : W)
    (shelf middle left : L) (cs ds es : List SectionCopy) (old new : Recovery W)
    (written flushed : W) (stands said found noted w one says : Option (List ℕ))
    (conflict complete : Bool)
    (records : ℕ) (line : List ℕ)
    → FindsAll size gives remaining task.set_id task.file shelf middle cs said found
    → (text : List ℕ) × AreConflicts es (last_section es) text conflict × Appends found noted text
    → es ≡ cs
    → TakesFile contents gives remaining ds task.content middle left old new noted w → ds ≡ cs
    → HasSalvaged contents (record { had = contents out; form = task.form }) old none_salvaged
    → written ≡ new.mender.out → Keeps (contents written) (contents flushed)
    → stands ≡ contents flushed → records ≡ new.mender.records
    → complete ≡ (not new.missing && not conflict) → line ≡ last_line complete records
    → Appends w one line → Keeps one says
    → Salvages contents size gives remaining task out shelf left stands said says complete
file_salvaged contents size gives remaining task out shelf middle left cs ds es old new written
    flushed stands said found noted w one says conflict complete records line finds
    (conflicts, differ, wrote_conflicts) alike takes same begins gave keeps placed counts all is
    wrote last =
    let t =
    subst (λ l. TakesFile contents gives remaining l task.content middle left old new noted w)
    same takes in
    let start : Start = record { had = contents out; form = task.form } in
    let g = after_file task.content cs t.taken none_salvaged in
    let r = t.recovers start none_salvaged begins in
    let text : line ≡ last_line complete g.piece.records =
    is ∙ ap (last_line complete) (counts ∙ r.0.piece.counts) in
    let lines = file_text task.content cs t.taken none_salvaged in
    record {
      copies = cs;
      middle = middle;
      found = found;
      finds = finds;
      conflicts = conflicts;
      conflict = conflict;
      differ = subst (λ l. AreConflicts l (last_section l) conflicts conflict) alike differ;
      taken = t.taken;
      took = t.took;
      all = t.all;
      wrote = subst (λ o. Appends (contents out) o (output_of task.form g.piece.done)) (sym placed)
          (kept (contents out) (contents written) (contents flushed)
          (output_of task.form g.piece.done)
          (subst (λ o. Appends (contents out) (contents o) (output_of task.form g.piece.done))
          (sym gave) r.0.piece.written) keeps);
      is_complete = all ∙ ap (λ b. not b && not conflict) r.0.same_missing;
      reported = kept found one says _ (three_texts found noted w one conflicts lines
          (last_line complete g.piece.records) wrote_conflicts r.1
          (subst (Appends w one) text wrote)) last;
    }

-- the same if only a prefix of the last line was written
pub file_placed : {W L R : Type 0} (contents : W → Option (List ℕ)) (size : L → ℕ)
    (gives : Mounting L R) (remaining : R → Option (List ℕ)) (task : SalvageTask) (out : W)
    (shelf middle left : L) (cs ds es : List SectionCopy) (old new : Recovery W)
    (written flushed : W) (stands said found noted w says : Option (List ℕ))
    (conflict complete : Bool) (records : ℕ) (line : List ℕ)
    → FindsAll size gives remaining task.set_id task.file shelf middle cs said found
    → (text : List ℕ) × AreConflicts es (last_section es) text conflict × Appends found noted text
    → es ≡ cs
    → TakesFile contents gives remaining ds task.content middle left old new noted w → ds ≡ cs
    → HasSalvaged contents (record { had = contents out; form = task.form }) old none_salvaged
    → written ≡ new.mender.out → Keeps (contents written) (contents flushed)
    → stands ≡ contents flushed → records ≡ new.mender.records
    → complete ≡ (not new.missing && not conflict) → line ≡ last_line complete records
    → AppendsFront w says line → (complete : Bool) × (all : Option (List ℕ))
    × Salvages contents size gives remaining task out shelf left stands said all complete
    × ((rest : List ℕ) × Appends says all rest)
file_placed contents size gives remaining task out shelf middle left cs ds es old new written
    flushed stands said found noted w says conflict complete records line finds differ alike takes
    same begins gave keeps placed counts every is (front, rest, wrote, whole) =
    let all = with_line says rest in (
      complete,
      all,
      file_salvaged contents size gives remaining task out shelf middle left cs ds es old new
          written flushed stands said found noted w all all conflict complete records line finds
          differ alike takes same begins gave keeps placed counts every is
          (subst (Appends w all) (sym whole)
          (Appends-trans w says all front rest wrote (grows says rest))) (stays all),
      (rest, grows says rest),
    )

-- ---- before the output got its name

module _ {L R : Type 0} (size : L → ℕ) (gives : Mounting L R)
    (remaining : R → Option (List ℕ)) (task : SalvageTask) (shelf middle left : L)
    (cs ds : List SectionCopy) (said found : Option (List ℕ))
    (finds : FindsAll size gives remaining task.set_id task.file shelf middle cs said found) where
  stops_after : (says : Option (List ℕ)) (conflicts : List ℕ) (conflict : Bool)
      (lines : Salvaged → List ℕ) → AreConflicts cs (last_section cs) conflicts conflict
      → StopsTaking gives remaining cs task.content middle left lines
      → AppendsFront found says (conflicts ++ lines none_salvaged)
      → StopsSalvage size gives remaining task shelf left said says
  stops_after says conflicts conflict lines differ stops part = record {
    reels = finds.reels;
    middle = middle;
    mounted = finds.mounted;
    copies = cs;
    found = finds.text;
    finds = finds.finds;
    more = conflicts ++ lines none_salvaged;
    wrote = front_behind said found says finds.text _ finds.wrote part;
    stops = inr (inr (finds.all, conflicts, conflict, differ, lines, stops, refl));
  }

  -- among the differing copies
  pub stops_comparing : (says : Option (List ℕ)) → left ≡ middle → ds ≡ cs
      → (text : List ℕ) × (any : Bool) × AreConflicts ds (last_section ds) text any
      × AppendsFront found says text
      → StopsSalvage size gives remaining task shelf left said says
  stops_comparing says stays alike (text, any, differ, part) =
      stops_after says text any (all_text task.content (form_of_file cs) 1 [])
      (subst (λ l. AreConflicts l (last_section l) text any) alike differ)
      (record {
        taken = [];
        mid = middle;
        took = refl;
        are = inl (tt, omega arith, stays, refl);
      }) (front_more found says text [] part)

  -- among the sections
  pub stops_recovering : {W : Type 0} (contents : W → Option (List ℕ)) (start : Start)
      (old : Recovery W) (es : List SectionCopy) (noted says : Option (List ℕ)) (conflict : Bool)
      → (text : List ℕ) × AreConflicts es (last_section es) text conflict
      × Appends found noted text → es ≡ cs → ds ≡ cs
      → HasSalvaged contents start old none_salvaged
      → (lines : Salvaged → List ℕ) × StopsTaking gives remaining ds task.content middle left lines
      × ReportsFront contents old noted says lines
      → StopsSalvage size gives remaining task shelf left said says
  stops_recovering contents start old es noted says conflict (text, differ, wrote) alike same begins
      (lines, stops, part) =
      stops_after says text conflict lines
      (subst (λ l. AreConflicts l (last_section l) text conflict) alike differ)
      (subst (λ l. StopsTaking gives remaining l task.content middle left lines) same stops)
      (front_behind found noted says text _ wrote (part start none_salvaged begins))

  -- all but the last line was reported
  pub stops_placing : {W : Type 0} (contents : W → Option (List ℕ)) (start : Start)
      (old new : Recovery W) (es : List SectionCopy) (noted says : Option (List ℕ))
      (conflict : Bool)
      → (text : List ℕ) × AreConflicts es (last_section es) text conflict
      × Appends found noted text → es ≡ cs → ds ≡ cs
      → HasSalvaged contents start old none_salvaged
      → TakesFile contents gives remaining ds task.content middle left old new noted says
      → StopsSalvage size gives remaining task shelf left said says
  stops_placing contents start old new es noted says conflict differ alike same begins takes =
      stops_recovering contents start old es noted says conflict differ alike same begins (
        file_text task.content ds takes.taken,
        record {
          taken = takes.taken;
          mid = left;
          took = takes.took;
          are = inr (inr (takes.all, refl, refl));
        },
        λ start g h. whole_text noted says _ (takes.recovers start g h).1,
      )
