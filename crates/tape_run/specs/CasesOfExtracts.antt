-- Examples for the definitions of recovered files. They are the contract of the call `laws::cases`.
use Rattle.std.specs.Prelude.{◌≡◌, ◌≢◌, ◌<◌, ◌≤◌, ◌⊎◌, ℕ, List, [], ◌∷◌, ◌++◌, length, map, Option}
use Rattle.std.specs.Prelude.{Some, None, Bool, true, false, ⊤, is_some, codes}
use Rattle.std.specs.Io.KnownBytes.{Appends}
use Rattle.tape_blocks.specs.{declared.parts.Form.Form, Block.Portion, Spans.join}
use Rattle.tape_blocks.specs.declared.parts.Form.TheVariants.{Lines, Raw, Counted}
use Rattle.tape_blocks.specs.declared.parts.Span.TheVariants.{First}
use Rattle.tape_image.specs.{Reader.IfKnown, Written.AppendsFront}
use Rattle.tape_set.specs.{declared.position.Position.TheVariants.Finished, Position.want_at}
use Rattle.tape_set.specs.declared.position.Want.{Want}
use Rattle.tape_core.specs.declared.event.Answer.TheVariants.{SectionDone, Useless}
use Rattle.tape_core.specs.declared.event.Reason.TheVariants.{BlockCount, Broken, BadItem}
use Rattle.tape_core.specs.{Crash.lost, Place.rest_of, State.State, Point.Point}
use Rattle.tape_core.specs.{Stands.weight_of, declared.sink.PartSink.Ghosts}
use Rattle.tape_core.specs.Table.{saved, mount_of}
use Rattle.tape_core.specs.declared.sink.SinkFault.{SinkFault}
use Rattle.tape_core.specs.declared.sink.SinkFault.TheVariants as sink
use Rattle.tape_run.specs.declared.fault.RunFault.TheVariants.{Sink, NoSuchPoint}
use Rattle.tape_run.specs.OutSinks.{HasTaken, IsText, RefusesText, TellsAlways, text_so_far}
use Rattle.tape_run.specs.Reeling.{Opened, Turn, answer_of, AreTurns, IsTurn, Follows, AreSteps}
use Rattle.tape_run.specs.Reeling.{counts_differ, steps_of, ReadsAndNotes, goes_back, IsKeptFor}
use Rattle.tape_run.specs.Reeling.{AreFirstTurns, AreTold, Took, step_behind, notes_behind, IsNoted}
use Rattle.tape_run.specs.{declared.fault.EngineFault.EngineFault, declared.fault.RunFault.RunFault}
use Rattle.tape_run.specs.declared.fault.EngineFault.TheVariants.{Run, WriteFailed}
use Rattle.tape_run.specs.declared.fault.RunFault.TheVariants.{OutOfMemory}
use Rattle.tape_run.specs.{Given.is_device, Reels.Reads}
use Rattle.tape_run.specs.{RecordText.sent_of, RecordText.held_of}
use Rattle.tape_run.specs.{Headline.HasRun, RecordText.output_of, Seen.Seen, Seen.IsKept, Seen.seen}
use Rattle.tape_run.specs.{ReelLine.reel_lines, ReelLine.last_line, SessionState.SessionState}
use Rattle.tape_run.specs.{Steps.Saved, Steps.Unmoved, Steps.WentBack, OutSinks.with_end}
use Rattle.tape_run.specs.Stopping.{IsStopped, NotNoted, StopsAt}
use Rattle.tape_run.specs.Extracting.{IsWritten, IsPut, Ends, Extracts, Stops, TellsEnd}
use Rattle.tape_run.specs.Extracting.{LeavesOutput, LeavesName}
use Rattle.tape_run.specs.declared.script.Step.TheVariants.{Reel, Save, Restart}

-- ---- images one after another

-- turns, mounts, and where these lead
pub record CasesOfTurns : Type 0 where
  pub no_turn : (a : Option (List ℕ)) (o : Opened) → (IsTurn (λ r. r) (Some a) None → ⊥)
      × (IsTurn (λ (r : Option (List ℕ)). r) None (Some o) → ⊥)
  pub a_turn : (a : Option (List ℕ)) (o : Opened) → IsTurn (λ r. r) (Some a) (Some o) → o.had ≡ a
  pub left_known : (a b : List ℕ) (o : Opened) → o.had ≡ Some a → o.left ≡ Some b
      → IsTurn (λ r. r) (Some (Some a)) (Some o)
  pub not_there : IsTurn (λ (r : Option (List ℕ)). r) None None
  -- readers in a list are used in order, each once
  pub took : (a b c d : Option (Option (List ℕ))) → Took (a ∷ b ∷ []) 1 c (d ∷ None ∷ [])
      → (c ≡ b) × (d ≡ a)
  pub took_none : (a : Option (Option (List ℕ))) → Took [] 0 a [] → a ≡ None
  pub none_mounted : (shelf left : List (Option (Option (List ℕ))))
      → AreTurns Took (λ r. r) shelf 0 [] left → left ≡ shelf
  pub two_mounted : (a b : Option (Option (List ℕ))) (s t : Turn)
      (left : List (Option (Option (List ℕ))))
      → AreTurns Took (λ r. r) (a ∷ b ∷ []) 0 (s ∷ t ∷ []) left
      → IsTurn (λ r. r) a s × IsTurn (λ r. r) b t × (left ≡ None ∷ None ∷ [])
  -- at a fault at most one more image has been opened
  pub one_more : (a b c : Option (Option (List ℕ))) (left : List (Option (Option (List ℕ))))
      → AreFirstTurns Took (λ r. r) (a ∷ b ∷ []) [] c left
      → ((c ≡ None) × (left ≡ a ∷ b ∷ [])) ⊎ ((c ≡ a) × (left ≡ None ∷ b ∷ []))
  pub first_turn : (a b c : Option (Option (List ℕ))) (t : Turn)
      (left : List (Option (Option (List ℕ))))
      → AreFirstTurns Took (λ r. r) (a ∷ b ∷ []) (t ∷ []) c left → IsTurn (λ r. r) a t
      × ((left ≡ None ∷ b ∷ []) ⊎ (left ≡ None ∷ None ∷ []))
  -- a reel with a wrong count is suspect, also if an earlier one had it; then nothing is saved
  pub doubtful : counts_differ (Useless (BlockCount 3 4)) ≡ true
  pub broken : counts_differ (Useless Broken) ≡ true
  pub sure : (counts_differ SectionDone ≡ false) × (counts_differ (Useless BadItem) ≡ false)
  pub not_noted : (spares noted : Bool) (old new : Seen) → IsNoted false spares true noted old new
      → new ≡ old
  pub is_noted : (back spares : Bool) (old new : Seen) → IsNoted back spares false true old new
      → Saved old new
  -- a session that does not spare checkpoints makes one each time, and one that does never makes
  -- two at the same position
  pub noted_each_time : (back : Bool) (old new : Seen) → IsNoted back false false false old new → ⊥
  pub noted_before : (back : Bool) (old new : Seen) (c : Point) → old.notes ≡ c ∷ []
      → IsNoted back true false false old new
      → (new ≡ old) × (c ≡ saved old.place (weight_of old.parts))
  pub noted_anew : (back : Bool) (old new : Seen) (c : Point) → old.notes ≡ c ∷ []
      → c ≡ saved old.place (weight_of old.parts) → IsNoted back true false true old new → ⊥
  -- a session with a checkpoint then rolls back to the last one
  pub has_note : (c : Point) → (goes_back [] ≡ false) × (goes_back (c ∷ []) ≡ true)
  pub went_to_last : (old new : Seen) (c d : Point) → old.notes ≡ c ∷ d ∷ []
      → IsNoted true false true false old new → WentBack 1 old new
  pub its_own_notes : (s : Seen) → IsKeptFor true s → IsKept s
  -- a refused save or rollback leaves a session unmoved, and one that does not roll back is never
  -- refused that
  pub not_saved : (back : Bool) (cause : SinkFault) (old new : Seen)
      → NotNoted back false (Sink cause) old new → Unmoved old new
  pub not_back : (cause : SinkFault) (old new : Seen) → NotNoted true true (Sink cause) old new
      → Unmoved old new
  pub no_point : (old new : Seen) (c : Point) → old.notes ≡ c ∷ []
      → NotNoted true true NoSuchPoint old new → ⊥
  pub not_asked : (fault : RunFault) (old new : Seen) → NotNoted false true fault old new → ⊥
  -- so without memory no reel changes the checkpoints; a write fails only after a reel
  pub stopped_in_reel : (bytes : List ℕ) (old new : Seen)
      → StopsAt (λ (r : Option (List ℕ)). r) false false old (Some (Some bytes))
      (Run OutOfMemory) new
      → new.notes ≡ old.notes
  pub stopped_behind : (bytes : List ℕ) (old new : Seen)
      → StopsAt (λ (r : Option (List ℕ)). r) false false old (Some (Some bytes)) WriteFailed new → ⊥
  -- as steps: each reel is followed by a save if a checkpoint was made, by nothing if the reel is
  -- suspect, or by the rollback
  pub steps_behind : (step_behind true false true 2 ≡ Save ∷ [])
      × (step_behind true false false 2 ≡ []) × (step_behind false true false 2 ≡ [])
      × (step_behind true true false 2 ≡ Restart 1 ∷ []) × (step_behind true true false 0 ≡ [])
  pub counted : (notes_behind false true 2 ≡ 3) × (notes_behind false false 2 ≡ 2)
      × (notes_behind true false 2 ≡ 2)
  pub steps : (o p : Opened) → steps_of true 2 (None ∷ Some o ∷ Some p ∷ [])
      ≡ Reel ∷ step_behind true o.suspect o.noted 2
      ++ (Reel ∷ step_behind true p.suspect p.noted (notes_behind o.suspect o.noted 2) ++ [])
  pub by_its_line : (back : Bool) (o : Opened) (b : List ℕ) (old new : Seen) → o.had ≡ Some b
      → AreSteps back (None ∷ Some o ∷ []) old new
      → (run : HasRun old (steps_of back (length old.notes) (Some o ∷ [])) (b ∷ []) (o.left ∷ [])
      new)
      × (run.which ≡ is_device o.answer.fault ∷ [])
  pub told : (o : Opened) (b : List ℕ) → AreTold (None ∷ Some o ∷ []) (b ∷ []) → o.had ≡ Some b
  pub none_told : (o : Opened) → AreTold (Some o ∷ []) [] → ⊥
  pub told_alone : (b : List ℕ) → AreTold (None ∷ []) (b ∷ []) → ⊥
  pub reel_read : (back spares : Bool) (core next : State) (old new : Seen) (o : Opened)
      (r : ReadsAndNotes back spares core old o next new) → (core.position ≢ Finished)
      × IfKnown o.had o.left (λ bytes left. Reads old.wide core.position core
      (mount_of core) bytes left
      o.answer r.behind) × (new.place ≡ rest_of next)
  pub waits : (back spares : Bool) (core last : State) (old new : Seen)
      → Follows back spares core old (None ∷ []) last new
      → (core.position ≢ Finished) × (last ≡ core) × (new ≡ old)

-- ---- the records written and the lines reported

-- a session whose sink is the list of its parts, and images and writers that consist of known bytes
abbrev pub Listed : Type 0
Listed = SessionState (List Portion)

-- a list in place of a sink's parts: it has no weight, and nothing survives a crash
abbrev pub as_sink : Ghosts (List Portion)
as_sink = record {
  holds = λ s ps. s ≡ ps;
  weighs = λ s. 0;
  refusals = λ s. 0;
  refuses_change = λ old fault new. ⊥;
  crashes = λ s. lost;
}

abbrev pub Known : Type 0
Known = Option (List ℕ)

-- images, each of which is used once
abbrev pub Readers : Type 0
Readers = List (Option Known)

-- what `extract` promises for these
abbrev pub ExtractsListed : Listed → Listed → Readers → Readers → Form → Known → Known → Known
    → Known → Option Want → Type 0
ExtractsListed session behind shelf left form out written said says want =
    Extracts as_sink length Took (λ r. r) (goes_back session.notes) false session behind shelf left
    (IsWritten form out written) said says want

abbrev pub StopsListed : Listed → Listed → Readers → Readers → Form → Known → Known → Known
    → Known → Type 0
StopsListed session behind shelf left form out written said says =
    Stops as_sink length Took (λ r. r) (goes_back session.notes) false session behind shelf left
    (LeavesOutput form (λ w. w) out written) said says WriteFailed

abbrev pub ExtractsListedNow : Listed → Readers → Readers → Form → Known → Known → Known
    → Option Want → Type 0
ExtractsListedNow session shelf left form stands said says want =
    Extracts as_sink length Took (λ r. r) false false session session shelf left
    (IsPut form ⊤ stands) said says want

abbrev pub StopsListedNow : Listed → Readers → Readers → Form → Known → Known → Known → Known
    → Type 0
StopsListedNow session shelf left form out put said says =
    Stops as_sink length Took (λ r. r) false false session session shelf left
    (LeavesName form ⊤ (λ o. o) out put) said says WriteFailed

-- of what was written
pub record CasesOfOutputs : Type 0 where
  -- if nothing is missing the records were written, and counted
  pub written : (records : ℕ) (form : Form) (out now : Known) (parts : List Portion)
      → IsWritten form out now None records parts
      → (records ≡ length (join parts).records) × Appends out now (output_of form parts)
  pub put : (records : ℕ) (form : Form) (stands : Known) (parts : List Portion)
      → IsPut form ⊤ stands None records parts
      → (records ≡ length (join parts).records) × (stands ≡ Some (output_of form parts))
  -- the missing part is the one that the session needs at the position where its images led it
  pub ends : (spares : Bool) (first : State) (old : Seen) (turns : List Turn) (want : Option Want)
      (records : ℕ) (form : Form) (out now : Known)
      (e : Ends (goes_back old.notes) spares first old turns want
      (IsWritten form out now want records))
      → (want ≡ want_at e.now.place.file e.now.place.position)
      × AreSteps (goes_back old.notes) turns old e.now
      × Follows (goes_back old.notes) spares first old turns e.last e.now
      × IsWritten form out now want records e.now.parts
  pub ends_now : (first : State) (old : Seen) (turns : List Turn) (want : Option Want)
      (records : ℕ) (form : Form) (stands : Known)
      (e : Ends false false first old turns want (IsPut form ⊤ stands want records))
      → (want ≡ want_at e.now.place.file e.now.place.position) × AreSteps false turns old e.now
      × Follows false false first old turns e.last e.now
      × IsPut form ⊤ stands want records e.now.parts
  -- images are left unread only if nothing is missing, and each that was read has a line
  pub left_unread : (session behind : Listed) (shelf left : Readers) (form : Form)
      (out now said says : Known) (want : Option Want)
      (e : ExtractsListed session behind shelf left form out now said says want)
      → (length e.turns ≤ length shelf) × (length e.turns < length shelf → want ≡ None)
  pub lines : (session behind : Listed) (shelf left : Readers) (form : Form)
      (out now said says : Known) (want : Option Want)
      (e : ExtractsListed session behind shelf left form out now said says want)
      → Appends said says (reel_lines 1 (map answer_of e.turns) ++ last_line want e.records)
      × AreTurns Took (λ r. r) shelf 0 e.turns left
  -- the remaining session is where its images led it, with the parts that were written
  pub left_there : (session behind : Listed) (shelf left : Readers) (form : Form)
      (out now said says : Known) (want : Option Want) → session.notes ≡ []
      → ExtractsListed session behind shelf left form out now said says want
      → (want ≡ want_at behind.core.file behind.core.position)
      × ((records : ℕ) × IsWritten form out now want records behind.sink)
  pub left_unread_now : (session : Listed) (shelf left : Readers) (form : Form)
      (stands said says : Known) (want : Option Want)
      (e : ExtractsListedNow session shelf left form stands said says want)
      → (length e.turns ≤ length shelf) × (length e.turns < length shelf → want ≡ None)
  pub lines_now : (session : Listed) (shelf left : Readers) (form : Form)
      (stands said says : Known) (want : Option Want)
      (e : ExtractsListedNow session shelf left form stands said says want)
      → Appends said says (reel_lines 1 (map answer_of e.turns) ++ last_line want e.records)
      × AreTurns Took (λ r. r) shelf 0 e.turns left
  pub ends_as_told : (session : Listed) (shelf left : Readers) (form : Form)
      (stands said says : Known) (want : Option Want)
      (e : ExtractsListedNow session shelf left form stands said says want)
      → Ends false false session.core (seen as_sink session session.sink) e.turns want
      (IsPut form ⊤ stands want e.records)
  -- at a fault only the images that were read and saved are reported
  pub only_turns_told : (session behind : Listed) (shelf left : Readers) (form : Form)
      (out now said says : Known)
      (s : StopsListed session behind shelf left form out now said says)
      → AppendsFront said says
      (reel_lines 1 (map answer_of s.turns) ++ last_line s.want s.records)
  -- the last line, if any of it was reported, describes the session
  pub last_line_tells : (p : Seen) (want : Option Want) (records : ℕ)
      → p.place.position ≡ Finished → TellsEnd ⊥ want records p
      → (want ≡ None) × (records ≡ length (join p.parts).records)
  pub less_was_told : (p : Seen) (want : Option Want) (records : ℕ) → TellsEnd ⊤ want records p
  pub last_line_of : (session behind : Listed) (shelf left : Readers) (form : Form)
      (out now said says : Known) → session.notes ≡ []
      → (s : StopsListed session behind shelf left form out now said says)
      → (p : Seen) × TellsEnd (AppendsFront said says
      (reel_lines 1 (map answer_of s.turns))) s.want s.records p
      × ((now ≡ out) ⊎ (p.place.position ≡ Finished))
  pub last_line_of_now : (session : Listed) (shelf left : Readers) (form : Form)
      (out now said says : Known)
      (s : StopsListedNow session shelf left form out now said says)
      → (p : Seen) × TellsEnd (AppendsFront said says
      (reel_lines 1 (map answer_of s.turns))) s.want s.records p
      × ((now ≡ out) ⊎ (p.place.position ≡ Finished))
  pub only_turns_told_now : (session : Listed) (shelf left : Readers) (form : Form)
      (out now said says : Known)
      (s : StopsListedNow session shelf left form out now said says)
      → AppendsFront said says
      (reel_lines 1 (map answer_of s.turns) ++ last_line s.want s.records)
  -- if no image was open, the sink contains the same parts
  pub stopped_there : (s behind : Listed) (now : Seen) (fault : EngineFault)
      → IsStopped as_sink (λ (r : Known). r) false false now None fault behind
      → behind.sink ≡ now.parts
  -- these are turns of the first images
  pub stopped_turns : (session behind : Listed) (shelf left : Readers) (form : Form)
      (out now said says : Known) (s : StopsListed session behind shelf left form out now said says)
      → (length s.turns ≤ length shelf)
      × AreFirstTurns Took (λ r. r) shelf s.turns s.image left
  pub stopped_turns_now : (session : Listed) (shelf left : Readers) (form : Form)
      (out now said says : Known) (s : StopsListedNow session shelf left form out now said says)
      → (length s.turns ≤ length shelf)
      × AreFirstTurns Took (λ r. r) shelf s.turns s.image left
  -- and the output was not touched, or the file is complete and a prefix of its records was written
  pub output_stopped : (session behind : Listed) (shelf left : Readers) (form : Form)
      (out now said says : Known)
      → session.notes ≡ [] → StopsListed session behind shelf left form out now said says
      → (now ≡ out)
      ⊎ ((s : Seen) × (s.place.position ≡ Finished) × AppendsFront out now (output_of form s.parts))
  pub output_stopped_now : (session : Listed) (shelf left : Readers) (form : Form)
      (out now said says : Known)
      → StopsListedNow session shelf left form out now said says → (now ≡ out)
      ⊎ ((s : Seen) × (s.place.position ≡ Finished) × (now ≡ Some (output_of form s.parts)))
  -- if more than the lines of the reels was reported, and nothing is missing, the name has the
  -- records
  pub complete_is_named : (session : Listed) (shelf left : Readers) (form : Form)
      (out now said says : Known) (s : StopsListedNow session shelf left form out now said says)
      → s.want ≡ None → (AppendsFront said says (reel_lines 1 (map answer_of s.turns)) → ⊥)
      → (p : Seen) × (now ≡ Some (output_of form p.parts))
  -- the parts that a sink that writes them has received
  pub taken : (form : Form) (out : Option Known) (held : List ℕ) (weight records : ℕ)
      (begun : Bool) (parts : List Portion)
      → HasTaken (λ (w : Known). w) form out held weight records begun parts
      → (weight ≡ weight_of parts) × (records ≡ length (join parts).records)
  pub taken_text : (form : Form) (out : Option Known) (held : List ℕ) (weight records : ℕ)
      (begun : Bool) (parts : List Portion)
      → HasTaken (λ (w : Known). w) form out held weight records begun parts
      → (begun ≡ is_some (join parts).rest)
      × (TellsAlways (λ (w : Known). w) → IsText (λ (w : Known). w) (text_so_far form parts) out)
  -- the bytes of an unfinished record are written, except in the counted form, where they are held
  -- back until its length is known
  pub held_back : (form : Form) (out : Option Known) (held : List ℕ) (weight records : ℕ)
      (begun : Bool) → HasTaken (λ (w : Known). w) form out held weight records begun
      (record { span = First; bytes = codes "AB" } ∷ []) → held ≡ held_of (Some (codes "AB")) form
  pub shares : (sent_of (Some (codes "AB")) Lines ≡ codes "AB")
      × (held_of (Some (codes "AB")) Raw ≡ []) × (sent_of (Some (codes "AB")) Counted ≡ [])
      × (held_of (Some (codes "AB")) Counted ≡ codes "AB")
  pub text : (known : List ℕ) → IsText (λ (w : Known). w) (7 ∷ []) (Some (Some known))
      → known ≡ 7 ∷ []
  pub no_writer : IsText (λ (w : Known). w) (7 ∷ []) None
  -- a writer that consists of its bytes always knows them, and one with unknown bytes does not
  pub tells : TellsAlways (λ (w : List ℕ). Some w)
  pub tells_nothing : TellsAlways {W = List ℕ} (λ w. None) → ⊥
  pub ended : (with_end true 3 ≡ 3) × (with_end false 3 ≡ 4)
  -- a change is refused with Device by the write that failed first, which alone takes the writer
  -- away, with Full if a part would be too heavy, and for lack of memory only in the counted form
  pub write_refused : (form : Form) (works still : Bool) (weight : ℕ)
      → RefusesText form works weight sink.Device still → (works ≡ true) × (still ≡ false)
  pub not_heavy : (form : Form) (works still : Bool) → RefusesText form works 5 sink.Full still → ⊥
  pub heavy : RefusesText Lines true 999999999999999 sink.Full true
  pub refused_later : (form : Form) (works : Bool) (weight : ℕ)
      → RefusesText form works weight sink.Failed works
  pub writer_kept : (form : Form) (still : Bool)
      → (RefusesText form true 3 sink.Full still → still ≡ true)
      × (RefusesText form true 3 sink.Failed still → still ≡ true)
      × (RefusesText form true 3 sink.OutOfMemory still → still ≡ true)
  pub no_memory_taken : (works still : Bool) (weight : ℕ)
      → (RefusesText Lines works weight sink.OutOfMemory still → ⊥)
      × (RefusesText Raw works weight sink.OutOfMemory still → ⊥)
