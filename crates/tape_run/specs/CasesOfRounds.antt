-- Examples for the definitions of passes. They are the contract of the call `laws::cases`.
use Rattle.std.specs.Prelude.{◌≡◌, ◌≢◌, ◌⊎◌, ◌<◌, ◌≤◌, List, [], ◌∷◌, ◌++◌, length, map, Option}
use Rattle.std.specs.{Prelude.Some, Prelude.None, Prelude.Bool, Prelude.true, Io.KnownBytes.Appends}
use Rattle.tape_blocks.specs.declared.parts.Form.{Form}
use Rattle.tape_set.specs.declared.position.Position.TheVariants.{Awaits, Finished}
use Rattle.tape_set.specs.declared.position.Want.{Want}
use Rattle.tape_core.specs.State.{State}
use Rattle.tape_run.specs.Reeling.{Turn, answer_of, AreTurns, AreFirstTurns, Follows, Took}
use Rattle.tape_run.specs.Rounds.{Round, turns_of, core_behind, wanted, AreRounds, MadeProgress}
use Rattle.tape_run.specs.CasesOfExtracts.{Listed, as_sink, Known, Readers, StopsListed}
use Rattle.tape_run.specs.Extracting.{Ends, EndsFile, StopsAtEnd, IsWritten, TellsEnd, Extracts}
use Rattle.tape_run.specs.Extracting.{Stops, LeavesOutput}
use Rattle.tape_run.specs.{RecordText.output_of, ReelLine.reel_lines, ReelLine.last_line}
use Rattle.tape_run.specs.{Reeling.IsKeptFor, Reeling.goes_back, Seen.Seen, Seen.seen}
use Rattle.tape_run.specs.Rounds.{IsEnough, FollowsRounds, GoesRound}
use Rattle.tape_run.specs.declared.fault.EngineFault.TheVariants.{WriteFailed}
use Rattle.tape_image.specs.Written.{AppendsFront}

-- what `extract` promises for passes over readers in a list
abbrev pub AgainListed : Listed → Listed → Readers → Readers → Form → Known → Known → Known → Known
    → Option Want → Type 0
AgainListed session behind shelf left form out written said says want =
    Extracts as_sink length Took (λ r. r) (goes_back session.notes) true session behind shelf left
    (IsWritten form out written) said says want

abbrev pub StopsAgainListed : Listed → Listed → Readers → Readers → Form → Known → Known → Known
    → Known → Type 0
StopsAgainListed session behind shelf left form out written said says =
    Stops as_sink length Took (λ r. r) (goes_back session.notes) true session behind shelf left
    (LeavesOutput form (λ w. w) out written) said says WriteFailed

-- of passes
pub record CasesOfRounds : Type 0 where
  -- two passes are one sequence of turns, and lead to where the second one ends
  pub two_rounds : (a b : List Turn) (p q core : State)
      → (turns_of (record { turns = a; behind = p } ∷ record { turns = b; behind = q } ∷ [])
      ≡ a ++ (b ++ []))
      × (core_behind core (record { turns = a; behind = p } ∷ record { turns = b; behind = q }
      ∷ []) ≡ q)
  pub none_made : (core : State) → (turns_of [] ≡ []) × (core_behind core [] ≡ core)
  pub is_wanted : (core : State) → core.position ≡ Awaits 1 2 0
      → wanted core ≡ Some (record { file = core.file; sect = 1; block = 2; part = 0 })
  pub nothing_wanted : (core : State) → core.position ≡ Finished → wanted core ≡ None
  -- each pass begins with the first image of the source that the previous pass left
  pub each_from_the_first : (a b : Option Known) (s t : Turn) (p q : State)
      (left : Readers)
      → AreRounds Took (λ r. r) (a ∷ b ∷ []) (record { turns = s ∷ []; behind = p }
      ∷ record { turns = t ∷ []; behind = q } ∷ []) left
      → (mid : Readers) × AreTurns Took (λ r. r) (a ∷ b ∷ []) 0 (s ∷ []) mid
      × AreTurns Took (λ r. r) mid 0 (t ∷ []) left
  -- a pass followed by another read all images, and recovered something but not the rest of the
  -- file
  pub brought : (turns : List Turn) (core behind : State)
      → MadeProgress 3 core (record { turns = turns; behind = behind } ∷ [])
      → (length turns ≡ 3) × (wanted behind ≢ None) × (wanted behind ≢ wanted core)
  pub brought_twice : (a b : List Turn) (core p q : State)
      → MadeProgress 3 core (record { turns = a; behind = p }
      ∷ record { turns = b; behind = q } ∷ []) → (length b ≡ 3) × (wanted q ≢ wanted p)
  -- passes end if nothing is missing, or if nothing more was recovered
  pub enough : (before want : Option Want) → IsEnough 3 6 before want
      → (want ≡ None) ⊎ (want ≡ before)
  pub complete_is_enough : (before : Option Want) → IsEnough 3 6 before None
  pub nothing_new_is_enough : (want : Option Want) → IsEnough 3 6 want want
  pub goes_two_rounds : (back : Bool) (core last : State) (old new : Seen) (r : Round)
      (turns : List Turn) → GoesRound back true core old (r ∷ []) turns last new
      → (mid : Seen) × Follows back true core old r.turns r.behind mid
      × Follows back true r.behind mid turns last new
  pub follows_none : (back : Bool) (core : State) (old new : Seen)
      → FollowsRounds back true core old [] new → new ≡ old
  -- the last line and the written records are those of the session
  pub file_ended : (session : Listed) (form : Form) (out now said says : Known)
      (want : Option Want) (e : EndsFile as_sink session (IsWritten form out now) said says want)
      → (want ≡ wanted session.core) × Appends said says (last_line want e.records)
      × IsWritten form out now want e.records session.sink
  pub file_stopped : (session : Listed) (form : Form) (out now said says : Known)
      (s : StopsAtEnd as_sink session (LeavesOutput form (λ w. w) out now) said says
      WriteFailed)
      → AppendsFront said says (last_line s.want s.records)
      × TellsEnd (AppendsFront said says []) s.want s.records (seen as_sink session session.sink)
      × (((now ≡ out) × (AppendsFront said says [] ⊎ (s.want ≢ None)))
      ⊎ ((session.core.position ≡ Finished)
      × ((AppendsFront out now (output_of form session.sink) × AppendsFront said says [])
      ⊎ Appends out now (output_of form session.sink))))
  -- if anything of a last line was reported that says that nothing is missing, the records were
  -- written
  pub complete_is_written : (session behind : Listed) (shelf left : Readers) (form : Form)
      (out now said says : Known) (s : StopsListed session behind shelf left form out now said says)
      → IsKeptFor (goes_back session.notes) (seen as_sink session session.sink)
      → s.want ≡ None → (AppendsFront said says (reel_lines 1 (map answer_of s.turns)) → ⊥)
      → (p : Seen) × Appends out now (output_of form p.parts)
  -- the lines are those of all passes, numbered continuously
  pub again : (session behind : Listed) (shelf left : Readers) (form : Form)
      (out now said says : Known) (want : Option Want)
      (e : AgainListed session behind shelf left form out now said says want)
      → Appends said says
      (reel_lines 1 (map answer_of (turns_of e.rounds ++ e.turns)) ++ last_line want e.records)
      × AreRounds Took (λ r. r) shelf e.rounds e.between
      × AreTurns Took (λ r. r) e.between 0 e.turns left
      × MadeProgress (length shelf) session.core e.rounds
  pub again_left : (session behind : Listed) (shelf left : Readers) (form : Form)
      (out now said says : Known) (want : Option Want)
      (e : AgainListed session behind shelf left form out now said says want)
      → (length e.turns ≤ length shelf) × (length e.turns < length shelf → want ≡ None)
      × IsEnough (length shelf) (length (turns_of e.rounds))
      (wanted (core_behind session.core e.rounds)) want
  -- over all passes the session ended as it would over one sequence of images
  pub again_ends : (session behind : Listed) (shelf left : Readers) (form : Form)
      (out now said says : Known) (want : Option Want)
      (e : AgainListed session behind shelf left form out now said says want)
      → IsKeptFor (goes_back session.notes)
      (seen as_sink session session.sink)
      → (x : Ends (goes_back session.notes) true session.core (seen as_sink session session.sink)
      (turns_of e.rounds ++ e.turns) want (IsWritten form out now want e.records))
      × GoesRound (goes_back session.notes) true session.core
      (seen as_sink session session.sink) e.rounds e.turns x.last x.now
      × (x.now ≡ seen as_sink behind behind.sink)
  pub again_stopped : (session behind : Listed) (shelf left : Readers) (form : Form)
      (out now said says : Known)
      (s : StopsAgainListed session behind shelf left form out now said says)
      → (length s.turns ≤ length shelf)
      × AreRounds Took (λ r. r) shelf s.rounds s.between
      × AreFirstTurns Took (λ r. r) s.between s.turns s.image left
      × MadeProgress (length shelf) session.core s.rounds
      × AppendsFront said says
      (reel_lines 1 (map answer_of (turns_of s.rounds ++ s.turns))
      ++ last_line s.want s.records)
  -- and the output was not touched, or the file is complete and a prefix of its records was
  -- written: all of them if anything of a last line was reported that says so
  pub again_output : (session behind : Listed) (shelf left : Readers) (form : Form)
      (out now said says : Known)
      (s : StopsAgainListed session behind shelf left form out now said says)
      → IsKeptFor (goes_back session.notes)
      (seen as_sink session session.sink)
      → (last : State) × (x : Seen) × GoesRound (goes_back session.notes) true session.core
      (seen as_sink session session.sink) s.rounds s.turns last x
      × TellsEnd (AppendsFront said says (reel_lines 1
      (map answer_of (turns_of s.rounds ++ s.turns)))) s.want s.records x
      × (((now ≡ out) × (AppendsFront said says (reel_lines 1
      (map answer_of (turns_of s.rounds ++ s.turns))) ⊎ (s.want ≢ None)))
      ⊎ ((x.place.position ≡ Finished) × ((AppendsFront out now (output_of form x.parts)
      × AppendsFront said says (reel_lines 1 (map answer_of (turns_of s.rounds ++ s.turns))))
      ⊎ Appends out now (output_of form x.parts))))
