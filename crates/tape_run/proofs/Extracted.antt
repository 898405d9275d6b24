-- The result if all images were read, or if a fault ended the run.
use Rattle.std.proofs.Common.{◌≡◌, ◌⊎◌, Bool, ℕ, ◌<◌, ◌≤◌, List, [], ◌++◌, Option, append-nil, None}
use Rattle.std.proofs.Common.{length, refl, sym, ap, subst, ◌∙◌, inl, inr, true}
use Rattle.std.proofs.{KnownBytes.Appends-trans, Math.Nat.eq-or-lt_of_le}
use Rattle.std.specs.Io.KnownBytes.{Appends}
use Rattle.tape_blocks.specs.Block.{Portion}
use Rattle.tape_set.specs.{declared.position.Position.Position, declared.position.Want.Want}
use Rattle.tape_set.specs.declared.position.Position.TheVariants.{Awaits, Finished}
use Rattle.tape_set.specs.Position.{want_at}
use Rattle.tape_core.specs.{declared.sink.PartSink.Ghosts, State.State}
use Rattle.tape_run.specs.{Crash.IsWalked, Seen.Seen, Seen.seen, SessionState.SessionState}
use Rattle.tape_run.specs.Rounds.{Round, turns_of, core_behind, wanted, IsEnough, FollowsRounds}
use Rattle.tape_run.specs.Rounds.{TakesRounds, StopsInRound}
use Rattle.tape_run.specs.{ReelLine.last_line, Reeling.Turn, Reeling.Follows, Reeling.Mounting}
use Rattle.tape_run.specs.declared.fault.EngineFault.{EngineFault}
use Rattle.tape_run.specs.Extracting.{Extracts, Stops, EndsFile, StopsAtEnd, TellsEnd, Leaves}
use Rattle.tape_image.specs.Written.{AppendsFront}
use Rattle.tape_image.proofs.Pieces.{front_more, front_behind}
use Rattle.tape_run.proofs.{Lasting.last_then, Lasting.stood_walked, Left.left_walked}
use Rattle.tape_run.proofs.{Left.left_behind, StoppedThere.stopped_walked, TurnSteps.are_steps}
use Rattle.tape_run.proofs.{Turns.follows_then, Rounds.all_turns}
use Rattle.tape_run.proofs.Rounds.{lines_of_all, front_of_all}

-- complete passes and the turns of a last one, as one sequence of turns
in_a_row : (back spares : Bool) (core : State) (old : Seen) (rounds : List Round) (mid : Seen)
    (turns : List Turn) (last : State) (new : Seen) → FollowsRounds back spares core old rounds mid
    → Follows back spares (core_behind core rounds) mid turns last new
    → Follows back spares core old (turns_of rounds ++ turns) last new
in_a_row back spares core old rounds mid turns last new f g =
    follows_then back spares core old (turns_of rounds) (core_behind core rounds) mid turns last new
    (all_turns back spares core old rounds mid f) g

pub extracted : {S L R : Type 0} (gs : Ghosts S) (size : L → ℕ) (gives : Mounting L R)
    (remaining : R → Option (List ℕ)) (old mid new : SessionState S) (shelf left : L)
    (output : Option Want → ℕ → List Portion → Type 0) (said between says : Option (List ℕ))
    (want : Option Want) (goes back again : Bool) → goes ≡ back
    → TakesRounds gs (size shelf) gives remaining goes again old mid shelf left said between
    → EndsFile gs mid output between says want
    → IsWalked gs mid new → gs.refusals new.sink ≡ gs.refusals mid.sink
    → Extracts gs size gives remaining back again old new shelf left output said says want
extracted {S} {L} {R} gs size gives remaining old mid new shelf left output said between says want
    goes back again same took e walked calm =
    let t = subst (λ b. TakesRounds gs (size shelf) gives remaining b again old mid shelf left said
    between) same took in
    record {
      rounds = t.rounds;
      between = t.between;
      are_rounds = t.gone.are_rounds;
      brought = t.gone.brought;
      once = t.gone.once;
      turns = t.last.turns;
      are_turns = t.last.are_turns;
      most = t.last.most;
      all = λ less. e.wanted ∙ ap (want_at mid.core.file) (t.last.all less);
      enough = λ more. subst (IsEnough (size shelf) (length (turns_of t.rounds))
          (wanted (core_behind old.core t.rounds))) (sym e.wanted)
          (subst (λ c. IsEnough (size shelf) (length (turns_of t.rounds)) (wanted c)
          (wanted mid.core)) t.gone.at (t.enough more));
      records = e.records;
      lines = Appends-trans said between says _ _
          (lines_of_all said t.told between (turns_of t.rounds) t.last.turns t.gone.lines
          t.last.lines) e.line;
      ends = λ held was kept.
          let (before, has, (still, f, first)) = t.gone.follows held was kept in
          let (now, has_now, (then, one, last)) = t.last.follows before has still in
          let start = seen gs old held in
          let g = subst (λ c. Follows back again c (seen gs t.mid before) t.last.turns mid.core
          (seen gs mid now)) t.gone.at one in
          let all = in_a_row back again old.core start t.rounds (seen gs t.mid before) t.last.turns
          mid.core (seen gs mid now) f g in (
            record {
              last = mid.core;
              now = seen gs mid now;
              follows = all;
              are_steps = are_steps back again old.core start (turns_of t.rounds ++ t.last.turns)
                  mid.core (seen gs mid now) all;
              wanted = e.wanted;
              is_written = e.is_written now has_now;
            },
            (seen gs t.mid before, f, g),
            stood_walked gs old mid new held now has_now
                (last_then gs old t.mid mid held before now first last) walked calm,
          );
    }

pub stops_reading : {S L R : Type 0} (gs : Ghosts S) (size : L → ℕ) (gives : Mounting L R)
    (remaining : R → Option (List ℕ)) (old new : SessionState S) (shelf left : L)
    (leaves : Type 0 → Option Want → Seen → Type 0) (said says : Option (List ℕ))
    (goes back again : Bool) (fault : EngineFault) → goes ≡ back
    → StopsInRound gs (size shelf) gives remaining goes again old new shelf left said says fault
    → ((less : Type 0) (now : Seen) → less → leaves less None now)
    → Stops gs size gives remaining back again old new shelf left leaves said says fault
stops_reading {S} {L} {R} gs size gives remaining old new shelf left leaves said says goes back
    again fault same stopped untouched =
    let s = subst (λ b. StopsInRound gs (size shelf) gives remaining b again old new shelf left said
    says fault) same stopped in
    let lines = front_of_all said s.told says (turns_of s.rounds) s.last.turns s.gone.lines
    s.last.lines in
    record {
      rounds = s.rounds;
      between = s.between;
      are_rounds = s.gone.are_rounds;
      brought = s.gone.brought;
      once = s.gone.once;
      turns = s.last.turns;
      image = s.last.image;
      are_turns = s.last.are_turns;
      most = s.last.most;
      no_more = s.last.no_more;
      want = None;
      ended = inl lines;
      records = 0;
      lines = front_more said says _ (last_line None 0) lines;
      told = λ other. lines_of_all said s.told says (turns_of s.rounds) s.last.turns s.gone.lines
          (s.last.told other);
      follows = λ held was kept.
          let (mid, has, (still, f, before)) = s.gone.follows held was kept in
          let (core, now, one, stood, stopped) = s.last.follows mid has still in (
            core,
            now,
            (
              seen gs s.mid mid,
              f,
              subst (λ c. Follows back again c (seen gs s.mid mid) s.last.turns core now) s.gone.at
                  one,
            ),
            (left_behind gs _ old s.mid new held mid now before stood, stopped),
            inl lines,
            untouched _ now lines,
          );
    }

-- after the lines of all images, nothing of the last line
pub less_then : (said between says : Option (List ℕ)) (lines : List ℕ) → Appends said between lines
    → AppendsFront between says [] → AppendsFront said says lines
less_then said between says lines before none = subst (AppendsFront said says) (append-nil lines)
    (front_behind said between says lines [] before none)

-- less of the report also means less of a longer one
pub leaves_more : (less more : Type 0) (want : Option Want) (untouched finished some all : Type 0)
    → (less → more) → Leaves less want untouched finished some all
    → Leaves more want untouched finished some all
leaves_more less more want untouched finished some all f (inl (same, inl none)) =
    inl (same, inl (f none))
leaves_more less more want untouched finished some all f (inl (same, inr wanted)) =
    inl (same, inr wanted)
leaves_more less more want untouched finished some all f (inr (done, inl (part, none))) =
    inr (done, inl (part, f none))
leaves_more less more want untouched finished some all f (inr (done, inr wrote)) =
    inr (done, inr wrote)

-- all images precede the last line, unless it says that the file is complete
pub all_read : (size read file : ℕ) (p : Position) (want : Option Want) → read ≤ size
    → (read < size → p ≡ Finished) → want ≡ want_at file p → (read ≡ size) ⊎ (want ≡ None)
all_read size read file p want most ended is = elim (eq-or-lt_of_le most) [
  | inl all ↦ inl all
  | inr less ↦ inr (is ∙ ap (want_at file) (ended less))
]

-- all images of the last pass precede the last line, and no other pass follows
round_then : (again : Bool) (said between says : Option (List ℕ)) (lines : List ℕ)
    (size read before : ℕ) (first : Option Want) (core : State) (want : Option Want)
    → Appends said between lines → read ≤ size → (read < size → core.position ≡ Finished)
    → (again ≡ true → IsEnough size before first (wanted core))
    → AppendsFront between says [] ⊎ (want ≡ wanted core) → AppendsFront said says lines
    ⊎ (((read ≡ size) ⊎ (want ≡ None)) × (again ≡ true → IsEnough size before first want))
round_then again said between says lines size read before first core want told most all enough
    (inl none) =
    inl (less_then said between says lines told none)
round_then again said between says lines size read before first core want told most all enough
    (inr is) =
    inr (
      all_read size read core.file core.position want most all is,
      λ more. subst (IsEnough size before first) (sym is) (enough more),
    )

-- after the lines of all images, nothing more
pub told_then : (said between says : Option (List ℕ)) (lines : List ℕ) → Appends said between lines
    → says ≡ between → Appends said says lines
told_then said between says lines before same =
    subst (λ z. Appends said z lines) (sym same) before

-- after the lines of all images
pub tells_then : (said between says : Option (List ℕ)) (lines : List ℕ) (want : Option Want)
    (records : ℕ) (now : Seen) → Appends said between lines
    → TellsEnd (AppendsFront between says []) want records now
    → TellsEnd (AppendsFront said says lines) want records now
tells_then said between says lines want records now before (inl none) =
    inl (less_then said between says lines before none)
tells_then said between says lines want records now before (inr tells) = inr tells

pub stops_at_end : {S L R : Type 0} (gs : Ghosts S) (size : L → ℕ) (gives : Mounting L R)
    (remaining : R → Option (List ℕ)) (old mid new : SessionState S) (shelf left : L)
    (leaves : Type 0 → Option Want → Seen → Type 0) (said between says : Option (List ℕ))
    (goes back again : Bool) (fault : EngineFault) → goes ≡ back
    → TakesRounds gs (size shelf) gives remaining goes again old mid shelf left said between
    → IsWalked gs mid new → StopsAtEnd gs mid leaves between says fault
    → ((less more : Type 0) (want : Option Want) (now : Seen) → (less → more)
    → leaves less want now → leaves more want now)
    → Stops gs size gives remaining back again old new shelf left leaves said says fault
stops_at_end {S} {L} {R} gs size gives remaining old mid new shelf left leaves said between says
    goes back again fault same took walked e wider =
    let t = subst (λ b. TakesRounds gs (size shelf) gives remaining b again old mid shelf left said
    between) same took in
    let lines = lines_of_all said t.told between (turns_of t.rounds) t.last.turns t.gone.lines
    t.last.lines in
    record {
      rounds = t.rounds;
      between = t.between;
      are_rounds = t.gone.are_rounds;
      brought = t.gone.brought;
      once = t.gone.once;
      turns = t.last.turns;
      image = None;
      are_turns = (left, t.last.are_turns, inl (refl, refl));
      most = t.last.most;
      no_more = λ none. refl;
      want = e.want;
      ended = round_then again said between says _ (size shelf) _ (length (turns_of t.rounds))
          (wanted (core_behind old.core t.rounds)) mid.core e.want lines t.last.most t.last.all
          (λ more. subst (λ c. IsEnough (size shelf) (length (turns_of t.rounds)) (wanted c)
          (wanted mid.core)) t.gone.at (t.enough more)) e.wants;
      records = e.records;
      lines = front_behind said between says _ (last_line e.want e.records) lines e.line;
      told = λ other. told_then said between says _ lines (e.told other);
      follows = λ held was kept.
          let (before, has, (still, f, first)) = t.gone.follows held was kept in
          let (now, has_now, (then, one, last)) = t.last.follows before has still in (
            mid.core,
            seen gs mid now,
            (
              seen gs t.mid before,
              f,
              subst (λ c. Follows back again c (seen gs t.mid before) t.last.turns mid.core
                  (seen gs mid now)) t.gone.at one,
            ),
            (
              left_walked gs back _ old mid new held now
                  (last_then gs old t.mid mid held before now first last) walked has_now,
              stopped_walked gs remaining back again mid new now fault has_now walked,
            ),
            tells_then said between says _ e.want e.records (seen gs mid now) lines
                (e.tells now has_now),
            wider _ _ e.want (seen gs mid now) (less_then said between says _ lines)
                (e.is_written now has_now),
          );
    }

pub none_finished : (file : ℕ) (p : Position) → None ≡ want_at file p → p ≡ Finished
none_finished file (Awaits sect block part) e = absurd (cc)
none_finished file Finished e = refl
