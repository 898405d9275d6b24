-- Images that were read in passes.
use Rattle.std.proofs.Common.{◌≡◌, ◌⊎◌, inl, inr, Bool, ℕ, ◌+◌, ◌<◌, ◌≤◌, List, [], ◌∷◌, ◌++◌}
use Rattle.std.proofs.Common.{length, map, Option, None, refl, sym, ap, subst, ◌∙◌, arith, true}
use Rattle.std.proofs.Common.{append_assoc, append-nil, length-append}
use Rattle.std.proofs.{lemmas.Bool.cases_lt, KnownBytes.Appends-trans, KnownBytes.Appends-nil}
use Rattle.std.specs.{Prelude.◌≢◌, Io.KnownBytes.Appends}
use Rattle.tape_set.specs.{declared.position.Position.TheVariants.Finished, Position.want_at}
use Rattle.tape_set.specs.declared.position.Want.{Want}
use Rattle.tape_core.specs.{declared.sink.PartSink.Ghosts, State.State}
use Rattle.tape_run.specs.Rounds.{Round, turns_of, core_behind, wanted, AreRounds, IsEnough}
use Rattle.tape_run.specs.{Seen.Seen, Seen.seen, SessionState.SessionState, ReelLine.reel_lines}
use Rattle.tape_run.specs.Reeling.{Turn, answer_of, AreTurns, Follows, Mounting, TakesAll}
use Rattle.tape_run.specs.{Stopping.StopsReading, declared.fault.EngineFault.EngineFault}
use Rattle.tape_run.specs.Rounds.{MadeProgress, FollowsRounds, HasGone, TakesRounds, StopsInRound}
use Rattle.tape_image.specs.Written.{AppendsFront}
use Rattle.tape_image.proofs.Pieces.{front_behind}
use Rattle.tape_run.proofs.Lasting.{last_same, last_then}
use Rattle.tape_run.proofs.Turns.{lines_more, follows_then}

-- ---- one more round

turns_push : (rounds : List Round) (r : Round)
    → turns_of (rounds ++ r ∷ []) ≡ turns_of rounds ++ r.turns
turns_push [] r = append-nil r.turns
turns_push (q ∷ rounds) r = ap (λ l. q.turns ++ l) (turns_push rounds r)
    ∙ sym (append_assoc q.turns (turns_of rounds) r.turns)

state_push : (core : State) (rounds : List Round) (r : Round)
    → core_behind core (rounds ++ r ∷ []) ≡ r.behind
state_push core [] r = refl
state_push core (q ∷ rounds) r = state_push q.behind rounds r

rounds_push : {L R : Type 0} (gives : Mounting L R) (remaining : R → Option (List ℕ)) (shelf : L)
    (rounds : List Round) (mid : L) (r : Round) (last : L)
    → AreRounds gives remaining shelf rounds mid → AreTurns gives remaining mid 0 r.turns last
    → AreRounds gives remaining shelf (rounds ++ r ∷ []) last
rounds_push gives remaining shelf [] mid r last same are =
    (last, subst (λ z. AreTurns gives remaining z 0 r.turns last) same are, refl)
rounds_push gives remaining shelf (q ∷ rounds) mid r last (z, first, rest) are =
    (z, first, rounds_push gives remaining z rounds mid r last rest are)

brought_push : (size : ℕ) (core : State) (rounds : List Round) (r : Round)
    → MadeProgress size core rounds → length r.turns ≡ size → wanted r.behind ≢ None
    → wanted r.behind ≢ wanted (core_behind core rounds)
    → MadeProgress size core (rounds ++ r ∷ [])
brought_push size core [] r brought whole some other = (whole, some, other, tt)
brought_push size core (q ∷ rounds) r (a, b, c, brought) whole some other =
    (a, b, c, brought_push size q.behind rounds r brought whole some other)

follows_push : (back spares : Bool) (core : State) (old : Seen) (rounds : List Round) (mid : Seen)
    (r : Round) (new : Seen) → FollowsRounds back spares core old rounds mid
    → Follows back spares (core_behind core rounds) mid r.turns r.behind new
    → FollowsRounds back spares core old (rounds ++ r ∷ []) new
follows_push back spares core old [] mid r new same f =
    (new, subst (λ z. Follows back spares core z r.turns r.behind new) same f, refl)
follows_push back spares core old (q ∷ rounds) mid r new (z, first, rest) f =
    (z, first, follows_push back spares q.behind z rounds mid r new rest f)

-- ---- over all rounds

-- Passes are turns, one after another.
pub all_turns : (back spares : Bool) (core : State) (old : Seen) (rounds : List Round) (mid : Seen)
    → FollowsRounds back spares core old rounds mid
    → Follows back spares core old (turns_of rounds) (core_behind core rounds) mid
all_turns back spares core old [] mid same = (refl, same)
all_turns back spares core old (r ∷ rounds) mid (z, first, rest) =
    follows_then back spares core old r.turns r.behind z (turns_of rounds)
    (core_behind r.behind rounds) mid first (all_turns back spares r.behind z rounds mid rest)

-- the lines of passes, followed by these
lines_then : (turns others : List Turn) → reel_lines 1 (map answer_of (turns ++ others))
    ≡ reel_lines 1 (map answer_of turns) ++ reel_lines (length turns + 1) (map answer_of others)
lines_then turns others =
    let number : 1 + length turns ≡ length turns + 1 = omega arith in
    lines_more 1 turns others
    ∙ ap (λ n. reel_lines 1 (map answer_of turns) ++ reel_lines n (map answer_of others)) number

pub lines_of_all : (old mid new : Option (List ℕ)) (turns others : List Turn)
    → Appends old mid (reel_lines 1 (map answer_of turns))
    → Appends mid new (reel_lines (length turns + 1) (map answer_of others))
    → Appends old new (reel_lines 1 (map answer_of (turns ++ others)))
lines_of_all old mid new turns others first then =
    subst (Appends old new) (sym (lines_then turns others))
    (Appends-trans old mid new _ _ first then)

pub front_of_all : (old mid new : Option (List ℕ)) (turns others : List Turn)
    → Appends old mid (reel_lines 1 (map answer_of turns))
    → AppendsFront mid new (reel_lines (length turns + 1) (map answer_of others))
    → AppendsFront old new (reel_lines 1 (map answer_of (turns ++ others)))
front_of_all old mid new turns others first then =
    subst (AppendsFront old new) (sym (lines_then turns others))
    (front_behind old mid new _ _ first then)

-- ---- calls

-- a pass after which something is missing read all images
whole_round : (turns : List Turn) (size : ℕ) (core : State) → length turns ≤ size
    → (length turns < size → core.position ≡ Finished) → wanted core ≢ None → length turns ≡ size
whole_round turns size core most all some = elim (cases_lt (length turns) size) [
  | inl less ↦ absurd (some (ap (want_at core.file) (all less)))
  | inr no_less ↦ omega (arith, most, no_less)
]

-- nothing has come yet
pub none_gone : {S L R : Type 0} (gs : Ghosts S) (size : ℕ) (gives : Mounting L R)
    (remaining : R → Option (List ℕ)) (back again : Bool) (old : SessionState S) (shelf : L)
    (said : Option (List ℕ))
    → HasGone gs size gives remaining back again old old shelf shelf said said []
none_gone {S} {L} {R} gs size gives remaining back again old shelf said =
    record {
      once = λ none. refl;
      are_rounds = refl;
      brought = tt;
      at = refl;
      lines = Appends-nil said;
      follows = λ held was kept. (held, was, (kept, refl, last_same gs old held));
    }

-- one more pass was made, and something is still missing
pub gone_on : {S L R : Type 0} (gs : Ghosts S)
    (size before : ℕ) (gives : Mounting L R) (remaining : R → Option (List ℕ)) (back again : Bool)
    (old mid new : SessionState S) (shelf between left : L) (said told says : Option (List ℕ))
    (rounds : List Round) → again ≡ true
    → HasGone gs size gives remaining back again old mid shelf between said told rounds
    → before ≡ length (turns_of rounds)
    → TakesAll gs size before gives remaining back again mid new between left told says
    → wanted new.core ≢ None → wanted new.core ≢ wanted mid.core
    → (more : List Round) × (before + size ≡ length (turns_of more))
    × HasGone gs size gives remaining back again old new shelf left said says more
gone_on {S} {L} {R} gs size before gives remaining back again old mid new shelf between left said
    told says rounds more h count took some other =
    let t = rw count at took in
    let whole = whole_round t.turns size new.core t.most t.all some in
    let r : Round = record { turns = t.turns; behind = new.core } in (
      rounds ++ r ∷ [],
      omega (
        arith,
        count,
        whole,
        length-append (turns_of rounds) t.turns,
        ap length (turns_push rounds r),
      ),
      record {
        once = λ none. absurd (let e = sym more ∙ none in cc e);
        are_rounds = rounds_push gives remaining shelf rounds between r left h.are_rounds
            t.are_turns;
        brought = brought_push size old.core rounds r h.brought whole some
            (subst (λ c. wanted new.core ≢ wanted c) h.at other);
        at = sym (state_push old.core rounds r);
        lines = subst (λ l. Appends said says (reel_lines 1 (map answer_of l)))
            (sym (turns_push rounds r))
            (lines_of_all said told says (turns_of rounds) t.turns h.lines t.lines);
        follows = λ held was kept.
            let (between, has, (still, f, before)) = h.follows held was kept in
            let (now, has_now, (then, one, last)) = t.follows between has still in (
              now,
              has_now,
              (
                then,
                follows_push back again old.core (seen gs old held) rounds (seen gs mid between) r
                    (seen gs new now) f (subst (λ c. Follows back again c (seen gs mid between)
                    t.turns new.core (seen gs new now)) h.at one),
                last_then gs old mid new held between now before last,
              ),
            );
      },
    )

-- one more pass was made, and it was the last
pub takes_rounds : {S L R : Type 0} (gs : Ghosts S)
    (size count before : ℕ) (gives : Mounting L R) (remaining : R → Option (List ℕ))
    (back again : Bool) (old mid new : SessionState S) (shelf between left : L)
    (said told says : Option (List ℕ))
    (rounds : List Round) → count ≡ size → before ≡ length (turns_of rounds)
    → HasGone gs count gives remaining back again old mid shelf between said told rounds
    → TakesAll gs count before gives remaining back again mid new between left told says
    → (again ≡ true → IsEnough count before (wanted mid.core) (wanted new.core))
    → TakesRounds gs size gives remaining back again old new shelf left said says
takes_rounds {S} {L} {R} gs size count before gives remaining back again old mid new shelf between
    left said told says rounds all lines h took enough =
    subst (λ n. TakesRounds gs n gives remaining back again old new shelf left said says) all
    (record {
      rounds = rounds;
      mid = mid;
      between = between;
      told = told;
      gone = h;
      last = rw lines at took;
      enough = rw lines at enough;
    })

-- a fault ended one more pass
pub stops_round : {S L R : Type 0} (gs : Ghosts S)
    (size count before : ℕ) (gives : Mounting L R) (remaining : R → Option (List ℕ))
    (back again : Bool) (old mid new : SessionState S) (shelf between left : L)
    (said told says : Option (List ℕ))
    (rounds : List Round) (fault : EngineFault) → count ≡ size → before ≡ length (turns_of rounds)
    → HasGone gs count gives remaining back again old mid shelf between said told rounds
    → StopsReading gs count before gives remaining back again mid new between left told says fault
    → StopsInRound gs size gives remaining back again old new shelf left said says fault
stops_round {S} {L} {R} gs size count before gives remaining back again old mid new shelf between
    left said told says rounds fault all lines h stopped =
    subst (λ n. StopsInRound gs n gives remaining back again old new shelf left said says fault) all
    (record {
      rounds = rounds;
      mid = mid;
      between = between;
      told = told;
      gone = h;
      last = rw lines at stopped;
    })

-- whether this was the last pass, from the part that is missing
pub enough_by : (size lines : ℕ) (before want b w : Option Want) → b ≡ before → w ≡ want
    → (w ≡ None) ⊎ (w ≡ b) → IsEnough size lines before want
enough_by size lines before want b w is_b is_w (inl none) = inl (sym is_w ∙ none)
enough_by size lines before want b w is_b is_w (inr same) = inr (inl (sym is_w ∙ same ∙ is_b))

pub not_none : (want w : Option Want) → w ≡ want → w ≢ None → want ≢ None
not_none want w is some none = some (is ∙ none)

pub not_same : (before want b w : Option Want) → b ≡ before → w ≡ want → w ≢ b → want ≢ before
not_same before want b w is_b is_w other same = other (is_w ∙ same ∙ sym is_b)
