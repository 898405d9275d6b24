-- The test cases for recovered files.
use Rattle.std.proofs.Common.{◌≡◌, ◌⊎◌, inl, inr, ℕ, [], Some, None, refl, sym, ap, subst, ◌∙◌}
use Rattle.std.proofs.Common.{length, arith, Option, map, List, ◌∷◌}
use Rattle.tape_run.specs.CasesOfExtracts.{CasesOfOutputs, Listed, as_sink, Known, Readers}
use Rattle.tape_run.specs.Reeling.{goes_back, IsKeptFor, answer_of, Turn, AreTurns, AreFirstTurns}
use Rattle.tape_run.specs.{Reeling.Took, Rounds.Round, Rounds.AreRounds}
use Rattle.tape_run.specs.{Seen.Seen, Seen.seen, ReelLine.reel_lines, RecordText.output_of}
use Rattle.tape_run.specs.Extracting.{IsWritten, TellsEnd}
use Rattle.tape_run.specs.CasesOfExtracts.{ExtractsListed, StopsListed, StopsListedNow}
use Rattle.tape_blocks.specs.{Spans.join, declared.parts.Form.Form}
use Rattle.tape_image.specs.Written.{AppendsFront}
use Rattle.tape_set.specs.{declared.position.Position.TheVariants.Finished, Position.want_at}
use Rattle.tape_set.specs.declared.position.Want.{Want}
use Rattle.tape_run.proofs.Fitting.{whole_text}

-- a session without checkpoints keeps its own
none_kept : (session : Listed) → session.notes ≡ []
    → IsKeptFor (goes_back session.notes) (seen as_sink session session.sink)
none_kept session none =
    subst (λ n. IsKeptFor (goes_back n) (seen as_sink session session.sink))
    (sym none) tt

-- one pass begins with all images
one_pass : (shelf between left : Readers) (rounds : List Round) (turns : List Turn) → rounds ≡ []
    → AreRounds Took (λ r. r) shelf rounds between → AreTurns Took (λ r. r) between 0 turns left
    → AreTurns Took (λ r. r) shelf 0 turns left
one_pass shelf between left [] turns none same are =
    subst (λ s. AreTurns Took (λ r. r) s 0 turns left) same are
one_pass shelf between left (r ∷ rounds) turns none rest are = absurd (cc none)

one_stopped : (shelf between left : Readers) (rounds : List Round) (turns : List Turn)
    (image : Option Known) → rounds ≡ [] → AreRounds Took (λ r. r) shelf rounds between
    → AreFirstTurns Took (λ r. r) between turns image left
    → AreFirstTurns Took (λ r. r) shelf turns image left
one_stopped shelf between left [] turns image none same are =
    subst (λ s. AreFirstTurns Took (λ r. r) s turns image left) same are
one_stopped shelf between left (r ∷ rounds) turns image none rest are = absurd (cc none)

left_there : (session behind : Listed) (shelf left : Readers) (form : Form)
    (out now said says : Known) (want : Option Want) → session.notes ≡ []
    → ExtractsListed session behind shelf left form out now said says want
    → (want ≡ want_at behind.core.file behind.core.position)
    × ((records : ℕ) × IsWritten form out now want records behind.sink)
left_there session behind shelf left form out now said says want none e =
    let (ends, goes, (parts, holds, is, keeps)) =
    e.ends session.sink refl (none_kept session none) in (
      ends.wanted ∙ ap (λ (z : Seen). want_at z.place.file z.place.position) is,
      (
        e.records,
        subst (IsWritten form out now want e.records)
            (ap (λ (z : Seen). z.parts) is ∙ sym holds) ends.is_written,
      ),
    )

output_stopped : (session behind : Listed) (shelf left : Readers) (form : Form)
    (out now said says : Known)
    → session.notes ≡ [] → StopsListed session behind shelf left form out now said says
    → (now ≡ out)
    ⊎ ((s : Seen) × (s.place.position ≡ Finished) × AppendsFront out now (output_of form s.parts))
output_stopped session behind shelf left form out now said says none s =
    let (last, seen, follows, stood, tells, wrote) =
    s.follows session.sink refl (none_kept session none) in elim wrote [
      | inl same ↦ inl same.0
      | inr (done, inl (part, less)) ↦ inr (seen, done, part)
      | inr (done, inr all) ↦ inr (seen, done, whole_text _ _ _ all)
    ]

last_line_tells : (p : Seen) (want : Option Want) (records : ℕ)
    → p.place.position ≡ Finished → TellsEnd ⊥ want records p
    → (want ≡ None) × (records ≡ length (join p.parts).records)
last_line_tells p want records done (inl none) = absurd none
last_line_tells p want records done (inr (is, counted)) =
    let none : want ≡ None = is ∙ ap (want_at p.place.file) done in (none, counted none)

last_line_of : (session behind : Listed) (shelf left : Readers) (form : Form)
    (out now said says : Known) → session.notes ≡ []
    → (s : StopsListed session behind shelf left form out now said says)
    → (p : Seen) × TellsEnd (AppendsFront said says
    (reel_lines 1 (map answer_of s.turns))) s.want s.records p
    × ((now ≡ out) ⊎ (p.place.position ≡ Finished))
last_line_of session behind shelf left form out now said says none s =
    let (last, seen, follows, stood, tells, wrote) =
    s.follows session.sink refl (none_kept session none) in (
      seen,
      rw (s.once refl) at tells,
      elim wrote [ inl same ↦ inl same.0 | inr more ↦ inr more.0 ],
    )

last_line_of_now : (session : Listed) (shelf left : Readers) (form : Form)
    (out now said says : Known) (s : StopsListedNow session shelf left form out now said says)
    → (p : Seen) × TellsEnd (AppendsFront said says
    (reel_lines 1 (map answer_of s.turns))) s.want s.records p
    × ((now ≡ out) ⊎ (p.place.position ≡ Finished))
last_line_of_now session shelf left form out now said says s =
    let (last, seen, follows, stood, tells, wrote) = s.follows session.sink refl tt in (
      seen,
      rw (s.once refl) at tells,
      elim wrote [ inl same ↦ inl same.0 | inr more ↦ inr more.0 ],
    )

complete_is_named : (session : Listed) (shelf left : Readers) (form : Form)
    (out now said says : Known) (s : StopsListedNow session shelf left form out now said says)
    → s.want ≡ None → (AppendsFront said says
    (reel_lines 1 (map answer_of s.turns)) → ⊥)
    → (p : Seen) × (now ≡ Some (output_of form p.parts))
complete_is_named session shelf left form out now said says s none more =
    let (last, seen, follows, stood, tells, wrote) = s.follows session.sink refl tt in elim wrote [
      | inl (same, inl less) ↦ absurd (more (rw (s.once refl) at less))
      | inl (same, inr some) ↦ absurd (some none)
      | inr (done, inl (same, less)) ↦ absurd (more (rw (s.once refl) at less))
      | inr (done, inr put) ↦ (seen, put tt)
    ]

output_stopped_now : (session : Listed) (shelf left : Readers) (form : Form)
    (out now said says : Known)
    → StopsListedNow session shelf left form out now said says → (now ≡ out)
    ⊎ ((s : Seen) × (s.place.position ≡ Finished) × (now ≡ Some (output_of form s.parts)))
output_stopped_now session shelf left form out now said says s =
    let (last, seen, follows, stood, tells, wrote) = s.follows session.sink refl tt in elim wrote [
      | inl same ↦ inl same.0
      | inr more ↦ elim more.1 [
        | inl same ↦ inl same.0
        | inr put ↦ inr (seen, more.0, put tt)
      ]
    ]

pub cases_of_outputs : CasesOfOutputs
cases_of_outputs = record {
  last_line_tells = last_line_tells;
  less_was_told = λ p want records. inl tt;
  last_line_of = last_line_of;
  last_line_of_now = last_line_of_now;
  output_stopped = output_stopped;
  output_stopped_now = output_stopped_now;
  complete_is_named = complete_is_named;
  written = λ records form out now parts w. w;
  put = λ records form stands parts p. (p.0, p.1 tt);
  ends = λ spares first old turns want records form out now e.
      (e.wanted, e.are_steps, e.follows, e.is_written);
  ends_now = λ first old turns want records form stands e.
      (e.wanted, e.are_steps, e.follows, e.is_written);
  left_there = left_there;
  left_unread = λ session behind shelf left form out now said says want e. (e.most, e.all);
  lines = λ session behind shelf left form out now said says want e.
      (rw (e.once refl) at e.lines, one_pass _ _ _ _ _ (e.once refl) e.are_rounds e.are_turns);
  left_unread_now = λ session shelf left form stands said says want e. (e.most, e.all);
  lines_now = λ session shelf left form stands said says want e.
      (rw (e.once refl) at e.lines, one_pass _ _ _ _ _ (e.once refl) e.are_rounds e.are_turns);
  ends_as_told = λ session shelf left form stands said says want e.
      let (ends, goes, stood) = e.ends session.sink refl tt in rw (e.once refl) at ends;
  only_turns_told = λ session behind shelf left form out now said says s.
      rw (s.once refl) at s.lines;
  only_turns_told_now = λ session shelf left form out now said says s. rw (s.once refl) at s.lines;
  stopped_there = λ s behind now fault stopped.
      stopped.1 (λ lost. let e = lost.0 in absurd (cc e)) ∙ stopped.2.parts;
  stopped_turns = λ session behind shelf left form out now said says s.
      (s.most, one_stopped _ _ _ _ _ _ (s.once refl) s.are_rounds s.are_turns);
  stopped_turns_now = λ session shelf left form out now said says s.
      (s.most, one_stopped _ _ _ _ _ _ (s.once refl) s.are_rounds s.are_turns);
  taken = λ form out held weight records begun parts t. (t.weighs, t.counted);
  taken_text = λ form out held weight records begun parts t. (t.begins, t.text);
  held_back = λ form out held weight records begun t. t.waits;
  shares = (refl, refl, refl, refl);
  text = λ known is. cc is;
  no_writer = tt;
  tells = λ w. refl;
  tells_nothing = λ tells. absurd (let e = tells [] in cc e);
  ended = (refl, refl);
  write_refused = λ form works still weight r. r;
  not_heavy = λ form works still r. absurd (omega (arith, r.2));
  heavy = (refl, refl, omega arith);
  refused_later = λ form works weight. refl;
  writer_kept = λ form still. (λ r. r.1, λ r. r, λ r. r.2);
  no_memory_taken = λ works still weight. (λ r. absurd (cc r.0), λ r. absurd (cc r.0));
}
