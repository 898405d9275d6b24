-- The cases of rounds.
use Rattle.std.proofs.Common.{◌≡◌, ◌⊎◌, List, [], ◌∷◌, inl, inr, refl, sym, ap, subst, ◌∙◌, arith}
use Rattle.std.proofs.Common.{Option, Bool, None, true}
use Rattle.tape_set.specs.{declared.position.Want.Want, Position.want_at}
use Rattle.tape_core.specs.State.{State}
use Rattle.tape_run.specs.Reeling.{Turn, AreTurns, Follows, Took}
use Rattle.tape_run.specs.Rounds.{Round, AreRounds, IsEnough, GoesRound}
use Rattle.tape_run.specs.{Seen.Seen, Seen.seen, CasesOfRounds.CasesOfRounds}
use Rattle.tape_run.specs.CasesOfExtracts.{as_sink, Known, Readers}

enough : (before want : Option Want) → IsEnough 3 6 before want → (want ≡ None) ⊎ (want ≡ before)
enough before want (inl none) = inl none
enough before want (inr (inl same)) = inr same
enough before want (inr (inr many)) = absurd (omega (arith, many))

each_from_the_first : (a b : Option Known) (s t : Turn) (p q : State) (left : Readers)
    → AreRounds Took (λ r. r) (a ∷ b ∷ []) (record { turns = s ∷ []; behind = p }
    ∷ record { turns = t ∷ []; behind = q } ∷ []) left
    → (mid : Readers) × AreTurns Took (λ r. r) (a ∷ b ∷ []) 0 (s ∷ []) mid
    × AreTurns Took (λ r. r) mid 0 (t ∷ []) left
each_from_the_first a b s t p q left (mid, first, (z, second, same)) =
    (mid, first, subst (λ l. AreTurns Took (λ r. r) mid 0 (t ∷ []) l) (sym same) second)

goes_two_rounds : (back : Bool) (core last : State) (old new : Seen) (r : Round) (turns : List Turn)
    → GoesRound back true core old (r ∷ []) turns last new
    → (mid : Seen) × Follows back true core old r.turns r.behind mid
    × Follows back true r.behind mid turns last new
goes_two_rounds back core last old new r turns (mid, (z, first, same), one) =
    (z, first, subst (λ s. Follows back true r.behind s turns last new) same one)

pub cases_of_rounds : CasesOfRounds
cases_of_rounds = record {
  two_rounds = λ a b p q core. (refl, refl);
  none_made = λ core. (refl, refl);
  is_wanted = λ core at. ap (want_at core.file) at;
  nothing_wanted = λ core at. ap (want_at core.file) at;
  each_from_the_first = each_from_the_first;
  brought = λ turns core behind b. (b.0, b.1, b.2);
  brought_twice = λ a b core p q h. (h.3.0, h.3.2);
  enough = enough;
  complete_is_enough = λ before. inl refl;
  nothing_new_is_enough = λ want. inr (inl refl);
  goes_two_rounds = goes_two_rounds;
  follows_none = λ back core old new f. f;
  file_ended = λ session form out now said says want e.
      (e.wanted, e.line, e.is_written session.sink refl);
  file_stopped = λ session form out now said says s.
      (s.line, s.tells session.sink refl, s.is_written session.sink refl);
  complete_is_written = λ session behind shelf left form out now said says s kept none more.
      let (last, is, follows, stood, tells, wrote) = s.follows session.sink refl kept in
      elim wrote [
        | inl (same, inl less) ↦ absurd (more (rw (s.once refl) at less))
        | inl (same, inr some) ↦ absurd (some none)
        | inr (done, inl (part, less)) ↦ absurd (more (rw (s.once refl) at less))
        | inr (done, inr all) ↦ (is, all)
      ];
  again_ends = λ session behind shelf left form out now said says want e kept.
      let (ends, goes, (parts, holds, is, keeps)) = e.ends session.sink refl kept in (
        ends,
        goes,
        is ∙ ap (λ l. seen as_sink behind l) (sym holds),
      );
  again = λ session behind shelf left form out now said says want e.
      (e.lines, e.are_rounds, e.are_turns, e.brought);
  again_left = λ session behind shelf left form out now said says want e.
      (e.most, e.all, e.enough refl);
  again_stopped = λ session behind shelf left form out now said says s.
      (s.most, s.are_rounds, s.are_turns, s.brought, s.lines);
  again_output = λ session behind shelf left form out now said says s kept.
      let (last, now, goes, stood, tells, wrote) = s.follows session.sink refl kept in
      (last, now, goes, tells, wrote);
}
