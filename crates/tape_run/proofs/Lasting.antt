-- After a crash the last checkpoint of a session is left.
use Rattle.std.proofs.Common.{◌≡◌, ◌⊎◌, ℕ, ◌+◌, List, [], ◌∷◌, ◌++◌, length, Some, refl, sym, ap}
use Rattle.std.proofs.Common.{subst, ◌∙◌, arith, inl, inr, append-nil, length-append, slice_get}
use Rattle.std.proofs.lemmas.List.{take_all}
use Rattle.tape_blocks.specs.Block.{Portion}
use Rattle.tape_core.specs.Crash.{Returns, Crashes, AddsNothing, AddsOnly, OnlyThis, ThisAlone}
use Rattle.tape_core.proofs.Crashes.{or_nothing}
use Rattle.tape_core.specs.{Point.Point, Stands.weight_of, Table.saved, Weight.IsFront}
use Rattle.tape_core.specs.declared.sink.PartSink.{Ghosts}
use Rattle.tape_run.specs.Crash.{IsNoteOf, IsLast, BringsLast, LastAlone, KeepsLast, IsWalked}
use Rattle.tape_run.specs.{Reeling.StoodSaved, Seen.Seen, Seen.seen, Steps.Saved, Steps.WentBack}
use Rattle.tape_run.specs.SessionState.{SessionState}
use Rattle.tape_run.proofs.Notes.{front_self, front_trans, same_front}

pub last_same : {S : Type 0} (g : Ghosts S) (s : SessionState S) (held : List Portion)
    → KeepsLast g s held s held
last_same g s held = record {
  last = λ h. h refl;
  adds = λ none back there x. inl x;
  same = λ none back there last. last;
  survives = λ x. x;
  no_fewer = omega arith;
  later = omega arith;
  since = λ t le none h. h;
  survived = λ t le x. x;
}

pub last_then : {S : Type 0} (g : Ghosts S) (a b c : SessionState S) (held mid now : List Portion)
    → KeepsLast g a held b mid → KeepsLast g b mid c now → KeepsLast g a held c now
last_then g a b c held mid now one two = record {
  last = λ h. two.last (λ d. one.last (λ e. h (d ∙ e)));
  adds = λ none back there x.
      let first : length b.notes ≡ length a.notes =
      omega (arith, none, one.no_fewer, two.no_fewer) in
      let then : length c.notes ≡ length b.notes =
      omega (arith, none, one.no_fewer, two.no_fewer) in
      elim (two.adds then back there x) [
        | inl y ↦ elim (one.adds first back there y) [
          | inl z ↦ inl z
          | inr last ↦ inr (two.same then back there last)
        ]
        | inr last ↦ inr last
      ];
  same = λ none back there last.
      two.same (omega (arith, none, one.no_fewer, two.no_fewer)) back there
      (one.same (omega (arith, none, one.no_fewer, two.no_fewer)) back there last);
  survives = λ x. two.survives (one.survives x);
  no_fewer = omega (arith, one.no_fewer, two.no_fewer);
  later = omega (arith, one.later, two.later);
  since = λ t le same h. two.since t (omega (arith, le, one.later))
      (omega (arith, same, one.no_fewer, two.no_fewer))
      (one.since t le (omega (arith, same, one.no_fewer, two.no_fewer)) h);
  survived = λ t le h. two.survived t (omega (arith, le, one.later)) (one.survived t le h);
}

-- a reel was read: the checkpoints are unchanged, and no part was removed
pub brings_still : (r t : Returns) (old new : Seen) → new.notes ≡ old.notes
    → IsFront old.parts new.parts
    → ((back : Point) (there : List Portion) → t back there → r back there)
    → BringsLast r old → BringsLast t new
brings_still r t old new notes front none last = λ back there x.
    let (n, count, (is, f, w)) = last back there (none back there x) in (
      n,
      ap length notes ∙ count,
      (ap (λ z. slice_get z n) notes ∙ is, front_trans there old.parts new.parts f front, w),
    )

-- the same since a past moment
pub alone_still : (was now : Crashes) (old new : Seen) → new.notes ≡ old.notes
    → IsFront old.parts new.parts → AddsNothing was now → LastAlone was old → LastAlone now new
alone_still was now old new notes front adds (last, (t, le, since)) = (
  brings_still was.returns now.returns old new notes front
      (λ back there x. or_nothing (adds.now back there x)) last,
  (
    t,
    omega (arith, le, adds.later),
    brings_still (was.returned t) (now.returned t) old new notes front
        (λ back there x. or_nothing (adds.since t back there le x)) since,
  ),
)

pub last_stays : {S : Type 0} (g : Ghosts S) (a b : SessionState S)
    (held now : List Portion) → b.notes ≡ a.notes → IsFront held now
    → AddsNothing (g.crashes a.sink) (g.crashes b.sink) → KeepsLast g a held b now
last_stays g a b held now notes front adds = record {
  last = λ h. still (g.crashes a.sink).returns (g.crashes b.sink).returns
      (λ back there x. or_nothing (adds.now back there x)) (h (ap length notes));
  adds = λ none back there x. inl (or_nothing (adds.now back there x));
  same = λ none. still (IsLast (seen g a held)) (IsLast (seen g a held))
      (λ back there last. last) (λ back there last. last);
  survives = adds.survives;
  no_fewer = omega (arith, ap length notes);
  later = adds.later;
  since = λ t le same h. still ((g.crashes a.sink).returned t) ((g.crashes b.sink).returned t)
      (λ back there x. or_nothing (adds.since t back there le x)) h;
  survived = adds.survived;
}
  where
    still : (r t : Returns) → ((back : Point) (there : List Portion) → t back there → r back there)
        → BringsLast r (seen g a held) → BringsLast t (seen g b now)
    still r t = brings_still r t (seen g a held) (seen g b now) notes front

slice_last : (cs : List Point) (c : Point) → slice_get (cs ++ c ∷ []) (length cs) ≡ Some c
slice_last [] c = refl
slice_last (d ∷ cs) c = slice_last cs c

-- only the session's position was saved
pub last_saved : (old new : Seen) (point : Point) (t : Returns)
    → point ≡ saved old.place (weight_of old.parts) → OnlyThis point old.parts t → Saved old new
    → BringsLast t new
last_saved old new point t here only s = λ back there x.
    let (b, p) = only back there x in
    let c = saved old.place (weight_of old.parts) in
    let is : back ≡ c = b ∙ here in (
      length old.notes,
      ap length s.notes ∙ length-append old.notes (c ∷ []),
      (
        ap (λ z. slice_get z (length old.notes)) s.notes ∙ slice_last old.notes c
            ∙ ap Some (sym is),
        ([], s.parts ∙ sym p ∙ sym (append-nil there)),
        ap weight_of p ∙ ap (λ (z : Point). z.staged) (sym is),
      ),
    )

-- the same since that moment
pub alone_saved : (old new : Seen) (point : Point) (now : Crashes)
    → point ≡ saved old.place (weight_of old.parts) → ThisAlone point old.parts now → Saved old new
    → LastAlone now new
alone_saved old new point now here alone s = (
  last_saved old new point now.returns here alone.0 s,
  (
    now.moment,
    omega arith,
    last_saved old new point (now.returned now.moment) here alone.1 s,
  ),
)

among_last : (s : Seen) (n : ℕ) (r : Returns) (back : Point) (there : List Portion)
    → length s.notes ≡ n + 1 → BringsLast r s → r back there ⊎ IsNoteOf n s back there
    → IsNoteOf n s back there
among_last s n r back there count last (inr i) = i
among_last s n r back there count last (inl x) =
    let (m, counts, i) = last back there x in
    let same : m ≡ n = omega (arith, count, counts) in
    subst (λ z. IsNoteOf z s back there) same i

-- the session rolled back to its last checkpoint
pub last_back : (old new : Seen) (n : ℕ) (r t : Returns)
    → length old.notes ≡ n + 1 → WentBack n old new
    → ((back : Point) (there : List Portion) → t back there
    → r back there ⊎ IsNoteOf n old back there)
    → BringsLast r old → BringsLast t new
last_back old new n r t count went only last = λ back there x.
    let (is, f, w) = among_last old n r back there count last (only back there x) in
    let same : new.notes ≡ old.notes =
    went.notes ∙ take_all (n + 1) old.notes (omega (arith, count)) in
    let point : back ≡ went.point = let e = went.noted in cc in
    let all : there ≡ new.parts = same_front there new.parts old.parts f went.front
    (w ∙ ap (λ (z : Point). z.staged) point ∙ sym went.weighs) in (
      n,
      ap length same ∙ count,
      (ap (λ z. slice_get z n) same ∙ is, subst (IsFront there) all (front_self there), w),
    )

-- a checkpoint of the session's position was made, and was saved
pub last_kept : {S : Type 0} (g : Ghosts S) (a b : SessionState S)
    (held now : List Portion) (point : Point) (these : Returns)
    → point ≡ saved (seen g a held).place (weight_of held)
    → ThisAlone point held (g.crashes b.sink) → Saved (seen g a held) (seen g b now)
    → AddsOnly these (g.crashes a.sink) (g.crashes b.sink) → KeepsLast g a held b now
last_kept g a b held now point these here alone s adds =
    let more : length b.notes ≡ length a.notes + 1 = ap length s.notes
    ∙ length-append a.notes (saved (seen g a held).place (weight_of held) ∷ []) in
    record {
      last = λ same. last_saved (seen g a held) (seen g b now) point
          (g.crashes b.sink).returns here alone.0 s;
      adds = λ none. absurd (omega (arith, none, more));
      same = λ none. absurd (omega (arith, none, more));
      survives = adds.survives;
      no_fewer = omega (arith, more);
      later = adds.later;
      since = λ t le same h. absurd (omega (arith, same, more));
      survived = adds.survived;
    }

-- the session rolled back to its last checkpoint
pub last_went : {S : Type 0} (g : Ghosts S) (a b : SessionState S) (held now : List Portion) (n : ℕ)
    → length a.notes ≡ n + 1 → WentBack n (seen g a held) (seen g b now)
    → AddsOnly (IsNoteOf n (seen g a held)) (g.crashes a.sink) (g.crashes b.sink)
    → KeepsLast g a held b now
last_went g a b held now n count went adds =
    let notes : b.notes ≡ a.notes =
    went.notes ∙ take_all (n + 1) a.notes (omega (arith, count)) in
    let was = IsLast (seen g a held) in
    let stays = last_back (seen g a held) (seen g b now) n was was count went
    (λ back there l. inl l) (λ back there l. l) in
    record {
      last = λ h. last_back (seen g a held) (seen g b now) n
          (g.crashes a.sink).returns (g.crashes b.sink).returns count went adds.now
          (h (ap length notes));
      adds = λ none back there x. elim (adds.now back there x) [
        | inl y ↦ inl y
        | inr i ↦ inr (stays back there (n, count, i))
      ];
      same = λ none. stays;
      survives = adds.survives;
      no_fewer = omega (arith, ap length notes);
      later = adds.later;
      since = λ t le same h. last_back (seen g a held) (seen g b now) n
          ((g.crashes a.sink).returned t) ((g.crashes b.sink).returned t) count went
          (λ back there x. adds.since t back there le x) h;
      survived = adds.survived;
    }

-- if only a walk over the sink was made, the state of the session is unchanged
pub walked_seen : {S : Type 0} (g : Ghosts S) (a b : SessionState S) (parts : List Portion)
    → IsWalked g a b → g.refusals b.sink ≡ g.refusals a.sink → seen g a parts ≡ seen g b parts
walked_seen g a b parts w calm = rw (w.core, w.notes, w.failures, w.wide, calm) refl

-- the result for the images, after the walk that writes the file
pub stood_walked : {S : Type 0} (g : Ghosts S) (a b c : SessionState S) (held parts : List Portion)
    → g.holds b.sink parts → KeepsLast g a held b parts → IsWalked g b c
    → g.refusals c.sink ≡ g.refusals b.sink → StoodSaved g a held c (seen g b parts)
stood_walked g a b c held parts has last w calm = (
  parts,
  w.kept parts has,
  walked_seen _ _ _ parts w calm,
  last_then _ _ _ _ _ _ _ last (last_stays _ _ _ _ _ w.notes (front_self parts)
      (w.crash parts has)),
)
