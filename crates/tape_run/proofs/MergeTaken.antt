-- A reading after one more item, or after it stopped.
use Rattle.std.proofs.Common.{◌≡◌, ◌≢◌, ◌⊎◌, inl, inr, ℕ, ◌+◌, ◌<◌, List, [], ◌∷◌, ◌++◌}
use Rattle.std.proofs.Common.{length, Some, refl, sym, ap, subst, ◌∙◌, arith, zero, suc}
use Rattle.std.proofs.Common.{length-append, slice_get}
use Rattle.tape_image.specs.declared.item.ImageFault.{ImageFault}
use Rattle.tape_image.specs.{Tape.TapeItem, Reader.Reader, Reader.going, Calls.Gave}
use Rattle.tape_image.specs.Step.{GivesItem, MeetsEnd, MeetsFault}
use Rattle.tape_run.specs.declared.merge.reading.Reading.{Reading}
use Rattle.tape_run.specs.MergeSteps.{Stopped, CountsItem, CountsNothing, HasRead, HasTaken}
use Rattle.tape_run.specs.MergeSteps.{TookLast, nothing, last, RisesBy, is_bad_one, one_if, bads}

-- ---- the reader

gave_more : (items : List TapeItem) (a b c : Reader) (x : TapeItem) → Gave a items b
    → GivesItem b x c → Gave a (items ++ x ∷ []) c
gave_more [] a b c x same given = (c, subst (λ (r : Reader). GivesItem r x c) same given, refl)
gave_more (y ∷ items) a b c x (mid, first, then) given =
    (mid, first, gave_more items mid b c x then given)

goes_on_at : (behind o : Reader) → o.status ≡ going
    → (o ≡ behind) ⊎ (MeetsEnd behind o ⊎ ((fault : ImageFault) × MeetsFault behind fault o))
    → o ≡ behind
goes_on_at behind o on (inl e) = e
goes_on_at behind o on (inr (inl met)) = absurd (cc (on, met.ended))
goes_on_at behind o on (inr (inr (fault, met))) = absurd (cc (on, met.failed))

-- a reader that has not stopped is positioned after the items that it returned
gave_at : (f o : Reader) (r : List TapeItem) → HasRead f o r → o.status ≡ going → Gave f r o
gave_at f o r h on = subst (λ (b : Reader). Gave f r b) (sym (goes_on_at _ _ on h.stands)) h.gave

read_stopped : (f o n : Reader) (r : List TapeItem) → HasRead f o r → Stopped o n → HasRead f n r
read_stopped f o n r h (inl (on, met)) =
    record { behind = o; gave = gave_at f o r h on; stands = inr met }
read_stopped f o n r h (inr (off, same)) = subst (λ (s : Reader). HasRead f s r) (sym same) h

pub stopped_off : (o n : Reader) → Stopped o n → n.status ≢ going
stopped_off o n (inl (on, inl met)) = λ e. cc (e, met.ended)
stopped_off o n (inl (on, inr (fault, met))) = λ e. cc (e, met.failed)
stopped_off o n (inr (off, same)) = λ e. off (sym (ap (λ (s : Reader). s.status) same) ∙ e)

-- ---- the reading

pub bads-append : (xs ys : List TapeItem) → bads (xs ++ ys) ≡ bads xs + bads ys
bads-append [] ys = omega arith
bads-append (x ∷ xs) ys =
    let ih : bads (xs ++ ys) ≡ bads xs + bads ys = bads-append xs ys in
    omega arith

rises_twice : (a b c n m k : ℕ) → RisesBy a n b → RisesBy b m c → n + m ≡ k → RisesBy a k c
rises_twice a b c n m k first then is = λ le.
    let here : b ≡ a + n = first (omega (arith, le, is)) in
    omega (arith, here, is, then (omega (arith, here, le, is)))

pub has_given : {R : Type 0} (f o n : Reading R) (r : List TapeItem) (x : TapeItem)
    → HasTaken f o r → o.image.status ≡ going → GivesItem o.image x n.image → CountsItem o n x
    → HasTaken f n (r ++ x ∷ [])
has_given f o n r x h on given counts = record {
  read = record {
    behind = n.image;
    gave = gave_more r f.image o.image n.image x (gave_at f.image o.image r h.read on) given;
    stands = inl refl;
  };
  items = rises_twice f.items o.items n.items (length r) 1 (length (r ++ x ∷ [])) h.items
      counts.items (sym (length-append r (x ∷ [])));
  bad = rises_twice f.bad o.bad n.bad (bads r) (one_if (is_bad_one (Some x)))
      (bads (r ++ x ∷ [])) h.bad counts.bad (omega (arith, bads-append r (x ∷ [])));
  last = last r x o.image refl (gave_at f.image o.image r h.read on) counts.from counts.len;
}

last_kept : {R : Type 0} (f o n : Reading R) (r : List TapeItem) → CountsNothing o n
    → TookLast f o r → TookLast f n r
last_kept f o n r counts (nothing none from len) =
    nothing none (counts.from ∙ from) (counts.len ∙ len)
last_kept f o n r counts (last before x mid is gave from len) =
    last before x mid is gave (counts.from ∙ from) (counts.len ∙ len)

pub has_stopped : {R : Type 0} (f o n : Reading R) (r : List TapeItem) → HasTaken f o r
    → Stopped o.image n.image → CountsNothing o n → HasTaken f n r
has_stopped f o n r h off counts = record {
  read = read_stopped f.image o.image n.image r h.read off;
  items = λ le. counts.items ∙ h.items le;
  bad = λ le. counts.bad ∙ h.bad le;
  last = last_kept f o n r counts h.last;
}

-- ---- the items at a place

pub get_front : (r : List TapeItem) (x : TapeItem) (j : ℕ) → j < length r
    → slice_get (r ++ x ∷ []) j ≡ slice_get r j
get_front [] x j lt = absurd (omega arith)
get_front (y ∷ r) x zero lt = refl
get_front (y ∷ r) x (suc j) lt = get_front r x j (omega arith)

pub get_last : (r : List TapeItem) (x : TapeItem) (k : ℕ) → length r ≡ k
    → slice_get (r ++ x ∷ []) k ≡ Some x
get_last [] x zero e = refl
get_last [] x (suc k) e = absurd (omega (arith, e))
get_last (y ∷ r) x zero e = absurd (omega (arith, e))
get_last (y ∷ r) x (suc k) e = get_last r x k (omega (arith, e))
