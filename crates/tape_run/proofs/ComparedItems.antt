-- The items of a reading, compared with the parts that a walk over a sink returns.
use Rattle.std.proofs.Common.{◌≡◌, ◌≢◌, ℕ, Bool, List, [], ◌∷◌, ◌++◌, Option, Some}
use Rattle.std.proofs.Common.{None, Result, Ok, Err, refl, sym, ap, subst, inl, inr}
use Rattle.tape_image.specs.{Tape.TapeItem, Tape.bad, Begins.Walks, Reader.Reader, Reader.IfKnown}
use Rattle.tape_image.specs.Step.{Meets as Met, GivesItem}
use Rattle.tape_image.specs.declared.item.ImageFault.{ImageFault}
use Rattle.tape_image.proofs.Walks.{Walks-nil, TakesEnd-behind, TakesFault-behind}
use Rattle.tape_image.proofs.Walks.{known_then, known_same}
use Rattle.tape_blocks.specs.Block.{Portion}
use Rattle.tape_core.specs.{State.State, Table.Outcome, Wide.step_by, Wide.read_as}
use Rattle.tape_core.specs.declared.event.Answer.TheVariants.{Passed}
use Rattle.tape_run.specs.declared.session.compared.overlap.{Overlap.Overlap, Found.Found}
use Rattle.tape_run.specs.declared.session.compared.overlap.Found.TheVariants.{Same, Other}
use Rattle.tape_run.specs.declared.session.compared.overlap.Found.TheVariants.{Unknown, Ended}
use Rattle.tape_run.specs.{Reels.behind_items, Taking.came_of}
use Rattle.tape_run.specs.Comparing.{Meets, CameMeets, MeetAll, IsThere, IsOther, IsBehind, IsUnlike}
use Rattle.tape_run.specs.Comparing.{IsSameTo, IsCut, IsOver, Finds}
use Rattle.tape_run.proofs.{ByTable.core_more, Reels.walks_on}

meets_more : (wide : Bool) (from : ℕ) (core : State) (xs : List TapeItem) (x : TapeItem)
    (ahead mid left : List Portion) → MeetAll wide from core xs ahead mid
    → (step_by wide (behind_items wide core xs) (Some x)).0 ≡ Passed
    → Meets from (behind_items wide core xs).phase (read_as wide (behind_items wide core xs) x) mid
    left
    → MeetAll wide from core (xs ++ x ∷ []) ahead left
meets_more wide from core [] x ahead mid left is passed m =
    (passed, left, subst (λ z. Meets from core.phase (read_as wide core x) z left) is m, refl)
meets_more wide from core (y ∷ xs) x ahead mid left (first, next, a, b) passed m = (
  first,
  next,
  a,
  meets_more wide from (step_by wide core (Some y)).1 xs x next mid left b passed m,
)

-- So far the bytes up to an offset encode these items, and a walk has returned their parts.
pub record MetSoFar (wide : Bool) (from : ℕ) (old new : State) (at : ℕ)
    (before now : List Portion → Type 0) (bytes left : List ℕ) : Type 0 where
  pub items : List TapeItem
  pub taken : Walks 0 bytes items at left
  pub core : new ≡ behind_items wide old items
  pub met : (ahead : List Portion) → before ahead
      → (more : List Portion) × MeetAll wide from old items ahead more × now more

pub none_met : (wide : Bool) (from : ℕ) (core : State) (left : Option (List ℕ)) (place : ℕ)
    (now : List Portion → Type 0) → place ≡ 0
    → IfKnown left left (MetSoFar wide from core core place now now)
none_met wide from core left place now first = known_same left left _ refl (λ xs. record {
  items = [];
  taken = subst (λ z. Walks 0 xs [] z xs) (sym first) (Walks-nil 0 xs);
  core = refl;
  met = λ ahead was. (ahead, refl, was);
})

pub met_on : (wide : Bool) (from : ℕ) (core mid : State) (all : Option (List ℕ)) {new : State}
    {old next : Reader} {item : TapeItem}
    (before here now : List Portion → Type 0)
    → IfKnown all old.left (MetSoFar wide from core mid old.place before here)
    → GivesItem old item next → (Passed, new) ≡ step_by wide mid (Some item)
    → ((ahead : List Portion) → here ahead → (left : List Portion)
    × CameMeets wide from mid (Some item) ahead left × now left)
    → IfKnown all next.left (MetSoFar wide from core new next.place before now)
met_on wide from core mid all {new} {old} {next} {item} before here now known gives step one =
    known_then all old.left next.left _ _ (MetSoFar wide from core new next.place before now)
    (λ xs ys zs s k. record {
      items = s.items ++ item ∷ [];
      taken = walks_on old.place next.place xs ys zs s.items item s.taken k;
      core = core_more wide core mid new Passed s.items item step s.core;
      met = λ ahead was.
          let (more, m, h) = s.met ahead was in
          let (left, n, h') = one more h in (
            left,
            meets_more wide from core s.items item ahead more left m
                (subst (λ z. (step_by wide z (Some item)).0 ≡ Passed) s.core
                (ap (λ (z : Outcome). z.0) (sym step)))
                (subst (λ z. Meets from z.phase (read_as wide z item) more left) s.core n),
            h',
          );
    }) known gives.takes

-- ---- the end of the comparison

module _ (wide : Bool) (o : Overlap) (core mid : State) (all : Option (List ℕ)) (old next : Reader)
    (before here : List Portion → Type 0)
    (known : IfKnown all old.left (MetSoFar wide o.from core mid old.place before here))
    (ahead : List Portion) (was : before ahead) where
  -- at the block in which the session continues
  pub met_there : (told : Result (Option TapeItem) ImageFault) (now : List Portion → Type 0)
      → Met old told next → ((more : List Portion) → here more → (left : List Portion)
      × IsThere wide o mid (came_of told) more left × now left)
      → IfKnown all next.left (λ bytes l. Finds wide o core bytes Same now ahead)
  met_there (Ok (Some item)) now m there =
      known_then all old.left next.left _ _ (λ bytes l. Finds wide o core bytes Same now ahead)
      (λ xs ys zs s k.
      let (more, met, h) = s.met ahead was in
      let (left, t, n) = there more h in
      let (b, front) = subst (λ z. IsThere wide o z (Some item) more left) s.core t in (
        left,
        record {
          items = s.items;
          at = old.place;
          rest = ys;
          taken = s.taken;
          mid = more;
          met = met;
          there = b;
          ends = elim front [
            | inl none ↦ inl none
            | inr (x, is, f) ↦ inr (
              x,
              next.place,
              zs,
              subst (λ z. Walks 0 xs (s.items ++ z ∷ []) next.place zs)
                  (let e : item ≡ x = cc is in e)
                  (walks_on old.place next.place xs ys zs s.items item s.taken k),
              f,
            )
          ];
        },
        n,
      )) known m.takes
  met_there (Ok None) now m there =
      known_then all old.left next.left _ _ (λ bytes l. Finds wide o core bytes Same now ahead)
      (λ xs ys zs s k.
      let (more, met, h) = s.met ahead was in
      let (left, t, n) = there more h in
      let (b, front) = subst (λ z. IsThere wide o z None more left) s.core t in (
        left,
        record {
          items = s.items;
          at = old.place;
          rest = ys;
          taken = s.taken;
          mid = more;
          met = met;
          there = b;
          ends = elim front [
            | inl none ↦ inl none
            | inr (x, is, f) ↦ absurd (cc is)
          ];
        },
        n,
      )) known m.takes
  met_there (Err fault) now m there =
      known_then all old.left next.left _ _ (λ bytes l. Finds wide o core bytes Same now ahead)
      (λ xs ys zs s k.
      let (more, met, h) = s.met ahead was in
      let (left, t, n) = there more h in
      let (b, front) = subst (λ z. IsThere wide o z None more left) s.core t in (
        left,
        record {
          items = s.items;
          at = old.place;
          rest = ys;
          taken = s.taken;
          mid = more;
          met = met;
          there = b;
          ends = elim front [
            | inl none ↦ inl none
            | inr (x, is, f) ↦ absurd (cc is)
          ];
        },
        n,
      )) known m.takes

  -- an item that has other parts
  pub met_other : (told : Result (Option TapeItem) ImageFault) → Met old told next
      → ((more : List Portion) → here more → (item : TapeItem) × (came_of told ≡ Some item)
      × IsOther wide o mid item more)
      → IfKnown all next.left (λ bytes left. IsUnlike wide o core bytes ahead)
  met_other (Ok (Some item)) m other =
      known_then all old.left next.left _ _ (λ bytes left. IsUnlike wide o core bytes ahead)
      (λ xs ys zs s k.
      let (more, met, h) = s.met ahead was in
      let (x, is, f) = other more h in
      record {
        items = s.items;
        item = item;
        at = next.place;
        rest = zs;
        taken = walks_on old.place next.place xs ys zs s.items item s.taken k;
        left = more;
        met = met;
        other = subst (λ z. IsOther wide o z item more) s.core
            (subst (λ z. IsOther wide o mid z more) (let e : x ≡ item = cc is in e) f);
      }) known m.takes
  met_other (Ok None) m other =
      known_then all old.left next.left _ _ (λ bytes left. IsUnlike wide o core bytes ahead)
      (λ xs ys zs s k. absurd (
      let (more, met, h) = s.met ahead was in
      let (x, is, f) = other more h in cc is)) known m.takes
  met_other (Err fault) m other =
      known_then all old.left next.left _ _ (λ bytes left. IsUnlike wide o core bytes ahead)
      (λ xs ys zs s k. absurd (
      let (more, met, h) = s.met ahead was in
      let (x, is, f) = other more h in cc is)) known m.takes

  -- the end of the reading
  pub met_over : (told : Result (Option TapeItem) ImageFault) → Met old told next
      → ((step_by wide mid (came_of told)).0 ≢ Passed)
      → IfKnown all next.left (λ bytes l. IsSameTo IsOver wide o core bytes ahead)
  met_over (Ok (Some item)) m ends =
      known_then all old.left next.left _ _ (λ bytes l. IsSameTo IsOver wide o core bytes ahead)
      (λ xs ys zs s k.
      let (more, met, h) = s.met ahead was in
      record {
        items = s.items;
        at = old.place;
        rest = ys;
        taken = s.taken;
        left = more;
        met = met;
        ends = inl (
          item,
          next.place,
          zs,
          walks_on old.place next.place xs ys zs s.items item s.taken k,
          subst (λ z. (step_by wide z (Some item)).0 ≢ Passed) s.core ends,
        );
      }) known m.takes
  met_over (Ok None) m ends =
      known_then all old.left next.left _ _ (λ bytes l. IsSameTo IsOver wide o core bytes ahead)
      (λ xs ys zs s k.
      let (more, met, h) = s.met ahead was in
      record {
        items = s.items;
        at = old.place;
        rest = ys;
        taken = s.taken;
        left = more;
        met = met;
        ends = inr (inl (
          m.ending,
          next.place,
          zs,
          TakesEnd-behind 0 old.place next.place xs ys zs s.items m.ending s.taken k,
        ));
      }) known m.takes
  met_over (Err fault) m ends =
      known_then all old.left next.left _ _ (λ bytes l. IsSameTo IsOver wide o core bytes ahead)
      (λ xs ys zs s k.
      let (more, met, h) = s.met ahead was in
      record {
        items = s.items;
        at = old.place;
        rest = ys;
        taken = s.taken;
        left = more;
        met = met;
        ends = inr (inr (
          fault,
          zs,
          TakesFault-behind 0 old.place xs ys zs s.items fault s.taken k,
        ));
      }) known m.takes

  -- an unreadable item
  pub met_bad : (told : Result (Option TapeItem) ImageFault) → Met old told next
      → (came_of told ≡ Some bad) × IsBehind o.from mid.phase
      → IfKnown all next.left (λ bytes l. IsSameTo IsCut wide o core bytes ahead)
  met_bad (Ok (Some item)) m (is, b) =
      known_then all old.left next.left _ _ (λ bytes l. IsSameTo IsCut wide o core bytes ahead)
      (λ xs ys zs s k.
      let (more, met, h) = s.met ahead was in
      record {
        items = s.items;
        at = old.place;
        rest = ys;
        taken = s.taken;
        left = more;
        met = met;
        ends = (
          next.place,
          zs,
          subst (λ z. Walks 0 xs (s.items ++ z ∷ []) next.place zs)
              (let e : item ≡ bad = cc is in e)
              (walks_on old.place next.place xs ys zs s.items item s.taken k),
          subst (λ z. IsBehind o.from z.phase) s.core b,
        );
      }) known m.takes
  met_bad (Ok None) m (is, b) = absurd (cc is)
  met_bad (Err fault) m (is, b) = absurd (cc is)

-- ---- the answer of the comparison

module _ (wide : Bool) (o : Overlap) (core mid : State) (all : Option (List ℕ)) (old next : Reader)
    (before here now : List Portion → Type 0)
    (known : IfKnown all old.left (MetSoFar wide o.from core mid old.place before here))
    (told : Result (Option TapeItem) ImageFault) (m : Met old told next) where
  pub said : (found : Found) → (Some found ≡ Some Same → (more : List Portion) → here more
      → (left : List Portion) × IsThere wide o mid (came_of told) more left × now left)
      → (Some found ≡ Some Other → (more : List Portion) → here more
      → (item : TapeItem) × (came_of told ≡ Some item) × IsOther wide o mid item more)
      → (Some found ≡ Some Unknown → (came_of told ≡ Some bad) × IsBehind o.from mid.phase)
      → (Some found ≢ Some Ended) → (ahead : List Portion) → before ahead
      → IfKnown all next.left (λ bytes l. Finds wide o core bytes found now ahead)
  said Same there other cut ends ahead was =
      met_there wide o core mid all old next before here known ahead was told now m (there refl)
  said Other there other cut ends ahead was =
      met_other wide o core mid all old next before here known ahead was told m (other refl)
  said Unknown there other cut ends ahead was =
      met_bad wide o core mid all old next before here known ahead was told m (cut refl)
  said Ended there other cut ends ahead was = absurd (ends refl)
