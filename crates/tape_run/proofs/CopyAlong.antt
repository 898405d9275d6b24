-- A core on its way through a mount.
use Rattle.std.proofs.Common.{◌≡◌, ◌⊎◌, inl, inr, ℕ, zero, suc, ◌+◌, ◌<◌, ◌≤◌, Bool, true, false}
use Rattle.std.proofs.Common.{cond, List, [], ◌∷◌, ◌++◌, length, take, drop, Some, refl, sym}
use Rattle.std.proofs.Common.{ap, subst, ◌∙◌, arith, length-append, slice_get}
use Rattle.std.proofs.Common.{nat_lt}
use Rattle.std.proofs.{lemmas.List.length-map, lemmas.Bool.Decides.nat_tests}
use Rattle.tape_image.specs.Tape.{TapeItem, bad}
use Rattle.tape_set.specs.{declared.position.Position.Position, Before.before, Reading.Reading}
use Rattle.tape_set.specs.Layout.{FileSet, Entry, items, item_of, entries}
use Rattle.tape_set.specs.{Lawful.IsLawful, Reading.as_read}
use Rattle.tape_core.specs.{State.State, Table.mount_of, Wide.step_by, Place.rest_of}
use Rattle.tape_core.specs.{Place.IsPlaced, Follows.IsAt, Follows.Left}
use Rattle.tape_core.specs.{declared.event.Phase.Phase}
use Rattle.tape_core.proofs.Standing.{rests, rested}
use Rattle.tape_run.specs.{Reels.behind_items, Mount.MountEvent, Mount.IsMount, Mount.IsCopy}
use Rattle.tape_run.proofs.Mounts.{is_under, begins, both, Both, as_read_length}
use Rattle.tape_run.proofs.ByTable.{resting_mounted}

-- the first of some items, and the others
pub record First (xs : List TapeItem) (i : ℕ) (x : TapeItem) (rest : List TapeItem) : Type 0 where
  pub within : i < length xs
  pub there : slice_get xs i ≡ Some x
  pub behind : drop (i + 1) xs ≡ rest

pub first_of : (xs : List TapeItem) (i : ℕ) (x : TapeItem) (rest : List TapeItem)
    → drop i xs ≡ x ∷ rest → First xs i x rest
first_of [] zero x rest e = absurd (cc e)
first_of [] (suc i) x rest e = absurd (cc e)
first_of (y ∷ ys) zero x rest e =
    let same : y ≡ x = cc e in
    let others : ys ≡ rest = cc e in
    record { within = omega arith; there = ap (λ z. Some z) same; behind = others }
first_of (y ∷ ys) (suc i) x rest e =
    let r = first_of ys i x rest e in
    let n : suc i + 1 ≡ suc (i + 1) = omega arith in
    record { within = omega (arith, r.within); there = r.there; behind = rw n r.behind }

-- The core has taken the items of a mount that began at `p`, except for these.
pub record Along (set : FileSet) (p : Position) (xs : List TapeItem) (h : MountEvent) (core : State)
    (rest : List TapeItem) : Type 0 where
  pub index : ℕ
  pub left : drop index xs ≡ rest
  pub at : IsAt set core
  pub under : is_under core set p xs index h

placed : (set : FileSet) (core : State) → IsAt set core
    → IsPlaced set (rest_of core) (before set core.file core.position)
placed set core a = record { at = rests set core a; all = refl }

pub starts : (set : FileSet) (core : State) (xs : List TapeItem) (h : MountEvent) → IsLawful set
    → IsMount set xs h → IsAt set core → Along set core.position xs h (mount_of core) xs
starts set core xs h l m a =
    let same : rest_of (mount_of core) ≡ rest_of core =
    ap (λ (f : Phase). record core { phase = f }) (resting_mounted core.phase core.position) in
    record {
      index = 0;
      left = refl;
      at = rested set (mount_of core) (subst (IsAt set) (sym same) (rests set core a));
      under = begins core (mount_of core) refl same set
          (before set core.file core.position) xs h l m (placed set core a);
    }

pub next : (wide : Bool) (set : FileSet) (p : Position) (xs : List TapeItem) (h : MountEvent)
    (core : State) (x : TapeItem) (rest : List TapeItem) → IsLawful set → IsMount set xs h
    → Along set p xs h core (x ∷ rest) → Along set p xs h (step_by wide core (Some x)).1 rest
next wide set p xs h core x rest l m a =
    let f = first_of xs a.index x rest a.left in
    let b : Both wide set p xs a.index h (Some x) core (step_by wide core (Some x)) =
    both wide core (step_by wide core (Some x)) (Some x) refl set
    (before set core.file core.position) p xs a.index h l m (placed set core a.at) a.under f.within
    (sym f.there) in
    record {
      index = a.index + 1;
      left = f.behind;
      at = rested set (step_by wide core (Some x)).1 b.took.at;
      under = b.under;
    }

pub goes : (wide : Bool) (set : FileSet) (p : Position) (xs : List TapeItem) (h : MountEvent)
    (its more : List TapeItem) (core : State) → IsLawful set → IsMount set xs h
    → Along set p xs h core (its ++ more) → Along set p xs h (behind_items wide core its) more
goes wide set p xs h [] more core l m a = a
goes wide set p xs h (x ∷ its) more core l m a =
    goes wide set p xs h its more (step_by wide core (Some x)).1 l m
    (next wide set p xs h core x (its ++ more) l m a)

-- ---- the item of a copy

-- it is an item of the volume, read or not
pub record Copied (its : List TapeItem) (good : List Bool) (i : ℕ) (x : TapeItem) : Type 0 where
  pub g : Bool
  pub item : TapeItem
  pub stands : slice_get its i ≡ Some item
  pub count : length (take i good) ≡ i
  pub is : cond g item bad ≡ x

copied : (its : List TapeItem) (good : List Bool) (more : List TapeItem) (i : ℕ) (x : TapeItem)
    → i < length good → length good ≤ length its
    → slice_get (as_read its good ++ more) i ≡ Some x → Copied its good i x
copied its [] more i x lt le e = absurd (omega (arith, lt))
copied [] (g ∷ gs) more i x lt le e = absurd (omega (arith, le))
copied (y ∷ its) (g ∷ gs) more zero x lt le e =
    record { g = g; item = y; stands = refl; count = refl; is = cc e }
copied (y ∷ its) (g ∷ gs) more (suc i) x lt le e =
    let r = copied its gs more i x (omega (arith, lt)) (omega (arith, le)) e in
    record { g = r.g; item = r.item; stands = r.stands; count = ap suc r.count; is = r.is }

-- the items of the volume were all read before
pub record Behind (set : FileSet) (r : Reading) (i : ℕ) : Type 0 where
  pub all : take i r.good ≡ r.good
  pub fits : length r.good ≡ length (entries set r.volume)

taken : (good : List Bool) (i : ℕ) → length good ≤ i → take i good ≡ good
taken [] zero le = refl
taken [] (suc i) le = refl
taken (g ∷ gs) zero le = absurd (omega (arith, le))
taken (g ∷ gs) (suc i) le = ap (λ z. g ∷ z) (taken gs i (omega (arith, le)))

less_or : (i n : ℕ) → (i < n) ⊎ (n ≤ i)
less_or i n = go (nat_lt i n) refl
  where
    go : (t : Bool) → nat_lt i n ≡ t → (i < n) ⊎ (n ≤ i)
    go true e = inl (grind (arith, nat_tests))
    go false e = inr (grind (arith, nat_tests))

pub item_at : (set : FileSet) (xs : List TapeItem) (r : Reading) (i : ℕ) (x : TapeItem)
    (rest : List TapeItem) → IsCopy set xs r → First xs i x rest
    → Copied (items set r.volume) r.good i x ⊎ Behind set r i
item_at set xs r i x rest c f = elim (less_or i (length r.good)) [
  | inl lt ↦ inl (copied (items set r.volume) r.good c.more i x lt c.is_reading.within
      (ap (λ z. slice_get z i) (sym c.whole) ∙ f.there))
  | inr le ↦ inr (record {
    all = taken r.good i le;
    fits = (c.behind (λ none.
        let n : length xs ≡ length (as_read (items set r.volume) r.good) + length c.more =
        ap length c.whole ∙ length-append (as_read (items set r.volume) r.good) c.more in
        let z : length c.more ≡ 0 = ap length none in
        let k = as_read_length (items set r.volume) r.good c.is_reading.within in
        absurd (omega (arith, le, f.within, n, z, k)))).0
        ∙ length-map (entries set r.volume) item_of;
  })
]

-- then nothing of the volume is left
pub none_left : (set : FileSet) (r : Reading) (i : ℕ) (todo : List Entry) → Behind set r i
    → 0 < length todo → Left set r.volume (take i r.good) todo → ⊥
none_left set r i todo b some left =
    let n : length left.done + length todo ≡ length (entries set r.volume) =
    sym (length-append left.done todo) ∙ ap length left.whole in
    let k : length left.done ≡ length r.good = left.count ∙ ap length b.all in
    let f = b.fits in
    omega (arith, n, k, f, some)
