-- The reader during a mount: of a copy and the items after it, or of a foreign reel.
use Rattle.std.proofs.Common.{◌≡◌, ◌≢◌, ◌⊎◌, inl, inr, ℕ, zero, suc, ◌+◌, ◌<◌, ◌≤◌, Bool, cond}
use Rattle.std.proofs.Common.{List, [], ◌∷◌, ◌++◌, length, take, drop, Option, Some, refl, sym, ap}
use Rattle.std.proofs.Common.{subst, ◌∙◌, arith, length-append, slice_get}
use Rattle.std.proofs.lemmas.List.{take-append-drop, take_all}
use Rattle.tape_blocks.specs.Block.{Portion}
use Rattle.tape_image.specs.Tape.{TapeItem, bad}
use Rattle.tape_set.specs.{declared.position.Position.Position, Layout.FileSet, Layout.items}
use Rattle.tape_set.specs.{Lawful.IsLawful, Reading.Reading, Reading.as_read, Reach.far}
use Rattle.tape_core.specs.{declared.event.Answer.Answer, State.State}
use Rattle.tape_core.specs.declared.event.Answer.TheVariants.{Passed, Deliver}
use Rattle.tape_core.specs.{Place.rest_of, Place.IsPlaced, Foreign.IsForeignAt, Foreign.Unmoved}
use Rattle.tape_core.specs.Table.{Outcome, mount_of}
use Rattle.tape_core.specs.Table as Table
use Rattle.tape_core.specs.Wide.{step_by, read_as}
use Rattle.tape_core.proofs.WideCopies.{by_copy, as_copy, by_behind, by_foreign}
use Rattle.tape_core.specs.Follows.{reading, IsAt, IsFinal, IsReading, Kept, Idle, Gives, Delivers}
use Rattle.tape_core.proofs.Steps.{mounts, step_reads, position_reads}
use Rattle.tape_core.proofs.{IdleSteps.idle_reads, Standing.rests, Standing.rested}
use Rattle.tape_core.proofs.ForeignLaws.{foreign_mount, foreign_step}
use Rattle.tape_run.specs.Mount.{MountEvent, reads, foreign_reel, saves, restarts, IsCopy, IsMount}
use Rattle.tape_run.specs.Mount.{cut, after_mount}

-- The mount of these items, which began at p, is under way, and i of them were processed: the
-- reader follows the reading, or the rest of a foreign reel is still to come.
abbrev pub is_under : State → FileSet → Position → List TapeItem → ℕ → MountEvent → Type 0
is_under core set p xs i (reads r) = IsReading set p r.volume (take i r.good) core
is_under core set p xs i foreign_reel = (core.position ≡ p)
    × IsForeignAt set.set_id (drop i xs) core.position core.phase
is_under core set p xs i saves = ⊥
is_under core set p xs i (restarts n) = ⊥

-- One item of a mount that began at p: the state agrees with the parts that the step delivered, and
-- after a final answer no further item of the mount changes the position.
pub record Took (set : FileSet) (p : Position) (h : MountEvent) (item : Option TapeItem)
    (answer : Answer) (old new : State) : Type 0 where
  pub at : IsAt set new
  pub gives : (x : TapeItem) × (item ≡ Some x) × Gives set x answer old new
  pub done : IsFinal answer → new.position ≡ after_mount set new.file p h

-- ---- items

-- The item at an index of the items read.
record ReadAt (its : List TapeItem) (good : List Bool) (more : List TapeItem) (i : ℕ) : Type 0 where
  pub g : Bool
  pub item : TapeItem
  pub stands : slice_get its i ≡ Some item
  pub came : slice_get (as_read its good ++ more) i ≡ Some (cond g item bad)
  pub longer : take (i + 1) good ≡ take i good ++ g ∷ []
  pub count : length (take i good) ≡ i

read_at : (its : List TapeItem) (good : List Bool) (more : List TapeItem) (i : ℕ) → i < length good
    → length good ≤ length its → ReadAt its good more i
read_at its [] more i h le = absurd (omega (arith, h))
read_at [] (g ∷ gs) more i h le = absurd (omega (arith, le))
read_at (x ∷ its) (g ∷ gs) more zero h le =
    record { g = g; item = x; stands = refl; came = refl; longer = refl; count = refl }
read_at (x ∷ its) (g ∷ gs) more (suc i) h le =
    grind (arith, read_at its gs more i (omega (arith, h)) (omega (arith, le)))

-- The item at an index, and the items after it.
record ItemAt (xs : List TapeItem) (i : ℕ) : Type 0 where
  pub item : TapeItem
  pub there : slice_get xs i ≡ Some item
  pub left : drop i xs ≡ item ∷ drop (i + 1) xs

item_at : (xs : List TapeItem) (i : ℕ) → i < length xs → ItemAt xs i
item_at [] i h = absurd (omega (arith, h))
item_at (x ∷ xs) zero h = record { item = x; there = refl; left = refl }
item_at (x ∷ xs) (suc i) h =
    let next = item_at xs i (omega (arith, h)) in
    let e : suc i + 1 ≡ suc (i + 1) = omega arith in
    record { item = next.item; there = next.there; left = rw e next.left }

as_read_short : (xs : List TapeItem) (good : List Bool) → length (as_read xs good) ≤ length good
as_read_short [] good = omega arith
as_read_short (x ∷ xs) [] = omega arith
as_read_short (x ∷ xs) (g ∷ gs) = omega (arith, as_read_short xs gs)

-- some items are left after those that were read
some_more : (its : List TapeItem) (good : List Bool) (more xs : List TapeItem) (i : ℕ)
    → xs ≡ as_read its good ++ more → length good ≤ i → i < length xs → more ≢ []
some_more its good more xs i e le lt = λ none.
    let n : length xs ≡ length (as_read its good) + length more =
    ap length e ∙ length-append (as_read its good) more in
    let m : length more ≡ 0 = ap length none in
    absurd (omega (arith, le, lt, n, m, as_read_short its good))

-- ---- what a step gives

delivers_rest : (set : FileSet) (x : TapeItem) (old new : State) → Delivers set x old new
    → Delivers set x (rest_of old) (rest_of new)
delivers_rest set x old new d = grind (arith)

gives_rest : (set : FileSet) (x : TapeItem) (answer : Answer) (old new : State)
    → Gives set x answer old new → Gives set x answer (rest_of old) (rest_of new)
gives_rest set x Passed old new g = g
gives_rest set x Deliver old new g = delivers_rest set x old new g
gives_rest set x _ old new g = g

gives_silent : (set : FileSet) (x : TapeItem) (answer : Answer) (old new : State) → answer ≢ Deliver
    → new.file ≡ old.file → new.position ≡ old.position
    → Gives set x answer (rest_of old) (rest_of new)
gives_silent set x Passed old new n f p = rw (f, p) refl
gives_silent set x Deliver old new n f p = absurd (n refl)
gives_silent set x _ old new n f p = rw (f, p) refl

-- ---- a mount begins

pub begins : (core new : State) → new ≡ mount_of core → rest_of new ≡ rest_of core → (set : FileSet)
    (parts : List Portion) (xs : List TapeItem) (h : MountEvent) → IsLawful set → IsMount set xs h
    → IsPlaced set (rest_of core) parts → is_under new set core.position xs 0 h
begins core new is same set parts xs (reads r) l m a = mounts _ _ is _ r.volume (rested _ _ a.at)
begins core new is same set parts xs foreign_reel l m a =
    (ap (λ (z : State). z.position) same, foreign_mount core new is set xs (rested set core a.at) m)
begins core new is same set parts xs saves l m a = absurd m
begins core new is same set parts xs (restarts n) l m a = absurd m

-- ---- an item is taken

pub record Both (wide : Bool) (set : FileSet) (p : Position) (xs : List TapeItem) (i : ℕ)
    (h : MountEvent)
    (arrived : Option TapeItem) (core : State) (out : Outcome) : Type 0 where
  pub took : Took set p h arrived out.0 (rest_of core) (rest_of out.1)
  pub plain : out.0 ≡ Deliver → (x : TapeItem) → arrived ≡ Some x → read_as wide core x ≡ x
  pub under : is_under out.1 set p xs (i + 1) h

copy_inside : (wide : Bool) (core : State) (out : Outcome) (arrived : Option TapeItem)
    → out ≡ step_by wide core arrived → (set : FileSet) (p : Position) (xs : List TapeItem) (i : ℕ)
    (r : Reading) → IsLawful set → IsCopy set xs r → IsReading set p r.volume (take i r.good) core
    → arrived ≡ slice_get xs i → i < length r.good → Both wide set p xs i (reads r) arrived core out
copy_inside wide core out arrived is set p xs i r l m u e lt =
    let at = read_at _ _ m.more _ lt m.is_reading.within in
    let came : arrived ≡ Some (cond at.g at.item bad) =
    e ∙ (ap (λ z. slice_get z i) m.whole ∙ at.came) in
    let here : slice_get (items set r.volume) (length (take i r.good)) ≡ Some at.item =
    ap (slice_get (items set r.volume)) at.count ∙ at.stands in
    let same = by_copy wide core arrived set p r.volume (take i r.good) at.g at.item l
    m.is_reading.volume here came u in
    let kept : Kept set p r.volume (take i r.good ++ at.g ∷ []) (cond at.g at.item bad) core out =
    step_reads core out arrived (is ∙ same) _ _ _ _ _ _ l m.is_reading.volume here came u in
    let whole : (take i r.good ++ at.g ∷ []) ++ drop (i + 1) r.good ≡ r.good =
    ap (λ z. z ++ drop (i + 1) r.good) (sym at.longer) ∙ take-append-drop (i + 1) r.good in
    record {
      took = record {
        at = rests _ _ kept.reads.at;
        gives = (
          cond at.g at.item bad,
          came,
          gives_rest _ _ _ _ _ kept.gives,
        );
        done = λ f. sym (kept.done f (drop (i + 1) r.good)) ∙ ap
            (λ z. far set out.1.file p (reading r.volume z)) whole;
      };
      plain = λ d x came_x.
          let it : x ≡ cond at.g at.item bad = cc (came, came_x) in
          let told : (Table.step_of core (Some (cond at.g at.item bad))).0 ≡ Deliver =
          ap (λ z. (Table.step_of core z).0) (sym came)
          ∙ (sym (ap (λ (z : Outcome). z.0) (is ∙ same)) ∙ d) in
          subst (λ (y : TapeItem). read_as wide core y ≡ y) (sym it)
          (as_copy wide core set p r.volume (take i r.good) at.g at.item l m.is_reading.volume here
          u told);
      under = subst (λ z. IsReading set p r.volume z out.1) (sym at.longer) kept.reads;
    }

copy_behind : (wide : Bool) (core : State) (out : Outcome) (arrived : Option TapeItem)
    → out ≡ step_by wide core arrived → (set : FileSet) (p : Position) (xs : List TapeItem) (i : ℕ)
    (r : Reading) → IsLawful set → IsCopy set xs r → IsReading set p r.volume (take i r.good) core
    → i < length xs → arrived ≡ slice_get xs i → length r.good ≤ i
    → Both wide set p xs i (reads r) arrived core out
copy_behind wide core out arrived is set p xs i r l m u lt e le =
    let at = item_at xs i lt in
    let came : arrived ≡ Some at.item = e ∙ at.there in
    let all : take i r.good ≡ r.good = take_all i r.good le in
    let more : take (i + 1) r.good ≡ r.good = take_all (i + 1) r.good (omega (arith, le)) in
    let whole = m.behind (some_more (items set r.volume) r.good m.more xs i m.whole le lt) in
    let idle : Idle set p r.volume r.good core out =
    idle_reads core out arrived (is ∙ by_behind wide core arrived set p r.volume r.good whole.0
    (subst (λ z. IsReading set p r.volume z core) all u)) set p r.volume r.good at.item l
    m.is_reading.volume whole.0
    whole.1 came (subst (λ z. IsReading set p r.volume z core) all u) in
    record {
      took = record {
        at = rests set out.1 idle.reads.at;
        gives = (
          at.item,
          came,
          gives_silent set at.item out.0 core out.1 idle.silent idle.same_file idle.same_position,
        );
        done = λ f. position_reads out.1 set p r.volume r.good l m.is_reading.volume idle.reads;
      };
      plain = λ d x came_x. absurd (idle.silent d);
      under = subst (λ z. IsReading set p r.volume z out.1) (sym more) idle.reads;
    }

less_or : (i n : ℕ) → (i < n) ⊎ (n ≤ i)
less_or i zero = inr (omega arith)
less_or zero (suc n) = inl (omega arith)
less_or (suc i) (suc n) = up (less_or i n)
  where
    up : (i < n) ⊎ (n ≤ i) → (suc i < suc n) ⊎ (suc n ≤ suc i)
    up (inl h) = inl (omega (arith, h))
    up (inr h) = inr (omega (arith, h))

foreign_item : (wide : Bool) (core : State) (out : Outcome) (arrived : Option TapeItem)
    → out ≡ step_by wide core arrived → (set : FileSet) (p : Position) (xs : List TapeItem) (i : ℕ)
    → IsAt set core → is_under core set p xs i foreign_reel
    → i < length xs → arrived ≡ slice_get xs i → Both wide set p xs i foreign_reel arrived core out
foreign_item wide core out arrived is set p xs i a u lt e =
    let at = item_at _ _ lt in
    let came : arrived ≡ Some at.item = e ∙ at.there in
    let still : Unmoved set (drop (i + 1) xs) core out =
    foreign_step core out arrived (is ∙ by_foreign wide core arrived set.set_id
    (at.item ∷ drop (i + 1) xs) (subst
    (λ z. IsForeignAt set.set_id z core.position core.phase) at.left u.1)) _ _ (drop (i + 1) xs)
    came a (subst (λ z. IsForeignAt set.set_id z core.position core.phase) at.left u.1) in
    record {
      took = record {
        at = rests _ _ still.at;
        gives = (
          at.item,
          came,
          gives_silent set at.item _ _ _ still.silent still.same_file still.same_position,
        );
        done = λ f. still.same_position ∙ u.0;
      };
      plain = λ d x came_x. absurd (still.silent d);
      under = (still.same_position ∙ u.0, still.foreign);
    }

pub both : (wide : Bool) (core : State) (out : Outcome) (arrived : Option TapeItem) → out
    ≡ step_by wide core arrived
    → (set : FileSet) (parts : List Portion) (p : Position) (xs : List TapeItem) (i : ℕ)
    (h : MountEvent) → IsLawful set → IsMount set xs h → IsPlaced set (rest_of core) parts
    → is_under core set p xs i h → i < length xs → arrived ≡ slice_get xs i
    → Both wide set p xs i h arrived core out
both wide core out arrived is set parts p xs i (reads r) l m a u lt e = pick
    (less_or i (length r.good))
  where
    pick : (i < length r.good) ⊎ (length r.good ≤ i) → Both wide set p xs i
        (reads r) arrived core out
    pick (inl h) = copy_inside wide core out arrived is set p xs i r l m u e h
    pick (inr h) = copy_behind wide core out arrived is set p xs i r l m u lt e h
both wide core out arrived is set parts p xs i foreign_reel l m a u lt e =
    foreign_item wide core out arrived is set p xs i (rested set core a.at) u lt e
both wide core out arrived is set parts p xs i saves l m a u lt e = absurd m
both wide core out arrived is set parts p xs i (restarts n) l m a u lt e = absurd m

-- the position is the one that the mount reaches so far
pub reached : (core : State) (set : FileSet) (p : Position) (xs : List TapeItem)
    (i : ℕ) (h : MountEvent)
    → IsLawful set → IsMount set xs h → is_under core set p xs i h
    → core.position ≡ after_mount set core.file p (cut i h)
reached core set p xs i (reads r) l m u = position_reads _ _ _ _ _ l m.is_reading.volume u
reached core set p xs i foreign_reel l m u = u.0
reached core set p xs i saves l m u = absurd m
reached core set p xs i (restarts n) l m u = absurd m

-- ---- a mount read to its end

pub as_read_length : (xs : List TapeItem) (good : List Bool) → length good ≤ length xs
    → length (as_read xs good) ≡ length good
as_read_length [] [] h = refl
as_read_length [] (g ∷ gs) h = absurd (omega (arith, h))
as_read_length (x ∷ xs) [] h = refl
as_read_length (x ∷ xs) (g ∷ gs) h = omega (arith, as_read_length xs gs (omega (arith, h)))

pub cut_whole : (set : FileSet) (xs : List TapeItem) (h : MountEvent) → IsMount set xs h
    → cut (length xs) h ≡ h
cut_whole set xs (reads r) m = grind (arith, as_read_length, length-append, take_all)
cut_whole set xs foreign_reel m = refl
cut_whole set xs saves m = absurd m
cut_whole set xs (restarts n) m = absurd m
