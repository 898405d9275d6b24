-- One item of the merged tape, as readings are asked for it one after another, and what readings
-- have taken.
use Rattle.std.specs.Prelude.{◌≡◌, ◌≢◌, ◌⊎◌, ℕ, ◌+◌, ◌-◌, ◌≤◌, Bool, true, false, List, [], ◌∷◌}
use Rattle.std.specs.Prelude.{◌++◌, length, map, slice_get, Option, Some, None, ⊤}
use Rattle.tape_image.specs.declared.item.{Ending.Ending, ImageFault.ImageFault}
use Rattle.tape_image.specs.Tape.{TapeItem, block, bad, mark}
use Rattle.tape_image.specs.Reader.{Reader, Status, going, ended, failed}
use Rattle.tape_image.specs.{Step.GivesItem, Step.MeetsEnd, Step.MeetsFault, Calls.Gave}
use Rattle.tape_run.specs.declared.merge.reading.{Reading.Reading, Verdict.Verdict}
use Rattle.tape_run.specs.declared.merge.reading.Verdict.TheVariants as verdicts

-- ---- one item of the merged tape

-- the item can be at the same place of one tape as the best one so far
abbrev pub agrees : Option TapeItem → TapeItem → Type 0
agrees None x = ⊤
agrees (Some bad) x = ⊤
agrees (Some (block bytes)) (block others) = bytes ≡ others
agrees (Some (block bytes)) bad = ⊤
agrees (Some (block bytes)) mark = ⊥
agrees (Some mark) (block bytes) = ⊥
agrees (Some mark) bad = ⊤
agrees (Some mark) mark = ⊤

-- the better of the best item so far and one that agrees with it: any item is better than none, and
-- a readable one better than a bad one
abbrev pub joined : Option TapeItem → TapeItem → TapeItem
joined None x = x
joined (Some bad) x = x
joined (Some (block bytes)) x = block bytes
joined (Some mark) x = mark

-- the best item, if there is one
abbrev pub best_items : Option TapeItem → List TapeItem
best_items None = []
best_items (Some x) = x ∷ []

-- The item agrees, and the better of the two is now the best one; or it does not agree, and nothing
-- changed.
abbrev pub Takes : Option TapeItem → TapeItem → Bool → Option TapeItem → Type 0
Takes best x true now = agrees best x × (now ≡ Some (joined best x))
Takes best x false now = (agrees best x → ⊥) × (now ≡ best)

-- the number of bytes of a block; 0 for any other item
abbrev pub block_length : TapeItem → ℕ
block_length (block bytes) = length bytes
block_length bad = 0
block_length mark = 0

-- the item is a bad one
abbrev pub is_bad_one : Option TapeItem → Bool
is_bad_one None = false
is_bad_one (Some (block content)) = false
is_bad_one (Some bad) = true
is_bad_one (Some mark) = false

-- the item could be read
abbrev pub is_good_one : Option TapeItem → Bool
is_good_one None = false
is_good_one (Some (block content)) = true
is_good_one (Some bad) = false
is_good_one (Some mark) = true

abbrev pub one_if : Bool → ℕ
one_if true = 1
one_if false = 0

-- the item of each reading after a number of items, if it has as many
abbrev pub column : ℕ → List (List TapeItem) → List (Option TapeItem)
column j rs = map (λ r. slice_get r j) rs

-- how many of these items could be read
abbrev pub goods_in : List (Option TapeItem) → ℕ
goods_in [] = 0
goods_in (x ∷ xs) = one_if (is_good_one x) + goods_in xs

-- the number of bad items
abbrev pub bads : List TapeItem → ℕ
bads [] = 0
bads (x ∷ xs) = one_if (is_bad_one (Some x)) + bads xs

-- ---- a reading that is asked for its next item

-- How the item of a reading compares with the best one, which it may replace, and, if it differs,
-- with the other one.
abbrev pub Compares : Verdict → TapeItem → Option TapeItem → Option TapeItem → Option TapeItem
    → Option TapeItem → Type 0
Compares verdicts.First x best now other beside =
    (x ≢ bad) × Takes best x true now × (beside ≡ other)
Compares verdicts.Bad x best now other beside = (x ≡ bad) × Takes best x true now × (beside ≡ other)
Compares verdicts.Second x best now other beside =
    Takes best x false now × Takes other x true beside
Compares verdicts.Third x best now other beside =
    Takes best x false now × Takes other x false beside
Compares verdicts.Ended x best now other beside = ⊥
Compares (verdicts.Failed fault) x best now other beside = ⊥

-- The reader has stopped: it reached the end or a fault now, or did so before and is unchanged.
abbrev pub Stopped : Reader → Reader → Type 0
Stopped old new =
    ((old.status ≡ going) × (MeetsEnd old new ⊎ ((fault : ImageFault) × MeetsFault old fault new)))
    ⊎ ((old.status ≢ going) × (new ≡ old))

-- the end of a reading
abbrev pub StopsAs : Verdict → Status → Type 0
StopsAs verdicts.Ended status = (ending : Ending) × (status ≡ ended ending)
StopsAs (verdicts.Failed fault) status = status ≡ failed fault
StopsAs verdicts.First status = ⊥
StopsAs verdicts.Bad status = ⊥
StopsAs verdicts.Second status = ⊥
StopsAs verdicts.Third status = ⊥

-- the count increased by n, but never exceeds its greatest value
abbrev pub RisesBy : ℕ → ℕ → ℕ → Type 0
RisesBy old more new = old + more ≤ 18446744073709551615 → new ≡ old + more

-- the fields of a reading after one more item
pub record CountsItem {R : Type 0} (old new : Reading R) (x : TapeItem) : Type 0 where
  pub items : RisesBy old.items 1 new.items
  pub bad : RisesBy old.bad (one_if (is_bad_one (Some x))) new.bad
  pub from : new.from ≡ old.image.place
  pub len : new.length ≡ block_length x

-- the fields of a reading before anything was read
pub record CountsNothing {R : Type 0} (old new : Reading R) : Type 0 where
  pub items : new.items ≡ old.items
  pub bad : new.bad ≡ old.bad
  pub from : new.from ≡ old.from
  pub len : new.length ≡ old.length

-- The reading was asked for its next item: the best item and the other one changed in this way.
pub data Asked {R : Type 0} (old new : Reading R) (best now other beside : Option TapeItem)
    : Type 0 where
  gives : (x : TapeItem) → old.image.status ≡ going → GivesItem old.image x new.image
      → Compares new.verdict x best now other beside → CountsItem old new x
      → Asked old new best now other beside
  stops : Stopped old.image new.image → StopsAs new.verdict new.image.status → CountsNothing old new
      → now ≡ best → beside ≡ other → Asked old new best now other beside

-- the readings were asked one after another
abbrev pub AskedAll : {R : Type 0} → List (Reading R) → List (Reading R) → Option TapeItem
    → Option TapeItem → Option TapeItem → Option TapeItem → Type 0
AskedAll [] [] best now other beside = (now ≡ best) × (beside ≡ other)
AskedAll (o ∷ olds) (n ∷ nows) best now other beside =
    (mid : Option TapeItem) × (between : Option TapeItem) × Asked o n best mid other between
    × AskedAll olds nows mid now between beside
AskedAll _ _ best now other beside = ⊥

-- ---- what readings have taken

-- The reader returned the items, from where it began, and continues after them, or reached the end
-- or a fault there.
pub record HasRead (first now : Reader) (items : List TapeItem) : Type 0 where
  pub behind : Reader
  pub gave : Gave first items behind
  pub stands : (now ≡ behind)
      ⊎ (MeetsEnd behind now ⊎ ((fault : ImageFault) × MeetsFault behind fault now))

-- the last of the items is this one
abbrev pub EndWith : List TapeItem → TapeItem → Type 0
EndWith items x = (before : List TapeItem) × (items ≡ before ++ x ∷ [])

-- The fields record where the last item that was read begins, and its length.
pub data TookLast {R : Type 0} (first now : Reading R) (items : List TapeItem) : Type 0 where
  nothing : items ≡ [] → now.from ≡ first.from → now.length ≡ first.length
      → TookLast first now items
  last : (before : List TapeItem) (x : TapeItem) (mid : Reader) → items ≡ before ++ x ∷ []
      → Gave first.image before mid → now.from ≡ mid.place → now.length ≡ block_length x
      → TookLast first now items

-- The reading consists of these items of its image, from where it began, and they were counted.
pub record HasTaken {R : Type 0} (first now : Reading R) (taken : List TapeItem) : Type 0 where
  pub read : HasRead first.image now.image taken
  pub items : RisesBy first.items (length taken) now.items
  pub bad : RisesBy first.bad (bads taken) now.bad
  pub last : TookLast first now taken

-- each reading consists of the items in its list
abbrev pub HaveTaken : {R : Type 0} → List (Reading R) → List (Reading R) → List (List TapeItem)
    → Type 0
HaveTaken [] [] [] = ⊤
HaveTaken (f ∷ firsts) (n ∷ nows) (r ∷ readings) = HasTaken f n r × HaveTaken firsts nows readings
HaveTaken _ _ _ = ⊥

-- every reading has stopped, and its verdict says how
abbrev pub AllStopped : {R : Type 0} → List (Reading R) → Type 0
AllStopped [] = ⊤
AllStopped (r ∷ rs) = StopsAs r.verdict r.image.status × AllStopped rs

-- Each reading was read up to item n, counted from 1, or stopped before it.
abbrev pub AreUpTo : {R : Type 0} → ℕ → List (Reading R) → List (List TapeItem) → Type 0
AreUpTo number [] [] = ⊤
AreUpTo number (n ∷ nows) (r ∷ readings) = (n.image.status ≡ going → length r ≡ number)
    × (n.image.status ≢ going → length r ≤ number - 1) × AreUpTo number nows readings
AreUpTo number _ _ = ⊥

-- The meaning of the verdict on a reading of these items: how the last item compares with the best
-- one and the other one, or how the reading stopped.
abbrev pub Judges : Verdict → Status → List TapeItem → Option TapeItem → Option TapeItem → Type 0
Judges verdicts.First status items best other = (status ≡ going) × (x : TapeItem)
    × EndWith items x × (x ≢ bad) × (best ≡ Some x)
Judges verdicts.Bad status items best other = (status ≡ going) × EndWith items bad
Judges verdicts.Second status items best other = (status ≡ going) × (x : TapeItem)
    × EndWith items x × (x ≢ bad) × (best ≢ Some x) × (other ≡ Some x)
Judges verdicts.Third status items best other = (status ≡ going) × (x : TapeItem)
    × EndWith items x × (x ≢ bad) × (best ≢ Some x) × (other ≢ Some x)
Judges verdicts.Ended status items best other = StopsAs verdicts.Ended status
Judges (verdicts.Failed fault) status items best other = StopsAs (verdicts.Failed fault) status

-- the same for the verdicts of all readings
abbrev pub AreJudged : {R : Type 0} → List (Reading R) → List (List TapeItem) → Option TapeItem
    → Option TapeItem → Type 0
AreJudged [] [] best other = ⊤
AreJudged (n ∷ nows) (r ∷ readings) best other =
    Judges n.verdict n.image.status r best other × AreJudged nows readings best other
AreJudged _ _ best other = ⊥

-- the first of these items that meets a condition, if there is one
abbrev pub IsFirst : (TapeItem → Type 0) → List (Option TapeItem) → Option TapeItem → Type 0
IsFirst holds [] first = first ≡ None
IsFirst holds (None ∷ xs) first = IsFirst holds xs first
IsFirst holds (Some x ∷ xs) first =
    (holds x × (first ≡ Some x)) ⊎ ((holds x → ⊥) × IsFirst holds xs first)

-- The verdicts compare the items after a number of items: the best one is the first that could be
-- read, and the other one is the first readable item that differs from it.
pub record AreJudgedAt {R : Type 0} (k : ℕ) (nows : List (Reading R))
    (readings : List (List TapeItem)) : Type 0 where
  pub best : Option TapeItem
  pub other : Option TapeItem
  pub first : IsFirst (λ x. x ≢ bad) (column k readings) best
  pub second : IsFirst (λ x. (x ≢ bad) × (best ≢ Some x)) (column k readings) other
  pub judged : AreJudged nows readings best other
