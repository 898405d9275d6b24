-- A disk as the calls made on it: the bytes that a read returns after them, and the contents that a
-- crash may leave at each moment.
use Rattle.std.proofs.Common.{◌≡◌, ◌⊎◌, ℕ, zero, suc, ◌+◌, ◌≤◌, Bool, true, false, List, [], ◌∷◌}
use Rattle.std.proofs.Common.{◌++◌, length, take, drop, inr, ◌-◌, replicate, refl, ◌∙◌, subst}
use Rattle.std.proofs.Common.{arith, length-append, length-drop, append-nil}
use Rattle.std.proofs.{lemmas.List.length-take-le, lemmas.List.take-append-le, lemmas.List.take_at}
use Rattle.std.proofs.{lemmas.List.drop_at, Props.props}
use Rattle.tape_stage.specs.declared.disk.content.Call.TheVariants.{Look, Write, Cut, Sync}
use Rattle.tape_stage.specs.{Disk.Torn, Disk.CutShort, declared.disk.content.Call.Call}

-- the original contents, which are saved before the first change
abbrev pub kept_or : Bool → List ℕ → List ℕ → List ℕ
kept_or true kept bytes = kept
kept_or false kept bytes = bytes

-- the bytes that a read returns after a call
abbrev pub after : List ℕ → Call → List ℕ
after seen Look = seen
after seen (Write place bytes) = take place seen ++ bytes.items ++ drop
    (place + length bytes.items) seen
after seen (Cut len) = take len seen
after seen Sync = seen

-- the contents that a crash may leave after a call
abbrev pub left_after : List ℕ → (List ℕ → Type 0) → Call → List ℕ → Type 0
left_after seen left Look c = left c
left_after seen left (Write place bytes) c = (d : List ℕ) × left d
    × Torn place (length bytes.items) d c
left_after seen left (Cut len) c = (d : List ℕ) × left d × CutShort len d c
left_after seen left Sync c = c ≡ seen

-- the same after several calls
abbrev pub seen_by : List ℕ → List Call → List ℕ
seen_by seen [] = seen
seen_by seen (call ∷ calls) = seen_by (after seen call) calls

abbrev pub left_by : List ℕ → (List ℕ → Type 0) → List Call → List ℕ → Type 0
left_by seen left [] c = left c
left_by seen left (call ∷ calls) c = left_by (after seen call) (left_after seen left call) calls c

-- the same at some moment from call number t
abbrev pub since_by : List ℕ → (List ℕ → Type 0) → List Call → ℕ → List ℕ → Type 0
since_by seen left [] zero c = left c
since_by seen left [] (suc t) c = ⊥
since_by seen left (call ∷ calls) zero c = left c
    ⊎ since_by (after seen call) (left_after seen left call) calls zero c
since_by seen left (call ∷ calls) (suc t) c = since_by (after seen call)
    (left_after seen left call) calls t c

-- the same on a disk that began with the bytes `first`, all of them durable
abbrev pub IsImage : List ℕ → List Call → List ℕ → Type 0
IsImage first calls c = left_by first (λ d. d ≡ first) calls c

abbrev pub WasImage : List ℕ → List Call → ℕ → List ℕ → Type 0
WasImage first calls t c = since_by first (λ d. d ≡ first) calls t c

-- each call is within the bytes that exist at its time
abbrev pub Fits : List ℕ → Call → Type 0
Fits seen Look = Unit {0}
Fits seen (Write place bytes) = place ≤ length seen
Fits seen (Cut len) = len ≤ length seen
Fits seen Sync = Unit {0}

abbrev pub AllFit : List ℕ → List Call → Type 0
AllFit seen [] = Unit {0}
AllFit seen (call ∷ calls) = Fits seen call × AllFit (after seen call) calls

fits_one_way : (seen : List ℕ) (call : Call) → IsProp (Fits seen call)
fits_one_way seen Look = Prim.hlevel props
fits_one_way seen (Write place bytes) = Prim.hlevel props
fits_one_way seen (Cut len) = Prim.hlevel props
fits_one_way seen Sync = Prim.hlevel props

pub fit_one_way : (seen : List ℕ) (calls : List Call) → IsProp (AllFit seen calls)
fit_one_way seen [] = Prim.hlevel props
fit_one_way seen (call ∷ calls) = Prim.hlevel
    (props, fits_one_way seen call, fit_one_way (after seen call) calls)

-- the worst contents that a crash may leave: 255 for every byte that is not durable, and no byte
-- missing
abbrev pub worst_after : List ℕ → List ℕ → Call → List ℕ
worst_after seen worst Look = worst
worst_after seen worst (Write place bytes) = take place worst ++ replicate (length bytes.items) 255
    ++ drop (place + length bytes.items) worst
worst_after seen worst (Cut len) = take len worst ++ replicate (length worst - len) 255
worst_after seen worst Sync = seen

abbrev pub worst_by : List ℕ → List ℕ → List Call → List ℕ
worst_by seen worst [] = worst
worst_by seen worst (call ∷ calls) = worst_by (after seen call) (worst_after seen worst call) calls

-- a completed write
pub over : (place : ℕ) (bytes old : List ℕ) → place ≤ length old
    → Torn place (length bytes) old (take place old ++ bytes ++ drop (place + length bytes) old)
over place bytes old le =
    let front : length (take place old) ≡ place = length-take-le place old le in
    let all : length (take place old ++ bytes ++ drop (place + length bytes) old)
    ≡ place + length bytes + (length old - (place + length bytes)) = omega (
      arith,
      front,
      length-append (take place old ++ bytes) (drop (place + length bytes) old),
      length-append (take place old) bytes,
      length-drop (place + length bytes) old,
    ) in
    record {
      before = take-append-le place (take place old ++ bytes) (drop (place + length bytes) old)
          (omega (arith, front, length-append (take place old) bytes)) ∙ take_at
          (take place old) bytes place front;
      after = drop_at (take place old ++ bytes) (drop (place + length bytes) old)
          (place + length bytes) (omega (arith, front, length-append (take place old) bytes));
      no_shorter = omega (arith, all);
      no_longer = omega (arith, all);
    }

-- a completed cut
pub cut_short : (len : ℕ) (old more : List ℕ) → len ≤ length old → length more ≤ length old - len
    → CutShort len old (take len old ++ more)
cut_short len old more le few =
    let front : length (take len old) ≡ len = length-take-le len old le in
    let all = length-append (take len old) more in
    record {
      no_shorter = omega (arith, all, front);
      no_longer = omega (arith, all, front);
      front = take_at (take len old) more len front;
    }

seen_left : (seen : List ℕ) (left : List ℕ → Type 0) (calls : List Call) → AllFit seen calls
    → left seen → left_by seen left calls (seen_by seen calls)
seen_left seen left [] fit now = now
seen_left seen left (Look ∷ calls) fit now = seen_left seen left calls fit.1 now
seen_left seen left (Write place bytes ∷ calls) fit now = seen_left (after seen (Write place bytes))
    (left_after seen left (Write place bytes)) calls fit.1
    (seen, now, over place bytes.items seen fit.0)
seen_left seen left (Cut len ∷ calls) fit now =
    seen_left (take len seen) (left_after seen left (Cut len)) calls fit.1 (
      seen,
      now,
      subst (λ (l : List ℕ). CutShort len seen l) (append-nil (take len seen))
          (cut_short len seen [] fit.0 (omega arith)),
    )
seen_left seen left (Sync ∷ calls) fit now = seen_left seen
    (left_after seen left Sync) calls fit.1 refl

-- the bytes that reads return are a possible result of a crash
pub seen_image : (first bytes : List ℕ) (calls : List Call) → AllFit first calls
    → seen_by first calls ≡ bytes → IsImage first calls bytes
seen_image first bytes calls fit is = subst (λ (b : List ℕ). IsImage first calls b) is
    (seen_left first (λ d. d ≡ first) calls fit refl)

-- the current moment is among those since an earlier moment
pub counts : (seen : List ℕ) (left : List ℕ → Type 0) (calls : List Call) (t : ℕ) (c : List ℕ)
    → t ≤ length calls → left_by seen left calls c → since_by seen left calls t c
counts seen left [] zero c le now = now
counts seen left [] (suc t) c le now = absurd (omega arith)
counts seen left (call ∷ calls) zero c le now = inr
    (counts (after seen call) (left_after seen left call) calls zero c (omega arith) now)
counts seen left (call ∷ calls) (suc t) c le now = counts (after seen call)
    (left_after seen left call) calls t c (omega arith) now

-- among the moments since the current one there is no later moment
pub only : (seen : List ℕ) (left : List ℕ → Type 0) (calls : List Call) (c : List ℕ)
    → since_by seen left calls (length calls) c → left_by seen left calls c
only seen left [] c was = was
only seen left (call ∷ calls) c was = only (after seen call) (left_after seen left call) calls c was

-- The record of a disk in memory is correct: its calls lead from the original contents to the
-- current ones, and to the worst that a crash may leave.
pub record IsRight (first worst bytes : List ℕ) (calls : List Call) : Type 0 where
  pub seen : seen_by first calls ≡ bytes
  pub fit : AllFit first calls
  pub worst_is : worst_by first first calls ≡ worst
  pub no_longer : length bytes ≤ length worst

pub right_one_way : (first worst bytes : List ℕ) (calls : List Call)
    → IsProp (IsRight first worst bytes calls)
right_one_way first worst bytes calls = Prim.hlevel (props, fit_one_way first calls)
