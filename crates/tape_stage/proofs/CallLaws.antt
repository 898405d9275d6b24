-- One more call.
use Rattle.std.proofs.Common.{◌≡◌, ◌⊎◌, inl, inr, ℕ, zero, suc, ◌+◌, ◌≤◌, List, [], ◌∷◌, ◌++◌}
use Rattle.std.proofs.Common.{length, take, drop, refl, sym, ◌∙◌, subst, arith, length-append}
use Rattle.std.proofs.Common.{replicate, if◌then◌else◌, Bool, true, false, ap, Vec}
use Rattle.std.proofs.Common.{◌-◌, length-drop}
use Rattle.std.proofs.lemmas.List.{length-take-le, length-replicate}
use Rattle.tape_stage.specs.Calls.{after, left_after, seen_by, left_by, since_by, IsImage, WasImage}
use Rattle.tape_stage.specs.Calls.{Fits, AllFit, worst_after, worst_by, kept_or, over, cut_short}
use Rattle.tape_stage.specs.Calls.{IsRight, seen_image}
use Rattle.tape_stage.specs.{Disk.Elapses, Disk.Torn, Memory.first_of, Memory.DidCall}
use Rattle.tape_stage.specs.declared.disk.content.Call.TheVariants.{Look, Write, Cut, Sync}
use Rattle.tape_stage.specs.{declared.disk.content.Call.Call, declared.disk.content.Content.Content}
use Rattle.std.specs.declared.alloc.Global.{Global}

pub seen_more : (seen : List ℕ) (calls : List Call) (call : Call)
    → seen_by seen (calls ++ call ∷ []) ≡ after (seen_by seen calls) call
seen_more seen [] call = refl
seen_more seen (x ∷ calls) call = seen_more (after seen x) calls call

left_more : (seen : List ℕ) (left : List ℕ → Type 0) (calls : List Call) (call : Call) (c : List ℕ)
    → left_after (seen_by seen calls) (left_by seen left calls) call c
    → left_by seen left (calls ++ call ∷ []) c
left_more seen left [] call c now = now
left_more seen left (x ∷ calls) call c now =
    left_more (after seen x) (left_after seen left x) calls call c now

left_back : (seen : List ℕ) (left : List ℕ → Type 0) (calls : List Call) (call : Call) (c : List ℕ)
    → left_by seen left (calls ++ call ∷ []) c → left_after (seen_by seen calls)
    (left_by seen left calls) call c
left_back seen left [] call c now = now
left_back seen left (x ∷ calls) call c now =
    left_back (after seen x) (left_after seen left x) calls call c now

since_keeps : (seen : List ℕ) (left : List ℕ → Type 0) (calls : List Call) (call : Call) (t : ℕ)
    (c : List ℕ) → since_by seen left calls t c → since_by seen left (calls ++ call ∷ []) t c
since_keeps seen left [] call zero c was = inl was
since_keeps seen left [] call (suc t) c was = absurd was
since_keeps seen left (x ∷ calls) call zero c (inl was) = inl was
since_keeps seen left (x ∷ calls) call zero c (inr was) =
    inr (since_keeps (after seen x) (left_after seen left x) calls call zero c was)
since_keeps seen left (x ∷ calls) call (suc t) c was =
    since_keeps (after seen x) (left_after seen left x) calls call t c was

since_else : (seen : List ℕ) (left : List ℕ → Type 0) (calls : List Call) (call : Call) (t : ℕ)
    (c : List ℕ) → t ≤ length calls → since_by seen left (calls ++ call ∷ []) t c
    → since_by seen left calls t c ⊎ left_by seen left (calls ++ call ∷ []) c
since_else seen left [] call zero c le (inl was) = inl was
since_else seen left [] call zero c le (inr now) = inr now
since_else seen left [] call (suc t) c le was = absurd (omega arith)
since_else seen left (x ∷ calls) call zero c le (inl was) = inl (inl was)
since_else seen left (x ∷ calls) call zero c le (inr was) =
    elim (since_else (after seen x) (left_after seen left x) calls call zero c (omega arith) was)
    [ inl here ↦ inl (inr here) | inr now ↦ inr now ]
since_else seen left (x ∷ calls) call (suc t) c le was =
    since_else (after seen x) (left_after seen left x) calls call t c (omega arith) was

pub image_back : (first bytes : List ℕ) (calls : List Call) (call : Call) (c : List ℕ)
    → seen_by first calls ≡ bytes
    → IsImage first (calls ++ call ∷ []) c → left_after bytes (IsImage first calls) call c
image_back first bytes calls call c is now =
    subst (λ (b : List ℕ). left_after b (IsImage first calls) call c) is
    (left_back first (λ d. d ≡ first) calls call c now)

pub image_more : (first bytes : List ℕ) (calls : List Call) (call : Call) (c : List ℕ)
    → seen_by first calls ≡ bytes
    → left_after bytes (IsImage first calls) call c → IsImage first (calls ++ call ∷ []) c
image_more first bytes calls call c is now = left_more first (λ d. d ≡ first) calls call c
    (subst (λ (b : List ℕ). left_after b (IsImage first calls) call c) (sym is) now)

pub elapses_more : (first : List ℕ) (calls : List Call) (call : Call)
    → Elapses (length calls) (length (calls ++ call ∷ [])) (WasImage first calls)
    (WasImage first (calls ++ call ∷ [])) (IsImage first (calls ++ call ∷ []))
elapses_more first calls call = record {
  later = omega (arith, length-append calls (call ∷ []));
  nothing_else = λ t c le was. since_else first (λ d. d ≡ first) calls call t c le was;
  keeps = λ t c le was. since_keeps first (λ d. d ≡ first) calls call t c was;
}

worst_more : (seen worst : List ℕ) (calls : List Call) (call : Call) → worst_by seen worst
    (calls ++ call ∷ []) ≡ worst_after (seen_by seen calls) (worst_by seen worst calls) call
worst_more seen worst [] call = refl
worst_more seen worst (x ∷ calls) call =
    worst_more (after seen x) (worst_after seen worst x) calls call

fit_more : (seen : List ℕ) (calls : List Call) (call : Call) → AllFit seen calls
    → Fits (seen_by seen calls) call → AllFit seen (calls ++ call ∷ [])
fit_more seen [] call fit fits = (fits, tt)
fit_more seen (x ∷ calls) call fit fits = (fit.0, fit_more (after seen x) calls call fit.1 fits)

worst_longer : (seen worst : List ℕ) (call : Call) → Fits seen call → length seen ≤ length worst
    → length (after seen call) ≤ length (worst_after seen worst call)
worst_longer seen worst Look fits le = le
worst_longer seen worst (Write place bytes) fits le =
    let a = length-append (take place seen ++ bytes.items)
    (drop (place + length bytes.items) seen) in
    let b = length-append (take place seen) bytes.items in
    let c = length-append (take place worst ++ replicate (length bytes.items) 255)
    (drop (place + length bytes.items) worst) in
    let d = length-append (take place worst) (replicate (length bytes.items) 255) in
    omega (
      arith,
      a,
      b,
      c,
      d,
      length-take-le place seen fits,
      length-take-le place worst (omega arith),
      length-replicate {A = ℕ} (length bytes.items) 255,
      length-drop (place + length bytes.items) seen,
      length-drop (place + length bytes.items) worst,
    )
worst_longer seen worst (Cut len) fits le = omega (
  arith,
  length-append (take len worst) (replicate (length worst - len) 255),
  length-take-le len seen fits,
  length-take-le len worst (omega arith),
  length-replicate {A = ℕ} (length worst - len) 255,
)
worst_longer seen worst Sync fits le = omega arith

worst_left : (seen : List ℕ) (left : List ℕ → Type 0) (worst : List ℕ) (calls : List Call)
    → AllFit seen calls → left worst → length seen ≤ length worst
    → left_by seen left calls (worst_by seen worst calls)
worst_left seen left worst [] fit now le = now
worst_left seen left worst (Look ∷ calls) fit now le = worst_left seen left worst calls fit.1 now le
worst_left seen left worst (Write place bytes ∷ calls) fit now le =
    let open_bytes : length (replicate (length bytes.items) 255) ≡ length bytes.items =
    length-replicate {A = ℕ} (length bytes.items) 255 in
    let torn = subst (λ (n : ℕ). Torn place n worst (take place worst
    ++ replicate (length bytes.items) 255 ++ drop (place + n) worst)) open_bytes
    (over place (replicate (length bytes.items) 255) worst (omega (arith, fit.0))) in
    worst_left (after seen (Write place bytes)) (left_after seen left (Write place bytes))
    (worst_after seen worst (Write place bytes)) calls fit.1
    (worst, now, torn) (worst_longer seen worst (Write place bytes) fit.0 le)
worst_left seen left worst (Cut len ∷ calls) fit now le = worst_left (take len seen)
    (left_after seen left (Cut len)) (worst_after seen worst (Cut len)) calls fit.1 (
      worst,
      now,
      cut_short len worst (replicate (length worst - len) 255) (omega (arith, fit.0))
          (omega (arith, length-replicate {A = ℕ} (length worst - len) 255)),
    ) (worst_longer seen worst (Cut len) fit.0 le)
worst_left seen left worst (Sync ∷ calls) fit now le = worst_left seen
    (left_after seen left Sync) seen calls fit.1 refl (omega arith)

-- the worst contents are a possible result of a crash
worst_image : (first worst : List ℕ) (calls : List Call) → AllFit first calls
    → worst_by first first calls ≡ worst → IsImage first calls worst
worst_image first worst calls fit is = subst (λ (b : List ℕ). IsImage first calls b) is
    (worst_left first (λ d. d ≡ first) first calls fit refl (omega arith))

one_more : (first worst bytes : List ℕ) (calls : List Call) (call : Call)
    → IsRight first worst bytes calls → Fits bytes call
    → IsRight first (worst_after bytes worst call) (after bytes call) (calls ++ call ∷ [])
one_more first worst bytes calls call right fits = record {
  seen = seen_more first calls call ∙ ap (λ (b : List ℕ). after b call) right.seen;
  fit = fit_more first calls call right.fit (subst (λ (b : List ℕ). Fits b call) (sym right.seen)
      fits);
  worst_is = worst_more first first calls call
      ∙ ap (λ (b : List ℕ). worst_after b (worst_by first first calls) call) right.seen
      ∙ ap (λ (w : List ℕ). worst_after bytes w call) right.worst_is;
  no_longer = worst_longer bytes worst call fits right.no_longer;
}

pub right_more : (changed : Bool) (first worst worst' bytes bytes' : List ℕ)
    (calls calls' : List Call) (call : Call) → changed ≡ true
    → IsRight (kept_or changed first bytes) (kept_or changed worst bytes) bytes calls
    → Fits bytes call → calls' ≡ calls ++ call ∷ [] → bytes' ≡ after bytes call
    → worst' ≡ worst_after bytes worst call
    → IsRight (kept_or changed first bytes') (kept_or changed worst' bytes') bytes' calls'
right_more false first worst worst' bytes bytes' calls calls' call is right fits c b w = absurd (cc)
right_more true first worst worst' bytes bytes' calls calls' call is right fits c b w =
    rw (c, b, w) (one_more _ _ _ _ call right fits)

pub over_same : (place : ℕ) (next old kept copy bytes : List ℕ) → next ≡ take place kept ++ bytes
    ++ drop (place + length bytes) kept → kept ≡ old → copy ≡ bytes
    → next ≡ take place old ++ copy ++ drop (place + length copy) old
over_same place next old kept copy bytes is same copied = cc

pub kept_any : (changed : Bool) (kept old new : List ℕ) → changed ≡ true → kept_or changed kept new
    ≡ kept_or changed kept old
kept_any true kept old new is = refl
kept_any false kept old new is = absurd (cc)

pub worst_over : (place : ℕ) (worst old copy bytes filled : List ℕ) (seen : List ℕ)
    → worst ≡ take place old ++ filled ++ drop (place + length filled) old → filled ≡ replicate
    (length bytes) 255 → copy ≡ bytes
    → worst ≡ take place old ++ replicate (length copy) 255 ++ drop (place + length copy) old
worst_over place worst old copy bytes filled seen is filled_is copied =
    let n : length filled ≡ length bytes = ap length filled_is ∙ length-replicate {A =
    ℕ} (length bytes) 255 in cc

-- a call that only reads, if it was recorded
pub right_looked : (done : Bool) (first worst bytes : List ℕ) (calls calls' : List Call)
    → IsRight first worst bytes calls → calls' ≡ (if done then calls ++ Look ∷ [] else calls)
    → IsRight first worst bytes calls'
right_looked true first worst bytes calls calls' right c = rw c (one_more _ _ _ _ Look right tt)
right_looked false first worst bytes calls calls' right c = rw c right

abbrev Leaves : Content → List ℕ → Type 0
Leaves content = IsImage (first_of content) content.calls.items

pub did_elapses : (old mid new : Content) (call : Call) → mid ≡ old → DidCall call mid new
    → Elapses (length old.calls.items) (length new.calls.items)
    (WasImage (first_of old) old.calls.items) (WasImage (first_of new) new.calls.items) (Leaves new)
did_elapses old mid new call is before =
    let did = rw is at before in
    rw (did.first, did.calls) (elapses_more (first_of old) old.calls.items call)

pub did_left : (old mid new : Content) (call : Call) → mid ≡ old → DidCall call mid new
    → (c : List ℕ) → Leaves new c → left_after old.bytes.items (Leaves old) call c
did_left old mid new call is before c now =
    let did = rw is at before in
    image_back (first_of old) _ old.calls.items call c old.right.seen
    (rw (did.first, did.calls) at now)

pub synced_same : (old mid new : Content) → mid ≡ old → DidCall Sync mid new → (c : List ℕ)
    → Leaves new c → Leaves old c
synced_same old mid new is did c now =
    subst (λ (b : List ℕ). Leaves old b) (sym (did_left _ _ _ _ is did c now))
    (seen_image (first_of old) _ old.calls.items old.right.fit old.right.seen)

pub written_left : (old mid new : Content) (place : ℕ) (copy : Vec ℕ Global) (bytes : List ℕ)
    → mid ≡ old → copy.items ≡ bytes → DidCall (Write place copy) mid new
    → (c : List ℕ) → Leaves new c → (d : List ℕ) × Leaves old d × Torn place (length bytes) d c
written_left old mid new place copy bytes is same did c now =
    let from = did_left _ _ _ _ is did c now in
    (from.0, from.1, subst (λ (b : List ℕ). Torn place (length b) from.0 c) same from.2)

pub worst_left_now : (content : Content)
    → Leaves content (kept_or content.changed content.worst.items content.bytes.items)
worst_left_now content =
    worst_image (first_of content) _ content.calls.items content.right.fit content.right.worst_is

pub did_open : (old mid new : Content) (call : Call) → mid ≡ old → DidCall call mid new
    → (c : List ℕ) → left_after old.bytes.items (Leaves old) call c → Leaves new c
did_open old mid new call is before c from =
    let did = rw is at before in
    rw (did.first, did.calls)
    (image_more (first_of old) _ old.calls.items call c old.right.seen from)

pub written_open : (old mid new : Content) (place : ℕ) (copy : Vec ℕ Global) (bytes : List ℕ)
    → mid ≡ old → copy.items ≡ bytes → DidCall (Write place copy) mid new
    → (d c : List ℕ) → Leaves old d → Torn place (length bytes) d c → Leaves new c
written_open old mid new place copy bytes is same did d c left torn = did_open _ _ _ _ is did c
    (d, left, subst (λ (b : List ℕ). Torn place (length b) d c) (sym same) torn)
