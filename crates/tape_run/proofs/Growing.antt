-- The contents of a sink grow from call to call.
use Rattle.std.proofs.Common.{List}
use Rattle.tape_blocks.specs.Block.{Portion}
use Rattle.tape_core.specs.{Crash.AddsNothing, Crash.Crashes, Weight.IsFront}
use Rattle.tape_run.proofs.{Crashes.adds_then, Notes.front_trans}

-- Whatever list of parts one of the sinks contains, the other contains a list that begins with it
-- and satisfies the relation.
abbrev pub Grows : (List Portion → Type 0) → (List Portion → Type 0)
    → (List Portion → List Portion → Type 0) → Type 0
Grows old new P = (held : List Portion) → old held
    → (now : List Portion) × new now × IsFront held now × P held now

-- The effect of two calls, one after the other.
pub grows_then : {old mid new : List Portion → Type 0}
    {P Q R : List Portion → List Portion → Type 0}
    → Grows old mid P → Grows mid new Q
    → ((held now then : List Portion) → P held now → Q now then → R held then)
    → Grows old new R
grows_then first second f = λ held was.
    let (now, has, front, p) = first held was in
    let (then, has_then, more, q) = second now has in
    (then, has_then, front_trans held now then front more, f held now then p q)

-- If neither call adds to what a crash leaves, both together do not.
pub adds_on : {old mid : List Portion → Type 0} {P : List Portion → List Portion → Type 0}
    {a b c : Crashes} → Grows old mid P → ((held : List Portion) → old held → AddsNothing a b)
    → ((held : List Portion) → mid held → AddsNothing b c)
    → (held : List Portion) → old held → AddsNothing a c
adds_on grows first second = λ held was.
    let (now, has, front, p) = grows held was in
    adds_then _ _ _ (first held was) (second now has)
