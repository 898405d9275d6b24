-- Why a merged item is not written.
use Rattle.std.proofs.Common.{◌≡◌, ◌<◌, ◌≤◌, ℕ, List, [], ◌∷◌, length, Option, Some, None, Bool}
use Rattle.std.proofs.Common.{true, false, Err, sym, subst, arith, MatchBool}
use Rattle.std.proofs.lemmas.Bool.Decides.{nat_tests}
use Rattle.tape_image.specs.declared.item.ImageWriteFault.{ImageWriteFault}
use Rattle.tape_image.specs.Tape.{TapeItem, block, bad, mark, IsTapeItem}
use Rattle.tape_image.specs.Written.{written, is_no_block}
use Rattle.tape_image.specs.Writer.{Writer, Standing, writing, PutsFrom, BlockFrom}
use Rattle.tape_run.specs.declared.merge.reading.{Reading.Reading, Verdict.Verdict}
use Rattle.tape_run.specs.declared.merge.reading.Verdict.TheVariants as verdicts
use Rattle.tape_run.specs.MergeSteps.{joined, Takes, Compares, Asked, gives, stops, AskedAll}
use Rattle.tape_run.specs.MergeCalls.{Refuses}

abbrev FitsCandidate : Option TapeItem → Type 0
FitsCandidate None = Unit {0}
FitsCandidate (Some x) = IsTapeItem x

joined_fits : (best : Option TapeItem) (x : TapeItem) → FitsCandidate best → IsTapeItem x
    → IsTapeItem (joined best x)
joined_fits None x h k = k
joined_fits (Some bad) x h k = k
joined_fits (Some (block bytes)) x h k = h
joined_fits (Some mark) x h k = h

takes_fits : (best : Option TapeItem) (x : TapeItem) (b : Bool) (now : Option TapeItem)
    → FitsCandidate best → IsTapeItem x → Takes best x b now → FitsCandidate now
takes_fits best x true now h k (a, is) = subst FitsCandidate (sym is) (joined_fits best x h k)
takes_fits best x false now h k (a, is) = subst FitsCandidate (sym is) h

compares_fits : (v : Verdict) (x : TapeItem) (best now other beside : Option TapeItem)
    → FitsCandidate best → IsTapeItem x → Compares v x best now other beside → FitsCandidate now
compares_fits verdicts.First x best now other beside h k c = takes_fits best x true now h k c.1
compares_fits verdicts.Bad x best now other beside h k c = takes_fits best x true now h k c.1
compares_fits verdicts.Second x best now other beside h k c = takes_fits best x false now h k c.0
compares_fits verdicts.Third x best now other beside h k c = takes_fits best x false now h k c.0
compares_fits verdicts.Ended x best now other beside h k c = absurd c
compares_fits (verdicts.Failed fault) x best now other beside h k c = absurd c

asked_fits : {R : Type 0} (o n : Reading R) (best now other beside : Option TapeItem)
    → FitsCandidate best → Asked o n best now other beside → FitsCandidate now
asked_fits o n best now other beside h (gives x on given compares counts) =
    compares_fits n.verdict x best now other beside h given.fits compares
asked_fits o n best now other beside h (stops off how counts same left) =
    subst FitsCandidate (sym same) h

-- the best item is an item of a tape
pub best_fits : {R : Type 0} (olds nows : List (Reading R))
    (best now other beside : Option TapeItem)
    → FitsCandidate best → AskedAll olds nows best now other beside → FitsCandidate now
best_fits [] [] best now other beside h (same, is) = subst FitsCandidate (sym same) h
best_fits [] (n ∷ nows) best now other beside h asked = absurd asked
best_fits (o ∷ olds) [] best now other beside h asked = absurd asked
best_fits (o ∷ olds) (n ∷ nows) best now other beside h (mid, between, one, rest) =
    best_fits olds nows mid now between beside (asked_fits o n best mid other between h one) rest

block_puts : (b : Bool) (P Q : Type 0) → b ≡ false → MatchBool b P Q → Q
block_puts true P Q is h = absurd (cc is)
block_puts false P Q is h = h

is_block : (content : List ℕ) → 0 < length content → length content ≤ 99999
    → is_no_block content ≡ false
is_block content some few = grind (arith, nat_tests)

-- an open writer refuses it because the device fails, or because there is no room
pub refuses_puts : (x : TapeItem) (old new : Writer) (fault : ImageWriteFault) → IsTapeItem x
    → old.standing ≡ writing → Refuses x fault old new
    → PutsFrom writing (written x) writing old (Err fault) new
refuses_puts (block content) old new fault fits is h =
    block_puts (is_no_block content) _ _ (is_block content fits.0 fits.1)
    (subst (λ (t : Standing). BlockFrom t content old (Err fault) new) is h)
refuses_puts bad old new fault fits is h =
    subst (λ (t : Standing). PutsFrom t (written bad) writing old (Err fault) new) is h
refuses_puts mark old new fault fits is h =
    subst (λ (t : Standing). PutsFrom t (written mark) writing old (Err fault) new) is h
