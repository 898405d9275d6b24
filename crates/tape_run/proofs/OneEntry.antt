-- A catalogue has one entry for each section, from what adding a section preserves.
use Rattle.std.proofs.Common.{◌≡◌, ◌≢◌, Bool, true, false, ℕ, List, [], ◌∷◌, refl, sym, subst}
use Rattle.std.proofs.Common.{if◌then◌else◌, Option, Some, None}
use Rattle.tape_run.specs.declared.section.{ImageLine.ImageLine, SectionKey.SectionKey}
use Rattle.tape_run.specs.declared.passing.Phase.TheVariants.{Volume}
use Rattle.tape_run.specs.Added.{Adds, AddsInPart}
use Rattle.tape_run.specs.Checked.{Reel, AddsImage, AddsImages}
use Rattle.tape_run.specs.Noted.{same_key, better, noted, noted_all}
use Rattle.tape_run.specs.OneEntry.{AreOthers, HasOneEach, OneEntryASection}
use Rattle.tape_run.specs.Passing.{Told, told_from, met_in}
use Rattle.tape_run.proofs.StayingGood.{key_again}

others_here : (x : Told) (xs : List Told) (t : Told) (key : SectionKey) (b : Bool)
    → AreOthers key (x ∷ xs) → AreOthers key (noted xs t)
    → AreOthers key (if b then (x.0, better x.1 t.1) ∷ xs else x ∷ noted xs t)
others_here x xs t key true are rest = are
others_here x xs t key false (other, others) rest = (other, rest)

others_stay : (xs : List Told) (t : Told) (key : SectionKey) → AreOthers key xs → t.0 ≢ key
    → AreOthers key (noted xs t)
others_stay [] t key are other = (other, tt)
others_stay (x ∷ xs) t key (first, are) other =
    others_here x xs t key (same_key t.0 x.0) (first, are) (others_stay xs t key are other)

-- keys that are found to be different are different
apart : (a b : SectionKey) → same_key a b ≡ false → a ≢ b
apart a b e same =
    let again : same_key a b ≡ true = subst (λ key. same_key a key ≡ true) same (key_again a) in
    absurd (cc (e, again))

one_here : (x : Told) (xs : List Told) (t : Told) (b : Bool) → same_key t.0 x.0 ≡ b
    → HasOneEach (x ∷ xs) → HasOneEach (noted xs t)
    → HasOneEach (if b then (x.0, better x.1 t.1) ∷ xs else x ∷ noted xs t)
one_here x xs t true e one rest = one
one_here x xs t false e (others, one) rest = (others_stay _ _ _ others (apart _ _ e), rest)

one_noted : (xs : List Told) (t : Told) → HasOneEach xs → HasOneEach (noted xs t)
one_noted [] t one = (tt, tt)
one_noted (x ∷ xs) t (others, one) =
    one_here x xs t (same_key t.0 x.0) refl (others, one) (one_noted xs t one)

all_noted : (c ts : List Told) → HasOneEach c → HasOneEach (noted_all c ts)
all_noted c [] one = one
all_noted c (t ∷ ts) one = all_noted (noted c t) ts (one_noted c t one)

added : (before after : Option (List ℕ)) (old new : List Told) (line : ImageLine) → HasOneEach old
    → Adds before after old line new → HasOneEach new
added before after old new line one a =
    subst HasOneEach (sym a.noted) (all_noted old (met_in a.items) one)

in_part : (before : Option (List ℕ)) (old new : List Told) → HasOneEach old
    → AddsInPart before old new → HasOneEach new
in_part before old new one a =
    subst HasOneEach (sym a.noted) (all_noted old (told_from Volume a.items) one)

one_read : (reel : Reel) (line : Option ImageLine) (c d : List Told) → HasOneEach c
    → AddsImage reel line c d → HasOneEach d
one_read None None c d one is = subst HasOneEach (sym is) one
one_read None (Some line) c d one is = absurd is
one_read (Some before) None c d one is = absurd is
one_read (Some before) (Some line) c d one (after, adds) = added before after c d line one adds

all_read : (reels : List Reel) (lines : List (Option ImageLine)) (c d : List Told) → HasOneEach c
    → AddsImages reels lines c d → HasOneEach d
all_read [] [] c d one are = subst HasOneEach (sym are) one
all_read [] (line ∷ lines) c d one are = absurd are
all_read (reel ∷ reels) [] c d one are = absurd are
all_read (reel ∷ reels) (line ∷ lines) c d one (mid, is, are) =
    all_read reels lines mid d (one_read reel line c mid one is) are

pub one_entry : OneEntryASection
one_entry = record {
  added = added;
  added_in_part = in_part;
  reported = λ reels text found r. all_read reels r.lines [] r.sections tt r.read;
}
