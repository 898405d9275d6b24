-- Sections that are good in a catalogue remain good, and sections reported as good become good.
use Rattle.std.proofs.Common.{◌≡◌, ℕ, Bool, true, false, List, [], ◌∷◌, Option, Some, None, refl}
use Rattle.std.proofs.Common.{ap, ◌∙◌, arith, if◌then◌else◌, ◌==◌, ◌&&◌}
use Rattle.std.proofs.lemmas.{Slice.Eq.bytes_eq-Decides, Bool.Decides.nat_tests}
use Rattle.std.specs.List.{AllByRecursion}
use Rattle.tape_run.specs.{declared.section.SectionKey.SectionKey, Lacks.entry_at, Lacks.IsGoodAt}
use Rattle.tape_run.specs.{declared.section.SectionState.SectionState, declared.section.Entry.Entry}
use Rattle.tape_run.specs.{declared.section.SectionState.TheVariants.Good, Passing.Told}
use Rattle.tape_run.specs.Noted.{same_key, is_good, better, noted, noted_all}

pub key_again : (k : SectionKey) → same_key k k ≡ true
key_again k =
    ap (λ (b : Bool). b && ((k.file == k.file) && (k.sect == k.sect)))
    ((bytes_eq-Decides k.set_id k.set_id).1 refl)
    ∙ ap (λ (b : Bool). b && (k.sect == k.sect)) (again k.file) ∙ again k.sect
  where
    again : (n : ℕ) → (n == n) ≡ true
    again n = grind (arith, nat_tests)

good_is : (s : SectionState) → s ≡ Good → is_good s ≡ true
good_is s e = ap is_good e

-- a good entry is kept
kept_good : (old new : Entry) → old.state ≡ Good → better old new ≡ old
kept_good old new e = grind (arith, good_is)

-- one of the two is good
better_good : (old new : Entry) → new.state ≡ Good → (better old new).state ≡ Good
better_good old new e = grind (arith, good_is)

abbrev pub at_if : Bool → Entry → Option Entry → Option Entry
at_if b e rest = if b then Some e else rest

abbrev note_if : Bool → Told → List Told → Told → List Told
note_if b x xs t = if b then (x.0, better x.1 t.1) ∷ xs else x ∷ noted xs t

-- an entry that is good remains so
stays_here : (x : Told) (xs : List Told) (t : Told) (key : SectionKey) (a b : Bool) (e : Entry)
    → same_key key x.0 ≡ a → e.state ≡ Good → at_if a x.1 (entry_at xs key) ≡ Some e
    → (entry_at xs key ≡ Some e → IsGoodAt (noted xs t) key) → IsGoodAt (note_if b x xs t) key
stays_here x xs t key true true e is good at rest = grind (arith, kept_good)
stays_here x xs t key true false e is good at rest = grind (arith, noted)
stays_here x xs t key false true e is good at rest = grind (arith)
stays_here x xs t key false false e is good at rest = grind (arith, noted)

stays_one : (xs : List Told) (t : Told) (key : SectionKey) (e : Entry) → e.state ≡ Good
    → entry_at xs key ≡ Some e → IsGoodAt (noted xs t) key
stays_one [] t key e good at = absurd (cc at)
stays_one (x ∷ xs) t key e good at = stays_here x xs t key (same_key key x.0)
    (same_key t.0 x.0) e refl good at (stays_one xs t key e good)

-- a section that is reported as good becomes good
becomes_here : (x : Told) (xs : List Told) (t : Told) (b : Bool) → same_key t.0 x.0 ≡ b
    → t.1.state ≡ Good → IsGoodAt (noted xs t) t.0 → IsGoodAt (note_if b x xs t) t.0
becomes_here x xs t true is good rest = grind (arith, better_good)
becomes_here x xs t false is good rest = grind (arith, noted)

becomes_one : (xs : List Told) (t : Told) → t.1.state ≡ Good → IsGoodAt (noted xs t) t.0
becomes_one [] t good =
    record { entry = t.1; there = ap (λ (c : Bool). at_if c t.1 None) (key_again t.0); good = good }
becomes_one (x ∷ xs) t good =
    becomes_here x xs t (same_key t.0 x.0) refl good (becomes_one xs t good)

pub stays_good : (c ts : List Told) (key : SectionKey) → IsGoodAt c key
    → IsGoodAt (noted_all c ts) key
stays_good c [] key g = g
stays_good c (t ∷ ts) key g = stays_good (noted c t) ts key (stays_one _ t _ _ g.good g.there)

-- each section that is reported as good is good afterwards
pub become_good : (c ts : List Told) → AllByRecursion (λ t. t.1.state ≡ Good) ts
    → AllByRecursion (λ t. IsGoodAt (noted_all c ts) t.0) ts
become_good c [] h = tt
become_good c (t ∷ ts) (h, hs) =
    (stays_good (noted c t) ts t.0 (becomes_one c t h), become_good (noted c t) ts hs)
