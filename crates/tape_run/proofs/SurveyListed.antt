-- The volumes of a set are those of its sections, and one for each gap between two of them.
use Rattle.std.proofs.Common.{◌≡◌, ℕ, zero, suc, ◌+◌, ◌<◌, ◌≤◌, Bool, true, false, List, [], ◌∷◌}
use Rattle.std.proofs.Common.{◌++◌, Option, Some, None, refl, ap, sym, ◌∙◌, arith, append_assoc}
use Rattle.std.proofs.Common.{subst, ◌⊎◌, inl, inr, if◌then◌else◌, replicate, nat_lt}
use Rattle.std.proofs.lemmas.Slice.Eq.{bytes_eq-Decides}
use Rattle.std.specs.Str.{bytes_eq}
use Rattle.tape_run.specs.SurveyChain.{gap_if, link_of, is_last, sections_chain, found_chain}
use Rattle.tape_run.specs.SurveyChain.{file_chain, files_chain, is_same, missing_if, items_to}
use Rattle.tape_run.specs.{declared.section.Entry.Entry, Lacks.entry_at, Lacks.key_at, Passing.Told}
use Rattle.tape_run.specs.{declared.survey.volumes.VolumeItem.VolumeItem, SurveyConflicts.IsIn}
use Rattle.tape_run.specs.declared.survey.volumes.VolumeItem.TheVariants.{Named, MissingAfter}
use Rattle.tape_run.specs.{SurveyLaws.VolumesAreListed, SurveyProblems.first_after}
use Rattle.tape_run.specs.{SurveyRead.Found, SurveyChain.volumes_from}
use Rattle.tape_run.proofs.SurveyConflicts.{in_more}

-- ---- lists

after : {X : Type 0} (more xs : List X) (x : X) → IsIn xs x → IsIn (more ++ xs) x
after more xs x h = record {
  front = more ++ h.front;
  rest = h.rest;
  stands = ap (λ ls. more ++ ls) h.stands ∙ sym (append_assoc more h.front (x ∷ h.rest));
}

-- ---- sections of the chain

linked : (first sect : ℕ) (o : Option Entry) (e : Entry) → o ≡ Some e
    → IsIn (link_of first sect o) (Some e.volume)
linked first sect o e is = subst (λ p. IsIn (link_of first sect p) (Some e.volume)) (sym is)
    (record {
      front = gap_if (nat_lt first sect);
      rest = [];
      stands = refl;
    })

same_or_later : (a b : ℕ) → a ≤ b → (b ≡ a) ⊎ (a + 1 ≤ b)
same_or_later zero zero h = inl refl
same_or_later zero (suc b) h = inr (omega arith)
same_or_later (suc a) zero h = absurd (omega (arith, h))
same_or_later (suc a) (suc b) h = up (same_or_later a b (omega (arith, h)))
  where
    up : (b ≡ a) ⊎ (a + 1 ≤ b) → (suc b ≡ suc a) ⊎ (suc a + 1 ≤ suc b)
    up (inl e) = inl (ap (λ n. suc n) e)
    up (inr l) = inr (omega (arith, l))

-- in a section or after it
in_or_after : (link rest : List (Option (List ℕ))) (over : Bool) (from sect : ℕ) (v : List ℕ)
    → (sect ≡ from) ⊎ (from + 1 ≤ sect) → (sect ≡ from → IsIn link (Some v))
    → (from + 1 ≤ sect → over ≡ false) → (from + 1 ≤ sect → IsIn rest (Some v))
    → IsIn (link ++ (if over then [] else rest)) (Some v)
in_or_after link rest over from sect v (inl at) here on there =
    in_more link (if over then [] else rest) (Some v) (here at)
in_or_after link rest over from sect v (inr later) here on there =
    after link (if over then [] else rest) (Some v)
    (subst (λ (b : Bool). IsIn (if b then [] else rest) (Some v)) (sym (on later)) (there later))

in_sections : (c : List Told) (set_id : List ℕ) (file first from n sect : ℕ) (e : Entry)
    → from ≤ sect
    → sect < from + n
    → ((i : ℕ) → from ≤ i → i < sect → is_last (entry_at c (key_at set_id file i)) ≡ false)
    → entry_at c (key_at set_id file sect) ≡ Some e
    → IsIn (sections_chain c set_id file first from n) (Some e.volume)
in_sections c set_id file first from zero sect e least most on is = absurd
    (omega (arith, least, most))
in_sections c set_id file first from (suc n) sect e least most on is =
    let entry = entry_at c (key_at set_id file from) in
    in_or_after (link_of first from entry)
    (sections_chain c set_id file (first_after first from entry) (from + 1) n) (is_last entry) from
    sect e.volume (same_or_later from sect least)
    (λ at. linked first from entry e (ap (λ i. entry_at c (key_at set_id file i)) (sym at) ∙ is))
    (λ later. on from (omega arith) (omega (arith, later)))
    (λ later. in_sections c set_id file (first_after first from entry) (from + 1) n sect e later
    (omega (arith, most)) (λ i low high. on i (omega (arith, low)) high) is)

in_file : (c : List Told) (set_id : List ℕ) (file sect : ℕ) (e : Entry) → 1 ≤ sect → sect ≤ 9999
    → ((i : ℕ) → 1 ≤ i → i < sect → is_last (entry_at c (key_at set_id file i)) ≡ false)
    → entry_at c (key_at set_id file sect) ≡ Some e
    → IsIn (found_chain c set_id file) (Some e.volume)
unfolding found_chain
in_file c set_id file sect e least most on is =
    in_sections c set_id file 1 1 9999 sect e least (omega (arith, most)) on is

in_files : (d : Found) (set_id : List ℕ) (from n file : ℕ) (v : List ℕ) → from ≤ file
    → file < from + n
    → IsIn (file_chain d set_id file) (Some v) → IsIn (files_chain d set_id from n) (Some v)
in_files d set_id from zero file v least most h = absurd (omega (arith, least, most))
in_files d set_id from (suc n) file v least most h =
    in_or_after (file_chain d set_id from) (files_chain d set_id (from + 1) n) false from file v
    (same_or_later from file least) (λ at. subst (λ i. IsIn (file_chain d set_id i) (Some v)) at h)
    (λ later. refl) (λ later. in_files d set_id (from + 1) n file v later (omega (arith, most)) h)

-- ---- volumes of the chain

last_or : (last : Option (List ℕ)) (missing : Bool) (v : List ℕ) (b : Bool) → is_same last v ≡ b
    → (last ≡ Some v) ⊎ IsIn (items_to last missing v) (Named v)
last_or None missing v b is = inr (record {
  front = missing_if missing None;
  rest = [];
  stands = refl;
})
last_or (Some u) missing v true is = inl (ap (λ i. Some i) ((bytes_eq-Decides u v).0 is))
last_or (Some u) missing v false is =
    inr (subst (λ (b : Bool). IsIn (if b then [] else missing_if missing (Some u) ++ Named v ∷ [])
    (Named v)) (sym is) (record {
      front = missing_if missing (Some u);
      rest = [];
      stands = refl;
    }))

from_items : (last : Option (List ℕ)) (missing : Bool) (v w : List ℕ) (more : List VolumeItem)
    → Some w ≡ Some v → (last ≡ Some w) ⊎ IsIn (items_to last missing w) (Named w)
    → (last ≡ Some v) ⊎ IsIn (items_to last missing w ++ more) (Named v)
from_items last missing v w more same (inl is) = inl (is ∙ same)
from_items last missing v w more same (inr h) =
    let one : w ≡ v = cc same in
    inr (in_more (items_to last missing w) more (Named v)
    (subst (λ i. IsIn (items_to last missing w) (Named i)) one h))

in_volumes : (last : Option (List ℕ)) (missing : Bool) (front rest : List (Option (List ℕ)))
    (v : List ℕ)
    → (last ≡ Some v) ⊎ IsIn (volumes_from last missing (front ++ Some v ∷ rest)) (Named v)
in_volumes last missing [] rest v =
    from_items last missing v v (volumes_from (Some v) false rest) refl
    (last_or last missing v (is_same last v) refl)
in_volumes last missing (None ∷ front) rest v = in_volumes last true front rest v
in_volumes last missing (Some w ∷ front) rest v = later (in_volumes (Some w) false front rest v)
  where
    onward : List VolumeItem
    onward = volumes_from (Some w) false (front ++ Some v ∷ rest)

    later : (Some w ≡ Some v) ⊎ IsIn onward (Named v)
        → (last ≡ Some v) ⊎ IsIn (items_to last missing w ++ onward) (Named v)
    later (inl same) = from_items last missing v w onward same
        (last_or last missing w (is_same last w) refl)
    later (inr h) = inr (after (items_to last missing w) onward (Named v) h)

-- a volume that differs from the volume before the first link
first_in : (ys : List VolumeItem) (v : List ℕ) → (None ≡ Some v) ⊎ IsIn ys (Named v)
    → IsIn ys (Named v)
first_in ys v (inl same) = absurd (cc same)
first_in ys v (inr h) = h

in_chain : (xs : List (Option (List ℕ))) (v : List ℕ) → IsIn xs (Some v)
    → IsIn (volumes_from None false xs) (Named v)
in_chain xs v h = subst (λ ls. IsIn (volumes_from None false ls) (Named v)) (sym h.stands) (first_in
    _ _ (in_volumes None false h.front h.rest v))

-- ---- a gap

split : (last : Option (List ℕ)) (missing : Bool) (front rest : List (Option (List ℕ))) (u : List ℕ)
    → volumes_from last missing (front ++ Some u ∷ rest)
    ≡ volumes_from last missing (front ++ Some u ∷ []) ++ volumes_from (Some u) false rest
split last missing [] rest u =
    sym (append_assoc (items_to last missing u) [] (volumes_from (Some u) false rest))
split last missing (None ∷ front) rest u = split last true front rest u
split last missing (Some w ∷ front) rest u =
    let here = items_to last missing w in
    let onward = volumes_from (Some w) false (front ++ Some u ∷ []) in
    ap (λ ls. here ++ ls) (split (Some w) false front rest u)
    ∙ sym (append_assoc here onward (volumes_from (Some u) false rest))

gap : (u v : List ℕ) (rest : List (Option (List ℕ))) (n : ℕ) → bytes_eq u v ≡ false
    → volumes_from (Some u) true (replicate n None ++ Some v ∷ rest)
    ≡ MissingAfter u ∷ Named v ∷ volumes_from (Some v) false rest
gap u v rest zero other =
    ap (λ (b : Bool). (if b then [] else MissingAfter u ∷ Named v ∷ [])
    ++ volumes_from (Some v) false rest) other
gap u v rest (suc n) other = gap u v rest n other

pub volumes_are_listed : VolumesAreListed
volumes_are_listed = record {
  named = λ d x file sect e least most found low high on is. in_chain _ _ (in_files d x.0 _ x.1 _
      e.volume least (omega (arith, most)) (subst (λ (b : Bool). IsIn (if b then found_chain
      d.sections x.0 file else None ∷ []) (Some e.volume)) (sym found)
      (in_file _ _ _ _ _ low high on is)));
  one = λ front rest u v n other. split None false front
      (None ∷ (replicate n None ++ Some v ∷ rest)) u ∙ ap
      (λ ls. volumes_from None false (front ++ Some u ∷ []) ++ ls) (gap _ _ rest n other);
}
