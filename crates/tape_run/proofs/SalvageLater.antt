-- What is true of each section that is found: proved from the last item to the first.
use Rattle.std.proofs.Common.{◌≡◌, ℕ, Bool, true, false, List, [], ◌∷◌, Option, Some, None, Result}
use Rattle.std.proofs.Common.{Ok, Err, refl, sym, ap, subst, ◌∙◌, ◌⊎◌, inl, inr, if◌then◌else◌}
use Rattle.std.specs.List.{AllByRecursion}
use Rattle.tape_image.specs.Tape.{TapeItem, block, bad, mark}
use Rattle.tape_label.specs.{declared.values.Head1.Head1, Reading.head1_at, Reading.trail1_at}
use Rattle.tape_label.specs.{declared.values.Trail1.Trail1, declared.label.LabelFault.LabelFault}
use Rattle.tape_set.proofs.Everywhere.{every-append}
use Rattle.tape_run.specs.declared.salvage.walk.{OpenSection.OpenSection, Closing.Closing}
use Rattle.tape_run.specs.declared.salvage.walk.Expected.{Expected}
use Rattle.tape_run.specs.declared.salvage.walk.Expected.TheVariants.{Outside, Second, Headers}
use Rattle.tape_run.specs.declared.salvage.walk.Expected.TheVariants.{Data, Trailer, Trailers, Next}
use Rattle.tape_run.specs.declared.salvage.walk.Expected.TheVariants.{Skipping, Unnamed}
use Rattle.tape_run.specs.declared.salvage.walk.Expected.TheVariants.{UnnamedTrailer}
use Rattle.tape_run.specs.SalvageWalk.{step, expected_after, closed_by, closes, found_from, in_list}
use Rattle.tape_run.specs.SalvageWalk.{FoundAt, FoundSection, one_further, open_section, read_after}
use Rattle.tape_run.specs.SalvageWalk.{sections_in, unclosed_by, with_second, followed_by}
use Rattle.tape_run.specs.SalvageWalk.{closing_of}

-- parts of a section that was found
abbrev is_closed : Option FoundSection → Bool
is_closed None = false
is_closed (Some (u, None)) = false
is_closed (Some (u, Some k)) = true

not_closed : (o : Option FoundSection) (v : OpenSection) (k : Closing)
    → o ≡ Some (v, Some k) → is_closed o ≡ false → ⊥
not_closed o v k e off = let f : false ≡ true = sym off ∙ ap is_closed e in absurd (cc f)

abbrev section_or : OpenSection → Option FoundSection → OpenSection
section_or d None = d
section_or d (Some (u, k)) = u

abbrev closing_or : Closing → Option FoundSection → Closing
closing_or d None = d
closing_or d (Some (u, None)) = d
closing_or d (Some (u, Some k)) = k

no_end : (u w : OpenSection) (r : Result Trail1 LabelFault) (h : Result Head1 LabelFault)
    (v : OpenSection) (k : Closing) → (closed_by u w r h).1 ≡ Some (v, Some k) → ⊥
no_end u w (Err f) h v k e = absurd (not_closed _ v k e refl)
no_end u w (Ok t) h v k e = chosen (closes u t) e
  where
    chosen : (c : Bool) → (if c then (Trailers u (closing_of u t), None)
        else unclosed_by w h).1 ≡ Some (v, Some k) → ⊥
    chosen true e = absurd (not_closed _ v k e refl)
    chosen false e = absurd (not_closed _ v k e refl)

-- one of two, from one of two others
pub either : {A B C D : Type 0} → A ⊎ C → (A → B) → (C → D) → B ⊎ D
either (inl a) f g = inl (f a)
either (inr c) f g = inr (g c)

-- this is true of a section that was found, if it closes
abbrev pub PAt : (Expected → List TapeItem → OpenSection → Closing → Type 0) → Expected
    → List TapeItem → FoundAt → Type 0
PAt P s xs (place, (v, None)) = Unit {0}
PAt P s xs (place, (v, Some k)) = P s xs v k

-- `P s xs v k`: if the phase s is expected, and a section that is found later ends as v and k, then
-- this is true of the items to come. It is true at the end of its labels, also if its second label
-- is in doubt, and before each item if it is true after it.
module _ (P : Expected → List TapeItem → OpenSection → Closing → Type 0)
    (back : (s : Expected) (x : TapeItem) (xs : List TapeItem) (v : OpenSection) (k : Closing)
    → P (step s x).0 xs v k → P s (x ∷ xs) v k)
    (here : (u : OpenSection) (l : Closing) (xs : List TapeItem) → P (Trailers u l) xs u l)
    (unsure : (u : OpenSection) (l : Closing) (xs : List TapeItem)
    → P (Trailers u l) xs (with_second false u) l)
    (skips : (n : ℕ) (u : OpenSection) (xs : List TapeItem) (v : OpenSection) (k : Closing)
    → P (Skipping n u) xs v k) where
  named : (u v : OpenSection) (l k : Closing) (xs : List TapeItem) → u ≡ v → l ≡ k
      → P (Trailers u l) xs v k
  named u v l k xs same alike = subst (λ w. P (Trailers u l) xs w k) same
      (subst (λ m. P (Trailers u l) xs u m) alike (here u l xs))

  ends_here : (s : Expected) (x : TapeItem) (xs : List TapeItem) (v : OpenSection) (k : Closing)
      → (step s x).1 ≡ Some (v, Some k) → P s (x ∷ xs) v k
  ends_here (Trailers u l) bad xs v k e =
      let w = with_second false u in
      let s = Trailers u l in
      let same : w ≡ v = ap (section_or w) e in
      let alike : l ≡ k = ap (closing_or l) e in
      subst (λ z. P s (bad ∷ xs) z k) same
      (subst (λ m. P s (bad ∷ xs) w m) alike (unsure u l (bad ∷ xs)))
  ends_here (Trailers u l) mark xs v k e =
      let same : u ≡ v = ap (section_or u) e in
      let alike : l ≡ k = ap (closing_or l) e in named u v l k (mark ∷ xs) same alike
  ends_here (Trailers u l) (block b) xs v k e = absurd (not_closed _ v k e refl)
  ends_here (Trailer u) (block b) xs v k e =
      absurd (no_end u (followed_by b u) (trail1_at b) (head1_at b) v k e)
  ends_here (Outside n) (block b) xs v k e = absurd (not_closed _ v k e refl)
  ends_here (Second u) (block b) xs v k e = absurd (not_closed _ v k e refl)
  ends_here (Headers u) (block b) xs v k e = absurd (not_closed _ v k e refl)
  ends_here (Data u) (block b) xs v k e = absurd (not_closed _ v k e refl)
  ends_here Next (block b) xs v k e = absurd (not_closed _ v k e refl)
  ends_here (Unnamed r) (block b) xs v k e = absurd (not_closed _ v k e refl)
  ends_here (UnnamedTrailer r) (block b) xs v k e = absurd (not_closed _ v k e refl)
  ends_here (Skipping n u) x xs v k e = skips n u (x ∷ xs) v k
  ends_here _ _ xs v k e = absurd (not_closed _ v k e refl)

  still_open : (s : Expected) (xs : List TapeItem) (v : OpenSection) (k : Closing)
      → open_section (expected_after s xs) ≡ Some (v, Some k) → P s xs v k
  still_open (Trailers u l) [] v k e =
      let same : u ≡ v = ap (section_or u) e in
      let alike : l ≡ k = ap (closing_or l) e in named u v l k [] same alike
  still_open (Outside n) [] v k e = absurd (not_closed _ v k e refl)
  still_open (Skipping n u) [] v k e = skips n u [] v k
  still_open s (x ∷ xs) v k e = back s x xs v k (still_open (step s x).0 xs v k e)
  still_open _ _ v k e = absurd (not_closed _ v k e refl)

  -- ---- all sections

  all_back : (s : Expected) (x : TapeItem) (xs : List TapeItem) (l : List FoundAt)
      → AllByRecursion (PAt P (step s x).0 xs) l → AllByRecursion (PAt P s (x ∷ xs)) l
  all_back s x xs [] all = tt
  all_back s x xs ((place, (v, None)) ∷ l) (h, all) = (tt, all_back s x xs l all)
  all_back s x xs ((place, (v, Some k)) ∷ l) (h, all) = (back s x xs v k h, all_back s x xs l all)

  in_list_comes : (s : Expected) (xs : List TapeItem) (n : ℕ) (o : Option FoundSection)
      → ((v : OpenSection) (k : Closing) → o ≡ Some (v, Some k) → P s xs v k)
      → AllByRecursion (PAt P s xs) (in_list n o)
  in_list_comes s xs n None f = tt
  in_list_comes s xs n (Some (v, None)) f = (tt, tt)
  in_list_comes s xs n (Some (v, Some k)) f = (f v k refl, tt)

  all_come : (s : Expected) (n : ℕ) (xs : List TapeItem)
      → AllByRecursion (PAt P s xs) (found_from s n xs)
  all_come s n [] = tt
  all_come s n (x ∷ xs) = every-append (PAt P s (x ∷ xs)) (in_list n (step s x).1)
      (found_from (step s x).0 (one_further n) xs)
      (in_list_comes s (x ∷ xs) n (step s x).1 (λ v k e. ends_here s x xs v k e))
      (all_back s x xs (found_from (step s x).0 (one_further n) xs)
      (all_come (step s x).0 (one_further n) xs))

  pub all_found : (items : List TapeItem)
      → AllByRecursion (PAt P (Outside 0) items) (sections_in items)
  all_found items =
      let o = Outside 0 in
      let last = in_list (read_after 0 items) (open_section (expected_after o items)) in
      every-append (PAt P o items) (found_from o 0 items) last (all_come o 0 items)
      (in_list_comes o items (read_after 0 items) (open_section (expected_after o items))
      (λ v k e. still_open o items v k e))
