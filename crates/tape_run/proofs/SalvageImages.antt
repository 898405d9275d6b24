-- Copies found on the images of a source, one image after another.
use Rattle.std.proofs.Common.{◌≡◌, ◌⊎◌, ◌<◌, inl, inr, ℕ, ◌+◌, List, [], ◌∷◌, ◌++◌, length, Option}
use Rattle.std.proofs.Common.{option_map, refl, sym, ap, subst, ◌∙◌, arith, append_assoc}
use Rattle.std.proofs.{Common.append-nil, Common.length-append, KnownBytes.Appends-trans}
use Rattle.std.specs.Io.KnownBytes.{Appends}
use Rattle.tape_run.specs.declared.salvage.copies.SectionCopy.{SectionCopy}
use Rattle.tape_run.specs.{Reeling.Mounting, Reeling.AreMounted, Checked.Reel, Checked.IsReel}
use Rattle.tape_run.specs.declared.salvage.SalvageTask.{SalvageTask}
use Rattle.tape_run.specs.Salvaging.{FindsOn, FindsOnAll, StopsSalvage}
use Rattle.tape_image.specs.Written.{AppendsFront}
use Rattle.tape_run.proofs.{Turns.one_mounted, Reporting.front_then}

-- the images up to a number were read, and the copies on them were found
pub record FoundSoFar {L R : Type 0} (gives : Mounting L R) (remaining : R → Option (List ℕ))
    (set_id : List ℕ) (file : ℕ) (shelf now : L) (number : ℕ) (copies : List SectionCopy)
    (said says : Option (List ℕ)) : Type 0 where
  pub reels : List Reel
  pub counted : length reels ≡ number
  pub mounted : AreMounted gives (IsReel remaining) shelf 0 reels now
  pub text : List ℕ
  pub finds : FindsOnAll set_id file 0 reels [] copies text
  pub wrote : Appends said says text

found_more : (set_id : List ℕ) (file n : ℕ) (reels : List Reel) (reel : Reel)
    (old mid new : List SectionCopy) (text one : List ℕ)
    → FindsOnAll set_id file n reels old mid text
    → FindsOn set_id file (n + length reels) reel mid new one
    → FindsOnAll set_id file n (reels ++ reel ∷ []) old new (text ++ one)
found_more set_id file n [] reel old mid new text one (same, none) f =
    let at : n + 0 ≡ n = omega arith in (
      new,
      one,
      [],
      subst (λ m. FindsOn set_id file m reel old new one) at
          (subst (λ z. FindsOn set_id file (n + 0) reel z new one) same f),
      (refl, refl),
      ap (λ (l : List ℕ). l ++ one) none ∙ sym (append-nil one),
    )
found_more set_id file n (r ∷ reels) reel old mid new text one (z, a, b, first, rest, is) f =
    let at : n + length (r ∷ reels) ≡ n + 1 + length reels = omega arith in (
      z,
      a,
      b ++ one,
      first,
      found_more set_id file (n + 1) reels reel z mid new b one rest
          (subst (λ m. FindsOn set_id file m reel mid new one) at f),
      ap (λ (l : List ℕ). l ++ one) is ∙ append_assoc a b one,
    )

pub one_found : {L R : Type 0} (gives : Mounting L R) (remaining : R → Option (List ℕ))
    (set_id : List ℕ) (file : ℕ) (shelf now next : L) (number : ℕ) (image : Option R)
    (mid new : List SectionCopy) (said w says : Option (List ℕ))
    → FoundSoFar gives remaining set_id file shelf now number mid said w
    → gives now number image next
    → (text : List ℕ) × FindsOn set_id file number (option_map remaining image) mid new text
    × Appends w says text
    → FoundSoFar gives remaining set_id file shelf next (number + 1) new said says
one_found gives remaining set_id file shelf now next number image mid new said w says s gave
    (one, f, wrote) =
    let reel = option_map remaining image in
    let at : number ≡ 0 + length s.reels = omega (arith, s.counted) in
    record {
      reels = s.reels ++ reel ∷ [];
      counted = length-append s.reels (reel ∷ []) ∙ ap (λ n. n + 1) s.counted;
      mounted = one_mounted gives (IsReel remaining) shelf 0 s.reels now reel image next s.mounted
          (subst (λ n. gives now n image next) at gave) refl;
      text = s.text ++ one;
      finds = found_more set_id file 0 s.reels reel [] mid new s.text one s.finds
          (subst (λ n. FindsOn set_id file n reel mid new one) at f);
      wrote = Appends-trans said w says s.text one s.wrote wrote;
    }

-- the next image was not opened
pub not_opened : {L R : Type 0} (size : L → ℕ) (gives : Mounting L R)
    (remaining : R → Option (List ℕ)) (task : SalvageTask) (shelf now left : L) (number : ℕ)
    (copies : List SectionCopy) (said w : Option (List ℕ)) → number < size shelf → left ≡ now
    → FoundSoFar gives remaining task.set_id task.file shelf now number copies said w
    → StopsSalvage size gives remaining task shelf left said w
not_opened size gives remaining task shelf now left number copies said w within same s = record {
  reels = s.reels;
  middle = now;
  mounted = s.mounted;
  copies = copies;
  found = s.text;
  finds = s.finds;
  more = [];
  wrote = (s.text, [], s.wrote, refl);
  stops = inl (refl, same, omega (arith, s.counted, within));
}

-- the next image was opened, but not searched, or its line was not written completely
pub stops_at : {L R : Type 0} (size : L → ℕ) (gives : Mounting L R)
    (remaining : R → Option (List ℕ)) (task : SalvageTask) (shelf now next : L) (number : ℕ)
    (image : Option R) (mid new : List SectionCopy) (said w says : Option (List ℕ))
    → number < size shelf
    → FoundSoFar gives remaining task.set_id task.file shelf now number mid said w
    → gives now number image next
    → (says ≡ w) ⊎ ((text : List ℕ)
    × FindsOn task.set_id task.file number (option_map remaining image) mid new text
    × AppendsFront w says text)
    → StopsSalvage size gives remaining task shelf next said says
stops_at size gives remaining task shelf now next number image mid new said w says within s gave
    (inl same) = record {
      reels = s.reels;
      middle = now;
      mounted = s.mounted;
      copies = mid;
      found = s.text;
      finds = s.finds;
      more = [];
      wrote = (s.text, [], subst (λ o. Appends said o s.text) (sym same) s.wrote, refl);
      stops = inr (inl (
        refl,
        omega (arith, s.counted, within),
        (image, subst (λ n. gives now n image next) (sym s.counted) gave),
      ));
    }
stops_at size gives remaining task shelf now next number image mid new said w says within s gave
    (inr (text, f, part)) =
    let reel = option_map remaining image in
    let at : number ≡ 0 + length s.reels = omega (arith, s.counted) in
    let many = length-append s.reels (reel ∷ []) in
    record {
      reels = s.reels ++ reel ∷ [];
      middle = next;
      mounted = one_mounted gives (IsReel remaining) shelf 0 s.reels now reel image next s.mounted
          (subst (λ n. gives now n image next) at gave) refl;
      copies = new;
      found = s.text ++ text;
      finds = found_more task.set_id task.file 0 s.reels reel [] mid new s.text text s.finds
          (subst (λ n. FindsOn task.set_id task.file n reel mid new text) at f);
      more = [];
      wrote = front_then said w says s.text text [] ((s.text ++ text) ++ []) s.wrote part refl;
      stops = inl (refl, refl, omega (arith, many, s.counted, within));
    }
