-- What `check` reports for complete copies, and where sections reported as good were found.
use Rattle.std.proofs.Common.{◌≡◌, ◌⊎◌, inl, inr, ℕ, Bool, true, false, List, [], ◌∷◌, ◌++◌, Option}
use Rattle.std.proofs.Common.{Some, None, refl, sym, ap, subst, ◌∙◌, append-nil, map, flat_map}
use Rattle.std.specs.List.{AllByRecursion}
use Rattle.tape_set.specs.Layout.{FileSet, Placed, sections}
use Rattle.tape_run.specs.declared.section.{SectionKey.SectionKey, Entry.Entry}
use Rattle.tape_run.specs.declared.section.{SectionLine.SectionLine, Lack.Lack, ImageLine.ImageLine}
use Rattle.tape_run.specs.declared.section.SectionState.TheVariants.{Good}
use Rattle.tape_run.specs.{Passing.Told, Noted.same_key, Noted.StandsIn, WholeSet.key_in}
use Rattle.tape_run.specs.{WholeSet.behind_copies, CheckLine.image_lines, CheckLine.section_line}
use Rattle.tape_run.specs.{CheckLine.found_line, Checked.Reel, Checked.AddsImages}
use Rattle.tape_run.specs.{Checked.summary_of, WholeReels.AreWholeCopies, WholeReels.IsListedGood}
use Rattle.tape_run.specs.WholeReels.{WholeSetIsTold, IsShownOn, GoodWasSeen}
use Rattle.tape_run.specs.Lacks.{entry_at, IsGoodAt, line_of, lacks, found_all}
use Rattle.tape_run.proofs.KeepingPlaces.{one_key, none_stands}
use Rattle.tape_run.proofs.{StayingGood.at_if, SurveySound.none_missing}
use Rattle.tape_run.proofs.{WholeCopies.whole_copies, WholeSets.whole_set, WholeSets.all_found}

-- after complete copies the catalogue contains the sections of these copies
copies_read : (set : FileSet) (reels : List Reel) (lines : List (Option ImageLine)) (ks : List ℕ)
    (c d : List Told) → AddsImages reels lines c d → AreWholeCopies set reels lines ks
    → d ≡ behind_copies set c ks
copies_read set [] [] [] c d read whole = read
copies_read set [] [] (k ∷ ks) c d read whole = absurd whole
copies_read set [] (line ∷ lines) ks c d read whole = absurd read
copies_read set (reel ∷ reels) [] ks c d read whole = absurd read
copies_read set (Some (Some bytes) ∷ reels) (Some line ∷ lines) (k ∷ ks) c d read whole =
    let (after, adds) = read.1 in
    let mid : read.0 ≡ behind_copies set c (k ∷ []) =
    whole_copies set k bytes after c line read.0 whole.0 whole.1 adds in
    copies_read set reels lines ks read.0 d read.2 whole.2 ∙ ap (λ m. behind_copies set m ks) mid
copies_read set _ _ _ c d read whole = absurd whole

-- one more section before it
listed_behind : (x : Told) (listed : List SectionLine) (key : SectionKey) → IsListedGood listed key
    → IsListedGood (line_of x ∷ listed) key
listed_behind x listed key l = record {
  front = line_of x ∷ l.front;
  line = l.line;
  rest = l.rest;
  stands = ap (λ t. line_of x ∷ t) l.stands;
  set_id = l.set_id;
  file = l.file;
  sect = l.sect;
  good = l.good;
}

the_same : (a b : Entry) → Some a ≡ Some b → a ≡ b
the_same a b is = cc

listed_here : (x : Told) (xs : List Told) (key : SectionKey) (b : Bool) (e : Entry)
    → same_key key x.0 ≡ b → e.state ≡ Good → at_if b x.1 (entry_at xs key) ≡ Some e
    → (entry_at xs key ≡ Some e → IsListedGood (map line_of xs) key)
    → IsListedGood (map line_of (x ∷ xs)) key
listed_here x xs key true e same good is more =
    let one : key ≡ x.0 = one_key key x.0 same in
    record {
      front = [];
      line = line_of x;
      rest = map line_of xs;
      stands = refl;
      set_id = ap (λ k. k.set_id) (sym one);
      file = ap (λ k. k.file) (sym one);
      sect = ap (λ k. k.sect) (sym one);
      good = ap (λ y. y.state) (the_same x.1 e is) ∙ good;
    }
listed_here x xs key false e same good is more = listed_behind x (map line_of xs) key (more is)

-- a good section has a line GOOD
listed_good : (c : List Told) (key : SectionKey) (e : Entry) → entry_at c key ≡ Some e
    → e.state ≡ Good → IsListedGood (map line_of c) key
listed_good [] key e there good = absurd (cc there)
listed_good (x ∷ xs) key e there good =
    listed_here x xs key (same_key key x.0) e refl good there (λ is. listed_good xs key e is good)

all_listed : (set : FileSet) (c : List Told) (xs : List Placed)
    → AllByRecursion (λ x. IsGoodAt c (key_in set x)) xs
    → AllByRecursion (λ x. IsListedGood (map line_of c) (key_in set x)) xs
all_listed set c [] all = tt
all_listed set c (x ∷ xs) all =
    (listed_good c (key_in set x) all.0.entry all.0.there all.0.good, all_listed set c xs all.1)

-- the summary if nothing is missing
summed : (c : List Told) (found : Bool) (ls : List Lack) → found ≡ true → ls ≡ []
    → summary_of (map line_of c) ls found ≡ flat_map section_line (map line_of c) ++ found_line
summed c found ls all none = ap (λ l. summary_of (map line_of c) l found) none
    ∙ ap (λ b. summary_of (map line_of c) [] b) all
    ∙ ap (λ l. l ++ found_line) (append-nil (flat_map section_line (map line_of c)))

pub whole_told : WholeSetIsTold
whole_told set ks reels text found lawful each some report whole =
    let d = report.sections in
    let same : d ≡ behind_copies set [] ks =
    copies_read set reels report.lines ks [] d report.read whole in
    let all : found_all d ≡ true = ap found_all same ∙ all_found set ks lawful each some in
    record {
      all = report.all ∙ all;
      listed = map line_of d;
      told = report.told ∙ ap (λ t. image_lines 1 report.lines ++ t) (summed d (found_all d)
          (lacks d) all (none_missing d all));
      good = all_listed set d (sections set)
          (subst (λ c. AllByRecursion (λ x. IsGoodAt c (key_in set x)) (sections set)) (sym same)
          (whole_set set ks [] lawful each));
    }

shown_behind : (reel : Reel) (reels : List Reel) (told : Told) → IsShownOn reels told
    → IsShownOn (reel ∷ reels) told
shown_behind reel reels told s = record {
  front = reel ∷ s.front;
  before = s.before;
  rest = s.rest;
  stands = ap (λ l. reel ∷ l) s.stands;
  items = s.items;
  stop = s.stop;
  after = s.after;
  read = s.read;
  shown = s.shown;
}

-- a section that is good after some images was good before, or one of these images shows it
seen : (reels : List Reel) (lines : List (Option ImageLine)) (c d : List Told) (told : Told)
    → AddsImages reels lines c d → StandsIn d told → told.1.state ≡ Good
    → StandsIn c told ⊎ IsShownOn reels told
seen [] [] c d told read stands good = inl (subst (λ l. StandsIn l told) read stands)
seen [] (l ∷ lines) c d told read stands good = absurd read
seen (r ∷ reels) [] c d told read stands good = absurd read
seen (None ∷ reels) (None ∷ lines) c d told read stands good =
    elim (seen reels lines read.0 d told read.2 stands good) [
      | inl before ↦ inl (subst (λ l. StandsIn l told) read.1 before)
      | inr shown ↦ inr
          (shown_behind None reels told shown)
    ]
seen (None ∷ reels) (Some line ∷ lines) c d told read stands good = absurd read.1
seen (Some before ∷ reels) (None ∷ lines) c d told read stands good = absurd read.1
seen (Some before ∷ reels) (Some line ∷ lines) c d told read stands good =
    let (after, adds) = read.1 in
    elim (seen reels lines read.0 d told read.2 stands good) [
      | inl there ↦ elim (adds.good told there good) [
        | inl old ↦ inl old
        | inr shown ↦ inr (record {
          front = [];
          before = before;
          rest = reels;
          stands = refl;
          items = adds.items;
          stop = line.stop;
          after = after;
          read = adds.stop;
          shown = shown;
        })
      ]
      | inr shown ↦ inr (shown_behind (Some before) reels told shown)
    ]

pub good_was_seen : GoodWasSeen
good_was_seen reels text found report told stands good =
    elim (seen reels report.lines [] report.sections told report.read stands good)
    [ inl none ↦ absurd (none_stands told none) | inr shown ↦ shown ]
