-- Good copies of a section agree if no file is in conflict.
use Rattle.std.proofs.Common.{◌≡◌, ℕ, ◌+◌, Bool, true, false, List, [], ◌∷◌, ◌++◌, Option}
use Rattle.std.proofs.Common.{Some, None, refl, sym, ap, subst, ◌∙◌, arith, append_assoc}
use Rattle.std.proofs.Common.{append-nil, map, ◌==◌, ◌&&◌, if◌then◌else◌, option_map, cond}
use Rattle.std.proofs.{Common.is_some, lemmas.Bool.Decides.nat_tests, lemmas.Bool.and_parts}
use Rattle.std.specs.{List.AllByRecursion, Map.lookup, Option.option_or}
use Rattle.indexmap.specs.IndexMap.{insert_entry}
use Rattle.tape_blocks.specs.Faults.{bool_eq}
use Rattle.tape_run.specs.SurveyCopies.{Copy, copies_on, Noted, Disputed, Copied, with_same}
use Rattle.tape_run.specs.SurveyCopies.{with_agreed, with_other, with_other_end, opponent_of}
use Rattle.tape_run.specs.SurveyCopies.{copy_note, noted_at, with_conflict, with_good, with_copies}
use Rattle.tape_run.specs.{SurveyCopies.is_agreed, SurveyDigest.digest_of, Checked.Reel}
use Rattle.tape_run.specs.{declared.survey.view.ImageSurvey.ImageSurvey, Reeling.Mounting}
use Rattle.tape_run.specs.{declared.section.SectionKey.SectionKey, declared.section.Entry.Entry}
use Rattle.tape_run.specs.{declared.survey.copies.CopyNote.CopyNote, Noted.same_key}
use Rattle.tape_run.specs.SurveyConflicts.{Placed, placed_on, placed_in, all_placed}
use Rattle.tape_run.specs.SurveyRead.{Found, IsViewed, AreViewed}
use Rattle.tape_run.specs.SurveySound.{Agree}
use Rattle.tape_run.proofs.{KeepingPlaces.one_key, StayingGood.key_again}

-- ---- the contents of a map after an insertion

here_by : (e : Noted) (es : List Noted) (k : SectionKey) (n : CopyNote) (b : Bool)
    → same_key k e.0 ≡ b → lookup (same_key k) (insert_entry same_key es k n) ≡ Some n
    → lookup (same_key k) (if b then (e.0, n) ∷ es else e ∷ insert_entry same_key es k n) ≡ Some n
here_by e es k n true is rest = ap (λ b. cond b (Some n) (lookup (same_key k) es)) is
here_by e es k n false is rest =
    ap (λ b. cond b (Some e.1) (lookup (same_key k) (insert_entry same_key es k n))) is ∙ rest

inserted_here : (es : List Noted) (k : SectionKey) (n : CopyNote)
    → noted_at (insert_entry same_key es k n) k ≡ Some n
inserted_here [] k n = ap (λ b. cond b (Some n) None) (key_again k)
inserted_here (e ∷ es) k n = here_by e es k n (same_key k e.0) refl (inserted_here es k n)

there_by : (e : Noted) (es : List Noted) (q k : SectionKey) (n : CopyNote) (b : Bool)
    → same_key k e.0 ≡ b → same_key q k ≡ false
    → lookup (same_key q) (insert_entry same_key es k n) ≡ lookup (same_key q) es
    → lookup (same_key q) (if b then (e.0, n) ∷ es else e ∷ insert_entry same_key es k n)
    ≡ cond (same_key q e.0) (Some e.1) (lookup (same_key q) es)
there_by e es q k n true is other rest =
    let no : same_key q e.0 ≡ false = ap (same_key q) (sym (one_key k e.0 is)) ∙ other in
    ap (λ b. cond b (Some n) (lookup (same_key q) es)) no
    ∙ sym (ap (λ b. cond b (Some e.1) (lookup (same_key q) es)) no)
there_by e es q k n false is other rest = ap (λ o. cond (same_key q e.0) (Some e.1) o) rest

inserted_there : (es : List Noted) (q k : SectionKey) (n : CopyNote) → same_key q k ≡ false
    → noted_at (insert_entry same_key es k n) q ≡ noted_at es q
inserted_there [] q k n other = ap (λ b. cond b (Some n) None) other
inserted_there (e ∷ es) q k n other =
    there_by e es q k n (same_key k e.0) refl other (inserted_there es q k n other)

-- ---- copies that agree

-- the record of its section has the number of blocks, the digest and the end of a copy
pub record IsNoted (es : List Noted) (x : Placed) : Type 0 where
  pub note : CopyNote
  pub there : noted_at es x.1.0.0 ≡ Some note
  pub counted : note.blocks ≡ x.1.0.1.blocks
  pub digested : note.digest ≡ digest_of x.1.1
  pub ended : note.eof ≡ x.1.0.1.eof

pub same_nat : (m n : ℕ) → (m == n) ≡ true → m ≡ n
same_nat m n e = grind (arith, nat_tests, e)

never_empty : (b : Bool) (x y : Disputed) (xs ys : List Disputed)
    → is_agreed (if b then x ∷ xs else y ∷ ys) ≡ true → ⊥
never_empty true x y xs ys e = cc e
never_empty false x y xs ys e = cc e

in_conflict : (fs : List Disputed) (k : SectionKey) → is_agreed (with_conflict fs k true) ≡ true → ⊥
in_conflict [] k e = cc e
in_conflict (f ∷ fs) k e = never_empty _ _ _ _ _ e

-- no file came into conflict
no_conflict : (fs : List Disputed) (k : SectionKey) (b : Bool)
    → is_agreed (with_conflict fs k b) ≡ true → (b ≡ false) × (is_agreed fs ≡ true)
no_conflict fs k true e = absurd (in_conflict fs k e)
no_conflict fs k false e = (refl, e)

some_other : (o : Option ℕ) (i : ℕ) → is_some (option_or o (Some i)) ≡ true
some_other None i = refl
some_other (Some j) i = refl

some_first : (o p : Option ℕ) → is_some o ≡ true → is_some (option_or o p) ≡ true
some_first None p e = absurd (cc e)
some_first (Some i) p e = refl

some_second : (o p : Option ℕ) → is_some p ≡ true → is_some (option_or o p) ≡ true
some_second None p e = e
some_second (Some i) p e = refl

same_bool : (a b : Bool) → bool_eq a b ≡ true → a ≡ b
same_bool true b e = sym e
same_bool false true e = absurd (cc e)
same_bool false false e = refl

-- the record of a section after a copy that agrees
record Kept (old : Option CopyNote) (new : CopyNote) (entry : Entry) (digest : ℕ) : Type 0 where
  pub counted : new.blocks ≡ entry.blocks
  pub digested : new.digest ≡ digest
  pub ended : new.eof ≡ entry.eof
  pub was : (n : CopyNote) → old ≡ Some n
      → (n.blocks ≡ entry.blocks) × (n.digest ≡ digest) × (n.eof ≡ entry.eof)

kept_same : (n : CopyNote) (image : ℕ) (entry : Entry) (digest : ℕ) (b : Bool)
    → bool_eq n.eof entry.eof ≡ b → n.blocks ≡ entry.blocks → n.digest ≡ digest
    → is_some (opponent_of (if b then with_agreed n else with_other_end n image)) ≡ false
    → Kept (Some n) (if b then with_agreed n else with_other_end n image) entry digest
kept_same n image entry digest true e one two none =
    let three : n.eof ≡ entry.eof = same_bool n.eof entry.eof e in
    record {
      counted = one;
      digested = two;
      ended = three;
      was = λ m is.
          let same : n ≡ m = cc is in (
            sym (ap (λ (k : CopyNote). k.blocks) same) ∙ one,
            sym (ap (λ (k : CopyNote). k.digest) same) ∙ two,
            sym (ap (λ (k : CopyNote). k.eof) same) ∙ three,
          );
    }
kept_same n image entry digest false e one two none =
    let is : is_some (option_or n.other (option_or n.other_end (Some image))) ≡ true =
    some_second n.other (option_or n.other_end (Some image)) (some_other n.other_end image) in
    absurd (let no : true ≡ false = sym is ∙ none in cc no)

kept_if : (n : CopyNote) (image : ℕ) (entry : Entry) (digest : ℕ) (b : Bool)
    → ((n.blocks == entry.blocks) && (n.digest == digest)) ≡ b
    → is_some (opponent_of (if b then with_same n image entry.eof else with_other n image)) ≡ false
    → Kept (Some n) (if b then with_same n image entry.eof else with_other n image) entry digest
kept_if n image entry digest true e none =
    let (one, two) = and_parts (n.blocks == entry.blocks) (n.digest == digest) e in
    kept_same n image entry digest (bool_eq n.eof entry.eof) refl
    (same_nat n.blocks entry.blocks one) (same_nat n.digest digest two) none
kept_if n image entry digest false e none =
    let is : is_some (option_or (option_or n.other (Some image)) n.other_end) ≡ true =
    some_first (option_or n.other (Some image)) n.other_end (some_other n.other image) in
    absurd (let no : true ≡ false = sym is ∙ none in cc no)

kept : (old : Option CopyNote) (image : ℕ) (entry : Entry) (digest : ℕ)
    → is_some (opponent_of (copy_note old image entry digest)) ≡ false
    → Kept old (copy_note old image entry digest) entry digest
kept None image entry digest none =
    record { counted = refl; digested = refl; ended = refl; was = λ n is. absurd (cc is) }
kept (Some n) image entry digest none = kept_if _ _ entry digest _ refl none

-- a copy that was found before is still recorded
noted_by : (es : List Noted) (k : SectionKey) (new : CopyNote) (entry : Entry) (digest : ℕ)
    (x : Placed) (b : Bool) → same_key x.1.0.0 k ≡ b → Kept (noted_at es k) new entry digest
    → IsNoted es x
    → IsNoted (insert_entry same_key es k new) x
noted_by es k new entry digest x true is h old =
    let one : x.1.0.0 ≡ k = one_key x.1.0.0 k is in
    let (counts, digests, ends) = h.was old.note (ap (noted_at es) (sym one) ∙ old.there) in
    record {
      note = new;
      there = ap (noted_at (insert_entry same_key es k new)) one ∙ inserted_here es k new;
      counted = h.counted ∙ sym counts ∙ old.counted;
      digested = h.digested ∙ sym digests ∙ old.digested;
      ended = h.ended ∙ sym ends ∙ old.ended;
    }
noted_by es k new entry digest x false is h old = record {
  note = old.note;
  there = inserted_there es x.1.0.0 k new is ∙ old.there;
  counted = old.counted;
  digested = old.digested;
  ended = old.ended;
}

still_noted : (es : List Noted) (k : SectionKey) (new : CopyNote) (entry : Entry) (digest : ℕ)
    (xs : List Placed) → Kept (noted_at es k) new entry digest → AllByRecursion (IsNoted es) xs
    → AllByRecursion (IsNoted (insert_entry same_key es k new)) xs
still_noted es k new entry digest [] h all = tt
still_noted es k new entry digest (x ∷ xs) h (one, all) = (
  noted_by es k new entry digest x (same_key x.1.0.0 k) refl h one,
  still_noted es k new entry digest xs h all,
)

one_more : (P : Placed → Type 0) (xs : List Placed) (x : Placed) → AllByRecursion P xs → P x
    → AllByRecursion P (xs ++ x ∷ [])
one_more P [] x all one = (one, tt)
one_more P (y ∷ xs) x (here, all) one = (here, one_more P xs x all one)

-- the copies found so far are all recorded, unless a file is in conflict
abbrev pub NotedSoFar : List Placed → Copied → Type 0
NotedSoFar xs c = is_agreed c.conflicts ≡ true → AllByRecursion (IsNoted c.notes) xs

good_noted : (xs : List Placed) (c : Copied) (x : Placed) → NotedSoFar xs c
    → NotedSoFar (xs ++ x ∷ []) (with_good c x.0 x.1.0.0 x.1.0.1 (digest_of x.1.1))
good_noted xs c x h e =
    let k = x.1.0.0 in
    let digest = digest_of x.1.1 in
    let new = copy_note (noted_at c.notes k) x.0 x.1.0.1 digest in
    let (none, agreed) = no_conflict _ _ _ e in
    let now = kept _ _ _ _ none in
    one_more _ _ x (still_noted _ _ _ _ _ _ now (h agreed)) (record {
      note = new;
      there = inserted_here c.notes k new;
      counted = now.counted;
      digested = now.digested;
      ended = now.ended;
    })

copies_noted : (xs : List Placed) (image : ℕ) (c : Copied) (ys : List Copy) → NotedSoFar xs c
    → NotedSoFar (xs ++ map (λ y. (image, y)) ys) (with_copies image c ys)
copies_noted xs image c [] h = subst (λ l. NotedSoFar l c) (sym (append-nil xs)) h
copies_noted xs image c (y ∷ ys) h =
    let next = with_good c image y.0.0 y.0.1 (digest_of y.1) in
    subst (λ l. NotedSoFar l (with_copies image next ys))
    (append_assoc xs ((image, y) ∷ []) (map (λ z. (image, z)) ys))
    (copies_noted (xs ++ (image, y) ∷ []) image next ys (good_noted xs c (image, y) h))

image_noted : (xs : List Placed) (reel : Reel) (sight : Option ImageSurvey) (c d : Found)
    → (v : IsViewed reel sight c d) → NotedSoFar xs c.copies
    → NotedSoFar (xs ++ placed_in reel sight c d v) d.copies
image_noted xs None None c d v h =
    subst (λ (f : Found). NotedSoFar (xs ++ []) f.copies) (sym v)
    (subst (λ l. NotedSoFar l c.copies) (sym (append-nil xs)) h)
image_noted xs (Some before) (Some sight) c d v h =
    subst (λ (k : Copied). NotedSoFar (xs ++ placed_on c.images v.1.items) k) (sym v.1.copied)
    (copies_noted xs c.images c.copies (copies_on v.1.items) h)
image_noted xs None (Some sight) c d v h = absurd v
image_noted xs (Some before) None c d v h = absurd v

pub images_noted : {L R : Type 0} (gives : Mounting L R) (remaining : R → Option (List ℕ))
    (xs : List Placed) (shelf : L) (number : ℕ) (sights : List (Option ImageSurvey)) (c : Found)
    (last : L) (d : Found) → (v : AreViewed gives remaining shelf number sights c last d)
    → NotedSoFar xs c.copies
    → NotedSoFar (xs ++ all_placed gives remaining shelf number sights c last d v) d.copies
images_noted gives remaining xs shelf number [] c last d v h =
    subst (λ (f : Found). NotedSoFar (xs ++ []) f.copies) (sym v.1)
    (subst (λ l. NotedSoFar l c.copies) (sym (append-nil xs)) h)
images_noted gives remaining xs shelf number (sight ∷ sights) c last d
    (image, next, mid, gave, is, are) h =
    let here = placed_in (option_map remaining image) sight c mid is in
    let more = all_placed gives remaining next (number + 1) sights mid last d are in
    subst (λ l. NotedSoFar l d.copies) (append_assoc xs here more)
    (images_noted gives remaining (xs ++ here) next (number + 1) sights mid last d are
    (image_noted xs (option_map remaining image) sight c mid is h))

pub agree : (es : List Noted) (x y : Placed) → IsNoted es x → IsNoted es y → x.1.0.0 ≡ y.1.0.0
    → Agree x y
agree es x y a b same =
    let one : a.note ≡ b.note = cc (sym a.there ∙ ap (noted_at es) same ∙ b.there) in (
      sym a.counted ∙ ap (λ (n : CopyNote). n.blocks) one ∙ b.counted,
      sym a.digested ∙ ap (λ (n : CopyNote). n.digest) one ∙ b.digested,
      sym a.ended ∙ ap (λ (n : CopyNote). n.eof) one ∙ b.ended,
    )
