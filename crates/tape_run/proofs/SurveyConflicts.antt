-- The records about good copies describe copies that were found.
use Rattle.std.proofs.Common.{◌≡◌, ℕ, ◌+◌, Bool, true, false, List, [], ◌∷◌, ◌++◌, length, Option}
use Rattle.std.proofs.Common.{Some, None, refl, sym, ap, subst, ◌∙◌, append_assoc}
use Rattle.std.proofs.Common.{append-nil, map, ◌==◌, ◌&&◌, if◌then◌else◌, option_map, cond}
use Rattle.std.specs.{List.AllByRecursion, Option.option_or}
use Rattle.indexmap.specs.IndexMap.{insert_entry}
use Rattle.tape_image.specs.Tape.{TapeItem}
use Rattle.tape_run.specs.SurveyConflicts.{Placed, placed_on, placed_in, all_placed, IsIn}
use Rattle.tape_blocks.specs.Faults.{bool_eq}
use Rattle.tape_run.specs.SurveyCopies.{Copy, copies_on, Noted, Copied, with_same, with_agreed}
use Rattle.tape_run.specs.SurveyCopies.{with_other, with_other_end}
use Rattle.tape_run.specs.{declared.survey.copies.CopyNote.CopyNote, Checked.Reel, Noted.same_key}
use Rattle.tape_run.specs.{declared.survey.view.ImageSurvey.ImageSurvey, Reeling.Mounting}
use Rattle.tape_run.specs.{declared.section.SectionKey.SectionKey, SurveyDigest.digest_of}
use Rattle.tape_run.specs.SurveyCopies.{copy_note, noted_at, with_good, with_copies}
use Rattle.tape_run.specs.SurveyRead.{Found, nothing_found, IsViewed, AreViewed}
use Rattle.tape_run.proofs.KeepingPlaces.{one_key}
use Rattle.tape_run.proofs.SurveyShown.{AllShownAs, copies_are_shown}

-- ---- elements of a list

pub in_more : {X : Type 0} (xs more : List X) (x : X) → IsIn xs x → IsIn (xs ++ more) x
in_more xs more x i = record {
  front = i.front;
  rest = i.rest ++ more;
  stands = ap (λ r. r ++ more) i.stands ∙ append_assoc i.front (x ∷ i.rest) more;
}

in_last : {X : Type 0} (xs : List X) (x : X) → IsIn (xs ++ x ∷ []) x
in_last xs x = record { front = xs; rest = []; stands = refl }

all_at : {X : Type 0} (P : X → Type 0) (front rest : List X) (x : X)
    → AllByRecursion P (front ++ x ∷ rest) → P x
all_at P [] rest x (h, hs) = h
all_at P (y ∷ front) rest x (h, hs) = all_at P front rest x hs

pub of_all : {X : Type 0} (P : X → Type 0) (xs : List X) (x : X) → AllByRecursion P xs → IsIn xs x
    → P x
of_all P xs x h i = all_at P i.front i.rest x (subst (AllByRecursion P) i.stands h)

-- ---- a record about copies describes copies that were found

-- the number of blocks that a copy has
abbrev pub count : Placed → ℕ
count x = x.1.0.1.blocks

-- a copy agrees with a number of blocks and a digest
abbrev pub agrees : ℕ → ℕ → Placed → Bool
agrees blocks digest x = (blocks == count x) && (digest == digest_of x.1.1)

-- a copy of this section on this image that does not agree
pub record Other (xs : List Placed) (key : SectionKey) (blocks digest image : ℕ) : Type 0 where
  pub copy : Placed
  pub there : IsIn xs copy
  pub of_key : copy.1.0.0 ≡ key
  pub on : copy.0 ≡ image
  pub differs : agrees blocks digest copy ≡ false

-- a copy of this section on this image that ends otherwise
pub record OtherEnd (xs : List Placed) (key : SectionKey) (eof : Bool) (image : ℕ) : Type 0 where
  pub copy : Placed
  pub there : IsIn xs copy
  pub of_key : copy.1.0.0 ≡ key
  pub on : copy.0 ≡ image
  pub differs : bool_eq eof copy.1.0.1.eof ≡ false

pub record NoteOf (xs : List Placed) (key : SectionKey) (n : CopyNote) : Type 0 where
  pub copy : Placed
  pub there : IsIn xs copy
  pub of_key : copy.1.0.0 ≡ key
  pub on : copy.0 ≡ n.image
  pub counted : count copy ≡ n.blocks
  pub digested : digest_of copy.1.1 ≡ n.digest
  pub ended : copy.1.0.1.eof ≡ n.eof
  pub other : (j : ℕ) → n.other ≡ Some j → Other xs key n.blocks n.digest j
  pub other_end : (j : ℕ) → n.other_end ≡ Some j → OtherEnd xs key n.eof j

other_more : (xs more : List Placed) (key : SectionKey) (blocks digest j : ℕ)
    → Other xs key blocks digest j → Other (xs ++ more) key blocks digest j
other_more xs more key blocks digest j o = record {
  copy = o.copy;
  there = in_more xs more o.copy o.there;
  of_key = o.of_key;
  on = o.on;
  differs = o.differs;
}

end_more : (xs more : List Placed) (key : SectionKey) (eof : Bool) (j : ℕ)
    → OtherEnd xs key eof j → OtherEnd (xs ++ more) key eof j
end_more xs more key eof j o = record {
  copy = o.copy;
  there = in_more xs more o.copy o.there;
  of_key = o.of_key;
  on = o.on;
  differs = o.differs;
}

note_more : (xs more : List Placed) (key : SectionKey) (n : CopyNote) → NoteOf xs key n
    → NoteOf (xs ++ more) key n
note_more xs more key n h = record {
  copy = h.copy;
  there = in_more xs more h.copy h.there;
  of_key = h.of_key;
  on = h.on;
  counted = h.counted;
  digested = h.digested;
  ended = h.ended;
  other = λ j e. other_more xs more key n.blocks n.digest j (h.other j e);
  other_end = λ j e. end_more xs more key n.eof j (h.other_end j e);
}

-- the first copy
note_first : (xs : List Placed) (x : Placed)
    → NoteOf (xs ++ x ∷ []) x.1.0.0 (copy_note None x.0 x.1.0.1 (digest_of x.1.1))
note_first xs x = record {
  copy = x;
  there = in_last xs x;
  of_key = refl;
  on = refl;
  counted = refl;
  digested = refl;
  ended = refl;
  other = λ j e. absurd (cc e);
  other_end = λ j e. absurd (cc e);
}

-- which of the copies is the other one
which : (xs : List Placed) (x : Placed) (key : SectionKey) (blocks digest : ℕ) (o : Option ℕ)
    (j : ℕ)
    → x.1.0.0 ≡ key → agrees blocks digest x ≡ false
    → ((i : ℕ) → o ≡ Some i → Other xs key blocks digest i) → option_or o (Some x.0) ≡ Some j
    → Other (xs ++ x ∷ []) key blocks digest j
which xs x key blocks digest None j k e h is = record {
  copy = x;
  there = in_last xs x;
  of_key = k;
  on = cc is;
  differs = e;
}
which xs x key blocks digest (Some i) j k e h is = other_more _ (x ∷ []) _ _ _ _ (h j is)

which_end : (xs : List Placed) (x : Placed) (key : SectionKey) (eof : Bool) (o : Option ℕ) (j : ℕ)
    → x.1.0.0 ≡ key → bool_eq eof x.1.0.1.eof ≡ false
    → ((i : ℕ) → o ≡ Some i → OtherEnd xs key eof i) → option_or o (Some x.0) ≡ Some j
    → OtherEnd (xs ++ x ∷ []) key eof j
which_end xs x key eof None j k e h is = record {
  copy = x;
  there = in_last xs x;
  of_key = k;
  on = cc is;
  differs = e;
}
which_end xs x key eof (Some i) j k e h is = end_more _ (x ∷ []) _ _ _ (h j is)

-- one copy more, with the same data blocks
note_same : (xs : List Placed) (x : Placed) (key : SectionKey) (n : CopyNote) (b : Bool)
    → bool_eq n.eof x.1.0.1.eof ≡ b → x.1.0.0 ≡ key → NoteOf xs key n
    → NoteOf (xs ++ x ∷ []) key (if b then with_agreed n else with_other_end n x.0)
note_same xs x key n true e k h = record {
  copy = h.copy;
  there = in_more xs (x ∷ []) h.copy h.there;
  of_key = h.of_key;
  on = h.on;
  counted = h.counted;
  digested = h.digested;
  ended = h.ended;
  other = λ j is. other_more xs (x ∷ []) key n.blocks n.digest j (h.other j is);
  other_end = λ j is. end_more xs (x ∷ []) key n.eof j (h.other_end j is);
}
note_same xs x key n false e k h = record {
  copy = h.copy;
  there = in_more xs (x ∷ []) h.copy h.there;
  of_key = h.of_key;
  on = h.on;
  counted = h.counted;
  digested = h.digested;
  ended = h.ended;
  other = λ j is. other_more xs (x ∷ []) key n.blocks n.digest j (h.other j is);
  other_end = λ j is. which_end xs x key n.eof n.other_end j k e h.other_end is;
}

-- one copy more
note_if : (xs : List Placed) (x : Placed) (key : SectionKey) (n : CopyNote) (b : Bool)
    → agrees n.blocks n.digest x ≡ b → x.1.0.0 ≡ key → NoteOf xs key n
    → NoteOf (xs ++ x ∷ []) key (if b then with_same n x.0 x.1.0.1.eof else with_other n x.0)
note_if xs x key n true e k h = note_same xs x key n (bool_eq n.eof x.1.0.1.eof) refl k h
note_if xs x key n false e k h = record {
  copy = h.copy;
  there = in_more xs (x ∷ []) h.copy h.there;
  of_key = h.of_key;
  on = h.on;
  counted = h.counted;
  digested = h.digested;
  ended = h.ended;
  other = λ j is. which xs x key n.blocks n.digest n.other j k e h.other is;
  other_end = λ j is. end_more xs (x ∷ []) key n.eof j (h.other_end j is);
}

abbrev AllNoted : List Placed → List Noted → Type 0
AllNoted xs es = AllByRecursion (λ e. NoteOf xs e.0 e.1) es

all_more : (xs more : List Placed) (es : List Noted) → AllNoted xs es → AllNoted (xs ++ more) es
all_more xs more [] h = tt
all_more xs more (e ∷ es) (h, hs) = (note_more xs more e.0 e.1 h, all_more xs more es hs)

-- the records after one more copy
abbrev noted : List Noted → Placed → List Noted
noted es x = insert_entry same_key es x.1.0.0
    (copy_note (noted_at es x.1.0.0) x.0 x.1.0.1 (digest_of x.1.1))

noted_here : (xs : List Placed) (x : Placed) (e : Noted) (es : List Noted) (b : Bool)
    → same_key x.1.0.0 e.0 ≡ b → AllNoted xs (e ∷ es) → AllNoted (xs ++ x ∷ []) (noted es x)
    → AllNoted (xs ++ x ∷ []) (if b
    then (e.0, copy_note (cond b (Some e.1) (noted_at es x.1.0.0)) x.0 x.1.0.1 (digest_of x.1.1))
    ∷ es
    else e ∷ insert_entry same_key es x.1.0.0
    (copy_note (cond b (Some e.1) (noted_at es x.1.0.0)) x.0 x.1.0.1 (digest_of x.1.1)))
noted_here xs x e es true is (h, hs) rest = (
  note_if xs x e.0 e.1 (agrees e.1.blocks e.1.digest x) refl (one_key x.1.0.0 e.0 is) h,
  all_more xs (x ∷ []) es hs,
)
noted_here xs x e es false is (h, hs) rest = (note_more xs (x ∷ []) e.0 e.1 h, rest)

all_noted : (xs : List Placed) (x : Placed) (es : List Noted) → AllNoted xs es
    → AllNoted (xs ++ x ∷ []) (noted es x)
all_noted xs x [] h = (note_first xs x, tt)
all_noted xs x (e ∷ es) h =
    noted_here xs x e es (same_key x.1.0.0 e.0) refl h (all_noted xs x es h.1)

-- ---- image by image

of_copies : (xs : List Placed) (image : ℕ) (c : Copied) (ys : List Copy) → AllNoted xs c.notes
    → AllNoted (xs ++ map (λ y. (image, y)) ys) (with_copies image c ys).notes
of_copies xs image c [] h = subst (λ l. AllNoted l c.notes) (sym (append-nil xs)) h
of_copies xs image c (y ∷ ys) h =
    let next = with_good c image y.0.0 y.0.1 (digest_of y.1) in
    subst (λ l. AllNoted l (with_copies image next ys).notes)
    (append_assoc xs ((image, y) ∷ []) (map (λ z. (image, z)) ys))
    (of_copies (xs ++ (image, y) ∷ []) image next ys (all_noted xs (image, y) c.notes h))

of_image : (xs : List Placed) (reel : Reel) (sight : Option ImageSurvey) (c d : Found)
    → (v : IsViewed reel sight c d) → AllNoted xs c.copies.notes
    → AllNoted (xs ++ placed_in reel sight c d v) d.copies.notes
of_image xs None None c d v h =
    subst (λ (f : Found). AllNoted (xs ++ []) f.copies.notes) (sym v)
    (subst (λ l. AllNoted l c.copies.notes) (sym (append-nil xs)) h)
of_image xs (Some before) (Some sight) c d v h =
    subst (λ (k : Copied). AllNoted (xs ++ placed_on c.images v.1.items) k.notes) (sym v.1.copied)
    (of_copies xs c.images c.copies (copies_on v.1.items) h)
of_image xs None (Some sight) c d v h = absurd v
of_image xs (Some before) None c d v h = absurd v

of_images : {L R : Type 0} (gives : Mounting L R) (remaining : R → Option (List ℕ))
    (xs : List Placed)
    (shelf : L) (number : ℕ) (sights : List (Option ImageSurvey)) (c : Found) (last : L) (d : Found)
    → (v : AreViewed gives remaining shelf number sights c last d) → AllNoted xs c.copies.notes
    → AllNoted (xs ++ all_placed gives remaining shelf number sights c last d v) d.copies.notes
of_images gives remaining xs shelf number [] c last d v h =
    subst (λ (f : Found). AllNoted (xs ++ []) f.copies.notes) (sym v.1)
    (subst (λ l. AllNoted l c.copies.notes) (sym (append-nil xs)) h)
of_images gives remaining xs shelf number (sight ∷ sights) c last d
    (image, next, mid, gave, is, are) h =
    let here = placed_in (option_map remaining image) sight c mid is in
    let more = all_placed gives remaining next (number + 1) sights mid last d are in
    subst (λ l. AllNoted l d.copies.notes) (append_assoc xs here more)
    (of_images gives remaining (xs ++ here) next (number + 1) sights mid last d are
    (of_image xs (option_map remaining image) sight c mid is h))

-- ---- the number of blocks

abbrev pub AllCounted : List Placed → Type 0
AllCounted xs = AllByRecursion (λ x. x.1.0.1.blocks ≡ length x.1.1) xs

counted_on : (items : List TapeItem) (image : ℕ) (ys : List Copy) → AllShownAs items ys
    → AllCounted (map (λ y. (image, y)) ys)
counted_on items image [] h = tt
counted_on items image (y ∷ ys) (h, hs) =
    (h.shown.blocks ∙ ap length h.blocks_are, counted_on items image ys hs)

both_counted : (xs ys : List Placed) → AllCounted xs → AllCounted ys → AllCounted (xs ++ ys)
both_counted [] ys a b = b
both_counted (x ∷ xs) ys (a, as_) b = (a, both_counted xs ys as_ b)

counted_in : (reel : Reel) (sight : Option ImageSurvey) (c d : Found) (v : IsViewed reel sight c d)
    → AllCounted (placed_in reel sight c d v)
counted_in None None c d v = tt
counted_in (Some before) (Some sight) c d v = counted_on _ c.images _ (copies_are_shown v.1.items)
counted_in None (Some sight) c d v = tt
counted_in (Some before) None c d v = tt

pub all_counted : {L R : Type 0} (gives : Mounting L R) (remaining : R → Option (List ℕ))
    (shelf : L)
    (number : ℕ) (sights : List (Option ImageSurvey)) (c : Found) (last : L) (d : Found)
    → (v : AreViewed gives remaining shelf number sights c last d)
    → AllCounted (all_placed gives remaining shelf number sights c last d v)
all_counted gives remaining shelf number [] c last d v = tt
all_counted gives remaining shelf number (sight ∷ sights) c last d
    (image, next, mid, gave, is, are) =
    both_counted (placed_in (option_map remaining image) sight c mid is)
    (all_placed gives remaining next (number + 1) sights mid last d are)
    (counted_in (option_map remaining image) sight c mid is)
    (all_counted gives remaining next (number + 1) sights mid last d are)

-- ---- together

-- each record about copies describes copies that were found
pub note_is : {L R : Type 0} (gives : Mounting L R) (remaining : R → Option (List ℕ))
    (shelf last : L) (sights : List (Option ImageSurvey)) (d : Found)
    (v : AreViewed gives remaining shelf 0 sights nothing_found last d) (key : SectionKey)
    (n : CopyNote) → IsIn {X = Noted} d.copies.notes (key, n)
    → NoteOf (all_placed gives remaining shelf 0 sights nothing_found last d v) key n
note_is gives remaining shelf last sights d v key n is =
    let all = all_placed gives remaining shelf 0 sights nothing_found last d v in
    of_all (λ (x : Noted). NoteOf all x.0 x.1) d.copies.notes (key, n)
    (of_images gives remaining [] shelf 0 sights nothing_found last d v tt) is
