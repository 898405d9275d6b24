-- Files that are written one after another, and finished sets.
use Rattle.tape_writer.proofs.Words.{◌≡◌, ℕ, List, [], ◌∷◌, Bool, Option, refl, sym}
use Rattle.tape_writer.proofs.Words.{subst, ◌∙◌, IfSome, ap, Vol1, Head1, Writer}
use Rattle.tape_writer.proofs.Words.{suc, ◌+◌, ◌<◌, ◌++◌, length, map, drop, get_or, arith}
use Rattle.tape_writer.proofs.Words.{append_assoc, length-append, drop_more, map-append, Shape}
use Rattle.std.proofs.{Common.slice_set, Common.append-nil, lemmas.List.drop-set-lt}
use Rattle.std.proofs.lemmas.Option.{IfSome_then}
use Rattle.tape_writer.specs.{declared.inputs.set.SetPlan.SetPlan, declared.inputs.cut.Cut.Cut}
use Rattle.tape_writer.specs.{declared.phase.Phase.TheVariants.Finished, Tapes.Tapes}
use Rattle.tape_writer.specs.{LeftOf.WroteBy, Told.Told, Told.IsWrittenSet, Told.opened_by}
use Rattle.tape_writer.specs.{State.SameSet, State.SetState, State.IsWriting, Records.records_of}
use Rattle.tape_writer.specs.ToldFiles.{IfAllKnown, told_files, InOne}
use Rattle.tape_writer.specs.declared.ebcdic.EbcdicTapes.{EbcdicTapes}
use Rattle.tape_writer.specs.{WriteSet.IsSetInEbcdic, Coded.HoldsCoded}
use Rattle.tape_writer.specs.{WriteSet.IsSetOfImages, Images.Images, Images.AreImages, Images.Holds}

-- ---- a finished writer of images, and known inputs

-- a finished writer has written its set
finished_set : {T : Type 0} (H : Tapes → Type 0) (w : SetState T) (told : List Told)
    → w.phase ≡ Finished → IsWriting H w told → IsWrittenSet H w.volumes w.capacity w.set_id told
finished_set H w told e h = rw e at h.stands

of_images : (H : Bool → List (List ℕ) → Type 0) (image : Option Writer) (volumes : List Vol1)
    (capacity : ℕ) (set_id : List ℕ) (told : List Told)
    → IsWrittenSet (λ t. AreImages H image t) volumes capacity set_id told
    → IsSetOfImages H volumes capacity set_id told
of_images H image volumes capacity set_id told w = record {
  layout = w.layout;
  lawful = w.lawful;
  tight = w.tight;
  held = (refl, w.held.1);
  within = w.within;
  of_set = w.of_set;
  of_volumes = w.of_volumes;
  files = w.files;
}

-- the images of a finished writer
pub set_of_images : {S : Type 0} (H : S → Bool → List (List ℕ) → Type 0)
    (w : SetState (Images S)) (store : S) (vs : List Vol1) (d : ℕ) (t : List ℕ) (told : List Told)
    → w.phase ≡ Finished → w.volumes ≡ vs → w.capacity ≡ d → w.set_id ≡ t → w.out.store ≡ store
    → IsWriting (λ t. Holds H w.out t) w told → IsSetOfImages (H store) vs d t told
set_of_images H w store vs d t told done a b e i h = rw (← i, ← e, ← b, ← a)
    (of_images (H w.out.store) w.out.image w.volumes w.capacity w.set_id told
    (finished_set (λ t. Holds H w.out t) w told done h))

-- the same with labels in EBCDIC
pub set_in_ebcdic : {S : Type 0} (H : S → Bool → List (List ℕ) → Type 0)
    (w : SetState (EbcdicTapes (Images S))) (store : S) (vs : List Vol1) (d : ℕ) (t : List ℕ)
    (told : List Told) → w.phase ≡ Finished → w.volumes ≡ vs → w.capacity ≡ d → w.set_id ≡ t
    → w.out.out.store ≡ store
    → IsWriting (λ t. HoldsCoded (λ u. Holds H w.out.out u) w.out.part t) w told
    → IsSetInEbcdic (H store) vs d t told
set_in_ebcdic H w store vs d t told done a b e i h =
    let is = finished_set (λ t. HoldsCoded (λ u. Holds H w.out.out u) w.out.part t) w told done h in
    rw (← i, ← e, ← b, ← a) (record {
      layout = is.layout;
      lawful = is.lawful;
      tight = is.tight;
      held = (refl, is.held.0.1);
      within = is.within;
      of_set = is.of_set;
      of_volumes = is.of_volumes;
      files = is.files;
    })

pub all_known : (xs : List (Head1 × Option (List ℕ))) (P Q : List (Head1 × List ℕ) → Type 0)
    → IfAllKnown xs P → ((fs : List (Head1 × List ℕ)) → P fs → Q fs) → IfAllKnown xs Q
all_known [] P Q h f = f [] h
all_known (x ∷ xs) P Q h f = IfSome_then x.1 h (λ b q. all_known xs
    (λ fs. P ((x.0, b) ∷ fs)) (λ fs. Q ((x.0, b) ∷ fs)) q (λ fs. f ((x.0, b) ∷ fs)))

-- a writer of the plan that did not end
pub of_plan : {S : Type 0} (plan : SetPlan) (first made w : SetState (Images S)) (back : Images S)
    (images : S) (image : Option Writer) (Q : List ℕ → SetState (Images S) → Type 0)
    → first ≡ made → (made.volumes ≡ plan.volumes.items) × (made.capacity ≡ plan.capacity)
    × (made.set_id ≡ plan.set_id) → SameSet first w → back ≡ w.out → images ≡ back.store
    → image ≡ back.image → Q first.set_id w
    → WroteBy (λ t. (t.store ≡ images) × (t.image ≡ image)) plan (Q plan.set_id)
of_plan plan first made w back images image Q is of same b s i q = record {
  writer = w;
  on_tapes = (sym (s ∙ ap (λ t. t.store) b), sym (i ∙ ap (λ t. t.image) b));
  on_volumes = same.0 ∙ ap (λ w. w.volumes) is ∙ of.0;
  capacity = same.1 ∙ ap (λ w. w.capacity) is ∙ of.1;
  set_id = same.2 ∙ ap (λ w. w.set_id) is ∙ of.2;
  holds = rw (ap (λ w. w.set_id) is ∙ of.2) at q;
}

-- ---- files

-- the files before index `at` are written, and the others are unchanged
pub record Wrote (X : Type 0) (view : X → Head1 × Option (List ℕ)) (set_id : List ℕ) (shape : Shape)
    (cut : Cut) (first now : List X) (at : ℕ) (old new : List Told → Type 0) : Type 0 where
  pub done : List X
  pub split : first ≡ done ++ drop at now
  pub many : length done ≡ at
  pub told : (told : List Told) → old told → IfAllKnown (map view done)
      (λ fs. new (told ++ told_files set_id shape cut (length told + 1) fs))

pub wrote_none : (X : Type 0) (view : X → Head1 × Option (List ℕ)) (set_id : List ℕ)
    (shape : Shape) (cut : Cut) (first : List X) (old : List Told → Type 0)
    → Wrote X view set_id shape cut first first 0 old old
wrote_none X view set_id shape cut first old = record {
  done = [];
  split = refl;
  many = refl;
  told = λ told h. subst old (sym (append-nil told)) h;
}

-- one more input
known_push : (xs : List (Head1 × Option (List ℕ))) (h : Head1) (known : Option (List ℕ))
    (P Q : List (Head1 × List ℕ) → Type 0) → IfAllKnown xs P
    → ((fs : List (Head1 × List ℕ)) → P fs → IfSome known (λ b. Q (fs ++ (h, b) ∷ [])))
    → IfAllKnown (xs ++ (h, known) ∷ []) Q
known_push [] h known P Q p f = f [] p
known_push (x ∷ xs) h known P Q p f =
    IfSome_then x.1 p (λ b q. known_push xs h known
    (λ fs. P ((x.0, b) ∷ fs)) (λ fs. Q ((x.0, b) ∷ fs)) q (λ fs r. f ((x.0, b) ∷ fs) r))

told_files-length : (set_id : List ℕ) (shape : Shape) (cut : Cut) (n : ℕ) (fs : List (Head1
    × List ℕ)) → length (told_files set_id shape cut n fs) ≡ length fs
told_files-length set_id shape cut n [] = refl
told_files-length set_id shape cut n (f ∷ fs) =
    ap suc (told_files-length set_id shape cut (n + 1) fs)

told_files-push : (set_id : List ℕ) (shape : Shape) (cut : Cut) (n m : ℕ) (fs : List (Head1
    × List ℕ)) (h : Head1) (b : List ℕ) → m ≡ n + length fs
    → told_files set_id shape cut n (fs ++ (h, b) ∷ []) ≡ told_files set_id shape cut n fs
    ++ record { file = opened_by set_id m h shape; records = records_of cut b } ∷ []
told_files-push set_id shape cut n m [] h b e =
    let same : n ≡ m = omega (arith, e) in
    ap (λ k. record { file = opened_by set_id k h shape; records = records_of cut b } ∷ []) same
told_files-push set_id shape cut n m (f ∷ fs) h b e =
    ap (λ l. record { file = opened_by set_id n f.0 shape; records = records_of cut f.1 } ∷ l)
    (told_files-push set_id shape cut (n + 1) m fs h b (omega (arith, e)))

one_told : (new : List Told → Type 0) (set_id : List ℕ) (shape : Shape) (cut : Cut)
    (told : List Told) (fs : List (Head1 × List ℕ)) (h : Head1) (b : List ℕ)
    → new ((told ++ told_files set_id shape cut (length told + 1) fs) ++ record {
      file = opened_by set_id
          (length (told ++ told_files set_id shape cut (length told + 1) fs) + 1) h shape;
      records = records_of cut b;
    } ∷ [])
    → new (told ++ told_files set_id shape cut (length told + 1) (fs ++ (h, b) ∷ []))
one_told new set_id shape cut told fs h b w =
    let n = length told + 1 in
    let m = length (told ++ told_files set_id shape cut n fs) + 1 in
    let number : m ≡ n + length fs = omega (
      arith,
      length-append told (told_files set_id shape cut n fs),
      told_files-length set_id shape cut n fs,
    ) in
    subst new
    (append_assoc told (told_files set_id shape cut n fs)
    (record { file = opened_by set_id m h shape; records = records_of cut b } ∷ [])
    ∙ ap (λ l. told ++ l) (sym (told_files-push set_id shape cut n m fs h b number)))
    w

module _ {X : Type 0} {view : X → Head1 × Option (List ℕ)} {set_id : List ℕ} {shape : Shape}
    {cut : Cut} {first now : List X} {at : ℕ} {old mid : List Told → Type 0}
    (w : Wrote X view set_id shape cut first now at old mid) (d : X)
    (within : at < length now) where
  -- the files written, and the next one
  pub wrote_next : first ≡ w.done ++ get_or now at d ∷ drop (at + 1) now
  wrote_next = w.split ∙ ap (λ l. w.done ++ l) (drop_more now at d within)

  -- one more file was written
  pub wrote_one : {new : List Told → Type 0} (y : X)
      → ((t : List Told) → mid t → IfSome (view (get_or now at d)).1 (λ b. new (t ++ record {
        file = opened_by set_id (length t + 1) (view (get_or now at d)).0 shape;
        records = records_of cut b;
      } ∷ [])))
      → Wrote X view set_id shape cut first (slice_set now at y) (at + 1) old new
  wrote_one {new} y step =
      let x = get_or now at d in
      let behind : drop (at + 1) (slice_set now at y) ≡ drop (at + 1) now =
      drop-set-lt (at + 1) now at y (omega arith) in
      record {
        done = w.done ++ x ∷ [];
        many = omega (arith, w.many, length-append w.done (x ∷ []));
        split = rw (behind, append_assoc w.done (x ∷ []) (drop (at + 1) now)) wrote_next;
        told = λ told h. rw (map-append view w.done (x ∷ []))
            (known_push (map view w.done) (view x).0 (view x).1 _ _ (w.told told h)
            (λ fs m. IfSome_then (view x).1 (step _ m)
            (λ b n. one_told new set_id shape cut told fs (view x).0 b n)));
      }

  -- the next file
  pub wrote_in : {P : List Told → Head1 → List ℕ → Type 0}
      → ((told : List Told) → mid told
      → IfSome (view (get_or now at d)).1 (P told (view (get_or now at d)).0))
      → (told : List Told) → old told → InOne set_id told shape cut (map view first) P
  wrote_in holds told held = record {
    before = map view w.done;
    input = view (get_or now at d);
    after = map view (drop (at + 1) now);
    split = ap (map view) wrote_next ∙ map-append view w.done _;
    holds = all_known (map view w.done) _ _ (w.told told held) (λ fs m. holds _ m);
  }

-- if no file was unfit, all were fit
pub was_fit : {A B C D : Type 0} → (A → B → C × ⊥) → A → B → D
was_fit never a b = absurd (never a b).1
