-- The beginning of the section needed, compared with the items read.
use Rattle.std.proofs.Common.{◌≡◌, ◌<◌, ◌≤◌, ◌⊎◌, ℕ, ◌+◌, List, [], ◌∷◌, ◌++◌, length, drop, Bool}
use Rattle.std.proofs.Common.{true, false, cond, Some, refl, sym, ap, ◌∙◌, subst, inl, inr}
use Rattle.std.proofs.Common.{append_assoc, arith, length-append, eq-eqb, zero, suc, ◌==◌, ◌&&◌}
use Rattle.std.proofs.{Common.◌||◌, Common.slice_get, lemmas.Bool.Decides.nat_tests}
use Rattle.std.specs.List.{AllByRecursion}
use Rattle.tape_set.specs.declared.position.{Position.Position, Position.TheVariants.Awaits}
use Rattle.tape_set.specs.Layout.{FileSet, Placed, Entry, a_mark, is_data, nth, all_entries}
use Rattle.tape_set.specs.Layout.{data_group, trailer_group, entries, section_of, sections, on}
use Rattle.tape_set.specs.Reach.{passes, far, far_in, before_data, moved}
use Rattle.tape_set.proofs.{Everywhere.every_rest, Numbering.placed, Reaching.passes_length}
use Rattle.tape_set.proofs.Volumes.{Rising, rising_behind, sections_on_rise, IsOn, sections_on_are}
use Rattle.tape_set.proofs.Volumes.{Lies, wanted_lies}
use Rattle.tape_set.proofs.Standing.{wanted_among, all_entries-append}
use Rattle.tape_core.specs.Follows.{reading, to_come, Left, Among}
use Rattle.tape_core.proofs.{Aim.Aim, Lists.passes_push, Lists.passes_bad, Lists.split_longer}

-- one more item was read, which is readable or a data block
pub left_more : (set : FileSet) (k : ℕ) (good : List Bool)
    (g : Bool) (e : Entry) (todo : List Entry)
    → Left set k good (e ∷ todo) → (g || is_data e) ≡ true → Left set k (good ++ g ∷ []) todo
left_more set k good g e todo h t =
    record {
      done = h.done ++ e ∷ [];
      whole = append_assoc h.done (e ∷ []) todo ∙ h.whole;
      count = simp length-append (let c : length h.done ≡ length good = h.count in omega arith);
      fine = passes_push good g h.done e h.count h.fine t;
    }

-- the next entry is the first of those not yet read
pub first_left : (set : FileSet) (k : ℕ) (good : List Bool) (e e' : Entry) (todo : List Entry)
    → Left set k good (e' ∷ todo) → slice_get (entries set k) (length good) ≡ Some e → e' ≡ e
first_left set k good e e' todo h s =
    go h.done (length good) h.count (ap (λ v. slice_get v (length good)) h.whole ∙ s)
  where
    go : (done : List Entry) (n : ℕ) → length done ≡ n → slice_get (done ++ e' ∷ todo) n ≡ Some e
        → e' ≡ e
    go [] zero c g = cc
    go [] (suc n) c g = absurd (omega arith)
    go (d ∷ done) zero c g = absurd (omega arith)
    go (d ∷ done) (suc n) c g = go done n (omega arith) g

pub opened : (a b : Entry) (hs d t c m : List Entry)
    → (((((a ∷ b ∷ hs ++ a_mark ∷ []) ++ d) ++ t) ++ c) ++ m) ≡ a ∷ (((b ∷ hs ++ a_mark ∷ d) ++ t)
    ++ (c ++ m))
opened a b hs d t c m = simp append_assoc

all_apart : (h n d u v c m : List Entry)
    → (((((h ++ n) ++ d) ++ (u ++ v)) ++ c) ++ m) ≡ h ++ (n ++ (d ++ (u ++ (v ++ (c ++ m)))))
all_apart h n d u v c m = simp append_assoc

pub laid_out : (a b : Entry) (hs d : List Entry) (t : Entry) (ts c m : List Entry)
    → (((((a ∷ b ∷ hs ++ a_mark ∷ []) ++ d) ++ (a_mark ∷ t ∷ ts ++ a_mark ∷ [])) ++ c) ++ m)
    ≡ a ∷ b ∷ (hs ++ (a_mark ∷ (d ++ (a_mark ∷ t ∷ (ts ++ (a_mark ∷ (c ++ m)))))))
laid_out a b hs d t ts c m =
    all_apart (a ∷ b ∷ hs) (a_mark ∷ []) d (a_mark ∷ t ∷ ts) (a_mark ∷ []) c m

pub shorter : (z d t c : List Entry) → length (d ++ t ++ c) < length ((z ++ a_mark ∷ d ++ t) ++ c)
shorter z d t c = simp length-append (omega arith)

regrouped : (f d t c m : List Entry) → f ++ ((d ++ t) ++ (c ++ m)) ≡ ((f ++ d) ++ t) ++ (c ++ m)
regrouped f d t c m = simp append_assoc

module _ (aim : Aim) where
  open aim use {set, l, core.{file}, sect, block, part, k, w, found, v, vol}

  abbrev pub here : Position
  here = Awaits sect block part

  abbrev fr : List Entry
  fr = before_data set file sect w

  far_is : (gs : List Bool)
      → far set file here (reading k gs) ≡ far_in set file here sect block (reading k gs) (Some w)
  far_is gs = ap (λ o. far_in set file here sect block (reading k gs) o) found

  pub far_elsewhere : (w.volume == k) ≡ false → (gs : List Bool)
      → far set file here (reading k gs) ≡ here
  far_elsewhere h gs = far_is gs ∙ rw h refl

  pub far_unpassed : (gs : List Bool) → passes gs fr ≡ false
      → far set file here (reading k gs) ≡ here
  far_unpassed gs h = far_is gs ∙ rw h (go (w.volume == k))
    where
      go : (t : Bool)
          → cond (t && false) (moved here sect block w (drop (length fr) gs)) here ≡ here
      go true = refl
      go false = refl

  pub far_on : w.volume ≡ k → (gs : List Bool) → passes gs fr ≡ true
      → far set file here (reading k gs) ≡ moved here sect block w (drop (length fr) gs)
  far_on is gs h =
      far_is gs ∙ (let t : (w.volume == k) ≡ true = eq-eqb w.volume k is in rw (t, h) refl)

  -- no entry of the section needed was passed
  abbrev pub Ahead : List Entry → Type 0
  Ahead todo = w.volume ≡ k
      → (rest : List Entry) × (fr ++ rest ≡ entries set k) × (length rest < length todo)

  -- after a bad label or mark before the data, this reading does not move the position
  pub over_bad : (good : List Bool) (e : Entry) (todo : List Entry) → Left set k good (e ∷ todo)
      → is_data e ≡ false → Ahead (e ∷ todo) → (more : List Bool)
      → far set file here (reading k ((good ++ false ∷ []) ++ more)) ≡ here
  over_bad good e todo left d ahead more = go (w.volume == k) refl
    where
      go : (t : Bool) → (w.volume == k) ≡ t
          → far set file here (reading k ((good ++ false ∷ []) ++ more)) ≡ here
      go false h = far_elsewhere h _
      go true h =
          let is : w.volume ≡ k = grind (arith, nat_tests) in
          let r = ahead is in
          let sp = split_longer left.done (e ∷ todo) fr r.0 (left.whole ∙ sym r.1) r.2 in
          let same : sp.0 ≡ e = cc (sp.3) in
          let d' : is_data sp.0 ≡ false = ap is_data same ∙ d in
          far_unpassed _ (rw append_assoc (ap (λ v. passes (good ++ false ∷ more) v) sp.2
          ∙ passes_bad good more left.done sp.1 sp.0 left.count d'))

  pub over_elsewhere : (w.volume ≡ k → ⊥) → (good more : List Bool)
      → far set file here (reading k (good ++ more)) ≡ here
  over_elsewhere h good more = go (w.volume == k) refl
    where
      go : (t : Bool) → (w.volume == k) ≡ t → far set file here (reading k (good ++ more)) ≡ here
      go false e = far_elsewhere e _
      go true e = let is : w.volume ≡ k = grind (arith, nat_tests) in absurd (h is)

  abbrev it : Placed
  it = placed file sect w

  abbrev rest_from : List Placed → List Entry
  rest_from post = data_group w.blocks ++ trailer_group w ++ to_come post

  -- the contents of the volume, divided at the data of the section needed
  whole_at : (past later : List Placed) → w.volume ≡ k → past ++ later ≡ on k (sections set)
      → (lies : Lies set file sect k w past later) → fr ++ rest_from lies.post ≡ entries set k
  whole_at past later at all lies =
      subst (λ n. (f : nth set.volumes n ≡ Some v) (a : past ++ later ≡ on n (sections
      set)) (h : Lies set file sect n w past later) → fr ++ rest_from h.post ≡ entries set n) at
      (λ f a h. regrouped fr (data_group w.blocks) (trailer_group w) (all_entries h.post) (a_mark
      ∷ []) ∙ sym (wanted_among set file sect w v past later f a h)) vol all lies

  longer_at : (pre post : List Placed) (z : List Entry)
      → length (rest_from post) < length (z ++ to_come (pre ++ it ∷ post))
  longer_at pre post z = simp (all_entries-append, length-append) (omega arith)

  pub ahead_later : (later : List Placed) (z : List Entry) → Among set k file later
      → Ahead (z ++ to_come later)
  ahead_later later z among is =
      let lies =
      wanted_lies set file sect k w among.past later l found is among.all among.earlier_files in (
        rest_from lies.post,
        whole_at among.past later is among.all lies,
        subst (λ v. length (rest_from lies.post) < length (z ++ to_come v)) (sym lies.here)
            (longer_at lies.pre lies.post z),
      )

  pub among_on : (x : Placed) (later : List Placed) (among : Among set k file (x ∷ later))
      → IsOn set k x × AllByRecursion (λ z. x.file < z.file) later
  among_on x later among = (
    (every_rest (IsOn set k) among.past (x ∷ later)
        (subst (λ v. AllByRecursion (IsOn set k) v) (sym among.all) (sections_on_are set k l))).0,
    rising_behind among.past x later (subst Rising (sym among.all) (sections_on_rise set k l)),
  )

  -- the next section is the one needed, if that is on the volume, or belongs to an earlier file
  pub first_is : (x : Placed) (later : List Placed) → Among set k file (x ∷ later) → w.volume ≡ k
      → (x ≡ it) ⊎ (x.file < file)
  first_is x later among is =
      let lies = wanted_lies set file sect k w among.past
      (x ∷ later) l found is among.all among.earlier_files in
      go lies.pre lies.post lies.here
    where
      go : (pre post : List Placed) → x ∷ later ≡ pre ++ it ∷ post → (x ≡ it) ⊎ (x.file < file)
      go [] post h = inl (cc)
      go (y ∷ pre) post h =
          let tails : later ≡ pre ++ it ∷ post = cc in
          inr (every_rest (λ z. x.file < z.file) pre (it ∷ post)
          (subst (λ v. AllByRecursion (λ z. x.file < z.file) v) tails (among_on x later among).1)).0

  pub record AtIt (x : Placed) (later : List Placed) : Type 0 where
    pub same : x.section ≡ w
    pub is_on : w.volume ≡ k
    pub whole : fr ++ rest_from later ≡ entries set k

  -- the section needed is being read
  pub wanted_here : (x : Placed) (later : List Placed) → Among set k file (x ∷ later)
      → x.file ≡ file → x.sect ≡ sect → AtIt x later
  wanted_here x later among f s =
      let is = (among_on x later among).0 in
      let e : Some x.section ≡ Some w = sym is.found
      ∙ (ap (λ v. section_of set v x.sect) f ∙ (ap (λ v. section_of set file v) s ∙ found)) in
      let same : x.section ≡ w = cc in
      let is_on : w.volume ≡ k = ap (λ v. v.volume) (sym same) ∙ is.there in
      let lies = wanted_lies set file sect k w among.past
      (x ∷ later) l found is_on among.all among.earlier_files in
      record {
        same = same;
        is_on = is_on;
        whole = ap (λ z. fr ++ rest_from z) (go lies.pre lies.post lies.here)
            ∙ whole_at among.past (x ∷ later) is_on among.all lies;
      }
    where
      go : (pre post : List Placed) → x ∷ later ≡ pre ++ it ∷ post → later ≡ post
      go [] post h = cc
      go (y ∷ pre) post h =
          let tails : later ≡ pre ++ it ∷ post = cc in
          let lt : x.file < file = (every_rest (λ z. x.file < z.file) pre (it ∷ post) (subst
          (λ v. AllByRecursion (λ z. x.file < z.file) v) tails (among_on x later among).1)).0 in
          absurd (omega (arith, lt, f))

  pub none_to_come : Among set k file [] → w.volume ≡ k → ⊥
  none_to_come among is =
      let lies =
      wanted_lies set file sect k w among.past [] l found is among.all among.earlier_files in
      let n : 0 ≡ length lies.pre + length (it ∷ lies.post) =
      ap length lies.here ∙ length-append lies.pre (it ∷ lies.post) in
      omega (arith, n)

  -- before the end of the headers the position does not change
  pub far_ahead : (good : List Bool) (todo : List Entry) → Left set k good todo → Ahead todo
      → far set file here (reading k good) ≡ here
  far_ahead good todo left ahead = go (w.volume == k) refl
    where
      pick : w.volume ≡ k → (t : Bool) → passes good fr ≡ t
          → far set file here (reading k good) ≡ here
      pick is false e = far_unpassed good e
      pick is true e =
          let r = ahead is in
          let short : length fr ≤ length good = passes_length good fr e in
          let sizes : length left.done + length todo ≡ length fr + length r.0 =
          sym (length-append left.done todo)
          ∙ (ap length (left.whole ∙ sym r.1) ∙ length-append fr r.0) in
          absurd (omega (arith, r.2, left.count))

      go : (t : Bool) → (w.volume == k) ≡ t → far set file here (reading k good) ≡ here
      go false h = far_elsewhere h good
      go true h = let is : w.volume ≡ k = grind (arith, nat_tests) in pick is (passes good fr) refl
