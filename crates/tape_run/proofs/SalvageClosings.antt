-- On a volume of a valid set the data of a section end once.
use Rattle.std.proofs.Common.{◌≡◌, inl, inr, ℕ, ◌+◌, ◌==◌, ◌&&◌, Bool, true, false, List, [], ◌∷◌}
use Rattle.std.proofs.Common.{◌++◌, length, Some, refl, sym, ap, ◌∙◌, arith, if◌then◌else◌}
use Rattle.std.specs.List.{AllByRecursion}
use Rattle.tape_image.specs.Tape.{TapeItem, mark}
use Rattle.tape_set.specs.{Layout.Volume, Lawful.IsVolume, Lawful.FileForm}
use Rattle.tape_run.specs.declared.salvage.walk.Expected.TheVariants.{Outside, Second, Data, Next}
use Rattle.tape_run.specs.SalvageSections.{Labels, SectionRead, IsRead, IsOther, key_of, MayBegin}
use Rattle.tape_run.specs.SalvageSections.{AreLabels, after_trailers, read_section, read_volume}
use Rattle.tape_run.specs.{declared.section.SectionKey.SectionKey, Noted.same_key}
use Rattle.tape_run.specs.{declared.salvage.walk.Expected.Expected, SalvageBlocks.Salvaged}
use Rattle.tape_run.specs.declared.salvage.walk.Expected.TheVariants.{Over}
use Rattle.tape_run.specs.SalvageWalk.{step, expected_after}
use Rattle.tape_run.specs.SalvageImage.{is_in, is_mark, read_in, closings, salvaged_from, EndsData}
use Rattle.tape_run.specs.SalvageSections.{RecoversFromReading}
use Rattle.tape_run.proofs.SalvageSteps.{gathered, gathered-append, Walk, Quiet, quiet_data}
use Rattle.tape_run.proofs.SalvagedSoFar.{expected_after-append, read_at_mark}
use Rattle.tape_run.proofs.SalvageRest.{rest_has_nothing, none_after, rest_none}
use Rattle.tape_run.proofs.SalvageSections.{salvaged_blocks, piece_of}
use Rattle.tape_run.proofs.SalvageSteps.{section_walked}
use Rattle.tape_run.proofs.SalvageVolumes.{volume_walked, volume_salvaged, recovers_from_volume}

module _ (key : SectionKey) where
  -- how often the data of the section end, including earlier ones
  abbrev count : Expected → ℕ → TapeItem → ℕ
  count s n x = n + (if is_in key s && is_mark x then 1 else 0)

  same_gathered : (s : Expected) (n : ℕ) (xs : List TapeItem)
      → gathered count s n xs ≡ n + closings key s xs
  same_gathered s n [] = omega arith
  same_gathered s n (x ∷ xs) =
      let r = same_gathered (step s x).0 (count s n x) xs in omega (arith, r)

  none_more : (n : ℕ) (b : Bool) → b ≡ false → n + (if b then 1 else 0) ≡ n
  none_more n b e = let z : n + 0 ≡ n = omega arith in ap (λ c. n + (if c then 1 else 0)) e ∙ z

  no_mark : (b : Bool) → (b && false) ≡ false
  no_mark true = refl
  no_mark false = refl

  not_in : (s : Expected) (x : TapeItem) → MayBegin s → (is_in key s && is_mark x) ≡ false
  not_in (Outside n) x may = refl
  not_in Next x may = refl
  not_in (Second u) x may = absurd may
  not_in _ x may = absurd may

  quiet : Quiet count
  quiet = record {
    begin = λ s n x may. none_more n (is_in key s && is_mark x) (not_in s x may);
    second = λ u n x. none_more n false refl;
    headers = λ u n x. none_more n false refl;
    trailer = λ u n b t is closed. none_more n false refl;
    trailers = λ u k n b. none_more n false refl;
  }

  -- a section whose data end changes the count like this
  walked : (set_id : List ℕ) (volumes : ℕ) (r : SectionRead) (s : Expected) (n m : ℕ) (b : Bool)
      → IsRead set_id volumes r → MayBegin s → same_key (key_of set_id r) key ≡ b
      → n + (if b && true then 1 else 0) ≡ m
      → Walk count s n (read_section r) (after_trailers r.trailers) m
  walked set_id volumes r s n m b read may same e =
      (section_walked count quiet set_id volumes r s n n m (λ z k. m) read may
      (λ v k z. quiet_data count (key_of set_id r) v n r.blocks k
      (λ u x own. none_more n (same_key u.key key && false) (no_mark (same_key u.key key)))
      (λ u own. none_more n (same_key u.key key && false) (no_mark (same_key u.key key))))
      (λ w k l. ap (λ c. n + (if c && true then 1 else 0)) (ap (λ c. same_key c key) k ∙ same) ∙ e)
      (λ z k. none_more m false refl) (λ z k. none_more m false refl)).walk

  not_open : (s : Expected) → MayBegin s → is_in key (step s mark).0 ≡ false
  not_open Next may = refl
  not_open (Outside n) may = outside n
    where
      outside : (n : ℕ) → is_in key (step (Outside n) mark).0 ≡ false
      outside n = marked (n == 0) (n == 1)
        where
          marked : (a b : Bool)
              → is_in key (if a then Outside 1 else (if b then Outside 2 else Over)) ≡ false
          marked true b = refl
          marked false true = refl
          marked false false = refl
  not_open (Second u) may = absurd may
  not_open _ may = absurd may

  pub record Once (xs : List TapeItem) : Type 0 where
    pub once : closings key (Outside 0) xs ≡ 1
    pub done : is_in key (expected_after (Outside 0) xs) ≡ false

  pub volume_once : (set_id : List ℕ) (volumes : ℕ) (v : Volume) (ls : Labels)
      (before : List SectionRead) (r : SectionRead) (rest : List SectionRead) → IsVolume v
      → AreLabels v ls → AllByRecursion (IsRead set_id volumes) before
      → AllByRecursion (IsOther set_id key) before → AllByRecursion (IsRead set_id volumes) rest
      → AllByRecursion (IsOther set_id key) rest → IsRead set_id volumes r
      → same_key (key_of set_id r) key ≡ true → Once (read_volume ls (before ++ r ∷ rest))
  volume_once set_id volumes v ls before r rest is labels read other read' other' own same =
      let z : 0 + 1 ≡ 1 = omega arith in
      let w = volume_walked count quiet set_id volumes key
      (λ x s n m may o. walked set_id volumes x s n n false m may o (none_more n false refl)) v ls
      before r rest 0 1 is labels read other read' other'
      (λ s may. walked set_id volumes r s 0 1 true own may same z) in
      let all = read_volume ls (before ++ r ∷ rest) in
      let n = same_gathered (Outside 0) 0 all in
      let m = w.walk.gives in
      record {
        once = omega (arith, n, m);
        done = ap (is_in key) w.walk.after ∙ not_open w.last w.may;
      }

  -- ---- how many data items there are

  -- the number of data items read when the data of the section end, if they end
  abbrev length_at : Expected → ℕ → TapeItem → ℕ
  length_at s n x = if is_in key s && is_mark x then read_in key s else n

  same_by : (s : Expected) (n : ℕ) (b : Bool) → b ≡ false → (if b then read_in key s else n) ≡ n
  same_by s n b e = ap (λ c. if c then read_in key s else n) e

  quiet_length : Quiet length_at
  quiet_length = record {
    begin = λ s n x may. same_by s n (is_in key s && is_mark x) (not_in s x may);
    second = λ u n x. refl;
    headers = λ u n x. refl;
    trailer = λ u n b t is closed. refl;
    trailers = λ u k n b. refl;
  }

  at_mark : (b : Bool) (w l n m : ℕ) → w ≡ l → (if b then l else n) ≡ m
      → (if b && true then (if b then w else 0) else n) ≡ m
  at_mark true w l n m e f = e ∙ f
  at_mark false w l n m e f = f

  length_walked : (set_id : List ℕ) (volumes : ℕ) (r : SectionRead) (s : Expected) (n m : ℕ)
      (b : Bool) → IsRead set_id volumes r → MayBegin s → same_key (key_of set_id r) key ≡ b
      → (if b then length r.blocks else n) ≡ m
      → Walk length_at s n (read_section r) (after_trailers r.trailers) m
  length_walked set_id volumes r s n m b read may same e =
      (section_walked length_at quiet_length set_id volumes r s n n m (λ z k. m) read may
      (λ v k z. quiet_data length_at (key_of set_id r) v n r.blocks k
      (λ u x own. same_by (Data u) n (same_key u.key key && false) (no_mark (same_key u.key key)))
      (λ u own. same_by (Data u) n (same_key u.key key && false) (no_mark (same_key u.key key))))
      (λ w k l. ap (λ c. if c && true then (if c then w.blocks else 0) else n)
      (ap (λ c. same_key c key) k ∙ same) ∙ at_mark b w.blocks (length r.blocks) n m l e)
      (λ z k. refl) (λ z k. refl)).walk

  not_one : (b : Bool) (n : ℕ) → (if b then 1 else 0) + n ≡ 0 → b ≡ false
  not_one true n e = absurd (omega (arith, e))
  not_one false n e = refl

  none_gathered : (s : Expected) (n : ℕ) (xs : List TapeItem) → closings key s xs ≡ 0
      → gathered length_at s n xs ≡ n
  none_gathered s n [] none = refl
  none_gathered s n (x ∷ xs) none =
      let b = is_in key s && is_mark x in
      let c = closings key (step s x).0 xs in
      ap (λ z. gathered length_at (step s x).0 (if z then read_in key s else n) xs)
      (not_one b c none)
      ∙ none_gathered (step s x).0 n xs (rest_none key b c none)

  -- the number of data items read, if the reading ends at the mark after them
  items_counted : (items more all : List TapeItem) (n : ℕ) → all ≡ items ++ more
      → EndsData (Outside 0) key items → closings key (Outside 0) all ≡ 1
      → gathered length_at (Outside 0) 0 all ≡ n
      → read_in key (expected_after (Outside 0) items) ≡ n
  items_counted items more all n splits (front, is, at) once gives =
      let o = Outside 0 in
      let s = expected_after o front in
      let a = gathered length_at o 0 front in
      let there = ap (λ l. read_in key (expected_after o l)) is
      ∙ ap (read_in key) (expected_after-append o front (mark ∷ []))
      ∙ sym (read_at_mark key s at) in
      let here = ap (gathered length_at o 0) is
      ∙ gathered-append length_at o 0 front (mark ∷ [])
      ∙ ap (λ b. if b && true then read_in key s else a) at in
      let none = none_after key o items more (front, is, at)
      (ap (closings key o) (sym splits) ∙ once) in
      let rest = gathered-append length_at o 0 items more
      ∙ none_gathered (expected_after o items) (gathered length_at o 0 items) more none in
      there ∙ sym here ∙ sym rest ∙ ap (gathered length_at o 0) (sym splits) ∙ gives

  -- the same for a volume
  pub volume_counted : (set_id : List ℕ) (volumes : ℕ) (v : Volume) (ls : Labels)
      (before : List SectionRead) (r : SectionRead) (rest : List SectionRead)
      (items more : List TapeItem) → IsVolume v → AreLabels v ls
      → AllByRecursion (IsRead set_id volumes) before
      → AllByRecursion (IsOther set_id key) before → AllByRecursion (IsRead set_id volumes) rest
      → AllByRecursion (IsOther set_id key) rest → IsRead set_id volumes r
      → same_key (key_of set_id r) key ≡ true → read_volume ls (before ++ r ∷ rest) ≡ items ++ more
      → EndsData (Outside 0) key items
      → read_in key (expected_after (Outside 0) items) ≡ length r.blocks
  volume_counted set_id volumes v ls before r rest items more is labels read other read' other' own
      same splits ends =
      let z = volume_once set_id volumes v ls before r rest is labels read other read' other' own
      same in
      let n = length r.blocks in
      let w = volume_walked length_at quiet_length set_id volumes key
      (λ x s n m may o. length_walked set_id volumes x s n n false m may o refl) v ls before r rest
      0 n is labels read other read' other'
      (λ s may. length_walked set_id volumes r s 0 n true own may same refl) in
      items_counted items more (read_volume ls (before ++ r ∷ rest)) n splits ends z.once
      w.walk.gives

-- the records recovered from such a reading
pub reading_salvaged : (key : SectionKey) (form : FileForm) (set_id : List ℕ) (volumes : ℕ)
    (v : Volume) (ls : Labels) (before : List SectionRead) (r : SectionRead)
    (rest : List SectionRead) (g : Salvaged) (items more : List TapeItem) → IsVolume v
    → AreLabels v ls → AllByRecursion (IsRead set_id volumes) before
    → AllByRecursion (IsOther set_id key) before → AllByRecursion (IsRead set_id volumes) rest
    → AllByRecursion (IsOther set_id key) rest → IsRead set_id volumes r
    → same_key (key_of set_id r) key ≡ true → read_volume ls (before ++ r ∷ rest) ≡ items ++ more
    → EndsData (Outside 0) key items
    → salvaged_from key (length r.blocks) (Some form) (Outside 0) g items
    ≡ salvaged_blocks (Some form) 0 g r.blocks
reading_salvaged key form set_id volumes v ls before r rest g items more is labels read other read'
    other' own same splits ends =
    let n = length r.blocks in
    let o = Outside 0 in
    let z = volume_once key set_id volumes v ls before r rest is labels read other read' other' own
    same in
    let q = rest_has_nothing key n (Some form) o items more g ends
    (ap (closings key o) (sym splits) ∙ z.once)
    (ap (λ l. is_in key (expected_after o l)) (sym splits) ∙ z.done) in
    q.0 ∙ ap (salvaged_from key n (Some form) o g) (sym splits)
    ∙ volume_salvaged set_id volumes v ls before r rest form key g is labels read other read' other'
    own same

pub recovers_from_reading : RecoversFromReading
recovers_from_reading set_id volumes v ls before r rest form key g items is labels read other read'
    other' own same how =
    let here = recovers_from_volume set_id volumes v ls before r rest form key g is labels read
    other read' other' own same in
    let from : List TapeItem → _ = λ l.
    (salvaged_from key (length r.blocks) (Some form) (Outside 0) g l).piece in
    elim how [
      | inl same_items ↦ ap from same_items ∙ here
      | inr (more, splits, ends) ↦ ap (λ (s : Salvaged). s.piece)
          (reading_salvaged key form set_id volumes v ls before r rest g items more is labels read
          other read' other' own same splits ends) ∙ piece_of form 0 g r.blocks
    ]
