-- The data items that are reported of a section of a valid set are its blocks.
use Rattle.std.proofs.Common.{◌≡◌, ◌≤◌, ℕ, ◌+◌, Bool, true, false, List, [], ◌∷◌, ◌++◌, length}
use Rattle.std.proofs.Common.{Option, Some, None, refl, sym, ap, subst, ◌∙◌, arith, append-nil}
use Rattle.std.proofs.Common.{append_assoc}
use Rattle.tape_image.specs.Tape.{TapeItem, block, bad, mark}
use Rattle.tape_run.specs.SalvageSections.{SectionRead, IsRead, key_of, read_blocks, read_section}
use Rattle.tape_run.specs.{declared.salvage.walk.Expected.Expected, Noted.same_key}
use Rattle.tape_run.specs.{declared.salvage.walk.OpenSection.OpenSection, SalvageWhole.Blocks}
use Rattle.tape_run.specs.{declared.section.SectionKey.SectionKey, SalvageFile.ReportsBlocks}
use Rattle.tape_run.specs.declared.salvage.walk.Expected.TheVariants.{Outside, Second, Data, Next}
use Rattle.tape_run.specs.SalvageWalk.{step, expected_after, with_item, with_data, with_unreadable}
use Rattle.tape_run.specs.SalvageImage.{is_in, number_in, closings}
use Rattle.tape_run.specs.SalvageGaps.{datum, data_in}
use Rattle.tape_run.specs.SalvageSections.{MayBegin, after_trailers, read_volume}
use Rattle.tape_run.proofs.SalvageSteps.{gathered, gathered-append, Walk, Quiet, first, quiet_data}
use Rattle.tape_run.proofs.{SalvagedSoFar.expected_after-append, SalvageSections.is_number}
use Rattle.tape_run.proofs.{SalvageVolumes.volume_walked, SalvageClosings.volume_once}
use Rattle.tape_run.proofs.SalvageOpened.{section_after, one_more, long}
use Rattle.tape_run.proofs.SalvageSteps.{section_walked}
use Rattle.tape_run.proofs.SalvageRest.{no_number, open_to_end, none_after, rest_none}

module _ (key : SectionKey) (most : ℕ) where
  -- the data items so far, after one more item
  abbrev with_datum : Expected → List TapeItem → TapeItem → List TapeItem
  with_datum s a x = a ++ datum (number_in key most s) x

  same_gathered : (s : Expected) (a xs : List TapeItem)
      → gathered with_datum s a xs ≡ a ++ data_in key most s xs
  same_gathered s a [] = sym (append-nil a)
  same_gathered s a (x ∷ xs) = same_gathered (step s x).0 (with_datum s a x) xs
      ∙ append_assoc a (datum (number_in key most s) x) (data_in key most (step s x).0 xs)

  pub data_append : (s : Expected) (xs ys : List TapeItem) → data_in key most s (xs ++ ys)
      ≡ data_in key most s xs ++ data_in key most (expected_after s xs) ys
  data_append s xs ys =
      sym (same_gathered s [] (xs ++ ys)) ∙ gathered-append with_datum s [] xs ys
      ∙ ap (λ a. gathered with_datum (expected_after s xs) a ys) (same_gathered s [] xs)
      ∙ same_gathered (expected_after s xs) (data_in key most s xs) ys

  none_with : (s : Expected) (a : List TapeItem) (x : TapeItem) → number_in key most s ≡ None
      → with_datum s a x ≡ a
  none_with s a x e = ap (λ (m : Option ℕ). a ++ datum m x) e ∙ append-nil a

  mark_with : (s : Expected) (a : List TapeItem) → with_datum s a mark ≡ a
  mark_with s a = by (number_in key most s)
    where
      by : (m : Option ℕ) → a ++ datum m mark ≡ a
      by None = append-nil a
      by (Some n) = append-nil a

  none_yet : (s : Expected) (a : List TapeItem) (x : TapeItem) → MayBegin s → with_datum s a x ≡ a
  none_yet (Outside n) a x may = append-nil a
  none_yet Next a x may = append-nil a
  none_yet (Second u) a x may = absurd may
  none_yet _ a x may = absurd may

  quiet : Quiet with_datum
  quiet = record {
    begin = none_yet;
    second = λ u a x. append-nil a;
    headers = λ u a x. append-nil a;
    trailer = λ u a b t is closed. append-nil a;
    trailers = λ u k a b. append-nil a;
  }

  own_data : (u : OpenSection) (a : List TapeItem) (bs : Blocks) → same_key u.key key ≡ true
      → u.blocks + length bs ≤ most → most ≤ 4294967295
      → Walk with_datum (Data u) a (read_blocks bs) (Data (section_after u bs))
      (a ++ read_blocks bs)
  unfolding section_after
  own_data u a [] same few fits = record { after = refl; gives = sym (append-nil a) }
  own_data u a ((true, f) ∷ bs) same few fits =
      let n = one_more u.blocks (omega (arith, few, fits)) in
      let v = with_data f.bytes u in
      let b = a ++ block f.bytes ∷ [] in
      first with_datum (Data u) (Data v) (Data (section_after v bs)) a b
      (a ++ block f.bytes ∷ read_blocks bs) (block f.bytes) (read_blocks bs) refl
      (ap (λ (m : Option ℕ). a ++ datum m (block f.bytes))
      (is_number key most u same (omega (arith, few))))
      (subst (λ l. Walk with_datum (Data v) b (read_blocks bs) (Data (section_after v bs)) l)
      (append_assoc a (block f.bytes ∷ []) (read_blocks bs))
      (own_data v b bs same (omega (arith, n, few)) fits))
  own_data u a ((false, f) ∷ bs) same few fits =
      let n = one_more u.blocks (omega (arith, few, fits)) in
      let v = with_item (with_unreadable u) in
      let b = a ++ bad ∷ [] in
      first with_datum (Data u) (Data v) (Data (section_after v bs)) a b
      (a ++ bad ∷ read_blocks bs) bad (read_blocks bs) refl
      (ap (λ (m : Option ℕ). a ++ datum m bad) (is_number key most u same (omega (arith, few))))
      (subst (λ l. Walk with_datum (Data v) b (read_blocks bs) (Data (section_after v bs)) l)
      (append_assoc a (bad ∷ []) (read_blocks bs))
      (own_data v b bs same (omega (arith, n, few)) fits))

  own_walked : (set_id : List ℕ) (volumes : ℕ) (r : SectionRead) (s : Expected)
      (a : List TapeItem) → IsRead set_id volumes r → MayBegin s
      → same_key (key_of set_id r) key ≡ true → most ≡ length r.blocks
      → Walk with_datum s a (read_section r) (after_trailers r.trailers) (a ++ read_blocks r.blocks)
  own_walked set_id volumes r s a read may same is =
      let b = a ++ read_blocks r.blocks in
      let n = sym (long r.blocks) ∙ ap length read.blocks in
      let few = read.is.few in
      (section_walked with_datum quiet set_id volumes r s a b b (λ z k. b) read may
      (λ v k z. own_data v a r.blocks (ap (λ c. same_key c key) k ∙ same) (omega (arith, z, is))
      (omega (arith, n, few, is)))
      (λ w k l. mark_with (Data w) b) (λ z k. append-nil b) (λ z k. append-nil b)).walk

  other_walked : (set_id : List ℕ) (volumes : ℕ) (r : SectionRead) (s : Expected)
      (a : List TapeItem) → IsRead set_id volumes r → MayBegin s
      → same_key (key_of set_id r) key ≡ false
      → Walk with_datum s a (read_section r) (after_trailers r.trailers) a
  other_walked set_id volumes r s a read may other =
      (section_walked with_datum quiet set_id volumes r s a a a (λ z k. a) read may
      (λ v k z. quiet_data with_datum (key_of set_id r) v a r.blocks k
      (λ u b e. none_with (Data u) a (block b)
      (no_number key most (Data u) (ap (λ c. same_key c key) e ∙ other)))
      (λ u e. none_with (Data u) a bad
      (no_number key most (Data u) (ap (λ c. same_key c key) e ∙ other))))
      (λ w k l. mark_with (Data w) a) (λ z k. append-nil a) (λ z k. append-nil a)).walk

  -- no data follow the mark that ends them
  none_follow : (b : Bool) (s : Expected) (xs : List TapeItem) → is_in key s ≡ b
      → closings key s xs ≡ 0 → is_in key (expected_after s xs) ≡ false → data_in key most s xs ≡ []
  none_follow b s [] is none end = refl
  none_follow true s (x ∷ xs) is none end = absurd (cc (open_to_end key s (x ∷ xs) is none, end))
  none_follow false s (x ∷ xs) is none end =
      let t = (step s x).0 in
      ap (λ (m : Option ℕ). datum m x ++ data_in key most t xs) (no_number key most s is)
      ∙ none_follow (is_in key t) t xs refl (rest_none key _ (closings key t xs) none) end

pub reports_blocks : ReportsBlocks
reports_blocks set_id volumes known form eof t r x =
    let key = x.section.key in
    let most = x.section.blocks in
    let o = Outside 0 in
    let all = read_volume x.labels (x.before ++ r ∷ x.rest) in
    let z = volume_once key set_id volumes x.volume x.labels x.before r x.rest x.is_volume
    x.are_labels x.are_before x.others_before x.are_rest x.others_rest x.is_read x.own in
    let w = volume_walked (with_datum key most) (quiet key most) set_id volumes key (λ q s a read
    may other. other_walked key most set_id volumes q s a read may other) x.volume x.labels x.before
    r x.rest [] (read_blocks r.blocks) x.is_volume x.are_labels x.are_before x.others_before
    x.are_rest x.others_rest (λ s may. own_walked key most set_id volumes r s [] x.is_read may x.own
    x.counted) in
    let whole : data_in key most o all ≡ read_blocks r.blocks =
    sym (same_gathered key most o [] all) ∙ w.walk.gives in
    let s = expected_after o x.items in
    let none = none_after _ _ _ x.unread x.ends (ap (closings key o) (sym x.splits) ∙ z.once) in
    let end : is_in key (expected_after s x.unread) ≡ false =
    ap (is_in key) (sym (expected_after-append o x.items x.unread) ∙ ap (expected_after o)
    (sym x.splits)) ∙ z.done in
    let rest = none_follow key most (is_in key s) s x.unread refl none end in
    sym (ap (λ (l : List TapeItem). data_in key most o x.items ++ l) rest ∙ append-nil
    (data_in key most o x.items)) ∙ sym (data_append key most o x.items x.unread) ∙ ap
    (data_in key most o) (sym x.splits) ∙ whole
