-- An image of items that are their own normal form keeps its bytes.
use Rattle.std.proofs.Common.{◌≡◌, ℕ, ◌+◌, ◌-◌, ◌*◌, ◌≤◌, ◌%◌, ◌⊎◌, inl, inr, Bool, true}
use Rattle.std.proofs.Common.{false, nat_le, List, [], ◌∷◌, ◌++◌, length, take, Some, refl, sym}
use Rattle.std.proofs.Common.{ap, subst, ◌∙◌, arith, append_assoc, length-append, replicate}
use lib.Seq.{take_at}
use Rattle.byteorder.specs.{Endian.little_bytes}
use Rattle.std.proofs.lemmas.Bool.Decides.{nat_tests}
use Rattle.tape_image.specs.Tape.{TapeItem, block, bad}
use Rattle.tape_image.specs.Spelling.{IsSpelling, Spelling, EndsHere, item_of}
use Rattle.tape_image.specs.Spelling.{a_mark, a_gap, a_block}
use Rattle.tape_image.specs.declared.item.Ending.{Ending}
use Rattle.tape_image.specs.Word.{IsWord, longest_block}
use Rattle.tape_image.specs.{Written.written_block, Begins.image_limit}
use Rattle.tape_label.specs.declared.values.Kind.TheVariants as kinds
use Rattle.tape_label.specs.{Kinds.kind_at}
use Rattle.tape_set.specs.{Layout.FileSet, Lawful.IsLawful}
use Rattle.tape_core.specs.declared.normal.machine.{TapePlace.TapePlace, Change.Change}
use Rattle.tape_core.specs.declared.normal.machine.{Replacement.Replacement, Missing.Missing}
use Rattle.tape_core.specs.declared.normal.machine.TapePlace.TheVariants.{Start, Labels, Blank}
use Rattle.tape_core.specs.declared.normal.machine.TapePlace.TheVariants.{Second, Headers, Data}
use Rattle.tape_core.specs.declared.normal.machine.TapePlace.TheVariants.{Trailer, Trailers, Next}
use Rattle.tape_core.specs.declared.normal.machine.TapePlace.TheVariants.{Ended, Over}
use Rattle.tape_core.specs.declared.normal.machine.Replacement.TheVariants.{Same, Dropped, Label}
use Rattle.tape_core.specs.declared.normal.machine.Missing.TheVariants.{Nothing, VolumeLabel}
use Rattle.tape_core.specs.declared.normal.machine.Missing.TheVariants.{SecondLabel, Digits}
use Rattle.tape_core.specs.NormalForm.{normal, Mended.no_volume_label}
use Rattle.tape_core.specs.NormalForm.Steps.{step_of, from, inserted, instead}
use Rattle.tape_core.specs.NormalForm.Bytes.{normal_from, normal_bytes, inserted_bytes, is_over}
use Rattle.tape_core.specs.NormalForm.Bytes.{instead_bytes, skipped}
use Rattle.tape_core.specs.NormalForm.Laws.{BytesKept, CopyBytesKept}
use Rattle.tape_core.proofs.{Labels.code_vol1}
use Rattle.tape_core.proofs.NormalForm.{Agree.table_gives, Same.normal_keeps, Giving.over_left}
use Rattle.tape_core.proofs.NormalForm.LookedAt.{stepped, len_is}
use Rattle.tape_core.proofs.NormalForm.{Enough.no_less, Plain.step_labelled, Plain.Labelled}
use Rattle.tape_core.proofs.NormalForm.Spelled.{bytes_of, items_of, end_left, first_more, one_item}
use Rattle.tape_core.proofs.NormalForm.Spelled.{over_is}
use Rattle.tape_core.proofs.NormalForm.Counting.{grown, added, step_fits, step_size, shorter}

-- ---- the label that is inserted

-- no label is inserted at the step, or after it
record Quiet (step : TapePlace × Change) : Type 0 where
  pub none : added step.1.missing ≡ 0
  pub past : grown step.0 ≡ 0

quiet_of : (place : TapePlace) (x : TapeItem) → grown place ≡ 0 → Quiet (step_of place x)
quiet_of place x e =
    let fits = step_fits place x in
    record { none = omega (arith, fits.few, e); past = omega (arith, fits.few, e) }

quiet_start : (n : ℕ) (b : List ℕ) → kind_at b ≡ Some kinds.Vol1
    → Quiet (step_of (Start n) (block b))
quiet_start n b e = rw (code_vol1 b e, e) (record { none = refl; past = refl })

vol_kind : kind_at no_volume_label ≡ Some kinds.Vol1
unfolding kind_at
vol_kind = refl

-- it is not taken for the label of a file
label_quiet : (place : TapePlace) → Quiet (step_of place (block no_volume_label))
label_quiet (Start n) = quiet_start n no_volume_label vol_kind
label_quiet (Labels code n) = quiet_of (Labels code n) (block no_volume_label) refl
label_quiet (Blank code) = quiet_of (Blank code) (block no_volume_label) refl
label_quiet (Second code seen) = quiet_of (Second code seen) (block no_volume_label) refl
label_quiet (Headers code seen) = quiet_of (Headers code seen) (block no_volume_label) refl
label_quiet (Data code seen) = quiet_of (Data code seen) (block no_volume_label) refl
label_quiet (Trailer code seen) = quiet_of (Trailer code seen) (block no_volume_label) refl
label_quiet (Trailers code seen) = quiet_of (Trailers code seen) (block no_volume_label) refl
label_quiet (Next code seen) = quiet_of (Next code seen) (block no_volume_label) refl
label_quiet Ended = quiet_of Ended (block no_volume_label) refl
label_quiet Over = quiet_of Over (block no_volume_label) refl

-- if there is an item more, it is that label, and the first
first_new : (n : ℕ) (items : List TapeItem) (y : TapeItem) (ys : List TapeItem)
    → from (Start n) items ≡ y ∷ ys → length ys ≡ length items → y ≡ block no_volume_label
first_new n [] y ys e h = absurd (cc e)
first_new n (x ∷ rest) y ys e h = go (step_of (Start n) x).1.missing refl
  where
    one : 1 ≤ added (step_of (Start n) x).1.missing
    one =
        let fits = step_fits (Start n) x in
        omega (
          arith,
          ap length e,
          h,
          step_size (Start n) x rest,
          shorter (step_of (Start n) x).0 rest,
          fits.one,
        )

    go : (m : Missing) → (step_of (Start n) x).1.missing ≡ m → y ≡ block no_volume_label
    go VolumeLabel p =
        let all : y ∷ ys
        ≡ block no_volume_label
        ∷ (instead (step_of (Start n) x).1.instead x ++ from (step_of (Start n) x).0 rest) =
        sym e ∙ table_gives (Start n) x rest
        ∙ ap (λ m. (inserted m ++ instead (step_of (Start n) x).1.instead x)
        ++ from (step_of (Start n) x).0 rest) p in
        cc all
    go Nothing p = absurd (omega (arith, one, ap added p))
    go SecondLabel p = absurd (omega (arith, one, ap added p))
    go Digits p = absurd (omega (arith, one, ap added p))

-- ---- a step that changes no item

pub record Stays (place : TapePlace) (x : TapeItem) (rest : List TapeItem) : Type 0 where
  pub none : inserted (step_of place x).1.missing ≡ []
  pub next : from (step_of place x).0 rest ≡ rest
  pub is :
      ((step_of place x).1.instead ≡ Same)
      ⊎ ((text : List ℕ) × ((step_of place x).1.instead ≡ Label text) × (x ≡ block text))

pub stays : (place : TapePlace) (x : TapeItem) (rest : List TapeItem)
    → from place (x ∷ rest) ≡ x ∷ rest → Stays place x rest
stays place x rest e = go (step_of place x).1.missing refl
  where
    all : (m : Missing) (r : Replacement) → (step_of place x).1.missing ≡ m
        → (step_of place x).1.instead ≡ r
        → (inserted m ++ instead r x) ++ from (step_of place x).0 rest ≡ x ∷ rest
    all m r p q =
        ap (λ n. (inserted n ++ instead r x) ++ from (step_of place x).0 rest) (sym p)
        ∙ ap (λ s. (inserted (step_of place x).1.missing ++ instead s x)
        ++ from (step_of place x).0 rest) (sym q)
        ∙ sym (table_gives place x rest) ∙ e

    -- the rest has no more items than before
    dropped : (next : TapePlace) → (step_of place x).0 ≡ next → from next rest ≡ x ∷ rest → ⊥
    dropped (Start k) s t =
        let is : x ≡ block no_volume_label = first_new k rest x rest t refl in
        let quiet : Quiet (step_of place x) =
        subst (λ y. Quiet (step_of place y)) (sym is) (label_quiet place) in
        absurd (omega (arith, quiet.past, ap grown s))
    dropped (Labels code n) s t = absurd (omega (arith, ap length t, shorter (Labels code n) rest))
    dropped (Blank code) s t = absurd (omega (arith, ap length t, shorter (Blank code) rest))
    dropped (Second code seen) s t =
        absurd (omega (arith, ap length t, shorter (Second code seen) rest))
    dropped (Headers code seen) s t =
        absurd (omega (arith, ap length t, shorter (Headers code seen) rest))
    dropped (Data code seen) s t =
        absurd (omega (arith, ap length t, shorter (Data code seen) rest))
    dropped (Trailer code seen) s t =
        absurd (omega (arith, ap length t, shorter (Trailer code seen) rest))
    dropped (Trailers code seen) s t =
        absurd (omega (arith, ap length t, shorter (Trailers code seen) rest))
    dropped (Next code seen) s t =
        absurd (omega (arith, ap length t, shorter (Next code seen) rest))
    dropped Ended s t = absurd (omega (arith, ap length t, shorter Ended rest))
    dropped Over s t = absurd (omega (arith, ap length t, shorter Over rest))

    by_instead : (m : Missing) → inserted m ≡ [] → (step_of place x).1.missing ≡ m
        → (r : Replacement)
        → (step_of place x).1.instead ≡ r → Stays place x rest
    by_instead m i p Same q =
        let t : x ∷ from (step_of place x).0 rest ≡ x ∷ rest =
        ap (λ (l : List TapeItem). (l ++ x ∷ []) ++ from (step_of place x).0 rest) (sym i)
        ∙ all m Same p q in
        record { none = ap inserted p ∙ i; next = cc t; is = inl q }
    by_instead m i p Dropped q =
        let t : from (step_of place x).0 rest ≡ x ∷ rest =
        ap (λ (l : List TapeItem). (l ++ []) ++ from (step_of place x).0 rest) (sym i)
        ∙ all m Dropped p q in
        absurd (dropped (step_of place x).0 refl t)
    by_instead m i p (Label text) q =
        let t : block text ∷ from (step_of place x).0 rest ≡ x ∷ rest =
        ap (λ (l : List TapeItem). (l ++ block text ∷ []) ++ from (step_of place x).0 rest) (sym i)
        ∙ all m (Label text) p q in
        record { none = ap inserted p ∙ i; next = cc t; is = inr (text, q, cc t) }

    go : (m : Missing) → (step_of place x).1.missing ≡ m → Stays place x rest
    go VolumeLabel p =
        let t : block no_volume_label
        ∷ (instead (step_of place x).1.instead x ++ from (step_of place x).0 rest) ≡ x ∷ rest =
        all VolumeLabel (step_of place x).1.instead p refl in
        let is : x ≡ block no_volume_label = cc t in
        let quiet : Quiet (step_of place x) =
        subst (λ y. Quiet (step_of place y)) (sym is) (label_quiet place) in
        absurd (omega (arith, quiet.none, ap added p))
    go Nothing p = by_instead Nothing refl p (step_of place x).1.instead refl
    go SecondLabel p = by_instead SecondLabel refl p (step_of place x).1.instead refl
    go Digits p = by_instead Digits refl p (step_of place x).1.instead refl

-- ---- the bytes of a label

word_80 : (xs : List ℕ) → IsWord xs 80 → xs ≡ 80 ∷ 0 ∷ 0 ∷ 0 ∷ []
word_80 [] is = absurd (omega (arith, is.four))
word_80 (a ∷ []) is = absurd (omega (arith, is.four))
word_80 (a ∷ b ∷ []) is = absurd (omega (arith, is.four))
word_80 (a ∷ b ∷ c ∷ []) is = absurd (omega (arith, is.four))
word_80 (a ∷ b ∷ c ∷ d ∷ []) is =
    let v : a + 256 * (b + 256 * (c + 256 * (d + 256 * 0))) ≡ 80 = is.value in
    let p : a ≡ 80 = omega (arith, v) in
    let q : b ≡ 0 = omega (arith, v) in
    let r : c ≡ 0 = omega (arith, v) in
    let s : d ≡ 0 = omega (arith, v) in
    rw (p, q, r, s) refl
word_80 (a ∷ b ∷ c ∷ d ∷ e ∷ xs) is = absurd (omega (arith, is.four))

-- a block with the words of n bytes
abbrev worded : ℕ → List ℕ → List ℕ
worded n xs = little_bytes 4 n ++ (xs ++ (replicate (n % 2) 0 ++ little_bytes 4 n))

none_of : (xs : List ℕ) → length xs ≡ 0 → xs ≡ []
none_of [] e = refl
none_of (x ∷ xs) e = absurd (omega (arith, e))

-- a block of 80 bytes has one encoding
label_bytes : (bytes text : List ℕ) (given' : List TapeItem) → IsSpelling bytes given'
    → given' ≡ block text ∷ [] → length text ≡ 80 → bytes ≡ written_block text
label_bytes bytes text given' (a_mark is e) g n = absurd (cc (e, g))
label_bytes bytes text given' (a_gap is e) g n = absurd (cc (e, g))
label_bytes bytes text given' (a_block w content len f e) g n = go (nat_le w longest_block) refl
  where
    go : (t : Bool) → nat_le w longest_block ≡ t → bytes ≡ written_block text
    go false p =
        let item : item_of w content ≡ bad = rw (p) refl in
        absurd (cc (e, g, item))
    go true p =
        let item : item_of w content ≡ block content = rw (p) refl in
        let same : content ≡ text = cc (e, g, item) in
        let few : w ≤ 99999 = grind (arith, nat_tests) in
        let size : length content ≡ 80 = ap length same ∙ n in
        let word : w ≡ 80 = sym (len_is w (length content) len few) ∙ size in
        let lead = word_80 f.lead (subst (λ v. IsWord f.lead v) word f.lead_is) in
        let trail = word_80 f.trail (subst (λ v. IsWord f.trail v) word f.trail_is) in
        let pad = none_of f.pad (f.pad_is ∙ ap (λ v. v % 2) size) in
        f.whole
        ∙ ap (λ (l : List ℕ). l ++ (content ++ (f.pad ++ f.trail))) lead
        ∙ ap (λ (l : List ℕ). 80 ∷ 0 ∷ 0 ∷ 0 ∷ (l ++ (f.pad ++ f.trail))) same
        ∙ ap (λ (l : List ℕ). 80 ∷ 0 ∷ 0 ∷ 0 ∷ (text ++ (l ++ f.trail))) pad
        ∙ ap (λ (l : List ℕ). 80 ∷ 0 ∷ 0 ∷ 0 ∷ (text ++ l)) trail
        ∙ ap (λ k. worded k text) (sym n)

-- ---- all bytes

-- the first encoding is kept, if the rest is
pub first_kept : (s : Spelling) (ss : List Spelling) (room : ℕ) (place : TapePlace)
    (more : List ℕ) → length (s.bytes ++ more) ≤ room
    → from place (items_of (s ∷ ss)) ≡ items_of (s ∷ ss) → (o : Bool) → is_over place ≡ o
    → ((next : TapePlace) → from next (items_of ss) ≡ items_of ss
    → normal_from (room - length s.bytes) next more ≡ more)
    → normal_from room place (s.bytes ++ more) ≡ s.bytes ++ more
first_kept s ss room place more h k true o next =
    subst (λ q. normal_from room q (s.bytes ++ more) ≡ s.bytes ++ more) (over_is place o)
    (over_left room (s.bytes ++ more))
first_kept s ss room place more h k false o next =
    first_more s room place more h o ∙ by_item (one_item s.bytes s.given s.spelled)
  where
    -- the item stays
    same_kept : (left : List ℕ) → left ≡ more
        → take (length s.bytes) (s.bytes ++ more) ++ left ≡ s.bytes ++ more
    same_kept left is =
        ap (λ (l : List ℕ). l ++ left) (take_at s.bytes more (length s.bytes) refl)
        ∙ ap (λ (l : List ℕ). s.bytes ++ l) is

    -- the item is replaced by itself
    label_kept : (text left : List ℕ) → left ≡ more → s.bytes ≡ written_block text
        → written_block text ++ skipped (length s.bytes) (s.bytes ++ more) left ≡ s.bytes ++ more
    label_kept text left is b =
        rw (no_less (length (s.bytes ++ more)) (length s.bytes)
        (omega (arith, length-append s.bytes more)))
        (ap (λ (l : List ℕ). l ++ left) (sym b) ∙ ap (λ (l : List ℕ). s.bytes ++ l) is)

    left_is : (q : TapePlace) → from q (items_of ss) ≡ items_of ss
        → normal_from (room - length s.bytes) q more ≡ more
    left_is q j = next q j

    by_instead : (x : TapeItem) → s.given ≡ x ∷ []
        → normal_from (room - length s.bytes) (step_of place x).0 more ≡ more
        → ((step_of place x).1.instead ≡ Same)
        ⊎ ((text : List ℕ) × ((step_of place x).1.instead ≡ Label text) × (x ≡ block text))
        → instead_bytes (step_of place x).1.instead (length s.bytes) (s.bytes ++ more)
        (normal_from (room - length s.bytes) (step_of place x).0 more)
        ≡ s.bytes ++ more
    by_instead x g left (inl q) = rw (q) (same_kept _ left)
    by_instead x g left (inr (text, q, i)) =
        let size : length text ≡ 80 = subst Labelled q (step_labelled place x) in
        rw (q) (label_kept text _ left
        (label_bytes s.bytes text s.given s.spelled (g ∙ ap (λ y. y ∷ []) i) size))

    by_item : (s.given ≡ []) ⊎ ((x : TapeItem) × (s.given ≡ x ∷ []))
        → inserted_bytes (stepped place s.given).1.missing
        ++ instead_bytes (stepped place s.given).1.instead (length s.bytes) (s.bytes ++ more)
        (normal_from (room - length s.bytes) (stepped place s.given).0 more)
        ≡ s.bytes ++ more
    by_item (inl g) =
        let j : from place (items_of ss) ≡ items_of ss = subst
        (λ (l : List TapeItem). from place (l ++ items_of ss) ≡ l ++ items_of ss) g k in
        rw (g) (same_kept (normal_from (room - length s.bytes) place more) (left_is place j))
    by_item (inr (x, g)) =
        let j : from place (x ∷ items_of ss) ≡ x ∷ items_of ss = subst
        (λ (l : List TapeItem). from place (l ++ items_of ss) ≡ l ++ items_of ss) g k in
        let st = stays place x (items_of ss) j in
        rw (g) (rw (st.none) (by_instead x g (left_is (step_of place x).0 st.next) st.is))

kept_from : (ss : List Spelling) (room : ℕ) (place : TapePlace) (rest : List ℕ) (ending : Ending)
    → length (bytes_of ss ++ rest) ≤ room → EndsHere ending rest
    → from place (items_of ss) ≡ items_of ss
    → normal_from room place (bytes_of ss ++ rest) ≡ bytes_of ss ++ rest
kept_from [] room place rest ending h e k = end_left room place rest ending e
kept_from (s ∷ ss) room place rest ending h e k =
    let more : List ℕ = bytes_of ss ++ rest in
    let assoc : bytes_of (s ∷ ss) ++ rest ≡ s.bytes ++ more =
    append_assoc s.bytes (bytes_of ss) rest in
    ap (λ (l : List ℕ). normal_from room place l) assoc
    ∙ first_kept s ss room place more (omega (arith, h, ap length assoc)) k (is_over place) refl
    (λ next l. kept_from ss (room - length s.bytes) next rest ending
    (omega (arith, h, ap length assoc, length-append s.bytes more)) e l) ∙ sym assoc

pub bytes_kept : BytesKept
bytes_kept xs items h s k =
    let all = kept_from s.leads.spellings image_limit (Start 0) s.rest s.ending
    (subst (λ (l : List ℕ). length l ≤ image_limit) s.leads.whole h) s.ended
    (subst (λ (l : List TapeItem). normal l ≡ l) s.leads.items_are k) in
    ap normal_bytes s.leads.whole ∙ all ∙ sym s.leads.whole

pub copy_bytes_kept : (set : FileSet) → IsLawful set → CopyBytesKept set
copy_bytes_kept set lawful k good xs h s = bytes_kept xs _ h s (normal_keeps set lawful k good)
