-- An image that encodes the items of a tape gives one that encodes those of its normal form.
use Rattle.std.proofs.Common.{◌≡◌, ℕ, ◌+◌, ◌-◌, ◌≤◌, Bool, true, false, ◌&&◌}
use Rattle.std.proofs.Common.{List, [], ◌∷◌, ◌++◌, length, Option}
use Rattle.std.proofs.Common.{None}
use Rattle.std.proofs.Common.{refl, sym, ap, subst, ◌∙◌, arith, append_assoc, append-nil}
use Rattle.std.proofs.Common.{length-append, drop_at}
use lib.Seq.{take_at}
use Rattle.std.proofs.Common.{◌⊎◌, inl, inr}
use Rattle.tape_image.specs.Begins.{image_limit}
use Rattle.std.specs.List.{flat_map}
use Rattle.tape_image.specs.Tape.{TapeItem, block, mark}
use Rattle.tape_image.specs.Spelling.{IsSpelling, a_mark, a_gap, a_block, item_of}
use Rattle.tape_image.specs.Spelling.{Spelling}
use Rattle.tape_image.specs.Spelling.{Leads, EndsHere, Spells}
use Rattle.tape_image.specs.declared.item.Ending.{Ending}
use Rattle.tape_image.specs.declared.item.Ending.TheVariants.{Marked, Physical}
use Rattle.tape_image.specs.Word.{end_word}
use Rattle.tape_image.specs.{Written.written_block, Written.is_no_block}
use Rattle.tape_image.proofs.Leads.{Leads-nil, Leads-one, Leads-trans}
use Rattle.tape_image.proofs.WrittenItems.{block_spelled}
use Rattle.tape_core.specs.declared.normal.machine.{TapePlace.TapePlace}
use Rattle.tape_core.specs.declared.normal.machine.{Missing.Missing, Replacement.Replacement}
use Rattle.tape_core.specs.declared.normal.machine.Missing.TheVariants.{Nothing, VolumeLabel}
use Rattle.tape_core.specs.declared.normal.machine.Missing.TheVariants.{SecondLabel, Digits}
use Rattle.tape_core.specs.declared.normal.machine.Replacement.TheVariants.{Same, Dropped, Label}
use Rattle.tape_core.specs.declared.normal.machine.TapePlace.TheVariants as places
use Rattle.tape_core.specs.declared.normal.looking.Looked.{Looked}
use Rattle.tape_core.specs.NormalForm.{Codes.is_label_length, Mended.no_volume_label}
use Rattle.tape_core.specs.NormalForm.{Laws.NormalSpells}
use Rattle.tape_core.specs.NormalForm.{Laws.CopySpells}
use Rattle.tape_set.specs.{Layout.FileSet, Layout.items as set_items, Lawful.IsLawful}
use Rattle.tape_set.specs.{Reading.as_read}
use Rattle.tape_core.proofs.NormalForm.{Same.normal_keeps}
use Rattle.tape_core.specs.NormalForm.Steps.{step_of, from, inserted, instead}
use Rattle.tape_core.specs.NormalForm.Bytes.{looked}
use Rattle.tape_core.specs.NormalForm.Bytes.{is_over, begins_label, reads_labels}
use Rattle.tape_core.specs.NormalForm.Bytes.{by_looked, normal_from, inserted_bytes, instead_bytes}
use Rattle.tape_core.specs.NormalForm.Bytes.{normal_bytes}
use Rattle.tape_core.proofs.NormalForm.Agree.{table_gives}
use Rattle.tape_core.proofs.NormalForm.{Ahead.from_nil}
use Rattle.tape_core.proofs.NormalForm.Enough.{first_item, no_less}
use Rattle.tape_core.proofs.NormalForm.Giving.{over_left}
use Rattle.tape_core.proofs.NormalForm.Plain.{Labelled, step_labelled}
use Rattle.tape_core.proofs.NormalForm.LookedAt.{stepped, looked_is, looked_spelled}

-- ---- what replaces an encoding

inserted_leads : (m : Missing) (xs : List ℕ) → Leads (inserted_bytes m ++ xs) (inserted m) xs
inserted_leads Nothing xs = Leads-nil xs
inserted_leads VolumeLabel xs =
    subst (λ (l : List ℕ). Leads (l ++ xs) (block no_volume_label ∷ []) xs)
    (sym (append-nil (written_block no_volume_label)))
    (Leads-one (written_block no_volume_label) xs (block no_volume_label ∷ [])
    (block_spelled no_volume_label refl))
inserted_leads SecondLabel xs = Leads-nil xs
inserted_leads Digits xs = Leads-nil xs

-- the items that replace those of an encoding
abbrev insteads : Replacement → List TapeItem → List TapeItem
insteads Same items = items
insteads Dropped items = []
insteads (Label text) items = block text ∷ []

instead_leads : (r : Replacement) (bytes more rest : List ℕ) (items : List TapeItem)
    → IsSpelling bytes items → Labelled r
    → Leads (instead_bytes r (length bytes) (bytes ++ more) rest) (insteads r items) rest
instead_leads Same bytes more rest items s l =
    rw (take_at bytes more (length bytes) refl) (Leads-one bytes rest items s)
instead_leads Dropped bytes more rest items s l =
    rw (no_less (length (bytes ++ more)) (length bytes) (omega (arith, length-append bytes more)))
    (Leads-nil rest)
instead_leads (Label text) bytes more rest items s l =
    let block_is : is_no_block text ≡ false = rw (l) refl in
    rw (no_less (length (bytes ++ more)) (length bytes) (omega (arith, length-append bytes more)))
    (Leads-one (written_block text) rest (block text ∷ []) (block_spelled text block_is))

-- an encoding gives no item or one
pub one_item : (bytes : List ℕ) (items : List TapeItem) → IsSpelling bytes items
    → (items ≡ []) ⊎ ((x : TapeItem) × (items ≡ x ∷ []))
one_item bytes items (a_mark is e) = inr (mark, e)
one_item bytes items (a_gap is e) = inl e
one_item bytes items (a_block w content len f e) = inr (item_of w content, e)

-- ---- all encodings

pub over_is : (place : TapePlace) → is_over place ≡ true → places.Over ≡ place
over_is places.Over e = refl
over_is (places.Data code seen) e = absurd (cc e)
over_is (places.Start n) e = absurd (cc e)
over_is (places.Labels code n) e = absurd (cc e)
over_is (places.Blank code) e = absurd (cc e)
over_is (places.Second code seen) e = absurd (cc e)
over_is (places.Headers code seen) e = absurd (cc e)
over_is (places.Trailer code seen) e = absurd (cc e)
over_is (places.Trailers code seen) e = absurd (cc e)
over_is (places.Next code seen) e = absurd (cc e)
over_is places.Ended e = absurd (cc e)

abbrev pub bytes_of : List Spelling → List ℕ
bytes_of ss = flat_map (λ s. s.bytes) ss

abbrev pub items_of : List Spelling → List TapeItem
items_of ss = flat_map (λ s. s.given) ss

-- nothing is looked at where the medium ends
pub end_left : (room : ℕ) (place : TapePlace) (rest : List ℕ) (ending : Ending)
    → EndsHere ending rest → normal_from room place rest ≡ rest
end_left room place rest Physical e = rw (e) refl
end_left room place rest Marked e =
    first_item room place rest
    ∙ ap (λ (o : Option Looked). by_looked o room rest normal_from) (go (is_over place) refl)
  where
    begins : (r : Bool) → reads_labels place ≡ r → begins_label place rest ≡ false
    begins r p =
        ap (λ v. reads_labels place && is_label_length v) e.1 ∙ ap (λ v. v && false) p ∙ none r
      where
        none : (r : Bool) → (r && false) ≡ false
        none true = refl
        none false = refl

    go : (o : Bool) → is_over place ≡ o → looked room place rest ≡ None
    go true o = rw (o) refl
    go false o = looked_is room place rest end_word o e.0 e.1 ∙ rw (begins _ refl) refl

stepped_labelled : (place : TapePlace) (items : List TapeItem)
    → Labelled (stepped place items).1.instead
stepped_labelled place [] = tt
stepped_labelled place (x ∷ xs) = step_labelled place x

one_instead : (r : Replacement) (x : TapeItem) → instead r x ≡ insteads r (x ∷ [])
one_instead Same x = refl
one_instead Dropped x = refl
one_instead (Label text) x = refl

-- the items of an encoding and the rest, in normal form
stepped_items : (place : TapePlace) (items rest : List TapeItem)
    → (items ≡ []) ⊎ ((x : TapeItem) × (items ≡ x ∷ []))
    → from place (items ++ rest)
    ≡ inserted (stepped place items).1.missing
    ++ (insteads (stepped place items).1.instead items ++ from (stepped place items).0 rest)
stepped_items place items rest (inl e) = rw (e) refl
stepped_items place items rest (inr (x, e)) =
    let step = step_of place x in
    rw (e) (table_gives place x rest
    ∙ append_assoc (inserted step.1.missing) (instead step.1.instead x) (from step.0 rest)
    ∙ ap (λ (l : List TapeItem). inserted step.1.missing ++ (l ++ from step.0 rest))
    (one_instead step.1.instead x))

-- the bytes in normal form, by the first encoding
pub first_more : (s : Spelling) (room : ℕ) (place : TapePlace) (more : List ℕ)
    → length (s.bytes ++ more) ≤ room → is_over place ≡ false
    → normal_from room place (s.bytes ++ more)
    ≡ inserted_bytes (stepped place s.given).1.missing
    ++ instead_bytes (stepped place s.given).1.instead (length s.bytes) (s.bytes ++ more)
    (normal_from (room - length s.bytes) (stepped place s.given).0 more)
first_more s room place more h o =
    let n = length s.bytes in
    let step = stepped place s.given in
    let looks = looked_spelled room place s.bytes more s.given o
    (omega (arith, h, length-append s.bytes more)) s.spelled in
    first_item room place (s.bytes ++ more)
    ∙ ap (λ (p : Option Looked). by_looked p room (s.bytes ++ more) normal_from) looks
    ∙ ap (λ (l : List ℕ). inserted_bytes step.1.missing
    ++ instead_bytes step.1.instead n (s.bytes ++ more) (normal_from (room - n) step.0 l))
    (drop_at s.bytes more n refl)

first_left : (s : Spelling) (ss : List Spelling) (room : ℕ) (place : TapePlace)
    (rest : List ℕ) → length (bytes_of (s ∷ ss) ++ rest) ≤ room → is_over place ≡ false
    → normal_from room place (bytes_of (s ∷ ss) ++ rest)
    ≡ inserted_bytes (stepped place s.given).1.missing
    ++ instead_bytes (stepped place s.given).1.instead (length s.bytes)
    (s.bytes ++ (bytes_of ss ++ rest))
    (normal_from (room - length s.bytes) (stepped place s.given).0 (bytes_of ss ++ rest))
first_left s ss room place rest h o =
    let assoc : bytes_of (s ∷ ss) ++ rest ≡ s.bytes ++ (bytes_of ss ++ rest) =
    append_assoc s.bytes (bytes_of ss) rest in
    ap (λ (l : List ℕ). normal_from room place l) assoc
    ∙ first_more s room place (bytes_of ss ++ rest) (omega (arith, h, ap length assoc)) o

spelled_first : (s : Spelling) (ss : List Spelling) (room : ℕ) (place : TapePlace) (rest : List ℕ)
    → length (bytes_of (s ∷ ss) ++ rest) ≤ room → (o : Bool) → is_over place ≡ o
    → ((next : TapePlace) (n : ℕ) → length (bytes_of ss ++ rest) ≤ n
    → Leads (normal_from n next (bytes_of ss ++ rest)) (from next (items_of ss)) rest)
    → Leads (normal_from room place (bytes_of (s ∷ ss) ++ rest)) (from place (items_of (s ∷ ss)))
    rest
spelled_first s ss room place rest h true o next =
    let all : List ℕ = bytes_of (s ∷ ss) ++ rest in
    subst (λ q. Leads (normal_from room q all) (from q (items_of (s ∷ ss))) rest) (over_is place o)
    (record { spellings = s ∷ ss; whole = over_left room all; items_are = refl })
spelled_first s ss room place rest h false o next =
    let more : List ℕ = bytes_of ss ++ rest in
    let n = length s.bytes in
    let step = stepped place s.given in
    let assoc : bytes_of (s ∷ ss) ++ rest ≡ s.bytes ++ more =
    append_assoc s.bytes (bytes_of ss) rest in
    let long : n + length more ≤ room =
    omega (arith, h, ap length assoc, length-append s.bytes more) in
    let left = normal_from (room - n) step.0 more in
    let whole : normal_from room place (bytes_of (s ∷ ss) ++ rest)
    ≡ inserted_bytes step.1.missing ++ instead_bytes step.1.instead n (s.bytes ++ more) left =
    first_left s ss room place rest h o in
    rw (whole, stepped_items place s.given (items_of ss) (one_item s.bytes s.given s.spelled))
    (Leads-trans _ _ rest (inserted step.1.missing) _ (inserted_leads step.1.missing _)
    (Leads-trans _ left rest (insteads step.1.instead s.given) (from step.0 (items_of ss))
    (instead_leads step.1.instead s.bytes more left s.given s.spelled
    (stepped_labelled place s.given)) (next step.0 (room - n) (omega (arith, long)))))

spelled : (ss : List Spelling) (room : ℕ) (place : TapePlace) (rest : List ℕ) (ending : Ending)
    → length (bytes_of ss ++ rest) ≤ room → EndsHere ending rest
    → Leads (normal_from room place (bytes_of ss ++ rest)) (from place (items_of ss)) rest
spelled [] room place rest ending h e =
    rw (from_nil place, end_left room place rest ending e) (Leads-nil rest)
spelled (s ∷ ss) room place rest ending h e =
    spelled_first s ss room place rest h (is_over place) refl
    (λ next n k. spelled ss n next rest ending k e)

pub normal_spells : NormalSpells
normal_spells xs items h s =
    let leads = spelled s.leads.spellings image_limit (places.Start 0) s.rest s.ending
    (subst (λ (l : List ℕ). length l ≤ image_limit) s.leads.whole h) s.ended in
    record {
      rest = s.rest;
      leads = rw (s.leads.whole, s.leads.items_are) leads;
      ending = s.ending;
      ended = s.ended;
    }

pub copy_spells : (set : FileSet) → IsLawful set → CopySpells set
copy_spells set lawful k good xs h s =
    subst (λ (l : List TapeItem). Spells (normal_bytes xs) l) (normal_keeps set lawful k good)
    (normal_spells xs (as_read (set_items set k) good) h s)
