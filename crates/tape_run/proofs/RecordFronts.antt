-- The records before the first part that leaves its record unfinished, written while all records
-- are counted.
use Rattle.std.proofs.Common.{Ok, ◌≡◌, ℕ, zero, suc, ◌+◌, ◌≤◌, Bool, true, false, List, [], ◌∷◌}
use Rattle.std.proofs.Common.{◌++◌, length, take, drop, Option, Some, None, refl, sym, ap, subst}
use Rattle.std.proofs.Common.{◌∙◌, arith, append-nil, if◌then◌else◌}
use Rattle.std.proofs.lemmas.List.{take-append-drop}
use Rattle.std.specs.Io.KnownBytes.{Appends}
use Rattle.std.proofs.KnownBytes.{Appends-nil, Appends-trans}
use Rattle.tape_blocks.specs.{Block.Portion, Parts.view}
use Rattle.tape_blocks.specs.Spans.{leaves, with_record, join_after, join}
use Rattle.tape_blocks.specs.declared.parts.{Form.Form, Part.Part}
use Rattle.tape_core.specs.{Walks.GivesPart, Stands.weight_of}
use Rattle.tape_image.specs.Written.{AppendsFront}
use Rattle.tape_image.proofs.Pieces.{front_more, front_behind}
use Rattle.tape_run.specs.RecordText.{record_text, records_text, output_of}
use Rattle.tape_run.specs.OutSinks.{with_end}
use Rattle.tape_run.proofs.{RecordTexts.records_text-append, Streams.ends, Streams.count_ends}
use Rattle.tape_run.proofs.{Streams.ends_few, Streams.ends_next}

-- The text of the records is that of the first ones, followed by that of the others.
split : (form : Form) (n : ℕ) (rs : List (List ℕ))
    → records_text form (take n rs) ++ records_text form (drop n rs) ≡ records_text form rs
split form n rs = sym (records_text-append form (take n rs) (drop n rs))
    ∙ ap (records_text form) (take-append-drop n rs)

-- The first records were written, and then the others, or a prefix of their text.
pub both_written : (form : Form) (n : ℕ) (old mid new : Option (List ℕ)) (rs : List (List ℕ))
    → Appends old mid (records_text form (take n rs))
    → Appends mid new (records_text form (drop n rs)) → Appends old new (records_text form rs)
both_written form n old mid new rs a b = subst (Appends old new) (split form n rs)
    (Appends-trans old mid new _ (records_text form (drop n rs)) a b)

pub rest_failed : (form : Form) (n : ℕ) (old mid new : Option (List ℕ)) (rs : List (List ℕ))
    → Appends old mid (records_text form (take n rs))
    → AppendsFront mid new (records_text form (drop n rs))
    → AppendsFront old new (records_text form rs)
rest_failed form n old mid new rs a b =
    subst (AppendsFront old new) (split form n rs) (front_behind old mid new _ _ a b)

-- a part that ends its record, which has no other part
one_record : (p : Portion) (ps : List Portion) → leaves p.span ≡ false
    → (join (p ∷ ps)).records ≡ p.bytes ∷ (join ps).records
one_record p ps e = ap (λ b. (if b then join_after (Some p.bytes) ps
    else with_record p.bytes (join_after None ps)).records) e

next_record : (xs : List (List ℕ)) (n : ℕ) (x : List ℕ) (ys : List (List ℕ))
    → drop n xs ≡ x ∷ ys → (take (suc n) xs ≡ take n xs ++ x ∷ []) × (drop (suc n) xs ≡ ys)
next_record [] zero x ys e = absurd (cc e)
next_record [] (suc n) x ys e = absurd (cc e)
next_record (y ∷ xs) zero x ys e = (ap (take 1) e, ap (drop 1) e)
next_record (y ∷ xs) (suc n) x ys e =
    let (first, rest) = next_record xs n x ys e in (ap (λ l. y ∷ l) first, rest)

-- ---- the walk

-- The first records were written, and all that end before the parts still to come were counted. If
-- each part so far is a record, these are the same ones.
pub record Fronts (form : Form) (ahead : List Portion → Type 0) (all : Bool) (written count : ℕ)
    (old new : Option (List ℕ)) (parts : List Portion) : Type 0 where
  pub rest : List Portion
  pub is_ahead : ahead rest
  pub counted : count + ends rest ≡ ends parts
  pub few : ends parts ≤ 999999999999999
  pub wrote : Appends old new (records_text form (take written (join parts).records))
  pub each : all ≡ true
      → (written ≡ count) × (drop count (join parts).records ≡ (join rest).records)

pub front_starts : (form : Form) (ahead : List Portion → Type 0) (old : Option (List ℕ))
    (parts : List Portion) (weight : ℕ) → ahead parts → weight ≡ weight_of parts
    → weight ≤ 999999999999999 → Fronts form ahead true 0 0 old old parts
front_starts form ahead old parts weight is e limit =
    let few = ends_few parts in
    record {
      rest = parts;
      is_ahead = is;
      counted = omega arith;
      few = omega (arith, few, e, limit);
      wrote = Appends-nil old;
      each = λ all. (refl, refl);
    }

pub front_writes : (form : Form) (ahead after : List Portion → Type 0) (all : Bool)
    (written count next : ℕ) (old mid new : Option (List ℕ)) (parts : List Portion) (part : Part)
    → Fronts form ahead all written count old mid parts → all ≡ true
    → ((xs : List Portion) → ahead xs → GivesPart (Ok (Some part)) xs after)
    → leaves part.span ≡ false → Appends mid new (record_text form (view part).bytes)
    → (count ≤ 999999999999999 → next ≡ count + 1) → Fronts form after all next next old new parts
front_writes form ahead after all written count next old mid new parts part f so gives e wrote
    counts =
    let (rest, is, there) = gives f.rest f.is_ahead in
    let p = view part in
    let rs = (join parts).records in
    let counted = f.counted in
    let few = f.few in
    let more : next ≡ suc count =
    let n = counts (omega (arith, counted, few)) in omega (arith, n) in
    let (same, others) = f.each so in
    let (first, left) = next_record rs count p.bytes (join rest).records
    (others ∙ ap (λ ps. (join ps).records) is ∙ one_record p rest e) in
    let ended : count + ends (p ∷ rest) ≡ ends parts =
    ap (λ xs. count + ends xs) (sym is) ∙ f.counted in
    record {
      rest = rest;
      is_ahead = there;
      counted = ap (λ n. n + ends rest) (more ∙ omega arith)
          ∙ ends_next false count (ends rest) (ends parts)
          (ap (λ b. count + with_end b (ends rest)) (sym e) ∙ ended);
      few = f.few;
      wrote = subst (Appends old new)
          (ap (λ n. records_text form (take n rs) ++ record_text form p.bytes) same
          ∙ ap (λ t. records_text form (take count rs) ++ t)
          (sym (append-nil (record_text form p.bytes)))
          ∙ sym (records_text-append form (take count rs) (p.bytes ∷ []))
          ∙ ap (records_text form) (sym first ∙ ap (λ n. take n rs) (sym more)))
          (Appends-trans old mid new _ (record_text form p.bytes) f.wrote wrote);
      each = λ all. (refl, ap (λ n. drop n rs) more ∙ left);
    }

pub front_failed : (form : Form) (ahead after : List Portion → Type 0) (all : Bool)
    (written count : ℕ) (old mid new : Option (List ℕ)) (parts : List Portion) (part : Part)
    → Fronts form ahead all written count old mid parts → all ≡ true
    → ((xs : List Portion) → ahead xs → GivesPart (Ok (Some part)) xs after)
    → leaves part.span ≡ false → AppendsFront mid new (record_text form (view part).bytes)
    → AppendsFront old new (output_of form parts)
front_failed form ahead after all written count old mid new parts part f so gives e wrote =
    let (rest, is, there) = gives f.rest f.is_ahead in
    let p = view part in
    let (same, others) = f.each so in
    rest_failed form written old mid new (join parts).records f.wrote
    (subst (AppendsFront mid new)
    (ap (records_text form) (sym (ap (λ n. drop n (join parts).records) same ∙ others
    ∙ ap (λ ps. (join ps).records) is ∙ one_record p rest e)))
    (front_more mid new (record_text form p.bytes) (output_of form rest) wrote))

-- the walk was refused
pub front_refused : (form : Form) (ahead : List Portion → Type 0) (all : Bool) (written count : ℕ)
    (old new : Option (List ℕ)) (parts : List Portion)
    → Fronts form ahead all written count old new parts
    → AppendsFront old new (output_of form parts)
front_refused form ahead all written count old new parts f = (
  records_text form (take written (join parts).records),
  records_text form (drop written (join parts).records),
  f.wrote,
  sym (split form written (join parts).records),
)

pub front_ended : (form : Form) (ahead after : List Portion → Type 0) (all : Bool)
    (written count : ℕ) (old new : Option (List ℕ)) (parts : List Portion)
    → Fronts form ahead all written count old new parts
    → ((xs : List Portion) → ahead xs → GivesPart (Ok None) xs after)
    → (count ≡ length (join parts).records)
    × Appends old new (records_text form (take written (join parts).records))
front_ended form ahead after all written count old new parts f gives =
    let (none, there) = gives f.rest f.is_ahead in
    let sum : count + 0 ≡ ends parts = ap (λ xs. count + ends xs) (sym none) ∙ f.counted in
    let whole = count_ends None parts in (omega (arith, sum, whole), f.wrote)
