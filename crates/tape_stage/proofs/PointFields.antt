-- Checkpoints and their fields determine each other; and the fields that are valid.
use Rattle.std.proofs.Common.{◌≡◌, ℕ, ◌^◌, ◌<◌, ◌≤◌, Bool, true, false, replicate, Option, None}
use Rattle.std.proofs.Common.{Some, refl, sym, subst, arith, rules, ◌&&◌, ◌==◌, nat_le, not}
use Rattle.std.proofs.{Common.if◌then◌else◌, Common.is_some, lemmas.Bool.and_parts}
use Rattle.std.proofs.lemmas.Slice.Eq.{bytes_eq-Decides}
use Rattle.std.specs.Str.{bytes_eq}
use Rattle.tape_label.specs.declared.values.Format.{Format}
use Rattle.tape_label.specs.declared.values.Format.TheVariants.{Fixed, Counted, Spanned}
use Rattle.tape_label.specs.declared.values.Format.TheVariants.{Undefined, Variable}
use Rattle.tape_set.specs.{declared.position.Position.Position, Lawful.FileForm, Lawful.most_blocks}
use Rattle.tape_set.specs.declared.position.Position.TheVariants.{Awaits, Finished}
use Rattle.tape_set.specs.Position.{sect_of, block_of, part_of}
use Rattle.tape_core.specs.{Known.IsForm, Known.PositionFits, Known.is_finished, Point.Point}
use Rattle.tape_core.specs.Range.{length_in_range, form_in_range, in_range}
use Rattle.tape_core.proofs.Ranges.{ranged, in_range_is}
use Rattle.tape_stage.specs.Fields.{form_of, fields_of, form_as, known_as, known_by, point_by}
use Rattle.tape_stage.specs.{declared.point.Form.Form, Text.Fit, Text.KnownFits, Text.IsWritable}
use Rattle.tape_stage.specs.Fields.{place_agrees, is_blank, form_agrees, is_right}
use Rattle.tape_stage.specs.{declared.point.Version.Version, declared.point.Fields.Fields}

-- ---- a checkpoint's fields determine it

position_again : (p : Position) → (if is_finished p then Finished else Awaits (sect_of p)
    (block_of p) (part_of p)) ≡ p
position_again (Awaits sect block part) = refl
position_again Finished = refl

known_again : (known : Option FileForm) → known_by (form_of known) ≡ known
known_again None = refl
known_again (Some form) = refl

pub point_again : (c : Point) → point_by (fields_of c) ≡ c
point_again c = rw (position_again c.position, known_again c.known) refl

-- ---- a checkpoint's fields agree and are in range

place_right : (p : Position) → PositionFits p → (if is_finished p then (sect_of p == 0)
    && (block_of p == 0) && (part_of p == 0) else nat_le (block_of p) most_blocks) ≡ true
place_right (Awaits sect block part) fits = let small : block ≤ 4294967295 = fits.2 in search rules
place_right Finished fits = refl

length_right : (format : Format) (rec_len offset : ℕ) → IsForm format rec_len offset
    → length_in_range format rec_len ≡ true
length_right Fixed rec_len offset fits =
    let least : 1 ≤ rec_len = fits.least in
    let most : rec_len ≤ 99999 = fits.len_fits in
    search rules
length_right Counted rec_len offset fits = let none : 0 ≡ rec_len = fits.binding in rw (← none) refl
length_right Spanned rec_len offset fits = let none : 0 ≡ rec_len = fits.binding in rw (← none) refl
length_right Undefined rec_len offset fits =
    let none : 0 ≡ rec_len = fits.binding in rw (← none) refl
length_right Variable rec_len offset fits =
    let none : 0 ≡ rec_len = fits.binding in rw (← none) refl

offset_right : (offset : ℕ) → offset ≤ 99 → nat_le offset 99 ≡ true
offset_right offset small = search rules

form_right : (known : Option FileForm) → KnownFits known → form_agrees (form_of known)
    (is_some known) (form_of known).format ≡ true
form_right None fits = refl
form_right (Some form) fits = rw (
  length_right _ _ _ fits,
  offset_right form.offset fits.offset_fits,
) refl

three : (a b c : Bool) → a ≡ true → b ≡ true → c ≡ true → (a && b && c) ≡ true
three a b c p q r = rw (p, q, r) refl

pub point_right : (v : Version) (c : Point) → IsWritable v c → is_right (fields_of c) ≡ true
point_right v c w =
    three _ _ _ (place_right c.position w.right.stands.numbers) (form_right c.known w.known)
    (subst (λ (p : Point). in_range p ≡ true) (sym (point_again c)) (in_range_is c w.right))

-- ---- such fields are those of their checkpoint

record AreRight (f : Fields) : Type 0 where
  place : place_agrees f ≡ true
  form : form_agrees f.form f.flags.known f.form.format ≡ true
  range : in_range (point_by f) ≡ true

are_right : (f : Fields) → is_right f ≡ true → AreRight f
are_right f right =
    let a = and_parts (place_agrees f && form_agrees f.form f.flags.known f.form.format)
    (in_range (point_by f)) right in
    let b = and_parts (place_agrees f) (form_agrees f.form f.flags.known f.form.format) a.0 in
    record { place = b.0; form = b.1; range = a.1 }

record HasPlaceBack (p : Position) (done : Bool) (sect block part : ℕ) : Type 0 where
  sect_is : sect_of p ≡ sect
  block_is : block_of p ≡ block
  part_is : part_of p ≡ part
  done_is : is_finished p ≡ done

place_back : (done : Bool) (sect block part : ℕ)
    → (if done then (sect == 0) && (block == 0) && (part == 0) else nat_le block most_blocks) ≡ true
    → HasPlaceBack (if done then Finished else Awaits sect block part) done sect block part
place_back true sect block part e =
    let s : sect ≡ 0 = search rules in
    let b : block ≡ 0 = search rules in
    let p : part ≡ 0 = search rules in
    record { sect_is = sym s; block_is = sym b; part_is = sym p; done_is = refl }
place_back false sect block part e = record {
  sect_is = refl;
  block_is = refl;
  part_is = refl;
  done_is = refl;
}

blank_is : (form : Form) → is_blank form ≡ true → (form.rec_len ≡ 0) × (form.offset ≡ 0)
    × (form.file_id ≡ replicate 17 32)
blank_is form e =
    let a = and_parts ((form.rec_len == 0) && (form.offset == 0))
    (bytes_eq form.file_id (replicate 17 32)) e in
    let b = and_parts (form.rec_len == 0) (form.offset == 0) a.0 in
    let len : (form.rec_len == 0) ≡ true = b.0 in
    let off : (form.offset == 0) ≡ true = b.1 in
    (search rules, search rules, (bytes_eq-Decides form.file_id (replicate 17 32)).0 a.1)

not_true : (b : Bool) → not b ≡ true → false ≡ b
not_true true e = absurd cc
not_true false e = refl

form_back : (form : Form) (known : Bool) (format : Option Format) → form.format ≡ format
    → form_agrees form known format ≡ true
    → (form_of (known_as form format) ≡ form) × (is_some (known_as form format) ≡ known)
form_back form known None is e =
    let a = and_parts (not known) (is_blank form) e in
    let b = blank_is form a.1 in
    let blank : Form = record {
      format = None;
      rec_len = 0;
      offset = 0;
      file_id = replicate 17 32;
    } in
    let same : record {
      format = form.format;
      rec_len = form.rec_len;
      offset = form.offset;
      file_id = form.file_id;
    } ≡ blank = rw (is, b.0, b.1, b.2) refl in
    (sym same, not_true known a.0)
form_back form known (Some format) is e =
    (rw (← is) refl, sym (and_parts known (form_in_range (form_as form format)) e).0)

pub fields_again : (f : Fields) → is_right f ≡ true → fields_of (point_by f) ≡ f
fields_again f right =
    let r = are_right f right in
    let p = place_back f.flags.done f.sect f.place.block f.place.part r.place in
    let k = form_back f.form f.flags.known _ refl r.form in
    rw (p.sect_is, p.block_is, p.part_is, p.done_is, k.0, k.1) refl

-- ---- such fields give a checkpoint that has a text

form_says : (format : Format) (rec_len offset : ℕ) → length_in_range format rec_len ≡ true
    → offset ≤ 99 → IsForm format rec_len offset
form_says Fixed rec_len offset e small =
    let a = and_parts (nat_le 1 rec_len) (nat_le rec_len 99999) e in
    let least : nat_le 1 rec_len ≡ true = a.0 in
    let most : nat_le rec_len 99999 ≡ true = a.1 in
    record { least = search rules; binding = refl; len_fits = search rules; offset_fits = small }
form_says Counted rec_len offset e small =
    let none : rec_len ≡ 0 = search rules in
    record {
      least = omega arith;
      binding = sym none;
      len_fits = omega (arith, none);
      offset_fits = small;
    }
form_says Spanned rec_len offset e small =
    let none : rec_len ≡ 0 = search rules in
    record {
      least = omega arith;
      binding = sym none;
      len_fits = omega (arith, none);
      offset_fits = small;
    }
form_says Undefined rec_len offset e small =
    let none : rec_len ≡ 0 = search rules in
    record {
      least = omega arith;
      binding = sym none;
      len_fits = omega (arith, none);
      offset_fits = small;
    }
form_says Variable rec_len offset e small =
    let none : rec_len ≡ 0 = search rules in
    record {
      least = omega arith;
      binding = sym none;
      len_fits = omega (arith, none);
      offset_fits = small;
    }

known_fits : (form : Form) (known : Bool) (format : Option Format) → form.offset < 10 ^ 2
    → form_agrees form known format ≡ true → KnownFits (known_as form format)
known_fits form known None off e = tt
known_fits form known (Some format) off e =
    let a = and_parts known (form_in_range (form_as form format)) e in
    let b = and_parts (length_in_range format form.rec_len) (nat_le form.offset 99) a.1 in
    form_says format form.rec_len form.offset b.0 (omega (arith, off))

pub right_writable : (v : Version) (f : Fields) → Fit v f → is_right f ≡ true
    → IsWritable v (point_by f)
right_writable v f fit right =
    let r = are_right f right in
    let place = place_back f.flags.done f.sect f.place.block f.place.part r.place in
    record {
      right = ranged (point_by f) r.range;
      known = known_fits f.form f.flags.known f.form.format fit.offset r.form;
      fits = rw (place.block_is, place.part_is) fit.place;
    }
