-- The groups of fields, read from a text and written to it.
use Rattle.std.proofs.Common.{◌≡◌, ℕ, ◌+◌, ◌-◌, ◌≤◌, List, [], ◌∷◌, length, take, drop, replicate}
use Rattle.std.proofs.Common.{Ok, refl, subst, arith, Bool, true}
use Rattle.tape_label.specs.Positions.{positions}
use Rattle.tape_stage.specs.Text.{state_letter, flag_digit, format_letter}
use Rattle.tape_stage.specs.Reading.{number_at, flag_at, format_at, tail_at, place_at, flags_at}
use Rattle.tape_stage.specs.Reading.{form_at, staged_at, state_position, fields_at}
use Rattle.tape_stage.specs.declared.point.Version.TheVariants.{One, Two}
use Rattle.tape_stage.specs.declared.{point.Version.Version, point.Place.Place, point.Flags.Flags}
use Rattle.tape_stage.specs.declared.{point.Form.Form, point.Fields.Fields}
use Rattle.tape_stage.proofs.Steps.{bind_ok, ok_is, HasDigits, number_found, number_again}
use Rattle.tape_stage.proofs.Steps.{flag_found, flag_again, format_found, format_again, tail_found}
use Rattle.tape_stage.proofs.Steps.{tail_again, allows, format_allowed}

-- the text contains the block and the part
abbrev pub HasPlace : Version → List ℕ → Place → Type 0
HasPlace One text place = HasDigits text 20 25 place.block × (place.part ≡ 0)
HasPlace Two text place = HasDigits text 20 29 place.block × HasDigits text 30 34 place.part

pub record HasFlags (text : List ℕ) (first : ℕ) (flags : Flags) : Type 0 where
  pub done : take 1 (drop (first - 1) text) ≡ state_letter flags.done ∷ []
  pub begun : take 1 (drop (first + 1 - 1) text) ≡ flag_digit flags.begun ∷ []
  pub known : take 1 (drop (first + 2 - 1) text) ≡ flag_digit flags.known ∷ []

pub record HasForm (text : List ℕ) (first : ℕ) (form : Form) : Type 0 where
  pub format : take 1 (drop (first - 1) text) ≡ format_letter form.format ∷ []
  pub rec_len : HasDigits text (first + 1) (first + 5) form.rec_len
  pub offset : HasDigits text (first + 6) (first + 7) form.offset
  pub file_id : positions text (first + 8) (first + 24) ≡ form.file_id

pub record HasStaged (text : List ℕ) (first staged : ℕ) : Type 0 where
  pub number : HasDigits text first (first + 14) staged
  pub tail : drop (first + 15 - 1) text ≡ replicate (81 - (first + 15)) 32

pub record HasFields (version : Version) (text : List ℕ) (f : Fields) : Type 0 where
  pub set_id : positions text 6 11 ≡ f.set_id
  pub file : HasDigits text 12 15 f.file
  pub sect : HasDigits text 16 19 f.sect
  pub place : HasPlace version text f.place
  pub flags : HasFlags text (state_position version) f.flags
  pub form : HasForm text (state_position version + 3) f.form
  pub staged : HasStaged text (state_position version + 28) f.staged

place_found : (version : Version) (text : List ℕ) (place : Place) → length text ≡ 80
    → place_at version text ≡ Ok place → HasPlace version text place
unfolding place_at
place_found One text place size e =
    let b = bind_ok (number_at text 20 25) _ place e in
    subst (λ (p : Place). HasPlace One text p) {x = record { block = b.0; part = 0 }}
    (ok_is _ place b.2) (number_found text 20 25 b.0 (omega arith) b.1, refl)
place_found Two text place size e =
    let b = bind_ok (number_at text 20 29) _ place e in
    let p = bind_ok (number_at text 30 34) _ place b.2 in
    subst (λ (p : Place). HasPlace Two text p) {x = record { block = b.0; part = p.0 }}
    (ok_is _ place p.2) (
      number_found text 20 29 b.0 (omega arith) b.1,
      number_found text 30 34 p.0 (omega arith) p.1,
    )

place_again : (version : Version) (text : List ℕ) (place : Place) → HasPlace version text place
    → place_at version text ≡ Ok place
unfolding place_at
place_again One text place has = rw (number_again _ _ _ _ has.0, has.1) refl
place_again Two text place has = rw (number_again _ _ _ _ has.0, number_again _ _ _ _ has.1) refl

flags_found : (text : List ℕ) (first : ℕ) (flags : Flags) → length text ≡ 80 → first ≤ 70
    → flags_at text first ≡ Ok flags → HasFlags text first flags
unfolding flags_at
flags_found text first flags size low e =
    let d = bind_ok (flag_at text first 68 82) _ flags e in
    let b = bind_ok (flag_at text (first + 1) 49 48) _ flags d.2 in
    let k = bind_ok (flag_at text (first + 2) 49 48) _ flags b.2 in
    let made : Flags = record { done = d.0; begun = b.0; known = k.0 } in
    subst (λ (f : Flags). HasFlags text first f) {x = made} (ok_is made flags k.2) record {
      done = flag_found text first 68 82 d.0 (omega (arith, size)) d.1;
      begun = flag_found text (first + 1) 49 48 b.0 (omega (arith, size)) b.1;
      known = flag_found text (first + 2) 49 48 k.0 (omega (arith, size)) k.1;
    }

flags_again : (text : List ℕ) (first : ℕ) (flags : Flags) → length text ≡ 80 → first ≤ 70
    → HasFlags text first flags → flags_at text first ≡ Ok flags
unfolding flags_at
flags_again text first flags size low has = rw (
  flag_again text first 68 82 flags.done (omega (arith, size)) refl has.done,
  flag_again text (first + 1) 49 48 flags.begun (omega (arith, size)) refl has.begun,
  flag_again text (first + 2) 49 48 flags.known (omega (arith, size)) refl has.known,
) refl

form_found : (wide : Bool) (text : List ℕ) (first : ℕ) (form : Form) → length text ≡ 80
    → first ≤ 40 → form_at wide text first ≡ Ok form → HasForm text first form
unfolding form_at
form_found wide text first form size low e =
    let f = bind_ok (format_at wide text first) _ form e in
    let r = bind_ok (number_at text (first + 1) (first + 5)) _ form f.2 in
    let o = bind_ok (number_at text (first + 6) (first + 7)) _ form r.2 in
    let made : Form = record {
      format = f.0;
      rec_len = r.0;
      offset = o.0;
      file_id = positions text (first + 8) (first + 24);
    } in
    subst (λ (x : Form). HasForm text first x) {x = made} (ok_is made form o.2) record {
      format = format_found wide text first f.0 (omega (arith, size)) f.1;
      rec_len = number_found text (first + 1) (first + 5) r.0 (omega (arith, size)) r.1;
      offset = number_found text (first + 6) (first + 7) o.0 (omega (arith, size)) o.1;
      file_id = refl;
    }

form_allowed : (wide : Bool) (text : List ℕ) (first : ℕ) (form : Form)
    → form_at wide text first ≡ Ok form → allows wide form.format ≡ true
unfolding form_at
form_allowed wide text first form e =
    let f = bind_ok (format_at wide text first) _ form e in
    let r = bind_ok (number_at text (first + 1) (first + 5)) _ form f.2 in
    let o = bind_ok (number_at text (first + 6) (first + 7)) _ form r.2 in
    subst (λ (x : Form). allows wide x.format ≡ true) (ok_is _ form o.2)
    (format_allowed wide text first f.0 f.1)

form_again : (wide : Bool) (text : List ℕ) (first : ℕ) (form : Form) → length text ≡ 80
    → first ≤ 40 → allows wide form.format ≡ true → HasForm text first form
    → form_at wide text first ≡ Ok form
unfolding form_at
form_again wide text first form size low allowed has = rw (
  format_again wide text first form.format allowed (omega (arith, size)) has.format,
  number_again _ _ _ _ has.rec_len,
  number_again _ _ _ _ has.offset,
  has.file_id,
) refl

staged_found : (text : List ℕ) (first staged : ℕ) → length text ≡ 80 → first ≤ 65
    → staged_at text first ≡ Ok staged → HasStaged text first staged
unfolding staged_at
staged_found text first staged size low e =
    let s = bind_ok (number_at text first (first + 14)) _ staged e in
    let t = bind_ok (tail_at text (first + 15)) _ staged s.2 in
    subst (λ (n : ℕ). HasStaged text first n) (ok_is s.0 staged t.2) record {
      number = number_found text first (first + 14) s.0 (omega (arith, size)) s.1;
      tail = tail_found text (first + 15) t.0 t.1;
    }

staged_again : (text : List ℕ) (first staged : ℕ) → HasStaged text first staged
    → staged_at text first ≡ Ok staged
unfolding staged_at
staged_again text first staged has = rw (
  number_again _ _ _ _ has.number,
  tail_again text (first + 15) has.tail,
) refl

low_state : (version : Version) → state_position version ≤ 35
low_state One = omega arith
low_state Two = omega arith

pub fields_found : (wide : Bool) (version : Version) (text : List ℕ) (f : Fields)
    → length text ≡ 80 → fields_at wide version text ≡ Ok f
    → HasFields version text f × (allows wide f.form.format ≡ true)
unfolding fields_at
fields_found wide version text f size e =
    let at = state_position version in
    let low = low_state version in
    let a = bind_ok (number_at text 12 15) _ f e in
    let b = bind_ok (number_at text 16 19) _ f a.2 in
    let p = bind_ok (place_at version text) _ f b.2 in
    let g = bind_ok (flags_at text at) _ f p.2 in
    let m = bind_ok (form_at wide text (at + 3)) _ f g.2 in
    let s = bind_ok (staged_at text (at + 28)) _ f m.2 in
    let made : Fields = record {
      set_id = positions text 6 11;
      file = a.0;
      sect = b.0;
      place = p.0;
      flags = g.0;
      form = m.0;
      staged = s.0;
    } in
    subst (λ (x : Fields). HasFields version text x × (allows wide x.form.format ≡ true))
    {x = made} (ok_is made f s.2) (
      record {
        set_id = refl;
        file = number_found text 12 15 a.0 (omega (arith, size)) a.1;
        sect = number_found text 16 19 b.0 (omega (arith, size)) b.1;
        place = place_found version text p.0 size p.1;
        flags = flags_found text at g.0 size (omega (arith, low)) g.1;
        form = form_found wide text (at + 3) m.0 size (omega (arith, low)) m.1;
        staged = staged_found text (at + 28) s.0 size (omega (arith, low)) s.1;
      },
      form_allowed wide text (at + 3) m.0 m.1,
    )

pub fields_again : (wide : Bool) (version : Version) (text : List ℕ) (f : Fields)
    → length text ≡ 80 → allows wide f.form.format ≡ true → HasFields version text f
    → fields_at wide version text ≡ Ok f
unfolding fields_at
fields_again wide version text f size allowed has =
    let at = state_position version in
    let low = low_state version in
    rw (
      number_again _ _ _ _ has.file,
      number_again _ _ _ _ has.sect,
      place_again version text f.place has.place,
      flags_again text at f.flags size (omega (arith, low)) has.flags,
      form_again wide _ _ _ size (omega (arith, low)) allowed has.form,
      staged_again _ _ _ has.staged,
      has.set_id,
    ) refl
