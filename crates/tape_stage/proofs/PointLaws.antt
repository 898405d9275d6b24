-- The text of a checkpoint, written and read.
use Rattle.std.proofs.Common.{◌≡◌, ℕ, ◌^◌, ◌<◌, true, List, length, Option, None, Some, Result, Ok}
use Rattle.std.proofs.Common.{Err, refl, sym, subst, ap, ◌∙◌, arith, IfOk, Bool, false}
use Rattle.tape_label.specs.Written.{text_of, spaces, HaveWidths}
use Rattle.tape_label.proofs.{Pieces.StandAt, Pieces.pieces_stand, Steps.length-positions}
use Rattle.tape_set.specs.declared.position.Position.TheVariants.{Awaits, Finished}
use Rattle.tape_set.specs.{declared.position.Position.Position, Position.sect_of, Lawful.FileForm}
use Rattle.tape_core.specs.{Known.PositionFits, Point.Point}
use Rattle.tape_stage.specs.Text.{pieces, rest_pieces, tail_width, Fit, KnownFits, IsWritable}
use Rattle.tape_stage.specs.{Text.IsPointText, Fields.form_of, Fields.fields_of, Fields.point_by}
use Rattle.tape_stage.specs.{declared.point.text.PointFault.PointFault, Laws.IsTextOfOne}
use Rattle.tape_stage.specs.{declared.point.Version.Version, declared.point.Fields.Fields}
use Rattle.tape_stage.specs.declared.point.Version.TheVariants.{One, Two}
use Rattle.tape_stage.specs.{Fields.is_right, Fields.known_as, Text.IsStandard}
use Rattle.tape_stage.specs.Reading.{text_at, right_point, reading, wide_reading, reading_by}
use Rattle.tape_stage.specs.declared.point.Form.{Form}
use Rattle.tape_label.specs.declared.values.Format.{Format}
use Rattle.tape_stage.proofs.TextLaws.{Reads, text_found, text_again, reads_stand, stands_read}
use Rattle.tape_stage.proofs.TextLaws.{reads_fit, stood}
use Rattle.tape_stage.proofs.PointFields.{point_again, point_right, fields_again, right_writable}
use Rattle.tape_stage.proofs.Steps.{bind_ok, passed, ok_is, allows}
use Rattle.tape_stage.specs.declared.point.text.PointFault.TheVariants as faults

-- ---- the text of a checkpoint is read as that checkpoint

known_says : (known : Option FileForm) → KnownFits known → ((form_of known).rec_len < 10 ^ 5)
    × ((form_of known).offset < 10 ^ 2)
known_says None fits = (omega arith, omega arith)
known_says (Some form) fits = (omega (arith, fits.len_fits), omega (arith, fits.offset_fits))

sect_fits : (p : Position) → PositionFits p → sect_of p < 10 ^ 4
sect_fits (Awaits sect block part) fits = omega (arith, fits.1)
sect_fits Finished fits = omega arith

pub point_fits : (v : Version) (c : Point) → IsWritable v c → Fit v (fields_of c)
point_fits v c w =
    let known = known_says c.known w.known in
    record {
      file = omega (arith, w.right.numbered.1);
      sect = sect_fits c.position w.right.stands.numbers;
      place = w.fits;
      rec_len = known.0;
      offset = known.1;
      staged = omega (arith, w.right.light);
    }

tail_wide : (v : Version) → length (spaces (tail_width v)).text ≡ tail_width v
tail_wide One = refl
tail_wide Two = refl

-- the widths of the pieces from the state to the end
rest_wide : (v : Version) (f : Fields) → length f.form.file_id ≡ 17 → HaveWidths (rest_pieces v f)
rest_wide v f file_id =
    (refl, (refl, (refl, (refl, (refl, (refl, (file_id, (refl, (tail_wide v, tt)))))))))

widths : (v : Version) (f : Fields) → length f.set_id ≡ 6 → length f.form.file_id ≡ 17
    → HaveWidths (pieces v f)
widths One f set_id file_id =
    (refl, (refl, (set_id, (refl, (refl, (refl, rest_wide One f file_id))))))
widths Two f set_id file_id =
    (refl, (refl, (set_id, (refl, (refl, (refl, (refl, rest_wide Two f file_id)))))))

pub point_read : (wide : Bool) (v : Version) (c : Point) (text : List ℕ)
    → allows wide (form_of c.known).format ≡ true → IsPointText v text c
    → text_at wide text ≡ Ok (v, fields_of c)
point_read wide v c text allowed is =
    let ps = pieces v (fields_of c) in
    let stand : StandAt 0 ps text = subst (λ (t : List ℕ). StandAt 0 ps t) (sym is.text)
    (pieces_stand ps (widths v (fields_of c) is.set_id is.file_id)) in
    text_again wide _ _ _ allowed (stands_read _ _ text (point_fits _ _ is.writable) stand)

-- the text of any checkpoint, in the wider reading
pub wide_only : (v : Version) (c : Point) (text : List ℕ) → IsPointText v text c
    → wide_reading text ≡ Ok c
unfolding reading_by
wide_only v c text is =
    rw (point_read true _ _ _ refl is, point_right _ _ is.writable, point_again c) refl

standard_allowed : (known : Option FileForm) → IsStandard known
    → allows false (form_of known).format ≡ true
standard_allowed None is = refl
standard_allowed (Some form) is = is

pub reads_only : (v : Version) (c : Point) (text : List ℕ) → IsPointText v text c
    → IsStandard c.known → reading text ≡ Ok c
unfolding reading_by
reads_only v c text is standard =
    rw (
      point_read false _ _ _ (standard_allowed c.known standard) is,
      point_right _ _ is.writable,
      point_again c,
    ) refl

-- ---- the result of reading is the checkpoint with that text

id_length : (v : Version) (f : Fields) (text : List ℕ) → Reads v f text → length f.form.file_id ≡ 17
id_length One f text r = ap length (sym r.fields.form.file_id) ∙ length-positions text 37 53
    (omega (arith, r.size))
id_length Two f text r = ap length (sym r.fields.form.file_id) ∙ length-positions text 46 62
    (omega (arith, r.size))

is_text : (v : Version) (f : Fields) (text : List ℕ) → Reads v f text → is_right f ≡ true
    → IsPointText v text (point_by f)
is_text v f text r right =
    let same = fields_again f right in
    record {
      writable = right_writable _ _ (reads_fit _ _ _ r) right;
      set_id = ap length (sym r.fields.set_id) ∙ length-positions text 6 11 (omega (arith, r.size));
      file_id = ap (λ (x : Fields). length x.form.file_id) same ∙ id_length _ _ _ r;
      text = subst (λ (x : Fields). text ≡ text_of (pieces v x)) (sym same)
          (stood 0 (pieces v f) text (reads_stand _ _ _ r));
    }

pub reads_found : (wide : Bool) (c : Point) (text : List ℕ) → reading_by wide text ≡ Ok c
    → (v : Version) × IsPointText v text c
unfolding reading_by
reads_found wide c text e =
    let r = bind_ok (text_at wide text) (λ read. right_point read.1) c e in
    let f = r.0.1 in
    let right = passed (is_right f) faults.Range (point_by f) c r.2 in (
      r.0.0,
      subst (λ (x : Point). IsPointText r.0.0 text x) right.1
          (is_text _ _ _ (text_found wide text r.0.0 f r.1).0 right.0),
    )

pub found_of : (wide : Bool) (r : Result Point PointFault) (text : List ℕ)
    → r ≡ reading_by wide text → IfOk r (λ c. (v : Version) × IsPointText v text c)
found_of wide (Ok c) text e = reads_found wide c text (sym e)
found_of wide (Err fault) text e = tt

-- the strict reading returns checkpoints of the standard's formats only
allowed_standard : (form : Form) (format : Option Format) → allows false format ≡ true
    → IsStandard (known_as form format)
allowed_standard form None e = tt
allowed_standard form (Some format) e = e

reads_standard : (c : Point) (text : List ℕ) → reading text ≡ Ok c → IsStandard c.known
unfolding reading_by
reads_standard c text e =
    let r = bind_ok (text_at false text) (λ read. right_point read.1) c e in
    let f = r.0.1 in
    let right = passed (is_right f) faults.Range (point_by f) c r.2 in
    subst (λ (x : Point). IsStandard x.known) right.1
    (allowed_standard f.form f.form.format (text_found false text r.0.0 f r.1).1)

pub standard_of : (r : Result Point PointFault) (text : List ℕ) → r ≡ reading text
    → IfOk r (λ c. IsStandard c.known)
standard_of (Ok c) text e = reads_standard c text (sym e)
standard_of (Err fault) text e = tt

-- a text that the strict reading accepts has the same checkpoint in the wider one
pub strict_is_wide : (c : Point) (text : List ℕ) → reading text ≡ Ok c → wide_reading text ≡ Ok c
strict_is_wide c text e =
    let found = reads_found false c text e in
    wide_only found.0 c text found.1

-- a checkpoint's text has 80 characters
pub text_size : (v : Version) (c : Point) (text : List ℕ) → IsPointText v text c → length text ≡ 80
text_size v c text is =
    (text_found true text v (fields_of c) (point_read true _ _ _ refl is)).0.size

first_same : (v w : Version) (f g : Fields) (r : Result (Version × Fields) PointFault)
    → r ≡ Ok (v, f) → r ≡ Ok (w, g) → v ≡ w
first_same v w f g r x y =
    let same : (v, f) ≡ (w, g) = ok_is (v, f) (w, g) (sym x ∙ y) in
    ap (λ (p : Version × Fields). p.0) same

pub text_of_one : IsTextOfOne
text_of_one bytes v w a b first second = (
  first_same v w (fields_of a) (fields_of b) _ (point_read true _ _ _ refl first)
      (point_read true _ _ _ refl second),
  ok_is a b (sym (wide_only _ _ _ first) ∙ wide_only _ _ _ second),
)
