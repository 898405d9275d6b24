-- A text that is read is that of its fields, and the text written for fields is read back.
use Rattle.std.proofs.Common.{◌≡◌, ℕ, ◌+◌, ◌-◌, ◌++◌, Bool, true, false, cond, eqb, List, [], ◌∷◌}
use Rattle.std.proofs.Common.{length, get_or, take, drop, Result, Ok, Err, refl, sym, subst, ap}
use Rattle.std.proofs.Common.{◌∙◌, arith, codes}
use Rattle.std.proofs.lemmas.List.{take_all, length-drop, drop_all, drop-drop, take-append-drop}
use Rattle.std.proofs.{lemmas.Bool.eqb-true, lemmas.Slice.Eq.bytes_eq-Decides}
use Rattle.std.specs.Str.{bytes_eq}
use Rattle.tape_label.proofs.{Pieces.StandAt, Steps.character_found, Steps.character_is}
use Rattle.tape_stage.specs.declared.point.Version.TheVariants.{One, Two}
use Rattle.tape_stage.specs.Text.{version_digit, place_pieces, rest_pieces, pieces, Fit}
use Rattle.tape_stage.specs.Reading.{state_position, version_by, fields_at, text_at}
use Rattle.tape_stage.specs.declared.point.text.PointFault.{PointFault}
use Rattle.tape_stage.specs.{declared.point.Version.Version, declared.point.Fields.Fields}
use Rattle.tape_stage.proofs.Steps.{HasDigits, bind_ok, done, ok_is, allows}
use Rattle.tape_stage.proofs.FieldLaws.{HasFields, fields_found, fields_again}
use Rattle.tape_label.specs.Written.{Piece, text_of}
use Rattle.tape_stage.specs.declared.point.text.PointFault.TheVariants as faults

pub stood : (i : ℕ) (ps : List Piece) (text : List ℕ) → StandAt i ps text → drop i text ≡ text_of ps
stood i [] text s = drop_all i text (omega (arith, s))
stood i (p ∷ ps) text s =
    let rest : drop p.width (drop i text) ≡ text_of ps = drop-drop p.width i text
    ∙ ap (λ (k : ℕ). drop k text) (omega arith) ∙ stood (i + p.width) ps text s.1 in
    sym (take-append-drop p.width (drop i text)) ∙ ap (λ (l : List ℕ). l ++ drop p.width
    (drop i text)) s.0 ∙ ap (λ (l : List ℕ). p.text ++ l) rest

-- the text has the given fields in the given version
pub record Reads (version : Version) (f : Fields) (text : List ℕ) : Type 0 where
  pub size : length text ≡ 80
  pub mark : take 4 text ≡ codes "TPCK"
  pub digit : take 1 (drop 4 text) ≡ version_digit version ∷ []
  pub fields : HasFields version text f

text_cases : {A : Type 0} (size mark : Bool) (rest : Result A PointFault) (y : A)
    → cond size (cond mark rest (Err faults.Mark)) (Err faults.Length) ≡ done y → (size ≡ true)
    × (mark ≡ true) × (rest ≡ Ok y)
text_cases true true rest y e = (refl, refl, e)
text_cases true false rest y e = absurd cc
text_cases false mark rest y e = absurd cc

version_cases : (c : ℕ) (p q : Bool) (v : Version) → eqb c 49 ≡ p → eqb c 50 ≡ q
    → cond p (Ok One) (cond q (Ok Two) (Err faults.Version)) ≡ done v → c ≡ version_digit v
version_cases c true q v x y e = rw (← ok_is One v e) (eqb-true _ _ x)
version_cases c false true v x y e = rw (← ok_is Two v e) (eqb-true _ _ y)
version_cases c false false v x y e = absurd cc

version_again : (v : Version) → version_by (version_digit v) ≡ Ok v
version_again One = refl
version_again Two = refl

pub text_found : (wide : Bool) (text : List ℕ) (v : Version) (f : Fields)
    → text_at wide text ≡ Ok (v, f) → Reads v f text × (allows wide f.form.format ≡ true)
unfolding text_at
text_found wide text v f e =
    let c = get_or text 4 0 in
    let a = text_cases (eqb (length text) 80) (bytes_eq (take 4 text) (codes "TPCK")) _ (v, f) e in
    let b = bind_ok (version_by c) _ (v, f) a.2 in
    let d = bind_ok (fields_at wide b.0 text) _ (v, f) b.2 in
    let size : length text ≡ 80 = eqb-true _ _ a.0 in
    let same : (b.0, d.0) ≡ (v, f) = ok_is (b.0, d.0) (v, f) d.2 in
    let found = fields_found wide b.0 text d.0 size d.1 in
    subst (λ (r : Version × Fields). Reads r.0 r.1 text × (allows wide r.1.form.format ≡ true))
    {x = (b.0, d.0)} same (
      record {
        size = size;
        mark = (bytes_eq-Decides (take 4 text) (codes "TPCK")).0 a.1;
        digit = character_found text 4 (omega (arith, size)) ∙ ap (λ (n : ℕ). n ∷ [])
            (version_cases c _ _ b.0 refl refl b.1);
        fields = found.0;
      },
      found.1,
    )

pub text_again : (wide : Bool) (text : List ℕ) (v : Version) (f : Fields)
    → allows wide f.form.format ≡ true → Reads v f text → text_at wide text ≡ Ok (v, f)
unfolding text_at
text_again wide text v f allowed r =
    let digit : get_or text 4 0 ≡ version_digit v =
    character_is text 4 (version_digit v) (omega (arith, r.size)) r.digit in
    let mark : bytes_eq (take 4 text) (codes "TPCK") ≡ true =
    (bytes_eq-Decides (take 4 text) (codes "TPCK")).1 r.mark in
    rw (r.size, mark, digit, version_again v, fields_again wide v text f r.size allowed r.fields)
    refl

-- ---- the text as consecutive pieces

staged_stand : (v : Version) (f : Fields) (text : List ℕ) → Reads v f text
    → StandAt (state_position v + 27) (drop 7 (rest_pieces v f)) text
staged_stand One f text r =
    let h = r.fields.staged in (h.number.spelled, (ap (take 12) h.tail, r.size))
staged_stand Two f text r =
    let h = r.fields.staged in (h.number.spelled, (ap (take 3) h.tail, r.size))

form_stand : (v : Version) (f : Fields) (text : List ℕ) → Reads v f text
    → StandAt (state_position v + 2) (drop 3 (rest_pieces v f)) text
form_stand One f text r =
    let h = r.fields.form in
    (h.format, (h.rec_len.spelled, (h.offset.spelled, (h.file_id, staged_stand _ _ _ r))))
form_stand Two f text r =
    let h = r.fields.form in
    (h.format, (h.rec_len.spelled, (h.offset.spelled, (h.file_id, staged_stand _ _ _ r))))

rest_stand : (v : Version) (f : Fields) (text : List ℕ) → Reads v f text
    → StandAt (state_position v - 1) (rest_pieces v f) text
rest_stand One f text r =
    let h = r.fields.flags in (h.done, (h.begun, (h.known, form_stand _ _ _ r)))
rest_stand Two f text r =
    let h = r.fields.flags in (h.done, (h.begun, (h.known, form_stand _ _ _ r)))

place_stand : (v : Version) (f : Fields) (text : List ℕ) → Reads v f text
    → StandAt 19 (place_pieces v f.place ++ rest_pieces v f) text
place_stand One f text r = (r.fields.place.0.spelled, rest_stand _ _ _ r)
place_stand Two f text r =
    (r.fields.place.0.spelled, (r.fields.place.1.spelled, rest_stand _ _ _ r))

pub reads_stand : (v : Version) (f : Fields) (text : List ℕ) → Reads v f text
    → StandAt 0 (pieces v f) text
reads_stand v f text r =
    let h = r.fields in
    (r.mark, (r.digit, (h.set_id, (h.file.spelled, (h.sect.spelled, place_stand _ _ _ r)))))

-- the tail is the rest of the text
tail_is : (n i : ℕ) (text tail : List ℕ) → length text ≡ n + i → take n (drop i text) ≡ tail
    → drop i text ≡ tail
tail_is n i text tail size e =
    sym (take_all n (drop i text) (omega (arith, size, length-drop i text))) ∙ e

pub stands_read : (v : Version) (f : Fields) (text : List ℕ) → Fit v f → StandAt 0 (pieces v f) text
    → Reads v f text
stands_read One f text fit s =
    let r = s.1.1.1.1.1.1 in
    let size : length text ≡ 80 = r.1.1.1.1.1.1.1.1.1 in
    record {
      size = size;
      mark = s.0;
      digit = s.1.0;
      fields = record {
        set_id = s.1.1.0;
        file = record { spelled = s.1.1.1.0; fits = fit.file };
        sect = record { spelled = s.1.1.1.1.0; fits = fit.sect };
        place = (record { spelled = s.1.1.1.1.1.0; fits = fit.place.0 }, fit.place.1);
        flags = record { done = r.0; begun = r.1.0; known = r.1.1.0 };
        form = record {
          format = r.1.1.1.0;
          rec_len = record { spelled = r.1.1.1.1.0; fits = fit.rec_len };
          offset = record { spelled = r.1.1.1.1.1.0; fits = fit.offset };
          file_id = r.1.1.1.1.1.1.0;
        };
        staged = record {
          number = record { spelled = r.1.1.1.1.1.1.1.0; fits = fit.staged };
          tail = tail_is 12 68 text _ size r.1.1.1.1.1.1.1.1.0;
        };
      };
    }
stands_read Two f text fit s =
    let r = s.1.1.1.1.1.1.1 in
    let part : HasDigits text 30 34 f.place.part =
    record { spelled = s.1.1.1.1.1.1.0; fits = fit.place.1 } in
    let size : length text ≡ 80 = r.1.1.1.1.1.1.1.1.1 in
    record {
      size = size;
      mark = s.0;
      digit = s.1.0;
      fields = record {
        set_id = s.1.1.0;
        file = record { spelled = s.1.1.1.0; fits = fit.file };
        sect = record { spelled = s.1.1.1.1.0; fits = fit.sect };
        place = (record { spelled = s.1.1.1.1.1.0; fits = fit.place.0 }, part);
        flags = record { done = r.0; begun = r.1.0; known = r.1.1.0 };
        form = record {
          format = r.1.1.1.0;
          rec_len = record { spelled = r.1.1.1.1.0; fits = fit.rec_len };
          offset = record { spelled = r.1.1.1.1.1.0; fits = fit.offset };
          file_id = r.1.1.1.1.1.1.0;
        };
        staged = record {
          number = record { spelled = r.1.1.1.1.1.1.1.0; fits = fit.staged };
          tail = tail_is 3 77 text _ size r.1.1.1.1.1.1.1.1.0;
        };
      };
    }

-- ---- the numbers fit

pub reads_fit : (v : Version) (f : Fields) (text : List ℕ) → Reads v f text → Fit v f
reads_fit One f text r =
    let h = r.fields in
    record {
      file = h.file.fits;
      sect = h.sect.fits;
      place = (h.place.0.fits, h.place.1);
      rec_len = h.form.rec_len.fits;
      offset = h.form.offset.fits;
      staged = h.staged.number.fits;
    }
reads_fit Two f text r =
    let h = r.fields in
    record {
      file = h.file.fits;
      sect = h.sect.fits;
      place = (h.place.0.fits, h.place.1.fits);
      rec_len = h.form.rec_len.fits;
      offset = h.form.offset.fits;
      staged = h.staged.number.fits;
    }

pub fit_two : (v : Version) (f : Fields) → Fit v f → Fit Two f
fit_two One f fit = record {
  file = fit.file;
  sect = fit.sect;
  place = (omega (arith, fit.place.0), omega (arith, fit.place.1));
  rec_len = fit.rec_len;
  offset = fit.offset;
  staged = fit.staged;
}
fit_two Two f fit = fit

pub text_fits : (wide : Bool) (text : List ℕ) (v : Version) (f : Fields)
    → text_at wide text ≡ Ok (v, f) → Fit Two f
text_fits wide text v f e = fit_two _ _ (reads_fit _ _ _ (text_found wide text v f e).0)
