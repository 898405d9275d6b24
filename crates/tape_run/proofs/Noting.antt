-- Whether the last checkpoint has the session's position.
use Rattle.std.proofs.Common.{◌≡◌, Bool, true, false, ◌==◌, ◌&&◌, ◌+◌, ◌-◌, ◌<◌, List, [], ◌∷◌}
use Rattle.std.proofs.Common.{length, Option, None, Some, refl, sym, ap, subst, ◌∙◌, arith}
use Rattle.std.proofs.{Common.slice_get, lemmas.Slice.Eq.bytes_eq-Decides}
use Rattle.std.proofs.lemmas.{Bool.and_parts, Bool.Decides.nat_tests, Bool.Decides.Decides-eqb}
use Rattle.std.specs.{Str.bytes_eq, Option.option_eq}
use mathlib.Core.Bool.{beq}
use Rattle.tape_label.specs.declared.values.Format.{Format}
use Rattle.tape_label.specs.declared.values.Format.TheVariants.{Fixed, Counted, Spanned}
use Rattle.tape_label.specs.declared.values.Format.TheVariants.{Undefined, Variable}
use Rattle.tape_label.specs.contracts.values.FormatPartialEq.TheImpl as formats
use Rattle.tape_set.specs.{Lawful.FileForm, declared.position.Position.Position}
use Rattle.tape_set.specs.declared.position.Position.TheVariants.{Awaits, Finished}
use Rattle.tape_set.specs.contracts.position.PositionPartialEq.TheImpl as positions
use Rattle.tape_core.specs.{Point.Point, Stands.weight_of, Table.saved}
use Rattle.tape_core.specs.contracts.checkpoint.KnownPartialEq.TheImpl as forms
use Rattle.tape_core.specs.contracts.checkpoint.CheckpointPartialEq.TheImpl as points
use Rattle.tape_core.specs.contracts.checkpoint.CheckpointEq.TheImpl.Laws as laws
use Rattle.tape_run.specs.{Reeling.HasNotedHere, Seen.Seen}
use Rattle.tape_run.proofs.Notes.{front_self}

-- ---- checkpoints that compare equal are the same

same_format : (p q : Format) → formats.ghosts.eq p q ≡ true → p ≡ q
same_format Fixed Fixed e = refl
same_format Counted Counted e = refl
same_format Spanned Spanned e = refl
same_format Undefined Undefined e = refl
same_format Variable Variable e = refl
same_format _ _ e = absurd (cc e)

same_position : (p q : Position) → positions.ghosts.eq p q ≡ true → p ≡ q
same_position (Awaits a b c) (Awaits d f h) e = grind (arith, nat_tests)
same_position (Awaits a b c) Finished e = absurd (cc e)
same_position Finished (Awaits a b c) e = absurd (cc e)
same_position Finished Finished e = refl

same_flag : (x y : Bool) → beq x y ≡ true → x ≡ y
same_flag true true e = refl
same_flag true false e = absurd (cc e)
same_flag false true e = absurd (cc e)
same_flag false false e = refl

-- each of four tests
each : (a b c d : Bool) → (a && (b && (c && d))) ≡ true
    → (a ≡ true) × (b ≡ true) × (c ≡ true) × (d ≡ true)
each a b c d e =
    let x = and_parts a (b && (c && d)) e in
    let y = and_parts b (c && d) x.1 in
    let z = and_parts c d y.1 in
    (x.0, y.0, z.0, z.1)

form_of_parts : (x y : FileForm) → x.format ≡ y.format → x.rec_len ≡ y.rec_len
    → x.offset ≡ y.offset → x.file_id ≡ y.file_id → x ≡ y
form_of_parts x y format long offset file = grind arith

same_form : (x y : FileForm) → forms.ghosts.eq x y ≡ true → x ≡ y
same_form x y e =
    let t = each (formats.ghosts.eq x.format y.format) (x.rec_len == y.rec_len)
    (x.offset == y.offset) (bytes_eq x.file_id y.file_id) e in
    form_of_parts x y (same_format _ _ t.0) ((Decides-eqb x.rec_len y.rec_len).0 t.1)
    ((Decides-eqb x.offset y.offset).0 t.2) ((bytes_eq-Decides x.file_id y.file_id).0 t.3)

same_known : (x y : Option FileForm) → option_eq forms.ghosts.eq x y ≡ true → x ≡ y
same_known None None e = refl
same_known None (Some y) e = absurd (cc e)
same_known (Some x) None e = absurd (cc e)
same_known (Some x) (Some y) e = ap Some (same_form x y e)

point_of_parts : (x y : Point) → x.file ≡ y.file → x.begun ≡ y.begun → x.staged ≡ y.staged
    → x.set_id ≡ y.set_id → x.position ≡ y.position → x.known ≡ y.known → x ≡ y
point_of_parts x y file begun staged set position known = grind arith

same_point : (x y : Point) → points.ghosts.eq x y ≡ true → x ≡ y
same_point x y e =
    let set = bytes_eq x.set_id y.set_id in
    let position = positions.ghosts.eq x.position y.position in
    let known = option_eq forms.ghosts.eq x.known y.known in
    let t = each (x.file == y.file) (beq x.begun y.begun) (x.staged == y.staged)
    (set && (position && known)) e in
    let u = and_parts set (position && known) t.3 in
    let v = and_parts position known u.1 in
    point_of_parts x y ((Decides-eqb x.file y.file).0 t.0) (same_flag x.begun y.begun t.1)
    ((Decides-eqb x.staged y.staged).0 t.2) ((bytes_eq-Decides x.set_id y.set_id).0 u.0)
    (same_position x.position y.position v.0) (same_known x.known y.known v.1)

-- ---- the last checkpoint

within : (cs : List Point) (c : Point) → slice_get cs (length cs - 1) ≡ Some c → 0 < length cs
within [] c last = absurd (cc)
within (d ∷ cs) c last = omega arith

-- it has the session's position
pub noted_here : (s : Seen) (c here : Point) (t : Bool) → slice_get s.notes (length s.notes - 1)
    ≡ Some c → here ≡ saved s.place (weight_of s.parts) → t ≡ points.ghosts.eq c here → t ≡ true
    → HasNotedHere s
noted_here s c here t last is compares same =
    let some = within s.notes c last in
    let count : length s.notes ≡ length s.notes - 1 + 1 = omega (arith, some) in
    let point : c ≡ saved s.place (weight_of s.parts) =
    same_point c here (sym compares ∙ same) ∙ is in
    (length s.notes - 1, count, (last ∙ ap Some point, front_self s.parts, refl))

-- it has another one
pub noted_elsewhere : (s : Seen) (c here : Point) (t : Bool)
    → slice_get s.notes (length s.notes - 1) ≡ Some c → here ≡ saved s.place (weight_of s.parts)
    → t ≡ points.ghosts.eq c here → t ≡ false → HasNotedHere s → ⊥
noted_elsewhere s c here t last is compares other (n, count, note) =
    let index : length s.notes - 1 ≡ n = omega (arith, count) in
    let found : Some c ≡ Some (saved s.place (weight_of s.parts)) =
    sym last ∙ (ap (slice_get s.notes) index ∙ note.0) in
    let point : c ≡ here = cc (found, is) in
    let same : points.ghosts.eq c here ≡ true =
    subst (λ z. points.ghosts.eq c z ≡ true) point (laws.laws-law.refl c) in
    let no : false ≡ true = sym other ∙ (compares ∙ same) in cc no
