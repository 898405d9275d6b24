-- How the labels of a valid set are read, and that no block is two kinds of label.
use Rattle.std.proofs.Common.{◌≡◌, ◌⊎◌, inl, inr, ℕ, List, Bool, true, false, Option, Some, None}
use Rattle.std.proofs.{Common.refl, Common.eq-eqb, Common.◌==◌, lemmas.Slice.Eq.bytes_eq-Decides}
use Rattle.std.specs.Str.{bytes_eq}
use Rattle.tape_label.specs.declared.values.Kind.TheVariants as kinds
use Rattle.tape_label.specs.{declared.values.Head1.Head1, declared.values.Trail1.Trail1}
use Rattle.tape_label.specs.{Formats.letter, Kinds.trailer, Head1.IsHead1, Trail1.IsTrail1}
use Rattle.tape_label.specs.VolumeLabels.{is_volume_label}
use Rattle.tape_label.proofs.Apart.{HasKind-unique}
use Rattle.tape_label.proofs.VolumeLabels.{volume_label_again, no_volume_label}
use Rattle.tape_set.specs.Lawful.{FileForm, IsVolumeLabel}
use Rattle.tape_core.specs.{declared.event.Heading.Heading, Follows.FitsHeading, Follows.IsNoHeader}
use Rattle.tape_core.specs.Labels.{same_shape, other_shape, other_file_id}

pub bytes_same : (bytes : List ℕ) → bytes_eq bytes bytes ≡ true
bytes_same bytes = (bytes_eq-Decides bytes bytes).1 refl

apart : (eof : Bool) → kinds.Hdr1 ≡ trailer eof → ⊥
apart true q = cc
apart false q = cc

-- a trailer is not a header
pub trailer_no_header : (b : List ℕ) (t : Trail1) → IsTrail1 b t → IsNoHeader b
trailer_no_header b t is h head =
    apart t.eof (HasKind-unique b kinds.Hdr1 (trailer t.eof) head.kind is.kind)

-- a header does not fit a heading
pub header_no_trailer : (heading : Heading) (b : List ℕ) (h : Head1) → IsHead1 b h
    → FitsHeading heading b → ⊥
header_no_trailer heading b h is fits = trailer_no_header b fits.0 fits.1 h is

-- a header is not a volume label
pub header_no_label : (b : List ℕ) (h : Head1) → IsHead1 b h → is_volume_label b ≡ false
header_no_label b h is = no_volume_label b kinds.Hdr1 is.kind (λ e. cc)

-- a volume label is recognized as such
pub label_taken : (b : List ℕ) → IsVolumeLabel b → is_volume_label b ≡ true
label_taken b is = volume_label_again b (is.size, is.named)

-- ---- the known form compared with itself

pub same_id : (known : Option FileForm) (form : FileForm) (file_id : List ℕ)
    → (known ≡ None) ⊎ (known ≡ Some form) → form.file_id ≡ file_id
    → other_file_id known file_id ≡ false
same_id known form file_id (inl e) q = rw e refl
same_id known form file_id (inr e) q = rw (e, q, bytes_same file_id) refl

same_self : (form : FileForm) → same_shape form form ≡ true
same_self form =
    let a : (letter form.format == letter form.format) ≡ true =
    eq-eqb (letter form.format) (letter form.format) refl in
    let b : (form.rec_len == form.rec_len) ≡ true = eq-eqb form.rec_len form.rec_len refl in
    let c : (form.offset == form.offset) ≡ true = eq-eqb form.offset form.offset refl in
    rw (a, b, c) refl

pub no_other_shape : (known : Option FileForm) (form : FileForm)
    → (known ≡ None) ⊎ (known ≡ Some form) → other_shape known form ≡ false
no_other_shape known form (inl e) = rw e refl
no_other_shape known form (inr e) = rw (e, same_self form) refl
