-- On a tape with labels in EBCDIC no unreadable or lost label or mark hides the next file.
use Rattle.std.proofs.Common.{◌≡◌, ◌≢◌, ℕ, List, length, Some, None, false, refl}
use Rattle.tape_image.specs.Tape.{TapeItem}
use Rattle.tape_label.specs.{Kinds.kind_at, VolumeLabels.is_volume_label}
use Rattle.tape_label.specs.declared.values.Kind.TheVariants.{Hdr2}
use Rattle.tape_label.proofs.{Apart.kind_found, VolumeLabels.no_volume_label}
use Rattle.tape_core.specs.declared.normal.code.Code.TheVariants.{Ebcdic}
use Rattle.tape_core.specs.declared.normal.numbers.FileSeen.{FileSeen}
use Rattle.tape_core.specs.NormalForm.{Laws.FilesFound}
use Rattle.tape_core.specs.NormalForm.{Codes.in_ascii}
use Rattle.tape_core.proofs.Labels.{no_kind, not_further, turned_none}
use Rattle.tape_core.proofs.{Labels.no_label as unlike}

-- an HDR2 is not a volume label
second_no_volume : (t : List ℕ) → kind_at t ≡ Some Hdr2 → is_volume_label t ≡ false
second_no_volume t e = no_volume_label t Hdr2 (kind_found t Hdr2 e) (λ o. cc o)

-- a block of another length has no kind
no_label : (b : List ℕ) → length b ≢ 80 → kind_at (in_ascii Ebcdic b) ≡ None
no_label b n = no_kind (in_ascii Ebcdic b) (turned_none b n)

pub files_found : (seen : FileSeen) (rest : List TapeItem) → FilesFound seen rest
files_found seen rest = record {
  behind_trailer = λ b e. rw (e) refl;
  behind_trailers = λ b e. rw (e) refl;
  behind_mark = λ b e. rw (e) refl;
  no_mark = λ b e. rw (e) refl;
  no_trailer = λ b e. rw (e) refl;
  bad_header = refl;
  bad_second = refl;
  no_data_mark = λ b n. rw (
    unlike (in_ascii Ebcdic b) (turned_none b n),
    no_kind (in_ascii Ebcdic b) (turned_none b n),
    not_further (in_ascii Ebcdic b) (turned_none b n),
  ) refl;
  lost_header = λ h b e n. rw (e, no_label b n) refl;
  bad_first = λ n. refl;
  lost_first = λ n h b few e no. rw (
    second_no_volume (in_ascii Ebcdic h) e,
    e,
    few,
    no_label b no,
  ) refl;
  mark_first = λ n b e. rw (e) refl;
  bad_behind_mark = λ n b e. rw (e) refl;
}
