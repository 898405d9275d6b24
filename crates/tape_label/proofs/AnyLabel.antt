-- Labels of any kind: every label is read.
use Rattle.std.proofs.Common.{◌≡◌, ℕ, List, Bool, true, false, Some}
use Rattle.std.proofs.Common.{Ok, refl}
use Rattle.tape_label.specs.Reading.{◌>>=◌, trail1_at}
use Rattle.tape_label.specs.declared.values.Head2.{Head2}
use Rattle.tape_label.specs.Kinds.{IsSecond, trailer}
use Rattle.tape_label.specs.Labels.{IsLabel, read_as, label_at}
use Rattle.tape_label.specs.{declared.label.Label.Label, declared.values.Kind.Kind, Head2.IsHead2}
use Rattle.tape_label.specs.declared.label.Label.TheVariants as labels
use Rattle.tape_label.specs.declared.values.Kind.TheVariants as kinds
use Rattle.tape_label.proofs.First.{vol1_again, head1_again}
use Rattle.tape_label.proofs.First.{trail1_again}
use Rattle.tape_label.proofs.Apart.{kind_again}
use Rattle.tape_label.proofs.{Second.head2_again}

second_again : (block : List ℕ) (kind : Kind) (fields : Head2) → IsSecond kind
    → IsHead2 block kind fields
    → read_as block (Some kind) ≡ Ok (labels.Second kind fields)
second_again block kinds.Hdr2 fields s is = rw (head2_again block kinds.Hdr2 fields is) refl
second_again block kinds.Eof2 fields s is = rw (head2_again block kinds.Eof2 fields is) refl
second_again block kinds.Eov2 fields s is = rw (head2_again block kinds.Eov2 fields is) refl
second_again block _ fields s is = absurd s

as_trailer : (block : List ℕ) (eof : Bool)
    → read_as block (Some (trailer eof)) ≡ (trail1_at block >>= λ fields. Ok (labels.Trail1 fields))
as_trailer block true = refl
as_trailer block false = refl

pub label_again : (block : List ℕ) (label : Label) → IsLabel block label → label_at block ≡ Ok label
unfolding label_at
label_again block (labels.Vol1 v) is =
    rw (kind_again block kinds.Vol1 is.kind, vol1_again block v is) refl
label_again block (labels.Head1 h) is =
    rw (kind_again block kinds.Hdr1 is.kind, head1_again block h is) refl
label_again block (labels.Second k h) is =
    rw (kind_again block k is.kind) (second_again block k h is.second is)
label_again block (labels.Trail1 t) is =
    rw (
      kind_again block (trailer t.eof) is.kind,
      as_trailer block t.eof,
      trail1_again block t is,
    ) refl
