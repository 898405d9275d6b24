-- The kinds of labels, by the length of a block and its first four characters.
use Rattle.std.specs.Prelude.{◌≡◌, ◌==◌, ℕ, List, [], ◌∷◌, length, codes, Bool, if◌then◌else◌}
use Rattle.std.specs.{Prelude.Option, Prelude.None, List.find, Str.bytes_eq}
use Rattle.tape_label.specs.declared.values.Kind.TheVariants.{Vol1, Hdr1, Hdr2, Eof1, Eof2, Eov1}
use Rattle.tape_label.specs.{declared.values.Kind.Kind, declared.values.Kind.TheVariants.Eov2}
use Rattle.tape_label.specs.Positions.{positions}

-- the first four characters of each kind
abbrev pub identifier : Kind → List ℕ
identifier Vol1 = codes "VOL1"
identifier Hdr1 = codes "HDR1"
identifier Hdr2 = codes "HDR2"
identifier Eof1 = codes "EOF1"
identifier Eof2 = codes "EOF2"
identifier Eov1 = codes "EOV1"
identifier Eov2 = codes "EOV2"

-- the label is of the given kind, whatever its fields contain
pub record HasKind (label : List ℕ) (kind : Kind) : Type 0 where
  pub size : length label ≡ 80
  pub named : positions label 1 4 ≡ identifier kind

-- the kind of a first trailer label: EOF1 at the end of the file, EOV1 if the file continues
abbrev pub trailer : Bool → Kind
trailer eof = if eof then Eof1 else Eov1

-- the kinds of first trailer labels, which have the same layout
abbrev pub IsFirstTrailer : Kind → Type 0
IsFirstTrailer Eof1 = Unit {0}
IsFirstTrailer Eov1 = Unit {0}
IsFirstTrailer _ = ⊥

-- the kinds of second labels, which have the same layout
abbrev pub IsSecond : Kind → Type 0
IsSecond Hdr2 = Unit {0}
IsSecond Eof2 = Unit {0}
IsSecond Eov2 = Unit {0}
IsSecond _ = ⊥

-- the kind with the given identifier
abbrev pub kind_named : List ℕ → Option Kind
kind_named text =
    find (λ kind. bytes_eq text (identifier kind))
    (Vol1 ∷ Hdr1 ∷ Hdr2 ∷ Eof1 ∷ Eof2 ∷ Eov1 ∷ Eov2 ∷ [])

-- the kind of label that a block is, or `None`
unfoldable pub kind_at : List ℕ → Option Kind
kind_at block = if length block == 80 then kind_named (positions block 1 4) else None
