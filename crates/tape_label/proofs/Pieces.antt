-- The positions of the pieces of a text.
use Rattle.std.proofs.Common.{◌≡◌, ℕ, ◌+◌, List, [], ◌∷◌, ◌++◌, length, take, drop, refl, sym, ap}
use Rattle.std.proofs.Common.{◌∙◌, arith, append_assoc, length-append}
use Rattle.std.proofs.lemmas.List.{take_at, drop_at, append-nil}
use Rattle.tape_label.specs.Written.{Piece, text_of, HaveWidths}

-- From position `i` on, the label consists of the pieces, one after another.
abbrev pub StandAt : ℕ → List Piece → List ℕ → Type 0
StandAt i [] label = length label ≡ i
StandAt i (p ∷ ps) label = (take p.width (drop i label) ≡ p.text) × StandAt (i + p.width) ps label

stand : (i : ℕ) (front : List ℕ) (ps : List Piece) (label : List ℕ) → length front ≡ i
    → HaveWidths ps → label ≡ front ++ text_of ps → StandAt i ps label
stand i front [] label len widths e = ap length e ∙ ap length (append-nil front) ∙ len
stand i front (p ∷ ps) label len widths e =
    let here : take p.width (drop i label) ≡ p.text = rw (
      e,
      drop_at front (p.text ++ text_of ps) i len,
    ) (take_at p.text (text_of ps) p.width widths.0) in (
      here,
      stand (i + p.width) (front ++ p.text) ps label (omega (
        arith,
        length-append front p.text,
        widths.0,
      )) widths.1 (e ∙ sym (append_assoc front p.text (text_of ps))),
    )

pub pieces_stand : (ps : List Piece) → HaveWidths ps → StandAt 0 ps (text_of ps)
pieces_stand ps widths = stand 0 [] ps (text_of ps) refl widths refl
