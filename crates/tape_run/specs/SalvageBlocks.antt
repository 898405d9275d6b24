-- The data items of a section, processed one after another, and the report on missing blocks.
use Rattle.std.specs.Prelude.{◌≡◌, ℕ, ◌-◌, ◌||◌, Bool, true, false, if◌then◌else◌, List, [], ◌++◌}
use Rattle.std.specs.Prelude.{is_some, Option, Some, None}
use Rattle.std.specs.Io.KnownBytes.{Appends}
use Rattle.tape_image.specs.{Tape.TapeItem, Tape.block, Tape.bad, Tape.mark, Written.AppendsFront}
use Rattle.tape_blocks.specs.declared.check.BlockFault.{BlockFault}
use Rattle.tape_set.specs.Lawful.{FileForm}
use Rattle.tape_run.specs.SalvageRecords.{Piece, Start, HasPiece, nothing, mended, found_fault}
use Rattle.tape_run.specs.SalvageRecords.{taken}
use Rattle.tape_run.specs.{SalvageWalk.first_of, SalvageRecords.torn, SalvageRecords.is_cut}
use Rattle.tape_run.specs.SalvageLine.{gap_line, torn_line, refused_line}
use Rattle.tape_run.specs.declared.salvage.recovery.Recovery.{Recovery}

-- the records so far, the first block of a gap that has not been reported yet, and whether
-- something is missing
pub record Salvaged : Type 0 where
  pub piece : Piece
  pub gap : Option ℕ
  pub missing : Bool

abbrev pub none_salvaged : Salvaged
none_salvaged = record { piece = nothing; gap = None; missing = false }

-- the line of a gap that ends before this block
abbrev pub gap_text : ℕ → Option ℕ → ℕ → ℕ → List ℕ
gap_text sect None next records = []
gap_text sect (Some first) next records = gap_line sect first (next - 1) records

-- the line about a record that is left out because the data are interrupted before this block
abbrev pub torn_text : Bool → ℕ → ℕ → ℕ → List ℕ
torn_text is sect n records = if is then torn_line sect n records else []

-- the lines of a block with a fault; a record that is unfinished there is left out
abbrev pub refused_text : ℕ → ℕ → Option BlockFault → Bool → ℕ → List ℕ
refused_text sect n None begun records = []
refused_text sect n (Some fault) begun records =
    torn_text begun sect n records ++ refused_line sect n fault records

-- a block of the section is missing
abbrev pub without_block : ℕ → Salvaged → Salvaged
without_block n g = record { piece = torn g.piece; gap = first_of g.gap n; missing = true }

abbrev pub without_block_text : ℕ → ℕ → Salvaged → List ℕ
without_block_text sect n g = torn_text g.piece.begun sect n g.piece.records

-- a block of the section was read
abbrev pub with_block : Option FileForm → List ℕ → Salvaged → Salvaged
with_block form b g = record {
  piece = mended form g.piece b;
  gap = None;
  missing = g.missing || is_some (found_fault form g.piece b);
}

abbrev pub with_block_text : ℕ → Option FileForm → ℕ → List ℕ → Salvaged → List ℕ
with_block_text sect form n b g =
    gap_text sect g.gap n g.piece.records
    ++ (torn_text (is_cut form g.piece b) sect n g.piece.records
    ++ refused_text sect n (found_fault form g.piece b) (taken form g.piece b).begun
    (taken form g.piece b).records)

-- an item was read: the data item of the section with this number, or an item that is not one of
-- its data
abbrev pub salvaged_at : Option FileForm → Salvaged → Option ℕ → TapeItem → Salvaged
salvaged_at form g None x = g
salvaged_at form g (Some n) (block b) = with_block form b g
salvaged_at form g (Some n) bad = without_block n g
salvaged_at form g (Some n) mark = g

abbrev pub text_at : ℕ → Option FileForm → Salvaged → Option ℕ → TapeItem → List ℕ
text_at sect form g None x = []
text_at sect form g (Some n) (block b) = with_block_text sect form n b g
text_at sect form g (Some n) bad = without_block_text sect n g
text_at sect form g (Some n) mark = []

-- the records that a recovery has written and buffered, and its gaps
pub record HasSalvaged {W : Type 0} (contents : W → Option (List ℕ)) (start : Start)
    (r : Recovery W) (g : Salvaged) : Type 0 where
  pub piece : HasPiece contents start r.mender g.piece
  pub same_gap : r.gap ≡ g.gap
  pub same_missing : r.missing ≡ g.missing

-- The recovery continued like this from any state, and its report was extended by this text.
abbrev pub Recovers : {W : Type 0} → (W → Option (List ℕ)) → Recovery W → Recovery W
    → Option (List ℕ) → Option (List ℕ) → (Salvaged → Salvaged) → (Salvaged → List ℕ) → Type 0
Recovers contents old new said says after text = (start : Start) (g : Salvaged)
    → HasSalvaged contents start old g
    → HasSalvaged contents start new (after g) × Appends said says (text g)

-- A prefix of this text was reported before an error.
abbrev pub ReportsFront : {W : Type 0} → (W → Option (List ℕ)) → Recovery W → Option (List ℕ)
    → Option (List ℕ) → (Salvaged → List ℕ) → Type 0
ReportsFront contents old said says text = (start : Start) (g : Salvaged)
    → HasSalvaged contents start old g → AppendsFront said says (text g)
