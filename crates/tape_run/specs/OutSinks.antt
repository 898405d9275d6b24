-- A sink that writes the records of a file as its parts come.
use Rattle.std.specs.Prelude.{◌≡◌, ℕ, ◌+◌, ◌<◌, ⊤, Bool, true, false, List, ◌++◌, length}
use Rattle.std.specs.Prelude.{Option, Some, None, IsSome, is_some}
use Rattle.tape_blocks.specs.{Block.Portion, Spans.join, Packing.longest_block}
use Rattle.tape_blocks.specs.declared.parts.Form.{Form}
use Rattle.tape_blocks.specs.declared.parts.Form.TheVariants.{Counted}
use Rattle.tape_core.specs.{Known.most_staged, Stands.weight_of, declared.sink.SinkFault.SinkFault}
use Rattle.tape_core.specs.declared.sink.SinkFault.TheVariants.{OutOfMemory, Device, Full, Failed}
use Rattle.tape_run.specs.RecordText.{output_of, sent_of, held_of}

-- the records into which the parts join, and the bytes of an unfinished one that are written
abbrev pub text_so_far : Form → List Portion → List ℕ
text_so_far form parts = output_of form parts ++ sent_of (join parts).rest form

-- one more, if a part ends its record
abbrev pub with_end : Bool → ℕ → ℕ
with_end true n = n
with_end false n = n + 1

-- a writer of this kind always knows its bytes
abbrev pub TellsAlways : {W : Type 0} → (W → Option (List ℕ)) → Type 0
TellsAlways {W} contents = (w : W) → IsSome (contents w)

-- the bytes of the writer, if there still is one, are this text
abbrev pub IsText : {W : Type 0} → (W → Option (List ℕ)) → List ℕ → Option W → Type 0
IsText contents text None = ⊤
IsText contents text (Some out) = contents out ≡ Some text

-- The parts were received: their weight, the number of their records, and whether a record is
-- unfinished are recorded. If the writer knows its bytes, these are the text of the parts. The
-- other bytes of an unfinished record are held back.
pub record HasTaken {W : Type 0} (contents : W → Option (List ℕ)) (form : Form) (out : Option W)
    (held : List ℕ) (weight records : ℕ) (begun : Bool) (parts : List Portion) : Type 0 where
  pub weighs : weight ≡ weight_of parts
  pub counted : records ≡ length (join parts).records
  pub begins : begun ≡ is_some (join parts).rest
  pub text : TellsAlways contents → IsText contents (text_so_far form parts) out
  pub waits : held ≡ held_of (join parts).rest form

-- Why a change of an output is refused, which has this weight then: a write failed, in the call or
-- earlier, or a part would be too heavy, or written records would have to be removed; or in the
-- counted form a record cannot be held back. Only a write that fails in the call takes the writer
-- away.
abbrev pub RefusesText : Form → Bool → ℕ → SinkFault → Bool → Type 0
RefusesText form works weight Device still = (works ≡ true) × (still ≡ false)
RefusesText form works weight Failed still = still ≡ works
RefusesText form works weight Full still = (works ≡ true) × (still ≡ true)
    × (most_staged < weight + (5 + longest_block))
RefusesText form works weight OutOfMemory still = (form ≡ Counted) × (works ≡ true)
    × (still ≡ true)
