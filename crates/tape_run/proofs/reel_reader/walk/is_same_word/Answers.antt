use Rattle.std.proofs.Common.{◌≡◌, sym, ap, ◌∙◌, rules}
use Rattle.std.specs.Int.{w64, to_le_bytes, from_le_bytes}
use Rattle.std.proofs.lemmas.Bool.{eqb-true, eq-eqb}
use Rattle.std.proofs.lemmas.Nat.{le_bytes_8}
use Rattle.tape_run.proofs.reel_reader.walk.is_same_word.Goals as goal

pub returns : goal.returns
returns c = (
  λ yes.
      let same : c.from_le_bytes.result ≡ c.from_le_bytes-2.result = eqb-true _ _ yes in
      sym (le_bytes_8 c.args.one _ (search rules) (search rules) c.from_le_bytes.ensures)
      ∙ (ap (to_le_bytes w64) same
      ∙ le_bytes_8 c.args.other _ (search rules) (search rules) c.from_le_bytes-2.ensures),
  λ e.
      let same : c.from_le_bytes.result ≡ c.from_le_bytes-2.result =
      c.from_le_bytes.ensures ∙ (ap (from_le_bytes w64) e ∙ sym c.from_le_bytes-2.ensures) in
      eq-eqb _ _ same,
)
