-- The laws of units, for the units of which a block itself says the length or the offset.
use Rattle.std.proofs.Common.{◌≡◌, ◌≢◌, ℕ, ◌≤◌, Bool, true, List, [], ◌∷◌, ◌++◌, length, Result}
use Rattle.std.proofs.Common.{Ok, Err, IfOk, IfErr, refl, sym, subst, ◌∙◌}
use Rattle.std.specs.List.{AllByRecursion}
use Rattle.tape_label.specs.{declared.values.Format.Format, Formats.is_standard}
use Rattle.tape_label.specs.declared.values.Format.TheVariants.{Fixed, Counted, Spanned}
use Rattle.tape_label.specs.declared.values.Format.TheVariants.{Undefined, Variable}
use Rattle.tape_blocks.specs.{declared.check.BlockFault.BlockFault, Block.Portion, Block.Holds}
use Rattle.tape_blocks.specs.{Block.HoldsUnits, Block.own_len, Block.own_offset, Spans.InOrder}
use Rattle.tape_blocks.specs.{Checked.Passes, Judged.judged}
use Rattle.tape_blocks.specs.{Faults.HasFault}
use Rattle.tape_blocks.proofs.JudgedLaws as units
use Rattle.tape_blocks.proofs.SizeLaws as sizes
use Rattle.tape_blocks.proofs.JoinLaws as joins

-- ---- formats F, D and S

-- In these formats a block says nothing of its units.
pub as_standard : (format : Format) (rec_len offset : ℕ) (block : List ℕ) (ps : List Portion)
    → is_standard format ≡ true → HoldsUnits format rec_len offset block ps
    → Holds format rec_len offset block ps
as_standard Fixed rec_len offset block ps is h = h
as_standard Counted rec_len offset block ps is h = h
as_standard Spanned rec_len offset block ps is h = h
as_standard Undefined rec_len offset block ps is h = absurd cc
as_standard Variable rec_len offset block ps is h = absurd cc

pub of_standard : (format : Format) (rec_len offset : ℕ) (block : List ℕ) (ps : List Portion)
    → is_standard format ≡ true → Holds format rec_len offset block ps
    → HoldsUnits format rec_len offset block ps
of_standard Fixed rec_len offset block ps is h = h
of_standard Counted rec_len offset block ps is h = h
of_standard Spanned rec_len offset block ps is h = h
of_standard Undefined rec_len offset block ps is h = absurd cc
of_standard Variable rec_len offset block ps is h = absurd cc

-- ---- all formats

pub own_some : (format : Format) (rec_len offset : ℕ) (block : List ℕ)
    → (format ≡ Fixed → 1 ≤ rec_len) → format ≡ Fixed → 1 ≤ own_len format rec_len offset block
own_some Fixed rec_len offset block some e = some e
own_some Counted rec_len offset block some e = absurd cc
own_some Spanned rec_len offset block some e = absurd cc
own_some Undefined rec_len offset block some e = absurd cc
own_some Variable rec_len offset block some e = absurd cc

pub judged_found : (format : Format) (rec_len offset : ℕ) (begun end : Bool) (block : List ℕ)
    → (format ≡ Fixed → 1 ≤ rec_len) → judged format rec_len offset begun block ≡ Ok end
    → Passes format rec_len offset begun block end
unfolding judged
judged_found format rec_len offset begun end block some is =
    units.judged_found format (own_len format rec_len offset block) (own_offset format offset block)
    begun end block (own_some format rec_len offset block some) is

pub judged_only : (format : Format) (rec_len offset : ℕ) (begun end : Bool) (block : List ℕ)
    (parts : List Portion) → Holds format rec_len offset block parts
    → InOrder begun parts end → judged format rec_len offset begun block ≡ Ok end
unfolding judged
judged_only format rec_len offset begun end block parts holds order =
    units.judged_only format (own_len format rec_len offset block) (own_offset format offset block)
    begun end block parts holds order

pub judged_by_fault : (format : Format) (rec_len offset : ℕ) (begun : Bool) (block : List ℕ)
    (f : BlockFault) → (format ≡ Fixed → 1 ≤ rec_len)
    → HasFault format rec_len offset begun block f
    → judged format rec_len offset begun block ≡ Err f
unfolding judged
judged_by_fault format rec_len offset begun block f some has =
    units.judged_by_fault format (own_len format rec_len offset block)
    (own_offset format offset block) begun block f (own_some format rec_len offset block some) has

pub answer_passes : (r : Result Bool BlockFault) (format : Format) (rec_len offset : ℕ)
    (begun : Bool) (block : List ℕ) → (format ≡ Fixed → 1 ≤ rec_len)
    → r ≡ judged format rec_len offset begun block
    → IfOk r (λ end. Passes format rec_len offset begun block end)
unfolding judged
answer_passes r format rec_len offset begun block some e =
    units.answer_passes r format (own_len format rec_len offset block)
    (own_offset format offset block) begun block (own_some format rec_len offset block some) e

pub answer_faults : (r : Result Bool BlockFault) (format : Format) (rec_len offset : ℕ)
    (begun : Bool) (block : List ℕ) → (format ≡ Fixed → 1 ≤ rec_len)
    → r ≡ judged format rec_len offset begun block
    → IfErr r (HasFault format rec_len offset begun block)
unfolding judged
answer_faults r format rec_len offset begun block some e =
    units.answer_faults r format (own_len format rec_len offset block)
    (own_offset format offset block) begun block (own_some format rec_len offset block some) e

pub few_parts : (format : Format) (rec_len offset : ℕ) (block : List ℕ) (ps : List Portion)
    → (format ≡ Fixed → 1 ≤ rec_len) → Holds format rec_len offset block ps
    → length ps ≤ length block
few_parts format rec_len offset block ps some holds =
    sizes.few_parts format (own_len format rec_len offset block) (own_offset format offset block)
    block ps (own_some format rec_len offset block some) holds

pub short_parts : (format : Format) (rec_len offset : ℕ) (block : List ℕ) (ps : List Portion)
    → Holds format rec_len offset block ps → AllByRecursion (λ p. length p.bytes ≤ length block) ps
short_parts format rec_len offset block ps holds =
    sizes.short_parts format (own_len format rec_len offset block) (own_offset format offset block)
    block ps holds

pub short_part : (format : Format) (rec_len offset : ℕ) (block : List ℕ) (ps ys rest : List Portion)
    (p : Portion) → ps ≡ ys ++ p ∷ rest → Holds format rec_len offset block ps
    → length p.bytes ≤ length block
short_part format rec_len offset block ps ys rest p e holds =
    sizes.short_part format (own_len format rec_len offset block) (own_offset format offset block)
    block ps ys rest p e holds

pub one_list : (format : Format) (rec_len offset : ℕ) (block : List ℕ) (ps qs : List Portion)
    → Holds format rec_len offset block ps → Holds format rec_len offset block qs → ps ≡ qs
one_list format rec_len offset block ps qs x y =
    joins.one_list format (own_len format rec_len offset block) (own_offset format offset block)
    block ps qs x y

same_begun : (ps : List Portion) (b c d e : Bool) → ps ≢ [] → InOrder b ps d
    → InOrder c ps e → b ≡ c
same_begun [] b c d e some x y = absurd (some refl)
same_begun (p ∷ ps) b c d e some x y = sym x.0 ∙ y.0

pub passes_for_one : (rec_len offset : ℕ) (block : List ℕ) (parts : List Portion) (b c d e : Bool)
    → Holds Spanned rec_len offset block parts → parts ≢ []
    → judged Spanned rec_len offset b block ≡ Ok d
    → judged Spanned rec_len offset c block ≡ Ok e → b ≡ c
passes_for_one rec_len offset block parts b c d e holds some x y =
    let never : Spanned ≡ Fixed → ⊥ = λ f. cc in
    let one = judged_found Spanned rec_len offset b d block (λ f. absurd (never f)) x in
    let two = judged_found Spanned rec_len offset c e block (λ f. absurd (never f)) y in
    same_begun parts b c d e some
    (subst (λ (ps : List Portion). InOrder b ps d)
    (one_list Spanned rec_len offset block one.0 parts one.1 holds) one.2)
    (subst (λ (ps : List Portion). InOrder c ps e)
    (one_list Spanned rec_len offset block two.0 parts two.1 holds) two.2)
