-- A borrowed value that is given back: what holds of it may be weakened.
use mathlib.Core.Option.{none}
use seplogic.Ra.Ura.{Ura}
use base.Logic.{ent, ex_e, ex_i}
use types.Logic.{Logic, sem}
use denote.RattleType.{RattleType}
use denote.Follow.{such_by, follows_if}
use Rattle.std.specs.{Prelude.⊤, Borrow.MutBor, Io.BufRead.Rests}

pub rests_also : {M : Type 1} {𝓤 : Ura M} (𝓛 : Logic 𝓤) (R : RattleType) (s : MutBor R.Denot)
    (P Q : R.Denot → Type 0) → ((x : R.Denot) → P x → Q x)
    → ent 𝓤 (sem 𝓛 (Rests R s P)) (sem 𝓛 (Rests R s Q))
unfolding such_by
rests_also {𝓤 = 𝓤} 𝓛 R s P Q also = ex_e 𝓤 _ (λ t. ex_i 𝓤
    (λ (y : (p : (R.Denot → R.Denot) × R.Denot) × ((z : R.Denot) → ⊤) × Q p.1).
    sem 𝓛 (follows_if R R s.ghost_name none y.0.0 y.0.1)) (t.0, t.1, also t.0.1 t.2))
