use Rattle.std.proofs.Common.{ℕ, ◌<◌, ◌≤◌, ◌-◌, Option, None, Some, IsSome, IfSome, MatchOption}
use Rattle.std.proofs.Common.{arith, refl}
use Rattle.tape_writer.proofs.system.image_files.ImageFilesImageStore.TheImpl.Goals as goal

lends_some : {A : Type 0} (r : Option A) (n : ℕ) (P : Type 0) (Q : A → Type 0)
    → MatchOption r ((256 ≤ n) × P) Q → 0 < 256 - n → IsSome r
lends_some None n P Q lends left = absurd (omega (arith, lends.0, left))
lends_some (Some x) n P Q lends left = refl

if_any : {A : Type 0} (r : Option A) → IfSome r (λ x. Unit {0})
if_any None = tt
if_any (Some x) = tt

-- the store holds no images, and records no labels
pub next-tells : goal.next-tells
next-tells g x c = record {
  some = λ left. lends_some c.result c.args.self.now.lent _ _ c.ensures.lends left;
  lent = λ images none. absurd none;
  asked = if_any c.result;
}
