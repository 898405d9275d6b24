-- A sink that refuses one call.
use Rattle.std.specs.Prelude.{◌≡◌, ◌<◌, ◌+◌, ◌-◌, ◌^◌, Result, Err}
use Rattle.tape_core.specs.{declared.refusing.Refusing.Refusing, declared.sink.SinkFault.SinkFault}

-- The call that is due is refused with this fault, and does not reach the inner sink; after it,
-- none is due before 2^64 - 1 others. Any other call brings the due one nearer, and is answered by
-- the inner sink.
pub record RefusesOne {S : Type 0} (fault : SinkFault) (old : Refusing S)
    (result : Result (Unit {0}) SinkFault) (new : Refusing S) : Type 0 where
  pub due : old.left ≡ 0 → (result ≡ Err fault) × (new.inner ≡ old.inner)
      × (new.left ≡ 2 ^ 64 - 1)
  pub other : 0 < old.left → (new.left + 1 ≡ old.left) × (new.refused ≡ old.refused)
