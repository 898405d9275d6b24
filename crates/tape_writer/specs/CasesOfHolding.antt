-- Test cases for the definition of a write buffer. They are part of the contract of the function
-- `laws::cases`.
use Rattle.std.specs.Prelude.{List, Some, [], true, ℕ, ◌++◌, ◌-◌, ◌^◌, ◌∷◌, ◌≡◌, None, false}
use Rattle.std.specs.Io.KnownBytes.{Appends}
use Rattle.tape_image.specs.Written.{AppendsFront}
use Rattle.tape_writer.specs.Holding.{FilePasses, Holding, PassesOn, Stops, TakesAll, fresh, taken}
use Rattle.tape_writer.specs.Holding.{FileTakes}

-- a write buffer, and an image file
pub record CasesOfHolding : Type 0 where
  -- the accepted bytes are the device's contents, followed by the buffered bytes
  pub taken_is : taken (record {
    device = Some (1 ∷ []);
    held = 2 ∷ [];
    size = 2;
    failed = false;
  }) ≡ Some (1 ∷ 2 ∷ [])
  -- bytes are accepted after the earlier ones, and counted, up to the limit of the count; the
  -- device did not fail
  pub takes : (bytes : List ℕ) (old new : Holding) → TakesAll bytes old new
      → Appends (taken old) (taken new) bytes
  pub counted : (new : Holding) → TakesAll (3 ∷ 4 ∷ []) (record {
    device = None;
    held = 1 ∷ 2 ∷ [];
    size = 5;
    failed = false;
  }) new → new.size ≡ 7
  pub counted_up_to : (old new : Holding) → TakesAll (3 ∷ []) old new → old.size ≡ 2 ^ 64 - 1
      → new.size ≡ 2 ^ 64 - 1
  -- bytes that were not accepted completely are not counted, and a prefix of them may be written
  pub not_taken : (bytes : List ℕ) (old new : Holding) → Stops bytes old new
      → (new.size ≡ old.size) × (new.failed ≡ true)
      × AppendsFront old.device new.device (old.held ++ bytes)
  pub did_not_fail : (old new : Holding) → TakesAll [] old new → new.failed ≡ true → ⊥
  -- buffered bytes that are written follow the contents of the device, and are no longer buffered
  pub passes : (old new : Holding) → PassesOn old new → Appends old.device new.device old.held
  pub none_held : (old new : Holding) → PassesOn old new → new.held ≡ 1 ∷ [] → ⊥
  pub not_counted : (old new : Holding) → PassesOn old new → new.size ≡ old.size
  pub passed_well : (old new : Holding) → PassesOn old new → new.failed ≡ true → ⊥
  -- a file that was just opened has accepted no bytes
  pub opened : fresh (Some (7 ∷ [])) ≡ record {
    device = Some (7 ∷ []);
    held = [];
    size = 0;
    failed = false;
  }
  -- a file that accepted bytes is open, and has them after the bytes that it accepted before
  pub first : (new : Holding) → FileTakes (3 ∷ 4 ∷ []) None (Some new) → new.size ≡ 2
  pub is_open : FileTakes [] None None → ⊥
  pub stays_open : (old : Holding) → FileTakes [] (Some old) None → ⊥
  pub further : (old new : Holding) → FileTakes (3 ∷ []) (Some old) (Some new)
      → TakesAll (3 ∷ []) old new
  -- only buffered bytes of an open file can be written; a file that was not opened stays so
  pub no_file : (new : Holding) → FilePasses None (Some new) → ⊥
  pub same_file : (old : Holding) → FilePasses (Some old) None → ⊥
  pub of_file : (old new : Holding) → FilePasses (Some old) (Some new) → PassesOn old new
