-- The digest of the data blocks of a section, by which its copies are compared.
use Rattle.std.specs.Prelude.{◌≡◌, ◌≢◌, ℕ, ◌+◌, ◌*◌, ◌/◌, ◌%◌, ◌^◌, ◌<◌, List, [], ◌∷◌, ◌++◌}
use Rattle.std.specs.Prelude.{length, map, drop}
use Rattle.std.specs.{Int.w64, Int.from_le_bytes, Int.rotate_left, Simd.first_chunks}
use Rattle.tape_run.specs.declared.survey.digest.Chains.{Chains}

-- The digest after one more word: the halves of the digest change places, the word is added, and
-- the sum is multiplied by an odd number, in 64 bits.
unfoldable pub digest_by : ℕ → ℕ → ℕ
digest_by d word = ((rotate_left w64 d 32 + word) % 2 ^ 64 * 11400714819323198485) % 2 ^ 64

-- the same after these words
abbrev pub digest_over : ℕ → List ℕ → ℕ
digest_over d [] = d
digest_over d (w ∷ ws) = digest_over (digest_by d w) ws

-- Chains after one more word: the first chain takes the word, and becomes the last.
abbrev pub side_by : List ℕ → ℕ → List ℕ
side_by [] word = []
side_by (d ∷ ds) word = ds ++ digest_by d word ∷ []

-- the same after these words
abbrev pub side_over : List ℕ → List ℕ → List ℕ
side_over ds [] = ds
side_over ds (w ∷ ws) = side_over (side_by ds w) ws

-- the digests of eight chains
abbrev pub in_turn : Chains → List ℕ
in_turn x = x.a ∷ x.b ∷ x.c ∷ x.d ∷ x.e ∷ x.f ∷ x.g ∷ x.h ∷ []

-- eight chains before the first word
abbrev pub no_chains : List ℕ
no_chains = 0 ∷ 0 ∷ 0 ∷ 0 ∷ 0 ∷ 0 ∷ 0 ∷ 0 ∷ []

-- The words of a block: those of eight bytes each, lowest byte first, then each byte that is left.
unfoldable pub words_of : List ℕ → List ℕ
words_of block = map (from_le_bytes w64) (first_chunks 8 (length block / 8) block)
    ++ drop (length block / 8 * 8) block

-- The digests of a block: its words go to eight chains in turn. The length of the block follows.
abbrev pub block_digests : List ℕ → List ℕ
block_digests block = side_over no_chains (words_of block) ++ length block ∷ []

-- the digest after one more block
abbrev pub digest_with : ℕ → List ℕ → ℕ
digest_with d block = digest_over d (block_digests block)

-- the digest after a number of blocks
abbrev pub digest_all : ℕ → List (List ℕ) → ℕ
digest_all d [] = d
digest_all d (b ∷ bs) = digest_all (digest_with d b) bs

-- the digest of blocks
abbrev pub digest_of : List (List ℕ) → ℕ
digest_of blocks = digest_all 0 blocks

-- Blocks that differ in one word have different digests. One word is u in one block and v in
-- another of the same length; the words before and after it, and the blocks before and after these
-- two, are the same.
abbrev pub TellsWordsApart : Type 0
TellsWordsApart = (before after : List (List ℕ)) (b c front back : List ℕ) (u v : ℕ)
    → u < 2 ^ 64 → v < 2 ^ 64 → u ≢ v → length b ≡ length c
    → words_of b ≡ front ++ u ∷ back → words_of c ≡ front ++ v ∷ back
    → digest_of (before ++ b ∷ after) ≢ digest_of (before ++ c ∷ after)
