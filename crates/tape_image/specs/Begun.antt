-- What a leading word begins, as the code finds it.
use Rattle.std.specs.Prelude.{◌≡◌, ℕ, ◌<◌, ◌≤◌, Option, Some, None}
use Rattle.tape_image.specs.Word.{mark_word, gap_word, end_word, block_len, extent_of}
use Rattle.tape_image.specs.{declared.block.Found.Found, Word.longest_block}
use Rattle.tape_image.specs.declared.block.Found.TheVariants.{Nothing, Gap, End, Mark, Block, Bad}

-- what the word w begins, or `None` if w is not a valid leading word
abbrev pub IsBegunBy : ℕ → Option Found → Type 0
IsBegunBy w None = extent_of w ≡ None
IsBegunBy w (Some Nothing) = ⊥
IsBegunBy w (Some Gap) = w ≡ gap_word
IsBegunBy w (Some End) = w ≡ end_word
IsBegunBy w (Some Mark) = w ≡ mark_word
IsBegunBy w (Some (Block n)) = (block_len w ≡ Some n) × (w ≤ longest_block)
IsBegunBy w (Some (Bad n)) = (block_len w ≡ Some n) × (longest_block < w)
