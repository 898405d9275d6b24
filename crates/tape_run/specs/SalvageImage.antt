-- A section recovered from one image.
use Rattle.std.specs.Prelude.{◌≡◌, ◌≤◌, ℕ, ◌+◌, ◌&&◌, nat_lt, Bool, true, false, List, [], ◌∷◌}
use Rattle.std.specs.Prelude.{◌++◌, Option, Some, None, IfSome, if◌then◌else◌}
use Rattle.tape_image.specs.{Tape.TapeItem, Tape.mark, Begins.Walks, Begins.image_limit}
use Rattle.tape_image.specs.Reader.{IfKnown}
use Rattle.tape_set.specs.Lawful.{FileForm}
use Rattle.tape_run.specs.{declared.section.SectionKey.SectionKey, Added.StopsBehind}
use Rattle.tape_run.specs.{declared.section.ImageStop.ImageStop, Noted.same_key}
use Rattle.tape_run.specs.declared.salvage.recovery.Recovery.{Recovery}
use Rattle.tape_run.specs.declared.salvage.walk.Expected.{Expected}
use Rattle.tape_run.specs.declared.salvage.walk.Expected.TheVariants.{Data, Trailer}
use Rattle.tape_run.specs.SalvageWalk.{step, expected_after}
use Rattle.tape_run.specs.SalvageBlocks.{Salvaged, Recovers, salvaged_at, text_at}

-- whether the data of this section are being read
abbrev pub is_in : SectionKey → Expected → Bool
is_in key (Data u) = same_key u.key key
is_in key _ = false

-- the number of data items of this section that were read, if nothing more is read
abbrev pub read_in : SectionKey → Expected → ℕ
read_in key (Data u) = if same_key u.key key then u.blocks else 0
read_in key (Trailer u) = if same_key u.key key then u.blocks else 0
read_in key _ = 0

-- the number of the next item among the data items of the section, if it is one of the first `most`
abbrev pub number_in : SectionKey → ℕ → Expected → Option ℕ
number_in key most (Data u) =
    if same_key u.key key && nat_lt u.blocks most then Some u.blocks else None
number_in key most _ = None

-- the records after these items
abbrev pub salvaged_from : SectionKey → ℕ → Option FileForm → Expected → Salvaged → List TapeItem
    → Salvaged
salvaged_from key most form s g [] = g
salvaged_from key most form s g (x ∷ xs) =
    salvaged_from key most form (step s x).0 (salvaged_at form g (number_in key most s) x) xs

-- and the lines reported for these items
abbrev pub text_from : SectionKey → ℕ → Option FileForm → Expected → Salvaged → List TapeItem
    → List ℕ
text_from key most form s g [] = []
text_from key most form s g (x ∷ xs) =
    text_at key.sect form g (number_in key most s) x
    ++ text_from key most form (step s x).0 (salvaged_at form g (number_in key most s) x) xs

abbrev pub is_mark : TapeItem → Bool
is_mark mark = true
is_mark _ = false

-- how often a tape mark ends the data of this section in these items
abbrev pub closings : SectionKey → Expected → List TapeItem → ℕ
closings key s [] = 0
closings key s (x ∷ xs) =
    (if is_in key s && is_mark x then 1 else 0) + closings key (step s x).0 xs

-- the last of the items is the mark after the data of this section
abbrev pub EndsData : Expected → SectionKey → List TapeItem → Type 0
EndsData start key items = (front : List TapeItem) × (items ≡ front ++ mark ∷ [])
    × (is_in key (expected_after start front) ≡ true)

-- the bytes begin with these items
abbrev pub BeginsWith : Option (List ℕ) → List TapeItem → Type 0
BeginsWith before items = IfSome before (λ xs. (place : ℕ) × (ys : List ℕ) × (place ≤ image_limit)
    × Walks 0 xs items place ys)

-- These items of an image were read: up to the first mark that ends the section's data if there is
-- one, otherwise all items.
pub record ReadsSection (before after : Option (List ℕ)) (start : Expected) (key : SectionKey)
    (items : List TapeItem) (is_ended : Bool) : Type 0 where
  pub walked : BeginsWith before items
  pub at_mark : is_ended ≡ true → EndsData start key items
  pub all : is_ended ≡ false → (stop : ImageStop) × IfKnown before after (StopsBehind items stop)
  pub once : closings key start items ≡ (if is_ended then 1 else 0)

-- Items of the image were read, among them the given number of data items of the section, and its
-- blocks were processed.
pub record RecoversSection {W : Type 0} (contents : W → Option (List ℕ))
    (before after : Option (List ℕ)) (start : Expected) (key : SectionKey) (most : ℕ)
    (form : Option FileForm) (old new : Recovery W) (said says : Option (List ℕ)) (read : ℕ)
    : Type 0 where
  pub items : List TapeItem
  pub is_ended : Bool
  pub reads : ReadsSection before after start key items is_ended
  pub count : read ≡ read_in key (expected_after start items)
  pub recovers : Recovers contents old new said says
      (λ g. salvaged_from key most form start g items)
      (λ g. text_from key most form start g items)

-- ---- the rest of the image

-- If the data of the section end once on the image, and are not being read at its end, then nothing
-- more is recovered from the items after the mark that ends them.
abbrev pub RestHasNothing : Type 0
RestHasNothing = (key : SectionKey) (most : ℕ) (form : Option FileForm) (start : Expected)
    (items rest : List TapeItem) (g : Salvaged) → EndsData start key items
    → closings key start (items ++ rest) ≡ 1
    → is_in key (expected_after start (items ++ rest)) ≡ false
    → (salvaged_from key most form start g items
    ≡ salvaged_from key most form start g (items ++ rest))
    × (text_from key most form start g items
    ≡ text_from key most form start g (items ++ rest))
