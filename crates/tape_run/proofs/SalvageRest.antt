-- Nothing more of a section is recovered after the mark that ends its data.
use Rattle.std.proofs.Common.{◌≡◌, ℕ, ◌+◌, ◌&&◌, nat_lt, Bool, true, false, List, [], ◌∷◌, ◌++◌}
use Rattle.std.proofs.Common.{Option, Some, None, refl, sym, ap, ◌∙◌, arith, append-nil}
use Rattle.std.proofs.Common.{if◌then◌else◌}
use Rattle.tape_image.specs.Tape.{TapeItem, block, bad, mark}
use Rattle.tape_set.specs.Lawful.{FileForm}
use Rattle.tape_run.specs.declared.{section.SectionKey.SectionKey, salvage.walk.Expected.Expected}
use Rattle.tape_run.specs.declared.salvage.walk.Expected.TheVariants.{Outside}
use Rattle.tape_run.specs.declared.salvage.walk.Expected.TheVariants.{Data}
use Rattle.tape_run.specs.SalvageWalk.{step, expected_after}
use Rattle.tape_run.specs.SalvageBlocks.{Salvaged, salvaged_at, text_at}
use Rattle.tape_run.specs.SalvageImage.{is_in, is_mark, number_in, salvaged_from, text_from}
use Rattle.tape_run.specs.SalvageImage.{closings, EndsData, RestHasNothing}
use Rattle.tape_run.proofs.SalvagedSoFar.{expected_after-append, salvaged_from-append}
use Rattle.tape_run.proofs.SalvagedSoFar.{text_from-append, closings-append}

module _ (key : SectionKey) where
  -- after an item that is not a mark the data are still being read
  stays_in : (s : Expected) (x : TapeItem) → is_in key s ≡ true → is_mark x ≡ false
      → is_in key (step s x).0 ≡ true
  stays_in (Data u) (block b) h m = h
  stays_in (Data u) bad h m = h
  stays_in (Data u) mark h m = absurd (cc m)
  stays_in (Outside n) x h m = absurd (cc h)
  stays_in _ _ h m = absurd (cc h)

  pub none_by : (m : Bool) (n : ℕ) → (if true && m then 1 else 0) + n ≡ 0 → m ≡ false
  none_by true n e = absurd (omega (arith, e))
  none_by false n e = refl

  pub rest_none : (b : Bool) (n : ℕ) → (if b then 1 else 0) + n ≡ 0 → n ≡ 0
  rest_none true n e = omega (arith, e)
  rest_none false n e = omega (arith, e)

  -- data that never end are still being read at the end
  pub open_to_end : (s : Expected) (xs : List TapeItem) → is_in key s ≡ true → closings key s xs ≡ 0
      → is_in key (expected_after s xs) ≡ true
  open_to_end s [] h none = h
  open_to_end s (x ∷ xs) h none =
      let n = closings key (step s x).0 xs in
      let m : is_mark x ≡ false = none_by (is_mark x) n
      (ap (λ b. (if b && is_mark x then 1 else 0) + n) (sym h) ∙ none) in
      open_to_end (step s x).0 xs (stays_in s x h m)
      (rest_none (is_in key s && is_mark x) n none)

  pub no_number : (most : ℕ) (s : Expected) → is_in key s ≡ false → number_in key most s ≡ None
  no_number most (Data u) h =
      ap (λ (b : Bool). if b && nat_lt u.blocks most then Some u.blocks else None) h
  no_number most (Outside n) h = refl
  no_number most _ h = refl

  module _ (most : ℕ) (form : Option FileForm) where
    nothing_by : (b : Bool) (s : Expected) (g : Salvaged) (xs : List TapeItem) → is_in key s ≡ b
        → closings key s xs ≡ 0 → is_in key (expected_after s xs) ≡ false
        → (salvaged_from key most form s g xs ≡ g) × (text_from key most form s g xs ≡ [])
    nothing_by b s g [] is none end = (refl, refl)
    nothing_by true s g (x ∷ xs) is none end = absurd (cc (open_to_end s (x ∷ xs) is none, end))
    nothing_by false s g (x ∷ xs) is none end =
        let n = no_number most s is in
        let t = (step s x).0 in
        let rest = nothing_by (is_in key t) t g xs refl
        (rest_none (is_in key s && is_mark x) (closings key t xs) none) end in (
          ap (λ m. salvaged_from key most form t (salvaged_at form g m x) xs) n ∙ rest.0,
          ap (λ m. text_at key.sect form g m x
              ++ text_from key most form t (salvaged_at form g m x) xs) n ∙ rest.1,
        )

-- the data of the section do not end again
pub none_after : (key : SectionKey) (o : Expected) (items rest : List TapeItem)
    → EndsData o key items → closings key o (items ++ rest) ≡ 1
    → closings key (expected_after o items) rest ≡ 0
none_after key o items rest (front, is, at) once =
    let all = closings-append key o items rest in
    let first : closings key o items ≡ closings key o front + 1 =
    ap (closings key o) is ∙ closings-append key o front (mark ∷ [])
    ∙ ap (λ b. closings key o front + ((if b && true then 1 else 0) + 0)) at in
    omega (arith, once, all, first)

pub rest_has_nothing : RestHasNothing
rest_has_nothing key most form o items rest g ends once end =
    let s = expected_after o items in
    let none = none_after key o items rest ends once in
    let more = nothing_by key most form (is_in key s) s (salvaged_from key most form o g items) rest
    refl none (ap (is_in key) (sym (expected_after-append o items rest)) ∙ end) in (
      sym (salvaged_from-append key most form o g items rest ∙ more.0),
      sym (text_from-append key most form o g items rest
          ∙ ap (λ (l : List ℕ). text_from key most form o g items ++ l) more.1
          ∙ append-nil (text_from key most form o g items)),
    )
