-- The records recovered from a section of a valid set.
use Rattle.std.proofs.Common.{◌≡◌, ◌<◌, ◌≤◌, ℕ, ◌+◌, true, false, List, [], ◌∷◌, length, Option}
use Rattle.std.proofs.Common.{Some, None, refl, sym, ap, subst, ◌∙◌, arith, nat_lt}
use Rattle.std.proofs.lemmas.Bool.Decides.{nat_tests}
use Rattle.tape_image.specs.Tape.{TapeItem, block, bad, mark}
use Rattle.tape_set.specs.Lawful.{FileForm}
use Rattle.tape_run.specs.SalvageSections.{SectionRead, IsRead, key_of, read_blocks, read_section}
use Rattle.tape_run.specs.SalvageSections.{MayBegin, after_trailers, RecoversSectionOf}
use Rattle.tape_run.specs.{declared.salvage.walk.OpenSection.OpenSection, Noted.same_key}
use Rattle.tape_run.specs.{declared.salvage.walk.Expected.Expected, SalvageSections.PassesSection}
use Rattle.tape_run.specs.declared.section.SectionKey.{SectionKey}
use Rattle.tape_run.specs.SalvageImage.{salvaged_from, number_in}
use Rattle.tape_run.specs.SalvageWhole.{Blocks, piece_after}
use Rattle.tape_run.specs.declared.salvage.walk.Expected.TheVariants.{Outside, Second, Data, Next}
use Rattle.tape_run.specs.SalvageWalk.{step, with_item, with_data, with_unreadable}
use Rattle.tape_run.specs.SalvageBlocks.{Salvaged, salvaged_at, with_block, without_block}
use Rattle.tape_run.proofs.SalvageOpened.{section_after, one_more, long}
use Rattle.tape_run.proofs.SalvageSteps.{gathered, Walk, Quiet, first, quiet_data, section_walked}

-- the records recovered from an item, if this phase is expected
abbrev pub taken : SectionKey → ℕ → Option FileForm → Expected → Salvaged → TapeItem → Salvaged
taken key most form s g x = salvaged_at form g (number_in key most s) x

pub same_gathered : (key : SectionKey) (most : ℕ) (form : Option FileForm) (s : Expected)
    (g : Salvaged) (xs : List TapeItem)
    → salvaged_from key most form s g xs ≡ gathered (taken key most form) s g xs
same_gathered key most form s g [] = refl
same_gathered key most form s g (x ∷ xs) =
    same_gathered key most form (step s x).0 (taken key most form s g x) xs

none_yet : (key : SectionKey) (most : ℕ) (form : Option FileForm) (s : Expected) (g : Salvaged)
    (x : TapeItem) → MayBegin s → taken key most form s g x ≡ g
none_yet key most form (Outside n) g x may = refl
none_yet key most form Next g x may = refl
none_yet key most form (Second u) g x may = absurd may
none_yet key most form _ g x may = absurd may

pub quiet : (key : SectionKey) (most : ℕ) (form : Option FileForm) → Quiet (taken key most form)
quiet key most form = record {
  begin = none_yet key most form;
  second = λ u g x. refl;
  headers = λ u g x. refl;
  trailer = λ u g b t is closed. refl;
  trailers = λ u k g b. refl;
}

-- nothing is recovered from a mark
pub no_mark : (form : Option FileForm) (g : Salvaged) (n : Option ℕ) → salvaged_at form g n mark ≡ g
no_mark form g None = refl
no_mark form g (Some n) = refl

-- ---- data

-- the records recovered from these data items
unfoldable pub salvaged_blocks : Option FileForm → ℕ → Salvaged → Blocks → Salvaged
salvaged_blocks form n g [] = g
salvaged_blocks form n g ((true, f) ∷ bs) =
    salvaged_blocks form (n + 1) (with_block form f.bytes g) bs
salvaged_blocks form n g ((false, f) ∷ bs) = salvaged_blocks form (n + 1) (without_block n g) bs

pub piece_of : (form : FileForm) (n : ℕ) (g : Salvaged) (bs : Blocks)
    → (salvaged_blocks (Some form) n g bs).piece ≡ piece_after form g.piece bs
unfolding salvaged_blocks
piece_of form n g [] = refl
piece_of form n g ((true, f) ∷ bs) = piece_of form (n + 1) (with_block (Some form) f.bytes g) bs
piece_of form n g ((false, f) ∷ bs) = piece_of form (n + 1) (without_block n g) bs

pub is_number : (key : SectionKey) (most : ℕ) (u : OpenSection) → same_key u.key key ≡ true
    → u.blocks < most → number_in key most (Data u) ≡ Some u.blocks
is_number key most u same lt =
    let n : nat_lt u.blocks most ≡ true = grind (arith, nat_tests) in
    rw (same, n) refl

own_data : (key : SectionKey) (most : ℕ) (form : Option FileForm) (u : OpenSection) (g : Salvaged)
    (bs : Blocks) → same_key u.key key ≡ true → u.blocks + length bs ≤ most → most ≤ 4294967295
    → Walk (taken key most form) (Data u) g (read_blocks bs) (Data (section_after u bs))
    (salvaged_blocks form u.blocks g bs)
unfolding section_after salvaged_blocks
own_data key most form u g [] same few fits = record { after = refl; gives = refl }
own_data key most form u g ((true, f) ∷ bs) same few fits =
    let n = one_more u.blocks (omega (arith, few, fits)) in
    let v = with_data f.bytes u in
    let h = with_block form f.bytes g in
    first (taken key most form) (Data u) (Data v) (Data (section_after v bs)) g h
    (salvaged_blocks form (u.blocks + 1) h bs) (block f.bytes) (read_blocks bs) refl
    (ap (λ m. salvaged_at form g m (block f.bytes))
    (is_number key most u same (omega (arith, few))))
    (subst (λ m. Walk (taken key most form) (Data v) h (read_blocks bs) (Data (section_after v bs))
    (salvaged_blocks form m h bs)) n
    (own_data key most form v h bs same (omega (arith, n, few)) fits))
own_data key most form u g ((false, f) ∷ bs) same few fits =
    let n = one_more u.blocks (omega (arith, few, fits)) in
    let v = with_item (with_unreadable u) in
    let h = without_block u.blocks g in
    first (taken key most form) (Data u) (Data v) (Data (section_after v bs)) g h
    (salvaged_blocks form (u.blocks + 1) h bs) bad (read_blocks bs) refl
    (ap (λ m. salvaged_at form g m bad) (is_number key most u same (omega (arith, few))))
    (subst (λ m. Walk (taken key most form) (Data v) h (read_blocks bs) (Data (section_after v bs))
    (salvaged_blocks form m h bs)) n
    (own_data key most form v h bs same (omega (arith, n, few)) fits))

-- data of another section
no_number : (key : SectionKey) (most : ℕ) (u : OpenSection) → same_key u.key key ≡ false
    → number_in key most (Data u) ≡ None
no_number key most u same = rw same refl

-- ---- a section

pub own_walked : (key : SectionKey) (form : Option FileForm) (set_id : List ℕ) (volumes : ℕ)
    (r : SectionRead) (s : Expected) (g : Salvaged) → IsRead set_id volumes r → MayBegin s
    → same_key (key_of set_id r) key ≡ true
    → Walk (taken key (length r.blocks) form) s g (read_section r) (after_trailers r.trailers)
    (salvaged_blocks form 0 g r.blocks)
own_walked key form set_id volumes r s g read may same =
    let bs = r.blocks in
    let act = taken key (length bs) form in
    let h = salvaged_blocks form 0 g bs in
    let n = sym (long bs) ∙ ap length read.blocks in
    (section_walked act (quiet key (length bs) form) set_id volumes r s g h h (λ z k. h) read may
    (λ v k z. subst (λ m. Walk act (Data v) g (read_blocks bs) (Data (section_after v bs))
    (salvaged_blocks form m g bs)) z
    (own_data key (length bs) form v g bs (ap (λ c. same_key c key) k ∙ same) (omega (arith, z))
    (omega (arith, n, read.is.few))))
    (λ v k l. no_mark form h (number_in key (length bs) (Data v)))
    (λ z k. refl) (λ z k. refl)).walk

pub recovers_section_of : RecoversSectionOf
recovers_section_of set_id volumes r form key s g read may same =
    let n = length r.blocks in
    let w = own_walked key (Some form) set_id volumes r s g read may same in (
      w.after,
      ap (λ (d : Salvaged). d.piece)
          (same_gathered key n (Some form) s g (read_section r) ∙ w.gives)
          ∙ piece_of form 0 g r.blocks,
    )

pub other_walked : (key : SectionKey) (most : ℕ) (form : Option FileForm) (set_id : List ℕ)
    (volumes : ℕ) (r : SectionRead) (s : Expected) (g : Salvaged) → IsRead set_id volumes r
    → MayBegin s → same_key (key_of set_id r) key ≡ false
    → Walk (taken key most form) s g (read_section r) (after_trailers r.trailers) g
other_walked key most form set_id volumes r s g read may other =
    let none : (v : OpenSection) → v.key ≡ key_of set_id r → number_in key most (Data v) ≡ None =
    λ v k. no_number key most v (ap (λ c. same_key c key) k ∙ other) in
    (section_walked (taken key most form) (quiet key most form) set_id volumes r s g g g
    (λ z k. g) read may
    (λ v k z. quiet_data (taken key most form) (key_of set_id r) v g r.blocks k
    (λ u b e. ap (λ m. salvaged_at form g m (block b)) (none u e))
    (λ u e. ap (λ m. salvaged_at form g m bad) (none u e)))
    (λ v k l. no_mark form g (number_in key most (Data v)))
    (λ z k. refl) (λ z k. refl)).walk

pub passes_section : PassesSection
passes_section set_id volumes r form key most s g read may other =
    let w = other_walked key most (Some form) set_id volumes r s g read may other in
    (w.after, same_gathered key most (Some form) s g (read_section r) ∙ w.gives)
