-- For complete copies of a valid set's volumes nothing of the set is missing from the catalogue.
use Rattle.std.proofs.Common.{◌≡◌, ℕ, zero, suc, ◌+◌, ◌≤◌, Bool, true, false, List, [], ◌∷◌, length}
use Rattle.std.proofs.Common.{Option, Some, None, refl, sym, ap, ◌∙◌, arith, if◌then◌else◌, ◌&&◌}
use Rattle.std.proofs.Common.{not}
use Rattle.std.specs.{Prelude.⊤, List.AllByRecursion}
use Rattle.tape_set.specs.{Layout.Section, Layout.ends_file, Lawful.Ends}
use Rattle.tape_run.specs.{declared.section.SectionKey.SectionKey, declared.section.Entry.Entry}
use Rattle.tape_run.specs.{declared.section.SectionState.SectionState, Passing.Told}
use Rattle.tape_run.specs.Noted.{same_key, is_good, better, noted, noted_all}
use Rattle.tape_run.specs.Lacks.{entry_at, key_at, good_end, lack_by, first_lack, IsGoodAt}
use Rattle.tape_run.proofs.KeepingPlaces.{one_key}

-- ---- what each entry of the catalogue says

-- everything added for the key has this kind of trailer
abbrev pub KindIs : SectionKey → Bool → List Told → Type 0
KindIs key eof ts = AllByRecursion (λ t. t.0 ≡ key → t.1.eof ≡ eof) ts

better_kind : (a b : Entry) (c eof : Bool) → a.eof ≡ eof → b.eof ≡ eof
    → (if c then b else a).eof ≡ eof
better_kind a b true eof h g = g
better_kind a b false eof h g = h

noted_here : (x : Told) (xs : List Told) (t : Told) (key : SectionKey) (eof b : Bool)
    → same_key t.0 x.0 ≡ b → KindIs key eof (x ∷ xs) → (t.0 ≡ key → t.1.eof ≡ eof)
    → KindIs key eof (noted xs t)
    → KindIs key eof (if b then (x.0, better x.1 t.1) ∷ xs else x ∷ noted xs t)
noted_here x xs t key eof true e (h, hs) g rest = (
  λ same. better_kind x.1 t.1 (is_good t.1.state && not (is_good x.1.state)) eof (h same)
      (g (one_key t.0 x.0 e ∙ same)),
  hs,
)
noted_here x xs t key eof false e (h, hs) g rest = (h, rest)

noted_kind : (xs : List Told) (t : Told) (key : SectionKey) (eof : Bool) → KindIs key eof xs
    → (t.0 ≡ key → t.1.eof ≡ eof) → KindIs key eof (noted xs t)
noted_kind [] t key eof h g = (g, tt)
noted_kind (x ∷ xs) t key eof (h, hs) g =
    noted_here x xs t key eof (same_key t.0 x.0) refl (h, hs) g (noted_kind xs t key eof hs g)

pub noted_all_kind : (c ts : List Told) (key : SectionKey) (eof : Bool) → KindIs key eof c
    → KindIs key eof ts → KindIs key eof (noted_all c ts)
noted_all_kind c [] key eof h g = h
noted_all_kind c (t ∷ ts) key eof h (g, gs) =
    noted_all_kind (noted c t) ts key eof (noted_kind c t key eof h g) gs

-- and so has the entry of the key
found_here : (x : Told) (xs : List Told) (key : SectionKey) (eof b : Bool) (e : Entry)
    → same_key key x.0 ≡ b → KindIs key eof (x ∷ xs)
    → (if b then Some x.1 else entry_at xs key) ≡ Some e
    → (entry_at xs key ≡ Some e → e.eof ≡ eof) → e.eof ≡ eof
found_here x xs key eof true e is (h, hs) at rest =
    let same : x.1 ≡ e = cc in
    ap (λ (y : Entry). y.eof) (sym same) ∙ h (sym (one_key key x.0 is))
found_here x xs key eof false e is (h, hs) at rest = rest at

pub found_kind : (c : List Told) (key : SectionKey) (eof : Bool) (e : Entry) → KindIs key eof c
    → entry_at c key ≡ Some e → e.eof ≡ eof
found_kind [] key eof e h at = absurd (cc at)
found_kind (x ∷ xs) key eof e (h, hs) at =
    found_here x xs key eof (same_key key x.0) e refl (h, hs) at (found_kind xs key eof e hs)

-- ---- a file whose sections are all good

-- a good section with this kind of trailer
pub record GoodAs (c : List Told) (key : SectionKey) (eof : Bool) : Type 0 where
  pub good : IsGoodAt c key
  pub kind : KindIs key eof c

end_is : (c : List Told) (key : SectionKey) (eof : Bool) → GoodAs c key eof
    → good_end (entry_at c key) ≡ Some eof
end_is c key eof g =
    let e = g.good.entry in
    ap good_end g.good.there ∙ ap (λ (s : SectionState). if is_good s then Some e.eof else None)
    g.good.good ∙ ap (λ (b : Bool). Some b) (found_kind _ _ _ _ g.kind g.good.there)

-- the sections of a file, numbered from sect, are good, each with the kind of its own trailer
abbrev pub FileGood : List Told → List ℕ → ℕ → ℕ → List Section → Type 0
FileGood c set_id file sect [] = ⊤
FileGood c set_id file sect (s ∷ ss) = GoodAs c (key_at set_id file sect) (ends_file s)
    × FileGood c set_id file (sect + 1) ss

-- if the sections of a file are good, and it ends with the last of them, nothing of it is missing
pub whole_file : (c : List Told) (set_id : List ℕ) (file sect most : ℕ) (ss : List Section)
    → Ends ss → length ss ≤ most → FileGood c set_id file sect ss
    → first_lack c set_id file sect most ≡ None
whole_file c set_id file sect most [] ends few good = absurd ends
whole_file c set_id file sect zero (s ∷ ss) ends few good = absurd (omega arith)
whole_file c set_id file sect (suc most) (s ∷ []) ends few (g, gs) =
    ap (λ (o : Option Bool). lack_by o sect (first_lack c set_id file (sect + 1) most))
    (end_is c (key_at set_id file sect) (ends_file s) g ∙ ap (λ (b : Bool). Some b) ends)
whole_file c set_id file sect (suc most) (s ∷ t ∷ ss) (e, ends) few (g, gs) =
    ap (λ (o : Option Bool). lack_by o sect (first_lack c set_id file (sect + 1) most))
    (end_is c (key_at set_id file sect) (ends_file s) g ∙ ap (λ (b : Bool). Some b) e)
    ∙ whole_file c set_id file (sect + 1) most (t ∷ ss) ends (omega arith) gs
