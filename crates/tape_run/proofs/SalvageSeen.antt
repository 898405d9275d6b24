-- The copies found after some items of an image.
use Rattle.std.proofs.Common.{◌≡◌, ℕ, Bool, true, false, List, [], ◌∷◌, ◌++◌, Option, refl, sym, ap}
use Rattle.std.proofs.Common.{subst, ◌∙◌, append-nil, append_assoc, if◌then◌else◌}
use Rattle.tape_image.specs.{Tape.TapeItem, Begins.Walks, Reader.IfKnown}
use Rattle.tape_image.specs.Step.{TakesItem, TakesEnd, TakesFault}
use Rattle.tape_image.specs.declared.item.{Ending.Ending, ImageFault.ImageFault}
use Rattle.tape_image.proofs.Walks.{known_start, known_item, known_end, known_fault, IfKnown-map}
use Rattle.tape_run.specs.declared.salvage.walk.{Expected.Expected, Expected.TheVariants.Outside}
use Rattle.tape_run.specs.declared.salvage.copies.SectionCopy.{SectionCopy}
use Rattle.tape_run.specs.declared.section.ImageStop.{ImageStop, TheVariants.Fault}
use Rattle.tape_run.specs.Added.{StopsBehind, stop_at}
use Rattle.tape_run.proofs.{NotedSoFar.by_ending, SalvagedSoFar.expected_after-append}
use Rattle.tape_run.proofs.SalvageFound.{found_from-append}
use Rattle.tape_run.specs.SalvageWalk.{FoundAt, step, expected_after, found_from, in_list}
use Rattle.tape_run.specs.SalvageWalk.{open_section, sections_in, read_after, one_further}
use Rattle.tape_run.specs.SalvageCopies.{is_of, copy_of, of_file, FindsCopies}

module _ (set_id : List ℕ) (file image : ℕ) where
  abbrev its : List FoundAt → List SectionCopy
  its ts = of_file set_id file image ts

  its_by : (b : Bool) (t : FoundAt) (r s : List SectionCopy)
      → (if b then copy_of image t ∷ r ++ s else r ++ s)
      ≡ (if b then copy_of image t ∷ r else r) ++ s
  its_by true t r s = refl
  its_by false t r s = refl

  its-append : (xs ys : List FoundAt) → its (xs ++ ys) ≡ its xs ++ its ys
  its-append [] ys = refl
  its-append (t ∷ xs) ys =
      ap (λ (r : List SectionCopy). if is_of set_id file t.1 then copy_of image t ∷ r else r)
      (its-append xs ys)
      ∙ its_by (is_of set_id file t.1) t (its xs) (its ys)

  -- the items up to an index were read, and these copies were found
  pub record SoFar (all left : Option (List ℕ)) (place : ℕ) (expected : Expected) (read : ℕ)
      (old new : List SectionCopy) : Type 0 where
    pub items : List TapeItem
    pub known : IfKnown all left (λ xs ys. Walks 0 xs items place ys)
    pub expects : expected ≡ expected_after (Outside 0) items
    pub counts : read ≡ read_after 0 items
    pub seen : new ≡ old ++ its (found_from (Outside 0) 0 items)

  pub starts : (all left : Option (List ℕ)) (place : ℕ) (old : List SectionCopy) → place ≡ 0
      → left ≡ all → SoFar all left place (Outside 0) 0 old old
  starts all left place old first same =
      let P : ℕ → Type 0 = λ p. IfKnown all left (λ xs ys. Walks 0 xs [] p ys) in
      record {
        items = [];
        known = subst P (sym first) (known_start all left 0 same);
        expects = refl;
        counts = refl;
        seen = sym (append-nil old);
      }

  -- after further ones
  seen_more : (old mid new : List SectionCopy) (xs ys : List FoundAt) → mid ≡ old ++ its xs
      → new ≡ mid ++ its ys → new ≡ old ++ its (xs ++ ys)
  seen_more old mid new xs ys a b =
      b ∙ ap (λ (l : List SectionCopy). l ++ its ys) a ∙ append_assoc old (its xs) (its ys)
      ∙ ap (λ (l : List SectionCopy). old ++ l) (sym (its-append xs ys))

  read_after-append : (n : ℕ) (xs ys : List TapeItem)
      → read_after n (xs ++ ys) ≡ read_after (read_after n xs) ys
  read_after-append n [] ys = refl
  read_after-append n (x ∷ xs) ys = read_after-append (one_further n) xs ys

  pub one_more : (all left next : Option (List ℕ)) (p q : ℕ) (expected after : Expected)
      (read now : ℕ) (item : TapeItem) (old mid new : List SectionCopy)
      → SoFar all left p expected read old mid
      → IfKnown left next (TakesItem p item q) → after ≡ (step expected item).0
      → now ≡ one_further read → new ≡ mid ++ its (in_list read (step expected item).1)
      → SoFar all next q after now old new
  one_more all left next p q expected after read now item old mid new s takes e m n = record {
    items = s.items ++ item ∷ [];
    known = known_item all left next 0 p q s.items item s.known takes;
    expects = e ∙ (ap (λ z. (step z item).0) s.expects
        ∙ sym (expected_after-append (Outside 0) s.items (item ∷ [])));
    counts = m ∙ ap one_further s.counts ∙ sym (read_after-append 0 s.items (item ∷ []));
    seen =
        let o = expected_after (Outside 0) s.items in
        let r = read_after 0 s.items in
        let last = in_list r (step o item).1 in
        let found = found_from (Outside 0) 0 s.items in
        seen_more old mid new found last s.seen
        (n ∙ ap (λ z. mid ++ its (in_list read (step z item).1)) s.expects
        ∙ ap (λ c. mid ++ its (in_list c (step o item).1)) s.counts)
        ∙ ap (λ ts. old ++ its ts) (ap (λ l. found ++ l) (sym (append-nil last))
        ∙ sym (found_from-append (Outside 0) 0 s.items (item ∷ [])));
  }

  all_seen : (all left : Option (List ℕ)) (p : ℕ) (expected : Expected) (read : ℕ)
      (old mid new : List SectionCopy)
      → (s : SoFar all left p expected read old mid)
      → new ≡ mid ++ its (in_list read (open_section expected))
      → new ≡ old ++ its (sections_in s.items)
  all_seen all left p expected read old mid new s n =
      let o = expected_after (Outside 0) s.items in
      seen_more old mid new (found_from (Outside 0) 0 s.items)
      (in_list (read_after 0 s.items) (open_section o)) s.seen
      (n ∙ ap (λ z. mid ++ its (in_list read (open_section z))) s.expects
      ∙ ap (λ c. mid ++ its (in_list c (open_section o))) s.counts)

  pub at_end : (all left next : Option (List ℕ)) (p q : ℕ) (ending : Ending) (expected : Expected)
      (read : ℕ) (old mid new : List SectionCopy) → SoFar all left p expected read old mid
      → IfKnown left next (TakesEnd p [] ending q)
      → new ≡ mid ++ its (in_list read (open_section expected))
      → (stop : ImageStop) → stop ≡ stop_at ending
      → FindsCopies all next set_id file image stop old new
  at_end all left next p q ending expected read old mid new s takes n stop at =
      subst (λ z. FindsCopies all next set_id file image z old new) (sym at) (record {
        items = s.items;
        read = IfKnown-map all next (TakesEnd 0 s.items ending q)
            (StopsBehind s.items (stop_at ending)) (by_ending s.items ending q)
            (known_end all left next 0 p q s.items ending s.known takes);
        seen = all_seen all left p expected read old mid new s n;
      })

  pub at_fault : (all left next : Option (List ℕ)) (p : ℕ) (fault : ImageFault)
      (expected : Expected) (read : ℕ) (old mid new : List SectionCopy)
      → SoFar all left p expected read old mid
      → IfKnown left next (TakesFault p [] fault)
      → new ≡ mid ++ its (in_list read (open_section expected))
      → FindsCopies all next set_id file image (Fault fault) old new
  at_fault all left next p fault expected read old mid new s takes n = record {
    items = s.items;
    read = known_fault all left next 0 p s.items fault s.known takes;
    seen = all_seen all left p expected read old mid new s n;
  }
