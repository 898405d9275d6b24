-- The sections of a file, recovered one after another.
use Rattle.std.proofs.Common.{◌≡◌, ◌≢◌, inl, inr, ℕ, ◌+◌, ◌<◌, List, [], ◌∷◌, ◌++◌, length, Option}
use Rattle.std.proofs.Common.{None, refl, sym, ap, subst, ◌∙◌, arith, append_assoc, append-nil}
use Rattle.std.proofs.{Common.length-append, KnownBytes.Appends-nil}
use Rattle.std.specs.Io.KnownBytes.{Appends}
use Rattle.tape_set.specs.Lawful.{FileForm}
use Rattle.tape_set.proofs.Everywhere.{every-append}
use Rattle.tape_run.specs.declared.salvage.{Content.Content, ending.SectionEnd.SectionEnd}
use Rattle.tape_run.specs.declared.salvage.copies.SectionCopy.{SectionCopy}
use Rattle.tape_run.specs.declared.salvage.recovery.Recovery.{Recovery}
use Rattle.tape_run.specs.declared.salvage.ending.SectionEnd.TheVariants.{FileEnds, Continues}
use Rattle.tape_run.specs.{Reeling.Mounting, SalvageEnds.without_rest, SalvageEnds.no_section_text}
use Rattle.tape_run.specs.SalvageBlocks.{Salvaged, HasSalvaged, Recovers}
use Rattle.tape_run.specs.SalvageChoice.{firsts, IsBest, last_section, form_of_file}
use Rattle.tape_run.specs.SalvageTaking.{Taken, after_taken, taken_text, end_of_taken, AreTaken}
use Rattle.tape_run.specs.SalvageTaking.{MountsTaken, after_all, all_text, GoOn, last_end}
use Rattle.tape_run.specs.SalvageTaking.{TakesSection, TakesFile, at_last, last_text, next_section}
use Rattle.tape_run.proofs.SalvageOne.{recovers_then}

module _ {W L R : Type 0} (contents : W → Option (List ℕ)) (gives : Mounting L R)
    (remaining : R → Option (List ℕ)) (copies : List SectionCopy) (content : Content)
    (known : Option FileForm) where
  -- the sections up to a number were recovered, and none of them ended the file
  pub record TakenSoFar (n : ℕ) (end : SectionEnd) (shelf now : L) (old new : Recovery W)
      (said says : Option (List ℕ)) : Type 0 where
    pub taken : List Taken
    pub counted : length taken ≡ n
    pub took : AreTaken gives remaining copies content known 1 shelf taken now
    pub on : GoOn content known taken
    pub last : end ≡ last_end content known taken
    pub recovers : Recovers contents old new said says (after_all content known taken)
        (all_text content known 1 taken)

  pub none_taken : (shelf : L) (old : Recovery W) (said : Option (List ℕ))
      → TakenSoFar 0 Continues shelf shelf old old said said
  none_taken shelf old said = record {
    taken = [];
    counted = refl;
    took = refl;
    on = tt;
    last = refl;
    recovers = λ start g h. (h, Appends-nil said);
  }

  after_more : (ts : List Taken) (t : Taken) (g : Salvaged)
      → after_all content known (ts ++ t ∷ []) g
      ≡ after_taken content known t.copy t.items (after_all content known ts g)
  after_more [] t g = refl
  after_more (u ∷ ts) t g = after_more ts t (after_taken content known u.copy u.items g)

  text_more : (n : ℕ) (ts : List Taken) (t : Taken) (g : Salvaged)
      → all_text content known n (ts ++ t ∷ []) g ≡ all_text content known n ts g
      ++ taken_text content known (n + length ts) t.copy t.items (after_all content known ts g)
  text_more n [] t g =
      let at : n ≡ n + 0 = omega arith in
      append-nil (taken_text content known n t.copy t.items g)
      ∙ ap (λ m. taken_text content known m t.copy t.items g) at
  text_more n (u ∷ ts) t g =
      let at : n + 1 + length ts ≡ n + length (u ∷ ts) = omega arith in
      let z = after_taken content known u.copy u.items g in
      let a = taken_text content known n u.copy u.items g in
      ap (λ (l : List ℕ). a ++ l) (text_more (n + 1) ts t z
      ∙ ap (λ m. all_text content known (n + 1) ts z
      ++ taken_text content known m t.copy t.items (after_all content known ts z)) at)
      ∙ sym (append_assoc a (all_text content known (n + 1) ts z)
      (taken_text content known (n + length (u ∷ ts)) t.copy t.items
      (after_all content known ts z)))

  end_more : (ts : List Taken) (t : Taken)
      → last_end content known (ts ++ t ∷ []) ≡ end_of_taken content known t.copy t.items
  end_more [] t = refl
  end_more (u ∷ []) t = refl
  end_more (u ∷ v ∷ ts) t = end_more (v ∷ ts) t

  took_more : (n : ℕ) (ts : List Taken) (t : Taken) (shelf mid next : L)
      → AreTaken gives remaining copies content known n shelf ts mid
      → IsBest (firsts (n + length ts) None copies) t.copy
      → MountsTaken gives remaining content known t.copy mid next t.items
      → AreTaken gives remaining copies content known n shelf (ts ++ t ∷ []) next
  took_more n [] t shelf mid next same best mounts =
      let at : n + 0 ≡ n = omega arith in (
        next,
        subst (λ m. IsBest (firsts m None copies) t.copy) at best,
        subst (λ z. MountsTaken gives remaining content known t.copy z next t.items) same mounts,
        refl,
      )
  took_more n (u ∷ ts) t shelf mid next (z, best, mounts, rest) b m =
      let at : n + length (u ∷ ts) ≡ n + 1 + length ts = omega arith in (
        z,
        best,
        mounts,
        took_more (n + 1) ts t z mid next rest
            (subst (λ k. IsBest (firsts k None copies) t.copy) at b) m,
      )

  -- one more section, whatever follows it
  record OneTaken (n : ℕ) (s : List Taken) (t : Taken) (shelf next : L) (old new : Recovery W)
      (said says : Option (List ℕ)) : Type 0 where
    counted : length (s ++ t ∷ []) ≡ n + 1
    took : AreTaken gives remaining copies content known 1 shelf (s ++ t ∷ []) next
    last : last_end content known (s ++ t ∷ []) ≡ end_of_taken content known t.copy t.items
    recovers : Recovers contents old new said says (after_all content known (s ++ t ∷ []))
        (all_text content known 1 (s ++ t ∷ []))

  one_taken : (n : ℕ) (end next_end : SectionEnd) (shelf now next : L) (old mid new : Recovery W)
      (said w says : Option (List ℕ)) → (s : TakenSoFar n end shelf now old mid said w)
      → (t : TakesSection contents gives remaining copies content known (n + 1) now next mid new w
      says next_end) → OneTaken n s.taken t.taken shelf next old new said says
  one_taken n end next_end shelf now next old mid new said w says s t =
      let at : n + 1 ≡ 1 + length s.taken = omega (arith, s.counted) in
      let u = t.taken in
      record {
        counted = length-append s.taken (u ∷ []) ∙ ap (λ m. m + 1) s.counted;
        took = took_more 1 s.taken u shelf now next s.took
            (subst (λ m. IsBest (firsts m None copies) u.copy) at t.best) t.mounts;
        last = end_more s.taken u;
        recovers = λ start g h.
            let r = recovers_then contents old mid new said w says (after_all content known s.taken)
            (after_taken content known u.copy u.items) (all_text content known 1 s.taken)
            (taken_text content known (n + 1) u.copy u.items) s.recovers t.recovers start g h in (
              subst (HasSalvaged contents start new) (sym (after_more s.taken u g)) r.0,
              subst (Appends said says)
                  (ap (λ m. all_text content known 1 s.taken g
                  ++ taken_text content known m u.copy u.items
                  (after_all content known s.taken g)) at
                  ∙ sym (text_more 1 s.taken u g)) r.1,
            );
      }

  -- one more section, which does not end the file
  pub more_taken : (n : ℕ) (end next_end : SectionEnd) (shelf now next : L)
      (old mid new : Recovery W) (said w says : Option (List ℕ))
      → TakenSoFar n end shelf now old mid said w
      → TakesSection contents gives remaining copies content known (n + 1) now next mid new w says
      next_end → next_end ≢ FileEnds
      → TakenSoFar (n + 1) next_end shelf next old new said says
  more_taken n end next_end shelf now next old mid new said w says s t on =
      let o = one_taken n end next_end shelf now next old mid new said w says s t in
      let u = t.taken in
      record {
        taken = s.taken ++ u ∷ [];
        counted = o.counted;
        took = o.took;
        on = every-append (λ v. end_of_taken content known v.copy v.items ≢ FileEnds) s.taken
            (u ∷ [])
            s.on ((λ e. on (t.ends ∙ e)), tt);
        last = t.ends ∙ sym o.last;
        recovers = o.recovers;
      }

  -- the section that ends the file
  pub ends_file : (n : ℕ) (end next_end : SectionEnd) (shelf now next : L)
      (old mid new : Recovery W) (said w says : Option (List ℕ)) → n < last_section copies
      → TakenSoFar n end shelf now old mid said w
      → TakesSection contents gives remaining copies content known (n + 1) now next mid new w says
      next_end → next_end ≡ FileEnds → known ≡ form_of_file copies
      → TakesFile contents gives remaining copies content shelf next old new said says
  ends_file n end next_end shelf now next old mid new said w says within s t ends form =
      let o = one_taken n end next_end shelf now next old mid new said w says s t in
      let u = t.taken in
      let at_end : last_end content known (s.taken ++ u ∷ []) ≡ FileEnds =
      o.last ∙ sym t.ends ∙ ends in
      let all = s.taken ++ u ∷ [] in
      record {
        taken = all;
        took = subst (λ f. AreTaken gives remaining copies content f 1 shelf all next) form o.took;
        all = inr (
          s.taken,
          u,
          refl,
          subst (λ f. GoOn content f s.taken) form s.on,
          ap (λ f. end_of_taken content f u.copy u.items) (sym form) ∙ sym t.ends ∙ ends,
          omega (arith, o.counted, within),
        );
        recovers = subst (λ f. Recovers contents old new said says
            (λ g. at_last (last_end content f all) (after_all content f all g))
            (λ g. all_text content f 1 all g ++ last_text (last_end content f all)
            (next_section (length all)) (after_all content f all g))) form
            (λ start g h.
            let r = o.recovers start g h in (
              subst (λ e. HasSalvaged contents start new (at_last e (after_all content known all
                  g))) (sym at_end) r.0,
              subst (λ e. Appends said says (all_text content known 1 all g
                  ++ last_text e (next_section (length all)) (after_all content known all g)))
                  (sym at_end)
                  (subst (Appends said says) (sym (append-nil (all_text content known 1 all g)))
                  r.1),
            ));
      }

  -- all sections that were found; the last one says that the file continues
  pub continues_file : (n : ℕ) (end : SectionEnd) (shelf now : L) (old mid new : Recovery W)
      (said w says : Option (List ℕ)) → n ≡ last_section copies
      → TakenSoFar n end shelf now old mid said w → end ≡ Continues → known ≡ form_of_file copies
      → Recovers contents mid new w says without_rest (no_section_text (next_section n))
      → TakesFile contents gives remaining copies content shelf now old new said says
  continues_file n end shelf now old mid new said w says all so_far on form missed =
      let s = rw form at so_far in
      record {
        taken = s.taken;
        took = s.took;
        all = inl (s.on, s.counted ∙ all);
        recovers = rw (sym s.last ∙ on, s.counted) (recovers_then contents old mid new said w says
            (after_all content (form_of_file copies) s.taken) without_rest
            (all_text content (form_of_file copies) 1 s.taken) (no_section_text (next_section n))
            s.recovers missed);
      }
