-- A survey takes the next item of a copy of a volume of a valid set.
use Rattle.std.proofs.Common.{◌≡◌, inl, inr, ℕ, ◌+◌, Bool, true, false, List, [], ◌∷◌}
use Rattle.std.proofs.Common.{◌++◌, length, map, Option, Some, None, refl, sym, ap}
use Rattle.std.proofs.Common.{subst, ◌∙◌, arith, append_assoc, append-nil, if◌then◌else◌, not, ◌==◌}
use Rattle.std.proofs.Common.{◌||◌, eq-eqb}
use Rattle.std.specs.{List.AllByRecursion, Option.option_or}
use Rattle.tape_image.specs.Tape.{TapeItem, block, bad, mark}
use Rattle.tape_label.specs.declared.values.Kind.TheVariants as kinds
use Rattle.tape_label.specs.{Kinds.kind_at}
use Rattle.tape_label.specs.{WideHead2.is_further_header}
use Rattle.tape_label.specs.Reading.{head1_at, trail1_at, vol1_fields}
use Rattle.tape_label.proofs.First.{head1_again, trail1_again, vol1_kind}
use Rattle.tape_label.proofs.VolumeLabels.{volume_label_again, no_volume_label}
use Rattle.tape_label.proofs.{Apart.kind_again, Wide.strict_is_wide, Wide.wide_again}
use Rattle.tape_blocks.specs.Tight.{Filled}
use Rattle.tape_set.specs.Layout.{FileSet, Placed, Volume, Entry, a_label}
use Rattle.tape_set.specs.Layout.{a_mark, section_of, item_of}
use Rattle.tape_set.specs.Lawful.{IsLawful, IsVolumeLabel, label_count}
use Rattle.tape_set.proofs.{Forms.form_told, Forms.trailer_ends}
use Rattle.tape_run.specs.declared.{met.Met.Met, passing.Phase.Phase}
use Rattle.tape_run.specs.declared.section.SectionState.TheVariants.{Good, Bad, Count}
use Rattle.tape_run.specs.declared.passing.Phase.TheVariants as phases
use Rattle.tape_run.specs.Passing.{Told, met_by, with_block, volume_with, header_with}
use Rattle.tape_run.specs.Passing.{told, told_with, closes, cut}
use Rattle.tape_run.specs.{Onward.step, Onward.goes_on}
use Rattle.tape_run.specs.{SurveyGlance.label_in, SurveyGlance.trailer_head, SurveyFiles.form_in}
use Rattle.tape_run.specs.{WholeSet.key_in, CopySurveys.TrailerNames}
use Rattle.tape_run.specs.SurveyCopies.{good_told}
use Rattle.tape_run.proofs.CopyComing.{bytes_of, IsHeadOf, IsFineLabel, IsFineForm}
use Rattle.tape_run.proofs.CopyComing.{IsExactCopy, IsRead, Inside, AreOn, Coming, Stepped, stepped}
use Rattle.tape_run.proofs.CopyComing.{to_come, section_comes, first, others, label_read, mark_read}
use Rattle.tape_run.proofs.CopyComing.{no_head, no_trail, apart, not_labels, trailer_apart}
use Rattle.tape_run.proofs.CopyComing.{trailer_no_volume, fine_trailer, from_headers, from_data}
use Rattle.tape_set.proofs.Volumes.{IsOn}

module _ (set : FileSet) (k : ℕ) (lawful : IsLawful set) where
  -- ---- the labels of a section

  -- the HDR1 of a section
  head_of : (x : Placed) (is : IsOn set k x) → IsHeadOf set is.lawful.header.0
  head_of x is =
      let (h, header) = is.lawful.header in
      record {
        section = x.section;
        found = ap (λ f. section_of set f h.sect) header.file
            ∙ (ap (λ s. section_of set x.file s) header.sect ∙ is.found);
        own = h;
        hdr1 = header.label;
        of_set = header.set_id;
        file_id = refl;
        generation = refl;
        created = refl;
      }

  begun_key : (x : Placed) (u : List ℕ) (is : IsOn set k x)
      → (met_by u is.lawful.header.0).key ≡ key_in set x
  begun_key x u is =
      let (h, header) = is.lawful.header in
      rw (header.set_id, header.file, header.sect) refl

  -- the first label of a section where one may begin
  begins : (p : Phase) (u : List ℕ) (bs : List (List ℕ)) (x : Placed) (later : List Placed)
      (rest : List Entry) → (is : IsOn set k x) → TrailerNames x → AreOn set k later
      → step p (block x.section.hdr1) ≡ (phases.Second (met_by u is.lawful.header.0), None)
      → label_in p (block x.section.hdr1) ≡ Some is.lawful.header.0
      → form_in p (block x.section.hdr1) ≡ None
      → rest ≡ a_label x.section.hdr2 ∷ from_headers x.section.headers x later
      → Stepped set k p (block x.section.hdr1) rest bs
  begins p u bs x later rest is named all steps labels forms left =
      stepped set k p (block x.section.hdr1) rest bs
      (phases.Second (met_by u is.lawful.header.0)) steps
      (x, later, record { is = is; named = named; all = all; key = begun_key x u is }, refl, left)
      (subst (IsFineLabel set) (sym labels) (head_of x is))
      (subst (IsFineForm set) (sym forms) tt)

  -- ---- phases

  at_volume : (e : Entry) (rest : List Entry) (x : TapeItem) (bs : List (List ℕ))
      → Coming set k phases.Volume (e ∷ rest) bs → IsRead e x
      → Stepped set k phases.Volume x rest bs
  at_volume e rest x bs (v, later, is, all, es) r =
      let b = v.vol1 in
      subst (λ z. Stepped set k phases.Volume z rest bs) (sym (label_read e x b (first es) r))
      (stepped set k phases.Volume (block b) rest bs (phases.Labels (vol1_fields b).volume)
      (ap (λ l. goes_on phases.Volume (block b) (volume_with l, None)) (vol1_kind b is.vol1))
      (v.labels, later, is.labels, all, others es)
      (subst (λ z. IsFineLabel set (option_or z None)) (sym (no_head b (head1_at b) refl
      (apart b kinds.Vol1 kinds.Hdr1 is.vol1 (λ e. cc e)))) tt) tt)

  at_labels : (e : Entry) (rest : List Entry) (x : TapeItem) (bs : List (List ℕ)) (u : List ℕ)
      (ls : List (List ℕ)) (later : List Placed) → AllByRecursion IsVolumeLabel ls
      → AreOn set k later → e ∷ rest ≡ map a_label ls ++ to_come later → IsRead e x
      → Stepped set k (phases.Labels u) x rest bs
  at_labels e rest x bs u [] [] named all es r =
      subst (λ z. Stepped set k (phases.Labels u) z rest bs) (sym (mark_read e x (first es) r))
      (stepped set k (phases.Labels u) mark rest bs (phases.Next u) refl (inr (others es)) tt tt)
  at_labels e rest x bs u [] (y ∷ later) named ((is, names), all) es r =
      let b = y.section.hdr1 in
      let (h, header) = is.lawful.header in
      let it = es ∙ section_comes y later in
      let reads = head1_again b h header.label in
      let other = no_volume_label b kinds.Hdr1 header.label.kind (λ e. cc e) in
      subst (λ z. Stepped set k (phases.Labels u) z rest bs) (sym (label_read e x b (first it) r))
      (begins (phases.Labels u) u bs y later rest is names all
      (ap (λ c. goes_on (phases.Labels u) (block b)
      (if c then phases.Labels u else header_with u (head1_at b), None)) other
      ∙ ap (λ z. goes_on (phases.Labels u) (block b) (header_with u z, None)) reads)
      (rw reads refl) refl (others it))
  at_labels e rest x bs u (l ∷ ls) later (is, named) all es r =
      subst (λ z. Stepped set k (phases.Labels u) z rest bs) (sym (label_read e x l (first es) r))
      (stepped set k (phases.Labels u) (block l) rest bs (phases.Labels u)
      (ap (λ c. goes_on (phases.Labels u) (block l)
      (if c then phases.Labels u else header_with u (head1_at l), None))
      (volume_label_again l (is.size, is.named)))
      (ls, later, named, all, others es)
      (rw (
        no_head l (head1_at l) refl (not_labels l kinds.Hdr1 is (λ e. cc e)),
        no_trail l (trail1_at l) refl (trailer_no_volume l is),
      ) tt) tt)

  at_second : (e : Entry) (rest : List Entry) (x : TapeItem) (bs : List (List ℕ)) (met : Met)
      → Coming set k (phases.Second met) (e ∷ rest) bs → IsRead e x
      → Stepped set k (phases.Second met) x rest bs
  at_second e rest x bs met (y, later, i, none, es) r =
      let b = y.section.hdr2 in
      let (form, tells) = form_told set y.file lawful y.sect y.section i.is.found in
      let kind = kind_again b kinds.Hdr2 tells.hdr2.kind in
      let wide = wide_again b kinds.Hdr2 tells.second
      (strict_is_wide b kinds.Hdr2 tells.second tells.hdr2) in
      subst (λ z. Stepped set k (phases.Second met) z rest bs) (sym (label_read e x b (first es) r))
      (stepped set k (phases.Second met) (block b) rest bs (phases.Headers met)
      (second_step b kind (is_further_header b) refl)
      (y, later, y.section.headers, i, none, others es)
      (rw (no_head b (head1_at b) refl (apart b kinds.Hdr2 kinds.Hdr1 tells.hdr2.kind
      (λ e. cc e))) tt)
      (rw (kind, wide) (y.section, key_found, tells.hdr2)))
    where
      key_found : section_of set met.key.file met.key.sect ≡ Some y.section
      key_found = ap (λ z. section_of set z.file z.sect) i.key ∙ i.is.found

      second_step : (b : List ℕ) → kind_at b ≡ Some kinds.Hdr2 → (is : Bool)
          → is_further_header b ≡ is
          → step (phases.Second met) (block b) ≡ (phases.Headers met, None)
      second_step b kind true is = rw is refl
      second_step b kind false is = rw (is, kind) refl

  at_headers : (e : Entry) (rest : List Entry) (x : TapeItem) (bs : List (List ℕ)) (met : Met)
      (y : Placed) (later : List Placed) (hs : List (List ℕ)) → Inside set k met y later
      → met.blocks ≡ 0 → e ∷ rest ≡ from_headers hs y later → IsRead e x
      → Stepped set k (phases.Headers met) x rest bs
  at_headers e rest x bs met y later [] i none es r =
      subst (λ z. Stepped set k (phases.Headers met) z rest bs) (sym (mark_read e x (first es) r))
      (stepped set k (phases.Headers met) mark rest bs (phases.Data met) refl
      (y, later, y.section.blocks, i, omega (arith, none), (λ _. refl), others es) tt tt)
  at_headers e rest x bs met y later (h ∷ hs) i none es r =
      subst (λ z. Stepped set k (phases.Headers met) z rest bs)
      (sym (label_read e x h (first es) r))
      (stepped set k (phases.Headers met) (block h) rest bs (phases.Headers met) refl
      (y, later, hs, i, none, others es) tt tt)

  with_read : (bs cs : List (List ℕ)) (b : List ℕ) → bs ++ b ∷ cs ≡ (bs ++ b ∷ []) ++ cs
  with_read bs cs b = sym (append_assoc bs (b ∷ []) cs)

  not_bad : (a b : Bool) → (a || b) ≡ false → a ≡ false
  not_bad true b e = e
  not_bad false b e = refl

  never_fine : (a : Bool) → (a || true) ≡ false → ⊥
  never_fine true e = cc e
  never_fine false e = cc e

  same_inside : (met : Met) (x : Placed) (later : List Placed) (is_bad : Bool)
      → Inside set k met x later → Inside set k (with_block met is_bad) x later
  same_inside met x later is_bad i =
      record { is = i.is; named = i.named; all = i.all; key = i.key }

  at_data : (e : Entry) (rest : List Entry) (x : TapeItem) (bs : List (List ℕ)) (met : Met)
      (y : Placed) (later : List Placed) (ds : List Filled) → Inside set k met y later
      → met.blocks + length ds ≡ length y.section.blocks
      → (met.bad ≡ false → bs ++ bytes_of ds ≡ bytes_of y.section.blocks)
      → e ∷ rest ≡ from_data ds y later → IsRead e x
      → Stepped set k (phases.Data met) x rest bs
  at_data e rest x bs met y later [] i count same es r =
      subst (λ z. Stepped set k (phases.Data met) z rest bs) (sym (mark_read e x (first es) r))
      (stepped set k (phases.Data met) mark rest bs (phases.Trailer met) refl
      (y, later, i, omega (arith, count), (λ fine. sym (append-nil bs) ∙ same fine), others es)
      tt tt)
  at_data e rest x bs met y later (d ∷ ds) i count same es (inl is) =
      subst (λ z. Stepped set k (phases.Data met) z rest bs)
      (sym (is ∙ ap item_of (first es)))
      (stepped set k (phases.Data met) (block d.bytes) rest bs
      (phases.Data (with_block met false)) refl (
        y,
        later,
        ds,
        same_inside met y later false i,
        omega (arith, count),
        (λ fine. sym (with_read bs (bytes_of ds) d.bytes) ∙ same (not_bad met.bad false fine)),
        others es,
      ) tt tt)
  at_data e rest x bs met y later (d ∷ ds) i count same es (inr is) =
      subst (λ z. Stepped set k (phases.Data met) z rest bs) (sym is.1)
      (stepped set k (phases.Data met) bad rest bs (phases.Data (with_block met true)) refl (
        y,
        later,
        ds,
        same_inside met y later true i,
        omega (arith, count),
        (λ fine. absurd (never_fine met.bad fine)),
        others es,
      ) tt tt)

  -- the trailer label of a section
  exact_if : (t : Told) (bs : List (List ℕ)) (same is_bad : Bool)
      → t.1.state ≡ (if not same then Count else if is_bad then Bad else Good)
      → (is_bad ≡ false → IsExactCopy set (t, bs))
      → AllByRecursion (IsExactCopy set) (good_told (Some t) bs)
  exact_if t bs false is_bad is exact = rw is tt
  exact_if t bs true true is exact = rw is tt
  exact_if t bs true false is exact = rw is (exact refl, tt)

  at_trailer : (e : Entry) (rest : List Entry) (x : TapeItem) (bs : List (List ℕ)) (met : Met)
      → Coming set k (phases.Trailer met) (e ∷ rest) bs → IsRead e x
      → Stepped set k (phases.Trailer met) x rest bs
  at_trailer e rest x bs met (y, later, i, count, same, es) r =
      let b = y.section.trailer in
      let (h, header) = i.is.lawful.header in
      let (t, trailer) = i.is.lawful.trailer in
      let reads = trail1_again b t trailer.label in
      let file : t.head.sequence ≡ met.key.file = trailer.file ∙ sym (ap (λ z. z.file) i.key) in
      let sect : t.head.sect ≡ met.key.sect = trailer.sect ∙ sym (ap (λ z. z.sect) i.key) in
      let own : closes met t ≡ true =
      rw (eq-eqb t.head.sect met.key.sect sect, eq-eqb t.head.sequence met.key.file file) refl in
      let names = i.named h t (head1_again y.section.hdr1 h header.label) reads in
      let found : section_of set t.head.sequence t.head.sect ≡ Some y.section =
      ap (λ f. section_of set f t.head.sect) trailer.file
      ∙ (ap (λ s. section_of set y.file s) trailer.sect ∙ i.is.found) in
      let is : step (phases.Trailer met) (block b) ≡ (phases.Trailers met.volume, Some (told met t)) =
      ap (λ z. goes_on (phases.Trailer met) (block b) (told_with met z)) reads
      ∙ ap (λ c. goes_on (phases.Trailer met) (block b)
      (if c then (phases.Trailers met.volume, Some (told met t)) else (phases.Over, Some (cut met))))
      own in
      let is_head : IsHeadOf set (record t.head { set_id = met.key.set_id }) = record {
        section = y.section;
        found = found;
        own = h;
        hdr1 = header.label;
        of_set = ap (λ z. z.set_id) i.key;
        file_id = names.0;
        generation = names.1;
        created = names.2;
      } in
      let none = no_head b (head1_at b) refl (λ has. trailer_apart b kinds.Hdr1 has (λ e. cc e)
      (λ e. cc e) t.eof trailer.label.kind) in
      subst (λ z. Stepped set k (phases.Trailer met) z rest bs) (sym (label_read e x b (first es) r))
      (record {
        coming = subst (λ (s : Phase × Option Told). Coming set k s.0 rest bs) (sym is)
            (y.section.trailers, later, i.all, others es);
        label = rw none (subst (λ z. IsFineLabel set (trailer_head met z)) (sym reads)
            (subst (λ c. IsFineLabel set (if c then Some (record t.head { set_id = met.key.set_id })
            else None)) (sym own) is_head));
        form = tt;
        copy = subst (λ (s : Phase × Option Told). AllByRecursion (IsExactCopy set)
            (good_told s.1 bs)) (sym is) (exact_if (told met t) bs
            (t.blocks == label_count met.blocks) met.bad refl (λ fine. (
              y.section,
              ap (λ z. section_of set z.file z.sect) i.key ∙ i.is.found,
              count,
              same fine,
              trailer_ends y.section t trailer.label,
            )));
      })

  at_trailers : (e : Entry) (rest : List Entry) (x : TapeItem) (bs : List (List ℕ)) (u : List ℕ)
      (ts : List (List ℕ)) (later : List Placed) → AreOn set k later
      → e ∷ rest ≡ map a_label ts ++ (a_mark ∷ to_come later) → IsRead e x
      → Stepped set k (phases.Trailers u) x rest bs
  at_trailers e rest x bs u [] later all es r =
      subst (λ z. Stepped set k (phases.Trailers u) z rest bs) (sym (mark_read e x (first es) r))
      (stepped set k (phases.Trailers u) mark rest bs (phases.Next u) refl
      (inl (later, all, others es)) tt tt)
  at_trailers e rest x bs u (t ∷ ts) later all es r =
      subst (λ z. Stepped set k (phases.Trailers u) z rest bs)
      (sym (label_read e x t (first es) r))
      (stepped set k (phases.Trailers u) (block t) rest bs (phases.Trailers u) refl
      (ts, later, all, others es) tt (fine_trailer set (kind_at t)))

  at_next : (e : Entry) (rest : List Entry) (x : TapeItem) (bs : List (List ℕ)) (u : List ℕ)
      (later : List Placed) → AreOn set k later → e ∷ rest ≡ to_come later → IsRead e x
      → Stepped set k (phases.Next u) x rest bs
  at_next e rest x bs u [] all es r =
      subst (λ z. Stepped set k (phases.Next u) z rest bs) (sym (mark_read e x (first es) r))
      (stepped set k (phases.Next u) mark rest bs phases.Over refl (others es) tt tt)
  at_next e rest x bs u (y ∷ later) ((is, names), all) es r =
      let b = y.section.hdr1 in
      let (h, header) = is.lawful.header in
      let it = es ∙ section_comes y later in
      let reads = head1_again b h header.label in
      subst (λ z. Stepped set k (phases.Next u) z rest bs) (sym (label_read e x b (first it) r))
      (begins (phases.Next u) u bs y later rest is names all
      (ap (λ z. goes_on (phases.Next u) (block b) (header_with u z, None)) reads)
      (rw reads refl) refl (others it))

  -- ---- any phase

  pub takes : (p : Phase) (e : Entry) (rest : List Entry) (x : TapeItem) (bs : List (List ℕ))
      → Coming set k p (e ∷ rest) bs → IsRead e x → Stepped set k p x rest bs
  takes phases.Volume e rest x bs c r = at_volume e rest x bs c r
  takes (phases.Labels u) e rest x bs (ls, later, named, all, es) r =
      at_labels e rest x bs u ls later named all es r
  takes (phases.Second met) e rest x bs c r = at_second e rest x bs met c r
  takes (phases.Headers met) e rest x bs (y, later, hs, i, none, es) r =
      at_headers e rest x bs met y later hs i none es r
  takes (phases.Data met) e rest x bs (y, later, ds, i, count, same, es) r =
      at_data e rest x bs met y later ds i count same es r
  takes (phases.Trailer met) e rest x bs c r = at_trailer e rest x bs met c r
  takes (phases.Trailers u) e rest x bs (ts, later, all, es) r =
      at_trailers e rest x bs u ts later all es r
  takes (phases.Next u) e rest x bs (inl (later, all, es)) r = at_next e rest x bs u later all es r
  takes (phases.Next u) e rest x bs (inr es) r = absurd (cc es)
  takes phases.Over e rest x bs es r = absurd (cc es)
