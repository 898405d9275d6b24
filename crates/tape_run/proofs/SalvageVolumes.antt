-- The walk over a volume of a valid set, and the records recovered from it.
use Rattle.std.proofs.Common.{◌≡◌, ℕ, true, false, List, [], ◌∷◌, ◌++◌, length, Some, Ok, Result}
use Rattle.std.proofs.Common.{Err, refl, sym, ap, subst, ◌∙◌, append_assoc}
use Rattle.std.specs.List.{AllByRecursion}
use Rattle.tape_image.specs.Tape.{TapeItem, mark}
use Rattle.tape_label.specs.declared.values.Kind.TheVariants as kinds
use Rattle.tape_label.specs.declared.{values.Head1.Head1, label.LabelFault.LabelFault}
use Rattle.tape_label.specs.{Kinds.HasKind, Reading.head1_at}
use Rattle.tape_label.proofs.{First.head1_found, Apart.HasKind-unique}
use Rattle.tape_label.proofs.VolumeLabels.{volume_label_again, no_volume_label}
use Rattle.tape_set.specs.{Layout.Volume, Lawful.IsVolume, Lawful.IsVolumeLabel, Lawful.FileForm}
use Rattle.tape_run.specs.declared.salvage.walk.{Expected.Expected, Expected.TheVariants.Outside}
use Rattle.tape_run.specs.declared.section.SectionKey.{SectionKey}
use Rattle.tape_run.specs.{Noted.same_key, SalvageWalk.step, SalvageBlocks.Salvaged}
use Rattle.tape_run.specs.SalvageImage.{salvaged_from}
use Rattle.tape_run.specs.SalvageSections.{Labels, labels_of, read_labels, SectionRead, IsNoHead}
use Rattle.tape_run.specs.SalvageSections.{AreNoHeads, IsRead, IsOther, MayBegin, after_trailers}
use Rattle.tape_run.specs.SalvageSections.{read_section, read_sections, read_volume, AreLabels}
use Rattle.tape_run.specs.SalvageSections.{RecoversFromVolume, key_of}
use Rattle.tape_run.proofs.SalvageOpened.{may_after}
use Rattle.tape_run.proofs.SalvageSteps.{Walk, Quiet, follow, one, outside}
use Rattle.tape_run.proofs.SalvageSections.{taken, same_gathered, quiet, own_walked, other_walked}
use Rattle.tape_run.proofs.SalvageSections.{salvaged_blocks, piece_of}

-- ---- its labels

no_head : (b : List ℕ) (r : Result Head1 LabelFault) → head1_at b ≡ r
    → (HasKind b kinds.Hdr1 → ⊥) → IsNoHead b
no_head b (Err f) e not = (f, e)
no_head b (Ok h) e not = absurd (not (head1_found b h e).kind)

vol1_no_head : (b : List ℕ) → HasKind b kinds.Vol1 → IsNoHead b
vol1_no_head b has = no_head b (head1_at b) refl
    (λ h. absurd (let e = HasKind-unique b kinds.Vol1 kinds.Hdr1 has h in cc))

label_no_head : (b : List ℕ) → IsVolumeLabel b → IsNoHead b
label_no_head b is = no_head b (head1_at b) refl
    (λ h. absurd (let e = no_volume_label b kinds.Hdr1 h (λ e. absurd (cc)) in
    let f = volume_label_again b (is.size, is.named) in cc))

labels_no_heads : (ls : Labels) (bs : List (List ℕ)) → labels_of ls ≡ bs
    → AllByRecursion IsVolumeLabel bs → AreNoHeads ls
labels_no_heads [] bs e all = tt
labels_no_heads ((true, b) ∷ ls) [] e all = absurd (cc e)
labels_no_heads ((false, b) ∷ ls) [] e all = absurd (cc e)
labels_no_heads ((true, b) ∷ ls) (c ∷ bs) e (is, all) =
    let h : c ≡ b = cc in
    let t : labels_of ls ≡ bs = cc in
    (subst IsNoHead h (label_no_head c is), labels_no_heads ls bs t all)
labels_no_heads ((false, b) ∷ ls) (c ∷ bs) e (is, all) =
    let t : labels_of ls ≡ bs = cc in labels_no_heads ls bs t all

pub volume_no_heads : (v : Volume) (ls : Labels) → IsVolume v → AreLabels v ls → AreNoHeads ls
volume_no_heads v [] is e = absurd (cc e)
volume_no_heads v ((true, b) ∷ ls) is e =
    let h : v.vol1 ≡ b = cc in
    let t : labels_of ls ≡ v.labels = cc in
    (subst IsNoHead h (vol1_no_head v.vol1 is.vol1), labels_no_heads ls v.labels t is.labels)
volume_no_heads v ((false, b) ∷ ls) is e =
    let t : labels_of ls ≡ v.labels = cc in labels_no_heads ls v.labels t is.labels

-- ---- its sections

sections_append : (rs qs : List SectionRead)
    → read_sections (rs ++ qs) ≡ read_sections rs ++ read_sections qs
sections_append [] qs = refl
sections_append (r ∷ rs) qs =
    ap (λ (l : List TapeItem). read_section r ++ l) (sections_append rs qs)
    ∙ sym (append_assoc (read_section r) (read_sections rs) (read_sections qs))

module _ {A : Type 0} (act : Expected → A → TapeItem → A) (q : Quiet act) (set_id : List ℕ)
    (volumes : ℕ) (key : SectionKey) where
  -- nothing is recovered from other sections
  abbrev pub PassesOthers : Type 0
  PassesOthers = (r : SectionRead) (s : Expected) (a : A) → IsRead set_id volumes r → MayBegin s
      → IsOther set_id key r → Walk act s a (read_section r) (after_trailers r.trailers) a

  -- further sections may begin after these
  record Passed (s : Expected) (a : A) (xs : List TapeItem) : Type 0 where
    last : Expected
    may : MayBegin last
    walk : Walk act s a xs last a

  others : PassesOthers → (s : Expected) (a : A) (rs : List SectionRead) → MayBegin s
      → AllByRecursion (IsRead set_id volumes) rs → AllByRecursion (IsOther set_id key) rs
      → Passed s a (read_sections rs)
  others pass s a [] may read other =
      record { last = s; may = may; walk = record { after = refl; gives = refl } }
  others pass s a (r ∷ rs) may (m, read) (o, other) =
      let t = after_trailers r.trailers in
      let rest = others pass t a rs (may_after r.trailers) read other in
      record {
        last = rest.last;
        may = rest.may;
        walk = follow act s t rest.last a a a (read_section r) (read_sections rs)
            (pass r s a m may o) rest.walk;
      }

  pub record VolumeWalked (a : A) (xs : List TapeItem) (b : A) : Type 0 where
    pub last : Expected
    pub may : MayBegin last
    pub walk : Walk act (Outside 0) a xs (step last mark).0 b

  pub volume_walked : PassesOthers → (v : Volume) (ls : Labels) (before : List SectionRead)
      (r : SectionRead) (rest : List SectionRead) (a b : A) → IsVolume v → AreLabels v ls
      → AllByRecursion (IsRead set_id volumes) before → AllByRecursion (IsOther set_id key) before
      → AllByRecursion (IsRead set_id volumes) rest → AllByRecursion (IsOther set_id key) rest
      → ((s : Expected) → MayBegin s → Walk act s a (read_section r) (after_trailers r.trailers) b)
      → VolumeWalked a (read_volume ls (before ++ r ∷ rest)) b
  volume_walked pass v ls before r rest a b is labels read other read' other' own =
      let o = Outside 0 in
      let t = after_trailers r.trailers in
      let front = others pass o a before refl read other in
      let back = others pass t b rest (may_after r.trailers) read' other' in
      let z = (step back.last mark).0 in
      let both = follow act o front.last back.last a a b (read_sections before)
      (read_section r ++ read_sections rest) front.walk
      (follow act front.last t back.last a b b (read_section r) (read_sections rest)
      (own front.last front.may) back.walk) in
      let all = subst (λ l. Walk act o a l back.last b) (sym (sections_append before (r ∷ rest)))
      both in
      record {
        last = back.last;
        may = back.may;
        walk = follow act o o z a a b (read_labels ls) _
            (outside act q a ls (volume_no_heads v ls is labels))
            (follow act o back.last z a b b (read_sections (before ++ r ∷ rest)) (mark ∷ []) all
            (one act back.last z b b mark refl (q.begin back.last b mark back.may)));
      }

-- ---- what is recovered

pub volume_salvaged : (set_id : List ℕ) (volumes : ℕ) (v : Volume) (ls : Labels)
    (before : List SectionRead) (r : SectionRead) (rest : List SectionRead) (form : FileForm)
    (key : SectionKey) (g : Salvaged) → IsVolume v → AreLabels v ls
    → AllByRecursion (IsRead set_id volumes) before → AllByRecursion (IsOther set_id key) before
    → AllByRecursion (IsRead set_id volumes) rest → AllByRecursion (IsOther set_id key) rest
    → IsRead set_id volumes r → same_key (key_of set_id r) key ≡ true
    → salvaged_from key (length r.blocks) (Some form) (Outside 0) g
    (read_volume ls (before ++ r ∷ rest)) ≡ salvaged_blocks (Some form) 0 g r.blocks
volume_salvaged set_id volumes v ls before r rest form key g is labels read other read' other' own
    same =
    let n = length r.blocks in
    let f = Some form in
    let act = taken key n f in
    let h = salvaged_blocks f 0 g r.blocks in
    let w = volume_walked act (quiet key n f) set_id volumes key
    (λ x s a m may o. other_walked key n f set_id volumes x s a m may o) v ls before r rest g h is
    labels read other read' other'
    (λ s may. own_walked key f set_id volumes r s g own may same) in
    same_gathered key n f (Outside 0) g (read_volume ls (before ++ r ∷ rest)) ∙ w.walk.gives

pub recovers_from_volume : RecoversFromVolume
recovers_from_volume set_id volumes v ls before r rest form key g is labels read other read' other'
    own same = ap (λ (d : Salvaged). d.piece)
    (volume_salvaged set_id volumes v ls before r rest form key g is labels read other read' other'
    own same) ∙ piece_of form 0 g r.blocks
