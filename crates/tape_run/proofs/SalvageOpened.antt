-- A section of a valid set during the walk over its items: the effect of its labels and blocks.
use Rattle.std.proofs.Common.{◌≡◌, ◌<◌, ◌≤◌, ℕ, ◌+◌, Bool, true, false, List, [], ◌∷◌, suc, length}
use Rattle.std.proofs.Common.{Option, Some, None, Ok, Result, refl, ap, ◌∙◌, arith, if◌then◌else◌}
use Rattle.std.proofs.{Common.◌==◌, Common.min, Common.option_map, lemmas.Bool.Decides.nat_tests}
use Rattle.tape_image.specs.Tape.{block}
use Rattle.tape_label.specs.declared.values.{Kind.Kind, Head1.Head1, Head2.Head2, Trail1.Trail1}
use Rattle.tape_label.specs.declared.label.LabelFault.{LabelFault}
use Rattle.tape_label.specs.Reading.{head1_at, wide_head2_at, trail1_at}
use Rattle.tape_label.specs.Kinds.{kind_at}
use Rattle.tape_label.specs.declared.values.Kind.TheVariants as kinds
use Rattle.tape_set.specs.Lawful.{FileForm}
use Rattle.tape_run.specs.declared.salvage.walk.{OpenSection.OpenSection}
use Rattle.tape_run.specs.declared.salvage.walk.Expected.{Expected}
use Rattle.tape_run.specs.declared.section.SectionKey.{SectionKey}
use Rattle.tape_run.specs.declared.salvage.walk.Expected.TheVariants.{Outside, Second, Headers}
use Rattle.tape_run.specs.declared.salvage.walk.Expected.TheVariants.{Trailer, Trailers, Next}
use Rattle.tape_run.specs.SalvageWalk.{step, section_by, begun_by, with_item, with_data}
use Rattle.tape_run.specs.SalvageWalk.{with_unreadable, doubted, closes, closed_by, second_by}
use Rattle.tape_run.specs.SalvageWalk.{unclosed_by, with_trailer, unnamed_after, one_read, form_by}
use Rattle.tape_run.specs.SalvageWalk.{trailer_form, followed_by}
use Rattle.tape_run.specs.SalvageWalk.{form_or, with_second}
use Rattle.tape_run.specs.SalvageWhole.{Blocks, not_read}
use Rattle.tape_run.specs.SalvageSections.{Labels, filled_of, MayBegin, after_trailers}
use Rattle.tape_run.proofs.SalvageComing.{some_first}
use Rattle.tape_run.specs.SalvageWalk.{closing_of}

-- ---- labels

-- if a section may begin, its first label begins it
pub may_begin : (s : Expected) (b : List ℕ) (h : Head1) → MayBegin s → head1_at b ≡ Ok h
    → (step s (block b)).0 ≡ Second (section_by h)
may_begin (Outside n) b h may is = rw may (ap (λ r. begun_by r (unnamed_after n one_read)) is)
may_begin Next b h may is = ap (λ r. begun_by r (Outside 0)) is
may_begin (Second u) b h may is = absurd may
may_begin _ b h may is = absurd may

-- after its second label
pub record Heads (u : OpenSection) (k : Option Kind) (r : Result Head2 LabelFault) : Type 0 where
  pub section : OpenSection
  pub expects : second_by u k r ≡ Headers section
  pub same : section.key ≡ u.key
  pub none : section.blocks ≡ u.blocks
  pub after : section.after ≡ u.after
  pub unread : section.unreadable ≡ u.unreadable
  pub certain : section.certain ≡ u.certain
  pub form : k ≡ Some kinds.Hdr2 → section.form ≡ form_by u.file_id r

no_second : (u : OpenSection) (k : Option Kind) (r : Result Head2 LabelFault)
    → second_by u k r ≡ Headers u → (k ≡ Some kinds.Hdr2 → ⊥) → Heads u k r
no_second u k r e other = record {
  section = u;
  expects = e;
  same = refl;
  none = refl;
  after = refl;
  unread = refl;
  certain = refl;
  form = λ f. absurd (other f);
}

pub second_is : (u : OpenSection) (k : Option Kind) (r : Result Head2 LabelFault) → Heads u k r
second_is u None r = no_second u None r refl (λ e. absurd (cc e))
second_is u (Some kinds.Hdr2) r = record {
  section = record u { form = form_by u.file_id r };
  expects = refl;
  same = refl;
  none = refl;
  after = refl;
  unread = refl;
  certain = refl;
  form = λ e. refl;
}
second_is u (Some kinds.Vol1) r = no_second u (Some kinds.Vol1) r refl (λ e. absurd (cc e))
second_is u s r = no_second u s r refl (λ e. absurd (cc e))

-- its trailer label closes it
pub closes_it : (u : OpenSection) (t : Trail1) → t.head.sect ≡ u.key.sect
    → t.head.sequence ≡ u.key.file → closes u t ≡ true
closes_it u t s f =
    let a : (t.head.sect == u.key.sect) ≡ true = grind (arith, nat_tests) in
    let b : (t.head.sequence == u.key.file) ≡ true = grind (arith, nat_tests) in
    rw (a, b) refl

pub trailer_step : (u : OpenSection) (b : List ℕ) (t : Trail1) → trail1_at b ≡ Ok t
    → closes u t ≡ true → step (Trailer u) (block b) ≡ (Trailers u (closing_of u t), None)
trailer_step u b t is closed =
    ap (λ (r : Result Trail1 LabelFault). closed_by u (followed_by b u) r (head1_at b)) is
    ∙ ap (λ (c : Bool). (if c then (Trailers u (closing_of u t), None)
    else unclosed_by (followed_by b u) (head1_at b))) closed

pub key_is : (h : Head1) (set_id : List ℕ) (file sect : ℕ) → h.set_id ≡ set_id → h.sequence ≡ file
    → h.sect ≡ sect
    → (section_by h).key ≡ record { set_id = set_id; file = file; sect = sect }
key_is h set_id file sect a b c =
    let key : List ℕ → ℕ → ℕ → SectionKey = λ i f s. record { set_id = i; file = f; sect = s } in
    ap (λ (i : List ℕ). key i h.sequence h.sect) a ∙ ap (λ (f : ℕ). key set_id f h.sect) b
    ∙ ap (λ (s : ℕ). key set_id file s) c

pub may_after : (ls : Labels) → MayBegin (after_trailers ls)
may_after [] = tt
may_after ((true, b) ∷ ls) = may_after ls
may_after ((false, b) ∷ ls) = refl

-- ---- the section during the walk

-- a section after the labels that precede its data; the first of these labels is the second label
-- or follows it
unfoldable pub headed : OpenSection → Labels → OpenSection
headed u [] = u
headed u ((true, b) ∷ ls) = headed u ls
headed u ((false, b) ∷ ls) = headed (doubted u) ls

pub same_headed : (u : OpenSection) (ls : Labels) → (headed u ls).key ≡ u.key
unfolding headed
same_headed u [] = refl
same_headed u ((true, b) ∷ ls) = same_headed u ls
same_headed u ((false, b) ∷ ls) = same_headed (doubted u) ls

pub none_headed : (u : OpenSection) (ls : Labels) → (headed u ls).blocks ≡ u.blocks
unfolding headed
none_headed u [] = refl
none_headed u ((true, b) ∷ ls) = none_headed u ls
none_headed u ((false, b) ∷ ls) = none_headed (doubted u) ls

pub after_headed : (u : OpenSection) (ls : Labels) → (headed u ls).after ≡ u.after
unfolding headed
after_headed u [] = refl
after_headed u ((true, b) ∷ ls) = after_headed u ls
after_headed u ((false, b) ∷ ls) = after_headed (doubted u) ls

pub form_headed : (u : OpenSection) (ls : Labels) → (headed u ls).form ≡ u.form
unfolding headed
form_headed u [] = refl
form_headed u ((true, b) ∷ ls) = form_headed u ls
form_headed u ((false, b) ∷ ls) = form_headed (doubted u) ls

pub unread_headed : (u : OpenSection) (ls : Labels) → (headed u ls).unreadable ≡ u.unreadable
unfolding headed
unread_headed u [] = refl
unread_headed u ((true, b) ∷ ls) = unread_headed u ls
unread_headed u ((false, b) ∷ ls) = unread_headed (doubted u) ls

-- all of these labels were read
abbrev pub AllRead : Labels → Type 0
AllRead [] = Unit {0}
AllRead ((true, b) ∷ ls) = AllRead ls
AllRead ((false, b) ∷ ls) = ⊥

pub certain_headed : (u : OpenSection) (ls : Labels) → AllRead ls
    → (headed u ls).certain ≡ u.certain
unfolding headed
certain_headed u [] all = refl
certain_headed u ((true, b) ∷ ls) all = certain_headed u ls all
certain_headed u ((false, b) ∷ ls) all = absurd all

-- after these data items
unfoldable pub section_after : OpenSection → Blocks → OpenSection
section_after u [] = u
section_after u ((true, f) ∷ bs) = section_after (with_data f.bytes u) bs
section_after u ((false, f) ∷ bs) = section_after (with_item (with_unreadable u)) bs

pub same_section_after : (u : OpenSection) (bs : Blocks) → (section_after u bs).key ≡ u.key
unfolding section_after
same_section_after u [] = refl
same_section_after u ((true, f) ∷ bs) = same_section_after (with_data f.bytes u) bs
same_section_after u ((false, f) ∷ bs) = same_section_after (with_item (with_unreadable u)) bs

pub after_section : (u : OpenSection) (bs : Blocks) → (section_after u bs).after ≡ u.after
unfolding section_after
after_section u [] = refl
after_section u ((true, f) ∷ bs) = after_section (with_data f.bytes u) bs
after_section u ((false, f) ∷ bs) = after_section (with_item (with_unreadable u)) bs

pub form_section : (u : OpenSection) (bs : Blocks) → (section_after u bs).form ≡ u.form
unfolding section_after
form_section u [] = refl
form_section u ((true, f) ∷ bs) = form_section (with_data f.bytes u) bs
form_section u ((false, f) ∷ bs) = form_section (with_item (with_unreadable u)) bs

pub unread_section : (u : OpenSection) (bs : Blocks) → u.unreadable + length bs ≤ 4294967295
    → (section_after u bs).unreadable ≡ u.unreadable + not_read bs
unfolding section_after
unread_section u [] few = omega arith
unread_section u ((true, f) ∷ bs) few = unread_section (with_data f.bytes u) bs (omega (arith, few))
unread_section u ((false, f) ∷ bs) few =
    let n : min (u.unreadable + 1) 4294967295 ≡ u.unreadable + 1 = omega (arith, few) in
    let r = unread_section (with_item (with_unreadable u)) bs (omega (arith, n, few)) in
    omega (arith, n, r)

pub certain_section : (u : OpenSection) (bs : Blocks) → u.certain ≡ None → not_read bs ≡ 0
    → (section_after u bs).certain ≡ None
unfolding section_after
certain_section u [] e none = e
certain_section u ((true, f) ∷ bs) e none = certain_section (with_data f.bytes u) bs e none
certain_section u ((false, f) ∷ bs) e none = absurd (omega (arith, none))

pub doubt_section : (u : OpenSection) (bs : Blocks) → (section_after u bs).certain ≡ None
    → (u.certain ≡ None) × (not_read bs ≡ 0)
unfolding section_after
doubt_section u [] e = (e, refl)
doubt_section u ((true, f) ∷ bs) e = doubt_section (with_data f.bytes u) bs e
doubt_section u ((false, f) ∷ bs) e =
    let r = doubt_section (with_item (with_unreadable u)) bs e in
    absurd (some_first u.certain u.blocks r.0)

pub one_more : (n : ℕ) → n < 4294967295 → min (n + 1) 4294967295 ≡ n + 1
one_more n lt = omega (arith, lt)

pub counted : (u : OpenSection) (bs : Blocks) → u.blocks + length bs ≤ 4294967295
    → (section_after u bs).blocks ≡ u.blocks + length bs
unfolding section_after
counted u [] few = omega arith
counted u ((true, f) ∷ bs) few =
    let n = one_more u.blocks (omega (arith, few)) in
    let r = counted (with_data f.bytes u) bs (omega (arith, n, few)) in
    omega (arith, n, r)
counted u ((false, f) ∷ bs) few =
    let n = one_more u.blocks (omega (arith, few)) in
    let r = counted (with_item (with_unreadable u)) bs (omega (arith, n, few)) in
    omega (arith, n, r)

pub long : (bs : Blocks) → length (filled_of bs) ≡ length bs
long [] = refl
long (b ∷ bs) = ap suc (long bs)

-- after these labels following its trailer label, up to the first unreadable one
unfoldable pub trailed : OpenSection → Labels → OpenSection
trailed u [] = u
trailed u ((true, b) ∷ ls) = trailed (with_trailer u (kind_at b) (wide_head2_at b)) ls
trailed u ((false, b) ∷ ls) = with_second false u

pub same_trailed : (u : OpenSection) (ls : Labels) → (trailed u ls).key ≡ u.key
unfolding trailed
same_trailed u [] = refl
same_trailed u ((true, b) ∷ ls) = same_trailed (with_trailer u (kind_at b) (wide_head2_at b)) ls
same_trailed u ((false, b) ∷ ls) = refl

pub counted_trailed : (u : OpenSection) (ls : Labels) → (trailed u ls).blocks ≡ u.blocks
unfolding trailed
counted_trailed u [] = refl
counted_trailed u ((true, b) ∷ ls) =
    counted_trailed (with_trailer u (kind_at b) (wide_head2_at b)) ls
counted_trailed u ((false, b) ∷ ls) = refl

pub unread_trailed : (u : OpenSection) (ls : Labels)
    → ((trailed u ls).unreadable ≡ u.unreadable) × ((trailed u ls).certain ≡ u.certain)
unfolding trailed
unread_trailed u [] = (refl, refl)
unread_trailed u ((true, b) ∷ ls) = unread_trailed (with_trailer u (kind_at b) (wide_head2_at b)) ls
unread_trailed u ((false, b) ∷ ls) = (refl, refl)

pub after_trailed : (u : OpenSection) (ls : Labels) → u.after ≡ None → (trailed u ls).after ≡ None
unfolding trailed
after_trailed u [] e = e
after_trailed u ((true, b) ∷ ls) e = after_trailed (with_trailer u (kind_at b) (wide_head2_at b)) ls
    (ap (option_map (λ n. min (n + 1) 4294967295)) e)
after_trailed u ((false, b) ∷ ls) e = e

pub form_trailed : (u : OpenSection) (ls : Labels) (f : FileForm) → u.form ≡ Some f
    → (trailed u ls).form ≡ Some f
unfolding trailed
form_trailed u [] f e = e
form_trailed u ((true, b) ∷ ls) f e =
    form_trailed (with_trailer u (kind_at b) (wide_head2_at b)) ls f
    (ap (λ o. form_or o (trailer_form u.file_id (kind_at b) (wide_head2_at b))) e)
form_trailed u ((false, b) ∷ ls) f e = e
