-- A section whose data have not begun, before and after an item.
use Rattle.std.proofs.Common.{◌≡◌, ℕ, ◌-◌, ◌==◌, Bool, true, false, Option, Some, None, Result, Ok}
use Rattle.std.proofs.Common.{Err, refl, sym, subst, ◌∙◌, if◌then◌else◌, nat_lt}
use Rattle.tape_image.specs.Tape.{TapeItem, block, bad, mark}
use Rattle.tape_label.specs.declared.values.{Kind.Kind, Head1.Head1, Trail1.Trail1}
use Rattle.tape_label.specs.declared.label.LabelFault.{LabelFault}
use Rattle.tape_label.specs.declared.values.Kind.TheVariants as kinds
use Rattle.tape_label.specs.Reading.{head1_at, wide_head2_at, trail1_at}
use Rattle.tape_label.specs.{Kinds.kind_at, WideHead2.is_further_header}
use Rattle.tape_set.specs.Lawful.{label_count}
use Rattle.tape_run.specs.declared.salvage.walk.{OpenSection.OpenSection, UnnamedItems.UnnamedItems}
use Rattle.tape_run.specs.declared.salvage.walk.Expected.{Expected}
use Rattle.tape_run.specs.declared.salvage.copies.SectionCopy.{SectionCopy}
use Rattle.tape_run.specs.declared.section.SectionKey.{SectionKey}
use Rattle.tape_run.specs.{Noted.same_key, SalvageCopies.start_of}
use Rattle.tape_run.specs.declared.salvage.walk.Expected.TheVariants.{Outside, Second, Headers}
use Rattle.tape_run.specs.declared.salvage.walk.Expected.TheVariants.{Data, Trailer, Trailers, Next}
use Rattle.tape_run.specs.declared.salvage.walk.Expected.TheVariants.{Over, Skipping, Unnamed}
use Rattle.tape_run.specs.declared.salvage.walk.Expected.TheVariants.{UnnamedTrailer}
use Rattle.tape_run.specs.SalvageWalk.{with_second, followed_by}
use Rattle.tape_run.specs.SalvageWalk.{step, begun_by, closed_by, unnamed_by, goes_on_by, skipping}
use Rattle.tape_run.specs.SalvageWalk.{unnamed_after, one_read, closes, named_by, unclosed_by}
use Rattle.tape_run.specs.SalvageImage.{is_in, read_in}
use Rattle.tape_run.proofs.SalvageOpened.{second_is}
use Rattle.tape_run.specs.SalvageWalk.{closing_of}

-- ---- a section whose data have not begun

module _ (key : SectionKey) where
  -- no data item of an open section was read, and the data of this section have not ended
  abbrev pub Fresh : Expected → Type 0
  Fresh (Second u) = u.blocks ≡ 0
  Fresh (Headers u) = u.blocks ≡ 0
  Fresh (Skipping n u) = u.blocks ≡ 0
  Fresh (Trailer u) = same_key u.key key ≡ false
  Fresh _ = Unit {0}

  -- the data of this section are not being read, or begin
  abbrev pub Begins : Expected → Type 0
  Begins t = Fresh t × (read_in key t ≡ 0)

  none_if : (b : Bool) (n : ℕ) → n ≡ 0 → (if b then n else 0) ≡ 0
  none_if true n e = e
  none_if false n e = refl

  none_off : (b : Bool) (n : ℕ) → b ≡ false → (if b then n else 0) ≡ 0
  none_off true n e = absurd (cc e)
  none_off false n e = refl

  begun : (r : Result Head1 LabelFault) (t : Expected) → Begins t → Begins (begun_by r t)
  begun (Ok h) t rest = (refl, refl)
  begun (Err f) t rest = rest

  unnamed : (b : Bool) (r : UnnamedItems) → Begins (if b then Unnamed r else Outside 0)
  unnamed true r = (tt, refl)
  unnamed false r = (tt, refl)

  goes_on : (k : Option Kind) → Begins (goes_on_by k)
  goes_on None = (tt, refl)
  goes_on (Some kinds.Vol1) = (tt, refl)
  goes_on _ = (tt, refl)

  either : (b : Bool) (t u : Expected) → Begins t → Begins u → Begins (if b then t else u)
  either true t u x y = x
  either false t u x y = y

  skips : (n : ℕ) (u : OpenSection) → u.blocks ≡ 0 → Begins (skipping n u)
  skips n u e = either (n == 0) (Data u) (Skipping n u)
      (tt, none_if (same_key u.key key) u.blocks e) (e, refl)

  closed : (u w : OpenSection) (r : Result Trail1 LabelFault) (h : Result Head1 LabelFault)
      → Begins (closed_by u w r h).0
  closed u w (Err f) h = begun h (Outside 0) (tt, refl)
  closed u w (Ok t) h = chosen (closes u t)
    where
      chosen : (b : Bool) → Begins (if b
          then (Trailers u (closing_of u t), None)
          else unclosed_by w h).0
      chosen true = (tt, refl)
      chosen false = begun h (Outside 0) (tt, refl)

  named : (r : UnnamedItems) (l : Result Trail1 LabelFault) (h : Result Head1 LabelFault)
      → Begins (unnamed_by r l h)
  named r (Err f) h = begun h (Unnamed one_read) (tt, refl)
  named r (Ok t) h = either (t.blocks == label_count r.items)
      (Trailers (named_by r t) (closing_of (named_by r t) t))
      (begun_by h (Unnamed one_read)) (tt, refl) (begun h (Unnamed one_read) (tt, refl))

  -- after an item that is not a data item of this section
  pub enters : (s : Expected) (x : TapeItem) → Fresh s → is_in key s ≡ false → Begins (step s x).0
  enters (Outside n) (block b) fresh off = either (nat_lt n 2)
      (begun_by (head1_at b) (unnamed_after n one_read)) (goes_on_by (kind_at b))
      (begun (head1_at b) (unnamed_after n one_read) (unnamed (n == 1) one_read))
      (goes_on (kind_at b))
  enters (Outside n) bad fresh off = either (nat_lt n 2) (unnamed_after n _) (Outside n)
      (unnamed (n == 1) _) (tt, refl)
  enters (Outside n) mark fresh off = either (n == 0) (Outside 1) _ (tt, refl)
      (either (n == 1) (Outside 2) Over (tt, refl) (tt, refl))
  enters (Second u) (block b) fresh off =
      let two = second_is (with_second (is_further_header b) u) (kind_at b) (wide_head2_at b) in
      subst Begins (sym two.expects) (two.none ∙ fresh, refl)
  enters (Second u) bad fresh off = (fresh, refl)
  enters (Second u) mark fresh off = (tt, none_if (same_key u.key key) u.blocks fresh)
  enters (Headers u) (block b) fresh off = (fresh, refl)
  enters (Headers u) bad fresh off = (fresh, refl)
  enters (Headers u) mark fresh off = (tt, none_if (same_key u.key key) u.blocks fresh)
  enters (Data u) (block b) fresh off = (tt, none_off (same_key u.key key) _ off)
  enters (Data u) bad fresh off = (tt, none_off (same_key u.key key) _ off)
  enters (Data u) mark fresh off = (off, none_off (same_key u.key key) u.blocks off)
  enters (Trailer u) (block b) fresh off = closed u (followed_by b u) (trail1_at b) (head1_at b)
  enters (Trailer u) bad fresh off = (tt, refl)
  enters (Trailers u k) (block b) fresh off = (tt, refl)
  enters Next (block b) fresh off = begun (head1_at b) (Outside 0) (tt, refl)
  enters (Unnamed r) (block b) fresh off = begun (head1_at b) (Unnamed _) (tt, refl)
  enters (UnnamedTrailer r) (block b) fresh off = named r (trail1_at b) (head1_at b)
  enters (Skipping n u) x fresh off = skips (n - 1) u fresh
  enters _ _ fresh off = (tt, refl)

  pub not_read : (s : Expected) → Fresh s → is_in key s ≡ false → read_in key s ≡ 0
  not_read (Data u) fresh off = none_off (same_key u.key key) u.blocks off
  not_read (Trailer u) fresh off = none_off (same_key u.key key) u.blocks fresh
  not_read (Outside n) fresh off = refl
  not_read _ fresh off = refl

  pub starts : (c : SectionCopy) → Begins (start_of c)
  starts c = by c.skip
    where
      by : (o : Option ℕ) → Begins (start_of (record c { skip = o }))
      by None = (tt, refl)
      by (Some n) = skips n (record c.section { blocks = 0 }) refl
