-- The worked history, by computation: its set is valid, and it satisfies the premises of the
-- headline.
use Rattle.std.proofs.Common.{◌≡◌, ℕ, List, Option, [], ◌∷◌, true, false, refl, sym, ap, ◌∙◌, subst}
use Rattle.std.proofs.Common.{codes, lit≤, lit<, None}
use Rattle.tape_set.proofs.Worked as w
use Rattle.tape_set.proofs.{Worked.made_section, Worked.made_form, WorkedFile.fit_of}
use Rattle.tape_set.proofs.WorkedSpan as sp
use Rattle.tape_set.specs.{Layout.FileSet, Lawful.IsLawful, Position.want_at}
use Rattle.tape_run.specs.WorkedHistory.{worked_set, worked_steps, worked_reels, worked_history}
use Rattle.tape_run.specs.{History.Course, History.IsHistory, Given.failed_of, Seen.Seen}
use Rattle.tape_run.specs.Headline.{IsRead}
use Rattle.tape_run.specs.WorkedHistory.{HistoryIsWorked, first, middle, last}
use Rattle.tape_run.proofs.WorkedReels.{whole_1, whole_2, cut_1, bad_0, bad_1, short_2, blank}
use Rattle.tape_run.proofs.{Back.none_failed, Back.none_of, WorkedReels.other}

-- ---- the set is lawful

abbrev made : FileSet
made = record {
  set_id = w.set_id;
  volumes = w.plain_volume ∷ w.plain_volume ∷ [];
  files =
      (w.made sp.shape 1 1 1 false (sp.first_block ∷ sp.middle_block ∷ [])
      ∷ w.made sp.shape 2 1 2 true (sp.last_block ∷ []) ∷ []) ∷ [];
}

is_made : made ≡ worked_set
is_made = refl

made_lawful : IsLawful made
made_lawful = record {
  volumes = (w.plain_volume_is, (w.plain_volume_is, tt));
  each = (
    made_section sp.shape 2 1 1 1 false (sp.first_block ∷ sp.middle_block ∷ []) sp.shape_fits
        (fit_of 1 2 (lit≤ tt) (lit≤ tt) (lit≤ tt))
        (lit≤ tt) (lit≤ tt) ((lit< tt, lit≤ tt), ((lit< tt, lit≤ tt), tt)),
    (
      made_section sp.shape 2 2 1 2 true (sp.last_block ∷ []) sp.shape_fits
          (fit_of 2 1 (lit≤ tt) (lit≤ tt) (lit≤ tt)) (lit≤ tt) (lit≤ tt) ((lit< tt, lit≤ tt), tt),
      tt,
    ),
  );
  files = (
    record {
      ends = (refl, refl);
      alike = (
        w.form sp.shape,
        (
          made_form sp.shape 1 1 1 false (sp.first_block ∷ sp.middle_block ∷ []) sp.shape_fits
              (fit_of 1 2 (lit≤ tt) (lit≤ tt) (lit≤ tt))
              (sp.first_written.holds, (sp.middle_written.holds, tt)),
          (
            made_form sp.shape 2 1 2 true (sp.last_block ∷ []) sp.shape_fits
                (fit_of 2 1 (lit≤ tt) (lit≤ tt) (lit≤ tt)) (sp.last_written.holds, tt),
            tt,
          ),
        ),
      );
      order = (refl, (refl, (refl, refl)));
    },
    tt,
  );
  first = refl;
  goes_on = (refl, tt);
}

pub is_lawful : IsLawful worked_set
is_lawful = subst IsLawful is_made made_lawful

-- ---- the history

is_history : IsHistory worked_set 0 worked_steps worked_reels worked_history
is_history = (
  whole_2,
  (
    other,
    (
      blank,
      (
        cut_1,
        (
          refl,
          (
            bad_0,
            (refl, lit< tt, (bad_1, (whole_1, (short_2, (whole_2, (whole_1, tt)))))),
          ),
        ),
      ),
    ),
  ),
)

-- a session over these readers, none of which failed
has_read : (s : Seen) (left : List (Option (List ℕ)))
    → IsRead (codes "ABC001") 1 worked_steps worked_reels left s → s.failures ≡ 0
    → (s.parts ≡ first ∷ middle ∷ last ∷ []) × (want_at 1 s.place.position ≡ None)
has_read s left r none =
    let no_failure : failed_of r.which ≡ 0 = none_failed (failed_of r.which) (sym r.count ∙ none) in
    let given : r.given ≡ worked_reels =
    none_of r.which worked_reels r.given left no_failure r.are_given in
    let (there, parts) = r.reads worked_set worked_history is_lawful refl refl
    (subst (λ z. IsHistory worked_set 0 worked_steps z worked_history) (sym given) is_history) in (
      parts,
      ap (λ (c : Course). want_at 1 c.at) there,
    )

pub is_worked : HistoryIsWorked
is_worked = record {
  lawful = is_lawful;
  history = is_history;
  given = (refl, (refl, (refl, (refl, (refl, (refl, (refl, (refl, (refl, (refl, refl))))))))));
  positions = refl;
  notes = refl;
  none_before = refl;
  one_before = refl;
  all_before = refl;
  one_record = refl;
  read = has_read;
}
