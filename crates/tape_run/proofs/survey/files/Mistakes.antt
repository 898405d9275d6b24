-- Wrong answers that the contracts about labels of different files exclude.
use Rattle.std.proofs.Common.{◌≡◌, ◌∙◌, ℕ, List, sym, ap, codes, true, false, Some, None}
use Rattle.tape_label.specs.declared.values.Head1.{Head1}
use Rattle.tape_run.specs.declared.survey.{files.FileNote.FileNote, files.FirstHead.FirstHead}
use Rattle.tape_run.specs.SurveyFiles as files
use Rattle.tape_run.proofs.survey.files.is_other.Reads as is_other
use Rattle.tape_run.proofs.survey.files.note_of.Reads as note_of

-- a header label of a section of a backup that was created on this day
abbrev made_on : ℕ → List ℕ → Head1
made_on sect day = record {
  file_id = codes "WEEKLY.BCK       ";
  set_id = codes "BCK001";
  sect = sect;
  sequence = 1;
  generation = codes "0001";
  gen_version = codes "00";
  created = day;
  expires = codes " 00000";
  access = 32;
  implementation = codes "             ";
}

-- dates_not_compared: two weekly backups, with labels of one section, count as one
dates_not_compared : (κs : _) (a : _) (z : _) (s : _) → is_other.Learnt κs a z s → z ≡ false
    → a.0.now ≡ made_on 1 (codes " 85100") → a.1.0.now ≡ made_on 1 (codes " 85107") → ⊥
dates_not_compared κs a z s h w first second =
    absurd (let e : false ≡ true = sym w ∙ h ∙ ap (λ x. files.is_other x a.1.0.now) first
    ∙ ap (files.is_other (made_on 1 (codes " 85100"))) second in cc e)

-- sections_taken_for_files: one backup, whose second section was created on the next day, counts as
-- two
sections_taken_for_files : (κs : _) (a : _) (z : _) (s : _) → is_other.Learnt κs a z s → z ≡ true
    → a.0.now ≡ made_on 1 (codes " 85100") → a.1.0.now ≡ made_on 2 (codes " 85101") → ⊥
sections_taken_for_files κs a z s h w first second =
    absurd (let e : true ≡ false = sym w ∙ h ∙ ap (λ x. files.is_other x a.1.0.now) first
    ∙ ap (files.is_other (made_on 1 (codes " 85100"))) second in cc e)

-- the record of the first backup, after its first label on image 0
abbrev noted : FileNote
noted = record {
  head = made_on 1 (codes " 85100");
  image = 0;
  form = None;
  blocking = 32;
  absent = false;
  trailers = false;
  doubted = false;
  bare = false;
  misfit = None;
  padding = None;
  conflict = None;
}

-- its second section, on image 1
abbrev second : FirstHead
second = record { image = 1; head = made_on 2 (codes " 85101") }

-- second_sections_not_compared: the second sections of two weekly backups, on images 1 and 2, count
-- as one
second_sections_not_compared : (κs : _) (a : _) (z : _) (s : _) → note_of.Learnt κs a z s
    → a.0 ≡ Some noted → a.1.0 ≡ Some second → a.1.1.0 ≡ 2
    → a.1.1.1.0 ≡ made_on 2 (codes " 85108") → z.conflict ≡ None → ⊥
second_sections_not_compared κs a z s h old first image head w =
    absurd (let e : None ≡ Some (1, 2) = sym w ∙ ap (λ (n : FileNote). n.conflict) (h
    ∙ ap (λ o. files.note_of o a.1.0 a.1.1.0 a.1.1.1.0) old
    ∙ ap (λ o. files.note_of (Some noted) o a.1.1.0 a.1.1.1.0) first
    ∙ ap (λ i. files.note_of (Some noted) (Some second) i a.1.1.1.0) image
    ∙ ap (λ l. files.note_of (Some noted) (Some second) 2 l) head) in cc e)
