-- Facts about the section needed, and about the rest of the volume.
use Rattle.std.proofs.Common.{◌≡◌, ◌<◌, ◌⊎◌, List, [], ◌∷◌, ◌++◌, length, drop, Bool, true, false}
use Rattle.std.proofs.Common.{Some, None, refl, sym, ap, ◌∙◌, subst, inl, inr, append_assoc, ◌||◌}
use Rattle.std.proofs.{Common.MatchBool, lemmas.List.drop-append-le}
use Rattle.tape_set.specs.Layout.{Section, Placed, Entry, a_mark, is_data, data_group}
use Rattle.tape_set.specs.{Layout.trailer_group, Layout.sections, Layout.on, Position.is_start}
use Rattle.tape_set.specs.{declared.position.Position.Position, Lawful.FileForm, Lawful.TellsForm}
use Rattle.tape_set.specs.Reach.{passes, far, before_data, moved}
use Rattle.tape_set.proofs.{Everywhere.every-append, Numbering.FileOf, Numbering.section_found}
use Rattle.tape_set.proofs.{Reaching.passes_longer, Reaching.passes_length, Volumes.IsOn}
use Rattle.tape_set.proofs.Forms.{one_form, forms_alike, form_told}
use Rattle.tape_core.specs.declared.event.Heading.{Heading}
use Rattle.tape_core.specs.Follows.{FileTells, KnownAt, reading, to_come, Among, Inside, Reached}
use Rattle.tape_core.proofs.Fronts.{left_more, ahead_later, wanted_here, AtIt, Ahead, among_on}
use Rattle.tape_core.proofs.{Fronts.here, Fronts.far_on, Fronts.shorter, Aim.Aim}

module _ (aim : Aim) where
  open aim use {set, l, core, at, sect, block, part, k, w, found, good}

  -- all sections are to come
  pub all_among : Among set k core.file (on k (sections set))
  all_among = record { past = []; all = refl; earlier_files = tt }

  -- one more section is skipped
  pub next_among : (x : Placed) (later : List Placed) → Among set k core.file (x ∷ later)
      → x.file < core.file → Among set k core.file later
  next_among x later a lt =
      record {
        past = a.past ++ x ∷ [];
        all = append_assoc a.past (x ∷ []) later ∙ a.all;
        earlier_files = every-append _ a.past (x ∷ []) a.earlier_files (lt, tt);
      }

  pub its_file : FileOf set core.file sect w
  its_file = section_found set core.file sect w found

  -- the labels of the section needed have the form of its file
  pub told : (form : FileForm) × TellsForm form w
  told = form_told set core.file l sect w found

  pub file_tells : FileTells set core.file told.0
  file_tells other s is = forms_alike set core.file l sect other w s told.0 found is told.1

  -- the known form is `None`, or the form of the file
  pub known_cases : (core.known ≡ None) ⊎ (core.known ≡ Some told.0)
  known_cases = go (is_start core.position) at.stands.tells
    where
      go : (b : Bool)
          → MatchBool b (core.known ≡ None) ((form : FileForm) × (core.known ≡ Some form)
          × FileTells set core.file form) → (core.known ≡ None) ⊎ (core.known ≡ Some told.0)
      go true h = inl h
      go false h = inr (h.1 ∙ ap Some (one_form w h.0 told.0 (h.2 sect w found) told.1))

  -- the form known after the start of the file
  pub known_after : (p : Position) → is_start p ≡ false → (form : FileForm) → form ≡ told.0
      → KnownAt set core.file p (Some form)
  known_after p e form is = subst (λ b. MatchBool b (Some form ≡ None) ((f : FileForm)
      × (Some form ≡ Some f) × FileTells set core.file f)) (sym e) (told.0, ap Some is, file_tells)

  pub on_it : (x : Placed) (later : List Placed) → Among set k core.file (x ∷ later) → IsOn set k x
  on_it x later among = (among_on aim x later among).0

  pub tells_each : (x : Placed) (later : List Placed) → Among set k core.file (x ∷ later)
      → (form : FileForm) × TellsForm form x.section
  tells_each x later among = form_told set x.file l x.sect x.section (on_it x later among).found

  -- the next entry was read, and is readable or a data block
  pub on_with : (g : Bool) (heading : Heading) (wanted : Bool) (x : Placed) (e : Entry)
      (rest : List Entry)
      → Inside set core.file sect block part k good heading wanted x (e ∷ rest)
      → (g || is_data e) ≡ true
      → Inside set core.file sect block part k (good ++ g ∷ []) heading wanted x rest
  on_with g heading wanted x e rest i t =
      record {
        later = i.later;
        among = i.among;
        numbers = i.numbers;
        chosen = i.chosen;
        left = left_more set k good g e (rest ++ to_come i.later) i.left t;
      }

  -- the section needed is being read
  pub wanted_at : {heading : Heading} {x : Placed} {rest : List Entry}
      (i : Inside set core.file sect block part k good heading true x rest) → AtIt aim x i.later
  wanted_at {x} i = wanted_here aim x i.later i.among i.chosen.0 i.chosen.1

  -- before its data, no entry of the section needed was passed
  ahead_wanted : (x : Placed) (later : List Placed) (z : List Entry)
      → AtIt aim x later → Ahead aim
      ((z ++ a_mark ∷ data_group x.section.blocks ++ trailer_group x.section) ++ to_come later)
  ahead_wanted x later z at_it on = (
    data_group w.blocks ++ trailer_group w ++ to_come later,
    at_it.whole,
    rw at_it.same (shorter z (data_group w.blocks) (trailer_group w) (to_come later)),
  )

  pub ahead_inside : (heading : Heading) (wanted : Bool) (x : Placed) (z : List Entry)
      (i : Inside set core.file sect block part k good heading wanted x (z
      ++ a_mark ∷ data_group x.section.blocks ++ trailer_group x.section))
      → Ahead aim ((z ++ a_mark ∷ data_group x.section.blocks ++ trailer_group x.section)
      ++ to_come i.later)
  ahead_inside heading true x z i = ahead_wanted x i.later z (wanted_at i)
  ahead_inside heading false x z i =
      ahead_later aim i.later _ (next_among x i.later i.among i.chosen)

  pub ahead_passed : (heading : Heading) (x : Placed) (z : List Entry)
      (i : Inside set core.file sect block part k good heading false x z)
      → Ahead aim (z ++ to_come i.later)
  ahead_passed heading x z i = ahead_later aim i.later z (next_among x i.later i.among i.chosen)

  -- if everything before its data was passed, `far` depends only on the items after it
  pub far_there : (more : List Bool) → w.volume ≡ k → (g : Bool) → (seen : List Bool)
      → passes good (before_data set core.file sect w) ≡ true
      → drop (length (before_data set core.file sect w)) good ≡ seen
      → far set core.file (here aim) (reading k ((good ++ g ∷ []) ++ more))
      ≡ moved (here aim) sect block w (seen ++ g ∷ more)
  far_there more is g seen fine rest =
      rw append_assoc
      (far_on aim is (good ++ g ∷ more) (passes_longer good (g ∷ more) _ fine)
      ∙ ap (λ z. moved (here aim) sect block w z)
      (drop-append-le (length (before_data set core.file sect
      w)) good (g ∷ more) (passes_length good _ fine) ∙ ap (λ z. z ++ g ∷ more) rest))

  pub reached_more : (s : Section) (g : Bool) (seen : List Bool)
      → Reached set core.file sect block part k s good seen
      → Reached set core.file sect block part k s (good ++ g ∷ []) (seen ++ g ∷ [])
  reached_more s g seen r =
      record {
        fine = passes_longer good (g ∷ []) _ r.fine;
        rest = drop-append-le (length (before_data set core.file sect s)) good (g
            ∷ []) (passes_length good _ r.fine) ∙ ap (λ z. z ++ g ∷ []) r.rest;
      }
