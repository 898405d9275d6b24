use Rattle.std.proofs.Common.{◌≡◌, ◌-◌, List, sym, ap, ◌∙◌, subst, length, Some}
use Rattle.std.proofs.lemmas.Bool.{OnTrue_from, OnFalse_from}
use Rattle.std.specs.{Bool.OnTrue, Bool.OnFalse, List.slice_get}
use Rattle.tape_core.specs.{Place.rest_of, Point.Point, Table.saved}
use Rattle.tape_run.specs.{Reeling.HasNotedHere, Seen.seen, Seen.IfSeen, SessionState.SessionState}
use Rattle.tape_run.proofs.Noting.{noted_here, noted_elsewhere}
use Rattle.tape_run.proofs.session.Session.is_noted.Goals as goal

-- the last of the session's checkpoints
last_of : (notes items : List Point) (c : Point) → Some c ≡ slice_get items (length items - 1)
    → items ≡ notes → slice_get notes (length notes - 1) ≡ Some c
last_of notes items c last same =
    subst (λ (l : List Point). slice_get l (length l - 1) ≡ Some c) same (sym last)

pub returns-in-Some-clause-yes : goal.returns-in-Some-clause-yes
returns-in-Some-clause-yes g c =
    let sink = g.S.PartSink in
    let core = c.self.inside.reel_reader.core in
    let last = last_of c.self.inside.notes.items _ c.in-Some.last.now c.in-Some.ensures.value
    c.deref.ensures.value in
    let story : SessionState _ = record {
      core = core;
      sink = c.self.inside.reel_reader.sink;
      notes = c.self.inside.notes.items;
      failures = c.self.inside.failures;
      wide = c.self.inside.reel_reader.wide;
    } in
    subst (λ z. OnTrue c.eq.result (IfSeen sink z HasNotedHere)) c.self.view_is
    (OnTrue_from c.eq.result _ (λ same held was.
    noted_here (seen sink story held) c.in-Some.last.now c.save-here.result c.eq.result last
    (c.save-here.ensures.value ∙ ap (saved (rest_of core)) (c.weight.ensures.of held was))
    c.eq.ensures same))

pub returns-in-Some-clause-no : goal.returns-in-Some-clause-no
returns-in-Some-clause-no g c =
    let sink = g.S.PartSink in
    let core = c.self.inside.reel_reader.core in
    let last = last_of c.self.inside.notes.items _ c.in-Some.last.now c.in-Some.ensures.value
    c.deref.ensures.value in
    let story : SessionState _ = record {
      core = core;
      sink = c.self.inside.reel_reader.sink;
      notes = c.self.inside.notes.items;
      failures = c.self.inside.failures;
      wide = c.self.inside.reel_reader.wide;
    } in
    subst (λ z. OnFalse c.eq.result (IfSeen sink z (λ now. HasNotedHere now → ⊥))) c.self.view_is
    (OnFalse_from c.eq.result _ (λ other held was.
    noted_elsewhere (seen sink story held) c.in-Some.last.now c.save-here.result c.eq.result last
    (c.save-here.ensures.value ∙ ap (saved (rest_of core)) (c.weight.ensures.of held was))
    c.eq.ensures other))
