use Rattle.std.proofs.Common.{◌≡◌, ℕ, ◌-◌, ◌<◌, ◌≢◌, List, [], Option, is_some}
use Rattle.tape_run.specs.{Causes.IsCalm, Stopping.ReadsOnly}
use Rattle.tape_run.specs.ExtractingLocated.{IsHeld, BeginsOn}
use Rattle.tape_run.proofs.Located.{ReadSoFar, open_behind}
use Rattle.tape_run.proofs.extract.located.read_sections.Given as goal

abbrev pub invariant-sections : goal.invariant-sections
invariant-sections g l = record {
  set_id : l.session.core.set_id ≡ l.fn.session.core.set_id;
  file : l.session.core.file ≡ l.fn.session.core.file;
  wide : l.session.wide ≡ l.fn.session.wide;
  calm : IsCalm g.S.PartSink l.fn.session l.session;
  only : ReadsOnly g.S.PartSink l.fn.session l.session;
  reads : (whole : Option (List ℕ)) → IsHeld l.fn.session.wide g.R.Read.remaining l.fn.mounted whole
      → (s : ReadSoFar g.S.PartSink (BeginsOn l.fn.locations.entries l.fn.session.core)
      g.L.ImageSource.gives g.R.Read.remaining l.fn.session l.session
      l.fn.images l.images (is_some l.fn.mounted) whole l.mounted)
      × (is_some l.mounted ≡ open_behind (is_some l.fn.mounted) s.stretches)
      × (0 < l.next → s.stretches ≢ []);
}

abbrev pub decreases-sections : goal.decreases-sections
decreases-sections g l = 65536 - l.next
