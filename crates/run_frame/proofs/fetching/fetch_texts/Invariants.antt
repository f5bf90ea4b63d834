use Rattle.glass_io.specs.Told.{SameContents, SameFaults}
use Rattle.run_frame.proofs.FetchedTexts.{GathersSoFar, ReachesSoFar}
use Rattle.run_frame.proofs.fetching.fetch_texts.Given as goal

abbrev pub invariant-loop-file : goal.invariant-loop-file
invariant-loop-file g l = record {
  same : SameContents (g.F.Files.shelf l.fn.files).contents (g.F.Files.shelf l.files).contents;
  so_far : GathersSoFar (g.F.Files.shelf l.fn.files).contents l.wanted l.texts.items l.file-index;
  reached : ReachesSoFar (g.F.Files.shelf l.fn.files).contents l.wanted l.file-index;
  faults : SameFaults (g.F.Files.shelf l.fn.files) (g.F.Files.shelf l.files);
  keeps : g.F.Files.reliable l.fn.files → g.F.Files.reliable l.files;
}
