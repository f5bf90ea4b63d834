use Rattle.std.proofs.Common.{◌≡◌, map, max, option_map, take, fold}
use Rattle.cert_resume.specs.Joins.{bounds_of, lesser_of}
use Rattle.cert_resume.proofs.joining.least_bound.Given as goal

abbrev pub invariant-loop-part : goal.invariant-loop-part
invariant-loop-part l = l.least ≡ fold lesser_of l.fn.loss (map (option_map (max l.floor)) (bounds_of (take l.part-index l.parts)))
