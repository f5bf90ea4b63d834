use Rattle.std.proofs.Common.{◌≡◌}
use Rattle.std.specs.String.{string_bytes}
use Rattle.run_search.specs.Plans.{search_summary}
use Rattle.run_search.proofs.lines.search_lines.Goals as goal

pub returns-in_ok-put_history-in-Some : goal.returns-in_ok-put_history-in-Some
returns-in_ok-put_history-in-Some c =
    let summary : string_bytes c.in_ok-lines.lines ≡ search_summary c.args.certificate.now c.args.plates = rw (c.requires.ending, c.requires.boxes) at c.in_ok-lines.ensures in
    rw c.in-Some.is (rw (c.as_slice.ensures, summary) at c.in_ok-put_history-in-Some.ensures)
