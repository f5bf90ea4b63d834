use Rattle.plan_csv.proofs.writing.write_header.Goals as goal

pub returns : goal.returns
returns c =
    rw (
      c.as_slice.ensures,
      c.as_slice-2.ensures,
      c.as_slice-3.ensures,
      c.as_slice-4.ensures,
      c.as_slice-5.ensures,
      c.as_slice-6.ensures,
      c.as_slice-7.ensures,
      c.as_slice-8.ensures,
      c.as_slice-9.ensures,
    ) at c.write_line.ensures.ok
