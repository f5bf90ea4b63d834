use Rattle.std.proofs.Common.{◌∙◌, ap, inr, refl}
use Rattle.csv.specs.Reading.{strip_bom}
use Rattle.csv.specs.declared.parser.Config.{Config}
use Rattle.csv_table.proofs.RowFacts.{length-table_rows}
use Rattle.csv_table.proofs.rows.Rows.new.Goals as goal

pub invariant_of-result : goal.invariant_of-result
invariant_of-result c e =
    let fr = c.from_reader.ensures in
    let defaults = c.new.ensures in
    rw c.into_byte_records-records.ensures.rdr record {
      plain = fr.trim ∙ rw (c.flexible.ensures, c.has_headers.ensures, c.delimiter.ensures) defaults.trim;
      flexible = fr.flexible ∙ rw c.flexible.ensures refl;
      ready = inr (inr (fr.has_headers ∙ rw (c.flexible.ensures, c.has_headers.ensures) refl, fr.headers));
      turns = c.into_byte_records-records.ensures.left;
      config = fr.config ∙ rw (c.flexible.ensures, c.has_headers.ensures, c.delimiter.ensures) (ap (λ (cfg : Config). record cfg { delimiter = 59 }) defaults.config);
      between = rw fr.state refl;
      known = (strip_bom c.args.bytes.now, fr.source);
    }

pub returns-clause-few : goal.returns-clause-few
returns-clause-few c = let fr = c.from_reader.ensures in rw (c.into_byte_records-records.ensures.rdr, fr.state, fr.source) (length-table_rows c.args.bytes.now)
