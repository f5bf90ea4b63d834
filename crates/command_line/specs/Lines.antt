-- What the words of a command line are.
use Rattle.std.specs.Prelude.{map}
use Rattle.std.specs.String.{string_bytes}
use Rattle.command_line.specs.Grammar.{LineOf}
use Rattle.command_line.specs.Rows.{Pattern}
use Rattle.command_line.specs.declared.line.CommandLine.{CommandLine}
use Rattle.command_line.specs.declared.rows.Form.{Form}

-- the row that a form is
abbrev pub pattern_in : Form → Pattern
pattern_in f = record { word = f.word.now; leads = f.leads.now; reads = f.reads.now; without = f.without.now; stores = f.stores.now; options = f.options.now }

-- the line that a command line is
abbrev pub line_in : {V : Type 0} → CommandLine V → LineOf V
line_in l = record {
  verb = l.verb;
  pattern = pattern_in l.form;
  leads = map string_bytes l.leads.now;
  names = map string_bytes l.names.now;
  options = map string_bytes l.options.now;
}
