-- What the numbers are that a line can set.
use Rattle.command_line.specs.Words.{Setting as SettingOf}
use Rattle.command_line.specs.declared.options.Setting.{Setting}

-- the number that can be set, as its row says
abbrev pub setting_in : Setting → SettingOf
setting_in s = record { front = s.front.now; least = s.least; most = s.most; usual = s.usual; needs = s.needs }
