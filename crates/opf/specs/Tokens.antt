-- How the code's tokens are read.
use Rattle.std.specs.Prelude.{Some, None, Option}
use Rattle.opf.specs.declared.token.Token.{Token}
use Rattle.opf.specs.declared.token.Token.TheVariants as token
use Rattle.opf.specs.Text.{Line, comment, data_line, last}

abbrev pub line_seen : Option Token → Option Line
line_seen None = None
line_seen (Some (token.Comment s)) = Some (comment s.now)
line_seen (Some (token.Data s)) = Some (data_line s.now)
line_seen (Some (token.End s)) = Some (last s.now)
