-- Lines with every box of their values at one place.
use Rattle.ipdl_base.specs.declared.line.Line.{Line}
use Rattle.ipdl_base.specs.declared.line.What.{What}
use Rattle.ipdl_base.specs.declared.line.What.TheVariants as what
use Rattle.ipdl_base.specs.Plain.{plain_values}

-- the content of a line, with its boxes there
abbrev pub plain_what : What → What
plain_what (what.Send n route number vs) = what.Send n route number (plain_values vs)
plain_what (what.Call n transaction route number vs) = what.Call n transaction route number (plain_values vs)
plain_what (what.Resolve n vs) = what.Resolve n (plain_values vs)
plain_what (what.Take n route number vs) = what.Take n route number (plain_values vs)
plain_what (what.ResumeOk n vs) = what.ResumeOk n (plain_values vs)
plain_what (what.AnswerOk n vs) = what.AnswerOk n (plain_values vs)
plain_what (what.Resolved n vs) = what.Resolved n (plain_values vs)
plain_what other = other

-- a line with its boxes there
abbrev pub plain_line : Line → Line
plain_line line = record line { what = plain_what line.what }
