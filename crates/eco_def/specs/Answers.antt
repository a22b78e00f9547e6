-- What a reader answers of a text: its design, or its first fault.
use Rattle.std.specs.Prelude.{ℕ, List, Result, Ok, Err}
use Rattle.eco_def.specs.declared.design.Design.{Design}
use Rattle.eco_def.specs.declared.fault.DefFault.{DefFault}
use Rattle.eco_def.specs.Grammar.{reading_of}
use Rattle.eco_def.specs.Reading.{Refuses}
use Rattle.eco_def.specs.Sections.{IsReadingOf}

-- Out of memory may come at any text. Every other fault is the one that the text has.
abbrev pub Answers : List ℕ → Result Design DefFault → Type 0
Answers text (Ok d) = IsReadingOf text d
Answers text (Err fault) = Refuses (reading_of text) fault
