-- The fault of the lexer here that is a first fault of `lexing`. Cited where the one is made of the other.
use Rattle.lexing.specs.declared.lexer.FirstFault.{FirstFault}
use Rattle.lexing.specs.declared.lexer.FirstFault.TheVariants as first
use Rattle.cocoon_text.specs.declared.lexer.LexFault.{LexFault}
use Rattle.cocoon_text.specs.declared.lexer.LexFault.TheVariants.{BadByte, BadNumber, OpenComment, NoMemory}

abbrev pub fault_of : FirstFault → LexFault
fault_of (first.BadByte at) = BadByte at
fault_of (first.BadNumber at) = BadNumber at
fault_of (first.OpenComment at) = OpenComment at
fault_of first.NoMemory = NoMemory
