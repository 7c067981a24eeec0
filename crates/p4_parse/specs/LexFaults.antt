-- The fault of this crate that is a first fault of the lexer's. Cited where the one is made of the other.
use Rattle.lexing.specs.declared.lexer.FirstFault.{FirstFault}
use Rattle.lexing.specs.declared.lexer.FirstFault.TheVariants as first
use Rattle.p4_parse.specs.declared.lexer.LexFault.{LexFault}
use Rattle.p4_parse.specs.declared.lexer.LexFault.TheVariants.{NoToken, NoMemory}

abbrev pub fault_of : FirstFault → LexFault
fault_of (first.BadByte at) = NoToken at
fault_of (first.BadNumber at) = NoToken at
fault_of (first.OpenComment at) = NoToken at
fault_of first.NoMemory = NoMemory
