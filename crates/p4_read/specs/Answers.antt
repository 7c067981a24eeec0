-- The answers to a P4 text: the program that it reads as, and its first fault. The module `laws` cites them.
use Rattle.std.specs.Prelude.{ℕ, List}
use Rattle.p4_ir.specs.P4Reads.{P4Reads}
use Rattle.p4_ir.specs.P4Tree.{Program}
use Rattle.p4_read.specs.FirstFault.{IsFirstFault}
use Rattle.p4_read.specs.declared.fault.P4Fault.{P4Fault}
use Rattle.p4_read.specs.declared.fault.P4Fault.TheVariants.{NoMemory}

pub data Answer : Type 0 where
  a_program : (program : Program) → Answer
  a_fault : (fault : P4Fault) → Answer

-- out of memory says nothing of a text
abbrev pub Answers : List ℕ → Answer → Type 0
Answers text (a_program p) = P4Reads text p
Answers text (a_fault NoMemory) = ⊥
Answers text (a_fault f) = IsFirstFault text f
