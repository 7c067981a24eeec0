-- What is read of a whole text. Clauses of `program` and `whole_text` cite it.
use Rattle.std.specs.Prelude.{◌≡◌, ℕ, ◌≤◌, List, [], ◌∷◌, ◌++◌, length, drop, Some, Result, Ok, Err}
use Rattle.cocoon_num.specs.Tokens.{Kind, finish}
use Rattle.p4_ir.specs.P4Text.{architecture}
use Rattle.p4_texts.specs.Machine.{stuck, whole_text}
use Rattle.p4_texts.specs.Written.{Lines, ProgramText, each_then, header_then, rest_then}
use Rattle.p4_texts.specs.TreeOf.{text_of}
use Rattle.p4_texts.specs.declared.written.WrittenProgram.{WrittenProgram}
use Rattle.p4_parse.specs.Lines.{ended_goals, ended_tokens}
use Rattle.p4_parse.specs.Phrases.{Refused}
use Rattle.parsing.specs.declared.stop.Stop.{Stop}
use Rattle.parsing.specs.declared.stop.Stop.TheVariants.{Unexpected, NoMemory}

-- the end of a text, which stands at an index, and what follows it
pub record ReadEnd (ts : List Kind) (pos next : ℕ) : Type 0 where
  pub at : ℕ
  pub stands : drop at ts ≡ finish ∷ drop next ts
  pub are : drop pos ts ≡ ended_tokens (drop next ts)
  pub goes : stuck ended_goals (drop pos ts) ≡ stuck [] (drop next ts)

abbrev pub EndAt : List Kind → ℕ → Result ℕ Stop → Type 0
EndAt ts pos (Ok next) = ReadEnd ts pos next
EndAt ts pos (Err (Unexpected i)) = Refused ended_goals ts pos i
EndAt ts pos (Err NoMemory) = Unit {0}

-- the tokens of a text before those that follow it
abbrev pub whole_tokens : ProgramText → List Kind → List Kind
whole_tokens t ks = architecture ++ each_then header_then t.headers (rest_then t.rest ks)

pub record WholeRead (ts : List Kind) (t : ProgramText) : Type 0 where
  pub at : ℕ
  pub next : ℕ
  pub stands : drop at ts ≡ finish ∷ drop next ts
  pub are : ts ≡ whole_tokens t (drop next ts)
  pub lines : Lines (length t.headers) t.rest
  pub goes : stuck whole_text ts ≡ stuck [] (drop next ts)

-- the reader is stuck at this token
pub record WholeStuck (ts : List Kind) (i : ℕ) : Type 0 where
  pub within : i ≤ length ts
  pub there : stuck whole_text ts ≡ Some (drop i ts)

abbrev pub ProgramAt : List Kind → Result WrittenProgram Stop → Type 0
ProgramAt ts (Ok t) = WholeRead ts (text_of t)
ProgramAt ts (Err (Unexpected i)) = WholeStuck ts i
ProgramAt ts (Err NoMemory) = Unit {0}
