-- Certificates as values: a log's steps have literals as signed numbers, as DIMACS writes them. Cited by the clauses of what
-- reads and writes certificates. It follows "Certificates" in docs/FORMATS.md.
use Rattle.std.specs.Prelude.{ℕ, ℤ, List}

-- a clause, and the numbers of the clauses that show it
pub record Step : Type 0 where
  pub clause : List ℤ
  pub hints : List ℕ

-- an assumption, by its number, at values of its parameters
pub record Instance : Type 0 where
  pub number : ℕ
  pub values : List ℕ

pub record Cert : Type 0 where
  pub instances : List Instance
  pub log : List Step
