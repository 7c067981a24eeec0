-- Blocks without a statement.
use Rattle.std.proofs.Common.{◌≡◌, ℕ, suc, ◌==◌, false, List, [], ◌∷◌, length, map, refl, arith}
use Rattle.std.proofs.lemmas.Bool.Decides.{nat_tests}
use Rattle.p4_ir.specs.P4Kinds.{is_empty}
use Rattle.p4_ir.specs.Program.{block_of, stmt_of}
use Rattle.p4_ir.specs.declared.program.P4Stmt.{P4Stmt}

pub empty_block : (xs : List P4Stmt) → is_empty (block_of (map stmt_of xs)) ≡ (length xs == 0)
empty_block [] = refl
empty_block (x ∷ xs) = more (length xs)
  where
    more : (n : ℕ) → false ≡ (suc n == 0)
    more n = grind (arith, nat_tests)
