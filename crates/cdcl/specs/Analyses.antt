-- Cited by the clauses of `Analysis`: what changes in it.
use Rattle.std.specs.Prelude.{◌≡◌, ℕ, false, [], length}
use Rattle.cdcl.specs.Marks.{is_marked}
use Rattle.cdcl.specs.declared.analysis.Analysis.{Analysis}

-- all but the marks and their count
pub record IsSameBut (old new : Analysis) : Type 0 where
  pub same_floor : new.floor ≡ old.floor
  pub same_hints : new.hints.items ≡ old.hints.items

pub record IsFresh (len floor : ℕ) (a : Analysis) : Type 0 where
  pub sized : length a.marks.items ≡ len
  pub none : (p : ℕ) → is_marked a.marks.items p ≡ false
  pub at_floor : a.floor ≡ floor
  pub no_hints : a.hints.items ≡ []
