-- Cited by the clauses of `Trail`: what it holds.
use Rattle.std.specs.Prelude.{ℕ, ◌==◌, ℤ, List}
use Rattle.std.specs.List.{count_by}
use Rattle.cnf_core.specs.Trails.{numbers}
use Rattle.cnf_core.specs.declared.trail.Trail.{Trail}

-- the literals that are true, in order
abbrev pub trues : Trail → List ℤ
trues t = numbers t.lits.items

-- how many variables there are
abbrev pub room : Trail → ℕ
room t = t.vars

-- how many literals are not true, with two that stand for no variable
abbrev pub not_true : Trail → ℕ
not_true t = count_by (λ place. place == 0) t.places.items
