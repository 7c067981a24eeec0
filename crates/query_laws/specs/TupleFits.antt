-- Cited by the clauses of the law `tuples_fit`: that patterns and tuples fit the applications of a goal and the parameters.
use Rattle.std.specs.Prelude.{◌≡◌, ◌<◌, List}
use Rattle.std.specs.List.{AllByRecursion, AllZip}
use Rattle.cocoon_num.specs.Tree.{AssumeDecl}
use Rattle.cocoon_types.specs.Design.{widths_of}
use Rattle.bv_terms.specs.TermTrees.{Term, apply}
use Rattle.obligation_laws.specs.Shown.{HasWidth}
use Rattle.query_laws.specs.Patterns.{Pattern, arg_count}

-- if the term applies the pattern's function, it has arguments at the places
abbrev pub HasPlaces : Term → Pattern → Type 0
HasPlaces (apply f args w) p = f ≡ p.function → AllByRecursion (λ k. k < arg_count args) p.places
HasPlaces t p = Unit {0}

-- so it is with each of these patterns
abbrev pub HasAllPlaces : List Pattern → Term → Type 0
HasAllPlaces ps t = AllByRecursion (HasPlaces t) ps

-- one term for each parameter, of its width
abbrev pub FitsParams : AssumeDecl → List Term → Type 0
FitsParams a ts = AllZip HasWidth (widths_of a.params) ts
