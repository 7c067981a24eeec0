-- Arenas that only grow, and terms that were made in them.
use Rattle.std.proofs.Common.{◌≡◌, ℕ, ◌<◌, List, [], ◌∷◌, length, map, refl, ap, ◌∙◌, arith}
use Rattle.std.specs.List.{AllByRecursion}
use Rattle.bv_terms.specs.declared.node.Node.{Node}
use Rattle.bv_terms.specs.TermTrees.{Term, width}
use Rattle.bv_terms.specs.Arenas.{args_of, term_at, width_at, GrowsBy, KeepsTerms}
use Rattle.bv_terms.proofs.ReplaceFacts.{grown-length, keeps-both, keeps-none}
use Rattle.bv_terms.specs.Growth.{IsMade, OnlyGrows}

pub grows-none : (ns : List Node) → OnlyGrows ns ns
grows-none ns = record { kept = keeps-none ns; inputs = refl }

pub grows-both : (a b c : List Node) → OnlyGrows a b → OnlyGrows b c → OnlyGrows a c
grows-both a b c g h = record { kept = keeps-both a b c g.kept h.kept; inputs = h.inputs ∙ g.inputs }

pub grows-put : (a b : List Node) → KeepsTerms a b → GrowsBy 1 a b → OnlyGrows a b
grows-put a b k g = record { kept = k; inputs = g.inputs }

pub still-there : (a b : List Node) (id : ℕ) → OnlyGrows a b → id < length a → id < length b
still-there a b id g l = (let m = grown-length a b g.kept in omega arith)

pub made-kept : (a b : List Node) (t : Term) (id : ℕ) → OnlyGrows a b → IsMade a t id → IsMade b t id
made-kept a b t id g m = record { there = still-there a b id g m.there; term = g.kept.terms id m.there ∙ m.term }

pub all-there : (a b : List Node) (ids : List ℕ) → OnlyGrows a b → AllByRecursion (λ i. i < length a) ids → AllByRecursion (λ i. i < length b) ids
all-there a b [] g h = tt
all-there a b (i ∷ is) g h = (still-there a b i g h.0, all-there a b is g h.1)

pub args-kept : (a b : List Node) (ids : List ℕ) → OnlyGrows a b → AllByRecursion (λ i. i < length a) ids → args_of (term_at b) ids ≡ args_of (term_at a) ids
args-kept a b [] g h = refl
args-kept a b (i ∷ is) g h = let d = g.kept.terms i h.0 in let e = args-kept a b is g h.1 in cc

pub widths-kept : (a b : List Node) (ids : List ℕ) → OnlyGrows a b → AllByRecursion (λ i. i < length a) ids → map (width_at b) ids ≡ map (width_at a) ids
widths-kept a b [] g h = refl
widths-kept a b (i ∷ is) g h = let d = ap width (g.kept.terms i h.0) in let e = widths-kept a b is g h.1 in cc
