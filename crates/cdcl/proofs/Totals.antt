-- Where each variable has a value and nothing is a conflict, the values satisfy the clauses.
use Rattle.std.proofs.Common.{◌≡◌, ℕ, zero, suc, ◌+◌, ◌-◌, ◌<◌, ℤ, pos, negsuc, true, false, List, [], ◌∷◌, get_or, map, refl, sym, ap, ◌∙◌, arith, inl, inr}
use Rattle.std.specs.List.{All, list_any}
use Rattle.std.proofs.lemmas.Bool.{cases_Bool, both_ways, or_cases, or_parts, and_from, not-false}
use Rattle.std.proofs.lemmas.List.{get_or-map, get_or_append_left, length-append, length-map}
use Rattle.std.proofs.lemmas.List.Elements.{All-head, All-tail}
use Rattle.cocoon_num.specs.Lists.{each}
use Rattle.cnf_core.specs.Clauses.{literals}
use Rattle.cnf_core.specs.Deriving.{is_conflict, is_false, known}
use Rattle.cnf_core.specs.Literals.{Names, has_literal}
use Rattle.cnf_core.specs.Satisfying.{Satisfies, WellNamed, makes_true, satisfies_clause}
use Rattle.cnf_core.specs.declared.clauses.Assignment.{Assignment}
use Rattle.cnf_core.specs.declared.clauses.Cnf.{Cnf}
use Rattle.cnf_core.specs.declared.log.Step.{Step}
use Rattle.cdcl.specs.Searching.{IsClosed, IsTotal}

module _ (a : Assignment) (vars : ℕ) (ts : List ℤ) (total : IsTotal vars ts) (agree : (v : ℕ) → v < vars → get_or a.values v false ≡ has_literal ts (pos (v + 1))) where
  -- what is not made true is false
  false-here : (l : ℤ) → Names vars l → makes_true a l ≡ false → is_false ts l ≡ true
  false-here (pos zero) n off = absurd (omega (arith, n.0))
  false-here (pos (suc v)) n off =
      let before : suc v - 1 ≡ v = omega arith in
      let next : v + 1 ≡ suc v = omega arith in
      let lt : v < vars = omega (arith, n.1) in
      let none = sym (agree v lt) ∙ ap (λ k. get_or a.values k false) (sym before) ∙ off in
      ap (λ k. is_false ts (pos k)) (sym next) ∙ elim (or_cases (has_literal ts (pos (v + 1))) (is_false ts (pos (v + 1))) (total v lt)) [
        | inl on ↦ absurd (both_ways (has_literal ts (pos (v + 1))) none on)
        | inr false_there ↦ false_there
      ]
  false-here (negsuc v) n off =
      let next : v + 1 ≡ suc v = omega arith in
      ap (λ k. has_literal ts (pos k)) (sym next) ∙ sym (agree v (omega (arith, n.1))) ∙ not-false (get_or a.values v false) off

  all-false : (ls : List ℤ) → All (Names vars) ls → list_any (makes_true a) ls ≡ false → each (is_false ts) ls ≡ true
  all-false [] named off = refl
  all-false (l ∷ ls) named off = let parts = or_parts (makes_true a l) (list_any (makes_true a) ls) off in
      and_from (is_false ts l) (each (is_false ts) ls) (false-here l (All-head (Names vars) l ls named) parts.0) (all-false ls (All-tail (Names vars) l ls named) parts.1)

pub total-satisfies : (a : Assignment) (cnf : Cnf) (steps : List Step) (ts : List ℤ) → WellNamed cnf → IsTotal cnf.vars ts → IsClosed (known cnf steps) ts
    → ((v : ℕ) → v < cnf.vars → get_or a.values v false ≡ has_literal ts (pos (v + 1))) → Satisfies a cnf
total-satisfies a cnf steps ts named total closed agree k d lt = elim (cases_Bool (satisfies_clause a (get_or cnf.clauses k d))) [
  | inl on ↦ on
  | inr off ↦ absurd (both_ways (is_conflict ts (get_or (known cnf steps) k []))
      (closed k [] (omega (arith, lt, length-append (map literals cnf.clauses) (map (λ (s : Step). literals s.clause) steps), length-map cnf.clauses literals))).0
      (ap (is_conflict ts) (get_or_append_left (map literals cnf.clauses) (map (λ (s : Step). literals s.clause) steps) [] k (omega (arith, lt, length-map cnf.clauses literals))
      ∙ get_or-map literals cnf.clauses k d [] lt) ∙ all-false a cnf.vars ts total agree (literals (get_or cnf.clauses k d)) (named.1 k d lt) off))
]
