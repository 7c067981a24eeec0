-- Clauses whose literals all stand in another.
use Rattle.std.proofs.Common.{◌≡◌, ◌≢◌, ℕ, ◌+◌, ◌<◌, ◌≤◌, ℤ, pos, ◌⊎◌, true, false, List, [], ◌∷◌, ◌++◌, length, get_or, take, map, Some, refl, sym, ap, ◌∙◌, subst, arith, inl, inr}
use Rattle.std.specs.Prelude.{nat_lt, slice_get}
use Rattle.std.specs.List.{All}
use Rattle.std.proofs.lemmas.Bool.{both_ways, cond_both, or_left, or_right, false_from_ne_true, cases_eq}
use Rattle.std.proofs.lemmas.Bool.Decides.{Decides-int_eq}
use Rattle.std.proofs.lemmas.List.{get_or-map, get_or_default, map-append, take_more, append_assoc, length-map}
use Rattle.std.proofs.lemmas.List.Elements.{All-append, All-cons, All-nil}
use Rattle.std.proofs.lemmas.Option.{none-some, same_Some, slice_get_read}
use Rattle.cnf_core.specs.Clauses.{literals}
use Rattle.cnf_core.specs.Deriving.{known}
use Rattle.cnf_core.specs.Licensing.{BringsNew, IsNew, subsumed_by}
use Rattle.cnf_core.specs.Literals.{Names, has_literal, index_of, same, variable}
use Rattle.cnf_core.specs.Trails.{literal_at, numbers}
use Rattle.cnf_core.proofs.LiteralFacts.{has-place}
use Rattle.cnf_core.proofs.ClauseStatuses.{each-has}
use Rattle.cnf_core.specs.declared.clauses.Clause.{Clause}
use Rattle.cnf_core.specs.declared.clauses.Cnf.{Cnf}
use Rattle.cnf_core.specs.declared.lit.Lit.{Lit}
use Rattle.cnf_core.specs.declared.log.Step.{Step}
use Rattle.proof_check.specs.Subsuming.{AllFilled, IsSubsumed, SubsumesFrom}
use Rattle.proof_check.specs.Registering.{higher, top_index, top_of, tops_of}
use Rattle.proof_check.proofs.Hinting.{named-literal}

pub number-at : (lits : List Lit) (i : ℕ) (x : Lit) → i < length lits → x ≡ get_or lits i x → literal_at (numbers lits) i ≡ x.number
number-at lits i x h e = get_or-map (λ (l : Lit). l.number) lits i x (pos 0) h ∙ ap (λ (l : Lit). l.number) (sym e)

-- ---- top literals

higher-cases : (l m : ℤ) → (higher l m ≡ l) ⊎ (higher l m ≡ m)
higher-cases l m = cond_both (nat_lt (variable l) (variable m)) m l (λ k. (k ≡ l) ⊎ (k ≡ m)) (λ e. inr refl) (λ e. inl refl)

top-cases : (l : ℤ) (ms : List ℤ) → (top_of l ms ≡ l) ⊎ (has_literal ms (top_of l ms) ≡ true)
top-cases l [] = inl refl
top-cases l (m ∷ ms) = elim (top-cases (higher l m) ms) [
  | inl is ↦ elim (higher-cases l m) [
    | inl here ↦ inl (is ∙ here)
    | inr there ↦ inr (or_left (same (top_of (higher l m) ms) m) (has_literal ms (top_of (higher l m) ms)) ((Decides-int_eq (top_of (higher l m) ms) m).1 (is ∙ there)))
  ]
  | inr more ↦ inr (or_right (same (top_of (higher l m) ms) m) (has_literal ms (top_of (higher l m) ms)) more)
]

top-has : (l : ℤ) (ls : List ℤ) → has_literal (l ∷ ls) (top_of l (l ∷ ls)) ≡ true
top-has l ls = elim (top-cases l (l ∷ ls)) [
  | inl is ↦ or_left (same (top_of l (l ∷ ls)) l) (has_literal ls (top_of l (l ∷ ls))) ((Decides-int_eq (top_of l (l ∷ ls)) l).1 is)
  | inr more ↦ more
]

filled : (l : ℤ) (more c : List ℤ) → c ≡ l ∷ more → c ≢ []
filled l more c e k = cc

pub top-some : (lits : List Lit) (x : Lit) (c : List ℤ) (n : ℤ) → slice_get lits 0 ≡ Some x → c ≡ numbers lits → n ≡ top_of x.number (numbers lits)
    → (c ≢ []) × (has_literal c n ≡ true) × (top_index c ≡ index_of n)
top-some [] x c n e k t = absurd (none-some x e)
top-some (y ∷ ys) x c n e k t =
    let is : n ≡ top_of y.number (numbers (y ∷ ys)) = t ∙ ap (λ (z : Lit). top_of z.number (numbers (y ∷ ys))) (sym (same_Some y x e)) in (
      filled y.number (numbers ys) c k,
      subst (λ d. has_literal d n ≡ true) (sym k) (ap (has_literal (numbers (y ∷ ys))) is ∙ top-has y.number (numbers ys)),
      ap top_index k ∙ ap index_of (sym is),
    )

-- the top literal of a clause that is contained is one of the literals
top-within : (ts c : List ℤ) → c ≢ [] → subsumed_by ts c ≡ true → (p : ℕ) × (p < length ts) × (top_index c ≡ index_of (literal_at ts p))
top-within ts [] some h = absurd (some refl)
top-within ts (l ∷ ls) some h = let r = has-place ts (top_of l (l ∷ ls)) (each-has (has_literal ts) (l ∷ ls) (top_of l (l ∷ ls)) h (top-has l ls)) in (r.0, r.1, ap index_of (sym r.2))

pub none-subsumes : (cs : List (List ℤ)) (ts clause : List ℤ) (n : ℕ) → ts ≡ clause → length ts ≤ n → AllFilled cs
    → ((p : ℕ) → p < n → SubsumesFrom cs ts (index_of (literal_at ts p)) false) → IsSubsumed cs clause false
none-subsumes cs ts clause n e bound each_filled h k d lt = subst (λ c. subsumed_by c (get_or cs k d) ≡ false) e
    (false_from_ne_true (subsumed_by ts (get_or cs k d)) (λ all.
    let here = get_or_default cs k d [] lt in
    let r = top-within ts (get_or cs k d) (each_filled k d lt) all in
    both_ways (subsumed_by ts (get_or cs k [])) (h r.0 (omega (arith, r.1, bound)) k lt
    (get_or-map top_index cs k [] 0 lt ∙ ap top_index (sym here) ∙ r.2)) (ap (subsumed_by ts) (sym here) ∙ all)))

pub none-more : (cs : List (List ℤ)) (ts : List ℤ) (lits : List Lit) (i : ℕ) (x : Lit) → i < length lits → x ≡ get_or lits i x
    → ((p : ℕ) → p < i → SubsumesFrom cs ts (index_of (literal_at (numbers lits) p)) false) → SubsumesFrom cs ts (index_of x.number) false
    → (p : ℕ) → p < i + 1 → SubsumesFrom cs ts (index_of (literal_at (numbers lits) p)) false
none-more cs ts lits i x within is h here p lt = elim (cases_eq p i) [
  | inl e ↦ subst (λ l. SubsumesFrom cs ts (index_of l) false) (sym (ap (literal_at (numbers lits)) e ∙ number-at lits i x within is)) here
  | inr other ↦ h p (omega (arith, lt, other))
]

-- ---- steps

pub known-more : (cnf : Cnf) (steps : List Step) (i : ℕ) (x : Step) → i < length steps → x ≡ get_or steps i x
    → known cnf (take i steps) ++ literals x.clause ∷ [] ≡ known cnf (take (i + 1) steps)
known-more cnf steps i x within is =
    append_assoc (map literals cnf.clauses) (map (λ (s : Step). literals s.clause) (take i steps)) (literals x.clause ∷ [])
    ∙ ap (λ r. map literals cnf.clauses ++ r) (sym (map-append (λ (s : Step). literals s.clause) (take i steps) (x ∷ []))
    ∙ ap (map (λ (s : Step). literals s.clause)) (sym (take_more steps i x within ∙ ap (λ y. take i steps ++ y ∷ []) (sym is))))

module _ (cnf : Cnf) (steps so_far : List Step) (i : ℕ) (x : Step) (within : i < length steps) (is : x ≡ get_or steps i x) (e : so_far ≡ take i steps) where
  here : slice_get steps i ≡ Some x
  here = slice_get_read steps (length steps) i x refl within is

  pub new-here : BringsNew cnf steps i → IsNew (known cnf so_far) (literals x.clause)
  new-here b = subst (λ ss. IsNew (known cnf ss) (literals x.clause)) (sym e)
      (subst (λ s. IsNew (known cnf (take i steps)) (literals s.clause)) (same_Some b.0 x (sym b.1 ∙ here)) b.2)

  pub here-new : IsNew (known cnf so_far) (literals x.clause) → BringsNew cnf steps i
  here-new n = (x, here, subst (λ ss. IsNew (known cnf ss) (literals x.clause)) e n)

pub one-more-new : (cnf : Cnf) (steps : List Step) (i : ℕ) → ((k : ℕ) → k < i → BringsNew cnf steps k) → BringsNew cnf steps i → (k : ℕ) → k < i + 1 → BringsNew cnf steps k
one-more-new cnf steps i h b k lt = elim (cases_eq k i) [
  | inl is ↦ subst (BringsNew cnf steps) (sym is) b
  | inr other ↦ h k (omega (arith, lt, other))
]

pub filled-more : (cs : List (List ℤ)) (c : List ℤ) → AllFilled cs → c ≢ [] → AllFilled (cs ++ c ∷ [])
filled-more cs c h n = All-append (λ c. c ≢ []) cs (c ∷ []) h (All-cons (λ c. c ≢ []) c [] n (All-nil (λ c. c ≢ [])))

pub tops-more : (cs : List (List ℤ)) (c : List ℤ) (i : ℕ) → top_index c ≡ i → tops_of cs ++ i ∷ [] ≡ tops_of (cs ++ c ∷ [])
tops-more cs c i e = ap (λ j. tops_of cs ++ j ∷ []) (sym e) ∙ sym (map-append top_index cs (c ∷ []))

-- ---- clauses, one by one

pub taken-clauses : (clauses : List Clause) (i : ℕ) (x : Clause) → i < length clauses → x ≡ get_or clauses i x
    → map literals (take i clauses) ++ literals x ∷ [] ≡ map literals (take (i + 1) clauses)
taken-clauses clauses i x h e = sym (map-append literals (take i clauses) (x ∷ [])) ∙ ap (map literals) (sym (take_more clauses i x h ∙ ap (λ y. take i clauses ++ y ∷ []) (sym e)))

pub clause-named : (vars : ℕ) (clauses : List Clause) (i : ℕ) (x : Clause) (l : ℤ) → All (All (Names vars)) (map literals clauses) → i < length clauses → x ≡ get_or clauses i x
    → has_literal (literals x) l ≡ true → Names vars l
clause-named vars clauses i x l named h e has = named-literal {vars = vars} (literals x) (subst (All (Names vars)) (get_or-map literals clauses i x [] h ∙ ap literals (sym e))
    (named i [] (omega (arith, h, length-map clauses literals)))) l has
