-- What the status of a hinted clause means for the hints after it, and which clauses are known.
use Rattle.std.proofs.Common.{◌≡◌, ℕ, zero, suc, ◌+◌, ◌-◌, ◌<◌, ◌==◌, ◌&&◌, ◌||◌, ℤ, Bool, true, IsTrue, List, [], ◌∷◌, ◌++◌, length, get_or, map, take, drop, Some, None, refl, sym, ap, ◌∙◌, subst, arith, inl, inr}
use Rattle.std.specs.Prelude.{◌↔◌, slice_get}
use Rattle.std.specs.List.{All}
use Rattle.std.proofs.lemmas.Bool.{both_ways, and_parts, or_cases, false≢true, eqb-true, eq-eqb, cases_eq}
use Rattle.std.proofs.lemmas.Bool.Decides.{Decides-int_eq}
use Rattle.std.proofs.lemmas.List.{drop_all, length-drop, length-map, map-append, nil_from_length, take_more}
use Rattle.std.proofs.lemmas.List.Elements.{All-append, All-cons, All-head, All-map, All-nil, All-tail}
use Rattle.std.proofs.lemmas.Option.{get_or_from_slice_get, none-some, same_Some, slice_get_read, slice_get_within}
use Rattle.cocoon_num.specs.Lists.{each}
use Rattle.cnf_core.specs.Clauses.{literals}
use Rattle.cnf_core.specs.Deriving.{Derived, EndsEmpty, Follows, Refutes, forces, has_no_value, is_conflict, is_false, known}
use Rattle.cnf_core.specs.Literals.{Names, has_literal, same}
use Rattle.cnf_core.specs.Satisfying.{WellNamed}
use Rattle.cnf_core.specs.Trails.{HasStatus}
use Rattle.cnf_core.specs.declared.lit.Lit.{Lit}
use Rattle.cnf_core.specs.declared.clauses.Cnf.{Cnf}
use Rattle.cnf_core.specs.declared.log.Step.{Step}
use Rattle.cnf_core.specs.declared.clause_status.ClauseStatus.{ClauseStatus}
use Rattle.cnf_core.specs.declared.clause_status.ClauseStatus.TheVariants.{Conflict, Forces, Open}
use Rattle.proof_check.specs.Hinted.{AllNamed, HintHasStatus}

pub named-literal : {vars : ℕ} (ls : List ℤ) → All (Names vars) ls → (l : ℤ) → has_literal ls l ≡ true → Names vars l
named-literal [] named l h = absurd (false≢true h)
named-literal {vars} (m ∷ ls) named l h = elim (or_cases (same l m) (has_literal ls l) h) [
  | inl here ↦ subst (Names vars) (sym ((Decides-int_eq l m).0 here)) (All-head (Names vars) m ls named)
  | inr there ↦ named-literal ls (All-tail (Names vars) m ls named) l there
]

module _ (vars : ℕ) (cs : List (List ℤ)) (ts : List ℤ) (h : ℕ) where
  pub hint-none : slice_get cs h ≡ None → HintHasStatus vars cs ts h Open
  hint-none e hs r = none-some r.0 (sym e ∙ r.1)

  module _ (c : List ℤ) (e : slice_get cs h ≡ Some c) where
    is : (d : List ℤ) → slice_get cs h ≡ Some d → d ≡ c
    is d k = same_Some d c (sym k ∙ e)

    pub hint-conflict : HasStatus ts c Conflict → HintHasStatus vars cs ts h Conflict
    hint-conflict w hs = (
      (λ r. elim r.2 [
        | inl last ↦ last.0
        | inr next ↦ absurd (both_ways (forces ts r.0 next.0) (ap (λ d. forces ts d next.0) (is r.0 r.1) ∙ w.1 next.0) next.1)
      ]),
      λ none. (c, e, inl (none, w.0)),
    )

    forces-on : (lit : Lit) → HasStatus ts c (Forces lit) → (hs : List ℕ) → Refutes cs ts (h ∷ hs) ↔ Refutes cs (ts ++ lit.number ∷ []) hs
    forces-on lit w hs = (
      (λ r. elim r.2 [
        | inl last ↦ absurd (both_ways (is_conflict ts r.0) (ap (is_conflict ts) (is r.0 r.1) ∙ w.0) last.1)
        | inr next ↦ subst (λ m. Refutes cs (ts ++ m ∷ []) hs) (w.2 next.0 (sym (ap (λ d. forces ts d next.0) (is r.0 r.1)) ∙ next.1)) next.2
      ]),
      λ rest. (c, e, inr (lit.number, w.1, rest)),
    )

    pub hint-open : HasStatus ts c Open → HintHasStatus vars cs ts h Open
    hint-open w hs r = elim r.2 [
      | inl last ↦ both_ways (is_conflict ts r.0) (ap (is_conflict ts) (is r.0 r.1) ∙ w.0) last.1
      | inr next ↦ both_ways (forces ts r.0 next.0) (ap (λ d. forces ts d next.0) (is r.0 r.1) ∙ w.1 next.0) next.1
    ]

    pub hint-has-status : All (Names vars) c → (w : ClauseStatus) → HasStatus ts c w → HintHasStatus vars cs ts h w
    hint-has-status named Conflict w = hint-conflict w
    hint-has-status named Open w = hint-open w
    hint-has-status named (Forces lit) w =
        let parts = and_parts (has_literal c lit.number) (has_no_value ts lit.number && each (λ m. same lit.number m || is_false ts m) c) w.1 in
        let value = and_parts (has_no_value ts lit.number) (each (λ m. same lit.number m || is_false ts m) c) parts.1 in
        ((named-literal {vars = vars} c named lit.number parts.0).1, value.0, forces-on lit w)

-- ---- the last hint

pub last-hint : (hs : List ℕ) (i : ℕ) → i < length hs → (i + 1 == length hs) ≡ true → drop (i + 1) hs ≡ []
last-hint hs i h e = drop_all (i + 1) hs (omega (arith, eqb-true (i + 1) (length hs) e))

pub hint-last : (hs : List ℕ) (i : ℕ) → i < length hs → drop (i + 1) hs ≡ [] → (i + 1 == length hs) ≡ true
hint-last hs i h e = eq-eqb (i + 1) (length hs) (omega (arith, h, length-drop (i + 1) hs, ap length e))

-- ---- the last step

-- the last clause is empty where it has no literals
pub ends-here : (steps : List Step) (s : Step) (lits : List Lit) (b : Bool) → slice_get steps (length steps - 1) ≡ Some s → lits ≡ s.clause.lits
    → b ≡ (length lits == 0) → IsTrue b ↔ EndsEmpty steps
ends-here steps s lits b at same is =
    let count : length (literals s.clause) ≡ length lits = length-map s.clause.lits (λ (l : Lit). l.number) ∙ ap length (sym same) in (
      λ t. (s, at, nil_from_length (literals s.clause) (count ∙ eqb-true (length lits) 0 (sym is ∙ t))),
      λ e. is ∙ eq-eqb (length lits) 0 (sym count ∙ ap length (subst (λ x. literals x.clause ≡ []) (same_Some e.0 s (sym e.1 ∙ at)) e.2)),
    )

-- ---- the clauses that are known

take_some : (steps : List Step) (k : ℕ) (s : Step) → slice_get steps k ≡ Some s → take (k + 1) steps ≡ take k steps ++ s ∷ []
take_some steps k s e = take_more steps k s (slice_get_within steps k s e) ∙ ap (λ x. take k steps ++ x ∷ []) (get_or_from_slice_get steps k s s e)

steps-named : (cnf : Cnf) (steps : List Step) (i : ℕ) → ((k : ℕ) → k < i → Derived cnf steps k) → AllNamed cnf.vars (map (λ (s : Step). literals s.clause) (take i steps))
steps-named cnf steps zero h = All-nil (All (Names cnf.vars))
steps-named cnf steps (suc k) h =
    let d = h k (omega arith) in
    let next : suc k ≡ k + 1 = omega arith in
    subst (AllNamed cnf.vars) (sym (ap (λ n. map (λ (s : Step). literals s.clause) (take n steps)) next ∙ ap (map (λ (s : Step). literals s.clause)) (take_some steps k d.0 d.1) ∙ map-append (λ (s : Step). literals s.clause) (take k steps) (d.0 ∷ [])))
    (All-append (All (Names cnf.vars)) (map (λ (s : Step). literals s.clause) (take k steps)) (literals d.0.clause ∷ []) (steps-named cnf steps k (λ j lt. h j (omega (arith, lt))))
    (All-cons (All (Names cnf.vars)) (literals d.0.clause) [] d.2.proper.named (All-nil (All (Names cnf.vars)))))

pub known-named : (cnf : Cnf) (steps so_far : List Step) (i v : ℕ) → WellNamed cnf → ((k : ℕ) → k < i → Derived cnf steps k) → so_far ≡ take i steps → v ≡ cnf.vars
    → AllNamed v (known cnf so_far)
known-named cnf steps so_far i v named h e k = subst (λ u. AllNamed u (known cnf so_far)) (sym k) (subst (λ ss. AllNamed cnf.vars (known cnf ss)) (sym e)
    (All-append (All (Names cnf.vars)) (map literals cnf.clauses) (map (λ (s : Step). literals s.clause) (take i steps))
    (All-map (All (Names cnf.vars)) literals cnf.clauses named.1) (steps-named cnf steps i h)))

-- ---- steps

module _ (cnf : Cnf) (steps so_far : List Step) (i v : ℕ) (x : Step) (within : i < length steps) (is : x ≡ get_or steps i x) (e : so_far ≡ take i steps) (k : v ≡ cnf.vars) where
  here : slice_get steps i ≡ Some x
  here = slice_get_read steps (length steps) i x refl within is

  pub derived-follows : Derived cnf steps i → Follows v (known cnf so_far) (literals x.clause) x.hints
  derived-follows d = subst (λ u. Follows u (known cnf so_far) (literals x.clause) x.hints) (sym k)
      (subst (λ ss. Follows cnf.vars (known cnf ss) (literals x.clause) x.hints) (sym e)
      (subst (λ s. Follows cnf.vars (known cnf (take i steps)) (literals s.clause) s.hints) (same_Some d.0 x (sym d.1 ∙ here)) d.2))

  pub follows-derived : Follows v (known cnf so_far) (literals x.clause) x.hints → Derived cnf steps i
  follows-derived f = (
    x,
    here,
    subst (λ ss. Follows cnf.vars (known cnf ss) (literals x.clause) x.hints) e
        (subst (λ u. Follows u (known cnf so_far) (literals x.clause) x.hints) k f),
  )

pub one-more : (cnf : Cnf) (steps : List Step) (i : ℕ) → ((k : ℕ) → k < i → Derived cnf steps k) → Derived cnf steps i → (k : ℕ) → k < i + 1 → Derived cnf steps k
one-more cnf steps i h d k lt = elim (cases_eq k i) [
  | inl is ↦ subst (Derived cnf steps) (sym is) d
  | inr other ↦ h k (omega (arith, lt, other))
]

pub at-some : (P : List ℤ → Type 0) (cs : List (List ℤ)) (k : ℕ) (c : List ℤ) → All P cs → slice_get cs k ≡ Some c → P c
at-some P cs k c h e = subst P (get_or_from_slice_get cs k c [] e) (h k [] (slice_get_within cs k c e))
