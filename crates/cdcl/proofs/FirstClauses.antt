-- How a search begins.
use Rattle.std.proofs.Common.{◌≡◌, ℕ, ◌+◌, ◌<◌, true, List, [], ◌∷◌, length, get_or, map, Some, None, refl, sym, ap, ◌∙◌}
use Rattle.std.specs.Prelude.{IfOk, Result, Ok, Err, option_map, slice_get}
use Rattle.std.proofs.lemmas.Bool.{or_left}
use Rattle.std.proofs.lemmas.List.{append-nil, length-append, length-map}
use Rattle.std.proofs.lemmas.Option.{none-some, same_Some, slice_get-map, slice_get_read}
use Rattle.cnf_core.specs.Clauses.{literals}
use Rattle.cnf_core.specs.Deriving.{known}
use Rattle.cnf_core.specs.Literals.{has_literal, same}
use Rattle.cnf_core.specs.Trails.{numbers}
use Rattle.cnf_core.specs.declared.clauses.Clause.{Clause}
use Rattle.cnf_core.specs.declared.clauses.Cnf.{Cnf}
use Rattle.cnf_core.specs.declared.lit.Lit.{Lit}
use Rattle.cnf_core.specs.declared.log.Step.{Step}
use Rattle.cnf_core.proofs.LiteralFacts.{same-same}
use Rattle.cdcl.proofs.Jumping.{get-prefix}

pub given-clause : (cnf : Cnf) (steps : List Step) (i : ℕ) (x : Clause) → i < length cnf.clauses → x ≡ get_or cnf.clauses i x → slice_get (known cnf steps) i ≡ Some (literals x)
given-clause cnf steps i x lt e = get-prefix (map literals cnf.clauses) (map (λ (s : Step). literals s.clause) steps) i (literals x)
    (slice_get-map literals cnf.clauses i ∙ ap (option_map literals) (slice_get_read cnf.clauses (length cnf.clauses) i x refl lt e))

pub given-count : (cnf : Cnf) (steps : List Step) → steps ≡ [] → length (known cnf steps) ≡ length cnf.clauses
given-count cnf steps none = ap (λ ss. length (known cnf ss)) none ∙ ap length (append-nil (map literals cnf.clauses)) ∙ length-map cnf.clauses literals

pub first-has : (lits : List Lit) (x : Lit) → slice_get lits 0 ≡ Some x → has_literal (numbers lits) x.number ≡ true
first-has [] x e = absurd (none-some x e)
first-has (l ∷ lits) x e = or_left (same x.number l.number) (has_literal (numbers lits) x.number) (ap (λ (y : Lit). same x.number y.number) (same_Some l x e) ∙ same-same x.number)

pub first-none : (lits : List Lit) → slice_get lits 0 ≡ None → numbers lits ≡ []
first-none [] e = refl
first-none (l ∷ lits) e = absurd (none-some l (sym e))

pub known-count : (cnf : Cnf) (steps : List Step) → length (known cnf steps) ≡ length cnf.clauses + length steps
known-count cnf steps = length-append (map literals cnf.clauses) (map (λ (s : Step). literals s.clause) steps)
    ∙ ap (λ n. n + length (map (λ (s : Step). literals s.clause) steps)) (length-map cnf.clauses literals) ∙ ap (λ n. length cnf.clauses + n) (length-map steps (λ (s : Step). literals s.clause))

pub if-ok-weaker : {T E : Type 0} {P Q : T → Type 0} (r : Result T E) → ((x : T) → P x → Q x) → IfOk r P → IfOk r Q
if-ok-weaker (Ok x) f h = f x h
if-ok-weaker (Err e) f h = h
