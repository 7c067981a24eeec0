-- What becomes of a clause where a literal that it watches is false.
use Rattle.std.proofs.Common.{◌≡◌, ℕ, ◌+◌, ◌<◌, ◌≤◌, ◌&&◌, ◌||◌, ℤ, pos, true, false, not, List, length, drop, get_or, take, Option, Some, None, sym, ap, ◌∙◌, subst, arith, inl, inr}
use Rattle.std.specs.Prelude.{slice_get}
use Rattle.std.proofs.lemmas.Bool.{and_from, not_from_false, or_cases}
use Rattle.std.proofs.lemmas.List.{get_or-drop, get_or-map, get_or-take, length-drop, length-take-le, take-append-drop}
use Rattle.std.proofs.lemmas.Option.{same_Some}
use Rattle.cocoon_num.specs.Lists.{each}
use Rattle.cnf_core.specs.Deriving.{forces, has_no_value, is_conflict, is_false}
use Rattle.cnf_core.specs.Literals.{has_literal, same}
use Rattle.cnf_core.specs.Trails.{literal_at, numbers}
use Rattle.cnf_core.specs.TrailViews.{trues}
use Rattle.cnf_core.specs.declared.clauses.Cnf.{Cnf}
use Rattle.cnf_core.specs.declared.lit.Lit.{Lit}
use Rattle.cnf_core.proofs.LiteralFacts.{same-is}
use Rattle.cnf_core.proofs.ClauseStatuses.{each-append, each-weaker}
use Rattle.cdcl.specs.States.{ReplacesAt, VisitsClause, VisitsNumber, clauses_of}
use Rattle.cdcl.specs.Watching.{AreWatched}
use Rattle.cdcl.specs.declared.propagation.Visit.{Visit}
use Rattle.cdcl.specs.declared.propagation.Visit.TheVariants.{Conflict, Forces, Kept, Moved}
use Rattle.cdcl.specs.declared.search.Search.{Search}
use Rattle.cdcl.specs.declared.watches.Pair.{Pair}
use Rattle.cdcl.proofs.Watched.{same-other}

pub item-literal : (lits : List Lit) (i : ℕ) (x : Lit) → i < length lits → x ≡ get_or lits i x → literal_at (numbers lits) i ≡ x.number
item-literal lits i x lt e = get_or-map (λ (l : Lit). l.number) lits i x (pos 0) lt ∙ ap (λ (l : Lit). l.number) (sym e)

-- a look from a place on, and one before it
module _ (ts ls : List ℤ) (other : ℤ) (from : ℕ) (within : from ≤ length ls) where
  pub replaces-after : (place before : ℕ) → before ≡ from → ReplacesAt ts (drop from ls) other (Some place) → ReplacesAt ts ls other (Some (before + place))
  replaces-after place before at h =
      let is : literal_at (drop from ls) place ≡ literal_at ls (before + place) = get_or-drop from ls place (pos 0) ∙ ap (λ n. literal_at ls (n + place)) (sym at) in (
        omega (arith, h.0, length-drop from ls, at, within),
        (λ e. h.1 (is ∙ e)),
        ap (is_false ts) (sym is) ∙ h.2,
      )

  pub replaces-before : (r : Option ℕ) → ReplacesAt ts (drop from ls) other None → ReplacesAt ts (take from ls) other r → ReplacesAt ts ls other r
  replaces-before (Some place) none h =
      let lt : place < from = omega (arith, h.0, length-take-le from ls within) in
      let is : literal_at (take from ls) place ≡ literal_at ls place = get_or-take from ls place (pos 0) lt in (
        omega (arith, lt, within),
        (λ e. h.1 (is ∙ e)),
        ap (is_false ts) (sym is) ∙ h.2,
      )
  replaces-before None none h = subst (λ ms. each (λ m. same other m || is_false ts m) ms ≡ true) (take-append-drop from ls)
      (each-append (λ m. same other m || is_false ts m) (take from ls) (drop from ls) h none)

module _ (ts ls : List ℤ) (other : ℤ) where
  pub all-false : is_false ts other ≡ true → each (λ m. same other m || is_false ts m) ls ≡ true → is_conflict ts ls ≡ true
  all-false off all = each-weaker (λ m. same other m || is_false ts m) (is_false ts) (λ m h. elim (or_cases (same other m) (is_false ts m) h) [
    | inl is ↦ ap (is_false ts) (sym (same-is other m is)) ∙ off
    | inr there ↦ there
  ]) ls all

  pub forces-other : has_literal ls other ≡ true → has_literal ts other ≡ false → is_false ts other ≡ false → each (λ m. same other m || is_false ts m) ls ≡ true → forces ts ls other ≡ true
  forces-other inside not_true not_false all = and_from (has_literal ls other) (has_no_value ts other && each (λ m. same other m || is_false ts m) ls) inside
      (and_from (has_no_value ts other) (each (λ m. same other m || is_false ts m) ls)
      (and_from (not (has_literal ts other)) (not (is_false ts other)) (not_from_false (has_literal ts other) not_true) (not_from_false (is_false ts other) not_false)) all)

pub visits-number : (cnf : Cnf) (s : Search) (n : ℕ) (off other : ℤ) (pair : Pair) (clause : List ℤ) → slice_get s.watches.pairs.items n ≡ Some pair → AreWatched pair off other
    → slice_get (clauses_of cnf s) n ≡ Some clause → (v : Visit) → VisitsClause (trues s.trail) clause other v → VisitsNumber cnf s n off v
visits-number cnf s n off other pair clause at are known Kept on = λ p b e h.
    ap (has_literal (trues s.trail)) (sym (same-other pair off other b are (subst (λ q. AreWatched q off b) (same_Some p pair (sym e ∙ at)) h))) ∙ on
visits-number cnf s n off other pair clause at are known (Moved m) v = record { pair = pair; other = other; clause = clause; at = at; watched = are; known = known; visits = v }
visits-number cnf s n off other pair clause at are known (Forces l) v = record { pair = pair; other = other; clause = clause; at = at; watched = are; known = known; visits = v }
visits-number cnf s n off other pair clause at are known Conflict v = record { pair = pair; other = other; clause = clause; at = at; watched = are; known = known; visits = v }
