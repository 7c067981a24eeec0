-- What a `Scopes` keeps through a binding, and through the end of one.
use Rattle.std.proofs.Common.{◌≡◌, ℕ, ◌+◌, ◌-◌, ◌<◌, ◌≤◌, length, drop, arith, Bool, true, false, cond, List, [], ◌∷◌, ◌++◌, map, reverse, Option, Some, None, option_map, if◌then◌else◌, refl, sym, ap, subst, ◌∙◌, Vec, Global, BTreeMap}
use Rattle.std.specs.Option.{option_and_then}
use Rattle.std.specs.BTreeMap.{UpdatesBy}
use Rattle.std.proofs.lemmas.List.{reverse-append, length-drop, drop-drop}
use Rattle.cocoon_num.specs.Tree.{Param}
use Rattle.cocoon_num.specs.Names.{same_name, named}
use Rattle.declarations.specs.Widths.{width_in}
use Rattle.declarations.specs.Kept.{param_of, in_scope, HaveHidden, width_under, IsKept}
use Rattle.declarations.specs.declared.scopes.Bound.{Bound}
use Rattle.numbering.proofs.NameFacts.{value_at, key_cmp, value-updated, same-refl, same-true}

-- one variable more comes first
pub scope_more : (vs : List Bound) (v : Bound) → in_scope (vs ++ v ∷ []) ≡ param_of v ∷ in_scope vs
scope_more vs v = ap (map param_of) (reverse-append vs (v ∷ []))

-- the width of a name, with one variable more
width_more : (v : Bound) (ps : List Param) (x : List ℕ) → width_in (param_of v ∷ ps) x ≡ cond (same_name x v.name.items) (Some v.width) (width_in ps x)
width_more v ps x = by (same_name x v.name.items)
  where
    by : (b : Bool) → option_map (λ (p : Param). p.width) (if b then Some (param_of v) else named (λ (p : Param). p.name) x ps) ≡ cond b (Some v.width) (width_in ps x)
    by true = refl
    by false = refl

-- the width under a name, after a change of the map
under-updated : (m n : BTreeMap (Vec ℕ Global) (Option ℕ)) (k : Vec ℕ Global) (w : Option ℕ)
    → UpdatesBy key_cmp (key_cmp k) m n (Some w)
    → (x : List ℕ) → width_under n x ≡ cond (same_name x k.items) w (width_under m x)
under-updated m n k w h x = ap (option_and_then (λ a. a)) (value-updated m n k (Some w) h x) ∙ by (same_name x k.items)
  where
    by : (b : Bool) → option_and_then (λ a. a) (cond b (Some w) (value_at m x)) ≡ cond b w (width_under m x)
    by true = refl
    by false = refl

-- a variable is bound
pub binding : (vs : List Bound) (v : Bound) (m n : BTreeMap (Vec ℕ Global) (Option ℕ)) (k : Vec ℕ Global) → IsKept vs m
    → UpdatesBy key_cmp (key_cmp k) m n (Some (Some v.width)) → k.items ≡ v.name.items
    → v.hides ≡ width_in (in_scope vs) v.name.items → IsKept (vs ++ v ∷ []) n
binding vs v m n k kept new key hides = record {
  widths = λ x.
      under-updated m n k (Some v.width) new x
      ∙ (λ i. cond (same_name x (key i)) (Some v.width) (kept.widths x i))
      ∙ sym (width_more v (in_scope vs) x)
      ∙ sym (ap (λ ps. width_in ps x) (scope_more vs v));
  hidden = subst HaveHidden (sym (reverse-append vs (v ∷ []))) (hides, kept.hidden);
}

-- what was kept with the last variable
last_hides : (vs : List Bound) (v : Bound) → HaveHidden (reverse (vs ++ v ∷ [])) → (v.hides ≡ width_in (in_scope vs) v.name.items) × HaveHidden (reverse vs)
last_hides vs v h = subst HaveHidden (reverse-append vs (v ∷ [])) h

-- the last variable goes
pub unbinding : (vs : List Bound) (v : Bound) (m n : BTreeMap (Vec ℕ Global) (Option ℕ)) → IsKept (vs ++ v ∷ []) m
    → UpdatesBy key_cmp (key_cmp v.name) m n (Some v.hides) → IsKept vs n
unbinding vs v m n kept new =
    let old = last_hides vs v kept.hidden in
    record {
      widths = λ x. under-updated m n v.name v.hides new x ∙ by x old.0 (same_name x v.name.items) refl;
      hidden = old.1;
    }
  where
    by : (x : List ℕ) → v.hides ≡ width_in (in_scope vs) v.name.items → (b : Bool) → same_name x v.name.items ≡ b
        → cond (same_name x v.name.items) v.hides (width_under m x) ≡ width_in (in_scope vs) x
    by x h true e =
        ap (λ c. cond c v.hides (width_under m x)) e ∙ h ∙ ap (width_in (in_scope vs)) (sym (same-true x v.name.items e))
    by x h false e =
        ap (λ c. cond c v.hides (width_under m x)) e
        ∙ kept.widths x
        ∙ ap (λ ps. width_in ps x) (scope_more vs v)
        ∙ width_more v (in_scope vs) x
        ∙ ap (λ c. cond c (Some v.width) (width_in (in_scope vs) x)) e

-- the last variable has a width in the map
pub last_held : (vs : List Bound) (v : Bound) (m : BTreeMap (Vec ℕ Global) (Option ℕ)) → IsKept (vs ++ v ∷ []) m → value_at m v.name.items ≡ None → ⊥
last_held vs v m kept none =
    let held : width_under m v.name.items ≡ Some v.width =
    kept.widths v.name.items
    ∙ ap (λ ps. width_in ps v.name.items) (scope_more vs v)
    ∙ width_more v (in_scope vs) v.name.items
    ∙ ap (λ c. cond c (Some v.width) (width_in (in_scope vs) v.name.items)) (same-refl v.name.items) in
    let empty : width_under m v.name.items ≡ None = ap (option_and_then (λ a. a)) none in
    cc

-- one variable more has gone
pub closing : {X : Type 0} (depth : ℕ) (old s t : List X) → s ≡ drop (length old - length s) old → depth < length s → t ≡ drop 1 s
    → (depth ≤ length t) × (t ≡ drop (length old - length t) old)
closing depth old s t left more next =
    let shorter : length s ≡ length old - (length old - length s) = ap length left ∙ length-drop (length old - length s) old in
    let one : length t ≡ length s - 1 = ap length next ∙ length-drop 1 s in
    let count : length old - length s + 1 ≡ length old - length t = omega (arith, shorter, one, more) in (
      omega (arith, one, more),
      next ∙ ap (drop 1) left ∙ drop-drop 1 (length old - length s) old ∙ ap (λ k. drop k old) count,
    )
