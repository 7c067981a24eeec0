-- Variables that are as a scope has them, and parameters that are bound to numbers that fit.
use Rattle.std.proofs.Common.{◌≡◌, ℕ, ◌^◌, List, [], ◌∷◌, cond, Bool, true, false, Option, Some, None, if◌then◌else◌, option_map, refl, sym, subst}
use Rattle.std.proofs.lemmas.Bool.{lt-ltb}
use Rattle.cocoon_num.specs.Names.{same_name, named}
use Rattle.cocoon_num.specs.PacketForms.{FieldsFit}
use Rattle.cocoon_num.specs.Sorts.{bits_sort}
use Rattle.cocoon_num.specs.Tree.{Param}
use Rattle.cocoon_num.specs.Values.{Value, number}
use Rattle.cocoon_types.specs.Design.{widths_of}
use Rattle.cocoon_types.specs.Val.{Env, bind, bound, variable}
use Rattle.sound_types.specs.Matching.{Binds, HasValue, IsOfSort}

-- the width of a variable among some
abbrev pub width_among : List Param → List ℕ → Option ℕ
width_among ps x = option_map (λ (p : Param). p.width) (named (λ (p : Param). p.name) x ps)

by_name : (p : Param) (ps : List Param) (v : Value) (x : List ℕ) (w : ℕ) (o : Option Value) → IsOfSort (bits_sort p.width) v → (width_among ps x ≡ Some w → HasValue (bits_sort w) o) → (same : Bool)
    → option_map (λ (q : Param). q.width) (cond same (Some p) (named (λ (q : Param). q.name) x ps)) ≡ Some w → HasValue (bits_sort w) (if same then Some v else o)
by_name p ps v x w o h f true k = let e : p.width ≡ w = cc in subst (λ y. IsOfSort (bits_sort y) v) e h
by_name p ps v x w o h f false k = f k

pub variable_value : (ps : List Param) (env : Env) → Binds ps env → (x : List ℕ) (w : ℕ) → width_among ps x ≡ Some w → HasValue (bits_sort w) (variable env x)
variable_value [] [] b x w h = absurd (cc)
variable_value [] (v ∷ env) b x w h = absurd b
variable_value (p ∷ ps) [] b x w h = absurd b
variable_value (p ∷ ps) (v ∷ env) b x w h =
    subst (λ y. HasValue (bits_sort w) (if same_name x y then Some v.value else variable env x)) (sym b.0)
    (by_name p ps v.value x w (variable env x) b.1 (variable_value ps env b.2 x w) (same_name x p.name.text) h)

pub bind_value : (ps : List Param) (ns : List ℕ) → FieldsFit (widths_of ps) ns → (env : Env) × (bind ps ns ≡ Some env) × Binds ps env
bind_value [] [] h = ([], refl, tt)
bind_value [] (n ∷ ns) h = absurd h
bind_value (p ∷ ps) [] h = absurd h
bind_value (p ∷ ps) (n ∷ ns) h =
    let t = bind_value ps ns h.1 in (
      bound p.name.text (number p.width n) t.0,
      (λ i. if lt-ltb n (2 ^ p.width) h.0 i then option_map (bound p.name.text (number p.width n)) (t.1 i) else None),
      (refl, (refl, h.0), t.2),
    )
