-- What evaluation finds ready at a term whose parts have their values.
use Rattle.std.proofs.Common.{◌≡◌, ◌≢◌, ℕ, ◌<◌, ◌≤◌, List, [], ◌∷◌, length, map, Option, Some, None, slice_get, refl, ap, sym, ◌∙◌, subst, arith, inl, inr}
use Rattle.std.specs.List.{All, AllByRecursion}
use Rattle.std.specs.Option.{option_map, unwrap_or}
use Rattle.std.proofs.lemmas.List.Elements.{recursion_from_All, All-from_recursion}
use Rattle.std.proofs.lemmas.Option.{slice_get_within}
use Rattle.std.proofs.lemmas.Bool.{cases_eq, false≢true}
use Rattle.std.specs.Option.{IsSome}
use Rattle.cocoon_num.specs.Values.{number, apply_unary, apply_slice, flip}
use Rattle.cocoon_num.specs.BitsOf.{value_of}
use Rattle.cocoon_num.specs.declared.bits.Bits.{Bits}
use Rattle.bv_terms.specs.declared.node.Node.{Node}
use Rattle.bv_terms.specs.declared.node.Node.TheVariants.{Constant, Input, Apply, Not, Binary, Slice, Pick}
use Rattle.bv_terms.specs.declared.eval.Env.{Env}
use Rattle.bv_terms.specs.TermTrees.{Term, width, arg_widths, IsTerm, AreArgs, OperandsFit}
use Rattle.bv_terms.specs.TermValues.{number_in, term_number, operated, term_value, arg_numbers}
use Rattle.bv_terms.specs.Arenas.{parts, args_of, made_of, term_at, width_at, WidthsFit, IsArena}
use Rattle.bv_terms.specs.Environments.{Covers, CoversArgs, HasTable, functions_of, inputs_of}
use Rattle.bv_terms.specs.TermMaps.{value_at, IsSet}
use Rattle.bv_terms.specs.Evaluated.{Known, value_in, width_in, numbers_in, node_value, HasNode, IsReady}
use Rattle.bv_terms.proofs.Members.{both, each}
use Rattle.bv_terms.proofs.ValueFacts.{value-width}

-- ---- a term that an environment covers

args-fit : (f : ℕ → Term) (xs : List ℕ) → AreArgs (args_of f xs) → AllByRecursion (λ a. width (f a) ≤ 64) xs
args-fit f [] h = tt
args-fit f (a ∷ xs) h = (h.1, args-fit f xs h.2)

pub fit-of : (f : ℕ → Term) (n : Node) → IsTerm (made_of f n) → WidthsFit (λ p. width (f p)) n
fit-of f (Constant b) h = tt
fit-of f (Input i w) h = h
fit-of f (Apply g args w) h = (All-from_recursion (λ a. width (f a) ≤ 64) args (args-fit f args h.0), h.1)
fit-of f (Not a) h = tt
fit-of f (Binary op a b) h = h.2
fit-of f (Slice a high low) h = (h.1, h.2)
fit-of f (Pick c a b) h = (h.3, h.4)

arg-widths : (f : ℕ → Term) (xs : List ℕ) → arg_widths (args_of f xs) ≡ map (λ a. width (f a)) xs
arg-widths f [] = refl
arg-widths f (a ∷ xs) = ap (λ ws. width (f a) ∷ ws) (arg-widths f xs)

has-of : (env : Env) (f : ℕ → Term) (n : Node) → Covers env (made_of f n) → HasNode env (λ p. width (f p)) n
has-of env f (Constant b) h = tt
has-of env f (Input i w) h = h
has-of env f (Apply g args w) h = subst (λ ws. HasTable env g ws w) (arg-widths f args) h.1
has-of env f (Not a) h = tt
has-of env f (Binary op a b) h = tt
has-of env f (Slice a high low) h = tt
has-of env f (Pick c a b) h = tt

args-covered : (env : Env) (f : ℕ → Term) (xs : List ℕ) → CoversArgs env (args_of f xs) → AllByRecursion (λ a. Covers env (f a)) xs
args-covered env f [] h = tt
args-covered env f (a ∷ xs) h = (h.0, args-covered env f xs h.1)

parts-by-recursion : (env : Env) (f : ℕ → Term) (n : Node) → Covers env (made_of f n) → AllByRecursion (λ p. Covers env (f p)) (parts n)
parts-by-recursion env f (Constant b) h = tt
parts-by-recursion env f (Input i w) h = tt
parts-by-recursion env f (Apply g args w) h = args-covered env f args h.0
parts-by-recursion env f (Not a) h = (h, tt)
parts-by-recursion env f (Binary op a b) h = (h.0, (h.1, tt))
parts-by-recursion env f (Slice a high low) h = (h, tt)
parts-by-recursion env f (Pick c a b) h = (h.0, (h.1, (h.2, tt)))

pub parts-covered : (env : Env) (f : ℕ → Term) (n : Node) → Covers env (made_of f n) → All (λ p. Covers env (f p)) (parts n)
parts-covered env f n h = All-from_recursion (λ p. Covers env (f p)) (parts n) (parts-by-recursion env f n h)

-- ---- the same widths of the parts

AgreeOn : {A : Type 0} → (u w : ℕ → A) → List ℕ → Type 0
AgreeOn u w ps = AllByRecursion (λ p. u p ≡ w p) ps

narrow-same : (u w : ℕ → ℕ) (xs : List ℕ) → AllByRecursion (λ p. u p ≡ w p) xs → AllByRecursion (λ a. w a ≤ 64) xs → AllByRecursion (λ a. u a ≤ 64) xs
narrow-same u w [] e h = tt
narrow-same u w (a ∷ xs) e h = (subst (λ k. k ≤ 64) (sym e.0) h.0, narrow-same u w xs e.1 h.1)

pub fit-same : (u w : ℕ → ℕ) (n : Node) → AllByRecursion (λ p. u p ≡ w p) (parts n) → WidthsFit w n → WidthsFit u n
fit-same u w (Constant b) e h = tt
fit-same u w (Input i v) e h = h
fit-same u w (Apply f args v) e h =
    (All-from_recursion (λ a. u a ≤ 64) args (narrow-same u w args e (recursion_from_All (λ a. w a ≤ 64) args h.0)), h.1)
fit-same u w (Not a) e h = tt
fit-same u w (Binary op a b) e h = subst (λ k. OperandsFit op k (u b)) (sym e.0) (subst (OperandsFit op (w a)) (sym e.1.0) h)
fit-same u w (Slice a high low) e h = (h.0, subst (λ k. high < k) (sym e.0) h.1)
fit-same u w (Pick c a b) e h = (e.0 ∙ h.0, e.1.0 ∙ h.1 ∙ sym e.1.1.0)

pub map-same : {A : Type 0} (u w : ℕ → A) (xs : List ℕ) → AllByRecursion (λ p. u p ≡ w p) xs → map u xs ≡ map w xs
map-same u w [] e = refl
map-same u w (a ∷ xs) e = let d = map-same u w xs e.1 in let d' = e.0 in cc

has-same : (env : Env) (u w : ℕ → ℕ) (n : Node) → AllByRecursion (λ p. u p ≡ w p) (parts n) → HasNode env w n → HasNode env u n
has-same env u w (Constant b) e h = tt
has-same env u w (Input i v) e h = h
has-same env u w (Apply f args v) e h = subst (λ ws. HasTable env f ws v) (sym (map-same u w args e)) h
has-same env u w (Not a) e h = tt
has-same env u w (Binary op a b) e h = tt
has-same env u w (Slice a high low) e h = tt
has-same env u w (Pick c a b) e h = tt

-- ---- values by number

width-of-value : (b : Bits) (w n : ℕ) → value_of b ≡ number w n → b.width ≡ w
width-of-value b w n e = cc

width-by-value : (values : Known) (k w n : ℕ) → IsSome (value_at values k) → value_in values k ≡ number w n → width_in values k ≡ w
width-by-value values k w n some e = by (value_at values k) some e
  where
    by : (o : Option Bits) → IsSome o → unwrap_or (option_map value_of o) (number 0 0) ≡ number w n → unwrap_or (option_map (λ (b : Bits). b.width) o) 0 ≡ w
    by None s q = absurd (false≢true s)
    by (Some b) s q = width-of-value b w n q

-- ---- the value of a node

arg-numbers : (env : Env) (values : Known) (f : ℕ → Term) (xs : List ℕ)
    → AllByRecursion (λ p. value_in values p ≡ term_value (functions_of env) (inputs_of env) (f p)) xs
    → numbers_in values xs ≡ arg_numbers (functions_of env) (inputs_of env) (args_of f xs)
arg-numbers env values f [] e = refl
arg-numbers env values f (a ∷ xs) e = let d = arg-numbers env values f xs e.1 in let d' = ap number_in e.0 in cc

made-value : (env : Env) (values : Known) (f : ℕ → Term) (n : Node)
    → AllByRecursion (λ p. value_in values p ≡ term_value (functions_of env) (inputs_of env) (f p)) (parts n)
    → node_value env values n ≡ term_value (functions_of env) (inputs_of env) (made_of f n)
made-value env values f (Constant b) e = refl
made-value env values f (Input i w) e = refl
made-value env values f (Apply g args w) e = ap (λ xs. number w (functions_of env g xs)) (arg-numbers env values f args e)
made-value env values f (Not a) e = ap (λ v. term_number (apply_unary flip v)) e.0
made-value env values f (Binary op a b) e =
    ap (λ v. operated op v (value_in values b)) e.0 ∙ ap (operated op (term_value (functions_of env) (inputs_of env) (f a))) e.1.0
made-value env values f (Slice a high low) e = ap (λ v. term_number (apply_slice v high low)) e.0
made-value env values f (Pick c a b) e = rw (e.0, e.1.0, e.1.1.0) refl

-- ---- what is ready

-- the parts of a node that is known have values
pub parts-there : (values : Known) (node other : Node) → node ≡ other → All (λ p. IsSome (value_at values p)) (parts node) → AllByRecursion (λ p. IsSome (value_at values p)) (parts other)
parts-there values node other e h =
    subst (λ (x : Node). AllByRecursion (λ p. IsSome (value_at values p)) (parts x)) e (recursion_from_All (λ p. IsSome (value_at values p)) (parts node) h)

-- the term has its value
pub record HasValue (nodes : List Node) (env : Env) (values : Known) (k : ℕ) : Type 0 where
  pub some : IsSome (value_at values k)
  pub is : value_in values k ≡ term_value (functions_of env) (inputs_of env) (term_at nodes k)

pub record Ready (nodes : List Node) (env : Env) (values : Known) (k : ℕ) (n : Node) : Type 0 where
  pub ready : IsReady env values n
  pub value : node_value env values n ≡ term_value (functions_of env) (inputs_of env) (term_at nodes k)

pub is-ready : (nodes : List Node) (env : Env) (values : Known) (k : ℕ) (n : Node) → IsArena nodes → slice_get nodes k ≡ Some n → Covers env (term_at nodes k)
    → AllByRecursion (HasValue nodes env values) (parts n) → Ready nodes env values k n
is-ready nodes env values k n a e covers have =
    let F = functions_of env in
    let ins = inputs_of env in
    let here : k < length nodes = slice_get_within nodes k n e in
    let below : AllByRecursion (λ p. p < k) (parts n) = recursion_from_All (λ p. p < k) (parts n) (a.below k n e) in
    let are : AllByRecursion (λ p. value_in values p ≡ term_value F ins (term_at nodes p)) (parts n)
    = each (λ p (h : HasValue nodes env values p). h.is) (parts n) have in
    let widths : AllByRecursion (λ p. width_in values p ≡ width_at nodes p) (parts n)
    = both (λ p. p < k) (HasValue nodes env values) (λ p. width_in values p ≡ width_at nodes p)
    (λ p l h. let w = value-width F ins (term_at nodes p) (a.terms p (omega arith)) in width-by-value values p (width_at nodes p) w.0 h.some (h.is ∙ w.1)) (parts n) below have in
    let made : term_at nodes k ≡ made_of (term_at nodes) n = a.made k n e in
    record {
      ready = record {
        there = All-from_recursion (λ p. IsSome (value_at values p)) (parts n) (each (λ p (h : HasValue nodes env values p). h.some) (parts n) have);
        fit = fit-same (width_in values) (width_at nodes) n widths (fit-of (term_at nodes) n (subst IsTerm made (a.terms k here)));
        has = has-same env (width_in values) (width_at nodes) n widths (has-of env (term_at nodes) n (subst (Covers env) made covers));
      };
      value = made-value env values (term_at nodes) n are ∙ ap (term_value F ins) (sym made);
    }

-- ---- one value more

value-old : (values : Known) (new : Known) (at k : ℕ) (v : Bits) → IsSet values new at v → at ≢ k → value_at new k ≡ value_at values k
value-old values new at k v up n = up.others k n

has-old : (nodes : List Node) (env : Env) (values new : Known) (at k : ℕ) (v : Bits) → IsSet values new at v → at ≢ k
    → HasValue nodes env values k → HasValue nodes env new k
has-old nodes env values new at k v up n h =
    let e = value-old values new at k v up n in
    record {
      some = subst (λ (o : Option Bits). IsSome o) (sym e) h.some;
      is = ap (λ o. unwrap_or (option_map value_of o) (number 0 0)) e ∙ h.is;
    }

has-new : (nodes : List Node) (env : Env) (values new : Known) (at : ℕ) (v : Bits) → IsSet values new at v
    → value_of v ≡ term_value (functions_of env) (inputs_of env) (term_at nodes at) → HasValue nodes env new at
has-new nodes env values new at v up e = record {
  some = subst (λ (o : Option Bits). IsSome o) (sym up.itself) refl;
  is = ap (λ o. unwrap_or (option_map value_of o) (number 0 0)) up.itself ∙ e;
}

pub has-more : (nodes : List Node) (env : Env) (values new : Known) (at k : ℕ) (v : Bits) → IsSet values new at v
    → value_of v ≡ term_value (functions_of env) (inputs_of env) (term_at nodes at) → ((at ≢ k) → HasValue nodes env values k) → HasValue nodes env new k
has-more nodes env values new at k v up e h = elim (cases_eq at k) [
  | inl s ↦ subst (HasValue nodes env new) s (has-new nodes env values new at v up e)
  | inr n ↦ has-old nodes env values new at k v up n (h n)
]
