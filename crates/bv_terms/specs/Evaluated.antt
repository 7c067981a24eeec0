-- Cited by private clauses of `Terms::eval`: the value of a node, given those of its parts.
use Rattle.std.specs.Prelude.{ℕ, ◌==◌, List, All, map, if◌then◌else◌, option_map, unwrap_or}
use Rattle.std.specs.Option.{IsSome}
use Rattle.cocoon_num.specs.Values.{Value, number, apply_unary, apply_slice, flip}
use Rattle.cocoon_num.specs.BitsOf.{value_of}
use Rattle.cocoon_num.specs.declared.bits.Bits.{Bits}
use Rattle.bv_terms.specs.declared.node.Node.{Node}
use Rattle.bv_terms.specs.declared.node.Node.TheVariants.{Constant, Input, Apply, Not, Binary, Slice, Pick}
use Rattle.bv_terms.specs.declared.eval.Env.{Env}
use Rattle.bv_terms.specs.declared.term_map.TermMap.{TermMap}
use Rattle.bv_terms.specs.TermValues.{number_in, term_number, operated}
use Rattle.bv_terms.specs.Arenas.{parts, WidthsFit}
use Rattle.bv_terms.specs.Environments.{HasInput, HasTable, functions_of, inputs_of}
use Rattle.bv_terms.specs.TermMaps.{value_at}

-- the values of some terms, by their numbers
abbrev pub Known : Type 0
Known = TermMap Bits

abbrev pub value_in : Known → ℕ → Value
value_in values k = unwrap_or (option_map value_of (value_at values k)) (number 0 0)

abbrev pub width_in : Known → ℕ → ℕ
width_in values k = unwrap_or (option_map (λ (b : Bits). b.width) (value_at values k)) 0

-- the numbers of arguments
abbrev pub numbers_in : Known → List ℕ → List ℕ
numbers_in values args = map (λ a. number_in (value_in values a)) args

-- the value of a node whose parts have these values
abbrev pub node_value : Env → Known → Node → Value
node_value env values (Constant b) = value_of b
node_value env values (Input i w) = number w (inputs_of env i)
node_value env values (Apply f args w) = number w (functions_of env f (numbers_in values args))
node_value env values (Not a) = term_number (apply_unary flip (value_in values a))
node_value env values (Binary op a b) = operated op (value_in values a) (value_in values b)
node_value env values (Slice a high low) = term_number (apply_slice (value_in values a) high low)
node_value env values (Pick c a b) =
    if number_in (value_in values c) == 1 then value_in values a else value_in values b

-- the environment has the input or the function of a node
abbrev pub HasNode : Env → (ℕ → ℕ) → Node → Type 0
HasNode env w (Input i v) = HasInput env i v
HasNode env w (Apply f args v) = HasTable env f (map w args) v
HasNode env w node = Unit {0}

-- all that the value of a node takes is there
pub record IsReady (env : Env) (values : Known) (node : Node) : Type 0 where
  pub there : All (λ p. IsSome (value_at values p)) (parts node)
  pub fit : WidthsFit (width_in values) node
  pub has : HasNode env (width_in values) node
