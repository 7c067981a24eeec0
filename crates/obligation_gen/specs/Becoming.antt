-- Cited by private clauses: what old terms have become.
use Rattle.std.specs.Prelude.{◌≡◌, ◌<◌, ℕ, List, Some, length, slice_get}
use Rattle.std.specs.Option.{IsSome}
use Rattle.bv_terms.specs.declared.node.Node.{Node}
use Rattle.bv_terms.specs.Arenas.{parts}
use Rattle.bv_terms.specs.Rebuilt.{IsReplaced}
use Rattle.bv_terms.specs.Replacements as formulas
use Rattle.bv_terms.specs.TermMaps.{value_at}
use Rattle.expr_terms.specs.Variables.{AreThere}
use Rattle.obligation_gen.specs.Replacing.{replacing_in}
use Rattle.obligation_gen.specs.declared.known.Known.{Known}
use Rattle.obligation_gen.specs.declared.last.Last.{Last}

-- each part has become another term
abbrev pub AreKnown : Known → Node → Type 0
AreKnown known node = (k p : ℕ) → slice_get (parts node) k ≡ Some p → IsSome (value_at known.ids p)

-- each of these terms has become another one, by these replacements
abbrev pub Knows : List Node → formulas.Replacing → Known → Type 0
Knows nodes r known = (k id : ℕ) → value_at known.ids k ≡ Some id → (k < length nodes) × IsReplaced nodes nodes r k id

-- by those that stood for inputs last
pub record Remembers (nodes : List Node) (last : Last) : Type 0 where
  pub there : AreThere nodes last.by.terms.items
  pub knows : Knows nodes (replacing_in nodes last.by) last.known
