-- What is read of a text is a part of its tokens, and the index of its first fault is one of them. cocoon_text and p4_parse
-- cite it.
use Rattle.std.specs.Prelude.{◌≡◌, ℕ, ◌+◌, ◌≤◌, ◌^◌, List, length, map, Option, Some, None, refl}
use Rattle.std.proofs.Common.{sym, arith}
use Rattle.std.proofs.lemmas.List.{length-take, take-map}
use Rattle.cocoon_num.specs.Tokens.{Bounds, Kind}
use Rattle.parsing.specs.Depth.{reach}
use Rattle.parsing.specs.Faults.{IndexFits, IsFirstFault}
use Rattle.parsing.specs.declared.fault.ParseFault.{ParseFault}
use Rattle.parsing.specs.declared.fault.ParseFault.TheVariants as fault

pub reach_few : {A : Type 0} (tokens : List A) (deep : Option ℕ) → length (reach deep tokens) ≤ length tokens
reach_few tokens None = omega arith
reach_few tokens (Some d) = omega (arith, length-take (d + 1) tokens)

pub reach_map : {A B : Type 0} (f : A → B) (deep : Option ℕ) (tokens : List A) → map f (reach deep tokens) ≡ reach deep (map f tokens)
reach_map f None tokens = refl
reach_map f (Some d) tokens = sym (take-map f (d + 1) tokens)

pub fault_fits : (bounds : Bounds) (Begins : List Kind → Type 0) (ts : List Kind) (f : ParseFault) → length ts ≤ 2 ^ 32 → IsFirstFault bounds Begins ts f → IndexFits f
fault_fits bounds Begins ts (fault.Unexpected i) h g = let w = g.within in omega arith
fault_fits bounds Begins ts (fault.TooDeep i) h g = let w = g.within in omega arith
fault_fits bounds Begins ts fault.NoMemory h g = tt
