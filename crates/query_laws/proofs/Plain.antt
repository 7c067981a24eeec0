-- With choices over rows no application is left, and there are no other inputs.
use Rattle.std.proofs.Common.{◌≡◌, ℕ, Bool, true, List, [], ◌∷◌, fold, sym, subst}
use Rattle.cocoon_num.specs.Tree.{Design}
use Rattle.cocoon_num.specs.declared.bits.Bits.{Bits}
use Rattle.cocoon_num.specs.declared.fun_table.FunRow.{FunRow}
use Rattle.bv_terms.specs.declared.node.TermOp.TheVariants.{And}
use Rattle.bv_terms.specs.Inputs.{Mentions}
use Rattle.bv_terms.specs.TermTrees.{Term, Args, constant, input, apply, not_, binary, slice, pick, no_args, arg, arg_widths}
use Rattle.bv_terms.proofs.Subterms.{Each, EachArg, in-walk}
use Rattle.bit_blast.specs.Goals.{IsUnapplied}
use Rattle.runtime_defs.specs.Printable.{FitsDesign}
use Rattle.bv_terms.specs.Chains.{chain}
use Rattle.bv_terms.specs.WithRows.{Tables, args_with_rows, looked_up, picks, position_tests, with_rows}
use Rattle.query_laws.specs.Over.{AreOver, IsOver}
use Rattle.query_laws.proofs.Places.{has-table}

module _ (inputs : ℕ → ℕ → Bool) where
  -- no application, and one of these inputs
  abbrev pub IsPlain : Term → Type 0
  IsPlain (constant w n) = Unit {0}
  IsPlain (input i w) = inputs i w ≡ true
  IsPlain (apply f args w) = ⊥
  IsPlain (not_ a) = Unit {0}
  IsPlain (binary op a b) = Unit {0}
  IsPlain (slice a high low) = Unit {0}
  IsPlain (pick c a b) = Unit {0}

  abbrev pub AllPlain : Term → Type 0
  AllPlain t = Each IsPlain t

  -- ---- rows

  tests-plain : (first : Term) → AllPlain first → (vs ms : List ℕ) (ts : Args) → EachArg IsPlain ts → AllPlain (fold (binary And) first (position_tests vs ms ts))
  tests-plain first h [] ms ts k = h
  tests-plain first h (v ∷ vs) [] ts k = h
  tests-plain first h (v ∷ vs) (m ∷ ms) no_args k = h
  tests-plain first h (v ∷ vs) (m ∷ ms) (arg t ts) k = tests-plain (binary And first _) (h, ((k.0, tt, tt), tt, tt), tt) vs ms ts k.1

  chain-plain : (vs ms : List ℕ) (ts : Args) → EachArg IsPlain ts → AllPlain (chain And (constant 1 1) (position_tests vs ms ts))
  chain-plain [] ms ts k = tt
  chain-plain (v ∷ vs) [] ts k = tt
  chain-plain (v ∷ vs) (m ∷ ms) no_args k = tt
  chain-plain (v ∷ vs) (m ∷ ms) (arg t ts) k = tests-plain _ ((k.0, tt, tt), tt, tt) vs ms ts k.1

  picks-plain : (rows : List FunRow) (otherwise : Bits) (ts : Args) → EachArg IsPlain ts → AllPlain (picks rows otherwise ts)
  picks-plain [] otherwise ts k = tt
  picks-plain (row ∷ rows) otherwise ts k = (chain-plain row.values row.masks ts k, tt, picks-plain rows otherwise ts k, tt)

  -- ---- terms

  module _ (d : Design) (tables : Tables) (z : FitsDesign d tables) where
    mutual
      pub rows-plain : (t : Term) → IsOver d inputs t → AllPlain (with_rows tables t)
      rows-plain (constant w n) h = tt
      rows-plain (input i w) h = h
      rows-plain (apply f args w) h =
          let at = has-table d tables z f (arg_widths args) w h.1 in
          subst (λ o. AllPlain (looked_up o f (args_with_rows tables args) w)) (sym at.is_there)
          (picks-plain at.table.rows at.table.default (args_with_rows tables args) (args-plain args h.0))
      rows-plain (not_ a) h = (rows-plain a h, tt)
      rows-plain (binary op a b) h = (rows-plain a h.0, rows-plain b h.1, tt)
      rows-plain (slice a high low) h = (rows-plain a h, tt)
      rows-plain (pick c a b) h = (rows-plain c h.0, rows-plain a h.1, rows-plain b h.2, tt)

      args-plain : (ts : Args) → AreOver d inputs ts → EachArg IsPlain (args_with_rows tables ts)
      args-plain no_args h = tt
      args-plain (arg t ts) h = (rows-plain t h.0, args-plain ts h.1)

  pub plain-unapplied : (t : Term) → AllPlain t → IsUnapplied t
  plain-unapplied (constant w n) h = tt
  plain-unapplied (input i w) h = tt
  plain-unapplied (apply f args w) h = h.1
  plain-unapplied (not_ a) h = plain-unapplied a h.0
  plain-unapplied (binary op a b) h = (plain-unapplied a h.0, plain-unapplied b h.1)
  plain-unapplied (slice a high low) h = plain-unapplied a h.0
  plain-unapplied (pick c a b) h = (plain-unapplied c h.0, plain-unapplied a h.1, plain-unapplied b h.2)

  pub plain-inputs : (t : Term) → AllPlain t → (i w : ℕ) → Mentions t i w → inputs i w ≡ true
  plain-inputs t h i w m = in-walk IsPlain t (input i w) h m
