-- Widths of terms, and of terms with choices over rows.
use Rattle.std.proofs.Common.{◌≡◌, ℕ, List, [], ◌∷◌, length, Option, Some, None, refl, ap, ◌∙◌, arith}
use Rattle.std.specs.List.{AllByRecursion}
use Rattle.std.proofs.lemmas.List.Elements.{recursion_from_All}
use Rattle.cocoon_num.specs.declared.bits.Bits.{Bits}
use Rattle.cocoon_num.specs.declared.fun_table.FunRow.{FunRow}
use Rattle.cocoon_num.specs.declared.fun_table.FunTable.{FunTable}
use Rattle.bv_terms.specs.declared.node.TermOp.{TermOp}
use Rattle.bv_terms.specs.declared.node.TermOp.TheVariants.{Add, Sub, And, Or, Xor, Concat, Equal, Less}
use Rattle.bv_terms.specs.TermTrees.{Term, Args, constant, input, apply, not_, binary, slice, pick, no_args, arg, width, arg_widths, joined_width, IsTerm, IsWidth, OperandsFit}
use Rattle.bv_terms.specs.Environments.{RowFits}
use Rattle.bv_terms.specs.WithRows.{Tables, table_of, picks, looked_up, with_rows, args_with_rows}
use Rattle.bv_terms.specs.Fitting.{CanStand, TablesFit, TablesFitArgs}

-- ---- a term has a width

joined-is : (op : TermOp) (v w : ℕ) → IsWidth v → OperandsFit op v w → IsWidth (joined_width op v w)
joined-is Add v w h f = h
joined-is Sub v w h f = h
joined-is And v w h f = h
joined-is Or v w h f = h
joined-is Xor v w h f = h
joined-is Concat v w h f = ((let a = h.0 in omega arith), f)
joined-is Equal v w h f = (omega arith, omega arith)
joined-is Less v w h f = (omega arith, omega arith)

pub is-width : (t : Term) → IsTerm t → IsWidth (width t)
is-width (constant w n) h = h.0
is-width (input i w) h = h
is-width (apply f args w) h = h.1
is-width (not_ a) h = is-width a h
is-width (binary op a b) h = joined-is op (width a) (width b) (is-width a h.0) h.2
is-width (slice a high low) h = (omega arith, (let w = is-width a h.0 in let l = w.1 in let p = h.2 in omega arith))
is-width (pick c a b) h = is-width a h.1

-- ---- rows keep it

width-picks : (rows : List FunRow) (otherwise : Bits) (args : Args) (count w : ℕ) → AllByRecursion (RowFits count w) rows → otherwise.width ≡ w → width (picks rows otherwise args) ≡ w
width-picks [] otherwise args count w h e = e
width-picks (row ∷ rows) otherwise args count w h e = h.0.1

width-looked : (o : Option FunTable) (f : ℕ) (args : Args) (ws : List ℕ) (w : ℕ) → CanStand o ws w → width (looked_up o f args w) ≡ w
width-looked None f args ws w h = refl
width-looked (Some t) f args ws w h = width-picks t.rows t.default args (length ws) w (recursion_from_All (RowFits (length ws) w) t.rows h.0.rows) h.0.otherwise

pub width-rows : (tables : Tables) (t : Term) → TablesFit tables t → width (with_rows tables t) ≡ width t
width-rows tables (constant w n) h = refl
width-rows tables (input i w) h = refl
width-rows tables (apply f args w) h = width-looked (table_of tables f) f (args_with_rows tables args) (arg_widths args) w h.1
width-rows tables (not_ a) h = width-rows tables a h
width-rows tables (binary op a b) h =
    ap (λ v. joined_width op v (width (with_rows tables b))) (width-rows tables a h.0) ∙ ap (joined_width op (width a)) (width-rows tables b h.1)
width-rows tables (slice a high low) h = refl
width-rows tables (pick c a b) h = width-rows tables a h.1

pub widths-rows : (tables : Tables) (args : Args) → TablesFitArgs tables args → arg_widths (args_with_rows tables args) ≡ arg_widths args
widths-rows tables no_args h = refl
widths-rows tables (arg t ts) h = let d = width-rows tables t h.0 in let e = widths-rows tables ts h.1 in cc
