-- Cited by the clauses of all laws here: literals that fit their widths. No rule of designs speaks of them, since the
-- literals of a text all do.
use Rattle.std.specs.Prelude.{◌≡◌, Bool, true}
use Rattle.std.specs.List.{list_all}
use Rattle.cocoon_num.specs.Tree.{Expr, lit, Design, Entry, a_default, a_row, DefsText}
use Rattle.cocoon_num.specs.Values.{Value, number, truth, fits_width}
use Rattle.cocoon_types.specs.Parts.{parts}
use Rattle.cocoon_types.specs.Sites.{ExprSite, all_exprs}

-- where the expression is a literal, its number fits its width
abbrev pub literal_fits : Expr → Bool
literal_fits e = elim e [ lit at w n ↦ fits_width w n | _ ↦ true ]

-- all literals of an expression fit
abbrev pub LiteralsFit : Expr → Type 0
LiteralsFit e = list_all literal_fits (parts e) ≡ true

-- and all of a design
abbrev pub DesignLiteralsFit : Design → Type 0
DesignLiteralsFit d = list_all (λ (site : ExprSite). literal_fits site.e) (all_exprs d) ≡ true

-- ---- definitions

-- the value of an entry
abbrev pub entry_value : Entry → Value
entry_value (a_default f v) = v
entry_value (a_row f ps v) = v

-- a number fits its width
abbrev pub value_within : Value → Bool
value_within (number w n) = fits_width w n
value_within (truth b) = true

-- the values of all entries fit
abbrev pub EntriesFit : DefsText → Type 0
EntriesFit es = list_all (λ e. value_within (entry_value e)) es ≡ true
