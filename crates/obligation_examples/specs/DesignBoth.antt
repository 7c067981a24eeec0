-- Cited by the clause of the law `numbers_run_on`: a design of two levels, as a tree, whose block refines two roles. But for the
-- block it is the design r.
use Rattle.std.specs.Prelude.{[], ◌∷◌, codes, Some}
use Rattle.cocoon_num.specs.Tree.{name, field, lit, call, binary, no_exprs, expr, if_, send, no_stmts, stmt, a_role, Design}
use Rattle.cocoon_num.specs.Values.{equal, less, and_}
use Rattle.obligation_examples.specs.DesignR.{r_design}

-- refine SwOut, SwIn within 1 {
--   role SwIn[s: bit<16>, p: bit<16>] | g(s) and p < 16w4 = {
--     if (pkt.e.tag == 8w1) { send SwOut[s, 16w1]; } else { send SwOut[s, 16w2]; }
--   }
--   role SwOut[s: bit<16>, p: bit<16>] | g(s) and p < 16w4 = { send In[p]; }
-- }

abbrev pub both_design : Design
both_design = record r_design {
  refines = record {
    at = 178;
    roles = (record { at = 179; text = codes "SwOut" }) ∷ (record { at = 181; text = codes "SwIn" }) ∷ [];
    within = 1;
    decls =
        (a_role (record { name = (record { at = 186; text = codes "SwIn" }); params = ((record { name = (record { at = 188; text = codes "s" }); width = 16 }) ∷ (record { name = (record { at = 195; text = codes "p" }); width = 16 }) ∷ []); guard = (binary 203 and_ (call 203 (record { at = 203; text = codes "g" }) (expr (name 205 (codes "s")) no_exprs)) (binary 208 less (name 208 (codes "p")) (lit 210 16 4))); body = Some (stmt (if_ 213 (binary 215 equal (field 215 (record { at = 217; text = codes "e" }) (record { at = 219; text = codes "tag" })) (lit 221 8 1)) (stmt (send 224 (record { at = 225; text = codes "SwOut" }) (expr (name 227 (codes "s")) (expr (lit 229 16 1) no_exprs))) no_stmts) (stmt (send 235 (record { at = 236; text = codes "SwOut" }) (expr (name 238 (codes "s")) (expr (lit 240 16 2) no_exprs))) no_stmts)) no_stmts) }))
        ∷ (a_role (record { name = (record { at = 246; text = codes "SwOut" }); params = ((record { name = (record { at = 248; text = codes "s" }); width = 16 }) ∷ (record { name = (record { at = 255; text = codes "p" }); width = 16 }) ∷ []); guard = (binary 263 and_ (call 263 (record { at = 263; text = codes "g" }) (expr (name 265 (codes "s")) no_exprs)) (binary 268 less (name 268 (codes "p")) (lit 270 16 4))); body = Some (stmt (send 273 (record { at = 274; text = codes "In" }) (expr (name 276 (codes "p")) no_exprs)) no_stmts) }))
        ∷ [];
  } ∷ [];
}
