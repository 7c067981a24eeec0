-- Cited by the clauses of the laws `leaves_of_r`: a design of two levels, as a tree, whose first level makes a
-- choice.
use Rattle.std.specs.Prelude.{[], ◌∷◌, codes, Some, None}
use Rattle.cocoon_num.specs.Tree.{name, field, lit, call, binary, no_exprs, expr, if_, havoc_var, send, no_stmts, stmt, of_truth, a_function, a_role, a_host, a_switch, Design}
use Rattle.cocoon_num.specs.Values.{equal, less, and_}

-- packet { header e { tag: bit<8>; } }
-- function h(a: bit<16>): bool;
-- function g(s: bit<16>): bool;
-- role Out[a: bit<16>] | h(a) = { send SwIn[16w1, a]; }
-- role In[a: bit<16>] | h(a);
-- host (Out, In);
-- role SwIn[s: bit<16>, p: bit<16>] | g(s) and p < 16w4 = {
--   havoc x: bit<16>;
--   send SwOut[s, x];
-- }
-- role SwOut[s: bit<16>, p: bit<16>] | g(s) and p < 16w4 = { send In[p]; }
-- switch (SwIn, SwOut) ports 4;
-- refine SwIn within 1 {
--   role SwIn[s: bit<16>, p: bit<16>] | g(s) and p < 16w4 = {
--     if (pkt.e.tag == 8w1) { send SwOut[s, 16w1]; } else { send SwOut[s, 16w2]; }
--   }
-- }

abbrev pub r_design : Design
r_design = record {
  headers = ((record { name = (record { at = 3; text = codes "e" }); fields = ((record { name = (record { at = 5; text = codes "tag" }); width = 8 }) ∷ []) }) ∷ []);
  decls =
      (a_function (record { name = (record { at = 15; text = codes "h" }); params = ((record { name = (record { at = 17; text = codes "a" }); width = 16 }) ∷ []); result = of_truth; body = None }))
      ∷ (a_function (record { name = (record { at = 28; text = codes "g" }); params = ((record { name = (record { at = 30; text = codes "s" }); width = 16 }) ∷ []); result = of_truth; body = None }))
      ∷ (a_role (record { name = (record { at = 41; text = codes "Out" }); params = ((record { name = (record { at = 43; text = codes "a" }); width = 16 }) ∷ []); guard = (call 51 (record { at = 51; text = codes "h" }) (expr (name 53 (codes "a")) no_exprs)); body = Some (stmt (send 57 (record { at = 58; text = codes "SwIn" }) (expr (lit 60 16 1) (expr (name 62 (codes "a")) no_exprs))) no_stmts) }))
      ∷ (a_role (record { name = (record { at = 67; text = codes "In" }); params = ((record { name = (record { at = 69; text = codes "a" }); width = 16 }) ∷ []); guard = (call 77 (record { at = 77; text = codes "h" }) (expr (name 79 (codes "a")) no_exprs)); body = None }))
      ∷ (a_host (record { at = 82; entry = (record { at = 84; text = codes "Out" }); sink = (record { at = 86; text = codes "In" }) }))
      ∷ (a_role (record { name = (record { at = 90; text = codes "SwIn" }); params = ((record { name = (record { at = 92; text = codes "s" }); width = 16 }) ∷ (record { name = (record { at = 99; text = codes "p" }); width = 16 }) ∷ []); guard = (binary 107 and_ (call 107 (record { at = 107; text = codes "g" }) (expr (name 109 (codes "s")) no_exprs)) (binary 112 less (name 112 (codes "p")) (lit 114 16 4))); body = Some (stmt (havoc_var 117 (record { at = 118; text = codes "x" }) 16) (stmt (send 125 (record { at = 126; text = codes "SwOut" }) (expr (name 128 (codes "s")) (expr (name 130 (codes "x")) no_exprs))) no_stmts)) }))
      ∷ (a_role (record { name = (record { at = 135; text = codes "SwOut" }); params = ((record { name = (record { at = 137; text = codes "s" }); width = 16 }) ∷ (record { name = (record { at = 144; text = codes "p" }); width = 16 }) ∷ []); guard = (binary 152 and_ (call 152 (record { at = 152; text = codes "g" }) (expr (name 154 (codes "s")) no_exprs)) (binary 157 less (name 157 (codes "p")) (lit 159 16 4))); body = Some (stmt (send 162 (record { at = 163; text = codes "In" }) (expr (name 165 (codes "p")) no_exprs)) no_stmts) }))
      ∷ (a_switch (record { at = 169; into = (record { at = 171; text = codes "SwIn" }); out = (record { at = 173; text = codes "SwOut" }); ports = 4 }))
      ∷ [];
  refines =
      (record { at = 178; roles = ((record { at = 179; text = codes "SwIn" }) ∷ []); within = 1; decls = ((a_role (record { name = (record { at = 184; text = codes "SwIn" }); params = ((record { name = (record { at = 186; text = codes "s" }); width = 16 }) ∷ (record { name = (record { at = 193; text = codes "p" }); width = 16 }) ∷ []); guard = (binary 201 and_ (call 201 (record { at = 201; text = codes "g" }) (expr (name 203 (codes "s")) no_exprs)) (binary 206 less (name 206 (codes "p")) (lit 208 16 4))); body = Some (stmt (if_ 211 (binary 213 equal (field 213 (record { at = 215; text = codes "e" }) (record { at = 217; text = codes "tag" })) (lit 219 8 1)) (stmt (send 222 (record { at = 223; text = codes "SwOut" }) (expr (name 225 (codes "s")) (expr (lit 227 16 1) no_exprs))) no_stmts) (stmt (send 233 (record { at = 234; text = codes "SwOut" }) (expr (name 236 (codes "s")) (expr (lit 238 16 2) no_exprs))) no_stmts)) no_stmts) })) ∷ []) })
      ∷ [];
}
