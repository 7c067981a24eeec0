-- Cited by the clauses of the laws here: a design of two levels, as a tree, whose first level sends to another port where a
-- function does not give one value. Its assumption says that it does.
use Rattle.std.specs.Prelude.{[], ◌∷◌, codes, Some, None}
use Rattle.cocoon_num.specs.Tree.{name, field, lit, call, unary, binary, slice, no_exprs, expr, if_, send, no_stmts, stmt, of_truth, of_width, a_function, an_assumption, a_role, a_host, a_switch, Design}
use Rattle.cocoon_num.specs.Values.{and_, equal, flip, less}

-- packet { header e { tag: bit<8>; } }
-- function h(a: bit<16>): bool;
-- function g(s: bit<16>): bool;
-- function q(a: bit<1>): bit<1>;
-- assume (a: bit<1>, b: bit<1>) q(a) == q(b);
-- role Out[a: bit<16>] | h(a) = { send SwIn[16w1, a]; }
-- role In[a: bit<16>] | h(a);
-- host (Out, In);
-- role SwIn[s: bit<16>, p: bit<16>] | g(s) and p < 16w4 = {
--   if (q(pkt.e.tag[0:0]) == q(~pkt.e.tag[0:0])) { send SwOut[s, 16w1]; } else { send SwOut[s, 16w2]; }
-- }
-- role SwOut[s: bit<16>, p: bit<16>] | g(s) and p < 16w4 = { send In[p]; }
-- switch (SwIn, SwOut) ports 4;
-- refine SwIn within 1 {
-- role SwIn[s: bit<16>, p: bit<16>] | g(s) and p < 16w4 = {
--   send SwOut[s, 16w1];
-- }
-- }

abbrev pub q_design : Design
q_design = record {
  headers = ((record { name = (record { at = 3; text = codes "e" }); fields = ((record { name = (record { at = 5; text = codes "tag" }); width = 8 }) ∷ []) }) ∷ []);
  decls =
      (a_function (record { name = (record { at = 15; text = codes "h" }); params = ((record { name = (record { at = 17; text = codes "a" }); width = 16 }) ∷ []); result = of_truth; body = None }))
      ∷ (a_function (record { name = (record { at = 28; text = codes "g" }); params = ((record { name = (record { at = 30; text = codes "s" }); width = 16 }) ∷ []); result = of_truth; body = None }))
      ∷ (a_function (record { name = (record { at = 41; text = codes "q" }); params = ((record { name = (record { at = 43; text = codes "a" }); width = 1 }) ∷ []); result = of_width 1; body = None }))
      ∷ (an_assumption (record { at = 56; params = ((record { name = (record { at = 58; text = codes "a" }); width = 1 }) ∷ (record { name = (record { at = 65; text = codes "b" }); width = 1 }) ∷ []); body = (binary 72 equal (call 72 (record { at = 72; text = codes "q" }) (expr (name 74 (codes "a")) no_exprs)) (call 77 (record { at = 77; text = codes "q" }) (expr (name 79 (codes "b")) no_exprs))) }))
      ∷ (a_role (record { name = (record { at = 83; text = codes "Out" }); params = ((record { name = (record { at = 85; text = codes "a" }); width = 16 }) ∷ []); guard = (call 93 (record { at = 93; text = codes "h" }) (expr (name 95 (codes "a")) no_exprs)); body = Some (stmt (send 99 (record { at = 100; text = codes "SwIn" }) (expr (lit 102 16 1) (expr (name 104 (codes "a")) no_exprs))) no_stmts) }))
      ∷ (a_role (record { name = (record { at = 109; text = codes "In" }); params = ((record { name = (record { at = 111; text = codes "a" }); width = 16 }) ∷ []); guard = (call 119 (record { at = 119; text = codes "h" }) (expr (name 121 (codes "a")) no_exprs)); body = None }))
      ∷ (a_host (record { at = 124; entry = (record { at = 126; text = codes "Out" }); sink = (record { at = 128; text = codes "In" }) }))
      ∷ (a_role (record { name = (record { at = 132; text = codes "SwIn" }); params = ((record { name = (record { at = 134; text = codes "s" }); width = 16 }) ∷ (record { name = (record { at = 141; text = codes "p" }); width = 16 }) ∷ []); guard = (binary 149 and_ (call 149 (record { at = 149; text = codes "g" }) (expr (name 151 (codes "s")) no_exprs)) (binary 154 less (name 154 (codes "p")) (lit 156 16 4))); body = Some (stmt (if_ 159 (binary 161 equal (call 161 (record { at = 161; text = codes "q" }) (expr (slice 163 (field 163 (record { at = 165; text = codes "e" }) (record { at = 167; text = codes "tag" })) 0 0) no_exprs)) (call 175 (record { at = 175; text = codes "q" }) (expr (unary 177 flip (slice 178 (field 178 (record { at = 180; text = codes "e" }) (record { at = 182; text = codes "tag" })) 0 0)) no_exprs))) (stmt (send 191 (record { at = 192; text = codes "SwOut" }) (expr (name 194 (codes "s")) (expr (lit 196 16 1) no_exprs))) no_stmts) (stmt (send 202 (record { at = 203; text = codes "SwOut" }) (expr (name 205 (codes "s")) (expr (lit 207 16 2) no_exprs))) no_stmts)) no_stmts) }))
      ∷ (a_role (record { name = (record { at = 213; text = codes "SwOut" }); params = ((record { name = (record { at = 215; text = codes "s" }); width = 16 }) ∷ (record { name = (record { at = 222; text = codes "p" }); width = 16 }) ∷ []); guard = (binary 230 and_ (call 230 (record { at = 230; text = codes "g" }) (expr (name 232 (codes "s")) no_exprs)) (binary 235 less (name 235 (codes "p")) (lit 237 16 4))); body = Some (stmt (send 240 (record { at = 241; text = codes "In" }) (expr (name 243 (codes "p")) no_exprs)) no_stmts) }))
      ∷ (a_switch (record { at = 247; into = (record { at = 249; text = codes "SwIn" }); out = (record { at = 251; text = codes "SwOut" }); ports = 4 }))
      ∷ [];
  refines =
      (record { at = 256; roles = ((record { at = 257; text = codes "SwIn" }) ∷ []); within = 1; decls = ((a_role (record { name = (record { at = 262; text = codes "SwIn" }); params = ((record { name = (record { at = 264; text = codes "s" }); width = 16 }) ∷ (record { name = (record { at = 271; text = codes "p" }); width = 16 }) ∷ []); guard = (binary 279 and_ (call 279 (record { at = 279; text = codes "g" }) (expr (name 281 (codes "s")) no_exprs)) (binary 284 less (name 284 (codes "p")) (lit 286 16 4))); body = Some (stmt (send 289 (record { at = 290; text = codes "SwOut" }) (expr (name 292 (codes "s")) (expr (lit 294 16 1) no_exprs))) no_stmts) })) ∷ []) })
      ∷ [];
}
