-- Cited by the clauses of the law `segments_of_three`: a design of three levels, as a tree. A
-- packet may go anywhere; by its destination; and through a switch.
use Rattle.std.specs.Prelude.{[], ◌∷◌, codes, Some, None, true, false}
use Rattle.cocoon_num.specs.Tree.{name, field, lit, call, binary, slice, no_exprs, expr, filter, havoc_var, send, no_stmts, stmt, of_truth, a_function, an_assumption, a_role, a_host, a_switch, Refine, Design, literal, a_default, a_row, DefsText}
use Rattle.cocoon_num.specs.Values.{truth, less, and_, implies, concat}
use Rattle.cocoon_types.specs.Tables.{Defs, defs_of}

-- packet { header e { to: bit<8>; } }
-- function h(a: bit<8>): bool;
-- function ok(a: bit<8>): bool;
-- role Out[a: bit<8>] | h(a) = { havoc b: bit<8>; send In[b]; }
-- role In[a: bit<8>] | h(a);
-- host (Out, In);
-- refine Out within 1 {
--   assume (a: bit<8>) ok(a) => h(a);
--   role Out[a: bit<8>] | h(a) = { filter ok(pkt.e.to); send In[pkt.e.to]; }
-- }
-- refine Out within 3 {
--   function g(s: bit<16>): bool;
--   assume () g(16w1);
--   role Out[a: bit<8>] | h(a) = { send SwIn[16w1, 16w0]; }
--   role SwIn[s: bit<16>, p: bit<16>] | g(s) and p < 16w256 = {
--     filter ok(pkt.e.to);
--     send SwOut[s, 8w0 ++ pkt.e.to];
--   }
--   role SwOut[s: bit<16>, p: bit<16>] | g(s) and p < 16w256 = { send In[p[7:0]]; }
--   switch (SwIn, SwOut) ports 256;
-- }

-- the block of level 1
abbrev pub three_block_1 : Refine
three_block_1 = record {
  at = 95;
  roles = ((record { at = 96; text = codes "Out" }) ∷ []);
  within = 1;
  decls =
      (an_assumption (record { at = 100; params = ((record { name = (record { at = 102; text = codes "a" }); width = 8 }) ∷ []); body = (binary 109 implies (call 109 (record { at = 109; text = codes "ok" }) (expr (name 111 (codes "a")) no_exprs)) (call 114 (record { at = 114; text = codes "h" }) (expr (name 116 (codes "a")) no_exprs))) }))
      ∷ (a_role (record { name = (record { at = 120; text = codes "Out" }); params = ((record { name = (record { at = 122; text = codes "a" }); width = 8 }) ∷ []); guard = (call 130 (record { at = 130; text = codes "h" }) (expr (name 132 (codes "a")) no_exprs)); body = (Some (stmt (filter 136 (call 137 (record { at = 137; text = codes "ok" }) (expr (field 139 (record { at = 141; text = codes "e" }) (record { at = 143; text = codes "to" })) no_exprs))) (stmt (send 146 (record { at = 147; text = codes "In" }) (expr (field 149 (record { at = 151; text = codes "e" }) (record { at = 153; text = codes "to" })) no_exprs)) no_stmts))) }))
      ∷ [];
}

-- the block of level 2
abbrev pub three_block_2 : Refine
three_block_2 = record {
  at = 158;
  roles = ((record { at = 159; text = codes "Out" }) ∷ []);
  within = 3;
  decls =
      (a_function (record { name = (record { at = 164; text = codes "g" }); params = ((record { name = (record { at = 166; text = codes "s" }); width = 16 }) ∷ []); result = of_truth; body = None }))
      ∷ (an_assumption (record { at = 176; params = []; body = (call 179 (record { at = 179; text = codes "g" }) (expr (lit 181 16 1) no_exprs)) }))
      ∷ (a_role (record { name = (record { at = 185; text = codes "Out" }); params = ((record { name = (record { at = 187; text = codes "a" }); width = 8 }) ∷ []); guard = (call 195 (record { at = 195; text = codes "h" }) (expr (name 197 (codes "a")) no_exprs)); body = (Some (stmt (send 201 (record { at = 202; text = codes "SwIn" }) (expr (lit 204 16 1) (expr (lit 206 16 0) no_exprs))) no_stmts)) }))
      ∷ (a_role (record { name = (record { at = 211; text = codes "SwIn" }); params = ((record { name = (record { at = 213; text = codes "s" }); width = 16 }) ∷ (record { name = (record { at = 220; text = codes "p" }); width = 16 }) ∷ []); guard = (binary 228 and_ (call 228 (record { at = 228; text = codes "g" }) (expr (name 230 (codes "s")) no_exprs)) (binary 233 less (name 233 (codes "p")) (lit 235 16 256))); body = (Some (stmt (filter 238 (call 239 (record { at = 239; text = codes "ok" }) (expr (field 241 (record { at = 243; text = codes "e" }) (record { at = 245; text = codes "to" })) no_exprs))) (stmt (send 248 (record { at = 249; text = codes "SwOut" }) (expr (name 251 (codes "s")) (expr (binary 253 concat (lit 253 8 0) (field 255 (record { at = 257; text = codes "e" }) (record { at = 259; text = codes "to" }))) no_exprs))) no_stmts))) }))
      ∷ (a_role (record { name = (record { at = 264; text = codes "SwOut" }); params = ((record { name = (record { at = 266; text = codes "s" }); width = 16 }) ∷ (record { name = (record { at = 273; text = codes "p" }); width = 16 }) ∷ []); guard = (binary 281 and_ (call 281 (record { at = 281; text = codes "g" }) (expr (name 283 (codes "s")) no_exprs)) (binary 286 less (name 286 (codes "p")) (lit 288 16 256))); body = (Some (stmt (send 291 (record { at = 292; text = codes "In" }) (expr (slice 294 (name 294 (codes "p")) 7 0) no_exprs)) no_stmts)) }))
      ∷ (a_switch (record { at = 303; into = (record { at = 305; text = codes "SwIn" }); out = (record { at = 307; text = codes "SwOut" }); ports = 256 }))
      ∷ [];
}

abbrev pub three_design : Design
three_design = record {
  headers = ((record { name = (record { at = 3; text = codes "e" }); fields = ((record { name = (record { at = 5; text = codes "to" }); width = 8 }) ∷ []) }) ∷ []);
  decls =
      (a_function (record { name = (record { at = 15; text = codes "h" }); params = ((record { name = (record { at = 17; text = codes "a" }); width = 8 }) ∷ []); result = of_truth; body = None }))
      ∷ (a_function (record { name = (record { at = 28; text = codes "ok" }); params = ((record { name = (record { at = 30; text = codes "a" }); width = 8 }) ∷ []); result = of_truth; body = None }))
      ∷ (a_role (record { name = (record { at = 41; text = codes "Out" }); params = ((record { name = (record { at = 43; text = codes "a" }); width = 8 }) ∷ []); guard = (call 51 (record { at = 51; text = codes "h" }) (expr (name 53 (codes "a")) no_exprs)); body = (Some (stmt (havoc_var 57 (record { at = 58; text = codes "b" }) 8) (stmt (send 65 (record { at = 66; text = codes "In" }) (expr (name 68 (codes "b")) no_exprs)) no_stmts))) }))
      ∷ (a_role (record { name = (record { at = 73; text = codes "In" }); params = ((record { name = (record { at = 75; text = codes "a" }); width = 8 }) ∷ []); guard = (call 83 (record { at = 83; text = codes "h" }) (expr (name 85 (codes "a")) no_exprs)); body = None }))
      ∷ (a_host (record { at = 88; entry = (record { at = 90; text = codes "Out" }); sink = (record { at = 92; text = codes "In" }) }))
      ∷ [];
  refines = (three_block_1 ∷ three_block_2 ∷ []);
}

-- two hosts, of which packets may go to the second
abbrev pub three_text : DefsText
three_text =
    (a_default (record { at = 1; text = codes "h" }) (truth false))
    ∷ (a_row (record { at = 6; text = codes "h" }) ((literal 8 1) ∷ []) (truth true))
    ∷ (a_row (record { at = 14; text = codes "h" }) ((literal 8 2) ∷ []) (truth true))
    ∷ (a_default (record { at = 22; text = codes "ok" }) (truth false))
    ∷ (a_row (record { at = 27; text = codes "ok" }) ((literal 8 2) ∷ []) (truth true))
    ∷ (a_default (record { at = 35; text = codes "g" }) (truth false))
    ∷ (a_row (record { at = 40; text = codes "g" }) ((literal 16 1) ∷ []) (truth true))
    ∷ []

-- what they define
abbrev pub three_defs : Defs
three_defs = defs_of three_design three_text

-- the same, and packets may go to 3, which is no host
abbrev pub three_loose_text : DefsText
three_loose_text =
    (a_default (record { at = 1; text = codes "h" }) (truth false))
    ∷ (a_row (record { at = 6; text = codes "h" }) ((literal 8 1) ∷ []) (truth true))
    ∷ (a_row (record { at = 14; text = codes "h" }) ((literal 8 2) ∷ []) (truth true))
    ∷ (a_default (record { at = 22; text = codes "ok" }) (truth false))
    ∷ (a_row (record { at = 27; text = codes "ok" }) ((literal 8 2) ∷ []) (truth true))
    ∷ (a_row (record { at = 35; text = codes "ok" }) ((literal 8 3) ∷ []) (truth true))
    ∷ (a_default (record { at = 43; text = codes "g" }) (truth false))
    ∷ (a_row (record { at = 48; text = codes "g" }) ((literal 16 1) ∷ []) (truth true))
    ∷ []

-- what they define
abbrev pub three_loose_defs : Defs
three_loose_defs = defs_of three_design three_loose_text
