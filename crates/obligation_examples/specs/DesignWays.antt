-- Cited by the clauses of the law `leaves_of_ways`: a design of two levels, as a tree, whose second level has each
-- statement.
use Rattle.std.specs.Prelude.{[], ◌∷◌, codes, Some, None}
use Rattle.cocoon_num.specs.Tree.{name, field, lit, call, binary, no_exprs, expr, let_, set_field, if_, filter, havoc_var, havoc_field, assume, fork, send, no_stmts, stmt, of_truth, a_function, a_role, a_host, a_switch, Design}
use Rattle.cocoon_num.specs.Values.{add, equal, less, and_, or_}

-- packet { header e { tag: bit<8>; low: bit<8>; } }
-- function h(a: bit<16>): bool;
-- function g(s: bit<16>): bool;
-- role Out[a: bit<16>] | h(a) = { send SwIn[16w1, a]; }
-- role In[a: bit<16>] | h(a);
-- host (Out, In);
-- role SwIn[s: bit<16>, p: bit<16>] | g(s) and p < 16w4 = { send SwOut[s, 16w1]; }
-- role SwOut[s: bit<16>, p: bit<16>] | g(s) and p < 16w4 = { send In[p]; }
-- switch (SwIn, SwOut) ports 4;
-- refine SwIn within 3 {
--   role SwIn[s: bit<16>, p: bit<16>] | g(s) and p < 16w4 = {
--     let y: bit<8> = pkt.e.tag;
--     if (y == 8w1) {
--       let v: bit<8> = 8w2;
--       pkt.e.tag = y;
--       pkt.e.tag = pkt.e.tag + y;
--       if (s == p) { send SwOut[s, 16w1]; }
--       havoc pkt.e.low;
--     } else {
--       filter p < s;
--       havoc x: bit<16>;
--       fork (z: bit<16> | z < x) {
--         if (h(z)) { send Mid[z, y]; }
--       }
--     }
--     pkt.e.low = y;
--     send SwOut[s, 16w2];
--   }
--   role Mid[a: bit<16>, b: bit<8>] | h(a) or b == 8w0 = {
--     if (b == 8w7) { send Mid[a, pkt.e.tag]; }
--     assume b < 8w9;
--     send In[a];
--   }
-- }

abbrev pub ways_design : Design
ways_design = record {
  headers = ((record { name = (record { at = 3; text = codes "e" }); fields = ((record { name = (record { at = 5; text = codes "tag" }); width = 8 }) ∷ (record { name = (record { at = 12; text = codes "low" }); width = 8 }) ∷ []) }) ∷ []);
  decls =
      (a_function (record { name = (record { at = 22; text = codes "h" }); params = ((record { name = (record { at = 24; text = codes "a" }); width = 16 }) ∷ []); result = of_truth; body = None }))
      ∷ (a_function (record { name = (record { at = 35; text = codes "g" }); params = ((record { name = (record { at = 37; text = codes "s" }); width = 16 }) ∷ []); result = of_truth; body = None }))
      ∷ (a_role (record { name = (record { at = 48; text = codes "Out" }); params = ((record { name = (record { at = 50; text = codes "a" }); width = 16 }) ∷ []); guard = (call 58 (record { at = 58; text = codes "h" }) (expr (name 60 (codes "a")) no_exprs)); body = Some (stmt (send 64 (record { at = 65; text = codes "SwIn" }) (expr (lit 67 16 1) (expr (name 69 (codes "a")) no_exprs))) no_stmts) }))
      ∷ (a_role (record { name = (record { at = 74; text = codes "In" }); params = ((record { name = (record { at = 76; text = codes "a" }); width = 16 }) ∷ []); guard = (call 84 (record { at = 84; text = codes "h" }) (expr (name 86 (codes "a")) no_exprs)); body = None }))
      ∷ (a_host (record { at = 89; entry = (record { at = 91; text = codes "Out" }); sink = (record { at = 93; text = codes "In" }) }))
      ∷ (a_role (record { name = (record { at = 97; text = codes "SwIn" }); params = ((record { name = (record { at = 99; text = codes "s" }); width = 16 }) ∷ (record { name = (record { at = 106; text = codes "p" }); width = 16 }) ∷ []); guard = (binary 114 and_ (call 114 (record { at = 114; text = codes "g" }) (expr (name 116 (codes "s")) no_exprs)) (binary 119 less (name 119 (codes "p")) (lit 121 16 4))); body = Some (stmt (send 124 (record { at = 125; text = codes "SwOut" }) (expr (name 127 (codes "s")) (expr (lit 129 16 1) no_exprs))) no_stmts) }))
      ∷ (a_role (record { name = (record { at = 134; text = codes "SwOut" }); params = ((record { name = (record { at = 136; text = codes "s" }); width = 16 }) ∷ (record { name = (record { at = 143; text = codes "p" }); width = 16 }) ∷ []); guard = (binary 151 and_ (call 151 (record { at = 151; text = codes "g" }) (expr (name 153 (codes "s")) no_exprs)) (binary 156 less (name 156 (codes "p")) (lit 158 16 4))); body = Some (stmt (send 161 (record { at = 162; text = codes "In" }) (expr (name 164 (codes "p")) no_exprs)) no_stmts) }))
      ∷ (a_switch (record { at = 168; into = (record { at = 170; text = codes "SwIn" }); out = (record { at = 172; text = codes "SwOut" }); ports = 4 }))
      ∷ [];
  refines =
      (record { at = 177; roles = ((record { at = 178; text = codes "SwIn" }) ∷ []); within = 3; decls = ((a_role (record { name = (record { at = 183; text = codes "SwIn" }); params = ((record { name = (record { at = 185; text = codes "s" }); width = 16 }) ∷ (record { name = (record { at = 192; text = codes "p" }); width = 16 }) ∷ []); guard = (binary 200 and_ (call 200 (record { at = 200; text = codes "g" }) (expr (name 202 (codes "s")) no_exprs)) (binary 205 less (name 205 (codes "p")) (lit 207 16 4))); body = Some (stmt (let_ 210 (record { at = 211; text = codes "y" }) 8 (field 218 (record { at = 220; text = codes "e" }) (record { at = 222; text = codes "tag" }))) (stmt (if_ 224 (binary 226 equal (name 226 (codes "y")) (lit 228 8 1)) (stmt (let_ 231 (record { at = 232; text = codes "v" }) 8 (lit 239 8 2)) (stmt (set_field 241 (record { at = 243; text = codes "e" }) (record { at = 245; text = codes "tag" }) (name 247 (codes "y"))) (stmt (set_field 249 (record { at = 251; text = codes "e" }) (record { at = 253; text = codes "tag" }) (binary 255 add (field 255 (record { at = 257; text = codes "e" }) (record { at = 259; text = codes "tag" })) (name 261 (codes "y")))) (stmt (if_ 263 (binary 265 equal (name 265 (codes "s")) (name 267 (codes "p"))) (stmt (send 270 (record { at = 271; text = codes "SwOut" }) (expr (name 273 (codes "s")) (expr (lit 275 16 1) no_exprs))) no_stmts) no_stmts) (stmt (havoc_field 279 (record { at = 282; text = codes "e" }) (record { at = 284; text = codes "low" })) no_stmts))))) (stmt (filter 289 (binary 290 less (name 290 (codes "p")) (name 292 (codes "s")))) (stmt (havoc_var 294 (record { at = 295; text = codes "x" }) 16) (stmt (fork 302 (record { at = 304; text = codes "z" }) 16 (binary 311 less (name 311 (codes "z")) (name 313 (codes "x"))) (stmt (if_ 316 (call 318 (record { at = 318; text = codes "h" }) (expr (name 320 (codes "z")) no_exprs)) (stmt (send 324 (record { at = 325; text = codes "Mid" }) (expr (name 327 (codes "z")) (expr (name 329 (codes "y")) no_exprs))) no_stmts) no_stmts) no_stmts)) no_stmts)))) (stmt (set_field 335 (record { at = 337; text = codes "e" }) (record { at = 339; text = codes "low" }) (name 341 (codes "y"))) (stmt (send 343 (record { at = 344; text = codes "SwOut" }) (expr (name 346 (codes "s")) (expr (lit 348 16 2) no_exprs))) no_stmts)))) })) ∷ (a_role (record { name = (record { at = 353; text = codes "Mid" }); params = ((record { name = (record { at = 355; text = codes "a" }); width = 16 }) ∷ (record { name = (record { at = 362; text = codes "b" }); width = 8 }) ∷ []); guard = (binary 370 or_ (call 370 (record { at = 370; text = codes "h" }) (expr (name 372 (codes "a")) no_exprs)) (binary 375 equal (name 375 (codes "b")) (lit 377 8 0))); body = Some (stmt (if_ 380 (binary 382 equal (name 382 (codes "b")) (lit 384 8 7)) (stmt (send 387 (record { at = 388; text = codes "Mid" }) (expr (name 390 (codes "a")) (expr (field 392 (record { at = 394; text = codes "e" }) (record { at = 396; text = codes "tag" })) no_exprs))) no_stmts) no_stmts) (stmt (assume 400 (binary 401 less (name 401 (codes "b")) (lit 403 8 9))) (stmt (send 405 (record { at = 406; text = codes "In" }) (expr (name 408 (codes "a")) no_exprs)) no_stmts))) })) ∷ []) })
      ∷ [];
}
