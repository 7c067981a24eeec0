-- Cited by the clauses of the law `segments_of_m`: a design of two levels, as a tree, with one
-- switch. The tree is that of examples/m.ccn.
use Rattle.std.specs.Prelude.{[], ◌∷◌, codes, Some, None, true, false}
use Rattle.cocoon_num.specs.Tree.{name, field, lit, call, binary, no_exprs, expr, filter, send, no_stmts, stmt, of_truth, of_width, a_function, an_assumption, a_role, a_host, a_switch, Refine, Design, literal, a_default, a_row, DefsText}
use Rattle.cocoon_num.specs.Values.{number, truth, less, equal, and_, implies}
use Rattle.cocoon_types.specs.Tables.{Defs, defs_of}

-- packet { header ip { src: bit<32>; dst: bit<32>; } }
-- function cHost(a: bit<32>): bool;
-- function acl(s: bit<32>, d: bit<32>): bool;
-- role HostOut[a: bit<32>] | cHost(a) = {
--   filter pkt.ip.src == a and acl(pkt.ip.src, pkt.ip.dst);
--   send HostIn[pkt.ip.dst];
-- }
-- role HostIn[a: bit<32>] | cHost(a);
-- host (HostOut, HostIn);
-- refine HostOut within 3 {
--   function sw(s: bit<16>): bool;
--   function swOf(a: bit<32>): bit<16>;
--   function portOf(a: bit<32>): bit<16>;
--   function hostAt(s: bit<16>, p: bit<16>): bit<32>;
--   assume (a: bit<32>) cHost(a) => hostAt(swOf(a), portOf(a)) == a;
--   role HostOut[a: bit<32>] | cHost(a) = {
--     send SwIn[swOf(a), portOf(a)];
--   }
--   role SwIn[s: bit<16>, p: bit<16>] | sw(s) and p < 16w4 = {
--     filter pkt.ip.src == hostAt(s, p);
--     filter acl(pkt.ip.src, pkt.ip.dst);
--     filter cHost(pkt.ip.dst) and swOf(pkt.ip.dst) == s;
--     send SwOut[s, portOf(pkt.ip.dst)];
--   }
--   role SwOut[s: bit<16>, p: bit<16>] | sw(s) and p < 16w4 = {
--     send HostIn[hostAt(s, p)];
--   }
--   switch (SwIn, SwOut) ports 4;
-- }

-- the block
abbrev pub m_block : Refine
m_block = record {
  at = 129;
  roles = ((record { at = 130; text = codes "HostOut" }) ∷ []);
  within = 3;
  decls =
      (a_function (record { name = (record { at = 135; text = codes "sw" }); params = ((record { name = (record { at = 137; text = codes "s" }); width = 16 }) ∷ []); result = of_truth; body = None }))
      ∷ (a_function (record { name = (record { at = 148; text = codes "swOf" }); params = ((record { name = (record { at = 150; text = codes "a" }); width = 32 }) ∷ []); result = of_width 16; body = None }))
      ∷ (a_function (record { name = (record { at = 164; text = codes "portOf" }); params = ((record { name = (record { at = 166; text = codes "a" }); width = 32 }) ∷ []); result = of_width 16; body = None }))
      ∷ (a_function (record { name = (record { at = 180; text = codes "hostAt" }); params = ((record { name = (record { at = 182; text = codes "s" }); width = 16 }) ∷ (record { name = (record { at = 189; text = codes "p" }); width = 16 }) ∷ []); result = of_width 32; body = None }))
      ∷ (an_assumption (record { at = 202; params = ((record { name = (record { at = 204; text = codes "a" }); width = 32 }) ∷ []); body = (binary 211 implies (call 211 (record { at = 211; text = codes "cHost" }) (expr (name 213 (codes "a")) no_exprs)) (binary 216 equal (call 216 (record { at = 216; text = codes "hostAt" }) (expr (call 218 (record { at = 218; text = codes "swOf" }) (expr (name 220 (codes "a")) no_exprs)) (expr (call 223 (record { at = 223; text = codes "portOf" }) (expr (name 225 (codes "a")) no_exprs)) no_exprs))) (name 229 (codes "a")))) }))
      ∷ (a_role (record { name = (record { at = 232; text = codes "HostOut" }); params = ((record { name = (record { at = 234; text = codes "a" }); width = 32 }) ∷ []); guard = (call 242 (record { at = 242; text = codes "cHost" }) (expr (name 244 (codes "a")) no_exprs)); body = (Some (stmt (send 248 (record { at = 249; text = codes "SwIn" }) (expr (call 251 (record { at = 251; text = codes "swOf" }) (expr (name 253 (codes "a")) no_exprs)) (expr (call 256 (record { at = 256; text = codes "portOf" }) (expr (name 258 (codes "a")) no_exprs)) no_exprs))) no_stmts)) }))
      ∷ (a_role (record { name = (record { at = 264; text = codes "SwIn" }); params = ((record { name = (record { at = 266; text = codes "s" }); width = 16 }) ∷ (record { name = (record { at = 273; text = codes "p" }); width = 16 }) ∷ []); guard = (binary 281 and_ (call 281 (record { at = 281; text = codes "sw" }) (expr (name 283 (codes "s")) no_exprs)) (binary 286 less (name 286 (codes "p")) (lit 288 16 4))); body = (Some (stmt (filter 291 (binary 292 equal (field 292 (record { at = 294; text = codes "ip" }) (record { at = 296; text = codes "src" })) (call 298 (record { at = 298; text = codes "hostAt" }) (expr (name 300 (codes "s")) (expr (name 302 (codes "p")) no_exprs))))) (stmt (filter 305 (call 306 (record { at = 306; text = codes "acl" }) (expr (field 308 (record { at = 310; text = codes "ip" }) (record { at = 312; text = codes "src" })) (expr (field 314 (record { at = 316; text = codes "ip" }) (record { at = 318; text = codes "dst" })) no_exprs)))) (stmt (filter 321 (binary 322 and_ (call 322 (record { at = 322; text = codes "cHost" }) (expr (field 324 (record { at = 326; text = codes "ip" }) (record { at = 328; text = codes "dst" })) no_exprs)) (binary 331 equal (call 331 (record { at = 331; text = codes "swOf" }) (expr (field 333 (record { at = 335; text = codes "ip" }) (record { at = 337; text = codes "dst" })) no_exprs)) (name 340 (codes "s"))))) (stmt (send 342 (record { at = 343; text = codes "SwOut" }) (expr (name 345 (codes "s")) (expr (call 347 (record { at = 347; text = codes "portOf" }) (expr (field 349 (record { at = 351; text = codes "ip" }) (record { at = 353; text = codes "dst" })) no_exprs)) no_exprs))) no_stmts))))) }))
      ∷ (a_role (record { name = (record { at = 359; text = codes "SwOut" }); params = ((record { name = (record { at = 361; text = codes "s" }); width = 16 }) ∷ (record { name = (record { at = 368; text = codes "p" }); width = 16 }) ∷ []); guard = (binary 376 and_ (call 376 (record { at = 376; text = codes "sw" }) (expr (name 378 (codes "s")) no_exprs)) (binary 381 less (name 381 (codes "p")) (lit 383 16 4))); body = (Some (stmt (send 386 (record { at = 387; text = codes "HostIn" }) (expr (call 389 (record { at = 389; text = codes "hostAt" }) (expr (name 391 (codes "s")) (expr (name 393 (codes "p")) no_exprs))) no_exprs)) no_stmts)) }))
      ∷ (a_switch (record { at = 398; into = (record { at = 400; text = codes "SwIn" }); out = (record { at = 402; text = codes "SwOut" }); ports = 4 }))
      ∷ [];
}

abbrev pub m_design : Design
m_design = record {
  headers = ((record { name = (record { at = 3; text = codes "ip" }); fields = ((record { name = (record { at = 5; text = codes "src" }); width = 32 }) ∷ (record { name = (record { at = 12; text = codes "dst" }); width = 32 }) ∷ []) }) ∷ []);
  decls =
      (a_function (record { name = (record { at = 22; text = codes "cHost" }); params = ((record { name = (record { at = 24; text = codes "a" }); width = 32 }) ∷ []); result = of_truth; body = None }))
      ∷ (a_function (record { name = (record { at = 35; text = codes "acl" }); params = ((record { name = (record { at = 37; text = codes "s" }); width = 32 }) ∷ (record { name = (record { at = 44; text = codes "d" }); width = 32 }) ∷ []); result = of_truth; body = None }))
      ∷ (a_role (record { name = (record { at = 55; text = codes "HostOut" }); params = ((record { name = (record { at = 57; text = codes "a" }); width = 32 }) ∷ []); guard = (call 65 (record { at = 65; text = codes "cHost" }) (expr (name 67 (codes "a")) no_exprs)); body = (Some (stmt (filter 71 (binary 72 and_ (binary 72 equal (field 72 (record { at = 74; text = codes "ip" }) (record { at = 76; text = codes "src" })) (name 78 (codes "a"))) (call 80 (record { at = 80; text = codes "acl" }) (expr (field 82 (record { at = 84; text = codes "ip" }) (record { at = 86; text = codes "src" })) (expr (field 88 (record { at = 90; text = codes "ip" }) (record { at = 92; text = codes "dst" })) no_exprs))))) (stmt (send 95 (record { at = 96; text = codes "HostIn" }) (expr (field 98 (record { at = 100; text = codes "ip" }) (record { at = 102; text = codes "dst" })) no_exprs)) no_stmts))) }))
      ∷ (a_role (record { name = (record { at = 107; text = codes "HostIn" }); params = ((record { name = (record { at = 109; text = codes "a" }); width = 32 }) ∷ []); guard = (call 117 (record { at = 117; text = codes "cHost" }) (expr (name 119 (codes "a")) no_exprs)); body = None }))
      ∷ (a_host (record { at = 122; entry = (record { at = 124; text = codes "HostOut" }); sink = (record { at = 126; text = codes "HostIn" }) }))
      ∷ [];
  refines = (m_block ∷ []);
}

-- the definitions of examples/m.defs
abbrev pub m_text : DefsText
m_text =
    (a_default (record { at = 1; text = codes "cHost" }) (truth false))
    ∷ (a_row (record { at = 6; text = codes "cHost" }) ((literal 32 167772161) ∷ []) (truth true))
    ∷ (a_row (record { at = 14; text = codes "cHost" }) ((literal 32 167772162) ∷ []) (truth true))
    ∷ (a_default (record { at = 22; text = codes "acl" }) (truth false))
    ∷ (a_row (record { at = 27; text = codes "acl" }) ((literal 32 167772161) ∷ (literal 32 167772162) ∷ []) (truth true))
    ∷ (a_default (record { at = 37; text = codes "sw" }) (truth false))
    ∷ (a_row (record { at = 42; text = codes "sw" }) ((literal 16 1) ∷ []) (truth true))
    ∷ (a_default (record { at = 50; text = codes "swOf" }) (number 16 0))
    ∷ (a_row (record { at = 55; text = codes "swOf" }) ((literal 32 167772161) ∷ []) (number 16 1))
    ∷ (a_row (record { at = 63; text = codes "swOf" }) ((literal 32 167772162) ∷ []) (number 16 1))
    ∷ (a_default (record { at = 71; text = codes "portOf" }) (number 16 0))
    ∷ (a_row (record { at = 76; text = codes "portOf" }) ((literal 32 167772162) ∷ []) (number 16 1))
    ∷ (a_default (record { at = 84; text = codes "hostAt" }) (number 32 0))
    ∷ (a_row (record { at = 89; text = codes "hostAt" }) ((literal 16 1) ∷ (literal 16 0) ∷ []) (number 32 167772161))
    ∷ (a_row (record { at = 99; text = codes "hostAt" }) ((literal 16 1) ∷ (literal 16 1) ∷ []) (number 32 167772162))
    ∷ []

-- what they define
abbrev pub m_defs : Defs
m_defs = defs_of m_design m_text
