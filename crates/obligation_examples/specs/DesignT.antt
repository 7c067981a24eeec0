-- Cited by the clauses of the laws `segments_of_t` and `segments_that_stay_new`: a design of two
-- levels, as a tree, with two switches and a trunk between them.
use Rattle.std.specs.Prelude.{[], ◌∷◌, codes, Some, None, true, false}
use Rattle.cocoon_num.specs.Tree.{name, field, lit, call, unary, binary, no_exprs, expr, if_, filter, send, no_stmts, stmt, of_truth, of_width, a_function, an_assumption, a_role, a_host, a_switch, Refine, Design, literal, a_default, a_row, DefsText}
use Rattle.cocoon_num.specs.Values.{number, truth, less, equal, and_, implies, not_}
use Rattle.cocoon_types.specs.Tables.{Defs, defs_of}

-- packet { header ip { src: bit<32>; dst: bit<32>; } }
-- function cHost(a: bit<32>): bool;
-- function acl(s: bit<32>, d: bit<32>): bool;
-- role HostOut[a: bit<32>] | cHost(a) = {
--   filter pkt.ip.src == a and acl(pkt.ip.src, pkt.ip.dst);
--   send HostIn[pkt.ip.dst];
-- }
-- role HostIn[a: bit<32>] | cHost(a);
-- host (HostOut, HostIn);
-- refine HostOut within 5 {
--   function sw(s: bit<16>): bool;
--   function swOf(a: bit<32>): bit<16>;
--   function portOf(a: bit<32>): bit<16>;
--   function hostAt(s: bit<16>, p: bit<16>): bit<32>;
--   assume (a: bit<32>) cHost(a) => hostAt(swOf(a), portOf(a)) == a;
--   function trunk(s: bit<16>, p: bit<16>): bool;
--   function up(s: bit<16>): bit<16>;
--   function peer(s: bit<16>): bit<16>;
--   assume (a: bit<32>) cHost(a) => not trunk(swOf(a), portOf(a));
--   assume (s: bit<16>) trunk(s, up(s)) => trunk(peer(s), up(peer(s)));
--   role HostOut[a: bit<32>] | cHost(a) = {
--     send SwIn[swOf(a), portOf(a)];
--   }
--   role SwIn[s: bit<16>, p: bit<16>] | sw(s) and p < 16w4 = {
--     if (trunk(s, p)) {
--       filter swOf(pkt.ip.dst) == s;
--     } else {
--       filter pkt.ip.src == hostAt(s, p) and acl(pkt.ip.src, pkt.ip.dst) and cHost(pkt.ip.dst);
--     }
--     if (swOf(pkt.ip.dst) == s) {
--       send SwOut[s, portOf(pkt.ip.dst)];
--     } else {
--       filter trunk(s, up(s));
--       send SwOut[s, up(s)];
--     }
--   }
--   role SwOut[s: bit<16>, p: bit<16>] | sw(s) and p < 16w4 = {
--     if (trunk(s, p)) {
--       send SwIn[peer(s), up(peer(s))];
--     } else {
--       send HostIn[hostAt(s, p)];
--     }
--   }
--   switch (SwIn, SwOut) ports 4;
-- }

-- the block
abbrev pub t_block : Refine
t_block = record {
  at = 129;
  roles = ((record { at = 130; text = codes "HostOut" }) ∷ []);
  within = 5;
  decls =
      (a_function (record { name = (record { at = 135; text = codes "sw" }); params = ((record { name = (record { at = 137; text = codes "s" }); width = 16 }) ∷ []); result = of_truth; body = None }))
      ∷ (a_function (record { name = (record { at = 148; text = codes "swOf" }); params = ((record { name = (record { at = 150; text = codes "a" }); width = 32 }) ∷ []); result = of_width 16; body = None }))
      ∷ (a_function (record { name = (record { at = 164; text = codes "portOf" }); params = ((record { name = (record { at = 166; text = codes "a" }); width = 32 }) ∷ []); result = of_width 16; body = None }))
      ∷ (a_function (record { name = (record { at = 180; text = codes "hostAt" }); params = ((record { name = (record { at = 182; text = codes "s" }); width = 16 }) ∷ (record { name = (record { at = 189; text = codes "p" }); width = 16 }) ∷ []); result = of_width 32; body = None }))
      ∷ (an_assumption (record { at = 202; params = ((record { name = (record { at = 204; text = codes "a" }); width = 32 }) ∷ []); body = (binary 211 implies (call 211 (record { at = 211; text = codes "cHost" }) (expr (name 213 (codes "a")) no_exprs)) (binary 216 equal (call 216 (record { at = 216; text = codes "hostAt" }) (expr (call 218 (record { at = 218; text = codes "swOf" }) (expr (name 220 (codes "a")) no_exprs)) (expr (call 223 (record { at = 223; text = codes "portOf" }) (expr (name 225 (codes "a")) no_exprs)) no_exprs))) (name 229 (codes "a")))) }))
      ∷ (a_function (record { name = (record { at = 232; text = codes "trunk" }); params = ((record { name = (record { at = 234; text = codes "s" }); width = 16 }) ∷ (record { name = (record { at = 241; text = codes "p" }); width = 16 }) ∷ []); result = of_truth; body = None }))
      ∷ (a_function (record { name = (record { at = 252; text = codes "up" }); params = ((record { name = (record { at = 254; text = codes "s" }); width = 16 }) ∷ []); result = of_width 16; body = None }))
      ∷ (a_function (record { name = (record { at = 268; text = codes "peer" }); params = ((record { name = (record { at = 270; text = codes "s" }); width = 16 }) ∷ []); result = of_width 16; body = None }))
      ∷ (an_assumption (record { at = 283; params = ((record { name = (record { at = 285; text = codes "a" }); width = 32 }) ∷ []); body = (binary 292 implies (call 292 (record { at = 292; text = codes "cHost" }) (expr (name 294 (codes "a")) no_exprs)) (unary 297 not_ (call 298 (record { at = 298; text = codes "trunk" }) (expr (call 300 (record { at = 300; text = codes "swOf" }) (expr (name 302 (codes "a")) no_exprs)) (expr (call 305 (record { at = 305; text = codes "portOf" }) (expr (name 307 (codes "a")) no_exprs)) no_exprs))))) }))
      ∷ (an_assumption (record { at = 311; params = ((record { name = (record { at = 313; text = codes "s" }); width = 16 }) ∷ []); body = (binary 320 implies (call 320 (record { at = 320; text = codes "trunk" }) (expr (name 322 (codes "s")) (expr (call 324 (record { at = 324; text = codes "up" }) (expr (name 326 (codes "s")) no_exprs)) no_exprs))) (call 330 (record { at = 330; text = codes "trunk" }) (expr (call 332 (record { at = 332; text = codes "peer" }) (expr (name 334 (codes "s")) no_exprs)) (expr (call 337 (record { at = 337; text = codes "up" }) (expr (call 339 (record { at = 339; text = codes "peer" }) (expr (name 341 (codes "s")) no_exprs)) no_exprs)) no_exprs)))) }))
      ∷ (a_role (record { name = (record { at = 347; text = codes "HostOut" }); params = ((record { name = (record { at = 349; text = codes "a" }); width = 32 }) ∷ []); guard = (call 357 (record { at = 357; text = codes "cHost" }) (expr (name 359 (codes "a")) no_exprs)); body = (Some (stmt (send 363 (record { at = 364; text = codes "SwIn" }) (expr (call 366 (record { at = 366; text = codes "swOf" }) (expr (name 368 (codes "a")) no_exprs)) (expr (call 371 (record { at = 371; text = codes "portOf" }) (expr (name 373 (codes "a")) no_exprs)) no_exprs))) no_stmts)) }))
      ∷ (a_role (record { name = (record { at = 379; text = codes "SwIn" }); params = ((record { name = (record { at = 381; text = codes "s" }); width = 16 }) ∷ (record { name = (record { at = 388; text = codes "p" }); width = 16 }) ∷ []); guard = (binary 396 and_ (call 396 (record { at = 396; text = codes "sw" }) (expr (name 398 (codes "s")) no_exprs)) (binary 401 less (name 401 (codes "p")) (lit 403 16 4))); body = (Some (stmt (if_ 406 (call 408 (record { at = 408; text = codes "trunk" }) (expr (name 410 (codes "s")) (expr (name 412 (codes "p")) no_exprs))) (stmt (filter 416 (binary 417 equal (call 417 (record { at = 417; text = codes "swOf" }) (expr (field 419 (record { at = 421; text = codes "ip" }) (record { at = 423; text = codes "dst" })) no_exprs)) (name 426 (codes "s")))) no_stmts) (stmt (filter 431 (binary 432 and_ (binary 432 and_ (binary 432 equal (field 432 (record { at = 434; text = codes "ip" }) (record { at = 436; text = codes "src" })) (call 438 (record { at = 438; text = codes "hostAt" }) (expr (name 440 (codes "s")) (expr (name 442 (codes "p")) no_exprs)))) (call 445 (record { at = 445; text = codes "acl" }) (expr (field 447 (record { at = 449; text = codes "ip" }) (record { at = 451; text = codes "src" })) (expr (field 453 (record { at = 455; text = codes "ip" }) (record { at = 457; text = codes "dst" })) no_exprs)))) (call 460 (record { at = 460; text = codes "cHost" }) (expr (field 462 (record { at = 464; text = codes "ip" }) (record { at = 466; text = codes "dst" })) no_exprs)))) no_stmts)) (stmt (if_ 470 (binary 472 equal (call 472 (record { at = 472; text = codes "swOf" }) (expr (field 474 (record { at = 476; text = codes "ip" }) (record { at = 478; text = codes "dst" })) no_exprs)) (name 481 (codes "s"))) (stmt (send 484 (record { at = 485; text = codes "SwOut" }) (expr (name 487 (codes "s")) (expr (call 489 (record { at = 489; text = codes "portOf" }) (expr (field 491 (record { at = 493; text = codes "ip" }) (record { at = 495; text = codes "dst" })) no_exprs)) no_exprs))) no_stmts) (stmt (filter 502 (call 503 (record { at = 503; text = codes "trunk" }) (expr (name 505 (codes "s")) (expr (call 507 (record { at = 507; text = codes "up" }) (expr (name 509 (codes "s")) no_exprs)) no_exprs)))) (stmt (send 513 (record { at = 514; text = codes "SwOut" }) (expr (name 516 (codes "s")) (expr (call 518 (record { at = 518; text = codes "up" }) (expr (name 520 (codes "s")) no_exprs)) no_exprs))) no_stmts))) no_stmts))) }))
      ∷ (a_role (record { name = (record { at = 527; text = codes "SwOut" }); params = ((record { name = (record { at = 529; text = codes "s" }); width = 16 }) ∷ (record { name = (record { at = 536; text = codes "p" }); width = 16 }) ∷ []); guard = (binary 544 and_ (call 544 (record { at = 544; text = codes "sw" }) (expr (name 546 (codes "s")) no_exprs)) (binary 549 less (name 549 (codes "p")) (lit 551 16 4))); body = (Some (stmt (if_ 554 (call 556 (record { at = 556; text = codes "trunk" }) (expr (name 558 (codes "s")) (expr (name 560 (codes "p")) no_exprs))) (stmt (send 564 (record { at = 565; text = codes "SwIn" }) (expr (call 567 (record { at = 567; text = codes "peer" }) (expr (name 569 (codes "s")) no_exprs)) (expr (call 572 (record { at = 572; text = codes "up" }) (expr (call 574 (record { at = 574; text = codes "peer" }) (expr (name 576 (codes "s")) no_exprs)) no_exprs)) no_exprs))) no_stmts) (stmt (send 584 (record { at = 585; text = codes "HostIn" }) (expr (call 587 (record { at = 587; text = codes "hostAt" }) (expr (name 589 (codes "s")) (expr (name 591 (codes "p")) no_exprs))) no_exprs)) no_stmts)) no_stmts)) }))
      ∷ (a_switch (record { at = 597; into = (record { at = 599; text = codes "SwIn" }); out = (record { at = 601; text = codes "SwOut" }); ports = 4 }))
      ∷ [];
}

abbrev pub t_design : Design
t_design = record {
  headers = ((record { name = (record { at = 3; text = codes "ip" }); fields = ((record { name = (record { at = 5; text = codes "src" }); width = 32 }) ∷ (record { name = (record { at = 12; text = codes "dst" }); width = 32 }) ∷ []) }) ∷ []);
  decls =
      (a_function (record { name = (record { at = 22; text = codes "cHost" }); params = ((record { name = (record { at = 24; text = codes "a" }); width = 32 }) ∷ []); result = of_truth; body = None }))
      ∷ (a_function (record { name = (record { at = 35; text = codes "acl" }); params = ((record { name = (record { at = 37; text = codes "s" }); width = 32 }) ∷ (record { name = (record { at = 44; text = codes "d" }); width = 32 }) ∷ []); result = of_truth; body = None }))
      ∷ (a_role (record { name = (record { at = 55; text = codes "HostOut" }); params = ((record { name = (record { at = 57; text = codes "a" }); width = 32 }) ∷ []); guard = (call 65 (record { at = 65; text = codes "cHost" }) (expr (name 67 (codes "a")) no_exprs)); body = (Some (stmt (filter 71 (binary 72 and_ (binary 72 equal (field 72 (record { at = 74; text = codes "ip" }) (record { at = 76; text = codes "src" })) (name 78 (codes "a"))) (call 80 (record { at = 80; text = codes "acl" }) (expr (field 82 (record { at = 84; text = codes "ip" }) (record { at = 86; text = codes "src" })) (expr (field 88 (record { at = 90; text = codes "ip" }) (record { at = 92; text = codes "dst" })) no_exprs))))) (stmt (send 95 (record { at = 96; text = codes "HostIn" }) (expr (field 98 (record { at = 100; text = codes "ip" }) (record { at = 102; text = codes "dst" })) no_exprs)) no_stmts))) }))
      ∷ (a_role (record { name = (record { at = 107; text = codes "HostIn" }); params = ((record { name = (record { at = 109; text = codes "a" }); width = 32 }) ∷ []); guard = (call 117 (record { at = 117; text = codes "cHost" }) (expr (name 119 (codes "a")) no_exprs)); body = None }))
      ∷ (a_host (record { at = 122; entry = (record { at = 124; text = codes "HostOut" }); sink = (record { at = 126; text = codes "HostIn" }) }))
      ∷ [];
  refines = (t_block ∷ []);
}

-- two switches, each with a host at port 0 and the trunk at port 3
abbrev pub t_text : DefsText
t_text =
    (a_default (record { at = 1; text = codes "cHost" }) (truth false))
    ∷ (a_row (record { at = 6; text = codes "cHost" }) ((literal 32 167772161) ∷ []) (truth true))
    ∷ (a_row (record { at = 14; text = codes "cHost" }) ((literal 32 167772162) ∷ []) (truth true))
    ∷ (a_default (record { at = 22; text = codes "acl" }) (truth false))
    ∷ (a_row (record { at = 27; text = codes "acl" }) ((literal 32 167772161) ∷ (literal 32 167772162) ∷ []) (truth true))
    ∷ (a_default (record { at = 37; text = codes "sw" }) (truth false))
    ∷ (a_row (record { at = 42; text = codes "sw" }) ((literal 16 1) ∷ []) (truth true))
    ∷ (a_row (record { at = 50; text = codes "sw" }) ((literal 16 2) ∷ []) (truth true))
    ∷ (a_default (record { at = 58; text = codes "swOf" }) (number 16 0))
    ∷ (a_row (record { at = 63; text = codes "swOf" }) ((literal 32 167772161) ∷ []) (number 16 1))
    ∷ (a_row (record { at = 71; text = codes "swOf" }) ((literal 32 167772162) ∷ []) (number 16 2))
    ∷ (a_default (record { at = 79; text = codes "portOf" }) (number 16 0))
    ∷ (a_default (record { at = 84; text = codes "hostAt" }) (number 32 0))
    ∷ (a_row (record { at = 89; text = codes "hostAt" }) ((literal 16 1) ∷ (literal 16 0) ∷ []) (number 32 167772161))
    ∷ (a_row (record { at = 99; text = codes "hostAt" }) ((literal 16 2) ∷ (literal 16 0) ∷ []) (number 32 167772162))
    ∷ (a_default (record { at = 109; text = codes "trunk" }) (truth false))
    ∷ (a_row (record { at = 114; text = codes "trunk" }) ((literal 16 1) ∷ (literal 16 3) ∷ []) (truth true))
    ∷ (a_row (record { at = 124; text = codes "trunk" }) ((literal 16 2) ∷ (literal 16 3) ∷ []) (truth true))
    ∷ (a_default (record { at = 134; text = codes "up" }) (number 16 3))
    ∷ (a_default (record { at = 139; text = codes "peer" }) (number 16 0))
    ∷ (a_row (record { at = 144; text = codes "peer" }) ((literal 16 1) ∷ []) (number 16 2))
    ∷ (a_row (record { at = 152; text = codes "peer" }) ((literal 16 2) ∷ []) (number 16 1))
    ∷ []

-- what they define
abbrev pub t_defs : Defs
t_defs = defs_of t_design t_text

-- the same, and port 0 of the second switch is taken for a trunk
abbrev pub t_loop_text : DefsText
t_loop_text =
    (a_default (record { at = 1; text = codes "cHost" }) (truth false))
    ∷ (a_row (record { at = 6; text = codes "cHost" }) ((literal 32 167772161) ∷ []) (truth true))
    ∷ (a_row (record { at = 14; text = codes "cHost" }) ((literal 32 167772162) ∷ []) (truth true))
    ∷ (a_default (record { at = 22; text = codes "acl" }) (truth false))
    ∷ (a_row (record { at = 27; text = codes "acl" }) ((literal 32 167772161) ∷ (literal 32 167772162) ∷ []) (truth true))
    ∷ (a_default (record { at = 37; text = codes "sw" }) (truth false))
    ∷ (a_row (record { at = 42; text = codes "sw" }) ((literal 16 1) ∷ []) (truth true))
    ∷ (a_row (record { at = 50; text = codes "sw" }) ((literal 16 2) ∷ []) (truth true))
    ∷ (a_default (record { at = 58; text = codes "swOf" }) (number 16 0))
    ∷ (a_row (record { at = 63; text = codes "swOf" }) ((literal 32 167772161) ∷ []) (number 16 1))
    ∷ (a_row (record { at = 71; text = codes "swOf" }) ((literal 32 167772162) ∷ []) (number 16 2))
    ∷ (a_default (record { at = 79; text = codes "portOf" }) (number 16 0))
    ∷ (a_default (record { at = 84; text = codes "hostAt" }) (number 32 0))
    ∷ (a_row (record { at = 89; text = codes "hostAt" }) ((literal 16 1) ∷ (literal 16 0) ∷ []) (number 32 167772161))
    ∷ (a_row (record { at = 99; text = codes "hostAt" }) ((literal 16 2) ∷ (literal 16 0) ∷ []) (number 32 167772162))
    ∷ (a_default (record { at = 109; text = codes "trunk" }) (truth false))
    ∷ (a_row (record { at = 114; text = codes "trunk" }) ((literal 16 1) ∷ (literal 16 3) ∷ []) (truth true))
    ∷ (a_row (record { at = 124; text = codes "trunk" }) ((literal 16 2) ∷ (literal 16 3) ∷ []) (truth true))
    ∷ (a_row (record { at = 134; text = codes "trunk" }) ((literal 16 2) ∷ (literal 16 0) ∷ []) (truth true))
    ∷ (a_default (record { at = 144; text = codes "up" }) (number 16 3))
    ∷ (a_default (record { at = 149; text = codes "peer" }) (number 16 0))
    ∷ (a_row (record { at = 154; text = codes "peer" }) ((literal 16 1) ∷ []) (number 16 2))
    ∷ (a_row (record { at = 162; text = codes "peer" }) ((literal 16 2) ∷ []) (number 16 1))
    ∷ []

-- what they define
abbrev pub t_loop_defs : Defs
t_loop_defs = defs_of t_design t_loop_text
